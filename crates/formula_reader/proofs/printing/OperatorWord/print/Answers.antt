use Rattle.formula_reader.proofs.Vocabulary.{part_last, interval_text}
use Rattle.formula_reader.proofs.printing.OperatorWord.print.Goals as goal

pub returns-in-Some-clause-err : goal.returns-in-Some-clause-err
returns-in-Some-clause-err c =
    rw c.in-Some.is
    (part_last c.print_interval.result c.args.self.now.word.now (interval_text c.in-Some.interval.now)
    c.args.out.now.items c.print_bytes.new.out.items c.print_interval.new.out.items c.in_ok-print_bytes.ensures.ok c.print_interval.ensures.err)
