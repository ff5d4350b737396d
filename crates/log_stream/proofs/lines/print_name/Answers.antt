use Rattle.log_stream.proofs.Vocabulary.{sym, append-nil}
use Rattle.log_stream.proofs.TextFronts.{name_past}
use Rattle.log_stream.proofs.lines.print_name.Goals as goal

pub returns-in-None-clause-ok : goal.returns-in-None-clause-ok
returns-in-None-clause-ok c =
    rw (name_past c.args.signature.now c.args.name.0 c.in-None.ensures) (sym (append-nil c.args.out.now.items))
