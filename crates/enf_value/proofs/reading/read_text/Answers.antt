use Rattle.enf_value.proofs.Vocabulary.{subst, sym, WrittenTextAt}
use Rattle.enf_value.proofs.TextTokens.{slice_from, written_from_token}
use Rattle.enf_value.proofs.reading.read_text.Goals as goal

pub returns-in_default-2-clause-none : goal.returns-in_default-2-clause-none
returns-in_default-2-clause-none c = λ text end t.
    let w = written_from_token c.args.bytes.now text end t in
    let none = rw c.in_default-2.is at c.in_ok-written.ensures.none in
    none text w.0 (subst (λ l. WrittenTextAt l w.0 text) (sym (slice_from c.args.bytes.now 1)) w.1)
