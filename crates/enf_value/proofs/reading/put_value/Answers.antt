use Rattle.enf_value.proofs.Vocabulary.{length, sym, subst, ValueTokenAt}
use Rattle.enf_value.proofs.TextTokens.{slice_from, token_at_front}
use Rattle.enf_value.proofs.reading.put_value.Goals as goal

pub returns-in_default-clause-none : goal.returns-in_default-clause-none
returns-in_default-clause-none c = λ value end t.
    let none = rw c.in_default.is at c.in_ok-length.ensures.none in
    none value (length t.token) (subst (λ l. ValueTokenAt l 0 (length t.token) value) (sym (slice_from c.args.bytes.now c.args.at)) (token_at_front c.args.bytes.now c.args.at end value t))
