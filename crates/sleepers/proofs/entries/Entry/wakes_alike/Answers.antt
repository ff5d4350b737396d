use Rattle.sleepers.proofs.Vocabulary.{◌≡◌, Some, inr, ap, sym, ◌∙◌}
use Rattle.sleepers.proofs.KeyLemmas.{patterns_eq}
use Rattle.sleepers.proofs.entries.Entry.wakes_alike.Goals as goal

pub returns-then-self-other : goal.returns-then-self-other
returns-then-self-other g c = λ same.
    let one : c.in-Some-Some.patterns ≡ c.in-Some-Some.others = patterns_eq c.in-Some-Some.patterns c.in-Some-Some.others (sym c.eq.ensures ∙ same) in
    record { patterns = c.in-Some-Some.is-0 ∙ ap Some one ∙ sym c.in-Some-Some.is-1; end = inr c.if-self-other.true }
