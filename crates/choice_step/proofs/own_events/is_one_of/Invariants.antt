use Rattle.choice_step.proofs.Vocabulary.{◌≡◌, All, take, NameId}
use Rattle.choice_step.proofs.own_events.is_one_of.Given as goal

abbrev pub invariant-loop-other : goal.invariant-loop-other
invariant-loop-other l = All (λ (other : NameId). other ≡ l.name → ⊥) (take l.other-index l.names)
