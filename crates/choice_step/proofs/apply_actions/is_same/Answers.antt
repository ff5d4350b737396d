use Rattle.choice_step.proofs.Vocabulary.{ℕ, ap, eqb-true}
use Rattle.choice_step.proofs.apply_actions.is_same.Goals as goal

pub returns : goal.returns
returns c same = ap (λ (n : ℕ). record { 0 = n }) (eqb-true c.args.one.0 c.args.other.0 same)
