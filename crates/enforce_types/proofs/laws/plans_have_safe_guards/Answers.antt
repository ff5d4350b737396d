use Rattle.enforce_types.proofs.Vocabulary.{None, Contains, safe_past}
use Rattle.enforce_types.proofs.SafeGuards.{safe_guards}
use Rattle.enforce_types.proofs.laws.plans_have_safe_guards.Goals as goal

pub returns : goal.returns
returns c = record { safe = safe_guards; past = λ f bound safe. safe_past None f (Contains bound) safe }
