use Rattle.enforce_types.proofs.PolicyLemmas.{keeps_meaning, in_order, guard_places, guards_safe}
use Rattle.enforce_types.proofs.laws.policy_plans_keep_meaning.Goals as goal

pub returns : goal.returns
returns c = record {
  meaning = keeps_meaning c.is_classical.ensures;
  numbered = λ entries policy plans guards are. (in_order entries policy plans guards are, guard_places entries policy plans guards are);
  safe = guards_safe;
}
