use Rattle.enforce_types.proofs.PlanSortLemmas.{made_keeps, policy_keeps}
use Rattle.enforce_types.proofs.laws.plans_keep_sorts.Goals as goal

pub returns : goal.returns
returns c = record {
  made = λ entries sorts causable suppressible f plan closed fresh fit made. made_keeps entries sorts causable suppressible f plan closed fresh fit made;
  policy = λ entries rules plans guards formed sorted are. policy_keeps entries rules plans guards formed sorted are;
}
