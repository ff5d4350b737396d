use Rattle.rank_check.proofs.Vocabulary.{◌≡◌, [], map, take, plan_of, AddsEdges}
use Rattle.rank_check.proofs.CauseLemmas.{CausedIn}
use Rattle.rank_check.proofs.causes.edges_of.Given as goal

abbrev pub invariant-loop-plan : goal.invariant-loop-plan
invariant-loop-plan l = record {
  nothing_met : l.met.items ≡ [];
  caused : AddsEdges (CausedIn (take l.plan-index (map plan_of l.plans))) l.initial.edges l.edges;
}
