use Rattle.rank_check.proofs.Vocabulary.{◌∙◌, ap, List, map, sym, Plan, plan_of, horizon_of, rank_in, HasEdge, Edge}
use Rattle.rank_check.proofs.CheckLemmas.{cycle_back, first_there, rank_there}
use Rattle.rank_check.proofs.plan_check.check.Goals as goal

pub returns-in-Some-2-clause-refused : goal.returns-in-Some-2-clause-refused
returns-in-Some-2-clause-refused c = (
  rw c.in-Ok.is at c.in_ok-roles.ensures.clear,
  c.in_default.ensures.none,
  first_there (HasEdge c.in_ok-edges.edges) (Edge (map plan_of c.args.plans.now)) c.in_ok-edges.ensures.edges c.in-Some-2.name (rw c.in-Some-2.is at c.in_ok-name.ensures.found),
)

pub returns-clause-accepted : goal.returns-clause-accepted
returns-clause-accepted c =
    let none = rw c.in_default-2.is at c.in_ok-name.ensures.none in
    record {
      roles = rw c.in-Ok.is at c.in_ok-roles.ensures.clear;
      triggered = c.in_default.ensures.none;
      acyclic = λ name cycle. none name (cycle_back (HasEdge c.in_ok-edges.edges) (Edge (map plan_of c.args.plans.now)) c.in_ok-edges.ensures.edges name cycle);
    }

pub returns-clause-ranked : goal.returns-clause-ranked
returns-clause-ranked c =
    let plans : List Plan = map plan_of c.args.plans.now in
    let roles = rw c.in-Ok.is at c.in_ok-roles.ensures.roles in
    record {
      ranks = λ name. rw c.of.ensures.ranks (rank_there (HasEdge c.in_ok-edges.edges) (Edge plans) c.in_ok-edges.ensures.edges name (rank_in c.in_ok-ranks.ranks.items name)
          (c.in_ok-ranks.ensures.ranks name));
      roles = λ name. rw c.of.ensures.roles (roles name);
      horizon = c.of.ensures.horizon ∙ ap (λ ranks. horizon_of ranks plans) (sym c.of.ensures.ranks);
      transparent = c.of.ensures.transparent;
    }
