-- Roots that are asked by some of the events of a step.
use Rattle.choice_step.proofs.Vocabulary.{◌≡◌, ◌<◌, ℕ, List, Some, get_or, inl, inr, length, map, plan_at, plan_of, slice_get, subst, ⊎_elim}
use Rattle.choice_step.proofs.Vocabulary.{AreLiteralsBehind, Event, Instance, IsKnownBehind, IsReachedBy-wider, Literal, NameId, Past, Plan, Situation, Value, situation_plans}
use Rattle.plan_terms.specs.declared.plans.Plan.{Plan as Stored}
use Rattle.choice_step.specs.declared.first_missing.Next.{Next}
use Rattle.choice_step.specs.declared.first_missing.Next.TheVariants as next
use Rattle.choice_step.specs.machine.StillToAsk.{AreWanted, IsAskedAlone, IsMissedAtRoot, IsNextFor, IsNextOf, RootIsMet}
use Rattle.choice_step.proofs.ActedEventLaws.{IsAmongAll}

-- the plan that is asked
pub read_plan : (plans : List Stored) (rule : ℕ) (plan : Stored) → rule < length plans → plan ≡ get_or plans rule plan
    → slice_get (map plan_of plans) rule ≡ Some (plan_of (get_or plans rule plan))
read_plan plans rule plan within is = subst (λ p. slice_get (map plan_of plans) rule ≡ Some (plan_of p)) is (plan_at plans rule plan within is)

-- what is known by some of the events is known by all
module _ (plans : List Plan) (pending : List Instance) (past : Past) (own events : List Event) (wider : IsAmongAll own events) where
  known_wider : (value : Value) → IsKnownBehind plans pending past own value → IsKnownBehind plans pending past events value
  known_wider value known =
      ⊎_elim (λ bound. inl bound)
      (λ others. inr (⊎_elim (λ arg. inl (arg.0, wider arg.0 arg.1, arg.2)) (λ kept. inr kept) others)) known

  behind_wider : (literals : List Literal) → AreLiteralsBehind plans pending past own literals → AreLiteralsBehind plans pending past events literals
  behind_wider literals are literal there =
      let is = are literal there in
      record {
        leaf = is.leaf;
        there = is.there;
        root = record {
          plan = is.root.plan;
          among = is.root.among;
          reached = IsReachedBy-wider own events wider is.root.plan is.leaf is.root.reached;
        };
        is = is.is;
        known = λ value arg. known_wider value (is.known value arg);
      }

missed_wider : (situation : Situation) (own events : List Event) → IsAmongAll own events → (rule : ℕ) (literals : List Literal)
    → IsMissedAtRoot situation own events rule literals → IsMissedAtRoot situation events events rule literals
missed_wider situation own events wider rule literals is = record {
  plan = is.plan;
  there = is.there;
  plain = is.plain;
  are = behind_wider (situation_plans situation) situation.pending.now.instances situation.past.now own events wider literals is.are;
  instances = is.instances;
  roots = is.roots;
  left = is.left;
}

pub asked_alone : (situation : Situation) (given present : List Event) (stale : List NameId) (events : List Event) (rule : ℕ) (found : Next) → present ≡ events
    → IsAmongAll given events → IsNextFor situation given present stale (RootIsMet situation present rule) found → IsNextOf rule found
    → IsAskedAlone situation events rule found
asked_alone situation given present stale events rule (next.Act action) same wider is of = tt
asked_alone situation given present stale events rule (next.ActFor missed) same wider is of = (
  of,
  record {
    some = is.0;
    wanted = subst (λ l. AreWanted l missed.literals.items) same is.1;
    missed = missed_wider situation given events wider missed.rule missed.literals.items
        (subst (λ l. IsMissedAtRoot situation given l missed.rule missed.literals.items) same is.2);
  },
)
asked_alone situation given present stale events rule next.Renew same wider is of = tt
asked_alone situation given present stale events rule next.Done same wider is of = subst (λ l. RootIsMet situation l rule) same is
