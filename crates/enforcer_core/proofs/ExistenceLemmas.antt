-- What the plans of an accepted policy have pending falls, counted by class, at the steps that serve it, so these steps
-- end.
use Rattle.enforcer_core.proofs.Vocabulary.{◌≡◌, List, ◌++◌, None, refl, sym, subst, ◌∙◌, Formula, Step, Record, NameEntry, OnePlans, ArePlanned, Typed, WorkTogether, WellFormedCanBeAsked}
use Rattle.enforcer_core.proofs.Vocabulary.{WellFormedStand, ActedStep, steps_of, Follows, FollowsDrain, AreDistinct, DrainIsOne, FollowsIsOne, IsMeasure, SomeFollows, SomeInserts}
use Rattle.enforcer_core.proofs.Vocabulary.{ServedCountsFall, class_counts, classes_of, JustOneFollows, JustOneFollowsPolicy, JustOneFollowsToEnd, SomethingDrains, SomethingFollows}
use Rattle.enforcer_core.proofs.Vocabulary.{FollowsPolicy, FollowsToEnd}
use Rattle.enforcer_core.proofs.CountLemmas.{counts_are_wide}

module _ (fall : ServedCountsFall) (founded : WellFormedCanBeAsked) (stand : WellFormedStand) where
  is_measure : (typed : Typed) → WorkTogether typed
      → IsMeasure typed.plans (classes_of typed.ranked.ranks typed.plans) (class_counts typed.ranked.ranks typed.plans)
  is_measure typed works = record {
    wide = λ pending. counts_are_wide typed.ranked.ranks typed.plans pending (classes_of typed.ranked.ranks typed.plans);
    falls = λ trace pending after deadline o pend least goes behind. (fall typed trace pending after deadline o works pend least goes behind).1;
  }

  pub something_follows : SomeFollows → SomethingFollows
  something_follows some typed trace records works distinct =
      some typed.guards typed.plans (classes_of typed.ranked.ranks typed.plans) (class_counts typed.ranked.ranks typed.plans) trace records works.formed.roles
      (stand typed.plans typed.guards works.formed) (founded typed.plans typed.guards works.formed)
      (is_measure typed works) distinct

  pub something_drains : SomeInserts → SomethingDrains
  something_drains some typed trace works =
      some typed.guards typed.plans (classes_of typed.ranked.ranks typed.plans) (class_counts typed.ranked.ranks typed.plans) trace None works.formed.roles
      (stand typed.plans typed.guards works.formed) (founded typed.plans typed.guards works.formed)
      (is_measure typed works)

pub just_one_follows : SomethingFollows → FollowsIsOne → JustOneFollows
just_one_follows some one typed trace records works distinct =
    let out = some typed trace records works distinct in
    (out.0, out.1, λ others follows. one typed.plans trace records others out.0 distinct follows out.1)

-- a policy has one list of plans
module _ (one_plans : OnePlans) (entries : List NameEntry) (policy : List Formula) (typed : Typed)
    (planned : ArePlanned entries policy typed.plans typed.guards) where
  by_its_plans : (trace : List Step) (records : List Record) (out : List ActedStep) → FollowsPolicy entries policy trace records out
      → Follows typed.plans trace records out
  by_its_plans trace records out follows =
      subst (λ plans. Follows plans trace records out) (one_plans entries policy follows.plans typed.plans follows.guards typed.guards follows.planned planned).0 follows.follows

  -- what is emitted up to the end, by the plans
  record ToEnd (trace : List Step) (records : List Record) (out : List ActedStep) : Type 0 where
    first : List ActedStep
    last : List ActedStep
    split : out ≡ first ++ last
    follows : Follows typed.plans trace records first
    drained : FollowsDrain typed.plans (trace ++ steps_of first) last

  to_end_by_its_plans : (trace : List Step) (records : List Record) (out : List ActedStep)
      → FollowsToEnd entries policy trace records out → ToEnd trace records out
  to_end_by_its_plans trace records out ends =
      let same : ends.plans ≡ typed.plans = (one_plans entries policy ends.plans typed.plans ends.guards typed.guards ends.planned planned).0 in
      record {
        first = ends.first;
        last = ends.last;
        split = ends.split;
        follows = subst (λ plans. Follows plans trace records ends.first) same ends.follows;
        drained = subst (λ plans. FollowsDrain plans (trace ++ steps_of ends.first) ends.last) same ends.drained;
      }

  one_to_end : FollowsIsOne → DrainIsOne → (trace : List Step) (records : List Record) → AreDistinct records
      → (out others : List ActedStep) → ToEnd trace records out → ToEnd trace records others → out ≡ others
  one_to_end one drain trace records distinct out others a b =
      let first : a.first ≡ b.first = one typed.plans trace records a.first b.first distinct a.follows b.follows in
      let last : a.last ≡ b.last =
      drain typed.plans (trace ++ steps_of b.first) a.last b.last (subst (λ l. FollowsDrain typed.plans (trace ++ steps_of l) a.last) first a.drained) b.drained
      in
      a.split ∙ (λ i. first i ++ last i) ∙ sym b.split

pub just_one_follows_policy : OnePlans → JustOneFollows → JustOneFollowsPolicy
just_one_follows_policy one_plans just entries policy typed trace records planned works distinct =
    let out = just typed trace records works distinct in (
      out.0,
      record { plans = typed.plans; guards = typed.guards; planned = planned; follows = out.1 },
      λ others follows. out.2 others (by_its_plans one_plans entries policy typed planned trace records others follows),
    )

pub just_one_follows_to_end : OnePlans → SomethingFollows → SomethingDrains → FollowsIsOne → DrainIsOne → JustOneFollowsToEnd
just_one_follows_to_end one_plans some drains one drain entries policy typed trace records planned works distinct =
    let first = some typed trace records works distinct in
    let last = drains typed (trace ++ steps_of first.0) works in (
      first.0 ++ last.0,
      record {
        plans = typed.plans;
        guards = typed.guards;
        planned = planned;
        first = first.0;
        last = last.0;
        split = refl;
        follows = first.1;
        drained = last.1;
      },
      λ others ends. one_to_end one_plans entries policy typed planned one drain trace records distinct others
          (first.0 ++ last.0) (to_end_by_its_plans one_plans entries policy typed planned trace records others ends)
          (record { first = first.0; last = last.0; split = refl; follows = first.1; drained = last.1 }),
    )
