-- The sample policy is accepted.
use Rattle.enf_run.proofs.Vocabulary.{◌≡◌, ℕ, zero, suc, ◌≤◌, false, List, [], ◌∷◌, Contains, Option, None, Some, refl, sym, ap, subst, ◌∙◌, inl, inr, ⊎_elim, arith, AllByRecursion, option_or}
use Rattle.enf_run.proofs.Vocabulary.{true≢false, Formula, AllByRecursion-contains, first_or_later, here, none_in_nil, there_from_get, NameId, Var, VarId, IsAccepted, ArePlanned, IsGuardFor}
use Rattle.enf_run.proofs.Vocabulary.{ImplicationAnswer, OverOne, OverTwo, renumber_all, NotEnforceable, of_u, sample_entries, sample_rules, u, IsTest, all_guards, nodes, Plan, guard_triggers}
use Rattle.enf_run.proofs.Vocabulary.{itself as self, IsOnCycle, EdgesLead, Edge, IsCauseNode, IsPath, IsStart, IsUntriggered, begun_later, below, needs_trigger, path_triggers, AreAccepted, deeper}
use Rattle.enf_run.proofs.Vocabulary.{all_formulas}
use Rattle.std.proofs.Common.{IsTrue}
use Rattle.enf_formula.specs.meaning.Satisfaction as tree
use Rattle.plan_terms.specs.meaning.Plans as plans

-- ---- paths down a plan whose root is a guard, and in which nothing but a suppression is begun anew

-- the node is a suppression
IsLeaf : Plan → Type 0
IsLeaf (plans.SuppressPlan node place name terms) = Unit {0}
IsLeaf plan = ⊥

-- where a suppression begins nothing more is met
at_leaf : (start node : Plan) (path : List Plan) → IsLeaf start → IsPath start path node → IsLeaf node
unfolding IsLeaf
at_leaf (plans.SuppressPlan n place name terms) node [] leaf is = subst IsLeaf is tt
at_leaf (plans.SuppressPlan n place name terms) node (first ∷ path) leaf (same, next, there, rest) = absurd (none_in_nil next (subst (λ (p : Plan). Contains (below p) next) (sym same) there))
at_leaf (plans.CausePlan n place name terms) node path leaf is = absurd leaf
at_leaf (plans.Both n left right) node path leaf is = absurd leaf
at_leaf (plans.Either n left right) node path leaf is = absurd leaf
at_leaf (plans.TestOr n guard test body) node path leaf is = absurd leaf
at_leaf (plans.Guarded n xs guard test body) node path leaf is = absurd leaf
at_leaf (plans.EventuallyPlan n place low high body) node path leaf is = absurd leaf
at_leaf (plans.AlwaysPlan n place low high body) node path leaf is = absurd leaf
at_leaf (plans.UntilPlan n place low high left right) node path leaf is = absurd leaf
at_leaf (plans.NextPlan n place high body) node path leaf is = absurd leaf

leaf_needs_none : (node : Plan) → IsLeaf node → IsTrue (needs_trigger node) → ⊥
unfolding IsLeaf
leaf_needs_none (plans.SuppressPlan n place name terms) leaf needs = true≢false (sym needs)
leaf_needs_none (plans.CausePlan n place name terms) leaf needs = leaf
leaf_needs_none (plans.Both n left right) leaf needs = leaf
leaf_needs_none (plans.Either n left right) leaf needs = leaf
leaf_needs_none (plans.TestOr n guard test body) leaf needs = leaf
leaf_needs_none (plans.Guarded n xs guard test body) leaf needs = leaf
leaf_needs_none (plans.EventuallyPlan n place low high body) leaf needs = leaf
leaf_needs_none (plans.AlwaysPlan n place low high body) leaf needs = leaf
leaf_needs_none (plans.UntilPlan n place low high left right) leaf needs = leaf
leaf_needs_none (plans.NextPlan n place high body) leaf needs = leaf

-- what causes an event needs a trigger
cause_needs : (node : Plan) (name : NameId) → IsCauseNode node name → IsTrue (needs_trigger node)
cause_needs (plans.CausePlan n place name terms) caused is = refl
cause_needs (plans.SuppressPlan n place name terms) caused is = absurd is
cause_needs (plans.Both n left right) caused is = absurd is
cause_needs (plans.Either n left right) caused is = absurd is
cause_needs (plans.TestOr n guard test body) caused is = absurd is
cause_needs (plans.Guarded n xs guard test body) caused is = absurd is
cause_needs (plans.EventuallyPlan n place low high body) caused is = absurd is
cause_needs (plans.AlwaysPlan n place low high body) caused is = absurd is
cause_needs (plans.UntilPlan n place low high left right) caused is = absurd is
cause_needs (plans.NextPlan n place high body) caused is = absurd is

-- such a plan: its guard has triggers, all that is begun anew in it is a suppression, and so much is caused in it
record IsSimple (plan : Plan) (names : List NameId) (IsCaused : NameId → Type 0) : Type 0 where
  triggered : guard_triggers plan ≡ Some names
  guard : needs_trigger plan ≡ false
  anew : AllByRecursion (λ node. AllByRecursion IsLeaf (begun_later node)) (nodes plan)
  caused : AllByRecursion (λ node. (name : NameId) → IsCauseNode node name → IsCaused name) (nodes plan)

path_in_nodes : (start node : Plan) (path : List Plan) → IsPath start path node → Contains (nodes start) node
path_in_nodes start node [] is = subst (Contains (nodes start)) is (self start)
path_in_nodes start node (first ∷ path) (same, next, there, rest) =
    deeper start next node (subst (λ (p : Plan). Contains (below p) next) (sym same) there) (path_in_nodes next node path rest)

module _ (plan : Plan) (names : List NameId) (IsCaused : NameId → Type 0) (simple : IsSimple plan names IsCaused) where
  -- a node that needs a trigger is met from the root, after the guard
  from_root : (start node : Plan) (path : List Plan) → IsStart plan start → IsPath start path node → IsTrue (needs_trigger node) → (path_triggers path ≡ Some names) × Contains (nodes plan) node
  from_root start node path (inr (other, there, anew)) is needs =
      let leaf = AllByRecursion-contains IsLeaf (begun_later other) start (AllByRecursion-contains (λ n. AllByRecursion IsLeaf (begun_later n)) (nodes plan) other simple.anew there) anew in
      absurd (leaf_needs_none node (at_leaf start node path leaf is) needs)
  from_root start node [] (inl root) is needs = absurd (true≢false (sym needs ∙ ap needs_trigger (sym (root ∙ is)) ∙ simple.guard))
  from_root start node (first ∷ path) (inl root) (same, next, there, rest) needs =
      let found : guard_triggers first ≡ Some names = ap guard_triggers (sym (root ∙ same)) ∙ simple.triggered in (
        ap (λ (o : Option (List NameId)). option_or o (path_triggers path)) found,
        subst (λ (p : Plan). Contains (nodes p) node) (sym root) (path_in_nodes start node (first ∷ path) (same, next, there, rest)),
      )

  all_triggered : (node : Plan) → IsUntriggered plan node → ⊥
  all_triggered node (needs, start, begun, path, is, none) =
      let met = (from_root start node path begun is needs).0 in
      let clash : ◌≡◌ {A = Option (List NameId)} (Some names) None = sym met ∙ none in
      cc

  edge_within : (trigger caused : NameId) (start : Plan) → IsStart plan start → (path : List Plan) (node : Plan) → IsPath start path node → IsCauseNode node caused
      → (found : List NameId) → path_triggers path ≡ Some found → Contains found trigger → Contains names trigger × IsCaused caused
  edge_within trigger caused start begun path node is causes found met there =
      let here = from_root start node path begun is (cause_needs node caused causes) in
      let same : found ≡ names = (let both : ◌≡◌ {A = Option (List NameId)} (Some found) (Some names) = sym met ∙ here.0 in cc) in (
        subst (λ (ns : List NameId). Contains ns trigger) same there,
        AllByRecursion-contains (λ n. (name : NameId) → IsCauseNode n name → IsCaused name) (nodes plan) node simple.caused here.1 caused causes,
      )

-- ---- the plans

abbrev name : ℕ → NameId
name number = record { 0 = number }

abbrev consent_guard : Formula
consent_guard = tree.And 31 (of_u 24 2) (tree.Not 34 (tree.Once 34 (record { low = 0; high = None }) (of_u 44 1)))

abbrev consent_plan : Plan
consent_plan = plans.Guarded 0 (u ∷ []) 0 consent_guard (plans.SuppressPlan 0 24 (name 2) (Var u ∷ []))

abbrev erase_plan : Plan
erase_plan = plans.Guarded 0 (u ∷ []) 0 (of_u 78 0) (plans.EventuallyPlan 0 92 0 30 (plans.CausePlan 0 109 (name 3) (Var u ∷ [])))

abbrev hold_plan : Plan
hold_plan =
    plans.Guarded 0 (u ∷ []) 0 (of_u 141 5) (plans.UntilPlan 0 165 0 10 (plans.SuppressPlan 0 157 (name 2) (Var u ∷ [])) (plans.CausePlan 0 177 (name 4) (Var u ∷ [])))

abbrev made : List Plan
made = consent_plan ∷ erase_plan ∷ hold_plan ∷ []

abbrev sample_plans : List Plan
sample_plans = renumber_all 0 made

-- the variable alone is free in an event with it
free_u : (x : VarId) → Contains (u ∷ []) x → Contains (Var u ∷ []) (Var x)
free_u x there = ⊎_elim (λ (is : u ≡ x). subst (λ (y : VarId). Contains (Var u ∷ []) (Var y)) is (here (Var u) [])) (λ none. absurd (none_in_nil x none)) (first_or_later x u [] there)

guards_u : (place number : ℕ) → IsGuardFor [] (u ∷ []) (of_u place number)
guards_u place number = record { safe = tt; tells = free_u }

test_consent : IsTest (tree.Once 34 (record { low = 0; high = None }) (of_u 44 1)) (Contains (u ∷ []))
test_consent = (
  tt,
  λ x there. ⊎_elim (λ (is : Var u ≡ Var x). let same : u
      ≡ x = cc in subst (Contains (u ∷ [])) same (here u [])) (λ none. absurd (none_in_nil (Var x) none))
      (first_or_later (Var x) (Var u) [] there),
)

are_planned : ArePlanned sample_entries (all_formulas sample_rules) sample_plans (all_guards sample_plans)
are_planned = record {
  made = made;
  answered = (
    ImplicationAnswer.test_guarded (NotEnforceable 34) (plans.SuppressPlan 0 24 (name 2) (Var u ∷ [])) refl test_consent refl (guards_u 24 2) refl,
    (
      ImplicationAnswer.implication_guarded (plans.EventuallyPlan 0 92 0 30
          (plans.CausePlan 0 109 (name 3) (Var u ∷ [])))
          (OverOne.operand_made (plans.CausePlan 0 109 (name 3) (Var u ∷ [])) refl refl) (guards_u 78 0) refl,
      (
        ImplicationAnswer.implication_guarded (plans.UntilPlan 0 165 0 10 (plans.SuppressPlan 0 157 (name 2) (Var u ∷ [])) (plans.CausePlan 0 177 (name 4) (Var u ∷ [])))
            (OverTwo.two_made (plans.SuppressPlan 0 157 (name 2) (Var u ∷ [])) (plans.CausePlan 0 177 (name 4) (Var u ∷ [])) refl refl refl) (guards_u 141 5) refl,
        tt,
      ),
    ),
  );
  numbered = refl;
  guarded = refl;
}

-- ---- what they cause triggers nothing

-- a name whose events they cause
IsSink : NameId → Type 0
IsSink n = (3 ≤ n.0) × (n.0 ≤ 4)

abbrev IsNoSink : NameId → Type 0
IsNoSink n = IsSink n → ⊥

sink : (number : ℕ) → 3 ≤ number → number ≤ 4 → (n : NameId) → name number ≡ n → IsSink n
unfolding IsSink
sink number low high n is = let same : number ≡ n.0 = ap (λ (m : NameId). m.0) is in (omega arith, omega arith)

below_sinks : (number : ℕ) → number ≤ 2 → IsNoSink (name number)
unfolding IsSink
below_sinks number low is = omega (arith, is.0)

above_sinks : (number : ℕ) → 5 ≤ number → IsNoSink (name number)
unfolding IsSink
above_sinks number high is = omega (arith, is.1)

abbrev first_plan : Plan
first_plan = plans.Guarded 0 (u ∷ []) 0 consent_guard (plans.SuppressPlan 1 24 (name 2) (Var u ∷ []))

abbrev second_plan : Plan
second_plan = plans.Guarded 0 (u ∷ []) 1 (of_u 78 0) (plans.EventuallyPlan 1 92 0 30 (plans.CausePlan 2 109 (name 3) (Var u ∷ [])))

abbrev third_plan : Plan
third_plan =
    plans.Guarded 0 (u ∷ []) 2 (of_u 141 5) (plans.UntilPlan 1 165 0 10 (plans.SuppressPlan 2 157 (name 2) (Var u ∷ [])) (plans.CausePlan 3 177 (name 4) (Var u ∷ [])))

-- one of the plans, whose triggers are no names of events that are caused
record IsOne (plan : Plan) : Type 0 where
  names : List NameId
  simple : IsSimple plan names IsSink
  sources : AllByRecursion IsNoSink names

first_is : IsOne first_plan
unfolding IsLeaf
first_is = record {
  names = name 2 ∷ [];
  simple = record { triggered = refl; guard = refl; anew = (tt, (tt, tt)); caused = ((λ n is. absurd is), ((λ n is. absurd is), tt)) };
  sources = (below_sinks 2 (omega arith), tt);
}

second_is : IsOne second_plan
unfolding IsLeaf
second_is = record {
  names = name 0 ∷ [];
  simple = record { triggered = refl; guard = refl; anew = (tt, (tt, (tt, tt))); caused = ((λ n is. absurd is), ((λ n is. absurd is), (sink 3 (omega arith) (omega arith), tt))) };
  sources = (below_sinks 0 (omega arith), tt);
}

third_is : IsOne third_plan
unfolding IsLeaf
third_is = record {
  names = name 5 ∷ [];
  simple = record {
    triggered = refl;
    guard = refl;
    anew = (tt, ((tt, tt), (tt, (tt, tt))));
    caused = ((λ n is. absurd is), ((λ n is. absurd is), ((λ n is. absurd is), (sink 4 (omega arith) (omega arith), tt))));
  };
  sources = (above_sinks 5 (omega arith), tt);
}

each_is : (plan : Plan) → Contains sample_plans plan → IsOne plan
each_is plan there = AllByRecursion-contains IsOne sample_plans plan (first_is, (second_is, (third_is, tt))) there

-- an edge leads from a name that is no sink to one that is
edge_sinks : (from to : NameId) → Edge sample_plans from to → IsNoSink from × IsSink to
edge_sinks from to (plan, there, start, begun, path, node, is, causes, found, met, within) =
    let one = each_is plan there in
    let e = edge_within plan one.names IsSink one.simple from to start begun path node is causes found met within in
    (AllByRecursion-contains IsNoSink one.names from one.sources e.0, e.1)

-- so no edge follows another
no_second : (k : ℕ) (from to : NameId) → EdgesLead (Edge sample_plans) k from to → IsSink from → IsNoSink to → ⊥
no_second zero from to same sink none = none (subst IsSink same sink)
no_second (suc k) from to (before, leads, edge) sink none = none (edge_sinks before to edge).1

no_cycle : (n : NameId) → IsOnCycle (Edge sample_plans) n → ⊥
no_cycle n (k, (before, leads, edge)) = let e = edge_sinks before n edge in no_second k n before leads e.1 e.0

are_accepted : AreAccepted sample_plans
are_accepted = record {
  roles = λ n both.
      AllByRecursion-contains IsNoSink (name 2 ∷ name 2 ∷ []) n (below_sinks 2 (omega arith), (below_sinks 2 (omega arith), tt)) both.1
      (AllByRecursion-contains IsSink (name 3 ∷ name 4 ∷ []) n (sink 3 (omega arith) (omega arith) (name 3) refl, (sink 4 (omega arith) (omega arith) (name 4) refl, tt)) both.0);
  triggered = λ rule number node u.
      let one = each_is u.plan (there_from_get sample_plans rule u.plan u.plan_is) in all_triggered u.plan one.names IsSink one.simple node u.untriggered;
  acyclic = no_cycle;
}

pub sample_is_accepted : IsAccepted sample_entries (all_formulas sample_rules)
sample_is_accepted = (sample_plans, all_guards sample_plans, are_planned, are_accepted)
