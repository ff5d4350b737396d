-- The plans of a policy that was read keep to the limits, and their names are those of the signature.
use Rattle.enforce_types.proofs.Vocabulary.{◌≡◌, ℕ, ◌+◌, ◌<◌, ◌≤◌, IsTrue, List, [], ◌∷◌, length, Option, None, Some, inl, inr, sym, subst, arith, AllByRecursion, AllZip, flat_map}
use Rattle.enforce_types.proofs.Vocabulary.{AllByRecursion-append, AllByRecursion-contains, AllByRecursion-weaker, NameId, MOST_NAMES, MOST_NODES, VarId, Formula, formula_size, Rule}
use Rattle.enforce_types.proofs.Vocabulary.{IsWellFormedPolicy, IsWellFormedRule, IsCaused, IsSuppressed, caused_at, caused_below, suppressed_at, suppressed_below, nodes, Plan, guard_triggers}
use Rattle.enforce_types.proofs.Vocabulary.{AllEndLater, EndsLater, EndsInTime, IsSmallPlan, AreBelow, AtEach-nodes, AtEach-weaker, ArePlansWithinLimits, AreTriggersBelow, AreNamesBelow, NameEntry}
use Rattle.enforce_types.proofs.Vocabulary.{Up, is_causable, is_suppressible, ArePlanned, HasPlan, node_count, guard_count, renumber, renumber_all, FillsColumns, formulas_of}
use Rattle.std.specs.List.Sorted.{IsStrictlySortedBy}
use Rattle.enforce_types.proofs.FormulaNames.{marked_within, triggers_below}
use Rattle.enforce_types.proofs.MadeNodes.{AreFine, IsFine, IsGiven, MayBeDone, fine_stays, made_fine}
use Rattle.enforce_types.proofs.NumberingLemmas.{each_stays, same_count}
use Rattle.enforce_types.proofs.PlanSizes.{plan_fits}
use Rattle.plan_terms.specs.meaning.Plans as plan

-- the names that nodes have, where those of each have a property
named : (Q : NameId → Type 0) (own : Plan → List NameId) (xs : List Plan) → AllByRecursion (λ node. AllByRecursion Q (own node)) xs → AllByRecursion Q (flat_map own xs)
named Q own [] h = tt
named Q own (x ∷ xs) h = AllByRecursion-append Q (own x) (flat_map own xs) h.0 (named Q own xs h.1)

pub of_all_nodes : (R : Plan → Type 0) (plans : List Plan) → AllByRecursion (λ p. AllByRecursion R (nodes p)) plans → AllByRecursion R (flat_map nodes plans)
of_all_nodes R [] h = tt
of_all_nodes R (p ∷ plans) h = AllByRecursion-append R (nodes p) (flat_map nodes plans) h.0 (of_all_nodes R plans h.1)

module _ (entries : List NameEntry) where
  abbrev CanCause : NameId → Type 0
  CanCause name = IsTrue (is_causable entries name)

  abbrev CanSuppress : NameId → Type 0
  CanSuppress name = IsTrue (is_suppressible entries name)

  -- what is asked of each node of a plan, and of the node alone
  abbrev IsFineHere : Plan → List VarId → Type 0
  IsFineHere p scope = IsFine entries (is_causable entries) (is_suppressible entries) MOST_NODES p scope

  abbrev pub IsFinePlan : Plan → Type 0
  IsFinePlan p = AreFine entries (is_causable entries) (is_suppressible entries) MOST_NODES p []

  abbrev IsDone : Plan → Type 0
  IsDone p = MayBeDone entries (is_causable entries) (is_suppressible entries) MOST_NODES p

  given : (rule : Rule) → IsWellFormedRule entries rule → IsGiven entries (is_causable entries) (is_suppressible entries) MOST_NODES rule.formula []
  unfolding IsStrictlySortedBy
  given rule formed = (formed.scoped, (0, formed.formula), formed.small, tt)

  all_fine : (g : ℕ) (rules : List Rule) (made : List Plan) → AllZip (HasPlan entries) (formulas_of rules) made → AllByRecursion (IsWellFormedRule entries) rules
      → AllByRecursion IsFinePlan (renumber_all g made) × AllByRecursion IsSmallPlan (renumber_all g made)
  all_fine g [] [] h formed = (tt, tt)
  all_fine g [] (p ∷ made) h formed = absurd h
  all_fine g (rule ∷ rules) [] h formed = absurd h
  all_fine g (rule ∷ rules) (p ∷ made) h formed =
      let more = all_fine (g + guard_count p) rules made h.1 formed.1 in
      let fine : IsFinePlan p = made_fine entries (is_causable entries) (is_suppressible entries) MOST_NODES Up rule.formula [] p h.0 (given rule formed.0) in
      let fits : node_count p ≤ formula_size rule.formula = plan_fits (is_causable entries) (is_suppressible entries) Up rule.formula [] p h.0 in
      let small : IsSmallPlan (renumber 0 g p) = omega (arith, same_count 0 g p, formed.0.small, fits) in
      ((each_stays IsFineHere (fine_stays entries (is_causable entries) (is_suppressible entries) MOST_NODES) p 0 g [] fine, more.0), (small, more.1))

  pub planned_fine : (rules : List Rule) (plans : List Plan) (guards : List (Formula × List VarId)) → IsWellFormedPolicy entries rules → ArePlanned entries (formulas_of rules) plans guards
      → AllByRecursion IsFinePlan plans × AllByRecursion IsSmallPlan plans
  planned_fine rules plans guards formed are =
      let all = all_fine 0 rules are.made are.answered formed.each in
      (subst (AllByRecursion IsFinePlan) (sym are.numbered) all.0, subst (AllByRecursion IsSmallPlan) (sym are.numbered) all.1)

  -- what follows for each node of a plan
  module _ (R : Plan → Type 0) (follows : (p : Plan) (scope : List VarId) → IsFineHere p scope → R p) where
    fine_nodes : (p : Plan) → IsFinePlan p → AllByRecursion R (nodes p)
    fine_nodes p fine = AtEach-nodes R p [] (AtEach-weaker IsFineHere (λ n s. R n) follows p [] fine)

    pub fine_all_nodes : (plans : List Plan) → AllByRecursion IsFinePlan plans → AllByRecursion (λ p. AllByRecursion R (nodes p)) plans
    fine_all_nodes plans fine = AllByRecursion-weaker IsFinePlan (λ p. AllByRecursion R (nodes p)) plans fine_nodes fine

  causes_done : (p : Plan) → IsDone p → AllByRecursion CanCause (caused_at p)
  causes_done (plan.CausePlan node place name terms) done = (done, tt)
  causes_done (plan.SuppressPlan node place name terms) done = tt
  causes_done (plan.Both node l r) done = tt
  causes_done (plan.Either node l r) done = tt
  causes_done (plan.TestOr node guard test body) done = tt
  causes_done (plan.Guarded node vars guard test body) done = tt
  causes_done (plan.EventuallyPlan node place low high body) done = tt
  causes_done (plan.AlwaysPlan node place low high body) done = tt
  causes_done (plan.UntilPlan node place low high l r) done = tt
  causes_done (plan.NextPlan node place high body) done = tt

  suppresses_done : (p : Plan) → IsDone p → AllByRecursion CanSuppress (suppressed_at p)
  suppresses_done (plan.CausePlan node place name terms) done = tt
  suppresses_done (plan.SuppressPlan node place name terms) done = (done, tt)
  suppresses_done (plan.Both node l r) done = tt
  suppresses_done (plan.Either node l r) done = tt
  suppresses_done (plan.TestOr node guard test body) done = tt
  suppresses_done (plan.Guarded node vars guard test body) done = tt
  suppresses_done (plan.EventuallyPlan node place low high body) done = tt
  suppresses_done (plan.AlwaysPlan node place low high body) done = tt
  suppresses_done (plan.UntilPlan node place low high l r) done = tt
  suppresses_done (plan.NextPlan node place high body) done = tt

  -- the names that some node changes, where those of each can be changed so
  all_named : (Q : NameId → Type 0) (own : Plan → List NameId) (plans : List Plan) → AllByRecursion (λ p. AllByRecursion (λ node. AllByRecursion Q (own node)) (nodes p)) plans
      → AllByRecursion Q (flat_map (λ (p : Plan). flat_map own (nodes p)) plans)
  all_named Q own [] h = tt
  all_named Q own (p ∷ plans) h = AllByRecursion-append Q (flat_map own (nodes p)) (flat_map (λ (q : Plan). flat_map own (nodes q)) plans) (named Q own (nodes p) h.0) (all_named Q own plans h.1)

  pub caused_can : (plans : List Plan) → AllByRecursion IsFinePlan plans → (name : NameId) → IsCaused plans name → CanCause name
  caused_can plans fine name there =
      AllByRecursion-contains CanCause (flat_map caused_below plans) name
      (all_named CanCause caused_at plans (fine_all_nodes (λ node. AllByRecursion CanCause (caused_at node)) (λ p scope h. causes_done p h.5) plans fine)) there

  pub suppressed_can : (plans : List Plan) → AllByRecursion IsFinePlan plans → (name : NameId) → IsSuppressed plans name → CanSuppress name
  suppressed_can plans fine name there =
      AllByRecursion-contains CanSuppress (flat_map suppressed_below plans) name
      (all_named CanSuppress suppressed_at plans (fine_all_nodes (λ node. AllByRecursion CanSuppress (suppressed_at node)) (λ p scope h. suppresses_done p h.5) plans fine)) there

  pub all_filled : (plans : List Plan) → AllByRecursion IsFinePlan plans → AllByRecursion (FillsColumns entries) (flat_map nodes plans)
  all_filled plans fine = of_all_nodes (FillsColumns entries) plans (fine_all_nodes (FillsColumns entries) (λ p scope h. h.6) plans fine)

  pub all_end_later : (plans : List Plan) → AllByRecursion IsFinePlan plans → AllEndLater plans
  all_end_later plans fine = of_all_nodes EndsLater plans (fine_all_nodes EndsLater (λ p scope h. h.7) plans fine)

  names_below : (plans : List Plan) → AllByRecursion IsFinePlan plans → AreNamesBelow (length entries) plans
  names_below plans fine name (inl there) = marked_within (λ entry. entry.causable) entries name.0 (caused_can plans fine name there)
  names_below plans fine name (inr there) = marked_within (λ entry. entry.suppressible) entries name.0 (suppressed_can plans fine name there)

  -- the triggers of a node's guard are names of the signature
  abbrev HasTriggersBelow : Plan → Type 0
  HasTriggersBelow node = (found : List NameId) → guard_triggers node ≡ Some found → AreBelow (length entries) found

  no_triggers : (found : List NameId) → ◌≡◌ {A = Option (List NameId)} None (Some found) → AreBelow (length entries) found
  no_triggers found is = absurd (cc)

  has_triggers : (p : Plan) (scope : List VarId) → IsFineHere p scope → HasTriggersBelow p
  has_triggers (plan.CausePlan node place name terms) scope h found is = no_triggers found is
  has_triggers (plan.SuppressPlan node place name terms) scope h found is = no_triggers found is
  has_triggers (plan.Both node l r) scope h found is = no_triggers found is
  has_triggers (plan.Either node l r) scope h found is = no_triggers found is
  has_triggers (plan.TestOr node guard test body) scope h found is = no_triggers found is
  has_triggers (plan.Guarded node vars guard test body) scope h found is = triggers_below (length entries) test found h.2 is
  has_triggers (plan.EventuallyPlan node place low high body) scope h found is = no_triggers found is
  has_triggers (plan.AlwaysPlan node place low high body) scope h found is = no_triggers found is
  has_triggers (plan.UntilPlan node place low high l r) scope h found is = no_triggers found is
  has_triggers (plan.NextPlan node place high body) scope h found is = no_triggers found is

  guards_below : (plans : List Plan) → AllByRecursion IsFinePlan plans → AreTriggersBelow (length entries) plans
  guards_below plans fine node found name there is has =
      AllByRecursion-contains (λ (n : NameId). n.0 < length entries) found name
      (AllByRecursion-contains HasTriggersBelow (flat_map nodes plans) node (of_all_nodes HasTriggersBelow plans (fine_all_nodes HasTriggersBelow has_triggers plans fine)) there found is) has

  pub plans_within : (rules : List Rule) (plans : List Plan) (guards : List (Formula × List VarId)) → length entries ≤ MOST_NAMES → IsWellFormedPolicy entries rules
      → ArePlanned entries (formulas_of rules) plans guards → ArePlansWithinLimits (length entries) plans
  plans_within rules plans guards few formed are =
      let fine = planned_fine rules plans guards formed are in
      record {
        few_names = few;
        small = fine.1;
        ends = of_all_nodes EndsInTime plans (fine_all_nodes EndsInTime (λ p scope h. h.4) plans fine.0);
        changed = names_below plans fine.0;
        triggers = guards_below plans fine.0;
      }
