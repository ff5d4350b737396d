-- From each formula of a policy to the policy.
use Rattle.enforce_types.proofs.Vocabulary.{◌≡◌, ◌⊎◌, ℕ, ◌+◌, List, [], ◌∷◌, Some, Ok, Err, inl, inr, refl, sym, ap, subst, ◌∙◌, AllByRecursion, AllZip, flat_map, slice_get, Step, VarId, Valuation}
use Rattle.enforce_types.proofs.Vocabulary.{Formula, Sat, IsStable, AreEquivalent, AllByRecursion-append, CanBeEvaluated, OfGuard, GuardsAreSafe, IsSafeNode, IsNumberedPlan, all_guards}
use Rattle.enforce_types.proofs.Vocabulary.{guards_of_plan, Plan, CausePlan, SuppressPlan, Both, Either, TestOr, Guarded, EventuallyPlan, AlwaysPlan, UntilPlan, NextPlan, AtEach-guards, AtEach-weaker}
use Rattle.enforce_types.proofs.Vocabulary.{NameEntry, Answer, Up, is_causable, is_suppressible, RuleAnswer, HasPlan, ArePlanned, guard_count, guard_numbers, renumber_all, PlanMeans, IsFirstRefusal}
use Rattle.enforce_types.proofs.Vocabulary.{Refusal}
use Rattle.enforce_types.proofs.PlanMeaning.{kept}
use Rattle.enforce_types.proofs.MadePlans.{made_is, not_refused}
use Rattle.enforce_types.proofs.NumberingLemmas.{nodes_numbered, guards_numbered, same_formula}
use Rattle.enforce_types.proofs.OneAnswer.{one}
use Rattle.enforce_types.proofs.RulePlanLemmas.{all_same_guards, rule_safe}

module _ (stable : (trace : List Step) (i : ℕ) (v : Valuation) (f : Formula) → IsStable (Sat trace i v f)) (entries : List NameEntry) where
  all_mean : (g : ℕ) (policy : List Formula) (made : List Plan) → AllZip (HasPlan entries) policy made → AllZip PlanMeans policy (renumber_all g made)
  all_mean g [] [] h = tt
  all_mean g [] (p ∷ made) h = absurd h
  all_mean g (f ∷ policy) [] h = absurd h
  all_mean g (f ∷ policy) (p ∷ made) h = (
    subst (λ (same : Formula). AreEquivalent same f) (sym (same_formula p 0 g))
        (kept stable (is_causable entries) (is_suppressible entries) Up f [] p h.0),
    all_mean (g + guard_count p)
        policy made h.1,
  )

  pub keeps_meaning : (policy : List Formula) (plans : List Plan) (guards : List (Formula × List VarId)) → ArePlanned entries policy plans guards → AllZip PlanMeans policy plans
  keeps_meaning policy plans guards are = subst (λ (ps : List Plan). AllZip PlanMeans policy ps) (sym are.numbered) (all_mean 0 policy are.made are.answered)

all_in_order : (g : ℕ) (made : List Plan) → AllByRecursion IsNumberedPlan (renumber_all g made)
all_in_order g [] = tt
all_in_order g (p ∷ made) = (λ number node is. nodes_numbered p g number node is, all_in_order (g + guard_count p) made)

pub in_order : (entries : List NameEntry) (policy : List Formula) (plans : List Plan)
    (guards : List (Formula × List VarId)) → ArePlanned entries policy plans guards
    → AllByRecursion IsNumberedPlan plans
in_order entries policy plans guards are = subst (λ (ps : List Plan). AllByRecursion IsNumberedPlan ps) (sym are.numbered) (all_in_order 0 are.made)

one_safe : (p : Plan) (scope : List VarId) → IsSafeNode p scope → OfGuard CanBeEvaluated p scope
one_safe (CausePlan node place name terms) scope s = tt
one_safe (SuppressPlan node place name terms) scope s = tt
one_safe (Both node l r) scope s = tt
one_safe (Either node l r) scope s = tt
one_safe (TestOr node guard test body) scope s = s.0.0
one_safe (Guarded node vars guard test body) scope s = s.0
one_safe (EventuallyPlan node place low high body) scope s = tt
one_safe (AlwaysPlan node place low high body) scope s = tt
one_safe (UntilPlan node place low high l r) scope s = tt
one_safe (NextPlan node place high body) scope s = tt

plan_guards : (p : Plan) → GuardsAreSafe p [] → AllByRecursion CanBeEvaluated (guards_of_plan p [])
plan_guards p safe = AtEach-guards CanBeEvaluated p [] (AtEach-weaker IsSafeNode (OfGuard CanBeEvaluated) one_safe p [] safe)

all_safe : (entries : List NameEntry) (policy : List Formula) (made : List Plan) → AllZip (HasPlan entries) policy made → AllByRecursion CanBeEvaluated (all_guards made)
all_safe entries [] [] h = tt
all_safe entries [] (p ∷ made) h = absurd h
all_safe entries (f ∷ policy) [] h = absurd h
all_safe entries (f ∷ policy) (p ∷ made) h = AllByRecursion-append CanBeEvaluated (guards_of_plan p []) (all_guards made) (plan_guards p (rule_safe entries f p h.0)) (all_safe entries policy made h.1)

known_guards : (entries : List NameEntry) (policy : List Formula) (plans : List Plan)
    (guards : List (Formula × List VarId)) → (are : ArePlanned entries policy plans guards) → guards
    ≡ all_guards are.made
known_guards entries policy plans guards are = are.guarded ∙ ap all_guards are.numbered ∙ all_same_guards 0 are.made

pub guards_safe : (entries : List NameEntry) (policy : List Formula) (plans : List Plan)
    (guards : List (Formula × List VarId)) → ArePlanned entries policy plans guards
    → AllByRecursion CanBeEvaluated guards
guards_safe entries policy plans guards are =
    subst (λ (gs : List (Formula × List VarId)). AllByRecursion CanBeEvaluated gs) (sym (known_guards entries policy plans guards are)) (all_safe entries policy are.made are.answered)

same_answer : (entries : List NameEntry) (f : Formula) (a b : Answer) → RuleAnswer entries f a → RuleAnswer entries f b → a ≡ b
same_answer entries f a b x y =
    let found = one (is_causable entries) (is_suppressible entries) Up f [] in
    found.1.only a x ∙ sym (found.1.only b y)

plan_or_refusal : (entries : List NameEntry) (f : Formula) (p : Plan) (r : Refusal) → HasPlan entries f p → RuleAnswer entries f (Err r) → ⊥
plan_or_refusal entries f p r has refuses = not_refused p r (same_answer entries f (Ok p) (Err r) has refuses)

excluded : (entries : List NameEntry) (policy : List Formula) (made : List Plan) (r : Refusal) → AllZip (HasPlan entries) policy made → IsFirstRefusal entries policy r → ⊥
excluded entries [] made r h first = first
excluded entries (f ∷ policy) [] r h first = h
excluded entries (f ∷ policy) (p ∷ made) r h (inl refuses) = plan_or_refusal entries f p r h.0 refuses
excluded entries (f ∷ policy) (p ∷ made) r h (inr later) = excluded entries policy made r h.1 later.2

pub not_both : (entries : List NameEntry) (policy : List Formula) (plans : List Plan)
    (guards : List (Formula × List VarId)) (r : Refusal) → ArePlanned entries policy plans guards
    → IsFirstRefusal entries policy r → ⊥
not_both entries policy plans guards r are first = excluded entries policy are.made r are.answered first

one_made : (entries : List NameEntry) (policy : List Formula) (made other : List Plan) → AllZip (HasPlan entries) policy made → AllZip (HasPlan entries) policy other → made ≡ other
one_made entries [] [] [] h k = refl
one_made entries [] [] (q ∷ other) h k = absurd k
one_made entries [] (p ∷ made) other h k = absurd h
one_made entries (f ∷ policy) [] other h k = absurd h
one_made entries (f ∷ policy) (p ∷ made) [] h k = absurd k
one_made entries (f ∷ policy) (p ∷ made) (q ∷ other) h k =
    let first : p ≡ q = sym (made_is p q (same_answer entries f (Ok p) (Ok q) h.0 k.0)) in
    let rest : made ≡ other = one_made entries policy made other h.1 k.1 in
    cc

pub one_plans : (entries : List NameEntry) (policy : List Formula) (plans others : List Plan)
    (guards more : List (Formula × List VarId)) → ArePlanned entries policy plans guards
    → ArePlanned entries policy others more → (plans ≡ others) × (guards ≡ more)
one_plans entries policy plans others guards more are be =
    let same : are.made ≡ be.made = one_made entries policy are.made be.made are.answered be.answered in
    (are.numbered ∙ ap (renumber_all 0) same ∙ sym be.numbered, known_guards entries policy plans guards are ∙ ap all_guards same ∙ sym (known_guards entries policy others more be))

pub one_refusal : (entries : List NameEntry) (policy : List Formula) (r s : Refusal) → IsFirstRefusal entries policy r → IsFirstRefusal entries policy s → r ≡ s
one_refusal entries [] r s a b = absurd a
one_refusal entries (f ∷ policy) r s (inl a) (inl b) = let e : ◌≡◌ {A = Answer} (Err r) (Err s) = same_answer entries f (Err r) (Err s) a b in cc
one_refusal entries (f ∷ policy) r s (inl a) (inr b) = absurd (plan_or_refusal entries f b.0 r b.1 a)
one_refusal entries (f ∷ policy) r s (inr a) (inl b) = absurd (plan_or_refusal entries f a.0 s a.1 b)
one_refusal entries (f ∷ policy) r s (inr a) (inr b) = one_refusal entries policy r s a.2 b.2

made_or_refused : (entries : List NameEntry) (policy : List Formula) → ((made : List Plan) × AllZip (HasPlan entries) policy made) ⊎ ((r : Refusal) × IsFirstRefusal entries policy r)
made_or_refused entries [] = inl ([], tt)
made_or_refused entries (f ∷ policy) =
    let found = one (is_causable entries) (is_suppressible entries) Up f [] in
    by found.0 found.1.holds (made_or_refused entries policy)
  where
    by : (a : Answer) → RuleAnswer entries f a → ((made : List Plan) × AllZip (HasPlan entries) policy made)
        ⊎ ((r : Refusal) × IsFirstRefusal entries policy r)
        → ((made : List Plan) × AllZip (HasPlan entries) (f ∷ policy) made)
        ⊎ ((r : Refusal) × IsFirstRefusal entries (f ∷ policy) r)
    by (Err r) h rest = inr (r, inl h)
    by (Ok p) h (inl made) = inl (p ∷ made.0, (h, made.1))
    by (Ok p) h (inr later) = inr (later.0, inr (p, h, later.1))

pub answered : (entries : List NameEntry) (policy : List Formula)
    → ((plans : List Plan) × (guards : List (Formula × List VarId)) × ArePlanned entries policy plans guards)
    ⊎ ((r : Refusal) × IsFirstRefusal entries policy r)
answered entries policy = by (made_or_refused entries policy)
  where
    by : ((made : List Plan) × AllZip (HasPlan entries) policy made)
        ⊎ ((r : Refusal) × IsFirstRefusal entries policy r)
        → ((plans : List Plan) × (guards : List (Formula × List VarId))
        × ArePlanned entries policy plans guards) ⊎ ((r : Refusal) × IsFirstRefusal entries policy r)
    by (inl made) = inl (renumber_all 0 made.0, all_guards (renumber_all 0 made.0), record { made = made.0; answered = made.1; numbered = refl; guarded = refl })
    by (inr later) = inr later

pub guard_places : (entries : List NameEntry) (policy : List Formula) (plans : List Plan)
    (guards : List (Formula × List VarId)) → ArePlanned entries policy plans guards → (k number : ℕ)
    → slice_get (flat_map guard_numbers plans) k ≡ Some number → number ≡ k
guard_places entries policy plans guards are k number is =
    guards_numbered are.made k number (subst (λ (ps : List Plan). slice_get (flat_map guard_numbers ps) k ≡ Some number) are.numbered is)
