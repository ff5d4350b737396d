-- What missed nothing on one trace misses nothing on another, where each node of it stays met there.
use Rattle.obligations.proofs.Vocabulary.{◌≡◌, ℕ, zero, suc, List, [], ◌∷◌, ◌++◌, length, Contains, Option, None, Some, refl, subst, inl, inr, ⊎_elim, AllByRecursion, All-contains, Valuation}
use Rattle.obligations.proofs.Vocabulary.{values_of_terms, with_values, Event, NameId, Step, Term, VarId, Value, Formula, nodes, Plan, CausePlan, SuppressPlan, Both, Either, TestOr, Guarded}
use Rattle.obligations.proofs.Vocabulary.{EventuallyPlan, AlwaysPlan, UntilPlan, NextPlan, CanAskIn, FitsScope, CanAskPlan, MissingExists, IsAbsent, IsPresent, LiteralUnless, MissesUntil, Missing}
use Rattle.obligations.proofs.Vocabulary.{OfEvent, cause_literal, suppress_literal, Gathers, HoldsLast, Literal, first_or_later, here, later, nil_not_cons, none_in_nil}
use Rattle.obligations.proofs.AskablePlanLemmas.{under_row}
use Rattle.obligations.proofs.SoundnessLemmas.{all_left, all_right, nil_left, nil_right}

leaf_stays : (n : NameId) (o : Option (List Value)) (P Q : Event → Type 0) (l : Event → Literal)
    → ((e : Event) → e.name ≡ n → P e → Q e) → OfEvent n o (λ e. LiteralUnless (P e) (l e) [])
    → OfEvent n o (λ e. LiteralUnless (Q e) (l e) [])
leaf_stays n None P Q l turn missing = missing
leaf_stays n (Some args) P Q l turn missing =
    ⊎_elim (λ met. inl (turn (record { name = n; args = args }) refl met.0, refl)) (λ lacks. absurd (nil_not_cons (l (record { name = n; args = args })) [] lacks.1)) missing

until_stays : (low : ℕ) (L R L' R' : List Literal → Type 0) → (L [] → L' []) → (R [] → R' []) → (ls : List Literal) × R' ls
    → MissesUntil low L R [] → MissesUntil low L' R' []
until_stays zero L R L' R' l r ([], is) missing = inl (is, refl)
until_stays zero L R L' R' l r (x ∷ xs, is) missing =
    ⊎_elim (λ met. inl (r met.0, refl)) (λ lacks. inr ((x, xs, is), l lacks.1)) missing
until_stays (suc low) L R L' R' l r some missing = l missing

-- where nothing is gathered, each gives nothing, and the other way round
each_nothing : {X : Type 0} (P : X → List Literal → Type 0) (xs : List X) (x : X) → Gathers P xs [] → Contains xs x → P x []
each_nothing P [] x gathered there = absurd (none_in_nil x there)
each_nothing P (y ∷ xs) x (one, rest, is, others, are) there =
    ⊎_elim
    (λ same. subst (λ z. P z []) same (subst (P y) (nil_left one rest are) is))
    (λ behind. each_nothing P xs x (subst (Gathers P xs) (nil_right one rest are) others) behind)
    (first_or_later x y xs there)

nothing_of_each : {X : Type 0} (P : X → List Literal → Type 0) (xs : List X) → ((x : X) → Contains xs x → P x []) → Gathers P xs []
nothing_of_each P [] each = refl
nothing_of_each P (x ∷ xs) each =
    ([], [], each x (here x xs), nothing_of_each P xs (λ y there. each y (later y x xs there)), refl)

-- where a node has the property, what its leaf wants stays so, its test holds still, and its guard has no row more
pub record KeepsMet (trace other : List Step) (P : Plan → Type 0) : Type 0 where
  pub caused : (node place : ℕ) (name : NameId) (terms : List Term) → P (CausePlan node place name terms) → (e : Event)
      → e.name ≡ name → IsPresent trace e → IsPresent other e
  pub suppressed : (node place : ℕ) (name : NameId) (terms : List Term) → P (SuppressPlan node place name terms) → (e : Event)
      → e.name ≡ name → IsAbsent trace e → IsAbsent other e
  pub tested : (node guard : ℕ) (test : Formula) (body : Plan) → P (TestOr node guard test body) → (v : Valuation)
      → HoldsLast trace v test → HoldsLast other v test
  pub guarded : (node : ℕ) (xs : List VarId) (guard : ℕ) (test : Formula) (body : Plan) → P (Guarded node xs guard test body)
      → (v : Valuation) → HoldsLast other v test → HoldsLast trace v test

module _ (exist : MissingExists) (guards : List (Formula × List VarId)) (trace other : List Step) (P : Plan → Type 0)
    (keeps : KeepsMet trace other P) where
  stays : (plan : Plan) (scope : List VarId) → CanAskIn guards plan scope → AllByRecursion P (nodes plan) → (v : Valuation)
      → FitsScope scope v → Missing trace plan v [] → Missing other plan v []
  stays (CausePlan node place n terms) scope can all v fit missing =
      leaf_stays n (values_of_terms v terms) (IsPresent trace) (IsPresent other) (λ e. cause_literal e node)
      (keeps.caused node place n terms all.0) missing
  stays (SuppressPlan node place n terms) scope can all v fit missing =
      leaf_stays n (values_of_terms v terms) (IsAbsent trace) (IsAbsent other) (λ e. suppress_literal e node)
      (keeps.suppressed node place n terms all.0) missing
  stays (Both node left right) scope can all v fit (first, rest, on_left, on_right, are) = (
    [],
    [],
    stays left scope can.1 (all_left P (nodes left) (nodes right) all.1) v fit (subst (Missing trace left v) (nil_left first rest are) on_left),
    stays right scope can.2 (all_right P (nodes left) (nodes right) all.1) v fit (subst (Missing trace right v) (nil_right first rest are) on_right),
    refl,
  )
  stays (Either node left right) scope can all v fit missing =
      let l = stays left scope can.1 (all_left P (nodes left) (nodes right) all.1) v fit in
      let r = stays right scope can.2 (all_right P (nodes left) (nodes right) all.1) v fit in
      ⊎_elim (λ met. inl (l met.0, refl)) (λ more. ⊎_elim (λ met. inr (inl (r met.0, refl))) (λ lacks. inr (inl (r lacks.2, refl))) more) missing
  stays (TestOr node guard test body) scope can all v fit missing =
      let found = exist guards other (TestOr node guard test body) v (record { scope = scope; can = can; fits = fit }) in
      ⊎_elim
      (λ met. inl (met.0, refl))
      (λ fails. ⊎_elim
      (λ was. absurd (fails.0 (keeps.tested node guard test body all.0 v was.0)))
      (λ failed. inr (fails.0, stays body scope can.1 all.1 v fit failed.1))
      missing)
      found.1
  stays (Guarded node xs guard test body) scope can all v fit (rows, are, gathered) =
      let found = exist guards other (Guarded node xs guard test body) v (record { scope = scope; can = can; fits = fit }) in
      let (left, now, others) = found.1 in (
        left,
        now,
        nothing_of_each (λ row. Missing other body (with_values xs row v)) left (λ row there.
            let long = All-contains (λ (r : List Value). length r ≡ length xs) left row now.fit there in
            let was = (are.are row long).1 (keeps.guarded node xs guard test body all.0 (with_values xs row v) ((now.are row long).0 there)) in
            stays body (scope ++ xs) can.1 all.1 (with_values xs row v) (under_row scope xs can.0.2 v fit row long)
            (each_nothing (λ r. Missing trace body (with_values xs r v)) rows row gathered was)),
      )
  stays (EventuallyPlan node place low high body) scope can all v fit missing = refl
  stays (AlwaysPlan node place zero high body) scope can all v fit missing = stays body scope can.1 all.1 v fit missing
  stays (AlwaysPlan node place (suc low) high body) scope can all v fit missing = refl
  stays (UntilPlan node place low high left right) scope can all v fit missing =
      until_stays low (Missing trace left v) (Missing trace right v) (Missing other left v) (Missing other right v)
      (stays left scope can.1 (all_left P (nodes left) (nodes right) all.1) v fit)
      (stays right scope can.2 (all_right P (nodes left) (nodes right) all.1) v fit)
      (exist guards other right v (record { scope = scope; can = can.2; fits = fit })) missing
  stays (NextPlan node place high body) scope can all v fit missing = refl

  pub stays_met : (plan : Plan) (v : Valuation) → AllByRecursion P (nodes plan) → CanAskPlan guards plan v
      → Missing trace plan v [] → Missing other plan v []
  stays_met plan v all can missing = stays plan can.scope can.can all v can.fits missing
