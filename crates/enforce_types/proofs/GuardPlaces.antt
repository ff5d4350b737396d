-- Each guard and test of a policy stands at its number.
use Rattle.enforce_types.proofs.Vocabulary.{◌≡◌, ℕ, List, [], ◌∷◌, ◌++◌, length, map, Some, Contains, ⊎_elim, refl, sym, ap, subst, ◌∙◌, AllByRecursion, flat_map, slice_get, option_map, map-append}
use Rattle.enforce_types.proofs.Vocabulary.{Contains-append_left, Contains-append_right, slice_get-map, slice_get_read, AllByRecursion-from_contains, first_or_later, here, later, none_in_nil, VarId}
use Rattle.enforce_types.proofs.Vocabulary.{Formula, Plan, CausePlan, SuppressPlan, Both, Either, TestOr, Guarded, EventuallyPlan, AlwaysPlan, UntilPlan, NextPlan, guards_of_plan, NameEntry}
use Rattle.enforce_types.proofs.Vocabulary.{GuardsAreListed, guard_numbers, ArePlanned}
use Rattle.enforce_types.proofs.PolicyLemmas.{guard_places}

abbrev Guard : Type 0
Guard = Formula × List VarId

abbrev Numbered : Type 0
Numbered = ℕ × Guard

-- the guards and tests of a plan, each with the number that it keeps
abbrev pub numbered_guards : Plan → List VarId → List (ℕ × (Formula × List VarId))
numbered_guards (CausePlan node place name terms) scope = []
numbered_guards (SuppressPlan node place name terms) scope = []
numbered_guards (Both node left right) scope = numbered_guards left scope ++ numbered_guards right scope
numbered_guards (Either node left right) scope = numbered_guards left scope ++ numbered_guards right scope
numbered_guards (TestOr node guard test body) scope = (guard, (test, scope)) ∷ numbered_guards body scope
numbered_guards (Guarded node vars guard test body) scope =
    (guard, (test, scope)) ∷ numbered_guards body (scope ++ vars)
numbered_guards (EventuallyPlan node place low high body) scope = numbered_guards body scope
numbered_guards (AlwaysPlan node place low high body) scope = numbered_guards body scope
numbered_guards (UntilPlan node place low high left right) scope = numbered_guards left scope ++ numbered_guards right scope
numbered_guards (NextPlan node place high body) scope = numbered_guards body scope

-- a part of what is listed: the numbers, or the guards
module _ {X : Type 0} (part : Numbered → X) where
  two_parts : (xs ys : List Numbered) (ms ns : List X) → map part xs ≡ ms → map part ys ≡ ns → map part (xs ++ ys) ≡ ms ++ ns
  two_parts xs ys ms ns a b = map-append part xs ys ∙ ap (λ (zs : List X). zs ++ map part ys) a ∙ ap (λ (zs : List X). ms ++ zs) b

  all_parts : (own : Plan → List X) → ((p : Plan) → map part (numbered_guards p []) ≡ own p) → (plans : List Plan)
      → map part (flat_map (λ (p : Plan). numbered_guards p []) plans) ≡ flat_map own plans
  all_parts own each [] = refl
  all_parts own each (p ∷ plans) = two_parts (numbered_guards p []) (flat_map (λ (q : Plan). numbered_guards q []) plans) (own p) (flat_map own plans) (each p) (all_parts own each plans)

  part_at : (xs : List Numbered) (ms : List X) (k : ℕ) (x : Numbered) → map part xs ≡ ms → slice_get xs k ≡ Some x → slice_get ms k ≡ Some (part x)
  part_at xs ms k x is at = ap (λ (zs : List X). slice_get zs k) (sym is) ∙ slice_get-map part xs k ∙ ap (option_map part) at

abbrev number_of : Numbered → ℕ
number_of numbered = numbered.0

abbrev guard_of : Numbered → Guard
guard_of numbered = numbered.1

-- the numbers and the guards of what is listed are those of the plan
abbrev Lists : List Numbered → List ℕ → List Guard → Type 0
Lists all numbers guards = (map number_of all ≡ numbers) × (map guard_of all ≡ guards)

two_list : (xs ys : List Numbered) (ms ns : List ℕ) (gs hs : List Guard) → Lists xs ms gs → Lists ys ns hs → Lists (xs ++ ys) (ms ++ ns) (gs ++ hs)
two_list xs ys ms ns gs hs a b = (two_parts number_of xs ys ms ns a.0 b.0, two_parts guard_of xs ys gs hs a.1 b.1)

one_lists : (number : ℕ) (guard : Guard) (xs : List Numbered) (ms : List ℕ) (gs : List Guard) → Lists xs ms gs → Lists ((number, guard) ∷ xs) (number ∷ ms) (guard ∷ gs)
one_lists number guard xs ms gs a = (ap (λ (zs : List ℕ). number ∷ zs) a.0, ap (λ (zs : List Guard). guard ∷ zs) a.1)

pub listed : (p : Plan) (scope : List VarId) → Lists (numbered_guards p scope) (guard_numbers p) (guards_of_plan p scope)
listed (CausePlan node place name terms) scope = (refl, refl)
listed (SuppressPlan node place name terms) scope = (refl, refl)
listed (Both node l r) scope = two_list _ _ _ _ _ _ (listed l scope) (listed r scope)
listed (Either node l r) scope = two_list _ _ _ _ _ _ (listed l scope) (listed r scope)
listed (TestOr node guard test body) scope = one_lists guard (test, scope) _ _ _ (listed body scope)
listed (Guarded node vars guard test body) scope = one_lists guard (test, scope) _ _ _ (listed body (scope ++ vars))
listed (EventuallyPlan node place low high body) scope = listed body scope
listed (AlwaysPlan node place low high body) scope = listed body scope
listed (UntilPlan node place low high l r) scope = two_list _ _ _ _ _ _ (listed l scope) (listed r scope)
listed (NextPlan node place high body) scope = listed body scope

at_number : (entries : List NameEntry) (policy : List Formula) (plans : List Plan) (guards : List Guard) (number : ℕ) (guard : Guard) → ArePlanned entries policy plans guards
    → Contains (flat_map (λ plan. numbered_guards plan []) plans) (number, guard) → slice_get guards number ≡ Some guard
at_number entries policy plans guards number guard are there =
    let all : List Numbered = flat_map (λ (p : Plan). numbered_guards p []) plans in
    let at : slice_get all there.0 ≡ Some (number, guard) = slice_get_read all (length all) there.0 (number, guard) refl there.1 (sym there.2) in
    let place : number ≡ there.0 =
    guard_places entries policy plans guards are there.0 number
    (part_at number_of all (flat_map guard_numbers plans) there.0 (number, guard) (all_parts number_of guard_numbers (λ p. (listed p []).0) plans) at) in
    let listed : map guard_of all ≡ guards = all_parts guard_of (λ p. guards_of_plan p []) (λ p. (listed p []).1) plans ∙ sym are.guarded in
    subst (λ (k : ℕ). slice_get guards k ≡ Some guard) (sym place) (part_at guard_of all guards there.0 (number, guard) listed at)

in_one : {A : Type 0} (f : Plan → List A) (plans : List Plan) (p : Plan) (x : A) → Contains plans p → Contains (f p) x → Contains (flat_map f plans) x
in_one f [] p x there has = absurd (none_in_nil p there)
in_one f (q ∷ plans) p x there has =
    ⊎_elim (λ (same : q ≡ p). Contains-append_left (f q) (flat_map f plans) x (subst (λ (r : Plan). Contains (f r) x) (sym same) has))
    (λ behind. Contains-append_right (f q) (flat_map f plans) x (in_one f plans p x behind has)) (first_or_later p q plans there)

listed_of : (guards : List Guard) (p : Plan) (scope : List VarId)
    → ((number : ℕ) (guard : Guard) → Contains (numbered_guards p scope) (number, guard)
    → slice_get guards number ≡ Some guard) → GuardsAreListed guards p scope
listed_of guards (CausePlan node place name terms) scope at = tt
listed_of guards (SuppressPlan node place name terms) scope at = tt
listed_of guards (Both node l r) scope at = (
  tt,
  listed_of guards l scope
      (λ n g there. at n g (Contains-append_left (numbered_guards l scope) (numbered_guards r scope) (n, g) there)),
  listed_of guards r scope (λ n g there. at n g (Contains-append_right (numbered_guards l scope)
      (numbered_guards r scope) (n, g) there)),
)
listed_of guards (Either node l r) scope at = (
  tt,
  listed_of guards l scope
      (λ n g there. at n g (Contains-append_left (numbered_guards l scope) (numbered_guards r scope) (n, g) there)),
  listed_of guards r scope (λ n g there. at n g (Contains-append_right (numbered_guards l scope)
      (numbered_guards r scope) (n, g) there)),
)
listed_of guards (TestOr node guard test body) scope at = (
  at guard (test, scope) (here (guard, (test, scope)) (numbered_guards body scope)),
  listed_of guards body scope
      (λ n g there. at n g (later (n, g) (guard, (test, scope)) (numbered_guards body scope) there)),
)
listed_of guards (Guarded node vars guard test body) scope at = (
  at guard (test, scope) (here (guard, (test, scope)) (numbered_guards body (scope ++ vars))),
  listed_of guards
      body (scope ++ vars) (λ n g there. at n g (later (n, g) (guard, (test, scope))
      (numbered_guards body (scope ++ vars)) there)),
)
listed_of guards (EventuallyPlan node place low high body) scope at = (tt, listed_of guards body scope at)
listed_of guards (AlwaysPlan node place low high body) scope at = (tt, listed_of guards body scope at)
listed_of guards (UntilPlan node place low high l r) scope at = (
  tt,
  listed_of guards l scope (λ n g there. at n g
      (Contains-append_left (numbered_guards l scope) (numbered_guards r scope) (n, g) there)),
  listed_of guards r
      scope (λ n g there. at n g (Contains-append_right (numbered_guards l scope) (numbered_guards r scope) (n, g)
      there)),
)
listed_of guards (NextPlan node place high body) scope at = (tt, listed_of guards body scope at)

pub all_listed : (entries : List NameEntry) (policy : List Formula) (plans : List Plan) (guards : List Guard)
    → ArePlanned entries policy plans guards → AllByRecursion (λ plan. GuardsAreListed guards plan []) plans
all_listed entries policy plans guards are =
    AllByRecursion-from_contains (λ plan. GuardsAreListed guards plan []) plans
    (λ p there. listed_of guards p [] (λ n g has. at_number entries policy plans guards n g are (in_one (λ plan. numbered_guards plan []) plans p (n, g) there has)))
