-- Plans keep to the sorts of the formulas that they are made of.
use Rattle.enforce_types.proofs.Vocabulary.{◌≡◌, ◌∙◌, ℕ, ◌+◌, ◌⊎◌, inl, inr, ⊎_elim, Bool, List, [], ◌∷◌, ◌++◌, Option, None, Some, Ok, Contains, sym, ap, subst, AllByRecursion, AllZip, append-nil}
use Rattle.enforce_types.proofs.Vocabulary.{Contains-append_left, Contains-append_right, Contains-append, none_in_nil, with_values, NameId, VarId, BindsFresh, IsClosed, Formula, Atom, Not, And, Or}
use Rattle.enforce_types.proofs.Vocabulary.{Implies, Exists, Forall, Next, Eventually, Always, Until, IsFree, formula_place, among_or_not, value_at-with_outside, NoneBound, Safe, SafeBelow}
use Rattle.enforce_types.proofs.Vocabulary.{BoundOrFreeIn, Plan, Guarded, AtEach, Rule, IsWellFormedPolicy, IsWellFormedRule, NameEntry, Sort, Answer, IsGuardFor, ImplicationAnswer, Exclusion, Elab}
use Rattle.enforce_types.proofs.Vocabulary.{Aim, Up, Down, UpForAll, is_causable, is_suppressible, ArePlanned, HasPlan, renumber_all, guard_count, renumber, GivesSorts, KeepsSorts, PlanKeepsSorts}
use Rattle.enforce_types.proofs.Vocabulary.{formulas_of, Besides, SortsFit, InfersSort, HasVarSorts}
use Rattle.enforce_types.proofs.MadePlans.{by_exclusion, by_implication, by_leaf, by_one, by_one_of_two, by_two, not_refused, with_end, from_now}
use Rattle.enforce_types.proofs.NumberingLemmas.{each_stays}
use Rattle.enforce_types.proofs.FoundSorts.{VarsUnder, fit_under, nothing_under}
use Rattle.enforce_types.proofs.SortLemmas.{finds, fits}
use Rattle.plan_terms.specs.meaning.Plans as plan

-- the variables of the `forall`s directly above, of which the values are to be told
abbrev waiting : Aim → List VarId
waiting Up = []
waiting Down = []
waiting (UpForAll place xs) = xs

abbrev below : Aim → Option (List VarId)
below Up = None
below Down = None
below (UpForAll place xs) = Some xs

no_waiting : (scope : List VarId) → VarsUnder (Contains (scope ++ [])) (Contains scope)
no_waiting scope x there = ⊎_elim (λ at. at) (λ none. absurd (none_in_nil x none)) (Contains-append scope [] x there)

in_front : (scope xs : List VarId) → VarsUnder (Contains scope) (Contains (scope ++ xs))
in_front scope xs x there = Contains-append_left scope xs x there

module _ (entries : List NameEntry) (sorts : VarId → Sort) (c s : NameId → Bool) where
  abbrev Kept : Plan → List VarId → Type 0
  Kept p scope = AtEach (KeepsSorts entries sorts) p scope

  -- what is known where a formula stands below variables in scope: of those of B the sort was found before; and they
  -- are all that are in scope, or else it is safe with them
  record Stands (m : Option (List VarId)) (f : Formula) (scope xs : List VarId) (B S : VarId → Type 0) : Type 0 where
    fit : SortsFit entries sorts B f
    scoped : VarsUnder B (Contains scope)
    known : SafeBelow m f B ⊎ VarsUnder (Contains scope) B
    fresh : BindsFresh f S
    inside : VarsUnder (Contains (scope ++ xs)) S
    apart : (x : VarId) → Contains xs x → Contains scope x → ⊥
    free : (x : VarId) → IsFree x f → Contains (scope ++ xs) x

  -- a guard with these variables found before gives values of the sorts
  gives : (scope xs : List VarId) (g : Formula) (B S : VarId → Type 0) → Safe g B → SortsFit entries sorts B g → VarsUnder B (Contains scope) → BindsFresh g S → VarsUnder (Contains (scope ++ xs)) S
      → ((x : VarId) → Contains xs x → Contains scope x → ⊥) → ((x : VarId) → IsFree x g → Contains (scope ++ xs) x) → ((x : VarId) → Contains xs x → IsFree x g) → GivesSorts entries sorts scope xs g
  gives scope xs g B S safe fit scoped fresh inside apart free tells trace i v row trace_fits given sat x there =
      fits entries sorts trace trace_fits i (with_values xs row v) g B B S safe fresh (λ y b. inside y (in_front scope xs y (scoped y b))) (λ y f. inside y (free y f)) (λ y b. b) fit
      (λ y b value at. given y (scoped y b) value (sym (value_at-with_outside xs row v y (λ also. apart y also (scoped y b))) ∙ at))
      sat x (tells x there)

  -- a guard that can be evaluated in scope is safe with variables of which the sorts fit
  settled : (R : Type 0) (g : Formula) (scope : List VarId) (B : VarId → Type 0) → SortsFit entries sorts B g
      → VarsUnder B (Contains scope) → Safe g (Contains scope) → Safe g B ⊎ VarsUnder (Contains scope) B
      → ((C : VarId → Type 0) → Safe g C → SortsFit entries sorts C g → VarsUnder C (Contains scope) → R) → R
  settled R g scope B fit scoped safe known go = ⊎_elim (λ own. go B own fit scoped) (λ all. go (Contains scope) safe (fit_under entries sorts g (Contains scope) B all fit) (λ x there. there)) known

  none_apart : (scope : List VarId) (x : VarId) → Contains [] x → Contains scope x → ⊥
  none_apart scope x none there = none_in_nil x none

  -- a formula of which all variables are in scope, with those found before
  stands_in : (g : Formula) (scope : List VarId) (C S : VarId → Type 0) → SortsFit entries sorts C g
      → VarsUnder C (Contains scope) → Safe g C ⊎ VarsUnder (Contains scope) C → BindsFresh g S
      → VarsUnder (Contains scope) S → ((x : VarId) → IsFree x g → Contains scope x)
      → Stands None g scope [] C S
  stands_in g scope C S fit scoped known fresh inside free = record {
    fit = fit;
    scoped = scoped;
    known = known;
    fresh = fresh;
    inside = λ x there. inside x (no_waiting scope x there);
    apart = none_apart scope;
    free = λ x is. in_front scope [] x (free x is);
  }

  guard_kept : (scope xs : List VarId) (g : Formula) (q : Plan) → SortsFit entries sorts NoneBound g → GivesSorts entries sorts scope xs g → Kept q (scope ++ xs) → Kept (Guarded 0 xs 0 g q) scope
  guard_kept scope xs g q fit does kept = ((fit, does), kept)

  -- the guard of a `not`, whose formula is to be made false
  exclusion_kept : (place : ℕ) (scope xs : List VarId) (g : Formula) (down : List VarId → Answer → Type 0) (p : Plan) (B S : VarId → Type 0) → Exclusion place scope xs g down (Ok p)
      → SortsFit entries sorts B g → VarsUnder B (Contains scope) → Safe g B ⊎ VarsUnder (Contains scope) B
      → BindsFresh g S → VarsUnder (Contains (scope ++ xs)) S
      → ((x : VarId) → Contains xs x → Contains scope x → ⊥)
      → ((x : VarId) → IsFree x g → Contains (scope ++ xs) x)
      → ((C : VarId → Type 0) (q : Plan) → Stands None g (scope ++ xs) [] C S → down (scope ++ xs) (Ok q) → Kept q (scope ++ xs)) → Kept p scope
  exclusion_kept place scope xs g down p B S made fit scoped known fresh inside apart free downs =
      by_exclusion (λ (made : Plan). Kept made scope) p place scope xs g down made (λ q h guards.
      settled (Kept (Guarded 0 xs 0 g q) scope) g scope B fit scoped guards.safe known (λ C safe fit_c in_scope.
      guard_kept scope xs g q (fit_under entries sorts g NoneBound C (nothing_under C) fit_c) (gives scope xs g C S safe fit_c in_scope fresh inside apart free guards.tells)
      (downs C q (stands_in g (scope ++ xs) C S fit_c (λ x there. in_front scope xs x (in_scope x there)) (inl safe) fresh inside free) h)))

  implication_kept : (place arrow : ℕ) (scope xs : List VarId) (g h : Formula)
      (down up : List VarId → Answer → Type 0) (p : Plan) (B S : VarId → Type 0)
      → ImplicationAnswer place arrow scope xs g h down up (Ok p)
      → SortsFit entries sorts B (Implies arrow g h) → VarsUnder B (Contains scope) → Safe g B
      ⊎ VarsUnder (Contains scope) B → BindsFresh g S → VarsUnder (Contains (scope ++ xs)) S
      → ((x : VarId) → Contains xs x → Contains scope x → ⊥)
      → ((x : VarId) → IsFree x g → Contains (scope ++ xs) x)
      → ((W : List VarId) (C : VarId → Type 0) (q : Plan) → Stands None g W [] C S → down W (Ok q)
      → Kept q W) → ((q : Plan) → up (scope ++ xs) (Ok q) → IsGuardFor scope xs g ⊎ (xs ≡ [])
      → Kept q (scope ++ xs)) → Kept p scope
  implication_kept place arrow scope xs g h down up p B S made fit scoped known fresh inside apart free downs ups =
      by_implication (λ (made : Plan). Kept made scope) p place arrow scope xs g h down up made
      (λ q k guards. settled (Kept (Guarded 0 xs 0 g q) scope) g scope B fit.0 scoped guards.safe known (λ C safe fit_c in_scope.
      guard_kept scope xs g q (fit_under entries sorts g NoneBound C (nothing_under C) fit_c) (gives scope xs g C S safe fit_c in_scope fresh inside apart free guards.tells) (ups q k (inl guards))))
      (λ o q i k none. (
        tt,
        downs scope B o (stands_in g scope B S fit.0 scoped known fresh
            (λ x there. inside x (in_front scope xs x there)) (λ x is. same_scope none x (free x is))) i,
        subst
            (λ (W : List VarId). Kept q W) (no_more none) (ups q k (inr none)),
      ))
      (λ q j guards test. settled (Kept (Guarded 0 xs 0 (And arrow g (Not (formula_place h) h)) q) scope) g scope B fit.0 scoped guards.safe known (λ C safe fit_c in_scope.
      guard_kept scope xs (And arrow g (Not (formula_place h) h)) q (fit_under entries sorts (And arrow g (Not (formula_place h) h)) NoneBound B (nothing_under B) fit)
      (λ trace i v row trace_fits given sat x there. gives scope xs g C S safe fit_c in_scope fresh inside apart free guards.tells trace i v row trace_fits given sat.0 x there)
      (downs (scope ++ xs) C q (stands_in g (scope ++ xs) C S fit_c (λ x there. in_front scope xs x (in_scope x there)) (inl safe) fresh inside free) j)))
      (λ q j test none. (
        fit_under entries sorts h NoneBound (Besides B (InfersSort B g)) (nothing_under (Besides B (InfersSort B g))) fit.1,
        subst (λ (W : List VarId). Kept q W) (no_more none)
            (downs (scope ++ xs) B q (stands_in g (scope ++ xs) B S fit.0
            (λ x there. in_front scope xs x (scoped x there))
            (⊎_elim (λ own. inl own) (λ all. inr (λ x there. all x (same_scope none x there))) known) fresh
            inside free) j),
      ))
    where
      no_more : xs ≡ [] → scope ++ xs ≡ scope
      no_more none = ap (λ ys. scope ++ ys) none ∙ append-nil scope

      same_scope : xs ≡ [] → (x : VarId) → Contains (scope ++ xs) x → Contains scope x
      same_scope none x there = subst (λ (W : List VarId). Contains W x) (no_more none) there

  -- with the free variables of the first operand in scope
  behind_first : (g : Formula) (scope : List VarId) (B : VarId → Type 0) → Safe g B
      ⊎ VarsUnder (Contains scope) B → ((x : VarId) → IsFree x g → Contains scope x)
      → VarsUnder (BoundOrFreeIn B g) (Besides B (InfersSort B g))
  behind_first g scope B known free x either = ⊎_elim (λ at. inl at) (λ is. ⊎_elim (λ own. finds g B B own (λ y b. b) x is) (λ all. inl (all x (free x is))) known) either

  -- ---- the operands of a formula that stands

  -- one that is safe where the formula is, with the same found before
  operand : (f g : Formula) (scope : List VarId) (B S : VarId → Type 0) → Stands None f scope [] B S
      → SortsFit entries sorts B g → (Safe f B → Safe g B) → BindsFresh g S
      → ((x : VarId) → IsFree x g → IsFree x f) → Stands None g scope [] B S
  operand f g scope B S st fit safe fresh free = record {
    fit = fit;
    scoped = st.scoped;
    known = ⊎_elim (λ own. inl (safe own)) (λ all. inr all) st.known;
    fresh = fresh;
    inside = st.inside;
    apart = st.apart;
    free = λ x is. st.free x (free x is);
  }

  -- with those of B found before, those of B and more
  still : (g h : Formula) (B : VarId → Type 0) → SortsFit entries sorts (Besides B (InfersSort B g)) h → SortsFit entries sorts B h
  still g h B fit = fit_under entries sorts h B (Besides B (InfersSort B g)) (λ x at. inl at) fit

  within_not : (place : ℕ) (g : Formula) (scope : List VarId) (B S : VarId → Type 0) → Stands None (Not place g) scope [] B S → Stands None g scope [] B S
  within_not place g scope B S st = operand (Not place g) g scope B S st st.fit (λ own. own.1) st.fresh (λ x is. is)

  first_and : (place : ℕ) (g h : Formula) (scope : List VarId) (B S : VarId → Type 0) → Stands None (And place g h) scope [] B S → Stands None g scope [] B S
  first_and place g h scope B S st = operand (And place g h) g scope B S st st.fit.0 (λ own. own.0) st.fresh.0 (λ x is. inl is)

  second_and : (place : ℕ) (g h : Formula) (scope : List VarId) (B S : VarId → Type 0) → Stands None (And place g h) scope [] B S → Stands None h scope [] (BoundOrFreeIn B g) S
  second_and place g h scope B S st = record {
    fit = fit_under entries sorts h (BoundOrFreeIn B g) (Besides B (InfersSort B g))
        (behind_first g scope B (⊎_elim (λ own. inl own.0) (λ all. inr all) st.known)
        (λ x is. no_waiting scope x (st.free x (inl is)))) st.fit.1;
    scoped = λ x either. ⊎_elim (λ at. st.scoped x at) (λ is. no_waiting scope x (st.free x (inl is))) either;
    known = ⊎_elim (λ own. inl own.1) (λ all. inr (λ x there. inl (all x there))) st.known;
    fresh = st.fresh.1;
    inside = st.inside;
    apart = st.apart;
    free = λ x is. st.free x (inr is);
  }

  first_or : (place : ℕ) (g h : Formula) (scope : List VarId) (B S : VarId → Type 0) → Stands None (Or place g h) scope [] B S → Stands None g scope [] B S
  first_or place g h scope B S st = operand (Or place g h) g scope B S st st.fit.0 (λ own. own.0) st.fresh.0 (λ x is. inl is)

  second_or : (place : ℕ) (g h : Formula) (scope : List VarId) (B S : VarId → Type 0) → Stands None (Or place g h) scope [] B S → Stands None h scope [] B S
  second_or place g h scope B S st = operand (Or place g h) h scope B S st (still g h B st.fit.1) (λ own. own.1) st.fresh.1 (λ x is. inr is)

  first_implies : (place : ℕ) (g h : Formula) (scope : List VarId) (B S : VarId → Type 0) → Stands None (Implies place g h) scope [] B S → Stands None g scope [] B S
  first_implies place g h scope B S st = operand (Implies place g h) g scope B S st st.fit.0 (λ own. own.2) st.fresh.0 (λ x is. inl is)

  second_implies : (place : ℕ) (g h : Formula) (scope : List VarId) (B S : VarId → Type 0) → Stands None (Implies place g h) scope [] B S → Stands None h scope [] B S
  second_implies place g h scope B S st = operand (Implies place g h) h scope B S st (still g h B st.fit.1) (λ own. own.3) st.fresh.1 (λ x is. inr is)

  apart_from : (xs scope : List VarId) (S : VarId → Type 0) → ((x : VarId) → Contains xs x → S x → ⊥) → VarsUnder (Contains (scope ++ [])) S → (x : VarId) → Contains xs x → Contains scope x → ⊥
  apart_from xs scope S fresh inside x there at = fresh x there (inside x (in_front scope [] x at))

  freed : (xs : List VarId) (g : Formula) (scope : List VarId) → ((x : VarId) → IsFree x g × (Contains xs x → ⊥) → Contains (scope ++ []) x) → (x : VarId) → IsFree x g → Contains (scope ++ xs) x
  freed xs g scope free x is = ⊎_elim (λ there. Contains-append_right scope xs x there) (λ absent. in_front scope xs x (no_waiting scope x (free x (is, absent)))) (among_or_not xs x)

  widened : (xs scope : List VarId) (S : VarId → Type 0) → VarsUnder (Contains (scope ++ [])) S → VarsUnder (Contains (scope ++ xs)) (λ x. S x ⊎ Contains xs x)
  widened xs scope S inside x there = ⊎_elim (λ at. inl (inside x (in_front scope [] x at))) (λ is. inr is) (Contains-append scope xs x there)

  below_forall : (place : ℕ) (xs : List VarId) (g : Formula) (scope : List VarId) (B S : VarId → Type 0)
      → Stands None (Forall place xs g) scope [] B S → Stands (Some xs) g scope xs B (λ x. S x ⊎ Contains xs x)
  below_forall place xs g scope B S st = record {
    fit = st.fit;
    scoped = st.scoped;
    known = st.known;
    fresh = st.fresh.1;
    inside = widened xs scope S st.inside;
    apart = apart_from xs scope S st.fresh.0 st.inside;
    free = freed xs g scope (λ x is. st.free x is);
  }

  further_forall : (place : ℕ) (xs ys : List VarId) (g : Formula) (scope : List VarId) (B S : VarId → Type 0)
      → Stands (Some xs) (Forall place ys g) scope xs B S
      → Stands (Some (xs ++ ys)) g scope (xs ++ ys) B (λ x. S x ⊎ Contains ys x)
  further_forall place xs ys g scope B S st = record {
    fit = st.fit;
    scoped = st.scoped;
    known = st.known;
    fresh = st.fresh.1;
    inside = λ x there. ⊎_elim (λ at. inl (st.inside x (in_front scope xs x at)))
        (λ one. ⊎_elim (λ at. inl (st.inside x (Contains-append_right scope xs x at))) (λ at. inr at) (Contains-append xs ys x one))
        (Contains-append scope (xs ++ ys) x there);
    apart = λ x there at. ⊎_elim (λ one. st.apart x one at) (λ two. st.fresh.0 x two (st.inside x (in_front scope xs x at))) (Contains-append xs ys x there);
    free = λ x is. ⊎_elim (λ there. Contains-append_right scope (xs ++ ys) x (Contains-append_right xs ys x there))
        (λ absent. ⊎_elim (λ at. in_front scope (xs ++ ys) x at)
        (λ at. Contains-append_right scope (xs ++ ys) x (Contains-append_left xs ys x at))
        (Contains-append scope xs x (st.free x (is, absent))))
        (among_or_not ys x);
  }

  second_forall : (place : ℕ) (g h : Formula) (xs scope : List VarId) (B S : VarId → Type 0)
      → Stands (Some xs) (Implies place g h) scope xs B S → IsGuardFor scope xs g ⊎ (xs ≡ [])
      → Stands None h (scope ++ xs) [] (BoundOrFreeIn B g) S
  second_forall place g h xs scope B S st either =
      stands_in h (scope ++ xs) (BoundOrFreeIn B g) S
      (fit_under entries sorts h (BoundOrFreeIn B g) (Besides B (InfersSort B g))
      (λ x one. ⊎_elim (λ at. inl at) (λ is. ⊎_elim (λ own. finds g B B own.2 (λ y b. b) x is)
      (λ all. found_here all x is) st.known) one) st.fit.1)
      (λ x one. ⊎_elim (λ at. in_front scope xs x (st.scoped x at)) (λ is. st.free x (inl is)) one)
      (⊎_elim (λ own. inl own.3) (λ all. inr (λ x there.
      ⊎_elim (λ at. inl (all x at)) (λ one. ⊎_elim (λ guards. inr (guards.tells x one))
      (λ none. absurd (none_in_nil x (subst (λ (l : List VarId). Contains l x) none one))) either)
      (Contains-append scope xs x there))) st.known)
      st.fresh.1 st.inside (λ x is. st.free x (inr is))
    where
      found_here : VarsUnder (Contains scope) B → (x : VarId) → IsFree x g → Besides B (InfersSort B g) x
      found_here all x is = ⊎_elim (λ guards. finds g (Contains scope) B guards.safe all x is)
          (λ none. ⊎_elim (λ at. inl (all x at)) (λ one. absurd (none_in_nil x (subst (λ (l : List VarId). Contains l x) none one))) (Contains-append scope xs x (st.free x (inl is))))
          either

  keeps : (aim : Aim) (f : Formula) (scope : List VarId) (p : Plan) (B S : VarId → Type 0) → Stands (below aim) f scope (waiting aim) B S → Elab c s aim f scope (Ok p) → Kept p scope
  keeps Up (Atom place name terms) scope p B S st e = by_leaf (λ (r : Plan). Kept r scope) p (c name) place (plan.CausePlan 0 place name terms) e st.fit
  keeps Up (Not place g) scope p B S st e = keeps Down g scope p B S (within_not place g scope B S st) e
  keeps Up (And place g h) scope p B S st e =
      by_two (λ (r : Plan). Kept r scope) p _ _ _ e (λ l r a b. (
        tt,
        keeps Up g scope l B S (first_and place g h scope B S st) a,
        keeps Up h scope r (BoundOrFreeIn B g) S
            (second_and place g h scope B S st) b,
      ))
  keeps Up (Or place g h) scope p B S st e =
      by_one_of_two (λ (r : Plan). Kept r scope) p scope g h _ _ e
      (λ q k test. (fit_under entries sorts g NoneBound B (nothing_under B) st.fit.0, keeps Up h scope q B S (second_or place g h scope B S st) k))
      (λ o q i k. (tt, keeps Up g scope o B S (first_or place g h scope B S st) i, keeps Up h scope q B S (second_or place g h scope B S st) k))
      (λ q i test. (fit_under entries sorts h NoneBound (Besides B (InfersSort B g)) (nothing_under (Besides B (InfersSort B g))) st.fit.1, keeps Up g scope q B S (first_or place g h scope B S st) i))
  keeps Up (Implies place g h) scope p B S st e =
      implication_kept place place scope [] g h (Elab c s Down g) (Elab c s Up h) p B S e st.fit st.scoped
      (⊎_elim (λ own. inl own.2) (λ all. inr all) st.known) st.fresh.0 st.inside st.apart
      (λ x is. st.free x (inl is))
      (λ W C q there. keeps Down g W q C S there)
      (λ q k either. keeps Up h (scope ++ []) q B S (stands_in h (scope ++ []) B S (still g h B st.fit.1) (λ x there. in_front scope [] x (st.scoped x there))
      (⊎_elim (λ own. inl own.3) (λ all. inr (λ x there. all x (no_waiting scope x there))) st.known) st.fresh.1 st.inside (λ x is. st.free x (inr is))) k)
  keeps Up (Forall place xs g) scope p B S st e = keeps (UpForAll place xs) g scope p B (λ x. S x ⊎ Contains xs x) (below_forall place xs g scope B S st) e
  keeps Up (Eventually place interval g) scope p B S st e = by_one (λ (r : Plan). Kept r scope) p _ _
      (with_end place interval.high _ p e).2 (λ q a. (
        tt,
        keeps Up g scope q B S
            (operand (Eventually place interval g) g scope B S st st.fit (λ never. absurd never) st.fresh (λ x is. is))
            a,
      ))
  keeps Up (Always place interval g) scope p B S st e = by_one (λ (r : Plan). Kept r scope) p _ _
      (with_end place interval.high _ p e).2 (λ q a. (
        tt,
        keeps Up g scope q B S
            (operand (Always place interval g) g scope B S st st.fit (λ never. absurd never) st.fresh (λ x is. is)) a,
      ))
  keeps Up (Until place interval g h) scope p B S st e =
      by_two (λ (r : Plan). Kept r scope) p _ _ _ (with_end place interval.high _ p e).2 (λ l r a b. (
        tt,
        keeps Up g scope l B S (operand (Until place interval g h) g scope B S st st.fit.0 (λ never. absurd never) st.fresh.0 (λ x is. inl is)) a,
        keeps Up h scope r B S (operand (Until place interval g h) h scope B S st (still g h B st.fit.1) (λ never. absurd never) st.fresh.1 (λ x is. inr is)) b,
      ))
  keeps Up (Next place interval g) scope p B S st e = by_one (λ (r : Plan). Kept r scope) p _ _
      (from_now place interval.low interval.high _ p e).3
      (λ q a. (
        tt,
        keeps Up g scope q B S (operand (Next place interval g) g scope B S st st.fit
            (λ never. absurd never) st.fresh (λ x is. is)) a,
      ))
  keeps Down (Atom place name terms) scope p B S st e = by_leaf (λ (r : Plan). Kept r scope) p (s name) place (plan.SuppressPlan 0 place name terms) e st.fit
  keeps Down (Not place g) scope p B S st e = keeps Up g scope p B S (within_not place g scope B S st) e
  keeps Down (And place g h) scope p B S st e =
      by_one_of_two (λ (r : Plan). Kept r scope) p scope (Not (formula_place g) g) (Not (formula_place h) h) _ _ e
      (λ q k test. (fit_under entries sorts g NoneBound B (nothing_under B) st.fit.0, keeps Down h scope q (BoundOrFreeIn B g) S (second_and place g h scope B S st) k))
      (λ o q i k. (tt, keeps Down g scope o B S (first_and place g h scope B S st) i, keeps Down h scope q (BoundOrFreeIn B g) S (second_and place g h scope B S st) k))
      (λ q i test. (
        fit_under entries sorts h NoneBound (Besides B (InfersSort B g))
            (nothing_under (Besides B (InfersSort B g))) st.fit.1,
        keeps Down g scope q B S
            (first_and place g h scope B S st) i,
      ))
  keeps Down (Or place g h) scope p B S st e =
      by_two (λ (r : Plan). Kept r scope) p _ _ _ e (λ l r a b. (tt, keeps Down g scope l B S (first_or place g h scope B S st) a, keeps Down h scope r B S (second_or place g h scope B S st) b))
  keeps Down (Implies place g h) scope p B S st e =
      by_two (λ (r : Plan). Kept r scope) p _ _ _ e (λ l r a b. (
        tt,
        keeps Up g scope l B S (first_implies place g h scope B S st) a,
        keeps Down h scope r B S
            (second_implies place g h scope B S st) b,
      ))
  keeps Down (Exists place xs g) scope p B S st e =
      exclusion_kept place scope xs g (Elab c s Down g) p B (λ x. S x ⊎ Contains xs x) e st.fit st.scoped st.known
      st.fresh.1 (widened xs scope S st.inside) (apart_from xs scope S st.fresh.0 st.inside)
      (freed xs g scope (λ x is. st.free x is))
      (λ C q there. keeps Down g (scope ++ xs) q C (λ x. S x ⊎ Contains xs x) there)
  keeps Down (Eventually place interval g) scope p B S st e = by_one (λ (r : Plan). Kept r scope) p _ _
      (with_end place interval.high _ p e).2 (λ q a. (
        tt,
        keeps Down g scope q B S
            (operand (Eventually place interval g) g scope B S st st.fit (λ never. absurd never) st.fresh (λ x is. is))
            a,
      ))
  keeps Down (Always place interval g) scope p B S st e = by_one (λ (r : Plan). Kept r scope) p _ _
      (with_end place interval.high _ p e).2 (λ q a. (
        tt,
        keeps Down g scope q B S
            (operand (Always place interval g) g scope B S st st.fit (λ never. absurd never) st.fresh (λ x is. is)) a,
      ))
  keeps (UpForAll first xs) (Forall place ys g) scope p B S st e = keeps (UpForAll first (xs ++ ys)) g scope p B (λ x. S x ⊎ Contains ys x) (further_forall place xs ys g scope B S st) e
  keeps (UpForAll first xs) (Implies place g h) scope p B S st e =
      implication_kept first place scope xs g h (Elab c s Down g) (Elab c s Up h) p B S e st.fit st.scoped
      (⊎_elim (λ own. inl own.2) (λ all. inr all) st.known) st.fresh.0 st.inside st.apart
      (λ x is. st.free x (inl is))
      (λ W C q there. keeps Down g W q C S there)
      (λ q k either. keeps Up h (scope ++ xs) q (BoundOrFreeIn B g) S (second_forall place g h xs scope B S st either) k)
  keeps (UpForAll first xs) (Not place g) scope p B S st e =
      exclusion_kept first scope xs g (Elab c s Down g) p B S e st.fit st.scoped (⊎_elim (λ own. inl own.1) (λ all. inr all) st.known) st.fresh st.inside st.apart st.free
      (λ C q there. keeps Down g (scope ++ xs) q C S there)
  keeps (UpForAll first xs) f scope p B S st e = absurd (not_refused p _ e)
  keeps aim f scope p B S st e = absurd (not_refused p _ e)

pub made_keeps : (entries : List NameEntry) (sorts : VarId → Sort) (c s : NameId → Bool) (f : Formula) (p : Plan)
    → IsClosed f → BindsFresh f (λ x. ⊥) → SortsFit entries sorts NoneBound f → Elab c s Up f [] (Ok p)
    → AtEach (KeepsSorts entries sorts) p []
made_keeps entries sorts c s f p closed fresh fit made =
    keeps entries sorts c s Up f [] p NoneBound (λ x. ⊥) (record {
      fit = fit;
      scoped = λ x never. absurd never;
      known = inr (λ x none. none_in_nil x none);
      fresh = fresh;
      inside = λ x none. none_in_nil x none;
      apart = λ x none at. none_in_nil x none;
      free = λ x is. absurd (closed x is);
    }) made

numbered_keeps : (entries : List NameEntry) (sorts : VarId → Sort) (p : Plan) (n g : ℕ) (scope : List VarId) → KeepsSorts entries sorts p scope → KeepsSorts entries sorts (renumber n g p) scope
numbered_keeps entries sorts (plan.CausePlan node place name terms) n g scope k = k
numbered_keeps entries sorts (plan.SuppressPlan node place name terms) n g scope k = k
numbered_keeps entries sorts (plan.Both node l r) n g scope k = k
numbered_keeps entries sorts (plan.Either node l r) n g scope k = k
numbered_keeps entries sorts (plan.TestOr node guard test body) n g scope k = k
numbered_keeps entries sorts (plan.Guarded node vars guard test body) n g scope k = k
numbered_keeps entries sorts (plan.EventuallyPlan node place low high body) n g scope k = k
numbered_keeps entries sorts (plan.AlwaysPlan node place low high body) n g scope k = k
numbered_keeps entries sorts (plan.UntilPlan node place low high l r) n g scope k = k
numbered_keeps entries sorts (plan.NextPlan node place high body) n g scope k = k

all_keep : (entries : List NameEntry) (g : ℕ) (rules : List Rule) (made : List Plan)
    → AllByRecursion (IsWellFormedRule entries) rules → AllByRecursion
    (λ (rule : Rule). HasVarSorts entries rule.formula) rules → AllZip (HasPlan entries) (formulas_of rules) made
    → AllByRecursion (λ (p : Plan). (sorts : VarId → Sort) × PlanKeepsSorts entries sorts p) (renumber_all g made)
all_keep entries g [] [] formed sorted has = tt
all_keep entries g [] (p ∷ made) formed sorted has = absurd has
all_keep entries g (rule ∷ rules) [] formed sorted has = absurd has
all_keep entries g (rule ∷ rules) (p ∷ made) formed sorted has = (
  (
    sorted.0.0,
    each_stays (KeepsSorts entries sorted.0.0) (numbered_keeps entries sorted.0.0) p 0 g []
        (made_keeps entries sorted.0.0 (is_causable entries) (is_suppressible entries) rule.formula p formed.0.closed
        formed.0.fresh sorted.0.1 has.0),
  ),
  all_keep entries (g + guard_count p) rules made formed.1 sorted.1 has.1,
)

pub policy_keeps : (entries : List NameEntry) (rules : List Rule) (plans : List Plan)
    (guards : List (Formula × List VarId)) → IsWellFormedPolicy entries rules
    → AllByRecursion (λ (rule : Rule). HasVarSorts entries rule.formula) rules
    → ArePlanned entries (formulas_of rules) plans guards → AllByRecursion (λ (p : Plan). (sorts : VarId → Sort) × PlanKeepsSorts entries sorts p) plans
policy_keeps entries rules plans guards formed sorted are =
    subst (AllByRecursion (λ (p : Plan). (sorts : VarId → Sort) × PlanKeepsSorts entries sorts p)) (sym are.numbered) (all_keep entries 0 rules are.made formed.each sorted are.answered)
