-- The rules of a text are sorted: what its second pass finds of sorts fits them.
use Rattle.enforce_types.proofs.Vocabulary.{◌≡◌, ◌∙◌, ◌⊎◌, ⊎_elim, ℕ, Bool, true, false, cond, ◌==◌, List, [], ◌∷◌, ◌++◌, length, Option, None, Some, Result, Ok, Err, Contains, refl, sym, ap, subst}
use Rattle.enforce_types.proofs.Vocabulary.{arith, AllByRecursion, option_map, option_or, option_and_then, same_Some, none-some, first_or_later, none_in_nil, NameId, Term, Var, Const, VarId}
use Rattle.enforce_types.proofs.Vocabulary.{IsBoundIn, NoneBound, SyntaxTree, TrueTree, FalseTree, AtomTree, EqualTree, LessTree, AtMostTree, NotTree, AndTree, OrTree, ImpliesTree, ExistsTree}
use Rattle.enforce_types.proofs.Vocabulary.{ForallTree, PrevTree, NextTree, OnceTree, HistoricallyTree, SinceTree, EventuallyTree, AlwaysTree, UntilTree, SyntaxRefusal, SyntaxTerm, entry_columns}
use Rattle.enforce_types.proofs.Vocabulary.{value_sort, name_number, NameEntry, Sort, Int, Text, EventName, Point, SortOf, ThisSort, Use, argument_points, binder_points, entry_named}
use Rattle.enforce_types.proofs.Vocabulary.{syntax_term_place, points, use_of, bound_names, binding_names, term_in, bound_variables_from, Rule, formula_in, name_in, rule_in, rule_with, rules_in}
use Rattle.enforce_types.proofs.Vocabulary.{terms_in, with_both, FollowsFirstPass, IsPolicyAnswer, sort_clash, first_point_refusal, for_variable, sort_given, known_after, event_name_refusal}
use Rattle.enforce_types.proofs.Vocabulary.{policy_refusal, point_refusal, rule_refusal, sort_of_term, MadeOfOne, both_from, one_from, or_none, PolicyRefusal, AreTermsOfSort, Besides, FillSorts}
use Rattle.enforce_types.proofs.Vocabulary.{SortsFit, InfersSort, HasVarSorts, TakesSort, term_sort}
use Rattle.std.proofs.Common.{slice_get}
use Rattle.enforce_types.proofs.FoundSorts.{VarsUnder, fit_under, found_under}
use Rattle.enf_formula.specs.meaning.Satisfaction as tree
use Rattle.policy_syntax.specs.meaning.Trees as syntax
use Rattle.formula_reader.specs.meaning.Resolution as wanted

-- ---- the first of two that is there

or_first : {A : Type 0} (a b : Option A) (x : A) → a ≡ Some x → option_or a b ≡ Some x
or_first None b x e = absurd (none-some x e)
or_first (Some y) b x e = e

or_second : {A : Type 0} (a b : Option A) (x : A) → a ≡ None → b ≡ Some x → option_or a b ≡ Some x
or_second None b x e is = is
or_second (Some y) b x e is = absurd (cc)

-- ---- what is known after points

abbrev behind : (before : List Point) → List Point → List Point
behind before [] = before
behind before (point ∷ rest) = behind (point ∷ before) rest

behind-append : (before front back : List Point) → behind before (front ++ back) ≡ behind (behind before front) back
behind-append before [] back = refl
behind-append before (point ∷ front) back = behind-append (point ∷ before) front back

abbrev Knows : List Point → VarId → Type 0
Knows before x = (sort : Sort) × (known_after before x ≡ Some sort)

stays_known : (before rest : List Point) (x : VarId) (sort : Sort) → known_after before x ≡ Some sort → known_after (behind before rest) x ≡ Some sort
stays_known before [] x sort is = is
stays_known before (point ∷ rest) x sort is =
    stays_known (point ∷ before) rest x sort (or_first (known_after before x) (sort_given (known_after before) x point) sort is)

clear_front : (entries : List NameEntry) (before front back : List Point) → first_point_refusal entries before (front ++ back) ≡ None
    → (first_point_refusal entries before front ≡ None) × (first_point_refusal entries (behind before front) back ≡ None)
clear_front entries before [] back e = (refl, e)
clear_front entries before (point ∷ front) back e =
    let h = or_none (point_refusal entries (known_after before) point) (first_point_refusal entries (point ∷ before) (front ++ back)) e in
    let more = clear_front entries (point ∷ before) front back h.1 in
    (ap (λ (r : Option PolicyRefusal). option_or r (first_point_refusal entries (point ∷ before) front)) h.0 ∙ more.0, more.1)

module _ (entries : List NameEntry) (sorts : VarId → Sort) where
  -- the sorts are those that are known after the points
  abbrev Extend : List Point → Type 0
  Extend before = (x : VarId) (sort : Sort) → known_after before x ≡ Some sort → sorts x ≡ sort

  extend_front : (before rest : List Point) → Extend (behind before rest) → Extend before
  extend_front before rest extend x sort is = extend x sort (stays_known before rest x sort is)

  -- a term of which the sort is known has it
  known_term : (before : List Point) (t : Term) (sort : Sort) → Extend before → sort_of_term (known_after before) (Some t) ≡ Some sort → term_sort sorts t ≡ sort
  known_term before (Var x) sort extend is = extend x sort is
  known_term before (Const value) sort extend is = same_Some (value_sort value) sort is

  no_clash : (place : ℕ) (a b : Sort) → sort_clash place (Some a) (Some b) ≡ None → a ≡ b
  no_clash place Int Int e = refl
  no_clash place Text Text e = refl
  no_clash place Int Text e = absurd (cc)
  no_clash place Text Int e = absurd (cc)

  same_if : (n : ℕ) (sort : Sort) → cond (n == n) (Some sort) None ≡ Some sort
  same_if n sort = grind arith

  -- ---- a term of which a sort is wanted

  -- after it the term is known to be of the sort
  wanted_there : (place : ℕ) (before : List Point) (t : Term) (sort : Sort) → point_refusal entries (known_after before) (Use place (Some t) (ThisSort sort)) ≡ None
      → sort_of_term (known_after (Use place (Some t) (ThisSort sort) ∷ before)) (Some t) ≡ Some sort
  wanted_there place before (Const value) sort clear = ap Some (no_clash place (value_sort value) sort clear)
  wanted_there place before (Var x) sort clear = by (known_after before x) refl clear
    where
      by : (known : Option Sort) → known_after before x ≡ known → sort_clash place known (Some sort) ≡ None → option_or (known_after before x) (for_variable x (Some (Var x)) (Some sort)) ≡ Some sort
      by None is e = or_second (known_after before x) (for_variable x (Some (Var x)) (Some sort)) sort is (same_if x.0 sort)
      by (Some other) is e = or_first (known_after before x) (for_variable x (Some (Var x)) (Some sort)) sort (is ∙ ap Some (no_clash place other sort e))

  -- what is known of the term makes the variable known
  term_known : (before : List Point) (x : VarId) (t : Term) (sort : Sort) → t ≡ Var x → sort_of_term (known_after before) (Some t) ≡ Some sort → Knows before x
  term_known before x t sort same is = (sort, subst (λ (u : Term). sort_of_term (known_after before) (Some u) ≡ Some sort) same is)

  -- ---- arguments

  record Arguments (before after : List Point) (terms : List Term) (cols : List Sort) : Type 0 where
    fill : FillSorts sorts terms cols
    found : (x : VarId) → Contains terms (Var x) → Knows after x

  arguments : (names : List (List ℕ)) (scope : List VarId) (cols : List Sort) (terms : List SyntaxTerm)
      (ts : List Term) (before : List Point) → length cols ≡ length terms → terms_in names scope terms
      ≡ Some ts
      → first_point_refusal entries before (argument_points names scope cols terms) ≡ None
      → Extend (behind before (argument_points names scope cols terms))
      → Arguments before (behind before (argument_points names scope cols terms)) ts cols
  arguments names scope [] [] ts before long e clear extend =
      let none : [] ≡ ts = cc in
      subst (λ (us : List Term). Arguments before before us []) none (record { fill = tt; found = λ x there. absurd (none_in_nil (Var x) there) })
  arguments names scope [] (term ∷ terms) ts before long e clear extend = absurd (omega (arith, long))
  arguments names scope (col ∷ cols) [] ts before long e clear extend = absurd (omega (arith, long))
  arguments names scope (col ∷ cols) (term ∷ terms) ts before long e clear extend =
      let h = both_from ◌∷◌ (term_in names scope term) (terms_in names scope terms) ts e in
      let point : Point = Use (syntax_term_place term) (Some h.x) (ThisSort col) in
      let same : use_of names scope term (ThisSort col) ≡ point = ap (λ (t : Option Term). Use (syntax_term_place term) t (ThisSort col)) h.left in
      let rest : List Point = argument_points names scope cols terms in
      let clear' : first_point_refusal entries before (point ∷ rest) ≡ None = subst (λ (p : Point). first_point_refusal entries before (p ∷ rest) ≡ None) same clear in
      let extend' : Extend (behind (point ∷ before) rest) = subst (λ (p : Point). Extend (behind (p ∷ before) rest)) same extend in
      let n = or_none (point_refusal entries (known_after before) point) (first_point_refusal entries (point ∷ before) rest) clear' in
      let here = wanted_there (syntax_term_place term) before h.x col n.0 in
      let more = arguments names scope cols terms h.y (point ∷ before) (omega (arith, long)) h.right n.1 extend' in
      subst (λ (us : List Term). Arguments before (behind (use_of names scope term (ThisSort col) ∷ before) rest) us (col ∷ cols)) h.made
      (subst (λ (p : Point). Arguments before (behind (p ∷ before) rest) (h.x ∷ h.y) (col ∷ cols)) (sym same) (record {
        fill = (known_term (point ∷ before) h.x col (extend_front (point ∷ before) rest extend') here, more.fill);
        found = λ x there. ⊎_elim
            (λ first. let known = term_known (point ∷ before) x h.x col first here in (known.0, stays_known (point ∷ before) rest x known.0 known.1))
            (λ later. more.found x later) (first_or_later (Var x) h.x h.y there);
      }))

  -- ---- two terms

  record Sides (before after : List Point) (s t : Term) : Type 0 where
    are : AreTermsOfSort Int sorts s t
    found : (x : VarId) → (s ≡ Var x) ⊎ (t ≡ Var x) → Knows after x

  numbers : (place place' : ℕ) (s t : Term) (before : List Point) → first_point_refusal entries before (Use place (Some s) (ThisSort Int) ∷ Use place' (Some t) (ThisSort Int) ∷ []) ≡ None
      → Extend (Use place' (Some t) (ThisSort Int) ∷ Use place (Some s) (ThisSort Int) ∷ before) → Sides before (Use place' (Some t) (ThisSort Int) ∷ Use place (Some s) (ThisSort Int) ∷ before) s t
  numbers place place' s t before clear extend =
      let first : Point = Use place (Some s) (ThisSort Int) in
      let second : Point = Use place' (Some t) (ThisSort Int) in
      let n = or_none (point_refusal entries (known_after before) first) (first_point_refusal entries (first ∷ before) (second ∷ [])) clear in
      let m = or_none (point_refusal entries (known_after (first ∷ before)) second) None n.1 in
      let left = wanted_there place before s Int n.0 in
      let right = wanted_there place' (first ∷ before) t Int m.0 in
      record {
        are = (known_term (first ∷ before) s Int (extend_front (first ∷ before) (second ∷ []) extend) left, known_term (second ∷ first ∷ before) t Int extend right);
        found = λ x side. ⊎_elim
            (λ is. let known = term_known (first ∷ before) x s Int is left in (known.0, stays_known (first ∷ before) (second ∷ []) x known.0 known.1))
            (λ is. term_known (second ∷ first ∷ before) x t Int is right) side;
      }

  -- after an equation of which one side is known to be of a sort, so is the other
  record Equated (before after : List Point) (s t : Term) : Type 0 where
    same : IsBoundIn (Knows before) s ⊎ IsBoundIn (Knows before) t → term_sort sorts s ≡ term_sort sorts t
    found : (x : VarId) → TakesSort (Knows before) s t x ⊎ TakesSort (Knows before) t s x → Knows after x

  -- the second side is known where the first is
  second_known : (place : ℕ) (before : List Point) (s t : Term) (sort : Sort) → sort_clash place (sort_of_term (known_after before) (Some t)) (sort_of_term (known_after before) (Some s)) ≡ None
      → sort_of_term (known_after before) (Some s) ≡ Some sort → sort_of_term (known_after (Use place (Some t) (SortOf (Some s)) ∷ before)) (Some t) ≡ Some sort
  second_known place before s (Const value) sort clear is = ap Some (no_clash place (value_sort value) sort (subst (λ (o : Option Sort). sort_clash place (Some (value_sort value)) o ≡ None) is clear))
  second_known place before s (Var y) sort clear is = by (known_after before y) refl (subst (λ (o : Option Sort). sort_clash place (known_after before y) o ≡ None) is clear)
    where
      gives : for_variable y (Some (Var y)) (sort_of_term (known_after before) (Some s)) ≡ Some sort
      gives = subst (λ (o : Option Sort). for_variable y (Some (Var y)) o ≡ Some sort) (sym is) (same_if y.0 sort)

      by : (known : Option Sort) → known_after before y ≡ known → sort_clash place known (Some sort) ≡ None → known_after (Use place (Some (Var y)) (SortOf (Some s)) ∷ before) y ≡ Some sort
      by None is_known e = or_second (known_after before y) (sort_given (known_after before) y (Use place (Some (Var y)) (SortOf (Some s)))) sort is_known
          (or_first (for_variable y (Some (Var y)) (sort_of_term (known_after before) (Some s))) (for_variable y (Some s) (sort_of_term (known_after before) (Some (Var y)))) sort gives)
      by (Some other) is_known e = or_first (known_after before y)
          (sort_given (known_after before) y (Use place (Some (Var y)) (SortOf (Some s)))) sort
          (is_known ∙ ap Some (no_clash place other sort e))

  nothing : (b : Bool) → ◌≡◌ {A = Option Sort} (cond b None None) None
  nothing true = refl
  nothing false = refl

  -- and the first where the second is
  first_known : (place : ℕ) (before : List Point) (s t : Term) (sort : Sort) → sort_clash place (sort_of_term (known_after before) (Some t)) (sort_of_term (known_after before) (Some s)) ≡ None
      → sort_of_term (known_after before) (Some t) ≡ Some sort → sort_of_term (known_after (Use place (Some t) (SortOf (Some s)) ∷ before)) (Some s) ≡ Some sort
  first_known place before (Const value) t sort clear is =
      ap Some (sym (no_clash place sort (value_sort value) (subst (λ (o : Option Sort). sort_clash place o (Some (value_sort value)) ≡ None) is clear)))
  first_known place before (Var y) t sort clear is = by (known_after before y) refl (subst (λ (o : Option Sort). sort_clash place o (known_after before y) ≡ None) is clear)
    where
      gives : for_variable y (Some (Var y)) (sort_of_term (known_after before) (Some t)) ≡ Some sort
      gives = subst (λ (o : Option Sort). for_variable y (Some (Var y)) o ≡ Some sort) (sym is) (same_if y.0 sort)

      -- the second side may be the same variable, which then is known
      first_none : (u : Term) → sort_of_term (known_after before) (Some u) ≡ Some sort → known_after before y ≡ None → for_variable y (Some u) (known_after before y) ≡ None
      first_none (Const value) has is_known = refl
      first_none (Var z) has is_known = ap (for_variable y (Some (Var z))) is_known ∙ nothing (z.0 == y.0)

      by : (known : Option Sort) → known_after before y ≡ known → sort_clash place (Some sort) known ≡ None → known_after (Use place (Some t) (SortOf (Some (Var y))) ∷ before) y ≡ Some sort
      by None is_known e = or_second (known_after before y) (sort_given (known_after before) y (Use place (Some t) (SortOf (Some (Var y))))) sort is_known
          (or_second (for_variable y (Some t) (known_after before y)) (for_variable y (Some (Var y)) (sort_of_term (known_after before) (Some t))) sort (first_none t is is_known) gives)
      by (Some other) is_known e = or_first (known_after before y)
          (sort_given (known_after before) y (Use place (Some t) (SortOf (Some (Var y))))) sort
          (is_known ∙ ap Some (sym (no_clash place sort other e)))

  equation : (place place' : ℕ) (s t : Term) (before : List Point) → first_point_refusal entries before (Use place (Some s) wanted.NoSortWanted ∷ Use place' (Some t) (SortOf (Some s)) ∷ []) ≡ None
      → Extend (Use place' (Some t) (SortOf (Some s)) ∷ Use place (Some s) wanted.NoSortWanted ∷ before)
      → Equated before (Use place' (Some t) (SortOf (Some s)) ∷ Use place (Some s) wanted.NoSortWanted ∷
      before) s t
  equation place place' s t before clear extend =
      record {
        same = λ either. ⊎_elim
            (λ one. let k = known_here s one in
            let other = second_known place' middle s t k.0 m.0 k.1 in
            known_term after s k.0 extend (kept s k.0 k.1) ∙ sym (known_term after t k.0 extend other))
            (λ two. let k = known_here t two in
            let other = first_known place' middle s t k.0 m.0 k.1 in
            known_term after s k.0 extend other ∙ sym (known_term after t k.0 extend (kept t k.0 k.1)))
            either;
        found = λ x either. ⊎_elim
            (λ one. let k = known_here t one.1 in term_known after x s k.0 one.0 (first_known place' middle s t k.0 m.0 k.1))
            (λ two. let k = known_here s two.1 in term_known after x t k.0 two.0 (second_known place' middle s t k.0 m.0 k.1))
            either;
      }
    where
      middle : List Point
      middle = Use place (Some s) wanted.NoSortWanted ∷ before

      after : List Point
      after = Use place' (Some t) (SortOf (Some s)) ∷ middle

      n : (point_refusal entries (known_after before) (Use place (Some s) wanted.NoSortWanted) ≡ None) × (first_point_refusal entries middle (Use place' (Some t) (SortOf (Some s)) ∷ []) ≡ None)
      n = or_none (point_refusal entries (known_after before) (Use place (Some s) wanted.NoSortWanted)) (first_point_refusal entries middle (Use place' (Some t) (SortOf (Some s)) ∷ [])) clear

      m : (point_refusal entries (known_after middle) (Use place' (Some t) (SortOf (Some s))) ≡ None) × (◌≡◌ {A = Option PolicyRefusal} None None)
      m = or_none (point_refusal entries (known_after middle) (Use place' (Some t) (SortOf (Some s)))) None n.1

      kept : (u : Term) (sort : Sort) → sort_of_term (known_after middle) (Some u) ≡ Some sort → sort_of_term (known_after after) (Some u) ≡ Some sort
      kept (Var x) sort is = stays_known middle (Use place' (Some t) (SortOf (Some s)) ∷ []) x sort is
      kept (Const value) sort is = is

      known_here : (u : Term) → IsBoundIn (Knows before) u → (sort : Sort) × (sort_of_term (known_after middle) (Some u) ≡ Some sort)
      known_here (Var x) bound = (bound.0, stays_known before (Use place (Some s) wanted.NoSortWanted ∷ []) x bound.0 bound.1)
      known_here (Const value) bound = (value_sort value, refl)

  -- ---- formulas

  record Reads (before after : List Point) (f : tree.Formula) : Type 0 where
    fit : SortsFit entries sorts (Knows before) f
    found : (x : VarId) → InfersSort (Knows before) f x → Knows after x

  two : (before front back : List Point) (g h : tree.Formula) → Reads before (behind before front) g → Reads (behind before front) (behind (behind before front) back) h
      → (SortsFit entries sorts (Knows before) g × SortsFit entries sorts (Besides (Knows before) (InfersSort (Knows before) g)) h)
      × ((x : VarId) → InfersSort (Knows before) g x ⊎ InfersSort (Besides (Knows before) (InfersSort (Knows before) g)) h x → Knows (behind before (front ++ back)) x)
  two before front back g h first second = (
    (first.fit, fit_under entries sorts h (Besides (Knows before) (InfersSort (Knows before) g)) (Knows (behind before front)) more second.fit),
    λ x either. subst (λ (ps : List Point). Knows ps x) (sym (behind-append before front back)) (⊎_elim
        (λ one. let known = first.found x one in (known.0, stays_known (behind before front) back x known.0 known.1))
        (λ later. second.found x (found_under h (Besides (Knows before) (InfersSort (Knows before) g)) (Knows (behind before front)) more x later)) either),
  )
    where
      more : VarsUnder (Besides (Knows before) (InfersSort (Knows before) g)) (Knows (behind before front))
      more x either = ⊎_elim (λ known. (known.0, stays_known before front x known.0 known.1)) (λ one. first.found x one) either

  -- after points that bind variables
  bound : (before front back : List Point) (g : tree.Formula) → Reads (behind before front) (behind (behind before front) back) g → Reads before (behind before (front ++ back)) g
  bound before front back g inner = record {
    fit = fit_under entries sorts g (Knows before) (Knows (behind before front)) more inner.fit;
    found = λ x one. subst (λ (ps : List Point). Knows ps x) (sym (behind-append before front back)) (inner.found x (found_under g (Knows before) (Knows (behind before front)) more x one));
  }
    where
      more : VarsUnder (Knows before) (Knows (behind before front))
      more x known = (known.0, stays_known before front x known.0 known.1)

  -- of two operands, as they stand in the text
  reads_two : (make : tree.Formula → tree.Formula → tree.Formula) (s t : SyntaxTree) (names : List (List ℕ)) (scope : List VarId) (before : List Point) (f : tree.Formula)
      → with_both make (formula_in entries names scope s) (formula_in entries (names ++ bound_names s) scope t) ≡ Some f
      → first_point_refusal entries before (points entries names scope s ++ points entries (names ++ bound_names s) scope t) ≡ None
      → Extend (behind before (points entries names scope s ++ points entries (names ++ bound_names s) scope t))
      → ((g : tree.Formula) → formula_in entries names scope s ≡ Some g
      → first_point_refusal entries before (points entries names scope s) ≡ None
      → Extend (behind before (points entries names scope s))
      → Reads before (behind before (points entries names scope s)) g)
      → ((h : tree.Formula) (middle : List Point) → formula_in entries (names ++ bound_names s) scope t
      ≡ Some h → first_point_refusal entries middle (points entries (names ++ bound_names s) scope t) ≡ None
      → Extend (behind middle (points entries (names ++ bound_names s) scope t)) → Reads middle (behind middle (points entries (names ++ bound_names s) scope t)) h)
      → ((g h : tree.Formula) → (SortsFit entries sorts (Knows before) g × SortsFit entries sorts (Besides (Knows before) (InfersSort (Knows before) g)) h)
      × ((x : VarId) → InfersSort (Knows before) g x ⊎ InfersSort
      (Besides (Knows before) (InfersSort (Knows before) g)) h x
      → Knows (behind before (points entries names scope s ++ points entries (names ++ bound_names s) scope t))
      x)
      → Reads before (behind before (points entries names scope s ++ points entries (names ++ bound_names s) scope t)) (make g h))
      → Reads before (behind before (points entries names scope s ++ points entries (names ++ bound_names s) scope t)) f
  reads_two make s t names scope before f e clear extend left right together =
      let front : List Point = points entries names scope s in
      let back : List Point = points entries (names ++ bound_names s) scope t in
      let h = both_from make (formula_in entries names scope s) (formula_in entries (names ++ bound_names s) scope t) f e in
      let n = clear_front entries before front back clear in
      let extend' : Extend (behind (behind before front) back) = subst Extend (behind-append before front back) extend in
      let first = left h.x h.left n.0 (extend_front (behind before front) back extend') in
      let second = right h.y (behind before front) h.right n.1 extend' in
      subst (Reads before (behind before (front ++ back))) h.made (together h.x h.y (two before front back h.x h.y first second))

  reads_one : (make : tree.Formula → tree.Formula) (found : Option tree.Formula) (before after : List Point) (f : tree.Formula) → option_map make found ≡ Some f
      → ((g : tree.Formula) → found ≡ Some g → Reads before after g) → ((g : tree.Formula) → Reads before after g → Reads before after (make g)) → Reads before after f
  reads_one make found before after f e inner outer = let h = one_from make found f e in subst (Reads before after) h.made (outer h.x (inner h.x h.from))

  -- the columns of a name, and as many as there are terms
  record Named (name : List ℕ) (count : ℕ) (number : NameId) : Type 0 where
    entry : NameEntry
    is : entry_named entries name ≡ Some entry
    cols : entry_columns (slice_get entries number.0) ≡ entry.sorts
    long : length entry.sorts ≡ count

  named : (place : ℕ) (name : List ℕ) (count : ℕ) (number : NameId) → name_in entries name ≡ Some number → event_name_refusal place count (entry_named entries name) ≡ None → Named name count number
  named place name count number e clear = from (name_number entries name) refl (one_from (λ (n : ℕ). record { 0 = n }) (name_number entries name) number e)
    where
      has_length : (entry : NameEntry) → event_name_refusal place count (Some entry) ≡ None → length entry.sorts ≡ count
      has_length entry none = grind (arith, none)

      by : (found : Option NameEntry) → entry_named entries name ≡ found → event_name_refusal place count found ≡ None → slice_get entries number.0 ≡ found → Named name count number
      by None is none same = absurd (cc)
      by (Some entry) is none same = record { entry = entry; is = is; cols = ap entry_columns same; long = has_length entry none }

      from : (at : Option ℕ) → name_number entries name ≡ at → MadeOfOne (λ (n : ℕ). record { 0 = n }) (name_number entries name) number → Named name count number
      from at is_at made =
          let same : entry_named entries name ≡ slice_get entries number.0 = ap (option_and_then (slice_get entries)) made.from ∙ ap (λ (k : NameId). slice_get entries k.0) made.made in
          by (entry_named entries name) refl clear (sym same)

  two_wanted : (names : List (List ℕ)) (scope : List VarId) (s t : SyntaxTerm) (a b : Term) → term_in names scope s ≡ Some a → term_in names scope t ≡ Some b
      → use_of names scope s (ThisSort Int) ∷ use_of names scope t (ThisSort Int) ∷ [] ≡ Use (syntax_term_place s) (Some a) (ThisSort Int) ∷ Use (syntax_term_place t) (Some b) (ThisSort Int) ∷ []
  two_wanted names scope s t a b first second =
      ap (λ (o : Option Term). Use (syntax_term_place s) o (ThisSort Int) ∷ Use (syntax_term_place t) (term_in names scope t) (ThisSort Int) ∷ []) first
      ∙ ap (λ (o : Option Term). Use (syntax_term_place s) (Some a) (ThisSort Int) ∷ Use (syntax_term_place t) o (ThisSort Int) ∷ []) second

  reads : (names : List (List ℕ)) (scope : List VarId) (before : List Point) (s : SyntaxTree) (f : tree.Formula)
      → formula_in entries names scope s ≡ Some f → first_point_refusal entries before
      (points entries names scope s) ≡ None
      → Extend (behind before (points entries names scope s)) → Reads before (behind before (points entries names scope s)) f
  reads names scope before (TrueTree place) f e clear extend = let is : tree.True place ≡ f = cc in subst (Reads before before) is (record { fit = tt; found = λ x never. absurd never })
  reads names scope before (FalseTree place) f e clear extend = let is : tree.False place ≡ f = cc in subst (Reads before before) is (record { fit = tt; found = λ x never. absurd never })
  reads names scope before (AtomTree place name terms) f e clear extend =
      let h = both_from (tree.Atom place) (name_in entries name) (terms_in names scope terms) f e in
      let point : Point = EventName place name (length terms) in
      let n = or_none (point_refusal entries (known_after before) point)
      (first_point_refusal entries (point ∷ before)
      (argument_points names scope (entry_columns (entry_named entries name)) terms)) clear in
      let is = named place name (length terms) h.x h.left n.0 in
      let cols : entry_columns (entry_named entries name) ≡ entry_columns (slice_get entries h.x.0) = ap entry_columns is.is ∙ sym is.cols in
      let long : length (entry_columns (entry_named entries name)) ≡ length terms = ap length (ap entry_columns is.is) ∙ is.long in
      let args = arguments names scope (entry_columns (entry_named entries name)) terms h.y (point ∷ before) long h.right n.1 extend in
      subst (Reads before (behind before (point ∷ argument_points names scope (entry_columns (entry_named entries name)) terms))) h.made
      (record { fit = subst (FillSorts sorts h.y) cols args.fill; found = λ x there. args.found x there })
  reads names scope before (EqualTree place s t) f e clear extend =
      let h = both_from (tree.Equal place) (term_in names scope s) (term_in names scope t) f e in
      let same : points entries names scope (EqualTree place s t) ≡ Use (syntax_term_place s) (Some h.x) wanted.NoSortWanted ∷ Use (syntax_term_place t) (Some h.y) (SortOf (Some h.x)) ∷ [] =
      ap (λ (o : Option Term). Use (syntax_term_place s) o wanted.NoSortWanted ∷ Use (syntax_term_place t) (term_in names scope t) (SortOf o) ∷ []) h.left
      ∙ ap (λ (o : Option Term). Use (syntax_term_place s) (Some h.x) wanted.NoSortWanted ∷ Use (syntax_term_place t) o (SortOf (Some h.x)) ∷ []) h.right in
      let is = equation (syntax_term_place s) (syntax_term_place t) h.x h.y before
      (subst (λ (ps : List Point). first_point_refusal entries before ps ≡ None) same clear)
      (subst (λ (ps : List Point). Extend (behind before ps)) same extend) in
      subst (λ (ps : List Point). Reads before (behind before ps) f) (sym same)
      (subst (Reads before (Use (syntax_term_place t) (Some h.y) (SortOf (Some h.x)) ∷ Use
      (syntax_term_place s) (Some h.x) wanted.NoSortWanted ∷ before)) h.made
      (record { fit = is.same; found = is.found }))
  reads names scope before (LessTree place s t) f e clear extend =
      let h = both_from (tree.Less place) (term_in names scope s) (term_in names scope t) f e in
      let same = two_wanted names scope s t h.x h.y h.left h.right in
      let is = numbers (syntax_term_place s) (syntax_term_place t) h.x h.y before
      (subst (λ (ps : List Point). first_point_refusal entries before ps ≡ None) same clear)
      (subst (λ (ps : List Point). Extend (behind before ps)) same extend) in
      subst (λ (ps : List Point). Reads before (behind before ps) f) (sym same)
      (subst (Reads before (Use (syntax_term_place t) (Some h.y) (ThisSort Int) ∷ Use (syntax_term_place s)
      (Some h.x) (ThisSort Int) ∷ before)) h.made (record { fit = is.are; found = is.found }))
  reads names scope before (AtMostTree place s t) f e clear extend =
      let h = both_from (tree.AtMost place) (term_in names scope s) (term_in names scope t) f e in
      let same = two_wanted names scope s t h.x h.y h.left h.right in
      let is = numbers (syntax_term_place s) (syntax_term_place t) h.x h.y before
      (subst (λ (ps : List Point). first_point_refusal entries before ps ≡ None) same clear)
      (subst (λ (ps : List Point). Extend (behind before ps)) same extend) in
      subst (λ (ps : List Point). Reads before (behind before ps) f) (sym same)
      (subst (Reads before (Use (syntax_term_place t) (Some h.y) (ThisSort Int) ∷ Use (syntax_term_place s)
      (Some h.x) (ThisSort Int) ∷ before)) h.made (record { fit = is.are; found = is.found }))
  reads names scope before (NotTree place s) f e clear extend =
      reads_one (tree.Not place) (formula_in entries names scope s) before
      (behind before (points entries names scope s)) f e (λ g is. reads names scope before s g is clear extend)
      (λ g r. record { fit = r.fit; found = r.found })
  reads names scope before (AndTree place s t) f e clear extend =
      reads_two (tree.And place) s t names scope before f e clear extend
      (λ g is c x. reads names scope before s g is c x)
      (λ h middle is c x. reads (names ++ bound_names s) scope middle t h is c x)
      (λ g h r. record { fit = r.0; found = r.1 })
  reads names scope before (OrTree place s t) f e clear extend =
      reads_two (tree.Or place) s t names scope before f e clear extend
      (λ g is c x. reads names scope before s g is c x)
      (λ h middle is c x. reads (names ++ bound_names s) scope middle t h is c x)
      (λ g h r. record { fit = r.0; found = r.1 })
  reads names scope before (ImpliesTree place s t) f e clear extend =
      reads_two (tree.Implies place) s t names scope before f e clear extend
      (λ g is c x. reads names scope before s g is c x)
      (λ h middle is c x. reads (names ++ bound_names s) scope middle t h is c x)
      (λ g h r. record { fit = r.0; found = r.1 })
  reads names scope before (ExistsTree place xs s) f e clear extend =
      let front : List Point = binder_points names scope xs in
      let back : List Point = points entries (names ++ binding_names xs) (scope ++ bound_variables_from (length names) xs) s in
      let n = clear_front entries before front back clear in
      reads_one (tree.Exists place (bound_variables_from (length names) xs))
      (formula_in entries (names ++ binding_names xs) (scope ++ bound_variables_from (length names) xs) s) before
      (behind before (front ++ back)) f e
      (λ g is. bound before front back g (reads (names ++ binding_names xs)
      (scope ++ bound_variables_from (length names) xs) (behind before front) s g is n.1
      (subst Extend (behind-append before front back) extend)))
      (λ g r. record { fit = r.fit; found = r.found })
  reads names scope before (ForallTree place xs s) f e clear extend =
      let front : List Point = binder_points names scope xs in
      let back : List Point = points entries (names ++ binding_names xs) (scope ++ bound_variables_from (length names) xs) s in
      let n = clear_front entries before front back clear in
      reads_one (tree.Forall place (bound_variables_from (length names) xs))
      (formula_in entries (names ++ binding_names xs) (scope ++ bound_variables_from (length names) xs) s) before
      (behind before (front ++ back)) f e
      (λ g is. bound before front back g (reads (names ++ binding_names xs)
      (scope ++ bound_variables_from (length names) xs) (behind before front) s g is n.1
      (subst Extend (behind-append before front back) extend)))
      (λ g r. record { fit = r.fit; found = r.found })
  reads names scope before (PrevTree place interval s) f e clear extend =
      reads_one (tree.Prev place interval) (formula_in entries names scope s) before
      (behind before (points entries names scope s)) f e (λ g is. reads names scope before s g is clear extend)
      (λ g r. record { fit = r.fit; found = r.found })
  reads names scope before (NextTree place interval s) f e clear extend =
      reads_one (tree.Next place interval) (formula_in entries names scope s) before
      (behind before (points entries names scope s)) f e (λ g is. reads names scope before s g is clear extend)
      (λ g r. record { fit = r.fit; found = r.found })
  reads names scope before (OnceTree place interval s) f e clear extend =
      reads_one (tree.Once place interval) (formula_in entries names scope s) before
      (behind before (points entries names scope s)) f e (λ g is. reads names scope before s g is clear extend)
      (λ g r. record { fit = r.fit; found = r.found })
  reads names scope before (HistoricallyTree place interval s) f e clear extend =
      reads_one (tree.Historically place interval) (formula_in entries names scope s) before
      (behind before (points entries names scope s)) f e (λ g is. reads names scope before s g is clear extend)
      (λ g r. record { fit = r.fit; found = r.found })
  reads names scope before (SinceTree place interval s t) f e clear extend =
      reads_two (tree.Since place interval) s t names scope before f e clear extend
      (λ g is c x. reads names scope before s g is c x)
      (λ h middle is c x. reads (names ++ bound_names s) scope middle t h is c x)
      (λ g h r. record { fit = r.0; found = r.1 })
  reads names scope before (EventuallyTree place interval s) f e clear extend =
      reads_one (tree.Eventually place interval) (formula_in entries names scope s) before
      (behind before (points entries names scope s)) f e (λ g is. reads names scope before s g is clear extend)
      (λ g r. record { fit = r.fit; found = r.found })
  reads names scope before (AlwaysTree place interval s) f e clear extend =
      reads_one (tree.Always place interval) (formula_in entries names scope s) before
      (behind before (points entries names scope s)) f e (λ g is. reads names scope before s g is clear extend)
      (λ g r. record { fit = r.fit; found = r.found })
  reads names scope before (UntilTree place interval s t) f e clear extend =
      reads_two (tree.Until place interval) s t names scope before f e clear extend
      (λ g is c x. reads names scope before s g is c x)
      (λ h middle is c x. reads (names ++ bound_names s) scope middle t h is c x)
      (λ g h r. record { fit = r.0; found = r.1 })

-- ---- rules

-- the sort that is known, and for the others numbers
abbrev chosen : Option Sort → Sort
chosen None = Int
chosen (Some sort) = sort

chosen_is : (known : Option Sort) (sort : Sort) → known ≡ Some sort → chosen known ≡ sort
chosen_is None sort is = absurd (none-some sort is)
chosen_is (Some other) sort is = same_Some other sort is

rule_sorted : (entries : List NameEntry) (source : syntax.PolicyRule) (rule : Rule) → rule_in entries source ≡ Some rule → rule_refusal entries source ≡ None → HasVarSorts entries rule.formula
rule_sorted entries source rule e clear =
    let h = one_from (rule_with source) (formula_in entries [] [] source.formula) rule e in
    let after : List Point = behind [] (points entries [] [] source.formula) in
    let sorts : VarId → Sort = λ x. chosen (known_after after x) in
    let r = reads entries sorts [] [] [] source.formula h.x h.from clear (λ x sort is. chosen_is (known_after after x) sort is) in
    let fit : SortsFit entries sorts NoneBound h.x = fit_under entries sorts h.x NoneBound (Knows []) (λ x never. absurd never) r.fit in
    subst (λ (made : Rule). HasVarSorts entries made.formula) h.made (sorts, fit)

rules_sorted : (entries : List NameEntry) (sources : List syntax.PolicyRule) (rules : List Rule)
    → rules_in entries sources ≡ Some rules → policy_refusal entries sources ≡ None
    → AllByRecursion (λ (rule : Rule). HasVarSorts entries rule.formula) rules
rules_sorted entries [] rules e clear = let none : [] ≡ rules = cc in subst (AllByRecursion (λ (rule : Rule). HasVarSorts entries rule.formula)) none tt
rules_sorted entries (source ∷ sources) rules e clear =
    let h = both_from ◌∷◌ (rule_in entries source) (rules_in entries sources) rules e in
    let none = or_none (rule_refusal entries source) (policy_refusal entries sources) clear in
    subst (AllByRecursion (λ (rule : Rule). HasVarSorts entries rule.formula)) h.made (rule_sorted entries source h.x h.left none.0, rules_sorted entries sources h.y h.right none.1)

followed : (entries : List NameEntry) (rules : List Rule) (passed : Result (List syntax.PolicyRule) SyntaxRefusal)
    → FollowsFirstPass entries passed (Ok rules) → AllByRecursion
    (λ (rule : Rule). HasVarSorts entries rule.formula) rules
followed entries rules (Ok sources) h = rules_sorted entries sources rules h.1 h.0
followed entries rules (Err refusal) h = absurd (cc)

pub text_sorted : (entries : List NameEntry) (bytes : List ℕ) (rules : List Rule) → IsPolicyAnswer entries bytes (Ok rules) → AllByRecursion (λ (rule : Rule). HasVarSorts entries rule.formula) rules
text_sorted entries bytes rules answer = followed entries rules answer.passed answer.follows
