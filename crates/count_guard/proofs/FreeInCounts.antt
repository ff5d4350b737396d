-- The free variables of copies and of the formulas of counts.
use Rattle.count_guard.proofs.Vocabulary.{◌≡◌, ℕ, zero, suc, ◌+◌, ◌*◌, ◌<◌, ◌≤◌, ◌⊎◌, List, [], ◌∷◌, Contains, length, map, refl, sym, subst, ◌∙◌, arith, inl, inr, ⊎_elim, length-map}
use Rattle.count_guard.proofs.Vocabulary.{Contains-append, Contains-append_left, Contains-append_right, Contains-from_map, first_or_later, later, none_in_nil, only_item, same_or_other, variable_is, Term, Var}
use Rattle.count_guard.proofs.Vocabulary.{Const, VarId, cases_lt, Formula, True, False, Atom, Equal, Less, AtMost, Not, And, Or, Implies, Exists, Forall, Prev, Next, Once, Historically, Since, Eventually}
use Rattle.count_guard.proofs.Vocabulary.{Always, Until, IsFree, Substitution, bound_count, copy_of, new_variables, term_given, with_new_variables, with_term, with_terms, all_of, at_least, after_copies}
use Rattle.count_guard.proofs.Vocabulary.{body_copy, conjoined_with, copies_differ, counted_copies, counted_copy, different_copies, differs_from, equal_pairs, FreeInCopies, FreeInCounts}
use Rattle.count_guard.specs.declared.counting.CountKind.TheVariants as kinds
use Rattle.count_guard.proofs.GivenTerms.{with_term-other, with_term-same}
use Rattle.count_guard.proofs.NumberedVariables.{new_many}

-- ---- copies

-- what stands for a variable is one of the terms, or what stood there
pub given_either : (xs : List VarId) (terms : List Term) (given : Substitution) (y : VarId) → length terms ≡ length xs
    → Contains terms (with_terms xs terms given y) ⊎ ((with_terms xs terms given y ≡ given y) × (Contains xs y → ⊥))
given_either [] terms given y long = inr (refl, none_in_nil y)
given_either (x ∷ xs) [] given y long = absurd (omega (arith, long))
given_either (x ∷ xs) (term ∷ terms) given y long = ⊎_elim
    (λ there. inl (later (with_terms xs terms (with_term x term given) y) term terms there))
    (λ kept. ⊎_elim
    (λ same. inl (0, omega arith, sym (kept.0 ∙ with_term-same x y term given same)))
    (λ other. inr (kept.0 ∙ with_term-other x y term given other, λ there. ⊎_elim other kept.1 (first_or_later y x xs there)))
    (same_or_other x y))
    (given_either xs terms (with_term x term given) y (omega (arith, long)))

-- the variable stands in the place of a free variable of the formula
abbrev pub StandsFor : Substitution → Formula → VarId → Type 0
StandsFor given f x = (y : VarId) × IsFree y f × (given y ≡ Var x)

term_for : (given : Substitution) (term : Term) (x : VarId) → term_given given term ≡ Var x → (y : VarId) × (term ≡ Var y) × (given y ≡ Var x)
term_for given (Var y) x is = (y, refl, is)
term_for given (Const value) x is = absurd (cc)

pub terms_for : (given : Substitution) (terms : List Term) (x : VarId) → Contains (map (term_given given) terms) (Var x) → (y : VarId) × Contains terms (Var y) × (given y ≡ Var x)
terms_for given terms x there =
    let found = Contains-from_map (term_given given) terms (Var x) there in
    let one = term_for given found.0 x found.2 in
    (one.0, subst (Contains terms) one.1 found.1, one.2)

pub sides_for : (given : Substitution) (s t : Term) (x : VarId) → (term_given given s ≡ Var x) ⊎ (term_given given t ≡ Var x)
    → (y : VarId) × ((s ≡ Var y) ⊎ (t ≡ Var y)) × (given y ≡ Var x)
sides_for given s t x (inl is) = let one = term_for given s x is in (one.0, inl one.1, one.2)
sides_for given s t x (inr is) = let one = term_for given t x is in (one.0, inr one.1, one.2)

variable_there : (xs : List VarId) (x : VarId) → Contains (map Var xs) (Var x) → Contains xs x
variable_there xs x there =
    let found = Contains-from_map Var xs (Var x) there in
    subst (Contains xs) (variable_is found.0 x found.2) found.1

pub stands_left : (given : Substitution) (f h : Formula) (x : VarId) → ((y : VarId) → IsFree y f → IsFree y h) → StandsFor given f x → StandsFor given h x
stands_left given f h x within found = (found.0, within found.0 found.1, found.2)

pub stands_under : (given : Substitution) (f h : Formula) (next : ℕ) (xs : List VarId) (x : VarId) → ((y : VarId) → IsFree y f → (Contains xs y → ⊥) → IsFree y h)
    → (Contains (new_variables next xs) x → ⊥) → StandsFor (with_new_variables next xs given) f x → StandsFor given h x
stands_under given f h next xs x within out found =
    let many : length (map Var (new_variables next xs)) ≡ length xs = length-map (new_variables next xs) Var ∙ new_many next xs in
    ⊎_elim
    (λ there. absurd (out (variable_there (new_variables next xs) x (subst (Contains (map Var (new_variables next xs))) found.2 there))))
    (λ kept. (found.0, within found.0 found.1 kept.1, sym kept.0 ∙ found.2))
    (given_either xs (map Var (new_variables next xs)) given found.0 many)

pub copy_free : (at : ℕ) (f : Formula) (given : Substitution) (next : ℕ) (x : VarId) → IsFree x (copy_of at given next f) → StandsFor given f x
copy_free at (True place) given next x free = absurd free
copy_free at (False place) given next x free = absurd free
copy_free at (Atom place name terms) given next x free = terms_for given terms x free
copy_free at (Equal place s t) given next x free = sides_for given s t x free
copy_free at (Less place s t) given next x free = sides_for given s t x free
copy_free at (AtMost place s t) given next x free = sides_for given s t x free
copy_free at (Not place f) given next x free = stands_left given f (Not place f) x (λ y h. h) (copy_free at f given next x free)
copy_free at (And place f g) given next x (inl free) = stands_left given f (And place f g) x (λ y h. inl h) (copy_free at f given next x free)
copy_free at (And place f g) given next x (inr free) = stands_left given g (And place f g) x (λ y h. inr h) (copy_free at g given (next + bound_count f) x free)
copy_free at (Or place f g) given next x (inl free) = stands_left given f (Or place f g) x (λ y h. inl h) (copy_free at f given next x free)
copy_free at (Or place f g) given next x (inr free) = stands_left given g (Or place f g) x (λ y h. inr h) (copy_free at g given (next + bound_count f) x free)
copy_free at (Implies place f g) given next x (inl free) = stands_left given f (Implies place f g) x (λ y h. inl h) (copy_free at f given next x free)
copy_free at (Implies place f g) given next x (inr free) = stands_left given g (Implies place f g) x (λ y h. inr h) (copy_free at g given (next + bound_count f) x free)
copy_free at (Exists place xs f) given next x free = stands_under given f (Exists place xs f) next xs x (λ y h out. (h, out)) free.1
    (copy_free at f (with_new_variables next xs given) (next + length xs) x free.0)
copy_free at (Forall place xs f) given next x free = stands_under given f (Forall place xs f) next xs x (λ y h out. (h, out)) free.1
    (copy_free at f (with_new_variables next xs given) (next + length xs) x free.0)
copy_free at (Prev place interval f) given next x free = stands_left given f (Prev place interval f) x (λ y h. h) (copy_free at f given next x free)
copy_free at (Next place interval f) given next x free = stands_left given f (Next place interval f) x (λ y h. h) (copy_free at f given next x free)
copy_free at (Once place interval f) given next x free = stands_left given f (Once place interval f) x (λ y h. h) (copy_free at f given next x free)
copy_free at (Historically place interval f) given next x free = stands_left given f (Historically place interval f) x (λ y h. h) (copy_free at f given next x free)
copy_free at (Since place interval f g) given next x (inl free) = stands_left given f (Since place interval f g) x (λ y h. inl h) (copy_free at f given next x free)
copy_free at (Since place interval f g) given next x (inr free) = stands_left given g (Since place interval f g) x (λ y h. inr h) (copy_free at g given (next + bound_count f) x free)
copy_free at (Eventually place interval f) given next x free = stands_left given f (Eventually place interval f) x (λ y h. h) (copy_free at f given next x free)
copy_free at (Always place interval f) given next x free = stands_left given f (Always place interval f) x (λ y h. h) (copy_free at f given next x free)
copy_free at (Until place interval f g) given next x (inl free) = stands_left given f (Until place interval f g) x (λ y h. inl h) (copy_free at f given next x free)
copy_free at (Until place interval f g) given next x (inr free) = stands_left given g (Until place interval f g) x (λ y h. inr h) (copy_free at g given (next + bound_count f) x free)

pub free_in_copies : FreeInCopies
free_in_copies at given next f x free = copy_free at f given next x free

-- ---- counts

conjoined_free : (at : ℕ) (f : Formula) (fs : List Formula) (x : VarId) → IsFree x (conjoined_with at f fs) → (g : Formula) × Contains (f ∷ fs) g × IsFree x g
conjoined_free at f [] x free = (f, (0, omega arith, refl), free)
conjoined_free at f (g ∷ fs) x (inl free) = (f, (0, omega arith, refl), free)
conjoined_free at f (g ∷ fs) x (inr free) = let found = conjoined_free at g fs x free in (found.0, later found.0 f (g ∷ fs) found.1, found.2)

all_free : (at : ℕ) (fs : List Formula) (x : VarId) → IsFree x (all_of at fs) → (g : Formula) × Contains fs g × IsFree x g
all_free at [] x free = absurd free
all_free at (f ∷ fs) x free = conjoined_free at f fs x free

pairs_free : (at : ℕ) (xs ys : List VarId) (f : Formula) (x : VarId) → Contains (equal_pairs at xs ys) f → IsFree x f → Contains xs x ⊎ Contains ys x
pairs_free at [] ys f x there free = absurd (none_in_nil f there)
pairs_free at (a ∷ xs) [] f x there free = absurd (none_in_nil f there)
pairs_free at (a ∷ xs) (b ∷ ys) f x there free = ⊎_elim
    (λ same. let pair : IsFree x (Equal at (Var a) (Var b)) = subst (IsFree x) (sym same) free in
    ⊎_elim
    (λ left. inl (0, omega arith, variable_is a x left))
    (λ right. inr (0, omega arith, variable_is b x right)) pair)
    (λ behind. ⊎_elim (λ left. inl (later x a xs left)) (λ right. inr (later x b ys right)) (pairs_free at xs ys f x behind free))
    (first_or_later f (Equal at (Var a) (Var b)) (equal_pairs at xs ys) there)

module _ (at next : ℕ) (counted : List VarId) (x : VarId) where
  copy_within : (copy copies : ℕ) → copy < copies → Contains (counted_copy next counted copy) x → Contains (counted_copies next counted copies) x
  copy_within copy zero within there = absurd (omega arith)
  copy_within copy (suc copies) within there = ⊎_elim
      (λ before. Contains-append_left (counted_copies next counted copies) (counted_copy next counted copies) x (copy_within copy copies before there))
      (λ past. let same : copy ≡ copies = omega arith in
      Contains-append_right (counted_copies next counted copies) (counted_copy next counted copies) x (subst (λ n. Contains (counted_copy next counted n) x) same there))
      (cases_lt copy copies)

  differs_free : (copy earlier copies : ℕ) → copy < copies → earlier ≤ copy → (f : Formula) → Contains (differs_from at next counted copy earlier) f → IsFree x f
      → Contains (counted_copies next counted copies) x
  differs_free copy zero copies within upto f there free = absurd (none_in_nil f there)
  differs_free copy (suc earlier) copies within upto f there free =
      let one = copies_differ at next counted earlier copy in
      ⊎_elim
      (λ front. differs_free copy earlier copies within (omega arith) f front free)
      (λ last. let is : one ≡ f = only_item one f last in
      let found = all_free at (equal_pairs at (counted_copy next counted earlier) (counted_copy next counted copy)) x (subst (IsFree x) (sym is) free) in
      ⊎_elim (copy_within earlier copies (omega arith)) (copy_within copy copies within)
      (pairs_free at (counted_copy next counted earlier) (counted_copy next counted copy) found.0 x found.1 found.2))
      (Contains-append (differs_from at next counted copy earlier) (one ∷ []) f there)

  abbrev IsOfBody : Formula → Type 0
  IsOfBody body = IsFree x body × (Contains counted x → ⊥)

  body_free : (own : ℕ) (body : Formula) (copy copies : ℕ) → copy < copies → IsFree x (body_copy at next own counted body copy)
      → IsOfBody body ⊎ Contains (counted_copies next counted copies) x
  body_free own body copy copies within free =
      let xs = counted_copy next counted copy in
      let many : length (map Var xs) ≡ length counted = length-map xs Var ∙ new_many (next + copy * length counted) counted in
      let found = copy_free at body (with_terms counted (map Var xs) Var) (own + copy * bound_count body) x free in
      ⊎_elim
      (λ there. inr (copy_within copy copies within (variable_there xs x (subst (Contains (map Var xs)) found.2 there))))
      (λ kept. let is : found.0 ≡ x = variable_is found.0 x (sym kept.0 ∙ found.2) in
      inl (subst (λ (y : VarId). IsFree y body × (Contains counted y → ⊥)) is (found.1, kept.1)))
      (given_either counted (map Var xs) Var found.0 many)

  copies_free : (own : ℕ) (body : Formula) (copies most : ℕ) → copies ≤ most → (f : Formula) → Contains (different_copies at next own counted body copies) f → IsFree x f
      → IsOfBody body ⊎ Contains (counted_copies next counted most) x
  copies_free own body zero most upto f there free = absurd (none_in_nil f there)
  copies_free own body (suc copies) most upto f there free =
      let one = body_copy at next own counted body copies in
      let others = differs_from at next counted copies copies in
      ⊎_elim
      (λ front. copies_free own body copies most (omega arith) f front free)
      (λ back. ⊎_elim
      (λ same. body_free own body copies most (omega arith) (subst (IsFree x) (sym same) free))
      (λ behind. inr (differs_free copies copies most (omega arith) (omega arith) f behind free))
      (first_or_later f one others back))
      (Contains-append (different_copies at next own counted body copies) (one ∷ others) f there)

  at_least_free : (body : Formula) (k : ℕ) → IsFree x (at_least at next counted body k) → IsOfBody body
  at_least_free body k free =
      let own = next + k * length counted in
      let found = all_free at (different_copies at next own counted body k) x free.0 in
      ⊎_elim (λ of_body. of_body) (λ bound. absurd (free.1 bound)) (copies_free own body k k (omega arith) found.0 found.1 found.2)

pub free_in_counts : FreeInCounts
free_in_counts kinds.AtLeast k counted body next at x free = at_least_free at next counted x body k free
free_in_counts kinds.AtMost k counted body next at x free = at_least_free at next counted x body (k + 1) free
free_in_counts kinds.Exactly k counted body next at x (inl free) = at_least_free at next counted x body k free
free_in_counts kinds.Exactly k counted body next at x (inr free) = at_least_free at (after_copies next counted body k) counted x body (k + 1) free
