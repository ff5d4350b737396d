-- An unfolded formula holds where the formula does, if what stands in the place of each atom holds where the atom does.
use Rattle.definitions.proofs.Vocabulary.{◌≡◌, ℕ, ◌+◌, ◌-◌, ◌<ℤ◌, ◌≤ℤ◌, ◌↔◌, List, [], ◌∷◌, Contains, Option, None, Some, IsSome, length, map, refl, sym, subst, ◌∙◌, arith, inl, inr, ⊎_elim}
use Rattle.definitions.proofs.Vocabulary.{AllByRecursion, anywhere, both_sides, denials, part, since_same, under, until_same, sides_for, stands_left, stands_under, terms_for, given_either, copy_free}
use Rattle.definitions.proofs.Vocabulary.{term_copied, terms_copied, GivesSameValues, IsTermBelow, Substitution, new_variables, term_given, with_new_variables, with_terms, first_or_later, later, none_in_nil}
use Rattle.definitions.proofs.Vocabulary.{some_value, length-map, NameId, Step, Term, Const, Var, VarId, Value, Valuation, onto_values, value_at, value_of_term, values_of_terms, with_values}
use Rattle.definitions.proofs.Vocabulary.{Formula, True, False, Atom, Equal, Less, AtMost, Not, And, Or, Implies, Exists, Forall, Prev, Next, Once, Historically, Since, Eventually, Always, Until}
use Rattle.definitions.proofs.Vocabulary.{Sat, IsFree, AreSameValues, AreNumbersInOrder, HeldSince, HoldsUntil, HoldsAnywhere, value_at-bound, value_at-other, same_or_other, FitsUnfolding, FitsUnfoldings}
use Rattle.definitions.proofs.Vocabulary.{SatWith, Unfolding, atom_unfolded, unfolded, unfolded_count}
use Rattle.count_guard.proofs.NumberedVariables.{new_many}
use Rattle.std.specs.FinMap as finite

-- ---- values of all terms

-- each of the formula's free variables has a value
abbrev pub HasValues : Formula → Valuation → Type 0
HasValues f w = (x : VarId) → IsFree x f → IsSome (value_at w x)

some_there : (o : Option Value) → IsSome o → (value : Value) × (o ≡ Some value)
some_there None is = absurd (cc)
some_there (Some value) is = (value, refl)

pub all_valued : (w : Valuation) (terms : List Term) → ((x : VarId) → Contains terms (Var x) → IsSome (value_at w x)) → (values : List Value) × (values_of_terms w terms ≡ Some values)
all_valued w [] has = ([], refl)
all_valued w (Var x ∷ terms) has =
    let first = some_there (value_at w x) (has x (0, omega arith, refl)) in
    let rest = all_valued w terms (λ y there. has y (later (Var y) (Var x) terms there)) in
    (first.0 ∷ rest.0, λ i. onto_values (first.1 i) (rest.1 i))
all_valued w (Const value ∷ terms) has =
    let rest = all_valued w terms (λ y there. has y (later (Var y) (Const value) terms there)) in
    (value ∷ rest.0, λ i. onto_values (Some value) (rest.1 i))

pub bound_there : (xs : List VarId) (values : List Value) (w : Valuation) (x : VarId) → length values ≡ length xs → ((Contains xs x → ⊥) → IsSome (value_at w x))
    → IsSome (value_at (with_values xs values w) x)
bound_there [] values w x long has = has (none_in_nil x)
bound_there (y ∷ xs) [] w x long has = absurd (omega (arith, long))
bound_there (y ∷ xs) (value ∷ values) w x long has = bound_there xs values (finite.insert w y value) x (omega (arith, long)) (λ out. ⊎_elim
    (λ same. some_value (value_at (finite.insert w y value) x) value (value_at-bound w y x value same))
    (λ other. subst IsSome (sym (value_at-other w y x value other)) (has (λ there. ⊎_elim other out (first_or_later x y xs there))))
    (same_or_other y x))

copies_below : (next : ℕ) (given : Substitution) (terms : List Term) → ((x : VarId) → Contains terms (Var x) → IsTermBelow next (given x))
    → AllByRecursion (IsTermBelow next) (map (term_given given) terms)
copies_below next given [] below = tt
copies_below next given (Var x ∷ terms) below = (below x (0, omega arith, refl), copies_below next given terms (λ y there. below y (later (Var y) (Var x) terms there)))
copies_below next given (Const value ∷ terms) below = (tt, copies_below next given terms (λ y there. below y (later (Var y) (Const value) terms there)))

copies_fit : (meant : Option Unfolding) (given : Substitution) (terms : List Term) → FitsUnfolding meant terms → FitsUnfolding meant (map (term_given given) terms)
copies_fit None given terms fits = tt
copies_fit (Some meant) given terms fits = length-map terms (term_given given) ∙ fits

-- ---- unfolded formulas

-- the free variables of what a name says are its parameters
abbrev pub AreClosed : (NameId → Option Unfolding) → Type 0
AreClosed table = (name : NameId) (meant : Unfolding) → table name ≡ Some meant → (x : VarId) → IsFree x meant.formula → Contains meant.params x

-- what stands in the place of an atom holds where the atom does
abbrev pub HoldAlike : (Means : ℕ → NameId → Option (List Value) → Type 0) → List Step → (NameId → Option Unfolding) → Type 0
HoldAlike Means trace table = (i place : ℕ) (name : NameId) (terms : List Term) (next : ℕ) (v : Valuation) (values : List Value) → FitsUnfolding (table name) terms
    → AllByRecursion (IsTermBelow next) terms → values_of_terms v terms ≡ Some values → Sat trace i v (atom_unfolded (table name) place name terms next) ↔ Means i name (Some values)

module _ (Means : ℕ → NameId → Option (List Value) → Type 0) (trace : List Step) (table : NameId → Option Unfolding) (alike : HoldAlike Means trace table) where
  pub unfolded_same : (f : Formula) (given : Substitution) (next : ℕ) (i : ℕ) (v w : Valuation) → FitsUnfoldings table f → HasValues f w → GivesSameValues given next f v w
      → Sat trace i v (unfolded table given next f) ↔ SatWith Means trace i w f
  unfolded_same (True place) given next i v w fits has h = (λ s. s, λ s. s)
  unfolded_same (False place) given next i v w fits has h = (λ s. s, λ s. s)
  unfolded_same (Atom place name terms) given next i v w fits has h =
      let found = all_valued w terms has in
      let same : values_of_terms v (map (term_given given) terms) ≡ Some found.0 = terms_copied given v w terms (λ x there. h.same x there) ∙ found.1 in
      subst (λ o. Sat trace i v (atom_unfolded (table name) place name (map (term_given given) terms) next) ↔ Means i name o) (sym found.1)
      (alike i place name (map (term_given given) terms) next v found.0 (copies_fit (table name) given terms fits) (copies_below next given terms (λ x there. h.below x there)) same)
  unfolded_same (Equal place s t) given next i v w fits has h =
      both_sides AreSameValues (value_of_term v (term_given given s)) (value_of_term v (term_given given t)) (value_of_term w s) (value_of_term w t)
      (term_copied given v w s (λ x is. h.same x (inl is))) (term_copied given v w t (λ x is. h.same x (inr is)))
  unfolded_same (Less place s t) given next i v w fits has h =
      both_sides (AreNumbersInOrder ◌<ℤ◌) (value_of_term v (term_given given s)) (value_of_term v (term_given given t)) (value_of_term w s) (value_of_term w t)
      (term_copied given v w s (λ x is. h.same x (inl is))) (term_copied given v w t (λ x is. h.same x (inr is)))
  unfolded_same (AtMost place s t) given next i v w fits has h =
      both_sides (AreNumbersInOrder ◌≤ℤ◌) (value_of_term v (term_given given s)) (value_of_term v (term_given given t)) (value_of_term w s) (value_of_term w t)
      (term_copied given v w s (λ x is. h.same x (inl is))) (term_copied given v w t (λ x is. h.same x (inr is)))
  unfolded_same (Not place f) given next i v w fits has h =
      denials (Sat trace i v (unfolded table given next f)) (SatWith Means trace i w f) (unfolded_same f given next i v w fits has (part (Not place f) f given next next v w (omega arith) (λ x free. free) h))
  unfolded_same (And place f g) given next i v w fits has h =
      let left = unfolded_same f given next i v w fits.0 (λ x free. has x (inl free)) (part (And place f g) f given next next v w (omega arith) (λ x free. inl free) h) in
      let right = unfolded_same g given (next + unfolded_count table f) i v w fits.1 (λ x free. has x (inr free)) (part (And place f g) g given next (next + unfolded_count table f) v w (omega arith) (λ x free. inr free) h) in
      (λ s. (left.0 s.0, right.0 s.1), λ s. (left.1 s.0, right.1 s.1))
  unfolded_same (Or place f g) given next i v w fits has h =
      let left = unfolded_same f given next i v w fits.0 (λ x free. has x (inl free)) (part (Or place f g) f given next next v w (omega arith) (λ x free. inl free) h) in
      let right = unfolded_same g given (next + unfolded_count table f) i v w fits.1 (λ x free. has x (inr free)) (part (Or place f g) g given next (next + unfolded_count table f) v w (omega arith) (λ x free. inr free) h) in
      (λ s p q. s (λ holds. p (left.0 holds)) (λ holds. q (right.0 holds)), λ s p q. s (λ holds. p (left.1 holds)) (λ holds. q (right.1 holds)))
  unfolded_same (Implies place f g) given next i v w fits has h =
      let left = unfolded_same f given next i v w fits.0 (λ x free. has x (inl free)) (part (Implies place f g) f given next next v w (omega arith) (λ x free. inl free) h) in
      let right = unfolded_same g given (next + unfolded_count table f) i v w fits.1 (λ x free. has x (inr free)) (part (Implies place f g) g given next (next + unfolded_count table f) v w (omega arith) (λ x free. inr free) h) in
      (λ s holds. right.0 (s (left.1 holds)), λ s holds. right.1 (s (left.0 holds)))
  unfolded_same (Exists place xs f) given next i v w fits has h =
      let inner = λ (values : List Value) (long : length values ≡ length xs).
      unfolded_same f (with_new_variables next xs given) (next + length xs) i (with_values (new_variables next xs) values v) (with_values xs values w) fits
      (λ x free. bound_there xs values w x long (λ out. has x (free, out)))
      (under (Exists place xs f) f xs values given next v w long (λ x free out. (free, out)) h) in (
        λ s none. s (λ some. let long = some.1 ∙ new_many next xs in none (some.0, long, (inner some.0 long).0 some.2)),
        λ s none. s (λ some. none (some.0, some.1 ∙ sym (new_many next xs), (inner some.0 some.1).1 some.2)),
      )
  unfolded_same (Forall place xs f) given next i v w fits has h =
      let inner = λ (values : List Value) (long : length values ≡ length xs).
      unfolded_same f (with_new_variables next xs given) (next + length xs) i (with_values (new_variables next xs) values v) (with_values xs values w) fits
      (λ x free. bound_there xs values w x long (λ out. has x (free, out)))
      (under (Forall place xs f) f xs values given next v w long (λ x free out. (free, out)) h) in (
        λ s values long. (inner values long).0 (s values (long ∙ sym (new_many next xs))),
        λ s values long. let as_many = long ∙ new_many next xs in (inner values as_many).1 (s values as_many),
      )
  unfolded_same (Prev place interval f) given next i v w fits has h =
      let inner = unfolded_same f given next (i - 1) v w fits has (part (Prev place interval f) f given next next v w (omega arith) (λ x free. free) h) in
      (λ s. (s.0, s.1, inner.0 s.2), λ s. (s.0, s.1, inner.1 s.2))
  unfolded_same (Next place interval f) given next i v w fits has h =
      let inner = unfolded_same f given next (i + 1) v w fits has (part (Next place interval f) f given next next v w (omega arith) (λ x free. free) h) in
      (λ s. (s.0, s.1, inner.0 s.2), λ s. (s.0, s.1, inner.1 s.2))
  unfolded_same (Once place interval f) given next i v w fits has h =
      let inner = λ (j : ℕ). unfolded_same f given next j v w fits has (part (Once place interval f) f given next next v w (omega arith) (λ x free. free) h) in
      since_same trace i interval HoldsAnywhere (λ j. Sat trace j v (unfolded table given next f)) HoldsAnywhere (λ j. SatWith Means trace j w f) anywhere inner
  unfolded_same (Eventually place interval f) given next i v w fits has h =
      let inner = λ (j : ℕ). unfolded_same f given next j v w fits has (part (Eventually place interval f) f given next next v w (omega arith) (λ x free. free) h) in
      until_same trace i interval HoldsAnywhere (λ j. Sat trace j v (unfolded table given next f)) HoldsAnywhere (λ j. SatWith Means trace j w f) anywhere inner
  unfolded_same (Historically place interval f) given next i v w fits has h =
      let inner = λ (j : ℕ). unfolded_same f given next j v w fits has (part (Historically place interval f) f given next next v w (omega arith) (λ x free. free) h) in
      denials (HeldSince trace i interval HoldsAnywhere (λ j. Sat trace j v (unfolded table given next f) → ⊥)) (HeldSince trace i interval HoldsAnywhere (λ j. SatWith Means trace j w f → ⊥))
      (since_same trace i interval HoldsAnywhere (λ j. Sat trace j v (unfolded table given next f) → ⊥) HoldsAnywhere (λ j. SatWith Means trace j w f → ⊥) anywhere
      (λ j. denials (Sat trace j v (unfolded table given next f)) (SatWith Means trace j w f) (inner j)))
  unfolded_same (Always place interval f) given next i v w fits has h =
      let inner = λ (j : ℕ). unfolded_same f given next j v w fits has (part (Always place interval f) f given next next v w (omega arith) (λ x free. free) h) in
      denials (HoldsUntil trace i interval HoldsAnywhere (λ j. Sat trace j v (unfolded table given next f) → ⊥)) (HoldsUntil trace i interval HoldsAnywhere (λ j. SatWith Means trace j w f → ⊥))
      (until_same trace i interval HoldsAnywhere (λ j. Sat trace j v (unfolded table given next f) → ⊥) HoldsAnywhere (λ j. SatWith Means trace j w f → ⊥) anywhere
      (λ j. denials (Sat trace j v (unfolded table given next f)) (SatWith Means trace j w f) (inner j)))
  unfolded_same (Since place interval f g) given next i v w fits has h =
      since_same trace i interval (λ j. Sat trace j v (unfolded table given next f)) (λ j. Sat trace j v (unfolded table given (next + unfolded_count table f) g)) (λ j. SatWith Means trace j w f) (λ j. SatWith Means trace j w g)
      (λ j. unfolded_same f given next j v w fits.0 (λ x free. has x (inl free)) (part (Since place interval f g) f given next next v w (omega arith) (λ x free. inl free) h))
      (λ j. unfolded_same g given (next + unfolded_count table f) j v w fits.1 (λ x free. has x (inr free)) (part (Since place interval f g) g given next (next + unfolded_count table f) v w (omega arith) (λ x free. inr free) h))
  unfolded_same (Until place interval f g) given next i v w fits has h =
      until_same trace i interval (λ j. Sat trace j v (unfolded table given next f)) (λ j. Sat trace j v (unfolded table given (next + unfolded_count table f) g)) (λ j. SatWith Means trace j w f) (λ j. SatWith Means trace j w g)
      (λ j. unfolded_same f given next j v w fits.0 (λ x free. has x (inl free)) (part (Until place interval f g) f given next next v w (omega arith) (λ x free. inl free) h))
      (λ j. unfolded_same g given (next + unfolded_count table f) j v w fits.1 (λ x free. has x (inr free)) (part (Until place interval f g) g given next (next + unfolded_count table f) v w (omega arith) (λ x free. inr free) h))

-- ---- the free variables of unfolded formulas

abbrev StandsFor : Substitution → Formula → VarId → Type 0
StandsFor given f x = (y : VarId) × IsFree y f × (given y ≡ Var x)

module _ (table : NameId → Option Unfolding) (closed : AreClosed table) where
  atom_free : (meant : Option Unfolding) (place : ℕ) (name : NameId) (terms : List Term) (next : ℕ) (x : VarId) → table name ≡ meant → FitsUnfolding meant terms
      → IsFree x (atom_unfolded meant place name terms next) → Contains terms (Var x)
  atom_free None place name terms next x at fits free = free
  atom_free (Some meant) place name terms next x at fits free =
      let found = copy_free place meant.formula (with_terms meant.params terms Var) next x free in
      ⊎_elim
      (λ there. subst (Contains terms) found.2 there)
      (λ kept. absurd (kept.1 (closed name meant at found.0 found.1)))
      (given_either meant.params terms Var found.0 fits)

  pub unfolded_free : (f : Formula) (given : Substitution) (next : ℕ) (x : VarId) → FitsUnfoldings table f → IsFree x (unfolded table given next f) → StandsFor given f x
  unfolded_free (True place) given next x fits free = absurd free
  unfolded_free (False place) given next x fits free = absurd free
  unfolded_free (Atom place name terms) given next x fits free =
      terms_for given terms x (atom_free (table name) place name (map (term_given given) terms) next x refl (copies_fit (table name) given terms fits) free)
  unfolded_free (Equal place s t) given next x fits free = sides_for given s t x free
  unfolded_free (Less place s t) given next x fits free = sides_for given s t x free
  unfolded_free (AtMost place s t) given next x fits free = sides_for given s t x free
  unfolded_free (Not place f) given next x fits free = stands_left given f (Not place f) x (λ y h. h) (unfolded_free f given next x fits free)
  unfolded_free (And place f g) given next x fits (inl free) = stands_left given f (And place f g) x (λ y h. inl h) (unfolded_free f given next x fits.0 free)
  unfolded_free (And place f g) given next x fits (inr free) = stands_left given g (And place f g) x (λ y h. inr h) (unfolded_free g given (next + unfolded_count table f) x fits.1 free)
  unfolded_free (Or place f g) given next x fits (inl free) = stands_left given f (Or place f g) x (λ y h. inl h) (unfolded_free f given next x fits.0 free)
  unfolded_free (Or place f g) given next x fits (inr free) = stands_left given g (Or place f g) x (λ y h. inr h) (unfolded_free g given (next + unfolded_count table f) x fits.1 free)
  unfolded_free (Implies place f g) given next x fits (inl free) = stands_left given f (Implies place f g) x (λ y h. inl h) (unfolded_free f given next x fits.0 free)
  unfolded_free (Implies place f g) given next x fits (inr free) = stands_left given g (Implies place f g) x (λ y h. inr h) (unfolded_free g given (next + unfolded_count table f) x fits.1 free)
  unfolded_free (Exists place xs f) given next x fits free = stands_under given f (Exists place xs f) next xs x (λ y h out. (h, out)) free.1
      (unfolded_free f (with_new_variables next xs given) (next + length xs) x fits free.0)
  unfolded_free (Forall place xs f) given next x fits free = stands_under given f (Forall place xs f) next xs x (λ y h out. (h, out)) free.1
      (unfolded_free f (with_new_variables next xs given) (next + length xs) x fits free.0)
  unfolded_free (Prev place interval f) given next x fits free = stands_left given f (Prev place interval f) x (λ y h. h) (unfolded_free f given next x fits free)
  unfolded_free (Next place interval f) given next x fits free = stands_left given f (Next place interval f) x (λ y h. h) (unfolded_free f given next x fits free)
  unfolded_free (Once place interval f) given next x fits free = stands_left given f (Once place interval f) x (λ y h. h) (unfolded_free f given next x fits free)
  unfolded_free (Historically place interval f) given next x fits free = stands_left given f (Historically place interval f) x (λ y h. h) (unfolded_free f given next x fits free)
  unfolded_free (Since place interval f g) given next x fits (inl free) = stands_left given f (Since place interval f g) x (λ y h. inl h) (unfolded_free f given next x fits.0 free)
  unfolded_free (Since place interval f g) given next x fits (inr free) = stands_left given g (Since place interval f g) x (λ y h. inr h) (unfolded_free g given (next + unfolded_count table f) x fits.1 free)
  unfolded_free (Eventually place interval f) given next x fits free = stands_left given f (Eventually place interval f) x (λ y h. h) (unfolded_free f given next x fits free)
  unfolded_free (Always place interval f) given next x fits free = stands_left given f (Always place interval f) x (λ y h. h) (unfolded_free f given next x fits free)
  unfolded_free (Until place interval f g) given next x fits (inl free) = stands_left given f (Until place interval f g) x (λ y h. inl h) (unfolded_free f given next x fits.0 free)
  unfolded_free (Until place interval f g) given next x fits (inr free) = stands_left given g (Until place interval f g) x (λ y h. inr h) (unfolded_free g given (next + unfolded_count table f) x fits.1 free)
