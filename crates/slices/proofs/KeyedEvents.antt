-- The events that an atom of one key speaks of, and the values that quantifiers give.
use Rattle.slices.proofs.Vocabulary.{◌≡◌, ⊎_elim, Bool, true, List, [], ◌∷◌, length, Option, None, Some, Contains, refl, sym, ap, arith, ◌∙◌, slice_get, option_map}
use Rattle.slices.proofs.Vocabulary.{none-some, same_Some, slice_get-map, values_listed, first_or_later, none_in_nil, Term, Var, VarId, Value, Valuation, value_at, value_of_term, values_of_terms}
use Rattle.slices.proofs.Vocabulary.{with_values, HasKeyTerm, key_argument, has_key, among_or_not, value_at-bound, value_at-with_outside, ℕ}
use Rattle.std.specs.FinMap as finite

-- a value that is there
inner_value : (o : Option Value) (value : Value) → option_map Some o ≡ Some (Some value) → o ≡ Some value
inner_value None value is = absurd (none-some (Some value) is)
inner_value (Some other) value is = same_Some (Some other) (Some value) is

-- the argument at the place of a variable is its value
pub argument_of : (v : Valuation) (terms : List Term) (args : List Value) (column : ℕ) (x : VarId) (key : Value)
    → values_of_terms v terms ≡ Some args → slice_get terms column ≡ Some (Var x) → value_at v x ≡ Some key
    → slice_get args column ≡ Some key
argument_of v terms args column x key values term is =
    inner_value (slice_get args column) key
    (sym (slice_get-map Some args column) ∙ ap (λ l. slice_get l column) (values_listed v terms args values)
    ∙ slice_get-map (value_of_term v) terms column ∙ ap (option_map (value_of_term v)) term ∙ ap Some is)

-- what an atom of a key speaks of is of each set of keys with this one
pub atom_is_kept : (keys : Value → Bool) (v : Valuation) (terms : List Term) (args : List Value) (x : VarId) (key : Value)
    → keys key ≡ true → values_of_terms v terms ≡ Some args → value_at v x ≡ Some key
    → (column : Option ℕ) → HasKeyTerm column terms x → has_key keys (key_argument column args) ≡ true
atom_is_kept keys v terms args x key among values is None term = refl
atom_is_kept keys v terms args x key among values is (Some column) term =
    ap (has_key keys) (argument_of v terms args column x key values term is) ∙ among

-- a variable that is bound has a value
pub has_value : (xs : List VarId) (values : List Value) (v : Valuation) (x : VarId) → length values ≡ length xs
    → Contains xs x → (key : Value) × (value_at (with_values xs values v) x ≡ Some key)
has_value [] values v x long there = absurd (none_in_nil x there)
has_value (y ∷ xs) [] v x long there = absurd (omega (arith, long))
has_value (y ∷ xs) (value ∷ values) v x long there =
    ⊎_elim (λ again. has_value xs values (finite.insert v y value) x (omega (arith, long)) again)
    (λ free. (value, value_at-with_outside xs values (finite.insert v y value) x free ∙ value_at-bound v y x value (first free)))
    (among_or_not xs x)
  where
    first : (Contains xs x → ⊥) → y ≡ x
    first free = ⊎_elim (λ same. same) (λ again. absurd (free again)) (first_or_later x y xs there)
