-- Valuations that are made of a frame's values, one after another.
use Rattle.valuations.proofs.Vocabulary.{◌≡◌, ℕ, ◌+◌, ◌<◌, ◌≤◌, List, [], ◌∷◌, ◌++◌, length, take, drop, get_or, min, Contains, Option, None, Some, refl, sym, ap, subst, ◌∙◌, arith, ⊎_elim, Bool}
use Rattle.valuations.proofs.Vocabulary.{true, false, true≢false, not, cases_lt, drop_all, take_more, Contains-append_left, Contains-append_right, none-some, Bor, is_some, option_copied}
use Rattle.valuations.proofs.Vocabulary.{Contains-append, first_or_later, here, none_in_nil, Valuation, value_at, same_valuation, VarId, Value, with_value, filled_from_row, valuation_part}
use Rattle.valuations.proofs.ColumnLaws.{among_or_not}
use Rattle.valuations.proofs.RowLaws.{value_at-bound, value_at-other}
use Rattle.valuations.proofs.ScopeLaws.{part_inside, part_outside, same_or_other, IsPartOfValuation}

-- what binds just what v binds of some variables is that part of v
pub part_same : (v : Valuation) (xs : List VarId) (part : Valuation) → IsPartOfValuation v xs part → part ≡ valuation_part v xs
part_same v xs part is = same_valuation part (valuation_part v xs) (λ x. ⊎_elim
    (λ there. is.inside x there ∙ sym (part_inside v xs x there))
    (λ absent. is.outside x absent ∙ sym (part_outside v xs x absent))
    (among_or_not xs x))

-- one variable more
module _ (v : Valuation) (xs : List VarId) (k : ℕ) (x d : VarId) (within : k < length xs) (at : x ≡ get_or xs k d)
    (part : Valuation) (is : IsPartOfValuation v (take k xs) part) where
  more : take (k + 1) xs ≡ take k xs ++ x ∷ []
  more = take_more xs k d within ∙ ap (λ y. take k xs ++ y ∷ []) (sym at)

  grown : (after : Valuation) → value_at after x ≡ value_at v x
      → ((y : VarId) → (x ≡ y → ⊥) → value_at after y ≡ value_at part y) → IsPartOfValuation v (take (k + 1) xs) after
  grown after bound others = subst (λ l. IsPartOfValuation v l after) (sym more) (record {
    inside = λ y there. ⊎_elim
        (λ same. subst (λ z. value_at after z ≡ value_at v z) same bound)
        (λ other. others y other ∙ is.inside y (⊎_elim
        (λ before. before)
        (λ last. ⊎_elim (λ same. absurd (other same)) (λ behind. absurd (none_in_nil y behind)) (first_or_later y x [] last))
        (Contains-append (take k xs) (x ∷ []) y there)))
        (same_or_other x y);
    outside = λ y absent. ⊎_elim
        (λ same. absurd (absent (subst (Contains (take k xs ++ x ∷ [])) same (Contains-append_right (take k xs) (x ∷ []) x (here x [])))))
        (λ other. others y other ∙ is.outside y (λ before. absent (Contains-append_left (take k xs) (x ∷ []) y before)))
        (same_or_other x y);
  })

  pub part_bound : (value : Value) → value_at v x ≡ Some value → IsPartOfValuation v (take (k + 1) xs) (with_value part x value)
  part_bound value has =
      grown (with_value part x value) (value_at-bound part x x value refl ∙ sym has) (λ y other. value_at-other part x y value other)

  -- it had its value before
  pub part_kept : (value_at part x ≡ None → ⊥) → IsPartOfValuation v (take (k + 1) xs) part
  part_kept some = grown part (⊎_elim
      (λ there. is.inside x there)
      (λ absent. absurd (some (is.outside x absent)))
      (among_or_not (take k xs) x)) (λ y other. refl)

  -- it has none
  pub part_without : value_at part x ≡ None → value_at v x ≡ None → IsPartOfValuation v (take (k + 1) xs) part
  part_without none absent = grown part (none ∙ sym absent) (λ y other. refl)

-- where columns or values are used up, nothing more is bound
pub filled_end : (v : Valuation) (columns : List VarId) (row : List Value) (n : ℕ) → n ≡ min (length columns) (length row)
    → filled_from_row v (drop n columns) (drop n row) ≡ v
filled_end v columns row n is = ⊎_elim
    (λ lt. let short : length row ≤ n = omega arith in ap (λ l. filled_from_row v (drop n columns) l) (drop_all n row short) ∙ no_more (drop n columns))
    (λ le. let short : length columns ≤ n = omega arith in ap (λ l. filled_from_row v l (drop n row)) (drop_all n columns short))
    (cases_lt (length row) (length columns))
  where
    no_more : (columns : List VarId) → filled_from_row v columns [] ≡ v
    no_more [] = refl
    no_more (column ∷ columns) = refl

-- a value that was looked up, and whether there is none
pub none_copied : (found : Option (Bor Value)) (none : Bool) (value : Option Value) → option_copied found ≡ value
    → is_some found ≡ not none → none ≡ true → value ≡ None
none_copied None none value is told says = sym is
none_copied (Some v) none value is told says = absurd (true≢false (told ∙ ap not says))

pub some_copied : (found : Option (Bor Value)) (none : Bool) (value : Option Value) → option_copied found ≡ value
    → is_some found ≡ not none → none ≡ false → value ≡ None → ⊥
some_copied None none value is told says e = true≢false (sym (told ∙ ap not says))
some_copied (Some v) none value is told says e = none-some v.now (sym (is ∙ e))
