-- Copies of rows with their times.
use Rattle.windows.proofs.Vocabulary.{◌≡◌, ◌∙◌, ℕ, Bool, true, false, List, [], ◌∷◌, ◌++◌, map, Contains, None, Some, refl, sym, ap, subst, map-append, cond, HashMap, lookup, insert_entry}
use Rattle.windows.proofs.Vocabulary.{HasNoRepeats, Value, here, later, HasNoRepeats-middle, derived_row_eq-Decides}
use Rattle.windows.proofs.EntryLemmas.{grown_by}
use Rattle.enf_data.specs.contracts.rows.RowPartialEq.TheImpl as rows

no_entry : (row : List Value) (es : List (List Value × List ℕ)) → (Contains (map (λ e. e.0) es) row → ⊥)
    → lookup (rows.eq-value.it row) es ≡ None
no_entry row [] absent = refl
no_entry row (e ∷ es) absent = by (rows.eq-value.it row e.0) refl (no_entry row es (λ there. absent (later row e.0 (map (λ d. d.0) es) there)))
  where
    by : (b : Bool) → rows.eq-value.it row e.0 ≡ b → lookup (rows.eq-value.it row) es ≡ None → cond b (Some e.1) (lookup (rows.eq-value.it row) es) ≡ None
    by true same behind = absurd (absent (subst (λ r. Contains (r ∷ map (λ d. d.0) es) row) ((derived_row_eq-Decides row e.0).0 same) (here row (map (λ d. d.0) es))))
    by false other behind = behind

pub entry_copied : {S : Type 0} (m : HashMap (List Value) (List ℕ) S) (row key : List Value) (times new : List ℕ) (after : List (List Value × List ℕ))
    → (Contains (map (λ e. e.0) m.entries) row → ⊥) → key ≡ row → new ≡ times → after ≡ insert_entry rows.eq-value.it m.entries key new
    → after ≡ m.entries ++ (row, times) ∷ []
entry_copied m row key times new after absent same items inserted =
    grown_by m row key new after (no_entry row m.entries absent) same inserted ∙ ap (λ l. m.entries ++ (row, l) ∷ []) items

-- where what is copied and what is left are all, the row that comes next is not copied yet
pub not_copied : (copy rest next es : List (List Value × List ℕ)) (row : List Value) (times : List ℕ) → HasNoRepeats (map (λ e. e.0) es)
    → copy ++ rest ≡ es → rest ≡ (row, times) ∷ next → Contains (map (λ e. e.0) copy) row → ⊥
not_copied copy rest next es row times distinct whole is there =
    let split : map (λ e. e.0) es ≡ map (λ e. e.0) copy ++ row ∷ map (λ e. e.0) next =
    ap (map (λ e. e.0)) (sym whole ∙ ap (λ l. copy ++ l) is) ∙ map-append (λ e. e.0) copy ((row, times) ∷ next) in
    HasNoRepeats-middle (map (λ e. e.0) copy) (map (λ e. e.0) next) row (subst HasNoRepeats split distinct) there
