use Rattle.valuations.proofs.Vocabulary.{◌≡◌, List, Contains, length, subst, ap, sym, ◌∙◌, same_rising, Valuation, valuation_of, VarId, Value, row_cmp_total, HasValuation, IsTable, Relation}
use Rattle.valuations.proofs.RowLaws.{contains_from_valuation, contains_valuation, table_row-length}
use Rattle.valuations.proofs.laws.same_valuations_same_table.Goals as goal

-- a row of the one is a row of the other
row_of_other : (s t : Relation) → IsTable s → IsTable t → s.columns ≡ t.columns
    → ((v : Valuation) → HasValuation s v → HasValuation t v) → (row : List Value) → Contains s.rows row → Contains t.rows row
row_of_other s t is_s is_t same into row there =
    let long : length row ≡ length t.columns = table_row-length s row is_s there ∙ ap length same in
    contains_from_valuation t row is_t long (subst (λ (columns : List VarId). HasValuation t (valuation_of columns row)) same
    (into (valuation_of s.columns row) (contains_valuation s row is_s there)))

pub returns : goal.returns
returns c = λ s t is_s is_t same alike.
    let rows : s.rows ≡ t.rows = same_rising row_cmp_total s.rows t.rows is_s.rising is_t.rising
    (row_of_other s t is_s is_t same (λ v. (alike v).0)) (row_of_other t s is_t is_s (sym same) (λ v. (alike v).1)) in
    λ i. record { columns = same i; rows = rows i }
