-- The order of rows is total, and ties just those that are equal.
use Rattle.enf_data.specs.contracts.rows.RowPartialEq.TheImpl as rows
use Rattle.enf_data.specs.contracts.values.ValuePartialEq.TheImpl as values
use Rattle.enf_data.specs.declared.values.Value.{Value}
use Rattle.enf_data.specs.declared.values.Value.TheVariants.{Num, Text}
use Rattle.enf_data.specs.meaning.Values.{row_cmp, value_cmp}
use Rattle.std.proofs.Common.{ap, refl, true≢false}
use Rattle.std.specs.Cmp.{IsPartialOrder, IsTotalOrder, int_cmp_total, po}
use Rattle.std.specs.Cmp.Lexicographic.{lists_ties, lists_total, nat_list_cmp_total, texts_ties}
use Rattle.std.specs.Ordering.{as_partial_cmp, eq_by_cmp, is_gt, is_lt, ordering_reverse}
use Rattle.std.specs.Prelude.{◌≡◌, List}
use Rattle.std.specs.declared.cmp.Ordering.TheVariants.{Equal, Less}

value_antisymm : (a b : Value) → value_cmp a b ≡ ordering_reverse (value_cmp b a)
value_antisymm (Num x) (Num y) = int_cmp_total.antisymm x y
value_antisymm (Num x) (Text t) = refl
value_antisymm (Text s) (Num y) = refl
value_antisymm (Text s) (Text t) = nat_list_cmp_total.antisymm s t

value_trans : (a b c : Value) → value_cmp a b ≡ Less → value_cmp b c ≡ Less → value_cmp a c ≡ Less
value_trans (Num x) (Num y) (Num z) p q = int_cmp_total.trans x y z p q
value_trans (Num x) (Num y) (Text u) p q = refl
value_trans (Num x) (Text t) (Num z) p q = absurd (true≢false (ap is_gt q))
value_trans (Num x) (Text t) (Text u) p q = refl
value_trans (Text s) (Num y) c p q = absurd (true≢false (ap is_gt p))
value_trans (Text s) (Text t) (Num z) p q = q
value_trans (Text s) (Text t) (Text u) p q = nat_list_cmp_total.trans s t u p q

value_congr : (a b c : Value) → value_cmp a b ≡ Equal → value_cmp a c ≡ value_cmp b c
value_congr (Num x) (Num y) (Num z) p = int_cmp_total.congr x y z p
value_congr (Num x) (Num y) (Text u) p = refl
value_congr (Num x) (Text t) c p = absurd (true≢false (ap is_lt p))
value_congr (Text s) (Num y) c p = absurd (true≢false (ap is_gt p))
value_congr (Text s) (Text t) (Num z) p = refl
value_congr (Text s) (Text t) (Text u) p = nat_list_cmp_total.congr s t u p

pub value_cmp_total : IsTotalOrder value_cmp
value_cmp_total = record { antisymm = value_antisymm; trans = value_trans; congr = value_congr }

pub row_cmp_total : IsTotalOrder row_cmp
row_cmp_total = lists_total value_cmp_total

value_ties : (a b : Value) → values.eq-value.it a b ≡ eq_by_cmp value_cmp a b
value_ties (Num x) (Num y) = refl
value_ties (Num x) (Text t) = refl
value_ties (Text s) (Num y) = refl
value_ties (Text s) (Text t) = texts_ties s t

pub row_ties : (a b : List Value) → rows.eq-value.it a b ≡ eq_by_cmp row_cmp a b
row_ties a b = lists_ties value_cmp value_ties a b

pub row_order : IsPartialOrder rows.eq-value.it (as_partial_cmp row_cmp)
row_order = po row_cmp_total row_ties
