-- The orders of values and of rows are total, and only equal ones tie.
use Rattle.enf_data.proofs.Vocabulary.{Value, Num, Text, value_cmp, row_cmp, ap, IsAntisymmetric, int_cmp-IsAntisymmetric, nat_cmp-IsAntisymmetric, slice_cmp-IsAntisymmetric}
pub use Rattle.enf_data.specs.machine.RowOrders.{row_cmp_total, value_cmp_total}

pub value_cmp_exact : IsAntisymmetric value_cmp
value_cmp_exact (Num x) (Num y) e = ap Num (int_cmp-IsAntisymmetric x y e)
value_cmp_exact (Num x) (Text t) e = absurd (cc)
value_cmp_exact (Text s) (Num y) e = absurd (cc)
value_cmp_exact (Text s) (Text t) e = ap Text (slice_cmp-IsAntisymmetric nat_cmp-IsAntisymmetric s t e)

pub row_cmp_exact : IsAntisymmetric row_cmp
row_cmp_exact = slice_cmp-IsAntisymmetric value_cmp_exact
