-- The order of keys is total, and only equal keys tie.
use Rattle.valuations.proofs.Vocabulary.{value_cmp_total, value_cmp_exact, Value, value_cmp, row_cmp, ap, IsTotalOrder, lists_total, options_total, IsAntisymmetric, slice_cmp-IsAntisymmetric}
use Rattle.valuations.proofs.Vocabulary.{option_cmp, ordering_then, Ordering, key_cmp}
use Rattle.std.specs.Prelude.{None, Some, refl, ◌≡◌, List, [], ◌∷◌, map}

pub key_cmp_total : IsTotalOrder key_cmp
key_cmp_total = lists_total (options_total value_cmp_total)

option_exact : {K : Type 0} {R : K → K → Ordering} → IsAntisymmetric R → IsAntisymmetric (option_cmp R)
option_exact exact None None e = refl
option_exact exact None (Some y) e = absurd (cc)
option_exact exact (Some x) None e = absurd (cc)
option_exact exact (Some x) (Some y) e = ap Some (exact x y e)

pub key_cmp_exact : IsAntisymmetric key_cmp
key_cmp_exact = slice_cmp-IsAntisymmetric (option_exact value_cmp_exact)

-- rows compare as their values do, each there
pub same_order : (a b : List Value) → key_cmp (map Some a) (map Some b) ≡ row_cmp a b
same_order [] [] = refl
same_order [] (y ∷ b) = refl
same_order (x ∷ a) [] = refl
same_order (x ∷ a) (y ∷ b) = ap (ordering_then (value_cmp x y)) (same_order a b)
