-- The order of places, as a comparison tells it.
use Rattle.sleepers.proofs.Vocabulary.{◌≡◌, ◌↔◌, ◌<◌, true, false, true≢false, [], ◌∷◌, ⊎_elim, refl, sym, ap, subst, ◌∙◌, arith, IsTotalOrder, is_lt, nat_cmp, ordering_then, ordering_reverse}
use Rattle.sleepers.proofs.Vocabulary.{Ordering, Less, Equal, Greater, lists_total, nat_cmp_total, on_total, then_total, tied_itself, Less_from_test, BeginsBefore, IsPlaceBefore, Place, beginning_cmp}
use Rattle.sleepers.proofs.Vocabulary.{place_cmp, Beginning}
use Rattle.sleepers.proofs.OrderLemmas.{place_order}

beginning_total : IsTotalOrder beginning_cmp
beginning_total =
    then_total (on_total (λ (t : Beginning). t.number) nat_cmp_total) (on_total (λ (t : Beginning). t.among) nat_cmp_total)

pub place_total : IsTotalOrder place_cmp
place_total = lists_total beginning_total

beginning_less : (s t : Beginning) → BeginsBefore s t → beginning_cmp s t ≡ Less
beginning_less s t before =
    ⊎_elim (λ (b : s.number < t.number). let e : nat_cmp s.number t.number ≡ Less = grind (arith, b) in ap (λ o. ordering_then o (nat_cmp s.among t.among)) e)
    (λ (b : (s.number ≡ t.number) × (s.among < t.among)).
    let f = b.0 in
    let l = b.1 in
    let e : nat_cmp s.number t.number ≡ Equal = grind (arith, f) in
    let n : nat_cmp s.among t.among ≡ Less = grind (arith, l) in
    ap (λ o. ordering_then o (nat_cmp s.among t.among)) e ∙ n) before

beginning_itself : (s t : Beginning) → s ≡ t → beginning_cmp s t ≡ Equal
beginning_itself s t same = subst (λ (u : Beginning). beginning_cmp s u ≡ Equal) same (tied_itself beginning_total s)

less_before : (p q : Place) → IsPlaceBefore p q → place_cmp p q ≡ Less
less_before p [] before = absurd before
less_before [] (t ∷ q) before = refl
less_before (s ∷ p) (t ∷ q) before =
    ⊎_elim (λ (b : BeginsBefore s t). ap (λ o. ordering_then o (place_cmp p q)) (beginning_less s t b))
    (λ (b : (s ≡ t) × IsPlaceBefore p q). ap (λ o. ordering_then o (place_cmp p q)) (beginning_itself s t b.0) ∙ less_before p q b.1) before

apart_orders : (o : Ordering) → o ≡ Less → o ≡ Equal → ⊥
apart_orders o less equal = cc

not_less_itself : (p q : Place) → p ≡ q → place_cmp p q ≡ Less → ⊥
not_less_itself p q same less =
    apart_orders (place_cmp p q) less (subst (λ (z : Place). place_cmp p z ≡ Equal) same (tied_itself place_total p))

not_less_behind : (p q : Place) → IsPlaceBefore q p → place_cmp p q ≡ Less → ⊥
not_less_behind p q behind less =
    let turned : place_cmp p q ≡ ordering_reverse (place_cmp q p) = place_total.antisymm p q in
    let greater : place_cmp p q ≡ Greater = turned ∙ ap ordering_reverse (less_before q p behind) in
    by (place_cmp p q) less greater
  where
    by : (o : Ordering) → o ≡ Less → o ≡ Greater → ⊥
    by o l g = cc

-- the comparison tells which comes first
pub before_is : (p q : Place) → (place_cmp p q ≡ Less) ↔ IsPlaceBefore p q
before_is p q = (
  (λ less. ⊎_elim (λ same. absurd (not_less_itself p q same less)) (λ o. ⊎_elim (λ b. b) (λ b. absurd (not_less_behind p q b less)) o) (place_order p q)),
  less_before p q,
)

-- and the same places alone tie
pub tied_is : (p q : Place) → place_cmp p q ≡ Equal → p ≡ q
tied_is p q equal =
    ⊎_elim (λ same. same)
    (λ o. ⊎_elim (λ b. absurd (apart_orders (place_cmp p q) (less_before p q b) equal))
    (λ b.
    let turned : place_cmp q p ≡ ordering_reverse (place_cmp p q) = place_total.antisymm q p in
    absurd (apart_orders (place_cmp q p) (less_before q p b) (turned ∙ ap ordering_reverse equal))) o) (place_order p q)

pub before_from_test : (p q : Place) → is_lt (place_cmp p q) ≡ true → IsPlaceBefore p q
before_from_test p q is = (before_is p q).0 (Less_from_test (place_cmp p q) is)

pub not_before_from_test : (p q : Place) → is_lt (place_cmp p q) ≡ false → IsPlaceBefore p q → ⊥
not_before_from_test p q is before = true≢false (sym (ap is_lt ((before_is p q).1 before)) ∙ is)
