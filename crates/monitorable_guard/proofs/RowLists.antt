-- Rising lists of rows: of those of a list that pass, and of those under which a safe formula is satisfied.
use Rattle.monitorable_guard.proofs.Vocabulary.{◌≡◌, ℕ, ◌⊎◌, inl, inr, ⊎_elim, List, [], ◌∷◌, length, None, Contains, ◌↔◌, refl, sym, ap, subst, ◌∙◌, arith, IsTotalOrder, IsAntisymmetric}
use Rattle.monitorable_guard.proofs.Vocabulary.{AllByRecursion, ordering_reverse, Ordering, Greater, AllByRecursion-contains, AllByRecursion-from_contains, later, first_or_later, none_in_nil}
use Rattle.monitorable_guard.proofs.Vocabulary.{Valuation, with_values, Step, VarId, Value, all_from, Formula, IsFree, Sat, FreeVariablesDecide, row_cmp_total, row_cmp_exact, same_row}
use Rattle.monitorable_guard.proofs.Vocabulary.{value_at-with_inside, AreRowsAt, AreTold, Safe, BindsFresh}
use Rattle.std.specs.List.Sorted.{IsStrictlySortedBy}
use Rattle.std.specs.declared.cmp.Ordering.TheVariants.{Less, Equal}
use Rattle.monitorable_guard.proofs.Decided.{Decided, decided_both}
use Rattle.monitorable_guard.proofs.DecidedLemmas.{candidates, decided, decided_length, shrink}

module _ {K : Type 0} {R : K → K → Ordering} (total : IsTotalOrder R) (exact : IsAntisymmetric R) where
  -- a rising list of just the keys with a property
  abbrev RisingOf : (K → Type 0) → Type 0
  RisingOf P = (ys : List K) × IsStrictlySortedBy R ys × ((y : K) → Contains ys y ↔ P y)

  below_more : (x y : K) → R x y ≡ Less → (xs : List K) → AllByRecursion (λ z. R y z ≡ Less) xs → AllByRecursion (λ z. R x z ≡ Less) xs
  below_more x y less [] all = tt
  below_more x y less (z ∷ xs) all = (total.trans x y z less all.0, below_more x y less xs all.1)

  turned : (x y : K) → R x y ≡ Greater → R y x ≡ Less
  turned x y e = total.antisymm y x ∙ ap ordering_reverse e

  -- a key more, at its place
  with_key : (x : K) (xs : List K) → IsStrictlySortedBy R xs → RisingOf (λ y. (x ≡ y) ⊎ Contains xs y)
  unfolding IsStrictlySortedBy
  with_key x [] rise = (x ∷ [], (tt, tt), λ y. (λ there. first_or_later y x [] there, λ either. ⊎_elim (λ same. (0, omega arith, same)) (λ there. absurd (none_in_nil y there)) either))
  with_key x (first ∷ xs) rise = by (R x first) refl (with_key x xs rise.1)
    where
      by : (r : Ordering) → R x first ≡ r → RisingOf (λ y. (x ≡ y) ⊎ Contains xs y) → RisingOf (λ y. (x ≡ y) ⊎ Contains (first ∷ xs) y)
      by Less e rest = (
        x ∷ first ∷ xs,
        ((e, below_more x first e xs rise.0), rise),
        λ y. (λ there. first_or_later y x (first ∷ xs) there, λ either. ⊎_elim (λ same. (0, omega arith, same)) (λ there. later y x (first ∷ xs) there) either),
      )
      by Equal e rest = (
        first ∷ xs,
        rise,
        λ y. (λ there. inr there, λ either. ⊎_elim (λ same. (0, omega arith, sym (exact x first e) ∙ same)) (λ there. there) either),
      )
      by Greater e rest = (
        first ∷ rest.0,
        (
          AllByRecursion-from_contains (λ z. R first z ≡ Less) rest.0 (λ z there. ⊎_elim (λ same. subst (λ w. R first w ≡ Less) same (turned x first e))
              (λ behind. AllByRecursion-contains (λ w. R first w ≡ Less) xs z rise.0 behind) ((rest.2 z).0 there)),
          rest.1,
        ),
        λ y. (
          λ there. ⊎_elim (λ same. inr (0, omega arith, same)) (λ behind. ⊎_elim (λ same. inl same) (λ other. inr (later y first xs other)) ((rest.2 y).0 behind))
              (first_or_later y first rest.0 there),
          λ either. ⊎_elim (λ same. later y first rest.0 ((rest.2 y).1 (inl same))) (λ there.
              ⊎_elim (λ same. (0, omega arith, same)) (λ behind. later y first rest.0 ((rest.2 y).1 (inr behind))) (first_or_later y first xs there)) either,
        ),
      )

  module _ (P : K → Type 0) (each : (x : K) → Decided (P x)) where
    -- the items of a list that have the property
    passing : (xs : List K) → RisingOf (λ y. Contains xs y × P y)
    unfolding IsStrictlySortedBy
    passing [] = ([], tt, λ y. (λ there. absurd (none_in_nil y there), λ both. both.0))
    passing (x ∷ xs) = by (each x) (passing xs)
      where
        by : Decided (P x) → RisingOf (λ y. Contains xs y × P y) → RisingOf (λ y. Contains (x ∷ xs) y × P y)
        by (inl holds) rest =
            let more = with_key x rest.0 rest.1 in (
              more.0,
              more.1,
              λ y. (
                λ there. ⊎_elim (λ same. ((0, omega arith, same), subst P same holds)) (λ was. let both = (rest.2 y).0 was in (later y x xs both.0, both.1)) ((more.2 y).0 there),
                λ both. (more.2 y).1 (⊎_elim inl (λ behind. inr ((rest.2 y).1 (behind, both.1))) (first_or_later y x xs both.0)),
              ),
            )
        by (inr fails) rest = (
          rest.0,
          rest.1,
          λ y. (
            λ there. let both = (rest.2 y).0 there in (later y x xs both.0, both.1),
            λ both. ⊎_elim (λ same. absurd (fails (subst P (sym same) both.1))) (λ behind. (rest.2 y).1 (behind, both.1)) (first_or_later y x xs both.0),
          ),
        )

module _ (decides : FreeVariablesDecide) (trace : List Step) (i : ℕ) (v : Valuation) (f : Formula) (bound xs : List VarId) (safe : Safe f (Contains bound))
    (fresh : BindsFresh f (λ x. Contains bound x ⊎ IsFree x f)) where
  pub decided_at : (w : Valuation) → Decided (Sat trace i w f)
  decided_at w = decided decides trace None i w f (Contains bound) (λ x. Contains bound x ⊎ IsFree x f) safe fresh (λ x b. inl b) (λ x free. inr free) tt

  module _ (told : AreTold f bound xs) where
    abbrev Passes : List Value → Type 0
    Passes row = (length row ≡ length xs) × Sat trace i (with_values xs row v) f

    abbrev among : List (List Value)
    among = candidates decides trace i v xs f (Contains bound) (λ x. Contains bound x ⊎ IsFree x f) safe fresh (λ x b. inl b) (λ x free. inr free) told.new

    -- the values of a row that passes are all of distinct free variables, and so it is one of the candidates
    each_among : (row : List Value) → Passes row → Contains among row
    each_among row passes =
        let other = shrink decides trace i v xs f (Contains bound) (λ x. Contains bound x ⊎ IsFree x f) safe fresh (λ x b. inl b) (λ x free. inr free) told.new row passes.0 passes.1 in
        subst (Contains among) (same_row xs other.0 row told.distinct other.2 passes.0 (λ x there.
        sym (value_at-with_inside xs other.0 v x told.distinct other.2 there) ∙ sym (other.3 x (inr (told.free x there))) ∙ value_at-with_inside xs row v x told.distinct passes.0 there)) other.1

    pub rows_at : (rows : List (List Value)) × AreRowsAt trace i v xs f rows
    rows_at =
        let rising = passing row_cmp_total row_cmp_exact Passes (λ row. decided_both (length row ≡ length xs) (Sat trace i (with_values xs row v) f) (decided_length row xs)
        (decided_at (with_values xs row v))) among in (
          rising.0,
          record {
            fit = all_from (λ row. length row ≡ length xs) rising.0 (λ row there. ((rising.2 row).0 there).1.0);
            rise = rising.1;
            are = λ row long. (
              λ there. ((rising.2 row).0 there).1.1,
              λ sat. (rising.2 row).1 (each_among row (long, sat), (long, sat)),
            );
          },
        )
