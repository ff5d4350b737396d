-- Formulas whose parts stand in another order, and the conjuncts of a formula.
use Rattle.monitorable_guard.proofs.Vocabulary.{◌≡◌, ℕ, ◌+◌, ◌<◌, ◌≤◌, ◌⊎◌, inl, inr, ⊎_elim, List, ◌++◌, length, drop, Contains, ◌↔◌, sym, subst, arith, length-append, drop-drop, Contains-append}
use Rattle.monitorable_guard.proofs.Vocabulary.{Contains-append_left, Contains-append_right, Valuation, with_values, Event, VarId, Formula, And, Not, Or, Implies, Exists, Forall, IsFree, BindsFresh}
use Rattle.monitorable_guard.proofs.Vocabulary.{Relation, FitOperators, HoldsNow, outermost, tables_beyond}
use Rattle.monitorable_guard.proofs.AgreementLemmas.{fit_front, fit_back}
use Rattle.monitorable_guard.proofs.PartLemmas.{fresh_within}
use Rattle.monitorable_guard.proofs.ReorderingLemmas.{each_alone, alone_from, some_alone, alone_some, each_joined, each_front, each_back, some_front, some_back, some_parted, counted_both, within_both}
use Rattle.monitorable_guard.proofs.ReorderingLemmas.{fits_both, means_left, means_right}
use Rattle.monitorable_guard.specs.machine.Reordering.{renumbered, PlacedFormula, EachPlaced, SomePlaced, only_formula, conjuncts_from, IsReordered}

-- ---- two parts

-- the second part's tables are those behind the first's
behind_first : (first : ℕ) (g : Formula) (tables : List Relation) → tables_beyond g (drop first tables) ≡ drop (first + length (outermost g)) tables
behind_first first g tables = drop-drop (length (outermost g)) first tables

module _ (first : ℕ) (g h a b : Formula) (ns ms : List ℕ) (left : IsReordered (only_formula first g) a ns)
    (right : IsReordered (only_formula (first + length (outermost g)) h) b ms) where
  abbrev second : ℕ
  second = first + length (outermost g)

  pair_within : (n : ℕ) → Contains (ns ++ ms) n → n < first + length (outermost g ++ outermost h)
  pair_within n there = ⊎_elim
      (λ front. let below : n < first + length (outermost g) = alone_some first g (λ p. n < p.first + length (outermost p.formula)) front in
      omega (arith, below, length-append (outermost g) (outermost h)))
      (λ back. let below : n < second + length (outermost h) = alone_some second h (λ p. n < p.first + length (outermost p.formula)) back in
      omega (arith, below, length-append (outermost g) (outermost h)))
      (some_parted (only_formula first g) (only_formula second h) (λ p. n < p.first + length (outermost p.formula))
      (within_both (only_formula first g) (only_formula second h) a b ns ms left right n there))

  pair_fits : (tables : List Relation) → FitOperators (outermost g ++ outermost h) (drop first tables) → FitOperators (outermost a ++ outermost b) (renumbered (ns ++ ms) tables)
  pair_fits tables fit = fits_both (only_formula first g) (only_formula second h) a b ns ms left right tables
      (each_alone first g (λ p. FitOperators (outermost p.formula) (drop p.first tables)) (fit_front (outermost g) (outermost h) (drop first tables) fit))
      (each_alone second h (λ p. FitOperators (outermost p.formula) (drop p.first tables))
      (subst (FitOperators (outermost h)) (behind_first first g tables) (fit_back (outermost g) (outermost h) (drop first tables) fit)))

  pair_fresh : (scope : List VarId) → BindsFresh g (Contains scope) × BindsFresh h (Contains scope) → BindsFresh a (Contains scope) × BindsFresh b (Contains scope)
  pair_fresh scope both = (
    left.fresh scope (each_alone first g (λ p. BindsFresh p.formula (Contains scope)) both.0),
    right.fresh scope (each_alone second h (λ p. BindsFresh p.formula (Contains scope)) both.1),
  )

  pub pair_free : (x : VarId) → (IsFree x a ⊎ IsFree x b) ↔ (IsFree x g ⊎ IsFree x h)
  pair_free x = (
    λ either. ⊎_elim (λ f. inl (alone_some first g (λ p. IsFree x p.formula) ((left.free x).0 f))) (λ f. inr (alone_some second h (λ p. IsFree x p.formula) ((right.free x).0 f))) either,
    λ either. ⊎_elim (λ f. inl ((left.free x).1 (some_alone first g (λ p. IsFree x p.formula) f))) (λ f. inr ((right.free x).1 (some_alone second h (λ p. IsFree x p.formula) f))) either,
  )

  module _ (events : List Event) (tables rest : List Relation) (v : Valuation) where
    abbrev numbered : List Relation
    numbered = renumbered (ns ++ ms) tables ++ rest

    first_means : HoldsNow events numbered v a ↔ HoldsNow events (drop first tables) v g
    first_means =
        let told = means_left (only_formula first g) (only_formula second h) a b ns ms left right events tables rest v in
        let P = λ (p : PlacedFormula). HoldsNow events (drop p.first tables) v p.formula in
        (λ holds. alone_from first g P (told.0 holds), λ holds. told.1 (each_alone first g P holds))

    second_means : HoldsNow events (tables_beyond a numbered) v b ↔ HoldsNow events (tables_beyond g (drop first tables)) v h
    second_means =
        let told = means_right (only_formula first g) (only_formula second h) a b ns ms left right events tables rest v in
        let P = λ (p : PlacedFormula). HoldsNow events (drop p.first tables) v p.formula in
        let at = behind_first first g tables in (
          λ holds. subst (λ l. HoldsNow events l v h) (sym at) (alone_from second h P (told.0 holds)),
          λ holds. told.1 (each_alone second h P (subst (λ l. HoldsNow events l v h) at holds)),
        )

  pub or_reordered : (place : ℕ) → IsReordered (only_formula first (Or place g h)) (Or place a b) (ns ++ ms)
  or_reordered place =
      let whole = Or place g h in
      record {
        counted = counted_both (only_formula first g) (only_formula second h) a b ns ms left right;
        within = λ n there. some_alone first whole (λ p. n < p.first + length (outermost p.formula)) (pair_within n there);
        fresh = λ scope each. pair_fresh scope (alone_from first whole (λ p. BindsFresh p.formula (Contains scope)) each);
        free = λ x. (
          λ f. some_alone first whole (λ p. IsFree x p.formula) ((pair_free x).0 f),
          λ some. (pair_free x).1 (alone_some first whole (λ p. IsFree x p.formula) some),
        );
        fits = λ tables each. pair_fits tables (alone_from first whole (λ p. FitOperators (outermost p.formula) (drop p.first tables)) each);
        means = λ events tables rest v.
            let P = λ (p : PlacedFormula). HoldsNow events (drop p.first tables) v p.formula in
            let one = first_means events tables rest v in
            let two = second_means events tables rest v in (
              λ either. each_alone first whole P (λ l r. either (λ n. l (one.0 n)) (λ n. r (two.0 n))),
              λ each. λ l r. alone_from first whole P each (λ n. l (one.1 n)) (λ n. r (two.1 n)),
            );
      }

  pub implies_reordered : (place : ℕ) → IsReordered (only_formula first (Implies place g h)) (Implies place a b) (ns ++ ms)
  implies_reordered place =
      let whole = Implies place g h in
      record {
        counted = counted_both (only_formula first g) (only_formula second h) a b ns ms left right;
        within = λ n there. some_alone first whole (λ p. n < p.first + length (outermost p.formula)) (pair_within n there);
        fresh = λ scope each. pair_fresh scope (alone_from first whole (λ p. BindsFresh p.formula (Contains scope)) each);
        free = λ x. (
          λ f. some_alone first whole (λ p. IsFree x p.formula) ((pair_free x).0 f),
          λ some. (pair_free x).1 (alone_some first whole (λ p. IsFree x p.formula) some),
        );
        fits = λ tables each. pair_fits tables (alone_from first whole (λ p. FitOperators (outermost p.formula) (drop p.first tables)) each);
        means = λ events tables rest v.
            let P = λ (p : PlacedFormula). HoldsNow events (drop p.first tables) v p.formula in
            let one = first_means events tables rest v in
            let two = second_means events tables rest v in (
              λ implies. each_alone first whole P (λ n. two.0 (implies (one.1 n))),
              λ each. λ n. two.1 (alone_from first whole P each (one.0 n)),
            );
      }

-- ---- one part

module _ (first : ℕ) (g a : Formula) (ns : List ℕ) (part : IsReordered (only_formula first g) a ns) where
  part_within : (n : ℕ) → Contains ns n → n < first + length (outermost g)
  part_within n there = alone_some first g (λ p. n < p.first + length (outermost p.formula)) (part.within n there)

  pub part_free : (x : VarId) → IsFree x a ↔ IsFree x g
  part_free x = (λ f. alone_some first g (λ p. IsFree x p.formula) ((part.free x).0 f), λ f. (part.free x).1 (some_alone first g (λ p. IsFree x p.formula) f))

  pub part_fits : (tables : List Relation) → FitOperators (outermost g) (drop first tables) → FitOperators (outermost a) (renumbered ns tables)
  part_fits tables fit = part.fits tables (each_alone first g (λ p. FitOperators (outermost p.formula) (drop p.first tables)) fit)

  pub part_means : (events : List Event) (tables rest : List Relation) (v : Valuation) → HoldsNow events (renumbered ns tables ++ rest) v a ↔ HoldsNow events (drop first tables) v g
  part_means events tables rest v =
      let told = part.means events tables rest v in
      let P = λ (p : PlacedFormula). HoldsNow events (drop p.first tables) v p.formula in
      (λ holds. alone_from first g P (told.0 holds), λ holds. told.1 (each_alone first g P holds))

  pub part_fresh : (scope : List VarId) → BindsFresh g (Contains scope) → BindsFresh a (Contains scope)
  part_fresh scope fresh = part.fresh scope (each_alone first g (λ p. BindsFresh p.formula (Contains scope)) fresh)

  -- below a quantifier of some variables
  fresh_below : (xs scope : List VarId) → BindsFresh g (λ x. Contains scope x ⊎ Contains xs x) → BindsFresh a (λ x. Contains scope x ⊎ Contains xs x)
  fresh_below xs scope fresh =
      fresh_within a (Contains (scope ++ xs)) (λ x. Contains scope x ⊎ Contains xs x) (λ x either. ⊎_elim (Contains-append_left scope xs x) (Contains-append_right scope xs x) either)
      (part_fresh (scope ++ xs) (fresh_within g (λ x. Contains scope x ⊎ Contains xs x) (Contains (scope ++ xs)) (Contains-append scope xs) fresh))

  pub not_reordered : (place : ℕ) → IsReordered (only_formula first (Not place g)) (Not place a) ns
  not_reordered place =
      let whole = Not place g in
      record {
        counted = part.counted;
        within = λ n there. some_alone first whole (λ p. n < p.first + length (outermost p.formula)) (part_within n there);
        fresh = λ scope each. part_fresh scope (alone_from first whole (λ p. BindsFresh p.formula (Contains scope)) each);
        free = λ x. (
          λ f. some_alone first whole (λ p. IsFree x p.formula) ((part_free x).0 f),
          λ some. (part_free x).1 (alone_some first whole (λ p. IsFree x p.formula) some),
        );
        fits = λ tables each. part_fits tables (alone_from first whole (λ p. FitOperators (outermost p.formula) (drop p.first tables)) each);
        means = λ events tables rest v.
            let P = λ (p : PlacedFormula). HoldsNow events (drop p.first tables) v p.formula in
            let one = part_means events tables rest v in (
              λ fails. each_alone first whole P (λ n. fails (one.1 n)),
              λ each. λ n. alone_from first whole P each (one.0 n),
            );
      }

  pub exists_reordered : (place : ℕ) (xs : List VarId) → IsReordered (only_formula first (Exists place xs g)) (Exists place xs a) ns
  exists_reordered place xs =
      let whole = Exists place xs g in
      record {
        counted = part.counted;
        within = λ n there. some_alone first whole (λ p. n < p.first + length (outermost p.formula)) (part_within n there);
        fresh = λ scope each. let told = alone_from first whole (λ p. BindsFresh p.formula (Contains scope)) each in (told.0, fresh_below xs scope told.1);
        free = λ x. (
          λ f. some_alone first whole (λ p. IsFree x p.formula) ((part_free x).0 f.0, f.1),
          λ some. let f = alone_some first whole (λ p. IsFree x p.formula) some in ((part_free x).1 f.0, f.1),
        );
        fits = λ tables each. part_fits tables (alone_from first whole (λ p. FitOperators (outermost p.formula) (drop p.first tables)) each);
        means = λ events tables rest v.
            let P = λ (p : PlacedFormula). HoldsNow events (drop p.first tables) v p.formula in (
              λ holds. each_alone first whole P (λ none. holds (λ some. none (some.0, some.1, (part_means events tables rest (with_values xs some.0 v)).0 some.2))),
              λ each. λ none. alone_from first whole P each (λ some. none (some.0, some.1, (part_means events tables rest (with_values xs some.0 v)).1 some.2)),
            );
      }

  pub forall_reordered : (place : ℕ) (xs : List VarId) → IsReordered (only_formula first (Forall place xs g)) (Forall place xs a) ns
  forall_reordered place xs =
      let whole = Forall place xs g in
      record {
        counted = part.counted;
        within = λ n there. some_alone first whole (λ p. n < p.first + length (outermost p.formula)) (part_within n there);
        fresh = λ scope each. let told = alone_from first whole (λ p. BindsFresh p.formula (Contains scope)) each in (told.0, fresh_below xs scope told.1);
        free = λ x. (
          λ f. some_alone first whole (λ p. IsFree x p.formula) ((part_free x).0 f.0, f.1),
          λ some. let f = alone_some first whole (λ p. IsFree x p.formula) some in ((part_free x).1 f.0, f.1),
        );
        fits = λ tables each. part_fits tables (alone_from first whole (λ p. FitOperators (outermost p.formula) (drop p.first tables)) each);
        means = λ events tables rest v.
            let P = λ (p : PlacedFormula). HoldsNow events (drop p.first tables) v p.formula in (
              λ holds. each_alone first whole P (λ values long. (part_means events tables rest (with_values xs values v)).0 (holds values long)),
              λ each. λ values long. (part_means events tables rest (with_values xs values v)).1 (alone_from first whole P each values long),
            );
      }

-- ---- conjuncts

-- these are together what the formula is over its tables
pub record AreConjuncts (ps : List PlacedFormula) (first : ℕ) (f : Formula) : Type 0 where
  pub within : EachPlaced ps (λ p. p.first + length (outermost p.formula) ≤ first + length (outermost f))
  pub fresh : (scope : List VarId) → BindsFresh f (Contains scope) → EachPlaced ps (λ p. BindsFresh p.formula (Contains scope))
  pub free : (x : VarId) → SomePlaced ps (λ p. IsFree x p.formula) ↔ IsFree x f
  pub fits : (tables : List Relation) → FitOperators (outermost f) (drop first tables) → EachPlaced ps (λ p. FitOperators (outermost p.formula) (drop p.first tables))
  pub means : (events : List Event) (tables : List Relation) (v : Valuation) → EachPlaced ps (λ p. HoldsNow events (drop p.first tables) v p.formula)
      ↔ HoldsNow events (drop first tables) v f

alone : (first : ℕ) (f : Formula) → AreConjuncts (only_formula first f) first f
alone first f = record {
  within = each_alone first f (λ p. p.first + length (outermost p.formula) ≤ first + length (outermost f)) (omega arith);
  fresh = λ scope fresh. each_alone first f (λ p. BindsFresh p.formula (Contains scope)) fresh;
  free = λ x. (alone_some first f (λ p. IsFree x p.formula), some_alone first f (λ p. IsFree x p.formula));
  fits = λ tables fit. each_alone first f (λ p. FitOperators (outermost p.formula) (drop p.first tables)) fit;
  means = λ events tables v. (alone_from first f (λ p. HoldsNow events (drop p.first tables) v p.formula), each_alone first f (λ p. HoldsNow events (drop p.first tables) v p.formula));
}

module _ (first place : ℕ) (g h : Formula) (ps qs : List PlacedFormula) (left : AreConjuncts ps first g) (right : AreConjuncts qs (first + length (outermost g)) h) where
  conjuncts_joined : AreConjuncts (ps ++ qs) first (And place g h)
  conjuncts_joined = record {
    within = each_joined ps qs (λ p. p.first + length (outermost p.formula) ≤ first + length (outermost g ++ outermost h))
        (λ p there. let below : p.first + length (outermost p.formula) ≤ first + length (outermost g) = left.within p there in omega (arith, below, length-append (outermost g) (outermost h)))
        (λ p there. let below : p.first + length (outermost p.formula) ≤ first + length (outermost g) + length (outermost h) = right.within p there in
        omega (arith, below, length-append (outermost g) (outermost h)));
    fresh = λ scope both. each_joined ps qs (λ p. BindsFresh p.formula (Contains scope)) (left.fresh scope both.0) (right.fresh scope both.1);
    free = λ x. (
      λ some. ⊎_elim (λ f. inl ((left.free x).0 f)) (λ f. inr ((right.free x).0 f)) (some_parted ps qs (λ p. IsFree x p.formula) some),
      λ either. ⊎_elim (λ f. some_front ps qs (λ p. IsFree x p.formula) ((left.free x).1 f)) (λ f. some_back ps qs (λ p. IsFree x p.formula) ((right.free x).1 f)) either,
    );
    fits = λ tables fit. each_joined ps qs (λ p. FitOperators (outermost p.formula) (drop p.first tables))
        (left.fits tables (fit_front (outermost g) (outermost h) (drop first tables) fit))
        (right.fits tables (subst (FitOperators (outermost h)) (behind_first first g tables) (fit_back (outermost g) (outermost h) (drop first tables) fit)));
    means = λ events tables v.
        let P = λ (p : PlacedFormula). HoldsNow events (drop p.first tables) v p.formula in
        let at = behind_first first g tables in (
          λ each. (
            (left.means events tables v).0 (each_front ps qs P each),
            subst (λ l. HoldsNow events l v h) (sym at) ((right.means events tables v).0 (each_back ps qs P each)),
          ),
          λ both. each_joined ps qs P ((left.means events tables v).1 both.0) ((right.means events tables v).1 (subst (λ l. HoldsNow events l v h) at both.1)),
        );
  }

pub conjuncts_are : (first : ℕ) (f : Formula) → AreConjuncts (conjuncts_from first f) first f
conjuncts_are first (And place g h) = conjuncts_joined first place g h (conjuncts_from first g) (conjuncts_from (first + length (outermost g)) h)
    (conjuncts_are first g) (conjuncts_are (first + length (outermost g)) h)
conjuncts_are first f = alone first f

-- what its conjuncts are in any order, the formula is
pub whole_reordered : (first : ℕ) (f : Formula) (ps : List PlacedFormula) (a : Formula) (ns : List ℕ) → ((p : PlacedFormula) → Contains ps p ↔ Contains (conjuncts_from first f) p)
    → IsReordered ps a ns → IsReordered (only_formula first f) a ns
whole_reordered first f ps a ns same told =
    let are = conjuncts_are first f in
    record {
      counted = told.counted;
      within = λ n there.
          let one = told.within n there in
          let below : one.0.first + length (outermost one.0.formula) ≤ first + length (outermost f) = are.within one.0 ((same one.0).0 one.1) in
          some_alone first f (λ p. n < p.first + length (outermost p.formula)) (omega (arith, below, one.2));
      fresh = λ scope all. told.fresh scope (λ p there. are.fresh scope (alone_from first f (λ p. BindsFresh p.formula (Contains scope)) all) p ((same p).0 there));
      free = λ x. (
        λ f_free. let one = (told.free x).0 f_free in some_alone first f (λ p. IsFree x p.formula) ((are.free x).0 (one.0, (same one.0).0 one.1, one.2)),
        λ one. let is = (are.free x).1 (alone_some first f (λ p. IsFree x p.formula) one) in (told.free x).1 (is.0, (same is.0).1 is.1, is.2),
      );
      fits = λ tables all. told.fits tables (λ p there. are.fits tables (alone_from first f (λ p. FitOperators (outermost p.formula) (drop p.first tables)) all) p ((same p).0 there));
      means = λ events tables rest v.
          let P = λ (p : PlacedFormula). HoldsNow events (drop p.first tables) v p.formula in (
            λ holds. each_alone first f P ((are.means events tables v).0 (λ p there. (told.means events tables rest v).0 holds p ((same p).1 there))),
            λ all. (told.means events tables rest v).1 (λ p there. (are.means events tables v).1 (alone_from first f P all) p ((same p).0 there)),
          );
    }
