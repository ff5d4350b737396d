-- Formulas whose conjuncts stand in another order: alone, joined, and below other operators.
use Rattle.monitorable_guard.proofs.Vocabulary.{◌≡◌, ℕ, zero, suc, ◌+◌, ◌<◌, ◌⊎◌, inl, inr, ⊎_elim, List, [], ◌∷◌, ◌++◌, length, get_or, drop, Contains, ◌↔◌, refl, sym, ap, subst, ◌∙◌, arith}
use Rattle.monitorable_guard.proofs.Vocabulary.{length-append, length-map, drop-drop, get_or-drop, Contains-append, Contains-append_left, Contains-append_right, here, none_in_nil, only_item}
use Rattle.monitorable_guard.proofs.Vocabulary.{Valuation, with_values, Event, VarId, Formula, True, False, Atom, Equal, Less, AtMost, Not, And, Or, Implies, Exists, Forall, Prev, Next, Once}
use Rattle.monitorable_guard.proofs.Vocabulary.{Historically, Since, Eventually, Always, Until, IsFree, BindsFresh, Relation, HasValuation, FitOperators, HoldsNow, FirstHas, outermost, tables_beyond}
use Rattle.monitorable_guard.specs.machine.Reordering.{no_table, renumbered, PlacedFormula, EachPlaced, SomePlaced, only_formula, IsReordered}
use Rattle.std.proofs.Math.Seq.{drop-append_seam}
use Rattle.std.proofs.lemmas.List.{map-append, get_or_append_left, append_assoc}
use Rattle.std.proofs.lemmas.List.FromFn.{length-range_with_len, get_or-range_with_len, get_or-map-range_with_len, length-map-range_with_len}
use Rattle.std.specs.List.{range_with_len}

-- ---- tables

-- a table of a list, and that in front where the others are left out
pub first_at : (tables : List Relation) (n : ℕ) (v : Valuation) → FirstHas (drop n tables) v ↔ HasValuation (get_or tables n no_table) v
first_at [] zero v = (λ none. absurd none, λ has. none_in_nil has.0 has.1)
first_at [] (suc n) v = (λ none. absurd none, λ has. none_in_nil has.0 has.1)
first_at (t ∷ tables) zero v = (λ has. has, λ has. has)
first_at (t ∷ tables) (suc n) v = first_at tables n v

-- so many tables in front have the same valuations
abbrev AreAlike : ℕ → List Relation → List Relation → Type 0
AreAlike count tables others = (k : ℕ) → k < count → (v : Valuation) → FirstHas (drop k tables) v ↔ FirstHas (drop k others) v

turn_alike : (count : ℕ) (tables others : List Relation) → AreAlike count tables others → AreAlike count others tables
turn_alike count tables others alike k within v = ((alike k within v).1, (alike k within v).0)

module _ (g h : Formula) (tables others : List Relation) (alike : AreAlike (length (outermost g ++ outermost h)) tables others) where
  alike_front : AreAlike (length (outermost g)) tables others
  alike_front k within v = alike k (omega (arith, within, length-append (outermost g) (outermost h))) v

  alike_back : AreAlike (length (outermost h)) (tables_beyond g tables) (tables_beyond g others)
  alike_back k within v =
      let n = length (outermost g) in
      let both = alike (n + k) (omega (arith, within, length-append (outermost g) (outermost h))) v in (
        λ has. subst (λ l. FirstHas l v) (sym (drop-drop k n others)) (both.0 (subst (λ l. FirstHas l v) (drop-drop k n tables) has)),
        λ has. subst (λ l. FirstHas l v) (sym (drop-drop k n tables)) (both.1 (subst (λ l. FirstHas l v) (drop-drop k n others) has)),
      )

-- what holds does over other tables that have the same valuations
module _ (events : List Event) where
  holds_alike : (tables others : List Relation) (v : Valuation) (f : Formula) → AreAlike (length (outermost f)) tables others → HoldsNow events tables v f → HoldsNow events others v f
  holds_alike tables others v (True place) alike h = h
  holds_alike tables others v (False place) alike h = h
  holds_alike tables others v (Atom place name terms) alike h = h
  holds_alike tables others v (Equal place s t) alike h = h
  holds_alike tables others v (Less place s t) alike h = h
  holds_alike tables others v (AtMost place s t) alike h = h
  holds_alike tables others v (Not place g) alike h = λ n. h (holds_alike others tables v g (turn_alike (length (outermost g)) tables others alike) n)
  holds_alike tables others v (And place g h) alike both = (
    holds_alike tables others v g (alike_front g h tables others alike) both.0,
    holds_alike (tables_beyond g tables) (tables_beyond g others) v h (alike_back g h tables others alike) both.1,
  )
  holds_alike tables others v (Or place g h) alike either = λ l r. either
      (λ n. l (holds_alike tables others v g (alike_front g h tables others alike) n))
      (λ n. r (holds_alike (tables_beyond g tables) (tables_beyond g others) v h (alike_back g h tables others alike) n))
  holds_alike tables others v (Implies place g h) alike each = λ n.
      holds_alike (tables_beyond g tables) (tables_beyond g others) v h (alike_back g h tables others alike)
      (each (holds_alike others tables v g (turn_alike (length (outermost g)) tables others (alike_front g h tables others alike)) n))
  holds_alike tables others v (Exists place xs g) alike h = λ none. h (λ some. none (some.0, some.1, holds_alike tables others (with_values xs some.0 v) g alike some.2))
  holds_alike tables others v (Forall place xs g) alike each = λ values long. holds_alike tables others (with_values xs values v) g alike (each values long)
  holds_alike tables others v (Prev place interval g) alike h = (alike 0 (omega arith) v).0 h
  holds_alike tables others v (Once place interval g) alike h = (alike 0 (omega arith) v).0 h
  holds_alike tables others v (Historically place interval g) alike h = λ has. h ((alike 0 (omega arith) v).1 has)
  holds_alike tables others v (Since place interval g h) alike has = (alike 0 (omega arith) v).0 has
  holds_alike tables others v (Next place interval g) alike h = h
  holds_alike tables others v (Eventually place interval g) alike h = h
  holds_alike tables others v (Always place interval g) alike h = h
  holds_alike tables others v (Until place interval g h) alike holds = holds

-- the tables at all places from one on are those that are there
given_alike : (first count : ℕ) (tables rest : List Relation) → AreAlike count (renumbered (range_with_len first count) tables ++ rest) (drop first tables)
given_alike first count tables rest k within v =
    let numbered = renumbered (range_with_len first count) tables in
    let table = λ (n : ℕ). get_or tables n no_table in
    let long : k < length numbered = omega (arith, within, length-map-range_with_len table first count) in
    let same : get_or (numbered ++ rest) k no_table ≡ get_or tables (first + k) no_table =
    get_or_append_left numbered rest no_table k long ∙ get_or-map-range_with_len table first count k (first + k) no_table within refl in
    let left = first_at (numbered ++ rest) k v in
    let right = first_at tables (first + k) v in
    let at : drop k (drop first tables) ≡ drop (first + k) tables = drop-drop k first tables in (
      λ has. subst (λ l. FirstHas l v) (sym at) (right.1 (subst (λ t. HasValuation t v) same (left.0 has))),
      λ has. left.1 (subst (λ t. HasValuation t v) (sym same) (right.0 (subst (λ l. FirstHas l v) at has))),
    )

given_fit : (fs : List Formula) (first : ℕ) (tables : List Relation) → FitOperators fs (drop first tables) → FitOperators fs (renumbered (range_with_len first (length fs)) tables)
given_fit [] first tables fit = tt
given_fit (f ∷ fs) first tables fit = by (drop first tables) refl fit (λ behind. given_fit fs (first + 1) tables (subst (FitOperators fs) (drop-drop 1 first tables) behind))
  where
    by : (behind : List Relation) → drop first tables ≡ behind → FitOperators (f ∷ fs) behind
        → (FitOperators fs (drop 1 (drop first tables)) → FitOperators fs (renumbered (range_with_len (first + 1) (length fs)) tables))
        → FitOperators (f ∷ fs) (renumbered (range_with_len first (suc (length fs))) tables)
    by [] is fit rest = absurd fit
    by (t ∷ ts) is fit rest =
        let none : first ≡ first + 0 = omega arith in
        let same : get_or tables first no_table ≡ t = ap (λ n. get_or tables n no_table) none ∙ sym (get_or-drop first tables 0 no_table) ∙ ap (λ l. get_or l 0 no_table) is in
        (subst (λ u. (x : VarId) → Contains u.columns x ↔ IsFree x f) (sym same) fit.0, rest (subst (FitOperators fs) (sym (ap (drop 1) is)) fit.1))

fit_joined : (fs gs : List Formula) (tables others : List Relation) → length tables ≡ length fs → FitOperators fs tables → FitOperators gs others → FitOperators (fs ++ gs) (tables ++ others)
fit_joined [] gs [] others long front back = back
fit_joined [] gs (t ∷ tables) others long front back = absurd (omega (arith, long))
fit_joined (f ∷ fs) gs [] others long front back = absurd (omega (arith, long))
fit_joined (f ∷ fs) gs (t ∷ tables) others long front back = (front.0, fit_joined fs gs tables others (omega (arith, long)) front.1 back)

-- ---- a formula alone

abbrev pub placed : ℕ → Formula → PlacedFormula
placed first f = record { formula = f; first = first }

module _ (first : ℕ) (f : Formula) (P : PlacedFormula → Type 0) where
  pub each_alone : P (placed first f) → EachPlaced (only_formula first f) P
  each_alone at p there = subst P (only_item (placed first f) p there) at

  pub alone_from : EachPlaced (only_formula first f) P → P (placed first f)
  alone_from each = each (placed first f) (here (placed first f) [])

  pub some_alone : P (placed first f) → SomePlaced (only_formula first f) P
  some_alone at = (placed first f, here (placed first f) [], at)

  pub alone_some : SomePlaced (only_formula first f) P → P (placed first f)
  alone_some some = subst P (sym (only_item (placed first f) some.0 some.1)) some.2

-- as it is given
pub as_given : (first : ℕ) (f : Formula) → IsReordered (only_formula first f) f (range_with_len first (length (outermost f)))
as_given first f = record {
  counted = length-range_with_len first (length (outermost f));
  within = λ n there. some_alone first f (λ p. n < p.first + length (outermost p.formula))
      (let short : there.0 < length (outermost f) = omega (arith, there.1, length-range_with_len first (length (outermost f))) in
      let at : n ≡ first + there.0 = sym there.2 ∙ get_or-range_with_len first (length (outermost f)) there.0 n short in
      omega (arith, at, short));
  fresh = λ scope each. alone_from first f (λ p. BindsFresh p.formula (Contains scope)) each;
  free = λ x. (some_alone first f (λ p. IsFree x p.formula), alone_some first f (λ p. IsFree x p.formula));
  fits = λ tables each. given_fit (outermost f) first tables (alone_from first f (λ p. FitOperators (outermost p.formula) (drop p.first tables)) each);
  means = λ events tables rest v.
      let alike = given_alike first (length (outermost f)) tables rest in
      let numbered = renumbered (range_with_len first (length (outermost f))) tables ++ rest in (
        λ holds. each_alone first f (λ p. HoldsNow events (drop p.first tables) v p.formula) (holds_alike events numbered (drop first tables) v f alike holds),
        λ each. holds_alike events (drop first tables) numbered v f (turn_alike (length (outermost f)) numbered (drop first tables) alike)
            (alone_from first f (λ p. HoldsNow events (drop p.first tables) v p.formula) each),
      );
}

-- ---- one after another

module _ (ps qs : List PlacedFormula) (P : PlacedFormula → Type 0) where
  pub each_joined : EachPlaced ps P → EachPlaced qs P → EachPlaced (ps ++ qs) P
  each_joined front back p there = ⊎_elim (front p) (back p) (Contains-append ps qs p there)

  pub each_front : EachPlaced (ps ++ qs) P → EachPlaced ps P
  each_front each p there = each p (Contains-append_left ps qs p there)

  pub each_back : EachPlaced (ps ++ qs) P → EachPlaced qs P
  each_back each p there = each p (Contains-append_right ps qs p there)

  pub some_front : SomePlaced ps P → SomePlaced (ps ++ qs) P
  some_front some = (some.0, Contains-append_left ps qs some.0 some.1, some.2)

  pub some_back : SomePlaced qs P → SomePlaced (ps ++ qs) P
  some_back some = (some.0, Contains-append_right ps qs some.0 some.1, some.2)

  pub some_parted : SomePlaced (ps ++ qs) P → SomePlaced ps P ⊎ SomePlaced qs P
  some_parted some = ⊎_elim (λ there. inl (some.0, there, some.2)) (λ there. inr (some.0, there, some.2)) (Contains-append ps qs some.0 some.1)

module _ (ps qs : List PlacedFormula) (a b : Formula) (ns ms : List ℕ) (left : IsReordered ps a ns) (right : IsReordered qs b ms) where
  pub tables_joined : (tables rest : List Relation) → renumbered (ns ++ ms) tables ++ rest ≡ renumbered ns tables ++ (renumbered ms tables ++ rest)
  tables_joined tables rest =
      ap (λ l. l ++ rest) (map-append (λ n. get_or tables n no_table) ns ms) ∙ append_assoc (renumbered ns tables) (renumbered ms tables) rest

  pub tables_behind : (tables rest : List Relation) → tables_beyond a (renumbered (ns ++ ms) tables ++ rest) ≡ renumbered ms tables ++ rest
  tables_behind tables rest =
      ap (tables_beyond a) (tables_joined tables rest)
      ∙ ap (λ n. drop n (renumbered ns tables ++ (renumbered ms tables ++ rest))) (sym left.counted ∙ sym (length-map ns (λ n. get_or tables n no_table)))
      ∙ drop-append_seam (renumbered ns tables) (renumbered ms tables ++ rest)

  pub counted_both : length (ns ++ ms) ≡ length (outermost a ++ outermost b)
  counted_both = length-append ns ms ∙ (λ i. left.counted i + right.counted i) ∙ sym (length-append (outermost a) (outermost b))

  pub within_both : (n : ℕ) → Contains (ns ++ ms) n → SomePlaced (ps ++ qs) (λ p. n < p.first + length (outermost p.formula))
  within_both n there = ⊎_elim
      (λ front. some_front ps qs (λ p. n < p.first + length (outermost p.formula)) (left.within n front))
      (λ back. some_back ps qs (λ p. n < p.first + length (outermost p.formula)) (right.within n back))
      (Contains-append ns ms n there)

  pub fits_both : (tables : List Relation) → EachPlaced ps (λ p. FitOperators (outermost p.formula) (drop p.first tables))
      → EachPlaced qs (λ p. FitOperators (outermost p.formula) (drop p.first tables)) → FitOperators (outermost a ++ outermost b) (renumbered (ns ++ ms) tables)
  fits_both tables front back = subst (FitOperators (outermost a ++ outermost b)) (sym (map-append (λ n. get_or tables n no_table) ns ms))
      (fit_joined (outermost a) (outermost b) (renumbered ns tables) (renumbered ms tables) (length-map ns (λ n. get_or tables n no_table) ∙ left.counted)
      (left.fits tables front) (right.fits tables back))

  pub means_left : (events : List Event) (tables rest : List Relation) (v : Valuation) → HoldsNow events (renumbered (ns ++ ms) tables ++ rest) v a
      ↔ EachPlaced ps (λ p. HoldsNow events (drop p.first tables) v p.formula)
  means_left events tables rest v = subst (λ l. HoldsNow events l v a ↔ EachPlaced ps (λ p. HoldsNow events (drop p.first tables) v p.formula))
      (sym (tables_joined tables rest)) (left.means events tables (renumbered ms tables ++ rest) v)

  pub means_right : (events : List Event) (tables rest : List Relation) (v : Valuation) → HoldsNow events (tables_beyond a (renumbered (ns ++ ms) tables ++ rest)) v b
      ↔ EachPlaced qs (λ p. HoldsNow events (drop p.first tables) v p.formula)
  means_right events tables rest v = subst (λ l. HoldsNow events l v b ↔ EachPlaced qs (λ p. HoldsNow events (drop p.first tables) v p.formula))
      (sym (tables_behind tables rest)) (right.means events tables rest v)

  pub and_reordered : (place : ℕ) → IsReordered (ps ++ qs) (And place a b) (ns ++ ms)
  and_reordered place = record {
    counted = counted_both;
    within = within_both;
    fresh = λ scope each. (
      left.fresh scope (each_front ps qs (λ p. BindsFresh p.formula (Contains scope)) each),
      right.fresh scope (each_back ps qs (λ p. BindsFresh p.formula (Contains scope)) each),
    );
    free = λ x. (
      λ either. ⊎_elim (λ f. some_front ps qs (λ p. IsFree x p.formula) ((left.free x).0 f)) (λ f. some_back ps qs (λ p. IsFree x p.formula) ((right.free x).0 f)) either,
      λ some. ⊎_elim (λ f. inl ((left.free x).1 f)) (λ f. inr ((right.free x).1 f)) (some_parted ps qs (λ p. IsFree x p.formula) some),
    );
    fits = λ tables each. fits_both tables (each_front ps qs (λ p. FitOperators (outermost p.formula) (drop p.first tables)) each)
        (each_back ps qs (λ p. FitOperators (outermost p.formula) (drop p.first tables)) each);
    means = λ events tables rest v. (
      λ both. each_joined ps qs (λ p. HoldsNow events (drop p.first tables) v p.formula) ((means_left events tables rest v).0 both.0) ((means_right events tables rest v).0 both.1),
      λ each. (
        (means_left events tables rest v).1 (each_front ps qs (λ p. HoldsNow events (drop p.first tables) v p.formula) each),
        (means_right events tables rest v).1 (each_back ps qs (λ p. HoldsNow events (drop p.first tables) v p.formula) each),
      ),
    );
  }
