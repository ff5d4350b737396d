-- Lists that rise, and pairs of rows and times that are put one after another.
use Rattle.windows.proofs.Vocabulary.{◌≡◌, ◌∙◌, ◌↔◌, inl, inr, ⊎_elim, ℕ, zero, suc, ◌+◌, ◌<◌, ◌≤◌, List, [], ◌∷◌, ◌++◌, map, length, take, get_or, All, Contains, None, refl, sym, ap, subst, arith}
use Rattle.windows.proofs.Vocabulary.{append_assoc, Some, Option, AllByRecursion, Less, All-contains, All-contains_itself, All-nil, All-cons, All-weaker, Contains-append_cases, Contains-append_left}
use Rattle.windows.proofs.Vocabulary.{Contains-append_right, map-append, take_all, take_more, lookup, row_cmp, Valuation, valuation_of, Value, first_or_later, none_in_nil, Contains-map}
use Rattle.windows.proofs.Vocabulary.{Contains-from_map, contains_from_valuation, Relation, HasValuation, IsTable, AreKeepable, AreOfLast, AreRising, AreTimesOf, ArePairsOf, ArePairsKept, Stores}
use Rattle.windows.proofs.Vocabulary.{pairs_of_last, last_step_time, IsPairBefore, IsRisingBy, pair, RiseTo, Window, HasLeast, HasRow, KeepsLeast, kept_entries, KeptPair, LastStep, AreWindowEntries}
use Rattle.windows.proofs.Vocabulary.{HasTime}
use Rattle.std.specs.List.Sorted.{IsStrictlySortedBy}
use Rattle.windows.proofs.KeptLaws.{rises_append, rises_map, stored_long, stored_row}
use Rattle.windows.proofs.EntryLemmas.{forgets_missing}
use Rattle.windows.proofs.LeastLemmas.{chosen_of_fewer, of_times, one_entry}
use Rattle.windows.proofs.TimeLemmas.{up_to}
use Rattle.windows.proofs.WindowLemmas.{kept_from, to_view}
use Rattle.enf_data.specs.contracts.rows.RowPartialEq.TheImpl as rows

-- ---- lists that rise

module _ {X : Type 0} (Before : X → X → Type 0) where
  -- the items up to a place are before the one there
  pub before_place : (xs : List X) (i : ℕ) (d x : X) → IsRisingBy Before xs → i < length xs → Contains (take i xs) x → Before x (get_or xs i d)
  before_place [] i d x rises below there = absurd (omega (arith, below))
  before_place (y ∷ xs) zero d x rises below there = absurd (none_in_nil x there)
  before_place (y ∷ xs) (suc i) d x rises below there =
      ⊎_elim (λ same. subst (λ z. Before z (get_or xs i d)) same (All-contains (Before y) xs (get_or xs i d) rises.0 (i, omega (arith, below), at xs i (omega (arith, below)))))
      (λ behind. before_place xs i d x rises.1 (omega (arith, below)) behind) (first_or_later x y (take i xs) there)
    where
      at : (zs : List X) (k : ℕ) → k < length zs → get_or zs k (get_or zs k d) ≡ get_or zs k d
      at [] k within = absurd (omega (arith, within))
      at (z ∷ zs) zero within = refl
      at (z ∷ zs) (suc k) within = at zs k (omega (arith, within))

all_by_recursion : {X : Type 0} (P : X → Type 0) (xs : List X) → AllByRecursion P xs → All P xs
all_by_recursion P [] each = All-nil P
all_by_recursion P (x ∷ xs) each = All-cons P x xs each.0 (all_by_recursion P xs each.1)

-- rows of a table
pub rows_rise : (rows : List (List Value)) → IsStrictlySortedBy row_cmp rows → IsRisingBy (λ a b. row_cmp a b ≡ Less) rows
unfolding IsStrictlySortedBy
rows_rise [] sorted = tt
rows_rise (row ∷ rows) sorted = (all_by_recursion (λ other. row_cmp row other ≡ Less) rows sorted.0, rows_rise rows sorted.1)

-- times of a row
pub times_rise : (last : ℕ) (times : List ℕ) → RiseTo last times → IsRisingBy ◌<◌ times
times_rise last [] rise = tt
times_rise last (time ∷ times) rise = (rise.1, times_rise last times rise.2)

-- ---- pairs

pub pairs_rise : (row : List Value) (times : List ℕ) → IsRisingBy ◌<◌ times → AreRising (map (pair row) times)
pairs_rise row times rises = rises_map ◌<◌ IsPairBefore (pair row) (λ s t below. inr (refl, below)) times rises

pub step_rises : (time : ℕ) (rows : List (List Value)) → IsStrictlySortedBy row_cmp rows → AreRising (map (λ row. pair row time) rows)
step_rises time rows sorted = rises_map (λ a b. row_cmp a b ≡ Less) IsPairBefore (λ row. pair row time) (λ a b less. inl less) rows (rows_rise rows sorted)

pub step_fits : (time n : ℕ) (rows : List (List Value)) → All (λ row. length row ≡ n) rows → All (λ p. length p.row ≡ n) (map (λ row. pair row time) rows)
step_fits time n rows fit = All-weaker (Contains (map (λ row. pair row time) rows)) (λ p. length p.row ≡ n) (λ p there.
    let from = Contains-from_map (λ row. pair row time) rows p there in
    subst (λ q. length q.row ≡ n) from.2 (All-contains (λ row. length row ≡ n) rows from.0 fit from.1)) (map (λ row. pair row time) rows) (All-contains_itself (map (λ row. pair row time) rows))

-- the pairs of some rows, in order
pub record ArePairsOfRows (entries : List (List Value × List ℕ)) (rows : List (List Value)) (pairs : List KeptPair) : Type 0 where
  pub rising : AreRising pairs
  pub exact : (row : List Value) (time : ℕ) → Contains pairs (pair row time) ↔ (Contains rows row × HasTime entries row time)

pub no_rows_yet : (entries : List (List Value × List ℕ)) → ArePairsOfRows entries [] []
no_rows_yet entries = record {
  rising = tt;
  exact = λ row time. (λ there. absurd (none_in_nil (pair row time) there), λ both. absurd (none_in_nil row both.0));
}

-- with one more, that is after them
pub row_more : (entries : List (List Value × List ℕ)) (done : List (List Value)) (row : List Value) (times : List ℕ) (pairs after : List KeptPair)
    → ((other : List Value) → Contains done other → row_cmp other row ≡ Less) → AreTimesOf entries row times → after ≡ pairs ++ map (pair row) times
    → ArePairsOfRows entries done pairs → ArePairsOfRows entries (done ++ row ∷ []) after
row_more entries done row times pairs after behind are grown so_far = record {
  rising = subst AreRising (sym grown) (rises_append IsPairBefore pairs (map (pair row) times) so_far.rising (pairs_rise row times are.rise) (λ p q first second.
      let from = Contains-from_map (pair row) times q second in
      subst (IsPairBefore p) from.2 (inl (behind p.row ((so_far.exact p.row p.time).0 first).0))));
  exact = λ other time. (
    λ there. ⊎_elim
        (λ first. let both = (so_far.exact other time).0 first in (Contains-append_left done (row ∷ []) other both.0, both.1))
        (λ last. let from = Contains-from_map (pair row) times (pair other time) last in
        let same : row ≡ other = ap (λ p. p.row) from.2 in
        (Contains-append_right done (row ∷ []) other (0, omega arith, same), subst (λ r. HasTime entries r time) same ((are.exact time).0 (subst (Contains times) (ap (λ p. p.time) from.2) from.1))))
        (Contains-append_cases pairs (map (pair row) times) (pair other time) (subst (λ l. Contains l (pair other time)) grown there)),
    λ both. subst (λ l. Contains l (pair other time)) (sym grown) (⊎_elim
        (λ first. Contains-append_left pairs (map (pair row) times) (pair other time) ((so_far.exact other time).1 (first, both.1)))
        (λ last. ⊎_elim
        (λ same. Contains-append_right pairs (map (pair row) times) (pair other time)
        (subst (λ r. Contains (map (pair row) times) (pair r time)) same (Contains-map (pair row) times time ((are.exact time).1 (subst (λ r. HasTime entries r time) (sym same) both.1)))))
        (λ none. absurd (none_in_nil other none)) (first_or_later other row [] last))
        (Contains-append_cases done (row ∷ []) other both.0)),
  );
}

-- ---- items that are put last

-- one more of a list whose images are put last
pub put_one : {X Y : Type 0} (f : X → Y) (old out after : List Y) (xs : List X) (i : ℕ) (d : X) → out ≡ old ++ map f (take i xs) → i < length xs → after ≡ out ++ f (get_or xs i d) ∷ []
    → after ≡ old ++ map f (take (i + 1) xs)
put_one f old out after xs i d so_far below grown =
    grown ∙ ap (λ l. l ++ f (get_or xs i d) ∷ []) so_far ∙ append_assoc old (map f (take i xs)) (f (get_or xs i d) ∷ [])
    ∙ ap (λ l. old ++ l) (sym (map-append f (take i xs) (get_or xs i d ∷ []))) ∙ ap (λ l. old ++ map f l) (sym (take_more xs i d below))

pub put_all : {X Y : Type 0} (f : X → Y) (old out : List Y) (xs : List X) (i : ℕ) → out ≡ old ++ map f (take i xs) → length xs ≤ i → out ≡ old ++ map f xs
put_all f old out xs i so_far over = so_far ∙ ap (λ l. old ++ map f l) (take_all i xs over)

-- ---- the times of a row

pub times_of_row : (long last : ℕ) (entries : List (List Value × List ℕ)) (row : List Value) (times : List ℕ) → AreWindowEntries long last entries → Contains entries (row, times)
    → AreTimesOf entries row times
times_of_row long last entries row times kept there = record {
  rise = times_rise last times (All-contains (λ e. (length e.0 ≡ long) × RiseTo last e.1) entries (row, times) kept.fit there).1;
  exact = λ time. (λ has. (times, there, has), λ has. subst (λ t. Contains t time) (one_entry entries kept.unique row has.0 times has.1 there) has.2);
}

pub no_times : (entries : List (List Value × List ℕ)) (row : List Value) → lookup (rows.eq-value.it row) entries ≡ None → AreTimesOf entries row []
no_times entries row none = record {
  rise = tt;
  exact = λ time. (λ there. absurd (none_in_nil time there), λ has. absurd ((((forgets_missing row entries none).exact row time).0 has).1 refl));
}

-- ---- the pairs of a window

module _ (window : Window) (least : KeepsLeast window) (es : List (List Value × List ℕ)) (is : kept_entries es ≡ window.kept) where
  to_stored : (row : List Value) (time : ℕ) → HasTime es row time → Stores window row time
  to_stored row time has = (has.0, subst (λ l. Contains l (row, has.0)) is (to_view es row has.0 time has.1 has.2), has.2)

  from_stored : (row : List Value) (time : ℕ) → Stores window row time → HasTime es row time
  from_stored row time stored = (stored.0, (kept_from es (row, stored.0) (subst (λ l. Contains l (row, stored.0)) (sym is) stored.1)).0, stored.2)

  pub are_pairs : (t : Relation) (pairs : List KeptPair) → IsTable t → t.columns ≡ window.columns → ((v : Valuation) → HasValuation t v ↔ ((time : ℕ) × HasRow window v time))
      → ArePairsOfRows es t.rows pairs
      → ArePairsOf window pairs
  are_pairs t pairs table same kept are row time = (
    λ there. to_stored row time ((are.exact row time).0 there).1,
    λ stored.
        let long = stored_long window row time least stored in
        (are.exact row time).1 (
          contains_from_valuation t row table (long ∙ ap length (sym same))
              (subst (λ l. HasValuation t (valuation_of l row)) (sym same) ((kept (valuation_of window.columns row)).1 (time, (stored_row window row time least long).0 stored))),
          from_stored row time stored,
        ),
  )

pub are_kept : (window : Window) (pairs : List KeptPair) → KeepsLeast window → ArePairsOf window pairs → ArePairsKept window pairs
are_kept window pairs least exact steps stands row time long =
    let stored = stored_row window row time least long in
    let kept = stands.kept (valuation_of window.columns row) time in
    (λ there. kept.0 (stored.0 ((exact row time).0 there)), λ is. (exact row time).1 (stored.1 (kept.1 is)))

-- they are such as a window can be made of
pub are_keepable : (window : Window) (pairs : List KeptPair) → KeepsLeast window → ArePairsOf window pairs → AreRising pairs → AreKeepable window.interval window.columns window.last pairs
are_keepable window pairs least exact rising = record {
  fit = All-weaker (Contains pairs) (λ p. length p.row ≡ length window.columns) (λ p there. stored_long window p.row p.time least ((exact p.row p.time).0 there)) pairs (All-contains_itself pairs);
  up_to = All-weaker (Contains pairs) (λ p. p.time ≤ window.last) (λ p there.
      let stored = (exact p.row p.time).0 there in
      up_to window.last stored.0 p.time (All-contains (HasLeast window) window.kept (p.row, stored.0) least.rows stored.1).rise stored.2) pairs (All-contains_itself pairs);
  rising = rising;
  chosen = λ row time there.
      let stored = (exact row time).0 there in
      let has = All-contains (HasLeast window) window.kept (row, stored.0) least.rows stored.1 in
      chosen_of_fewer window.interval.high window.interval.low window.last (Contains stored.0) (λ other. Contains pairs (pair row other)) time
      (λ other also. let too = (exact row other).0 also in subst (λ l. Contains l other) (one_entry window.kept least.unique row too.0 stored.0 too.1 stored.1) too.2)
      (of_times window.interval.high window.interval.low window.last stored.0 has.rise has.least time stored.2);
}

pub are_of_last : (last : Option LastStep) → AreOfLast (last_step_time last) (pairs_of_last last)
are_of_last None = refl
are_of_last (Some last) = All-weaker (Contains (map (λ row. pair row last.time) last.rows.rows)) (λ p. p.time ≡ last.time) (λ p there.
    sym (ap (λ q. q.time) (Contains-from_map (λ row. pair row last.time) last.rows.rows p there).2)) (pairs_of_last (Some last)) (All-contains_itself (pairs_of_last (Some last)))

pub none_of_last : (last : Option ℕ) → AreOfLast last []
none_of_last None = refl
none_of_last (Some time) = All-nil _
