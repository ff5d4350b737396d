-- Laws of lists that rise, and of what a window or a slot has: a row with a time is so the valuation that it stands for
-- with that time.
use Rattle.windows.proofs.Vocabulary.{here, later, first_or_later, none_in_nil, Contains-from_map, Contains-map, VarId, Value, HasNoRepeats, valuation_of, ⊎_elim, List, [], ◌∷◌, ◌++◌, Contains, subst}
use Rattle.windows.proofs.Vocabulary.{map, ◌≡◌, ℕ, length, ◌↔◌, All, None, Some, Option, ap, sym, All-contains, All-contains_itself, All-weaker, Contains-append_cases, Contains-append_left}
use Rattle.windows.proofs.Vocabulary.{Contains-append_right, agrees_itself, agrees_once, AgreesWithRow, KeptPair, LastStep, HasLast, LastHasColumns, Slot, IsSlot, Stores, pairs_of_last, Window}
use Rattle.windows.proofs.Vocabulary.{HasLeast, KeepsLeast, HasRow, IsRisingBy, pair}

-- ---- lists that rise

pub rises_append : {X : Type 0} (Before : X → X → Type 0) (xs ys : List X) → IsRisingBy Before xs
    → IsRisingBy Before ys
    → ((x y : X) → Contains xs x → Contains ys y → Before x y) → IsRisingBy Before (xs ++ ys)
rises_append Before [] ys first second across = second
rises_append Before (x ∷ xs) ys first second across = (
  All-weaker (Contains (xs ++ ys)) (Before x) (λ y there.
      ⊎_elim (λ front. All-contains (Before x) xs y first.0 front) (λ back. across x y (here x xs) back)
      (Contains-append_cases xs ys y there)) (xs ++ ys) (All-contains_itself (xs ++ ys)),
  rises_append Before xs ys first.1 second (λ w y there also. across w y (later w x xs there) also),
)

pub rises_front : {X : Type 0} (Before : X → X → Type 0) (xs ys : List X) → IsRisingBy Before (xs ++ ys)
    → IsRisingBy Before xs × ((x y : X) → Contains xs x → Contains ys y → Before x y)
rises_front Before [] ys rises = (tt, λ x y there also. absurd (none_in_nil x there))
rises_front Before (x ∷ xs) ys rises =
    let rest = rises_front Before xs ys rises.1 in (
      (
        All-weaker (Contains xs) (Before x) (λ y there.
            All-contains (Before x) (xs ++ ys) y rises.0 (Contains-append_left xs ys y there)) xs
            (All-contains_itself xs),
        rest.0,
      ),
      λ w y there also. ⊎_elim
          (λ same. subst (λ z. Before z y) same
          (All-contains (Before x) (xs ++ ys) y rises.0 (Contains-append_right xs ys y also)))
          (λ behind. rest.1 w y behind also) (first_or_later w x xs there),
    )

pub rises_map : {X Y : Type 0} (A : X → X → Type 0) (B : Y → Y → Type 0) (f : X → Y)
    → ((x y : X) → A x y → B (f x) (f y)) → (xs : List X) → IsRisingBy A xs → IsRisingBy B (map f xs)
rises_map A B f keeps [] rises = tt
rises_map A B f keeps (x ∷ xs) rises = (
  All-weaker (Contains (map f xs)) (B (f x)) (λ y there. let from = Contains-from_map f xs y there in
      subst (B (f x)) from.2 (keeps x from.0 (All-contains (A x) xs from.0 rises.0 from.1)))
      (map f xs) (All-contains_itself (map f xs)),
  rises_map A B f keeps xs rises.1,
)

-- ---- rows with times

pub stored_long : (window : Window) (row : List Value) (time : ℕ) → KeepsLeast window → Stores window row time
    → length row ≡ length window.columns
stored_long window row time least stored =
    (All-contains (HasLeast window) window.kept (row, stored.0) least.rows stored.1).long

pub stored_row : (window : Window) (row : List Value) (time : ℕ) → KeepsLeast window
    → length row ≡ length window.columns
    → Stores window row time ↔ HasRow window (valuation_of window.columns row) time
stored_row window row time least long = (
  λ stored. (row, stored.0, stored.1, stored.2, agrees_itself window.columns row least.distinct long),
  λ has.
      let same : has.0 ≡ row = agrees_once (valuation_of window.columns row) window.columns has.0 row least.distinct
      (stored_long window has.0 time least (has.1, has.2, has.3)) long has.4
      (agrees_itself window.columns row least.distinct long) in
      (has.1, subst (λ r. Contains window.kept (r, has.1)) same has.2, has.3),
)

-- the pairs of a slot are those of the valuations that it has, at its time
last_row : (columns : List VarId) (last : Option LastStep) (p : KeptPair) → HasNoRepeats columns
    → LastHasColumns columns last → All (λ q. length q.row ≡ length columns) (pairs_of_last last)
    → Contains (pairs_of_last last) p
    ↔ ((length p.row ≡ length columns) × HasLast last (valuation_of columns p.row) p.time)
last_row columns None p distinct same fit = (λ there. absurd (none_in_nil p there), λ both. absurd both.1)
last_row columns (Some last) p distinct same fit = (
  λ there.
      let from = Contains-from_map (λ row. pair row last.time) last.rows.rows p there in
      let long = long_in p there in (
        long,
        (
          sym (ap (λ q. q.time) from.2),
          (
            p.row,
            subst (Contains last.rows.rows) (ap (λ q. q.row) from.2) from.1,
            subst (λ l. AgreesWithRow (valuation_of columns p.row) l p.row) (sym same)
                (agrees_itself columns p.row distinct long),
          ),
        ),
      ),
  λ both.
      let there = Contains-map (λ row. pair row last.time) last.rows.rows both.1.1.0 both.1.1.1 in
      let is : both.1.1.0 ≡ p.row = agrees_once (valuation_of columns p.row) columns both.1.1.0 p.row distinct
      (long_in (pair both.1.1.0 last.time) there) both.0
      (subst (λ l. AgreesWithRow (valuation_of columns p.row) l both.1.1.0) same both.1.1.2)
      (agrees_itself columns p.row distinct both.0) in
      subst (Contains (pairs_of_last (Some last))) (λ i. pair (is i) (sym both.1.0 i)) there,
)
  where
    long_in : (q : KeptPair) → Contains (map (λ row. pair row last.time) last.rows.rows) q
        → length q.row ≡ length columns
    long_in q there = All-contains (λ q. length q.row ≡ length columns) (pairs_of_last (Some last)) q fit there

pub stored_last : (slot : Slot) (p : KeptPair) → IsSlot slot
    → All (λ q. length q.row ≡ length slot.columns) (pairs_of_last slot.last)
    → Contains (pairs_of_last slot.last) p
    ↔ ((length p.row ≡ length slot.columns) × HasLast slot.last (valuation_of slot.columns p.row) p.time)
stored_last slot p is fit = last_row slot.columns slot.last p is.distinct is.fits fit
