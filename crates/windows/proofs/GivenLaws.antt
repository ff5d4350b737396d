-- Laws of the tables that windows and slots answer.
use Rattle.windows.proofs.Vocabulary.{first_or_later, here, later, none_in_nil, same_at, same_lists_at, Contains-filter, Contains-from_filter, Contains-map, Contains-from_map, Interval, VarId, Value}
use Rattle.windows.proofs.Vocabulary.{IsUpTo, IsIn, Valuation, ◌∙◌, ◌⊎◌, ⊎_elim, ℕ, ◌-◌, ◌≤◌, leb, sym, arith, Option, None, Some, refl, ◌≡◌, inl, inr, Bool, true, ◌||◌, List, [], ◌∷◌, Contains, ap}
use Rattle.windows.proofs.Vocabulary.{map, ◌↔◌, IsTrue, false, subst, false≢true, leb_tells, Decides-and, Decides-like, Decides-or, Decides-not, Contains-append_cases, Contains-append_left}
use Rattle.windows.proofs.Vocabulary.{Contains-append_right, Decides, list_any, if◌then◌else◌, row_cell, Relation, AgreesWithRow, HasValuation, LastStep, is_up_to, is_in, is_some_in, have_same_cells}
use Rattle.windows.proofs.Vocabulary.{survives_among, survives_outside, rows_within, window_given, is_given, rows_of_last, given_by_slot, cells_eq-Decides, GivesLast, LastHasColumns, Slot, Stores}
use Rattle.windows.proofs.Vocabulary.{pairs_of_last, IsSomeIn, Window, AnswersBy, pair}
use Rattle.std.specs.List.{filter}

-- ---- the tests tell what they are named for

pub leb-Decides : (a b : ℕ) → Decides (leb a b) (a ≤ b)
leb-Decides a b = ⊎_elim (λ within. (λ _. within.1, λ _. within.0))
    (λ outside. (
      λ e. absurd (false≢true (sym outside.0 ∙ e)),
      λ le. let above =
          outside.1 in absurd (omega arith),
    ))
    (leb_tells a b)

is_up_to-Decides : (high : Option ℕ) (difference : ℕ)
    → Decides (is_up_to high difference) (IsUpTo high difference)
is_up_to-Decides None difference = (λ _. tt, λ _. refl)
is_up_to-Decides (Some high) difference = leb-Decides difference high

pub is_in-Decides : (interval : Interval) (difference : ℕ)
    → Decides (is_in interval difference) (IsIn interval difference)
is_in-Decides interval difference =
    Decides-and _ _ (leb-Decides interval.low difference) (is_up_to-Decides interval.high difference)

some_passes : {X : Type 0} (p : X → Bool) (xs : List X)
    → Decides (list_any p xs) ((x : X) × Contains xs x × (p x ≡ true))
some_passes p [] = (λ e. absurd (false≢true e), λ some. absurd (none_in_nil some.0 some.1))
some_passes p (x ∷ xs) =
    Decides-like (p x || list_any p xs)
    (λ either. ⊎_elim (λ e. (x, here x xs, e)) (λ some. (some.0, later some.0 x xs some.1, some.2)) either)
    (λ some. ⊎_elim (λ same. inl (ap p same ∙ some.2)) (λ behind. inr (some.0, behind, some.2))
    (first_or_later some.0 x xs some.1))
    (Decides-or (p x) (list_any p xs) (λ e. e, λ e. e) (some_passes p xs))

is_some_in-Decides : (interval : Interval) (now : ℕ) (times : List ℕ)
    → Decides (is_some_in interval now times) (IsSomeIn interval now times)
is_some_in-Decides interval now times =
    Decides-like (is_some_in interval now times)
    (λ some. (some.0, some.1, (is_in-Decides interval (now - some.0)).0 some.2))
    (λ some. (some.0, some.1, (is_in-Decides interval (now - some.0)).1 some.2))
    (some_passes (λ time. is_in interval (now - time)) times)

have_same_cells-Decides : (columns : List VarId) (row other : List Value)
    → Decides (have_same_cells columns row other)
    ((x : VarId) → Contains columns x → row_cell columns row x ≡ row_cell columns other x)
have_same_cells-Decides columns row other =
    Decides-like (have_same_cells columns row other)
    (λ same x there. same_at (row_cell columns row) (row_cell columns other) columns x same there)
    (λ same. same_lists_at (row_cell columns row) (row_cell columns other) columns same)
    (cells_eq-Decides (map (row_cell columns row) columns) (map (row_cell columns other) columns))

-- ---- which rows survive

-- a valuation that agrees with a row is in a table just where the table has a row with the same cells
pub among_has : (told : Relation) (row : List Value) (v : Valuation) → AgreesWithRow v told.columns row
    → IsTrue (survives_among told row) ↔ HasValuation told v
among_has told row v agrees =
    Decides-like (survives_among told row)
    (λ some. let same = (have_same_cells-Decides told.columns row some.0).0 some.2 in
    (some.0, some.1, λ x there. agrees x there ∙ same x there))
    (λ has. let same = (have_same_cells-Decides told.columns row has.0).1 in
    (has.0, has.1, same (λ x there. sym (agrees x there) ∙ has.2 x there)))
    (some_passes (have_same_cells told.columns row) told.rows)

pub outside_has : (told : Relation) (row : List Value) (v : Valuation) → AgreesWithRow v told.columns row
    → IsTrue (survives_outside told row) ↔ (HasValuation told v → ⊥)
outside_has told row v agrees = Decides-not (survives_among told row) (among_has told row v agrees)

-- ---- windows

rows_where : (b : Bool) (rows : List (List Value)) (row : List Value)
    → Contains (if b then rows else []) row ↔ ((b ≡ true) × Contains rows row)
rows_where true rows row = (λ there. (refl, there), λ both. both.1)
rows_where false rows row = (λ there. absurd (none_in_nil row there), λ both. absurd (false≢true both.0))

within_rows : (interval : Interval) (difference : ℕ) (t : Relation) (row : List Value)
    → Contains (rows_within interval difference t) row ↔ (IsIn interval difference × Contains t.rows row)
within_rows interval difference t row =
    let tells = is_in-Decides interval difference in
    let parts = rows_where (is_in interval difference) t.rows row in
    (λ there. let both = parts.0 there in (tells.0 both.0, both.1), λ both. parts.1 (tells.1 both.0, both.1))

-- a row that a window gives is right now, or is kept with a time at such a distance, and survives
module _ (window : Window) (time : ℕ) (survives : List Value → Bool) (right : Relation) where
  abbrev test : List Value × List ℕ → Bool
  test = is_given window.interval time survives

  abbrev kept_rows : List (List Value)
  kept_rows = map (λ (e : List Value × List ℕ). e.0) (filter test window.kept)

  abbrev pub IsKeptRow : List Value → Type 0
  IsKeptRow row = (times : List ℕ) × Contains window.kept (row, times) × IsSomeIn window.interval time times
      × IsTrue (survives row)

  both_tell : (row : List Value) (times : List ℕ) → Decides (test (row, times)) (IsSomeIn window.interval time times
      × IsTrue (survives row))
  both_tell row times = Decides-and (is_some_in window.interval time times) (survives row)
      (is_some_in-Decides window.interval time times) (λ e. e, λ e. e)

  pub given_rows : (row : List Value) → Contains (window_given window time survives right).rows row
      → (IsIn window.interval 0 × Contains right.rows row) ⊎ IsKeptRow row
  given_rows row there = ⊎_elim (λ now. inl ((within_rows window.interval 0 right row).0 now))
      (λ before.
      let entry = Contains-from_map (λ (e : List Value × List ℕ). e.0) (filter test window.kept) row before in
      let passes = Contains-from_filter test window.kept entry.0 entry.1 in
      let is : entry.0 ≡ (row, entry.0.1) = (λ i. (entry.2 i, entry.0.1)) in
      let tells = (both_tell row entry.0.1).0 (subst (λ e. test e ≡ true) is passes.1) in
      inr (entry.0.1, subst (Contains window.kept) is passes.0, tells.0, tells.1))
      (Contains-append_cases (rows_within window.interval 0 right) kept_rows row there)

  pub rows_given : (row : List Value) → (IsIn window.interval 0 × Contains right.rows row) ⊎ IsKeptRow row
      → Contains (window_given window time survives right).rows row
  rows_given row either = ⊎_elim
      (λ now. Contains-append_left (rows_within window.interval 0 right) kept_rows row
      ((within_rows window.interval 0 right row).1 now))
      (λ before. Contains-append_right (rows_within window.interval 0 right) kept_rows row
      (Contains-map (λ (e : List Value × List ℕ). e.0) (filter test window.kept) (row, before.0)
      (Contains-filter test window.kept (row, before.0) before.1 ((both_tell row before.0).1 (before.2, before.3)))))
      either

  pub given_from : (row : List Value) → Contains (window_given window time survives right).rows row
      → Contains right.rows row ⊎ ((earlier : ℕ) × Stores window row earlier)
  given_from row there = ⊎_elim (λ now. inl now.1)
      (λ before. inr (before.2.0, (before.0, before.1, before.2.1))) (given_rows row there)

  pub given_answers : (S : Valuation → Type 0) → right.columns ≡ window.columns
      → ((row : List Value) (times : List ℕ) (v : Valuation) → Contains window.kept (row, times)
      → AgreesWithRow v window.columns row → IsTrue (survives row) ↔ S v)
      → (v : Valuation) → HasValuation (window_given window time survives right) v ↔ AnswersBy window time S
      right v
  given_answers S columns tells v = (
    λ has. ⊎_elim (λ now. inl (now.0, (has.0, now.1, subst (λ l. AgreesWithRow v l has.0) (sym columns) has.2)))
        (λ before. let some = before.2 in
        let survived = (tells has.0 before.0 v before.1 has.2).0 before.3 in
        inr ((some.0, some.2, (has.0, before.0, before.1, some.1, has.2)), survived))
        (given_rows has.0 has.1),
    λ answers. ⊎_elim
        (λ now. (
          now.1.0,
          rows_given now.1.0 (inl (now.0, now.1.1)),
          subst (λ l. AgreesWithRow v l now.1.0) columns
              now.1.2,
        ))
        (λ before. let has = before.0.2 in (
          has.0,
          rows_given has.0 (inr (
            has.1,
            has.2,
            (before.0.0, has.3, before.0.1),
            (tells has.0 has.1 v has.2 has.4).1 before.1,
          )),
          has.4,
        ))
        answers,
  )

-- ---- slots

last_answers : (interval : Interval) (columns : List VarId) (time : ℕ) (kept : Option LastStep)
    → LastHasColumns columns kept
    → (v : Valuation) → HasValuation (record { columns = columns; rows = rows_of_last interval time kept }) v
    ↔ GivesLast interval time kept v
last_answers interval columns time None fits v = (λ has. absurd (none_in_nil has.0 has.1), λ gives. absurd gives)
last_answers interval columns time (Some last) fits v =
    let parts = within_rows interval (time - last.time) last.rows in (
      λ has. let both = (parts has.0).0 has.1 in
          (both.0, (has.0, both.1, subst (λ l. AgreesWithRow v l has.0) (sym fits) has.2)),
      λ gives. let has = gives.1 in
          (has.0, (parts has.0).1 (gives.0, has.1), subst (λ l. AgreesWithRow v l has.0) fits has.2),
    )

pub given_last_answers : (slot : Slot) (time : ℕ) → LastHasColumns slot.columns slot.last → (v : Valuation)
    → HasValuation (given_by_slot slot time) v ↔ GivesLast slot.interval time slot.last v
given_last_answers slot time fits v = last_answers slot.interval slot.columns time slot.last fits v

last_step_from : (interval : Interval) (time : ℕ) (kept : Option LastStep) (row : List Value)
    → Contains (rows_of_last interval time kept) row
    → (earlier : ℕ) × Contains (pairs_of_last kept) (pair row earlier)
last_step_from interval time None row there = absurd (none_in_nil row there)
last_step_from interval time (Some last) row there =
    let among = ((within_rows interval (time - last.time) last.rows row).0 there).1 in
    (last.time, Contains-map (λ r. pair r last.time) last.rows.rows row among)

pub given_last_from : (slot : Slot) (time : ℕ) (row : List Value) → Contains (given_by_slot slot time).rows row
    → (earlier : ℕ) × Contains (pairs_of_last slot.last) (pair row earlier)
given_last_from slot time row there = last_step_from slot.interval time slot.last row there
