-- A guard has one list of rows.
use Rattle.obligations.proofs.Vocabulary.{◌≡◌, List, Contains, length, All-contains, same_rising, Value, row_cmp_total, AreGuardRows, RowsAreOne}

pub rows_are_one : RowsAreOne
rows_are_one trace v xs guard rows others are too =
    same_rising row_cmp_total rows others are.rise too.rise (into rows others are too) (into others rows too are)
  where
    into : (rows others : List (List Value)) → AreGuardRows trace v xs guard rows → AreGuardRows trace v xs guard others
        → (row : List Value) → Contains rows row → Contains others row
    into rows others are too row there =
        let fits = All-contains (λ (r : List Value). length r ≡ length xs) rows row are.fit there in
        (too.are row fits).1 ((are.are row fits).0 there)
