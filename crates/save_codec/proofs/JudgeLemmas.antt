-- Rows, by what is known of windows.
use Rattle.save_codec.proofs.Vocabulary.{◌≡◌, ◌↔◌, ◌++◌, ◌∷◌, ◌+◌, ◌<◌, [], ℕ, zero, suc, List, Option, Some, None, Bool, true, false, All, IsTrue, length, take, map, slice_get, refl, sym, ap, subst}
use Rattle.save_codec.proofs.Vocabulary.{◌∙◌, arith, length-append, append_assoc, AllByRecursion, option_map, append-nil, take-append-le, take_at, All-contains, get_or_from_slice_get, slice_get-map}
use Rattle.save_codec.proofs.Vocabulary.{slice_get_within, VarId, Value, Formula, AreFreeVariables, same_free, Sort, AreWithinBounds, numbered_operators, all_operators, kept_operand, HasItsColumns}
use Rattle.save_codec.proofs.Vocabulary.{IsFirstOutOfBounds, numbered_operator, operator_of, KeptRow, WindowShape, HasSorts, RowFits, SaveSetting, kept_row_of, BreaksAt, EndsFitting, AreFittingRows}
use Rattle.save_codec.proofs.Vocabulary.{IsJudge, AreRowsWithin, Knows, FitTold, GuardTells, Fitting, Judge, RowLine, Known}
use Rattle.save_codec.proofs.KnowLemmas.{window_known}

pub fit_as : (P Q : VarId → Sort → Type 0) → ((x : VarId) (sort : Sort) → Q x sort → P x sort) → (xs : List VarId) (values : List Value) → FitTold P xs values → FitTold Q xs values
fit_as P Q within [] [] fit = tt
fit_as P Q within [] (value ∷ values) fit = fit
fit_as P Q within (x ∷ xs) [] fit = fit
fit_as P Q within (x ∷ xs) (value ∷ values) fit = ((λ sort told. fit.0 sort (within x sort told)), fit_as P Q within xs values fit.1)

all_there : {X : Type 0} (P : X → Type 0) (xs : List X) (n : ℕ) (x : X) → All P xs → slice_get xs n ≡ Some x → P x
all_there P xs n x all found = All-contains P xs x all (n, slice_get_within xs n x found, get_or_from_slice_get xs n x x found)

window_at : (s : SaveSetting) (judge : Judge) (number : ℕ) (shape : WindowShape) → IsJudge s judge → slice_get judge.shapes.items number ≡ Some shape
    → slice_get (map numbered_operator judge.shapes.items) number ≡ Some (numbered_operator shape)
window_at s judge number shape is found = slice_get-map numbered_operator judge.shapes.items number ∙ ap (option_map numbered_operator) found

-- what is known of each window that there is
pub no_known : (s : SaveSetting) (judge : Judge) (number : ℕ) (shape : WindowShape) → IsJudge s judge → slice_get judge.shapes.items number ≡ Some shape
    → slice_get judge.windows.items number ≡ None → ⊥
no_known s judge number shape is found none =
    let k = window_known s.entries s.plans (map numbered_operator judge.shapes.items) judge.windows.items number (numbered_operator shape) is.windows (window_at s judge number shape is found) in
    let e : Some k.0 ≡ None = sym k.1 ∙ none in
    cc e

pub sorts_known : (s : SaveSetting) (judge : Judge) (row : RowLine) (shape : WindowShape) (known : Known) (columns : List VarId) (values : List Value) (fit : Bool) → IsJudge s judge
    → slice_get judge.shapes.items row.window ≡ Some shape
    → slice_get judge.windows.items row.window ≡ Some known → columns ≡ shape.columns → values ≡ row.values → (IsTrue fit ↔ FitTold (Knows known) columns values) → IsTrue fit ↔ HasSorts s row
sorts_known s judge row shape known columns values fit is found knows columns_are values_are same =
    let k = window_known s.entries s.plans (map numbered_operator judge.shapes.items) judge.windows.items row.window (numbered_operator shape) is.windows
    (window_at s judge row.window shape is found) in
    let both : Some k.0 ≡ Some known = sym k.1 ∙ knows in
    let one : k.0 ≡ known = cc both in
    let here : slice_get (numbered_operators 0 s.guards) row.window ≡ Some (numbered_operator shape) = ap (λ l. slice_get l row.window) (sym is.listed) ∙ window_at s judge row.window shape is found in
    let its : AreFreeVariables (kept_operand (operator_of shape)) shape.columns = all_there HasItsColumns judge.shapes.items row.window shape is.columns found in
    let Told : VarId → Sort → Type 0 = GuardTells s.entries s.plans shape.guard in
    let to : IsTrue fit → FitTold Told shape.columns row.values = λ t. fit_as (Knows known) Told (λ x sort told. subst (λ (q : Known). Knows q x sort) one ((k.2 x sort).1 told))
    shape.columns row.values
    (subst (λ (vs : List Value). FitTold (Knows known) shape.columns vs) values_are (subst (λ (xs : List VarId). FitTold (Knows known) xs values) columns_are (same.0 t))) in
    let from : FitTold Told shape.columns row.values → IsTrue fit = λ f. same.1 (subst (λ (xs : List VarId). FitTold (Knows known) xs values) (sym columns_are)
    (subst (λ (vs : List Value). FitTold (Knows known) shape.columns vs) (sym values_are)
    (fit_as Told (Knows known) (λ x sort told. (k.2 x sort).0 (subst (λ (q : Known). Knows q x sort) (sym one) told)) shape.columns row.values f))) in (
      λ t. λ guard operator others listed free.
          let same_window : Some (numbered_operator shape) ≡ Some (guard, operator) = sym here ∙ listed in
          let window : numbered_operator shape ≡ (guard, operator) = cc same_window in
          let guards : shape.guard ≡ guard = ap (λ (w : ℕ × Formula). w.0) window in
          let operators : operator_of shape ≡ operator = ap (λ (w : ℕ × Formula). w.1) window in
          let lists : others ≡ shape.columns = same_free (kept_operand operator) others shape.columns free (subst (λ (f : Formula). AreFreeVariables (kept_operand f) shape.columns) operators its) in
          subst (λ (g : ℕ). FitTold (GuardTells s.entries s.plans g) others row.values) guards (subst (λ (xs : List VarId). FitTold Told xs row.values) (sym lists) (to t)),
      λ has. from (has shape.guard (operator_of shape) shape.columns here its),
    )

-- ---- rows up to one that does not fit

pub all_take : {X : Type 0} (P : X → Type 0) (n : ℕ) (xs : List X) → AllByRecursion P xs → AllByRecursion P (take n xs)
all_take P zero [] all = tt
all_take P zero (x ∷ xs) all = tt
all_take P (suc n) [] all = tt
all_take P (suc n) (x ∷ xs) all = (all.0, all_take P n xs all.1)

pub all_last : {X : Type 0} (P : X → Type 0) (xs : List X) (x : X) → AllByRecursion P (xs ++ x ∷ []) → P x
all_last P [] x all = all.0
all_last P (y ∷ xs) x all = all_last P xs x all.1

pub map_take : {X Y : Type 0} (f : X → Y) (n : ℕ) (xs : List X) → take n (map f xs) ≡ map f (take n xs)
map_take f zero [] = refl
map_take f zero (x ∷ xs) = refl
map_take f (suc n) [] = refl
map_take f (suc n) (x ∷ xs) = ap (λ l. f x ∷ l) (map_take f n xs)

pub map_long : {X Y : Type 0} (f : X → Y) (xs : List X) → length (map f xs) ≡ length xs
map_long f [] = refl
map_long f (x ∷ xs) = ap suc (map_long f xs)

-- the first that cannot be kept
pub broken_row : (s : SaveSetting) (judge : Judge) (last : Option ℕ) (rows : List RowLine) (fitting : Fitting) (kept : List KeptRow) (place : ℕ) → IsJudge s judge
    → AreFittingRows s rows fitting → kept ≡ fitting.kept.items
    → IsFirstOutOfBounds (map operator_of judge.shapes.items) last kept place → BreaksAt (AreRowsWithin s last) rows place
broken_row s judge last rows fitting kept place is f same out =
    let are : kept ≡ map kept_row_of f.front = same ∙ f.kept in
    let long : place < length f.front = omega (arith, out.there, ap length are, map_long kept_row_of f.front) in
    let front : take place rows ≡ take place f.front = ap (take place) f.splits ∙ take-append-le place f.front f.rest (omega arith) in
    let more : take (place + 1) rows ≡ take (place + 1) f.front = ap (take (place + 1)) f.splits ∙ take-append-le (place + 1) f.front f.rest (omega arith) in
    let In : List KeptRow → Type 0 = λ l. AreWithinBounds (all_operators s.guards) last l in
    let within : In (map kept_row_of (take place f.front)) =
    subst In (ap (take place) are ∙ map_take kept_row_of place f.front) (subst (λ (fs : List Formula). AreWithinBounds fs last (take place kept)) is.operators out.before) in (
      omega (arith, long, ap length f.splits, length-append f.front f.rest),
      (subst (AllByRecursion (RowFits s)) (sym front) (all_take (RowFits s) place f.front f.fit), subst (λ (l : List RowLine). In (map kept_row_of l)) (sym front) within),
      λ fit. out.broken (subst (λ (fs : List Formula). AreWithinBounds fs last (take (place + 1) kept)) (sym is.operators)
          (subst In (sym (ap (take (place + 1)) are ∙ map_take kept_row_of (place + 1) f.front)) (subst (λ (l : List RowLine). In (map kept_row_of l)) more fit.1))),
    )

-- the first that does not fit
pub unfit_row : (s : SaveSetting) (judge : Judge) (last : Option ℕ) (rows : List RowLine) (fitting : Fitting) (kept : List KeptRow) (place : ℕ) → IsJudge s judge
    → AreFittingRows s rows fitting → kept ≡ fitting.kept.items → fitting.all ≡ false
    → place ≡ length fitting.kept.items → AreWithinBounds (map operator_of judge.shapes.items) last kept → BreaksAt (AreRowsWithin s last) rows place
unfit_row s judge last rows fitting kept place is f same all long within =
    by f.rest f.splits (subst (EndsFitting s f.rest) all f.ends)
  where
    place_is : place ≡ length f.front
    place_is = long ∙ ap length f.kept ∙ map_long kept_row_of f.front

    kept_in : AreWithinBounds (all_operators s.guards) last (map kept_row_of f.front)
    kept_in = subst (λ (l : List KeptRow). AreWithinBounds (all_operators s.guards) last l) (same ∙ f.kept) (subst (λ (fs : List Formula). AreWithinBounds fs last kept) is.operators within)

    by : (rest : List RowLine) → rows ≡ f.front ++ rest → EndsFitting s rest false → BreaksAt (AreRowsWithin s last) rows place
    by [] splits ends = absurd ends
    by (row ∷ rest) splits ends =
        let front : take place rows ≡ f.front = ap (take place) splits ∙ take_at f.front (row ∷ rest) place (sym place_is) in
        let more : take (place + 1) rows ≡ f.front ++ row ∷ [] =
        ap (take (place + 1)) (splits ∙ sym (append_assoc f.front (row ∷ []) rest)) ∙ take_at (f.front ++ row ∷ []) rest (place + 1) (omega (arith, length-append f.front (row ∷ []), place_is)) in (
          omega (arith, place_is, ap length splits, length-append f.front (row ∷ rest)),
          (subst (AllByRecursion (RowFits s)) (sym front) f.fit, subst (λ (l : List RowLine). AreWithinBounds (all_operators s.guards) last (map kept_row_of l)) (sym front) kept_in),
          λ fit. ends (all_last (RowFits s) f.front row (subst (AllByRecursion (RowFits s)) more fit.0)),
        )

-- all of them
pub rows_fit : (s : SaveSetting) (judge : Judge) (last : Option ℕ) (rows : List RowLine) (fitting : Fitting) (kept : List KeptRow) → IsJudge s judge → AreFittingRows s rows fitting
    → kept ≡ fitting.kept.items → fitting.all ≡ true
    → AreWithinBounds (map operator_of judge.shapes.items) last kept → (fitting.kept.items ≡ map kept_row_of rows) × AreRowsWithin s last rows
rows_fit s judge last rows fitting kept is f same all within =
    let none : f.rest ≡ [] = subst (EndsFitting s f.rest) all f.ends in
    let whole : rows ≡ f.front = f.splits ∙ ap (λ l. f.front ++ l) none ∙ append-nil f.front in
    let are : fitting.kept.items ≡ map kept_row_of rows = f.kept ∙ ap (map kept_row_of) (sym whole) in (
      are,
      (
        subst (AllByRecursion (RowFits s)) (sym whole) f.fit,
        subst (λ (l : List KeptRow). AreWithinBounds (all_operators s.guards) last l) (same ∙ are)
            (subst (λ (fs : List Formula). AreWithinBounds fs last kept) is.operators within),
      ),
    )
