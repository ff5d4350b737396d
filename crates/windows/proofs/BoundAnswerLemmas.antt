-- The rows that agree with a valuation where it binds.
use Rattle.windows.proofs.Vocabulary.{◌≡◌, ◌∙◌, ◌↔◌, ◌⊎◌, inl, inr, ⊎_elim, ℕ, ◌≤◌, true, ◌&&◌, IsTrue, List, [], ◌∷◌, ◌++◌, length, map, drop, min, Contains, Option, None, Some, refl, sym, ap, subst}
use Rattle.windows.proofs.Vocabulary.{arith, Decides, cases_lt, Decides-like, Decides-and, drop_all, Contains-append_cases, Contains-append_left, Contains-append_right, same_Some, value_eq-Decides}
use Rattle.windows.proofs.Vocabulary.{HasNoRepeats, IsIn, Valuation, value_at, Interval, VarId, Value, only_item as alone, here, later, first_or_later, none_in_nil, cell_here, cell_later}
use Rattle.windows.proofs.Vocabulary.{table_row-length, Relation, IsTable, AgreesWithRow, AgreesWhereBound, HasValuation, IsBoundSame, AreWindowEntries, GivesRow, GivesSomeRow, are_cells_as_bound}
use Rattle.windows.proofs.Vocabulary.{cells, is_cell_as_bound, SurvivesUnder, Window, AnswersBy, AreTables, FitsColumns, SurvivesFor, kept_entries, Surviving, RowSurvives, agrees_itself, cell_some}
use Rattle.windows.proofs.Vocabulary.{valuation_of}
use Rattle.std.specs.Prelude.{IsSome}
use Rattle.enf_data.specs.meaning.Valuations.{BindsColumns}
use Rattle.windows.proofs.WindowLemmas.{given_fits, given_rows, table_gives}

-- a list of cells or a row that is used up
no_row : (bounds : List (Option Value)) → are_cells_as_bound bounds [] ≡ true
no_row [] = refl
no_row (bound ∷ bounds) = refl

pub used_up : {X : Type 0} (f : X → Option Value) (xs : List X) (row : List Value) (n : ℕ) → n ≡ min (length xs) (length row) → are_cells_as_bound (map f (drop n xs)) (drop n row) ≡ true
used_up f xs row n is =
    ⊎_elim
    (λ lt. let row_short : length row ≤ n = omega arith in ap (are_cells_as_bound (map f (drop n xs))) (drop_all n row row_short) ∙ no_row (map f (drop n xs)))
    (λ le. let xs_short : length xs ≤ n = omega arith in ap (λ l. are_cells_as_bound (map f l) (drop n row)) (drop_all n xs xs_short))
    (cases_lt (length row) (length xs))

-- ---- the test means what it says

bound_decides : (bound : Option Value) (value : Value) → Decides (is_cell_as_bound bound value) (IsBoundSame bound (Some value))
bound_decides None value = (λ _. tt, λ _. refl)
bound_decides (Some bound) value = (λ e. ap Some (sym ((value_eq-Decides bound value).0 e)), λ e. (value_eq-Decides bound value).1 (sym (same_Some value bound e)))

pub as_bound_decides : (columns : List VarId) (row : List Value) (v w : Valuation) → HasNoRepeats columns → length row ≡ length columns → AgreesWithRow w columns row
    → Decides (are_cells_as_bound (cells columns v) row) (AgreesWhereBound columns v w)
as_bound_decides [] row v w distinct long agrees = (λ _ x there. absurd (none_in_nil x there), λ _. refl)
as_bound_decides (column ∷ columns) [] v w distinct long agrees = absurd (omega (arith, long))
as_bound_decides (column ∷ columns) (value ∷ row) v w distinct long agrees =
    let rest = as_bound_decides columns row v w distinct.1 (omega (arith, long)) (λ x there. agrees x (later x column columns there) ∙ cell_later column x columns value row
    (λ same. distinct.0 (subst (Contains columns) (sym same) there))) in
    let first : Decides (is_cell_as_bound (value_at v column) value) (IsBoundSame (value_at v column) (value_at w column)) = subst
    (λ o. Decides (is_cell_as_bound (value_at v column) value) (IsBoundSame (value_at v column) o))
    (sym (agrees column (here column columns) ∙ cell_here column column columns value row refl)) (bound_decides (value_at v column) value) in
    Decides-like (is_cell_as_bound (value_at v column) value && are_cells_as_bound (cells columns v) row)
    (λ both x there. ⊎_elim (λ same. subst (λ y. IsBoundSame (value_at v y) (value_at w y)) same both.0) (λ behind. both.1 x behind) (first_or_later x column columns there))
    (λ all. (all column (here column columns), λ x there. all x (later x column columns there)))
    (Decides-and (is_cell_as_bound (value_at v column) value) (are_cells_as_bound (cells columns v) row) first rest)

-- ---- rows of a list for which P holds, put last

module _ (P : List Value → Type 0) (old done : List (List Value)) (row : List Value) (out : List (List Value))
    (so_far : (r : List Value) → Contains out r ↔ (Contains old r ⊎ (Contains done r × P r))) where
  pub grows_by : (after : List (List Value)) (key : List Value) → key ≡ row → after ≡ out ++ key ∷ [] → P row → (r : List Value)
      → Contains after r ↔ (Contains old r ⊎ (Contains (done ++ row ∷ []) r × P r))
  grows_by after key is grown passes r = (
    λ there. ⊎_elim
        (λ before. ⊎_elim (λ o. inl o) (λ d. inr (Contains-append_left done (row ∷ []) r d.0, d.1)) ((so_far r).0 before))
        (λ last. inr (Contains-append_right done (row ∷ []) r (subst (λ k. Contains (k ∷ []) r) is last), subst P (sym is ∙ alone key r last) passes))
        (Contains-append_cases out (key ∷ []) r (subst (λ l. Contains l r) grown there)),
    λ either. subst (λ l. Contains l r) (sym grown) (⊎_elim
        (λ o. Contains-append_left out (key ∷ []) r ((so_far r).1 (inl o)))
        (λ d. ⊎_elim (λ before. Contains-append_left out (key ∷ []) r ((so_far r).1 (inr (before, d.1))))
        (λ last. Contains-append_right out (key ∷ []) r (subst (λ k. Contains (k ∷ []) r) (sym is) last)) (Contains-append_cases done (row ∷ []) r d.0))
        either),
  )

  pub grows_not : (P row → ⊥) → (r : List Value) → Contains out r ↔ (Contains old r ⊎ (Contains (done ++ row ∷ []) r × P r))
  grows_not fails r = (
    λ there. ⊎_elim (λ o. inl o) (λ d. inr (Contains-append_left done (row ∷ []) r d.0, d.1)) ((so_far r).0 there),
    λ either. (so_far r).1 (⊎_elim (λ o. inl o)
        (λ d. ⊎_elim (λ before. inr (before, d.1)) (λ last. absurd (fails (subst P (sym (alone row r last)) d.1))) (Contains-append_cases done (row ∷ []) r d.0))
        either),
  )

-- ---- what a table of those rows has

module _ (window : Window) (interval : Interval) (columns : List VarId) (last time : ℕ) (es : List (List Value × List ℕ)) (distinct : HasNoRepeats columns)
    (kept : AreWindowEntries (length columns) last es)
    (is : record { interval = interval; columns = columns; last = last; kept = kept_entries es } ≡ window) (s : Surviving) (right : Relation) (v : Valuation) (middle out : List (List Value))
    (fits_s : FitsColumns columns s) (tables : GivesSomeRow interval time es → AreTables s) (right_columns : right.columns ≡ columns) (table : IsIn interval 0 → IsTable right)
    (middles : (row : List Value) → Contains middle row ↔ (Contains [] row ⊎ GivesRow interval time (SurvivesUnder s (cells columns v)) es row))
    (outs : (row : List Value) → Contains out row ↔ (Contains middle row ⊎ (IsIn interval 0 × (Contains right.rows row × IsTrue (are_cells_as_bound (cells columns v) row))))) where
  from_middle : (row : List Value) → Contains middle row → GivesRow interval time (SurvivesUnder s (cells columns v)) es row
  from_middle row there = ⊎_elim (λ none. absurd (none_in_nil row none)) (λ g. g) ((middles row).0 there)

  long_given : (row : List Value) → GivesRow interval time (SurvivesUnder s (cells columns v)) es row → length row ≡ length columns
  long_given row g = given_fits interval interval columns last time es s distinct kept fits_s tables row (g.0, g.1.0)

  long_right : (row : List Value) → IsIn interval 0 → Contains right.rows row → length row ≡ length columns
  long_right row within there = table_row-length right row (table within) there ∙ ap length right_columns

  pub long_under : (row : List Value) → Contains out row → length row ≡ length columns
  long_under row there = ⊎_elim (λ mid. long_given row (from_middle row mid)) (λ now. long_right row now.0 now.1.0) ((outs row).0 there)

  pub answer_under : (t : Relation) → t.columns ≡ columns → ((row : List Value) → Contains t.rows row ↔ Contains out row) → (w : Valuation)
      → HasValuation t w ↔ (AnswersBy window time (SurvivesFor s) right w × AgreesWhereBound window.columns v w)
  answer_under t same rows w = subst (λ (u : Window). HasValuation t w ↔ (AnswersBy u time (SurvivesFor s) right w × AgreesWhereBound u.columns v w)) is (
    λ has. let h = (table_gives t columns out same rows w).0 has in
        ⊎_elim
        (λ mid. let g = from_middle h.0 mid in (
          inr ((given_rows interval interval columns last time es s distinct kept fits_s tables w).0 (h.0, (g.0, g.1.0), h.2)),
          (as_bound_decides columns h.0 v w distinct (long_given h.0 g) h.2).0 g.1.1,
        ))
        (λ now. (inl (now.0, (h.0, now.1.0, subst (λ l. AgreesWithRow w l h.0) (sym right_columns) h.2)), (as_bound_decides columns h.0 v w distinct (long_right h.0 now.0 now.1.0) h.2).0 now.1.1))
        ((outs h.0).0 h.1),
    λ both. (table_gives t columns out same rows w).1 (⊎_elim
        (λ now. let row = now.1.0 in let agrees = subst (λ l. AgreesWithRow w l row) right_columns now.1.2 in
        (row, (outs row).1 (inr (now.0, (now.1.1, (as_bound_decides columns row v w distinct (long_right row now.0 now.1.1) agrees).1 both.1))), agrees))
        (λ before. let g = (given_rows interval interval columns last time es s distinct kept fits_s tables w).1 before in
        let long = given_fits interval interval columns last time es s distinct kept fits_s tables g.0 g.1 in
        (g.0, (outs g.0).1 (inl ((middles g.0).1 (inr (g.1.0, (g.1.1, (as_bound_decides columns g.0 v w distinct long g.2).1 both.1))))), g.2))
        both.0),
  )

-- ---- whether there is such a row

module _ (window : Window) (interval : Interval) (columns : List VarId) (last time : ℕ) (es : List (List Value × List ℕ)) (distinct : HasNoRepeats columns)
    (kept : AreWindowEntries (length columns) last es)
    (is : record { interval = interval; columns = columns; last = last; kept = kept_entries es } ≡ window) (s : Surviving) (right : Relation) (v : Valuation)
    (fits_s : FitsColumns columns s) (right_columns : right.columns ≡ columns) where
  abbrev HasSome : Window → Type 0
  HasSome u = (w : Valuation) × BindsColumns w u.columns × AnswersBy u time (SurvivesFor s) right w × AgreesWhereBound u.columns v w

  abbrev pub IsRightUnder : Type 0
  IsRightUnder = IsIn interval 0 × ((row : List Value) × Contains right.rows row × IsTrue (are_cells_as_bound (cells columns v) row))

  abbrev pub IsGivenUnder : Type 0
  IsGivenUnder = (row : List Value) × GivesRow interval time (SurvivesUnder s (cells columns v)) es row

  -- the valuation of a row that agrees
  own : (u : Window) → u.columns ≡ columns → (row : List Value) → length row ≡ length columns → IsTrue (are_cells_as_bound (cells columns v) row)
      → ((w : Valuation) → AgreesWithRow w columns row → AnswersBy u time (SurvivesFor s) right w) → HasSome u
  own u same row long passes answers =
      let w = valuation_of columns row in
      let agrees = agrees_itself columns row distinct long in (
        w,
        subst (BindsColumns w) (sym same) (λ x there. let cell = cell_some columns row x long there in subst IsSome (sym (agrees x there ∙ cell.1)) refl),
        answers w agrees,
        subst (λ l. AgreesWhereBound l v w) (sym same) ((as_bound_decides columns row v w distinct long agrees).0 passes),
      )

  pub right_is_some : IsTable right → IsRightUnder → HasSome window
  right_is_some table now =
      let row = now.1.0 in
      subst HasSome is (own (record { interval = interval; columns = columns; last = last; kept = kept_entries es }) refl row
      (table_row-length right row table now.1.1 ∙ ap length right_columns) now.1.2
      (λ w agrees. inl (now.0, (row, now.1.1, subst (λ l. AgreesWithRow w l row) (sym right_columns) agrees))))

  pub given_is_some : AreTables s → IsGivenUnder → HasSome window
  given_is_some tables given =
      let row = given.0 in
      let plain : GivesRow interval time (RowSurvives s) es row = (given.1.0, given.1.1.0) in
      subst HasSome is (own (record { interval = interval; columns = columns; last = last; kept = kept_entries es }) refl row
      (given_fits interval interval columns last time es s distinct kept fits_s (λ _. tables) row plain) given.1.1.1
      (λ w agrees. inr ((given_rows interval interval columns last time es s distinct kept fits_s (λ _. tables) w).0 (row, plain, agrees))))

  pub some_is_one : AreTables s → (IsIn interval 0 → IsTable right) → HasSome window → IsRightUnder ⊎ IsGivenUnder
  some_is_one tables table some = by (subst HasSome (sym is) some)
    where
      by : HasSome (record { interval = interval; columns = columns; last = last; kept = kept_entries es }) → IsRightUnder ⊎ IsGivenUnder
      by found = ⊎_elim
          (λ now. let row = now.1.0 in
          let agrees = subst (λ l. AgreesWithRow found.0 l row) right_columns now.1.2 in
          inl (now.0, (row, now.1.1, (as_bound_decides columns row v found.0 distinct (table_row-length right row (table now.0) now.1.1 ∙ ap length right_columns) agrees).1 found.3)))
          (λ before. let g = (given_rows interval interval columns last time es s distinct kept fits_s (λ _. tables) found.0).1 before in
          let long = given_fits interval interval columns last time es s distinct kept fits_s (λ _. tables) g.0 g.1 in
          inr (g.0, (g.1.0, (g.1.1, (as_bound_decides columns g.0 v found.0 distinct long g.2).1 found.3))))
          found.2
