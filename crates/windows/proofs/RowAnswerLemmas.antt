-- What one look-up finds.
use Rattle.windows.proofs.Vocabulary.{◌≡◌, ◌∙◌, ◌↔◌, ◌⊎◌, inl, inr, ⊎_elim, ℕ, ◌-◌, Bool, true, false, IsTrue, List, [], ◌∷◌, length, map, drop, get_or, Contains, Option, None, Some, refl, sym, ap}
use Rattle.windows.proofs.Vocabulary.{subst, arith, false≢true, length-map, same_Some, none-some, cond, lookup, HasNoRepeats, IsIn, Valuation, value_at, Interval, VarId, Value, here, later}
use Rattle.windows.proofs.Vocabulary.{first_or_later, none_in_nil, agrees_once, cell_here, cell_later, cell_some, Relation, AgreesWithRow, AgreeOnColumns, AgreesWhereBound, HasValuation, IsBoundSame}
use Rattle.windows.proofs.Vocabulary.{row_cell, AreWindowEntries, IsSomeIn, cells, cells_eq, cells_eq-Decides, Slot, GivesLast, LastHasColumns, Window, AnswersBy, FitsColumns, WindowRemembers}
use Rattle.windows.proofs.Vocabulary.{SurvivesFor, kept_entries, LastStep, Surviving}
use Rattle.windows.proofs.EntryLemmas.{fit_of}
use Rattle.windows.proofs.LeastLemmas.{one_entry}
use Rattle.windows.proofs.WindowLemmas.{to_view, from_view}
use Rattle.windows.specs.declared.surviving_rows.Surviving.TheVariants as seen

-- the values of the columns are a row's just where the valuation agrees with it
pub agree_cells : (columns : List VarId) (v : Valuation) (row : List Value) → HasNoRepeats columns → length row ≡ length columns → AgreesWithRow v columns row → cells columns v ≡ map Some row
agree_cells [] v [] distinct long agrees = refl
agree_cells [] v (a ∷ row) distinct long agrees = absurd (omega (arith, long))
agree_cells (c ∷ columns) v [] distinct long agrees = absurd (omega (arith, long))
agree_cells (c ∷ columns) v (a ∷ row) distinct long agrees =
    let first : value_at v c ≡ Some a = agrees c (here c columns) ∙ cell_here c c columns a row refl in
    let rest : cells columns v ≡ map Some row = agree_cells columns v row distinct.1 (omega (arith, long)) (λ x there.
    agrees x (later x c columns there) ∙ cell_later c x columns a row (λ e. distinct.0 (subst (Contains columns) (sym e) there))) in
    λ i. first i ∷ rest i

pub cells_agree : (columns : List VarId) (v : Valuation) (row : List Value) → HasNoRepeats columns → cells columns v ≡ map Some row → AgreesWithRow v columns row
cells_agree [] v row distinct same x there = absurd (none_in_nil x there)
cells_agree (c ∷ columns) v [] distinct same x there = absurd (omega (arith, ap length same))
cells_agree (c ∷ columns) v (a ∷ row) distinct same x there =
    let first : value_at v c ≡ Some a = ap (λ l. get_or l 0 None) same in
    ⊎_elim (λ e. subst (λ y. value_at v y ≡ row_cell (c ∷ columns) (a ∷ row) y) e (first ∙ sym (cell_here c c columns a row refl)))
    (λ behind. cells_agree columns v row distinct.1 (ap (drop 1) same) x behind ∙ sym (cell_later c x columns a row (λ e. distinct.0 (subst (Contains columns) (sym e) behind))))
    (first_or_later x c columns there)

-- ---- the first entry whose row passes

module _ (test : List Value → Bool) where
  abbrev pub Found : List (List Value × List ℕ) → List ℕ → Type 0
  Found es times = (row : List Value) × Contains es (row, times) × (test row ≡ true)

  found_first : (e : List Value × List ℕ) (es : List (List Value × List ℕ)) (times : List ℕ) (b : Bool) → test e.0 ≡ b
      → (Some times ≡ lookup test es → Found es times) → Some times ≡ cond b (Some e.1) (lookup test es) → Found (e ∷ es) times
  found_first e es times true passes behind is =
      let same : e.1 ≡ times = sym (same_Some times e.1 is) in
      let first : e ≡ (e.0, times) = (λ i. (e.0, same i)) in
      (e.0, (0, omega arith, first), passes)
  found_first e es times false fails behind is = let got = behind is in (got.0, later (got.0, times) e es got.1, got.2)

  pub looked : (es : List (List Value × List ℕ)) (times : List ℕ) → Some times ≡ lookup test es → Found es times
  looked [] times is = absurd (none-some times (sym is))
  looked (e ∷ es) times is = found_first e es times (test e.0) refl (looked es times) is

  not_first : (e : List Value × List ℕ) (es : List (List Value × List ℕ)) (row : List Value) (times : List ℕ) (b : Bool) → test e.0 ≡ b
      → (None ≡ lookup test es → Contains es (row, times) → ⊥)
      → None ≡ cond b (Some e.1) (lookup test es) → Contains (e ∷ es) (row, times) → test row ≡ true → ⊥
  not_first e es row times true passes behind is there also = none-some e.1 is
  not_first e es row times false fails behind is there also =
      ⊎_elim (λ same. false≢true (sym fails ∙ ap (λ d. test d.0) same ∙ also)) (λ later_on. behind is later_on) (first_or_later (row, times) e es there)

  pub unlooked : (es : List (List Value × List ℕ)) → None ≡ lookup test es → (row : List Value) (times : List ℕ) → Contains es (row, times) → test row ≡ true → ⊥
  unlooked [] is row times there passes = none_in_nil (row, times) there
  unlooked (e ∷ es) is row times there passes = not_first e es row times (test e.0) refl (λ none in_rest. unlooked es none row times in_rest passes) is there passes

-- ---- what it says of a window

module _ (interval : Interval) (columns : List VarId) (last : ℕ) (es : List (List Value × List ℕ)) (distinct : HasNoRepeats columns)
    (kept : AreWindowEntries (length columns) last es) (time : ℕ) (v : Valuation) where
  abbrev window : Window
  window = record { interval = interval; columns = columns; last = last; kept = kept_entries es }

  abbrev passes : List Value → Bool
  passes row = cells_eq (cells columns v) (map Some row)

  found_in : (times : List ℕ) (b : Bool) → Some times ≡ lookup passes es → IsTrue b ↔ IsSomeIn interval time times → IsTrue b ↔ WindowRemembers window time v
  found_in times b is tells =
      let found = looked passes es times is in
      let agrees : AgreesWithRow v columns found.0 = cells_agree columns v found.0 distinct ((cells_eq-Decides (cells columns v) (map Some found.0)).0 found.2) in (
        λ yes. let some = tells.0 yes in
            (some.0, some.2, (found.0, times, to_view es found.0 times some.0 found.1 some.1, some.1, agrees)),
        λ remembered. let has = remembered.2 in
            let entry = from_view es has.0 has.1 has.2 in
            let row : has.0 ≡ found.0 = agrees_once v columns has.0 found.0 distinct (fit_of (length columns) last es has.0 entry.0 kept entry.1).0
            (fit_of (length columns) last es found.0 times kept found.1).0 has.4 agrees in
            let same : entry.0 ≡ times = one_entry es kept.unique found.0 entry.0 times (subst (λ r. Contains es (r, entry.0)) row entry.1) found.1 in
            tells.1 (remembered.0, subst (λ l. Contains l remembered.0) (sym entry.2 ∙ ap (λ s. s) same) has.3, remembered.1),
      )

  nothing_in : None ≡ lookup passes es → WindowRemembers window time v → ⊥
  nothing_in is remembered =
      let has = remembered.2 in
      let entry = from_view es has.0 has.1 has.2 in
      unlooked passes es is has.0 entry.0 entry.1
      ((cells_eq-Decides (cells columns v) (map Some has.0)).1 (agree_cells columns v has.0 distinct (fit_of (length columns) last es has.0 entry.0 kept entry.1).0 has.4))

  pub found : (w : Window) (times : List ℕ) (b : Bool) → window ≡ w → Some times ≡ lookup passes es → IsTrue b ↔ IsSomeIn interval time times → IsTrue b ↔ WindowRemembers w time v
  found w times b is looked_up tells = subst (λ u. IsTrue b ↔ WindowRemembers u time v) is (found_in times b looked_up tells)

  pub nothing : (w : Window) → window ≡ w → None ≡ lookup passes es → IsTrue false ↔ WindowRemembers w time v
  nothing w is looked_up = subst (λ u. IsTrue false ↔ WindowRemembers u time v) is (λ no. absurd (false≢true no), λ remembered. absurd (nothing_in looked_up remembered))

-- ---- a table of one row, or of none

pub row_has : (columns : List VarId) (row : List Value) (is_there : Bool) (items : List (List Value)) (t : Relation) → ((is_there ≡ true) × (items ≡ row ∷ [])) ⊎ ((is_there ≡ false) × (items ≡ []))
    → t.columns ≡ columns → ((r : List Value) → Contains t.rows r ↔ Contains items r) → (v : Valuation) → HasValuation t v ↔ (IsTrue is_there × AgreesWithRow v columns row)
row_has columns row is_there items t either columns_are rows v = ⊎_elim
    (λ one. (
      λ has.
          let same : row ≡ has.0 = ⊎_elim (λ e. e) (λ none. absurd (none_in_nil has.0 none)) (first_or_later has.0 row [] (subst (λ l. Contains l has.0) one.1 ((rows has.0).0 has.1))) in
          (one.0, subst (λ r. AgreesWithRow v columns r) (sym same) (subst (λ l. AgreesWithRow v l has.0) columns_are has.2)),
      λ both. (row, (rows row).1 (subst (λ l. Contains l row) (sym one.1) (here row [])), subst (λ l. AgreesWithRow v l row) (sym columns_are) both.1),
    ))
    (λ none. (
      λ has. absurd (none_in_nil has.0 (subst (λ l. Contains l has.0) none.1 ((rows has.0).0 has.1))),
      λ both. absurd (false≢true (sym none.0 ∙ both.0)),
    ))
    either

-- ---- valuations that have the same values of the columns

bound_same : (a b : Option Value) → b ≡ a → IsBoundSame a b
bound_same None b same = tt
bound_same (Some x) b same = same

-- of a row that has the valuation's values
module _ (columns : List VarId) (v w : Valuation) (row : List Value) (distinct : HasNoRepeats columns) (is : cells columns v ≡ map Some row) where
  pub under_row : AgreesWithRow w columns row ↔ AgreesWhereBound columns v w
  under_row = (
    λ agrees x there. bound_same (value_at v x) (value_at w x) (agrees x there ∙ sym (cells_agree columns v row distinct is x there)),
    λ agree x there.
        let long : length row ≡ length columns = sym (length-map row Some) ∙ ap length (sym is) ∙ length-map columns (value_at v) in
        let some = cell_some columns row x long there in
        subst (λ a. IsBoundSame a (value_at w x)) (cells_agree columns v row distinct is x there ∙ some.1) (agree x there) ∙ sym some.1,
  )

  pub same_values : AgreesWithRow w columns row → AgreeOnColumns columns v w
  same_values agrees x there = cells_agree columns v row distinct is x there ∙ sym (agrees x there)

has_alike : (columns : List VarId) (t : Relation) (v w : Valuation) → t.columns ≡ columns → AgreeOnColumns columns v w → HasValuation t v → HasValuation t w
has_alike columns t v w same agree has = (has.0, has.1, λ x there. sym (agree x (subst (λ l. Contains l x) same there)) ∙ has.2 x there)

agree_back : (columns : List VarId) (v w : Valuation) → AgreeOnColumns columns v w → AgreeOnColumns columns w v
agree_back columns v w agree = λ x there. sym (agree x there)

survives_alike : (columns : List VarId) (s : Surviving) (v w : Valuation) → FitsColumns columns s → AgreeOnColumns columns v w → SurvivesFor s v → SurvivesFor s w
survives_alike columns seen.All v w fit agree survives = tt
survives_alike columns (seen.Only rows) v w fit agree survives = has_alike columns rows.now v w fit agree survives
survives_alike columns (seen.AllBut rows) v w fit agree survives = λ there. survives (has_alike columns rows.now w v fit (agree_back columns v w agree) there)

answers_alike : (window : Window) (time : ℕ) (s : Surviving) (right : Relation) (v w : Valuation) → FitsColumns window.columns s → right.columns ≡ window.columns → AgreeOnColumns window.columns v w
    → AnswersBy window time (SurvivesFor s) right v → AnswersBy window time (SurvivesFor s) right w
answers_alike window time s right v w fit columns agree answers = ⊎_elim
    (λ now. inl (now.0, has_alike window.columns right v w columns agree now.1))
    (λ before. let has = before.0.2 in
    inr ((before.0.0, before.0.1, (has.0, has.1, has.2, has.3, λ x there. sym (agree x there) ∙ has.4 x there)), survives_alike window.columns s v w fit agree before.1))
    answers

-- the row is given where it answers
pub rows_of_one : (window : Window) (time : ℕ) (s : Surviving) (right : Relation) (v : Valuation) (row : List Value) (is_there : Bool) (t : Relation) → HasNoRepeats window.columns
    → FitsColumns window.columns s
    → right.columns ≡ window.columns → cells window.columns v ≡ map Some row → IsTrue is_there ↔ AnswersBy window time (SurvivesFor s) right v
    → ((w : Valuation) → HasValuation t w ↔ (IsTrue is_there × AgreesWithRow w window.columns row))
    → (w : Valuation) → HasValuation t w ↔ (AnswersBy window time (SurvivesFor s) right w × AgreesWhereBound window.columns v w)
rows_of_one window time s right v row is_there t distinct fit columns is tells has w = (
  λ there. let both = (has w).0 there in (
    answers_alike window time s right v w fit columns (same_values window.columns v w row distinct is both.1) (tells.0 both.0),
    (under_row window.columns v w row distinct is).0 both.1,
  ),
  λ both. let agrees = (under_row window.columns v w row distinct is).1 both.1 in
      (has w).1 (tells.1 (answers_alike window time s right w v fit columns (agree_back window.columns v w (same_values window.columns v w row distinct is agrees)) both.0), agrees),
)

-- a row of a table is given where the table has the valuation
pub rows_of_table : (told : Relation) (v : Valuation) (row : List Value) (is_there : Bool) (t : Relation) → HasNoRepeats told.columns → cells told.columns v ≡ map Some row
    → IsTrue is_there ↔ HasValuation told v
    → ((w : Valuation) → HasValuation t w ↔ (IsTrue is_there × AgreesWithRow w told.columns row)) → (w : Valuation) → HasValuation t w ↔ (HasValuation told w × AgreesWhereBound told.columns v w)
rows_of_table told v row is_there t distinct is tells has w = (
  λ there. let both = (has w).0 there in (
    has_alike told.columns told v w refl (same_values told.columns v w row distinct is both.1) (tells.0 both.0),
    (under_row told.columns v w row distinct is).0 both.1,
  ),
  λ both. let agrees = (under_row told.columns v w row distinct is).1 both.1 in
      (has w).1 (tells.1 (has_alike told.columns told w v refl (agree_back told.columns v w (same_values told.columns v w row distinct is agrees)) both.0), agrees),
)

-- ---- slots

pub slot_given : (interval : Interval) (columns : List VarId) (last : Option LastStep) (slot : Slot) (time : ℕ) (v : Valuation) (found : LastStep) (t : Relation)
    → record { interval = interval; columns = columns; last = last } ≡ slot
    → LastHasColumns columns last → last ≡ Some found → IsIn interval (time - found.time) → ((w : Valuation) → HasValuation t w ↔ (HasValuation found.rows w × AgreesWhereBound found.rows.columns v w))
    → (w : Valuation) → HasValuation t w ↔ (GivesLast slot.interval time slot.last w × AgreesWhereBound slot.columns v w)
slot_given interval columns last slot time v found t is fits last_is within has w =
    subst (λ (s : Slot). HasValuation t w ↔ (GivesLast s.interval time s.last w × AgreesWhereBound s.columns v w)) is
    (subst (λ l. HasValuation t w ↔ (GivesLast interval time l w × AgreesWhereBound columns v w)) (sym last_is)
    (subst (λ l. HasValuation t w ↔ (GivesLast interval time (Some found) w × AgreesWhereBound l v w)) (subst (LastHasColumns columns) last_is fits)
    (λ there. let both = (has w).0 there in ((within, both.0), both.1), λ both. (has w).1 (both.0.1, both.1))))

pub slot_not_given : (interval : Interval) (columns : List VarId) (last : Option LastStep) (slot : Slot) (time : ℕ) (v : Valuation) (t : Relation)
    → record { interval = interval; columns = columns; last = last } ≡ slot
    → ((w : Valuation) → GivesLast interval time last w → ⊥) → ((w : Valuation) → HasValuation t w → ⊥)
    → (w : Valuation) → HasValuation t w ↔ (GivesLast slot.interval time slot.last w × AgreesWhereBound slot.columns v w)
slot_not_given interval columns last slot time v t is not_given none w =
    subst (λ (s : Slot). HasValuation t w ↔ (GivesLast s.interval time s.last w × AgreesWhereBound s.columns v w)) is
    (λ there. absurd (none w there), λ both. absurd (not_given w both.0))
