-- What is kept for an operator, with one step more.
use Rattle.past_state.proofs.Vocabulary.{◌≡◌, ◌∙◌, ◌↔◌, ◌⊎◌, inr, ⊎_elim, ℕ, ◌≤◌, IsTrue, List, [], ◌∷◌, ◌++◌, length, drop, Contains, refl, sym, subst, IsSome, and_parts, Valuation, value_at}
use Rattle.past_state.proofs.Vocabulary.{BindsColumns, Event, Interval, Step, VarId, iff_then as then, step_at_end, Formula, Not, Implies, Prev, Once, Historically, Since, IsFree, AreFreeVariables}
use Rattle.past_state.proofs.Vocabulary.{Sat, tree_of, is_past, BindsFresh, FitOperators, BoundFormula, HoldsNow, TablesStandFor, TableStandsFor, Tabled, outermost, PresentIsSatisfied, denial}
use Rattle.past_state.proofs.Vocabulary.{fit_short, last_time, Relation, HasValuation, given_by_slot, given_last_answers, LastHasColumns, Window, AreTablesOf, SinceAnswers, SinceGoesOn, OnceAnswers}
use Rattle.past_state.proofs.Vocabulary.{OnceGoesOn, HistoricallyIsDenied, PrevAnswers, PrevGoesOn, satisfied, everywhere, GuardAsks, CanAskRows, CanAskRowsAmong, CanAskRowsUnder, AnswersRows}
use Rattle.past_state.proofs.Vocabulary.{AsksLeft, AreSurvivors, CanAskLeft, LeftHolds, IsFor, CanStep, AreStepTables, FitMemory, MemoryStands, IsCommittedTo, IsSameMemory, memory_given, inner}
use Rattle.past_state.proofs.Vocabulary.{ValuationSurvives, SurvivorsFit, Left, Memory, StepTables}
use Rattle.past_state.proofs.BegunLemmas.{begun_past}
use Rattle.past_state.proofs.SurvivorLemmas.{window_gives}
use Rattle.past_state.specs.machine.Laws.{BegunAnswers, BegunGoesOn, OnceStands, PrevGrows}
use Rattle.past_state.proofs.GrowthLemmas.{grown_past}
use Rattle.past_state.specs.declared.prev_operands.Operand.{Operand}
use Rattle.past_state.specs.declared.prev_operands.Operand.TheVariants as asked
use Rattle.past_state.specs.machine.Memories.{IsSlotAfter}
use Rattle.past_state.specs.machine.Newcomers.{AsksInstead, AsksOperand, AsksRight, BeginsWith, guard_in}
use Rattle.past_state.specs.machine.OperatorMeaning.{SlotStands}
use Rattle.windows.specs.machine.Slots.{Slot}
use Rattle.windows.specs.machine.Windows.{AnswersBy, IsCommittedBy}
use Rattle.past_state.specs.declared.left_sides.Left.TheVariants as side
use Rattle.past_state.specs.declared.survivors.Survivors.TheVariants as told
use Rattle.past_state.specs.declared.memories.Memory.TheVariants as memories

-- ---- tables of several operators

pub stand_front : (trace : List Step) (i : ℕ) (fs gs : List Formula) (tables : List Relation) → TablesStandFor trace i (fs ++ gs) tables → TablesStandFor trace i fs tables
stand_front trace i [] gs tables stand = tt
stand_front trace i (f ∷ fs) gs [] stand = absurd stand
stand_front trace i (f ∷ fs) gs (t ∷ tables) stand = (stand.0, stand_front trace i fs gs tables stand.1)

pub stand_back : (trace : List Step) (i : ℕ) (fs gs : List Formula) (tables : List Relation) → TablesStandFor trace i (fs ++ gs) tables → TablesStandFor trace i gs (drop (length fs) tables)
stand_back trace i [] gs tables stand = stand
stand_back trace i (f ∷ fs) gs [] stand = absurd stand
stand_back trace i (f ∷ fs) gs (t ∷ tables) stand = stand_back trace i fs gs tables stand.1

pub fit_front : (fs gs : List Formula) (tables : List Relation) → FitOperators (fs ++ gs) tables → FitOperators fs tables
fit_front [] gs tables fit = tt
fit_front (f ∷ fs) gs [] fit = absurd fit
fit_front (f ∷ fs) gs (t ∷ tables) fit = (fit.0, fit_front fs gs tables fit.1)

pub fit_back : (fs gs : List Formula) (tables : List Relation) → FitOperators (fs ++ gs) tables → FitOperators gs (drop (length fs) tables)
fit_back [] gs tables fit = fit
fit_back (f ∷ fs) gs [] fit = absurd fit
fit_back (f ∷ fs) gs (t ∷ tables) fit = fit_back fs gs tables fit.1

-- ---- the denial

pub denial_outermost : (g : Formula) → outermost (denial g) ≡ outermost g
denial_outermost (Not place h) = refl
denial_outermost (Implies place a b) = refl
denial_outermost g = refl

denial_past : (g : Formula) → IsTrue (is_past g) → IsTrue (is_past (denial g))
denial_past (Not place h) past = past
denial_past (Implies place a b) past = past
denial_past g past = past

pub denial_free : (g : Formula) (x : VarId) → IsFree x (denial g) ↔ IsFree x g
denial_free (Not place h) x = (λ free. free, λ free. free)
denial_free (Implies place a b) x = (λ free. free, λ free. free)
denial_free g x = (λ free. free, λ free. free)

-- ---- what a step may ask

can_ask_all : (f : Formula) (columns : List VarId) (guard : BoundFormula) (tables : List Relation) → GuardAsks f [] guard → AreFreeVariables f columns → FitOperators (outermost f) tables
    → CanAskRows guard columns tables
can_ask_all f columns guard tables asks free fit = record {
  bound = asks.bound_is;
  free = subst (λ h. AreFreeVariables h columns) (sym asks.formula_is) free;
  fresh = subst (λ h. BindsFresh h (λ x. Contains guard.bound x ⊎ IsFree x h)) (sym asks.formula_is) (subst (λ b. BindsFresh f (λ x. Contains b x ⊎ IsFree x f)) (sym asks.bound_is) asks.fresh);
  tabled = subst (λ h. FitOperators (outermost h) tables) (sym asks.formula_is) fit;
}

can_ask_under : (f : Formula) (columns : List VarId) (guard : BoundFormula) (tables : List Relation) → GuardAsks f columns guard → ((x : VarId) → IsFree x f → Contains columns x)
    → FitOperators (outermost f) tables → CanAskRowsUnder guard columns tables
can_ask_under f columns guard tables asks free fit = record {
  bound = asks.bound_is;
  free = λ x is. free x (subst (IsFree x) asks.formula_is is);
  fresh = subst (λ h. BindsFresh h (λ x. Contains guard.bound x ⊎ IsFree x h)) (sym asks.formula_is) (subst (λ b. BindsFresh f (λ x. Contains b x ⊎ IsFree x f)) (sym asks.bound_is) asks.fresh);
  tabled = subst (λ h. FitOperators (outermost h) tables) (sym asks.formula_is) fit;
}

can_ask_among : (f : Formula) (columns : List VarId) (guard : BoundFormula) (tables : List Relation) → GuardAsks f [] guard → ((x : VarId) → IsFree x f → Contains columns x)
    → FitOperators (outermost f) tables → CanAskRowsAmong guard columns tables
can_ask_among f columns guard tables asks free fit = record {
  bound = asks.bound_is;
  free = λ x is. free x (subst (IsFree x) asks.formula_is is);
  fresh = subst (λ h. BindsFresh h (λ x. Contains guard.bound x ⊎ IsFree x h)) (sym asks.formula_is) (subst (λ b. BindsFresh f (λ x. Contains b x ⊎ IsFree x f)) (sym asks.bound_is) asks.fresh);
  tabled = subst (λ h. FitOperators (outermost h) tables) (sym asks.formula_is) fit;
}

can_ask_left : (f : Formula) (columns : List VarId) (left : Left) (tables : List Relation) → AsksLeft f columns left → ((x : VarId) → IsFree x f → Contains columns x)
    → FitOperators (outermost f) tables → CanAskLeft columns tables left
can_ask_left f columns side.All tables asks free fit = tt
can_ask_left f columns (side.Denied guard) tables asks free fit =
    can_ask_among asks.1 columns guard tables asks.3 (λ x there. free x (subst (IsFree x) (sym asks.2) there)) (subst (λ g. FitOperators (outermost g) tables) asks.2 fit)
can_ask_left f columns (side.ByRow guard) tables asks free fit = can_ask_under f columns guard tables asks free fit

free_instead : (f other : Formula) (columns : List VarId) → ((x : VarId) → IsFree x other ↔ IsFree x f) → AreFreeVariables f columns → AreFreeVariables other columns
free_instead f other columns same free = record {
  rising = free.rising;
  exact = λ x. (λ there. (same x).1 ((free.exact x).0 there), λ is. (free.exact x).1 ((same x).0 is));
}

can_ask_right : (interval : Interval) (f : Formula) (columns : List VarId) (guard : BoundFormula) (tables : List Relation) → AsksRight interval f guard → AreFreeVariables f columns
    → FitOperators (outermost f) tables → CanAskRows guard columns tables
can_ask_right interval f columns guard tables asks free fit =
    ⊎_elim (λ whole. can_ask_all f columns guard tables whole free fit)
    (λ new. can_ask_all new.1.other columns guard tables new.1.asks (free_instead f new.1.other columns new.1.free free) (subst (λ l. FitOperators l tables) (sym new.1.present) tt)) asks

can_ask_operand : (f : Formula) (columns : List VarId) (operand : Operand) (tables : List Relation) → AsksOperand f operand → AreFreeVariables f columns → FitOperators (outermost f) tables
    → CanAskRows (guard_in operand) columns tables
can_ask_operand f columns (asked.Whole guard) tables asks free fit = can_ask_all f columns guard tables asks free fit
can_ask_operand f columns (asked.Growing guard) tables asks free fit =
    can_ask_all asks.other columns guard tables asks.asks (free_instead f asks.other columns asks.free free) (subst (λ l. FitOperators l tables) (sym asks.present) tt)

pub can_step : (f : Formula) (m : Memory) (tables : List Relation) → IsFor f m → FitOperators (inner f) tables → CanStep tables m
can_step (Prev place interval g) (memories.Prev slot operand) tables for fit = can_ask_operand g slot.columns operand tables for.0 for.1 fit
can_step (Once place interval g) (memories.Once window right) tables for fit = can_ask_right interval g window.columns right tables for.0 for.1 fit
can_step (Historically place interval g) (memories.Once window right) tables for fit =
    can_ask_right interval (denial g) window.columns right tables for.0 for.1 (subst (λ l. FitOperators l tables) (sym (denial_outermost g)) fit)
can_step (Since place interval g h) (memories.Since window left left_tables right) tables for fit = (
  subst (λ n. CanAskRows right window.columns (drop n tables)) (sym for.4)
      (can_ask_all h window.columns right (drop (length (outermost g)) tables) for.0 for.1 (fit_back (outermost g) (outermost h) tables fit)),
  can_ask_left g window.columns left tables for.3 (λ x free. (for.1.exact x).1 (for.5 x free)) (fit_front (outermost g) (outermost h) tables fit),
  subst (λ n. n ≤ length tables) (sym for.4) (fit_short (outermost g) tables (fit_front (outermost g) (outermost h) tables fit)),
)
can_step f m tables for fit = absurd for

-- what it brings fits
pub step_fits : (events : List Event) (tables : List Relation) (m : Memory) (t : StepTables) → AreStepTables events tables m t → FitMemory m t
step_fits events tables (memories.Prev slot operand) t are = are.columns_are
step_fits events tables (memories.Once window right) t are = (subst (SurvivorsFit window.columns) (sym are.1) tt, are.0.columns_are)
step_fits events tables (memories.Since window left left_tables right) t are = (are.1.fit, are.0.columns_are)

-- ---- a step of a trace for which what is kept stands

-- the laws that it takes
pub record Laws : Type 0 where
  pub present : PresentIsSatisfied
  pub since_answers : SinceAnswers
  pub since_goes_on : SinceGoesOn
  pub once_answers : OnceAnswers
  pub once_goes_on : OnceGoesOn
  pub denied : HistoricallyIsDenied
  pub begun_answers : BegunAnswers
  pub begun_goes_on : BegunGoesOn
  pub prev_answers : PrevAnswers
  pub prev_goes_on : PrevGoesOn
  pub prev_grows : PrevGrows

module _ (laws : Laws) (trace : List Step) (step : Step) (later : last_time trace ≤ step.time) where
  -- what holds by the tables is what is satisfied
  now_satisfied : (g : Formula) (guard : BoundFormula) (tables : List Relation) → tree_of guard.formula ≡ g → IsTrue (is_past g)
      → TablesStandFor (trace ++ step ∷ []) (length trace) (outermost g) tables
      → (v : Valuation) → ((x : VarId) → IsFree x g → IsSome (value_at v x))
      → HoldsNow step.events tables v (tree_of guard.formula) ↔ Sat (trace ++ step ∷ []) (length trace) v g
  now_satisfied g guard tables is past stand v binds =
      subst (λ h. HoldsNow step.events tables v h ↔ Sat (trace ++ step ∷ []) (length trace) v g) (sym is)
      (subst (λ s. HoldsNow s.events tables v g ↔ Sat (trace ++ step ∷ []) (length trace) v g) (step_at_end trace step)
      (laws.present (trace ++ step ∷ []) (length trace) tables v g past stand binds))

  bound_free : (g : Formula) (columns : List VarId) (v : Valuation) → AreFreeVariables g columns → BindsColumns v columns → (x : VarId) → IsFree x g → IsSome (value_at v x)
  bound_free g columns v free binds x is = binds x ((free.exact x).1 is)

  is_answer : (g : Formula) (guard : BoundFormula) (tables : List Relation) (columns : List VarId) (t : Relation) → GuardAsks g [] guard → AreFreeVariables g columns → IsTrue (is_past g)
      → TablesStandFor (trace ++ step ∷ []) (length trace) (outermost g) tables → AnswersRows step.events tables guard columns t
      → (v : Valuation) → BindsColumns v columns → HasValuation t v ↔ Sat (trace ++ step ∷ []) (length trace) v g
  is_answer g guard tables columns t asks free past stand answers v binds =
      then (answers.rows v binds) (now_satisfied g guard tables asks.formula_is past stand v (bound_free g columns v free binds))

  once_tables : (g : Formula) (interval : Interval) (window : Window) (right : BoundFormula) (tables : List Relation) (t : StepTables) → GuardAsks g [] right
      → AreFreeVariables g window.columns → IsTrue (is_past g)
      → TablesStandFor (trace ++ step ∷ []) (length trace) (outermost g) tables → AnswersRows step.events tables right window.columns t.right → t.surviving ≡ told.All
      → AreTablesOf trace window everywhere (satisfied (trace ++ step ∷ []) g) t.surviving t.right
  once_tables g interval window right tables t asks free past stand answers all = record {
    right_columns = answers.columns_are;
    survives = λ v binds keeps. subst (λ s. ValuationSurvives s v ↔ everywhere v (length trace)) (sym all) (λ h. h, λ h. h);
    is_right = is_answer g right tables window.columns t.right asks free past stand answers;
  }

  -- so too where only what is new is asked for
  begun_tables : (g : Formula) (interval : Interval) (window : Window) (right : BoundFormula) (tables : List Relation) (t : StepTables) (new : AsksInstead (BeginsWith g) g right)
      → AreFreeVariables g window.columns → IsTrue (is_past g) → AnswersRows step.events tables right window.columns t.right → t.surviving ≡ told.All
      → AreTablesOf trace window everywhere (satisfied (trace ++ step ∷ []) new.other) t.surviving t.right
  begun_tables g interval window right tables t new free past answers all =
      once_tables new.other interval window right tables t new.asks (free_instead g new.other window.columns new.free free) (begun_past g new.other new.serves past)
      (subst (λ l. TablesStandFor (trace ++ step ∷ []) (length trace) l tables) (sym new.present) tt) answers all

  once_answered : (place : ℕ) (g : Formula) (interval : Interval) (window : Window) (right : BoundFormula) (tables : List Relation) (t : StepTables) → AsksRight interval g right
      → AreFreeVariables g window.columns → IsTrue (is_past g) → OnceStands trace interval g window
      → TablesStandFor (trace ++ step ∷ []) (length trace) (outermost g) tables → AnswersRows step.events tables right window.columns t.right → t.surviving ≡ told.All
      → (v : Valuation) → BindsColumns v window.columns
      → AnswersBy window step.time (ValuationSurvives t.surviving) t.right v ↔ Sat (trace ++ step ∷ []) (length trace) v (Once place interval g)
  once_answered place g interval window right tables t asks free past stands inside answers all v binds =
      ⊎_elim
      (λ whole. laws.once_answers trace step place interval g window t.surviving t.right past later stands (once_tables g interval window right tables t whole free past inside answers all) v binds)
      (λ new. laws.begun_answers trace step place interval g new.1.other window t.surviving t.right past later new.0 new.1.serves stands
      (begun_tables g interval window right tables t new.1 free past answers all) v binds) asks

  once_committed : (g : Formula) (interval : Interval) (window after : Window) (right : BoundFormula) (tables : List Relation) (t : StepTables) → AsksRight interval g right
      → AreFreeVariables g window.columns → IsTrue (is_past g) → OnceStands trace interval g window
      → TablesStandFor (trace ++ step ∷ []) (length trace) (outermost g) tables → AnswersRows step.events tables right window.columns t.right → t.surviving ≡ told.All
      → IsCommittedBy window step.time (ValuationSurvives t.surviving) t.right after → OnceStands (trace ++ step ∷ []) interval g after
  once_committed g interval window after right tables t asks free past stands inside answers all committed =
      ⊎_elim
      (λ whole. laws.once_goes_on trace step interval g window t.surviving t.right past later stands (once_tables g interval window right tables t whole free past inside answers all) after committed)
      (λ new. laws.begun_goes_on trace step interval g new.1.other window t.surviving t.right past later new.0 new.1.serves stands
      (begun_tables g interval window right tables t new.1 free past answers all) after committed) asks

  -- what is asked of the left side is what is satisfied
  left_satisfied : (g : Formula) (left : Left) (columns : List VarId) (tables : List Relation) → AsksLeft g columns left → IsTrue (is_past g)
      → TablesStandFor (trace ++ step ∷ []) (length trace) (outermost g) tables
      → (v : Valuation) → ((x : VarId) → IsFree x g → IsSome (value_at v x))
      → LeftHolds step.events tables left v ↔ Sat (trace ++ step ∷ []) (length trace) v g
  left_satisfied g side.All columns tables asks past stand v binds = subst (λ f. LeftHolds step.events tables side.All v ↔ Sat (trace ++ step ∷ []) (length trace) v f) (sym asks.1) (λ h. h, λ h. h)
  left_satisfied g (side.Denied guard) columns tables asks past stand v binds =
      let denied = now_satisfied asks.1 guard tables asks.3.formula_is (subst (λ f. IsTrue (is_past f)) asks.2 past)
      (subst (λ f. TablesStandFor (trace ++ step ∷ []) (length trace) (outermost f) tables) asks.2 stand) v
      (λ x free. binds x (subst (IsFree x) (sym asks.2) free)) in
      subst (λ f. LeftHolds step.events tables (side.Denied guard) v ↔ Sat (trace ++ step ∷ []) (length trace) v f) (sym asks.2)
      (λ fails holds. fails (denied.1 holds), λ fails holds. fails (denied.0 holds))
  left_satisfied g (side.ByRow guard) columns tables asks past stand v binds = now_satisfied g guard tables asks.formula_is past stand v binds

  since_tables : (g h : Formula) (window : Window) (left : Left) (right : BoundFormula) (left_tables : ℕ) (tables : List Relation) (t : StepTables) → GuardAsks h [] right
      → AreFreeVariables h window.columns
      → AsksLeft g window.columns left → left_tables ≡ length (outermost g) → ((x : VarId) → IsFree x g → IsFree x h) → IsTrue (is_past g) → IsTrue (is_past h)
      → TablesStandFor (trace ++ step ∷ []) (length trace) (outermost g ++ outermost h) tables
      → AnswersRows step.events (drop left_tables tables) right window.columns t.right → AreSurvivors step.events tables left window t.surviving
      → AreTablesOf trace window (satisfied (trace ++ step ∷ []) g) (satisfied (trace ++ step ∷ []) h) t.surviving t.right
  since_tables g h window left right left_tables tables t asks_right free asks_left counted within past_g past_h stand answers surviving = record {
    right_columns = answers.columns_are;
    survives = λ v binds keeps. then (surviving.exact v binds keeps)
        (left_satisfied g left window.columns tables asks_left past_g (stand_front _ _ (outermost g) (outermost h) tables stand) v (λ x is. bound_free h window.columns v free binds x (within x is)));
    is_right = is_answer h right (drop left_tables tables) window.columns t.right asks_right free past_h
        (subst (λ n. TablesStandFor (trace ++ step ∷ []) (length trace) (outermost h) (drop n tables)) (sym counted) (stand_back _ _ (outermost g) (outermost h) tables stand)) answers;
  }

  -- the table that it gives stands for the operator
  stands_by : (f : Formula) (columns : List VarId) (table : Relation) → table.columns ≡ columns → ((x : VarId) → Contains columns x → IsFree x f)
      → ((v : Valuation) → BindsColumns v columns → HasValuation table v ↔ Tabled (trace ++ step ∷ []) (length trace) v f) → TableStandsFor (trace ++ step ∷ []) (length trace) f table
  stands_by f columns table same free rows = record {
    columns = λ x there. free x (subst (λ l. Contains l x) same there);
    rows = λ v binds. rows v (subst (BindsColumns v) same binds);
  }

  pub given_stands : (f : Formula) (m : Memory) (tables : List Relation) (t : StepTables) → IsTrue (is_past f) → IsFor f m → MemoryStands trace f m
      → TablesStandFor (trace ++ step ∷ []) (length trace) (inner f) tables → AreStepTables step.events tables m t → TableStandsFor (trace ++ step ∷ []) (length trace) f (memory_given m step.time t)
  given_stands (Prev place interval g) (memories.Prev slot operand) tables t past for stands inside are =
      stands_by _ slot.columns (given_by_slot slot step.time) refl (λ x there. (for.1.exact x).0 there)
      (λ v binds. then (given_last_answers slot step.time for.3 v) (laws.prev_answers trace step place interval g slot past later stands v binds))
  given_stands (Once place interval g) (memories.Once window right) tables t past for stands inside are =
      let fit = step_fits step.events tables (memories.Once window right) t are in
      stands_by _ window.columns (memory_given (memories.Once window right) step.time t) refl (λ x there. (for.1.exact x).0 there)
      (λ v binds. then (window_gives window step.time t.surviving t.right fit.0 fit.1 v)
      (once_answered place g interval window right tables t for.0 for.1 past stands inside are.0 are.1 v binds))
  given_stands (Historically place interval g) (memories.Once window right) tables t past for stands inside are =
      let past' = denial_past g past in
      let fit = step_fits step.events tables (memories.Once window right) t are in
      stands_by _ window.columns (memory_given (memories.Once window right) step.time t) refl (λ x there. (denial_free g x).0 ((for.1.exact x).0 there))
      (λ v binds. then (window_gives window step.time t.surviving t.right fit.0 fit.1 v) (then
      (once_answered place (denial g) interval window right tables t for.0 for.1 past' stands
      (subst (λ l. TablesStandFor (trace ++ step ∷ []) (length trace) l tables) (sym (denial_outermost g)) inside) are.0 are.1 v binds)
      (let d = laws.denied (trace ++ step ∷ []) (length trace) v place interval g in (d.1, d.0))))
  given_stands (Since place interval g h) (memories.Since window left left_tables right) tables t past for stands inside are =
      let pasts = and_parts (is_past g) (is_past h) past in
      let fit = step_fits step.events tables (memories.Since window left left_tables right) t are in
      stands_by _ window.columns (memory_given (memories.Since window left left_tables right) step.time t) refl (λ x there. inr ((for.1.exact x).0 there))
      (λ v binds. then (window_gives window step.time t.surviving t.right fit.0 fit.1 v)
      (laws.since_answers trace step place interval g h window t.surviving t.right pasts.0 pasts.1 later stands
      (since_tables g h window left right left_tables tables t for.0 for.1 for.3 for.4 for.5 pasts.0 pasts.1 inside are.0 are.1) v binds))
  given_stands f m tables t past for stands inside are = absurd for

  slot_stands : (g : Formula) (interval : Interval) (operand : Operand) (slot after : Slot) (tables : List Relation) (right : Relation) → AsksOperand g operand
      → AreFreeVariables g slot.columns → IsTrue (is_past g) → SlotStands trace interval g slot
      → TablesStandFor (trace ++ step ∷ []) (length trace) (outermost g) tables → AnswersRows step.events tables (guard_in operand) slot.columns right
      → IsSlotAfter operand slot step.time right after → SlotStands (trace ++ step ∷ []) interval g after
  slot_stands g interval (asked.Whole guard) slot after tables right asks free past stands inside answers is =
      subst (SlotStands (trace ++ step ∷ []) interval g) (sym is)
      (laws.prev_goes_on trace step interval g slot right stands answers.columns_are (is_answer g guard tables slot.columns right asks free past inside answers))
  slot_stands g interval (asked.Growing guard) slot after tables right asks free past stands inside answers is =
      laws.prev_grows trace step interval g asks.other slot after right past asks.serves stands
      (is_answer asks.other guard tables slot.columns right asks.asks (free_instead g asks.other slot.columns asks.free free) (grown_past g asks.other asks.serves past)
      (subst (λ l. TablesStandFor (trace ++ step ∷ []) (length trace) l tables) (sym asks.present) tt) answers) is

  -- and with the step committed it stands for the longer trace
  pub committed_stands : (f : Formula) (m : Memory) (tables : List Relation) (t : StepTables) (after : Memory) → IsTrue (is_past f) → IsFor f m → MemoryStands trace f m
      → TablesStandFor (trace ++ step ∷ []) (length trace) (inner f) tables → AreStepTables step.events tables m t → IsCommittedTo m step.time t after
      → MemoryStands (trace ++ step ∷ []) f after
  committed_stands (Prev place interval g) (memories.Prev slot operand) tables t after past for stands inside are committed =
      subst (MemoryStands (trace ++ step ∷ []) (Prev place interval g)) (sym committed.2)
      (slot_stands g interval operand slot committed.0 tables t.right for.0 for.1 past stands inside are committed.1)
  committed_stands (Once place interval g) (memories.Once window right) tables t after past for stands inside are committed =
      subst (MemoryStands (trace ++ step ∷ []) (Once place interval g)) (sym committed.2)
      (once_committed g interval window committed.0 right tables t for.0 for.1 past stands inside are.0 are.1 committed.1)
  committed_stands (Historically place interval g) (memories.Once window right) tables t after past for stands inside are committed =
      let past' = denial_past g past in
      subst (MemoryStands (trace ++ step ∷ []) (Historically place interval g)) (sym committed.2)
      (once_committed (denial g) interval window committed.0 right tables t for.0 for.1 past' stands
      (subst (λ l. TablesStandFor (trace ++ step ∷ []) (length trace) l tables) (sym (denial_outermost g)) inside) are.0 are.1 committed.1)
  committed_stands (Since place interval g h) (memories.Since window left left_tables right) tables t after past for stands inside are committed =
      let pasts = and_parts (is_past g) (is_past h) past in
      subst (MemoryStands (trace ++ step ∷ []) (Since place interval g h)) (sym committed.2)
      (laws.since_goes_on trace step interval g h window t.surviving t.right pasts.0 pasts.1 later stands
      (since_tables g h window left right left_tables tables t for.0 for.1 for.3 for.4 for.5 pasts.0 pasts.1 inside are.0 are.1) committed.0 committed.1)
  committed_stands f m tables t after past for stands inside are committed = absurd for

-- what is kept is for the same operator
pub still_for : (f : Formula) (m : Memory) (after : Memory) → IsFor f m → IsSameMemory m after → IsFor f after
still_for (Prev place interval g) (memories.Prev slot operand) after for same =
    subst (IsFor (Prev place interval g)) (sym same.4) (for.0, subst (AreFreeVariables g) (sym same.2) for.1, same.1 ∙ for.2, subst (λ l. LastHasColumns l same.0.last) (sym same.2) (same.3 for.3))
still_for (Once place interval g) (memories.Once window right) after for same =
    subst (IsFor (Once place interval g)) (sym same.2) (for.0, subst (AreFreeVariables g) (sym same.1.columns_are) for.1, same.1.interval_is ∙ for.2)
still_for (Historically place interval g) (memories.Once window right) after for same =
    subst (IsFor (Historically place interval g)) (sym same.2) (for.0, subst (AreFreeVariables (denial g)) (sym same.1.columns_are) for.1, same.1.interval_is ∙ for.2)
still_for (Since place interval g h) (memories.Since window left left_tables right) after for same =
    subst (IsFor (Since place interval g h)) (sym same.2)
    (for.0, subst (AreFreeVariables h) (sym same.1.columns_are) for.1, same.1.interval_is ∙ for.2, subst (λ l. AsksLeft g l left) (sym same.1.columns_are) for.3, for.4, for.5)
still_for f m after for same = absurd for

-- and so it goes on
pub same_itself : (m : Memory) → IsSameMemory m m
same_itself (memories.Prev slot operand) = (slot, refl, refl, λ fits. fits, refl)
same_itself (memories.Once window right) = (window, record { interval_is = refl; columns_are = refl }, refl)
same_itself (memories.Since window left left_tables right) = (window, record { interval_is = refl; columns_are = refl }, refl)

pub same_then : (a b c : Memory) → IsSameMemory a b → IsSameMemory b c → IsSameMemory a c
same_then (memories.Prev slot operand) b c first second =
    let next : IsSameMemory (memories.Prev first.0 operand) c = subst (λ m. IsSameMemory m c) first.4 second in
    (next.0, next.1 ∙ first.1, next.2 ∙ first.2, λ fits. subst (λ l. LastHasColumns l next.0.last) first.2 (next.3 (subst (λ l. LastHasColumns l first.0.last) (sym first.2) (first.3 fits))), next.4)
same_then (memories.Once window right) b c first second =
    let next : IsSameMemory (memories.Once first.0 right) c = subst (λ m. IsSameMemory m c) first.2 second in
    (next.0, record { interval_is = next.1.interval_is ∙ first.1.interval_is; columns_are = next.1.columns_are ∙ first.1.columns_are }, next.2)
same_then (memories.Since window left left_tables right) b c first second =
    let next : IsSameMemory (memories.Since first.0 left left_tables right) c = subst (λ m. IsSameMemory m c) first.2 second in
    (next.0, record { interval_is = next.1.interval_is ∙ first.1.interval_is; columns_are = next.1.columns_are ∙ first.1.columns_are }, next.2)
