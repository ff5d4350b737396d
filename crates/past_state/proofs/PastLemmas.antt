-- Past states step by step.
use Rattle.past_state.proofs.Vocabulary.{◌≡◌, ◌∙◌, ◌↔◌, ⊎_elim, ℕ, zero, suc, ◌+◌, ◌<◌, ◌≤◌, IsTrue, List, [], ◌∷◌, ◌++◌, length, drop, reverse, get_or, All, Contains, refl, sym, ap, subst, arith}
use Rattle.past_state.proofs.Vocabulary.{append-nil, append_assoc, length-append, Bool, IsSome, same_Some, none-some, and_parts, reverse-append, All-append, All-nil, All-cons, All-head, All-tail}
use Rattle.past_state.proofs.Vocabulary.{Event, NameId, Step, Formula, True, False, Atom, Equal, Less, AtMost, Not, And, Or, Implies, Exists, Forall, Prev, Next, Once, Historically, Since, Eventually}
use Rattle.past_state.proofs.Vocabulary.{Always, Until, Sat, NamesDecide, HaveSameNamedEvents, HaveSameEvents, is_past, Valuation, BindsColumns, slice_get_at, iff_then, step_at_end, AreOpen}
use Rattle.past_state.proofs.Vocabulary.{CanEvaluate, FitOperators, AreHoldingRows, HoldsNow, TablesStandFor, outermost, PresentIsSatisfied, FreeWithin, fit_short, among_or_not, Relation}
use Rattle.past_state.proofs.Vocabulary.{HasValuation, AgreeOnColumns, last_time, memory_given, operators, all_operators, all_outermost, Past, PastTables, IsPast, IsSoundGuard, TablesStand}
use Rattle.past_state.proofs.Vocabulary.{TablesStay, TablesWillStand, GuardsWillHold, AreMadeOf, AreTablesAtStep, PastCommitted, PastStands, RunStands, CommitStands, AreEvaluated, AreSatisfied}
use Rattle.past_state.proofs.Vocabulary.{ArePastTables, HasOpenColumns, BeginAt, BindsBound, IsEvaluated, IsGuard, IsSatisfied, IsTestOf, formulas_of_guards, guard_formula, past_names, tables_of}
use Rattle.past_state.proofs.Vocabulary.{AllStand, AreInsideOut, AreOrderedOperators, AllMemoriesFit, Runs, AreSameKinds, PlacedGuard, StepTables, OperatorState, VarId}
use Rattle.monitorable_guard.specs.machine.Evaluation.{AreHoldingRowsIn}
use Rattle.past_state.specs.machine.Past.{AreEvaluatedIn}
use Rattle.past_state.proofs.OuterOperators.{outer_onto}
use Rattle.past_state.proofs.MemoryLemmas.{Laws, fit_back, fit_front, stand_back, stand_front, step_fits}
use Rattle.past_state.proofs.OrderLemmas.{all_go}
use Rattle.past_state.proofs.OperatorRunLemmas.{fit_run, stand_run, committed_run, still_all_for}
use Rattle.past_state.proofs.SameNames.{Within, all_same, all_within, outer_within, same_with, stand_same}

pub inside_out : (fs : List Formula) → AreInsideOut [] (reverse (all_operators fs))
inside_out fs = subst (AreInsideOut []) (append-nil (reverse (all_operators fs))) ((all_go fs []).ordered [] tt)

pub outer_are : (fs : List Formula) → outer_onto [] (reverse (all_operators fs)) ≡ all_outermost fs
outer_are fs = ap (outer_onto []) (sym (append-nil (reverse (all_operators fs)))) ∙ (all_go fs []).leaves [] ∙ append-nil (all_outermost fs)

pub ordered : (past : Past) → IsPast past → AreOrderedOperators past.operators
ordered past is = record { formulas = reverse (all_operators (formulas_of_guards past.guards)); are_for = is.kept; inside_out = inside_out (formulas_of_guards past.guards) }

pub all_reverse : {X : Type 0} (P : X → Type 0) (xs : List X) → All P xs → All P (reverse xs)
all_reverse P [] all = All-nil P
all_reverse P (x ∷ xs) all = subst (All P) (sym (reverse-append (x ∷ []) xs)) (All-append P (reverse xs) (x ∷ []) (all_reverse P xs (All-tail P x xs all))
    (All-cons P x [] (All-head P x xs all) (All-nil P)))

abbrev ahead : Formula → Type 0
ahead f = IsTrue (is_past f)

two : (g h : Formula) → IsTrue (is_past (And 0 g h)) → (IsTrue (is_past g) → All ahead (operators g)) → (IsTrue (is_past h) → All ahead (operators h)) → All ahead (operators g ++ operators h)
two g h past first second = let parts = and_parts (is_past g) (is_past h) past in All-append ahead (operators g) (operators h) (first parts.0) (second parts.1)

operators_past : (f : Formula) → IsTrue (is_past f) → All ahead (operators f)
operators_past (True place) past = All-nil ahead
operators_past (False place) past = All-nil ahead
operators_past (Atom place name terms) past = All-nil ahead
operators_past (Equal place s t) past = All-nil ahead
operators_past (Less place s t) past = All-nil ahead
operators_past (AtMost place s t) past = All-nil ahead
operators_past (Not place g) past = operators_past g past
operators_past (And place g h) past = two g h past (operators_past g) (operators_past h)
operators_past (Or place g h) past = two g h past (operators_past g) (operators_past h)
operators_past (Implies place g h) past = two g h past (operators_past g) (operators_past h)
operators_past (Exists place xs g) past = operators_past g past
operators_past (Forall place xs g) past = operators_past g past
operators_past (Prev place interval g) past = All-cons ahead (Prev place interval g) (operators g) past (operators_past g past)
operators_past (Once place interval g) past = All-cons ahead (Once place interval g) (operators g) past (operators_past g past)
operators_past (Historically place interval g) past = All-cons ahead (Historically place interval g) (operators g) past (operators_past g past)
operators_past (Since place interval g h) past = All-cons ahead (Since place interval g h) (operators g ++ operators h) past (two g h past (operators_past g) (operators_past h))
operators_past (Next place interval g) past = All-nil ahead
operators_past (Eventually place interval g) past = All-nil ahead
operators_past (Always place interval g) past = All-nil ahead
operators_past (Until place interval g h) past = All-nil ahead

all_past : (guards : List PlacedGuard) → All IsSoundGuard guards → All ahead (all_operators (formulas_of_guards guards))
all_past [] sound = All-nil ahead
all_past (g ∷ guards) sound = All-append ahead (operators (guard_formula g)) (all_operators (formulas_of_guards guards))
    (operators_past (guard_formula g) (All-head IsSoundGuard g guards sound).0) (all_past guards (All-tail IsSoundGuard g guards sound))

-- the tables that are made at a step, and what is kept with it committed
made_stands : Laws → (past : Past) (tables : PastTables) (trace : List Step) (step : Step) → IsPast past → AreMadeOf past step.time step.events tables
    → last_time trace ≤ step.time → PastStands trace past
    → TablesStand trace step tables
made_stands laws past tables trace step is made later stands =
    let fs = reverse (all_operators (formulas_of_guards past.guards)) in
    subst (λ gs. TablesStandFor (trace ++ step ∷ []) (length trace) (all_outermost (formulas_of_guards gs)) tables.stack) (sym made.0)
    (subst (λ l. TablesStandFor (trace ++ step ∷ []) (length trace) l tables.stack) (outer_are (formulas_of_guards past.guards))
    (stand_run laws trace step later [] [] fs past.operators tables.steps tables.stack is.kept
    (all_reverse ahead (all_operators (formulas_of_guards past.guards)) (all_past past.guards is.sound)) (inside_out (formulas_of_guards past.guards)) stands tt made.1))

made_commits : Laws → (past : Past) (tables : PastTables) (after : Past) (trace : List Step) (step : Step) → IsPast past → AreMadeOf past step.time step.events tables
    → PastCommitted past step.time tables.steps after
    → last_time trace ≤ step.time → PastStands trace past → PastStands (trace ++ step ∷ []) after
made_commits laws past tables after trace step is made committed later stands =
    let fs = reverse (all_operators (formulas_of_guards past.guards)) in
    subst (λ gs. AllStand (trace ++ step ∷ []) (reverse (all_operators (formulas_of_guards gs))) after.operators) (sym committed.0)
    (committed_run laws trace step later [] [] fs past.operators tables.steps tables.stack after.operators is.kept
    (all_reverse ahead (all_operators (formulas_of_guards past.guards)) (all_past past.guards is.sound)) (inside_out (formulas_of_guards past.guards)) stands tt made.1 committed.1)

-- the names of the operators
turned_within : (names : List NameId) (fs : List Formula) → All (Within names) (all_operators fs) → All (Within names) (reverse (all_operators fs))
turned_within names fs within = all_reverse (Within names) (all_operators fs) within

outermost_within : (names : List NameId) (fs : List Formula) → All (Within names) (all_operators fs) → All (Within names) (all_outermost fs)
outermost_within names fs within =
    subst (All (Within names)) (outer_are fs) (outer_within names [] (reverse (all_operators fs)) (All-nil (Within names)) (turned_within names fs within))

own_within : (guards : List PlacedGuard) → All (Within (past_names guards)) (all_operators (formulas_of_guards guards))
own_within guards = all_within (past_names guards) (all_operators (formulas_of_guards guards)) (λ name there. there)

-- a step with the events at which the tables were made
abbrev made_step : ℕ → List Event → Step
made_step time events = record { time = time; events = events }

pub run_stands : NamesDecide → Laws → RunStands
run_stands decide laws past time events tables is are trace step same_time same_events later stands =
    let names = past_names past.guards in
    let made = made_step time are.0 in
    let alike : HaveSameNamedEvents names (trace ++ made ∷ []) (trace ++ step ∷ []) = same_with names trace made step (sym same_time) (subst (HaveSameEvents names are.0) (sym same_events) are.1) in
    subst (λ gs. TablesStandFor (trace ++ step ∷ []) (length trace) (all_outermost (formulas_of_guards gs)) tables.stack) (sym are.2.0)
    (stand_same names decide (trace ++ made ∷ []) (trace ++ step ∷ []) alike (length trace) (all_outermost (formulas_of_guards past.guards)) tables.stack
    (outermost_within names (formulas_of_guards past.guards) (own_within past.guards))
    (subst (λ gs. TablesStandFor (trace ++ made ∷ []) (length trace) (all_outermost (formulas_of_guards gs)) tables.stack) are.2.0 (made_stands laws past tables trace made is are.2 later stands)))

pub commit_stands : NamesDecide → Laws → CommitStands
commit_stands decide laws past time events tables after is committed trace step same_time same_events later stands are =
    let names = past_names past.guards in
    let made = made_step time are.0 in
    let alike : HaveSameNamedEvents names (trace ++ made ∷ []) (trace ++ step ∷ []) = same_with names trace made step (sym same_time) (subst (HaveSameEvents names are.0) (sym same_events) are.1) in
    subst (λ gs. AllStand (trace ++ step ∷ []) (reverse (all_operators (formulas_of_guards gs))) after.operators) (sym committed.0)
    (all_same names decide (trace ++ made ∷ []) (trace ++ step ∷ []) alike (reverse (all_operators (formulas_of_guards past.guards))) after.operators
    (turned_within names (formulas_of_guards past.guards) (own_within past.guards))
    (subst (λ gs. AllStand (trace ++ made ∷ []) (reverse (all_operators (formulas_of_guards gs))) after.operators) committed.0
    (made_commits laws past tables after trace made is are.2 committed later stands)))

-- ---- tables whose operators do not look for what changed

pub tables_stay : TablesStay
tables_stay past time events others tables alike are = (are.0, then_same, are.2)
  where
    then_same : HaveSameEvents (past_names past.guards) are.0 others
    then_same event named = (λ there. (alike event named).0 ((are.1 event named).0 there), λ there. (are.1 event named).1 ((alike event named).1 there))

pub just_made : (past : Past) (time : ℕ) (events : List Event) (tables : PastTables) → AreMadeOf past time events tables → AreTablesAtStep past time events tables
just_made past time events tables made = (events, λ event named. (λ h. h, λ h. h), made)

pub still_past : (past : Past) (after : List OperatorState) → IsPast past → AreSameKinds past.operators after → IsPast (record past { operators = after })
still_past past after is same =
    record { sound = is.sound; begin = is.begin; kept = still_all_for (reverse (all_operators (formulas_of_guards past.guards))) past.operators after is.kept same }

-- ---- what the tables of a step are

pub tables_are : (past : Past) (time : ℕ) (events : List Event) (tables : PastTables) → IsPast past → AreMadeOf past time events tables → ArePastTables tables
tables_are past time events tables is made = record {
  sound = subst (All IsSoundGuard) (sym made.0) is.sound;
  begin = subst (BeginAt 0) (sym made.0) is.begin;
  fit = subst (λ gs. FitOperators (all_outermost (formulas_of_guards gs)) tables.stack) (sym made.0)
      (subst (λ l. FitOperators l tables.stack) (outer_are (formulas_of_guards past.guards))
      (fit_run events time [] [] (reverse (all_operators (formulas_of_guards past.guards))) past.operators tables.steps tables.stack is.kept (inside_out (formulas_of_guards past.guards)) tt made.1));
}

pub fits_run : (events : List Event) (time : ℕ) (stack : List Relation) (operators : List OperatorState) (steps : List StepTables) (final : List Relation)
    → Runs events time stack operators steps final → AllMemoriesFit operators steps
fits_run events time stack [] [] final runs = tt
fits_run events time stack [] (t ∷ steps) final runs = absurd runs
fits_run events time stack (o ∷ operators) [] final runs = absurd runs
fits_run events time stack (o ∷ operators) (t ∷ steps) final runs = (
  step_fits events stack o.memory t runs.0,
  fits_run events time (memory_given o.memory time t ∷ drop o.taken stack)
      operators steps final runs.1,
)

-- ---- the tables of one guard

pub record Placed (g : PlacedGuard) (n : ℕ) (all : List Formula) : Type 0 where
  pub front : List Formula
  pub back : List Formula
  pub split : all ≡ front ++ (outermost (guard_formula g) ++ back)
  pub starts : g.start ≡ n + length front

pub placed : (n : ℕ) (guards : List PlacedGuard) (number : ℕ) (g : PlacedGuard) → BeginAt n guards → IsGuard guards number g → Placed g n (all_outermost (formulas_of_guards guards))
placed n [] number g begin is = absurd (none-some g is)
placed n (h ∷ guards) zero g begin is =
    let same : h ≡ g = same_Some h g is in
    subst (λ k. Placed k n (outermost (guard_formula h) ++ all_outermost (formulas_of_guards guards))) same
    (record { front = []; back = all_outermost (formulas_of_guards guards); split = refl; starts = begin.0 ∙ omega arith })
placed n (h ∷ guards) (suc number) g begin is =
    let rest = placed (n + length (outermost (guard_formula h))) guards number g begin.1 is in
    record {
      front = outermost (guard_formula h) ++ rest.front;
      back = rest.back;
      split = ap (λ l. outermost (guard_formula h) ++ l) rest.split ∙ sym (append_assoc (outermost (guard_formula h)) rest.front (outermost (guard_formula g) ++ rest.back));
      starts = rest.starts ∙ omega (arith, length-append (outermost (guard_formula h)) rest.front);
    }

pub sound_at : (guards : List PlacedGuard) (number : ℕ) (g : PlacedGuard) → All IsSoundGuard guards → IsGuard guards number g → IsSoundGuard g
sound_at [] number g sound is = absurd (none-some g is)
sound_at (h ∷ guards) zero g sound is = subst IsSoundGuard (same_Some h g is) (All-head IsSoundGuard h guards sound)
sound_at (h ∷ guards) (suc number) g sound is = sound_at guards number g (All-tail IsSoundGuard h guards sound) is

-- what is asked of the tables of one guard
pub record GuardTables (g : PlacedGuard) (tables : PastTables) : Type 0 where
  pub enough : g.start ≤ length tables.stack
  pub sound : IsSoundGuard g
  pub fit : FitOperators (outermost (guard_formula g)) (tables_of g tables)

pub guard_tables : (tables : PastTables) (number : ℕ) (g : PlacedGuard) → ArePastTables tables → IsGuard tables.guards number g → GuardTables g tables
guard_tables tables number g are is =
    let at = placed 0 tables.guards number g are.begin is in
    let fit : FitOperators (at.front ++ (outermost (guard_formula g) ++ at.back)) tables.stack = subst (λ l. FitOperators l tables.stack) at.split are.fit in
    let start : length at.front ≡ g.start = omega (arith, at.starts) in
    record {
      enough = subst (λ n. n ≤ length tables.stack) start (fit_short at.front tables.stack (fit_front at.front (outermost (guard_formula g) ++ at.back) tables.stack fit));
      sound = sound_at tables.guards number g are.sound is;
      fit = subst (λ n. FitOperators (outermost (guard_formula g)) (drop n tables.stack)) start
          (fit_front (outermost (guard_formula g)) at.back (drop (length at.front) tables.stack) (fit_back at.front (outermost (guard_formula g) ++ at.back) tables.stack fit));
    }

pub guard_stands : (tables : PastTables) (number : ℕ) (g : PlacedGuard) (trace : List Step) (step : Step) → ArePastTables tables → IsGuard tables.guards number g → TablesStand trace step tables
    → TablesStandFor (trace ++ step ∷ []) (length trace) (outermost (guard_formula g)) (tables_of g tables)
guard_stands tables number g trace step are is stand =
    let at = placed 0 tables.guards number g are.begin is in
    let all : TablesStandFor (trace ++ step ∷ []) (length trace) (at.front ++ (outermost (guard_formula g) ++ at.back)) tables.stack = subst
    (λ l. TablesStandFor (trace ++ step ∷ []) (length trace) l tables.stack) at.split stand in
    let start : length at.front ≡ g.start = omega (arith, at.starts) in
    subst (λ n. TablesStandFor (trace ++ step ∷ []) (length trace) (outermost (guard_formula g)) (drop n tables.stack)) start
    (stand_front (trace ++ step ∷ []) (length trace) (outermost (guard_formula g)) at.back (drop (length at.front) tables.stack)
    (stand_back (trace ++ step ∷ []) (length trace) at.front (outermost (guard_formula g) ++ at.back) tables.stack all))

-- rows that evaluation gives are those that satisfy the guard, where the tables stand
pub evaluated_satisfied : PresentIsSatisfied → (tables : PastTables) (number : ℕ) (g : PlacedGuard) (events : List Event) (v : Valuation) (t : Relation) → ArePastTables tables
    → IsGuard tables.guards number g
    → AreOpen (guard_formula g) g.guard.bound t.columns → BindsColumns v g.guard.bound → AreHoldingRows events (tables_of g tables) (guard_formula g) g.guard.bound v t
    → (trace : List Step) (step : Step) → step.events ≡ events → TablesStand trace step tables → (w : Valuation) → AgreeOnColumns g.guard.bound v w → BindsColumns w t.columns
    → HasValuation t w ↔ Sat (trace ++ step ∷ []) (length trace) w (guard_formula g)
evaluated_satisfied present tables number g events v t are is opened bound holds trace step same stand w agree binds =
    let sound = sound_at tables.guards number g are.sound is in
    iff_then (holds w agree binds)
    (subst (λ e. HoldsNow e (tables_of g tables) w (guard_formula g) ↔ Sat (trace ++ step ∷ []) (length trace) w (guard_formula g)) (ap (λ s. s.events) (step_at_end trace step) ∙ same)
    (present (trace ++ step ∷ []) (length trace) (tables_of g tables) w (guard_formula g) sound.0 (guard_stands tables number g trace step are is stand)
    (λ x free. ⊎_elim (λ there. subst IsSome (agree x there) (bound x there)) (λ absent. binds x ((opened.exact x).1 (free, absent))) (among_or_not g.guard.bound x))))

-- and a guard holds by its tables where it is satisfied
pub guards_hold : PresentIsSatisfied → (past : Past) (time : ℕ) (events : List Event) (tables : PastTables) → ArePastTables tables → TablesWillStand past time events tables
    → GuardsWillHold past time events tables
guards_hold present past time events tables are will trace step at same later stands number g is v binds =
    let sound = sound_at tables.guards number g are.sound is in
    subst (λ e. HoldsNow e (tables_of g tables) v (guard_formula g) ↔ Sat (trace ++ step ∷ []) (length trace) v (guard_formula g)) (ap (λ s. s.events) (step_at_end trace step) ∙ same)
    (present (trace ++ step ∷ []) (length trace) (tables_of g tables) v (guard_formula g) sound.0 (guard_stands tables number g trace step are is (will trace step at same later stands)) binds)

pub enough_asked : (tables : PastTables) (number : ℕ) (g : PlacedGuard) (guards : List PlacedGuard) → ArePastTables tables → guards ≡ tables.guards → number < length tables.guards
    → g ≡ get_or guards number g
    → g.start ≤ length tables.stack
enough_asked tables number g guards are same below is = (guard_tables tables number g are (slice_get_at tables.guards number g below (is ∙ ap (λ l. get_or l number g) same))).enough

-- the guard at the place, and the part of the stack that is its own
pub record OfGuard (tables : PastTables) (number : ℕ) (g : PlacedGuard) (past : List Relation) : Type 0 where
  pub is : IsGuard tables.guards number g
  pub are : ArePastTables tables
  pub part : past ≡ tables_of g tables

pub asked : (tables : PastTables) (number : ℕ) (g : PlacedGuard) (guards : List PlacedGuard) (past : List Relation) → ArePastTables tables → guards ≡ tables.guards → number < length tables.guards
    → g ≡ get_or guards number g → past ≡ tables_of g tables → OfGuard tables number g past
asked tables number g guards past are same below is part = record {
  is = slice_get_at tables.guards number g below (is ∙ ap (λ l. get_or l number g) same);
  are = are;
  part = part;
}

pub can_evaluate : (tables : PastTables) (number : ℕ) (g : PlacedGuard) (past : List Relation) (v : Valuation) → OfGuard tables number g past → BindsBound tables.guards number v
    → CanEvaluate (guard_formula g) g.guard.bound (past) v
can_evaluate tables number g past v asked binds = record {
  fresh = (guard_tables tables number g asked.are asked.is).sound.1;
  tabled = subst (FitOperators (outermost (guard_formula g))) (sym asked.part) (guard_tables tables number g asked.are asked.is).fit;
  binds = binds g asked.is;
}

pub same_guard : (guards : List PlacedGuard) (number : ℕ) (g h : PlacedGuard) → IsGuard guards number g → IsGuard guards number h → g ≡ h
same_guard guards number g h a b = same_Some g h (sym a ∙ b)

-- what holds of the guard holds of what has its number
pub at_guard : (tables : PastTables) (number : ℕ) (g : PlacedGuard) (past : List Relation) → OfGuard tables number g past
    → (P : List Relation → Formula → List VarId → Type 0) → P past (guard_formula g) g.guard.bound
    → (h : PlacedGuard) → IsGuard tables.guards number h → P (tables_of h tables) (guard_formula h) h.guard.bound
at_guard tables number g past asked P holds h is =
    subst (λ k. P (tables_of k tables) (guard_formula k) k.guard.bound) (same_guard tables.guards number g h asked.is is)
    (subst (λ l. P l (guard_formula g) g.guard.bound) asked.part holds)

pub are_open : (tables : PastTables) (number : ℕ) (g : PlacedGuard) (past : List Relation) (t : Relation) → OfGuard tables number g past → AreOpen (guard_formula g) g.guard.bound t.columns
    → HasOpenColumns tables number t
are_open tables number g past t asked opened h is = subst (λ k. AreOpen (guard_formula k) k.guard.bound t.columns) (same_guard tables.guards number g h asked.is is) opened

pub are_evaluated : (tables : PastTables) (number : ℕ) (g : PlacedGuard) (past : List Relation) (events : List Event) (v : Valuation) (t : Relation) → OfGuard tables number g past
    → AreHoldingRows events (past) (guard_formula g) g.guard.bound v t → AreEvaluated tables number events v t
are_evaluated tables number g past events v t asked holds = at_guard tables number g past asked (λ l f bound. AreHoldingRows events l f bound v t) holds

pub are_evaluated_in : (within : Relation) (tables : PastTables) (number : ℕ) (g : PlacedGuard) (past : List Relation) (events : List Event) (v : Valuation) (t : Relation)
    → OfGuard tables number g past → AreHoldingRowsIn within events (past) (guard_formula g) g.guard.bound v t → AreEvaluatedIn within tables number events v t
are_evaluated_in within tables number g past events v t asked holds =
    at_guard tables number g past asked (λ l f bound. AreHoldingRowsIn within events l f bound v t) holds

pub are_satisfied : PresentIsSatisfied → (tables : PastTables) (number : ℕ) (g : PlacedGuard) (past : List Relation) (events : List Event) (v : Valuation) (t : Relation) → OfGuard tables number g past
    → BindsBound tables.guards number v → AreOpen (guard_formula g) g.guard.bound t.columns → AreHoldingRows events (past) (guard_formula g) g.guard.bound v t
    → AreSatisfied tables number events v t
are_satisfied present tables number g past events v t asked binds opened holds h is trace step same stand w agree bound =
    evaluated_satisfied present tables number h events v t asked.are is
    (are_open tables number g past t asked opened h is) (binds h is)
    (are_evaluated tables number g past events v t asked holds h is) trace step same stand w agree bound

-- ---- a test

pub test_of : (tables : PastTables) (number : ℕ) (g : PlacedGuard) (past : List Relation) → OfGuard tables number g past → IsTestOf tables.guards number
    → FreeWithin (guard_formula g) (Contains g.guard.bound)
test_of tables number g past asked test = test g asked.is

pub is_evaluated : (tables : PastTables) (number : ℕ) (g : PlacedGuard) (past : List Relation) (events : List Event) (v : Valuation) (holds : Bool) → OfGuard tables number g past
    → (IsTrue holds ↔ HoldsNow events past v (guard_formula g)) → IsEvaluated tables number events v holds
is_evaluated tables number g past events v holds asked told h is =
    subst (λ k. IsTrue holds ↔ HoldsNow events (tables_of k tables) v (guard_formula k)) (same_guard tables.guards number g h asked.is is)
    (subst (λ l. IsTrue holds ↔ HoldsNow events l v (guard_formula g)) asked.part told)

pub is_satisfied : PresentIsSatisfied → (tables : PastTables) (number : ℕ) (events : List Event) (v : Valuation) (holds : Bool) → ArePastTables tables → IsTestOf tables.guards number
    → BindsBound tables.guards number v → IsEvaluated tables number events v holds → IsSatisfied tables number events v holds
is_satisfied present tables number events v holds are test binds evaluated h is trace step same stand =
    iff_then (evaluated h is)
    (subst (λ e. HoldsNow e (tables_of h tables) v (guard_formula h) ↔ Sat (trace ++ step ∷ []) (length trace) v (guard_formula h)) (ap (λ s. s.events) (step_at_end trace step) ∙ same)
    (present (trace ++ step ∷ []) (length trace) (tables_of h tables) v (guard_formula h) (sound_at tables.guards number h are.sound is).0 (guard_stands tables number h trace step are is stand)
    (λ x free. binds h is x (test h is x free))))
