-- Steps that touch nothing of what is remembered of the past.
use Rattle.past_state.proofs.Vocabulary.{◌≡◌, ◌∙◌, ℕ, ◌+◌, ◌<◌, ◌≤◌, List, [], ◌∷◌, ◌++◌, length, take, drop, get_or, set, All-head, All-tail, refl, sym, ap, subst, arith, none_in_nil, Event, VarId}
use Rattle.past_state.proofs.Vocabulary.{Relation, Formula, AreFreeVariables, tree_of, BoundFormula, AnswersRows, AreStepTables, AreSurvivors, Left}
use Rattle.enf_data.proofs.RisingLists.{rising_distinct}
use Rattle.past_state.proofs.Vocabulary.{zero, suc, reverse, map-append, length-map, length-take, take_more, All-get_or, All-nil, HasNoRepeats, variable_cmp_total, Window, Prev, Once}
use Rattle.past_state.proofs.Vocabulary.{Historically, Since, denial, AreUpToTimeOf, IsUpToTimeOf, PastCommitted, CommitStands, all_operators, formulas_of_guards}
use Rattle.past_state.proofs.Vocabulary.{Memory, FitMemory, IsFor, AreFor, OperatorState, Runs, AllMemoriesFit, AllCommitted, OneCommitted, memory_given, Past, PastTables, IsPast}
use Rattle.monitorable_guard.specs.machine.NeededEvents.{HoldsForNone}
use Rattle.prev_rows.specs.machine.GrownSlots.{WasThere}
use Rattle.past_state.specs.machine.Laws.{with_last}
use Rattle.past_state.specs.machine.Memories.{IsSlotAfter, columns_of}
use Rattle.past_state.specs.machine.Newcomers.{guard_in}
use Rattle.past_state.specs.declared.prev_operands.Operand.{Operand}
use Rattle.windows.specs.machine.Slots.{HasLast, IsBareSlot, Slot}
use Rattle.std.specs.Prelude.{◌⊎◌, Contains}
use Rattle.past_state.proofs.Vocabulary.{Valuation, inl, ⊎_elim}
use Rattle.past_state.specs.declared.prev_operands.Operand.TheVariants as asked
use Rattle.past_state.specs.machine.UntouchedSteps.{AreUntouched, IsUntouched, KeepsAllRows, PassedWillStand, idle_tables, nothing_brought}
use Rattle.past_state.proofs.CommitLemmas.{next_committed, uncommitted}
use Rattle.past_state.proofs.PastLemmas.{just_made}
use Rattle.std.specs.List.Sorted.{IsStrictlySortedBy}
use Rattle.past_state.specs.declared.left_sides.Left.TheVariants as side
use Rattle.past_state.specs.declared.memories.Memory.TheVariants as memories
use Rattle.past_state.specs.declared.survivors.Survivors.TheVariants as told

-- ---- what such a step brings

no_rows_answer : (events : List Event) (tables : List Relation) (guard : BoundFormula) (columns : List VarId) → HasNoRepeats columns → HoldsForNone events (tree_of guard.formula)
    → AnswersRows events tables guard columns (record { columns = columns; rows = [] })
unfolding IsStrictlySortedBy
no_rows_answer events tables guard columns distinct none = record {
  table = record { distinct = distinct; fits = All-nil _; rising = tt };
  columns_are = refl;
  rows = λ v binds. (λ has. absurd (none_in_nil has.0 has.1), λ holds. absurd (none tables v holds));
  known = λ row there. absurd (none_in_nil row there);
}

pub all_survive : (events : List Event) (tables : List Relation) (left : Left) (window : Window) → KeepsAllRows events left → AreSurvivors events tables left window told.All
all_survive events tables side.All window keeps = record { fit = tt; exact = λ v binds kept. (λ _. tt, λ _. tt) }
all_survive events tables (side.Denied guard) window keeps = record { fit = tt; exact = λ v binds kept. (λ _ holds. keeps tables v holds, λ _. tt) }
all_survive events tables (side.ByRow guard) window keeps = absurd keeps

distinct_free : (f : Formula) (columns : List VarId) → AreFreeVariables f columns → HasNoRepeats columns
distinct_free f columns free = rising_distinct variable_cmp_total columns free.rising

brings_nothing : (events : List Event) (tables : List Relation) (f : Formula) (m : Memory) → IsFor f m → IsUntouched events m
    → AreStepTables events tables m (nothing_brought (columns_of m))
brings_nothing events tables (Prev place interval g) (memories.Prev slot operand) is none = no_rows_answer events tables (guard_in operand) slot.columns (distinct_free g slot.columns is.1) none.1
brings_nothing events tables (Once place interval g) (memories.Once window right) is none = (no_rows_answer events tables right window.columns (distinct_free g window.columns is.1) none, refl)
brings_nothing events tables (Historically place interval g) (memories.Once window right) is none =
    (no_rows_answer events tables right window.columns (distinct_free (denial g) window.columns is.1) none, refl)
brings_nothing events tables (Since place interval g h) (memories.Since window left left_tables right) is none = (
  no_rows_answer events (drop left_tables tables) right window.columns (distinct_free h window.columns is.1) none.0,
  all_survive events tables left window none.1,
)
brings_nothing events tables f m is none = absurd is

pub runs_idle : (events : List Event) (time : ℕ) (fs : List Formula) (operators : List OperatorState) → AreFor fs operators → AreUntouched events operators → (stack : List Relation)
    → (final : List Relation) × Runs events time stack operators (idle_tables operators) final
runs_idle events time [] [] are none stack = (stack, refl)
runs_idle events time [] (o ∷ operators) are none stack = absurd are
runs_idle events time (f ∷ fs) [] are none stack = absurd are
runs_idle events time (f ∷ fs) (o ∷ operators) are none stack =
    let here = nothing_brought (columns_of o.memory) in
    let first = All-head (λ p. IsUntouched events p.memory) o operators none in
    let rest = runs_idle events time fs operators are.2 (All-tail (λ p. IsUntouched events p.memory) o operators none) (memory_given o.memory time here ∷ drop o.taken stack) in
    (rest.0, (brings_nothing events stack f o.memory are.0 first, rest.1))

-- ---- what is committed

fits_nothing : (m : Memory) → FitMemory m (nothing_brought (columns_of m))
fits_nothing (memories.Prev slot operand) = refl
fits_nothing (memories.Once window right) = (tt, refl)
fits_nothing (memories.Since window left left_tables right) = (tt, refl)

none_there : (slot : Slot) → IsBareSlot slot → (v : Valuation) → WasThere slot.last v → ⊥
none_there slot bare v was =
    let there = subst (λ last. HasLast last v was.0) bare.1 was.1 in
    none_in_nil there.1.0 (subst (λ rows. Contains rows there.1.0) bare.2 there.1.1)

-- a slot without rows that grows by none has none
pub slot_passed : (operand : Operand) (slot : Slot) (time : ℕ) (after : Slot) → IsBareSlot slot → after ≡ with_last slot time (record { columns = slot.columns; rows = [] })
    → IsSlotAfter operand slot time (record { columns = slot.columns; rows = [] }) after
slot_passed (asked.Whole guard) slot time after bare is = is
slot_passed (asked.Growing guard) slot time after bare is = record {
  rows = record { columns = slot.columns; rows = [] };
  columns_are = refl;
  after_is = is;
  has = λ v. (λ h. inl h, λ either. ⊎_elim (λ h. h) (λ was. absurd (none_there slot bare v was)) either);
}

pub fit_idle : (operators : List OperatorState) → AllMemoriesFit operators (idle_tables operators)
fit_idle [] = tt
fit_idle (o ∷ operators) = (fits_nothing o.memory, fit_idle operators)

pub split_idle : (operators : List OperatorState) (place : ℕ) (o : OperatorState) → place < length operators → o ≡ get_or operators place o
    → idle_tables operators ≡ idle_tables (take place operators) ++ nothing_brought (columns_of o.memory) ∷ idle_tables (drop (suc place) operators)
split_idle [] place o within is = absurd (omega (arith, within))
split_idle (p ∷ operators) zero o within is = ap (λ (x : OperatorState). nothing_brought (columns_of x.memory) ∷ idle_tables operators) (sym is)
split_idle (p ∷ operators) (suc place) o within is = ap (λ l. nothing_brought (columns_of p.memory) ∷ l) (split_idle operators place o (omega (arith, within)) is)

pub idle_more : (operators : List OperatorState) (place : ℕ) (o : OperatorState) → place < length operators → o ≡ get_or operators place o
    → idle_tables (take (place + 1) operators) ≡ idle_tables (take place operators) ++ nothing_brought (columns_of o.memory) ∷ []
idle_more operators place o within is =
    ap idle_tables (take_more operators place o within) ∙ map-append (λ p. nothing_brought (columns_of p.memory)) (take place operators) (get_or operators place o ∷ [])
    ∙ ap (λ (x : OperatorState). idle_tables (take place operators) ++ nothing_brought (columns_of x.memory) ∷ []) (sym is)

pub idle_length : (operators : List OperatorState) (place : ℕ) → place ≤ length operators → length (idle_tables (take place operators)) ≡ place
idle_length operators place within = length-map (take place operators) (λ p. nothing_brought (columns_of p.memory)) ∙ omega (arith, within, length-take place operators)

-- the operator at the place is as it was before the loop
module _ (time : ℕ) (operators now : List OperatorState) (place : ℕ) (o : OperatorState) (within : place < length operators)
    (passed : AllCommitted time operators (idle_tables (take place operators)) now) (is : o ≡ get_or now place o) where
  long : length (idle_tables (take place operators)) ≡ place
  long = idle_length operators place (omega (arith, within))

  pub as_before : o ≡ get_or operators place o
  as_before = is ∙ ap (λ n. get_or now n o) (sym long)
      ∙ uncommitted time operators (idle_tables (take place operators)) now o passed (subst (λ n. n < length operators) (sym long) within) ∙ ap (λ n. get_or operators n o) long

  pub untouched_here : (events : List Event) → AreUntouched events operators → IsUntouched events o.memory
  untouched_here events none = subst (λ p. IsUntouched events p.memory) (sym as_before) (All-get_or (λ p. IsUntouched events p.memory) operators place o within none)

  pub up_to_there : AreUpToTimeOf time operators → IsUpToTimeOf time o.memory
  up_to_there up_to = subst (λ p. IsUpToTimeOf time p.memory) (sym as_before) (All-get_or (λ p. IsUpToTimeOf time p.memory) operators place o within up_to)

  pub next_passed : (after : OperatorState) → OneCommitted time o (nothing_brought (columns_of o.memory)) after
      → AllCommitted time operators (idle_tables (take (place + 1) operators)) (set now place after)
  next_passed after one =
      subst (λ l. AllCommitted time operators l (set now place after)) (sym (idle_more operators place o within as_before))
      (next_committed time operators now (idle_tables operators) (idle_tables (take place operators)) (idle_tables (drop (suc place) operators)) (nothing_brought (columns_of o.memory)) place o
      (fit_idle operators) (split_idle operators place o within as_before) (sym long) passed after is one)

-- ---- the past after such a step

pub passed_stands : CommitStands → (past : Past) (time : ℕ) (after : Past) → IsPast past → PastCommitted past time (idle_tables past.operators) after → PassedWillStand past time after
passed_stands stand past time after is committed events none trace later stands =
    let run = runs_idle events time (reverse (all_operators (formulas_of_guards past.guards))) past.operators is.kept none [] in
    let tables : PastTables = record { guards = past.guards; steps = idle_tables past.operators; stack = run.0 } in
    stand past time events tables after is committed trace (record { time = time; events = events }) refl refl later stands (just_made past time events tables (refl, run.1))
