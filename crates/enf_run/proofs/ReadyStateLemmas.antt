-- What is saved after a log can be taken up again: its numbers are small enough for the form of saved texts.
use Rattle.enf_run.proofs.Vocabulary.{◌≡◌, ◌∙◌, ◌<◌, ◌≤◌, ◌^◌, ◌++◌, ◌∷◌, ℕ, List, [], All, Option, None, Some, Result, length, map, sym, ap, subst, arith, AllByRecursion, append-nil, All-contains}
use Rattle.enf_run.proofs.Vocabulary.{All-from_recursion, All-nil, All-weaker, IsTrace, AllByRecursion-from_contains, Step, Formula, True, False, Atom, Equal, Less, AtMost, Not, And, Or, Implies}
use Rattle.enf_run.proofs.Vocabulary.{Exists, Forall, Prev, Next, Once, Historically, Since, Eventually, Always, Until, FileView, IoRefusal, NameEntry, Rule, SpellsRecords, LogItem, Input}
use Rattle.enf_run.proofs.Vocabulary.{AreWithinBounds, HaveTime, IsKeepable, IsTimely, IsFrom, IsLastTime, KeptRow, Plan, OnePlans, WorkTogether, typed_of, CanBePending, IsReady, PendIsOne, Instance}
use Rattle.enf_run.proofs.Vocabulary.{ActedStep, out_steps, steps_of, AreLines, LinesFollow, IsSmallNumber, IsSmallTime, IsSnapshotOf, due_line, lines_of, row_line, saved_text, HasSmallNumbers, End}
use Rattle.enf_run.proofs.Vocabulary.{Position, Snapshot, Enforcing, enforcer_plans, KeptCanBeTakenUp, policy_operators, last_time, trace_of, Start, start_behind, clock_after, most_time, time_of}
use Rattle.enf_run.proofs.Vocabulary.{Inserted, System, EnforcerStandsBehind, WritesState, IsOwedSoFar, enforced_from, record_of, records_of, IsReadyState, IsStartOf}
use Rattle.save_codec.specs.declared.lines.Line.{Line}
use Rattle.enf_run.proofs.LogLemmas.{item_time}
use Rattle.enf_run.proofs.SavedStateLemmas.{is_state_of, same_trace}
use Rattle.enf_run.proofs.StartLemmas.{snapshot_under}

abbrev HasSmallTime : KeptRow → Type 0
HasSmallTime r = IsSmallNumber r.time

abbrev HasSmallWindow : Instance → Type 0
HasSmallWindow i = IsSmallNumber i.origin × IsSmallNumber i.low × IsSmallNumber i.high

-- ---- the numbers of a state whose text has the form

due_small : (before : Option Line) (pending : List Instance) → LinesFollow before (map due_line pending ++ End ∷ []) → AllByRecursion HasSmallWindow pending
due_small before [] form = tt
due_small before (i ∷ pending) form = ((form.1.2, form.1.3, form.1.4), due_small (Some (due_line i)) pending form.2)

rows_small : (before : Option Line) (kept : List KeptRow) (pending : List Instance) → LinesFollow before (map row_line kept ++ (map due_line pending ++ End ∷ []))
    → AllByRecursion HasSmallTime kept × AllByRecursion HasSmallWindow pending
rows_small before [] pending form = (tt, due_small before pending form)
rows_small before (r ∷ kept) pending form =
    let behind = rows_small (Some (row_line r)) kept pending form.2 in
    ((form.1.1, behind.0), behind.1)

form_small : (s : Snapshot) → AreLines (lines_of s) → All HasSmallTime s.kept × All HasSmallWindow s.pending
form_small s lines =
    let small = rows_small (Some (Position s.position)) s.kept s.pending lines.0.2.2.2 in
    (All-from_recursion HasSmallTime s.kept small.0, All-from_recursion HasSmallWindow s.pending small.1)

-- ---- the numbers of a state that can be taken up

timely : (f : Formula) (last : ℕ) (P : ℕ → Type 0) (time : ℕ) → IsTimely f last P time → time ≤ last
timely (Prev place interval g) last P time is = omega (arith, is)
timely (Once place interval g) last P time is = is.0
timely (Historically place interval g) last P time is = is.0
timely (Since place interval g h) last P time is = is.0
timely (True place) last P time never = absurd never
timely (False place) last P time never = absurd never
timely (Atom place name terms) last P time never = absurd never
timely (Equal place s t) last P time never = absurd never
timely (Less place s t) last P time never = absurd never
timely (AtMost place s t) last P time never = absurd never
timely (Not place g) last P time never = absurd never
timely (And place g h) last P time never = absurd never
timely (Or place g h) last P time never = absurd never
timely (Implies place g h) last P time never = absurd never
timely (Exists place xs g) last P time never = absurd never
timely (Forall place xs g) last P time never = absurd never
timely (Next place interval g) last P time never = absurd never
timely (Eventually place interval g) last P time never = absurd never
timely (Always place interval g) last P time never = absurd never
timely (Until place interval g h) last P time never = absurd never

bounds_small : (fs : List Formula) (last : Option ℕ) (clock : ℕ) (rows : List KeptRow) → IsFrom last clock → IsSmallNumber clock → AreWithinBounds fs last rows → All HasSmallTime rows
bounds_small fs None clock rows from small within = subst (All HasSmallTime) (sym within) (All-nil HasSmallTime)
bounds_small fs (Some last) clock rows from small within =
    All-weaker (IsKeepable fs last rows) HasSmallTime (λ r k. let up_to = timely k.operator last (HaveTime rows r) r.time k.timely in omega (arith, up_to, from, small)) rows within.1

taken_up_small : (plans : List Plan) (s : Snapshot) → IsSmallNumber s.position
    → All (λ i. i.high ≤ most_time Inserted) s.pending → All (CanBePending plans s.clock s.position) s.pending
    → All HasSmallWindow s.pending
taken_up_small plans s few due can =
    All-from_recursion HasSmallWindow s.pending (AllByRecursion-from_contains HasSmallWindow s.pending (λ i there.
    let b = All-contains (CanBePending plans s.clock s.position) s.pending i can there in
    let high = All-contains (λ (j : Instance). j.high ≤ most_time Inserted) s.pending i due there in
    (omega (arith, b.waits.begun, few), omega (arith, b.waits.ordered, high), omega (arith, high))))

-- ---- after a log

-- records that were read leave a clock that is that of one of them, or that before them
pub clock_in_time : (entries : List NameEntry) (text : List ℕ) (read : List LogItem) (rest : List ℕ)
    (clock : ℕ) → SpellsRecords entries Input text read rest → clock ≤ most_time System
    → clock_after clock (records_of read) ≤ most_time System
clock_in_time entries text [] rest clock spelled early = early
clock_in_time entries text (item ∷ read) rest clock spelled early =
    clock_in_time entries spelled.0 read rest (time_of (record_of item)) spelled.2 (item_time entries _ item spelled.1.2)

last_small : (trace : List Step) (last : Option ℕ) (clock : ℕ) → IsLastTime trace last → last_time trace ≤ clock → IsSmallNumber clock → IsSmallTime last
last_small trace None clock is later small = tt
last_small trace (Some last) clock is later small = omega (arith, is.1, later, small)

module _ (up_again : KeptCanBeTakenUp) (one_plans : OnePlans) (one : PendIsOne) (resumed : Option (List ℕ))
    (entries : List NameEntry) (rules : List Rule) (signature policy state : List ℕ) (start : Start)
    (starts : IsStartOf resumed entries rules signature policy state start)
    (at_most : start.clock ≤ most_time Inserted) (enforcer : Enforcing) (file : List ℕ)
    (ended : Result (Unit {0}) IoRefusal) (before after : FileView)
    (w : WritesState enforcer signature policy file ended before after) where
  abbrev plans : List Plan
  plans = enforcer_plans enforcer

  abbrev operators : List Formula
  operators = policy_operators enforcer.policy

  -- all of them are small where the times of the rows and the windows are
  all_small : (trace : List Step) → IsSnapshotOf plans operators trace enforcer.clock w.kept → IsReady plans trace enforcer.clock → length trace < 2 ^ 63 → enforcer.clock ≤ most_time Inserted
      → All HasSmallTime w.kept.kept → All HasSmallWindow w.kept.pending → HasSmallNumbers w.kept
  all_small trace is ready few late times windows =
      record {
        clock = omega (arith, is.clocked, late);
        last = last_small trace w.kept.last enforcer.clock is.last ready.not_later (omega (arith, late));
        position = omega (arith, is.position, few);
        times = times;
        windows = windows;
      }

  -- at a clock of the times of records
  early_small : (trace : List Step) → WorkTogether (typed_of enforcer.policy) → IsTrace trace
      → IsSnapshotOf plans operators trace enforcer.clock w.kept → IsReady plans trace enforcer.clock
      → length trace < 2 ^ 63
      → enforcer.clock ≤ most_time System → HasSmallNumbers w.kept
  early_small trace together is_trace is ready few early =
      let up = up_again enforcer.policy trace enforcer.clock w.kept together is_trace ready early is in
      all_small trace is ready few (omega (arith, early)) (bounds_small operators w.kept.last w.kept.clock w.kept.kept up.not_later (omega (arith, up.in_time)) up.kept)
      (taken_up_small plans w.kept (omega (arith, is.position, few)) up.due up.pending)

  -- after no record it is what was resumed
  again_small : (out : List ActedStep) → (is : EnforcerStandsBehind (enforced_from entries rules start) [] out
      enforcer) → out ≡ [] → length (start.trace ++ steps_of out) < 2 ^ 63 → HasSmallNumbers w.kept
  again_small out is none few = by resumed starts
    where
      snapshot : IsSnapshotOf plans operators (start.trace ++ steps_of out) enforcer.clock w.kept
      snapshot = w.saves (start.trace ++ steps_of out) is.stands

      at_clock : enforcer.clock ≡ start.clock
      at_clock = is.clock

      at_start : start.trace ++ steps_of out ≡ start.trace
      at_start = ap (λ (o : List ActedStep). start.trace ++ steps_of o) none ∙ append-nil start.trace

      by : (o : Option (List ℕ)) → IsStartOf o entries rules signature policy state start → HasSmallNumbers w.kept
      by None from =
          let zero : start.clock ≡ 0 = ap (λ (s : Start). s.clock) from in
          early_small (start.trace ++ steps_of out) is.together is.stands.is_trace snapshot is.stands.ready few (omega (arith, at_clock, zero))
      by (Some file) resumes =
          let first = resumes.is_state.text.0 in
          let was = snapshot_under one_plans entries rules enforcer.policy is.planned signature policy start state resumes.is_state in
          let now : IsSnapshotOf plans operators start.trace start.clock w.kept = subst (λ (clock : ℕ). IsSnapshotOf plans operators start.trace clock w.kept) at_clock
          (subst (λ (trace : List Step). IsSnapshotOf plans operators trace enforcer.clock w.kept) at_start snapshot) in
          let small = form_small first resumes.form.form in
          all_small (start.trace ++ steps_of out) snapshot is.stands.ready few (omega (arith, at_clock, at_most))
          (All-from_recursion HasSmallTime w.kept.kept (AllByRecursion-from_contains HasSmallTime w.kept.kept
          (λ r there. All-contains HasSmallTime first.kept r small.0 ((was.kept r).1 ((now.kept r).0 there)))))
          (subst (All HasSmallWindow) (one plans start.trace first.pending w.kept.pending was.pending now.pending) small.1)

  small_behind : (text : List ℕ) (read : List LogItem) (rest : List ℕ) (out : List ActedStep)
      → SpellsRecords entries Input text read rest → IsOwedSoFar (enforced_from entries rules start)
      (records_of read) out
      → EnforcerStandsBehind (enforced_from entries rules start) (records_of read) out enforcer → length (start.trace ++ steps_of out) < 2 ^ 63 → HasSmallNumbers w.kept
  small_behind text [] rest out spelled owed is few = again_small out is owed.decided.follows few
  small_behind text (item ∷ read) rest out spelled owed is few =
      let early = clock_in_time entries spelled.0 read rest (time_of (record_of item)) spelled.2 (item_time entries _ item spelled.1.2) in
      early_small (start.trace ++ steps_of out) is.together is.stands.is_trace (w.saves (start.trace ++ steps_of out) is.stands) is.stands.ready few
      (subst (λ (clock : ℕ). clock ≤ most_time System) (sym is.clock) early)

  -- a run can go on from it
  pub ready_behind : (text : List ℕ) (read : List LogItem) (rest : List ℕ) (out : List ActedStep)
      → SpellsRecords entries Input text read rest → IsOwedSoFar (enforced_from entries rules start)
      (records_of read) out
      → EnforcerStandsBehind (enforced_from entries rules start) (records_of read) out enforcer → length (start_behind start (records_of read) (out_steps out)).trace < 2 ^ 63
      → IsReadyState entries rules signature policy (start_behind start (records_of read) (out_steps out)) (saved_text signature policy w.kept)
  ready_behind text read rest out spelled owed is few =
      let same : start.trace ++ steps_of out ≡ start.trace ++ trace_of (out_steps out) = ap (λ (steps : List Step). start.trace ++ steps) (sym (same_trace out)) in
      let ready = subst (λ (trace : List Step). IsReady plans trace enforcer.clock) same is.stands.ready in
      record {
        is_state = is_state_of (enforced_from entries rules start) (records_of read) out enforcer is signature policy before after file ended w;
        form = w.form (small_behind text read rest out spelled owed is (omega (arith, ap length same, few)));
        is_trace = subst IsTrace same is.stands.is_trace;
        ready = subst (λ (clock : ℕ). IsReady plans (start.trace ++ trace_of (out_steps out)) clock) is.clock ready;
      }
