-- Records and traces, one list after another.
use Rattle.enf_run.proofs.Vocabulary.{ℕ, zero, suc, ◌≤◌, Bool, List, [], ◌∷◌, ◌++◌, length, map, refl, sym, ap, subst, ◌∙◌, append_assoc, arith, length-append, AllByRecursion, append-nil, get_or_at}
use Rattle.enf_run.proofs.Vocabulary.{All-append, All-from_recursion, All-head, All-tail, All-weaker, Formula, IsTrace, no_step, HasNoRepeats, NameId, Step, last_time, Good, AreChangedTo, AreInOrder}
use Rattle.enf_run.proofs.Vocabulary.{IsInsertedLawfully, IsLaterThan, Lawful, OutStep, IsUntil, event_of, onto_system, system_steps, trace_of, NeverFall, Record, StepRecord, Tick, clock_after}
use Rattle.enf_run.proofs.Vocabulary.{recorded, time_of, ClockRises, FrontIsGood, GoodIsTrace, LastIsTheNew, SatisfyingIsGood, TraceGrows, recorded_join, records_changed_join, StepKind, Inserted}
use Rattle.enf_run.proofs.Vocabulary.{System}
use Rattle.std.specs.List.{All}

-- ---- records

-- of records that do not fall neither the first ones do nor those after them
pub falls_first : (clock : ℕ) (records more : List Record) → NeverFall clock (records ++ more) → NeverFall clock records
falls_first clock [] more fall = tt
falls_first clock (next ∷ records) more fall = (fall.0, falls_first (time_of next) records more fall.1)

pub falls_behind : (clock : ℕ) (records more : List Record) → NeverFall clock (records ++ more) → NeverFall (clock_after clock records) more
falls_behind clock [] more fall = fall
falls_behind clock (next ∷ records) more fall = falls_behind (time_of next) records more fall.1

-- no step of theirs is earlier
pub none_before : (earlier clock : ℕ) (records : List Record) → earlier ≤ clock → NeverFall clock records
    → AllByRecursion (λ (step : Step). earlier ≤ step.time) (recorded records)
none_before earlier clock [] le fall = tt
none_before earlier clock (StepRecord step ∷ records) le fall =
    let from : earlier ≤ step.time = omega (arith, le, fall.0) in
    (from, none_before earlier step.time records from fall.1)
none_before earlier clock (Tick time ∷ records) le fall =
    let from : earlier ≤ time = omega (arith, le, fall.0) in
    none_before earlier time records from fall.1

-- ---- traces

trace_tail : (step : Step) (steps : List Step) → IsTrace (step ∷ steps) → IsTrace steps
trace_tail step steps t = record {
  distinct = λ i below. t.distinct (suc i) (omega arith);
  ordered = λ i j order below. t.ordered (suc i) (suc j) (omega arith) (omega arith);
}

trace_back : (front steps : List Step) → IsTrace (front ++ steps) → IsTrace steps
trace_back [] steps t = t
trace_back (step ∷ front) steps t = trace_back front steps (trace_tail step (front ++ steps) t)

trace_front : SatisfyingIsGood → FrontIsGood → GoodIsTrace → (trace more : List Step) → IsTrace (trace ++ more) → IsTrace trace
trace_front satisfying front is_trace trace more t =
    is_trace [] trace (last_time trace) (front [] trace more 0 (satisfying [] (trace ++ more) 0 t (λ k d below. absurd (omega arith))))

-- a step after a trace is not earlier than its last one
not_earlier : (trace : List Step) (step : Step) (more : List Step) → IsTrace (trace ++ step ∷ more) → last_time trace ≤ step.time
not_earlier [] step more t = omega arith
not_earlier (first ∷ []) step more t = t.ordered zero (suc zero) (omega arith) (omega arith)
not_earlier (first ∷ next ∷ trace) step more t = not_earlier (next ∷ trace) step more (trace_tail first ((next ∷ trace) ++ step ∷ more) t)

-- nor is one that is emitted after others earlier than the first of them
none_earlier : (step : Step) (between : List Step) (more : List OutStep) → IsTrace (step ∷ (between ++ trace_of more))
    → AllByRecursion (λ (o : OutStep). step.time ≤ o.step.time) more
none_earlier step between [] t = tt
none_earlier step between (o ∷ more) t =
    let ordered = t.ordered zero (suc (length between)) (omega arith) (omega (arith, length-append between (o.step ∷ trace_of more))) in
    let there = get_or_at between o.step (trace_of more) no_step (length between) refl in (
      omega (arith, ordered, ap (λ (s : Step). s.time) there),
      none_earlier step (between ++ o.step ∷ []) more
          (subst (λ (steps : List Step). IsTrace (step ∷ steps)) (sym (append_assoc between (o.step ∷ []) (trace_of more))) t),
    )

-- ---- lawful change

-- a step of the system is not before a time
abbrev IsFrom : ℕ → StepKind → ℕ → Type 0
IsFrom clock System time = clock ≤ time
IsFrom clock Inserted time = Unit {0}

module _ (causable suppressible : NameId → Bool) where
  system_from : (clock : ℕ) (steps : List Step) (out : List OutStep) → AllByRecursion (λ (s : Step). clock ≤ s.time) steps
      → AreChangedTo causable suppressible steps (system_steps out) → AllByRecursion (λ (o : OutStep). IsFrom clock o.kind o.step.time) out
  system_from clock steps [] late changed = tt
  system_from clock steps (o ∷ out) late changed = by o.kind (λ ss l c. system_from clock ss out l c) steps late changed
    where
      by : (kind : StepKind)
          → ((ss : List Step) → AllByRecursion (λ (s : Step). clock ≤ s.time) ss → AreChangedTo causable suppressible ss (system_steps out)
          → AllByRecursion (λ (p : OutStep). IsFrom clock p.kind p.step.time) out)
          → (ss : List Step) → AllByRecursion (λ (s : Step). clock ≤ s.time) ss
          → AreChangedTo causable suppressible ss (onto_system kind o (system_steps out))
          → IsFrom clock kind o.step.time × AllByRecursion (λ (p : OutStep). IsFrom clock p.kind p.step.time) out
      by System others [] l c = absurd c
      by System others (s ∷ ss) l c = (omega (arith, l.0, c.0.same_time), others ss l.1 c.1)
      by Inserted others ss l c = (tt, others ss l c)

  -- the steps of records after a trace are one with it, where what they were changed to is, with the inserted steps
  recorded_trace : TraceGrows → LastIsTheNew → (out : List OutStep) (trace built steps : List Step) → last_time built ≤ last_time trace
      → IsTrace built → IsTrace (trace ++ trace_of out) → AllByRecursion (λ (s : Step). HasNoRepeats s.events) steps
      → AreChangedTo causable suppressible steps (system_steps out) → IsTrace (built ++ steps)
  recorded_trace grows new [] trace built [] le b t d c = subst IsTrace (sym (append-nil built)) b
  recorded_trace grows new [] trace built (s ∷ steps) le b t d c = absurd c
  recorded_trace grows new (o ∷ out) trace built steps le b t d c =
      let next : IsTrace ((trace ++ o.step ∷ []) ++ trace_of out) = subst IsTrace (sym (append_assoc trace (o.step ∷ []) (trace_of out))) t in
      by (not_earlier trace o.step (trace_of out) t) o.kind
      (λ bs ss less bt dd cc. recorded_trace grows new out (trace ++ o.step ∷ []) bs ss less bt next dd cc) steps d c
    where
      by : last_time trace ≤ o.step.time → (kind : StepKind)
          → ((bs ss : List Step) → last_time bs ≤ last_time (trace ++ o.step ∷ []) → IsTrace bs
          → AllByRecursion (λ (s : Step). HasNoRepeats s.events) ss → AreChangedTo causable suppressible ss (system_steps out) → IsTrace (bs ++ ss))
          → (ss : List Step) → AllByRecursion (λ (s : Step). HasNoRepeats s.events) ss
          → AreChangedTo causable suppressible ss (onto_system kind o (system_steps out)) → IsTrace (built ++ ss)
      by later System others [] dd cc = absurd cc
      by later System others (s ∷ ss) dd cc =
          subst IsTrace (append_assoc built (s ∷ []) ss)
          (others (built ++ s ∷ []) ss (omega (arith, new trace o.step, new built s, cc.0.same_time))
          (grows built s b (omega (arith, le, later, cc.0.same_time)) dd.0) dd.1 cc.1)
      by later Inserted others ss dd cc = others built ss (omega (arith, le, later, new trace o.step)) b dd cc

-- of two steps, the first until a time and the second from it on
two_in_order : (kind other : StepKind) (time later clock : ℕ) → IsUntil clock kind time → IsFrom clock other later → time ≤ later
    → IsLaterThan kind other time later
two_in_order System other time later clock until from le = omega arith
two_in_order Inserted System time later clock until from le = omega arith
two_in_order Inserted Inserted time later clock until from le = omega arith

one_in_order : (clock : ℕ) (o : OutStep) (more : List OutStep) → IsUntil clock o.kind o.step.time
    → AllByRecursion (λ (p : OutStep). IsFrom clock p.kind p.step.time) more → AllByRecursion (λ (p : OutStep). o.step.time ≤ p.step.time) more
    → AllByRecursion (λ (p : OutStep). IsLaterThan o.kind p.kind o.step.time p.step.time) more
one_in_order clock o [] until from le = tt
one_in_order clock o (p ∷ more) until from le =
    (two_in_order o.kind p.kind o.step.time p.step.time clock until from.0 le.0, one_in_order clock o more until from.1 le.1)

order_join : (clock : ℕ) (out more : List OutStep) → All (λ (o : OutStep). IsUntil clock o.kind o.step.time) out
    → AllByRecursion (λ (p : OutStep). IsFrom clock p.kind p.step.time) more → IsTrace (trace_of out ++ trace_of more)
    → AreInOrder out → AreInOrder more → AreInOrder (out ++ more)
order_join clock [] more until from t a b = b
order_join clock (o ∷ out) more until from t a b = (
  All-append (λ p. IsLaterThan o.kind p.kind o.step.time p.step.time) out more a.0
      (All-from_recursion (λ (p : OutStep). IsLaterThan o.kind p.kind o.step.time p.step.time) more
      (one_in_order clock o more (All-head (λ (q : OutStep). IsUntil clock q.kind q.step.time) o out until) from (none_earlier o.step (trace_of out) more t))),
  order_join clock out more (All-tail (λ (q : OutStep). IsUntil clock q.kind q.step.time) o out until) from
      (trace_tail o.step (trace_of out ++ trace_of more) t) a.1 b,
)

-- what is lawful for records up to a clock, and for more of them from it on, is lawful for all, where it is a trace
pub lawful_join : (causable suppressible : NameId → Bool) (trace : List Step) (clock : ℕ) (records more : List Record) (out others : List OutStep)
    → All (λ (o : OutStep). IsUntil clock o.kind o.step.time) out → NeverFall clock more → IsTrace (trace ++ (trace_of out ++ trace_of others))
    → Lawful causable suppressible records out → Lawful causable suppressible more others
    → Lawful causable suppressible (records ++ more) (out ++ others)
lawful_join causable suppressible trace clock records more out others until fall t first last = record {
  changed = records_changed_join causable suppressible records more out others first.changed last.changed;
  inserted = All-append (λ (o : OutStep). IsInsertedLawfully causable suppressible o o.kind) out others first.inserted last.inserted;
  once = All-append (λ (o : OutStep). HasNoRepeats (map event_of o.changes)) out others first.once last.once;
  in_order = order_join clock out others until
      (system_from causable suppressible clock (recorded more) others (none_before clock clock more (omega arith) fall) last.changed)
      (trace_back trace (trace_of out ++ trace_of others) t) first.in_order last.in_order;
}

-- and the steps of the records are a trace too
pub recorded_is_trace : SatisfyingIsGood → FrontIsGood → GoodIsTrace → TraceGrows → LastIsTheNew → (causable suppressible : NameId → Bool)
    (trace : List Step) (records : List Record) (out : List OutStep) → AllByRecursion (λ (s : Step). HasNoRepeats s.events) (recorded records)
    → IsTrace (trace ++ trace_of out) → Lawful causable suppressible records out → IsTrace (trace ++ recorded records)
recorded_is_trace satisfying front is_trace grows new causable suppressible trace records out distinct t lawful =
    recorded_trace causable suppressible grows new out trace trace (recorded records) (omega arith)
    (trace_front satisfying front is_trace trace (trace_of out) t) t distinct lawful.changed

-- ---- what can be continued well

-- the steps of the first records can be so, by those of the others, where all of them can
pub good_first : ClockRises → (policy : List Formula) (trace : List Step) (clock : ℕ) (records more : List Record) → NeverFall clock more
    → Good policy (trace ++ recorded (records ++ more)) (clock_after clock more) → Good policy (trace ++ recorded records) clock
good_first rises policy trace clock records more fall (longer, c, satisfied) = (
  longer,
  record {
    more = recorded more ++ c.more;
    begins = c.begins ∙ ap (λ (steps : List Step). (trace ++ steps) ++ c.more) (recorded_join records more)
        ∙ ap (λ (steps : List Step). steps ++ c.more) (sym (append_assoc trace (recorded records) (recorded more)))
        ∙ append_assoc (trace ++ recorded records) (recorded more) c.more;
    later = All-append (λ (s : Step). clock ≤ s.time) (recorded more) c.more
        (All-from_recursion (λ (s : Step). clock ≤ s.time) (recorded more) (none_before clock clock more (omega arith) fall))
        (All-weaker (λ (s : Step). clock_after clock more ≤ s.time) (λ s. clock ≤ s.time) (λ s le. omega (arith, le, rises clock more fall)) c.more c.later);
    is_trace = c.is_trace;
  },
  satisfied,
)
