-- The tokens of a record, one after another: the state after a front of them, and the fronts that can begin a record.
use Rattle.log_stream.proofs.Vocabulary.{◌≡◌, ℕ, ◌+◌, ◌<◌, ◌≤◌, ◌==◌, nat_lt, pos, Bool, true, false, List, [], ◌∷◌, ◌++◌, length, Option, None, Some, if◌then◌else◌, refl, sym, ap, subst, ◌∙◌, arith}
use Rattle.log_stream.proofs.Vocabulary.{append_assoc, length-append, flat_map, option_and_then, append-nil, flat_map-append, eqb-true, nat_tests, same_Some, Num, StepKind, System, Inserted, LogMode}
use Rattle.log_stream.proofs.Vocabulary.{Input, TraceLog, RecordState, RecordStart, RecordMarked, Ticking, Ticked, Events, Named, Opened, Valued, Comma, Done, argument_at, event_at, inserted_state}
use Rattle.log_stream.proofs.Vocabulary.{record_next, record_run, LogToken, LogMark, LogTime, LogName, LogArgument, WrittenArgument, WrittenEvent, WrittenRecord, Line, TickLine, mark_of}
use Rattle.log_stream.proofs.Vocabulary.{argument_token, row_tokens, event_tokens, record_tokens, ModeReads, IsRecordForm, IsRecordSentence, CanBeginRecord, MOST_EVENTS}

pub run-append : (mode : LogMode) (state : RecordState) (front rest : List LogToken) → record_run mode state (front ++ rest)
    ≡ option_and_then (λ after. record_run mode after rest) (record_run mode state front)
run-append mode state [] rest = refl
run-append mode state (token ∷ front) rest = by (record_next mode state token) (λ after. run-append mode after front rest)
  where
    by : (o : Option RecordState) → ((after : RecordState) → record_run mode after (front ++ rest) ≡ option_and_then (λ s. record_run mode s rest) (record_run mode after front)) →
        option_and_then (λ after. record_run mode after (front ++ rest)) o ≡ option_and_then (λ after. record_run mode after rest) (option_and_then (λ after. record_run mode after front) o)
    by None h = refl
    by (Some after) h = h after

-- from one state to another, and on
pub run_onto : (mode : LogMode) (state middle : RecordState) (front rest : List LogToken) → record_run mode state front ≡ Some middle → record_run mode state (front ++ rest)
    ≡ record_run mode middle rest
run_onto mode state middle front rest e = run-append mode state front rest ∙ ap (option_and_then (λ after. record_run mode after rest)) e

-- the tokens of a state
abbrev pub head_tokens : StepKind → ℕ → List WrittenEvent → List LogToken
head_tokens kind time events = LogMark (mark_of kind) ∷ LogTime time ∷ flat_map event_tokens events

abbrev pub so_far : RecordState → List LogToken
so_far RecordStart = []
so_far (RecordMarked kind) = LogMark (mark_of kind) ∷ []
so_far Ticking = LogMark 62 ∷ []
so_far (Ticked time) = LogMark 62 ∷ LogTime time ∷ []
so_far (Events kind time events) = head_tokens kind time events
so_far (Named kind time events place name) = head_tokens kind time events ++ LogName place name ∷ []
so_far (Opened kind time events place name) = head_tokens kind time events ++ LogName place name ∷ LogMark 40 ∷ []
so_far (Valued kind time events place name args) = head_tokens kind time events ++ LogName place name ∷ LogMark 40 ∷ row_tokens args
so_far (Comma kind time events place name args) = head_tokens kind time events ++ (LogName place name ∷ LogMark 40 ∷ row_tokens args ++ LogMark 44 ∷ [])
so_far (Done written) = record_tokens written

-- what the grammar leaves of a state
abbrev pub IsFit : LogMode → RecordState → Type 0
IsFit mode RecordStart = Unit {0}
IsFit mode (RecordMarked kind) = ModeReads mode kind
IsFit mode Ticking = Unit {0}
IsFit mode (Ticked time) = Unit {0}
IsFit mode (Events kind time events) = ModeReads mode kind × (length events ≤ MOST_EVENTS)
IsFit mode (Named kind time events place name) = ModeReads mode kind × (length events < MOST_EVENTS)
IsFit mode (Opened kind time events place name) = ModeReads mode kind × (length events < MOST_EVENTS)
IsFit mode (Valued kind time events place name args) = ModeReads mode kind × (length events < MOST_EVENTS) × (0 < length args)
IsFit mode (Comma kind time events place name args) = ModeReads mode kind × (length events < MOST_EVENTS) × (0 < length args)
IsFit mode (Done written) = IsRecordForm mode written

-- a choice that leaves something
pub chosen_some : {X : Type 0} (b : Bool) (x : Option X) (y : X) → (if b then x else None) ≡ Some y → (b ≡ true) × (x ≡ Some y)
chosen_some true x y e = (refl, e)
chosen_some false x y e = cc

-- an argument after others
pub row_push : (args : List WrittenArgument) (arg : WrittenArgument) → 0 < length args → row_tokens (args ++ arg ∷ []) ≡ row_tokens args ++ LogMark 44 ∷ argument_token arg ∷ []
row_push [] arg some = absurd (omega arith)
row_push (first ∷ args) arg some =
    ap (λ l. argument_token first ∷ l) (flat_map-append (λ (a : WrittenArgument). LogMark 44 ∷ argument_token a ∷ []) args (arg ∷ []))

-- an event after others
pub head_push : (kind : StepKind) (time : ℕ) (events : List WrittenEvent) (event : WrittenEvent) → head_tokens kind time (events ++ event ∷ []) ≡ head_tokens kind time events ++ event_tokens event
head_push kind time events event =
    ap (λ l. LogMark (mark_of kind) ∷ LogTime time ∷ l) (flat_map-append event_tokens events (event ∷ []) ∙ ap (λ l. flat_map event_tokens events ++ l) (append-nil (event_tokens event)))

-- a step onward: its tokens and what fits
abbrev pub Onward : LogMode → RecordState → LogToken → RecordState → Type 0
Onward mode state token after = (so_far after ≡ so_far state ++ token ∷ []) × IsFit mode after

onward_to : (mode : LogMode) (state : RecordState) (token : LogToken) (x after : RecordState) → Some x ≡ Some after → Onward mode state token x → Onward mode state token after
onward_to mode state token x after e h = subst (Onward mode state token) (same_Some x after e) h

pushed_length : (events : List WrittenEvent) (event : WrittenEvent) → length events < MOST_EVENTS → length (events ++ event ∷ []) ≤ MOST_EVENTS
pushed_length events event h = omega (arith, length-append events (event ∷ []))

pub step_onward : (mode : LogMode) (state : RecordState) (token : LogToken) (after : RecordState) → IsFit mode state → record_next mode state token ≡ Some after → Onward mode state token after
step_onward mode RecordStart (LogMark byte) after fit e = by (byte == 64) (byte == 62) (byte == 43) refl refl refl e
  where
    mode_by : (m : LogMode) → byte ≡ 43 → inserted_state m ≡ Some after → Onward m RecordStart (LogMark byte) after
    mode_by Input is e = cc
    mode_by TraceLog is e = onward_to TraceLog RecordStart (LogMark byte) (RecordMarked Inserted) after e (ap (λ b. LogMark b ∷ []) (sym is), tt)

    read_system : (m : LogMode) → ModeReads m System
    read_system Input = tt
    read_system TraceLog = tt

    by : (a b c : Bool) → (byte == 64) ≡ a → (byte == 62) ≡ b → (byte == 43) ≡ c → (if a then Some (RecordMarked System) else
        (if b then Some Ticking else (if c then inserted_state mode else None))) ≡ Some after → Onward mode RecordStart (LogMark byte) after
    by true b c p q r e = onward_to mode RecordStart (LogMark byte) (RecordMarked System) after e (ap (λ b. LogMark b ∷ []) (sym (eqb-true byte 64 p)), read_system mode)
    by false true c p q r e = onward_to mode RecordStart (LogMark byte) Ticking after e (ap (λ b. LogMark b ∷ []) (sym (eqb-true byte 62 q)), tt)
    by false false true p q r e = mode_by mode (eqb-true byte 43 r) e
    by false false false p q r e = cc
step_onward mode (RecordMarked kind) (LogTime time) after fit e = onward_to mode (RecordMarked kind) (LogTime time) (Events kind time []) after e (refl, (fit, omega arith))
step_onward mode Ticking (LogTime time) after fit e = onward_to mode Ticking (LogTime time) (Ticked time) after e (refl, tt)
step_onward mode (Ticked time) (LogMark byte) after fit e =
    let h = chosen_some (byte == 59) (Some (Done (TickLine time))) after e in
    onward_to mode (Ticked time) (LogMark byte) (Done (TickLine time)) after h.1 (ap (λ b. LogMark 62 ∷ LogTime time ∷ LogMark b ∷ []) (sym (eqb-true byte 59 h.0)), tt)
step_onward mode (Events kind time events) (LogName place name) after fit e =
    let h = chosen_some (nat_lt (length events) MOST_EVENTS) (Some (Named kind time events place name)) after e in
    let t = h.0 in
    let lt : length events < MOST_EVENTS = grind (arith, nat_tests) in
    onward_to mode (Events kind time events) (LogName place name) (Named kind time events place name) after h.1 (refl, (fit.0, lt))
step_onward mode (Events kind time events) (LogMark byte) after fit e =
    let h = chosen_some (byte == 59) (Some (Done (Line kind time events))) after e in
    onward_to mode (Events kind time events) (LogMark byte) (Done (Line kind time events)) after h.1 (ap (λ b. head_tokens kind time events ++ LogMark b ∷ []) (sym (eqb-true byte 59 h.0)), fit)
step_onward mode (Named kind time events place name) (LogMark byte) after fit e =
    let h = chosen_some (byte == 40) (Some (Opened kind time events place name)) after e in
    onward_to mode (Named kind time events place name) (LogMark byte) (Opened kind time events place name) after h.1 (
      ap (λ b. head_tokens kind time events ++ LogName place name ∷ LogMark b ∷ []) (sym (eqb-true byte 40 h.0)) ∙ sym
          (append_assoc (head_tokens kind time events) (LogName place name ∷ []) (LogMark byte ∷ [])),
      fit,
    )
step_onward mode (Opened kind time events place name) (LogMark byte) after fit e =
    let h = chosen_some (byte == 41) (Some (Events kind time (events ++ event_at place name [] ∷ []))) after e in
    onward_to mode (Opened kind time events place name) (LogMark byte) (Events kind time (events ++ event_at place name [] ∷ [])) after h.1 (
      head_push kind time events (event_at place name []) ∙ ap (λ b. head_tokens kind time events ++ LogName place name ∷ LogMark 40 ∷ LogMark b ∷ []) (sym (eqb-true byte 41 h.0))
          ∙ sym (append_assoc (head_tokens kind time events) (LogName place name ∷ LogMark 40 ∷ []) (LogMark byte ∷ [])),
      (fit.0, pushed_length events (event_at place name []) fit.1),
    )
step_onward mode (Opened kind time events place name) (LogArgument at value) after fit e =
    onward_to mode (Opened kind time events place name) (LogArgument at value) (Valued kind time events place name (argument_at at value ∷ [])) after e
    (sym (append_assoc (head_tokens kind time events) (LogName place name ∷ LogMark 40 ∷ []) (LogArgument at value ∷ [])), (fit.0, fit.1, omega arith))
step_onward mode (Valued kind time events place name args) (LogMark byte) after fit e = by (byte == 44) (byte == 41) refl refl e
  where
    by : (a b : Bool) → (byte == 44) ≡ a → (byte == 41) ≡ b → (if a then Some (Comma kind time events place name args) else
        (if b then Some (Events kind time (events ++ event_at place name args ∷ [])) else None)) ≡ Some after
        → Onward mode (Valued kind time events place name args) (LogMark byte) after
    by true b p q e =
        onward_to mode (Valued kind time events place name args) (LogMark byte) (Comma kind time events place name args) after e (
          ap (λ b. head_tokens kind time events ++ (LogName place name ∷ LogMark 40 ∷ row_tokens args ++ LogMark b ∷ [])) (sym (eqb-true byte 44 p)) ∙ sym
              (append_assoc (head_tokens kind time events) (LogName place name ∷ LogMark 40 ∷ row_tokens args) (LogMark byte ∷ [])),
          fit,
        )
    by false true p q e =
        onward_to mode (Valued kind time events place name args) (LogMark byte) (Events kind time (events ++ event_at place name args ∷ [])) after e (
          head_push kind time events (event_at place name args) ∙ ap (λ b. head_tokens kind time events ++ (LogName place name ∷ LogMark 40 ∷ row_tokens args ++ LogMark b ∷ []))
              (sym (eqb-true byte 41 q)) ∙ sym (append_assoc (head_tokens kind time events) (LogName place name ∷ LogMark 40 ∷ row_tokens args) (LogMark byte ∷ [])),
          (fit.0, pushed_length events (event_at place name args) fit.1),
        )
    by false false p q e = cc
step_onward mode (Comma kind time events place name args) (LogArgument at value) after fit e =
    onward_to mode (Comma kind time events place name args) (LogArgument at value) (Valued kind time events place name (args ++ argument_at at value ∷ [])) after e (
      ap (λ l. head_tokens kind time events ++ (LogName place name ∷ LogMark 40 ∷ l)) (row_push args (argument_at at value) fit.2 ∙ sym
          (append_assoc (row_tokens args) (LogMark 44 ∷ []) (LogArgument at value ∷ [])))
          ∙ sym (append_assoc (head_tokens kind time events) (LogName place name ∷ LogMark 40 ∷ row_tokens args ++ LogMark 44 ∷ []) (LogArgument at value ∷ [])),
      (fit.0, fit.1, omega (arith, length-append args (argument_at at value ∷ []))),
    )
step_onward mode state token after fit e = absurd cc

pub run_onward : (mode : LogMode) (state : RecordState) (tokens : List LogToken) (after : RecordState) → IsFit mode state → record_run mode state tokens ≡ Some after
    → (so_far after ≡ so_far state ++ tokens) × IsFit mode after
run_onward mode state [] after fit e = (subst (λ s. so_far s ≡ so_far state ++ []) (same_Some state after e) (sym (append-nil (so_far state))), subst (IsFit mode) (same_Some state after e) fit)
run_onward mode state (token ∷ tokens) after fit e = by (record_next mode state token) refl e (λ middle fits is. run_onward mode middle tokens after fits is)
  where
    by : (o : Option RecordState) → record_next mode state token ≡ o → option_and_then (λ s. record_run mode s tokens) o ≡ Some after
        → ((middle : RecordState) → IsFit mode middle → record_run mode middle tokens ≡ Some after → (so_far after ≡ so_far middle ++ tokens) × IsFit mode after)
        → (so_far after ≡ so_far state ++ token ∷ tokens) × IsFit mode after
    by None p e later = cc
    by (Some middle) p e later =
        let h = step_onward mode state token middle fit p in
        let r = later middle h.1 e in
        (r.0 ∙ ap (λ l. l ++ tokens) h.0 ∙ append_assoc (so_far state) (token ∷ []) tokens, r.1)

-- each state can be completed
pub completed : (mode : LogMode) (state : RecordState) → IsFit mode state → CanBeginRecord mode (so_far state)
completed mode RecordStart fit = (TickLine 0, record_tokens (TickLine 0), tt, refl)
completed mode (RecordMarked kind) fit = (Line kind 0 [], LogTime 0 ∷ LogMark 59 ∷ [], (fit, omega arith), refl)
completed mode Ticking fit = (TickLine 0, LogTime 0 ∷ LogMark 59 ∷ [], tt, refl)
completed mode (Ticked time) fit = (TickLine time, LogMark 59 ∷ [], tt, refl)
completed mode (Events kind time events) fit = (Line kind time events, LogMark 59 ∷ [], fit, refl)
completed mode (Named kind time events place name) fit =
    let event = event_at place name [] in (
      Line kind time (events ++ event ∷ []),
      LogMark 40 ∷ LogMark 41 ∷ LogMark 59 ∷ [],
      (fit.0, pushed_length events event fit.1),
      ap (λ l. l ++ LogMark 59 ∷ []) (head_push kind time events event) ∙ simp append_assoc,
    )
completed mode (Opened kind time events place name) fit =
    let event = event_at place name [] in (
      Line kind time (events ++ event ∷ []),
      LogMark 41 ∷ LogMark 59 ∷ [],
      (fit.0, pushed_length events event fit.1),
      ap (λ l. l ++ LogMark 59 ∷ []) (head_push kind time events event) ∙ simp append_assoc,
    )
completed mode (Valued kind time events place name args) fit =
    let event = event_at place name args in (
      Line kind time (events ++ event ∷ []),
      LogMark 41 ∷ LogMark 59 ∷ [],
      (fit.0, pushed_length events event fit.1),
      ap (λ l. l ++ LogMark 59 ∷ []) (head_push kind time events event) ∙ simp append_assoc,
    )
completed mode (Comma kind time events place name args) fit =
    let more = argument_at 0 (Num (pos 0)) in
    let event = event_at place name (args ++ more ∷ []) in (
      Line kind time (events ++ event ∷ []),
      argument_token more ∷ LogMark 41 ∷ LogMark 59 ∷ [],
      (fit.0, pushed_length events event fit.1),
      ap (λ l. l ++ LogMark 59 ∷ []) (head_push kind time events event) ∙ ap (λ l. (head_tokens kind time events ++ (LogName place name ∷ LogMark 40 ∷ l ++ LogMark 41 ∷ [])) ++
          LogMark 59 ∷ []) (row_push args more fit.2)
          ∙ append_assoc (head_tokens kind time events) (LogName place name ∷ LogMark 40 ∷ (row_tokens args ++ LogMark 44 ∷ argument_token more ∷ []) ++ LogMark 41 ∷ []) (LogMark 59 ∷ [])
          ∙ ap (λ l. head_tokens kind time events ++ (LogName place name ∷ LogMark 40 ∷ l))
          (append_assoc (row_tokens args ++ LogMark 44 ∷ argument_token more ∷ []) (LogMark 41 ∷ []) (LogMark 59 ∷ []) ∙ append_assoc (row_tokens args)
          (LogMark 44 ∷ argument_token more ∷ []) (LogMark 41 ∷ LogMark 59 ∷ []) ∙ sym
          (append_assoc (row_tokens args) (LogMark 44 ∷ []) (argument_token more ∷ LogMark 41 ∷ LogMark 59 ∷ [])))
          ∙ sym (append_assoc (head_tokens kind time events) (LogName place name ∷ LogMark 40 ∷ row_tokens args ++ LogMark 44 ∷ []) (argument_token more ∷ LogMark 41 ∷ LogMark 59 ∷ [])),
    )
completed mode (Done written) fit = (written, [], fit, sym (append-nil (record_tokens written)))

-- the tokens of a row after `(`, and of what is after it
pub run_values : (mode : LogMode) (kind : StepKind) (time : ℕ) (events : List WrittenEvent) (place : ℕ) (name : List ℕ) (before args : List WrittenArgument) →
    record_run mode (Valued kind time events place name before) (flat_map (λ record_next. LogMark 44 ∷ argument_token record_next ∷ []) args)
    ≡ Some (Valued kind time events place name (before ++ args))
run_values mode kind time events place name before [] = ap (λ l. Some (Valued kind time events place name l)) (sym (append-nil before))
run_values mode kind time events place name before (arg ∷ args) =
    run_values mode kind time events place name (before ++ arg ∷ []) args ∙ ap (λ l. Some (Valued kind time events place name l)) (append_assoc before (arg ∷ []) args)

-- an event's tokens lead from before it to after it
pub run_row : (mode : LogMode) (kind : StepKind) (time : ℕ) (events : List WrittenEvent) (place : ℕ) (name : List ℕ) (args : List WrittenArgument) →
    record_run mode (Opened kind time events place name) (row_tokens args ++ LogMark 41 ∷ []) ≡ Some (Events kind time (events ++ event_at place name args ∷ []))
run_row mode kind time events place name [] = refl
run_row mode kind time events place name (arg ∷ args) =
    run_onto mode (Valued kind time events place name (arg ∷ [])) (Valued kind time events place name (arg ∷ args))
    (flat_map (λ record_next. LogMark 44 ∷ argument_token record_next ∷ []) args) (LogMark 41 ∷ []) (run_values mode kind time events place name (arg ∷ []) args)

pub run_event : (mode : LogMode) (kind : StepKind) (time : ℕ) (events : List WrittenEvent) (event : WrittenEvent) → length events < MOST_EVENTS →
    record_run mode (Events kind time events) (event_tokens event) ≡ Some (Events kind time (events ++ event ∷ []))
run_event mode kind time events event few =
    let t : nat_lt (length events) MOST_EVENTS ≡ true = grind (arith, nat_tests) in
    ap (λ b. option_and_then (λ after. record_run mode after (LogMark 40 ∷ row_tokens event.args ++ LogMark 41 ∷ [])) (if b then Some (Named kind time events event.place event.name) else None)) t
    ∙ run_row mode kind time events event.place event.name event.args

pub run_events : (mode : LogMode) (kind : StepKind) (time : ℕ) (before events : List WrittenEvent) → length before + length events ≤ MOST_EVENTS →
    record_run mode (Events kind time before) (flat_map event_tokens events) ≡ Some (Events kind time (before ++ events))
run_events mode kind time before [] few = ap (λ l. Some (Events kind time l)) (sym (append-nil before))
run_events mode kind time before (event ∷ events) few =
    run_onto mode (Events kind time before) (Events kind time (before ++ event ∷ [])) (event_tokens event) (flat_map event_tokens events) (run_event mode kind time before event (omega arith))
    ∙ run_events mode kind time (before ++ event ∷ []) events (omega (arith, length-append before (event ∷ [])))
    ∙ ap (λ l. Some (Events kind time l)) (append_assoc before (event ∷ []) events)

-- the tokens of a record lead to its end
pub run_tokens : (mode : LogMode) (written : WrittenRecord) → IsRecordForm mode written → record_run mode RecordStart (record_tokens written) ≡ Some (Done written)
run_tokens mode (TickLine time) form = refl
run_tokens mode (Line kind time events) form =
    begun mode kind form.0
    ∙ run_onto mode (Events kind time []) (Events kind time events) (flat_map event_tokens events) (LogMark 59 ∷ []) (run_events mode kind time [] events (omega (arith, form.1)))
  where
    begun : (m : LogMode) (k : StepKind) → ModeReads m k → record_run m RecordStart (LogMark (mark_of k) ∷ LogTime time ∷ flat_map event_tokens events ++ LogMark 59 ∷ [])
        ≡ record_run m (Events k time []) (flat_map event_tokens events ++ LogMark 59 ∷ [])
    begun m System read = refl
    begun TraceLog Inserted read = refl
    begun Input Inserted read = absurd read

-- what is after some tokens, where more lead on
pub run_front : (mode : LogMode) (state : RecordState) (front rest : List LogToken) (end : RecordState) → record_run mode state (front ++ rest) ≡ Some end → (middle : RecordState)
    × (record_run mode state front ≡ Some middle) × (record_run mode middle rest ≡ Some end)
run_front mode state front rest end e = by (record_run mode state front) refl (sym (run-append mode state front rest) ∙ e)
  where
    by : (o : Option RecordState) → record_run mode state front ≡ o → option_and_then (λ after. record_run mode after rest) o ≡ Some end → (middle : RecordState)
        × (record_run mode state front ≡ Some middle) × (record_run mode middle rest ≡ Some end)
    by None p e = cc
    by (Some middle) p e = (middle, p, e)

-- fronts that can begin a record, and no others, lead to a state
pub begins_runs : (mode : LogMode) (front : List LogToken) → CanBeginRecord mode front → (state : RecordState) × (record_run mode RecordStart front ≡ Some state)
begins_runs mode front (written, rest, form, is) =
    let r = run_front mode RecordStart front rest (Done written) (ap (record_run mode RecordStart) (sym is) ∙ run_tokens mode written form) in
    (r.0, r.1)

pub runs_begin : (mode : LogMode) (front : List LogToken) (state : RecordState) → record_run mode RecordStart front ≡ Some state → CanBeginRecord mode front
runs_begin mode front state e =
    let r = run_onward mode RecordStart front state tt e in
    subst (CanBeginRecord mode) r.0 (completed mode state r.1)

-- a token that does not continue the state does not continue its front
pub not_begun : (mode : LogMode) (front : List LogToken) (state : RecordState) (token : LogToken) → record_run mode RecordStart front ≡ Some state → record_next mode state token
    ≡ None → CanBeginRecord mode (front ++ token ∷ []) → ⊥
not_begun mode front state token e none begins =
    let r = begins_runs mode (front ++ token ∷ []) begins in
    let onto : record_run mode RecordStart (front ++ token ∷ []) ≡ record_run mode state (token ∷ []) = run_onto mode RecordStart state front (token ∷ []) e in
    none_some (sym (ap (option_and_then (λ after. record_run mode after [])) none) ∙ sym onto ∙ r.1)
  where
    none_some : {s : RecordState} → None ≡ Some s → ⊥
    none_some e = cc

-- tokens that end a record
pub sentence_done : (mode : LogMode) (tokens : List LogToken) (state : RecordState) → IsRecordSentence mode tokens → record_run mode RecordStart tokens ≡ Some state
    → (written : WrittenRecord) × (state ≡ Done written)
sentence_done mode tokens state (written, form, is) e = (written, same_Some state (Done written) (sym e ∙ ap (record_run mode RecordStart) (sym is) ∙ run_tokens mode written form))
