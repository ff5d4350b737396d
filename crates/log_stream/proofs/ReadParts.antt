-- What is read of a record, part by part, and how the parts are put together.
use Rattle.log_stream.proofs.Vocabulary.{◌≡◌, ℕ, ◌==◌, Bool, true, false, List, [], ◌∷◌, ◌++◌, length, Option, None, Some, if◌then◌else◌, refl, subst, ◌∙◌, slice_get, option_or, eqb-true, Value}
use Rattle.log_stream.proofs.Vocabulary.{has_sort, Sort, StepKind, System, LogMode, Input, TraceLog, LogRefusal, BadRecord, UnknownName, Arity, SortClash, TooLong, TimeTooLarge, Truncated, NoMemory}
use Rattle.log_stream.proofs.Vocabulary.{argument_clash, LogToken, LogMark, LogTime, LogName, LogArgument, IsLogTokenAt, LogTokensLead, WrittenArgument, WrittenEvent, Line, TickLine, IsBadRecord}
use Rattle.log_stream.proofs.Vocabulary.{RecordState, RecordStart, RecordMarked, Ticking, Ticked, Events, Named, Opened, Valued, Comma, Done, IsBadFrom, IsStuckAt, FailsReading, argument_at, clash_at}
use Rattle.log_stream.proofs.Vocabulary.{event_at, inserted_state, record_next, record_run}
use Rattle.log_stream.proofs.StateFronts.{not_begun, run_onto, runs_begin, sentence_done}

pub leads-append : (bytes : List ℕ) (a b c : ℕ) (front rest : List LogToken) → LogTokensLead bytes a front b → LogTokensLead bytes b rest c → LogTokensLead bytes a (front ++ rest) c
leads-append bytes a b c [] rest l r = subst (λ n. LogTokensLead bytes n rest c) l r
leads-append bytes a b c (token ∷ front) rest (end, after, stands, gap, l) r = (end, after, stands, gap, leads-append bytes after b c front rest l r)

-- stuck where it begins
pub bad_here : (mode : LogMode) (bytes : List ℕ) (place : ℕ) (state : RecordState) → IsStuckAt mode bytes place state → IsBadFrom mode bytes place state place
bad_here mode bytes place state stuck = record { front = []; after = state; leads = refl; runs = refl; stuck = stuck }

-- stuck after some tokens
pub bad_behind : (mode : LogMode) (bytes : List ℕ) (from middle : ℕ) (state after : RecordState) (front : List LogToken) (place : ℕ) → LogTokensLead bytes from front middle
    → record_run mode state front ≡ Some after → IsBadFrom mode bytes middle after place → IsBadFrom mode bytes from state place
bad_behind mode bytes from middle state after front place leads runs bad = record {
  front = front ++ bad.front;
  after = bad.after;
  leads = leads-append bytes from middle place front bad.front leads bad.leads;
  runs = run_onto mode state after front bad.front runs ∙ bad.runs;
  stuck = bad.stuck;
}

pub fails_behind : (mode : LogMode) (bytes : List ℕ) (from middle : ℕ) (state after : RecordState) (front : List LogToken) (refusal : LogRefusal)
    → LogTokensLead bytes from front middle → record_run mode state front ≡ Some after → FailsReading mode bytes middle after refusal → FailsReading mode bytes from state refusal
fails_behind mode bytes from middle state after front (BadRecord place) leads runs bad = bad_behind mode bytes from middle state after front place leads runs bad
fails_behind mode bytes from middle state after front NoMemory leads runs bad = tt
fails_behind mode bytes from middle state after front (UnknownName place) leads runs bad = bad
fails_behind mode bytes from middle state after front (Arity place) leads runs bad = bad
fails_behind mode bytes from middle state after front (SortClash place) leads runs bad = bad
fails_behind mode bytes from middle state after front TooLong leads runs bad = bad
fails_behind mode bytes from middle state after front TimeTooLarge leads runs bad = bad
fails_behind mode bytes from middle state after front Truncated leads runs bad = bad

-- what is bad from the start on is bad
pub is_bad : (mode : LogMode) (bytes : List ℕ) (place : ℕ) → IsBadFrom mode bytes 0 RecordStart place → IsBadRecord mode bytes place
is_bad mode bytes place bad = record {
  front = bad.front;
  leads = bad.leads;
  begins = runs_begin mode bad.front bad.after bad.runs;
  unfinished = λ end sentence. let d = sentence_done mode bad.front bad.after sentence bad.runs in bad.stuck.unfinished d.0 end d.1;
  stuck = λ token end stands. not_begun mode bad.front bad.after token bad.runs (bad.stuck.none token end stands);
}

-- a choice by a mark that does not stand there
no_mark : (bytes : List ℕ) (place end byte mark : ℕ) (x : Option RecordState) → ((end : ℕ) → IsLogTokenAt bytes place end (LogMark mark) → ⊥)
    → IsLogTokenAt bytes place end (LogMark byte) → (if byte == mark then x else None) ≡ None
no_mark bytes place end byte mark x none stands = by (byte == mark) refl
  where
    by : (b : Bool) → (byte == mark) ≡ b → (if b then x else None) ≡ None
    by true e = absurd (none end (subst (λ m. IsLogTokenAt bytes place end (LogMark m)) (eqb-true byte mark e) stands))
    by false e = refl

pub stuck_named : (mode : LogMode) (bytes : List ℕ) (at : ℕ) (kind : StepKind) (time : ℕ) (events : List WrittenEvent) (place : ℕ) (name : List ℕ)
    → ((end : ℕ) → IsLogTokenAt bytes at end (LogMark 40) → ⊥) → IsStuckAt mode bytes at (Named kind time events place name)
stuck_named mode bytes at kind time events place name none = record { none = by; unfinished = λ written e is. cc }
  where
    by : (token : LogToken) (end : ℕ) → IsLogTokenAt bytes at end token → record_next mode (Named kind time events place name) token ≡ None
    by (LogMark byte) end stands = no_mark bytes at end byte 40 (Some (Opened kind time events place name)) none stands
    by (LogTime t) end stands = refl
    by (LogName p n) end stands = refl
    by (LogArgument p v) end stands = refl

pub stuck_opened : (mode : LogMode) (bytes : List ℕ) (at : ℕ) (kind : StepKind) (time : ℕ) (events : List WrittenEvent) (place : ℕ) (name : List ℕ)
    → ((end : ℕ) → IsLogTokenAt bytes at end (LogMark 41) → ⊥) → ((p end : ℕ) (value : Value) → IsLogTokenAt bytes at end (LogArgument p value) → ⊥)
    → IsStuckAt mode bytes at (Opened kind time events place name)
stuck_opened mode bytes at kind time events place name none no_value = record { none = by; unfinished = λ written e is. cc }
  where
    by : (token : LogToken) (end : ℕ) → IsLogTokenAt bytes at end token → record_next mode (Opened kind time events place name) token ≡ None
    by (LogMark byte) end stands = no_mark bytes at end byte 41 (Some (Events kind time (events ++ event_at place name [] ∷ []))) none stands
    by (LogTime t) end stands = refl
    by (LogName p n) end stands = refl
    by (LogArgument p v) end stands = absurd (no_value p end v stands)

pub stuck_comma : (mode : LogMode) (bytes : List ℕ) (at : ℕ) (kind : StepKind) (time : ℕ) (events : List WrittenEvent) (place : ℕ) (name : List ℕ) (args : List WrittenArgument)
    → ((p end : ℕ) (value : Value) → IsLogTokenAt bytes at end (LogArgument p value) → ⊥) → IsStuckAt mode bytes at (Comma kind time events place name args)
stuck_comma mode bytes at kind time events place name args no_value = record { none = by; unfinished = λ written e is. cc }
  where
    by : (token : LogToken) (end : ℕ) → IsLogTokenAt bytes at end token → record_next mode (Comma kind time events place name args) token ≡ None
    by (LogMark byte) end stands = refl
    by (LogTime t) end stands = refl
    by (LogName p n) end stands = refl
    by (LogArgument p v) end stands = absurd (no_value p end v stands)

pub stuck_valued : (mode : LogMode) (bytes : List ℕ) (at : ℕ) (kind : StepKind) (time : ℕ) (events : List WrittenEvent) (place : ℕ) (name : List ℕ) (args : List WrittenArgument)
    → ((end : ℕ) → IsLogTokenAt bytes at end (LogMark 41) → ⊥) → ((end : ℕ) → IsLogTokenAt bytes at end (LogMark 44) → ⊥)
    → IsStuckAt mode bytes at (Valued kind time events place name args)
stuck_valued mode bytes at kind time events place name args no_close no_comma = record { none = by; unfinished = λ written e is. cc }
  where
    by : (token : LogToken) (end : ℕ) → IsLogTokenAt bytes at end token → record_next mode (Valued kind time events place name args) token ≡ None
    by (LogMark byte) end stands = choose (byte == 44) refl
      where
        choose : (b : Bool) → (byte == 44) ≡ b → (if b then Some (Comma kind time events place name args) else
            (if byte == 41 then Some (Events kind time (events ++ event_at place name args ∷ [])) else None)) ≡ None
        choose true e = absurd (no_comma end (subst (λ m. IsLogTokenAt bytes at end (LogMark m)) (eqb-true byte 44 e) stands))
        choose false e = no_mark bytes at end byte 41 (Some (Events kind time (events ++ event_at place name args ∷ []))) no_close stands
    by (LogTime t) end stands = refl
    by (LogName p n) end stands = refl
    by (LogArgument p v) end stands = refl

pub stuck_marked : (mode : LogMode) (bytes : List ℕ) (at : ℕ) (kind : StepKind) → ((time end : ℕ) → IsLogTokenAt bytes at end (LogTime time) → ⊥) → IsStuckAt mode bytes at (RecordMarked kind)
stuck_marked mode bytes at kind no_time = record { none = by; unfinished = λ written e is. cc }
  where
    by : (token : LogToken) (end : ℕ) → IsLogTokenAt bytes at end token → record_next mode (RecordMarked kind) token ≡ None
    by (LogMark byte) end stands = refl
    by (LogTime t) end stands = absurd (no_time t end stands)
    by (LogName p n) end stands = refl
    by (LogArgument p v) end stands = refl

pub stuck_ticking : (mode : LogMode) (bytes : List ℕ) (at : ℕ) → ((time end : ℕ) → IsLogTokenAt bytes at end (LogTime time) → ⊥) → IsStuckAt mode bytes at Ticking
stuck_ticking mode bytes at no_time = record { none = by; unfinished = λ written e is. cc }
  where
    by : (token : LogToken) (end : ℕ) → IsLogTokenAt bytes at end token → record_next mode Ticking token ≡ None
    by (LogMark byte) end stands = refl
    by (LogTime t) end stands = absurd (no_time t end stands)
    by (LogName p n) end stands = refl
    by (LogArgument p v) end stands = refl

pub stuck_ticked : (mode : LogMode) (bytes : List ℕ) (at time : ℕ) → ((end : ℕ) → IsLogTokenAt bytes at end (LogMark 59) → ⊥) → IsStuckAt mode bytes at (Ticked time)
stuck_ticked mode bytes at time none = record { none = by; unfinished = λ written e is. cc }
  where
    by : (token : LogToken) (end : ℕ) → IsLogTokenAt bytes at end token → record_next mode (Ticked time) token ≡ None
    by (LogMark byte) end stands = no_mark bytes at end byte 59 (Some (Done (TickLine time))) none stands
    by (LogTime t) end stands = refl
    by (LogName p n) end stands = refl
    by (LogArgument p v) end stands = refl

-- after events: no semicolon, and no name or no room for one
pub stuck_events : (mode : LogMode) (bytes : List ℕ) (at : ℕ) (kind : StepKind) (time : ℕ) (events : List WrittenEvent)
    → ((end : ℕ) → IsLogTokenAt bytes at end (LogMark 59) → ⊥) → ((p end : ℕ) (name : List ℕ) → IsLogTokenAt bytes at end (LogName p name)
    → record_next mode (Events kind time events) (LogName p name) ≡ None) → IsStuckAt mode bytes at (Events kind time events)
stuck_events mode bytes at kind time events none no_name = record { none = by; unfinished = λ written e is. cc }
  where
    by : (token : LogToken) (end : ℕ) → IsLogTokenAt bytes at end token → record_next mode (Events kind time events) token ≡ None
    by (LogMark byte) end stands = no_mark bytes at end byte 59 (Some (Done (Line kind time events))) none stands
    by (LogTime t) end stands = refl
    by (LogName p n) end stands = no_name p end n stands
    by (LogArgument p v) end stands = refl

pub stuck_start : (mode : LogMode) (bytes : List ℕ) (at : ℕ) → ((end : ℕ) → IsLogTokenAt bytes at end (LogMark 64) → ⊥)
    → ((end : ℕ) → IsLogTokenAt bytes at end (LogMark 62) → ⊥) → ((end : ℕ) → mode ≡ TraceLog → IsLogTokenAt bytes at end (LogMark 43) → ⊥)
    → IsStuckAt mode bytes at RecordStart
stuck_start mode bytes at no_at no_tick no_plus = record { none = by; unfinished = λ written e is. cc }
  where
    by : (token : LogToken) (end : ℕ) → IsLogTokenAt bytes at end token → record_next mode RecordStart token ≡ None
    by (LogMark byte) end stands = choose (byte == 64) (byte == 62) (byte == 43) refl refl refl
      where
        plus : (m : LogMode) → ((end : ℕ) → m ≡ TraceLog → IsLogTokenAt bytes at end (LogMark 43) → ⊥) → byte ≡ 43 → inserted_state m ≡ None
        plus Input none e = refl
        plus TraceLog none e = absurd (none end refl (subst (λ b. IsLogTokenAt bytes at end (LogMark b)) e stands))

        choose : (a b c : Bool) → (byte == 64) ≡ a → (byte == 62) ≡ b → (byte == 43) ≡ c
            → (if a then Some (RecordMarked System) else (if b then Some Ticking else (if c then inserted_state mode else None))) ≡ None
        choose true b c p q r = absurd (no_at end (subst (λ m. IsLogTokenAt bytes at end (LogMark m)) (eqb-true byte 64 p) stands))
        choose false true c p q r = absurd (no_tick end (subst (λ m. IsLogTokenAt bytes at end (LogMark m)) (eqb-true byte 62 q) stands))
        choose false false true p q r = plus mode no_plus (eqb-true byte 43 r)
        choose false false false p q r = refl
    by (LogTime t) end stands = refl
    by (LogName p n) end stands = refl
    by (LogArgument p v) end stands = refl

pub clash_nothing : (sorts : List Sort) → argument_clash sorts [] ≡ None
clash_nothing [] = refl
clash_nothing (sort ∷ sorts) = refl

-- one argument more
pub clash_push : (sorts : List Sort) (args : List WrittenArgument) (place : ℕ) (value : Value) → argument_clash sorts (args ++ argument_at place value ∷ [])
    ≡ option_or (argument_clash sorts args) (clash_at (slice_get sorts (length args)) value place)
clash_push [] [] place value = refl
clash_push [] (arg ∷ args) place value = refl
clash_push (sort ∷ sorts) [] place value = by (has_sort sort value)
  where
    by : (b : Bool) → (if b then argument_clash sorts [] else Some place) ≡ (if b then None else Some place)
    by true = clash_nothing sorts
    by false = refl
clash_push (sort ∷ sorts) (arg ∷ args) place value = by (has_sort sort arg.value) (clash_push sorts args place value)
  where
    by : (b : Bool) → argument_clash sorts (args ++ argument_at place value ∷ []) ≡ option_or (argument_clash sorts args) (clash_at (slice_get sorts (length args)) value place)
        → (if b then argument_clash sorts (args ++ argument_at place value ∷ []) else Some arg.place)
        ≡ option_or (if b then argument_clash sorts args else Some arg.place) (clash_at (slice_get sorts (length args)) value place)
    by true h = h
    by false h = refl
