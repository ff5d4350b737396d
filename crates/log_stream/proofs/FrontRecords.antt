-- A step or a tick at the front of bytes, read where it stands.
use Rattle.log_stream.proofs.Vocabulary.{◌≡◌, ℕ, ◌+◌, ◌<◌, ◌≤◌, List, [], ◌∷◌, length, take, Some, Result, Ok, Err, subst, sym, ◌∙◌, refl, arith, length-take, flat_map, take_all, same_Some}
use Rattle.log_stream.proofs.Vocabulary.{InsertsEach, Event, NameEntry, most_time, StepKind, System, Inserted, LogMode, LogRefusal, TimeTooLarge, Outside, length_to_end, LogMark, LogTime}
use Rattle.log_stream.proofs.Vocabulary.{IsLogTokenAt, LogTokensLead, ModeReads, event_tokens, mark_of, ReadsFront, ReadsUpTo}
use Rattle.log_stream.proofs.EventLists.{ReadsEvents}
use Rattle.log_stream.proofs.RecordsInPlace.{IsPassed, IsQuiet, events_quiet, first_end, leads_cut, leads_end, leads_onward, leads_passed, passed_on}
use Rattle.log_stream.proofs.WholeItems.{step_read, step_refused, step_too_late, tick_read, tick_too_late}
use Rattle.log_stream.specs.declared.items.LogItem.TheVariants as items

-- a mark, a time and what is after them are passed by a scan
head_passed : (mark : ℕ) (bytes : List ℕ) (from next time : ℕ) → IsQuiet (LogMark mark) → LogTokensLead bytes 0 (LogMark mark ∷ []) from
    → LogTokensLead bytes from (LogTime time ∷ []) next → IsPassed bytes 0 next
head_passed mark bytes from next time quiet l t =
    passed_on bytes 0 from next (leads_passed bytes 0 (LogMark mark ∷ []) from (quiet, tt) l) (leads_passed bytes from (LogTime time ∷ []) next (tt, tt) t)

quiet_mark : (kind : StepKind) → IsQuiet (LogMark (mark_of kind))
quiet_mark System = ((λ e. omega (arith, e)), (λ e. omega (arith, e)))
quiet_mark Inserted = ((λ e. omega (arith, e)), (λ e. omega (arith, e)))

step_end : (entries : List NameEntry) (kind : StepKind) (bytes : List ℕ) (from next time at : ℕ) (events : Result (List Event) LogRefusal)
    → LogTokensLead bytes 0 (LogMark (mark_of kind) ∷ []) from → LogTokensLead bytes from (LogTime time ∷ []) next → ReadsUpTo entries bytes next events at
    → length_to_end Outside bytes ≡ Some (at + 1)
step_end entries kind bytes from next time at events l t r =
    first_end bytes at
    (passed_on bytes 0 next at (head_passed (mark_of kind) bytes from next time (quiet_mark kind) l t)
    (leads_passed bytes next (flat_map event_tokens r.written) at (events_quiet r.written) r.leads)) r.ends

cut_long : (bytes : List ℕ) (at : ℕ) → at < length bytes → at + 1 ≡ length (take (at + 1) bytes)
cut_long bytes at below = let long = length-take (at + 1) bytes in omega (arith, long, below)

-- the events in the bytes of the record alone
reads_cut : (entries : List NameEntry) (bytes : List ℕ) (next at : ℕ) (events : Result (List Event) LogRefusal) → ReadsUpTo entries bytes next events at
    → ReadsEvents entries (take (at + 1) bytes) next events (at + 1)
reads_cut entries bytes next at events r = record {
  written = r.written;
  few = r.few;
  leads = leads_end bytes next (flat_map event_tokens r.written) at r.leads r.ends;
  judged = r.judged;
}

reads_whole : (entries : List NameEntry) (bytes : List ℕ) (next at : ℕ) (events : Result (List Event) LogRefusal) → at + 1 ≡ length bytes → ReadsUpTo entries bytes next events at
    → ReadsEvents entries bytes next events (at + 1)
reads_whole entries bytes next at events whole r =
    subst (λ l. ReadsEvents entries l next events (at + 1)) (take_all (at + 1) bytes (omega (arith, whole))) (reads_cut entries bytes next at events r)

pub step_front : (entries : List NameEntry) (mode : LogMode) (kind : StepKind) (bytes : List ℕ) (from next time at : ℕ) (events set : List Event) → ModeReads mode kind
    → LogTokensLead bytes 0 (LogMark (mark_of kind) ∷ []) from → LogTokensLead bytes from (LogTime time ∷ []) next → ReadsUpTo entries bytes next (Ok events) at
    → InsertsEach [] events set → time ≤ most_time kind → ReadsFront entries mode bytes (Ok (items.Step kind time set, at + 1))
step_front entries mode kind bytes from next time at events set read l t r firsts h =
    let behind = leads_onward bytes next (flat_map event_tokens r.written) at r.leads in
    let onward = leads_onward bytes from (LogTime time ∷ []) next t in (
      step_end entries kind bytes from next time at (Ok events) l t r,
      step_read entries mode kind (take (at + 1) bytes) from next time (at + 1) events set read
          (leads_cut bytes (at + 1) 0 (LogMark (mark_of kind) ∷ []) from (omega (arith, behind, onward)) l)
          (leads_cut bytes (at + 1) from (LogTime time ∷ []) next (omega (arith, behind)) t)
          (reads_cut entries bytes next at (Ok events) r) firsts (cut_long bytes at r.ends.0) h,
    )

pub step_front_late : (entries : List NameEntry) (mode : LogMode) (kind : StepKind) (bytes : List ℕ) (from next time at : ℕ) (events : Result (List Event) LogRefusal)
    → ModeReads mode kind → LogTokensLead bytes 0 (LogMark (mark_of kind) ∷ []) from → LogTokensLead bytes from (LogTime time ∷ []) next → ReadsUpTo entries bytes next events at
    → most_time kind < time → ReadsFront entries mode bytes (Err TimeTooLarge)
step_front_late entries mode kind bytes from next time at events read l t r h = λ whole.
    let all = same_Some (at + 1) (length bytes) (sym (step_end entries kind bytes from next time at events l t r) ∙ whole) in
    step_too_late entries mode kind bytes from next time (at + 1) events read l t (reads_whole entries bytes next at events all r) all h

pub step_front_refused : (entries : List NameEntry) (mode : LogMode) (kind : StepKind) (bytes : List ℕ) (from next time at : ℕ) (refusal : LogRefusal) → ModeReads mode kind
    → LogTokensLead bytes 0 (LogMark (mark_of kind) ∷ []) from → LogTokensLead bytes from (LogTime time ∷ []) next → ReadsUpTo entries bytes next (Err refusal) at
    → time ≤ most_time kind → ReadsFront entries mode bytes (Err refusal)
step_front_refused entries mode kind bytes from next time at refusal read l t r h = λ whole.
    let all = same_Some (at + 1) (length bytes) (sym (step_end entries kind bytes from next time at (Err refusal) l t r) ∙ whole) in
    step_refused entries mode kind bytes from next time (at + 1) refusal read l t (reads_whole entries bytes next at (Err refusal) all r) all h

-- ticks
tick_quiet : IsQuiet (LogMark 62)
tick_quiet = ((λ e. omega (arith, e)), (λ e. omega (arith, e)))

tick_end : (bytes : List ℕ) (from next time : ℕ) → LogTokensLead bytes 0 (LogMark 62 ∷ []) from → LogTokensLead bytes from (LogTime time ∷ []) next
    → IsLogTokenAt bytes next (next + 1) (LogMark 59) → length_to_end Outside bytes ≡ Some (next + 1)
tick_end bytes from next time l t ends = first_end bytes next (head_passed 62 bytes from next time tick_quiet l t) ends

pub tick_front : (entries : List NameEntry) (mode : LogMode) (bytes : List ℕ) (from next time : ℕ) → LogTokensLead bytes 0 (LogMark 62 ∷ []) from
    → LogTokensLead bytes from (LogTime time ∷ []) next → IsLogTokenAt bytes next (next + 1) (LogMark 59) → time ≤ most_time System
    → ReadsFront entries mode bytes (Ok (items.Tick time, next + 1))
tick_front entries mode bytes from next time l t ends h =
    let onward = leads_onward bytes from (LogTime time ∷ []) next t in (
      tick_end bytes from next time l t ends,
      tick_read entries mode (take (next + 1) bytes) from next time (next + 1) (leads_cut bytes (next + 1) 0 (LogMark 62 ∷ []) from (omega (arith, onward)) l)
          (leads_cut bytes (next + 1) from (LogTime time ∷ []) next (omega arith) t) (leads_end bytes next [] next refl ends) (cut_long bytes next ends.0) h,
    )

pub tick_front_late : (entries : List NameEntry) (mode : LogMode) (bytes : List ℕ) (from next time : ℕ) → LogTokensLead bytes 0 (LogMark 62 ∷ []) from
    → LogTokensLead bytes from (LogTime time ∷ []) next → IsLogTokenAt bytes next (next + 1) (LogMark 59) → most_time System < time
    → ReadsFront entries mode bytes (Err TimeTooLarge)
tick_front_late entries mode bytes from next time l t ends h = λ whole.
    let all = same_Some (next + 1) (length bytes) (sym (tick_end bytes from next time l t ends) ∙ whole) in
    tick_too_late entries mode bytes from next time (next + 1) l t
    (subst (λ b. LogTokensLead b next (LogMark 59 ∷ []) (next + 1)) (take_all (next + 1) bytes (omega (arith, all))) (leads_end bytes next [] next refl ends)) all h
