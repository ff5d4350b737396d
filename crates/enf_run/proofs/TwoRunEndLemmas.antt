-- How a log ends after its records is one: what is left of it, with what was not taken, tells.
use Rattle.enf_run.proofs.Vocabulary.{◌≡◌, ℕ, List, [], ◌++◌, Option, None, Some, refl, sym, ap, subst, ◌∙◌, inl, inr, append-nil, Stream, BeginsWithRecord-append, RefusesFront-append}
use Rattle.enf_run.proofs.Vocabulary.{BeginsWithRecord, EndsBy, IsLog, IsPending, RefusesFront as RefusesText, behind_blanks, record_length, LogItem, LogMode, LogRefusal, NameEntry, time_of}
use Rattle.enf_run.proofs.Vocabulary.{LogEndsAs, IsFallingRecord, IsRestRefusedAs, TakenLog, clock_behind, record_of, IsEndOfLog, IsLogOver, RefusesForGood, Verdict, RecordRefusal}
use Rattle.enf_run.proofs.OneReadingLemmas.{OneRecordAnswer, Stops, begins_blanks, begins_not_refused, begins_same, blank_stops, falling_stops, pending_stops, refused_stops}
use Rattle.log_stream.specs.declared.items.LogRefusal.TheVariants as log
use Rattle.enf_run.specs.declared.intake.Verdict.TheVariants as verdicts
use Rattle.enf_run.specs.declared.refusals.RecordRefusal.TheVariants as records

-- a log has one list of records and one refusal at most
abbrev pub OneLog : Type 0
OneLog = (entries : List NameEntry) (mode : LogMode) (bytes : List ℕ) (items others : List LogItem) (refusal other : Option LogRefusal)
    → IsLog entries mode bytes items refusal → IsLog entries mode bytes others other → (items ≡ others) × (refusal ≡ other)

-- how a text ends a log, from a clock on
abbrev pub EndsOn : List NameEntry → LogMode → (clock : ℕ) → List ℕ → Verdict → Type 0
EndsOn entries mode clock text verdicts.Accepted = behind_blanks text ≡ []
EndsOn entries mode clock text verdicts.Fault = IsPending text
EndsOn entries mode clock text (verdicts.Refused (records.Log why)) = EndsBy entries mode text (Some why)
EndsOn entries mode clock text (verdicts.Refused (records.Falling given at)) = (at ≡ clock) × IsFallingRecord entries mode clock text given
EndsOn entries mode clock text (verdicts.Refused records.InputLimit) = IsPending text

refuses_ends : (entries : List NameEntry) (mode : LogMode) (text : List ℕ) (why : LogRefusal) → RefusesText entries mode text why → EndsBy entries mode text (Some why)
refuses_ends entries mode text (log.BadRecord place) refused = refused
refuses_ends entries mode text (log.UnknownName place) refused = refused
refuses_ends entries mode text (log.Arity place) refused = refused
refuses_ends entries mode text (log.SortClash place) refused = refused
refuses_ends entries mode text log.TooLong refused = refused
refuses_ends entries mode text log.TimeTooLarge refused = refused
refuses_ends entries mode text log.Truncated refused = absurd refused
refuses_ends entries mode text log.NoMemory refused = refused

-- what was not taken of it may stand after
module _ (t : TakenLog) (before after : Stream) where
  abbrev Ends : List ℕ → Verdict → Type 0
  Ends text verdict = EndsOn t.reading.entries t.reading.mode (clock_behind t) text verdict

  refused_all : (why : RecordRefusal) → IsRestRefusedAs t after why → Ends t.rest (verdicts.Refused why)
  refused_all (records.Log why) (inl refused) = refuses_ends t.reading.entries t.reading.mode t.rest why refused
  refused_all (records.Log why) (inr (is, truncated, met)) =
      subst (λ (w : LogRefusal). EndsBy t.reading.entries t.reading.mode t.rest (Some w)) (sym is) truncated
  refused_all (records.Falling given at) refused = refused
  refused_all records.InputLimit refused = refused.0

  ends_all : (verdict : Verdict) → LogEndsAs t before after verdict → Ends t.rest verdict
  ends_all verdicts.Accepted ends = ends.0
  ends_all verdicts.Fault ends = ends.0
  ends_all (verdicts.Refused why) ends = refused_all why ends.0

  refused_on : (why : RecordRefusal) (more : List ℕ) → RefusesForGood (verdicts.Refused why) → IsRestRefusedAs t after why
      → Ends (t.rest ++ more) (verdicts.Refused why)
  refused_on (records.Log why) more good (inl refused) =
      refuses_ends t.reading.entries t.reading.mode (t.rest ++ more) why (RefusesFront-append t.reading.entries t.reading.mode t.rest more why refused)
  refused_on (records.Log why) more good (inr (is, truncated, met)) = absurd (good is)
  refused_on (records.Falling given at) more good (at_is, f) = (
    at_is,
    record {
      item = f.item;
      more = f.more ++ more;
      begins = BeginsWithRecord-append t.reading.entries t.reading.mode t.rest f.item f.more more f.begins;
      time = f.time;
      below = f.below;
    },
  )
  refused_on records.InputLimit more good refused = absurd good

  pub ends_over : (verdict : Verdict) (more : List ℕ) → IsLogOver verdict more → LogEndsAs t before after verdict → Ends (t.rest ++ more) verdict
  ends_over verdict more (inl none) ends =
      subst (λ (text : List ℕ). Ends text verdict) (sym (ap (λ (l : List ℕ). t.rest ++ l) none ∙ append-nil t.rest)) (ends_all verdict ends)
  ends_over verdicts.Accepted more (inr good) ends = absurd good
  ends_over verdicts.Fault more (inr good) ends = absurd good
  ends_over (verdicts.Refused why) more (inr good) ends = refused_on why more good ends.0

-- ---- what it tells

module _ (law : OneRecordAnswer) (entries : List NameEntry) (mode : LogMode) (clock : ℕ) where
  refusal_stops_on : (text : List ℕ) (why : LogRefusal) → EndsBy entries mode text (Some why) → Stops law mode entries clock text
  refusal_stops_on text log.Truncated ends = pending_stops law mode entries clock text ends.0
  refusal_stops_on text (log.BadRecord place) ends = refused_stops law mode entries clock text (log.BadRecord place) ends
  refusal_stops_on text (log.UnknownName place) ends = refused_stops law mode entries clock text (log.UnknownName place) ends
  refusal_stops_on text (log.Arity place) ends = refused_stops law mode entries clock text (log.Arity place) ends
  refusal_stops_on text (log.SortClash place) ends = refused_stops law mode entries clock text (log.SortClash place) ends
  refusal_stops_on text log.TooLong ends = refused_stops law mode entries clock text log.TooLong ends
  refusal_stops_on text log.TimeTooLarge ends = refused_stops law mode entries clock text log.TimeTooLarge ends
  refusal_stops_on text log.NoMemory ends = absurd ends

  -- no record is left that could be accepted
  pub ends_stop : (text : List ℕ) (verdict : Verdict) → EndsOn entries mode clock text verdict → Stops law mode entries clock text
  ends_stop text verdicts.Accepted ends = blank_stops law mode entries clock text ends
  ends_stop text verdicts.Fault ends = pending_stops law mode entries clock text ends
  ends_stop text (verdicts.Refused (records.Log why)) ends = refusal_stops_on text why ends
  ends_stop text (verdicts.Refused (records.Falling given at)) ends = falling_stops law mode entries clock text given ends.1
  ends_stop text (verdicts.Refused records.InputLimit) ends = pending_stops law mode entries clock text ends

  -- a record at the front does not fall where the log ended
  begins_not_ended : (text : List ℕ) (item : LogItem) (more : List ℕ) → BeginsWithRecord entries mode text item more
      → (refusal : Option LogRefusal) → EndsBy entries mode text refusal → ⊥
  begins_not_ended text item more begins None blank =
      let none : ◌≡◌ {A = Option ℕ} None (Some begins.0) = sym (ap record_length blank) ∙ begins.1 in absurd cc
  begins_not_ended text item more begins (Some log.Truncated) ends =
      let none : ◌≡◌ {A = Option ℕ} None (Some begins.0) = sym ends.0.0 ∙ begins.1 in absurd cc
  begins_not_ended text item more begins (Some (log.BadRecord place)) ends = begins_not_refused law mode entries text item more (log.BadRecord place) begins ends
  begins_not_ended text item more begins (Some (log.UnknownName place)) ends = begins_not_refused law mode entries text item more (log.UnknownName place) begins ends
  begins_not_ended text item more begins (Some (log.Arity place)) ends = begins_not_refused law mode entries text item more (log.Arity place) begins ends
  begins_not_ended text item more begins (Some (log.SortClash place)) ends = begins_not_refused law mode entries text item more (log.SortClash place) begins ends
  begins_not_ended text item more begins (Some log.TooLong) ends = begins_not_refused law mode entries text item more log.TooLong begins ends
  begins_not_ended text item more begins (Some log.TimeTooLarge) ends = begins_not_refused law mode entries text item more log.TimeTooLarge begins ends
  begins_not_ended text item more begins (Some log.NoMemory) ends = ends

  module _ (one : OneLog) (text other : List ℕ) (same : behind_blanks text ≡ behind_blanks other) where
    one_refusal : (x y : Option LogRefusal) → EndsBy entries mode text x → EndsBy entries mode other y → x ≡ y
    one_refusal x y ends also = (one entries mode other [] [] x y (text, same, ends) (other, refl, also)).1

    falls_not_ended : (given : ℕ) → IsFallingRecord entries mode clock other given → (refusal : Option LogRefusal) → EndsBy entries mode text refusal → ⊥
    falls_not_ended given f refusal ends =
        begins_not_ended text f.item f.more (begins_blanks entries mode other text f.item f.more (sym same) f.begins) refusal ends

    falls_not_ended_too : (given : ℕ) → IsFallingRecord entries mode clock text given → (refusal : Option LogRefusal) → EndsBy entries mode other refusal → ⊥
    falls_not_ended_too given f refusal ends =
        begins_not_ended other f.item f.more (begins_blanks entries mode text other f.item f.more same f.begins) refusal ends

    same_falling : (given given' : ℕ) → IsFallingRecord entries mode clock text given → IsFallingRecord entries mode clock other given' → given ≡ given'
    same_falling given given' f g =
        let mine = begins_blanks entries mode text other f.item f.more same f.begins in
        let items = (begins_same law mode entries other f.item g.item f.more g.more mine g.begins).0 in
        f.time ∙ ap (λ (item : LogItem). time_of (record_of item)) items ∙ sym g.time

    -- so it ended in one way
    pub ends_one : (verdict also : Verdict) → IsEndOfLog verdict → IsEndOfLog also → EndsOn entries mode clock text verdict → EndsOn entries mode clock other also → verdict ≡ also
    ends_one verdicts.Accepted verdicts.Accepted of of' ends ends' = refl
    ends_one verdicts.Accepted verdicts.Fault of of' ends ends' = absurd of'
    ends_one verdicts.Accepted (verdicts.Refused (records.Log why)) of of' ends ends' =
        let none : ◌≡◌ {A = Option LogRefusal} None (Some why) = one_refusal None (Some why) ends ends' in absurd cc
    ends_one verdicts.Accepted (verdicts.Refused (records.Falling given at)) of of' ends ends' = absurd (falls_not_ended given ends'.1 None ends)
    ends_one verdicts.Accepted (verdicts.Refused records.InputLimit) of of' ends ends' = absurd of'
    ends_one verdicts.Fault also of of' ends ends' = absurd of
    ends_one (verdicts.Refused (records.Log why)) verdicts.Accepted of of' ends ends' =
        let none : ◌≡◌ {A = Option LogRefusal} (Some why) None = one_refusal (Some why) None ends ends' in absurd cc
    ends_one (verdicts.Refused (records.Log why)) verdicts.Fault of of' ends ends' = absurd of'
    ends_one (verdicts.Refused (records.Log why)) (verdicts.Refused (records.Log why')) of of' ends ends' =
        let both : ◌≡◌ {A = Option LogRefusal} (Some why) (Some why') = one_refusal (Some why) (Some why') ends ends' in
        let is : why ≡ why' = cc in
        ap (λ (w : LogRefusal). verdicts.Refused (records.Log w)) is
    ends_one (verdicts.Refused (records.Log why)) (verdicts.Refused (records.Falling given at)) of of' ends ends' =
        absurd (falls_not_ended given ends'.1 (Some why) ends)
    ends_one (verdicts.Refused (records.Log why)) (verdicts.Refused records.InputLimit) of of' ends ends' = absurd of'
    ends_one (verdicts.Refused (records.Falling given at)) verdicts.Accepted of of' ends ends' = absurd (falls_not_ended_too given ends.1 None ends')
    ends_one (verdicts.Refused (records.Falling given at)) verdicts.Fault of of' ends ends' = absurd of'
    ends_one (verdicts.Refused (records.Falling given at)) (verdicts.Refused (records.Log why)) of of' ends ends' =
        absurd (falls_not_ended_too given ends.1 (Some why) ends')
    ends_one (verdicts.Refused (records.Falling given at)) (verdicts.Refused (records.Falling given' at')) of of' ends ends' =
        let times = same_falling given given' ends.1 ends'.1 in
        let clocks : at ≡ at' = ends.0 ∙ sym ends'.0 in
        (λ i. verdicts.Refused (records.Falling (times i) (clocks i)))
    ends_one (verdicts.Refused (records.Falling given at)) (verdicts.Refused records.InputLimit) of of' ends ends' = absurd of'
    ends_one (verdicts.Refused records.InputLimit) also of of' ends ends' = absurd of
