-- A log is read in one way, and so it ends in one.
use Rattle.enf_run.proofs.Vocabulary.{◌≡◌, ℕ, ◌-◌, ◌<◌, ◌≤◌, List, [], ◌∷◌, ◌++◌, Option, Some, None, Result, Err, Ok, length, take, drop, refl, sym, ap, subst, ◌∙◌, inl, inr, arith, length-take}
use Rattle.enf_run.proofs.Vocabulary.{append-nil, take-append-drop, Exchange, IsAtEnd, input_left, OfCalls, Stream, Grew, GrewWhereTold, left-since, IsRecordAnswer, BeginsWithRecord, HasRecord}
use Rattle.enf_run.proofs.Vocabulary.{IsPending, RefusesFront as RefusesText, SpellsRecords, behind_blanks, record_bytes, record_length, BeginsWithRecord-append, RefusesFront-append}
use Rattle.enf_run.proofs.Vocabulary.{SpellsRecords-append, LogItem, LogMode, LogRefusal, ok_is, ok_not_err, NameEntry, NeverFall, clock_after, time_of, IsWholeLog, taken_between, Exchanged}
use Rattle.enf_run.proofs.Vocabulary.{IsExchange, AcceptsRecords, IsFallingRecord, IsRestRefusedAs, LogReading, ReadsLogToEnd, TakenLog, clock_behind, taken_log, record_of, records_of, RecordRefusal}
use Rattle.log_stream.specs.declared.items.LogRefusal.TheVariants as log
use Rattle.enf_run.specs.declared.intake.Verdict.TheVariants as verdicts
use Rattle.enf_run.specs.declared.refusals.RecordRefusal.TheVariants as records

-- the bytes of a record have one answer at most
abbrev pub OneRecordAnswer : Type 0
OneRecordAnswer = (entries : List NameEntry) (mode : LogMode) (bytes : List ℕ) (answer other : Result LogItem LogRefusal)
    → IsRecordAnswer entries mode bytes answer → IsRecordAnswer entries mode bytes other → answer ≡ other

none_some : (n : ℕ) → ◌≡◌ {A = Option ℕ} None (Some n) → ⊥
none_some n e = cc

same_number : (n m : ℕ) → ◌≡◌ {A = Option ℕ} (Some n) (Some m) → n ≡ m
same_number n m e = cc

-- blanks in front count for nothing
pub begins_blanks : (entries : List NameEntry) (mode : LogMode) (text other : List ℕ) (item : LogItem)
    (rest : List ℕ) → behind_blanks text ≡ behind_blanks other → BeginsWithRecord entries mode text item rest
    → BeginsWithRecord entries mode other item rest
begins_blanks entries mode text other item rest same begins =
    let P : List ℕ → Type 0 = λ l. (n : ℕ) × (record_length l ≡ Some n) × IsRecordAnswer entries mode (take n l) (Ok item) × (rest ≡ drop n l) in
    subst P same begins

module _ (law : OneRecordAnswer) where
  module _ (mode : LogMode) where
    -- a record at the front is one alone
    pub begins_same : (entries : List NameEntry) (bytes : List ℕ) (x y : LogItem) (r s : List ℕ) → BeginsWithRecord entries mode bytes x r → BeginsWithRecord entries mode bytes y s → (x ≡ y) × (r ≡ s)
    begins_same entries bytes x y r s (n, whole, answer, is) (m, whole', answer', is') =
        let same : n ≡ m = same_number n m (sym whole ∙ whole') in
        let other = subst (λ (k : ℕ). IsRecordAnswer entries mode (take k (behind_blanks bytes)) (Ok y)) (sym same) answer' in
        (ok_is x y (law entries mode (take n (behind_blanks bytes)) (Ok x) (Ok y) answer other), is ∙ ap (λ (k : ℕ). drop k (behind_blanks bytes)) same ∙ sym is')

    by_answer : (entries : List NameEntry) (bytes : List ℕ) (x : LogItem) (r : List ℕ) (refusal : LogRefusal)
        → BeginsWithRecord entries mode bytes x r → (n : ℕ) → HasRecord bytes n
        → IsRecordAnswer entries mode (record_bytes bytes n) (Err refusal) → ⊥
    by_answer entries bytes x r refusal (m, whole, answer, is) n whole' answer' =
        let same : m ≡ n = same_number m n (sym whole ∙ whole') in
        let mine = subst (λ (k : ℕ). IsRecordAnswer entries mode (take k (behind_blanks bytes)) (Ok x)) same answer in
        ok_not_err x refusal (law entries mode (take n (behind_blanks bytes)) (Ok x) (Err refusal) mine answer')

    -- and it is not refused
    pub begins_not_refused : (entries : List NameEntry) (bytes : List ℕ) (x : LogItem) (r : List ℕ)
        (refusal : LogRefusal) → BeginsWithRecord entries mode bytes x r → RefusesText entries mode bytes refusal
        → ⊥
    begins_not_refused entries bytes x r log.TooLong begins refused = none_some begins.0 (sym refused.0 ∙ begins.1)
    begins_not_refused entries bytes x r log.Truncated begins refused = refused
    begins_not_refused entries bytes x r log.NoMemory begins refused = refused
    begins_not_refused entries bytes x r (log.BadRecord place) begins refused = by_answer entries bytes x r (log.BadRecord place) begins refused.0 refused.1 refused.2
    begins_not_refused entries bytes x r (log.UnknownName place) begins refused = by_answer entries bytes x r (log.UnknownName place) begins refused.0 refused.1 refused.2
    begins_not_refused entries bytes x r (log.Arity place) begins refused = by_answer entries bytes x r (log.Arity place) begins refused.0 refused.1 refused.2
    begins_not_refused entries bytes x r (log.SortClash place) begins refused = by_answer entries bytes x r (log.SortClash place) begins refused.0 refused.1 refused.2
    begins_not_refused entries bytes x r log.TimeTooLarge begins refused = by_answer entries bytes x r log.TimeTooLarge begins refused.0 refused.1 refused.2

    -- no record at the front has a time that is not below the clock
    abbrev pub Stops : List NameEntry → ℕ → List ℕ → Type 0
    Stops entries clock rest = (item : LogItem) (more : List ℕ) → BeginsWithRecord entries mode rest item more → time_of (record_of item) < clock

    pub refused_stops : (entries : List NameEntry) (clock : ℕ) (rest : List ℕ) (refusal : LogRefusal) → RefusesText entries mode rest refusal → Stops entries clock rest
    refused_stops entries clock rest refusal refused item more begins = absurd (begins_not_refused entries rest item more refusal begins refused)

    pub pending_stops : (entries : List NameEntry) (clock : ℕ) (rest : List ℕ) → IsPending rest → Stops entries clock rest
    pending_stops entries clock rest pending item more begins = absurd (none_some begins.0 (sym pending.0 ∙ begins.1))

    pub blank_stops : (entries : List NameEntry) (clock : ℕ) (rest : List ℕ) → behind_blanks rest ≡ [] → Stops entries clock rest
    blank_stops entries clock rest blank item more begins = absurd (none_some begins.0 (sym (ap record_length blank) ∙ begins.1))

    pub falling_stops : (entries : List NameEntry) (clock : ℕ) (rest : List ℕ) (given : ℕ) → IsFallingRecord entries mode clock rest given → Stops entries clock rest
    falling_stops entries clock rest given falling item more begins =
        let same = begins_same entries rest falling.item item falling.more more falling.begins begins in
        omega (arith, falling.below, ap (λ (x : LogItem). time_of (record_of x)) same.0)

    blank_not_refused : (entries : List NameEntry) (rest : List ℕ) (refusal : LogRefusal) → behind_blanks rest ≡ [] → RefusesText entries mode rest refusal → ⊥
    blank_not_refused entries rest log.TooLong blank h = omega (arith, h.1, ap length blank)
    blank_not_refused entries rest log.Truncated blank h = h
    blank_not_refused entries rest log.NoMemory blank h = h
    blank_not_refused entries rest (log.BadRecord place) blank h = none_some h.0 (sym (ap record_length blank) ∙ h.1)
    blank_not_refused entries rest (log.UnknownName place) blank h = none_some h.0 (sym (ap record_length blank) ∙ h.1)
    blank_not_refused entries rest (log.Arity place) blank h = none_some h.0 (sym (ap record_length blank) ∙ h.1)
    blank_not_refused entries rest (log.SortClash place) blank h = none_some h.0 (sym (ap record_length blank) ∙ h.1)
    blank_not_refused entries rest log.TimeTooLarge blank h = none_some h.0 (sym (ap record_length blank) ∙ h.1)

    -- up to where records stop, those that are accepted are the same
    pub read_same : (entries : List NameEntry) (clock : ℕ) (bytes : List ℕ) (xs : List LogItem) (r : List ℕ)
        (ys : List LogItem) (s : List ℕ) → Stops entries (clock_after clock (records_of xs)) r
        → Stops entries (clock_after clock (records_of ys)) s
        → SpellsRecords entries mode bytes xs r → NeverFall clock (records_of xs)
        → SpellsRecords entries mode bytes ys s → NeverFall clock (records_of ys) → (xs ≡ ys)
        × (behind_blanks r ≡ behind_blanks s)
    read_same entries clock bytes [] r [] s r-stops s-stops p m q n = (refl, p ∙ sym q)
    read_same entries clock bytes [] r (y ∷ ys) s r-stops s-stops p m q n =
        let below = r-stops y q.0 (begins_blanks entries mode bytes r y q.0 (sym p) q.1) in
        absurd (omega (arith, below, n.0))
    read_same entries clock bytes (x ∷ xs) r [] s r-stops s-stops p m q n =
        let below = s-stops x p.0 (begins_blanks entries mode bytes s x p.0 (sym q) p.1) in
        absurd (omega (arith, below, m.0))
    read_same entries clock bytes (x ∷ xs) r (y ∷ ys) s r-stops s-stops p m q n =
        let same = begins_same entries bytes x y p.0 q.0 p.1 q.1 in
        let time : time_of (record_of y) ≡ time_of (record_of x) = ap (λ (z : LogItem). time_of (record_of z)) (sym same.0) in
        let stops = subst (λ (k : ℕ). Stops entries (clock_after k (records_of ys)) s) time s-stops in
        let others = read_same entries (time_of (record_of x)) p.0 xs r ys s r-stops stops p.2 m.1
        (subst (λ (b : List ℕ). SpellsRecords entries mode b ys s) (sym same.1) q.2)
        (subst (λ (k : ℕ). NeverFall k (records_of ys)) time n.1) in
        (rw (same.0, others.0) refl, others.1)

  -- where a record is refused, records stop
  pub refusal_stops : (t : TakenLog) (after : Stream) (why : RecordRefusal) → IsRestRefusedAs t after why → Stops t.reading.mode t.reading.entries (clock_behind t) t.rest
  refusal_stops t after (records.Log why) (inl h) = refused_stops t.reading.mode t.reading.entries (clock_behind t) t.rest why h
  refusal_stops t after (records.Log why) (inr (is, truncated, met)) = pending_stops t.reading.mode t.reading.entries (clock_behind t) t.rest truncated.0
  refusal_stops t after (records.Falling given at) h = falling_stops t.reading.mode t.reading.entries (clock_behind t) t.rest given h.1
  refusal_stops t after records.InputLimit h = pending_stops t.reading.mode t.reading.entries (clock_behind t) t.rest h.0

  -- ---- what was taken

  -- what a gate that tells was seen to take is what was taken between
  taken_at : (P : List ℕ → List ℕ → Type 0) (taken given : List ℕ) (before after : Option Exchange)
      (x y : Exchange) → before ≡ Some x → after ≡ Some y → Exchanged P taken given before after → taken
      ≡ taken_between x y
  taken_at P taken given before after x y e f h =
      let told = subst (λ (b : Option Exchange). OfCalls (IsExchange P taken given) (Some x) b) f (subst (λ (a : Option Exchange). OfCalls (IsExchange P taken given) a after) e h.calls) in
      sym told.took

  -- a gate that told tells still
  pub still_told : (x : Exchange) (after : Option Exchange) → GrewWhereTold (Some x) after → (y : Exchange) × (after ≡ Some y) × Grew x y
  still_told x None grew = absurd grew
  still_told x (Some y) grew = (y, refl, grew)

  pub tells_still : (before after : Option Exchange) (x : Exchange) → before ≡ Some x → GrewWhereTold before after → (y : Exchange) × (after ≡ Some y) × Grew x y
  tells_still before after x e grew = still_told x after (subst (λ (b : Option Exchange). GrewWhereTold b after) e grew)

  -- all was taken where nothing is left
  all_between : (x y : Exchange) → Grew x y → input_left y ≡ [] → taken_between x y ≡ input_left x
  all_between x y grew ended =
      let count = y.taken - x.taken in
      let behind : drop count (input_left x) ≡ [] = left-since x y grew ∙ ended in
      sym (append-nil (take count (input_left x))) ∙ ap (λ (t : List ℕ). take count (input_left x) ++ t) (sym behind) ∙ take-append-drop count (input_left x)

  between_le : (x y : Exchange) → length (taken_between x y) ≤ length (input_left x)
  between_le x y = omega (arith, length-take (y.taken - x.taken) (input_left x))

  -- ---- what a run meets

  -- a log that was taken to its end meets no refusal
  module _ (P : List ℕ → List ℕ → Type 0) (r : LogReading) (before after : Stream) (w : ReadsLogToEnd P r verdicts.Accepted before after) where
    pub whole_meets_none : (x y : Exchange) → before.told ≡ Some x → after.told ≡ Some y → (read : List LogItem) (rest : List ℕ) → AcceptsRecords r.entries r.mode r.clock (taken_between x y) read rest
        → (why : RecordRefusal) → IsRestRefusedAs (taken_log r read (taken_between x y) rest) after why → ⊥
    whole_meets_none x y told told' read rest accepts why refused = by why refused (read_same r.mode r.entries r.clock bytes read rest w.log.read w.log.rest
        (refusal_stops (taken_log r read bytes rest) after why refused)
        (blank_stops r.mode r.entries (clock_after r.clock (records_of w.log.read)) w.log.rest w.ends.0) accepts.spelled accepts.rising mine w.log.accepts.rising)
      where
        bytes : List ℕ
        bytes = taken_between x y

        taken : w.log.taken ≡ taken_between x y
        taken = taken_at P w.log.taken w.log.given before.told after.told x y told told' w.log.exchanged

        mine : SpellsRecords r.entries r.mode (taken_between x y) w.log.read w.log.rest
        mine = subst (λ (b : List ℕ). SpellsRecords r.entries r.mode b w.log.read w.log.rest) taken w.log.accepts.spelled

        blank : (read ≡ w.log.read) × (behind_blanks rest ≡ behind_blanks w.log.rest) → behind_blanks rest ≡ []
        blank same = same.1 ∙ w.ends.0

        by : (why : RecordRefusal) → IsRestRefusedAs (taken_log r read (taken_between x y) rest) after why → (read ≡ w.log.read) × (behind_blanks rest ≡ behind_blanks w.log.rest) → ⊥
        by (records.Log why) (inl h) same = blank_not_refused r.mode r.entries rest why (blank same) h
        by (records.Log why) (inr (is, truncated, met)) same = omega (arith, truncated.1, ap length (blank same))
        by (records.Falling given at) h same = none_some h.1.begins.0 (sym (ap record_length (blank same)) ∙ h.1.begins.1)
        by records.InputLimit h same = omega (arith, h.1, w.ends.1.0, ap length taken)

    -- and its records are those of the whole input
    pub whole_read : (whole : IsWholeLog r before.told) → w.log.read ≡ whole.read
    whole_read whole =
        let x = whole.gate in
        let t = tells_still before.told after.told x whole.told w.log.exchanged.grew in
        let y = t.0 in
        let all = taken_at P w.log.taken w.log.given before.told after.told x y whole.told t.1 w.log.exchanged ∙ all_between x y t.2 (subst IsAtEnd t.1 w.ends.1.1) in
        let spelled = subst (λ (b : List ℕ). SpellsRecords r.entries r.mode b w.log.read w.log.rest) all w.log.accepts.spelled in
        (read_same r.mode r.entries r.clock (input_left x) w.log.read w.log.rest whole.read whole.log.0
        (blank_stops r.mode r.entries (clock_after r.clock (records_of w.log.read)) w.log.rest w.ends.0)
        (blank_stops r.mode r.entries (clock_after r.clock (records_of whole.read)) whole.log.0 whole.log.2) spelled w.log.accepts.rising whole.log.1 whole.rising).0

  -- a refusal after the bytes taken is one after a whole log, whose records end there
  module _ (P : List ℕ → List ℕ → Type 0) (r : LogReading) (before after : Stream) (why : RecordRefusal)
      (w : ReadsLogToEnd P r (verdicts.Refused why) before after) (whole : IsWholeLog r before.told) where
    abbrev x : Exchange
    x = whole.gate

    abbrev now : (y : Exchange) × (after.told ≡ Some y) × Grew x y
    now = tells_still before.told after.told x whole.told w.log.exchanged.grew

    abbrev y : Exchange
    y = now.0

    abbrev more : List ℕ
    more = drop (y.taken - x.taken) (input_left x)

    abbrev clock : ℕ
    clock = clock_after r.clock (records_of w.log.read)

    taken : w.log.taken ≡ taken_between x y
    taken = taken_at P w.log.taken w.log.given before.told after.told x y whole.told now.1 w.log.exchanged

    all_taken : w.log.taken ++ more ≡ input_left x
    all_taken = ap (λ (t : List ℕ). t ++ more) taken ∙ take-append-drop (y.taken - x.taken) (input_left x)

    -- what is left of it is all of it
    nothing_more : (rest : List ℕ) → Stops r.mode r.entries clock rest → SpellsRecords r.entries r.mode (input_left x) w.log.read rest → behind_blanks rest ≡ []
    nothing_more rest stops spelled =
        (read_same r.mode r.entries r.clock (input_left x) w.log.read rest whole.read whole.log.0 stops
        (blank_stops r.mode r.entries (clock_after r.clock (records_of whole.read)) whole.log.0 whole.log.2) spelled w.log.accepts.rising whole.log.1 whole.rising).1 ∙ whole.log.2

    longer : SpellsRecords r.entries r.mode (input_left x) w.log.read (w.log.rest ++ more)
    longer =
        subst (λ (b : List ℕ). SpellsRecords r.entries r.mode b w.log.read (w.log.rest ++ more)) all_taken
        (SpellsRecords-append r.entries r.mode w.log.taken w.log.read w.log.rest more w.log.accepts.spelled)

    pub refused_not_whole : ⊥
    refused_not_whole = by why w.ends.0
      where
        by : (why : RecordRefusal) → IsRestRefusedAs (taken_log r w.log.read w.log.taken w.log.rest) after why → ⊥
        by (records.Log refusal) (inl h) =
            let refused = RefusesFront-append r.entries r.mode w.log.rest more refusal h in
            blank_not_refused r.mode r.entries (w.log.rest ++ more) refusal
            (nothing_more (w.log.rest ++ more) (refused_stops r.mode r.entries clock (w.log.rest ++ more) refusal
            refused) longer) refused
        by (records.Log refusal) (inr (is, truncated, met)) =
            let all = taken ∙ all_between x y now.2 (subst IsAtEnd now.1 met.1) in
            let spelled = subst (λ (b : List ℕ). SpellsRecords r.entries r.mode b w.log.read w.log.rest) all w.log.accepts.spelled in
            omega (arith, truncated.1, ap length (nothing_more w.log.rest (pending_stops r.mode r.entries clock w.log.rest truncated.0) spelled))
        by (records.Falling given at) h =
            let f = h.1 in
            let begins = BeginsWithRecord-append r.entries r.mode w.log.rest f.item f.more more f.begins in
            let still : IsFallingRecord r.entries r.mode clock (w.log.rest ++ more) given =
            record { item = f.item; more = f.more ++ more; begins = begins; time = f.time; below = f.below } in
            let blank = nothing_more (w.log.rest ++ more) (falling_stops r.mode r.entries clock (w.log.rest ++ more) given still) longer in
            none_some begins.0 (sym (ap record_length blank) ∙ begins.1)
        by records.InputLimit h = omega (arith, h.1, ap length taken, between_le x y, whole.below)
