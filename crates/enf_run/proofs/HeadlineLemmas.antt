-- The headline, from what holds at each status.
use Rattle.enf_run.proofs.Vocabulary.{◌≡◌, ◌≢◌, ℕ, ◌+◌, ◌^◌, ◌<◌, List, [], ◌++◌, refl, sym, ap, subst, ◌∙◌, length, drop, take, get_or, inl, inr, Option, None, Some, option_map, append-nil, drop_at}
use Rattle.enf_run.proofs.Vocabulary.{Contents, FileBytes, with_contents, Exchange, AtEachMark, OfCalls, taken_bytes, Stream, Gave, with_given, WritesFile, OfCalls-none, OfCalls-weaker, All-nil}
use Rattle.enf_run.proofs.Vocabulary.{AcceptedIsNotRefused, out_steps, trace_of, Start, start_behind, Rule, OneSignatureAnswer, NameEntry, BeginsWithRecord, RefusesFront as RefusesLog, SpellsRecords}
use Rattle.enf_run.proofs.Vocabulary.{LogItem, LogMode, Input, UpToDate, LogSetting, enforced_from, Call, LeavesGate, Exchanged, IsExchange, LogEndsWithStatus, HasTakenLog, Headline, IsLineFront}
use Rattle.enf_run.proofs.Vocabulary.{IsKeptToEnd, IsKeptSoFar, IsRestRefusedFor, IsKeptAtSave, action_lines, text_of_log_refusal, records_of, IsAskedRun, IsReadyState, IsStateText, StartsAt, States}
use Rattle.enf_run.proofs.Vocabulary.{CutsRun, PausesLog, RunsLog, taken_log_of, LogEndsAs, IsRestRefusedAs, TakenLog, clock_behind, Enforce, AsksToEnforce, BreaksOffLog, CutsLog, EnforceLacks}
use Rattle.enf_run.proofs.Vocabulary.{EnforceOutcome, EnforceRefused, EnforcesLog, FailsToWrite, IsEnforceDone, PausesRun, RefusesRecord, WhereItStarts, WritesRun, RunOutcome, refusal_status}
use Rattle.enf_run.proofs.Vocabulary.{text_of_record_refusal, text_of_refusal, IsReported, RecordRefusal, Refusal, Seen, seen_of, AsksToldPolicy, TellBytes, IsEnforceForm, Cut, Judged, Verdict}
use Rattle.enf_run.proofs.Vocabulary.{Status, answer_of_rules}
use Rattle.std.specs.Prelude.{codes, decimal, Ok}
use Rattle.enf_run.proofs.RequestLemmas.{OneTextAnswer, StartsTold, at_told, outcome_at, same_sources, same_states}
use Rattle.enf_run.proofs.ExchangeLemmas.{gave_more, gave_none}
use Rattle.enf_run.specs.declared.refusals.RecordRefusal.TheVariants as records
use Rattle.enf_run.specs.declared.refusals.Refusal.TheVariants as refusals
use Rattle.enf_run.specs.declared.endings.Cut.TheVariants as cuts
use Rattle.enf_run.specs.declared.intake.Verdict.TheVariants as verdicts
use Rattle.enf_run.specs.declared.refusals.Status.TheVariants as statuses

-- a device that told one thing told no other
same_exchange : (x y : Exchange) → ◌≡◌ {A = Option Exchange} (Some x) (Some y) → x ≡ y
same_exchange x y e = cc

-- what a device was given by the calls
pub given_by : (text : List ℕ) (before after : Option Exchange) → Gave text before after → OfCalls (λ x. x.given ≡ text) before after
given_by text None after gave = tt
given_by text (Some x) None gave = tt
given_by text (Some x) (Some y) gave =
    ap (λ (e : Exchange). drop (length x.given) e.given) (same_exchange y (with_given text x) gave) ∙ drop_at x.given text (length x.given) refl

-- files that tell hold these bytes under a name
pub held : (told : Option (List ℕ → Contents)) (files : List ℕ → Contents) (name bytes : List ℕ) → told ≡ Some files → files name ≡ FileBytes bytes → TellBytes told name bytes
held told files name bytes tell holds = subst (λ (o : Option (List ℕ → Contents)). TellBytes o name bytes) (sym tell) holds

-- what is asked is what the statuses speak of
abbrev pub asks_policy : {Gate : Type 0} (call : Call Gate) (states : States) (start : Start)
    (entries : List NameEntry) (rules : List Rule) → IsAskedRun call.words call.before.files.contents states start
    entries rules → AsksToldPolicy (IsEnforceForm states) call entries rules
asks_policy call states start entries rules a =
    let told = call.before.files.contents in
    record {
      signature_file = a.signature_file;
      policy_file = a.policy_file;
      form = a.form;
      signature_bytes = a.signature;
      policy_bytes = a.policy;
      signature_told = held told a.files a.signature_file a.signature a.tell a.first;
      is_signature = record { short = a.is_signature.0; answer = a.is_signature.1 };
      policy_told = held told a.files a.policy_file a.policy a.tell a.second;
      is_policy = record { reads = record { short = a.is_policy.0; answer = answer_of_rules entries a.policy rules a.is_policy.1 }; accepted = a.accepted };
    }

-- and so is from where it starts
starts_so : (resumed : Option (List ℕ)) (told : Option (List ℕ → Contents)) (files : List ℕ → Contents)
    (entries : List NameEntry) (rules : List Rule) (signature policy : List ℕ) (start : Start) → told
    ≡ Some files
    → StartsAt resumed files entries rules signature policy start → StartsTold resumed told entries rules signature policy start
starts_so None told files entries rules signature policy start tell is = is
starts_so (Some file) told files entries rules signature policy start tell (state, holds, ready) = (state, held told files file state tell holds, ready)

-- the words of a refusal are those of the report
refused_for : (t : TakenLog) (after : Stream) (why : RecordRefusal) → t.reading.mode ≡ Input
    → IsRestRefusedAs t after why → IsRestRefusedFor t.reading.entries (clock_behind t) t.count t.rest after
    (text_of_record_refusal why)
refused_for t after (records.Log why) input (inl refused) = inl (why, subst (λ (mode : LogMode). RefusesLog t.reading.entries mode t.rest why) input refused, refl)
refused_for t after (records.Log why) input (inr (is, truncated, met)) = inr (inl (truncated, met, ap text_of_log_refusal is))
refused_for t after (records.Falling given at) input (is, f) =
    inr (inr (inl (
      f.item,
      f.more,
      subst (λ (mode : LogMode). BeginsWithRecord t.reading.entries mode t.rest f.item
          f.more) input f.begins,
      f.below,
      (λ i. codes "time " ++ decimal (f.time i) ++ codes " is below " ++ decimal
          (is i)),
    )))
refused_for t after records.InputLimit input (pending, limit) = inr (inr (inr (pending, limit, refl)))

-- the last line of the report, after so many accepted records
abbrev IsLast : Verdict → ℕ → List ℕ → Type 0
IsLast verdicts.Accepted accepted last = last ≡ []
IsLast verdicts.Fault accepted last = IsLineFront (codes "read fault\n") last
IsLast (verdicts.Refused why) accepted last = IsLineFront (text_of_refusal (refusals.Record (accepted + 1) why)) last

-- the status of a run after a log that ended so
abbrev status_after : Verdict → Status
status_after verdicts.Accepted = statuses.Done
status_after verdicts.Fault = statuses.ReadFault
status_after (verdicts.Refused why) = statuses.Record

has_ended : (entries : List NameEntry) (rules : List Rule) (start : Start) (read : List LogItem) (taken rest last : List ℕ) (before after : Stream) (verdict : Verdict)
    → LogEndsAs (taken_log_of (enforced_from entries rules start) read taken rest) before after verdict
    → IsLast verdict (length read) last → LogEndsWithStatus entries start.clock read taken rest last before
    after (status_after verdict)
has_ended entries rules start read taken rest last before after verdicts.Accepted (blank, met, reads) line = (blank, met, reads, line)
has_ended entries rules start read taken rest last before after verdicts.Fault (pending, reads) line = (pending, reads, line)
has_ended entries rules start read taken rest last before after (verdicts.Refused why) (refused, reads) line =
    (text_of_record_refusal why, refused_for (taken_log_of (enforced_from entries rules start) read taken rest) after why refl refused, reads, line)

-- a log was run, and the last line after it is this
record Ran (s : LogSetting) (verdict : Verdict) (before after : Seen) (last : List ℕ) : Type 0 where
  pub ran : RunsLog s verdict before after
  pub line : IsLast verdict (length ran.answers.read) last

-- a line, or a part of it
record HasLine (why : Refusal) (before after : Stream) : Type 0 where
  pub text : List ℕ
  pub missing : List ℕ
  pub is : text_of_refusal why ≡ text ++ missing
  pub gave : Gave text before.told after.told

line_given : (why : Refusal) (before after : Stream) → IsReported (text_of_refusal why) before after → HasLine why before after
line_given why before after (inl whole) = record { text = text_of_refusal why; missing = []; is = sym (append-nil (text_of_refusal why)); gave = whole.0 }
line_given why before after (inr part) = record { text = part.0.front; missing = part.0.part.rest; is = part.0.part.split; gave = part.0.gave }

module _ {Gate : Type 0} (call : Call Gate) where
  -- no log was taken at another status
  other_status : (saved : Option (List ℕ)) (result : Status) → result ≢ statuses.Done
      → result ≢ statuses.Record → result ≢ statuses.ReadFault
      → HasTakenLog saved call.before.gate call.after.gate result → ⊥
  other_status saved result done refused fault (inl (is, none)) = done is
  other_status saved result done refused fault (inr (inl is)) = refused is
  other_status saved result done refused fault (inr (inr (is, moved))) = fault is

  module _ (one : OneSignatureAnswer) (one_text : OneTextAnswer) (accepted : AcceptedIsNotRefused) (states : States)
      (start : Start) (entries : List NameEntry) (rules : List Rule)
      (asks : AsksToldPolicy (IsEnforceForm states) call entries rules)
      (starts : StartsTold states.resumed call.before.files.contents entries rules asks.signature_bytes asks.policy_bytes start) where
    abbrev s : LogSetting
    s = enforced_from entries rules start

    abbrev before : Seen
    before = seen_of call.before.gate call.before.report

    -- what holds from wherever the run may start holds in the setting that is asked for
    asked_for : (his : States) (asked : AsksToEnforce call his) (P : LogSetting → Type 0) → WhereItStarts his asked P → P s
    asked_for his asked P ran = at_told one one_text accepted call states entries rules asks his asked start starts P ran

    -- and the state is saved to the file that is asked for, or to none
    same_file : (his : States) → AsksToEnforce call his → states.saved ≡ his.saved
    same_file his asked = (same_states one one_text accepted call states entries rules asks his asked.entries asked.rules asked.asks).1

    abbrev AtReads : Type 0
    AtReads = OfCalls (AtEachMark (IsKeptSoFar entries rules start)) call.before.gate.told call.after.gate.told

    so_far : (taken given : List ℕ) → UpToDate s taken given → IsKeptSoFar entries rules start taken given
    so_far taken given u =
        let a = u.answers in
        record {
          answered = record {
            read = a.read;
            rest = u.rest;
            spelled = a.accepts.spelled;
            rising = a.accepts.rising;
            out = a.out;
            text = a.text;
            lawful = a.owed.lawful;
            justified = a.owed.justified;
          };
          pending = u.pending;
          so_far = a.owed.so_far;
        }

    -- at each read of a log that was run, and where the gate is as it was
    at_reads : (taken given : List ℕ) → Exchanged (UpToDate s) taken given call.before.gate.told call.after.gate.told → AtReads
    at_reads taken given exchanged =
        OfCalls-weaker (IsExchange (UpToDate s) taken given) (AtEachMark (IsKeptSoFar entries rules start)) call.before.gate.told call.after.gate.told
        (λ x is k d below. let mark = get_or x.marks k d in so_far (take mark.0 x.input) (take mark.1 x.given) (is.marks k d below)) exchanged.calls

    no_reads : LeavesGate call → AtReads
    no_reads left =
        let P = AtEachMark (IsKeptSoFar entries rules start) in
        subst (λ (b : Option Exchange). OfCalls P call.before.gate.told b) (sym (ap (λ (stream : Stream). stream.told) left.1))
        (OfCalls-none P call.before.gate.told (λ input. All-nil (λ (mark : ℕ × ℕ). IsKeptSoFar entries rules start (take mark.0 input) (take mark.1 []))))

    -- so it is by how the work of a run ends
    reads_run : (report : Stream) (his : States) (judged : Judged) → EnforcesLog call report his judged → AtReads
    reads_run report his judged log =
        let ran = asked_for his log.asks (λ o. RunsLog o judged.verdict before (seen_of call.after.gate report)) log.ran in
        at_reads ran.taken ran.given ran.exchanged

    reads_met : (report : Stream) (why : Refusal) → EnforceRefused call report why → AtReads
    reads_met report refusals.Words m = absurd m
    reads_met report (refusals.Signature why) m = no_reads m.1.gate
    reads_met report (refusals.Policy why) m = no_reads m.1.gate
    reads_met report (refusals.State why) m = no_reads m.1.gate
    reads_met report (refusals.Record number why) m = reads_run report m.states (record { accepted = m.accepted; verdict = verdicts.Refused why }) m.log
    reads_met report refusals.ReadFault (inl (inl m)) = no_reads m.gate
    reads_met report refusals.ReadFault (inl (inr m)) = no_reads m.gate
    reads_met report refusals.ReadFault (inr m) = reads_run report m.states (record { accepted = m.accepted; verdict = verdicts.Fault }) m.log

    reads_paused : (report : Stream) (file : List ℕ) → PausesRun call report file → AtReads
    reads_paused report file p =
        let ran = asked_for p.states p.asks (λ o. PausesLog o before (seen_of call.after.gate report)) p.ran in
        at_reads ran.taken ran.given ran.exchanged

    reads_cut : (report : Stream) (cut : Cut) → CutsRun s before (seen_of call.after.gate report) cut → AtReads
    reads_cut report cuts.WriteFault (inl at) = at_reads at.short.taken at.short.given at.short.exchanged
    reads_cut report cuts.WriteFault (inr (inl at)) = at_reads at.short.taken at.short.given at.short.exchanged
    reads_cut report cuts.WriteFault (inr (inr at)) = at_reads at.0.short.taken at.0.short.given at.0.short.exchanged
    reads_cut report cuts.NoMemory at = at_reads at.short.taken at.short.given at.short.exchanged

    reads_log_cut : (report : Stream) (cut : Cut) → CutsLog call report cut → AtReads
    reads_log_cut report cut log = reads_cut report cut (asked_for log.states log.asks (λ o. CutsRun o before (seen_of call.after.gate report) cut) log.ran)

    reads_failed : (report : Stream) → FailsToWrite call report → AtReads
    reads_failed report (inl failed) = reads_log_cut report cuts.WriteFault failed
    reads_failed report (inr written) = reads_paused report written.file written.paused

    reads_lacked : (report : Stream) → EnforceLacks call report → AtReads
    reads_lacked report (inl first) = no_reads first.3.gate
    reads_lacked report (inr (inl within)) = reads_log_cut report cuts.NoMemory within
    reads_lacked report (inr (inr saving)) = reads_paused report saving.file saving.paused

    reads_of : (result : Status) → EnforceOutcome call result → AtReads
    reads_of statuses.Done (inl done) = reads_run call.after.report done.states (record { accepted = done.accepted; verdict = verdicts.Accepted }) done.log
    reads_of statuses.Done (inr written) = reads_paused call.after.report written.file written.paused
    reads_of statuses.Words o = reads_met o.between o.why o.meets
    reads_of statuses.Files o = reads_met o.between o.why o.meets
    reads_of statuses.Record o = reads_met o.between o.why o.meets
    reads_of statuses.ReadFault o = reads_met o.between o.why o.meets
    reads_of statuses.WriteFault o = reads_failed call.after.report o
    reads_of statuses.NoMemory (inl o) = reads_lacked o.between o.lacks
    reads_of statuses.NoMemory (inr o) = reads_met o.between o.why o.meets
    reads_of statuses.Violated o = reads_met o.between o.why o.meets

    -- the report gave this text, where it tells
    abbrev HasSaid : List ℕ → Type 0
    HasSaid text = OfCalls (λ said. said.given ≡ text) call.before.report.told call.after.report.told

    abbrev AtEnd : Status → Type 0
    AtEnd result = OfCalls (λ log. IsKeptToEnd entries rules start call.before.gate call.after.gate result
        (taken_bytes log) log.given HasSaid) call.before.gate.told call.after.gate.told

    -- a log that was run is kept, where the report was so after it
    kept : (report : Stream) (verdict : Verdict) (last : List ℕ)
        → Ran s verdict before (seen_of call.after.gate report) last
        → Gave last report.told call.after.report.told → AtEnd (status_after verdict)
    kept report verdict last mine gave =
        let a = mine.ran.answers in
        let text : List ℕ = action_lines entries rules a.out ++ last in
        let of_report = given_by text call.before.report.told call.after.report.told
        (gave_more (action_lines entries rules a.out) last call.before.report.told report.told
        call.after.report.told mine.ran.actions.gave gave) in
        OfCalls-weaker (IsExchange (UpToDate s) mine.ran.taken mine.ran.given)
        (λ log. IsKeptToEnd entries rules start call.before.gate call.after.gate (status_after verdict)
        (taken_bytes log) log.given HasSaid) call.before.gate.told call.after.gate.told
        (λ log exchange. record {
          answered = record {
            read = a.read;
            rest = mine.ran.rest;
            spelled = subst (λ (b : List ℕ). SpellsRecords entries Input b a.read mine.ran.rest) (sym exchange.took) a.accepts.spelled;
            rising = a.accepts.rising;
            out = a.out;
            text = exchange.gave ∙ a.text;
            lawful = a.owed.lawful;
            justified = a.owed.justified;
          };
          last = last;
          ended = has_ended entries rules start a.read (taken_bytes log) mine.ran.rest last call.before.gate call.after.gate verdict
              (subst (λ (b : List ℕ). LogEndsAs (taken_log_of s a.read b mine.ran.rest) call.before.gate call.after.gate verdict) (sym exchange.took) mine.ran.ends) mine.line;
          is_trace = a.owed.is_trace;
          satisfied = a.owed.satisfied;
          reported = of_report;
          alone = a.owed.alone;
        }) mine.ran.exchanged.calls

    -- a log was run, and so many records of it were accepted
    abbrev Counted : Judged → Stream → LogSetting → Type 0
    Counted judged report o = (ran : RunsLog o judged.verdict before (seen_of call.after.gate report)) × (judged.accepted ≡ length ran.answers.read)

    counted : (report : Stream) (his : States) (judged : Judged) → EnforcesLog call report his judged → Counted judged report s
    counted report his judged log = asked_for his log.asks (Counted judged report) (λ from is. (log.ran from is, log.counts from is))

    kept_record : (between : Stream) (number : ℕ) (why : RecordRefusal) → IsReported (text_of_refusal (refusals.Record number why)) between call.after.report
        → RefusesRecord call between number why → AtEnd statuses.Record
    kept_record between number why reported m =
        let line = line_given (refusals.Record number why) between call.after.report reported in
        let mine = counted between m.states (record { accepted = m.accepted; verdict = verdicts.Refused why }) m.log in
        let number_is : number ≡ length mine.0.answers.read + 1 = m.number_is ∙ ap (λ (n : ℕ). n + 1) mine.1 in
        kept between (verdicts.Refused why) line.text
        (record { ran = mine.0; line = (line.missing, subst (λ (n : ℕ). text_of_refusal (refusals.Record n why) ≡ line.text ++ line.missing) number_is line.is) }) line.gave

    kept_fault : (between : Stream) → IsReported (text_of_refusal refusals.ReadFault) between call.after.report → BreaksOffLog call between → AtEnd statuses.ReadFault
    kept_fault between reported m =
        let line = line_given refusals.ReadFault between call.after.report reported in
        let mine = counted between m.states (record { accepted = m.accepted; verdict = verdicts.Fault }) m.log in
        kept between verdicts.Fault line.text (record { ran = mine.0; line = (line.missing, line.is) }) line.gave

    -- where no state is to be saved, none is
    none_saved : (file : List ℕ) → PausesRun call call.after.report file → HasTakenLog states.saved call.before.gate call.after.gate statuses.Done → ⊥
    none_saved file p (inl (is, none)) = let some : ◌≡◌ {A = Option (List ℕ)} None (Some file) = sym none ∙ same_file p.states p.asks ∙ p.saves in absurd cc
    none_saved file p (inr (inl is)) = cc
    none_saved file p (inr (inr (is, moved))) = cc

    -- where the gate was left alone, no read of it failed
    none_taken : LeavesGate call → HasTakenLog states.saved call.before.gate call.after.gate statuses.ReadFault → ⊥
    none_taken left (inl (is, none)) = cc
    none_taken left (inr (inl is)) = cc
    none_taken left (inr (inr (is, moved))) = moved (ap (λ (stream : Stream). stream.read_faults) left.1)

    kept_of : (result : Status) → EnforceOutcome call result → HasTakenLog states.saved call.before.gate call.after.gate result → AtEnd result
    kept_of statuses.Done (inr written) taken = absurd (none_saved written.file written.paused taken)
    kept_of statuses.Done (inl done) taken =
        let mine = counted call.after.report done.states (record { accepted = done.accepted; verdict = verdicts.Accepted }) done.log in
        kept call.after.report verdicts.Accepted [] (record { ran = mine.0; line = refl }) (gave_none call.after.report.told)
    kept_of statuses.Record o taken = by o.why o.status_is o.meets o.line
      where
        by : (why : Refusal) → statuses.Record ≡ refusal_status why → EnforceRefused call o.between why → IsReported (text_of_refusal why) o.between call.after.report → AtEnd statuses.Record
        by refusals.Words is m line = absurd m
        by (refusals.Signature why) is m line = cc
        by (refusals.Policy why) is m line = cc
        by (refusals.State why) is m line = cc
        by (refusals.Record number why) is m line = kept_record o.between number why line m
        by refusals.ReadFault is m line = cc
    kept_of statuses.ReadFault o taken = by o.why o.status_is o.meets o.line
      where
        by : (why : Refusal) → statuses.ReadFault ≡ refusal_status why → EnforceRefused call o.between why → IsReported (text_of_refusal why) o.between call.after.report → AtEnd statuses.ReadFault
        by refusals.Words is m line = absurd m
        by (refusals.Signature why) is m line = cc
        by (refusals.Policy why) is m line = cc
        by (refusals.State why) is m line = cc
        by (refusals.Record number why) is m line = cc
        by refusals.ReadFault is (inl (inl missed)) line = absurd (none_taken missed.gate taken)
        by refusals.ReadFault is (inl (inr missed)) line = absurd (none_taken missed.gate taken)
        by refusals.ReadFault is (inr m) line = kept_fault o.between line m
    kept_of statuses.Violated o taken = absurd (other_status states.saved statuses.Violated (λ is. cc) (λ is. cc) (λ is. cc) taken)
    kept_of statuses.Words o taken = absurd (other_status states.saved statuses.Words (λ is. cc) (λ is. cc) (λ is. cc) taken)
    kept_of statuses.Files o taken = absurd (other_status states.saved statuses.Files (λ is. cc) (λ is. cc) (λ is. cc) taken)
    kept_of statuses.WriteFault o taken = absurd (other_status states.saved statuses.WriteFault (λ is. cc) (λ is. cc) (λ is. cc) taken)
    kept_of statuses.NoMemory o taken = absurd (other_status states.saved statuses.NoMemory (λ is. cc) (λ is. cc) (λ is. cc) taken)

    -- a log that was run to its end, and the state after it that was written to a file
    record Paused (signature policy file : List ℕ) (o : LogSetting) : Type 0 where
      pub ran : PausesLog o before (seen_of call.after.gate call.after.report)
      pub state : List ℕ
      pub is_state : IsStateText o.entries o.rules signature policy (start_behind o.start (records_of ran.answers.read) (out_steps ran.answers.out)) state
      pub ready : length (o.start.trace ++ trace_of (out_steps ran.answers.out)) < 2 ^ 63
          → IsReadyState o.entries o.rules signature policy (start_behind o.start (records_of ran.answers.read) (out_steps ran.answers.out)) state
      pub written : WritesFile {T = Unit {0}} file state (Ok tt) call.before.files call.after.files

    module _ (file : List ℕ) (named : states.saved ≡ Some file) (files : List ℕ → Contents) (tell : call.before.files.contents ≡ Some files) where
      abbrev SavedOf : Exchange → Type 0
      SavedOf log = IsKeptAtSave entries rules start asks.signature_bytes asks.policy_bytes file files call.after.files.contents call.before.gate call.after.gate (taken_bytes log) log.given HasSaid

      abbrev AtSave : Type 0
      AtSave = OfCalls SavedOf call.before.gate.told call.after.gate.told

      -- it is that of what is asked
      paused_told : WritesRun call call.after.report (Ok tt) → Paused asks.signature_bytes asks.policy_bytes file s
      paused_told written =
          let p = written.paused in
          let a = p.asks.asks in
          let sources = same_sources one one_text accepted call states entries rules asks p.states p.asks.entries p.asks.rules a in
          let both : ◌≡◌ {A = Option (List ℕ)} (Some written.file) (Some file) = sym p.saves ∙ sym (same_file p.states p.asks) ∙ named in
          let same : written.file ≡ file = cc in
          let its = asked_for p.states p.asks (Paused a.signature_bytes a.policy_bytes written.file)
          (λ from is. record { ran = p.ran from is; state = written.state; is_state = written.is_state from is; ready = written.ready from is; written = written.written }) in
          let of_file = subst (λ (name : List ℕ). Paused a.signature_bytes a.policy_bytes name s) same its in
          let of_policy = subst (λ (bytes : List ℕ). Paused a.signature_bytes bytes file s) sources.1 of_file in
          subst (λ (bytes : List ℕ). Paused bytes asks.policy_bytes file s) sources.0 of_policy

      saves : WritesRun call call.after.report (Ok tt) → AtSave
      saves written =
          let mine = paused_told written in
          let ran = mine.ran in
          let a = ran.answers in
          let text : List ℕ = action_lines entries rules a.out in
          let of_report = given_by text call.before.report.told call.after.report.told ran.actions.gave in
          OfCalls-weaker (IsExchange (UpToDate s) ran.taken ran.given) SavedOf call.before.gate.told call.after.gate.told
          (λ log exchange. record {
            answered = record {
              read = a.read;
              rest = ran.rest;
              spelled = subst (λ (b : List ℕ). SpellsRecords entries Input b a.read ran.rest) (sym exchange.took) a.accepts.spelled;
              rising = a.accepts.rising;
              out = a.out;
              text = exchange.gave ∙ a.text;
              lawful = a.owed.lawful;
              justified = a.owed.justified;
            };
            ended = has_ended entries rules start a.read (taken_bytes log) ran.rest [] call.before.gate call.after.gate verdicts.Accepted
                (subst (λ (b : List ℕ). LogEndsAs (taken_log_of s a.read b ran.rest) call.before.gate call.after.gate verdicts.Accepted) (sym exchange.took) ran.ends) refl;
            so_far = a.owed.so_far;
            reported = of_report;
            state = mine.state;
            is_state = mine.is_state;
            ready = mine.ready;
            stands = mine.written.put ∙ ap (option_map (with_contents file (FileBytes mine.state))) tell;
          }) ran.exchanged.calls

      saved_of : IsEnforceDone call call.after.report → AtSave
      saved_of (inr written) = saves written
      saved_of (inl done) = let none : ◌≡◌ {A = Option (List ℕ)} (Some file) None = sym named ∙ same_file done.states done.log.asks ∙ done.none_saved in absurd cc

  -- so the headline holds
  pub headline_of : (one : OneSignatureAnswer) (one_text : OneTextAnswer) (accepted : AcceptedIsNotRefused) (result : Status) → RunOutcome call result
      → Headline call.words call.before.files call.after.files call.before.gate call.after.gate call.before.report call.after.report result
  headline_of one one_text accepted result o =
      let told = call.before.files.contents in
      let table = λ (states : States) (start : Start) (entries : List NameEntry) (rules : List Rule) (asked : IsAskedRun call.words call.before.files.contents states start entries rules).
      outcome_at call result Enforce (states, asked.signature_file, asked.policy_file, asked.form) o in
      record {
        at_the_end = λ states start entries rules asked taken. kept_of one one_text accepted states start entries rules (asks_policy call states start entries rules asked)
            (starts_so states.resumed told asked.files entries rules asked.signature asked.policy start asked.tell asked.starts) result (table states start entries rules asked) taken;
        at_a_save = λ states start file entries rules asked named done. saved_of one one_text accepted states start entries rules (asks_policy call states start entries rules asked)
            (starts_so states.resumed told asked.files entries rules asked.signature asked.policy start asked.tell
            asked.starts) file named asked.files asked.tell
            (subst (EnforceOutcome call) done (table states start entries rules asked));
        at_each_read = λ states start entries rules asked. reads_of one one_text accepted states start entries rules (asks_policy call states start entries rules asked)
            (starts_so states.resumed told asked.files entries rules asked.signature asked.policy start asked.tell asked.starts) result (table states start entries rules asked);
      }
