-- How a run ends, from how its parts end.
use Rattle.enf_run.proofs.Vocabulary.{Exchange, none_more, one_more, ◌≡◌, ℕ, ◌+◌, ◌≤◌, Bool, List, [], length, inl, inr, refl, sym, ap, subst, ◌∙◌, is_some, true, false, Option, None, Some}
use Rattle.enf_run.proofs.Vocabulary.{Result, Ok, Err, OnePlans, ArePlanned, PendIsOne, SaveSetting as Bounds, Enforcing, KeptCanBeTakenUp, MOST_FILE_BYTES, Rule, NameEntry, Stream, IoRefusal, Call}
use Rattle.enf_run.proofs.Vocabulary.{LeavesFiles, RunsCut, RunsRefused, RunsLogSo, RunsWhole, SavesState, SavesWhereAsked, WhereStood, WritesState, RanSo, conclusion_of, rest_left, HasPlans}
use Rattle.enf_run.proofs.Vocabulary.{BeginsLog, EndsStart, typed_bounds, IsBounds, Seen, seen_of, saved_text, check_text, CheckLacks, CheckOutcome, CheckRefused, ending_after_file, FlushesAfter}
use Rattle.enf_run.proofs.Vocabulary.{Concludes, WritesText, faults_behind, all_formulas, States, records_of, EndsFile, HoldsPolicy, HoldsRefusedPolicy, HoldsRefusedSignature, HoldsSignature, CutsRun}
use Rattle.enf_run.proofs.Vocabulary.{TookLog, LogSetting, enforced_from, AuditLacks, AuditOutcome, AuditRefused, AuditsLog, FindsVerdict, GivesNoVerdict, SaysVerdict, SaysVerdictInPart, GaveNothing}
use Rattle.enf_run.proofs.Vocabulary.{LosesLog, TakesTrace, TakesWholeTrace, trace_log, verdict_line, DrillOutcome, AsksToEnforce, CutsLog, EnforceLacks, EnforceOutcome, EnforceRefused, EnforcesLog}
use Rattle.enf_run.proofs.Vocabulary.{FailsToWrite, IsEnforceDone, PausesRun, WhereItStarts, WritesRun, GenerateOutcome, NoFormOutcome, NoFormRefused, RefusesWords, AsksUnderPolicy, MissesFile}
use Rattle.enf_run.proofs.Vocabulary.{RefusesPolicyFile, RefusesSignatureFile, RunsOutBefore, SaysDrillLine, generated_text, HasAudited, finish_after, Exchanged, LogEndsAs, input_log}
use Rattle.enf_run.proofs.Vocabulary.{taken_log, Audited, Gave, VerdictIsOfPolicy, Holds, Fails, most_time, recorded, Inserted, refusal_status, RefusesRun, RunsOutOfMemory, RunsOutInLine, IsTyped}
use Rattle.enf_run.proofs.Vocabulary.{Typed, StoredTyped, typed_of, NamesEnforce, IsAuditForm, IsCheckForm, IsDrillForm, IsEnforceForm, IsGenerateForm, Cut, Ending, FileEnding, Finish, Verdict}
use Rattle.enf_run.proofs.Vocabulary.{Enforcement, PolicyRefusal, Refusal, SignatureRefusal, Status, AddsOrHolds, AddsOrNothing, AddsPart, GivesCheckText, GivesFor, GivesLog, IsPart, SaysDrillOrNothing, drill_line, SampleDrillFinds}
use Rattle.trace_audit.specs.declared.verdicts.Verdict.{Verdict as Found}
use Rattle.enf_run.proofs.ReadyStateLemmas.{ready_behind}
use Rattle.enf_run.proofs.SavedStateLemmas.{is_state_of}
use Rattle.enf_run.proofs.ExchangeLemmas.{exchanged_gave}
use Rattle.enf_run.proofs.IntakeLemmas.{ends_gave}
use Rattle.enf_run.proofs.LastFlushLemmas.{CameOf, CameOrNothing, text_came}
use Rattle.enf_run.specs.declared.drills.Drilled.{Drilled}
use Rattle.enf_run.specs.meaning.Outcomes.{IsPartOrHeld}
use Rattle.enf_io.specs.declared.devices.IoRefusal.TheVariants as io
use Rattle.enf_run.specs.declared.endings.Cut.TheVariants as cuts
use Rattle.enf_run.specs.declared.endings.Ending.TheVariants as endings
use Rattle.enf_run.specs.declared.endings.FileEnding.TheVariants as files
use Rattle.enf_run.specs.declared.endings.Finish.TheVariants as finishes
use Rattle.enf_run.specs.declared.intake.Verdict.TheVariants as verdicts
use Rattle.enf_run.specs.declared.refusals.Refusal.TheVariants as refusals
use Rattle.enf_run.specs.declared.refusals.Status.TheVariants as statuses

-- ---- the line after the work

-- the work ends so and leaves the report so: with what that makes of the report, the table holds at the status
abbrev pub LeadsTo : {Gate : Type 0} → Call Gate → (Status → Type 0) → Stream → Result Finish Ending → Type 0
LeadsTo call Table between result = (status : Status) → Concludes result between call.after.report status → Table status

module _ {Gate : Type 0} (call : Call Gate) (Table : Status → Type 0) (between : Stream) where
  -- where work is done, nothing comes after it
  done_leads : (P : Stream → Type 0) → (P call.after.report → Table statuses.Done) → P between → LeadsTo call Table between (Ok finishes.Done)
  done_leads P here p status (is, same) = subst Table (sym is) (here (subst P (sym same) p))

  violated_leads : (P : Stream → Type 0) → (P call.after.report → Table statuses.Violated) → P between → LeadsTo call Table between (Ok finishes.Violated)
  violated_leads P here p status (is, same) = subst Table (sym is) (here (subst P (sym same) p))

  -- nor after a write fault
  fault_leads : (P : Stream → Type 0) → (P call.after.report → Table statuses.WriteFault) → P between → LeadsTo call Table between (Err (endings.Cut cuts.WriteFault))
  fault_leads P here p status (is, same) = subst Table (sym is) (here (subst P (sym same) p))

  -- where memory ran out in the work, its line comes
  lack_leads : (Lacks : Stream → Type 0) → (RunsOutOfMemory call Lacks → Table statuses.NoMemory) → Lacks between → LeadsTo call Table between (Err (endings.Cut cuts.NoMemory))
  lack_leads Lacks here lacks status (is, line) = subst Table (sym is) (here (record { between = between; lacks = lacks; line = line }))

  -- and after a refusal its own, in which memory may run out
  refusal_leads : (Meets : Stream → Refusal → Type 0) → (RunsOutInLine call Meets → Table statuses.NoMemory)
      → (why : Refusal) → (RefusesRun call Meets (refusal_status why) → Table (refusal_status why))
      → Meets between why
      → LeadsTo call Table between (Err (endings.Refused why))
  refusal_leads Meets short why here meets status (inl (is, line)) =
      subst Table (sym is) (here (record { why = why; status_is = refl; between = between; meets = meets; line = line }))
  refusal_leads Meets short why here meets status (inr (is, line)) =
      subst Table (sym is) (short (record { why = why; between = between; meets = meets; line = line }))

-- the ends of each command lead to its table
module _ {Gate : Type 0} (call : Call Gate) (between : Stream) where
  abbrev EnforceLeads : Result Finish Ending → Type 0
  EnforceLeads result = LeadsTo call (EnforceOutcome call) between result

  enforce_refused : (why : Refusal) → EnforceRefused call between why → EnforceLeads (Err (endings.Refused why))
  enforce_refused refusals.Words m = absurd m
  enforce_refused (refusals.Signature why) m = refusal_leads call (EnforceOutcome call) between (EnforceRefused call) (λ o. inr o) (refusals.Signature why) (λ o. o) m
  enforce_refused (refusals.Policy why) m = refusal_leads call (EnforceOutcome call) between (EnforceRefused call) (λ o. inr o) (refusals.Policy why) (λ o. o) m
  enforce_refused (refusals.State why) m = refusal_leads call (EnforceOutcome call) between (EnforceRefused call) (λ o. inr o) (refusals.State why) (λ o. o) m
  enforce_refused (refusals.Record number why) m = refusal_leads call (EnforceOutcome call) between (EnforceRefused call) (λ o. inr o) (refusals.Record number why) (λ o. o) m
  enforce_refused refusals.ReadFault m = refusal_leads call (EnforceOutcome call) between (EnforceRefused call) (λ o. inr o) refusals.ReadFault (λ o. o) m

  enforce_lacks : EnforceLacks call between → EnforceLeads (Err (endings.Cut cuts.NoMemory))
  enforce_lacks lacks = lack_leads call (EnforceOutcome call) between (EnforceLacks call) (λ o. inl o) lacks

  enforce_fails : FailsToWrite call between → EnforceLeads (Err (endings.Cut cuts.WriteFault))
  enforce_fails fails = fault_leads call (EnforceOutcome call) between (FailsToWrite call) (λ o. o) fails

  abbrev CheckLeads : Result Finish Ending → Type 0
  CheckLeads result = LeadsTo call (CheckOutcome call) between result

  check_refused : (why : Refusal) → CheckRefused call between why → CheckLeads (Err (endings.Refused why))
  check_refused refusals.Words m = absurd m
  check_refused (refusals.Signature why) m = refusal_leads call (CheckOutcome call) between (CheckRefused call) (λ o. inr o) (refusals.Signature why) (λ o. o) m
  check_refused (refusals.Policy why) m = refusal_leads call (CheckOutcome call) between (CheckRefused call) (λ o. inr o) (refusals.Policy why) (λ o. o) m
  check_refused (refusals.State why) m = absurd m
  check_refused (refusals.Record number why) m = absurd m
  check_refused refusals.ReadFault m = refusal_leads call (CheckOutcome call) between (CheckRefused call) (λ o. inr o) refusals.ReadFault (λ o. o) m

  check_lacks : CheckLacks call between → CheckLeads (Err (endings.Cut cuts.NoMemory))
  check_lacks lacks = lack_leads call (CheckOutcome call) between (CheckLacks call) (λ o. inl o) lacks

  abbrev AuditLeads : Result Finish Ending → Type 0
  AuditLeads result = LeadsTo call (AuditOutcome call) between result

  pub audit_refusal : (why : Refusal) → AuditRefused call between why → AuditLeads (Err (endings.Refused why))
  audit_refusal refusals.Words m = absurd m
  audit_refusal (refusals.Signature why) m = refusal_leads call (AuditOutcome call) between (AuditRefused call) (λ o. inr o) (refusals.Signature why) (λ o. o) m
  audit_refusal (refusals.Policy why) m = refusal_leads call (AuditOutcome call) between (AuditRefused call) (λ o. inr o) (refusals.Policy why) (λ o. o) m
  audit_refusal (refusals.State why) m = absurd m
  audit_refusal (refusals.Record number why) m = refusal_leads call (AuditOutcome call) between (AuditRefused call) (λ o. inr o) (refusals.Record number why) (λ o. o) m
  audit_refusal refusals.ReadFault m = refusal_leads call (AuditOutcome call) between (AuditRefused call) (λ o. inr o) refusals.ReadFault (λ o. o) m

  audit_lacks : AuditLacks call between → AuditLeads (Err (endings.Cut cuts.NoMemory))
  audit_lacks lacks = lack_leads call (AuditOutcome call) between (AuditLacks call) (λ o. inl o) lacks

  -- words that match no form lead to theirs
  pub words_refused : RefusesWords call between → LeadsTo call (NoFormOutcome call) between (Err (endings.Refused refusals.Words))
  words_refused m = refusal_leads call (NoFormOutcome call) between (NoFormRefused call) (λ o. inr o) refusals.Words (λ o. o) m

-- ---- the sources of a run

-- what a command makes of its sources where they are refused, not read, or memory runs out before the gate is touched
pub record OfSources {Gate : Type 0} (call : Call Gate) (Table : Status → Type 0) (IsForm : List (List ℕ) → List ℕ → List ℕ → Type 0) (report : Stream) : Type 0 where
  pub signature : (why : SignatureRefusal) → RefusesSignatureFile IsForm call report why → LeadsTo call Table report (Err (endings.Refused (refusals.Signature why)))
  pub policy : (why : PolicyRefusal) → RefusesPolicyFile IsForm call report why → LeadsTo call Table report (Err (endings.Refused (refusals.Policy why)))
  pub missed : MissesFile IsForm call report → LeadsTo call Table report (Err (endings.Refused refusals.ReadFault))
  pub lacks : RunsOutBefore IsForm call report → LeadsTo call Table report (Err (endings.Cut cuts.NoMemory))

pub enforce_sources : {Gate : Type 0} (call : Call Gate) (report : Stream) → OfSources call (EnforceOutcome call) NamesEnforce report
enforce_sources call report = record {
  signature = λ why m. enforce_refused call report (refusals.Signature why) m;
  policy = λ why m. enforce_refused call report (refusals.Policy why) m;
  missed = λ m. enforce_refused call report refusals.ReadFault (inl (inl m));
  lacks = λ l. enforce_lacks call report (inl l);
}

pub check_sources : {Gate : Type 0} (call : Call Gate) (report : Stream) → OfSources call (CheckOutcome call) IsCheckForm report
check_sources call report = record {
  signature = λ why m. check_refused call report (refusals.Signature why) m;
  policy = λ why m. check_refused call report (refusals.Policy why) m;
  missed = λ m. check_refused call report refusals.ReadFault m;
  lacks = λ l. check_lacks call report (inl l);
}

pub audit_sources : {Gate : Type 0} (call : Call Gate) (report : Stream) → OfSources call (AuditOutcome call) IsAuditForm report
audit_sources call report = record {
  signature = λ why m. audit_refusal call report (refusals.Signature why) m;
  policy = λ why m. audit_refusal call report (refusals.Policy why) m;
  missed = λ m. audit_refusal call report refusals.ReadFault (inl m);
  lacks = λ l. audit_lacks call report (inl l);
}

module _ {Gate : Type 0} (call : Call Gate) (report : Stream) (Table : Status → Type 0)
    (IsForm : List (List ℕ) → List ℕ → List ℕ → Type 0) (of : OfSources call Table IsForm report)
    (signature_file policy_file : List ℕ)
    (form : IsForm call.words signature_file policy_file) (silent : report ≡ call.before.report) where
  -- memory runs out before the gate is touched
  pub memory_ends : call.after.gate_itself ≡ call.before.gate_itself → call.after.gate ≡ call.before.gate → LeavesFiles call → LeadsTo call Table report (Err (endings.Cut cuts.NoMemory))
  memory_ends itself seen h = of.lacks (signature_file, policy_file, form, record { gate = (itself, seen); files = h; silent = silent })

  -- the signature gives nothing
  pub signature_ends : (end : FileEnding SignatureRefusal) → call.after.gate_itself ≡ call.before.gate_itself → call.after.gate ≡ call.before.gate
      → EndsFile MOST_FILE_BYTES (HoldsRefusedSignature call.before.files.contents signature_file) signature_file
      call.before.files call.after.files end → LeadsTo call Table report
      (Err (ending_after_file refusals.Signature end))
  signature_ends (files.Refused why) itself seen h =
      of.signature why (
        record { signature_file = signature_file; policy_file = policy_file; form = form; bytes = h.0.bytes; told = h.0.under; refused = h.0.refused },
        record { gate = (itself, seen); files = h.1; silent = silent },
      )
  signature_ends (files.NotRead io.Failed) itself seen h =
      of.missed (record { signature_file = signature_file; policy_file = policy_file; form = form; failed = inl h; gate = (itself, seen); silent = silent })
  signature_ends (files.NotRead io.NoMemory) itself seen h = memory_ends itself seen h

  -- the policy gives nothing, after a signature
  pub policy_ends : (bytes : List ℕ) (entries : List NameEntry) (end : FileEnding PolicyRefusal) → call.after.gate_itself ≡ call.before.gate_itself → call.after.gate ≡ call.before.gate
      → HoldsSignature call.before.files.contents signature_file bytes entries
      → EndsFile MOST_FILE_BYTES (HoldsRefusedPolicy call.before.files.contents policy_file entries) policy_file
      call.before.files call.after.files end → LeadsTo call Table report
      (Err (ending_after_file refusals.Policy end))
  policy_ends bytes entries (files.Refused why) itself seen holds h =
      of.policy why (
        record {
          signature_file = signature_file;
          policy_file = policy_file;
          form = form;
          signature_bytes = bytes;
          policy_bytes = h.0.bytes;
          entries = entries;
          signature_told = holds.under;
          is_signature = holds.is_signature;
          policy_told = h.0.under;
          refused = h.0.refused;
        },
        record { gate = (itself, seen); files = h.1; silent = silent },
      )
  policy_ends bytes entries (files.NotRead io.Failed) itself seen holds h =
      of.missed (record { signature_file = signature_file; policy_file = policy_file; form = form; failed = inr ((bytes, entries, holds.under, holds.is_signature), h); gate = (itself, seen); silent = silent })
  policy_ends bytes entries (files.NotRead io.NoMemory) itself seen holds h = memory_ends itself seen h

-- the log of a policy is run, by an enforcer that stands for wherever the run may start
module _ {Gate : Type 0} (call : Call Gate) (report : Stream) (states : States)
    (signature_file policy_file : List ℕ) (form : IsEnforceForm states call.words signature_file policy_file)
    (entries : List NameEntry) (policy : List Rule)
    (signature_bytes policy_bytes : List ℕ) (holds_signature : HoldsSignature call.before.files.contents signature_file signature_bytes entries)
    (holds_policy : HoldsPolicy call.before.files.contents policy_file policy_bytes entries policy) where
  abbrev asks_files : AsksUnderPolicy (IsEnforceForm states) call entries policy
  asks_files =
      record {
        signature_file = signature_file;
        policy_file = policy_file;
        form = form;
        signature_bytes = signature_bytes;
        policy_bytes = policy_bytes;
        signature_told = holds_signature.under;
        is_signature = holds_signature.is_signature;
        policy_told = holds_policy.under;
        is_policy = holds_policy.is_policy;
      }

  module _ (up_again : KeptCanBeTakenUp) (one_plans : OnePlans) (one : PendIsOne) (typed : StoredTyped)
      (log : Enforcement) (planned : ArePlanned entries (all_formulas policy) (typed_of typed).plans
      (typed_of typed).guards)
      (begins : BeginsLog states.resumed call.before.files.contents entries policy signature_bytes policy_bytes typed log) where
    abbrev first : Enforcing
    first = log.enforcer

    abbrev before : Seen
    before = seen_of call.before.gate call.before.report

    abbrev after : Seen
    after = seen_of call.after.gate report

    abbrev asks : AsksToEnforce call states
    asks =
        record {
          entries = entries;
          rules = policy;
          asks = asks_files;
          bounds = typed_bounds entries (typed_of typed);
          are_bounds = record { plans = (typed_of typed).plans; guards = (typed_of typed).guards; planned = planned; bounds_are = refl };
          state = begins.state;
          clock = first.clock;
          holds_start = begins.holds;
        }

    built : HasPlans entries policy first
    built = subst (λ (stored : StoredTyped). ArePlanned entries (all_formulas policy) (typed_of stored).plans (typed_of stored).guards) (sym begins.policy_is) planned

    -- what holds wherever the enforcer stood holds from wherever the run starts
    where_it : (P : LogSetting → Type 0) → WhereStood entries policy first P → WhereItStarts states asks P
    where_it P ran start is =
        let stood = begins.stands start is in
        subst (λ (clock : ℕ). P (enforced_from entries policy (record { trace = start.trace; clock = clock }))) stood.1 (ran start.trace built stood.0)

    -- the run of the log was cut
    cuts_log : (cut : Cut) → RunsCut entries policy first cut call.before.files call.after.files before after → CutsLog call report cut
    cuts_log cut r = record { states = states; asks = asks; lost = r.lost; ran = where_it (λ s. CutsRun s before after cut) r.ran; files = r.same }

    log_ends : (cut : Cut) → RunsCut entries policy first cut call.before.files call.after.files before after → EnforceLeads call report (Err (endings.Cut cut))
    log_ends cuts.WriteFault r = enforce_fails call report (inl (cuts_log cuts.WriteFault r))
    log_ends cuts.NoMemory r = enforce_lacks call report (inr (inl (cuts_log cuts.NoMemory r)))

    -- the judgement of the log is a refusal
    enforced : (accepted : ℕ) (verdict : Verdict) (enforcer : Enforcing) → TookLog (input_log entries first.clock) (record { accepted = accepted; verdict = verdict }) before after
        → WhereStood entries policy first (λ s. RanSo false s (record { accepted = accepted; verdict = verdict })
        enforcer before after) → LeavesFiles call → EnforcesLog call report states
        (record { accepted = accepted; verdict = verdict })
    enforced accepted verdict enforcer took ran same =
        record {
          asks = asks;
          took = took;
          ran = λ start is. (where_it (λ s. RanSo false s (record { accepted = accepted; verdict = verdict }) enforcer before after) ran start is).ran;
          counts = λ start is. (where_it (λ s. RanSo false s (record { accepted = accepted; verdict = verdict }) enforcer before after) ran start is).count;
          files = same;
        }

    log_refused : (why : Refusal) → RunsRefused states.saved entries policy first why call.before.files call.after.files before after → EnforceRefused call report why
    log_refused why r = by r.judged.verdict r.took r.ran r.concluded
      where
        by : (verdict : Verdict) → TookLog (input_log entries first.clock) (record { accepted = r.judged.accepted; verdict = verdict }) before after
            → WhereStood entries policy first (λ s. RanSo (rest_left (is_some states.saved) verdict) s (record { accepted = r.judged.accepted; verdict = verdict }) r.enforcer before after)
            → Err why ≡ conclusion_of r.judged.accepted verdict → EnforceRefused call report why
        by verdicts.Accepted took ran h = cc
        by verdicts.Fault took ran h =
            let is : why ≡ refusals.ReadFault = cc in
            subst (EnforceRefused call report) (sym is) (inr (record { states = states; accepted = r.judged.accepted; log = enforced r.judged.accepted verdicts.Fault r.enforcer took ran r.same }))
        by (verdicts.Refused refusal) took ran h =
            let is : why ≡ refusals.Record (r.judged.accepted + 1) refusal = cc in
            subst (EnforceRefused call report) (sym is)
            (record { states = states; accepted = r.judged.accepted; log = enforced r.judged.accepted (verdicts.Refused refusal) r.enforcer took ran r.same; number_is = refl })

    -- it was accepted to its end
    abbrev Whole : Result (Unit {0}) Cut → Type 0
    Whole ended = RunsWhole states.saved signature_bytes policy_bytes entries policy first call.before.files call.after.files before after ended

    abbrev Ran : Bool → ℕ → Enforcing → Type 0
    Ran saves accepted enforcer = WhereStood entries policy first (λ s. RanSo saves s (record { accepted = accepted; verdict = verdicts.Accepted }) enforcer before after)

    -- and a file is named for the state
    module _ (file : List ℕ) (named : states.saved ≡ Some file) (accepted : ℕ) (enforcer : Enforcing)
        (took : TookLog (input_log entries first.clock) (record { accepted = accepted; verdict = verdicts.Accepted })
        before after)
        (ran : Ran true accepted enforcer) where
      abbrev paused : PausesRun call report file
      paused =
          record {
            states = states;
            saves = named;
            asks = asks;
            accepted = accepted;
            took = took;
            ran = λ start is. (where_it (λ s. RanSo true s (record { accepted = accepted; verdict = verdicts.Accepted }) enforcer before after) ran start is).ran;
          }

      state_written : (ended : Result (Unit {0}) IoRefusal) → WritesState enforcer signature_bytes policy_bytes file ended call.before.files call.after.files → WritesRun call report ended
      state_written ended w =
          record {
            file = file;
            paused = paused;
            state = saved_text signature_bytes policy_bytes w.kept;
            kept = w.kept;
            text = refl;
            is_state = λ start is.
                let here = where_it (λ s. RanSo true s (record { accepted = accepted; verdict = verdicts.Accepted }) enforcer before after) ran start is in
                is_state_of (enforced_from entries policy start) (records_of here.ran.answers.read)
                here.ran.answers.out enforcer here.behind signature_bytes policy_bytes call.before.files
                call.after.files file ended w;
            ready = λ start is few.
                let here = where_it (λ s. RanSo true s (record { accepted = accepted; verdict = verdicts.Accepted }) enforcer before after) ran start is in
                let at_most = subst (λ (clock : ℕ). clock ≤ most_time Inserted) (begins.stands start is).1 begins.new.clock in
                ready_behind up_again one_plans one states.resumed entries policy signature_bytes policy_bytes begins.state start is at_most enforcer file ended call.before.files call.after.files w
                here.ran.taken here.ran.answers.read here.ran.rest here.ran.answers.out here.ran.answers.accepts.spelled here.ran.answers.owed here.behind few;
            written = w.written;
          }

      state_cut : (cut : Cut) → SavesState enforcer signature_bytes policy_bytes file call.before.files call.after.files (Err cut) → EnforceLeads call report (Err (endings.Cut cut))
      state_cut cuts.WriteFault w = enforce_fails call report (inr (state_written (Err io.Failed) w))
      state_cut cuts.NoMemory same = enforce_lacks call report (inr (inr (record { file = file; paused = paused; files = same })))

    -- the run is done, with the state saved where that was asked
    log_done : Whole (Ok tt) → IsEnforceDone call report
    log_done w = by states.saved refl w.ran w.saves
      where
        by : (o : Option (List ℕ)) → states.saved ≡ o → Ran (is_some o) w.accepted w.enforcer
            → SavesWhereAsked o w.enforcer signature_bytes policy_bytes call.before.files call.after.files (Ok tt)
            → IsEnforceDone call report
        by None named ran saves = inl (record { states = states; none_saved = named; accepted = w.accepted; log = enforced w.accepted verdicts.Accepted w.enforcer w.took ran saves.1 })
        by (Some file) named ran saves = inr (state_written file named w.accepted w.enforcer w.took ran (Ok tt) saves)

    -- or the save was cut
    save_ends : (cut : Cut) → Whole (Err cut) → EnforceLeads call report (Err (endings.Cut cut))
    save_ends cut w = by states.saved refl w.ran w.saves
      where
        by : (o : Option (List ℕ)) → states.saved ≡ o → Ran (is_some o) w.accepted w.enforcer
            → SavesWhereAsked o w.enforcer signature_bytes policy_bytes call.before.files call.after.files
            (Err cut) → EnforceLeads call report (Err (endings.Cut cut))
        by None named ran saves = let no = saves.0 in absurd cc
        by (Some file) named ran saves = state_cut file named w.accepted w.enforcer w.took ran cut saves

    -- how the run of the log ends is how the work of the run does
    abbrev RanTo : Result (Unit {0}) Ending → Type 0
    RanTo result = RunsLogSo states.saved signature_bytes policy_bytes entries policy first call.before.files call.after.files before after result

    pub run_done : RanTo (Ok tt) → EnforceLeads call report (Ok finishes.Done)
    run_done w = done_leads call (EnforceOutcome call) report (IsEnforceDone call) (λ o. o) (log_done w)

    pub run_ends : (ending : Ending) → RanTo (Err ending) → EnforceLeads call report (Err ending)
    run_ends (endings.Refused why) r = enforce_refused call report why (log_refused why r)
    run_ends (endings.Cut cut) (inl r) = log_ends cut r
    run_ends (endings.Cut cut) (inr w) = save_ends cut w

  -- the state gives nothing, after the policy
  module _ (bounds : Bounds) (are_bounds : IsBounds entries policy bounds)
      (silent : report ≡ call.before.report)
      (itself : call.after.gate_itself ≡ call.before.gate_itself) (seen : call.after.gate ≡ call.before.gate)
    where
      pub start_ends : (ending : Ending) → EndsStart states.resumed signature_bytes policy_bytes bounds call.before.files call.after.files ending → EnforceLeads call report (Err ending)
      start_ends (endings.Refused (refusals.State why)) (file, named, refused, same) =
          enforce_refused call report (refusals.State why) (
            record {
              states = states;
              file = file;
              named = named;
              entries = entries;
              rules = policy;
              asks = asks_files;
              bytes = refused.bytes;
              told = refused.under;
              bounds = bounds;
              are_bounds = are_bounds;
              refused = refused.refused;
            },
            record { gate = (itself, seen); files = same; silent = silent },
          )
      start_ends (endings.Refused refusals.ReadFault) (file, named, failed) =
          enforce_refused call report refusals.ReadFault
          (inl (inr (record {
            states = states;
            file = file;
            named = named;
            entries = entries;
            rules = policy;
            asks
                = asks_files;
            failed = failed;
            gate = (itself, seen);
            silent = silent;
          })))
      start_ends (endings.Cut cuts.NoMemory) same = memory_ends call report (EnforceOutcome call) NamesEnforce
          (enforce_sources call report) signature_file policy_file (states, form) silent itself seen same
      start_ends (endings.Cut cuts.WriteFault) never = absurd never
      start_ends (endings.Refused refusals.Words) never = absurd never
      start_ends (endings.Refused (refusals.Signature why)) never = absurd never
      start_ends (endings.Refused (refusals.Policy why)) never = absurd never
      start_ends (endings.Refused (refusals.Record number why)) never = absurd never

module _ {Gate : Type 0} (call : Call Gate) (report : Stream) (signature_file policy_file : List ℕ)
    (form : IsCheckForm call.words signature_file policy_file) (entries : List NameEntry) (policy : List Rule)
    (signature_bytes policy_bytes : List ℕ) (holds_signature : HoldsSignature call.before.files.contents signature_file signature_bytes entries)
    (holds_policy : HoldsPolicy call.before.files.contents policy_file policy_bytes entries policy) (typed : Typed)
    (is_typed : IsTyped entries (all_formulas policy) typed) (same : LeavesFiles call)
    (silent : report ≡ call.before.report) where
  abbrev asks_check : AsksUnderPolicy IsCheckForm call entries policy
  asks_check =
      record {
        signature_file = signature_file;
        policy_file = policy_file;
        form = form;
        signature_bytes = signature_bytes;
        policy_bytes = policy_bytes;
        signature_told = holds_signature.under;
        is_signature = holds_signature.is_signature;
        policy_told = holds_policy.under;
        is_policy = holds_policy.is_policy;
      }

  -- what is to be said of the policy was given, and what the gate held back was handed on
  module _ (given : Result (Unit {0}) Cut) (between : Stream) (w : WritesText (check_text entries policy typed.ranked) given call.before.gate between) where
    check_came : (result : Result (Unit {0}) Cut) → FlushesAfter given result between call.after.gate
        → CameOf call.after.gate.held (check_text entries policy typed.ranked) call.before.gate.told result call.after.gate.told
    check_came result h = text_came (check_text entries policy typed.ranked) given result call.before.gate between call.after.gate w h

    pub check_done : FlushesAfter given (Ok tt) between call.after.gate → CheckLeads call report (Ok finishes.Done)
    check_done h =
        done_leads call (CheckOutcome call) report (GivesCheckText Gave none_more call) (λ o. o)
        (record { entries = entries; policy = policy; asks = asks_check; typed = typed; is_typed = is_typed; given = check_came (Ok tt) h; writes = h.writes call.before.gate.write_faults w.writes; reads = h.reads ∙ w.reads; files = same; silent = silent })

    -- or not all of it was
    pub check_ends : (cut : Cut) → FlushesAfter given (Err cut) between call.after.gate → CheckLeads call report (Err (endings.Cut cut))
    check_ends cuts.WriteFault h =
        fault_leads call (CheckOutcome call) report (GivesCheckText (AddsOrHolds call.after.gate.held) one_more call) (λ o. o)
        (record { entries = entries; policy = policy; asks = asks_check; typed = typed; is_typed = is_typed; given = check_came (Err cuts.WriteFault) h; writes = h.writes call.before.gate.write_faults w.writes; reads = h.reads ∙ w.reads; files = same; silent = silent })
    check_ends cuts.NoMemory h =
        check_lacks call report
        (inr (record { entries = entries; policy = policy; asks = asks_check; typed = typed; is_typed = is_typed; given = check_came (Err cuts.NoMemory) h; writes = h.writes call.before.gate.write_faults w.writes; reads = h.reads ∙ w.reads; files = same; silent = silent }))

-- how an audit ends
module _ {Gate : Type 0} (call : Call Gate) (report : Stream) (signature_file policy_file : List ℕ)
    (form : IsAuditForm call.words signature_file policy_file) (entries : List NameEntry) (policy : List Rule)
    (signature_bytes policy_bytes : List ℕ) (holds_signature : HoldsSignature call.before.files.contents signature_file signature_bytes entries)
    (holds_policy : HoldsPolicy call.before.files.contents policy_file policy_bytes entries policy) (same : LeavesFiles call) (silent : report ≡ call.before.report) where
  abbrev asks_audit : AsksUnderPolicy IsAuditForm call entries policy
  asks_audit =
      record {
        signature_file = signature_file;
        policy_file = policy_file;
        form = form;
        signature_bytes = signature_bytes;
        policy_bytes = policy_bytes;
        signature_told = holds_signature.under;
        is_signature = holds_signature.is_signature;
        policy_told = holds_policy.under;
        is_policy = holds_policy.is_policy;
      }

  -- memory ran out within the log
  pub audit_lost : LosesLog entries call.before.gate call.after.gate → call.after.gate.write_faults ≡ call.before.gate.write_faults → AuditLeads call report (Err (endings.Cut cuts.NoMemory))
  audit_lost lost writes = audit_lacks call report (inr (inl (record { entries = entries; policy = policy; asks = asks_audit; log = lost.log; nothing = lost.nothing; reads = lost.reads; writes = writes; files = same; silent = silent })))

  abbrev audit_so : (verdict : Verdict) → TakesWholeTrace entries verdict call.before.gate call.after.gate → AuditsLog call report verdict
  audit_so verdict whole = record { entries = entries; policy = policy; asks = asks_audit; whole = whole; files = same; silent = silent }

  -- the log ended with a refusal or a fault, after which nothing was given
  module _ (log : TakesTrace entries call.before.gate call.after.gate) (nothing : log.given ≡ []) (writes : call.after.gate.write_faults ≡ call.before.gate.write_faults) where
    abbrev silent_so : (verdict : Verdict) → LogEndsAs (taken_log (trace_log entries) log.read log.taken log.rest) call.before.gate call.after.gate verdict → GivesNoVerdict call report verdict
    silent_so verdict ends = record { audit = audit_so verdict (record { log = log; ends = ends }); nothing = nothing; writes = writes }

    pub audit_refused : (accepted : ℕ) → accepted ≡ length log.read → (verdict : Verdict)
        → LogEndsAs (taken_log (trace_log entries) log.read log.taken log.rest) call.before.gate call.after.gate
        verdict
        → (why : Refusal) → Err why ≡ conclusion_of accepted verdict → AuditRefused call report why
    audit_refused accepted count verdicts.Accepted ends why h = cc
    audit_refused accepted count verdicts.Fault ends why h =
        let is : why ≡ refusals.ReadFault = cc in
        subst (AuditRefused call report) (sym is) (inr (silent_so verdicts.Fault ends))
    audit_refused accepted count (verdicts.Refused refusal) ends why h =
        let is : why ≡ refusals.Record (accepted + 1) refusal = cc in
        subst (AuditRefused call report) (sym is) (record { silence = silent_so (verdicts.Refused refusal) ends; number_is = ap (λ n. n + 1) count })

  -- it was accepted, and its verdict was to be given after it
  module _ (middle : Stream) (typed : Typed) (is_typed : IsTyped entries (all_formulas policy) typed)
      (law : VerdictIsOfPolicy) (audited : Audited) (has : HasAudited entries typed.plans audited call.before.gate
      middle)
      (writes : middle.write_faults ≡ call.before.gate.write_faults) (accepted : Ok tt ≡ conclusion_of audited.judged.accepted audited.judged.verdict) where
    abbrev log : TakesTrace entries call.before.gate middle
    log = has.ended.log

    ends_accepted : (verdict : Verdict) → LogEndsAs (taken_log (trace_log entries) log.read log.taken log.rest) call.before.gate middle verdict → Ok tt ≡ conclusion_of audited.judged.accepted verdict
        → LogEndsAs (taken_log (trace_log entries) log.read log.taken log.rest) call.before.gate middle verdicts.Accepted
    ends_accepted verdicts.Accepted ends h = ends
    ends_accepted verdicts.Fault ends h = cc
    ends_accepted (verdicts.Refused refusal) ends h = cc

    -- what was given after it is all that was given
    abbrev finds : (bytes : List ℕ) → Gave bytes middle.told call.after.gate.told → call.after.gate.read_faults ≡ middle.read_faults → FindsVerdict call report audited.found
    finds bytes gave reads =
        record {
          audit = audit_so verdicts.Accepted (record {
            log = record {
              taken = log.taken;
              given = bytes;
              exchanged = exchanged_gave GaveNothing log.taken [] call.before.gate.told middle.told call.after.gate.told
                  (subst (λ (given : List ℕ). Exchanged GaveNothing log.taken given call.before.gate.told middle.told) has.nothing log.exchanged) bytes gave;
              read = log.read;
              rest = log.rest;
              accepts = log.accepts;
            };
            ends = ends_gave (taken_log (trace_log entries) log.read log.taken log.rest) call.before.gate middle call.after.gate bytes gave reads verdicts.Accepted
                (ends_accepted audited.judged.verdict has.ended.ends accepted);
          });
          is_verdict = law entries (all_formulas policy) typed.plans typed.guards (recorded (records_of log.read)) audited.found is_typed.planned has.found;
        }

    -- the line was given, and what the gate held back was handed on
    module _ (given : Result (Unit {0}) Cut) (between : Stream) (w : WritesText (verdict_line policy audited.found) given middle between) where
      audit_came : (result : Result (Unit {0}) Cut) → FlushesAfter given result between call.after.gate
          → CameOf call.after.gate.held (verdict_line policy audited.found) middle.told result call.after.gate.told
      audit_came result h = text_came (verdict_line policy audited.found) given result middle between call.after.gate w h

      pub audit_said : FlushesAfter given (Ok tt) between call.after.gate → AuditLeads call report (Ok (finish_after audited.found))
      audit_said h =
          by audited.found
          (record { finds = finds (verdict_line policy audited.found) (audit_came (Ok tt) h) (h.reads ∙ w.reads); line = refl; writes = h.writes middle.write_faults w.writes ∙ writes })
        where
          by : (found : Found) → SaysVerdict call report found → AuditLeads call report (Ok (finish_after found))
          by Holds says = done_leads call (AuditOutcome call) report (λ r. SaysVerdict call r Holds) (λ o. o) says
          by (Fails rule position) says =
              violated_leads call (AuditOutcome call) report (λ r. SaysVerdict call r (Fails rule position)) (λ o. (rule, position, o)) says

      -- or not all of it was
      says_part : AddsPart (verdict_line policy audited.found) middle.told call.after.gate.told → call.after.gate.read_faults ≡ middle.read_faults
          → call.after.gate.write_faults ≡ call.before.gate.write_faults → SaysVerdictInPart IsPart none_more call report
      says_part adds reads faults = record { found = audited.found; finds = finds adds.front adds.gave reads; part = adds.part; writes = faults }

      says_held : AddsOrHolds call.after.gate.held (verdict_line policy audited.found) middle.told call.after.gate.told → call.after.gate.read_faults ≡ middle.read_faults
          → call.after.gate.write_faults ≡ one_more call.before.gate.write_faults → SaysVerdictInPart (IsPartOrHeld call.after.gate.held) one_more call report
      says_held (inl adds) reads faults = record { found = audited.found; finds = finds adds.front adds.gave reads; part = inl adds.part; writes = faults }
      says_held (inr (gave, some)) reads faults =
          record { found = audited.found; finds = finds (verdict_line policy audited.found) gave reads; part = inr (refl, some); writes = faults }

      pub audit_ends : (cut : Cut) → FlushesAfter given (Err cut) between call.after.gate → AuditLeads call report (Err (endings.Cut cut))
      audit_ends cuts.WriteFault h =
          fault_leads call (AuditOutcome call) report (SaysVerdictInPart (IsPartOrHeld call.after.gate.held) one_more call) (λ o. o)
          (says_held (audit_came (Err cuts.WriteFault) h) (h.reads ∙ w.reads) (h.writes middle.write_faults w.writes ∙ ap one_more writes))
      audit_ends cuts.NoMemory h =
          audit_lacks call report (inr (inr (says_part (audit_came (Err cuts.NoMemory) h) (h.reads ∙ w.reads) (h.writes middle.write_faults w.writes ∙ writes))))

-- ---- what is generated

module _ {Gate : Type 0} (call : Call Gate) (report : Stream) (start steps : ℕ)
    (reads : call.after.gate.read_faults ≡ call.before.gate.read_faults) (same : LeavesFiles call)
    (silent : report ≡ call.before.report) where
  -- the log was given, and what the gate held back was handed on
  pub generate_done : IsGenerateForm call.words start steps
      → Gave (generated_text start steps) call.before.gate.told call.after.gate.told
      → call.after.gate.write_faults ≡ call.before.gate.write_faults
      → LeadsTo call (GenerateOutcome call) report (Ok finishes.Done)
  generate_done form gave writes =
      done_leads call (GenerateOutcome call) report (GivesFor IsGenerateForm (GivesLog Gave) none_more call) (λ o. o)
      (record { start = start; steps = steps; form = form; given = gave; writes = writes; reads = reads; files = same; silent = silent })

  -- or not all of it was
  pub generate_ends : (cut : Cut) → IsGenerateForm call.words start steps
      → CameOrNothing call.after.gate.held (generated_text start steps) call.before.gate.told (Err cut) call.after.gate.told
      → call.after.gate.write_faults ≡ faults_behind cut call.before.gate.write_faults → LeadsTo call (GenerateOutcome call) report (Err (endings.Cut cut))
  generate_ends cuts.WriteFault form part writes =
      fault_leads call (GenerateOutcome call) report (GivesFor IsGenerateForm (GivesLog (AddsOrHolds call.after.gate.held)) one_more call) (λ o. o)
      (record { start = start; steps = steps; form = form; given = part; writes = writes; reads = reads; files = same; silent = silent })
  generate_ends cuts.NoMemory form part writes =
      lack_leads call (GenerateOutcome call) report (GivesFor IsGenerateForm (GivesLog AddsOrNothing) none_more call) (λ o. inl o)
      (record { start = start; steps = steps; form = form; given = part; writes = writes; reads = reads; files = same; silent = silent })

  -- memory ran out in a drill
  pub drill_lost : IsDrillForm call.words start steps → call.after.gate.told ≡ call.before.gate.told → call.after.gate.write_faults ≡ call.before.gate.write_faults
      → LeadsTo call (DrillOutcome call) report (Err (endings.Cut cuts.NoMemory))
  drill_lost form nothing writes =
      lack_leads call (DrillOutcome call) report (GivesFor IsDrillForm SaysDrillOrNothing none_more call) (λ o. inl o)
      (record { start = start; steps = steps; form = form; given = inr nothing; writes = writes; reads = reads; files = same; silent = silent })

  -- or this was found
  module _ (form : IsDrillForm call.words start steps) (found : Drilled) (finds : SampleDrillFinds start steps found) where
    -- it was given, and what the gate held back was handed on
    pub drill_done : Gave (drill_line found) call.before.gate.told call.after.gate.told → call.after.gate.write_faults ≡ call.before.gate.write_faults
        → LeadsTo call (DrillOutcome call) report (Ok finishes.Done)
    drill_done gave writes =
        done_leads call (DrillOutcome call) report (GivesFor IsDrillForm (SaysDrillLine Gave) none_more call) (λ o. o)
        (record { start = start; steps = steps; form = form; given = record { found = found; finds = finds; given = gave }; writes = writes; reads = reads; files = same; silent = silent })

    -- or not all of it was
    pub drill_ends : (cut : Cut) → CameOf call.after.gate.held (drill_line found) call.before.gate.told (Err cut) call.after.gate.told
        → call.after.gate.write_faults ≡ faults_behind cut call.before.gate.write_faults → LeadsTo call (DrillOutcome call) report (Err (endings.Cut cut))
    drill_ends cuts.WriteFault part writes =
        fault_leads call (DrillOutcome call) report (GivesFor IsDrillForm (SaysDrillLine (AddsOrHolds call.after.gate.held)) one_more call) (λ o. o)
        (record { start = start; steps = steps; form = form; given = record { found = found; finds = finds; given = part }; writes = writes; reads = reads; files = same; silent = silent })
    drill_ends cuts.NoMemory part writes =
        lack_leads call (DrillOutcome call) report (GivesFor IsDrillForm SaysDrillOrNothing none_more call) (λ o. inl o)
        (record { start = start; steps = steps; form = form; given = inl (record { found = found; finds = finds; given = part }); writes = writes; reads = reads; files = same; silent = silent })
