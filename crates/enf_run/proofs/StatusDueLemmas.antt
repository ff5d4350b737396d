-- Where each status must come: what the table of a form says at the other statuses leaves no room for it.
use Rattle.enf_run.proofs.Vocabulary.{◌≡◌, ℕ, List, Ok, refl, sym, ap, subst, ◌∙◌, inl, inr, FileView, WritesFile, Stream, AcceptedIsNotRefused, OnePlans, Rule, LogItem}
use Rattle.enf_run.proofs.Vocabulary.{OneSaveAnswer as OneStateAnswer, OneText, OneSignatureAnswer, NameEntry, VerdictIsOne, IsVerdict, Holds, Fails, recorded, GaveNothing, TakesWholeTrace, trace_log}
use Rattle.enf_run.proofs.Vocabulary.{AsksToAudit, AuditDue, AuditOutcome, AuditRefused, AuditsLog, FindsVerdict, IsAuditable, RefusesAudited, SaysVerdict, Call, LeavesFiles, LeavesGate, IsBrokenOff}
use Rattle.enf_run.proofs.Vocabulary.{ComesToStatus, DueOf, Dues, Form, Audit, Check, Drill, Enforce, Generate, NoForm, AnyExchange, TookLog, CheckDue, CheckOutcome, CheckRefused, DrillDue}
use Rattle.enf_run.proofs.Vocabulary.{DrillOutcome, AsksToEnforce, AsksToEnforceSo, AsksToldEnforce, EnforceDue, EnforceOutcome, EnforceRefused, IsEnforceable, RefusesRecord, GenerateDue}
use Rattle.enf_run.proofs.Vocabulary.{GenerateOutcome, NoFormDue, NoFormOutcome, NoFormRefused, RefusesWords, RunOutcome, OutcomeOf, all_formulas, States, records_of, LogReading, ReadsLogToEnd}
use Rattle.enf_run.proofs.Vocabulary.{input_log, refusal_status, RefusesRun, seen_of, AsksUnderPolicy, AsksToldPolicy, AsksRefusedFile, MeetsReadFault, MeetsRefusedRecord, MeetsWriteFault}
use Rattle.enf_run.proofs.Vocabulary.{NamesEnforce, IsAuditForm, IsCheckForm, Verdict, RecordRefusal, Refusal, Status, GivesCheckText, none_more, Gave}
use Rattle.trace_audit.specs.declared.verdicts.Verdict.{Verdict as Found}
use Rattle.enf_run.proofs.RequestLemmas.{AcceptedIsFormed, OneTextAnswer, bounds_formed, asks_named, audit_names, check_names, enforces_names, enforced_told, no_refused_policy, no_refused_signature}
use Rattle.enf_run.proofs.RequestLemmas.{not_asked, one_asked, policy_named, read_not_refused_state, same_asked, same_clock, same_states, drills_unrefused, generates_unrefused, none_violates}
use Rattle.enf_run.proofs.RequestLemmas.{words_alone, words_not_refused}
use Rattle.enf_run.proofs.FileLemmas.{same_counts}
use Rattle.enf_run.proofs.OneReadingLemmas.{OneRecordAnswer, refused_not_whole, whole_meets_none, whole_read}
use Rattle.enf_run.specs.declared.intake.Verdict.TheVariants as verdicts
use Rattle.enf_run.specs.declared.refusals.Refusal.TheVariants as refusals
use Rattle.enf_run.specs.declared.refusals.Status.TheVariants as statuses

-- each text of a signature has one answer, and each of a policy; a policy that is accepted is not refused, and has one
-- plan for each rule, well-formed where it was read; and bytes are one saved text, with one answer
module _ (one : OneSignatureAnswer) (one_text : OneTextAnswer) (accepted : AcceptedIsNotRefused) (one_plans : OnePlans) (forms : AcceptedIsFormed) (one_state : OneText) (one_answer : OneStateAnswer) where
  module _ (law : OneRecordAnswer) where
    -- ---- the run of a log, and an audit, take it so

    module _ {Gate : Type 0} (call : Call Gate) where
      -- what files tell, and what a run enforces or audits, is one thing
      told_run : (entries : List NameEntry) (clock : ℕ) → AsksToldEnforce call entries clock
          → (his : States) (a : AsksToEnforce call his) (verdict : Verdict)
          → ReadsLogToEnd AnyExchange (input_log a.entries a.clock) verdict call.before.gate call.after.gate
          → ReadsLogToEnd AnyExchange (input_log entries clock) verdict call.before.gate call.after.gate
      told_run entries clock t his a verdict read =
          let same = same_asked one one_text accepted call t.states entries t.rules t.asks his a.entries a.rules a.asks in
          let at = same_clock one one_text accepted call t.states entries t.rules t.asks his a.entries a.rules a.asks one_state clock t.starts a.bounds a.state a.clock a.holds_start in
          subst (λ (r : LogReading). ReadsLogToEnd AnyExchange r verdict call.before.gate call.after.gate) (λ i. input_log (sym same.0 i) (sym at i)) read

      told_audit : (entries : List NameEntry) (policy : List Rule) → AsksToldPolicy IsAuditForm call entries policy → (report : Stream) (verdict : Verdict) (a : AuditsLog call report verdict)
          → TakesWholeTrace entries verdict call.before.gate call.after.gate
      told_audit entries policy t report verdict a =
          let same = one_asked one one_text accepted call entries policy
          (policy_named call entries policy IsAuditForm audit_names t) a.entries a.policy
          (asks_named call a.entries a.policy IsAuditForm audit_names a.asks) in
          subst (λ (es : List NameEntry). TakesWholeTrace es verdict call.before.gate call.after.gate) (sym same.0) a.whole

      done_meets_none : (his : States) (a : AsksToEnforce call his)
          → ReadsLogToEnd AnyExchange (input_log a.entries a.clock) verdicts.Accepted call.before.gate
          call.after.gate → MeetsRefusedRecord (AsksToEnforceSo call) call → ⊥
      done_meets_none his a whole m = by m.asks
        where
          by : AsksToEnforceSo call m.reading → ⊥
          by (entries, clock, t, is) =
              let w = subst (λ (r : LogReading). ReadsLogToEnd AnyExchange r verdicts.Accepted call.before.gate call.after.gate) (sym is) (told_run entries clock t his a verdicts.Accepted whole) in
              whole_meets_none law AnyExchange m.reading call.before.gate call.after.gate w m.x m.y m.told m.told' m.read m.rest m.accepts m.why m.refused

      audit_meets_none : (report : Stream) → AuditsLog call report verdicts.Accepted → MeetsRefusedRecord (AsksToAudit call) call → ⊥
      audit_meets_none report a m = by m.asks
        where
          by : AsksToAudit call m.reading → ⊥
          by (entries, policy, t, is) =
              let w = subst (λ (r : LogReading). ReadsLogToEnd GaveNothing r verdicts.Accepted call.before.gate call.after.gate) (sym is) (told_audit entries policy t report verdicts.Accepted a) in
              whole_meets_none law GaveNothing m.reading call.before.gate call.after.gate w m.x m.y m.told m.told' m.read m.rest m.accepts m.why m.refused

      -- a log that is refused in a run, or in an audit, is no whole one
      record_not_acceptable : (report : Stream) (number : ℕ) (why : RecordRefusal) → RefusesRecord call report number why → IsEnforceable call → ⊥
      record_not_acceptable report number why o due =
          refused_not_whole law AnyExchange (input_log due.entries due.clock) call.before.gate call.after.gate why
          (told_run due.entries due.clock due.asks o.states o.log.asks (verdicts.Refused why) o.log.took.whole) due.whole

      audited_not_acceptable : (report : Stream) (why : RecordRefusal) → AuditsLog call report (verdicts.Refused why) → (found : Found) → IsAuditable call found → ⊥
      audited_not_acceptable report why a found due =
          refused_not_whole law GaveNothing (trace_log due.entries) call.before.gate call.after.gate why (told_audit due.entries due.policy due.asks report (verdicts.Refused why) a) due.whole

      -- an audit finds what is to be found
      one_found : VerdictIsOne → (report : Stream) (found other : Found) → FindsVerdict call report found → IsAuditable call other → found ≡ other
      one_found one_verdict report found other f due = subst Q same.0 base f.audit.whole f.is_verdict yours
        where
          same : (due.entries ≡ f.audit.entries) × (due.policy ≡ f.audit.policy)
          same = one_asked one one_text accepted call due.entries due.policy
              (policy_named call due.entries due.policy IsAuditForm audit_names due.asks) f.audit.entries
              f.audit.policy (asks_named call f.audit.entries f.audit.policy IsAuditForm audit_names f.audit.asks)

          IsFound : List LogItem → Found → Type 0
          IsFound read verdict = IsVerdict (all_formulas f.audit.policy) (recorded (records_of read)) verdict

          yours : IsFound due.whole.read other
          yours = subst (λ (rules : List Rule). IsVerdict (all_formulas rules) (recorded (records_of due.whole.read)) other) same.1 due.is_verdict

          Q : List NameEntry → Type 0
          Q entries = (w : TakesWholeTrace entries verdicts.Accepted call.before.gate call.after.gate) → IsFound w.log.read found → IsFound due.whole.read other → found ≡ other

          base : Q due.entries
          base w mine also =
              let read = whole_read law GaveNothing (trace_log due.entries) call.before.gate call.after.gate w due.whole in
              one_verdict (all_formulas f.audit.policy) (recorded (records_of due.whole.read)) found other (subst (λ (r : List LogItem). IsFound r found) read mine) also

    -- ---- where each status must come

    module _ (verdict_is_one : VerdictIsOne) {Gate : Type 0} (call : Call Gate) where
      -- no call of a file failed
      abbrev NoFileFailed : Type 0
      NoFileFailed = ((name : List ℕ) → call.after.files.read_faults name ≡ call.before.files.read_faults name)
          × ((name : List ℕ) → call.after.files.write_faults name ≡ call.before.files.write_faults name)

      left : LeavesFiles call → NoFileFailed
      left files = ((λ name. ap (λ (v : FileView). v.read_faults name) files), (λ name. ap (λ (v : FileView). v.write_faults name) files))

      read_faultless : NoFileFailed → call.after.gate.read_faults ≡ call.before.gate.read_faults → MeetsReadFault call → ⊥
      read_faultless files gate (inl (name, moved)) = moved (files.0 name)
      read_faultless files gate (inr moved) = moved gate

      write_faultless : NoFileFailed → call.after.gate.write_faults ≡ call.before.gate.write_faults → MeetsWriteFault call → ⊥
      write_faultless files gate (inl (name, moved)) = moved (files.1 name)
      write_faultless files gate (inr moved) = moved gate

      -- no read failed, and no write
      no_read_fault : LeavesFiles call → call.after.gate.read_faults ≡ call.before.gate.read_faults → MeetsReadFault call → ⊥
      no_read_fault files gate due = read_faultless (left files) gate due

      no_write_fault : LeavesFiles call → call.after.gate.write_faults ≡ call.before.gate.write_faults → MeetsWriteFault call → ⊥
      no_write_fault files gate due = write_faultless (left files) gate due

      left_faultless : LeavesGate call → LeavesFiles call → (MeetsReadFault call → ⊥) × (MeetsWriteFault call → ⊥)
      left_faultless gate files = (no_read_fault files (ap (λ (s : Stream). s.read_faults) gate.1), no_write_fault files (ap (λ (s : Stream). s.write_faults) gate.1))

      -- what is due where a run broke off, which any status may be then
      broken : (result : Status) → IsBrokenOff result → (status : Status) → ComesToStatus status result
      broken result b status = inr b

      -- ---- enforce

      -- no file that is told is refused where a log is enforced
      enforced_not_refused : (his : States) (a : AsksToEnforce call his) → EnforceDue call statuses.Files → ⊥
      enforced_not_refused his a (inl due) = not_asked one one_text accepted call NamesEnforce enforces_names due a.entries a.rules asks
        where
          asks : AsksUnderPolicy NamesEnforce call a.entries a.rules
          asks =
              record {
                signature_file = a.asks.signature_file;
                policy_file = a.asks.policy_file;
                form = (his, a.asks.form);
                signature_bytes = a.asks.signature_bytes;
                policy_bytes = a.asks.policy_bytes;
                signature_told = a.asks.signature_told;
                is_signature = a.asks.is_signature;
                policy_told = a.asks.policy_told;
                is_policy = a.asks.is_policy;
              }
      enforced_not_refused his a (inr (why, t)) =
          let named = same_states one one_text accepted call t.states t.entries t.rules t.asks his a.entries a.rules a.asks in
          read_not_refused_state one one_text accepted call t.states t.entries t.rules t.asks his a.entries a.rules a.asks one_answer one_plans t.bounds a.bounds t.are_bounds a.are_bounds
          (bounds_formed forms a.entries a.asks.policy_bytes a.rules a.bounds a.are_bounds a.asks.is_policy)
          t.file (sym named.0 ∙ t.named) t.bytes t.told why t.refused a.state a.clock a.holds_start

      due_enforced : (his : States) (a : AsksToEnforce call his) (count : ℕ)
          → TookLog (input_log a.entries a.clock) (record { accepted = count; verdict = verdicts.Accepted })
          (seen_of call.before.gate call.before.report) (seen_of call.after.gate call.after.report)
          → NoFileFailed → (status : Status) → EnforceDue call status → ComesToStatus status statuses.Done
      due_enforced his a count took files statuses.Done due = inl refl
      due_enforced his a count took files statuses.Words due = absurd due
      due_enforced his a count took files statuses.Files due = absurd (enforced_not_refused his a due)
      due_enforced his a count took files statuses.Record due = absurd (done_meets_none call his a took.whole due)
      due_enforced his a count took files statuses.ReadFault due = absurd (read_faultless files took.whole.ends.2 due)
      due_enforced his a count took files statuses.WriteFault due = absurd (write_faultless files took.writes due)
      due_enforced his a count took files statuses.NoMemory due = absurd due
      due_enforced his a count took files statuses.Violated due = absurd due

      -- a write that succeeds is no fault
      written : (name bytes : List ℕ) → WritesFile {T = Unit {0}} name bytes (Ok tt) call.before.files call.after.files → NoFileFailed
      written name bytes w = (w.reads, same_counts name (Ok tt) call.before.files.write_faults call.after.files.write_faults w.writes (λ n. refl))

      enforce_untouched : RefusesRun call (EnforceRefused call) statuses.Files → LeavesGate call × LeavesFiles call
      enforce_untouched o = by o.why o.status_is o.meets
        where
          by : (why : Refusal) → statuses.Files ≡ refusal_status why → EnforceRefused call o.between why → LeavesGate call × LeavesFiles call
          by refusals.Words is m = absurd m
          by (refusals.Signature why) is m = (m.1.gate, m.1.files)
          by (refusals.Policy why) is m = (m.1.gate, m.1.files)
          by (refusals.State why) is m = (m.1.gate, m.1.files)
          by (refusals.Record number why) is m = cc
          by refusals.ReadFault is m = cc

      due_unenforced : RefusesRun call (EnforceRefused call) statuses.Files → (status : Status) → EnforceDue call status → ComesToStatus status statuses.Files
      due_unenforced o statuses.Done due = absurd (enforced_told one one_text accepted one_plans forms one_answer call due.entries due.clock due.asks o)
      due_unenforced o statuses.Words due = absurd due
      due_unenforced o statuses.Files due = inl refl
      due_unenforced o statuses.Record due = absurd (by due.asks)
        where
          by : AsksToEnforceSo call due.reading → ⊥
          by (entries, clock, t, is) = enforced_told one one_text accepted one_plans forms one_answer call entries clock t o
      due_unenforced o statuses.ReadFault due = let is = enforce_untouched o in absurd ((left_faultless is.0 is.1).0 due)
      due_unenforced o statuses.WriteFault due = let is = enforce_untouched o in absurd ((left_faultless is.0 is.1).1 due)
      due_unenforced o statuses.NoMemory due = absurd due
      due_unenforced o statuses.Violated due = absurd due

      due_refused : (report : Stream) (number : ℕ) (why : RecordRefusal) → RefusesRecord call report number why → (status : Status) → EnforceDue call status → ComesToStatus status statuses.Record
      due_refused report number why o statuses.Done due = absurd (record_not_acceptable call report number why o due)
      due_refused report number why o statuses.Words due = absurd due
      due_refused report number why o statuses.Files due = absurd (enforced_not_refused o.states o.log.asks due)
      due_refused report number why o statuses.Record due = inl refl
      due_refused report number why o statuses.ReadFault due = absurd (no_read_fault o.log.files o.log.took.whole.ends.1 due)
      due_refused report number why o statuses.WriteFault due = absurd (no_write_fault o.log.files o.log.took.writes due)
      due_refused report number why o statuses.NoMemory due = absurd due
      due_refused report number why o statuses.Violated due = absurd due

      enforce_comes : (result : Status) → EnforceOutcome call result → (status : Status) → EnforceDue call status → ComesToStatus status result
      enforce_comes statuses.Done (inl o) status due = due_enforced o.states o.log.asks o.accepted o.log.took (left o.log.files) status due
      enforce_comes statuses.Done (inr o) status due = let p = o.paused in due_enforced p.states p.asks p.accepted p.took (written o.file o.state o.written) status due
      enforce_comes statuses.Words o status due = absurd (words_not_refused call Enforce (λ report m. m) o)
      enforce_comes statuses.Files o status due = due_unenforced o status due
      enforce_comes statuses.Record o status due = by o.why o.status_is o.meets
        where
          by : (why : Refusal) → statuses.Record ≡ refusal_status why → EnforceRefused call o.between why → ComesToStatus status statuses.Record
          by refusals.Words is m = absurd m
          by (refusals.Signature why) is m = cc
          by (refusals.Policy why) is m = cc
          by (refusals.State why) is m = cc
          by (refusals.Record number why) is m = due_refused o.between number why m status due
          by refusals.ReadFault is m = cc
      enforce_comes statuses.ReadFault o status due = broken statuses.ReadFault (inl refl) status
      enforce_comes statuses.WriteFault o status due = broken statuses.WriteFault (inr (inl refl)) status
      enforce_comes statuses.NoMemory o status due = broken statuses.NoMemory (inr (inr refl)) status
      enforce_comes statuses.Violated o status due = absurd (none_violates o.why o.status_is)

      -- ---- check

      check_untouched : RefusesRun call (CheckRefused call) statuses.Files → LeavesGate call × LeavesFiles call
      check_untouched o = by o.why o.status_is o.meets
        where
          by : (why : Refusal) → statuses.Files ≡ refusal_status why → CheckRefused call o.between why → LeavesGate call × LeavesFiles call
          by refusals.Words is m = absurd m
          by (refusals.Signature why) is m = (m.1.gate, m.1.files)
          by (refusals.Policy why) is m = (m.1.gate, m.1.files)
          by (refusals.State why) is m = absurd m
          by (refusals.Record number why) is m = absurd m
          by refusals.ReadFault is m = cc

      checked_told : (entries : List NameEntry) (policy : List Rule) → AsksToldPolicy IsCheckForm call entries policy → RefusesRun call (CheckRefused call) statuses.Files → ⊥
      checked_told entries policy t o = by o.why o.status_is o.meets
        where
          by : (why : Refusal) → statuses.Files ≡ refusal_status why → CheckRefused call o.between why → ⊥
          by refusals.Words is m = m
          by (refusals.Signature why) is m = no_refused_signature one one_text accepted call IsCheckForm check_names entries policy t o.between why m
          by (refusals.Policy why) is m = no_refused_policy one one_text accepted call IsCheckForm check_names entries policy t o.between why m
          by (refusals.State why) is m = m
          by (refusals.Record number why) is m = m
          by refusals.ReadFault is m = cc

      due_checked : GivesCheckText Gave none_more call call.after.report → (status : Status) → CheckDue call status → ComesToStatus status statuses.Done
      due_checked o statuses.Done due = inl refl
      due_checked o statuses.Words due = absurd due
      due_checked o statuses.Files due = absurd (not_asked one one_text accepted call IsCheckForm check_names due o.entries o.policy o.asks)
      due_checked o statuses.Record due = absurd due
      due_checked o statuses.ReadFault due = absurd (no_read_fault o.files o.reads due)
      due_checked o statuses.WriteFault due = absurd (no_write_fault o.files o.writes due)
      due_checked o statuses.NoMemory due = absurd due
      due_checked o statuses.Violated due = absurd due

      due_unchecked : RefusesRun call (CheckRefused call) statuses.Files → (status : Status) → CheckDue call status → ComesToStatus status statuses.Files
      due_unchecked o statuses.Done (entries, policy, t) = absurd (checked_told entries policy t o)
      due_unchecked o statuses.Words due = absurd due
      due_unchecked o statuses.Files due = inl refl
      due_unchecked o statuses.Record due = absurd due
      due_unchecked o statuses.ReadFault due = let is = check_untouched o in absurd ((left_faultless is.0 is.1).0 due)
      due_unchecked o statuses.WriteFault due = let is = check_untouched o in absurd ((left_faultless is.0 is.1).1 due)
      due_unchecked o statuses.NoMemory due = absurd due
      due_unchecked o statuses.Violated due = absurd due

      check_comes : (result : Status) → CheckOutcome call result → (status : Status) → CheckDue call status → ComesToStatus status result
      check_comes statuses.Done o status due = due_checked o status due
      check_comes statuses.Words o status due = absurd (words_not_refused call Check (λ report m. m) o)
      check_comes statuses.Files o status due = due_unchecked o status due
      check_comes statuses.Record o status due = absurd (by o.why o.status_is o.meets)
        where
          by : (why : Refusal) → statuses.Record ≡ refusal_status why → CheckRefused call o.between why → ⊥
          by refusals.Words is m = m
          by (refusals.Signature why) is m = cc
          by (refusals.Policy why) is m = cc
          by (refusals.State why) is m = m
          by (refusals.Record number why) is m = m
          by refusals.ReadFault is m = cc
      check_comes statuses.ReadFault o status due = broken statuses.ReadFault (inl refl) status
      check_comes statuses.WriteFault o status due = broken statuses.WriteFault (inr (inl refl)) status
      check_comes statuses.NoMemory o status due = broken statuses.NoMemory (inr (inr refl)) status
      check_comes statuses.Violated o status due = absurd (none_violates o.why o.status_is)

      -- ---- audit

      audit_untouched : RefusesRun call (AuditRefused call) statuses.Files → LeavesGate call × LeavesFiles call
      audit_untouched o = by o.why o.status_is o.meets
        where
          by : (why : Refusal) → statuses.Files ≡ refusal_status why → AuditRefused call o.between why → LeavesGate call × LeavesFiles call
          by refusals.Words is m = absurd m
          by (refusals.Signature why) is m = (m.1.gate, m.1.files)
          by (refusals.Policy why) is m = (m.1.gate, m.1.files)
          by (refusals.State why) is m = absurd m
          by (refusals.Record number why) is m = cc
          by refusals.ReadFault is m = cc

      audited_told : (entries : List NameEntry) (policy : List Rule) → AsksToldPolicy IsAuditForm call entries policy → RefusesRun call (AuditRefused call) statuses.Files → ⊥
      audited_told entries policy t o = by o.why o.status_is o.meets
        where
          by : (why : Refusal) → statuses.Files ≡ refusal_status why → AuditRefused call o.between why → ⊥
          by refusals.Words is m = m
          by (refusals.Signature why) is m = no_refused_signature one one_text accepted call IsAuditForm audit_names entries policy t o.between why m
          by (refusals.Policy why) is m = no_refused_policy one one_text accepted call IsAuditForm audit_names entries policy t o.between why m
          by (refusals.State why) is m = m
          by (refusals.Record number why) is m = cc
          by refusals.ReadFault is m = cc

      -- what an audit that found a verdict leaves no room for, but another verdict
      module _ (found : Found) (o : SaysVerdict call call.after.report found) where
        abbrev audit : AuditsLog call call.after.report verdicts.Accepted
        audit = o.finds.audit

        audit_files : AsksRefusedFile IsAuditForm call → ⊥
        audit_files due = not_asked one one_text accepted call IsAuditForm audit_names due audit.entries audit.policy audit.asks

        audit_reads : MeetsReadFault call → ⊥
        audit_reads due = no_read_fault audit.files audit.whole.ends.2 due

        audit_writes : MeetsWriteFault call → ⊥
        audit_writes due = no_write_fault audit.files o.writes due

        not_other : (other : Found) → (found ≡ other → ⊥) → IsAuditable call other → ⊥
        not_other other differs due = differs (one_found call verdict_is_one call.after.report found other o.finds due)

      due_held : SaysVerdict call call.after.report Holds → (status : Status) → AuditDue call status → ComesToStatus status statuses.Done
      due_held o statuses.Done due = inl refl
      due_held o statuses.Words due = absurd due
      due_held o statuses.Files due = absurd (audit_files Holds o due)
      due_held o statuses.Record due = absurd (audit_meets_none call call.after.report o.finds.audit due)
      due_held o statuses.ReadFault due = absurd (audit_reads Holds o due)
      due_held o statuses.WriteFault due = absurd (audit_writes Holds o due)
      due_held o statuses.NoMemory due = absurd due
      due_held o statuses.Violated (rule, position, due) = absurd (not_other Holds o (Fails rule position) (λ is. cc) due)

      due_violated : (rule position : ℕ) → SaysVerdict call call.after.report (Fails rule position) → (status : Status) → AuditDue call status → ComesToStatus status statuses.Violated
      due_violated rule position o statuses.Done due = absurd (not_other (Fails rule position) o Holds (λ is. cc) due)
      due_violated rule position o statuses.Words due = absurd due
      due_violated rule position o statuses.Files due = absurd (audit_files (Fails rule position) o due)
      due_violated rule position o statuses.Record due = absurd (audit_meets_none call call.after.report o.finds.audit due)
      due_violated rule position o statuses.ReadFault due = absurd (audit_reads (Fails rule position) o due)
      due_violated rule position o statuses.WriteFault due = absurd (audit_writes (Fails rule position) o due)
      due_violated rule position o statuses.NoMemory due = absurd due
      due_violated rule position o statuses.Violated due = inl refl

      due_unaudited : RefusesRun call (AuditRefused call) statuses.Files → (status : Status) → AuditDue call status → ComesToStatus status statuses.Files
      due_unaudited o statuses.Done due = absurd (audited_told due.entries due.policy due.asks o)
      due_unaudited o statuses.Words due = absurd due
      due_unaudited o statuses.Files due = inl refl
      due_unaudited o statuses.Record due = absurd (by due.asks)
        where
          by : AsksToAudit call due.reading → ⊥
          by (entries, policy, t, is) = audited_told entries policy t o
      due_unaudited o statuses.ReadFault due = let is = audit_untouched o in absurd ((left_faultless is.0 is.1).0 due)
      due_unaudited o statuses.WriteFault due = let is = audit_untouched o in absurd ((left_faultless is.0 is.1).1 due)
      due_unaudited o statuses.NoMemory due = absurd due
      due_unaudited o statuses.Violated (rule, position, due) = absurd (audited_told due.entries due.policy due.asks o)

      due_misaudited : (report : Stream) (number : ℕ) (why : RecordRefusal) → RefusesAudited call report number why → (status : Status) → AuditDue call status → ComesToStatus status statuses.Record
      due_misaudited report number why o statuses.Done due = absurd (audited_not_acceptable call report why o.silence.audit Holds due)
      due_misaudited report number why o statuses.Words due = absurd due
      due_misaudited report number why o statuses.Files due = let a = o.silence.audit in absurd (not_asked one one_text accepted call IsAuditForm audit_names due a.entries a.policy a.asks)
      due_misaudited report number why o statuses.Record due = inl refl
      due_misaudited report number why o statuses.ReadFault due = let a = o.silence.audit in absurd (no_read_fault a.files a.whole.ends.1 due)
      due_misaudited report number why o statuses.WriteFault due = absurd (no_write_fault o.silence.audit.files o.silence.writes due)
      due_misaudited report number why o statuses.NoMemory due = absurd due
      due_misaudited report number why o statuses.Violated (rule, position, due) = absurd (audited_not_acceptable call report why o.silence.audit (Fails rule position) due)

      audit_comes : (result : Status) → AuditOutcome call result → (status : Status) → AuditDue call status → ComesToStatus status result
      audit_comes statuses.Done o status due = due_held o status due
      audit_comes statuses.Words o status due = absurd (words_not_refused call Audit (λ report m. m) o)
      audit_comes statuses.Files o status due = due_unaudited o status due
      audit_comes statuses.Record o status due = by o.why o.status_is o.meets
        where
          by : (why : Refusal) → statuses.Record ≡ refusal_status why → AuditRefused call o.between why → ComesToStatus status statuses.Record
          by refusals.Words is m = absurd m
          by (refusals.Signature why) is m = cc
          by (refusals.Policy why) is m = cc
          by (refusals.State why) is m = absurd m
          by (refusals.Record number why) is m = due_misaudited o.between number why m status due
          by refusals.ReadFault is m = cc
      audit_comes statuses.ReadFault o status due = broken statuses.ReadFault (inl refl) status
      audit_comes statuses.WriteFault o status due = broken statuses.WriteFault (inr (inl refl)) status
      audit_comes statuses.NoMemory o status due = broken statuses.NoMemory (inr (inr refl)) status
      audit_comes statuses.Violated (rule, position, o) status due = due_violated rule position o status due

      -- ---- generate and drill

      generate_comes : (result : Status) → GenerateOutcome call result → (status : Status) → GenerateDue call status → ComesToStatus status result
      generate_comes statuses.Done o statuses.Done due = inl refl
      generate_comes statuses.Done o statuses.Words due = absurd due
      generate_comes statuses.Done o statuses.Files due = absurd due
      generate_comes statuses.Done o statuses.Record due = absurd due
      generate_comes statuses.Done o statuses.ReadFault due = absurd (no_read_fault o.files o.reads due)
      generate_comes statuses.Done o statuses.WriteFault due = absurd (no_write_fault o.files o.writes due)
      generate_comes statuses.Done o statuses.NoMemory due = absurd due
      generate_comes statuses.Done o statuses.Violated due = absurd due
      generate_comes statuses.Words o status due = absurd (generates_unrefused call o.between o.why o.meets)
      generate_comes statuses.Files o status due = absurd (generates_unrefused call o.between o.why o.meets)
      generate_comes statuses.Record o status due = absurd (generates_unrefused call o.between o.why o.meets)
      generate_comes statuses.ReadFault o status due = absurd (generates_unrefused call o.between o.why o.meets)
      generate_comes statuses.WriteFault o status due = broken statuses.WriteFault (inr (inl refl)) status
      generate_comes statuses.NoMemory o status due = broken statuses.NoMemory (inr (inr refl)) status
      generate_comes statuses.Violated o status due = absurd (generates_unrefused call o.between o.why o.meets)

      drill_comes : (result : Status) → DrillOutcome call result → (status : Status) → DrillDue call status → ComesToStatus status result
      drill_comes statuses.Done o statuses.Done due = inl refl
      drill_comes statuses.Done o statuses.Words due = absurd due
      drill_comes statuses.Done o statuses.Files due = absurd due
      drill_comes statuses.Done o statuses.Record due = absurd due
      drill_comes statuses.Done o statuses.ReadFault due = absurd (no_read_fault o.files o.reads due)
      drill_comes statuses.Done o statuses.WriteFault due = absurd (no_write_fault o.files o.writes due)
      drill_comes statuses.Done o statuses.NoMemory due = absurd due
      drill_comes statuses.Done o statuses.Violated due = absurd due
      drill_comes statuses.Words o status due = absurd (drills_unrefused call o.between o.why o.meets)
      drill_comes statuses.Files o status due = absurd (drills_unrefused call o.between o.why o.meets)
      drill_comes statuses.Record o status due = absurd (drills_unrefused call o.between o.why o.meets)
      drill_comes statuses.ReadFault o status due = absurd (drills_unrefused call o.between o.why o.meets)
      drill_comes statuses.WriteFault o status due = broken statuses.WriteFault (inr (inl refl)) status
      drill_comes statuses.NoMemory o status due = broken statuses.NoMemory (inr (inr refl)) status
      drill_comes statuses.Violated o status due = absurd (drills_unrefused call o.between o.why o.meets)

      -- ---- no form

      words_met : RefusesRun call (NoFormRefused call) statuses.Words → (between : Stream) × RefusesWords call between
      words_met o = by o.why o.meets
        where
          by : (why : Refusal) → NoFormRefused call o.between why → (between : Stream) × RefusesWords call between
          by refusals.Words m = (o.between, m)
          by (refusals.Signature why) m = absurd m
          by (refusals.Policy why) m = absurd m
          by (refusals.State why) m = absurd m
          by (refusals.Record number why) m = absurd m
          by refusals.ReadFault m = absurd m

      no_form_comes : (result : Status) → NoFormOutcome call result → (status : Status) → NoFormDue call status → ComesToStatus status result
      no_form_comes statuses.Done o status due = absurd (words_alone call statuses.Done (λ is. cc) o)
      no_form_comes statuses.Words o statuses.Done due = absurd due
      no_form_comes statuses.Words o statuses.Words due = inl refl
      no_form_comes statuses.Words o statuses.Files due = absurd due
      no_form_comes statuses.Words o statuses.Record due = absurd due
      no_form_comes statuses.Words o statuses.ReadFault due = let m = (words_met o).1.1 in absurd ((left_faultless m.gate m.files).0 due)
      no_form_comes statuses.Words o statuses.WriteFault due = let m = (words_met o).1.1 in absurd ((left_faultless m.gate m.files).1 due)
      no_form_comes statuses.Words o statuses.NoMemory due = absurd due
      no_form_comes statuses.Words o statuses.Violated due = absurd due
      no_form_comes statuses.Files o status due = absurd (words_alone call statuses.Files (λ is. cc) o)
      no_form_comes statuses.Record o status due = absurd (words_alone call statuses.Record (λ is. cc) o)
      no_form_comes statuses.ReadFault o status due = absurd (words_alone call statuses.ReadFault (λ is. cc) o)
      no_form_comes statuses.WriteFault o status due = absurd (words_alone call statuses.WriteFault (λ is. cc) o)
      no_form_comes statuses.NoMemory o status due = broken statuses.NoMemory (inr (inr refl)) status
      no_form_comes statuses.Violated o status due = absurd (words_alone call statuses.Violated (λ is. cc) o)

      -- ---- the form of the words

      comes_of : (form : Form) (result : Status) → OutcomeOf form call result → (status : Status) → DueOf form call status → ComesToStatus status result
      comes_of Enforce result o status due = enforce_comes result o status due
      comes_of Check result o status due = check_comes result o status due
      comes_of Audit result o status due = audit_comes result o status due
      comes_of Generate result o status due = generate_comes result o status due
      comes_of Drill result o status due = drill_comes result o status due
      comes_of NoForm result o status due = no_form_comes result o status due

      -- no write to the report failed of a run that is done
      abbrev IsQuiet : Type 0
      IsQuiet = call.after.report.write_faults ≡ call.before.report.write_faults

      silent : call.after.report ≡ call.before.report → IsQuiet
      silent same = ap (λ (s : Stream). s.write_faults) same

      done_quiet : (form : Form) → OutcomeOf form call statuses.Done → IsQuiet
      done_quiet Enforce (inl o) = o.log.took.report.writes
      done_quiet Enforce (inr o) = o.paused.took.report.writes
      done_quiet Check o = silent o.silent
      done_quiet Audit o = silent o.finds.audit.silent
      done_quiet Generate o = silent o.silent
      done_quiet Drill o = silent o.silent
      done_quiet NoForm o = absurd (words_alone call statuses.Done (λ is. cc) o)

      violated_quiet : (form : Form) → OutcomeOf form call statuses.Violated → IsQuiet
      violated_quiet Enforce o = absurd (none_violates o.why o.status_is)
      violated_quiet Check o = absurd (none_violates o.why o.status_is)
      violated_quiet Audit (rule, position, o) = silent o.finds.audit.silent
      violated_quiet Generate o = absurd (none_violates o.why o.status_is)
      violated_quiet Drill o = absurd (none_violates o.why o.status_is)
      violated_quiet NoForm o = absurd (none_violates o.why o.status_is)

      -- what the table of a form says at a status leaves no room for another that is due
      pub dues_of : (result : Status) → RunOutcome call result → Dues call result
      dues_of result o =
          record {
            words = o.words;
            comes = comes_of o.words.form result o.holds;
            report_fault = λ moved. (
              (λ is. moved (done_quiet o.words.form (subst (OutcomeOf o.words.form call) is o.holds))),
              (λ is. moved (violated_quiet o.words.form (subst (OutcomeOf o.words.form call) is o.holds))),
            );
          }
