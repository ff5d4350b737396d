-- Over the devices that never fail, with the files that the words name, no fault comes.
use Rattle.enf_run.proofs.Vocabulary.{◌≡◌, ◌≢◌, ℕ, List, [], ◌∷◌, ◌++◌, Option, None, Some, codes, refl, sym, ap, subst, ◌∙◌, arith, inl, inr, CalmContents, calm_files, contents_under, one_more}
use Rattle.enf_run.proofs.Vocabulary.{FileView, NoFile, NameEntry, Call, FailsToRead, HasWriteFault, seen_of, Stream, Form, Audit, Check, Drill, Enforce, Generate, NoForm, AuditRefused, CheckRefused}
use Rattle.enf_run.proofs.Vocabulary.{EnforceRefused, MissesState, RunOutcome, OutcomeOf, refusal_status, MissesFile, NamesEnforce, IsAuditForm, IsCheckForm, NamesFiles, NamesFilesAlone, NamesResumed}
use Rattle.enf_run.proofs.Vocabulary.{States, option_words, state_words, states_of, MOST_FILE_BYTES, MOST_STATE_BYTES, Refusal, AreBytesUnder, SpellsSignature}
use Rattle.std.proofs.Common.{◌⊎◌}
use Rattle.enf_run.proofs.RequestLemmas.{drills_unrefused, generates_unrefused, words_alone, IsNaming, audit_names, check_names, enforces_names, one_form}
use Rattle.enf_run.specs.declared.endings.Cut.TheVariants as cuts
use Rattle.enf_run.specs.declared.refusals.Refusal.TheVariants as refusals
use Rattle.enf_run.specs.declared.refusals.Status.TheVariants as statuses

-- ---- words that name two files alone

pub alone_names : (words : List (List ℕ)) (signature policy : List ℕ) → NamesFilesAlone words signature policy → NamesFiles words signature policy
alone_names words signature policy (inl e) = inl (states_of None None, e)
alone_names words signature policy (inr e) = inr e

-- they are a command and these files
are_three : (words : List (List ℕ)) (signature policy : List ℕ) → NamesFilesAlone words signature policy → (command : List ℕ) × (words ≡ command ∷ signature ∷ policy ∷ [])
are_three words signature policy (inl e) = (codes "enforce", e)
are_three words signature policy (inr (inl e)) = (codes "check", e)
are_three words signature policy (inr (inr e)) = (codes "audit", e)

-- a state to resume is named after them
named_behind : (states : States) (file : List ℕ) → states.resumed ≡ Some file → state_words states ≡ [] → ⊥
named_behind states file = by states.resumed
  where
    by : (resumed : Option (List ℕ)) → resumed ≡ Some file → option_words (codes "--resume") resumed ++ option_words (codes "--save") states.saved ≡ [] → ⊥
    by None named none = cc
    by (Some other) named none = cc

same_behind : (words : List (List ℕ)) (a b c a' b' c' : List ℕ) (more others : List (List ℕ)) → words ≡ a ∷ b ∷ c ∷ more → words ≡ a' ∷ b' ∷ c' ∷ others → more ≡ others
same_behind words a b c a' b' c' more others e f =
    let both : a ∷ b ∷ c ∷ more ≡ a' ∷ b' ∷ c' ∷ others = sym e ∙ f in
    cc

-- so they name none
pub alone_resumes_none : (words : List (List ℕ)) (signature policy file : List ℕ) → NamesFilesAlone words signature policy → NamesResumed words file → ⊥
alone_resumes_none words signature policy file alone (states, other, another, form, named) =
    let three = are_three words signature policy alone in
    named_behind states file named (same_behind words (codes "enforce") other another three.0 signature policy (state_words states) [] form three.1)

-- ---- no fault

-- a count that stays 0 is not one more
stays_none : (before after : ℕ) → before ≡ 0 → after ≡ 0 → after ≡ one_more before → ⊥
stays_none before after b a more = omega (arith, b, a, more)

module _ {Gate : Type 0} (call : Call Gate) (x : CalmContents) (files : call.before.files ≡ calm_files x) where
  -- a file that is there is read
  reads_held : (most : ℕ) (name : List ℕ) → contents_under x name ≢ NoFile → FailsToRead most name call.before.files call.after.files → ⊥
  reads_held most name held failed =
      let h = subst (λ v. FailsToRead most name v call.after.files) files failed in
      held (h.missing refl refl)

  module _ (signature policy : List ℕ) (form : NamesFiles call.words signature policy) (held : contents_under x signature ≢ NoFile) (also : contents_under x policy ≢ NoFile)
      (state : (file : List ℕ) → NamesResumed call.words file → contents_under x file ≢ NoFile) where
    misses_none : (IsForm : List (List ℕ) → List ℕ → List ℕ → Type 0) → IsNaming IsForm → (report : Stream) → MissesFile IsForm call report → ⊥
    misses_none IsForm naming report m = by (one_form call.words signature policy m.signature_file m.policy_file form (naming call.words m.signature_file m.policy_file m.form)) m.failed
      where
        by : (signature ≡ m.signature_file) × (policy ≡ m.policy_file)
            → FailsToRead MOST_FILE_BYTES m.signature_file call.before.files call.after.files
            ⊎ (((bytes : List ℕ) × (entries : List NameEntry)
            × AreBytesUnder call.before.files.contents m.signature_file bytes × SpellsSignature bytes entries)
            × FailsToRead MOST_FILE_BYTES m.policy_file call.before.files call.after.files) → ⊥
        by names (inl failed) = reads_held MOST_FILE_BYTES m.signature_file (subst (λ (n : List ℕ). contents_under x n ≢ NoFile) names.0 held) failed
        by names (inr (holds, failed)) = reads_held MOST_FILE_BYTES m.policy_file (subst (λ (n : List ℕ). contents_under x n ≢ NoFile) names.1 also) failed

    misses_no_state : (report : Stream) → MissesState call report → ⊥
    misses_no_state report m = reads_held MOST_STATE_BYTES m.file (state m.file (m.states, m.asks.signature_file, m.asks.policy_file, m.asks.form, m.named)) m.failed

    -- no read fault comes
    pub no_read_fault : call.before.gate.read_faults ≡ 0 → call.after.gate.read_faults ≡ 0 → RunOutcome call statuses.ReadFault → ⊥
    no_read_fault before after o = by o.words.form o.holds
      where
        enforced : (report : Stream) (why : Refusal) → statuses.ReadFault ≡ refusal_status why → EnforceRefused call report why → ⊥
        enforced report refusals.Words is m = m
        enforced report (refusals.Signature why) is m = cc
        enforced report (refusals.Policy why) is m = cc
        enforced report (refusals.State why) is m = cc
        enforced report (refusals.Record number why) is m = cc
        enforced report refusals.ReadFault is (inl (inl m)) = misses_none NamesEnforce enforces_names report m
        enforced report refusals.ReadFault is (inl (inr m)) = misses_no_state report m
        enforced report refusals.ReadFault is (inr b) = stays_none call.before.gate.read_faults call.after.gate.read_faults before after b.log.took.whole.ends.1

        checked : (report : Stream) (why : Refusal) → statuses.ReadFault ≡ refusal_status why → CheckRefused call report why → ⊥
        checked report refusals.Words is m = m
        checked report (refusals.Signature why) is m = cc
        checked report (refusals.Policy why) is m = cc
        checked report (refusals.State why) is m = m
        checked report (refusals.Record number why) is m = m
        checked report refusals.ReadFault is m = misses_none IsCheckForm check_names report m

        audited : (report : Stream) (why : Refusal) → statuses.ReadFault ≡ refusal_status why → AuditRefused call report why → ⊥
        audited report refusals.Words is m = m
        audited report (refusals.Signature why) is m = cc
        audited report (refusals.Policy why) is m = cc
        audited report (refusals.State why) is m = m
        audited report (refusals.Record number why) is m = cc
        audited report refusals.ReadFault is (inl m) = misses_none IsAuditForm audit_names report m
        audited report refusals.ReadFault is (inr b) = stays_none call.before.gate.read_faults call.after.gate.read_faults before after b.audit.whole.ends.1

        by : (form : Form) → OutcomeOf form call statuses.ReadFault → ⊥
        by Enforce r = enforced r.between r.why r.status_is r.meets
        by Check r = checked r.between r.why r.status_is r.meets
        by Audit r = audited r.between r.why r.status_is r.meets
        by Generate r = generates_unrefused call r.between r.why r.meets
        by Drill r = drills_unrefused call r.between r.why r.meets
        by NoForm r = words_alone call statuses.ReadFault (λ is. cc) r

  -- no write fault comes
  pub no_write_fault : (y : CalmContents) → call.after.files ≡ calm_files y → call.before.gate.write_faults
      ≡ 0 → call.after.gate.write_faults ≡ 0 → call.before.report.write_faults ≡ 0
      → call.after.report.write_faults ≡ 0 → RunOutcome call statuses.WriteFault → ⊥
  no_write_fault y files' before after said-before said-after o = by o.words.form o.holds
    where
      no_fault : HasWriteFault cuts.WriteFault (seen_of call.before.gate call.before.report) (seen_of call.after.gate call.after.report) → ⊥
      no_fault (inl gate) = stays_none call.before.gate.write_faults call.after.gate.write_faults before after gate.0
      no_fault (inr report) = stays_none call.before.report.write_faults call.after.report.write_faults said-before said-after report.1

      by : (form : Form) → OutcomeOf form call statuses.WriteFault → ⊥
      by Enforce (inl failed) = no_fault failed.lost.fault
      by Enforce (inr failed) =
          let name = failed.file in
          stays_none (call.before.files.write_faults name) (call.after.files.write_faults name)
          (ap (λ (v : FileView). v.write_faults name) files)
          (ap (λ (v : FileView). v.write_faults name) files') failed.written.writes.named
      by Check checked = stays_none call.before.gate.write_faults call.after.gate.write_faults before after checked.writes
      by Audit found = stays_none call.before.gate.write_faults call.after.gate.write_faults before after found.writes
      by Generate generated = stays_none call.before.gate.write_faults call.after.gate.write_faults before after generated.writes
      by Drill drilled = stays_none call.before.gate.write_faults call.after.gate.write_faults before after drilled.writes
      by NoForm r = words_alone call statuses.WriteFault (λ is. cc) r
