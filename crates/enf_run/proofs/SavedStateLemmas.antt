-- What is saved of an enforcer that stands after what was given, and how a save ends.
use Rattle.enf_run.proofs.Vocabulary.{◌≡◌, ℕ, Bool, List, [], ◌∷◌, ◌++◌, map, refl, sym, ap, subst, is_some, Option, None, Some, Bor, Result, Ok, Err, option_map, Formula, Step, VarId, BoundFormula}
use Rattle.enf_run.proofs.Vocabulary.{tree_in, all_operators, guards_of, trace_of, start_behind, Record, ActedStep, out_steps, steps_of, Enforcing, enforcer_plans, SavesTrace, IsTextOfLines}
use Rattle.enf_run.proofs.Vocabulary.{IsSnapshotOf, lines_of, saved_text, HasSmallNumbers, Snapshot, FileView, WritesFile, IoRefusal, cut_after_file, EnforcerStandsBehind, RanAsJudged, RanSo}
use Rattle.enf_run.proofs.Vocabulary.{conclusion_of, rest_left, SavesState, WritesState, TookLog, LogSetting, LogReading, Seen, Judged, Verdict, IsStateText}
use Rattle.enf_run.proofs.FileLemmas.{same_counts}
use Rattle.enf_io.specs.declared.devices.IoRefusal.TheVariants as io
use Rattle.enf_run.specs.declared.intake.Verdict.TheVariants as verdicts

-- the guards of the program are formulas
pub same_guards : (guards : List BoundFormula) → map tree_in guards ≡ map (λ (guard : Formula × List VarId). guard.0) (guards_of guards)
same_guards [] = refl
same_guards (guard ∷ guards) = ap (λ (fs : List Formula). tree_in guard ∷ fs) (same_guards guards)

-- the trace of steps is that of the same steps with their changes
pub same_trace : (out : List ActedStep) → trace_of (out_steps out) ≡ steps_of out
same_trace [] = refl
same_trace (o ∷ out) = ap (λ (steps : List Step). o.step ∷ steps) (same_trace out)

-- what is kept of an enforcer that stands after what was given is the state of that
abbrev pub is_state_of : (s : LogSetting) (records : List Record) (out : List ActedStep) (enforcer : Enforcing)
    → EnforcerStandsBehind s records out enforcer → (signature policy : List ℕ) (before after : FileView)
    (file : List ℕ) (ended : Result (Unit {0}) IoRefusal)
    → (w : WritesState enforcer signature policy file ended before after)
    → IsStateText s.entries s.rules signature policy (start_behind s.start records (out_steps out))
    (saved_text signature policy w.kept)
is_state_of s records out enforcer is signature policy before after file ended w =
    let plans = enforcer_plans enforcer in
    let guards = enforcer.policy.guards in
    let trace = s.start.trace in
    let kept = w.saves (trace ++ steps_of out) is.stands in
    let of_guards = subst (λ (fs : List Formula). IsSnapshotOf plans (all_operators fs) (trace ++ steps_of out) enforcer.clock w.kept) (same_guards guards) kept in
    let fs = all_operators (map (λ (guard : Formula × List VarId). guard.0) (guards_of guards)) in
    let of_trace = subst (λ (steps : List Step). IsSnapshotOf plans fs (trace ++ steps) enforcer.clock w.kept) (sym (same_trace out)) of_guards in
    let of_clock = subst (λ (clock : ℕ). IsSnapshotOf plans fs (trace ++ trace_of (out_steps out)) clock w.kept) is.clock of_trace in
    record { plans = plans; guards = guards_of guards; planned = is.planned; text = (w.kept, of_clock, refl) }

-- a write for which memory ran out leaves the files as they were
same_unwritten : (name bytes : List ℕ) (before after : FileView) → WritesFile {T = Unit {0}} name bytes (Err io.NoMemory) before after → after ≡ before
same_unwritten name bytes before after w =
    let writes = same_counts name (Err io.NoMemory) before.write_faults after.write_faults w.writes (λ n. refl) in
    λ i. record { contents = w.no_memory refl i; is_calm = w.calm i; read_faults = λ other. w.reads other i; write_faults = λ other. writes other i }

-- a write of the state that was refused
pub save_fails : (enforcer : Enforcing) (signature policy file : List ℕ) (kept : Snapshot)
    → SavesTrace enforcer kept → (HasSmallNumbers kept
    → IsTextOfLines (saved_text signature policy kept) signature policy (lines_of kept))
    → (refusal : IoRefusal) (before after : FileView)
    → WritesFile {T = Unit {0}} file (saved_text signature policy kept) (Err refusal) before after → SavesState enforcer signature policy file before after (Err (cut_after_file refusal))
save_fails enforcer signature policy file kept saves form io.Failed before after w = record { kept = kept; saves = saves; form = form; written = w }
save_fails enforcer signature policy file kept saves form io.NoMemory before after w = same_unwritten file (saved_text signature policy kept) before after w

-- a file is named where there is a name
pub same_some : {T : Type 0} → (o : Option (Bor T)) → is_some (option_map (λ (file : Bor T). file.now) o) ≡ is_some o
same_some None = refl
same_some (Some file) = refl

-- a log whose judgement is no refusal was accepted to its end
pub accepted_so : (saves : Bool) (s : LogSetting) (judged : Judged) (enforcer : Enforcing) (before after : Seen)
    → RanAsJudged saves s judged enforcer before after → Ok tt ≡ conclusion_of judged.accepted judged.verdict
    → RanSo saves s (record { accepted = judged.accepted; verdict = verdicts.Accepted }) enforcer before after
accepted_so saves s judged enforcer before after ran = by judged.verdict ran
  where
    by : (verdict : Verdict) → RanSo (rest_left saves verdict) s (record { accepted = judged.accepted; verdict = verdict }) enforcer before after → Ok tt ≡ conclusion_of judged.accepted verdict
        → RanSo saves s (record { accepted = judged.accepted; verdict = verdicts.Accepted }) enforcer before after
    by verdicts.Accepted ran h = ran
    by verdicts.Fault ran h = cc
    by (verdicts.Refused refusal) ran h = cc

pub took_accepted : (r : LogReading) (judged : Judged) (before after : Seen) → TookLog r judged before after
    → Ok tt ≡ conclusion_of judged.accepted judged.verdict
    → TookLog r (record { accepted = judged.accepted; verdict = verdicts.Accepted }) before after
took_accepted r judged before after took = by judged.verdict took
  where
    by : (verdict : Verdict) → TookLog r (record { accepted = judged.accepted; verdict = verdict }) before after
        → Ok tt ≡ conclusion_of judged.accepted verdict
        → TookLog r (record { accepted = judged.accepted; verdict = verdicts.Accepted }) before after
    by verdicts.Accepted took h = took
    by verdicts.Fault took h = cc
    by (verdicts.Refused refusal) took h = cc
