-- With what a log is begun, or why it is not.
use Rattle.std.specs.Prelude.{List, ◌≡◌, ℕ, Option, Some}
use Rattle.enf_io.specs.meaning.Files.{Contents, FileView}
use Rattle.signature.specs.declared.entries.NameEntry.{NameEntry}
use Rattle.trace_meaning.specs.meaning.Traces.{Start}
use Rattle.formula_reader.specs.meaning.Resolution.{Rule}
use Rattle.save_codec.specs.meaning.SavedBounds.{SaveSetting as Bounds}
use Rattle.enforce_types.specs.machine.TypedPolicies.{StoredTyped, WorkTogether, typed_of}
use Rattle.enforce_types.specs.meaning.PolicyRefusals.{Typed}
use Rattle.enforcer_core.specs.machine.Stands.{Stands}
use Rattle.enf_run.specs.declared.endings.Ending.{Ending}
use Rattle.enf_run.specs.declared.files.TheConstants.{MOST_STATE_BYTES}
use Rattle.enf_run.specs.declared.log_run.Enforcement.{Enforcement}
use Rattle.enf_run.specs.machine.EnforceTurns.{IsNewLog}
use Rattle.enf_run.specs.meaning.Sources.{FailsToRead, state_bounds, HoldsStart, IsStartOf}
use Rattle.enf_run.specs.machine.FileReads.{HoldsRefusedState}
use Rattle.enf_run.specs.declared.endings.Cut.TheVariants as cuts
use Rattle.enf_run.specs.declared.endings.Ending.TheVariants as endings
use Rattle.enf_run.specs.declared.refusals.Refusal.TheVariants as refusals

abbrev pub typed_bounds : List NameEntry → Typed → Bounds
typed_bounds entries typed = state_bounds entries typed.plans typed.guards

-- a log of which nothing was taken yet, and an enforcer of the policy that stands for wherever the run may start
pub record BeginsLog (resumed : Option (List ℕ)) (told : Option (List ℕ → Contents)) (entries : List NameEntry)
    (rules : List Rule) (signature policy : List ℕ) (typed : StoredTyped) (log : Enforcement) : Type 0 where
  pub new : IsNewLog entries log
  pub policy_is : log.enforcer.policy ≡ typed
  pub together : WorkTogether (typed_of log.enforcer.policy)
  pub state : List ℕ
  pub holds : HoldsStart resumed told signature policy (typed_bounds entries (typed_of typed)) state log.enforcer.clock
  pub stands : (start : Start) → IsStartOf resumed entries rules signature policy state start
      → Stands log.enforcer start.trace × (log.enforcer.clock ≡ start.clock)

-- why a log is not begun: the state was not read, or is refused; or memory ran out, and the files are as they were
abbrev pub EndsStart : (resumed : Option (List ℕ)) → (signature policy : List ℕ) → Bounds
    → (before after : FileView)
    → Ending → Type 0
EndsStart resumed signature policy bounds before after (endings.Refused (refusals.State why)) =
    (file : List ℕ) × (resumed ≡ Some file) × HoldsRefusedState before.contents file signature policy bounds why
    × (after ≡ before)
EndsStart resumed signature policy bounds before after (endings.Refused refusals.ReadFault) =
    (file : List ℕ) × (resumed ≡ Some file) × FailsToRead MOST_STATE_BYTES file before after
EndsStart resumed signature policy bounds before after (endings.Cut cuts.NoMemory) = after ≡ before
EndsStart resumed signature policy bounds before after other = ⊥
