-- The answer to a saved text.
use Rattle.std.specs.Prelude.{◌≡◌, ℕ, ◌+◌, List, Ok, map, Result, Err}
use Rattle.signature.specs.meaning.Refusals.{AnswersSignature}
use Rattle.monitorable_guard.specs.machine.Guards.{BoundFormula}
use Rattle.plan_terms.specs.declared.plans.Plan.{Plan as StoredPlan}
use Rattle.plan_terms.specs.machine.StoredPlans.{plan_of}
use Rattle.past_state.specs.machine.Guards.{tree_in}
use Rattle.save_codec.specs.declared.refusals.StateRefusal.{StateRefusal}
use Rattle.save_codec.specs.declared.refusals.StateRefusal.TheVariants.{Syntax, OtherPolicy, Inconsistent, NoMemory}
use Rattle.save_codec.specs.declared.snapshots.Snapshot.{Snapshot}
use Rattle.save_codec.specs.meaning.SaveRefusals.{StopsBehind, IsFault, IsSaveRefusal}
use Rattle.save_codec.specs.meaning.SavedBounds.{SaveSetting, KeepsBounds}
use Rattle.save_codec.specs.meaning.SavedTexts.{IsTextOfLines, lines_of}

-- this is why the text after the head has not the form
abbrev pub IsStop : (text : List ℕ) → StateRefusal → Type 0
IsStop text (Syntax line) = (count : ℕ) × StopsBehind text count × (line ≡ count + 1)
IsStop text OtherPolicy = ⊥
IsStop text (Inconsistent line) = ⊥
IsStop text NoMemory = Unit {0}

-- this is why bytes have not the form
abbrev pub IsFormRefusal : (bytes : List ℕ) → StateRefusal → Type 0
IsFormRefusal bytes (Syntax line) = IsFault bytes line
IsFormRefusal bytes OtherPolicy = ⊥
IsFormRefusal bytes (Inconsistent line) = ⊥
IsFormRefusal bytes NoMemory = Unit {0}

-- the names of the signature, and the plans and guards of the program
pub record IsSettingOf (signature : List ℕ) (plans : List StoredPlan) (guards : List BoundFormula) (s : SaveSetting)
    : Type 0 where
  pub spells : AnswersSignature signature (Ok s.entries)
  pub plans_are : s.plans ≡ map plan_of plans
  pub guards_are : s.guards ≡ map tree_in guards

-- the answer to the bytes, whatever memory there is
abbrev pub AnswersSave : SaveSetting → (bytes signature policy : List ℕ) → Result Snapshot StateRefusal → Type 0
AnswersSave s bytes signature policy (Ok state) = IsTextOfLines bytes signature policy (lines_of state)
    × KeepsBounds s state
AnswersSave s bytes signature policy (Err NoMemory) = ⊥
AnswersSave s bytes signature policy (Err refusal) = IsSaveRefusal s bytes signature policy refusal
