-- Laws of saved texts.
use Rattle.std.specs.List.{AllByRecursion}
use Rattle.std.specs.Prelude.{◌≡◌, ℕ, ◌<◌, ◌^◌, List, length, [], All, ◌≤◌, take, Result}
use Rattle.plan_terms.specs.meaning.Plans.{Plan}
use Rattle.plan_terms.specs.machine.WellFormed.{IsScopedPlan}
use Rattle.obligations.specs.meaning.PendingBounds.{CanBePending}
use Rattle.save_codec.specs.declared.lines.Line.{Line}
use Rattle.save_codec.specs.declared.refusals.StateRefusal.{StateRefusal}
use Rattle.save_codec.specs.declared.snapshots.Snapshot.{Snapshot}
use Rattle.save_codec.specs.machine.ResumeAnswers.{AnswersSave}
use Rattle.save_codec.specs.machine.SoundStates.{IsSoundState}
use Rattle.save_codec.specs.meaning.SavedBounds.{AreLinesWithin, SaveSetting, KeepsBounds}
use Rattle.save_codec.specs.meaning.SavedTexts.{IsTextOfLines, IsLine, AreLines, lines_of, saved_text}

-- bytes are a saved text in one way at most
abbrev pub OneText : Type 0
OneText = (bytes s p s' p' : List ℕ) (lines others : List Line) → length bytes < 2 ^ 63
    → IsTextOfLines bytes s p lines → IsTextOfLines bytes s' p' others → (s ≡ s') × (p ≡ p')
    × (lines ≡ others)

-- what is saved is a text of the grammar, where its numbers are below 2^63 and its values are those of the program
abbrev pub SavedIsText : Type 0
SavedIsText = (signature policy : List ℕ) (state : Snapshot) → AllByRecursion IsLine (lines_of state)
    → IsTextOfLines (saved_text signature policy state) signature policy (lines_of state)

-- a text is that of one state at most, where what is pending can be so under plans whose variables are in scope
abbrev pub OneState : Type 0
OneState = (bytes signature policy : List ℕ) (plans : List Plan) (x y : Snapshot) → length bytes < 2 ^ 63
    → AllByRecursion (λ plan. IsScopedPlan plan []) plans
    → IsTextOfLines bytes signature policy (lines_of x) → IsTextOfLines bytes signature policy (lines_of y)
    → All (CanBePending plans x.clock x.position) x.pending → All (CanBePending plans y.clock y.position) y.pending
    → x ≡ y

-- the front of lines of the form that keep the bounds keeps them
abbrev pub FrontKeeps : Type 0
FrontKeeps = (s : SaveSetting) (lines : List Line) (m n : ℕ) → AreLines lines → n ≤ m
    → AreLinesWithin s (take m lines) → AreLinesWithin s (take n lines)

-- bytes have one answer at most, a state or a refusal
abbrev pub OneSaveAnswer : Type 0
OneSaveAnswer = (s : SaveSetting) (bytes signature policy : List ℕ) (x y : Result Snapshot StateRefusal)
    → length bytes < 2 ^ 63 → AllByRecursion (λ plan. IsScopedPlan plan []) s.plans
    → AnswersSave s bytes signature policy x → AnswersSave s bytes signature policy y → x ≡ y

-- such a state keeps its bounds line by line, under plans whose variables are in scope
abbrev pub SoundKeepsBounds : Type 0
SoundKeepsBounds = (s : SaveSetting) (state : Snapshot) → AllByRecursion (λ plan. IsScopedPlan plan []) s.plans
    → IsSoundState s state → KeepsBounds s state
