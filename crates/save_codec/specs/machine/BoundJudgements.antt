-- What rows and instances are judged by, and what keeps the bounds.
use Rattle.std.specs.List.{AllByRecursion}
use Rattle.std.specs.Option.{option_map}
use Rattle.std.specs.Prelude.{◌≡◌, [], All, map, Bool, true, false, List, ◌∷◌, ◌+◌, ◌++◌, ℕ}
use Rattle.std.specs.Prelude.{Option, ◌<◌, length, take, None, Some, ◌↔◌, ◌≤◌, ◌⊎◌, ◌^◌}
use Rattle.plan_terms.specs.machine.StoredPlans.{plan_of}
use Rattle.plan_terms.specs.machine.WellFormed.{IsScopedPlan}
use Rattle.plan_terms.specs.meaning.Scopes.{future_in}
use Rattle.past_state.specs.machine.WindowShapes.{HasItsColumns, numbered_operator, operator_of}
use Rattle.past_state.specs.meaning.RowBounds.{IsFrom, numbered_operators, AreWithinBounds}
use Rattle.past_state.specs.meaning.KeptRows.{all_operators}
use Rattle.obligations.specs.declared.instances.Instance.{Instance}
use Rattle.obligations.specs.machine.Parts.{node_with_scope}
use Rattle.obligations.specs.meaning.PendingBounds.{CanBePending}
use Rattle.save_codec.specs.declared.instances.Named.{Named}
use Rattle.save_codec.specs.declared.judging.Fitting.{Fitting}
use Rattle.save_codec.specs.declared.judging.Judge.{Judge}
use Rattle.save_codec.specs.declared.judging.Unfit.{Unfit}
use Rattle.save_codec.specs.declared.judging.Unfit.TheVariants.{At, NoMemory}
use Rattle.save_codec.specs.declared.limits.TheConstants.{MOST_STATE_TIME}
use Rattle.save_codec.specs.declared.lines.Line.{Line}
use Rattle.save_codec.specs.declared.parts.DueLine.{DueLine}
use Rattle.save_codec.specs.declared.parts.RowLine.{RowLine}
use Rattle.save_codec.specs.declared.refusals.StateRefusal.{StateRefusal}
use Rattle.save_codec.specs.declared.refusals.StateRefusal.TheVariants.{Inconsistent}
use Rattle.save_codec.specs.declared.snapshots.Snapshot.{Snapshot}
use Rattle.save_codec.specs.machine.KnownSorts.{KnowRules, KnowWindows}
use Rattle.save_codec.specs.machine.LineParts.{line_of_due}
use Rattle.save_codec.specs.meaning.SavedBounds.{SaveSetting, RowFits, kept_row_of, DueFits, AreLinesWithin}
use Rattle.save_codec.specs.meaning.SavedBounds.{IsFirstUnfitLine}
use Rattle.save_codec.specs.meaning.SavedTexts.{due_line, lines_of}
use Rattle.save_codec.specs.declared.refusals.StateRefusal.TheVariants as refusals

-- what rows and instances are judged by stands for the setting
pub record IsJudge (s : SaveSetting) (judge : Judge) : Type 0 where
  pub plans : s.plans ≡ map plan_of judge.plans.now
  pub scoped : AllByRecursion (λ plan. IsScopedPlan plan []) s.plans
  pub rules : KnowRules s.entries s.plans judge.rules.items
  pub listed : map numbered_operator judge.shapes.items ≡ numbered_operators 0 s.guards
  pub operators : map operator_of judge.shapes.items ≡ all_operators s.guards
  pub columns : All HasItsColumns judge.shapes.items
  pub windows : KnowWindows s.entries s.plans (map numbered_operator judge.shapes.items) judge.windows.items

-- nothing is left, or the first that is left does not fit
abbrev pub EndsFitting : SaveSetting → (rest : List RowLine) → (all : Bool) → Type 0
EndsFitting s rest true = rest ≡ []
EndsFitting s [] false = ⊥
EndsFitting s (row ∷ rest) false = RowFits s row → ⊥

-- the rows up to the first that does not fit, or all of them
pub record AreFittingRows (s : SaveSetting) (rows : List RowLine) (fitting : Fitting) : Type 0 where
  pub front : List RowLine
  pub rest : List RowLine
  pub splits : rows ≡ front ++ rest
  pub kept : fitting.kept.items ≡ map kept_row_of front
  pub fit : AllByRecursion (RowFits s) front
  pub ends : EndsFitting s rest fitting.all

-- rows keep the bounds
abbrev pub AreRowsWithin : SaveSetting → (last : Option ℕ) → List RowLine → Type 0
AreRowsWithin s last rows =
    AllByRecursion (RowFits s) rows × AreWithinBounds (all_operators s.guards) last (map kept_row_of rows)

-- instances keep the bounds
abbrev pub AreDuesWithin : SaveSetting → (clock position : ℕ) → List DueLine → Type 0
AreDuesWithin s clock position dues = AllByRecursion (DueFits s clock position) dues

-- of these the ones in front of a place keep the bounds, and those up to it do not
abbrev pub BreaksAt : {X : Type 0} → (List X → Type 0) → List X → (place : ℕ) → Type 0
BreaksAt Fit xs place = (place < length xs) × Fit (take place xs) × (Fit (take (place + 1) xs) → ⊥)

abbrev pub IsUnfit : {X : Type 0} → (List X → Type 0) → List X → Unfit → Type 0
IsUnfit Fit xs (At place) = BreaksAt Fit xs place
IsUnfit Fit xs NoMemory = Unit {0}

-- what the numbers name
abbrev pub IsFoundNode : SaveSetting → Named → Type 0
IsFoundNode s n = option_map node_with_scope n.found ≡ future_in s.plans n.rule n.node

-- the instance of a line
pub record IsInstanceOf (s : SaveSetting) (clock position : ℕ) (d : DueLine) (i : Instance) : Type 0 where
  pub told : due_line i ≡ line_of_due d
  pub fits : DueFits s clock position d
  pub can : CanBePending s.plans clock position i

-- a line is judged: its instance, or it breaks the bounds
abbrev pub JudgesLine : SaveSetting → (clock position : ℕ) → DueLine → Option Instance → Type 0
JudgesLine s clock position d (Some i) = IsInstanceOf s clock position d i
JudgesLine s clock position d None = DueFits s clock position d → ⊥

-- clock, last time and position keep the bounds
pub record AreNumbers (c : ℕ) (l : Option ℕ) (p : ℕ) : Type 0 where
  pub clock : c ≤ MOST_STATE_TIME
  pub last : IsFrom l c
  pub position : (l ≡ None) ↔ (p ≡ 0)

-- this is the first of their lines that does not
abbrev pub IsUnfitNumber : (c : ℕ) → Option ℕ → (p : ℕ) → (line : ℕ) → Type 0
IsUnfitNumber c l p line =
    ((line ≡ 1) × (c ≤ MOST_STATE_TIME → ⊥))
    ⊎ ((line ≡ 2) × (c ≤ MOST_STATE_TIME) × (IsFrom l c → ⊥))
    ⊎ ((line ≡ 3) × (c ≤ MOST_STATE_TIME) × IsFrom l c × (((l ≡ None) ↔ (p ≡ 0)) → ⊥))

-- the refusal for a place, where the first line has this number
abbrev pub unfit_refusal : (first : ℕ) → Unfit → StateRefusal
unfit_refusal first (At place) = Inconsistent (first + place)
unfit_refusal first NoMemory = refusals.NoMemory

-- the number of the line at which a refusal stands is one of 64 bits
abbrev pub FitsBehind : (first : ℕ) → Unfit → Type 0
FitsBehind first (At place) = first + place < 2 ^ 64
FitsBehind first NoMemory = Unit {0}

-- the state that lines tell keeps the bounds of its parts
pub record IsStateOf (s : SaveSetting) (lines : List Line) (state : Snapshot) : Type 0 where
  pub told : lines_of state ≡ lines
  pub clock : state.clock ≤ MOST_STATE_TIME
  pub last : IsFrom state.last state.clock
  pub position : (state.last ≡ None) ↔ (state.position ≡ 0)
  pub kept : AreWithinBounds (all_operators s.guards) state.last state.kept
  pub pending : All (CanBePending s.plans state.clock state.position) state.pending
  pub due : All (λ i. i.high ≤ MOST_STATE_TIME) state.pending
  pub within : AreLinesWithin s lines

-- this is the first line that breaks the bounds
abbrev pub IsUnfitLine : SaveSetting → List Line → StateRefusal → Type 0
IsUnfitLine s lines (refusals.Syntax line) = ⊥
IsUnfitLine s lines refusals.OtherPolicy = ⊥
IsUnfitLine s lines (Inconsistent line) = IsFirstUnfitLine s lines line
IsUnfitLine s lines refusals.NoMemory = Unit {0}

-- the instances of lines
pub record AreInstancesOf (s : SaveSetting) (clock position : ℕ) (dues : List DueLine) (pending : List Instance)
    : Type 0 where
  pub told : map due_line pending ≡ map line_of_due dues
  pub fit : AreDuesWithin s clock position dues
  pub can : AllByRecursion (CanBePending s.plans clock position) pending
