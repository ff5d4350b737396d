-- What is given of the lines of steps and of their actions, whole or cut.
use Rattle.std.specs.List.{flat_map}
use Rattle.std.specs.Prelude.{map, List, ◌≡◌, ℕ, ◌∷◌, ◌++◌, [], ◌⊎◌, ◌<◌}
use Rattle.enf_io.specs.meaning.ExchangeGrowth.{Gave}
use Rattle.signature.specs.declared.entries.NameEntry.{NameEntry}
use Rattle.signature.specs.meaning.Grammar.{entry_names as names_of}
use Rattle.formula_reader.specs.meaning.Resolution.{Rule}
use Rattle.choice_step.specs.meaning.ActedSteps.{ActedStep, out_steps, out_step}
use Rattle.log_stream.specs.meaning.LogGrammar.{text_of, line_of}
use Rattle.enf_run.specs.declared.endings.Cut.{Cut}
use Rattle.enf_run.specs.machine.RunEndings.{faults_behind}
use Rattle.enf_run.specs.meaning.Headline.{action_lines, step_action_lines}
use Rattle.enf_run.specs.meaning.LogRuns.{IsFrontOfPieces, Gains, SaysActions, Seen}
use Rattle.enf_run.specs.meaning.Reports.{IsPart}

-- the text of pieces, one after the other
abbrev pub joined_texts : List (List ℕ) → List ℕ
joined_texts pieces = flat_map (λ piece. piece) pieces

-- a front of the lines of the actions of these steps, in which those of all steps but the last are whole
abbrev pub IsFrontOfActions : List NameEntry → List Rule → List ActedStep → (front missing : List ℕ) → Type 0
IsFrontOfActions entries rules steps front missing =
    IsFrontOfPieces (map (step_action_lines entries rules) steps) front missing

-- the lines of the steps went to the gate, and those of their actions to the report
pub record GivesSteps (entries : List NameEntry) (rules : List Rule) (steps : List ActedStep)
    (before after : Seen) : Type 0 where
  pub lines : Gains (text_of (names_of entries) (out_steps steps)) before.gate after.gate
  pub actions : SaysActions entries rules steps before.report after.report

-- within the line of a step the giving was cut; the lines of the steps before it and of their actions are whole
pub record CutsLine (entries : List NameEntry) (rules : List Rule) (steps : List ActedStep) (cut : Cut)
    (before after : Seen) : Type 0 where
  pub whole : List ActedStep
  pub next : ActedStep
  pub behind : List ActedStep
  pub split : steps ≡ whole ++ next ∷ behind
  pub front : List ℕ
  pub part : IsPart front (line_of (names_of entries) (out_step next))
  pub gave : Gave (text_of (names_of entries) (out_steps whole) ++ front) before.gate.told after.gate.told
  pub writes : after.gate.write_faults ≡ faults_behind cut before.gate.write_faults
  pub reads : after.gate.read_faults ≡ before.gate.read_faults
  pub actions : SaysActions entries rules whole before.report after.report

-- the giving was cut within the lines of the actions of a step; the line of that step, and all before it, is whole, and
-- nothing of it is held back
pub record CutsActions (entries : List NameEntry) (rules : List Rule) (steps : List ActedStep) (cut : Cut)
    (before after : Seen) : Type 0 where
  pub first : List ActedStep
  pub last : ActedStep
  pub behind : List ActedStep
  pub split : steps ≡ (first ++ last ∷ []) ++ behind
  pub lines : Gains (text_of (names_of entries) (out_steps (first ++ last ∷ []))) before.gate after.gate
  pub handed : after.gate.held ≡ 0
  pub front : List ℕ
  pub part : IsPart front (step_action_lines entries rules last)
  pub gave : Gave (action_lines entries rules first ++ front) before.report.told after.report.told
  pub writes : after.report.write_faults ≡ faults_behind cut before.report.write_faults
  pub reads : after.report.read_faults ≡ before.report.read_faults

-- the giving was cut before the lines of the actions of a step, since what the gate held back was not handed on; the
-- line of that step, and all before it, is whole
pub record CutsHanding (entries : List NameEntry) (rules : List Rule) (steps : List ActedStep) (cut : Cut)
    (before after : Seen) : Type 0 where
  pub first : List ActedStep
  pub last : ActedStep
  pub behind : List ActedStep
  pub split : steps ≡ (first ++ last ∷ []) ++ behind
  pub gave : Gave (text_of (names_of entries) (out_steps (first ++ last ∷ []))) before.gate.told after.gate.told
  pub held : 0 < after.gate.held
  pub writes : after.gate.write_faults ≡ faults_behind cut before.gate.write_faults
  pub reads : after.gate.read_faults ≡ before.gate.read_faults
  pub actions : SaysActions entries rules first before.report after.report

abbrev pub CutsSteps : List NameEntry → List Rule → List ActedStep → Cut → Seen → Seen → Type 0
CutsSteps entries rules steps cut before after = CutsLine entries rules steps cut before after
    ⊎ (CutsActions entries rules steps cut before after ⊎ CutsHanding entries rules steps cut before after)
