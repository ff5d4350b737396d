-- A report line is that of one action alone.
use Rattle.std.specs.Prelude.{◌≡◌, ℕ, List}
use Rattle.signature.specs.declared.entries.NameEntry.{NameEntry}
use Rattle.signature.specs.meaning.Grammar.{IsSignature}
use Rattle.formula_reader.specs.machine.WellFormedPolicies.{IsWellFormedPolicy}
use Rattle.formula_reader.specs.meaning.Resolution.{Rule}
use Rattle.plan_terms.specs.meaning.Plans.{Plan}
use Rattle.obligations.specs.declared.actions.Action.{Action}
use Rattle.action_report.specs.machine.ReportedActions.{IsWithinBits, IsReportLine}

-- a line is that of one action alone
abbrev pub OneActionOfLine : Type 0
OneActionOfLine = (entries : List NameEntry) (rules : List Rule) (plans : List Plan) (line : List ℕ)
    (action other : Action) → IsSignature entries → IsWellFormedPolicy entries rules
    → IsWithinBits action → IsWithinBits other → IsReportLine entries rules plans line action
    → IsReportLine entries rules plans line other → action ≡ other
