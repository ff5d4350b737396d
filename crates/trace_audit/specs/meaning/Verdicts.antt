-- What the verdict on a trace is: whether it satisfies the policy, and else the least position at which it does not,
-- with the first rule that does not hold there.
use Rattle.enf_data.specs.declared.steps.Step.{Step}
use Rattle.enf_data.specs.meaning.Valuations.{no_values}
use Rattle.std.specs.Prelude.{◌≡◌, ℕ, List, Some, slice_get, ◌<◌, length}
use Rattle.enf_formula.specs.meaning.Satisfaction.{Formula, Sat}
use Rattle.trace_meaning.specs.meaning.Traces.{Satisfies}
use Rattle.trace_audit.specs.declared.verdicts.Verdict.{Verdict}
use Rattle.trace_audit.specs.declared.verdicts.Verdict.TheVariants.{Holds, Fails}

-- the rule with this number, where there is one, holds at the position
abbrev pub HoldsAt : List Formula → List Step → (rule position : ℕ) → Type 0
HoldsAt policy trace rule position =
    (formula : Formula) → slice_get policy rule ≡ Some formula → Sat trace position no_values formula

-- there is a rule with this number, and it does not hold at the position
abbrev pub IsBroken : List Formula → List Step → (rule position : ℕ) → Type 0
IsBroken policy trace rule position =
    (formula : Formula) × (slice_get policy rule ≡ Some formula) × (Sat trace position no_values formula → ⊥)

-- this rule does not hold at this position of the trace, each rule holds at the positions before it, and the rules
-- before this one hold there
pub record IsFirstBroken (policy : List Formula) (trace : List Step) (rule position : ℕ) : Type 0 where
  pub there : position < length trace
  pub broken : IsBroken policy trace rule position
  pub least : (i r : ℕ) → i < position → HoldsAt policy trace r i
  pub first : (r : ℕ) → r < rule → HoldsAt policy trace r position

abbrev pub IsVerdict : List Formula → List Step → Verdict → Type 0
IsVerdict policy trace Holds = Satisfies trace policy
IsVerdict policy trace (Fails rule position) = IsFirstBroken policy trace rule position
