-- The statements of the laws of definitions.
use Rattle.definitions.specs.machine.WellDefined.{AreWellDefined, FitsUnfoldings}
use Rattle.definitions.specs.meaning.DefinedNames.{Definition, SatDefined}
use Rattle.definitions.specs.meaning.UnfoldedFormulas.{rule_unfolded, unfoldings}
use Rattle.enf_data.specs.declared.steps.Step.{Step}
use Rattle.enf_data.specs.meaning.Valuations.{Valuation, no_values}
use Rattle.enf_formula.specs.machine.Variables.{IsClosed}
use Rattle.enf_formula.specs.meaning.Satisfaction.{Formula, Sat}
use Rattle.std.specs.Prelude.{ℕ, List, [], ◌↔◌}

-- a rule holds under the definitions at a position just where its unfolded rule holds there
abbrev pub UnfoldedRulesHoldAlike : Type 0
UnfoldedRulesHoldAlike = (definitions : List Definition) (trace : List Step) (i : ℕ) (rule : Formula)
    → AreWellDefined definitions → FitsUnfoldings (unfoldings definitions) rule → IsClosed rule
    → SatDefined definitions trace i no_values rule ↔ Sat trace i no_values (rule_unfolded definitions rule)

-- without definitions it is satisfaction
abbrev pub PlainFormulasHoldAlike : Type 0
PlainFormulasHoldAlike = (trace : List Step) (i : ℕ) (v : Valuation) (f : Formula)
    → SatDefined [] trace i v f ↔ Sat trace i v f
