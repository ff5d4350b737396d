-- Guards that look for the first so many names alone.
use Rattle.enf_data.specs.declared.events.NameId.{NameId}
use Rattle.enf_data.specs.declared.terms.VarId.{VarId}
use Rattle.std.specs.List.{AllByRecursion}
use Rattle.std.specs.Prelude.{ℕ, ◌<◌, List}
use Rattle.enf_formula.specs.machine.Agreement.{names_in_formula}
use Rattle.enf_formula.specs.meaning.Satisfaction.{Formula}

-- the names are among the first so many
abbrev pub AreBelow : ℕ → List NameId → Type 0
AreBelow most names = AllByRecursion (λ name. name.0 < most) names

-- the names that a guard or test looks for are among the first so many
abbrev pub LooksBelow : ℕ → Formula × List VarId → Type 0
LooksBelow most guard = AreBelow most (names_in_formula guard.0)
