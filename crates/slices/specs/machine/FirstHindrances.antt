-- Answers that tell the first of all that is in the way.
use Rattle.std.specs.Prelude.{List, Option, None, Some, Contains, nat_le, if◌then◌else◌}
use Rattle.enf_formula.specs.meaning.Satisfaction.{Formula}
use Rattle.slices.specs.declared.hindrances.Hindrance.{Hindrance}
use Rattle.slices.specs.meaning.Slices.{Keying}
use Rattle.slices.specs.meaning.SlicedRules.{IsFirstHindrance, IsRuleInTheWay}

-- the answer is the first of these that are in the way, or that there is none
abbrev pub IsFirstAnswer : (Hindrance → Type 0) → Option Hindrance → Type 0
IsFirstAnswer P None = (h : Hindrance) → P h → ⊥
IsFirstAnswer P (Some h) = IsFirstHindrance P h

-- the earlier one of two, where there are two
abbrev pub earlier_of : Option Hindrance → Option Hindrance → Option Hindrance
earlier_of None other = other
earlier_of (Some h) None = Some h
earlier_of (Some h) (Some other) = if nat_le h.place other.place then Some h else Some other

-- in the way of one of the rules
abbrev pub IsPolicyInTheWay : Keying → List Formula → Hindrance → Type 0
IsPolicyInTheWay keying policy h = (rule : Formula) × Contains policy rule × IsRuleInTheWay keying rule h
