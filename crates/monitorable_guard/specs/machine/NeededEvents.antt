-- The events that a formula needs: that with which it begins, and those without which it holds nowhere.
use Rattle.enf_data.specs.declared.events.Event.{Event}
use Rattle.enf_data.specs.declared.events.NameId.{NameId}
use Rattle.enf_data.specs.declared.terms.Term.TheVariants.{Var}
use Rattle.enf_data.specs.declared.terms.VarId.{VarId}
use Rattle.enf_data.specs.declared.values.Value.{Value}
use Rattle.enf_data.specs.meaning.Valuations.{Valuation}
use Rattle.std.specs.Prelude.{List, ◌≡◌, length, map, ℕ}
use Rattle.enf_formula.specs.meaning.Satisfaction.{And, Atom, Formula}
use Rattle.valuations.specs.machine.Bindings.{filled_from_row}
use Rattle.valuations.specs.machine.Tables.{AgreesWithRow, Relation}
use Rattle.monitorable_guard.specs.machine.PresentMeaning.{HoldsNow}

-- the formula holds at no step with these events, whatever the values and the tables of the past
abbrev pub HoldsForNone : List Event → Formula → Type 0
HoldsForNone events f = (tables : List Relation) (v : Valuation) → HoldsNow events tables v f → ⊥

-- the first of the conjuncts of the formula
abbrev pub first_conjunct : Formula → Formula
first_conjunct (And place g h) = first_conjunct g
first_conjunct f = f

-- it is an event of the name whose terms are the columns
abbrev pub BeginsWithEvent : NameId → List VarId → Formula → Type 0
BeginsWithEvent name columns f = (place : ℕ) × (first_conjunct f ≡ Atom place name (map Var columns))

-- the arguments are as many as the columns, the formula holds where these have them, and w has them
abbrev pub HoldsForArguments : List Event → List Relation → Valuation → Formula → List VarId → (args : List Value)
    → Valuation → Type 0
HoldsForArguments events tables v f columns args w = (length args ≡ length columns)
    × HoldsNow events tables (filled_from_row v columns args) f × AgreesWithRow w columns args
