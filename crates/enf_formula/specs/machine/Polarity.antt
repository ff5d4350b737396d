-- Formulas that ask events of a name only to be there or only to be away, and traces that have more of them.
use Rattle.enf_data.specs.declared.events.Event.{Event}
use Rattle.enf_data.specs.declared.events.NameId.{NameId}
use Rattle.enf_data.specs.declared.steps.Step.{Step}
use Rattle.enf_data.specs.meaning.Data.{step_at}
use Rattle.enf_data.specs.meaning.Valuations.{Valuation}
use Rattle.std.specs.Prelude.{◌≡◌, ℕ, Bool, true, false, not, List, length, Contains}
use Rattle.enf_formula.specs.meaning.Satisfaction.{Formula, Atom, Not, And, Or, Implies, Exists, Forall, Prev, Next}
use Rattle.enf_formula.specs.meaning.Satisfaction.{Once, Historically, Since, Eventually, Always, Until, Sat}

-- the formula asks events of the name only to be there (true), or only to be away (false)
abbrev pub AsksOnly : (there : Bool) → NameId → Formula → Type 0
AsksOnly there name (Atom place other terms) = other ≡ name → there ≡ true
AsksOnly there name (Not place f) = AsksOnly (not there) name f
AsksOnly there name (And place f g) = AsksOnly there name f × AsksOnly there name g
AsksOnly there name (Or place f g) = AsksOnly there name f × AsksOnly there name g
AsksOnly there name (Implies place f g) = AsksOnly (not there) name f × AsksOnly there name g
AsksOnly there name (Exists place xs f) = AsksOnly there name f
AsksOnly there name (Forall place xs f) = AsksOnly there name f
AsksOnly there name (Prev place interval f) = AsksOnly there name f
AsksOnly there name (Next place interval f) = AsksOnly there name f
AsksOnly there name (Once place interval f) = AsksOnly there name f
AsksOnly there name (Historically place interval f) = AsksOnly there name f
AsksOnly there name (Since place interval f g) = AsksOnly there name f × AsksOnly there name g
AsksOnly there name (Eventually place interval f) = AsksOnly there name f
AsksOnly there name (Always place interval f) = AsksOnly there name f
AsksOnly there name (Until place interval f g) = AsksOnly there name f × AsksOnly there name g
AsksOnly there name f = Unit {0}

-- two traces have as many steps, at the same times and with the same events but for those of the name, of which the
-- other has all that the one has
pub record HaveMoreOf (name : NameId) (trace other : List Step) : Type 0 where
  pub long : length trace ≡ length other
  pub times : (i : ℕ) → (step_at trace i).time ≡ (step_at other i).time
  pub more : (i : ℕ) (event : Event) → Contains (step_at trace i).events event
      → Contains (step_at other i).events event
  pub others : (i : ℕ) (event : Event) → (event.name ≡ name → ⊥) → Contains (step_at other i).events event
      → Contains (step_at trace i).events event

-- with more events of a name a formula holds that held and asks them only to be there; and one that asks them only to
-- be away holds with fewer
pub record MoreEventsKeep : Type 0 where
  pub there : (name : NameId) (trace other : List Step) (i : ℕ) (v : Valuation) (f : Formula)
      → HaveMoreOf name trace other → AsksOnly true name f → Sat trace i v f → Sat other i v f
  pub away : (name : NameId) (trace other : List Step) (i : ℕ) (v : Valuation) (f : Formula)
      → HaveMoreOf name trace other → AsksOnly false name f → Sat other i v f → Sat trace i v f
