-- Traces and valuations that agree on what a formula speaks of.
use Rattle.enf_data.specs.declared.events.Event.{Event}
use Rattle.enf_data.specs.declared.events.NameId.{NameId}
use Rattle.enf_data.specs.declared.steps.Step.{Step}
use Rattle.enf_data.specs.declared.terms.VarId.{VarId}
use Rattle.enf_data.specs.meaning.Data.{step_at}
use Rattle.enf_data.specs.meaning.Valuations.{Valuation, value_at}
use Rattle.std.specs.Prelude.{◌≡◌, List, [], ◌∷◌, ◌++◌, ◌↔◌, Contains, ℕ, length, ◌≤◌}
use Rattle.enf_formula.specs.meaning.Satisfaction.{Formula, IsFree, True, False, Atom, Equal, Less, AtMost, Not, And}
use Rattle.enf_formula.specs.meaning.Satisfaction.{Or, Implies, Exists, Forall, Prev, Next, Once, Historically, Since}
use Rattle.enf_formula.specs.meaning.Satisfaction.{Eventually, Always, Until}

-- two valuations give the free variables the same values
abbrev pub AgreeOnFreeVariables : Formula → Valuation → Valuation → Type 0
AgreeOnFreeVariables f v w = (x : VarId) → IsFree x f → value_at v x ≡ value_at w x

-- the names in a formula, in the order of the text, each as often as it stands there
abbrev pub names_in_formula : Formula → List NameId
names_in_formula (True place) = []
names_in_formula (False place) = []
names_in_formula (Atom place name terms) = name ∷ []
names_in_formula (Equal place s t) = []
names_in_formula (Less place s t) = []
names_in_formula (AtMost place s t) = []
names_in_formula (Not place f) = names_in_formula f
names_in_formula (And place f g) = names_in_formula f ++ names_in_formula g
names_in_formula (Or place f g) = names_in_formula f ++ names_in_formula g
names_in_formula (Implies place f g) = names_in_formula f ++ names_in_formula g
names_in_formula (Exists place xs f) = names_in_formula f
names_in_formula (Forall place xs f) = names_in_formula f
names_in_formula (Prev place interval f) = names_in_formula f
names_in_formula (Next place interval f) = names_in_formula f
names_in_formula (Once place interval f) = names_in_formula f
names_in_formula (Historically place interval f) = names_in_formula f
names_in_formula (Since place interval f g) = names_in_formula f ++ names_in_formula g
names_in_formula (Eventually place interval f) = names_in_formula f
names_in_formula (Always place interval f) = names_in_formula f
names_in_formula (Until place interval f g) = names_in_formula f ++ names_in_formula g

-- two lists have the same events of these names
abbrev pub HaveSameEvents : List NameId → List Event → List Event → Type 0
HaveSameEvents names events others = (event : Event) → Contains names event.name
    → Contains events event ↔ Contains others event

-- two traces have as many steps, at the same times and with the same events of these names
pub record HaveSameNamedEvents (names : List NameId) (trace other : List Step) : Type 0 where
  pub long : length trace ≡ length other
  pub times : (i : ℕ) → (step_at trace i).time ≡ (step_at other i).time
  pub events : (i : ℕ) → HaveSameEvents names (step_at trace i).events (step_at other i).events

-- two traces have the same steps up to a position
abbrev pub AgreeUpTo : ℕ → List Step → List Step → Type 0
AgreeUpTo i trace other = (k : ℕ) → k ≤ i → step_at trace k ≡ step_at other k
