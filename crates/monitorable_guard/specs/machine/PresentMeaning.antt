-- What a formula means at a step whose past is told by tables.
use Rattle.enf_data.specs.declared.events.Event.{Event}
use Rattle.enf_data.specs.declared.steps.Step.{Step}
use Rattle.enf_data.specs.declared.terms.VarId.{VarId}
use Rattle.enf_data.specs.declared.values.Value.{Value}
use Rattle.enf_data.specs.meaning.Valuations.{Valuation, value_of_term, values_of_terms, with_values, BindsColumns}
use Rattle.std.specs.Prelude.{List, [], ◌∷◌, ◌++◌, drop, length, ◌≡◌, ◌<ℤ◌, ◌≤ℤ◌, ℕ}
use Rattle.std.specs.Prelude.{◌↔◌, Contains}
use Rattle.enf_formula.specs.meaning.Satisfaction.{Formula, True, False, Atom, Equal, Less, AtMost, Not, And, Or}
use Rattle.enf_formula.specs.meaning.Satisfaction.{Implies, Exists, Forall, Prev, Next, Once, Historically, Since}
use Rattle.enf_formula.specs.meaning.Satisfaction.{Eventually, Always, Until, IsFree, Classically, IsEventAmong}
use Rattle.enf_formula.specs.meaning.Satisfaction.{AreSameValues, AreNumbersInOrder, Sat}
use Rattle.valuations.specs.machine.Tables.{Relation, HasValuation}

-- the outermost operators on the past, in pre-order
abbrev pub outermost : Formula → List Formula
outermost (True place) = []
outermost (False place) = []
outermost (Atom place name terms) = []
outermost (Equal place s t) = []
outermost (Less place s t) = []
outermost (AtMost place s t) = []
outermost (Not place g) = outermost g
outermost (And place g h) = outermost g ++ outermost h
outermost (Or place g h) = outermost g ++ outermost h
outermost (Implies place g h) = outermost g ++ outermost h
outermost (Exists place xs g) = outermost g
outermost (Forall place xs g) = outermost g
outermost (Prev place interval g) = Prev place interval g ∷ []
outermost (Once place interval g) = Once place interval g ∷ []
outermost (Historically place interval g) = Historically place interval g ∷ []
outermost (Since place interval g h) = Since place interval g h ∷ []
outermost (Next place interval g) = []
outermost (Eventually place interval g) = []
outermost (Always place interval g) = []
outermost (Until place interval g h) = []

-- the valuation is in the first of the tables
abbrev pub FirstHas : List Relation → Valuation → Type 0
FirstHas [] v = ⊥
FirstHas (t ∷ tables) v = HasValuation t v

-- the tables after those of a formula
abbrev pub tables_beyond : Formula → List Relation → List Relation
tables_beyond g tables = drop (length (outermost g)) tables

-- the formula holds at a step with these events, with the tables of its outermost operators on the past; that of
-- `historically` is the table of the valuations under which it fails. Operators on the future have no tables
abbrev pub HoldsNow : List Event → List Relation → Valuation → Formula → Type 0
HoldsNow events tables v (True place) = Unit {0}
HoldsNow events tables v (False place) = ⊥
HoldsNow events tables v (Atom place name terms) = IsEventAmong events name (values_of_terms v terms)
HoldsNow events tables v (Equal place s t) = AreSameValues (value_of_term v s) (value_of_term v t)
HoldsNow events tables v (Less place s t) = AreNumbersInOrder ◌<ℤ◌ (value_of_term v s) (value_of_term v t)
HoldsNow events tables v (AtMost place s t) = AreNumbersInOrder ◌≤ℤ◌ (value_of_term v s) (value_of_term v t)
HoldsNow events tables v (Not place g) = HoldsNow events tables v g → ⊥
HoldsNow events tables v (And place g h) = HoldsNow events tables v g × HoldsNow events (tables_beyond g tables) v h
HoldsNow events tables v (Or place g h) = (HoldsNow events tables v g → ⊥)
    → (HoldsNow events (tables_beyond g tables) v h → ⊥) → ⊥
HoldsNow events tables v (Implies place g h) = HoldsNow events tables v g
    → HoldsNow events (tables_beyond g tables) v h
HoldsNow events tables v (Exists place xs g) = Classically ((values : List Value) × (length values ≡ length xs)
    × HoldsNow events tables (with_values xs values v) g)
HoldsNow events tables v (Forall place xs g) = (values : List Value) → length values ≡ length xs
    → HoldsNow events tables (with_values xs values v) g
HoldsNow events tables v (Prev place interval g) = FirstHas tables v
HoldsNow events tables v (Once place interval g) = FirstHas tables v
HoldsNow events tables v (Historically place interval g) = FirstHas tables v → ⊥
HoldsNow events tables v (Since place interval g h) = FirstHas tables v
HoldsNow events tables v (Next place interval g) = ⊥
HoldsNow events tables v (Eventually place interval g) = ⊥
HoldsNow events tables v (Always place interval g) = ⊥
HoldsNow events tables v (Until place interval g h) = ⊥

-- whether the operator holds, or for `historically` whether it fails
abbrev pub Tabled : List Step → ℕ → Valuation → Formula → Type 0
Tabled trace i v (Historically place interval g) = Sat trace i v (Historically place interval g) → ⊥
Tabled trace i v f = Sat trace i v f

-- the table has just the valuations for which the operator is tabled at the position, and its columns are free in it
pub record TableStandsFor (trace : List Step) (i : ℕ) (f : Formula) (t : Relation) : Type 0 where
  pub columns : (x : VarId) → Contains t.columns x → IsFree x f
  pub rows : (v : Valuation) → BindsColumns v t.columns → HasValuation t v ↔ Tabled trace i v f

-- for each of the operators, in order, there is a table that has just the valuations for which it is tabled
abbrev pub TablesStandFor : List Step → ℕ → List Formula → List Relation → Type 0
TablesStandFor trace i [] tables = Unit {0}
TablesStandFor trace i (f ∷ fs) [] = ⊥
TablesStandFor trace i (f ∷ fs) (t ∷ tables) = TableStandsFor trace i f t × TablesStandFor trace i fs tables
