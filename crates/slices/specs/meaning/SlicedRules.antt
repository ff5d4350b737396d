-- Rules that speak of one key at a time, what is in the way of one, and the truth of a rule for a key.
use Rattle.enf_data.specs.declared.steps.Step.{Step}
use Rattle.enf_data.specs.declared.terms.Term.{Term}
use Rattle.enf_data.specs.declared.terms.Term.TheVariants.{Var}
use Rattle.enf_data.specs.declared.terms.VarId.{VarId}
use Rattle.enf_data.specs.declared.values.Value.{Value}
use Rattle.enf_data.specs.meaning.Valuations.{Valuation, no_values, value_at, with_values}
use Rattle.enf_formula.specs.meaning.Satisfaction.{Formula, True, False, Atom, Equal, Less, AtMost, Not, And, Or, Sat}
use Rattle.enf_formula.specs.meaning.Satisfaction.{Implies, Exists, Forall, Prev, Next, Once, Historically, Since}
use Rattle.enf_formula.specs.meaning.Satisfaction.{Eventually, Always, Until, formula_place}
use Rattle.slices.specs.declared.hindrances.Hindrance.{Hindrance}
use Rattle.slices.specs.declared.hindrances.Why.TheVariants.{NoKey, OtherKey, Bound, Neighbour, Operand, Rule}
use Rattle.slices.specs.declared.verdicts.Absence.TheVariants.{AtStep, InTrace}
use Rattle.slices.specs.declared.verdicts.Verdict.{Verdict}
use Rattle.slices.specs.declared.verdicts.Verdict.TheVariants.{Holds, Fails}
use Rattle.slices.specs.meaning.Slices.{Keying}
use Rattle.slices.specs.meaning.Verdicts.{verdict_of}
use Rattle.std.specs.List.{slice_get, list_any}
use Rattle.std.specs.Prelude.{ℕ, List, Option, None, Some, Contains, ◌≡◌, ◌⊎◌, All, ◌≤◌, length, if◌then◌else◌, nat_eq}

-- ---- Formulas of one key.

-- the argument that is the key is this variable, where there is a key
abbrev pub HasKeyTerm : Option ℕ → List Term → VarId → Type 0
HasKeyTerm None terms x = Unit {0}
HasKeyTerm (Some column) terms x = slice_get terms column ≡ Some (Var x)

-- the formula has this verdict at a step that has no event of the key and none without a key
abbrev pub IsClearAtStep : Keying → Formula → Verdict → Type 0
IsClearAtStep keying f verdict = verdict_of AtStep keying f ≡ verdict

-- the formula speaks of events of the key that this variable has, and of those without a key, and no step that has none
-- of these matters for it: where an operator looks for one that has its operand, the operand fails at such a step, and
-- where it wants all to have it, the operand holds there. `prev` and `next` count steps, of which others are there.
abbrev pub IsOfOneKey : Keying → VarId → Formula → Type 0
IsOfOneKey keying x (True place) = Unit {0}
IsOfOneKey keying x (False place) = Unit {0}
IsOfOneKey keying x (Atom place name terms) = HasKeyTerm (keying name) terms x
IsOfOneKey keying x (Equal place s t) = Unit {0}
IsOfOneKey keying x (Less place s t) = Unit {0}
IsOfOneKey keying x (AtMost place s t) = Unit {0}
IsOfOneKey keying x (Not place f) = IsOfOneKey keying x f
IsOfOneKey keying x (And place f g) = IsOfOneKey keying x f × IsOfOneKey keying x g
IsOfOneKey keying x (Or place f g) = IsOfOneKey keying x f × IsOfOneKey keying x g
IsOfOneKey keying x (Implies place f g) = IsOfOneKey keying x f × IsOfOneKey keying x g
IsOfOneKey keying x (Exists place xs f) = (Contains xs x → ⊥) × IsOfOneKey keying x f
IsOfOneKey keying x (Forall place xs f) = (Contains xs x → ⊥) × IsOfOneKey keying x f
IsOfOneKey keying x (Prev place interval f) = ⊥
IsOfOneKey keying x (Next place interval f) = ⊥
IsOfOneKey keying x (Once place interval f) = IsClearAtStep keying f Fails × IsOfOneKey keying x f
IsOfOneKey keying x (Historically place interval f) = IsClearAtStep keying f Holds × IsOfOneKey keying x f
IsOfOneKey keying x (Since place interval f g) = (IsClearAtStep keying f Holds × IsOfOneKey keying x f)
    × (IsClearAtStep keying g Fails × IsOfOneKey keying x g)
IsOfOneKey keying x (Eventually place interval f) = IsClearAtStep keying f Fails × IsOfOneKey keying x f
IsOfOneKey keying x (Always place interval f) = IsClearAtStep keying f Holds × IsOfOneKey keying x f
IsOfOneKey keying x (Until place interval f g) = (IsClearAtStep keying f Holds × IsOfOneKey keying x f)
    × (IsClearAtStep keying g Fails × IsOfOneKey keying x g)

-- ---- Rules of one key.

-- the term is a variable of these
abbrev pub variable_among : List VarId → Option Term → Option VarId
variable_among xs (Some (Var x)) = if list_any (λ y. nat_eq y.0 x.0) xs then Some x else None
variable_among xs term = None

-- of these variables the one at the key argument of an atom
abbrev pub key_variable_of : List VarId → Option ℕ → List Term → Option VarId
key_variable_of xs None terms = None
key_variable_of xs (Some column) terms = variable_among xs (slice_get terms column)

abbrev pub or_else : Option VarId → Option VarId → Option VarId
or_else None other = other
or_else (Some x) other = Some x

-- of these variables the first one, in the order of the text, that an atom has for its key
abbrev pub key_variable : Keying → List VarId → Formula → Option VarId
key_variable keying xs (True place) = None
key_variable keying xs (False place) = None
key_variable keying xs (Atom place name terms) = key_variable_of xs (keying name) terms
key_variable keying xs (Equal place s t) = None
key_variable keying xs (Less place s t) = None
key_variable keying xs (AtMost place s t) = None
key_variable keying xs (Not place f) = key_variable keying xs f
key_variable keying xs (And place f g) = or_else (key_variable keying xs f) (key_variable keying xs g)
key_variable keying xs (Or place f g) = or_else (key_variable keying xs f) (key_variable keying xs g)
key_variable keying xs (Implies place f g) = or_else (key_variable keying xs f) (key_variable keying xs g)
key_variable keying xs (Exists place ys f) = key_variable keying xs f
key_variable keying xs (Forall place ys f) = key_variable keying xs f
key_variable keying xs (Prev place interval f) = key_variable keying xs f
key_variable keying xs (Next place interval f) = key_variable keying xs f
key_variable keying xs (Once place interval f) = key_variable keying xs f
key_variable keying xs (Historically place interval f) = key_variable keying xs f
key_variable keying xs (Since place interval f g) = or_else (key_variable keying xs f) (key_variable keying xs g)
key_variable keying xs (Eventually place interval f) = key_variable keying xs f
key_variable keying xs (Always place interval f) = key_variable keying xs f
key_variable keying xs (Until place interval f g) = or_else (key_variable keying xs f) (key_variable keying xs g)

-- the formula holds for a key at each step that has no event of it and none without a key, and throughout where a trace
-- has no event of it
abbrev pub HoldsForOthers : Keying → Formula → Type 0
HoldsForOthers keying f = IsClearAtStep keying f Holds × (verdict_of InTrace keying f ≡ Holds)

-- below its `forall` the rule is of the key that one of the variables has, and it holds of what does not happen
abbrev pub IsSlicedRule : Keying → Formula → Type 0
IsSlicedRule keying (Forall place xs f) = (x : VarId) × (key_variable keying xs f ≡ Some x)
    × IsOfOneKey keying x f × HoldsForOthers keying f
IsSlicedRule keying f = ⊥

-- each rule is of one key
abbrev pub IsSlicedPolicy : Keying → List Formula → Type 0
IsSlicedPolicy keying policy = All (IsSlicedRule keying) policy

-- ---- What is in the way.

abbrev pub IsOperandInTheWay : Keying → Formula → Verdict → Hindrance → Type 0
IsOperandInTheWay keying f verdict h =
    (h ≡ record { place = formula_place f; why = Operand }) × (IsClearAtStep keying f verdict → ⊥)

abbrev pub IsBoundInTheWay : ℕ → List VarId → VarId → Hindrance → Type 0
IsBoundInTheWay place xs x h = (h ≡ record { place = place; why = Bound }) × Contains xs x

abbrev pub IsNeighbourInTheWay : ℕ → Hindrance → Type 0
IsNeighbourInTheWay place h = h ≡ record { place = place; why = Neighbour }

abbrev pub IsInTheWay : Keying → VarId → Formula → Hindrance → Type 0
IsInTheWay keying x (True place) h = ⊥
IsInTheWay keying x (False place) h = ⊥
IsInTheWay keying x (Atom place name terms) h =
    (h ≡ record { place = place; why = OtherKey }) × (HasKeyTerm (keying name) terms x → ⊥)
IsInTheWay keying x (Equal place s t) h = ⊥
IsInTheWay keying x (Less place s t) h = ⊥
IsInTheWay keying x (AtMost place s t) h = ⊥
IsInTheWay keying x (Not place f) h = IsInTheWay keying x f h
IsInTheWay keying x (And place f g) h = IsInTheWay keying x f h ⊎ IsInTheWay keying x g h
IsInTheWay keying x (Or place f g) h = IsInTheWay keying x f h ⊎ IsInTheWay keying x g h
IsInTheWay keying x (Implies place f g) h = IsInTheWay keying x f h ⊎ IsInTheWay keying x g h
IsInTheWay keying x (Exists place xs f) h = IsBoundInTheWay place xs x h ⊎ IsInTheWay keying x f h
IsInTheWay keying x (Forall place xs f) h = IsBoundInTheWay place xs x h ⊎ IsInTheWay keying x f h
IsInTheWay keying x (Prev place interval f) h = IsNeighbourInTheWay place h ⊎ IsInTheWay keying x f h
IsInTheWay keying x (Next place interval f) h = IsNeighbourInTheWay place h ⊎ IsInTheWay keying x f h
IsInTheWay keying x (Once place interval f) h = IsOperandInTheWay keying f Fails h ⊎ IsInTheWay keying x f h
IsInTheWay keying x (Historically place interval f) h = IsOperandInTheWay keying f Holds h ⊎ IsInTheWay keying x f h
IsInTheWay keying x (Since place interval f g) h =
    (IsOperandInTheWay keying f Holds h ⊎ IsInTheWay keying x f h)
    ⊎ (IsOperandInTheWay keying g Fails h ⊎ IsInTheWay keying x g h)
IsInTheWay keying x (Eventually place interval f) h = IsOperandInTheWay keying f Fails h ⊎ IsInTheWay keying x f h
IsInTheWay keying x (Always place interval f) h = IsOperandInTheWay keying f Holds h ⊎ IsInTheWay keying x f h
IsInTheWay keying x (Until place interval f g) h =
    (IsOperandInTheWay keying f Holds h ⊎ IsInTheWay keying x f h)
    ⊎ (IsOperandInTheWay keying g Fails h ⊎ IsInTheWay keying x g h)

-- below a `forall` whose variables have this one for a key
abbrev pub IsBodyInTheWay : Keying → Option VarId → Formula → Formula → Hindrance → Type 0
IsBodyInTheWay keying None rule f h = h ≡ record { place = formula_place rule; why = NoKey }
IsBodyInTheWay keying (Some x) rule f h =
    ((h ≡ record { place = formula_place f; why = Rule }) × (HoldsForOthers keying f → ⊥)) ⊎ IsInTheWay keying x f h

abbrev pub IsRuleInTheWay : Keying → Formula → Hindrance → Type 0
IsRuleInTheWay keying (Forall place xs f) h =
    IsBodyInTheWay keying (key_variable keying xs f) (Forall place xs f) f h
IsRuleInTheWay keying f h = h ≡ record { place = formula_place f; why = NoKey }

-- this is in the way, and nothing at an earlier place
pub record IsFirstHindrance (P : Hindrance → Type 0) (h : Hindrance) : Type 0 where
  pub is_one : P h
  pub first : (other : Hindrance) → P other → h.place ≤ other.place

-- ---- The truth of a rule for a key.

abbrev pub HasKeyValue : Option VarId → Valuation → Value → Type 0
HasKeyValue None v key = ⊥
HasKeyValue (Some x) v key = value_at v x ≡ Some key

-- the rule holds at the position of the trace, as far as it speaks of this key
abbrev pub HoldsForKey : Keying → Value → List Step → ℕ → Formula → Type 0
HoldsForKey keying key trace i (Forall place xs f) = (values : List Value) → length values ≡ length xs
    → HasKeyValue (key_variable keying xs f) (with_values xs values no_values) key
    → Sat trace i (with_values xs values no_values) f
HoldsForKey keying key trace i f = Sat trace i no_values f
