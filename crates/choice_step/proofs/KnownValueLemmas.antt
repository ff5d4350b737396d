-- The finitely many values that are known to the choice loop at a step.
use Rattle.choice_step.proofs.Vocabulary.{◌≡◌, Bool, true, false, cond, List, [], ◌∷◌, ◌++◌, Some, map, Contains, sym, ◌∙◌, ⊎_elim, arith, get-entries, flat_map, eq_by_cmp, Contains-append_left}
use Rattle.choice_step.proofs.Vocabulary.{Contains-append_right, none-some, same_Some, here, later, Valuation, bindings, variable_cmp, Event, Const, VarId, Value, Contains-flat_map, IsArgument, Past}
use Rattle.choice_step.proofs.Vocabulary.{formulas_of_guards, nodes, Plan, IsBound, terms_of, Instance, IsKnownBehind}
use Rattle.std.specs.FinMap.Entries.{find}
use Rattle.choice_step.proofs.KeptValueLemmas.{constant_of, constants_in, constants_of_each, kept_is_there, kept_values}
use Rattle.choice_step.proofs.PossibleEventLemmas.{AreOfValues, possible_over}

-- ---- the known values

abbrev pub bound_values : Valuation → List Value
bound_values v = map (λ (b : VarId × Value). b.1) (bindings v)

found_is_there : (x : VarId) (es : List (VarId × Value)) (value : Value) → find variable_cmp x es ≡ Some value
    → Contains (map (λ (b : VarId × Value). b.1) es) value
found_is_there x [] value is = absurd (none-some value is)
found_is_there x (e ∷ es) value is = by (eq_by_cmp variable_cmp x e.0) is (found_is_there x es value)
  where
    by : (b : Bool) → cond b (Some e.1) (find variable_cmp x es) ≡ Some value
        → (find variable_cmp x es ≡ Some value → Contains (map (λ (b : VarId × Value). b.1) es) value)
        → Contains (map (λ (b : VarId × Value). b.1) (e ∷ es)) value
    by true is rest = (0, omega arith, same_Some e.1 value is)
    by false is rest = later value e.1 (map (λ (b : VarId × Value). b.1) es) (rest is)

pub bound_is_there : (v : Valuation) (value : Value) → IsBound v value → Contains (bound_values v) value
bound_is_there v value (x, is) = found_is_there x (bindings v) value (sym (get-entries v x) ∙ is)

abbrev pub arguments_of : List Event → List Value
arguments_of events = flat_map (λ (e : Event). e.args) events

abbrev pub leaf_constants : Plan → List Value
leaf_constants leaf = flat_map constant_of (terms_of leaf)

module _ (plans : List Plan) (pending : List Instance) (past : Past) where
  -- those at a step that begins with these events
  abbrev pub universe : List Event → List Value
  universe events = flat_map (λ (i : Instance). bound_values i.valuation) pending ++ (arguments_of events
      ++ (kept_values past.operators ++ (flat_map constants_in (formulas_of_guards past.guards)
      ++ flat_map leaf_constants (flat_map nodes plans))))

  pub in_universe : (events : List Event) (value : Value) → IsKnownBehind plans pending past events value
      → (given : List Event) → ((other : Value) → IsArgument events other → Contains (universe given) other)
      → Contains (universe given) value
  in_universe events value known given arguments =
      let leaves = flat_map leaf_constants (flat_map nodes plans) in
      let constants = flat_map constants_in (formulas_of_guards past.guards) in
      let bound = flat_map (λ (i : Instance). bound_values i.valuation) pending in
      let of_events = arguments_of given in
      let kept = kept_values past.operators in
      ⊎_elim
      (λ binds. Contains-append_left bound (of_events ++ (kept ++ (constants ++ leaves))) value
      (Contains-flat_map (λ (i : Instance). bound_values i.valuation) pending binds.0 value binds.1 (bound_is_there binds.0.valuation value binds.2)))
      (λ others. ⊎_elim
      (λ argument. arguments value argument)
      (λ others. Contains-append_right bound (of_events ++ (kept ++ (constants ++ leaves))) value
      (Contains-append_right of_events (kept ++ (constants ++ leaves)) value (⊎_elim
      (λ keeps. Contains-append_left kept (constants ++ leaves) value (kept_is_there past.operators value keeps))
      (λ others. Contains-append_right kept (constants ++ leaves) value (⊎_elim
      (λ constant. Contains-append_left constants leaves value (constants_of_each (formulas_of_guards past.guards) value constant))
      (λ leaf. Contains-append_right constants leaves value
      (Contains-flat_map leaf_constants (flat_map nodes plans) leaf.0 value leaf.1
      (Contains-flat_map constant_of (terms_of leaf.0) (Const value) value leaf.2 (here value []))))
      others))
      others)))
      others)
      known

  pub given_values : (given : List Event) → AreOfValues (universe given) given
  given_values given value (event, there, arg) =
      Contains-append_right (flat_map (λ (i : Instance). bound_values i.valuation) pending) _ value
      (Contains-append_left (arguments_of given) _ value (Contains-flat_map (λ (e : Event). e.args) given event value there arg))

  -- the events on which one could act
  abbrev pub possible : List Event → List Event
  possible given = possible_over plans (universe given) given
