-- A formula that needs an event holds nowhere where the event is not, and so a guard has no rows there.
use Rattle.obligations.proofs.Vocabulary.{◌≡◌, ℕ, List, [], Option, None, Some, Contains, refl, subst, All-nil, step_at, none_in_nil, Valuation, values_of_terms, with_values, Event, NameId, Step}
use Rattle.obligations.proofs.Vocabulary.{Term, VarId, Value, Formula, And, Atom, Exists, Or, IsEventAmong, Guarded, Plan, IsNowOf, Begun, last_position, HoldsNowhere, Now}
use Rattle.std.specs.List.Sorted.{IsStrictlySortedBy}

of_atom : (events : List Event) (name : NameId) (args : Option (List Value)) → IsEventAmong events name args
    → (event : Event) × Contains events event × (event.name ≡ name)
of_atom events name None there = absurd there
of_atom events name (Some args) there = (record { name = name; args = args }, there, refl)

pub atom_lacks : (events : List Event) (place : ℕ) (name : NameId) (terms : List Term)
    → ((event : Event) → Contains events event → event.name ≡ name → ⊥) → HoldsNowhere events (Atom place name terms)
atom_lacks events place name terms none trace i v same holds =
    let met = of_atom (step_at trace i).events name (values_of_terms v terms) holds in
    none met.0 (subst (λ (l : List Event). Contains l met.0) same met.1) met.2

pub first_lacks : (events : List Event) (place : ℕ) (g h : Formula) → HoldsNowhere events g → HoldsNowhere events (And place g h)
first_lacks events place g h lacks trace i v same holds = lacks trace i v same holds.0

pub second_lacks : (events : List Event) (place : ℕ) (g h : Formula) → HoldsNowhere events h → HoldsNowhere events (And place g h)
second_lacks events place g h lacks trace i v same holds = lacks trace i v same holds.1

pub both_lack : (events : List Event) (place : ℕ) (g h : Formula) → HoldsNowhere events g → HoldsNowhere events h
    → HoldsNowhere events (Or place g h)
both_lack events place g h first second trace i v same holds = holds (first trace i v same) (second trace i v same)

pub inner_lacks : (events : List Event) (place : ℕ) (xs : List VarId) (g : Formula) → HoldsNowhere events g
    → HoldsNowhere events (Exists place xs g)
inner_lacks events place xs g lacks trace i v same holds = holds (λ some. lacks trace i (with_values xs some.0 v) same some.2)

pub asleep : (now : Now) (node : ℕ) (xs : List VarId) (guard : ℕ) (test : Formula) (body : Plan) → HoldsNowhere now.events.now test
    → (trace : List Step) → IsNowOf now trace → (rule : ℕ) (v : Valuation) → Begun trace rule (Guarded node xs guard test body) v []
unfolding IsStrictlySortedBy
asleep now node xs guard test body lacks trace is rule v = (
  [],
  record {
    fit = All-nil _;
    rise = tt;
    are = λ row fits. (
      λ there. absurd (none_in_nil row there),
      λ holds. absurd (lacks trace (last_position trace) (with_values xs row v) is.events holds),
    );
  },
  refl,
)
