-- Where a formula holds that has triggers, an event of one of them is there.
use Rattle.plan_terms.proofs.Vocabulary.{◌≡◌, ℕ, List, [], ◌∷◌, ◌++◌, Option, None, Some, Contains, refl, subst, option_or, Contains-append_left, Contains-append_right, Contains-push, step_at}
use Rattle.plan_terms.proofs.Vocabulary.{Valuation, values_of_terms, with_values, Event, NameId, Step, Value, Formula, Atom, And, Or, Exists, Sat, Classically, IsEventAmong, of_each, triggers}

abbrev Met : List Event → List NameId → Type 0
Met events names = Classically ((event : Event) × Contains events event × Contains names event.name)

of_atom : (events : List Event) (name : NameId) (args : Option (List Value)) (names : List NameId) → Some (name ∷ []) ≡ Some names → IsEventAmong events name args → Met events names
of_atom events name (Some args) names is there none =
    let same : name ∷ [] ≡ names = cc in
    none (record { name = name; args = args }, there, subst (λ (l : List NameId). Contains l name) same (Contains-push [] name))
of_atom events name None names is there none = there

of_first : (events : List Event) (first second : Option (List NameId)) (names : List NameId) → option_or first second ≡ Some names
    → ((xs : List NameId) → first ≡ Some xs → Met events xs) → ((xs : List NameId) → second ≡ Some xs → Met events xs) → Met events names
of_first events (Some xs) second names is left right = left names is
of_first events None second names is left right = right names is

more : (events : List Event) (xs names : List NameId) → ((x : NameId) → Contains xs x → Contains names x) → Met events xs → Met events names
more events xs names wider met none = met (λ some. none (some.0, some.1, wider some.0.name some.2))

of_both : (events : List Event) (first second : Option (List NameId)) (names : List NameId) (P Q : Type 0) → of_each first second ≡ Some names → ((P → ⊥) → (Q → ⊥) → ⊥)
    → ((xs : List NameId) → first ≡ Some xs → P → Met events xs) → ((xs : List NameId) → second ≡ Some xs → Q → Met events xs) → Met events names
of_both events (Some xs) (Some ys) names P Q is either left right = λ none.
    let same : xs ++ ys ≡ names = cc in
    either (λ p. more events xs names (λ x there. subst (λ (l : List NameId). Contains l x) same (Contains-append_left xs ys x there)) (left xs refl p) none)
    (λ q. more events ys names (λ x there. subst (λ (l : List NameId). Contains l x) same (Contains-append_right xs ys x there)) (right ys refl q) none)
of_both events (Some xs) None names P Q is either left right = absurd (cc)
of_both events None second names P Q is either left right = absurd (cc)

pub met : (trace : List Step) (i : ℕ) (v : Valuation) (f : Formula) (names : List NameId) → triggers f ≡ Some names → Sat trace i v f → Met (step_at trace i).events names
met trace i v (Atom place name terms) names is holds = of_atom (step_at trace i).events name (values_of_terms v terms) names is holds
met trace i v (And place g h) names is holds = of_first (step_at trace i).events (triggers g) (triggers h) names is (λ xs same. met trace i v g xs same holds.0)
    (λ xs same. met trace i v h xs same holds.1)
met trace i v (Or place g h) names is holds = of_both (step_at trace i).events (triggers g) (triggers h) names (Sat trace i v g) (Sat trace i v h) is holds
    (λ xs same s. met trace i v g xs same s) (λ xs same s. met trace i v h xs same s)
met trace i v (Exists place xs g) names is holds = λ none. holds (λ some. met trace i (with_values xs some.0 v) g names is some.2 none)
met trace i v f names is holds = absurd (cc)
