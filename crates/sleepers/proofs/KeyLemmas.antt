-- Keys of patterns, and what decides whether an event is of one.
use Rattle.sleepers.proofs.Vocabulary.{◌≡◌, ℕ, ◌≤◌, Bool, true, false, true≢false, List, [], ◌∷◌, Contains, Option, None, Some, ◌⊎◌, inl, inr, ⊎_elim, refl, sym, ap, subst, ◌∙◌, arith, Decides}
use Rattle.sleepers.proofs.Vocabulary.{pointwise, option_eq, cases_eq, false≢true, Decides-and, Decides-eqb, Decides-like, none-some, same_Some, slice_eq-Decides, value_eq, value_eq-Decides}
use Rattle.sleepers.proofs.Vocabulary.{derived_value_eq-Decides, here, later, first_or_later, none_in_nil, Event, NameId, Value, fixed_of, masked_values, shape_of, FitArgs, HasNone, MatchesPattern}
use Rattle.sleepers.proofs.Vocabulary.{MatchesNone, Shape, Pattern}
use Rattle.enf_data.specs.declared.seeds.Seed.{Seed}
use Rattle.sleepers.specs.machine.PatternKeys.{pattern_key}
use Rattle.enf_data.specs.contracts.values.ValuePartialEq.TheImpl as values
use Rattle.sleepers.specs.contracts.patterns.PatternPartialEq.TheImpl as derived

-- ---- an event has the key of the patterns that it is of

fits_masked : (args : List (Option Value)) (values : List Value) → FitArgs args values → masked_values (fixed_of args) values ≡ args
fits_masked [] [] fits = refl
fits_masked [] (v ∷ values) fits = absurd fits
fits_masked (a ∷ args) [] fits = absurd fits
fits_masked (None ∷ args) (v ∷ values) fits = ap (λ (l : List (Option Value)). None ∷ l) (fits_masked args values fits.1)
fits_masked (Some x ∷ args) (v ∷ values) fits =
    let same : v ≡ x = fits.0 in
    let rest = fits_masked args values fits.1 in
    λ i. Some (same i) ∷ rest i

pub key_matches : (seed : Seed) (pattern : Pattern) (event : Event) → MatchesPattern pattern event
    → pattern_key seed event.name (masked_values (fixed_of pattern.args) event.args) ≡ pattern_key seed pattern.name pattern.args
key_matches seed pattern event matches =
    let name = matches.name in
    let args = fits_masked pattern.args event.args matches.args in
    λ i. pattern_key seed (name i) (args i)

-- what is found under the key of the event has all groups that are noted under such a pattern
pub shape_found : (seed : Seed) (pairs : List (ℕ × ℕ)) (shape : Shape) (event : Event) (found : List ℕ)
    → ((pair : ℕ × ℕ) → Contains pairs pair → pattern_key seed event.name (masked_values shape.fixed event.args) ≤ pair.0
    → pair.0 ≤ pattern_key seed event.name (masked_values shape.fixed event.args) → Contains found pair.1)
    → (group : ℕ) (pattern : Pattern) → shape ≡ shape_of pattern → Contains pairs (pattern_key seed pattern.name pattern.args, group)
    → MatchesPattern pattern event → Contains found group
shape_found seed pairs shape event found finds group pattern is there matches =
    let same : pattern_key seed event.name (masked_values shape.fixed event.args) ≡ pattern_key seed pattern.name pattern.args =
    ap (λ (s : Shape). pattern_key seed event.name (masked_values s.fixed event.args)) is ∙ key_matches seed pattern event matches in
    finds (pattern_key seed pattern.name pattern.args, group) there (omega (arith, same)) (omega (arith, same))

-- ---- whether an event is of a pattern

value_or : (a b : Value) → (a ≡ b) ⊎ (a ≡ b → ⊥)
value_or a b = by (value_eq a b) (value_eq-Decides a b)
  where
    by : (t : Bool) → Decides t (a ≡ b) → (a ≡ b) ⊎ (a ≡ b → ⊥)
    by true d = inl (d.0 refl)
    by false d = inr (λ same. true≢false (sym (d.1 same)))

fits_or : (args : List (Option Value)) (values : List Value) → FitArgs args values ⊎ (FitArgs args values → ⊥)
fits_or [] [] = inl tt
fits_or [] (v ∷ values) = inr (λ f. f)
fits_or (a ∷ args) [] = inr (λ f. f)
fits_or (None ∷ args) (v ∷ values) = ⊎_elim (λ f. inl (tt, f)) (λ n. inr (λ f. n f.1)) (fits_or args values)
fits_or (Some x ∷ args) (v ∷ values) =
    ⊎_elim (λ same. ⊎_elim (λ f. inl (same, f)) (λ n. inr (λ f. n f.1)) (fits_or args values)) (λ other. inr (λ f. other f.0)) (value_or v x)

pub matches_or : (pattern : Pattern) (event : Event) → MatchesPattern pattern event ⊎ (MatchesPattern pattern event → ⊥)
matches_or pattern event =
    ⊎_elim
    (λ (same : event.name.0 ≡ pattern.name.0). ⊎_elim (λ f. inl (record { name = λ i. record { 0 = same i }; args = f })) (λ n. inr (λ m. n m.args)) (fits_or pattern.args event.args))
    (λ (other : event.name.0 ≡ pattern.name.0 → ⊥). inr (λ m. other (ap (λ (n : NameId). n.0) m.name))) (cases_eq event.name.0 pattern.name.0)

-- an event of one of the patterns
abbrev pub HasOne : List Pattern → List Event → Type 0
HasOne patterns events = (pattern : Pattern) × (event : Event) × Contains patterns pattern × Contains events event × MatchesPattern pattern event

event_or : (pattern : Pattern) (events : List Event) → ((event : Event) × Contains events event × MatchesPattern pattern event) ⊎ MatchesNone pattern events
event_or pattern [] = inr (λ event there m. none_in_nil event there)
event_or pattern (e ∷ events) =
    ⊎_elim (λ m. inl (e, here e events, m))
    (λ n. ⊎_elim (λ f. inl (f.0, later f.0 e events f.1, f.2)) (λ none. inr (λ event there m.
    ⊎_elim (λ same. n (subst (λ (x : Event). MatchesPattern pattern x) (sym same) m)) (λ on. none event on m) (first_or_later event e events there))) (event_or pattern events))
    (matches_or pattern e)

pub none_or : (patterns : List Pattern) (events : List Event) → HasOne patterns events ⊎ HasNone patterns events
none_or [] events = inr tt
none_or (p ∷ patterns) events =
    ⊎_elim (λ f. inl (p, f.0, here p patterns, f.1, f.2))
    (λ none. ⊎_elim (λ f. inl (f.0, f.1, later f.0 p patterns f.2, f.3, f.4)) (λ rest. inr (none, rest)) (none_or patterns events)) (event_or p events)

-- ---- the derived `==` of patterns tells equality

arg_eq-Decides : (a b : Option Value) → Decides (option_eq values.eq-value.it a b) (a ≡ b)
arg_eq-Decides None None = (λ h. refl, λ e. refl)
arg_eq-Decides None (Some y) = (λ h. absurd (false≢true h), λ e. absurd (none-some y e))
arg_eq-Decides (Some x) None = (λ h. absurd (false≢true h), λ e. absurd (none-some x (sym e)))
arg_eq-Decides (Some x) (Some y) =
    (λ h. ap Some ((derived_value_eq-Decides x y).0 h), λ e. (derived_value_eq-Decides x y).1 (same_Some x y e))

pattern_eq-Decides : (a b : Pattern) → Decides (derived.eq-value.it a b) (a ≡ b)
pattern_eq-Decides a b =
    Decides-like (derived.eq-value.it a b) (λ h i. record { name = record { 0 = h.0 i }; args = h.1 i })
    (λ e. (ap (λ (p : Pattern). p.name.0) e, ap (λ (p : Pattern). p.args) e))
    (Decides-and _ _ (Decides-eqb a.name.0 b.name.0) (slice_eq-Decides arg_eq-Decides a.args b.args _ refl))

pub patterns_eq : (ps qs : List Pattern) → pointwise derived.eq-value.it ps qs ≡ true → ps ≡ qs
patterns_eq ps qs is = (slice_eq-Decides pattern_eq-Decides ps qs _ refl).0 is
