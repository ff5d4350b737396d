-- Events that leaves speak of: a row and the values of terms.
use Rattle.obligations.proofs.Vocabulary.{◌≡◌, ℕ, true, List, [], ◌∷◌, map, Contains, ◌++◌, Option, None, Some, refl, sym, ap, subst, inl, inr, ◌∙◌, IsSome, Equal-is, option_to_list, is_eq}
use Rattle.obligations.proofs.Vocabulary.{ordering_reverse, Ordering, Less, Equal, Greater, false≢true, IsEventAmong, here, later, Valuation, onto_values, value_at, value_of_term, values_of_terms}
use Rattle.obligations.proofs.Vocabulary.{Event, NameId, Term, Var, Const, VarId, Value, listed_values, values_listed, key_cmp, key_cmp_exact, key_cmp_total, LiteralUnless, OfEvent, suppress_literal}
use Rattle.obligations.proofs.Vocabulary.{Literal}

tied : (r : Ordering) → r ≡ ordering_reverse r → r ≡ Equal
tied Less e = absurd (cc)
tied Equal e = refl
tied Greater e = absurd (cc)

-- a row compares as equal to the values of terms where these are its values
module _ (v : Valuation) (terms : List Term) (shown args : List Value) (same : shown ≡ args) (compared : Ordering)
    (is : compared ≡ key_cmp (map Some shown) (map (value_of_term v) terms)) where
  pub has_values : is_eq compared ≡ true → values_of_terms v terms ≡ Some args
  has_values equal =
      let none_apart : key_cmp (map Some shown) (map (value_of_term v) terms) ≡ Equal = sym is ∙ (Equal-is compared).0 equal in
      listed_values v terms shown (key_cmp_exact (map Some shown) (map (value_of_term v) terms) none_apart) ∙ ap Some same

  pub are_values : values_of_terms v terms ≡ Some args → is_eq compared ≡ true
  are_values has =
      let listed : map Some args ≡ map (value_of_term v) terms = values_listed v terms args has in
      let keys : map Some shown ≡ map (value_of_term v) terms = ap (map Some) same ∙ listed in
      (Equal-is compared).1 (is ∙ (λ i. key_cmp (keys i) (map (value_of_term v) terms))
      ∙ tied (key_cmp (map (value_of_term v) terms) (map (value_of_term v) terms)) (key_cmp_total.antisymm (map (value_of_term v) terms) (map (value_of_term v) terms)))

-- terms whose variables have values have values
pub bound_values : (v : Valuation) (terms : List Term) → ((x : VarId) → Contains terms (Var x) → IsSome (value_at v x))
    → (values : List Value) × (values_of_terms v terms ≡ Some values)
bound_values v [] bound = ([], refl)
bound_values v (Const value ∷ terms) bound =
    let rest = bound_values v terms (λ x there. bound x (later (Var x) (Const value) terms there)) in
    (value ∷ rest.0, ap (λ o. onto_values (Some value) o) rest.1)
bound_values v (Var x ∷ terms) bound =
    by (value_at v x) (bound x (here (Var x) terms)) (bound_values v terms (λ y there. bound y (later (Var y) (Var x) terms there)))
  where
    by : (o : Option Value) → IsSome o → (values : List Value) × (values_of_terms v terms ≡ Some values)
        → (values : List Value) × (onto_values o (values_of_terms v terms) ≡ Some values)
    by (Some value) some rest = (value ∷ rest.0, ap (λ o. onto_values (Some value) o) rest.1)
    by None some rest = absurd (false≢true some)

-- what is not there need not be suppressed
pub nothing_suppressed : (v : Valuation) (terms : List Term) → ((x : VarId) → Contains terms (Var x) → IsSome (value_at v x))
    → (events : List Event) (name : NameId) (node : ℕ) → (IsEventAmong events name (values_of_terms v terms) → ⊥)
    → OfEvent name (values_of_terms v terms) (λ e. LiteralUnless (Contains events e → ⊥) (suppress_literal e node) [])
nothing_suppressed v terms bound events name node absent =
    let has = bound_values v terms bound in
    subst (λ o. OfEvent name o (λ e. LiteralUnless (Contains events e → ⊥) (suppress_literal e node) [])) (sym has.1)
    (inl (subst (λ o. IsEventAmong events name o → ⊥) has.1 absent, refl))

-- the literal that was put last is what the leaf misses, where the event is not as it wants
pub one_pushed : (P : Event → Type 0) (l : Event → Literal) (name : NameId) (before after : List Literal) (o : Option (List Value))
    → ((args : List Value) → o ≡ Some args → P (record { name = name; args = args }) → ⊥)
    → OfEvent name o (λ e. after ≡ before ++ l e ∷ [])
    → (found : Option Literal) × OfEvent name o (λ e. LiteralUnless (P e) (l e) (option_to_list found)) × (after ≡ before ++ option_to_list found)
one_pushed P l name before after None apart grown = absurd grown
one_pushed P l name before after (Some args) apart grown = (Some (l (record { name = name; args = args })), inr (apart args refl, refl), grown)
