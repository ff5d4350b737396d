-- What goes on from a valuation and gives terms their values, by the least one that does.
use Rattle.monitorable_guard.proofs.Vocabulary.{◌≡◌, ◌⊎◌, ⊎_elim, List, Option, None, Some, IsSome, Contains, refl, sym, ap, subst, ◌∙◌, same_Some, none-some, MatchOption-at_some, Valuation}
use Rattle.monitorable_guard.proofs.Vocabulary.{value_of_term, Term, Var, VarId, Value, AreSameValues-some, AreSameValues-sym, AreSameValues, Classically, AgreeOnColumns, IsBoundBy, IsEquated}
use Rattle.monitorable_guard.proofs.Vocabulary.{IsMatchOf, IsValued, IsLeastFor, IsLeastMatch, HasNoMatch, Extends, IfNone, IsTrue, is_some, ◌↔◌, [], false≢true, none_in_nil}
use Rattle.std.specs.Option.{IfSome}
use Rattle.monitorable_guard.proofs.EvaluationLemmas.{bound_on, same_on, terms_bound}
use Rattle.monitorable_guard.proofs.MatchLemmas.{value_of-extends}

module _ (v m : Valuation) (columns : List VarId) where
  module _ (terms : List Term) (values : List Value) (least : IsLeastMatch terms values v m) (within : (x : VarId) → Contains columns x → IsBoundBy v x ⊎ Contains terms (Var x)) where
    pub match_binds : (x : VarId) → Contains columns x → IsBoundBy m x
    match_binds x there = ⊎_elim (bound_on v m x least.extends) (terms_bound m terms values x least.has) (within x there)

    pub match_to : (w : Valuation) → AgreeOnColumns columns w m → IsMatchOf terms values v columns w
    match_to w agree = (m, least.extends, least.has, agree)

    pub match_from : (w : Valuation) → IsMatchOf terms values v columns w → Classically (AgreeOnColumns columns w m)
    match_from w some none = none (λ x there. some.3 x there ∙ sym (same_on m some.0 x (least.least some.0 some.1 some.2) (match_binds x there)))

  module _ (term : Term) (value : Value) (least : IsLeastFor term value v m) (within : (x : VarId) → Contains columns x → IsBoundBy v x ⊎ (term ≡ Var x)) where
    pub value_binds : (x : VarId) → Contains columns x → IsBoundBy m x
    value_binds x there = ⊎_elim (bound_on v m x least.extends) (λ is. subst IsSome (sym least.has ∙ ap (value_of_term m) is) refl) (within x there)

    pub value_to : (w : Valuation) → AgreeOnColumns columns w m → IsValued term value v columns w
    value_to w agree = (m, least.extends, least.has, agree)

    pub value_from : (w : Valuation) → IsValued term value v columns w → Classically (AgreeOnColumns columns w m)
    value_from w some none = none (λ x there. some.3 x there ∙ sym (same_on m some.0 x (least.least some.0 some.1 some.2) (value_binds x there)))

pub least_of : (terms : List Term) (values : List Value) (copy v : Valuation) (found : Option Valuation) (m : Valuation) → copy ≡ v → found ≡ Some m
    → IfSome found (IsLeastMatch terms values copy) → IsLeastMatch terms values v m
least_of terms values copy v found m same is told = subst (λ u. IsLeastMatch terms values u m) same (MatchOption-at_some _ (IsLeastMatch terms values copy) m is told)

pub least_value : (term : Term) (value : Value) (copy v : Valuation) (found : Option Valuation) (m : Valuation) → copy ≡ v → found ≡ Some m
    → IfSome found (IsLeastFor term value copy) → IsLeastFor term value v m
least_value term value copy v found m same is told = subst (λ u. IsLeastFor term value u m) same (MatchOption-at_some _ (IsLeastFor term value copy) m is told)

-- whether one was found tells whether there is one
pub match_some : (terms : List Term) (values : List Value) (copy v : Valuation) (found : Option Valuation) → copy ≡ v → IfSome found (IsLeastMatch terms values copy)
    → IfNone found (HasNoMatch terms values copy) → IsTrue (is_some found) ↔ ((w : Valuation) × IsMatchOf terms values v [] w)
match_some terms values copy v None same some none = (
  λ t. absurd (false≢true t),
  λ m. absurd (none m.1.0 (subst (λ u. Extends u m.1.0) (sym same) m.1.1) m.1.2),
)
match_some terms values copy v (Some m) same some none = (
  λ _. (m, (m, subst (λ u. Extends u m) same some.extends, some.has, λ x there. absurd (none_in_nil x there))),
  λ _. refl,
)

-- ---- where one of two terms has a value

same_from : (a b : Option Value) (value : Value) → a ≡ Some value → b ≡ Some value → AreSameValues a b
same_from None b value e f = none-some value e
same_from (Some a) None value e f = none-some value f
same_from (Some a) (Some b) value e f = same_Some a value e ∙ sym (same_Some b value f)

module _ (v : Valuation) (columns : List VarId) (s t : Term) (value : Value) where
  pub left_to : value_of_term v s ≡ Some value → (w : Valuation) → IsValued t value v columns w → IsEquated s t v columns w
  left_to is w some = (some.0, some.1, same_from (value_of_term some.0 s) (value_of_term some.0 t) value (value_of-extends v some.0 s value some.1 is) some.2, some.3)

  pub left_from : value_of_term v s ≡ Some value → (w : Valuation) → IsEquated s t v columns w → Classically (IsValued t value v columns w)
  left_from is w some none = none (some.0, some.1, AreSameValues-some (value_of_term some.0 s) (value_of_term some.0 t) value some.2 (value_of-extends v some.0 s value some.1 is), some.3)

  pub right_to : value_of_term v t ≡ Some value → (w : Valuation) → IsValued s value v columns w → IsEquated s t v columns w
  right_to is w some = (some.0, some.1, same_from (value_of_term some.0 s) (value_of_term some.0 t) value some.2 (value_of-extends v some.0 t value some.1 is), some.3)

  pub right_from : value_of_term v t ≡ Some value → (w : Valuation) → IsEquated s t v columns w → Classically (IsValued s value v columns w)
  right_from is w some none = none (
    some.0,
    some.1,
    AreSameValues-some (value_of_term some.0 t) (value_of_term some.0 s) value
        (AreSameValues-sym (value_of_term some.0 s) (value_of_term some.0 t) some.2) (value_of-extends v some.0 t value some.1 is),
    some.3,
  )
