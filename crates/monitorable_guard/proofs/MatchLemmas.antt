-- Least matches, one term after another.
use Rattle.monitorable_guard.proofs.Vocabulary.{◌≡◌, get_or, drop, ⊎_elim, List, [], ◌∷◌, ◌<◌, length, Result, Ok, Err, IfOk, Option, None, Some, IfNone, refl, sym, ap, subst, ◌∙◌, arith, same_Some}
use Rattle.monitorable_guard.proofs.Vocabulary.{none-some, Valuation, value_at, value_of_term, values_of_terms, onto_values, Term, Var, Const, VarId, Value, as_many_values, same_or_other}
use Rattle.monitorable_guard.proofs.Vocabulary.{value_at-bound, value_at-other, Extends, IsLeastFor, IsLeastMatch, HasNoMatch}
use Rattle.std.proofs.Common.{IfSome}
use Rattle.std.specs.FinMap as finite

pub bound_least : (v w : Valuation) (x : VarId) (value : Value) → value_at v x ≡ None → w ≡ finite.insert v x value → IsLeastFor (Var x) value v w
bound_least v w x value absent is = subst (IsLeastFor (Var x) value v) (sym is) (record {
  extends = λ y known at. ⊎_elim
      (λ same. absurd (none-some known (sym absent ∙ ap (value_at v) same ∙ at)))
      (λ other. value_at-other v x y value other ∙ at)
      (same_or_other x y);
  has = value_at-bound v x x value refl;
  least = λ u ext h y known at. ⊎_elim
      (λ same. ap (value_at u) (sym same) ∙ h ∙ sym (value_at-bound v x y value same) ∙ at)
      (λ other. ext y known (sym (value_at-other v x y value other) ∙ at))
      (same_or_other x y);
})

pub value_of-extends : (v w : Valuation) (term : Term) (value : Value) → Extends v w → value_of_term v term ≡ Some value → value_of_term w term ≡ Some value
value_of-extends v w (Var x) value ext at = ext x value at
value_of-extends v w (Const c) value ext at = at

extends_trans : (u v w : Valuation) → Extends u v → Extends v w → Extends u w
extends_trans u v w a b x value at = b x value (a x value at)

-- a list of values begins with that of the first term
parts_of : (first : Option Value) (rest : Option (List Value)) (value : Value) (values : List Value) → onto_values first rest ≡ Some (value ∷ values) → (first ≡ Some value) × (rest ≡ Some values)
parts_of None rest value values e = absurd (none-some (value ∷ values) e)
parts_of (Some a) None value values e = absurd (none-some (value ∷ values) e)
parts_of (Some a) (Some behind) value values e =
    let same = same_Some (a ∷ behind) (value ∷ values) e in
    (ap Some (ap (λ l. get_or l 0 a) same), ap Some (ap (λ l. drop 1 l) same))

pub match_more : (term : Term) (terms : List Term) (value : Value) (values : List Value) (v w m : Valuation) → IsLeastFor term value v w → IsLeastMatch terms values w m
    → IsLeastMatch (term ∷ terms) (value ∷ values) v m
match_more term terms value values v w m first rest = record {
  extends = extends_trans v w m first.extends rest.extends;
  has = (λ i. onto_values (value_of-extends w m term value rest.extends first.has i) (rest.has i));
  least = λ u ext h.
      let parts = parts_of (value_of_term u term) (values_of_terms u terms) value values h in
      rest.least u (first.least u ext parts.0) parts.1;
}

pub no_match_more : (term : Term) (terms : List Term) (value : Value) (values : List Value) (v w : Valuation) → IsLeastFor term value v w → HasNoMatch terms values w
    → HasNoMatch (term ∷ terms) (value ∷ values) v
no_match_more term terms value values v w first none u ext h =
    let parts = parts_of (value_of_term u term) (values_of_terms u terms) value values h in
    none u (first.least u ext parts.0) parts.1

-- terms and values of other numbers
pub too_few : (term : Term) (terms : List Term) (v : Valuation) → HasNoMatch (term ∷ terms) [] v
too_few term terms v u ext h = by (value_of_term u term) (values_of_terms u terms) h
  where
    by : (first : Option Value) (rest : Option (List Value)) → onto_values first rest ≡ Some [] → ⊥
    by None rest e = none-some [] e
    by (Some a) None e = none-some [] e
    by (Some a) (Some behind) e = absurd (cc)

-- the first of a list, and the others
pub first_of : {X : Type 0} (xs rest : List X) (x : X) → 0 < length xs → x ≡ get_or xs 0 x → rest ≡ drop 1 xs → xs ≡ x ∷ rest
first_of [] rest x some is behind = absurd (omega (arith, some))
first_of (y ∷ ys) rest x some is behind = λ i. sym is i ∷ sym behind i

module _ {E : Type 0} (terms : List Term) (values : List Value) (v w : Valuation) (term : Term) (value : Value) (ts : List Term) (vs : List Value) (r : Result (Option Valuation) E)
    (terms_are : terms ≡ term ∷ ts) (values_are : values ≡ value ∷ vs) (first : IsLeastFor term value v w) where
  pub some_from : IfOk r (λ found. IfSome found (IsLeastMatch ts vs w)) → IfOk r (λ found. IfSome found (IsLeastMatch terms values v))
  some_from told = by r told
    where
      by : (s : Result (Option Valuation) E) → IfOk s (λ found. IfSome found (IsLeastMatch ts vs w)) → IfOk s (λ found. IfSome found (IsLeastMatch terms values v))
      by (Ok (Some m)) rest = subst (λ l. IsLeastMatch l values v m) (sym terms_are) (subst (λ l. IsLeastMatch (term ∷ ts) l v m) (sym values_are) (match_more term ts value vs v w m first rest))
      by (Ok None) rest = tt
      by (Err e) rest = tt

  pub none_from : IfOk r (λ found. IfNone found (HasNoMatch ts vs w)) → IfOk r (λ found. IfNone found (HasNoMatch terms values v))
  none_from told = by r told
    where
      by : (s : Result (Option Valuation) E) → IfOk s (λ found. IfNone found (HasNoMatch ts vs w)) → IfOk s (λ found. IfNone found (HasNoMatch terms values v))
      by (Ok (Some m)) rest = tt
      by (Ok None) rest = subst (λ l. HasNoMatch l values v) (sym terms_are) (subst (λ l. HasNoMatch (term ∷ ts) l v) (sym values_are) (no_match_more term ts value vs v w first rest))
      by (Err e) rest = tt

pub other_number : (terms : List Term) (values : List Value) (v : Valuation) → (length terms ≡ length values → ⊥) → HasNoMatch terms values v
other_number terms values v apart u ext h = apart (sym (as_many_values u terms values h))
