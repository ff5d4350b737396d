use Rattle.monitorable_guard.proofs.Vocabulary.{◌≡◌, List, Option, None, Some, is_none, IsSome, true, refl, sym, ap, subst, ◌∙◌, false≢true, IsStrictlySortedBy-filter, filter, Formula}
use Rattle.monitorable_guard.proofs.Vocabulary.{AreFreeVariables, tree_of, Valuation, value_at, variable_cmp, VarId, Value, Contains-filter, Contains-from_filter, AreOpenUnder, bound_in}
use Rattle.monitorable_guard.proofs.operators.open_variables.Goals as goal

apart : (o : Option Value) → IsSome o → is_none o ≡ true → ⊥
apart None some none = false≢true some
apart (Some value) some none = false≢true none

lacks : (o : Option Value) → (IsSome o → ⊥) → is_none o ≡ true
lacks None unbound = refl
lacks (Some value) unbound = absurd (unbound refl)

open_from : (v : Valuation) (f : Formula) (free : List VarId) → AreFreeVariables f free → AreOpenUnder v f (filter (λ x. is_none (value_at v x)) free)
open_from v f free are = record {
  rising = IsStrictlySortedBy-filter variable_cmp (λ x. is_none (value_at v x)) free are.rising;
  exact = λ x. (
    λ there. let parts = Contains-from_filter (λ y. is_none (value_at v y)) free x there in ((are.exact x).0 parts.0, λ bound. apart (value_at v x) bound parts.1),
    λ both. Contains-filter (λ y. is_none (value_at v y)) free x ((are.exact x).1 both.0) (lacks (value_at v x) both.1),
  );
}

pub returns : goal.returns
returns c = subst (AreOpenUnder (bound_in c.args.scope.now) (tree_of c.args.formula.now))
    (sym (c.from_vec.ensures ∙ c.in_ok-found.ensures ∙ ap (filter (λ x. is_none (value_at (bound_in c.args.scope.now) x))) c.as_slice.ensures))
    (open_from (bound_in c.args.scope.now) (tree_of c.args.formula.now) _ c.in_ok-free.ensures)
