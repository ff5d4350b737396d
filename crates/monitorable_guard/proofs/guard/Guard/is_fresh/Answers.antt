use Rattle.monitorable_guard.proofs.Vocabulary.{sym, subst, ◌∙◌, Contains, IsTrue, IfOk, ◌↔◌, ◌⊎◌, VarId, tree_of, IsFree, BindsFresh, BoundOrFreeIn}
use Rattle.monitorable_guard.proofs.ConditionLemmas.{fresh_alike}
use Rattle.monitorable_guard.proofs.DecisionLemmas.{decides_alike}
use Rattle.monitorable_guard.proofs.guard.Guard.is_fresh.Goals as goal

pub returns : goal.returns
returns c =
    let f = tree_of c.args.self.now.formula in
    let b = c.args.self.now.bound in
    let listed = subst (λ l. (x : VarId) → Contains c.in_ok-scope.scope.items x ↔ BoundOrFreeIn (Contains l) f x) (c.as_slice.ensures ∙ c.bound.ensures.bound)
    (subst (λ k. (x : VarId) → Contains c.in_ok-scope.scope.items x ↔ BoundOrFreeIn (Contains c.as_slice.result.now) (tree_of k) x) c.formula.ensures.formula c.in_ok-scope.ensures) in
    let scoped = subst (λ l. (x : VarId) → Contains l x ↔ BoundOrFreeIn (Contains b) f x) (sym c.as_slice-2.ensures.value) listed in
    decides_alike c.is_fresh.result _ _ (fresh_alike f (Contains c.as_slice-2.result.now) (λ x. Contains b x ⊎ IsFree x f) scoped)
    (subst (λ k. IfOk c.is_fresh.result (λ fresh. IsTrue fresh ↔ BindsFresh (tree_of k) (Contains c.as_slice-2.result.now))) c.formula-2.ensures.formula c.is_fresh.ensures)
