use Rattle.monitorable_guard.proofs.Vocabulary.{◌∷◌, [], ◌++◌, List, take, sym, ⊎_elim, subst, Contains, Contains-append_left, take_all, take_more, VarId, AddsVariables, adds_both, adds_same}
use Rattle.monitorable_guard.proofs.Vocabulary.{last_or_before, there_last, ◌≡◌}
use Rattle.monitorable_guard.proofs.scopes.add_each.Goals as goal

-- the variables so far, and one more
adds_next : (xs : List VarId) (x : VarId) {before middle after : List VarId} → AddsVariables (Contains xs) before middle → AddsVariables (λ y. y ≡ x) middle after
    → AddsVariables (Contains (xs ++ x ∷ [])) before after
adds_next xs x a b = adds_same (λ y h. ⊎_elim (λ there. Contains-append_left xs (x ∷ []) y there) (λ is. there_last xs x y is) h) (last_or_before xs x) (adds_both a b)

pub loop-x-preserved : goal.loop-x-preserved
loop-x-preserved c =
    subst (λ (xs : List VarId). AddsVariables (Contains xs) c.args.all.now.items c.add_new.new.all.items) (sym (take_more c.args.xs.now c.loop-x.x-index _ c.loop-x-test.true))
    (adds_next (take c.loop-x.x-index c.args.xs.now) _ c.loop-x.invariant c.in_ok-add_new.ensures)

pub returns : goal.returns
returns c =
    subst (λ (xs : List VarId). AddsVariables (Contains xs) c.args.all.now.items c.loop-x.all.items)
    (take_all c.loop-x.x-index c.args.xs.now c.loop-x-test.false) c.loop-x.invariant
