use Rattle.past_state.proofs.Vocabulary.{◌≡◌, ◌⊎◌, ⊎_elim, sym, subst, OnErr, AreSameKinds}
use Rattle.past_state.proofs.CommitLemmas.{same_all}
use Rattle.past_state.proofs.operators.pass_shared.Goals as goal

pub returns-in_err-operators-clause-kinds : goal.returns-in_err-operators-clause-kinds
returns-in_err-operators-clause-kinds c =
    let before = c.args.operators.now.value in
    let after = c.make_mut.follows.lender-at-none.value in
    ⊎_elim (λ e. subst (λ s. AreSameKinds before.items.items s.items.items) (sym e) (same_all before.items.items)) (λ e. subst (AreSameKinds before.items.items) (sym e) (same_all before.items.items))
    (subst (λ r. OnErr r ((after ≡ before) ⊎ (after.items.items ≡ before.items.items))) c.in_err-operators.was c.make_mut.follows.holds-at-none)
