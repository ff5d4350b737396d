use Rattle.past_state.proofs.Vocabulary.{[], ⊎_elim, ap, arith, sym, subst, IfSome, ok_both, tree_of, outermost, IsAlone, AreFreeVariables}
use Rattle.past_state.proofs.FirstMemoryLemmas.{some_begun}
use Rattle.past_state.specs.machine.Newcomers.{BeginsWith}
use Rattle.std.specs.Prelude.{◌≡◌}
use Rattle.past_state.proofs.newcomers.newcomers.Goals as goal

pub returns-in-Once-clause-asks : goal.returns-in-Once-clause-asks
returns-in-Once-clause-asks c =
    let g = tree_of c.args.operand.now in
    let begun = tree_of c.deref.result.now in
    ok_both c.guard_of_now.result (λ found. IfSome found (IsAlone begun) × IfSome found (λ _. AreFreeVariables begun c.args.columns.now))
    (λ found. IfSome found (λ _. outermost begun ≡ [])) _
    (ok_both c.guard_of_now.result (λ found. IfSome found (IsAlone begun)) (λ found. IfSome found (λ _. AreFreeVariables begun c.args.columns.now)) _
    c.guard_of_now.ensures.alone c.guard_of_now.ensures.columns (λ found alone over. (alone, over))) c.guard_of_now.ensures.present
    (λ found both present. some_begun g begun c.args.columns.now found
    (⊎_elim (λ once. subst (λ f. BeginsWith (tree_of f) begun) (sym once.1) (omega (arith, c.if-inner-eq0.true), ap tree_of (sym c.deref.ensures)))
    (λ since. subst (λ f. BeginsWith (tree_of f) begun) (sym since.2) (omega (arith, c.if-inner-eq0.true), ap tree_of (sym c.deref.ensures))) c.in-Once.is)
    c.requires.fresh c.requires.columns both.0 both.1 present)
