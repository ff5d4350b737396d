use Rattle.past_state.proofs.Vocabulary.{[], ◌∷◌, ◌++◌, ◌∙◌, ap, take, sym, subst, take_all, take_more, All-push, OperatorState}
use Rattle.past_state.specs.machine.UntouchedSteps.{AreUntouched, IsUntouched}
use Rattle.past_state.proofs.operators.are_untouched.Goals as goal

pub loop-operator-preserved : goal.loop-operator-preserved
loop-operator-preserved c =
    let all = c.args.operators.now in
    let i = c.loop-operator.operator-index in
    let o = c.operator-item.result in
    subst (AreUntouched c.args.events.now) (sym (take_more all i o c.loop-operator-test.true ∙ ap (λ (x : OperatorState). take i all ++ x ∷ []) (sym c.operator-item.is)))
    (All-push (λ (x : OperatorState). IsUntouched c.args.events.now x.memory) (take i all) o c.loop-operator.invariant (c.is_untouched.ensures c.if-not-is_untouched.false))

pub returns : goal.returns
returns c = λ _. subst (AreUntouched c.args.events.now) (take_all c.loop-operator.operator-index c.args.operators.now c.loop-operator-test.false) c.loop-operator.invariant
