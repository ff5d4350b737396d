use Rattle.enforce_types.proofs.Vocabulary.{◌↔◌, ◌≡◌, Ok, Err, List, Contains, ap, refl, subst, IsTrue, ◌∙◌, ◌++◌, VarId, Formula, tree_of, plan_of, IsTest, Answer, Exclusion, ImplicationAnswer}
use Rattle.enforce_types.proofs.Vocabulary.{OneOfTwo, OverOne, OverTwo, Elab, Up, Down, is_causable, is_suppressible, GivesAnswer, GivesRefusal, aim_where, denied_where, positive_end}
use Rattle.enforce_types.proofs.Vocabulary.{positive_end_from, test_answer}
use Rattle.enforce_types.proofs.OperandLemmas.{answer_map, endless, endless_from, found_false, has_end, has_end_from, no_end, passed_on, refusal_map, refused_by, side_test, test_of_side, tested_keeps}
use Rattle.plan_terms.specs.meaning.Plans as plan
use Rattle.enforce_types.proofs.elaboration.+elaboration.Goals as goal

pub up-returns-in_err-left-in-And : goal.up-returns-in_err-left-in-And
up-returns-in_err-left-in-And t c =
    passed_on (λ why. Elab (is_causable c.args.signature.now) (is_suppressible c.args.signature.now) Up (tree_of c.deref-in-And.result.now) c.args.scope.now (Err why))
    (Elab (is_causable c.args.signature.now) (is_suppressible c.args.signature.now) Up (tree_of c.args.formula.now) c.args.scope.now) _ _ c.from_residual.ensures.1 c.in_err-left-in-And.ensures
    (λ why no. rw (c.in-And.is, ← c.deref-in-And.ensures) (OverTwo.first_refused why no refl))

pub up-returns-in_err-right-in-And : goal.up-returns-in_err-right-in-And
up-returns-in_err-right-in-And t c =
    passed_on (λ why. Elab (is_causable c.args.signature.now) (is_suppressible c.args.signature.now) Up (tree_of c.deref-in-And-2.result.now) c.args.scope.now (Err why))
    (Elab (is_causable c.args.signature.now) (is_suppressible c.args.signature.now) Up (tree_of c.args.formula.now) c.args.scope.now) _ _ c.from_residual-in_err-right-in-And.ensures.1 c.in_err-right-in-And.ensures
    (λ why no. rw (c.in-And.is, ← c.deref-in-And.ensures, ← c.deref-in-And-2.ensures) (OverTwo.second_refused (plan_of c.in_ok-left-in-And.left) why c.in_ok-left-in-And.ensures no refl))

pub up-returns-in_ok-both-in-And : goal.up-returns-in_ok-both-in-And
up-returns-in_ok-both-in-And t c =
    rw (c.in-And.is, ← c.deref-in-And.ensures, ← c.deref-in-And-2.ensures)
    (OverTwo.two_made (plan_of c.in_ok-left-in-And.left) (plan_of c.in_ok-right-in-And.right) c.in_ok-left-in-And.ensures c.in_ok-right-in-And.ensures (ap Ok c.in_ok-both-in-And.ensures))

pub up-returns-in-Or : goal.up-returns-in-Or
up-returns-in-Or t c =
    rw (c.in-Or.is, ← c.deref-in-Or.ensures, ← c.deref-in-Or-2.ensures) c.one_of_two.ensures

pub up-returns-in-Implies : goal.up-returns-in-Implies
up-returns-in-Implies t c =
    let g : Formula = tree_of c.deref-in-Implies.result.now in
    let h : Formula = tree_of c.deref-in-Implies-2.result.now in
    let down_g = Elab (is_causable c.args.signature.now) (is_suppressible c.args.signature.now) Down g in
    let up_h = Elab (is_causable c.args.signature.now) (is_suppressible c.args.signature.now) Up h in
    rw (c.in-Implies.is, ← c.deref-in-Implies.ensures, ← c.deref-in-Implies-2.ensures)
    (subst (λ (xs : List VarId). GivesAnswer (ImplicationAnswer c.in-Implies.place c.in-Implies.place c.args.scope.now xs g h down_g up_h) c.up_implies.result)
    c.new-none.ensures c.up_implies.ensures)

pub up-returns-in_err-high-in-Eventually : goal.up-returns-in_err-high-in-Eventually
up-returns-in_err-high-in-Eventually t c =
    no_end (Elab (is_causable c.args.signature.now) (is_suppressible c.args.signature.now) Up (tree_of c.args.formula.now) c.args.scope.now)
    c.in-Eventually.place (positive_end c.in-Eventually.interval.high) _ _ c.in_err-high-in-Eventually.ensures c.from_residual-in_err-high-in-Eventually.ensures.1
    (λ none. rw c.in-Eventually.is (endless c.in-Eventually.place c.in-Eventually.interval.high _ none))

pub up-returns-in_err-body-in-Eventually : goal.up-returns-in_err-body-in-Eventually
up-returns-in_err-body-in-Eventually t c =
    passed_on (λ why. Elab (is_causable c.args.signature.now) (is_suppressible c.args.signature.now) Up (tree_of c.deref-in-Eventually.result.now) c.args.scope.now (Err why))
    (Elab (is_causable c.args.signature.now) (is_suppressible c.args.signature.now) Up (tree_of c.args.formula.now) c.args.scope.now) _ _ c.from_residual-in_err-body-in-Eventually.ensures.1 c.in_err-body-in-Eventually.ensures
    (λ why no. rw (c.in-Eventually.is, ← c.deref-in-Eventually.ensures) (has_end c.in-Eventually.place c.in-Eventually.interval.high c.in_ok-high-in-Eventually.high _ _ c.in_ok-high-in-Eventually.ensures (OverOne.operand_refused why no refl)))

pub up-returns-in_ok-eventually-in-Eventually : goal.up-returns-in_ok-eventually-in-Eventually
up-returns-in_ok-eventually-in-Eventually t c =
    rw (c.in-Eventually.is, ← c.deref-in-Eventually.ensures)
    (has_end c.in-Eventually.place c.in-Eventually.interval.high c.in_ok-high-in-Eventually.high _ _ c.in_ok-high-in-Eventually.ensures (OverOne.operand_made (plan_of c.in_ok-body-in-Eventually.body) c.in_ok-body-in-Eventually.ensures (ap Ok c.in_ok-eventually-in-Eventually.ensures)))

pub up-returns-in_err-high-in-Always : goal.up-returns-in_err-high-in-Always
up-returns-in_err-high-in-Always t c =
    no_end (Elab (is_causable c.args.signature.now) (is_suppressible c.args.signature.now) Up (tree_of c.args.formula.now) c.args.scope.now)
    c.in-Always.place (positive_end c.in-Always.interval.high) _ _ c.in_err-high-in-Always.ensures c.from_residual-in_err-high-in-Always.ensures.1
    (λ none. rw c.in-Always.is (endless c.in-Always.place c.in-Always.interval.high _ none))

pub up-returns-in_err-body-in-Always : goal.up-returns-in_err-body-in-Always
up-returns-in_err-body-in-Always t c =
    passed_on (λ why. Elab (is_causable c.args.signature.now) (is_suppressible c.args.signature.now) Up (tree_of c.deref-in-Always.result.now) c.args.scope.now (Err why))
    (Elab (is_causable c.args.signature.now) (is_suppressible c.args.signature.now) Up (tree_of c.args.formula.now) c.args.scope.now) _ _ c.from_residual-in_err-body-in-Always.ensures.1 c.in_err-body-in-Always.ensures
    (λ why no. rw (c.in-Always.is, ← c.deref-in-Always.ensures) (has_end c.in-Always.place c.in-Always.interval.high c.in_ok-high-in-Always.high _ _ c.in_ok-high-in-Always.ensures (OverOne.operand_refused why no refl)))

pub up-returns-in_ok-always-in-Always : goal.up-returns-in_ok-always-in-Always
up-returns-in_ok-always-in-Always t c =
    rw (c.in-Always.is, ← c.deref-in-Always.ensures)
    (has_end c.in-Always.place c.in-Always.interval.high c.in_ok-high-in-Always.high _ _ c.in_ok-high-in-Always.ensures (OverOne.operand_made (plan_of c.in_ok-body-in-Always.body) c.in_ok-body-in-Always.ensures (ap Ok c.in_ok-always-in-Always.ensures)))

pub up-returns-in_err-high-in-Next : goal.up-returns-in_err-high-in-Next
up-returns-in_err-high-in-Next t c =
    no_end (Elab (is_causable c.args.signature.now) (is_suppressible c.args.signature.now) Up (tree_of c.args.formula.now) c.args.scope.now)
    c.in-Next.place (positive_end_from c.in-Next.interval.low c.in-Next.interval.high) _ _ c.in_err-high-in-Next.ensures c.from_residual-in_err-high-in-Next.ensures.1
    (λ none. rw c.in-Next.is (endless_from c.in-Next.place c.in-Next.interval.low c.in-Next.interval.high _ none))

pub up-returns-in_err-body-in-Next : goal.up-returns-in_err-body-in-Next
up-returns-in_err-body-in-Next t c =
    passed_on (λ why. Elab (is_causable c.args.signature.now) (is_suppressible c.args.signature.now) Up (tree_of c.deref-in-Next.result.now) c.args.scope.now (Err why))
    (Elab (is_causable c.args.signature.now) (is_suppressible c.args.signature.now) Up (tree_of c.args.formula.now) c.args.scope.now) _ _ c.from_residual-in_err-body-in-Next.ensures.1 c.in_err-body-in-Next.ensures
    (λ why no. rw (c.in-Next.is, ← c.deref-in-Next.ensures) (has_end_from c.in-Next.place c.in-Next.interval.low c.in-Next.interval.high c.in_ok-high-in-Next.high _ _ c.in_ok-high-in-Next.ensures (OverOne.operand_refused why no refl)))

pub up-returns-in_ok-next-in-Next : goal.up-returns-in_ok-next-in-Next
up-returns-in_ok-next-in-Next t c =
    rw (c.in-Next.is, ← c.deref-in-Next.ensures)
    (has_end_from c.in-Next.place c.in-Next.interval.low c.in-Next.interval.high c.in_ok-high-in-Next.high _ _ c.in_ok-high-in-Next.ensures (OverOne.operand_made (plan_of c.in_ok-body-in-Next.body) c.in_ok-body-in-Next.ensures (ap Ok c.in_ok-next-in-Next.ensures)))

pub up-returns-in_err-high-in-Until : goal.up-returns-in_err-high-in-Until
up-returns-in_err-high-in-Until t c =
    no_end (Elab (is_causable c.args.signature.now) (is_suppressible c.args.signature.now) Up (tree_of c.args.formula.now) c.args.scope.now)
    c.in-Until.place (positive_end c.in-Until.interval.high) _ _ c.in_err-high-in-Until.ensures c.from_residual-in_err-high-in-Until.ensures.1
    (λ none. rw c.in-Until.is (endless c.in-Until.place c.in-Until.interval.high _ none))

pub up-returns-in_err-left-in-Until : goal.up-returns-in_err-left-in-Until
up-returns-in_err-left-in-Until t c =
    passed_on (λ why. Elab (is_causable c.args.signature.now) (is_suppressible c.args.signature.now) Up (tree_of c.deref-in-Until.result.now) c.args.scope.now (Err why))
    (Elab (is_causable c.args.signature.now) (is_suppressible c.args.signature.now) Up (tree_of c.args.formula.now) c.args.scope.now) _ _ c.from_residual-in_err-left-in-Until.ensures.1 c.in_err-left-in-Until.ensures
    (λ why no. rw (c.in-Until.is, ← c.deref-in-Until.ensures) (has_end c.in-Until.place c.in-Until.interval.high c.in_ok-high-in-Until.high _ _ c.in_ok-high-in-Until.ensures (OverTwo.first_refused why no refl)))

pub up-returns-in_err-right-in-Until : goal.up-returns-in_err-right-in-Until
up-returns-in_err-right-in-Until t c =
    passed_on (λ why. Elab (is_causable c.args.signature.now) (is_suppressible c.args.signature.now) Up (tree_of c.deref-in-Until-2.result.now) c.args.scope.now (Err why))
    (Elab (is_causable c.args.signature.now) (is_suppressible c.args.signature.now) Up (tree_of c.args.formula.now) c.args.scope.now) _ _ c.from_residual-in_err-right-in-Until.ensures.1 c.in_err-right-in-Until.ensures
    (λ why no. rw (c.in-Until.is, ← c.deref-in-Until.ensures, ← c.deref-in-Until-2.ensures) (has_end c.in-Until.place c.in-Until.interval.high c.in_ok-high-in-Until.high _ _ c.in_ok-high-in-Until.ensures
    (OverTwo.second_refused (plan_of c.in_ok-left-in-Until.left) why c.in_ok-left-in-Until.ensures no refl)))

pub up-returns-in_ok-until-in-Until : goal.up-returns-in_ok-until-in-Until
up-returns-in_ok-until-in-Until t c =
    rw (c.in-Until.is, ← c.deref-in-Until.ensures, ← c.deref-in-Until-2.ensures)
    (has_end c.in-Until.place c.in-Until.interval.high c.in_ok-high-in-Until.high _ _ c.in_ok-high-in-Until.ensures
    (OverTwo.two_made (plan_of c.in_ok-left-in-Until.left) (plan_of c.in_ok-right-in-Until.right) c.in_ok-left-in-Until.ensures c.in_ok-right-in-Until.ensures (ap Ok c.in_ok-until-in-Until.ensures)))

pub down-returns-in-And : goal.down-returns-in-And
down-returns-in-And t c =
    rw (c.in-And.is, ← c.deref-in-And.ensures, ← c.deref-in-And-2.ensures) c.one_of_two.ensures

pub down-returns-in_err-left-in-Or : goal.down-returns-in_err-left-in-Or
down-returns-in_err-left-in-Or t c =
    passed_on (λ why. Elab (is_causable c.args.signature.now) (is_suppressible c.args.signature.now) Down (tree_of c.deref-in-Or.result.now) c.args.scope.now (Err why))
    (Elab (is_causable c.args.signature.now) (is_suppressible c.args.signature.now) Down (tree_of c.args.formula.now) c.args.scope.now) _ _ c.from_residual.ensures.1 c.in_err-left-in-Or.ensures
    (λ why no. rw (c.in-Or.is, ← c.deref-in-Or.ensures) (OverTwo.first_refused why no refl))

pub down-returns-in_err-right-in-Or : goal.down-returns-in_err-right-in-Or
down-returns-in_err-right-in-Or t c =
    passed_on (λ why. Elab (is_causable c.args.signature.now) (is_suppressible c.args.signature.now) Down (tree_of c.deref-in-Or-2.result.now) c.args.scope.now (Err why))
    (Elab (is_causable c.args.signature.now) (is_suppressible c.args.signature.now) Down (tree_of c.args.formula.now) c.args.scope.now) _ _ c.from_residual-in_err-right-in-Or.ensures.1 c.in_err-right-in-Or.ensures
    (λ why no. rw (c.in-Or.is, ← c.deref-in-Or.ensures, ← c.deref-in-Or-2.ensures) (OverTwo.second_refused (plan_of c.in_ok-left-in-Or.left) why c.in_ok-left-in-Or.ensures no refl))

pub down-returns-in_ok-both-in-Or : goal.down-returns-in_ok-both-in-Or
down-returns-in_ok-both-in-Or t c =
    rw (c.in-Or.is, ← c.deref-in-Or.ensures, ← c.deref-in-Or-2.ensures)
    (OverTwo.two_made (plan_of c.in_ok-left-in-Or.left) (plan_of c.in_ok-right-in-Or.right) c.in_ok-left-in-Or.ensures c.in_ok-right-in-Or.ensures (ap Ok c.in_ok-both-in-Or.ensures))

pub down-returns-in_err-left-in-Implies : goal.down-returns-in_err-left-in-Implies
down-returns-in_err-left-in-Implies t c =
    passed_on (λ why. Elab (is_causable c.args.signature.now) (is_suppressible c.args.signature.now) Up (tree_of c.deref-in-Implies.result.now) c.args.scope.now (Err why))
    (Elab (is_causable c.args.signature.now) (is_suppressible c.args.signature.now) Down (tree_of c.args.formula.now) c.args.scope.now) _ _ c.from_residual-in_err-left-in-Implies.ensures.1 c.in_err-left-in-Implies.ensures
    (λ why no. rw (c.in-Implies.is, ← c.deref-in-Implies.ensures) (OverTwo.first_refused why no refl))

pub down-returns-in_err-right-in-Implies : goal.down-returns-in_err-right-in-Implies
down-returns-in_err-right-in-Implies t c =
    passed_on (λ why. Elab (is_causable c.args.signature.now) (is_suppressible c.args.signature.now) Down (tree_of c.deref-in-Implies-2.result.now) c.args.scope.now (Err why))
    (Elab (is_causable c.args.signature.now) (is_suppressible c.args.signature.now) Down (tree_of c.args.formula.now) c.args.scope.now) _ _ c.from_residual-in_err-right-in-Implies.ensures.1 c.in_err-right-in-Implies.ensures
    (λ why no. rw (c.in-Implies.is, ← c.deref-in-Implies.ensures, ← c.deref-in-Implies-2.ensures) (OverTwo.second_refused (plan_of c.in_ok-left-in-Implies.left) why c.in_ok-left-in-Implies.ensures no refl))

pub down-returns-in_ok-both-in-Implies : goal.down-returns-in_ok-both-in-Implies
down-returns-in_ok-both-in-Implies t c =
    rw (c.in-Implies.is, ← c.deref-in-Implies.ensures, ← c.deref-in-Implies-2.ensures)
    (OverTwo.two_made (plan_of c.in_ok-left-in-Implies.left) (plan_of c.in_ok-right-in-Implies.right) c.in_ok-left-in-Implies.ensures c.in_ok-right-in-Implies.ensures (ap Ok c.in_ok-both-in-Implies.ensures))

pub down-returns-in-Exists : goal.down-returns-in-Exists
down-returns-in-Exists t c =
    rw (c.in-Exists.is, ← c.deref-in-Exists.ensures) c.exclude.ensures

pub down-returns-in_err-high-in-Eventually : goal.down-returns-in_err-high-in-Eventually
down-returns-in_err-high-in-Eventually t c =
    no_end (Elab (is_causable c.args.signature.now) (is_suppressible c.args.signature.now) Down (tree_of c.args.formula.now) c.args.scope.now)
    c.in-Eventually.place (positive_end c.in-Eventually.interval.high) _ _ c.in_err-high-in-Eventually.ensures c.from_residual-in_err-high-in-Eventually.ensures.1
    (λ none. rw c.in-Eventually.is (endless c.in-Eventually.place c.in-Eventually.interval.high _ none))

pub down-returns-in_err-body-in-Eventually : goal.down-returns-in_err-body-in-Eventually
down-returns-in_err-body-in-Eventually t c =
    passed_on (λ why. Elab (is_causable c.args.signature.now) (is_suppressible c.args.signature.now) Down (tree_of c.deref-in-Eventually.result.now) c.args.scope.now (Err why))
    (Elab (is_causable c.args.signature.now) (is_suppressible c.args.signature.now) Down (tree_of c.args.formula.now) c.args.scope.now) _ _ c.from_residual-in_err-body-in-Eventually.ensures.1 c.in_err-body-in-Eventually.ensures
    (λ why no. rw (c.in-Eventually.is, ← c.deref-in-Eventually.ensures) (has_end c.in-Eventually.place c.in-Eventually.interval.high c.in_ok-high-in-Eventually.high _ _ c.in_ok-high-in-Eventually.ensures (OverOne.operand_refused why no refl)))

pub down-returns-in_ok-always-in-Eventually : goal.down-returns-in_ok-always-in-Eventually
down-returns-in_ok-always-in-Eventually t c =
    rw (c.in-Eventually.is, ← c.deref-in-Eventually.ensures)
    (has_end c.in-Eventually.place c.in-Eventually.interval.high c.in_ok-high-in-Eventually.high _ _ c.in_ok-high-in-Eventually.ensures (OverOne.operand_made (plan_of c.in_ok-body-in-Eventually.body) c.in_ok-body-in-Eventually.ensures (ap Ok c.in_ok-always-in-Eventually.ensures)))

pub down-returns-in_err-high-in-Always : goal.down-returns-in_err-high-in-Always
down-returns-in_err-high-in-Always t c =
    no_end (Elab (is_causable c.args.signature.now) (is_suppressible c.args.signature.now) Down (tree_of c.args.formula.now) c.args.scope.now)
    c.in-Always.place (positive_end c.in-Always.interval.high) _ _ c.in_err-high-in-Always.ensures c.from_residual-in_err-high-in-Always.ensures.1
    (λ none. rw c.in-Always.is (endless c.in-Always.place c.in-Always.interval.high _ none))

pub down-returns-in_err-body-in-Always : goal.down-returns-in_err-body-in-Always
down-returns-in_err-body-in-Always t c =
    passed_on (λ why. Elab (is_causable c.args.signature.now) (is_suppressible c.args.signature.now) Down (tree_of c.deref-in-Always.result.now) c.args.scope.now (Err why))
    (Elab (is_causable c.args.signature.now) (is_suppressible c.args.signature.now) Down (tree_of c.args.formula.now) c.args.scope.now) _ _ c.from_residual-in_err-body-in-Always.ensures.1 c.in_err-body-in-Always.ensures
    (λ why no. rw (c.in-Always.is, ← c.deref-in-Always.ensures) (has_end c.in-Always.place c.in-Always.interval.high c.in_ok-high-in-Always.high _ _ c.in_ok-high-in-Always.ensures (OverOne.operand_refused why no refl)))

pub down-returns-in_ok-eventually-in-Always : goal.down-returns-in_ok-eventually-in-Always
down-returns-in_ok-eventually-in-Always t c =
    rw (c.in-Always.is, ← c.deref-in-Always.ensures)
    (has_end c.in-Always.place c.in-Always.interval.high c.in_ok-high-in-Always.high _ _ c.in_ok-high-in-Always.ensures (OverOne.operand_made (plan_of c.in_ok-body-in-Always.body) c.in_ok-body-in-Always.ensures (ap Ok c.in_ok-eventually-in-Always.ensures)))

pub up_for_all-returns-in-Implies : goal.up_for_all-returns-in-Implies
up_for_all-returns-in-Implies t c =
    rw (c.in-Implies.is, ← c.deref-in-Implies.ensures, ← c.deref-in-Implies-2.ensures) c.up_implies.ensures

pub up_for_all-returns-in-Not : goal.up_for_all-returns-in-Not
up_for_all-returns-in-Not t c =
    rw (c.in-Not.is, ← c.deref-in-Not.ensures) c.exclude.ensures

pub one_side-returns-then-denied : goal.one_side-returns-then-denied
one_side-returns-then-denied t c =
    rw c.if-denied.true c.down.ensures

pub one_side-returns-else-denied : goal.one_side-returns-else-denied
one_side-returns-else-denied t c =
    rw c.if-denied.false c.up.ensures

pub one_of_two-returns-then-branch : goal.one_of_two-returns-then-branch
one_of_two-returns-then-branch t c =
    let scope = c.args.scope.now in
    let l : Formula = tree_of c.args.l.now in
    let r : Formula = tree_of c.args.r.now in
    OneOfTwo.left_test (plan_of c.in-Ok.plan) c.in-Ok.ensures
    (side_test c.args.denied l (Contains scope) (c.in_ok-is_test-in-Ok.ensures.0 c.if-branch.true)) (ap Ok c.in_ok-test_or-in-Ok.ensures)

pub one_of_two-returns-in_err-other-in-Ok : goal.one_of_two-returns-in_err-other-in-Ok
one_of_two-returns-in_err-other-in-Ok t c =
    let scope = c.args.scope.now in
    let l : Formula = tree_of c.args.l.now in
    let r : Formula = tree_of c.args.r.now in
    let K = is_causable c.args.signature.now in
    let S = is_suppressible c.args.signature.now in
    let aim = aim_where c.args.denied in
    let Q : Answer → Type 0 = OneOfTwo scope (denied_where c.args.denied l) (denied_where c.args.denied r) (Elab K S aim l scope) (Elab K S aim r scope) in
    passed_on (λ why. Elab K S aim l scope (Err why)) Q _ _ c.from_residual-in_err-other-in-Ok.ensures.1 c.in_err-other-in-Ok.ensures
    (λ why no. OneOfTwo.left_refused (plan_of c.in-Ok.plan) why c.in-Ok.ensures
    (λ test. found_false _ _ c.in_ok-is_test-in-Ok.ensures c.if-branch.false (test_of_side c.args.denied l (Contains scope) test)) no refl)

pub one_of_two-returns-in_ok-either-in-Ok : goal.one_of_two-returns-in_ok-either-in-Ok
one_of_two-returns-in_ok-either-in-Ok t c =
    let scope = c.args.scope.now in
    let l : Formula = tree_of c.args.l.now in
    let r : Formula = tree_of c.args.r.now in
    OneOfTwo.either_made (plan_of c.in-Ok.plan) (plan_of c.in_ok-other-in-Ok.other) c.in-Ok.ensures
    (λ test. found_false _ _ c.in_ok-is_test-in-Ok.ensures c.if-branch.false (test_of_side c.args.denied l (Contains scope) test))
    c.in_ok-other-in-Ok.ensures (ap Ok c.in_ok-either-in-Ok.ensures)

pub one_of_two-returns-then-not-branch : goal.one_of_two-returns-then-not-branch
one_of_two-returns-then-not-branch t c =
    let scope = c.args.scope.now in
    let l : Formula = tree_of c.args.l.now in
    let r : Formula = tree_of c.args.r.now in
    let K = is_causable c.args.signature.now in
    let S = is_suppressible c.args.signature.now in
    let aim = aim_where c.args.denied in
    let Q : Answer → Type 0 = OneOfTwo scope (denied_where c.args.denied l) (denied_where c.args.denied r) (Elab K S aim l scope) (Elab K S aim r scope) in
    refusal_map (λ why. Elab K S aim r scope (Err why)) (λ why. Q (Err why)) c.in-Err.refusal (λ why no. OneOfTwo.right_refused why no
    (λ test. found_false _ _ c.in_ok-is_test-in_default.ensures c.if-not-branch.true (test_of_side c.args.denied r (Contains scope) test)) refl) c.in-Err.ensures

pub one_of_two-returns-in_err-plan-in_default : goal.one_of_two-returns-in_err-plan-in_default
one_of_two-returns-in_err-plan-in_default t c =
    let scope = c.args.scope.now in
    let l : Formula = tree_of c.args.l.now in
    let r : Formula = tree_of c.args.r.now in
    let K = is_causable c.args.signature.now in
    let S = is_suppressible c.args.signature.now in
    let aim = aim_where c.args.denied in
    let Q : Answer → Type 0 = OneOfTwo scope (denied_where c.args.denied l) (denied_where c.args.denied r) (Elab K S aim l scope) (Elab K S aim r scope) in
    let by = refused_by (λ why. Elab K S aim r scope (Err why)) c.in-Err.refusal c.in_default.not-NoMemory c.in-Err.ensures in
    passed_on (λ why. Elab K S aim l scope (Err why)) Q _ _ c.from_residual-in_err-plan-in_default.ensures.1 c.in_err-plan-in_default.ensures
    (λ why no. OneOfTwo.both_refused by.0 why by.1
    (side_test c.args.denied r (Contains scope) (c.in_ok-is_test-in_default.ensures.0 c.if-not-branch.false)) no refl)

pub one_of_two-returns-in_ok-test_or-in_default : goal.one_of_two-returns-in_ok-test_or-in_default
one_of_two-returns-in_ok-test_or-in_default t c =
    let scope = c.args.scope.now in
    let l : Formula = tree_of c.args.l.now in
    let r : Formula = tree_of c.args.r.now in
    let K = is_causable c.args.signature.now in
    let S = is_suppressible c.args.signature.now in
    let aim = aim_where c.args.denied in
    let Q : Answer → Type 0 = OneOfTwo scope (denied_where c.args.denied l) (denied_where c.args.denied r) (Elab K S aim l scope) (Elab K S aim r scope) in
    let by = refused_by (λ why. Elab K S aim r scope (Err why)) c.in-Err.refusal c.in_default.not-NoMemory c.in-Err.ensures in
    OneOfTwo.right_test by.0 (plan_of c.in_ok-plan-in_default.plan) by.1
    (side_test c.args.denied r (Contains scope) (c.in_ok-is_test-in_default.ensures.0 c.if-not-branch.false))
    c.in_ok-plan-in_default.ensures (ap Ok c.in_ok-test_or-in_default.ensures)

pub up_implies-returns-then-guards : goal.up_implies-returns-then-guards
up_implies-returns-then-guards t c =
    let K = is_causable c.args.signature.now in
    let S = is_suppressible c.args.signature.now in
    let g : Formula = tree_of c.args.g.now in
    let h : Formula = tree_of c.args.h.now in
    let all : List VarId = c.args.scope.now ++ c.args.xs.now in
    let Q : Answer → Type 0 = ImplicationAnswer c.args.place c.args.arrow c.args.scope.now c.args.xs.now g h (Elab K S Down g) (Elab K S Up h) in
    let made : Elab K S Up h all (Ok (plan_of c.in-Ok.plan)) =
    subst (λ (W : List VarId). Elab K S Up h W (Ok (plan_of c.in-Ok.plan))) c.in_ok-all.ensures c.in-Ok.ensures in
    ImplicationAnswer.implication_guarded (plan_of c.in-Ok.plan) made (c.in_ok-guards.ensures.0 c.if-guards.true)
    (ap Ok (c.in_ok-guarded-in-Ok.ensures ∙ ap (λ (f : Formula). plan.Guarded 0 c.args.xs.now 0 f (plan_of c.in-Ok.plan)) c.in_ok-test-in-Ok.ensures))

pub up_implies-returns-then-not-is_empty : goal.up_implies-returns-then-not-is_empty
up_implies-returns-then-not-is_empty t c =
    let K = is_causable c.args.signature.now in
    let S = is_suppressible c.args.signature.now in
    let g : Formula = tree_of c.args.g.now in
    let h : Formula = tree_of c.args.h.now in
    let all : List VarId = c.args.scope.now ++ c.args.xs.now in
    let Q : Answer → Type 0 = ImplicationAnswer c.args.place c.args.arrow c.args.scope.now c.args.xs.now g h (Elab K S Down g) (Elab K S Up h) in
    let made : Elab K S Up h all (Ok (plan_of c.in-Ok.plan)) =
    subst (λ (W : List VarId). Elab K S Up h W (Ok (plan_of c.in-Ok.plan))) c.in_ok-all.ensures c.in-Ok.ensures in
    ImplicationAnswer.implication_unguarded (plan_of c.in-Ok.plan) made (found_false _ _ c.in_ok-guards.ensures c.if-guards.false) (found_false _ _ c.is_empty.ensures c.if-not-is_empty.true) refl

pub up_implies-returns-in_err-other-in-Ok : goal.up_implies-returns-in_err-other-in-Ok
up_implies-returns-in_err-other-in-Ok t c =
    let K = is_causable c.args.signature.now in
    let S = is_suppressible c.args.signature.now in
    let g : Formula = tree_of c.args.g.now in
    let h : Formula = tree_of c.args.h.now in
    let all : List VarId = c.args.scope.now ++ c.args.xs.now in
    let Q : Answer → Type 0 = ImplicationAnswer c.args.place c.args.arrow c.args.scope.now c.args.xs.now g h (Elab K S Down g) (Elab K S Up h) in
    let made : Elab K S Up h all (Ok (plan_of c.in-Ok.plan)) =
    subst (λ (W : List VarId). Elab K S Up h W (Ok (plan_of c.in-Ok.plan))) c.in_ok-all.ensures c.in-Ok.ensures in
    passed_on (λ why. Elab K S Down g c.args.scope.now (Err why)) Q _ _ c.from_residual-in_err-other-in-Ok.ensures.1 c.in_err-other-in-Ok.ensures
    (λ why not. ImplicationAnswer.premise_refused (plan_of c.in-Ok.plan) why made (found_false _ _ c.in_ok-guards.ensures c.if-guards.false) (c.is_empty.ensures.0 c.if-not-is_empty.false) not refl)

pub up_implies-returns-in-Ok : goal.up_implies-returns-in-Ok
up_implies-returns-in-Ok t c =
    let K = is_causable c.args.signature.now in
    let S = is_suppressible c.args.signature.now in
    let g : Formula = tree_of c.args.g.now in
    let h : Formula = tree_of c.args.h.now in
    let all : List VarId = c.args.scope.now ++ c.args.xs.now in
    let Q : Answer → Type 0 = ImplicationAnswer c.args.place c.args.arrow c.args.scope.now c.args.xs.now g h (Elab K S Down g) (Elab K S Up h) in
    let made : Elab K S Up h all (Ok (plan_of c.in-Ok.plan)) =
    subst (λ (W : List VarId). Elab K S Up h W (Ok (plan_of c.in-Ok.plan))) c.in_ok-all.ensures c.in-Ok.ensures in
    ImplicationAnswer.implication_either (plan_of c.in-Ok.plan) (plan_of c.in_ok-other-in-Ok.other) made (found_false _ _ c.in_ok-guards.ensures c.if-guards.false)
    (c.is_empty.ensures.0 c.if-not-is_empty.false) c.in_ok-other-in-Ok.ensures (ap Ok c.in_ok-either-in-Ok.ensures)

pub up_implies-returns-then-not-branch : goal.up_implies-returns-then-not-branch
up_implies-returns-then-not-branch t c =
    let K = is_causable c.args.signature.now in
    let S = is_suppressible c.args.signature.now in
    let g : Formula = tree_of c.args.g.now in
    let h : Formula = tree_of c.args.h.now in
    let all : List VarId = c.args.scope.now ++ c.args.xs.now in
    let Q : Answer → Type 0 = ImplicationAnswer c.args.place c.args.arrow c.args.scope.now c.args.xs.now g h (Elab K S Down g) (Elab K S Up h) in
    let no : GivesRefusal (λ why. Elab K S Up h all (Err why)) c.in-Err.refusal =
    subst (λ (W : List VarId). GivesRefusal (λ why. Elab K S Up h W (Err why)) c.in-Err.refusal) c.in_ok-all.ensures c.in-Err.ensures in
    let told : IsTrue c.in_ok-is_test-in_default.field-0 ↔ IsTest h (Contains all) =
    subst (λ (W : List VarId). IsTrue c.in_ok-is_test-in_default.field-0 ↔ IsTest h (Contains W)) c.in_ok-all.ensures c.in_ok-is_test-in_default.ensures in
    refusal_map (λ why. Elab K S Up h all (Err why)) (λ why. Q (Err why)) c.in-Err.refusal
    (λ why not. ImplicationAnswer.conclusion_refused why not (found_false _ _ told c.if-not-branch.true) refl) no

pub up_implies-returns-in_err-plan-in_default : goal.up_implies-returns-in_err-plan-in_default
up_implies-returns-in_err-plan-in_default t c =
    let K = is_causable c.args.signature.now in
    let S = is_suppressible c.args.signature.now in
    let g : Formula = tree_of c.args.g.now in
    let h : Formula = tree_of c.args.h.now in
    let all : List VarId = c.args.scope.now ++ c.args.xs.now in
    let Q : Answer → Type 0 = ImplicationAnswer c.args.place c.args.arrow c.args.scope.now c.args.xs.now g h (Elab K S Down g) (Elab K S Up h) in
    let no : GivesRefusal (λ why. Elab K S Up h all (Err why)) c.in-Err.refusal =
    subst (λ (W : List VarId). GivesRefusal (λ why. Elab K S Up h W (Err why)) c.in-Err.refusal) c.in_ok-all.ensures c.in-Err.ensures in
    let told : IsTrue c.in_ok-is_test-in_default.field-0 ↔ IsTest h (Contains all) =
    subst (λ (W : List VarId). IsTrue c.in_ok-is_test-in_default.field-0 ↔ IsTest h (Contains W)) c.in_ok-all.ensures c.in_ok-is_test-in_default.ensures in
    let by = refused_by (λ why. Elab K S Up h all (Err why)) c.in-Err.refusal c.in_default.not-NoMemory no in
    let other : GivesRefusal (λ why. Elab K S Down g all (Err why)) c.in_err-plan-in_default.field-0.0 =
    subst (λ (W : List VarId). GivesRefusal (λ why. Elab K S Down g W (Err why)) c.in_err-plan-in_default.field-0.0) c.in_ok-all.ensures c.in_err-plan-in_default.ensures in
    passed_on (λ why. Elab K S Down g all (Err why)) Q _ _ c.from_residual-in_err-plan-in_default.ensures.1 other
    (λ why not. ImplicationAnswer.implication_refused by.0 why by.1 (told.0 c.if-not-branch.false) not refl)

pub up_implies-returns : goal.up_implies-returns
up_implies-returns t c =
    let K = is_causable c.args.signature.now in
    let S = is_suppressible c.args.signature.now in
    let g : Formula = tree_of c.args.g.now in
    let h : Formula = tree_of c.args.h.now in
    let all : List VarId = c.args.scope.now ++ c.args.xs.now in
    let Q : Answer → Type 0 = ImplicationAnswer c.args.place c.args.arrow c.args.scope.now c.args.xs.now g h (Elab K S Down g) (Elab K S Up h) in
    let no : GivesRefusal (λ why. Elab K S Up h all (Err why)) c.in-Err.refusal =
    subst (λ (W : List VarId). GivesRefusal (λ why. Elab K S Up h W (Err why)) c.in-Err.refusal) c.in_ok-all.ensures c.in-Err.ensures in
    let told : IsTrue c.in_ok-is_test-in_default.field-0 ↔ IsTest h (Contains all) =
    subst (λ (W : List VarId). IsTrue c.in_ok-is_test-in_default.field-0 ↔ IsTest h (Contains W)) c.in_ok-all.ensures c.in_ok-is_test-in_default.ensures in
    let by = refused_by (λ why. Elab K S Up h all (Err why)) c.in-Err.refusal c.in_default.not-NoMemory no in
    let false_by : Elab K S Down g all (Ok (plan_of c.in_ok-plan-in_default.plan)) =
    subst (λ (W : List VarId). Elab K S Down g W (Ok (plan_of c.in_ok-plan-in_default.plan))) c.in_ok-all.ensures c.in_ok-plan-in_default.ensures in
    answer_map (λ answer. answer ≡ test_answer c.args.place c.args.arrow c.args.xs.now c.in_ok-guards.guards g h (plan_of c.in_ok-plan-in_default.plan)) Q
    c.test_implies.result (λ answer is. tested_keeps c.args.place c.args.arrow c.args.scope.now
    c.args.xs.now g h (Elab K S Down g) (Elab K S Up h) by.0 (plan_of c.in_ok-plan-in_default.plan)
    c.in_ok-guards.guards answer c.in_ok-guards.ensures by.1 (told.0 c.if-not-branch.false)
    false_by is) c.test_implies.ensures

pub exclude-returns-in_err-plan : goal.exclude-returns-in_err-plan
exclude-returns-in_err-plan t c =
    let K = is_causable c.args.signature.now in
    let S = is_suppressible c.args.signature.now in
    let g : Formula = tree_of c.args.g.now in
    let all : List VarId = c.args.scope.now ++ c.args.xs.now in
    let no : GivesRefusal (λ why. Elab K S Down g all (Err why)) c.in_err-plan.field-0.0 =
    subst (λ (W : List VarId). GivesRefusal (λ why. Elab K S Down g W (Err why)) c.in_err-plan.field-0.0) c.in_ok-all.ensures c.in_err-plan.ensures in
    passed_on (λ why. Elab K S Down g all (Err why)) (Exclusion c.args.place c.args.scope.now c.args.xs.now g (Elab K S Down g))
    _ _ c.from_residual-in_err-plan.ensures.1 no (λ why not. Exclusion.exclusion_refused why not refl)

pub exclude-returns-then-not-branch : goal.exclude-returns-then-not-branch
exclude-returns-then-not-branch t c =
    let K = is_causable c.args.signature.now in
    let S = is_suppressible c.args.signature.now in
    let g : Formula = tree_of c.args.g.now in
    let all : List VarId = c.args.scope.now ++ c.args.xs.now in
    let made : Elab K S Down g all (Ok (plan_of c.in_ok-plan.plan)) =
    subst (λ (W : List VarId). Elab K S Down g W (Ok (plan_of c.in_ok-plan.plan))) c.in_ok-all.ensures c.in_ok-plan.ensures in
    Exclusion.exclusion_unguarded (plan_of c.in_ok-plan.plan) made (found_false _ _ c.in_ok-is_guard.ensures c.if-not-branch.true) refl

pub exclude-returns : goal.exclude-returns
exclude-returns t c =
    let K = is_causable c.args.signature.now in
    let S = is_suppressible c.args.signature.now in
    let g : Formula = tree_of c.args.g.now in
    let all : List VarId = c.args.scope.now ++ c.args.xs.now in
    let made : Elab K S Down g all (Ok (plan_of c.in_ok-plan.plan)) =
    subst (λ (W : List VarId). Elab K S Down g W (Ok (plan_of c.in_ok-plan.plan))) c.in_ok-all.ensures c.in_ok-plan.ensures in
    Exclusion.exclusion_guarded (plan_of c.in_ok-plan.plan) made (c.in_ok-is_guard.ensures.0 c.if-not-branch.false)
    (ap Ok (c.in_ok-guarded.ensures ∙ ap (λ (f : Formula). plan.Guarded 0 c.args.xs.now 0 f (plan_of c.in_ok-plan.plan)) c.in_ok-test.ensures))
