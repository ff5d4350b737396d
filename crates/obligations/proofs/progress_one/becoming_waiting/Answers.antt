use Rattle.obligations.proofs.Vocabulary.{◌∙◌, Some, sym, subst, true≢false, false, true, plan_of, EventuallyPlan, AlwaysPlan, UntilPlan, NextPlan, TellsNothing, CanAskPlan, guards_now, WillBecome}
use Rattle.obligations.proofs.PartLemmas.{not_there, told_right}
use Rattle.obligations.proofs.ProgressLemmas.{turns_always, turns_eventually, turns_left, turns_next, turns_right}
use Rattle.obligations.proofs.progress_one.becoming_waiting.Goals.{else-in_window-3-via-then-in_window-3+in_ok-misses_nothing-in-Until+else-branch-2, else-in_window-3-via-else-in_window-3}
use Rattle.obligations.proofs.progress_one.becoming_waiting.Goals as goal

pub returns-in-Next : goal.returns-in-Next
returns-in-Next c =
    subst (λ p. WillBecome c.args.now.now (plan_of p) c.args.instance.now false false (Some (plan_of c.deref.result.now))) (sym c.in-Next.is)
    (subst (λ b. WillBecome c.args.now.now (NextPlan c.in-Next.node c.in-Next.place c.in-Next.high (plan_of c.in-Next.body.value)) c.args.instance.now false false (Some (plan_of b)))
    (sym c.deref.ensures)
    (turns_next c.args.now.now c.args.instance.now c.in-Next.node c.in-Next.place c.in-Next.high (plan_of c.in-Next.body.value)
    (subst (λ p. CanAskPlan (guards_now c.args.now.now) (plan_of p) c.args.instance.now.valuation) c.in-Next.is c.requires.can)))

pub returns-then-branch : goal.returns-then-branch
returns-then-branch c =
    let e = c.in-Eventually in
    let node = EventuallyPlan e.node e.place e.low e.high (plan_of e.body.value) in
    subst (λ p. WillBecome c.args.now.now (plan_of p) c.args.instance.now false false (Some (plan_of c.deref-then-branch.result.now))) (sym e.is)
    (subst (λ b. WillBecome c.args.now.now node c.args.instance.now false false (Some (plan_of b))) (sym c.deref-then-branch.ensures)
    (turns_eventually c.args.now.now c.args.instance.now e.node e.place e.low e.high (plan_of e.body.value)
    (subst (λ p. CanAskPlan (guards_now c.args.now.now) (plan_of p) c.args.instance.now.valuation) e.is c.requires.can)
    (c.is_in_window-in_window.ensures.0 c.if-in_window.true)
    (subst (λ p. TellsNothing c.args.now.now (plan_of p) c.args.instance.now.valuation true) c.deref-then-in_window.ensures
    (subst (TellsNothing c.args.now.now (plan_of c.deref-then-in_window.result.now) c.args.instance.now.valuation) c.if-branch.true c.in_ok-misses_nothing-in-Eventually.ensures))))

pub returns-then-in_window-2 : goal.returns-then-in_window-2
returns-then-in_window-2 c =
    let a = c.in-Always in
    subst (λ p. WillBecome c.args.now.now (plan_of p) c.args.instance.now false true (Some (plan_of c.deref-then-in_window-2.result.now))) (sym a.is)
    (subst (λ b. WillBecome c.args.now.now (AlwaysPlan a.node a.place a.low a.high (plan_of a.body.value)) c.args.instance.now false true (Some (plan_of b)))
    (sym c.deref-then-in_window-2.ensures)
    (turns_always c.args.now.now c.args.instance.now a.node a.place a.low a.high (plan_of a.body.value)
    (subst (λ p. CanAskPlan (guards_now c.args.now.now) (plan_of p) c.args.instance.now.valuation) a.is c.requires.can)
    (c.is_in_window-in_window.ensures.0 c.if-in_window-2.true)))

pub returns-then-branch-2 : goal.returns-then-branch-2
returns-then-branch-2 c =
    let u = c.in-Until in
    let node = UntilPlan u.node u.place u.low u.high (plan_of u.left.value) (plan_of u.right.value) in
    subst (λ p. WillBecome c.args.now.now (plan_of p) c.args.instance.now false false (Some (plan_of c.deref-then-branch-2.result.now))) (sym u.is)
    (subst (λ b. WillBecome c.args.now.now node c.args.instance.now false false (Some (plan_of b))) (sym c.deref-then-branch-2.ensures)
    (turns_right c.args.now.now c.args.instance.now u.node u.place u.low u.high (plan_of u.left.value) (plan_of u.right.value)
    (subst (λ p. CanAskPlan (guards_now c.args.now.now) (plan_of p) c.args.instance.now.valuation) u.is c.requires.can)
    (c.is_in_window-in_window.ensures.0 c.if-in_window-3.true)
    (subst (λ p. TellsNothing c.args.now.now (plan_of p) c.args.instance.now.valuation true) c.deref-then-in_window-3.ensures
    (subst (TellsNothing c.args.now.now (plan_of c.deref-then-in_window-3.result.now) c.args.instance.now.valuation) c.if-branch-2.true c.in_ok-misses_nothing-in-Until.ensures))))

pub returns-else-in_window-3 : goal.returns-else-in_window-3
returns-else-in_window-3 c =
    let u = c.in-Until in
    let node = UntilPlan u.node u.place u.low u.high (plan_of u.left.value) (plan_of u.right.value) in
    subst (λ p. WillBecome c.args.now.now (plan_of p) c.args.instance.now false true (Some (plan_of c.deref-in-Until.result.now))) (sym u.is)
    (subst (λ b. WillBecome c.args.now.now node c.args.instance.now false true (Some (plan_of b))) (sym c.deref-in-Until.ensures)
    (turns_left c.args.now.now c.args.instance.now u.node u.place u.low u.high (plan_of u.left.value) (plan_of u.right.value)
    (subst (λ p. CanAskPlan (guards_now c.args.now.now) (plan_of p) c.args.instance.now.valuation) u.is c.requires.can)
    (elim c.else-in_window-3.branch [
      | else-in_window-3-via-then-in_window-3+in_ok-misses_nothing-in-Until+else-branch-2 w ↦ told_right c.args.now.now c.args.instance.now (plan_of u.right.value)
          (subst (λ p. TellsNothing c.args.now.now (plan_of p) c.args.instance.now.valuation false) w.deref-then-in_window-3.ensures
          (subst (TellsNothing c.args.now.now (plan_of w.deref-then-in_window-3.result.now) c.args.instance.now.valuation) w.if-branch-2.false w.in_ok-misses_nothing-in-Until.ensures))
      | else-in_window-3-via-else-in_window-3 w ↦ not_there c.args.now.now c.args.instance.now (plan_of u.right.value)
          (λ within. true≢false (sym (c.is_in_window-in_window.ensures.1 within) ∙ w.if-in_window-3.false))
    ])))
