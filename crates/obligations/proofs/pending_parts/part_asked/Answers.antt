use Rattle.obligations.proofs.Vocabulary.{◌∙◌, sym, subst, true≢false, false, plan_of, EventuallyPlan, AlwaysPlan, UntilPlan, NextPlan, TellsNothing, CanAskPlan, guards_now, AsksPart}
use Rattle.obligations.proofs.PartLemmas.{asks_always, asks_eventually, asks_left, asks_next, asks_right, not_there, told_right}
use Rattle.obligations.proofs.pending_parts.part_asked.Goals.{else-in_window-2-via-then-in_window-2+in_ok-misses_nothing-in-Until+else-branch, else-in_window-2-via-else-in_window-2}
use Rattle.obligations.proofs.pending_parts.part_asked.Goals as goal

pub returns-then-forced : goal.returns-then-forced
returns-then-forced c =
    subst (λ p. AsksPart c.args.now.now (plan_of p) c.args.instance.now c.args.forced (plan_of c.deref-then-forced.result.now)) (sym c.in-Eventually.is)
    (subst (λ b. AsksPart c.args.now.now (EventuallyPlan c.in-Eventually.node c.in-Eventually.place c.in-Eventually.low c.in-Eventually.high (plan_of c.in-Eventually.body.value))
    c.args.instance.now c.args.forced (plan_of b)) (sym c.deref-then-forced.ensures)
    (asks_eventually c.args.now.now c.args.instance.now c.in-Eventually.node c.in-Eventually.place c.in-Eventually.low c.in-Eventually.high (plan_of c.in-Eventually.body.value)
    (subst (λ p. CanAskPlan (guards_now c.args.now.now) (plan_of p) c.args.instance.now.valuation) c.in-Eventually.is c.requires.can) c.args.forced c.if-forced.true))

pub returns-then-in_window : goal.returns-then-in_window
returns-then-in_window c =
    subst (λ p. AsksPart c.args.now.now (plan_of p) c.args.instance.now c.args.forced (plan_of c.deref-then-in_window.result.now)) (sym c.in-Always.is)
    (subst (λ b. AsksPart c.args.now.now (AlwaysPlan c.in-Always.node c.in-Always.place c.in-Always.low c.in-Always.high (plan_of c.in-Always.body.value)) c.args.instance.now
    c.args.forced (plan_of b)) (sym c.deref-then-in_window.ensures)
    (asks_always c.args.now.now c.args.instance.now c.in-Always.node c.in-Always.place c.in-Always.low c.in-Always.high (plan_of c.in-Always.body.value)
    (subst (λ p. CanAskPlan (guards_now c.args.now.now) (plan_of p) c.args.instance.now.valuation) c.in-Always.is c.requires.can) c.args.forced
    (c.is_in_window-in_window.ensures.0 c.if-in_window.true)))

pub returns-then-forced-2 : goal.returns-then-forced-2
returns-then-forced-2 c =
    subst (λ p. AsksPart c.args.now.now (plan_of p) c.args.instance.now c.args.forced (plan_of c.deref-then-forced-2.result.now)) (sym c.in-Until.is)
    (subst (λ b. AsksPart c.args.now.now (UntilPlan c.in-Until.node c.in-Until.place c.in-Until.low c.in-Until.high (plan_of c.in-Until.left.value) (plan_of c.in-Until.right.value))
    c.args.instance.now c.args.forced (plan_of b)) (sym c.deref-then-forced-2.ensures)
    (asks_right c.args.now.now c.args.instance.now c.in-Until.node c.in-Until.place c.in-Until.low c.in-Until.high (plan_of c.in-Until.left.value) (plan_of c.in-Until.right.value)
    (subst (λ p. CanAskPlan (guards_now c.args.now.now) (plan_of p) c.args.instance.now.valuation) c.in-Until.is c.requires.can) (elim c.else-in_window-2.branch [
      | else-in_window-2-via-then-in_window-2+in_ok-misses_nothing-in-Until+else-branch w ↦ told_right c.args.now.now c.args.instance.now (plan_of c.in-Until.right.value)
          (subst (λ p. TellsNothing c.args.now.now (plan_of p) c.args.instance.now.valuation false) w.deref-then-in_window-2.ensures
          (subst (λ b. TellsNothing c.args.now.now (plan_of w.deref-then-in_window-2.result.now) c.args.instance.now.valuation b) w.if-branch.false
          w.in_ok-misses_nothing-in-Until.ensures))
      | else-in_window-2-via-else-in_window-2 w ↦ not_there c.args.now.now c.args.instance.now (plan_of c.in-Until.right.value)
          (λ within. true≢false (sym (c.is_in_window-in_window.ensures.1 within) ∙ w.if-in_window-2.false))
    ]) c.args.forced c.if-forced-2.true))

pub returns-in-Next : goal.returns-in-Next
returns-in-Next c =
    subst (λ p. AsksPart c.args.now.now (plan_of p) c.args.instance.now c.args.forced (plan_of c.deref.result.now)) (sym c.in-Next.is)
    (subst (λ b. AsksPart c.args.now.now (NextPlan c.in-Next.node c.in-Next.place c.in-Next.high (plan_of c.in-Next.body.value)) c.args.instance.now c.args.forced (plan_of b))
    (sym c.deref.ensures)
    (asks_next c.args.now.now c.args.instance.now c.in-Next.node c.in-Next.place c.in-Next.high (plan_of c.in-Next.body.value)
    (subst (λ p. CanAskPlan (guards_now c.args.now.now) (plan_of p) c.args.instance.now.valuation) c.in-Next.is c.requires.can) c.args.forced))

pub returns-else-forced-2 : goal.returns-else-forced-2
returns-else-forced-2 c =
    subst (λ p. AsksPart c.args.now.now (plan_of p) c.args.instance.now c.args.forced (plan_of c.deref-in-Until.result.now)) (sym c.in-Until.is)
    (subst (λ b. AsksPart c.args.now.now (UntilPlan c.in-Until.node c.in-Until.place c.in-Until.low c.in-Until.high (plan_of c.in-Until.left.value) (plan_of c.in-Until.right.value))
    c.args.instance.now c.args.forced (plan_of b)) (sym c.deref-in-Until.ensures)
    (asks_left c.args.now.now c.args.instance.now c.in-Until.node c.in-Until.place c.in-Until.low c.in-Until.high (plan_of c.in-Until.left.value) (plan_of c.in-Until.right.value)
    (subst (λ p. CanAskPlan (guards_now c.args.now.now) (plan_of p) c.args.instance.now.valuation) c.in-Until.is c.requires.can) (elim c.else-in_window-2.branch [
      | else-in_window-2-via-then-in_window-2+in_ok-misses_nothing-in-Until+else-branch w ↦ told_right c.args.now.now c.args.instance.now (plan_of c.in-Until.right.value)
          (subst (λ p. TellsNothing c.args.now.now (plan_of p) c.args.instance.now.valuation false) w.deref-then-in_window-2.ensures
          (subst (λ b. TellsNothing c.args.now.now (plan_of w.deref-then-in_window-2.result.now) c.args.instance.now.valuation b) w.if-branch.false
          w.in_ok-misses_nothing-in-Until.ensures))
      | else-in_window-2-via-else-in_window-2 w ↦ not_there c.args.now.now c.args.instance.now (plan_of c.in-Until.right.value)
          (λ within. true≢false (sym (c.is_in_window-in_window.ensures.1 within) ∙ w.if-in_window-2.false))
    ]) c.args.forced c.if-forced-2.false))
