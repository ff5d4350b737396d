use Rattle.choice_step.proofs.Vocabulary.{⊎_elim, subst, arith, slice_get, cases_lt, HasNoneOf}
use Rattle.choice_step.proofs.rule_triggers.Wakes.next_by_rule.Goals as goal

pub loop-rule-preserved : goal.loop-rule-preserved
loop-rule-preserved c =
    let was = c.loop-rule.invariant in (
      omega (arith, was.0),
      λ r low high. ⊎_elim (λ lt. was.1 r low lt)
          (λ le. subst (λ n. HasNoneOf (slice_get c.args.self.now n) c.args.events.now) {x = c.loop-rule.rule} {y = r} (omega (arith, high, le)) (c.sleeps.ensures c.if-sleeps.true))
          (cases_lt r c.loop-rule.rule),
    )
