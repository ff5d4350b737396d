use Rattle.std.proofs.lemmas.List.{get_or_default}
use Rattle.choice_step.proofs.Vocabulary.{inr, ◌≤◌, ℕ, All, get_or, take, subst, arith, take_all, All-contains, All-more, All-weaker}
use Rattle.choice_step.proofs.woken_rules.least_from.Goals.{then-rule-from-via-then-rule-from, then-rule-from-via-else-rule-from+then-least-rule}
use Rattle.choice_step.proofs.woken_rules.least_from.Goals as goal

-- the number is at most the rule, where that is one from the first on
abbrev AtMost : (from least : ℕ) → ℕ → Type 0
AtMost from least rule = from ≤ rule → least ≤ rule

pub loop-rule-preserved-then-rule-from : goal.loop-rule-preserved-then-rule-from
loop-rule-preserved-then-rule-from c =
    let was = c.loop-rule.invariant in (
      was.0,
      was.1,
      All-more (AtMost c.args.from c.loop-rule.least) c.args.rules.now c.loop-rule.rule-index 0 c.loop-rule-test.true was.2
          (λ le. elim c.then-rule-from.branch [
            | then-rule-from-via-then-rule-from w ↦ absurd (omega (arith, w.if-rule-from.true, le))
            | then-rule-from-via-else-rule-from+then-least-rule w ↦ w.if-least-rule.true
          ]),
      was.3,
    )

pub loop-rule-preserved : goal.loop-rule-preserved
loop-rule-preserved c =
    let was = c.loop-rule.invariant in
    let from = c.args.from in
    let least = (get_or c.args.rules.now c.loop-rule.rule-index 0) in (
      c.if-rule-from.false,
      omega (arith, c.if-least-rule.false, was.1),
      All-more (AtMost from least) c.args.rules.now c.loop-rule.rule-index 0 c.loop-rule-test.true
          (All-weaker (AtMost from c.loop-rule.least) (AtMost from least) (λ rule at le. omega (arith, c.if-least-rule.false, at le)) (take c.loop-rule.rule-index c.args.rules.now) was.2)
          (λ le. omega arith),
      inr (c.loop-rule.rule-index, c.loop-rule-test.true, get_or_default c.args.rules.now c.loop-rule.rule-index least 0 c.loop-rule-test.true),
    )

pub returns-clause-least : goal.returns-clause-least
returns-clause-least c rule there =
    All-contains (AtMost c.args.from c.loop-rule.least) c.args.rules.now rule
    (subst (All (AtMost c.args.from c.loop-rule.least)) (take_all c.loop-rule.rule-index c.args.rules.now c.loop-rule-test.false) c.loop-rule.invariant.2) there
