use Rattle.choice_step.proofs.Vocabulary.{◌≤◌, ℕ, All, get_or, take, subst, arith, take_all, All-contains, All-more, All-weaker, Woken}
use Rattle.choice_step.proofs.woken_rules.least_woken.Goals.{then-entry-from-via-then-entry-from, then-entry-from-via-else-entry-from+then-least-entry}
use Rattle.choice_step.proofs.woken_rules.least_woken.Goals as goal

-- the number is at most the rule, where that is one from the first on
abbrev AtMost : (from least : ℕ) → Woken → Type 0
AtMost from least entry = from ≤ entry.rule → least ≤ entry.rule

pub loop-entry-preserved-then-entry-from : goal.loop-entry-preserved-then-entry-from
loop-entry-preserved-then-entry-from c =
    let was = c.loop-entry.invariant in (
      was.0,
      was.1,
      All-more (AtMost c.args.from c.loop-entry.least) c.args.woken.now c.loop-entry.entry-index (record { name = record { 0 = 0 }; rule = 0 }) c.loop-entry-test.true was.2
          (λ le. elim c.then-entry-from.branch [
            | then-entry-from-via-then-entry-from w ↦ absurd (omega (arith, w.if-entry-from.true, le))
            | then-entry-from-via-else-entry-from+then-least-entry w ↦ w.if-least-entry.true
          ]),
    )

pub loop-entry-preserved : goal.loop-entry-preserved
loop-entry-preserved c =
    let was = c.loop-entry.invariant in
    let from = c.args.from in
    let least = (get_or c.args.woken.now c.loop-entry.entry-index (record { name = record { 0 = 0 }; rule = 0 })).rule in (
      c.if-entry-from.false,
      omega (arith, c.if-least-entry.false, was.1),
      All-more (AtMost from least) c.args.woken.now c.loop-entry.entry-index (record { name = record { 0 = 0 }; rule = 0 }) c.loop-entry-test.true
          (All-weaker (AtMost from c.loop-entry.least) (AtMost from least) (λ entry at le. omega (arith, c.if-least-entry.false, at le)) (take c.loop-entry.entry-index c.args.woken.now) was.2)
          (λ le. omega arith),
    )

pub returns-clause-least : goal.returns-clause-least
returns-clause-least c entry there =
    All-contains (AtMost c.args.from c.loop-entry.least) c.args.woken.now entry
    (subst (All (AtMost c.args.from c.loop-entry.least)) (take_all c.loop-entry.entry-index c.args.woken.now c.loop-entry-test.false) c.loop-entry.invariant.2) there
