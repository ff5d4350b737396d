-- One number after the other.
use Rattle.save_codec.proofs.Vocabulary.{◌≡◌, ◌++◌, Some, ap, codes, arith, ◌∙◌, spaced}
use Rattle.save_codec.proofs.cursor.Cursor.due_numbers.Goals as goal

pub returns-in_err-node-clause-again : goal.returns-in_err-node-clause-again
returns-in_err-node-clause-again c = λ rule node origin low high rest small ends e.
    let r0 = c.numbered.ensures.again rule (spaced node ++ (spaced origin ++ (spaced low ++ (spaced high ++ rest)))) small.0 (λ first last. omega arith) e in
    let r1 = c.spaced.ensures.again node (spaced origin ++ (spaced low ++ (spaced high ++ rest))) small.1 (λ first last. omega arith) r0.1 in
    absurd (cc (r1.0, c.in_err-node.was))

pub returns-in_err-origin-clause-again : goal.returns-in_err-origin-clause-again
returns-in_err-origin-clause-again c = λ rule node origin low high rest small ends e.
    let r0 = c.numbered.ensures.again rule (spaced node ++ (spaced origin ++ (spaced low ++ (spaced high ++ rest)))) small.0 (λ first last. omega arith) e in
    let r1 = c.spaced.ensures.again node (spaced origin ++ (spaced low ++ (spaced high ++ rest))) small.1 (λ first last. omega arith) r0.1 in
    let r2 = c.spaced-2.ensures.again origin (spaced low ++ (spaced high ++ rest)) small.2 (λ first last. omega arith) r1.1 in
    absurd (cc (r2.0, c.in_err-origin.was))

pub returns-in_err-low-clause-again : goal.returns-in_err-low-clause-again
returns-in_err-low-clause-again c = λ rule node origin low high rest small ends e.
    let r0 = c.numbered.ensures.again rule (spaced node ++ (spaced origin ++ (spaced low ++ (spaced high ++ rest)))) small.0 (λ first last. omega arith) e in
    let r1 = c.spaced.ensures.again node (spaced origin ++ (spaced low ++ (spaced high ++ rest))) small.1 (λ first last. omega arith) r0.1 in
    let r2 = c.spaced-2.ensures.again origin (spaced low ++ (spaced high ++ rest)) small.2 (λ first last. omega arith) r1.1 in
    let r3 = c.spaced-3.ensures.again low (spaced high ++ rest) small.3 (λ first last. omega arith) r2.1 in
    absurd (cc (r3.0, c.in_err-low.was))

pub returns-in_err-high-clause-again : goal.returns-in_err-high-clause-again
returns-in_err-high-clause-again c = λ rule node origin low high rest small ends e.
    let r0 = c.numbered.ensures.again rule (spaced node ++ (spaced origin ++ (spaced low ++ (spaced high ++ rest)))) small.0 (λ first last. omega arith) e in
    let r1 = c.spaced.ensures.again node (spaced origin ++ (spaced low ++ (spaced high ++ rest))) small.1 (λ first last. omega arith) r0.1 in
    let r2 = c.spaced-2.ensures.again origin (spaced low ++ (spaced high ++ rest)) small.2 (λ first last. omega arith) r1.1 in
    let r3 = c.spaced-3.ensures.again low (spaced high ++ rest) small.3 (λ first last. omega arith) r2.1 in
    let r4 = c.spaced-4.ensures.again high rest small.4 ends r3.1 in
    absurd (cc (r4.0, c.in_err-high.was))

pub returns-clause-told : goal.returns-clause-told
returns-clause-told c =
    let r0 = rw c.in_ok-rule.was at c.numbered.ensures.told in
    let r1 = rw c.in_ok-node.was at c.spaced.ensures.told in
    let r2 = rw c.in_ok-origin.was at c.spaced-2.ensures.told in
    let r3 = rw c.in_ok-low.was at c.spaced-3.ensures.told in
    let r4 = rw c.in_ok-high.was at c.spaced-4.ensures.told in (
      (r0.0, r1.0, r2.0, r3.0, r4.0),
      r0.1
          ∙ ap (λ l. codes "due" ++ (spaced c.in_ok-rule.rule ++ l)) (r1.1 ∙ ap (λ l. spaced c.in_ok-node.node ++ l) (r2.1
          ∙ ap (λ l. spaced c.in_ok-origin.origin ++ l) (r3.1 ∙ ap (λ l. spaced c.in_ok-low.low ++ l) r4.1))),
    )

pub returns-clause-again : goal.returns-clause-again
returns-clause-again c = λ rule node origin low high rest small ends e.
    let r0 = c.numbered.ensures.again rule (spaced node ++ (spaced origin ++ (spaced low ++ (spaced high ++ rest)))) small.0 (λ first last. omega arith) e in
    let r1 = c.spaced.ensures.again node (spaced origin ++ (spaced low ++ (spaced high ++ rest))) small.1 (λ first last. omega arith) r0.1 in
    let r2 = c.spaced-2.ensures.again origin (spaced low ++ (spaced high ++ rest)) small.2 (λ first last. omega arith) r1.1 in
    let r3 = c.spaced-3.ensures.again low (spaced high ++ rest) small.3 (λ first last. omega arith) r2.1 in
    let r4 = c.spaced-4.ensures.again high rest small.4 ends r3.1 in
    let n0 : c.in_ok-rule.rule ≡ rule = cc (r0.0, c.in_ok-rule.was) in
    let n1 : c.in_ok-node.node ≡ node = cc (r1.0, c.in_ok-node.was) in
    let n2 : c.in_ok-origin.origin ≡ origin = cc (r2.0, c.in_ok-origin.was) in
    let n3 : c.in_ok-low.low ≡ low = cc (r3.0, c.in_ok-low.was) in
    let n4 : c.in_ok-high.high ≡ high = cc (r4.0, c.in_ok-high.was) in
    (λ i. Some (n0 i, n1 i, n2 i, n3 i, n4 i), r4.1)
