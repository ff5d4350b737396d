use Rattle.obligations.proofs.Vocabulary.{IsTrue, sym, subst, ◌∙◌, true≢false, AllByRecursion, AllByRecursion-append, nodes, plan_of, IsPlain}
use Rattle.std.proofs.Common.{◌↔◌}
use Rattle.obligations.proofs.SoundnessLemmas.{all_left, all_right}
use Rattle.obligations.proofs.plain_plans.+is_plain.Goals as goal

pub returns-then-is_plain : goal.returns-then-is_plain
returns-then-is_plain t c =
    let l = plan_of c.in-Both.left.value in
    let r = plan_of c.in-Both.right.value in
    let left = subst (λ p. IsTrue c.is_plain.result ↔ AllByRecursion IsPlain (nodes (plan_of p))) c.deref.ensures c.is_plain.ensures in
    let right = subst (λ p. IsTrue c.is_plain-then-is_plain.result ↔ AllByRecursion IsPlain (nodes (plan_of p))) c.deref-then-is_plain.ensures c.is_plain-then-is_plain.ensures in
    subst (λ p. IsTrue c.is_plain-then-is_plain.result ↔ AllByRecursion IsPlain (nodes (plan_of p))) (sym c.in-Both.is) (
      (λ yes. (tt, AllByRecursion-append IsPlain (nodes l) (nodes r) (left.0 c.if-is_plain.true) (right.0 yes))),
      (λ all. right.1 (all_right IsPlain (nodes l) (nodes r) all.1)),
    )

pub returns-else-is_plain : goal.returns-else-is_plain
returns-else-is_plain t c =
    let l = plan_of c.in-Both.left.value in
    let r = plan_of c.in-Both.right.value in
    let left = subst (λ p. IsTrue c.is_plain.result ↔ AllByRecursion IsPlain (nodes (plan_of p))) c.deref.ensures c.is_plain.ensures in
    subst (λ p. IsTrue c.is_plain.result ↔ AllByRecursion IsPlain (nodes (plan_of p))) (sym c.in-Both.is) (
      (λ yes. absurd (true≢false (sym yes ∙ c.if-is_plain.false))),
      (λ all. left.1 (all_left IsPlain (nodes l) (nodes r) all.1)),
    )
