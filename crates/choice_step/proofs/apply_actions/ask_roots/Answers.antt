use Rattle.choice_step.proofs.Vocabulary.{◌≡◌, ◌∙◌, Contains, IsUnmovedIn, Some, arith, inl, inr, map, plan_at, plan_of, same_Some, situation_plans, slice_get, subst, sym, ⊎_elim, length-map}
use Rattle.std.proofs.lemmas.Option.{slice_get_within}
use Rattle.sleepers.proofs.NotedGroupLemmas.{below_next}
use Rattle.choice_step.proofs.apply_actions.ask_roots.Goals as goal

pub loop-rule-preserved-then-is_unmoved : goal.loop-rule-preserved-then-is_unmoved
loop-rule-preserved-then-is_unmoved c =
    let was = c.loop-rule.invariant in
    let at = c.loop-rule.rule in
    let plans = c.args.situation.now.plans.now in (
      was.0,
      was.1,
      was.2,
      was.3,
      λ rule plan there below. ⊎_elim (λ less. was.4 rule plan there less)
          (λ (same : rule ≡ at). inr (subst (IsUnmovedIn c.args.kind c.args.name)
          (same_Some (plan_of c.index-plans-rule.result) plan
          (sym (plan_at plans at c.index-plans-rule.result c.loop-rule-test.true c.index-plans-rule.is) ∙ subst (λ n. slice_get (map plan_of plans) n ≡ Some plan) same there))
          (c.is_unmoved.ensures c.if-is_unmoved.true)))
          (below_next rule at below),
    )

pub loop-rule-preserved : goal.loop-rule-preserved
loop-rule-preserved c =
    let was = c.loop-rule.invariant in
    let at = c.loop-rule.rule in
    let again = c.ask_again.ensures in (
      again.asking ∙ was.0,
      again.from ∙ was.1,
      again.roused ∙ was.2,
      λ rule there. again.kept rule (was.3 rule there),
      λ rule plan there below. ⊎_elim
          (λ less. ⊎_elim (λ asked. inl (again.kept rule asked)) (λ unmoved. inr unmoved) (was.4 rule plan there less))
          (λ (same : rule ≡ at). inl (subst (Contains c.ask_again.new.self.again.items) (sym same) c.in_ok-ask_again.ensures.has))
          (below_next rule at below),
    )

pub returns-then-rule-unasked-clause-moved : goal.returns-then-rule-unasked-clause-moved
returns-then-rule-unasked-clause-moved c rule plan there below =
    c.loop-rule.invariant.4 rule plan there (omega (arith, below, c.if-rule-unasked.true, c.loop-rule.invariant.1))

pub returns-clause-moved : goal.returns-clause-moved
returns-clause-moved c rule plan there below =
    c.loop-rule.invariant.4 rule plan there
    (omega (arith, slice_get_within (situation_plans c.args.situation.now) rule plan there, length-map c.args.situation.now.plans.now plan_of, c.loop-rule-test.false))
