use Rattle.choice_step.proofs.Vocabulary.{◌≡◌, ◌∙◌, ◌<◌, [], ◌∷◌, None, Some, Contains, length, map, sym, subst, arith, slice_get, option_map, length-map, Contains-append_left, Contains-push}
use Rattle.choice_step.proofs.Vocabulary.{same_Some}
use Rattle.choice_step.proofs.WokenRuleLemmas.{listed, not_none, one_more, within_from}
use Rattle.choice_step.proofs.woken_rules.always_awake.Goals as goal

pub loop-rule-preserved-then-is_some : goal.loop-rule-preserved-then-is_some
loop-rule-preserved-then-is_some c =
    let wakes = c.args.wakes.now in
    let x = c.index-wakes-rule.result in
    one_more (λ r. slice_get (map (option_map (λ names. names.items)) wakes) r ≡ Some None → Contains c.loop-rule.rules.items r) c.loop-rule.rule
    c.loop-rule.invariant
    (λ is. absurd (not_none (λ names. names.items) x (sym c.is_some.ensures ∙ c.if-is_some.true)
    (same_Some _ _ (sym (listed (λ names. names.items) wakes c.loop-rule.rule x c.loop-rule-test.true c.index-wakes-rule.is) ∙ is))))

pub loop-rule-preserved : goal.loop-rule-preserved
loop-rule-preserved c =
    let old = c.loop-rule.rules.items in
    let rule = c.loop-rule.rule in
    one_more (λ r. slice_get (map (option_map (λ names. names.items)) c.args.wakes.now) r ≡ Some None → Contains c.push.new.self.items r) rule
    (λ r lt is. subst (λ l. Contains l r) (sym c.in_ok-push.ensures.items) (Contains-append_left old (rule ∷ []) r (c.loop-rule.invariant r lt is)))
    (λ is. subst (λ l. Contains l rule) (sym c.in_ok-push.ensures.items) (Contains-push old rule))

pub returns : goal.returns
returns c rule is =
    let all = map (option_map (λ names. names.items)) c.args.wakes.now in
    let within : rule < length all = within_from all rule None is in
    c.loop-rule.invariant rule (omega (arith, within, length-map c.args.wakes.now (option_map (λ names. names.items)), c.loop-rule-test.false)) is
