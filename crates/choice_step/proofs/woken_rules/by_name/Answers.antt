use Rattle.choice_step.proofs.Vocabulary.{rules, ◌≡◌, ◌∙◌, ◌<◌, ◌++◌, List, None, Some, Contains, length, map, sym, subst, ap, arith, slice_get, option_map, always_returns_same, length-map}
use Rattle.choice_step.proofs.Vocabulary.{Contains-append_left, Contains-append_right, Contains-permutation, none-some, same_Some, Contains-map, NameId, woken_number, woken_by}
use Rattle.choice_step.proofs.WokenRuleLemmas.{listed, one_more, within_from}
use Rattle.choice_step.proofs.woken_rules.by_name.Goals as goal

pub loop-rule-preserved-in_default : goal.loop-rule-preserved-in_default
loop-rule-preserved-in_default c =
    let wakes = c.args.wakes.now in
    let x = c.index-wakes-rule.result in
    one_more (λ r. (names : List NameId) (name : NameId) → slice_get (map (option_map (λ names. names.items)) wakes) r ≡ Some (Some names) → Contains names name
    → Contains c.loop-rule.woken.items (woken_by r name)) c.loop-rule.rule
    c.loop-rule.invariant
    (λ names name is there. absurd (none-some names (same_Some None (Some names)
    (sym (listed (λ names. names.items) wakes c.loop-rule.rule x c.loop-rule-test.true c.index-wakes-rule.is ∙ ap (λ o. Some (option_map (λ names. names.items) o)) c.in_default.is) ∙ is))))

pub loop-rule-preserved : goal.loop-rule-preserved
loop-rule-preserved c =
    let wakes = c.args.wakes.now in
    let rule = c.loop-rule.rule in
    let old = c.loop-rule.woken.items in
    let own = c.in-Some.names.items in
    let added = map (woken_by rule) own in
    let pushed : c.push_woken.new.out.items ≡ old ++ added = c.in_ok-push_woken.ensures ∙ ap (λ l. old ++ map (woken_by rule) l) c.as_slice.ensures.value in
    let at = listed (λ names. names.items) wakes rule c.index-wakes-rule.result c.loop-rule-test.true c.index-wakes-rule.is
    ∙ ap (λ o. Some (option_map (λ names. names.items) o)) c.in-Some.is in
    one_more (λ r. (names : List NameId) (name : NameId) → slice_get (map (option_map (λ names. names.items)) wakes) r ≡ Some (Some names) → Contains names name
    → Contains c.push_woken.new.out.items (woken_by r name)) rule
    (λ r lt names name is there. subst (λ l. Contains l (woken_by r name)) (sym pushed) (Contains-append_left old added (woken_by r name) (c.loop-rule.invariant r lt names name is there)))
    (λ names name is there.
    let same : own ≡ names = same_Some own names (same_Some (Some own) (Some names) (sym at ∙ is)) in
    subst (λ l. Contains l (woken_by rule name)) (sym pushed) (Contains-append_right old added (woken_by rule name)
    (Contains-map (woken_by rule) own name (subst (λ l. Contains l name) (sym same) there))))

pub returns-clause-order : goal.returns-clause-order
returns-clause-order c = c.sort_unstable_by_key.ensures.sorted woken_number (always_returns_same _ _ _ (λ a r q k. search rules))

pub returns-clause-all : goal.returns-clause-all
returns-clause-all c rule names name is there =
    let all = map (option_map (λ names. names.items)) c.args.wakes.now in
    let within : rule < length all = within_from all rule (Some names) is in
    Contains-permutation c.loop-rule.woken.items _ (woken_by rule name) c.sort_unstable_by_key.ensures.permutation
    (c.loop-rule.invariant rule (omega (arith, within, length-map c.args.wakes.now (option_map (λ names. names.items)), c.loop-rule-test.false)) names name is there)
