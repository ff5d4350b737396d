use Rattle.choice_step.proofs.Vocabulary.{List, Option, ap, map, subst, ◌∙◌, option_map, take_all, NameId, AllSleep}
use Rattle.choice_step.proofs.IdleStepLemmas.{sleep_more}
use Rattle.choice_step.proofs.rule_triggers.Wakes.all_sleep.Goals as goal

pub loop-names-preserved : goal.loop-names-preserved
loop-names-preserved c =
    sleep_more (option_map (λ all. all.items)) c.as_slice-names-items.result.now c.loop-names.names-index
    c.names-item.result c.args.events.now c.loop-names-test.true c.names-item.is c.loop-names.invariant
    (c.is_asleep.ensures c.if-not-is_asleep.false)

pub returns : goal.returns
returns c asleep =
    let all = ap (map (option_map (λ all. all.items)))
    (take_all c.loop-names.names-index c.as_slice-names-items.result.now c.loop-names-test.false ∙
    c.as_slice-names-items.ensures) ∙ c.self.view_is in
    subst (λ (l : List (Option (List NameId))). AllSleep l c.args.events.now) all c.loop-names.invariant
