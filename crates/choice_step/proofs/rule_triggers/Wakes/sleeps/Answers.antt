use Rattle.choice_step.proofs.Vocabulary.{sym, ap, subst, ◌∙◌, Some, slice_get, option_copied, option_map, HasNoneOf}
use Rattle.choice_step.proofs.RuleTriggerLemmas.{get_map}
use Rattle.choice_step.proofs.rule_triggers.Wakes.sleeps.Goals as goal

pub returns-in-Some-Some : goal.returns-in-Some-Some
returns-in-Some-Some c away =
    let given : HasNoneOf (Some (Some c.in-Some-Some.names.items)) c.args.events.now = subst (λ l. HasNoneOf (Some (Some l)) c.args.events.now) c.as_slice.ensures.value (c.has_none_of.ensures away) in
    let items = c.self.inside.names in
    let at = get_map (option_map (λ names. names.items)) items c.args.rule ∙ ap (option_map (option_map (λ names. names.items))) (sym c.get.ensures ∙ ap option_copied c.in-Some-Some.is) in
    subst (λ l. HasNoneOf (slice_get l c.args.rule) c.args.events.now) c.self.view_is
    (subst (λ o. HasNoneOf o c.args.events.now) (sym at) (subst (λ o. HasNoneOf (Some (option_map (λ names. names.items) o)) c.args.events.now) (sym c.in-Some-Some.field-0-is) given))
