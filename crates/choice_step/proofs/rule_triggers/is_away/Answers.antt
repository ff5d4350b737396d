use Rattle.choice_step.proofs.Vocabulary.{◌≡◌, Contains, sym, subst, ◌∙◌, eqb-true, All-contains, Event}
use Rattle.choice_step.proofs.RuleTriggerLemmas.{none_shown}
use Rattle.choice_step.proofs.rule_triggers.is_away.Goals as goal

pub returns-then-all-gt-MOST_SEARCHED : goal.returns-then-all-gt-MOST_SEARCHED
returns-then-all-gt-MOST_SEARCHED c empty event there same =
    none_shown c.named.result.now event (eqb-true _ 0 (sym c.is_empty.ensures ∙ empty)) ((c.named.ensures event).1 (there, same))

pub returns : goal.returns
returns c none event there same =
    All-contains (λ (e : Event). e.name ≡ c.args.name → ⊥) c.args.all.now event (c.none_named.ensures none)
    (subst (λ l. Contains l event) (sym c.requires.same) there) same
