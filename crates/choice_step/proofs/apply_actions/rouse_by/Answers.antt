use Rattle.choice_step.proofs.RouseLemmas.{told_of_none, told_of_one}
use Rattle.choice_step.proofs.Vocabulary.{refl}
use Rattle.choice_step.proofs.apply_actions.rouse_by.Goals as goal

pub returns-in_ok-rouse-in-Cause : goal.returns-in_ok-rouse-in-Cause
returns-in_ok-rouse-in-Cause c =
    told_of_one c.args.action.now.kind c.args.action.now.event c.args.asking.now c.rouse.new.self c.in-Cause.is c.in_ok-rouse-in-Cause.ensures

pub returns-in-Suppress : goal.returns-in-Suppress
returns-in-Suppress c = told_of_none c.args.action.now.kind c.args.action.now.event c.args.asking.now c.args.asking.now c.in-Suppress.is refl
