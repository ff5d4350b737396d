use Rattle.windows.proofs.Vocabulary.{sym, subst, refl, survives_always, survives_among, survives_outside, AgreesWithRow, HasValuation}
use Rattle.windows.proofs.GivenLaws.{among_has, given_answers, given_from, given_last_answers, given_last_from, outside_has}
use Rattle.windows.proofs.laws.rows_are_given.Goals as goal

pub returns-clause-all : goal.returns-clause-all
returns-clause-all c window time right v columns =
    given_answers window time survives_always right (λ w. Unit {0}) columns (λ row times w there agrees. (λ _. tt, λ _. refl)) v

pub returns-clause-among : goal.returns-clause-among
returns-clause-among c window time told right v told_columns columns =
    given_answers window time (survives_among told) right (HasValuation told) columns
    (λ row times w there agrees. among_has told row w (subst (λ l. AgreesWithRow w l row) (sym told_columns) agrees)) v

pub returns-clause-outside : goal.returns-clause-outside
returns-clause-outside c window time told right v told_columns columns =
    given_answers window time (survives_outside told) right (λ w. HasValuation told w → ⊥) columns
    (λ row times w there agrees. outside_has told row w (subst (λ l. AgreesWithRow w l row) (sym told_columns) agrees)) v

pub returns-clause-last : goal.returns-clause-last
returns-clause-last c slot time v fits = given_last_answers slot time fits v

pub returns-clause-kept : goal.returns-clause-kept
returns-clause-kept c window time survives right row there = given_from window time survives right row there

pub returns-clause-last_kept : goal.returns-clause-last_kept
returns-clause-last_kept c slot time row there = given_last_from slot time row there
