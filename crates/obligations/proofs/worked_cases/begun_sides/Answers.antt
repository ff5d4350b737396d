use Rattle.obligations.proofs.Vocabulary.{rules, [], refl, inl, inr, event_p, cause_literal}
use Rattle.obligations.proofs.worked_cases.begun_sides.Goals as goal

pub returns-clause-left_passed_over : goal.returns-clause-left_passed_over
returns-clause-left_passed_over c = inr ((cause_literal event_p 1, [], search rules), inl (refl, refl))

pub returns-clause-right_passed_over : goal.returns-clause-right_passed_over
returns-clause-right_passed_over c =
    inr ((cause_literal event_p 3, [], search rules), inr ((cause_literal event_p 3, [], search rules), inl (refl, refl)))

pub returns-clause-right_misses : goal.returns-clause-right_misses
returns-clause-right_misses c = inr ((cause_literal event_p 4, [], search rules), inl (refl, refl))

pub returns-clause-both_miss : goal.returns-clause-both_miss
returns-clause-both_miss c =
    inr (
      (cause_literal event_p 1, [], search rules),
      inr ((cause_literal event_p 3, [], search rules), inr ((cause_literal event_p 1, [], search rules), refl)),
    )
