use Rattle.enforcer_core.proofs.Vocabulary.{◌∷◌, [], sym, ◌∙◌, acted_steps}
use Rattle.enforcer_core.proofs.CourseLemmas.{course_begins, course_ends, course_follows, course_follows_to_end, course_is_justified, course_is_justified_to_end, course_keeps_up, more_changes}
use Rattle.enforcer_core.proofs.CourseLemmas.{more_decided, more_in_time, more_stands, stands_good}
use Rattle.enforcer_core.proofs.TransparencyLemmas.{course_is_transparent, course_is_transparent_to_end}
use Rattle.enforcer_core.proofs.laws.course.Goals as goal

pub returns-clause-begins : goal.returns-clause-begins
returns-clause-begins c = course_begins

pub returns-clause-goes_on : goal.returns-clause-goes_on
returns-clause-goes_on c start trace records out now next made after course called goes_on stands changed decided =
    let more = acted_steps made.steps in
    let policy = goes_on.policy in
    let clock = goes_on.clock_is in
    let later = called.not_over in
    record {
      began = course.began;
      policy = policy ∙ course.policy;
      clock = clock ∙ sym (c.records_join.ensures.clock start.clock records (next ∷ []));
      in_time = more_in_time start trace records out now course next more after policy clock later c.records_join.ensures.never_fall;
      stands = more_stands start trace records out now course next more after policy clock later stands;
      changed = more_changes start trace records out now course next more after policy clock later c.records_join.ensures.rises c.lawful_joins.ensures.within c.lawful_joins.ensures.lawful changed;
      decided = more_decided start trace records out now course next more after policy clock later decided;
    }

pub returns-clause-keeps_up : goal.returns-clause-keeps_up
returns-clause-keeps_up c causable suppressible start trace records out now may together course =
    course_keeps_up start trace records out now course (stands_good c.drain_laws.ensures) causable suppressible may together

pub returns-clause-enforces : goal.returns-clause-enforces
returns-clause-enforces c causable suppressible start trace records out now made after may course stands satisfied changed =
    course_ends start trace records out now course (acted_steps made.steps) after c.lawful_joins.ensures.lawful causable suppressible may stands satisfied changed

pub returns-clause-follows : goal.returns-clause-follows
returns-clause-follows c = course_follows

pub returns-clause-follows_to_end : goal.returns-clause-follows_to_end
returns-clause-follows_to_end c = course_follows_to_end

pub returns-clause-justified : goal.returns-clause-justified
returns-clause-justified c = course_is_justified c.all_are_justified.ensures.records

pub returns-clause-justified_to_end : goal.returns-clause-justified_to_end
returns-clause-justified_to_end c =
    course_is_justified_to_end c.all_are_justified.ensures.records c.all_are_justified.ensures.drain

pub returns-clause-transparent : goal.returns-clause-transparent
returns-clause-transparent c =
    course_is_transparent c.policy_plans_keep_meaning.ensures.meaning c.lawful_are_left_alone.ensures.records

pub returns-clause-transparent_to_end : goal.returns-clause-transparent_to_end
returns-clause-transparent_to_end c =
    course_is_transparent_to_end c.trace_grows.ensures.trace c.trace_grows.ensures.last c.good.ensures.satisfying c.policy_plans_keep_meaning.ensures.meaning
    c.lawful_are_left_alone.ensures.records c.lawful_are_left_alone.ensures.drain
