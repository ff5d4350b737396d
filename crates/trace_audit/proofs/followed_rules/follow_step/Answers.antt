use Rattle.trace_audit.proofs.Vocabulary.{map, sym, subst, length-map, on_ok_weaker, plan_of, BeginsRules, audit_moment}
use Rattle.trace_audit.proofs.JudgementLemmas.{takes_step}
use Rattle.trace_audit.proofs.followed_rules.follow_step.Goals as goal

pub returns-clause-takes : goal.returns-clause-takes
returns-clause-takes c =
    let m = audit_moment c.args.time c.args.position c.args.events.now c.args.tables.now in
    let plans = map plan_of c.args.plans.now in
    on_ok_weaker c.begin_each.result (λ begins.
    takes_step m plans c.args.followed.now c.follow_each.new.followed c.begin_each.new.followed c.in_ok-follow_each.ensures.follows
    (subst (λ n. BeginsRules m plans n c.follow_each.new.followed c.begin_each.new.followed) (sym (length-map c.args.plans.now plan_of)) begins)) c.begin_each.ensures.begins
