use Rattle.trace_audit.proofs.Vocabulary.{map, plan_of, BeginsRules, RulesCanGoOn, guards_at, moment_of}
use Rattle.trace_audit.proofs.followed_rules.begin_each.Given as goal

abbrev pub invariant-loop-rule : goal.invariant-loop-rule
invariant-loop-rule l =
    BeginsRules (moment_of l.now) (map plan_of l.plans) l.rule l.fn.followed l.followed
    × RulesCanGoOn (guards_at l.now.tables.now) l.followed.asked
