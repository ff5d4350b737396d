use Rattle.trace_audit.proofs.Vocabulary.{RulesCanGoOn, guards_at, moment_of, AreAmongRules}
use Rattle.trace_audit.proofs.JudgementLemmas.{FollowsOn}
use Rattle.trace_audit.proofs.followed_rules.follow_each.Given as goal

abbrev pub invariant-loop-item : goal.invariant-loop-item
invariant-loop-item l =
    (goal.iterator-loop-item).can_next l.item-iterator ×
    (goal.iterator-loop-item).is_finite l.item-iterator
    × FollowsOn (moment_of l.now) l.fn.followed.asked l.fn.followed.broken l.item-iterator.rest.items l.followed
    × AreAmongRules l.fn.followed.asked l.item-iterator.rest.items
    × RulesCanGoOn (guards_at l.now.tables.now) l.followed.asked
