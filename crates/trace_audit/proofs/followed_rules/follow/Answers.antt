use Rattle.trace_audit.proofs.Vocabulary.{sym, ◌∙◌, true≢false, on_ok_weaker, guards_at, moment_of}
use Rattle.trace_audit.proofs.JudgementLemmas.{can_after, follow_behind, follow_item}
use Rattle.trace_audit.proofs.followed_rules.follow.Goals as goal

pub returns-then-not-is_before-clause-follows : goal.returns-then-not-is_before-clause-follows
returns-then-not-is_before-clause-follows c =
    follow_behind (moment_of c.args.now.now) c.args.item c.args.followed.now
    (λ before. true≢false (sym (c.is_before.ensures.1 before) ∙ c.if-not-is_before.true))

pub returns-clause-follows : goal.returns-clause-follows
returns-clause-follows c = on_ok_weaker c.put_in.result
    (follow_item (moment_of c.args.now.now) c.args.item c.in_ok-rest.rest c.args.followed.now c.put_in.new.followed c.in_ok-rest.ensures
    (c.is_before.ensures.0 c.if-not-is_before.false)) c.put_in.ensures.ok

pub returns-clause-can : goal.returns-clause-can
returns-clause-can c =
    can_after (guards_at c.args.now.now.tables.now) c.args.item.at c.in_ok-rest.rest c.args.followed.now c.put_in.new.followed c.put_in.result
    c.put_in.ensures.ok c.put_in.ensures.err c.in_ok-rest.ensures.can c.requires.others
