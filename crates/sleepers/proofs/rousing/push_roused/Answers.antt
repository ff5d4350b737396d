use Rattle.sleepers.proofs.Vocabulary.{inl, inr, on_ok_weaker, shown, drop, entries_at}
use Rattle.sleepers.proofs.RousedLemmas.{group_all, group_among, group_kept, leaves_alike}
use Rattle.sleepers.proofs.rousing.push_roused.Goals as goal

pub returns-clause-kept : goal.returns-clause-kept
returns-clause-kept g c =
    on_ok_weaker c.push_entries.result (λ are. group_kept c.args.event.now c.args.groups.now c.args.number (shown c.args.entries.now.items) (shown c.push_entries.new.into.items) are)
    c.push_entries.ensures

pub returns-clause-among : goal.returns-clause-among
returns-clause-among g c =
    on_ok_weaker c.push_entries.result
    (λ are. group_among c.args.event.now c.args.groups.now c.args.number (shown c.args.entries.now.items) (shown c.push_entries.new.into.items) are c.requires.among)
    c.push_entries.ensures

pub returns-clause-all : goal.returns-clause-all
returns-clause-all g c =
    on_ok_weaker c.push_entries.result
    (λ are x there. inl (group_all c.args.event.now c.args.groups.now c.args.number (shown c.args.entries.now.items) (shown c.push_entries.new.into.items) are x there))
    c.push_entries.ensures

pub returns-then-not-is_roused_by-clause-all : goal.returns-then-not-is_roused_by-clause-all
returns-then-not-is_roused_by-clause-all g c = λ x there.
    let groups = c.args.groups.now in
    inr (leaves_alike c.args.event.now groups c.args.number c.in-Some.first.now (drop 1 (entries_at groups c.args.number)) c.requires.alike c.in-Some.ensures.some
    (c.is_roused_by.ensures c.if-not-is_roused_by.true) x there)
