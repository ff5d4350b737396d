use Rattle.sleepers.proofs.Vocabulary.{drop, entries_at}
use Rattle.sleepers.proofs.NotedGroupLemmas.{suits_alike}
use Rattle.sleepers.proofs.awake_groups.group_of.Goals as goal

pub returns-then-wakes_alike : goal.returns-then-wakes_alike
returns-then-wakes_alike g c =
    let groups = c.args.groups.now in
    let number = c.in_ok-number.number in
    suits_alike groups c.args.index.now number c.in_ok-first.first.now (drop 1 (entries_at groups number)) c.args.entry.now c.requires c.in_ok-first.ensures.some
    (c.wakes_alike.ensures c.if-wakes_alike.true)
