use Rattle.sleepers.proofs.Vocabulary.{drop, IsAsleep, entries_at}
use Rattle.sleepers.proofs.GroupChangeLemmas.{holds, holds_not}
use Rattle.sleepers.proofs.NotedGroupLemmas.{stands_asleep, stands_awake}
use Rattle.sleepers.proofs.awake_groups.is_awake.Goals as goal

pub returns-in-Some-clause-awake : goal.returns-in-Some-clause-awake
returns-in-Some-clause-awake g c = λ is alike.
    let groups = c.args.groups.now in
    let first = c.in-Some.entry.now in
    stands_awake c.args.events.now c.args.time groups c.args.number first (drop 1 (entries_at groups c.args.number)) alike c.in-Some.ensures.some
    (holds_not c.is_asleep.result (IsAsleep c.args.events.now c.args.time first) c.is_asleep.ensures is)

pub returns-in-Some-clause-asleep : goal.returns-in-Some-clause-asleep
returns-in-Some-clause-asleep g c = λ is alike.
    let groups = c.args.groups.now in
    let first = c.in-Some.entry.now in
    stands_asleep c.args.events.now c.args.time groups c.args.number first (drop 1 (entries_at groups c.args.number)) alike c.in-Some.ensures.some
    (holds c.is_asleep.result (IsAsleep c.args.events.now c.args.time first) c.is_asleep.ensures is)
