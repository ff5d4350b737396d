use Rattle.sleepers.proofs.Vocabulary.{drop, on_ok_weaker, entries_at}
use Rattle.sleepers.proofs.NotedGroupLemmas.{found_first}
use Rattle.sleepers.proofs.awake_groups.note_first.Goals as goal

pub returns-in-Some-clause-ok : goal.returns-in-Some-clause-ok
returns-in-Some-clause-ok g c =
    let groups = c.args.groups.now in
    let number = c.args.number in
    on_ok_weaker c.note.result (λ is. found_first groups c.note.new.self number c.in-Some.first.now (drop 1 (entries_at groups number)) c.in-Some.ensures.some is) c.note.ensures.ok
