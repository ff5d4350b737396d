use Rattle.sleepers.proofs.NotedGroupLemmas.{noted_begun}
use Rattle.sleepers.proofs.awake_groups.begin.Goals as goal

pub returns : goal.returns
returns g c =
    noted_begun c.args.groups.now c.args.index.now c.note_each.new.index c.begin.new.self c.requires c.in_ok-note_each.ensures.ok c.begin.ensures
