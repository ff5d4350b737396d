use Rattle.sleepers.proofs.NotedGroupLemmas.{noted_all}
use Rattle.sleepers.proofs.awake_groups.note.Goals as goal

pub returns-clause-noted : goal.returns-clause-noted
returns-clause-noted g c = noted_all c.args.groups.now c.begin.new.index c.note.new.self c.note.ensures.kept c.begin.ensures
