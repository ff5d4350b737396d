use Rattle.sleepers.proofs.NotedGroupLemmas.{noted_stay}
use Rattle.sleepers.proofs.awake_groups.group_for.Goals as goal

pub returns-in_err-number-clause-noted : goal.returns-in_err-number-clause-noted
returns-in_err-number-clause-noted g c = noted_stay c.args.groups.now c.fresh.new.self c.args.index.now c.fresh.ensures.stay c.requires

pub note-requires : goal.note-requires
note-requires g c = noted_stay c.args.groups.now c.fresh.new.self c.args.index.now c.fresh.ensures.stay c.requires
