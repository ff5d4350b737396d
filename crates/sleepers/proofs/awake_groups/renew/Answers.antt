use Rattle.sleepers.proofs.Vocabulary.{sym, subst, arith, StayGroups}
use Rattle.sleepers.proofs.NotedGroupLemmas.{none_stay, noted_stay}
use Rattle.sleepers.proofs.awake_groups.renew.Goals as goal

pub returns-clause-stay : goal.returns-clause-stay
returns-clause-stay g c =
    subst (StayGroups c.args.groups.now) (sym c.new.ensures) (none_stay c.args.groups.now (omega (arith, c.requires, c.if-count-gt0.false)))

pub returns-then-count-gt0-clause-noted : goal.returns-then-count-gt0-clause-noted
returns-then-count-gt0-clause-noted g c = noted_stay c.args.groups.now c.trim.new.self c.args.index.now c.trim.ensures
