use Rattle.sleepers.proofs.Vocabulary.{◌≡◌, [], sym, subst, AreNoted, entries_at}
use Rattle.sleepers.proofs.NotedGroupLemmas.{noted_others}
use Rattle.sleepers.proofs.GroupWalkLemmas.{none_is}
use Rattle.sleepers.proofs.awake_groups.release.Goals as goal

pub returns-then-is_none-clause-noted : goal.returns-then-is_none-clause-noted
returns-then-is_none-clause-noted g c = λ is.
    let groups = c.args.groups.now in
    let none = none_is c.first.result (entries_at groups c.args.number ≡ []) c.is_none.result c.is_none.ensures c.if-is_none.true c.first.ensures.none in
    subst (λ l. AreNoted l c.let_go.new.self) (sym c.release.ensures) (noted_others groups c.args.index.now c.let_go.new.self c.args.number none c.let_go.ensures is)
