use Rattle.sleepers.proofs.Vocabulary.{◌≡◌, [], subst, sym, arith, StayGroups, entries_at}
use Rattle.sleepers.proofs.NotedGroupLemmas.{trimmed_stay}
use Rattle.sleepers.proofs.GroupWalkLemmas.{none_is}
use Rattle.sleepers.proofs.groups.Groups.trim.Goals.{in-Some-1, in-None-1}
use Rattle.sleepers.proofs.groups.Groups.trim.Goals as goal

pub returns-then-is_none : goal.returns-then-is_none
returns-then-is_none g c =
    let number = c.in-Some.number in
    let none = none_is c.first.result (entries_at c.args.self.now number ≡ []) c.is_none.result c.is_none.ensures c.if-is_none.true c.first.ensures.none in
    let lists = c.self.inside.lists.items in
    let stay = trimmed_stay lists c.pop.new.self.items c.pop.result number c.pop.ensures.items
    (omega (arith, c.in-Some.ensures, c.len.ensures, c.self.inside.lists.ok.0))
    (subst (λ l. entries_at l number ≡ []) (sym c.self.view_is) none) in
    subst (λ l. StayGroups l c.match-pop.self) c.self.view_is
    (elim c.match-pop.branch [
      | in-Some-1 w ↦ subst (StayGroups lists) (sym w.self-is) stay
      | in-None-1 w ↦ subst (StayGroups lists) (sym w.self-is) stay
    ])
