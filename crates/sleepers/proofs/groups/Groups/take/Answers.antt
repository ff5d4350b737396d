use Rattle.sleepers.proofs.Vocabulary.{◌≡◌, [], IfNone, IfSome, set, refl, subst, arith, HasIn, group_at, held}
use Rattle.sleepers.proofs.GroupChangeLemmas.{take_held, take_none}
use Rattle.sleepers.proofs.groups.Groups.take.Goals as goal

pub returns-clause-some : goal.returns-clause-some
returns-clause-some g c =
    let groups = c.self.inside.lists.items in
    let new = c.remove.new.self in
    subst (λ l. IfSome c.remove.result (λ x. HasIn x (held (set groups c.args.number new)) (held l))) c.self.view_is
    (take_held groups c.args.number c.in_ok-get_mut.field-0.now new (omega (arith, (c.in_ok-get_mut.ensures.variant).0 refl, c.self.inside.lists.ok.0)) c.in_ok-get_mut.ensures.value
    c.remove.result c.remove.ensures.before c.remove.ensures.after)

pub returns-clause-none : goal.returns-clause-none
returns-clause-none g c =
    let groups = c.self.inside.lists.items in
    let new = c.remove.new.self in
    subst (λ l. IfNone c.remove.result (((group_at l c.args.number).after ≡ []) × (set groups c.args.number new ≡ l))) c.self.view_is
    (take_none groups c.args.number c.in_ok-get_mut.field-0.now new (omega (arith, (c.in_ok-get_mut.ensures.variant).0 refl, c.self.inside.lists.ok.0)) c.in_ok-get_mut.ensures.value
    c.remove.result c.remove.ensures.before c.remove.ensures.after c.remove.ensures.none)
