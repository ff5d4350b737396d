use Rattle.sleepers.proofs.Vocabulary.{Contains, subst, sym, ◌∙◌, shown}
use Rattle.sleepers.proofs.RousedLemmas.{roused_by_found, rouses_found}
use Rattle.sleepers.proofs.rousing.roused.Goals as goal

pub returns : goal.returns
returns g c =
    let event = c.args.event.now in
    let groups = c.args.groups.now in
    let numbers = c.as_slice.result.now in
    roused_by_found event groups numbers (shown c.push_each.new.entries.items) c.in_ok-push_each.ensures.among c.in_ok-push_each.ensures.all
    (rouses_found event groups c.args.index.now numbers c.requires (sym c.is_begun.ensures ∙ c.if-not-is_begun.false) (λ group pattern is e there matches.
    subst (λ l. Contains l group) (sym c.as_slice.ensures.value)
    (c.in_ok-find_each.ensures.ok group pattern is e (subst (λ l. Contains l e) (sym c.from_ref.ensures.value) there) matches)))
