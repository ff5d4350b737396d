use Rattle.sleepers.proofs.Vocabulary.{ap, ◌∙◌, held}
use Rattle.sleepers.proofs.SortedEntryLemmas.{all_in_order}
use Rattle.sleepers.proofs.sleeper_list.Sleepers.in_order.Goals as goal

pub returns : goal.returns
returns g c =
    all_in_order c.in_ok-all.all.items c.sort_by_place.new.entries.items c.sort_by_place.ensures.same c.sort_by_place.ensures.order (held c.self.inside.groups) c.in_ok-all.ensures
    c.self.invariant.apart
    ∙ ap (λ s. s.entries) c.self.view_is
