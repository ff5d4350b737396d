use Rattle.sleepers.proofs.Vocabulary.{ap, length, sym, ◌∙◌, held}
use Rattle.sleepers.proofs.PlaceListLemmas.{by_place_length}
use Rattle.sleepers.proofs.sleeper_list.Sleepers.len.Goals as goal

pub returns : goal.returns
returns g c =
    c.self.invariant.many ∙ sym (by_place_length (held c.self.inside.groups)) ∙ ap (λ s. length s.entries) c.self.view_is
