-- None is listed where no instance is.
use Rattle.enforcer_core.proofs.Vocabulary.{◌≡◌, ◌∙◌, List, [], length, length-map, sym}
use Rattle.std.proofs.lemmas.List.{nil_from_length}
use Rattle.pending.specs.machine.PendingLists.{listed_instances}
use Rattle.pending.specs.machine.Waits.{Listed}

pub none_listed : (xs : List Listed) → length (listed_instances xs) ≡ 0 → xs ≡ []
none_listed xs none = nil_from_length xs (sym (length-map xs (λ x. x.instance)) ∙ none)
