use Rattle.enf_data.proofs.Vocabulary.{◌≡◌, take}
use Rattle.enf_data.proofs.short_lists.ShortListDuplicate.duplicate.Given as goal

abbrev pub invariant-loop-item : goal.invariant-loop-item
invariant-loop-item g l = l.copy.items ≡ take l.item-index l.item-items
