use Rattle.windows.proofs.Vocabulary.{◌∙◌, ap, sym}
use Rattle.windows.proofs.prev_slot.PrevSlot.is_bare.Goals as goal

pub returns-in-Some : goal.returns-in-Some
returns-in-Some c = λ bare. (c.in-Some.last, sym (ap (λ s. s.last) c.self.view_is) ∙ c.in-Some.is, c.is_empty.ensures.empty.0 bare)
