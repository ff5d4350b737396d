use Rattle.choice_step.proofs.Vocabulary.{◌∙◌, IsTrue, List, Bool, false, ap, slice_index_or, sym}
use Rattle.choice_step.proofs.OwnEventLemmas.{none_marked}
use Rattle.choice_step.proofs.own_events.Marks.none.Goals as goal

pub returns : goal.returns
returns c = λ name (marked : IsTrue (slice_index_or c.in_ok-vec.field-0.items name.0 false)).
    let no : IsTrue false = sym (ap (λ (l : List Bool). slice_index_or l name.0 false) (c.in_ok-vec.ensures.items_if_clones_equal (λ y same. same)) ∙ none_marked 256 name.0) ∙ marked in
    cc
