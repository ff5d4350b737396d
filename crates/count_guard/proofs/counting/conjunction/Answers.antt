use Rattle.count_guard.proofs.Vocabulary.{List, [], ◌∷◌, ◌++◌, map, sym, ap, ◌∙◌, map_push, tree_of, Formula, And, all_of}
use Rattle.count_guard.proofs.Conjunctions.{all_push}
use Rattle.count_guard.proofs.counting.conjunction.Goals as goal

pub loop-part-preserved : goal.loop-part-preserved
loop-part-preserved c =
    let at = c.args.at in
    let behind = c.pop-in-loop-part.new.self.items in
    let part = c.in-Some-pop.part in
    let whole = c.loop-part.whole in
    c.loop-part.invariant
    ∙ ap (λ (fs : List Formula). all_of at (fs ++ tree_of whole ∷ [])) (ap (map tree_of) c.in-Some-pop.ensures.items ∙ map_push tree_of behind part)
    ∙ all_push at (map tree_of behind) (tree_of part) (tree_of whole)
    ∙ (λ i. all_of at (map tree_of behind ++ And at (tree_of (sym c.in_ok-part.ensures.ok i)) (tree_of (sym c.in_ok-new.ensures.ok i)) ∷ []))
