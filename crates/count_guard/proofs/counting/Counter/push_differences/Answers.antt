use Rattle.count_guard.proofs.Vocabulary.{◌≡◌, suc, ◌+◌, ◌*◌, [], ◌∷◌, ◌++◌, length, map, sym, ap, arith, append_assoc, ◌∙◌, tree_of, Formula, Not, all_of, copies_differ, differs_from, equal_pairs}
use Rattle.count_guard.proofs.Conjunctions.{push_trees}
use Rattle.count_guard.proofs.NumberedVariables.{new_numbered}
use Rattle.count_guard.proofs.counting.Counter.push_differences.Goals as goal

pub loop-earlier-preserved : goal.loop-earlier-preserved
loop-earlier-preserved c =
    let at = c.args.self.now.at in
    let counted = c.args.self.now.counted.now in
    let first = c.args.first in
    let copy = c.args.copy in
    let earlier = c.loop-earlier.earlier in
    let before = map tree_of c.args.parts.now.items in
    let front = differs_from at first counted copy earlier in
    let next : suc earlier ≡ earlier + 1 = omega arith in
    let made : tree_of c.in_ok-differ.field-0 ≡ copies_differ at first counted earlier copy =
    c.in_ok-differ.ensures
    ∙ (λ i. Not at (all_of at (equal_pairs at (sym (new_numbered (first + earlier * length counted) counted) i) (sym (new_numbered (first + copy * length counted) counted) i)))) in
    push_trees _ _ _ _ c.in_ok-push.ensures.items c.loop-earlier.invariant
    ∙ append_assoc before front (tree_of c.in_ok-differ.field-0 ∷ [])
    ∙ ap (λ (f : Formula). before ++ (front ++ f ∷ [])) made
    ∙ ap (λ n. before ++ differs_from at first counted copy n) next
