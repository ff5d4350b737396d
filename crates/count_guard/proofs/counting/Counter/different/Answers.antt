use Rattle.count_guard.proofs.Vocabulary.{◌≡◌, suc, ◌+◌, ◌*◌, List, [], ◌∷◌, ◌++◌, length, map, sym, ap, arith, append_assoc, suc-mul, ◌∙◌, tree_of, VarId, Var, Formula, body_copy, bound_count, copy_of}
use Rattle.count_guard.proofs.Vocabulary.{counted_copy, different_copies, differs_from, with_terms}
use Rattle.count_guard.proofs.Conjunctions.{push_trees}
use Rattle.count_guard.proofs.NumberedVariables.{new_numbered}
use Rattle.count_guard.proofs.counting.Counter.different.Goals as goal

pub loop-copy-preserved : goal.loop-copy-preserved
loop-copy-preserved c =
    let at = c.args.self.now.at in
    let counted = c.args.self.now.counted.now in
    let body = tree_of c.args.self.now.body.now in
    let first = c.args.first in
    let own = c.args.next.now in
    let copy = c.loop-copy.copy in
    let next : suc copy ≡ copy + 1 = omega arith in
    let front = different_copies at first own counted body copy in
    let others = differs_from at first counted copy copy in
    let made : tree_of c.in_ok-body_copy.field-0 ≡ body_copy at first own counted body copy =
    c.in_ok-body_copy.ensures.copy
    ∙ ap (λ (xs : List VarId). copy_of at (with_terms counted (map Var xs) Var) c.loop-copy.next body) (sym (new_numbered (first + copy * length counted) counted))
    ∙ ap (λ n. copy_of at (with_terms counted (map Var (counted_copy first counted copy)) Var) n body) c.loop-copy.invariant.used in
    let pushed = push_trees _ _ _ _ c.in_ok-push.ensures.items c.loop-copy.invariant.made in
    let one_more : (copy + 1) * bound_count body ≡ copy * bound_count body + bound_count body = ap (λ n. n * bound_count body) (sym next) ∙ suc-mul copy (bound_count body) in
    record {
      made = c.in_ok-push_differences.ensures ∙ ap (λ (fs : List Formula). fs ++ others) pushed
          ∙ append_assoc front (tree_of c.in_ok-body_copy.field-0 ∷ []) others
          ∙ ap (λ (f : Formula). front ++ f ∷ others) made
          ∙ ap (different_copies at first own counted body) next;
      used = let used = c.loop-copy.invariant.used in let more = c.in_ok-body_copy.ensures.unused in omega (arith, one_more, used, more);
    }
