use Rattle.count_guard.proofs.Vocabulary.{◌≡◌, ◌+◌, ◌*◌, length, sym, ap, ◌∙◌, tree_of, Exists, all_of, counted_copies, different_copies}
use Rattle.count_guard.proofs.NumberedVariables.{copies_numbered}
use Rattle.count_guard.proofs.counting.Counter.at_least.Goals as goal

pub returns-clause-formula : goal.returns-clause-formula
returns-clause-formula c =
    let at = c.args.self.now.at in
    let next = c.args.next.now in
    let counted = c.args.self.now.counted.now in
    let body = tree_of c.args.self.now.body.now in
    let xs : c.in_ok-xs.xs ≡ counted_copies next counted c.args.k = c.in_ok-xs.ensures ∙ sym (copies_numbered next counted c.args.k) in
    let whole : tree_of c.in_ok-new.field-0.value ≡ all_of at (different_copies at next (next + c.args.k * length counted) counted body c.args.k) =
    ap tree_of c.in_ok-new.ensures.ok ∙ c.in_ok-whole.ensures ∙ ap (all_of at) c.in_ok-parts.ensures.parts in
    λ i. Exists at (xs i) (whole i)
