use Rattle.count_guard.proofs.Vocabulary.{◌≡◌, ◌+◌, List, length, map, sym, ap, ◌∙◌, Var, Term, tree_of, copy_of, new_variables, with_terms, substitution_of}
use Rattle.count_guard.proofs.NumberedVariables.{new_numbered}
use Rattle.count_guard.proofs.copying.Copier.+copies.Goals as goal

pub bound-returns-clause-variables : goal.bound-returns-clause-variables
bound-returns-clause-variables t c = c.in_ok-new.ensures ∙ sym (new_numbered c.args.next.now c.args.xs.now)

pub bound-returns-clause-copy : goal.bound-returns-clause-copy
bound-returns-clause-copy t c =
    let fresh : c.in_ok-new.new ≡ new_variables c.args.next.now c.args.xs.now = c.in_ok-new.ensures ∙ sym (new_numbered c.args.next.now c.args.xs.now) in
    let terms : c.as_slice-2.result.now ≡ map Var (new_variables c.args.next.now c.args.xs.now) =
    c.as_slice-2.ensures.value ∙ c.in_ok-terms.ensures ∙ ap (map Var) (c.as_slice.ensures ∙ fresh) in
    c.in_ok-copy.ensures.copy
    ∙ ap (λ (ts : List Term). copy_of c.args.self.now.at (with_terms c.args.xs.now ts (substitution_of c.args.given.now)) (c.args.next.now + length c.args.xs.now)
    (tree_of c.args.formula.now)) terms
