use Rattle.definitions.proofs.Vocabulary.{◌≡◌, ◌+◌, List, length, map, sym, ap, ◌∙◌, Var, Term, new_variables, with_terms, unfolded}
use Rattle.count_guard.proofs.NumberedVariables.{new_numbered}
use Rattle.count_guard.specs.machine.StoredCopies.{substitution_of}
use Rattle.enf_formula.specs.machine.FormulaViews.{tree_of}
use Rattle.definitions.specs.machine.StoredTables.{table_of}
use Rattle.definitions.proofs.replacing.Replacer.+replaced_all.Goals as goal

pub bound-returns-clause-variables : goal.bound-returns-clause-variables
bound-returns-clause-variables t c = c.in_ok-new.ensures ∙ sym (new_numbered c.args.next.now c.args.xs.now)

pub bound-returns-clause-formula : goal.bound-returns-clause-formula
bound-returns-clause-formula t c =
    let fresh : c.in_ok-new.new ≡ new_variables c.args.next.now c.args.xs.now = c.in_ok-new.ensures ∙ sym (new_numbered c.args.next.now c.args.xs.now) in
    let terms : c.as_slice-2.result.now ≡ map Var (new_variables c.args.next.now c.args.xs.now) =
    c.as_slice-2.ensures.value ∙ c.in_ok-terms.ensures ∙ ap (map Var) (c.as_slice.ensures ∙ fresh) in
    c.in_ok-made.ensures.formula
    ∙ ap (λ (ts : List Term). unfolded (table_of c.args.self.now.table.now) (with_terms c.args.xs.now ts (substitution_of c.args.given.now)) (c.args.next.now + length c.args.xs.now)
    (tree_of c.args.formula.now)) terms
