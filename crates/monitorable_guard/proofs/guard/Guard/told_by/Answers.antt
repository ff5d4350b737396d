use Rattle.monitorable_guard.proofs.Vocabulary.{◌≡◌, List, map, sym, subst, ◌∙◌, HasNoRepeats, rising_distinct, Valuation, variable_cmp_total, Term, Var, tree_of, Relation, HasKnownValues}
use Rattle.monitorable_guard.proofs.Vocabulary.{AreHoldingRows}
use Rattle.monitorable_guard.proofs.EventRowLemmas.{some_is, told_hold, told_known, told_rows}
use Rattle.monitorable_guard.proofs.guard.Guard.told_by.Goals as goal

pub told-requires : goal.told-requires
told-requires c = subst HasNoRepeats (sym c.as_slice-columns.ensures) (rising_distinct variable_cmp_total c.columns.result.now c.columns.ensures.rising)

pub returns-then-are_variables-clause-rows : goal.returns-then-are_variables-clause-rows
returns-then-are_variables-clause-rows c =
    let columns = c.as_slice-columns.result.now in
    let events = c.args.events.now in
    let bound = c.args.self.now.bound in
    let rows = told_rows events c.named.result.now c.in-Atom.name columns c.named.ensures in
    let terms : c.in-Atom.terms ≡ map Var columns = subst (λ (l : List Term). l ≡ map Var columns) c.as_slice.ensures (c.are_variables.ensures c.if-are_variables.true) in
    some_is c.told.result rows (λ t. (tables : List Relation) (v : Valuation) → AreHoldingRows events tables (tree_of c.args.self.now.formula) bound v t) c.told.ensures.rows c.told.ensures.table
    (λ table tables v. subst (λ f. AreHoldingRows events tables (tree_of f) bound v rows) (sym c.in-Atom.is ∙ c.formula.ensures.formula)
    (told_hold events c.named.result.now c.in-Atom.name columns c.named.ensures table.distinct table.fits c.in-Atom.field-0 c.in-Atom.terms terms tables bound v))

pub returns-then-are_variables-clause-known : goal.returns-then-are_variables-clause-known
returns-then-are_variables-clause-known c =
    let columns = c.as_slice-columns.result.now in
    let events = c.args.events.now in
    let bound = c.args.self.now.bound in
    let f = tree_of c.args.self.now.formula in
    let rows = told_rows events c.named.result.now c.in-Atom.name columns c.named.ensures in
    some_is c.told.result rows (λ t. (tables : List Relation) (v : Valuation) → HasKnownValues events tables f bound v t) c.told.ensures.rows c.told.ensures.table
    (λ table tables v. told_known events c.named.result.now c.in-Atom.name columns c.named.ensures tables f bound v)
