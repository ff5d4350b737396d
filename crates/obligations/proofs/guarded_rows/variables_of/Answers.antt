use Rattle.obligations.proofs.Vocabulary.{◌∙◌, sym}
use Rattle.obligations.proofs.GuardedRowLemmas.{kept_still}
use Rattle.obligations.specs.machine.GuardedRows.{is_in_terms}
use Rattle.obligations.proofs.guarded_rows.variables_of.Goals as goal

pub loop-variable-preserved-then-not-has_variable : goal.loop-variable-preserved-then-not-has_variable
loop-variable-preserved-then-not-has_variable c =
    kept_still (is_in_terms c.args.terms.now) c.args.variables.now c.loop-variable.variable-index _ c.loop-variable-test.true
    (sym c.has_variable.ensures ∙ c.if-not-has_variable.true) c.loop-variable.found.items c.loop-variable.invariant
