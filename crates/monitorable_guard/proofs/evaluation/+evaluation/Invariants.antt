use Rattle.monitorable_guard.proofs.Vocabulary.{◌+◌, ◌*◌, List, drop, take, Contains, tree_of, formula_size, Value, bound_in, filled_from_row, AddsRows, IsGuardAnswer, HoldsNow}
use Rattle.monitorable_guard.proofs.RowsLemmas.{SomeOf}
use Rattle.monitorable_guard.specs.machine.Answers.{HasSolution}
use Rattle.monitorable_guard.proofs.evaluation.+evaluation.Given as goal

abbrev pub decreases-holds : goal.decreases-holds
decreases-holds g l = 8 * formula_size (tree_of l.formula.now) + 0

abbrev pub decreases-gather_open : goal.decreases-gather_open
decreases-gather_open g l = 8 * formula_size (tree_of l.formula.now) + 1

abbrev pub decreases-gather_known : goal.decreases-gather_known
decreases-gather_known g l = 8 * formula_size (tree_of l.formula.now) + 2

abbrev pub decreases-gather : goal.decreases-gather
decreases-gather g l = 8 * formula_size (tree_of l.formula.now) + 3

abbrev pub decreases-rows_over : goal.decreases-rows_over
decreases-rows_over g l = 8 * formula_size (tree_of l.formula.now) + 3

abbrev pub decreases-rows : goal.decreases-rows
decreases-rows g l = 8 * formula_size (tree_of l.formula.now) + 4

abbrev pub decreases-has_answer : goal.decreases-has_answer
decreases-has_answer g l = 8 * formula_size (tree_of l.formula.now) + 4

abbrev pub decreases-holds_for_all : goal.decreases-holds_for_all
decreases-holds_for_all g l = 8 * formula_size (tree_of l.body.now) + 6

abbrev pub decreases-gather_both : goal.decreases-gather_both
decreases-gather_both g l = 8 * (formula_size (tree_of l.g.now) + formula_size (tree_of l.h.now)) + 7

abbrev pub decreases-gather_either : goal.decreases-gather_either
decreases-gather_either g l = 8 * (formula_size (tree_of l.g.now) + formula_size (tree_of l.h.now)) + 7

abbrev pub decreases-hold_both : goal.decreases-hold_both
decreases-hold_both g l = 8 * (formula_size (tree_of l.g.now) + formula_size (tree_of l.h.now)) + 7

abbrev pub decreases-holds_either : goal.decreases-holds_either
decreases-holds_either g l = 8 * (formula_size (tree_of l.g.now) + formula_size (tree_of l.h.now)) + 7

abbrev pub decreases-holds_where : goal.decreases-holds_where
decreases-holds_where g l = 8 * (formula_size (tree_of l.g.now) + formula_size (tree_of l.h.now)) + 7

abbrev pub decreases-holds_for_each : goal.decreases-holds_for_each
decreases-holds_for_each g l = 8 * (formula_size (tree_of l.g.now) + formula_size (tree_of l.h.now)) + 7

abbrev pub decreases-gather_under : goal.decreases-gather_under
decreases-gather_under g l = 8 * formula_size (tree_of l.formula.now) + 3

abbrev pub decreases-holds_under : goal.decreases-holds_under
decreases-holds_under g l = 8 * formula_size (tree_of l.formula.now) + 3

abbrev pub invariant-gather_under-loop-row : goal.invariant-gather_under-loop-row
invariant-gather_under-loop-row g l = AddsRows l.columns l.fn.out.items l.out.items (λ w. SomeOf (take l.row-index l.table.rows)
    (λ row. IsGuardAnswer l.present.events.now (drop l.first (g.P.Past.tables l.present.past.now)) (filled_from_row (bound_in l.scope) l.table.columns row) (tree_of l.formula) l.columns w))

abbrev pub invariant-holds_under-loop-row : goal.invariant-holds_under-loop-row
invariant-holds_under-loop-row g l = (row : List Value) → Contains (take l.row-index l.table.rows) row
    → HoldsNow l.present.events.now (drop l.first (g.P.Past.tables l.present.past.now)) (filled_from_row (bound_in l.scope) l.table.columns row) (tree_of l.formula)

abbrev pub decreases-has_open_answer : goal.decreases-has_open_answer
decreases-has_open_answer g l = 8 * formula_size (tree_of l.formula.now) + 2

abbrev pub decreases-has_known_answer : goal.decreases-has_known_answer
decreases-has_known_answer g l = 8 * formula_size (tree_of l.formula.now) + 3

abbrev pub decreases-has_both : goal.decreases-has_both
decreases-has_both g l = 8 * (formula_size (tree_of l.g.now) + formula_size (tree_of l.h.now)) + 7

abbrev pub decreases-has_either : goal.decreases-has_either
decreases-has_either g l = 8 * (formula_size (tree_of l.g.now) + formula_size (tree_of l.h.now)) + 7

abbrev pub decreases-has_answer_under : goal.decreases-has_answer_under
decreases-has_answer_under g l = 8 * formula_size (tree_of l.formula.now) + 4

abbrev pub invariant-has_answer_under-loop-row : goal.invariant-has_answer_under-loop-row
invariant-has_answer_under-loop-row g l = (row : List Value) → Contains (take l.row-index l.table.rows) row
    → HasSolution l.present.events.now (drop l.first (g.P.Past.tables l.present.past.now)) (filled_from_row (bound_in l.scope) l.table.columns row) (tree_of l.formula) → ⊥
