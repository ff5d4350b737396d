use Rattle.past_state.proofs.Vocabulary.{◌∙◌, ◌<◌, length, ap, sym, subst, arith, formulas_of_guards, all_operators, AreRowsKept, AreStoredRows}
use Rattle.past_state.proofs.SavedLemmas.{SavedUpTo, counted, counted_back, kept_of_trace, rows_of, saved_more, saved_none}
use Rattle.past_state.proofs.past.PastState.kept.Goals as goal

pub loop-window-init : goal.loop-window-init
loop-window-init c = subst (SavedUpTo c.as_slice-operators.result.now 0) (sym c.new-rows.ensures.items) (saved_none c.as_slice-operators.result.now)

pub loop-window-preserved : goal.loop-window-preserved
loop-window-preserved c =
    let below : c.loop-window.window < length c.as_slice-operators.result.now = omega arith in
    saved_more c.as_slice-operators.result.now c.loop-window.window c.index-operators-operators.result c.in_ok-kept.field-0.items c.loop-window.rows.items c.push_rows.new.out.items
    (counted_back c.as_slice-operators.result.now c.loop-window.window c.index-operators-operators.result below c.index-operators-operators.is)
    c.in_ok-kept.ensures.rising c.in_ok-kept.ensures.exact c.in_ok-kept.ensures.whole c.in_ok-push_rows.ensures c.loop-window.invariant

pub overflow_cast-window : goal.overflow_cast-window
overflow_cast-window c = omega (
  arith,
  c.requires,
  ap (λ p. length (all_operators (formulas_of_guards p.guards))) c.self.view_is,
  counted (record { guards = c.self.inside.guards.value.items; operators = c.self.inside.operators.value.items.items }) c.self.invariant.0,
  ap length (c.as_slice-operators.ensures.value ∙ ap (λ s. s.items.items) c.deref.ensures),
)

saved : (c : goal.After-from_vec) → SavedUpTo c.as_slice-operators.result.now (length c.as_slice-operators.result.now) c.from_vec.result
saved c = subst (SavedUpTo c.as_slice-operators.result.now (length c.as_slice-operators.result.now)) (sym c.from_vec.ensures)
    (subst (λ n. SavedUpTo c.as_slice-operators.result.now n c.loop-window.rows.items) (omega arith) c.loop-window.invariant)

pub returns-clause-rising : goal.returns-clause-rising
returns-clause-rising c = (saved c).rising

saved_all : (c : goal.After-from_vec) → SavedUpTo c.self.inside.operators.value.items.items (length c.self.inside.operators.value.items.items) c.from_vec.result
saved_all c = subst (λ l. SavedUpTo l (length l) c.from_vec.result) (c.as_slice-operators.ensures.value ∙ ap (λ s. s.items.items) c.deref.ensures) (saved c)

pub returns-clause-exact : goal.returns-clause-exact
returns-clause-exact c = subst (λ p. AreStoredRows p c.from_vec.result) c.self.view_is (rows_of c.self.inside.operators.value.items.items c.from_vec.result (saved_all c))

pub returns-clause-kept : goal.returns-clause-kept
returns-clause-kept c = subst (λ p. AreRowsKept p c.from_vec.result) c.self.view_is (λ trace stand.
    kept_of_trace trace (all_operators (formulas_of_guards c.self.inside.guards.value.items)) c.self.inside.operators.value.items.items c.from_vec.result c.self.invariant.0.kept stand (saved_all c))
