use Rattle.past_state.proofs.Vocabulary.{◌∙◌, ◌++◌, ◌-◌, ◌≤◌, ◌∷◌, [], length, map, take, ap, sym, subst, arith, length-map, length-reverse, table_at, tables_at, AreStepTables, CanStep}
use Rattle.past_state.proofs.LazyTableLemmas.{asked_tables, ran_more}
use Rattle.past_state.proofs.OperatorRunLemmas.{ready}
use Rattle.past_state.proofs.operators.run.Goals as goal

pub step_tables-requires : goal.step_tables-requires
step_tables-requires c =
    subst (λ l. CanStep l c.operator-item.result.memory)
    (sym (c.of-past.ensures ∙ asked_tables c.args.operators.now c.args.time c.as_slice.ensures.value c.as_slice-in-loop-operator.ensures.value))
    (ready c.args.events.now c.args.time c.args.operators.now c.loop-operator.operator-index c.operator-item.result c.loop-operator.steps.items
    (tables_at c.args.operators.now c.loop-operator.steps.items c.args.time c.loop-operator.places.items) c.requires.ordered c.loop-operator-test.true c.operator-item.is
    c.loop-operator.invariant.runs).can

pub overflow_sub-len : goal.overflow_sub-len
overflow_sub-len c =
    let tables = tables_at c.args.operators.now c.loop-operator.steps.items c.args.time c.loop-operator.places.items in
    let f = table_at c.args.operators.now c.loop-operator.steps.items c.args.time in
    let enough : c.operator-item.result.taken ≤ length tables = (ready c.args.events.now c.args.time c.args.operators.now c.loop-operator.operator-index c.operator-item.result
    c.loop-operator.steps.items tables
    c.requires.ordered c.loop-operator-test.true c.operator-item.is c.loop-operator.invariant.runs).enough in
    omega (arith, enough, length-reverse (map f c.loop-operator.places.items), length-map c.loop-operator.places.items f, c.len.ensures)

pub loop-operator-preserved : goal.loop-operator-preserved
loop-operator-preserved c =
    let tables_are = c.of-past.ensures ∙ asked_tables c.args.operators.now c.args.time c.as_slice.ensures.value c.as_slice-in-loop-operator.ensures.value in
    ran_more c.args.events.now c.args.time c.args.operators.now c.loop-operator.operator-index c.operator-item.result c.in_ok-step.step c.loop-operator.steps.items
    c.push-in-loop-operator.new.self.items
    c.loop-operator.places.items c.push.new.self.items c.requires.ordered c.requires.later c.loop-operator-test.true c.operator-item.is c.loop-operator.invariant
    (subst (λ l. AreStepTables c.args.events.now l c.operator-item.result.memory c.in_ok-step.step) tables_are c.in_ok-step.ensures)
    (c.in_ok-push.ensures.items ∙ ap (λ l. l ++ c.len-in-loop-operator.result ∷ []) (c.truncate.ensures.items ∙ ap
    (λ n. take (n - c.operator-item.result.taken) c.loop-operator.places.items) (c.len.ensures ∙ sym c.as_slice-in-loop-operator.ensures.len ∙ ap length
    c.as_slice-in-loop-operator.ensures.value))
    ∙ ap (λ n. take (length c.loop-operator.places.items - c.operator-item.result.taken) c.loop-operator.places.items ++ n ∷ [])
    (c.len-in-loop-operator.ensures ∙ sym c.as_slice.ensures.len ∙ ap length c.as_slice.ensures.value))
    c.in_ok-push-2.ensures.items
