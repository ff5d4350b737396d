use Rattle.past_state.proofs.Vocabulary.{Contains, sym, subst, IfOk-weaker, tree_of, AreFreeVariables, AreOpen, CanEvaluate, HasKnownValues, AreHoldingRows, none_in_nil, AllComeFrom}
use Rattle.past_state.proofs.ColumnLemmas.{open_free, known_from}
use Rattle.past_state.proofs.row_filters.all_rows.Goals as goal

pub evaluate_at-requires : goal.evaluate_at-requires
evaluate_at-requires g c = subst (λ b. CanEvaluate (tree_of b.formula) b.bound (g.P.Past.tables c.args.past.now) c.empty.result) (sym c.guard-guard.ensures) (record {
  fresh = c.requires.fresh;
  tabled = c.requires.tabled;
  binds = λ x there. absurd (none_in_nil x (subst (λ l. Contains l x) c.requires.bound there));
})

pub returns-clause-free : goal.returns-clause-free
returns-clause-free g c = IfOk-weaker c.evaluate_at-2.result _ (λ t. AreFreeVariables (tree_of c.args.guard.now.formula) t.columns)
    (λ t opened. open_free (tree_of c.args.guard.now.formula) c.args.guard.now.bound t.columns c.requires.bound
    (subst (λ b. AreOpen (tree_of b.formula) b.bound t.columns) c.guard-guard.ensures opened)) c.evaluate_at-2.ensures.columns

pub returns-clause-rows : goal.returns-clause-rows
returns-clause-rows g c = IfOk-weaker c.evaluate_at-2.result _ _
    (λ t holds w binds. subst (λ b. AreHoldingRows c.args.events.now (g.P.Past.tables c.args.past.now) (tree_of b.formula) b.bound c.empty.result t) c.guard-guard.ensures holds w
    (λ x there. absurd (none_in_nil x (subst (λ l. Contains l x) c.requires.bound there))) binds) c.evaluate_at-2.ensures.rows

pub returns-clause-known : goal.returns-clause-known
returns-clause-known g c = IfOk-weaker c.evaluate_at-2.result _ (AllComeFrom c.args.events.now (g.P.Past.tables c.args.past.now) (tree_of c.args.guard.now.formula))
    (λ t known. known_from c.args.events.now (g.P.Past.tables c.args.past.now) (tree_of c.args.guard.now.formula) c.args.guard.now.bound c.empty.result t c.requires.bound
    (subst (λ b. HasKnownValues c.args.events.now (g.P.Past.tables c.args.past.now) (tree_of b.formula) b.bound c.empty.result t) c.guard-guard.ensures known)) c.evaluate_at-2.ensures.known
