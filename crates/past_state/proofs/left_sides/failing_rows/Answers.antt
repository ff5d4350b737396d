use Rattle.past_state.proofs.Vocabulary.{◌≡◌, ◌∙◌, Contains, IfOk-weaker, sym, subst}
use Rattle.past_state.proofs.FirstMemoryLemmas.{columns_same}
use Rattle.past_state.proofs.left_sides.failing_rows.Goals as goal

pub returns-then-ne-clause-rows : goal.returns-then-ne-clause-rows
returns-then-ne-clause-rows c = IfOk-weaker c.rows_of_parts.result _ _ (λ t rows v keeps. (λ has. ((rows v).0 has).1, λ has. (rows v).1 (keeps, has))) c.rows_of_parts.ensures.rows

pub returns-clause-columns : goal.returns-clause-columns
returns-clause-columns c =
    sym c.columns.ensures.columns ∙ columns_same c.columns.result.now c.columns-2.result.now (sym c.ne.ensures ∙ c.if-ne.false) ∙ c.columns-2.ensures
