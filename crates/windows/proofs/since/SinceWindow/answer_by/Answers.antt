use Rattle.windows.proofs.Vocabulary.{◌≡◌, ◌∙◌, ◌↔◌, ◌⊎◌, ⊎_elim, List, All, Contains, length, sym, ap, subst, Valuation, Value, ok_both, none_in_nil, table_row-length, HasValuation, GivesRow}
use Rattle.windows.proofs.Vocabulary.{RowSurvives, AnswersBy, FitsColumns, SurvivesFor}
use Rattle.windows.proofs.WindowLemmas.{answer_rows, fit_all, given_fits}
use Rattle.windows.proofs.since.SinceWindow.answer_by.Goals as goal

pub from_rows-requires-clause-fits : goal.from_rows-requires-clause-fits
from_rows-requires-clause-fits c =
    let same = ap (λ w. w.columns) c.self.view_is in
    subst (λ l. All (λ row. length row ≡ length l) c.push_now.new.out.items) (sym c.in_ok-duplicate.ensures)
    (fit_all (length c.self.inside.columns) c.push_now.new.out.items (λ row there. ⊎_elim
    (λ before. ⊎_elim (λ none. absurd (none_in_nil row (subst (λ l. Contains l row) c.new-rows.ensures.items none)))
    (λ g. given_fits c.self.inside.interval c.self.inside.interval c.self.inside.columns c.self.inside.last c.args.time c.self.inside.entries.entries c.args.surviving.now
    c.self.invariant.distinct c.self.invariant.kept
    (subst (λ l. FitsColumns l c.args.surviving.now) (sym same) c.requires.surviving_columns) c.in_ok-push_given.ensures.tables row g)
    ((c.in_ok-push_given.ensures.rows row).0 before))
    (λ now. table_row-length c.args.right.now row (c.push_now.ensures.table now.0) now.1 ∙ ap length (c.requires.right_columns ∙ sym same))
    ((c.in_ok-push_now.ensures.rows row).0 there)))

pub returns-clause-rows : goal.returns-clause-rows
returns-clause-rows c =
    let same = ap (λ w. w.columns) c.self.view_is in
    ok_both c.from_rows.result _ _ (λ t. (v : Valuation) → HasValuation t v ↔ AnswersBy c.args.self.now c.args.time (SurvivesFor c.args.surviving.now) c.args.right.now v)
    c.from_rows.ensures.columns c.from_rows.ensures.rows
    (λ t columns rows. answer_rows c.args.self.now c.self.inside.interval c.self.inside.columns c.self.inside.last c.args.time c.self.inside.entries.entries c.self.invariant.distinct
    c.self.invariant.kept c.self.view_is
    c.args.surviving.now c.args.right.now c.push_given.new.out.items c.push_now.new.out.items t (subst (λ l. FitsColumns l c.args.surviving.now) (sym same) c.requires.surviving_columns)
    c.in_ok-push_given.ensures.tables
    (c.requires.right_columns ∙ sym same)
    (subst (λ l. (row : List Value) → Contains c.push_given.new.out.items row ↔ (Contains l row
    ⊎ GivesRow c.self.inside.interval c.args.time (RowSurvives c.args.surviving.now) c.self.inside.entries.entries row)) c.new-rows.ensures.items c.in_ok-push_given.ensures.rows)
    c.in_ok-push_now.ensures.rows (columns ∙ c.in_ok-duplicate.ensures) rows)
