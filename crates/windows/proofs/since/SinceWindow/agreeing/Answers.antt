use Rattle.windows.proofs.Vocabulary.{◌≡◌, ◌∙◌, ◌↔◌, ◌⊎◌, [], IsTrue, List, All, Contains, length, sym, ap, subst, IsIn, Valuation, Value, ok_both, AgreesWhereBound, HasValuation, GivesRow}
use Rattle.windows.proofs.Vocabulary.{are_cells_as_bound, cells, SurvivesUnder, AnswersBy, FitsColumns, SurvivesFor, IfSome}
use Rattle.windows.specs.machine.RowIndexes.{IsIndexOf}
use Rattle.windows.specs.machine.WindowEntries.{rows_of}
use Rattle.windows.proofs.BoundAnswerLemmas.{answer_under, long_under}
use Rattle.windows.proofs.EntryLemmas.{entries_fit}
use Rattle.windows.proofs.WindowLemmas.{fit_all}
use Rattle.windows.proofs.since.SinceWindow.agreeing.Given.{Over}
use Rattle.windows.proofs.since.SinceWindow.agreeing.Goals as goal

middles : (g : Over) (c : goal.In_ok-duplicate g) → (row : List Value) → Contains c.push_given_by.new.out.items row
    ↔ (Contains [] row ⊎ GivesRow c.self.inside.interval c.args.time (SurvivesUnder c.args.surviving.now (cells c.self.inside.columns (g.V.Lookup.valuation c.args.v.now)))
    c.self.inside.entries.entries row)
middles g c = subst (λ b. (row : List Value) → Contains c.push_given_by.new.out.items row ↔
    (Contains [] row ⊎ GivesRow c.self.inside.interval c.args.time (SurvivesUnder c.args.surviving.now b) c.self.inside.entries.entries row))
    (ap (λ l. cells l (g.V.Lookup.valuation c.args.v.now)) c.as_slice.ensures)
    (subst (λ l. (row : List Value) → Contains c.push_given_by.new.out.items row ↔ (Contains l row
    ⊎ GivesRow c.self.inside.interval c.args.time (SurvivesUnder c.args.surviving.now (cells c.as_slice.result.now (g.V.Lookup.valuation c.args.v.now))) c.self.inside.entries.entries
    row))
    c.new-rows.ensures.items c.in_ok-push_given_by.ensures.rows)

outs : (g : Over) (c : goal.In_ok-duplicate g) → (row : List Value) → Contains c.push_now_under.new.out.items row
    ↔ (Contains c.push_given_by.new.out.items row ⊎ (IsIn c.self.inside.interval 0 ×
    (Contains c.args.right.now.rows row × IsTrue (are_cells_as_bound (cells c.self.inside.columns (g.V.Lookup.valuation c.args.v.now)) row))))
outs g c = subst (λ l. (row : List Value) → Contains c.push_now_under.new.out.items row
    ↔ (Contains c.push_given_by.new.out.items row ⊎ (IsIn c.self.inside.interval 0 ×
    (Contains c.args.right.now.rows row × IsTrue (are_cells_as_bound (cells l (g.V.Lookup.valuation c.args.v.now)) row)))))
    c.as_slice.ensures c.in_ok-push_now_under.ensures.rows

pub push_given_by-requires-clause-indexed : goal.push_given_by-requires-clause-indexed
push_given_by-requires-clause-indexed g c =
    subst (λ l. IfSome c.self.inside.index (IsIndexOf l (rows_of c.self.inside.entries.entries))) (sym c.as_slice.ensures) c.self.invariant.indexed

pub push_given_by-requires-clause-fit : goal.push_given_by-requires-clause-fit
push_given_by-requires-clause-fit g c = subst (λ l. All (λ e. length e.0 ≡ length l) c.self.inside.entries.entries) (sym c.as_slice.ensures)
    (entries_fit (length c.self.inside.columns) c.self.inside.last c.self.inside.entries.entries c.self.invariant.kept)

pub from_rows-requires-clause-fits : goal.from_rows-requires-clause-fits
from_rows-requires-clause-fits g c =
    let same = ap (λ w. w.columns) c.self.view_is in
    subst (λ l. All (λ row. length row ≡ length l) c.push_now_under.new.out.items) (sym c.in_ok-duplicate.ensures)
    (fit_all (length c.self.inside.columns) c.push_now_under.new.out.items (long_under c.args.self.now c.self.inside.interval c.self.inside.columns c.self.inside.last c.args.time
    c.self.inside.entries.entries c.self.invariant.distinct c.self.invariant.kept c.self.view_is
    c.args.surviving.now c.args.right.now (g.V.Lookup.valuation c.args.v.now) c.push_given_by.new.out.items c.push_now_under.new.out.items
    (subst (λ l. FitsColumns l c.args.surviving.now) (sym same) c.requires.surviving_columns) (λ some. c.in_ok-push_given_by.ensures.tables)
    (c.requires.right_columns ∙ sym same) c.push_now_under.ensures.table (middles g c) (outs g c)))

pub returns-clause-rows : goal.returns-clause-rows
returns-clause-rows g r =
    let c : goal.In_ok-duplicate g = r.before in
    let same = ap (λ w. w.columns) c.self.view_is in
    ok_both r.from_rows.result _ _ (λ t. (w : Valuation) → HasValuation t w ↔ (AnswersBy r.args.self.now r.args.time (SurvivesFor r.args.surviving.now) r.args.right.now w
    × AgreesWhereBound r.args.self.now.columns (g.V.Lookup.valuation r.args.v.now) w))
    r.from_rows.ensures.columns r.from_rows.ensures.rows
    (λ t columns rows. answer_under c.args.self.now c.self.inside.interval c.self.inside.columns c.self.inside.last c.args.time c.self.inside.entries.entries c.self.invariant.distinct
    c.self.invariant.kept c.self.view_is
    c.args.surviving.now c.args.right.now (g.V.Lookup.valuation c.args.v.now) c.push_given_by.new.out.items c.push_now_under.new.out.items
    (subst (λ l. FitsColumns l c.args.surviving.now) (sym same) c.requires.surviving_columns) (λ some. c.in_ok-push_given_by.ensures.tables)
    (c.requires.right_columns ∙ sym same) c.push_now_under.ensures.table (middles g c) (outs g c) t (columns ∙ c.in_ok-duplicate.ensures) rows)
