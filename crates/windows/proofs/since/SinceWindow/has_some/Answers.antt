use Rattle.windows.proofs.Vocabulary.{◌≡◌, ◌∙◌, ◌↔◌, ⊎_elim, All, IfSome, IsTrue, List, Contains, length, ap, refl, subst, sym, false≢true, IsIn, Value, FitsColumns, GivesRow, SurvivesUnder}
use Rattle.windows.proofs.Vocabulary.{are_cells_as_bound, cells}
use Rattle.windows.specs.machine.RowIndexes.{IsIndexOf}
use Rattle.windows.specs.machine.WindowEntries.{rows_of}
use Rattle.windows.proofs.BoundAnswerLemmas.{IsGivenUnder, IsRightUnder, given_is_some, right_is_some, some_is_one}
use Rattle.windows.proofs.EntryLemmas.{entries_fit}
use Rattle.windows.proofs.since.SinceWindow.has_some.Goals as goal

pub has_given_by-requires-clause-indexed : goal.has_given_by-requires-clause-indexed
has_given_by-requires-clause-indexed g c =
    subst (λ l. IfSome c.self.inside.index (IsIndexOf l (rows_of c.self.inside.entries.entries))) (sym c.as_slice.ensures) c.self.invariant.indexed

pub has_given_by-requires-clause-fit : goal.has_given_by-requires-clause-fit
has_given_by-requires-clause-fit g c = subst (λ l. All (λ e. length e.0 ≡ length l) c.self.inside.entries.entries) (sym c.as_slice.ensures)
    (entries_fit (length c.self.inside.columns) c.self.inside.last c.self.inside.entries.entries c.self.invariant.kept)

pub returns-then-has_now_under : goal.returns-then-has_now_under
returns-then-has_now_under g c =
    let now = subst (λ l. IsTrue c.has_now_under.result ↔ (IsIn c.self.inside.interval 0 × ((row : List Value) × Contains c.args.right.now.rows row
    × IsTrue (are_cells_as_bound (cells l (g.V.Lookup.valuation c.args.v.now)) row)))) c.as_slice.ensures c.has_now_under.ensures.some in
    let is = now.0 c.if-has_now_under.true in (
      λ _. right_is_some c.args.self.now c.self.inside.interval c.self.inside.columns c.self.inside.last c.args.time c.self.inside.entries.entries c.self.invariant.distinct
          c.self.invariant.kept c.self.view_is c.args.surviving.now c.args.right.now (g.V.Lookup.valuation c.args.v.now)
          (subst (λ l. FitsColumns l c.args.surviving.now) (sym (ap (λ w. w.columns) c.self.view_is)) c.requires.surviving_columns) (c.requires.right_columns ∙ sym (ap (λ w. w.columns) c.self.view_is)) (c.has_now_under.ensures.table is.0) is,
      λ _. refl,
    )

pub returns : goal.returns
returns g c =
    let now = subst (λ l. IsTrue c.has_now_under.result ↔ (IsIn c.self.inside.interval 0 × ((row : List Value) × Contains c.args.right.now.rows row
    × IsTrue (are_cells_as_bound (cells l (g.V.Lookup.valuation c.args.v.now)) row)))) c.as_slice.ensures c.has_now_under.ensures.some in
    let given = subst (λ l. IsTrue c.has_given_by.result ↔ ((row : List Value) × GivesRow c.self.inside.interval c.args.time
    (SurvivesUnder c.args.surviving.now (cells l (g.V.Lookup.valuation c.args.v.now))) c.self.inside.entries.entries row)) c.as_slice.ensures c.has_given_by.ensures.given in (
      λ yes. given_is_some c.args.self.now c.self.inside.interval c.self.inside.columns c.self.inside.last c.args.time c.self.inside.entries.entries c.self.invariant.distinct
          c.self.invariant.kept c.self.view_is c.args.surviving.now c.args.right.now (g.V.Lookup.valuation c.args.v.now)
          (subst (λ l. FitsColumns l c.args.surviving.now) (sym (ap (λ w. w.columns) c.self.view_is)) c.requires.surviving_columns) (c.requires.right_columns ∙ sym (ap (λ w. w.columns) c.self.view_is)) c.has_given_by.ensures.tables (given.0 yes),
      λ some. ⊎_elim (λ right. absurd (false≢true (sym c.if-has_now_under.false ∙ now.1 right))) (λ one. given.1 one)
          (some_is_one c.args.self.now c.self.inside.interval c.self.inside.columns c.self.inside.last c.args.time c.self.inside.entries.entries c.self.invariant.distinct
          c.self.invariant.kept c.self.view_is c.args.surviving.now c.args.right.now (g.V.Lookup.valuation c.args.v.now)
          (subst (λ l. FitsColumns l c.args.surviving.now) (sym (ap (λ w. w.columns) c.self.view_is)) c.requires.surviving_columns) (c.requires.right_columns ∙ sym (ap (λ w. w.columns) c.self.view_is)) c.has_given_by.ensures.tables c.has_now_under.ensures.table some),
    )
