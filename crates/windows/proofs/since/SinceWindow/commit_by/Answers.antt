use Rattle.windows.proofs.Vocabulary.{◌≡◌, ◌∙◌, All, ap, length, subst, sym, on_ok_weaker, IsCommittedBy, SurvivesFor}
use Rattle.valuations.specs.machine.Tables.{IsTable, Relation}
use Rattle.windows.proofs.since.SinceWindow.commit_by.Goals as goal

pub commit_rows-requires-clause-fit : goal.commit_rows-requires-clause-fit
commit_rows-requires-clause-fit c =
    let columns = ap (λ (t : Relation). t.columns) c.in_ok-copy.ensures ∙ c.requires.right_columns in
    subst (λ l. All (λ row. length row ≡ length c.args.self.now.columns) l) (sym c.into_rows.ensures.rows)
    (subst (λ l. All (λ row. length row ≡ length l) c.in_ok-copy.copy.rows) columns c.into_rows.ensures.table.fits)

pub returns-clause-ok : goal.returns-clause-ok
returns-clause-ok c =
    let rows = c.into_rows.ensures.rows ∙ ap (λ (t : Relation). t.rows) c.in_ok-copy.ensures in
    let right : ◌≡◌ {A = Relation} (record { columns = c.args.self.now.columns; rows = c.into_rows.result.items }) c.args.right.now = λ i. record { columns = sym c.requires.right_columns i; rows = rows i } in
    on_ok_weaker c.commit_rows.result
    (subst (λ (t : Relation). IsCommittedBy c.args.self.now c.args.time (SurvivesFor c.args.surviving.now) t c.commit_rows.new.self) right) c.commit_rows.ensures.ok
