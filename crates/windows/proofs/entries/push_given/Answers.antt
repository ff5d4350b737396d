use Rattle.windows.proofs.Vocabulary.{◌∙◌, ◌⊎◌, Contains, sym, false≢true, GivesRow, GivesSomeRow, RowSurvives, AreTables}
use Rattle.windows.proofs.EntryLemmas.{given_more, gives_all, gives_more, gives_no_more}
use Rattle.windows.proofs.entries.push_given.Goals as goal

pub loop-row-preserved-in_ok-push : goal.loop-row-preserved-in_ok-push
loop-row-preserved-in_ok-push c =
    let given = c.is_given.ensures.given.0 c.if-is_given.true in (
      gives_more c.args.interval c.args.now (RowSurvives c.args.surviving.now) (λ row. Contains c.args.out.now.items row
          ⊎ GivesRow c.args.interval c.args.now (RowSurvives c.args.surviving.now) c.args.entries.now.entries row)
          (c.in-Some.row.now, c.in-Some.times.now) c.loop-row.row-iterator c.next.new.self c.in-Some.ensures.steps c.loop-row.out.items c.loop-row.invariant.0
          c.push.new.self.items c.in_ok-duplicate.field-0 c.in_ok-duplicate.ensures given.0 given.1 c.in_ok-push.ensures.items,
      given_more c.args.interval c.args.now (AreTables c.args.surviving.now) (GivesSomeRow c.args.interval c.args.now c.args.entries.now.entries) (c.in-Some.row.now, c.in-Some.times.now)
          c.loop-row.row-iterator c.next.new.self c.in-Some.ensures.steps
          c.is_given.ensures.tables c.loop-row.invariant.1,
    )

pub loop-row-preserved : goal.loop-row-preserved
loop-row-preserved c = (
  gives_no_more c.args.interval c.args.now (RowSurvives c.args.surviving.now) (λ row. Contains c.args.out.now.items row
      ⊎ GivesRow c.args.interval c.args.now (RowSurvives c.args.surviving.now) c.args.entries.now.entries row)
      (c.in-Some.row.now, c.in-Some.times.now) c.loop-row.row-iterator c.next.new.self c.in-Some.ensures.steps c.loop-row.out.items c.loop-row.invariant.0
      (λ both. false≢true (sym c.if-is_given.false ∙ c.is_given.ensures.given.1 both)),
  given_more c.args.interval c.args.now (AreTables c.args.surviving.now) (GivesSomeRow c.args.interval c.args.now c.args.entries.now.entries) (c.in-Some.row.now, c.in-Some.times.now)
      c.loop-row.row-iterator c.next.new.self c.in-Some.ensures.steps
      c.is_given.ensures.tables c.loop-row.invariant.1,
)

pub returns-clause-rows : goal.returns-clause-rows
returns-clause-rows c =
    gives_all c.args.interval c.args.now (RowSurvives c.args.surviving.now) (λ row. Contains c.args.out.now.items row
    ⊎ GivesRow c.args.interval c.args.now (RowSurvives c.args.surviving.now) c.args.entries.now.entries row)
    c.loop-row.row-iterator c.loop-row.out.items c.in-None.ensures.steps.0 c.loop-row.invariant.0
