use Rattle.prev_rows.proofs.Vocabulary.{◌↔◌, ◌-◌, subst, AgreesWhereBound, AnswersBy, GivesLast, HasValuation, IfOk-weaker, IsIn, SurvivesFor, Valuation}
use Rattle.prev_rows.proofs.GrownLemmas.{rows_near}
use Rattle.windows.specs.declared.surviving_rows.Surviving.TheVariants as seen
use Rattle.prev_rows.proofs.grown_rows.GrownRows.rows_under.Goals as goal

pub returns-then-has-clause-rows : goal.returns-then-has-clause-rows
returns-then-has-clause-rows g c =
    let v = g.V.Lookup.valuation c.args.v.now in
    let near : IsIn c.self.inside.interval (c.args.time - c.self.inside.window.last) =
    subst (λ at. IsIn c.self.inside.interval (c.args.time - at)) c.last-last.ensures (c.has.ensures.0 c.if-has.true) in
    IfOk-weaker c.rows_under.result _ (λ t. (w : Valuation) → HasValuation t w ↔ (GivesLast c.args.self.now.interval c.args.time c.args.self.now.last w × AgreesWhereBound c.args.self.now.columns v w))
    (λ t has w. subst (λ s. HasValuation t w ↔ (GivesLast s.interval c.args.time s.last w × AgreesWhereBound s.columns v w)) c.self.view_is
    (rows_near c.self.inside.interval c.self.inside.window c.self.invariant.0 c.self.inside.none c.self.invariant.2 c.args.time w near (HasValuation t w)
    (AgreesWhereBound c.self.inside.window.columns v w)
    (subst (λ at. HasValuation t w ↔ (AnswersBy c.self.inside.window at (SurvivesFor seen.All) c.self.inside.none w × AgreesWhereBound c.self.inside.window.columns v w)) c.last-last.ensures (has w))))
    c.rows_under.ensures.rows
