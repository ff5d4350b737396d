use Rattle.prev_rows.proofs.Vocabulary.{◌≡◌, ◌↔◌, subst, AgreesWhereBound, GivesLast, HasValuation, IfOk-weaker, Valuation}
use Rattle.prev_rows.proofs.GrownLemmas.{kept_is}
use Rattle.prev_rows.specs.declared.last_rows.Kept.TheVariants.{Grown, Told}
use Rattle.prev_rows.proofs.last_rows.LastRows.rows_under.Goals as goal

pub returns-in-Told-clause-rows : goal.returns-in-Told-clause-rows
returns-in-Told-clause-rows g c =
    let v = g.V.Lookup.valuation c.args.v.now in
    let same : c.in-Told.slot ≡ c.args.self.now = kept_is c.self.inside.kept (Told c.in-Told.slot) c.args.self.now c.in-Told.is c.self.view_is in
    IfOk-weaker c.rows_under.result _ (λ t. (w : Valuation) → HasValuation t w ↔ (GivesLast c.args.self.now.interval c.args.time c.args.self.now.last w × AgreesWhereBound c.args.self.now.columns v w))
    (λ t has w. subst (λ s. HasValuation t w ↔ (GivesLast s.interval c.args.time s.last w × AgreesWhereBound s.columns v w)) same (has w)) c.rows_under.ensures.rows

pub returns-in-Grown-clause-rows : goal.returns-in-Grown-clause-rows
returns-in-Grown-clause-rows g c =
    let v = g.V.Lookup.valuation c.args.v.now in
    let same : c.in-Grown.rows ≡ c.args.self.now = kept_is c.self.inside.kept (Grown c.in-Grown.rows) c.args.self.now c.in-Grown.is c.self.view_is in
    IfOk-weaker c.rows_under-in-Grown.result _ (λ t. (w : Valuation) → HasValuation t w ↔ (GivesLast c.args.self.now.interval c.args.time c.args.self.now.last w × AgreesWhereBound c.args.self.now.columns v w))
    (λ t has w. subst (λ s. HasValuation t w ↔ (GivesLast s.interval c.args.time s.last w × AgreesWhereBound s.columns v w)) same (has w)) c.rows_under-in-Grown.ensures.rows
