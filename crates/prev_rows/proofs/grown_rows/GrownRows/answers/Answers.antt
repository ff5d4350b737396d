use Rattle.prev_rows.proofs.Vocabulary.{◌↔◌, ◌-◌, IsTrue, subst, AnswersBy, GivesLast, IsIn, SurvivesFor}
use Rattle.prev_rows.proofs.GrownLemmas.{answers_near}
use Rattle.windows.specs.declared.surviving_rows.Surviving.TheVariants as seen
use Rattle.prev_rows.proofs.grown_rows.GrownRows.answers.Goals as goal

pub returns-then-has : goal.returns-then-has
returns-then-has g c =
    let v = g.V.Lookup.valuation c.args.v.now in
    let near : IsIn c.self.inside.interval (c.args.time - c.self.inside.window.last) =
    subst (λ at. IsIn c.self.inside.interval (c.args.time - at)) c.last-last.ensures (c.has.ensures.0 c.if-has.true) in
    subst (λ s. IsTrue c.answers.result ↔ GivesLast s.interval c.args.time s.last v) c.self.view_is
    (answers_near c.self.inside.interval c.self.inside.window c.self.invariant.0 c.self.inside.none c.self.invariant.2 c.args.time v near (IsTrue c.answers.result)
    (subst (λ at. IsTrue c.answers.result ↔ AnswersBy c.self.inside.window at (SurvivesFor seen.All) c.self.inside.none v) c.last-last.ensures c.answers.ensures))
