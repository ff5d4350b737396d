use Rattle.past_state.proofs.Vocabulary.{sym, subst, ◌∙◌, tree_of, Contains, AreSurvivors, CanAskLeft}
use Rattle.past_state.proofs.ColumnLemmas.{denied_within, failing_in, surviving_in}
use Rattle.past_state.proofs.UntouchedLemmas.{all_survive}
use Rattle.past_state.specs.declared.survivors.Survivors.TheVariants as told
use Rattle.past_state.specs.machine.UntouchedSteps.{KeepsAllRows}
use Rattle.past_state.proofs.left_sides.Left.survivors.Goals as goal

pub returns-then-keeps_all : goal.returns-then-keeps_all
returns-then-keeps_all g c = all_survive c.args.events.now (g.P.Past.tables c.args.past.now) c.args.self.now c.args.window.now
    (subst (λ l. KeepsAllRows l c.args.self.now) (c.as_slice.ensures.events ∙ c.set.ensures) (c.keeps_all.ensures c.if-keeps_all.true))

pub surviving_rows-requires-clause-free : goal.surviving_rows-requires-clause-free
surviving_rows-requires-clause-free g c = λ x free. subst (λ l. Contains l x) (sym c.in_ok-kept-in-ByRow.ensures.columns)
    ((subst (CanAskLeft c.args.window.now.columns (g.P.Past.tables c.args.past.now)) c.in-ByRow.is c.requires).free x free)

pub failing_rows-requires : goal.failing_rows-requires
failing_rows-requires g c =
    denied_within (tree_of c.in-Denied.guard.formula) c.in_ok-denied-in-Denied.denied c.args.window.now.columns c.in_ok-denied-in-Denied.ensures.free
    (subst (CanAskLeft c.args.window.now.columns (g.P.Past.tables c.args.past.now)) c.in-Denied.is c.requires).free

pub returns-in_ok-failing-in-Denied : goal.returns-in_ok-failing-in-Denied
returns-in_ok-failing-in-Denied g c =
    let can = subst (CanAskLeft c.args.window.now.columns (g.P.Past.tables c.args.past.now)) c.in-Denied.is c.requires in
    subst (λ side. AreSurvivors c.args.events.now (g.P.Past.tables c.args.past.now) side c.args.window.now (told.AllBut c.in_ok-failing-in-Denied.failing)) (sym c.in-Denied.is)
    (failing_in c.args.events.now (g.P.Past.tables c.args.past.now) c.in-Denied.guard c.args.window.now c.in_ok-denied-in-Denied.denied c.in_ok-failing-in-Denied.failing
    (denied_within (tree_of c.in-Denied.guard.formula) c.in_ok-denied-in-Denied.denied c.args.window.now.columns c.in_ok-denied-in-Denied.ensures.free can.free)
    c.in_ok-denied-in-Denied.ensures.rows c.in_ok-failing-in-Denied.ensures.columns c.in_ok-failing-in-Denied.ensures.rows)

pub returns-in_ok-rows-in-ByRow : goal.returns-in_ok-rows-in-ByRow
returns-in_ok-rows-in-ByRow g c =
    subst (λ side. AreSurvivors c.args.events.now (g.P.Past.tables c.args.past.now) side c.args.window.now (told.Only c.in_ok-rows-in-ByRow.rows)) (sym c.in-ByRow.is)
    (surviving_in c.args.events.now (g.P.Past.tables c.args.past.now) c.in-ByRow.guard c.args.window.now c.in_ok-kept-in-ByRow.kept c.in_ok-rows-in-ByRow.rows
    c.in_ok-kept-in-ByRow.ensures.columns c.in_ok-kept-in-ByRow.ensures.rows c.in_ok-rows-in-ByRow.ensures.columns c.in_ok-rows-in-ByRow.ensures.rows)
