use Rattle.monitorable_guard.proofs.Vocabulary.{◌≡◌, ◌∙◌, [], ◌∷◌, ◌++◌, length, ap, sym, subst, arith, false≢true, AddsRows, HoldsNow, filled_from_row}
use Rattle.monitorable_guard.proofs.Vocabulary.{tree_of, bound_in}
use Rattle.monitorable_guard.specs.machine.NeededEvents.{HoldsForArguments, first_conjunct}
use Rattle.monitorable_guard.proofs.NeededEventLemmas.{adds_told, told_ask, told_begins, told_closed}
use Rattle.monitorable_guard.proofs.RowsLemmas.{adds_nothing}
use Rattle.monitorable_guard.proofs.told_rows.gather_if_told.Goals as goal

pub holds_for-requires-clause-ask : goal.holds_for-requires-clause-ask
holds_for-requires-clause-ask g c =
    let long : length c.as_slice-args.result.now ≡ length c.args.columns.now = omega (arith, c.if-args-columns.false) in
    told_ask c.args.present.now.events.now (g.P.Past.tables c.args.present.now.past.now) (bound_in c.args.scope.now) (tree_of c.args.formula.now) c.args.columns.now c.requires.open c.requires.ask
    c.as_slice-args.result.now long

pub holds_for-requires-clause-closed : goal.holds_for-requires-clause-closed
holds_for-requires-clause-closed g c =
    let long : length c.as_slice-args.result.now ≡ length c.args.columns.now = omega (arith, c.if-args-columns.false) in
    told_closed c.args.present.now.events.now (g.P.Past.tables c.args.present.now.past.now) (bound_in c.args.scope.now) (tree_of c.args.formula.now) c.args.columns.now c.requires.open c.requires.ask
    c.as_slice-args.result.now long

pub holds_for-requires-clause-begins : goal.holds_for-requires-clause-begins
holds_for-requires-clause-begins g c =
    let long : length c.as_slice-args.result.now ≡ length c.args.columns.now = omega (arith, c.if-args-columns.false) in
    subst (λ args. HoldsNow c.args.present.now.events.now (g.P.Past.tables c.args.present.now.past.now) (filled_from_row (bound_in c.args.scope.now) c.args.columns.now args)
    (first_conjunct (tree_of c.args.formula.now))) (sym c.as_slice-args.ensures)
    (told_begins c.args.present.now.events.now (g.P.Past.tables c.args.present.now.past.now) (bound_in c.args.scope.now) (tree_of c.args.formula.now) c.args.columns.now c.requires.open c.requires.ask
    c.args.event.now.name c.args.event.now.args (ap length (sym c.as_slice-args.ensures) ∙ long) c.requires.begins c.requires.there)

pub returns-then-args-columns : goal.returns-then-args-columns
returns-then-args-columns g c =
    adds_nothing c.args.columns.now c.args.out.now.items _ (λ w is. let long = is.0 in let same = ap length c.as_slice-args.ensures in omega (arith, c.if-args-columns.true, long, same))

pub returns-then-not-branch : goal.returns-then-not-branch
returns-then-not-branch g c =
    adds_nothing c.args.columns.now c.args.out.now.items _ (λ w is. false≢true (sym c.if-not-branch.true ∙ c.in_ok-holds_for.ensures.1
    (subst (λ args. HoldsNow c.args.present.now.events.now (g.P.Past.tables c.args.present.now.past.now) (filled_from_row (bound_in c.args.scope.now) c.args.columns.now args) (tree_of c.args.formula.now))
    (sym c.as_slice-args.ensures) is.1)))

pub returns : goal.returns
returns g c =
    let E = c.args.present.now.events.now in
    let T = g.P.Past.tables c.args.present.now.past.now in
    let v = bound_in c.args.scope.now in
    let f = tree_of c.args.formula.now in
    let long : length c.as_slice-args.result.now ≡ length c.args.columns.now = omega (arith, c.if-args-columns.false) in
    subst (λ after. AddsRows c.args.columns.now c.args.out.now.items after (HoldsForArguments E T v f c.args.columns.now c.args.event.now.args))
    (sym (c.in_ok-push.ensures.items ∙ ap (λ row. c.args.out.now.items ++ row ∷ []) c.in_ok-duplicate.ensures))
    (adds_told E T v f c.args.columns.now c.requires.open c.requires.ask c.args.out.now.items c.args.event.now.args (ap length (sym c.as_slice-args.ensures) ∙ long)
    (subst (λ args. HoldsNow E T (filled_from_row v c.args.columns.now args) f) c.as_slice-args.ensures (c.in_ok-holds_for.ensures.0 c.if-not-branch.false)))
