use Rattle.monitorable_guard.proofs.Vocabulary.{Contains, sym, subst, ◌∙◌, tree_of, bound_in, valuation_part, IsPartOfValuation, part_is, AreOpen, Safe, IsBoundBy}
use Rattle.monitorable_guard.specs.machine.Guards.{BoundFormula}
use Rattle.monitorable_guard.specs.machine.Reordering.{IsReordered, only_formula}
use Rattle.monitorable_guard.proofs.AskedGuards.{numbers_within, asked_can, asked_within, ok_given_holds}
use Rattle.monitorable_guard.proofs.GuardLemmas.{closed, ok_holds}
use Rattle.monitorable_guard.proofs.guard.Guard.holds.Goals as goal

pub invariant_of-past : goal.invariant_of-past
invariant_of-past g c =
    let f = tree_of c.args.self.now.formula in
    let asked = tree_of c.self.inside.asked.formula in
    let numbers = c.as_slice-2.result.now in
    let tables = g.P.Past.tables c.args.past.now in
    let same : IsReordered (only_formula 0 f) asked numbers = subst (λ (b : BoundFormula). IsReordered (only_formula 0 (tree_of b.formula)) asked numbers) c.self.view_is
    (subst (IsReordered (only_formula 0 (tree_of c.self.inside.formula)) asked) (sym c.as_slice-2.ensures.value) c.self.invariant.2) in
    record { within = numbers_within f asked numbers same tables c.requires.can.tabled }

pub holds-requires-clause-ask : goal.holds-requires-clause-ask
holds-requires-clause-ask g c =
    let f = tree_of c.args.self.now.formula in
    let bound = c.args.self.now.bound in
    let asked = tree_of c.self.inside.asked.formula in
    let numbers = c.as_slice-2.result.now in
    let tables = g.P.Past.tables c.args.past.now in
    let scope = valuation_part (bound_in c.args.v.now) c.as_slice.result.now in
    let same : IsReordered (only_formula 0 f) asked numbers = subst (λ (b : BoundFormula). IsReordered (only_formula 0 (tree_of b.formula)) asked numbers) c.self.view_is
    (subst (IsReordered (only_formula 0 (tree_of c.self.inside.formula)) asked) (sym c.as_slice-2.ensures.value) c.self.invariant.2) in
    let part = subst (λ l. IsPartOfValuation (bound_in c.args.v.now) l scope) (c.as_slice.ensures ∙ c.bound.ensures.bound) (part_is (bound_in c.args.v.now) c.as_slice.result.now) in
    let safe : Safe asked (Contains bound) = subst (λ (b : BoundFormula). Safe asked (Contains b.bound)) c.self.view_is c.self.invariant.3 in
    let opens = subst (λ (b : BoundFormula). AreOpen (tree_of b.formula) b.bound c.self.inside.columns) c.self.view_is c.self.invariant.1 in
    asked_can f asked numbers same bound c.self.inside.columns opens (bound_in c.args.v.now) scope part tables safe c.requires.can

pub holds-requires-clause-closed : goal.holds-requires-clause-closed
holds-requires-clause-closed g c =
    let f = tree_of c.args.self.now.formula in
    let bound = c.args.self.now.bound in
    let asked = tree_of c.self.inside.asked.formula in
    let numbers = c.as_slice-2.result.now in
    let tables = g.P.Past.tables c.args.past.now in
    let scope = valuation_part (bound_in c.args.v.now) c.as_slice.result.now in
    let same : IsReordered (only_formula 0 f) asked numbers = subst (λ (b : BoundFormula). IsReordered (only_formula 0 (tree_of b.formula)) asked numbers) c.self.view_is
    (subst (IsReordered (only_formula 0 (tree_of c.self.inside.formula)) asked) (sym c.as_slice-2.ensures.value) c.self.invariant.2) in
    let part = subst (λ l. IsPartOfValuation (bound_in c.args.v.now) l scope) (c.as_slice.ensures ∙ c.bound.ensures.bound) (part_is (bound_in c.args.v.now) c.as_slice.result.now) in
    asked_within f asked numbers same (IsBoundBy scope) (closed f bound (bound_in c.args.v.now) scope part c.requires.can.binds c.requires.test)

pub returns : goal.returns
returns g c =
    let f = tree_of c.args.self.now.formula in
    let bound = c.args.self.now.bound in
    let asked = tree_of c.self.inside.asked.formula in
    let numbers = c.as_slice-2.result.now in
    let tables = g.P.Past.tables c.args.past.now in
    let scope = valuation_part (bound_in c.args.v.now) c.as_slice.result.now in
    let same : IsReordered (only_formula 0 f) asked numbers = subst (λ (b : BoundFormula). IsReordered (only_formula 0 (tree_of b.formula)) asked numbers) c.self.view_is
    (subst (IsReordered (only_formula 0 (tree_of c.self.inside.formula)) asked) (sym c.as_slice-2.ensures.value) c.self.invariant.2) in
    let part = subst (λ l. IsPartOfValuation (bound_in c.args.v.now) l scope) (c.as_slice.ensures ∙ c.bound.ensures.bound) (part_is (bound_in c.args.v.now) c.as_slice.result.now) in
    ok_holds f bound (bound_in c.args.v.now) scope part c.requires.can.binds c.args.events.now tables c.requires.can.tabled c.holds.result c.requires.test
    (ok_given_holds f asked numbers same scope c.args.events.now tables c.holds.result c.holds.ensures)
