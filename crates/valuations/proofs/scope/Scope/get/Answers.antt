use Rattle.valuations.proofs.Vocabulary.{◌≡◌, ◌+◌, ◌-◌, ◌<◌, ap, sym, subst, ◌∙◌, length, take, arith, eqb-true, eqb-false, value_at, bound_by, bound_in}
use Rattle.valuations.proofs.ColumnLaws.{same_variable}
use Rattle.valuations.proofs.PartLemmas.{bound_here, bound_before}
use Rattle.valuations.proofs.scope.Scope.get.Goals as goal

pub returns-then-eq : goal.returns-then-eq
returns-then-eq c =
    let items = c.self.inside.bindings.items in
    let base = bound_in c.self.inside.below.now in
    let place : c.loop-place.place ≡ c.loop-place.place - 1 + 1 = omega arith in
    let within : c.loop-place.place - 1 < length items = omega (arith, c.loop-place.invariant.0) in
    let so_far : value_at (bound_by base items) c.args.variable ≡ value_at (bound_by base (take (c.loop-place.place - 1 + 1) items)) c.args.variable = subst
    (λ n. value_at (bound_by base items) c.args.variable ≡ value_at (bound_by base (take n items)) c.args.variable) place c.loop-place.invariant.1 in
    sym (bound_here base items (c.loop-place.place - 1) c.index.result.now c.args.variable within c.index.ensures so_far
    (same_variable _ _ (eqb-true _ _ (sym c.eq.ensures ∙ c.if-eq.true)))) ∙ ap (λ v. value_at v c.args.variable) c.self.view_is

pub loop-place-preserved : goal.loop-place-preserved
loop-place-preserved c =
    let items = c.self.inside.bindings.items in
    let base = bound_in c.self.inside.below.now in
    let place : c.loop-place.place ≡ c.loop-place.place - 1 + 1 = omega arith in
    let within : c.loop-place.place - 1 < length items = omega (arith, c.loop-place.invariant.0) in
    let so_far : value_at (bound_by base items) c.args.variable ≡ value_at (bound_by base (take (c.loop-place.place - 1 + 1) items)) c.args.variable = subst
    (λ n. value_at (bound_by base items) c.args.variable ≡ value_at (bound_by base (take n items)) c.args.variable) place c.loop-place.invariant.1 in (
      omega (arith, c.loop-place.invariant.0),
      bound_before base items (c.loop-place.place - 1) c.index.result.now c.args.variable within c.index.ensures so_far
          (λ same. eqb-false _ _ (sym c.eq.ensures ∙ c.if-eq.false) (ap (λ x. x.0) same)),
    )

pub returns : goal.returns
returns c =
    let items = c.self.inside.bindings.items in
    let base = bound_in c.self.inside.below.now in
    let place : c.loop-place.place ≡ 0 = omega arith in
    c.get.ensures ∙ sym (subst (λ n. value_at (bound_by base items) c.args.variable ≡ value_at (bound_by base (take n items)) c.args.variable) place c.loop-place.invariant.1) ∙ ap
    (λ v. value_at v c.args.variable) c.self.view_is
