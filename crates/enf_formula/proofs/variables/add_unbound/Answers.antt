use Rattle.enf_formula.proofs.Vocabulary.{List, get_or, take, sym, subst, Contains, true≢false, ◌∙◌, take_all, take_more, VarId, AddsVariables}
use Rattle.enf_formula.proofs.Gathering.{IsUnbound, adds_bound, adds_unbound, bound_decides}
use Rattle.enf_formula.proofs.variables.add_unbound.Goals as goal

pub loop-x-preserved-then-contains : goal.loop-x-preserved-then-contains
loop-x-preserved-then-contains c =
    let xs = c.args.xs.now in
    let i = c.loop-x.x-index in
    let x : VarId = get_or xs i (record { 0 = 0 }) in
    let there : Contains c.args.bound.now x = (bound_decides c.args.bound.now x).0 (sym c.contains.ensures.value ∙ c.if-contains.true) in
    subst (λ (ys : List VarId). AddsVariables (IsUnbound c.args.bound.now ys) c.args.found.now.keys c.loop-x.found.keys) (sym (take_more xs i (record { 0 = 0 }) c.loop-x-test.true))
    (adds_bound c.args.bound.now (take i xs) x there c.loop-x.invariant)

pub loop-x-preserved : goal.loop-x-preserved
loop-x-preserved c =
    let xs = c.args.xs.now in
    let i = c.loop-x.x-index in
    let x : VarId = get_or xs i (record { 0 = 0 }) in
    let out : Contains c.args.bound.now x → ⊥ = λ there. true≢false (sym ((bound_decides c.args.bound.now x).1 there) ∙ sym c.contains.ensures.value ∙ c.if-contains.false) in
    subst (λ (ys : List VarId). AddsVariables (IsUnbound c.args.bound.now ys) c.args.found.now.keys c.add.new.found.keys) (sym (take_more xs i (record { 0 = 0 }) c.loop-x-test.true))
    (adds_unbound c.args.bound.now (take i xs) x out c.loop-x.invariant c.in_ok-add.ensures)

pub returns : goal.returns
returns c =
    subst (λ (ys : List VarId). AddsVariables (IsUnbound c.args.bound.now ys) c.args.found.now.keys c.loop-x.found.keys) (take_all c.loop-x.x-index c.args.xs.now c.loop-x-test.false)
    c.loop-x.invariant
