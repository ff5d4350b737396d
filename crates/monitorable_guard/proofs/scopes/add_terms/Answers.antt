use Rattle.monitorable_guard.proofs.Vocabulary.{◌≡◌, ◌+◌, ◌∷◌, [], ◌++◌, List, take, sym, ap, subst, ◌∙◌, Contains, take_all, take_more, Term, Var, AddsVariables, adds_term}
use Rattle.monitorable_guard.proofs.scopes.add_terms.Goals as goal

pub loop-term-preserved : goal.loop-term-preserved
loop-term-preserved c =
    let terms = c.args.terms.now in
    let term : Term = c.term-item.result in
    let more : take (c.loop-term.term-index + 1) terms ≡ take c.loop-term.term-index terms ++ term ∷ [] =
    take_more terms c.loop-term.term-index term c.loop-term-test.true ∙ ap (λ t. take c.loop-term.term-index terms ++ t ∷ []) (sym c.term-item.is) in
    subst (λ (ts : List Term). AddsVariables (λ y. Contains ts (Var y)) c.args.all.now.items c.add_term.new.all.items) (sym more)
    (adds_term (take c.loop-term.term-index terms) term c.loop-term.invariant c.in_ok-add_term.ensures)

pub returns : goal.returns
returns c =
    subst (λ (ts : List Term). AddsVariables (λ y. Contains ts (Var y)) c.args.all.now.items c.loop-term.all.items)
    (take_all c.loop-term.term-index c.args.terms.now c.loop-term-test.false) c.loop-term.invariant
