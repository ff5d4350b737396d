use Rattle.enf_formula.proofs.Vocabulary.{◌≡◌, ◌+◌, ◌∷◌, [], ◌++◌, List, take, sym, ap, subst, ◌∙◌, Contains, take_all, take_more, Term, Var, AddsVariables}
use Rattle.enf_formula.proofs.Gathering.{adds_term}
use Rattle.enf_formula.proofs.variables.add_all.Goals as goal

pub loop-term-preserved : goal.loop-term-preserved
loop-term-preserved c =
    let terms = c.args.terms.now in
    let term : Term = c.term-item.result in
    let more : take (c.loop-term.term-index + 1) terms ≡ take c.loop-term.term-index terms ++ term ∷ [] =
    take_more terms c.loop-term.term-index term c.loop-term-test.true ∙ ap (λ t. take c.loop-term.term-index terms ++ t ∷ []) (sym c.term-item.is) in
    subst (λ (ts : List Term). AddsVariables (λ y. Contains ts (Var y)) c.args.found.now.keys c.add_term.new.found.keys) (sym more)
    (adds_term (take c.loop-term.term-index terms) term c.loop-term.invariant c.in_ok-add_term.ensures)

pub returns : goal.returns
returns c =
    subst (λ (ts : List Term). AddsVariables (λ y. Contains ts (Var y)) c.args.found.now.keys c.loop-term.found.keys)
    (take_all c.loop-term.term-index c.args.terms.now c.loop-term-test.false) c.loop-term.invariant
