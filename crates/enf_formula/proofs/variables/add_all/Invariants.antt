use Rattle.enf_formula.proofs.Vocabulary.{Contains, take, Var, AddsVariables}
use Rattle.enf_formula.proofs.variables.add_all.Given as goal

abbrev pub invariant-loop-term : goal.invariant-loop-term
invariant-loop-term l = AddsVariables (λ y. Contains (take l.term-index l.terms) (Var y)) l.fn.found.keys l.found.keys
