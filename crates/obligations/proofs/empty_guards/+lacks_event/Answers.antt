use Rattle.obligations.proofs.Vocabulary.{subst, sym, not_both, tree_of, HoldsNowhere}
use Rattle.obligations.proofs.EmptyGuardLemmas.{atom_lacks}
use Rattle.obligations.proofs.empty_guards.+lacks_event.Goals as goal

pub returns-in-Atom : goal.returns-in-Atom
returns-in-Atom t c = λ none.
    subst (λ f. HoldsNowhere c.args.events.now (tree_of f)) (sym c.in-Atom.is)
    (atom_lacks c.args.events.now c.in-Atom.field-0 c.in-Atom.name c.in-Atom.field-2 (λ event there same. not_both c.may_have.result none (c.may_have.ensures event there same)))
