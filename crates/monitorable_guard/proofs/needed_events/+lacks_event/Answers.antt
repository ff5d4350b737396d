use Rattle.monitorable_guard.proofs.Vocabulary.{subst, sym, tree_of}
use Rattle.enf_data.proofs.ListFacts.{not_both}
use Rattle.monitorable_guard.specs.machine.NeededEvents.{HoldsForNone}
use Rattle.monitorable_guard.proofs.NeededEventLemmas.{atom_lacks}
use Rattle.monitorable_guard.proofs.needed_events.+lacks_event.Goals as goal

pub returns-in-Atom : goal.returns-in-Atom
returns-in-Atom t c = λ none.
    subst (λ f. HoldsForNone c.args.events.now (tree_of f)) (sym c.in-Atom.is)
    (atom_lacks c.args.events.now c.in-Atom.field-0 c.in-Atom.name c.in-Atom.field-2 (λ event there same. not_both c.has_named.result none (c.has_named.ensures event there same)))
