use Rattle.monitorable_guard.proofs.Vocabulary.{◌≡◌, List, ap, map, subst, sym, Term, Var, Atom, tree_of}
use Rattle.std.proofs.lemmas.Option.{IfSome_then}
use Rattle.monitorable_guard.specs.machine.NeededEvents.{BeginsWithEvent}
use Rattle.monitorable_guard.proofs.needed_events.+event_of_columns.Goals as goal

pub returns-then-are_variables : goal.returns-then-are_variables
returns-then-are_variables t c =
    let columns = c.args.columns.now in
    let terms : c.in-Atom.terms ≡ map Var columns = subst (λ (l : List Term). l ≡ map Var columns) c.as_slice.ensures (c.are_variables.ensures c.if-are_variables.true) in
    subst (λ f. BeginsWithEvent c.in-Atom.name columns (tree_of f)) (sym c.in-Atom.is) (c.in-Atom.field-0, ap (Atom c.in-Atom.field-0 c.in-Atom.name) terms)

pub returns-in-And : goal.returns-in-And
returns-in-And t c = IfSome_then c.event_of_columns.result c.event_of_columns.ensures
    (λ name begins. subst (λ f. BeginsWithEvent name c.args.columns.now (tree_of f)) (sym c.in-And.is)
    (subst (λ g. BeginsWithEvent name c.args.columns.now (tree_of g)) c.deref.ensures begins))
