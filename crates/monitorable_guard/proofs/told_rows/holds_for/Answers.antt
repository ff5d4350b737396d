use Rattle.monitorable_guard.proofs.Vocabulary.{refl, sym, subst, tree_of, bound_in, HoldsNow}
use Rattle.monitorable_guard.specs.machine.NeededEvents.{first_conjunct}
use Rattle.monitorable_guard.proofs.told_rows.holds_for.Goals as goal

pub returns-in-Atom : goal.returns-in-Atom
returns-in-Atom g c = (
  λ _. subst (λ F. HoldsNow c.args.present.now.events.now (g.P.Past.tables c.args.present.now.past.now) (bound_in c.args.scope.now) (first_conjunct (tree_of F))
      → HoldsNow c.args.present.now.events.now (g.P.Past.tables c.args.present.now.past.now) (bound_in c.args.scope.now) (tree_of F)) (sym c.in-Atom.is) (λ h. h) c.requires.begins,
  λ _. refl,
)
