use Rattle.past_state.proofs.Vocabulary.{ap, sym, subst, IfSome, tree_of, IsAlone, AsksLeft}
use Rattle.past_state.proofs.FirstMemoryLemmas.{asks_denied}
use Rattle.past_state.specs.declared.left_sides.Left.TheVariants as side
use Rattle.past_state.proofs.first_memories.left_of.Goals as goal

pub returns-in_ok-new-in-Some : goal.returns-in_ok-new-in-Some
returns-in_ok-new-in-Some c = subst (λ k. AsksLeft (tree_of c.args.left.now) c.args.columns.now (side.Denied k)) (sym c.in_ok-new-in-Some.ensures)
    (asks_denied (tree_of c.args.left.now) (tree_of c.in-Not.denied.value) c.in-Not.field-0 c.args.columns.now c.in-Some.guard (ap tree_of c.in-Not.is)
    (subst (λ f. IsAlone (tree_of f) c.in-Some.guard) c.deref.ensures
    (subst (λ o. IfSome o (IsAlone (tree_of c.deref.result.now))) c.in-Some.is c.in_ok-guard-in-Not.ensures)) c.requires.fresh)
