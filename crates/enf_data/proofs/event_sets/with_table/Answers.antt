use Rattle.enf_data.proofs.Vocabulary.{Contains, ap, subst, sym, ◌∙◌, ◌++◌, HasNoRepeats}
use Rattle.enf_data.proofs.Lists.{HasNoRepeats-middle}
use Rattle.enf_data.proofs.event_sets.with_table.Goals as goal

pub put-requires-clause-absent : goal.put-requires-clause-absent
put-requires-clause-absent c = λ there.
    let rest = c.next.new.self.rest.items in
    let yielded = c.loop-moved.yielded in
    let moved = c.in-Some.moved in
    let split =
    ap (λ v. v.items) (sym c.replace-moved-items.ensures.value) ∙ sym c.into_iter-moved-iterator.ensures.into_iter_gives.0
    ∙ c.loop-moved.invariant.2 ∙ ap (λ l. yielded ++ l) c.in-Some.ensures.steps.0 in
    HasNoRepeats-middle yielded rest moved (subst HasNoRepeats split c.requires.distinct)
    (subst (λ l. Contains l moved) (ap (λ t. t.keys) c.deref_mut.ensures.value ∙ c.loop-moved.invariant.3) there)
