use Rattle.choice_step.proofs.Vocabulary.{◌≡◌, All, All-contains, ap, refl, subst, take_all, NameId}
use Rattle.std.proofs.lemmas.List.Elements.{All-more}
use Rattle.choice_step.proofs.own_events.is_one_of.Goals as goal

pub loop-other-preserved : goal.loop-other-preserved
loop-other-preserved c =
    All-more (λ (other : NameId). other ≡ c.args.name → ⊥) c.args.names.now c.loop-other.other-index _ c.loop-other-test.true c.loop-other.invariant
    (λ same. c.if-other-name.false (ap (λ (n : NameId). n.0) same))

pub returns : goal.returns
returns c = λ no there.
    All-contains (λ (other : NameId). other ≡ c.args.name → ⊥) c.args.names.now c.args.name
    (subst (All (λ (other : NameId). other ≡ c.args.name → ⊥)) (take_all c.loop-other.other-index c.args.names.now c.loop-other-test.false) c.loop-other.invariant)
    there refl
