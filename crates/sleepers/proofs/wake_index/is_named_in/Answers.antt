use Rattle.sleepers.proofs.Vocabulary.{◌∙◌, List, Contains, ap, ⊎_elim, sym, subst, none_in_nil, take_all, arith, NameId, Shape}
use Rattle.sleepers.proofs.LoopLemmas.{in_next}
use Rattle.sleepers.proofs.wake_index.is_named_in.Goals as goal

pub loop-shape-init : goal.loop-shape-init
loop-shape-init c = λ shape there same. absurd (none_in_nil shape there)

pub loop-shape-preserved : goal.loop-shape-preserved
loop-shape-preserved c = λ shape there same. ⊎_elim
    (λ before. c.loop-shape.invariant shape before same)
    (λ is. let equal = ap (λ (n : NameId). n.0) (same ∙ sym (ap (λ (s : Shape). s.name) is)) in omega (arith, c.if-shape-name.false, equal))
    (in_next c.args.shapes.now c.loop-shape.shape-index c.shape-item.result shape c.loop-shape-test.true c.shape-item.is there)

pub returns : goal.returns
returns c = λ none shape there.
    c.loop-shape.invariant shape
    (subst (λ (l : List Shape). Contains l shape) (sym (take_all c.loop-shape.shape-index c.args.shapes.now c.loop-shape-test.false)) there)
