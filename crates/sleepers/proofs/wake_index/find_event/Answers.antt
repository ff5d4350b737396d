use Rattle.sleepers.proofs.Vocabulary.{List, Contains, ⊎_elim, sym, subst, take_all, shape_of, Shape}
use Rattle.sleepers.proofs.LoopLemmas.{in_next}
use Rattle.sleepers.proofs.wake_index.find_event.Goals as goal

pub loop-shape-preserved : goal.loop-shape-preserved
loop-shape-preserved c = record {
  has = λ group pattern there listed matches. ⊎_elim
      (λ on. c.in_ok-find_shape.ensures.kept group (c.loop-shape.invariant.has group pattern on listed matches))
      (λ same. c.in_ok-find_shape.ensures.ok group pattern same listed matches)
      (in_next c.args.shapes.now c.loop-shape.shape-index c.shape-item.result (shape_of pattern) c.loop-shape-test.true c.shape-item.is there);
  kept = λ x there. c.in_ok-find_shape.ensures.kept x (c.loop-shape.invariant.kept x there);
}

pub returns-clause-ok : goal.returns-clause-ok
returns-clause-ok c = λ group pattern there listed matches.
    c.loop-shape.invariant.has group pattern
    (subst (λ (l : List Shape). Contains l (shape_of pattern)) (sym (take_all c.loop-shape.shape-index c.args.shapes.now c.loop-shape-test.false)) there)
    listed matches
