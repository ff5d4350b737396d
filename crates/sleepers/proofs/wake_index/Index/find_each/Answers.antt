use Rattle.sleepers.proofs.Vocabulary.{◌≡◌, List, Contains, ⊎_elim, ap, sym, subst, ◌∙◌, take_all, Event, shape_of, Noted, MatchesPattern, Shape}
use Rattle.sleepers.specs.machine.PatternKeys.{pattern_key}
use Rattle.sleepers.proofs.LoopLemmas.{in_next}
use Rattle.sleepers.proofs.wake_index.Index.find_each.Goals as goal

pub loop-event-preserved : goal.loop-event-preserved
loop-event-preserved c = record {
  has = λ group pattern is event there matches. ⊎_elim
      (λ on. c.in_ok-find_event.ensures.kept group (c.loop-event.invariant.has group pattern is event on matches))
      (λ same.
      let shapes : c.args.self.now.shapes ≡ c.as_slice.result.now = sym (ap (λ (n : Noted). n.shapes) c.self.view_is) ∙ sym c.as_slice.ensures.value in
      let listed = subst (λ (n : Noted). Contains n.patterns (pattern_key n.seed pattern.name pattern.args, group)) (sym c.self.view_is) is.listed in
      c.in_ok-find_event.ensures.ok group pattern (subst (λ (l : List Shape). Contains l (shape_of pattern)) shapes is.shape) listed (subst (λ (e : Event). MatchesPattern pattern e) (sym same) matches))
      (in_next c.args.events.now c.loop-event.event-index c.event-item.result event c.loop-event-test.true c.event-item.is there);
  kept = λ x there. c.in_ok-find_event.ensures.kept x (c.loop-event.invariant.kept x there);
}

pub returns-clause-ok : goal.returns-clause-ok
returns-clause-ok c = λ group pattern is event there matches.
    c.loop-event.invariant.has group pattern is event
    (subst (λ (l : List Event). Contains l event) (sym (take_all c.loop-event.event-index c.args.events.now c.loop-event-test.false)) there) matches
