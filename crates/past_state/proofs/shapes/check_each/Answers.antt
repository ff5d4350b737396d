use Rattle.past_state.proofs.Vocabulary.{◌≡◌, ◌∙◌, ◌++◌, ◌∷◌, ◌+◌, [], map, take, Some, sym, ap, subst, option_copied, false≢true, take_more, AreWithinBounds, operator_of}
use Rattle.past_state.proofs.ShapeLemmas.{IsLastOf, can_follow_from, last_with, within_with}
use Rattle.past_state.proofs.shapes.check_each.Goals as goal

pub returns-then-not-can_follow-clause-first : goal.returns-then-not-can_follow-clause-first
returns-then-not-can_follow-clause-first c =
    let fs = map operator_of c.args.shapes.now in
    let rows = c.args.rows.now in
    let front = take c.loop-place.place rows in
    let r = c.index-rows-place.result in
    let before = option_copied c.loop-place.before in
    let more : take (c.loop-place.place + 1) rows ≡ front ++ r ∷ [] =
    take_more rows c.loop-place.place r c.loop-place-test.true ∙ ap (λ x. front ++ x ∷ []) (sym c.index-rows-place.is) in record {
      there = c.loop-place-test.true;
      before = c.loop-place.invariant.within;
      broken = λ within. false≢true (sym c.if-not-can_follow.true
          ∙ c.can_follow.ensures.1 (can_follow_from fs c.args.last front before r c.loop-place.invariant.last_is (subst (AreWithinBounds fs (Some c.args.last)) more within)));
    }

pub loop-place-preserved : goal.loop-place-preserved
loop-place-preserved c =
    let fs = map operator_of c.args.shapes.now in
    let rows = c.args.rows.now in
    let front = take c.loop-place.place rows in
    let r = c.index-rows-place.result in
    let before = option_copied c.loop-place.before in
    let more : take (c.loop-place.place + 1) rows ≡ front ++ r ∷ [] =
    take_more rows c.loop-place.place r c.loop-place-test.true ∙ ap (λ x. front ++ x ∷ []) (sym c.index-rows-place.is) in
    let can = c.can_follow.ensures.0 c.if-not-can_follow.false in record {
      within = subst (AreWithinBounds fs (Some c.args.last)) (sym more) (within_with fs c.args.last front before r c.loop-place.invariant.last_is can c.loop-place.invariant.within);
      last_is = subst (λ l. IsLastOf l (Some r)) (sym more) (last_with fs c.args.last front before r c.loop-place.invariant.last_is can);
    }
