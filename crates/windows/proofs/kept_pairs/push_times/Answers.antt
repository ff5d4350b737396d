use Rattle.windows.proofs.Vocabulary.{◌∙◌, ◌≤◌, ◌<◌, ◌++◌, [], ◌∷◌, subst, pair}
use Rattle.windows.proofs.PairLemmas.{put_one, put_all}
use Rattle.windows.proofs.kept_pairs.push_times.Goals as goal

pub loop-place-preserved : goal.loop-place-preserved
loop-place-preserved c = put_one (pair c.args.row.now) c.args.out.now.items c.loop-place.out.items c.push.new.self.items c.args.times.now c.loop-place.place 0
    c.loop-place.invariant (subst (λ n. c.loop-place.place < n) c.len-place-end.ensures c.loop-place-test.true)
    (c.in_ok-push.ensures.items ∙ (λ i. c.loop-place.out.items ++ pair (c.in_ok-duplicate.ensures i) (c.at.ensures 0 i) ∷ []))

pub returns : goal.returns
returns c = put_all (pair c.args.row.now) c.args.out.now.items c.loop-place.out.items c.args.times.now c.loop-place.place c.loop-place.invariant
    (subst (λ n. n ≤ c.loop-place.place) c.len-place-end.ensures c.loop-place-test.false)
