use Rattle.windows.proofs.Vocabulary.{◌∙◌, ◌≤◌, ◌<◌, ◌++◌, [], ◌∷◌, subst, due}
use Rattle.windows.proofs.PairLemmas.{put_one, put_all}
use Rattle.windows.proofs.compaction.push_dues.Goals as goal

pub loop-index-preserved : goal.loop-index-preserved
loop-index-preserved c = put_one (λ time. due time c.args.place) c.args.out.now.items c.loop-index.out.items c.push-in-loop-index.new.self.items c.args.times.now c.loop-index.index 0
    c.loop-index.invariant (subst (λ n. c.loop-index.index < n) c.len-index-end.ensures c.loop-index-test.true)
    (c.in_ok-push-2.ensures.items ∙ (λ i. c.loop-index.out.items ++ due (c.at.ensures 0 i) c.args.place ∷ []))

pub returns : goal.returns
returns c = put_all (λ time. due time c.args.place) c.args.out.now.items c.loop-index.out.items c.args.times.now c.loop-index.index c.loop-index.invariant
    (subst (λ n. n ≤ c.loop-index.index) c.len-index-end.ensures c.loop-index-test.false)
