use Rattle.windows.proofs.Vocabulary.{◌∙◌, ◌++◌, [], ◌∷◌, ap, pair}
use Rattle.windows.proofs.PairLemmas.{put_one, put_all}
use Rattle.windows.proofs.kept_pairs.push_step.Goals as goal

pub loop-row-preserved : goal.loop-row-preserved
loop-row-preserved c = put_one (λ row. pair row c.args.time) c.args.out.now.items c.loop-row.out.items c.push.new.self.items c.args.rows.now c.loop-row.row-index c.row-item.result
    c.loop-row.invariant c.loop-row-test.true
    (c.in_ok-push.ensures.items ∙ ap (λ r. c.loop-row.out.items ++ pair r c.args.time ∷ []) (c.in_ok-duplicate.ensures ∙ c.row-item.is))

pub returns : goal.returns
returns c = put_all (λ row. pair row c.args.time) c.args.out.now.items c.loop-row.out.items c.args.rows.now c.loop-row.row-index c.loop-row.invariant c.loop-row-test.false
