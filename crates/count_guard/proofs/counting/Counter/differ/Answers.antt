use Rattle.count_guard.proofs.Vocabulary.{◌+◌, sym, ◌∙◌, numbered_variables, equal_pairs}
use Rattle.count_guard.proofs.Conjunctions.{pairs_push, push_trees}
use Rattle.count_guard.proofs.NumberedVariables.{numbered_many, numbered_push}
use Rattle.count_guard.proofs.counting.Counter.differ.Goals as goal

pub loop-number-preserved : goal.loop-number-preserved
loop-number-preserved c =
    let at = c.args.self.now.at in
    let n = c.loop-number.number in
    let one = c.args.one in
    let other = c.args.other in
    push_trees _ _ _ _ c.in_ok-push.ensures.items c.loop-number.invariant
    ∙ sym (pairs_push at (numbered_variables one n) (numbered_variables other n) (record { 0 = one + n }) (record { 0 = other + n }) (numbered_many one n ∙ sym (numbered_many other n)))
    ∙ (λ i. equal_pairs at (numbered_push one n i) (numbered_push other n i))
