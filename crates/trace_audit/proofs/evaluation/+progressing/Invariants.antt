use Rattle.trace_audit.proofs.Vocabulary.{◌≡◌, ◌++◌, TellsRest, moment_of, LinksMean}
use Rattle.trace_audit.proofs.evaluation.+progressing.Given as goal

abbrev pub invariant-progress_chain-loop-link : goal.invariant-progress_chain-loop-link
invariant-progress_chain-loop-link l =
    (goal.iterator-progress_chain-loop-link).can_next l.link-iterator ×
    (goal.iterator-progress_chain-loop-link).is_finite l.link-iterator
    × TellsRest (moment_of l.now) (λ trace. LinksMean trace l.now.position (Unit {0}) l.yielded) l.rest
    × (l.initial.link-iterator.rest.items ≡ l.yielded ++ l.link-iterator.rest.items)
