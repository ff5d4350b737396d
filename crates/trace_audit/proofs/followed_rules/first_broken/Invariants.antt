use Rattle.trace_audit.proofs.Vocabulary.{drop, open_in}
use Rattle.trace_audit.proofs.JudgementLemmas.{FindsFirst}
use Rattle.trace_audit.proofs.followed_rules.first_broken.Given as goal

abbrev pub invariant-loop-slot : goal.invariant-loop-slot
invariant-loop-slot l = FindsFirst l.asked l.fn.broken (open_in (drop l.slot-index l.slot-items)) l.first
