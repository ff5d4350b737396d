use Rattle.enf_run.proofs.Vocabulary.{length, take, flat_map, range_with_len, numbered_role_line}
use Rattle.enf_run.proofs.TextLemmas.{Whole}
use Rattle.enf_run.proofs.checks.give_roles.Given as goal

abbrev pub invariant-loop-number : goal.invariant-loop-number
invariant-loop-number g l =
    let seen = g.S.Sink.seen in
    Whole (flat_map (numbered_role_line l.signature l.typed.ranked.roles) (take l.number (range_with_len 0 (length l.signature)))) (seen l.fn.sink) (seen l.sink)
