use Rattle.std.proofs.Common.{◌≡◌, length, drop, None}
use Rattle.std.specs.Option.{option_copied}
use Rattle.count_guard.proofs.Vocabulary.{last_term}
use Rattle.count_guard.proofs.substitution.last_in.Given as goal

abbrev pub invariant-loop-x : goal.invariant-loop-x
invariant-loop-x l = last_term l.xs l.terms l.variable None
    ≡ last_term (drop (length l.yielded) l.xs) (drop (length l.yielded) l.terms) l.variable (option_copied l.found)
