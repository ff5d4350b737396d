use Rattle.past_state.proofs.Vocabulary.{◌≡◌, ◌-◌, length, drop, map, reverse, tree_in, count_in, PushesFor, all_operators}
use Rattle.past_state.proofs.guards.push_all.Given as goal

abbrev pub invariant-loop-place : goal.invariant-loop-place
invariant-loop-place l =
    (l.counts.items ≡ reverse (map count_in (drop (length l.guards - l.place) l.guards)))
    × PushesFor (reverse (all_operators (map tree_in (drop (length l.guards - l.place) l.guards)))) l.initial.out.items l.out.items
