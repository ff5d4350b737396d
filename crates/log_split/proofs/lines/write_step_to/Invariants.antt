use Rattle.std.proofs.Common.{◌≡◌, ◌++◌, ◌∷◌, take, decimal}
use Rattle.std.specs.List.{flat_map}
use Rattle.log_stream.specs.meaning.LogGrammar.{spelled_event}
use Rattle.signature.specs.meaning.Grammar.{entry_names}
use Rattle.log_split.specs.machine.Splitting.{split_plan}
use Rattle.log_split.specs.meaning.Streams.{events_to, stream_tag}
use Rattle.log_split.proofs.lines.write_step_to.Given as goal

abbrev pub invariant-loop-place : goal.invariant-loop-place
invariant-loop-place l = l.out.items ≡ l.fn.out.items ++ (stream_tag l.stream ++ 64 ∷ decimal l.time
    ++ flat_map (λ event. 32 ∷ spelled_event (entry_names (split_plan l.split).entries) event)
    (events_to (split_plan l.split) l.stream (take l.place l.events)))
