-- The events that are read after a time.
use Rattle.log_stream.proofs.Vocabulary.{Event, flat_map, NameEntry, LogRefusal, MOST_EVENTS, JudgesEvents, LogMark, LogTokensLead, WrittenEvent, event_tokens}
use Rattle.std.specs.Prelude.{ℕ, ◌+◌, ◌≤◌, List, [], ◌∷◌, ◌++◌, length, Result}

-- the events that are read after a time, up to the semicolon
pub record ReadsEvents (entries : List NameEntry) (bytes : List ℕ) (from : ℕ)
    (events : Result (List Event) LogRefusal) (to : ℕ) : Type 0 where
  pub written : List WrittenEvent
  pub few : length written ≤ MOST_EVENTS
  pub leads : LogTokensLead bytes from (flat_map event_tokens written ++ LogMark 59 ∷ []) to
  pub judged : JudgesEvents entries written events
