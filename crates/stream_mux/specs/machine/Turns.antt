-- Turns of streams: times, of which each stream has at most one, and the first of them.
use Rattle.std.specs.Prelude.{ℕ, List, ◌≡◌, ◌<◌, ◌≤◌, ◌+◌, ◌*◌, ◌⊎◌, Bool, ◌&&◌, ◌||◌, ◌==◌, nat_lt}
use Rattle.std.specs.Prelude.{if◌then◌else◌, Option, None, Some, map, length, drop, slice_index_or}
use Rattle.std.specs.Option.{option_map}
use Rattle.stream_mux.specs.declared.turns.Turn.{Turn}

abbrev pub time_of_turn : Turn → ℕ
time_of_turn turn = turn.time

-- a turn is before another one: by its time, or at the same time by its stream
abbrev pub is_earlier : Turn → Turn → Bool
is_earlier turn other = nat_lt turn.time other.time || ((turn.time == other.time) && nat_lt turn.stream other.stream)

-- of two turns the earlier one
abbrev pub earlier_turn : Option Turn → Option Turn → Option Turn
earlier_turn None other = other
earlier_turn (Some turn) None = Some turn
earlier_turn (Some turn) (Some other) = if is_earlier other turn then Some other else Some turn

-- ---- A tree in which the earlier of two turns goes up. The nodes from the count on are the turns of the streams; each
-- other one but the first has the earlier turn of the two below it, those at twice its place.

abbrev pub node : List (Option Turn) → ℕ → Option Turn
node nodes place = slice_index_or nodes place None

abbrev pub IsWon : List (Option Turn) → ℕ → Type 0
IsWon nodes place = node nodes place ≡ earlier_turn (node nodes (2 * place)) (node nodes (2 * place + 1))

-- each inner node but one is the earlier of the two below it
abbrev pub AreWonBut : (count spared : ℕ) → List (Option Turn) → Type 0
AreWonBut count spared nodes =
    (place : ℕ) → 1 ≤ place → place < count → (place ≡ spared) ⊎ IsWon nodes place

-- the turn of a stream, where it has a time
abbrev pub turn_at : (stream : ℕ) → Option ℕ → Option Turn
turn_at stream time = option_map (λ t. record { time = t; stream = stream }) time

abbrev pub times_of_nodes : (count : ℕ) → List (Option Turn) → List (Option ℕ)
times_of_nodes count nodes = map (option_map time_of_turn) (drop count nodes)

pub record IsTurnTree (count : ℕ) (nodes : List (Option Turn)) : Type 0 where
  pub size : length nodes ≡ 2 * count
  pub won : (place : ℕ) → 1 ≤ place → place < count → IsWon nodes place
  pub streams : (stream : ℕ) → stream < count
      → node nodes (count + stream) ≡ turn_at stream (slice_index_or (times_of_nodes count nodes) stream None)

-- ---- What is asked of a tree.

-- a time of a stream is not before a turn
abbrev pub IsNotBefore : (time stream : ℕ) → Turn → Type 0
IsNotBefore time stream turn = (turn.time < time) ⊎ ((turn.time ≡ time) × (turn.stream ≤ stream))

-- no stream has a time; or this stream has this time, and none is before it
abbrev pub IsFirstTurn : List (Option ℕ) → Option Turn → Type 0
IsFirstTurn times None = (stream : ℕ) → slice_index_or times stream None ≡ None
IsFirstTurn times (Some turn) =
    (slice_index_or times turn.stream None ≡ Some turn.time) × (turn.stream < length times)
    × ((stream time : ℕ) → slice_index_or times stream None ≡ Some time → IsNotBefore time stream turn)
