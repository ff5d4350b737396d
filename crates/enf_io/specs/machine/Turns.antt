-- What each call of a device over memory is to do, in turn.
use Rattle.std.specs.Prelude.{List, [], ◌∷◌, ℕ, ◌==◌, min, Option, Some, None, if◌then◌else◌}
use Rattle.enf_io.specs.declared.turns.Turn.{Turn}
use Rattle.enf_io.specs.declared.turns.Turn.TheVariants.{All, Take, Fail}

-- the turn of the next call, which past the list is to do all
abbrev pub next_turn : List Turn → Turn
next_turn [] = All
next_turn (turn ∷ turns) = turn

-- how many bytes a read gives at its turn where it could give so many; none: it fails, as one that may take none
-- of some does
abbrev pub read_by : Turn → ℕ → Option ℕ
read_by All room = Some room
read_by (Take most) room = if most == 0 then (if room == 0 then Some 0 else None) else Some (min most room)
read_by Fail room = None

-- how many of so many bytes a write takes at its turn; none: it fails, as one that may take 0 does
abbrev pub write_by : Turn → ℕ → Option ℕ
write_by All count = Some count
write_by (Take most) count = if most == 0 then None else Some (min most count)
write_by Fail count = None
