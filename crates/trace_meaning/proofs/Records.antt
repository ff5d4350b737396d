-- Records, one list after another.
use Rattle.std.proofs.Common.{[], ◌∷◌, refl, arith}
use Rattle.trace_meaning.specs.machine.Laws.{RecordsJoin, ClockJoins, ClockRises}
use Rattle.trace_meaning.specs.meaning.Traces.{time_of}

pub records_join : RecordsJoin
records_join clock [] more first then = then
records_join clock (next ∷ records) more first then = (first.0, records_join (time_of next) records more first.1 then)

pub clock_joins : ClockJoins
clock_joins clock [] more = refl
clock_joins clock (next ∷ records) more = clock_joins (time_of next) records more

pub clock_rises : ClockRises
clock_rises clock [] fall = omega arith
clock_rises clock (next ∷ records) fall = omega (arith, clock_rises (time_of next) records fall.1, fall.0)
