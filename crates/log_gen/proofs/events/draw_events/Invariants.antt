use Rattle.std.proofs.Common.{◌≡◌, ◌+◌, ◌*◌, []}
use Rattle.log_gen.specs.meaning.GeneratedLogs.{drawn_events}
use Rattle.log_stream.specs.meaning.LogGrammar.{with_events_put}
use Rattle.log_gen.proofs.events.draw_events.Given as goal

abbrev pub invariant-loop : goal.invariant-loop
invariant-loop l = record {
  start : l.draws.start ≡ l.fn.draws.start;
  made : l.draws.made ≡ l.fn.draws.made + 1 + 2 * l.counter;
  events : l.events ≡ with_events_put [] (drawn_events l.fn.draws.start (l.fn.draws.made + 1) l.counter);
}
