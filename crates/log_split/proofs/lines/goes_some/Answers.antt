-- What goes there is among all that do.
use Rattle.std.proofs.Common.{arith, rules, ◌∙◌, sym}
use Rattle.log_split.proofs.StreamLemmas.{filter_has}
use Rattle.log_split.specs.machine.Splitting.{goes_to}
use Rattle.log_split.proofs.lines.goes_some.Goals as goal

pub returns-then-goes-clause-some : goal.returns-then-goes-clause-some
returns-then-goes-clause-some c _ none =
    filter_has (goes_to c.args.stream) c.args.own.now c.loop-each.each-index _ (omega (arith, c.loop-each-test.true)) (search rules)
    (sym c.goes.ensures ∙ c.if-goes.true) none
