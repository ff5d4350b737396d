-- The draws and the time of a step are within their types.
use Rattle.std.proofs.Common.{◌+◌, ap, ◌∙◌, arith}
use Rattle.log_gen.proofs.StepLaws.{few_draws, early}
use Rattle.log_gen.proofs.generator.Generator.look_ahead.Goals as goal

pub next-requires : goal.next-requires
next-requires c =
    let few = few_draws c.self.inside.start c.self.inside.made in
    let made = ap (λ d. d.made) c.again-draws.ensures ∙ c.self.invariant.drawn in
    omega (arith, few, made, c.self.invariant.within, c.self.invariant.few)

pub overflow_add-time : goal.overflow_add-time
overflow_add-time c =
    let soon = early c.self.inside.start c.self.inside.made in
    omega (arith, soon, c.self.invariant.timed, c.self.invariant.within, c.self.invariant.few)

pub draw_events-requires : goal.draw_events-requires
draw_events-requires c =
    let few = few_draws c.self.inside.start c.self.inside.made in
    let made = ap (λ d. d.made) c.next.ensures.after ∙ ap (λ d. d.made + 1) c.again-draws.ensures ∙ ap (λ n. n + 1) c.self.invariant.drawn in
    omega (arith, few, made, c.self.invariant.within, c.self.invariant.few)
