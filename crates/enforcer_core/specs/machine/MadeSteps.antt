-- The steps that an enforcer made: how a call keeps them, and the acted steps that they are.
use Rattle.std.specs.Prelude.{List, map, [], ◌∷◌}
use Rattle.choice_step.specs.meaning.ActedSteps.{ActedStep}
use Rattle.enforcer_core.specs.declared.steps.Kept.{Kept}
use Rattle.enforcer_core.specs.declared.steps.Kept.TheVariants.{One, Many}
use Rattle.enforcer_core.specs.declared.steps.OutStep.{OutStep as StoredOutStep}
use Rattle.enforcer_core.specs.declared.steps.OutStep as made

-- a step that it made, with the actions that made it
abbrev pub acted_step : made.OutStep → ActedStep
acted_step o = record { kind = o.kind; step = record { time = o.time; events = o.events }; actions = o.actions }

abbrev pub acted_steps : List made.OutStep → List ActedStep
acted_steps steps = map acted_step steps

-- the steps, in the order in which they are emitted
abbrev pub kept_steps : Kept → List StoredOutStep
kept_steps (One step) = step ∷ []
kept_steps (Many steps) = steps.items
