-- The laws on which the steps of an enforcer rest.
use Rattle.trace_meaning.specs.machine.Laws.{LastIsTheNew, LawfulJoins, TraceGrows, WithinJoins}
use Rattle.obligations.specs.machine.AskingLaws.{PendCanBeAsked, WellFormedCanBeAsked, WellFormedStand}
use Rattle.obligations.specs.machine.SoundnessLaws.{PendingIsEnough}
use Rattle.obligations.specs.machine.TraceLaws.{CleanGrows}
use Rattle.obligations.specs.machine.UniquenessLaws.{MissingIsOne, PendIsOne}
use Rattle.choice_step.specs.machine.Laws.{ActionsAreLawful, CausesAlone, DecidedMissesNothing, EventsAreActedOnOnce}
use Rattle.choice_step.specs.machine.Laws.{DecidedIsDistinct}
use Rattle.enforcer_core.specs.machine.ExistenceLaws.{SomethingDrains}
use Rattle.enforcer_core.specs.machine.ReachLaws.{DeadlinesAreWithinReach, LedDeadlinesFall, LedStaysInReach}
use Rattle.enforcer_core.specs.machine.ReachLaws.{NoneGoesOver, ReachIsWithinHorizon, ServedCountsFall}
use Rattle.enforcer_core.specs.machine.ReachLaws.{WindowsAreInOrder}

-- the laws of one step of an enforcer
pub record StepLaws : Type 0 where
  pub grows : TraceGrows
  pub newest : LastIsTheNew
  pub cleans : CleanGrows
  pub missing : MissingIsOne
  pub pending : PendIsOne
  pub missed : DecidedMissesNothing
  pub leads : ActionsAreLawful
  pub once : EventsAreActedOnOnce
  pub causes : CausesAlone
  pub within : WithinJoins
  pub lawful : LawfulJoins
  pub reached : DeadlinesAreWithinReach
  pub counts : ServedCountsFall
  pub horizon : ReachIsWithinHorizon
  pub none_over : NoneGoesOver
  pub windows : WindowsAreInOrder
  pub led : LedDeadlinesFall
  pub stays : LedStaysInReach

-- the laws of a drain, and that there is one
pub record DrainLaws : Type 0 where
  pub steps : StepLaws
  pub enough : PendingIsEnough
  pub distinct : DecidedIsDistinct
  pub drains : SomethingDrains
  pub asked : PendCanBeAsked
  pub roots : WellFormedCanBeAsked
  pub stand : WellFormedStand
