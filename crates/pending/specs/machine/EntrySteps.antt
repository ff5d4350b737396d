-- A step over what is pending: those that are awake become what they become.
use Rattle.enf_data.specs.declared.steps.Step.{Step}
use Rattle.std.specs.List.{AllByRecursion}
use Rattle.std.specs.Prelude.{◌≡◌, ℕ, Bool, cond, Contains, List, [], ◌∷◌, ◌++◌, map, ◌-◌}
use Rattle.std.specs.Prelude.{◌^◌}
use Rattle.plan_terms.specs.meaning.Plans.{Plan}
use Rattle.obligations.specs.machine.FreshGuards.{guards_now}
use Rattle.sleepers.specs.declared.entries.Entry.{Entry}
use Rattle.sleepers.specs.machine.Entries.{IsAllBut, IsAsleep}
use Rattle.sleepers.specs.machine.EntrySteps.{EntryOutcome, TakesOutEntries, begun_entries, gone_entries}
use Rattle.obligations.specs.declared.instances.Instance.{Instance}
use Rattle.obligations.specs.declared.present_step.Now.{Now}
use Rattle.obligations.specs.machine.AskablePlans.{CanAskOf}
use Rattle.obligations.specs.machine.PresentStep.{IsNowOf}
use Rattle.obligations.specs.machine.Progress.{BecomesOne}
use Rattle.obligations.specs.machine.Successors.{ComesOf, ComesOfRoot}
use Rattle.obligations.specs.meaning.Pending.{BegunByRoots}
use Rattle.pending.specs.machine.Moments.{step_moment}
use Rattle.pending.specs.machine.PendingEntries.{entries_from}

-- what becomes of an entry at a step: what is begun for it goes on from its place at one beginning, and so does its
-- instance where that stays and is filed anew
pub record EntryBecomes (now : Now) (plans : List Plan) (inserted : Bool) (later : ℕ) (o : EntryOutcome Instance) :
    Type 0 where
  pub more : List Instance
  pub begun : o.begun ≡ entries_from plans now.time o.entry.place later 0 more
  pub after : (trace : List Step) → IsNowOf now trace
      → BecomesOne plans inserted o.entry.item trace (cond o.stays (o.entry.item ∷ []) [] ++ more)
  pub come : (j : Instance) → Contains (cond o.stays (o.entry.item ∷ []) [] ++ more) j
      → ComesOf now plans inserted o.entry.item j
  pub asked : AllByRecursion (CanAskOf (guards_now now) plans) more

-- so much of a walk is done: these are still ahead of all that were ahead, the others became what they became, some
-- were taken out, and this was begun
pub record WalksEntries (now : Now) (plans : List Plan) (inserted : Bool) (later : ℕ)
    (all first left ahead more : List (Entry Instance)) : Type 0 where
  pub outcomes : List (EntryOutcome Instance)
  pub looked_at : map (λ o. o.entry) outcomes ++ ahead ≡ first
  pub each : AllByRecursion (EntryBecomes now plans inserted later) outcomes
  pub taken_out : TakesOutEntries (gone_entries outcomes) all left
  pub begun_are : more ≡ begun_entries outcomes

-- after so many steps what was awake became what it became, and this was begun: for it, and last by the roots of the
-- rules
pub record CarriesPending (now : Now) (plans : List Plan) (inserted : Bool) (steps : ℕ)
    (all left more : List (Entry Instance))
    : Type 0 where
  pub later : ℕ
  pub at : later ≡ 2 ^ 64 - 1 - steps
  pub first : List (Entry Instance)
  pub awake : IsAllBut (IsAsleep now.events.now (step_moment inserted now.time)) all first
  pub begun_for : List (Entry Instance)
  pub walks : WalksEntries now plans inserted later all first left [] begun_for
  pub roots : List Instance
  pub by_roots : (trace : List Step) → IsNowOf now trace → BegunByRoots trace 0 plans roots
  pub asked : AllByRecursion (CanAskOf (guards_now now) plans) roots
  pub come : (j : Instance) → Contains roots j → ComesOfRoot now plans j
  pub grown : more ≡ begun_for ++ entries_from plans now.time [] steps 0 roots
