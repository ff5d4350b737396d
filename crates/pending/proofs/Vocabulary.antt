-- The words in which the proofs of this crate speak: those of std, of the crates below and of its own specs.
pub use Rattle.std.proofs.Common.{Bool, Contains, List, None, Option, Some, [], ap, append_assoc, arith, cond, drop, false, get_or, nat_lt, inl, inr, length, length-append, map, refl, subst, subst₂}
pub use Rattle.std.proofs.Common.{suc, sym, take, true, zero, ℕ, ⊎_elim, ◌++◌, ◌+◌, ◌-◌, ◌<◌, ◌&&◌, ◌==◌, ◌^◌, ◌∙◌, ◌∷◌, ◌≡◌, ◌≤◌, ◌⊎◌}
pub use Rattle.std.proofs.lemmas.Bool.{eqb-true, ne_eqb}
pub use Rattle.std.proofs.lemmas.List.{append-nil, get_or_append_left, map-append}
pub use Rattle.std.proofs.lemmas.List.Sums.{sum_by-append}
pub use Rattle.std.proofs.lemmas.Option.{none-some}
pub use Rattle.std.proofs.lemmas.Result.{IfOk-weaker, on_ok_weaker}
pub use Rattle.std.specs.List.{AllByRecursion, count_by}
pub use Rattle.std.specs.Prelude.{IsTrue}
pub use Rattle.deadline_queue.proofs.QueueLaws.{count_entries}
pub use Rattle.deadline_queue.specs.machine.Queues.{IsDeadlineQueue, IsLeastOf, held_count, held_deadlines}
pub use Rattle.enf_data.proofs.ListFacts.{on_ok_both}
pub use Rattle.enf_data.proofs.Lists.{AllByRecursion-append, AllByRecursion-contains, AllByRecursion-of_append, AllByRecursion-weaker, Contains-append, first_or_later, here, later, none_in_nil}
pub use Rattle.enf_data.specs.declared.events.Event.{Event}
pub use Rattle.enf_data.specs.declared.events.NameId.{NameId}
pub use Rattle.enf_data.specs.declared.steps.Step.{Step}
pub use Rattle.enf_data.specs.declared.terms.Term.{Term}
pub use Rattle.enf_data.specs.declared.terms.VarId.{VarId}
pub use Rattle.enf_data.specs.declared.values.Value.{Value}
pub use Rattle.enf_data.specs.meaning.Valuations.{Valuation, values_of_terms, with_values}
pub use Rattle.enf_data.proofs.ValuationFacts.{step_at_end}
pub use Rattle.enf_data.specs.meaning.Data.{no_step, step_at}
pub use Rattle.enf_formula.specs.machine.FormulaShape.{is_past}
pub use Rattle.enf_formula.specs.machine.Laws.{PastDecides}
pub use Rattle.enf_formula.specs.meaning.Satisfaction.{Formula, Sat}
pub use Rattle.obligations.specs.declared.instances.Instance.{Instance}
pub use Rattle.obligations.specs.declared.literals.Literal.{Literal}
pub use Rattle.obligations.specs.declared.present_step.Now.{Now}
pub use Rattle.obligations.specs.machine.AskablePlans.{CanAskNode, CanAskOf}
pub use Rattle.obligations.specs.machine.Deadlines.{count_due}
pub use Rattle.obligations.specs.machine.ExistenceLaws.{AfterExists}
pub use Rattle.obligations.specs.machine.Parts.{HasPart}
pub use Rattle.obligations.specs.machine.PresentStep.{IsNowOf}
pub use Rattle.obligations.specs.machine.Progress.{AreServed}
pub use Rattle.obligations.specs.machine.Successors.{ComesOf, NowLeads}
pub use Rattle.obligations.specs.machine.PlanClasses.{PlansStand}
pub use Rattle.obligations.specs.machine.TriggeredNodes.{IsBegunUnder}
pub use Rattle.obligations.specs.machine.UnmetGoals.{AreUnmet, IsUnmetAt, IsUnmetGoal, IsUnmetOf}
pub use Rattle.obligations.specs.meaning.Obligations.{HasSome, HoldsLast, LacksSome, MissesEither}
pub use Rattle.obligations.specs.meaning.Obligations.{AreGuardRows, Begun, Gathers, IfElse, LacksNothing, LiteralUnless, Missing, OfEvent, TakesOrElse, TakesPresent, cause_literal, last_position}
pub use Rattle.obligations.specs.meaning.Obligations.{suppress_literal, time_now}
pub use Rattle.obligations.specs.meaning.Pending.{After, AtNode, BecomesAt, IsNowIn, MissesAt, MissingOf, PendingAfter, node_of}
pub use Rattle.obligations.specs.machine.FreshGuards.{guards_now}
pub use Rattle.obligations.specs.meaning.PendingBounds.{is_forced}
pub use Rattle.pending.specs.machine.EntrySteps.{CarriesPending, EntryBecomes, WalksEntries}
pub use Rattle.pending.specs.machine.InstancePatterns.{InstanceIsEarly, InstanceSleeps, IsWindowNotOver, early_patterns_at, early_patterns_of, wake_patterns_at, wake_patterns_of}
pub use Rattle.pending.specs.machine.Laws.{EarlyStay, SleepersStay}
pub use Rattle.pending.specs.machine.PendingEntries.{ArePendingEntries, FitsStep, all_listed, entries_from, entry_at, items_of, listed_of}
pub use Rattle.pending.specs.machine.Moments.{step_moment}
pub use Rattle.pending.specs.machine.PendingLists.{IsPendingListOf, PendingList, listed_instances}
pub use Rattle.pending.specs.machine.Waits.{IsWaitOf, Listed, SleepsNow, Wait, early_until, open_until, patterns_at, until_at}
pub use Rattle.plan_terms.proofs.ScopeLaws.{AtEach-weaker}
pub use Rattle.plan_terms.specs.machine.GuardProperties.{GuardLooksBack}
pub use Rattle.plan_terms.specs.machine.Laws.{FoundIsFirst}
pub use Rattle.plan_terms.specs.machine.StoredPlans.{plan_of}
pub use Rattle.plan_terms.specs.meaning.Plans.{nodes}
pub use Rattle.plan_terms.specs.meaning.Plans.{AlwaysPlan, Both, CausePlan, Either, EventuallyPlan, Guarded, NextPlan, Plan, SuppressPlan, TestOr, UntilPlan, has_deadline}
pub use Rattle.sleepers.proofs.EntryLaws.{fewer_placed}
pub use Rattle.sleepers.specs.declared.entries.Entry.{Entry}
pub use Rattle.sleepers.specs.declared.patterns.Pattern.{Pattern}
pub use Rattle.sleepers.specs.declared.places.Beginning.{Beginning}
pub use Rattle.sleepers.specs.machine.Entries.{AllButThose, ArePlaced, HasOneMoreEntry, IsAllBut, IsAsleep, IsFreePlace, entry_places, shown}
pub use Rattle.sleepers.specs.machine.EntrySteps.{CanPutIn, EntryOutcome, IsInOrder, IsOneOr, IsStep, OutcomeGoesOn, PutsInEntries, TakesOutEntries, begun_entries, entries_behind, gone_entries}
pub use Rattle.sleepers.specs.machine.Laws.{StepsCanPutIn, StepsGoInOrder}
pub use Rattle.sleepers.specs.machine.Patterns.{HasNone}
pub use Rattle.sleepers.specs.machine.Places.{IsPlaceBefore, Place, WasMade, beginning_at, places_from}
pub use Rattle.wake_patterns.specs.machine.Laws.{BringsFresh}
pub use Rattle.trace_meaning.specs.machine.Laws.{LastIsAtTheEnd}
pub use Rattle.trace_meaning.specs.meaning.Traces.{last_time}
pub use Rattle.wake_patterns.specs.machine.WakePatterns.{fails_still, goal_patterns, met_anew, patterns_of_both}
pub use Rattle.wake_patterns.specs.machine.WakePatterns.{early_patterns, fails_without, holds_without, met_by, missed_by, pattern_of, waiting_patterns}
