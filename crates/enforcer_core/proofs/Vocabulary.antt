-- The words in which the proofs of this crate speak: those of std, of the crates below and of its own specs.
pub use Rattle.std.proofs.Common.{All, Bool, Contains, Err, IsTrue, List, None, Ok, OnErr, Option, Result, Some, [], ap, append_assoc, arith, cond, false, get_or, inl, inr, is_some, length}
pub use Rattle.std.proofs.Common.{length-append, map, nat_eq, nat_lt, refl, subst, suc, sum, sym, take, true, true≢false, zero, ℕ, ⊎_elim, ◌&&◌, ◌*◌, ◌++◌, ◌+◌, ◌-◌, ◌<◌, ◌==◌, ◌^◌, ◌||◌, ◌↔◌, ◌∙◌}
pub use Rattle.std.proofs.Common.{◌∷◌, ◌≡◌, ◌≤◌, ◌⊎◌}
pub use Rattle.std.proofs.Math.Nat.{suc-mul}
pub use Rattle.std.proofs.lemmas.Bool.{cases_lt, eqb-true, false≢true}
pub use Rattle.std.proofs.lemmas.List.{append-nil, get_or-take, get_or_past, length-map, length-take-le, map-append, take_all}
pub use Rattle.std.proofs.lemmas.List.Elements.{All-append, All-cons, All-contains, All-from_recursion, All-head, All-nil, All-tail, All-weaker, Contains-append_left, Contains-append_right}
pub use Rattle.std.proofs.lemmas.List.Elements.{recursion_from_All}
pub use Rattle.std.proofs.lemmas.List.Folds.{list_any-append}
pub use Rattle.std.proofs.lemmas.List.Sums.{sum-map, sum_by-append, sum_by-cons}
pub use Rattle.std.proofs.lemmas.Nat.{mul-add-lt, mul-le}
pub use Rattle.std.proofs.lemmas.Option.{none-some, same_Some, slice_get_within}
pub use Rattle.std.proofs.lemmas.Result.{IfOk-weaker, on_ok_weaker}
pub use Rattle.std.specs.Cmp.{unsigned_Decides}
pub use Rattle.std.specs.List.{AllByRecursion, AllZip, count_by, find, flat_map, list_any, sum_by}
pub use Rattle.std.specs.Option.{option_map, option_or}
pub use Rattle.std.specs.Prelude.{IfOk, IsSome, OnOk, slice_get}
pub use Rattle.choice_step.proofs.ActedEventLaws.{acted_among}
pub use Rattle.choice_step.proofs.JoinLaws.{follows_join, justified_join, steps_behind}
pub use Rattle.choice_step.specs.machine.ActionChains.{ActsFrom}
pub use Rattle.choice_step.specs.machine.AskedLeaves.{AreAskedActions}
pub use Rattle.choice_step.specs.machine.FittingEvents.{CausesFit, TraceEventsFit}
pub use Rattle.choice_step.specs.machine.FittingLaws.{FollowedFits}
pub use Rattle.choice_step.specs.machine.JustificationLaws.{DecidedAreJustified, LeastDeadlineIsNeeded}
pub use Rattle.choice_step.specs.machine.Laws.{ActionsAreLawful, AreDistinct, CausesAlone, DecidedIsDistinct, DecidedMissesNothing, DrainIsOne, EntriesFall, EventsAreActedOnOnce, FollowsIsOne}
pub use Rattle.choice_step.specs.machine.Laws.{IsMeasure, SomeFollows, SomeInserts}
pub use Rattle.choice_step.specs.machine.RuleTriggers.{AllSleep}
pub use Rattle.choice_step.specs.meaning.ActedSteps.{ActedStep, AllAreJustified, Applies, AreJustified, StepIsJustified, as_it_came, change_by, change_of, out_step, out_steps, untouched}
pub use Rattle.choice_step.specs.meaning.Choice.{Candidate, CandidateMisses, Decides, IsFirstMissing, MissesNothing, Root, Waiting, all_asked, roots_from, trace_with_step}
pub use Rattle.choice_step.specs.meaning.Follows.{Follows, FollowsDrain, GoesOut, InsertsSteps, IsLeastDeadline, IsPassed, NoneIsPassed, StepGoesOut, is_inserted, steps_of}
pub use Rattle.deadline_queue.specs.machine.Queues.{IsLeastOf}
pub use Rattle.enf_data.proofs.Lists.{AllByRecursion-contains, AllByRecursion-find, AllByRecursion-from_contains, AllByRecursion-of_append, AllByRecursion-weaker, Contains-append, Contains-filter}
pub use Rattle.enf_data.proofs.Lists.{Contains-from_map, Contains-map, first_or_later, here, later, none_in_nil, there_from_get}
pub use Rattle.enf_data.proofs.RisingLists.{rising_apart, rising_distinct}
pub use Rattle.enf_data.proofs.ValuationLaws.{variable_cmp_total}
pub use Rattle.enf_data.specs.declared.events.Event.{Event}
pub use Rattle.enf_data.specs.declared.events.NameId.{NameId}
pub use Rattle.enf_data.specs.declared.limits.TheConstants.{MOST_INTERVAL_END}
pub use Rattle.enf_data.specs.declared.steps.Step.{Step}
pub use Rattle.enf_data.specs.declared.terms.Term.{Term}
pub use Rattle.enf_data.specs.declared.terms.Term.TheVariants.{Const, Var}
pub use Rattle.enf_data.specs.declared.terms.VarId.{VarId}
pub use Rattle.enf_data.specs.declared.values.Value.{Value}
pub use Rattle.enf_data.specs.meaning.Data.{IsTrace, no_step, step_at}
pub use Rattle.enf_data.specs.meaning.Membership.{HasNoRepeats}
pub use Rattle.enf_data.specs.meaning.Valuations.{Valuation, no_values, onto_values, valuation_of, value_at, value_of_term, values_of_terms, variable_cmp}
pub use Rattle.enf_formula.specs.machine.FormulaShape.{AreTermsInScope, IsTermInScope, formula_size}
pub use Rattle.enf_formula.specs.meaning.Satisfaction.{Always, And, AreFreeVariables, AtMost, Atom, Equal, Eventually, Exists, False, Forall, Formula, Historically, Implies, Less, Next, Not, Once, Or}
pub use Rattle.enf_formula.specs.meaning.Satisfaction.{Prev, Sat, Since, True, Until}
pub use Rattle.enforce_types.proofs.FoundSorts.{fit_under, fits_stable, nothing_under}
pub use Rattle.enforce_types.specs.machine.PolicyLaws.{FillsColumns, OnePlans, PlanMeans, PlansKeepToSignature, PolicyGuardsAreSafe, PolicyKeepsMeaning}
pub use Rattle.enforce_types.specs.machine.SortLaws.{KeepsSorts, PlanKeepsSorts, PolicyKeepsSorts, ReadIsSorted, SafeValuesFit}
pub use Rattle.enforce_types.specs.machine.TypedPolicies.{StoredTyped, WorkTogether, formulas_of, typed_of}
pub use Rattle.enforce_types.specs.machine.VariableSorts.{AreTermsOfSort, Besides, FillSorts, InfersSort, SortsFit, TraceFits, ValueFits, term_sort}
pub use Rattle.enforce_types.specs.meaning.Elab.{ArePlanned}
pub use Rattle.enforce_types.specs.meaning.PolicyRefusals.{Typed}
pub use Rattle.enforcer_core.specs.declared.step_memory.Remembered.{Remembered}
pub use Rattle.enforcer_core.specs.machine.Answers.{IsCallInTime, clock_drained}
pub use Rattle.enforcer_core.specs.machine.Course.{Course}
pub use Rattle.enforcer_core.specs.machine.CourseLaws.{CourseBegins, CourseFollows, CourseFollowsToEnd, CourseIsJustified, CourseIsJustifiedToEnd, CourseIsTransparent, CourseIsTransparentToEnd}
pub use Rattle.enforcer_core.specs.machine.EnforcerInvariant.{IsServing, enforcing_at, reach_in}
pub use Rattle.enforcer_core.specs.machine.EnforcerSteps.{EnforcerDrains, EnforcerTakes, TakesAreFew}
pub use Rattle.enforcer_core.specs.machine.Enforcers.{Enforcing, enforcer_plans, policy_plans, start_of}
pub use Rattle.enforcer_core.specs.machine.ExistenceLaws.{JustOneFollows, JustOneFollowsPolicy, JustOneFollowsToEnd, SomethingDrains, SomethingFollows}
pub use Rattle.enforcer_core.specs.machine.LawfulChanges.{ChangesLawfully, Permits, RiseWithin, RisesBy}
pub use Rattle.enforcer_core.specs.machine.Laws.{DrainIsJustified, FollowsAlone, FollowsFitsSignature, FollowsIsJustified, NothingDrains, PlannedAreSatisfied, StandsForGood}
pub use Rattle.enforcer_core.specs.machine.MadeSteps.{acted_step, acted_steps}
pub use Rattle.enforcer_core.specs.machine.PassedDeadlines.{IsLeastPassed, LetsOut, NoneIsLeft, PassesDeadlines}
pub use Rattle.enforcer_core.specs.machine.Reach.{CountsFall, WindowsAreOrdered, class_counts, classes_of, count_of_class, counts_below, is_of_class, reach_at, reach_of, widest_window}
pub use Rattle.enforcer_core.specs.machine.ReachLaws.{AnyCountsFall, AnyDeadlinesFall, DeadlinesAreWithinReach, HighsAreNear, LedDeadlinesFall, LedStaysInReach, NoneGoesOver, ReachIsWithinHorizon}
pub use Rattle.enforcer_core.specs.machine.ReachLaws.{ServedCountsFall, ServedDeadlinesFall, WindowsAreInOrder}
pub use Rattle.enforcer_core.specs.machine.SnapshotLaws.{KeptCanBeTakenUp, SavedKeepsBounds}
pub use Rattle.enforcer_core.specs.machine.Snapshots.{IsKeptOf, SavesTrace, formulas_in, policy_operators, saved_bounds}
pub use Rattle.enforcer_core.specs.machine.Stands.{DrainsNothing, FollowsDrainFrom, FollowsFrom, IsJustifiedFrom, KeepsStanding, LeavesAlone, SatisfiesBehind, Stands}
pub use Rattle.enforcer_core.specs.machine.StepLaws.{DrainLaws, StepLaws}
pub use Rattle.enforcer_core.specs.machine.StepMemory.{most_inserted, AreFactsOf, CanDecideAt, IsDecided, IsIdle, RemembersTrace}
pub use Rattle.enforcer_core.specs.meaning.FollowsPolicy.{FollowsPolicy, FollowsToEnd}
pub use Rattle.formula_reader.specs.machine.Laws.{ReadIsWellFormed}
pub use Rattle.monitorable_guard.specs.machine.Guards.{BoundFormula}
pub use Rattle.monitorable_guard.specs.machine.Laws.{SafeWithNoneListed}
pub use Rattle.monitorable_guard.specs.meaning.Safety.{NoneBound, denial}
pub use Rattle.obligations.proofs.DeadlineLaws.{deadline_is_listed, listed_is_deadline}
pub use Rattle.obligations.proofs.GatheredLists.{BegunByRoots-contains, Gathers-contains}
pub use Rattle.obligations.specs.declared.actions.Action.{Action}
pub use Rattle.obligations.specs.declared.instances.Instance.{Instance}
pub use Rattle.obligations.specs.declared.literals.Literal.{Literal}
pub use Rattle.obligations.specs.declared.literals.LiteralKind.{LiteralKind}
pub use Rattle.obligations.specs.declared.present_step.TheConstants.{MOST_TIME}
pub use Rattle.obligations.specs.machine.AskablePlans.{CanAskIn, CanAskNode, CanAskOf, CanAskRoot, CanAskRoots}
pub use Rattle.obligations.specs.machine.AskingLaws.{WellFormedCanBeAsked, WellFormedStand}
pub use Rattle.obligations.specs.machine.Leaves.{ChangesEvents, IsLeaf}
pub use Rattle.obligations.specs.machine.Parts.{HasPart}
pub use Rattle.obligations.specs.machine.PlanClasses.{LooksAtNow, PlansStand}
pub use Rattle.obligations.specs.machine.Progress.{AreServed, IsInstanceServed}
pub use Rattle.obligations.specs.machine.Residuals.{OwesAt, Residual}
pub use Rattle.obligations.specs.machine.RightValues.{AreRight, GivesRight, GuardsGiveRight}
pub use Rattle.obligations.specs.machine.SoundnessLaws.{AllHold, PendingIsEnough}
pub use Rattle.obligations.specs.machine.Successors.{LeadsAt}
pub use Rattle.obligations.specs.machine.TraceLaws.{PendCame, PendCanBePending, PendingWasBegun}
pub use Rattle.obligations.specs.machine.TriggerLaws.{BegunIsNamed, BegunIsReached, MissedIsReached, ReachedIsInside}
pub use Rattle.obligations.specs.machine.TriggeredNodes.{AreMetBy, IsBegunAt, IsBegunBy, IsBegunIn, IsBegunUnder, IsMissedIn, IsReached, IsReachedBy, last_events}
pub use Rattle.obligations.specs.machine.UniquenessLaws.{MissingIsOne, PendIsOne}
pub use Rattle.obligations.specs.machine.ValueLaws.{PendingIsRight}
pub use Rattle.obligations.specs.meaning.Obligations.{Begun, Gathers, IsNeeded, LacksNothing, LacksSome, Missing, last_position, time_now}
pub use Rattle.obligations.specs.meaning.Pending.{After, AtNode, BecomesAt, BegunByRoots, HasDeadline, IsClean, IsCleanAt, IsNowIn, IsReady, MissesAt, MissingOf, NoneIsOver, Pend, PendingAfter}
pub use Rattle.obligations.specs.meaning.Pending.{node_of}
pub use Rattle.obligations.specs.meaning.PendingBounds.{is_forced}
pub use Rattle.obligations.specs.meaning.PendingBounds.{CanBePending}
pub use Rattle.past_state.specs.declared.guards.PlacedGuard.{PlacedGuard}
pub use Rattle.past_state.specs.declared.kept_rows.KeptRow.{KeptRow}
pub use Rattle.past_state.specs.declared.operators.OperatorState.{OperatorState}
pub use Rattle.past_state.specs.machine.GuardPlaces.{placed_guard}
pub use Rattle.past_state.specs.machine.Guards.{AreCopies, tree_in}
pub use Rattle.past_state.specs.machine.KeepableOperators.{CanKeep, HeldAlone, KeptHeld, OperatorsCanBeKept}
pub use Rattle.past_state.specs.machine.Laws.{NoMoreThanNodes}
pub use Rattle.past_state.specs.machine.Memories.{IsUpToTimeOf}
pub use Rattle.past_state.specs.machine.OperatorRuns.{AreUpToTimeOf}
pub use Rattle.past_state.specs.machine.Past.{AreTablesAtStep, CommittedWillStand, GuardsWillHold, Past, formulas_of_guards}
pub use Rattle.past_state.specs.machine.RestoringLaws.{KeptAreWithinBounds}
pub use Rattle.past_state.specs.meaning.KeptRows.{AreKeptOf, AreRowsRising, IsLastTime, IsRowToKeep, KeptFor, all_operators, kept_operand, operators}
pub use Rattle.past_state.specs.meaning.RowBounds.{AreWithinBounds, IsFrom, numbered_operators}
pub use Rattle.pending.specs.machine.PendingLists.{IsPendingListOf, PendingList}
pub use Rattle.plan_terms.proofs.ScopeLaws.{AtEach-found}
pub use Rattle.plan_terms.specs.machine.GuardProperties.{CanBeEvaluated, guards_of}
pub use Rattle.plan_terms.specs.machine.IntervalEnds.{AllEndLater, EndsLater}
pub use Rattle.plan_terms.specs.machine.Laws.{FoundEndsInTime, FoundIsFirst, NodesStandIn, NumberIsPlace}
pub use Rattle.plan_terms.specs.machine.StoredPlans.{formulas_for, plan_of}
pub use Rattle.plan_terms.specs.machine.WakingNames.{waking_names}
pub use Rattle.plan_terms.specs.meaning.Owed.{IsLost}
pub use Rattle.plan_terms.specs.meaning.Plans.{AlwaysPlan, Both, CausePlan, Either, EventuallyPlan, Guarded, IsCaused, NextPlan, NothingClashes, Plan, SuppressPlan, TestOr, UntilPlan, caused_at}
pub use Rattle.plan_terms.specs.meaning.Plans.{caused_below, guard_triggers, has_deadline, has_future, has_number, is_future, node_in, nodes, nodes_of, suppressed_at, suppressed_below, window_end}
pub use Rattle.plan_terms.specs.machine.WellFormed.{AtEach, IsScopedNode, IsScopedPlan, AreWellFormed, EndsInTime, GuardBindsFresh, GuardsAreListed, IsListedNode, IsWellFormed}
pub use Rattle.plan_terms.specs.meaning.Scopes.{FitsScope, future_in, only_future, scoped_at, scoped_in_plan}
pub use Rattle.rank_check.specs.declared.horizon.TheConstants.{MOST_HORIZON}
pub use Rattle.rank_check.specs.machine.Laws.{EdgesRise}
pub use Rattle.rank_check.specs.machine.TransparencyLaws.{DeadlinesAreNotLost, OwedNodesAreNotLost, RootsAreNotLost}
pub use Rattle.rank_check.specs.meaning.AcceptedPlans.{AllIsTriggered, AreAccepted, Edge, IsCauseNode, IsPath, IsStart, begun_later, below, is_transparent, needs_trigger, path_triggers}
pub use Rattle.rank_check.specs.meaning.Horizon.{class_of, greatest, horizon_of, least_rank, least_with, plan_size, rank_in, with_deadlines}
pub use Rattle.rank_check.specs.meaning.Ranked.{AreRanked, IsRank}
pub use Rattle.save_codec.specs.declared.snapshots.Snapshot.{Snapshot}
pub use Rattle.save_codec.specs.machine.Laws.{SoundKeepsBounds}
pub use Rattle.save_codec.specs.machine.SoundStates.{IsSoundRow, IsSoundState}
pub use Rattle.save_codec.specs.meaning.SavedBounds.{RuleTells}
pub use Rattle.save_codec.specs.meaning.SavedTexts.{IsSnapshotOf}
pub use Rattle.save_codec.specs.meaning.ToldSorts.{FitTold, FitsTold, FormulaTells, GuardTells, PlanTells, SidesTell, TermsTell, is_of_guard}
pub use Rattle.signature.proofs.SignatureLaws.{has_sort-from_sort, has_sort-sort}
pub use Rattle.signature.specs.declared.entries.NameEntry.{NameEntry}
pub use Rattle.signature.specs.declared.entries.Sort.{Sort}
pub use Rattle.signature.specs.declared.entries.Sort.TheVariants.{Int}
pub use Rattle.signature.specs.machine.Entries.{FillColumns, FitsSignature}
pub use Rattle.signature.specs.meaning.Columns.{entry_columns, has_sort, value_sort}
pub use Rattle.trace_meaning.specs.declared.kinds.StepKind.{StepKind}
pub use Rattle.trace_meaning.specs.declared.kinds.StepKind.TheVariants.{Inserted, System}
pub use Rattle.trace_meaning.specs.machine.Laws.{ClockRises, GoodFromEarlier, GoodFromLonger, LastIsAtTheEnd, LastIsTheNew, LawfulJoins, RecordsJoin, SatisfyingIsGood, TraceGrows, WithinJoins}
pub use Rattle.trace_meaning.specs.machine.Enforced.{Enforced, KeepsUp}
pub use Rattle.trace_meaning.specs.meaning.Traces.{AreChangedTo, Continuation, Good, IsCause, IsInsertedLawfully, IsLaterThan, IsUntil, IsWithin, Lawful, NeverFall, OutStep, Record, Satisfies}
pub use Rattle.trace_meaning.specs.meaning.Traces.{StepRecord, Tick, clock_after, event_of, last_time, most_time, onto_system, recorded, system_steps, time_of, trace_of}
pub use Rattle.valuations.proofs.RowLaws.{cell_at, value_at-with_inside, value_at-with_outside}
