-- The words in which the proofs of this crate speak: those of std, of the crates below and of its own specs.
pub use Rattle.std.proofs.Common.{All, Bool, Contains, IfOk, IsTrue, List, None, Option, Some, [], ap, append-nil, append_assoc, arith, cond, drop, false, get_or, inl, inr, length, length-append}
pub use Rattle.std.proofs.Common.{lit<, lit≤, map, refl, reverse, rules, slice_index_or, subst, suc, sym, take, true, true≢false, zero, ℕ, ⊎_elim, ◌&&◌, ◌++◌, ◌+◌, ◌-◌, ◌<◌, ◌==◌, ◌↔◌, ◌∙◌, ◌∷◌, ◌≡◌}
pub use Rattle.std.proofs.Common.{◌≤◌, ◌⊎◌}
pub use Rattle.std.proofs.lemmas.Bool.{cases_lt, eqb-false, eqb-true, false≢true}
pub use Rattle.std.proofs.lemmas.Fn.{always_returns_same}
pub use Rattle.std.proofs.lemmas.List.{drop_all, length-map, map-append, take_all, take_more, take_rest}
pub use Rattle.std.proofs.lemmas.List.Elements.{All-contains, All-from_recursion, All-more, All-nil, All-weaker, Contains-append_cases, Contains-append_left, Contains-append_right, Contains-push}
pub use Rattle.std.proofs.lemmas.List.Elements.{Contains-push_cases}
pub use Rattle.std.proofs.lemmas.List.Sorted.{Contains-permutation, IsPartitionPoint-from_clause}
pub use Rattle.std.proofs.lemmas.Option.{none-some, same_Some}
pub use Rattle.std.proofs.lemmas.Result.{IfOk-weaker, on_ok_weaker}
pub use Rattle.std.specs.Borrow.{Bor}
pub use Rattle.std.specs.Cmp.{nat_cmp_total}
pub use Rattle.std.specs.FinMap.{get-empty, get-entries, nat_cmp-IsAntisymmetric}
pub use Rattle.std.specs.List.{AllByRecursion, find, flat_map, list_all, list_any, remove}
pub use Rattle.std.specs.List.Sorted.{IsPartitionPoint, IsPartitionedBy}
pub use Rattle.std.specs.Option.{option_copied, option_map, option_or}
pub use Rattle.std.specs.Ordering.{eq_by_cmp, is_le, is_lt, nat_cmp}
pub use Rattle.std.specs.Prelude.{IfNone, IfSome, is_some, slice_get}
pub use Rattle.choice_step.specs.declared.situation.Situation.{Situation}
pub use Rattle.choice_step.specs.declared.woken_rules.Woken.{Woken}
pub use Rattle.choice_step.specs.machine.ActionChains.{Acts, ActsFrom, HasActionRole, WillDecide}
pub use Rattle.choice_step.specs.machine.AskedLeaves.{AreAskedActions, IsAskedAction, IsAskedLeaf, all_events}
pub use Rattle.choice_step.specs.machine.Cases.{always_to_10, due_at_5, empty_at_0, event_r, for_due, for_leaf, for_root, for_second_at, is_number, next_due_at_15, p_and_r, p_at_5, p_by_5}
pub use Rattle.choice_step.specs.machine.Cases.{p_by_5_and_q_by_3, p_is_there, p_of_1_is_there, p_up_to_5, p_where_no_q, p_where_q, p_with_next, q_always, q_at_15, q_at_3, q_at_7, q_by_5, q_is_not}
pub use Rattle.choice_step.specs.machine.Cases.{q_is_there, r_is_there, second_due_at_3, second_due_at_5, served_at_5}
pub use Rattle.choice_step.specs.machine.FirstActions.{IsActionFor, WillFind}
pub use Rattle.choice_step.specs.machine.FittingEvents.{CausesFit, EventsFit, KeepFitting, TraceEventsFit}
pub use Rattle.choice_step.specs.machine.FittingLaws.{DecidedFits, DrainFits, FollowedFits}
pub use Rattle.choice_step.specs.machine.JustificationLaws.{DecidedAreJustified, LeastDeadlineIsNeeded, WillBeJustified}
pub use Rattle.choice_step.specs.machine.Laws.{ActionsAreLawful, AreDistinct, CausesAlone, DecidedIsDistinct, DecidedMissesNothing, DecidesIsOne, DrainIsOne}
pub use Rattle.choice_step.specs.machine.Laws.{EntriesFall, EventsAreActedOnOnce, FollowsIsOne, IsMeasure, SomeDecision, SomeFollows, SomeInserts}
pub use Rattle.choice_step.specs.machine.LoopActions.{ActsInTurn, AllCanBeAsked, GoesFrom}
pub use Rattle.choice_step.specs.machine.StillToAsk.{RootsAreMet}
pub use Rattle.choice_step.specs.machine.RuleTriggers.{AllSleep, AreAllIn, GainsNoSuppressed, HasNoneOf, IsAway, woken_by, woken_number}
pub use Rattle.choice_step.specs.machine.Situations.{CanDecideSituation, SituationFinds, SituationLeads, situation_plans}
pub use Rattle.choice_step.specs.machine.WantedActions.{AreLiteralsBehind, IsKnownBehind, IsKnownFor, IsLiteralAt, IsLiteralBehind, IsWantedAt, IsWantedFrom}
pub use Rattle.choice_step.specs.meaning.ActedSteps.{ActedStep, AllAreJustified, Applies, AreJustified, StepIsJustified, change_by, change_of}
pub use Rattle.choice_step.specs.meaning.Choice.{Candidate, CandidateMisses, Decides, IsFirstMissing, MissesNothing, Root, Waiting, action_at, action_at_root, action_for, all_asked}
pub use Rattle.choice_step.specs.meaning.Choice.{roots_from, trace_with_step}
pub use Rattle.choice_step.specs.meaning.Follows.{Follows, GoesOut, InsertsSteps, IsLeastDeadline, IsPassed, NoneIsPassed, StepGoesOut, is_inserted, steps_of}
pub use Rattle.enf_data.proofs.ListFacts.{Contains-flat_map, Contains-insert, drop_at_item, from_flat_map, nil_not_cons, not_both, slice_get_at}
pub use Rattle.enf_data.proofs.Lists.{AllByRecursion-append, AllByRecursion-contains, AllByRecursion-find, AllByRecursion-from_contains, AllByRecursion-weaker, Contains-append, Contains-map}
pub use Rattle.enf_data.proofs.Lists.{HasNoRepeats-middle, HasNoRepeats-push, first_or_later, here, later, list_any-Decides, none_in_nil, there_from_get}
pub use Rattle.enf_data.proofs.SortedSearch.{below_first, tied_between, up_to_last}
pub use Rattle.enf_data.proofs.TableKeys.{without_middle}
pub use Rattle.enf_data.proofs.ValuationLaws.{value_at-insert}
pub use Rattle.enf_data.proofs.ValueEquality.{Contains-stable}
pub use Rattle.enf_data.specs.declared.events.Event.{Event}
pub use Rattle.enf_data.specs.declared.events.NameId.{NameId}
pub use Rattle.enf_data.specs.declared.steps.Step.{Step}
pub use Rattle.enf_data.specs.declared.terms.Term.{Term}
pub use Rattle.enf_data.specs.declared.terms.Term.TheVariants.{Const, Var}
pub use Rattle.enf_data.specs.declared.terms.VarId.{VarId}
pub use Rattle.enf_data.specs.declared.values.Value.{Value}
pub use Rattle.enf_data.specs.declared.values.Value.TheVariants.{Text}
pub use Rattle.enf_data.specs.machine.ValueTests.{value_eq-Decides}
pub use Rattle.enf_data.specs.machine.EventSets.{without_events}
pub use Rattle.enf_data.specs.meaning.Data.{IsTrace, no_step, step_at}
pub use Rattle.enf_data.specs.meaning.Membership.{HasNoRepeats, TakesOut}
pub use Rattle.enf_data.specs.meaning.Valuations.{Valuation, bindings, no_values, onto_values, value_at, values_of_terms, variable_cmp, with_values}
pub use Rattle.enf_data.specs.meaning.Values.{value_eq}
pub use Rattle.enf_formula.specs.machine.Agreement.{HaveSameEvents, HaveSameNamedEvents, names_in_formula}
pub use Rattle.enf_formula.specs.machine.Cases.{event_p, event_q, name_q, variable_x}
pub use Rattle.enf_formula.specs.machine.Laws.{NamesDecide}
pub use Rattle.enf_formula.specs.machine.Polarity.{HaveMoreOf}
pub use Rattle.enf_formula.specs.meaning.Satisfaction.{Always, And, AtMost, Atom, Classically, Equal, Eventually, Exists, False, Forall, Formula, Historically, Implies, Less, Next, Not, Once, Or}
pub use Rattle.enf_formula.specs.meaning.Satisfaction.{Prev, Sat, Since, True, Until}
pub use Rattle.monitorable_guard.specs.machine.EventOrder.{shown_events}
pub use Rattle.monitorable_guard.specs.machine.PresentMeaning.{HoldsNow}
pub use Rattle.monitorable_guard.specs.machine.ValueSources.{IsArgument, IsFormulaConstant}
pub use Rattle.obligations.proofs.FreshGuardLemmas.{at_each}
pub use Rattle.obligations.proofs.ReachWidening.{IsReachedBy-wider}
pub use Rattle.obligations.proofs.UnreadNameLemmas.{unread_rest, unread_unmoved}
pub use Rattle.obligations.specs.declared.actions.Action.{Action}
pub use Rattle.obligations.specs.declared.instances.Instance.{Instance}
pub use Rattle.obligations.specs.declared.literals.Literal.{Literal}
pub use Rattle.obligations.specs.declared.literals.LiteralKind.{LiteralKind}
pub use Rattle.obligations.specs.declared.literals.LiteralKind.TheVariants.{Cause, Suppress}
pub use Rattle.obligations.specs.declared.present_step.Now.{Now}
pub use Rattle.obligations.specs.machine.AskablePlans.{CanAskIn, CanAskOf, CanAskPlan, CanAskRoot, CanAskRoots, IsGuardAt}
pub use Rattle.obligations.specs.machine.AskingLaws.{PendCanBeAsked, WellFormedCanBeAsked, WellFormedStand}
pub use Rattle.obligations.specs.machine.Cases.{each_q, p_of_1, q_of_1}
pub use Rattle.obligations.specs.machine.ExistenceLaws.{MissingExists, MissingOfExists, PendExists}
pub use Rattle.obligations.specs.machine.AskingLaws.{StaleNowStands}
pub use Rattle.obligations.specs.machine.FreshGuards.{askable, guards_now}
pub use Rattle.obligations.specs.machine.MovedPlans.{IsUnmovedIn, LeavesRestIn}
pub use Rattle.obligations.specs.machine.FirstMissing.{FirstMissing, FirstMissingOf, FirstOf}
pub use Rattle.obligations.specs.machine.Leaves.{ChangesEvents, IsBound, IsLeaf, terms_of}
pub use Rattle.obligations.specs.machine.LossLaws.{DeadlineIsNeeded, MissedIsServed, MissedIsServedPending, PendingIsEarlier, PendingIsOwed, SomethingMissedIsLost, SomethingMissedIsLostPending}
pub use Rattle.obligations.specs.machine.LossLaws.{time_behind}
pub use Rattle.obligations.specs.machine.PlanClasses.{IsPlain, PlansStand}
pub use Rattle.obligations.specs.machine.PresentStep.{IsNowOf}
pub use Rattle.obligations.specs.machine.RightValues.{AreRight, IsRightLiteral}
pub use Rattle.obligations.specs.machine.TriggerLaws.{UnwokenBeginsNothing, UnwokenMissesNothing}
pub use Rattle.obligations.specs.machine.TriggeredNodes.{AreMetBy}
pub use Rattle.obligations.specs.machine.UniquenessLaws.{MissingIsOne, MissingOfIsOne, PendIsOne}
pub use Rattle.obligations.specs.machine.UnreadLaws.{UnreadInstanceStaysMet, UnreadLeavesRest, UnreadStaysMet}
pub use Rattle.obligations.specs.machine.UnreadNames.{AreThoseWith, DiffersIn, IsStillWanted, IsUnread, IsUnreadIn}
pub use Rattle.obligations.specs.machine.ValueLaws.{MissedAreOwn, MissedIsRight, MissedOfAreOwn, MissedOfIsRight}
pub use Rattle.obligations.specs.machine.ValueSources.{IsKnownOn, IsOwnLiteral}
pub use Rattle.obligations.specs.machine.WantedLiterals.{IsKnownAt, IsWanted, IsWantedOf}
pub use Rattle.obligations.specs.meaning.Obligations.{AreGuardRows, Begun, Gathers, IfElse, IsAbsent, IsJustified, IsPresent, LiteralUnless, MissesAlways, MissesEither, MissesUntil, Missing, OfEvent}
pub use Rattle.obligations.specs.meaning.Obligations.{cause_literal, floor, last_position, suppress_literal, time_now}
pub use Rattle.obligations.specs.meaning.Pending.{AtNode, BegunByRoots, HasDeadline, IsClean, MissesAt, MissingOf, NoneIsOver, Pend, node_of}
pub use Rattle.obligations.specs.meaning.PendingBounds.{is_forced}
pub use Rattle.past_state.proofs.GuardLaws.{looks_at}
pub use Rattle.past_state.specs.declared.guards.PlacedGuard.{PlacedGuard}
pub use Rattle.past_state.specs.declared.kept_rows.KeptRow.{KeptRow}
pub use Rattle.past_state.specs.declared.memories.Memory.{Memory}
pub use Rattle.past_state.specs.declared.operators.OperatorState.{OperatorState}
pub use Rattle.past_state.specs.machine.GuardPlaces.{placed_guard}
pub use Rattle.past_state.specs.machine.Past.{AreTablesAtStep, GuardsWillHold, IsGuard, Past, PastStands, PastTables, formulas_of_guards, guard_formula, guard_names, tables_of}
pub use Rattle.past_state.specs.machine.StoredRows.{StoresFor}
pub use Rattle.past_state.specs.machine.ValueSources.{AreKnown, IsConstantOf, IsKeptValue}
pub use Rattle.past_state.specs.meaning.KeptRows.{pair_of}
pub use Rattle.pending.specs.machine.Laws.{EarlyMissNothing, SleepersMissNothing}
pub use Rattle.pending.specs.machine.Moments.{step_moment}
pub use Rattle.pending.specs.machine.PendingLists.{IsPendingListOf, PendingList, listed_instances}
pub use Rattle.pending.specs.machine.Waits.{IsWaitOf, Listed, SleepsNow, Wait}
pub use Rattle.plan_terms.proofs.NodeLemmas.{first_node, plan_at}
pub use Rattle.plan_terms.proofs.ScopeLaws.{AtEach-below, AtEach-root}
pub use Rattle.plan_terms.specs.machine.Laws.{LostStaysLost, OwedStaysOwed}
pub use Rattle.plan_terms.specs.machine.WakingNames.{waking_names}
pub use Rattle.plan_terms.specs.machine.NamedNodes.{IsNodeByNumber}
pub use Rattle.plan_terms.specs.machine.StoredPlans.{plan_of}
pub use Rattle.plan_terms.specs.meaning.Owed.{IsLost}
pub use Rattle.plan_terms.specs.meaning.Plans.{AlwaysPlan, Both, CausePlan, Either, EventuallyPlan, Guarded, IsCaused, IsSuppressed, NextPlan, NothingClashes, Plan, SuppressPlan, TestOr, UntilPlan}
pub use Rattle.plan_terms.specs.meaning.Plans.{caused_at, caused_below, formula_for, has_deadline, has_number, is_future, node_in, node_number, nodes, nodes_of, of_each, suppressed_at}
pub use Rattle.plan_terms.specs.meaning.Plans.{suppressed_below, triggers}
pub use Rattle.plan_terms.specs.machine.WellFormed.{AtEach, AreWellFormed, EndsInTime, IsWellFormed}
pub use Rattle.plan_terms.specs.meaning.Scopes.{scoped_nodes}
pub use Rattle.sleepers.specs.machine.Entries.{AllButThose, shown}
pub use Rattle.sleepers.specs.machine.Patterns.{HasNone}
pub use Rattle.trace_meaning.specs.declared.kinds.StepKind.{StepKind}
pub use Rattle.trace_meaning.specs.declared.kinds.StepKind.TheVariants.{Inserted, System}
pub use Rattle.trace_meaning.specs.machine.Laws.{TraceGrows}
pub use Rattle.trace_meaning.specs.meaning.Traces.{Changes, IsCause, Record, StepRecord, Tick, event_of, last_time, recorded, time_of}
pub use Rattle.windows.specs.declared.kept_pairs.KeptPair.{KeptPair}
pub use Rattle.windows.specs.machine.StoredPairs.{pairs_of_last}
