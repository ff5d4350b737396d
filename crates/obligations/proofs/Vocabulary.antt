-- The words in which the proofs of this crate speak: those of std, of the crates below and of its own specs.
pub use Rattle.std.proofs.Common.{All, Bool, Contains, Err, IfOk, IsTrue, List, None, Ok, Option, Result, Some, [], ap, append_assoc, arith, cond, drop, false, get_or, inl, inr, length, length-append}
pub use Rattle.std.proofs.Common.{lit<, lit≤, map, nat_eq, ne_eqb, refl, rules, slice_index_or, subst, suc, sym, take, true, true≢false, zero, ℕ, ⊎_elim, ◌*◌, ◌++◌, ◌+◌, ◌-◌, ◌<◌, ◌||◌, ◌∙◌, ◌∷◌, ◌≡◌}
pub use Rattle.std.proofs.Common.{◌≤◌, ◌⊎◌}
pub use Rattle.std.proofs.Math.Seq.{take-suc}
pub use Rattle.std.proofs.lemmas.Bool.{cases_lt, eqb-true, false≢true}
pub use Rattle.std.proofs.lemmas.List.{append-nil, get_or-append-add, get_or_append_left, length-map, length-take-le, map_more, nil_from_length, take-append-drop, take-append-le, take_all}
pub use Rattle.std.proofs.lemmas.List.Elements.{All-cons, All-contains, All-contains_itself, All-from_recursion, All-nil, All-weaker, Contains-append_left, Contains-append_right, Contains-push}
pub use Rattle.std.proofs.lemmas.List.Elements.{Contains-push_cases, recursion_from_All}
pub use Rattle.std.proofs.lemmas.List.Folds.{find-append}
pub use Rattle.std.proofs.lemmas.List.Sums.{sum_by-cons}
pub use Rattle.std.proofs.lemmas.Option.{get_or_from_slice_get, none-some, same_Some, slice_get-get_or, slice_get-map}
pub use Rattle.std.proofs.lemmas.Result.{IfOk-weaker, on_ok_weaker}
pub use Rattle.std.specs.Bool.{Decides}
pub use Rattle.std.specs.Cmp.{Equal-is, unsigned_Decides}
pub use Rattle.std.specs.List.{AllByRecursion, count_by, find, list_any}
pub use Rattle.std.specs.Option.{is_none, option_copied, option_map, option_or, option_to_list}
pub use Rattle.std.specs.Ordering.{is_eq, ordering_reverse}
pub use Rattle.std.specs.Prelude.{IfSome, IsFalse, IsSome, not, slice_get, ◌==◌, ◌↔◌}
pub use Rattle.std.specs.declared.cmp.Ordering.{Ordering}
pub use Rattle.std.specs.declared.cmp.Ordering.TheVariants.{Equal, Greater, Less}
pub use Rattle.enf_data.proofs.ListFacts.{all_at, cases_le, nil_not_cons, not_both, on_ok_both, slice_get-map_at, true_from_eq}
pub use Rattle.enf_data.proofs.Lists.{AllByRecursion-append, AllByRecursion-contains, AllByRecursion-from_contains, AllByRecursion-weaker, Contains-append, first_or_later, here, later}
pub use Rattle.enf_data.proofs.Lists.{list_any-Decides, none_in_nil, there_from_get}
pub use Rattle.enf_data.proofs.RisingLists.{rising_behind, rising_distinct, same_rising}
pub use Rattle.enf_data.proofs.ValuationFacts.{as_many_values, listed_values, one_event, some_value, step_at_end, values_listed}
pub use Rattle.enf_data.proofs.ValuationLaws.{value_at-insert, variable_cmp_total}
pub use Rattle.enf_data.proofs.ValueEquality.{event_eq-Decides}
pub use Rattle.enf_data.proofs.ValueOrder.{row_cmp_total}
pub use Rattle.enf_data.specs.declared.events.Event.{Event}
pub use Rattle.enf_data.specs.declared.events.NameId.{NameId}
pub use Rattle.enf_data.specs.declared.steps.Step.{Step}
pub use Rattle.enf_data.specs.declared.terms.Term.{Term}
pub use Rattle.enf_data.specs.declared.terms.Term.TheVariants.{Const, Var}
pub use Rattle.enf_data.specs.declared.terms.VarId.{VarId}
pub use Rattle.enf_data.specs.declared.values.Value.{Value}
pub use Rattle.enf_data.specs.machine.ValueTests.{value_eq-Decides}
pub use Rattle.enf_data.specs.meaning.Data.{IsTrace, no_step, step_at}
pub use Rattle.enf_data.specs.meaning.Membership.{HasNoRepeats, IsIn}
pub use Rattle.enf_data.specs.meaning.Valuations.{BindsColumns, Valuation, no_values, onto_values, value_at, value_of_term, values_of_terms, variable_cmp, with_values}
pub use Rattle.enf_data.specs.meaning.Values.{event_eq, row_cmp}
pub use Rattle.enf_formula.proofs.VariableLaws.{new_apart}
pub use Rattle.enf_formula.specs.machine.Agreement.{HaveSameNamedEvents, names_in_formula}
pub use Rattle.enf_formula.specs.machine.Cases.{at_time, event_p, event_p_of, event_q, event_q_of, formula_p_x, name_p, name_q, variable_x}
pub use Rattle.enf_formula.specs.machine.FormulaViews.{tree_of}
pub use Rattle.enf_formula.specs.machine.Laws.{NamesDecide, PastDecides}
pub use Rattle.enf_formula.specs.machine.Polarity.{AsksOnly, HaveMoreOf, MoreEventsKeep}
pub use Rattle.enf_formula.specs.machine.FormulaShape.{AreNewVariables, AreTermsInScope, IsTermInScope, is_past}
pub use Rattle.enf_formula.specs.meaning.Satisfaction.{And, Atom, Classically, Exists, Formula, HoldsUntil, IsEventAmong, IsFree, Or, Sat, elapsed}
pub use Rattle.monitorable_guard.specs.machine.Evaluation.{AreHoldingRows, AreOpen, IsKnownNow}
pub use Rattle.monitorable_guard.specs.machine.Guards.{BoundFormula}
pub use Rattle.monitorable_guard.specs.machine.Laws.{SafeHasRows, SafeIsDecided, SafeValuesAreKnown}
pub use Rattle.monitorable_guard.specs.machine.PresentMeaning.{HoldsNow, tables_beyond}
pub use Rattle.monitorable_guard.specs.machine.SatisfyingRows.{AreTold}
pub use Rattle.monitorable_guard.specs.meaning.Safety.{FreeWithin}
pub use Rattle.obligations.specs.declared.instances.Instance.{Instance}
pub use Rattle.obligations.specs.declared.literals.Literal.{Literal}
pub use Rattle.obligations.specs.declared.literals.LiteralKind.{LiteralKind}
pub use Rattle.obligations.specs.declared.present_step.Now.{Now}
pub use Rattle.obligations.specs.machine.Additions.{AddsAsked, AddsList, AddsOf, IsBegunHere}
pub use Rattle.obligations.specs.machine.AskablePlans.{CanAskIn, CanAskNode, CanAskOf, CanAskPlan, CanAskRoot, CanAskRoots, IsGuardAt}
pub use Rattle.obligations.specs.machine.AskingLaws.{BegunCanBeAsked, CanBeAsked, FreshInstanceCanBeAsked, FreshPlanCanBeAsked, NowStands, PendCanBeAsked, PendingAfterCanBeAsked, StaleNowStands}
pub use Rattle.obligations.specs.machine.AskingLaws.{WellFormedCanBeAsked, WellFormedStand}
pub use Rattle.obligations.specs.machine.Cases.{always_p, at_5, at_once_for, bar_q, begun_at_5, begun_then, bound_to, cause_q_of_x, each_next, each_q, next_for, next_p, p_of_1, q_of_1, q_of_2, soon_p}
pub use Rattle.obligations.specs.machine.Cases.{then_at, then_for, two_and_one, value_1, value_2, waiting}
pub use Rattle.obligations.specs.machine.Deadlines.{count_due, deadline_at, is_deadline_at, is_due}
pub use Rattle.obligations.specs.machine.ExistenceLaws.{AfterExists, BegunExists, MissingExists, MissingOfExists, PendExists, PendingAfterExists}
pub use Rattle.obligations.specs.machine.FirstMissing.{FirstMissing, FirstOf}
pub use Rattle.obligations.specs.machine.Leaves.{IsBound, IsLeaf, IsLeafConstant, terms_of}
pub use Rattle.obligations.specs.machine.FreshGuards.{HaveSameFreshEvents, IgnoresAll, askable, guards_now, looks_for_any, unaskable}
pub use Rattle.obligations.specs.machine.LossLaws.{SomethingMissedIsLost, time_behind}
pub use Rattle.obligations.specs.machine.MovedPlans.{AnswersOwn, IgnoresAllOf, IgnoresIn, IsUnmovedOf, IsUnmoved, IsUnmovedIn, KeepsFalse, KeepsTrue, LeavesRest, LeavesRestIn, SuppressesOwn, SuppressesWith, brings}
pub use Rattle.obligations.specs.machine.MovedPlans.{is_same_name}
pub use Rattle.obligations.specs.machine.Parts.{AsksPart, AsksPartOrNothing, HasPart, IsAskedPart}
pub use Rattle.obligations.specs.machine.PlanClasses.{IsPatient, IsPlain, LooksAtNow, PlansStand}
pub use Rattle.obligations.specs.machine.PresentStep.{IsNowOf, IsSideTaken, TakesSide, TellsNothing, begun_at_now}
pub use Rattle.obligations.specs.machine.Progress.{AreServed, BegunFor, IsInstanceServed, WillBecome, awaited_in}
pub use Rattle.obligations.specs.machine.Residuals.{IsPositionLeft, OwesAt, Residual}
pub use Rattle.obligations.specs.machine.RightValues.{AreRight, GivesRight, GuardsGiveRight, IsRightLiteral}
pub use Rattle.obligations.specs.machine.SoundnessLaws.{AllHold, NothingMissedIsEnough, NothingMissedIsEnoughPending, PendingIsEnough, StepIsEnough}
pub use Rattle.obligations.specs.machine.Successors.{ComesOf, ComesOfRoot}
pub use Rattle.obligations.specs.machine.TraceLaws.{CleanGrows, NothingIsPending, PendCame, PendCanBePending, PendGrows, PendingWasBegun}
pub use Rattle.obligations.specs.machine.TriggerLaws.{BegunIsNamed, BegunIsReached, MissedIsReached, ReachedIsInside, UnwokenBeginsNothing, UnwokenMissesNothing}
pub use Rattle.obligations.specs.machine.TriggeredNodes.{AreMetBy, HoldsNowhere, IsBegunAt, IsBegunBy, IsBegunIn, IsMissedIn, IsReached, IsReachedBy, begun_at, last_events}
pub use Rattle.obligations.specs.machine.UniquenessLaws.{AfterIsOne, BegunIsOne, MissingIsOne, MissingOfIsOne, PendIsOne, RowsAreOne}
pub use Rattle.obligations.specs.machine.UnreadLaws.{UnreadInstanceStaysMet, UnreadLeavesRest, UnreadStaysMet}
pub use Rattle.obligations.specs.machine.UnreadNames.{AreThoseWith, DiffersIn, Ignores, IgnoresAt, IsStillWanted, IsUnread, IsUnreadIn}
pub use Rattle.obligations.specs.machine.ValueLaws.{MissedAreOwn, MissedIsRight, MissedOfAreOwn, MissedOfIsRight, PendingIsRight}
pub use Rattle.obligations.specs.machine.ValueSources.{IsKnownOn, IsOwnLiteral}
pub use Rattle.obligations.specs.machine.WantedLiterals.{IsKnownAt, IsWanted, IsWantedOf, IsWantedUnder}
pub use Rattle.obligations.specs.meaning.Obligations.{AreGuardRows, BeginsAlways, BeginsOrWaits, Begun, Gathers, HasSome, HoldsLast, IfElse, IsAbsent, IsNeeded, IsPresent, IsWantedBy, LacksNothing}
pub use Rattle.obligations.specs.meaning.Obligations.{LacksSome, LiteralUnless, MissesAlways, MissesEither, MissesUntil, Missing, OfEvent, ServesLiteral, TakesOrElse, TakesPresent, WithBehind}
pub use Rattle.obligations.specs.meaning.Obligations.{begun_now, cause_literal, last_position, literal_of, suppress_literal, time_now}
pub use Rattle.obligations.specs.meaning.Pending.{After, AtNode, BecomesAt, BeginsInWindow, BegunByRoots, HasDeadline, IsClean, IsCleanAt, IsInWindow, IsNowIn, MissesAt, MissingOf, NoneIsOver}
pub use Rattle.obligations.specs.meaning.Pending.{PendingAfter, PendsBehind, node_of}
pub use Rattle.obligations.specs.meaning.PendingBounds.{is_forced}
pub use Rattle.obligations.specs.meaning.PendingBounds.{CanBePending, IsNext, first_end, second_end}
pub use Rattle.past_state.specs.declared.guards.PlacedGuard.{PlacedGuard}
pub use Rattle.past_state.specs.machine.GuardPlaces.{placed_guard}
pub use Rattle.past_state.specs.machine.Guards.{AreCopies}
pub use Rattle.past_state.specs.machine.Past.{AreEvaluated, BindsBound, GuardsWillHold, HasOpenColumns, IsEvaluated, IsGuard, IsTestOf, Past, PastStands, PastTables, guard_formula, tables_of}
pub use Rattle.past_state.specs.machine.ValueSources.{IsKnownOfGuard}
pub use Rattle.plan_terms.proofs.NodeLemmas.{from_one}
pub use Rattle.plan_terms.proofs.ScopeLaws.{AtEach-below, AtEach-found, AtEach-from_nodes, AtEach-nodes, AtEach-root, AtEach-weaker}
pub use Rattle.plan_terms.specs.machine.Cases.{cause_p}
pub use Rattle.plan_terms.specs.machine.GuardPlaces.{BindsFree}
pub use Rattle.plan_terms.specs.machine.GuardProperties.{GuardLooksBack, guards_of}
pub use Rattle.plan_terms.specs.machine.Laws.{FoundIsFirst, LeadsOn, LostStaysLost, NodesHaveScopes, OwedLeadsOn, OwedStaysOwed, PlansStandIn, TriggersAreMet}
pub use Rattle.plan_terms.specs.machine.NamedNodes.{FindsScope, IsNodeByNumber, StandsIn}
pub use Rattle.plan_terms.specs.machine.StoredPlans.{plan_of}
pub use Rattle.plan_terms.specs.machine.WakingNames.{waking_names}
pub use Rattle.plan_terms.specs.meaning.Owed.{IsAhead, IsLost, IsNotMet, IsOwed, IsStillLost, LeadsThrough, LeadsTo, Obligation, WasLost, obligation}
pub use Rattle.plan_terms.specs.meaning.Plans.{AlwaysPlan, Both, CausePlan, Either, EventuallyPlan, Guarded, NextPlan, Plan, SuppressPlan, TestOr, UntilPlan, formula_for, has_deadline, has_future}
pub use Rattle.plan_terms.specs.meaning.Plans.{has_number, interval_from_to, is_future, node_in, node_number, nodes, nodes_of, of_each, triggers, window_end}
pub use Rattle.plan_terms.specs.machine.WellFormed.{AtEach, IsScopedNode, AreWellFormed, EndsInTime, GuardBindsFresh, IsListedNode, IsSafeNode, IsWellFormed}
pub use Rattle.plan_terms.specs.meaning.Scopes.{FitsScope, future_in, only_future, scoped_at, scoped_in_plan, scoped_nodes}
pub use Rattle.trace_meaning.specs.machine.Laws.{LastIsAtTheEnd}
pub use Rattle.trace_meaning.specs.meaning.Traces.{Continuation, last_time}
pub use Rattle.valuations.proofs.ColumnLaws.{among_or_not}
pub use Rattle.valuations.proofs.KeyLaws.{key_cmp_exact, key_cmp_total}
pub use Rattle.valuations.proofs.RowLaws.{agrees_once, cell_some, table_row-length, value_at-with_inside, value_at-with_outside}
pub use Rattle.valuations.proofs.ScopeLaws.{filled_fresh}
pub use Rattle.valuations.specs.machine.Bindings.{bound_in, filled_from_row}
pub use Rattle.valuations.specs.machine.RowParts.{key_cmp}
pub use Rattle.valuations.specs.machine.Tables.{AgreeOnColumns, AgreesWithRow, HasValuation, IsTable, Relation, row_cell}
