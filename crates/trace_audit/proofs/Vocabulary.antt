-- The words in which the proofs of this crate speak: those of std, of the crates below and of its own specs.
pub use Rattle.std.proofs.Common.{Bool, Contains, Err, Global, IsTrue, List, None, Ok, OnErr, OnOk, Option, Result, Some, Vec, [], ap, append_assoc, arith, drop, get_or, inl, inr, length}
pub use Rattle.std.proofs.Common.{length-append, lit<, lit≤, map, refl, rules, set, subst, subst₂, suc, sym, take, true≢false, zero, ℕ, ⊎_elim, ◌*◌, ◌++◌, ◌+◌, ◌<◌, ◌∙◌, ◌∷◌, ◌≡◌, ◌≤◌, ◌⊎◌}
pub use Rattle.std.proofs.Math.Seq.{get_or-append_seam}
pub use Rattle.std.proofs.lemmas.Bool.{cases_eq, cases_lt}
pub use Rattle.std.proofs.lemmas.List.{append-nil, drop_all, get_or-take, get_or_append_left, length-map, length-take-le, take_all, take_more}
pub use Rattle.std.proofs.lemmas.List.Concat.{flat_map-append}
pub use Rattle.std.proofs.lemmas.List.Elements.{Contains-append_left, Contains-append_right}
pub use Rattle.std.proofs.lemmas.Option.{get_or_from_slice_get, none-some, same_Some, slice_get-get_or, slice_get-map, slice_get_within}
pub use Rattle.std.proofs.lemmas.Result.{IfOk-weaker, on_ok_weaker}
pub use Rattle.std.specs.List.{AllByRecursion, AllZip}
pub use Rattle.std.specs.Option.{IfNone, option_map, option_to_list}
pub use Rattle.std.specs.Prelude.{IsSome, slice_get, ◌↔◌}
pub use Rattle.enf_data.proofs.ListFacts.{Contains-flat_map, all_at, drop_at_item, eq_from_neither_less, on_err_from, slice_get-append_left, slice_get-map_at}
pub use Rattle.enf_data.proofs.Lists.{AllByRecursion-append, AllByRecursion-contains, AllByRecursion-from_contains, AllByRecursion-of_append, AllByRecursion-weaker, Contains-append, Contains-from_map}
pub use Rattle.enf_data.proofs.Lists.{Contains-map, first_or_later, here, later, none_in_nil, there_from_get}
pub use Rattle.enf_data.proofs.ValuationFacts.{some_value}
pub use Rattle.enf_data.specs.declared.events.Event.{Event}
pub use Rattle.enf_data.specs.declared.steps.Step.{Step}
pub use Rattle.enf_data.specs.declared.terms.VarId.{VarId}
pub use Rattle.enf_data.specs.declared.values.Value.{Value}
pub use Rattle.enf_data.specs.meaning.Data.{IsTrace, no_step, step_at}
pub use Rattle.enf_data.specs.meaning.Membership.{HasNoRepeats, IsIn}
pub use Rattle.enf_data.specs.meaning.Valuations.{BindsColumns, Valuation, no_values, value_at, variable_cmp, with_values}
pub use Rattle.enf_formula.proofs.VariableLaws.{new_apart}
pub use Rattle.enf_formula.specs.machine.Agreement.{AgreeUpTo}
pub use Rattle.enf_formula.specs.machine.Cases.{event_p, event_q, formula_p, formula_q}
pub use Rattle.enf_formula.specs.machine.FormulaViews.{tree_of}
pub use Rattle.enf_formula.specs.machine.Laws.{IsStable, PastDecides}
pub use Rattle.enf_formula.specs.machine.FormulaShape.{AreNewVariables, is_past}
pub use Rattle.enf_formula.specs.meaning.Satisfaction.{Classically, Formula, IsFree, Sat, elapsed}
pub use Rattle.enforce_types.specs.machine.PolicyLaws.{PlanMeans, PolicyKeepsMeaning}
pub use Rattle.enforce_types.specs.machine.TypedPolicies.{typed_of}
pub use Rattle.monitorable_guard.specs.machine.Evaluation.{AreOpen}
pub use Rattle.monitorable_guard.specs.machine.Guards.{BoundFormula}
pub use Rattle.past_state.specs.declared.guards.PlacedGuard.{PlacedGuard}
pub use Rattle.past_state.specs.machine.GuardPlaces.{guards_at, placed_guard}
pub use Rattle.past_state.specs.machine.Guards.{AreCopies}
pub use Rattle.past_state.specs.machine.OperatorRuns.{AreUpToTimeOf}
pub use Rattle.past_state.specs.machine.Past.{AreEvaluated, AreTablesAtStep, BindsBound, GuardsWillHold, HasOpenColumns, IsEvaluated, IsGuard, IsTestOf, Past, PastStands, PastTables, guard_formula}
pub use Rattle.past_state.specs.machine.Past.{tables_of}
pub use Rattle.plan_terms.proofs.ScopeLaws.{AtEach-from_nodes, AtEach-weaker}
pub use Rattle.plan_terms.specs.machine.GuardProperties.{guards_of}
pub use Rattle.plan_terms.specs.machine.Laws.{ColumnsAreVariables}
pub use Rattle.plan_terms.specs.machine.StoredPlans.{formulas_for, plan_of}
pub use Rattle.plan_terms.specs.meaning.Plans.{AlwaysPlan, Both, CausePlan, Either, EventuallyPlan, Guarded, NextPlan, Plan, SuppressPlan, TestOr, UntilPlan, formula_for, interval_from_to, nodes}
pub use Rattle.plan_terms.specs.machine.WellFormed.{AtEach, IsScopedNode, AreWellFormed, EndsInTime, GuardBindsFresh, IsListedNode, IsSafeNode, IsWellFormed, LooksBack}
pub use Rattle.plan_terms.specs.meaning.Scopes.{FitsScope}
pub use Rattle.sleepers.proofs.OrderLemmas.{not_itself}
pub use Rattle.sleepers.specs.declared.entries.Entry.{Entry}
pub use Rattle.sleepers.specs.declared.patterns.Pattern.{Pattern}
pub use Rattle.sleepers.specs.machine.Entries.{ArePlaced, HasOneMoreEntry, IsAllBut, IsAsleep, IsFreePlace}
pub use Rattle.sleepers.specs.machine.Patterns.{HasNone}
pub use Rattle.sleepers.specs.machine.Places.{IsPlaceBefore, Place, beginning_at}
pub use Rattle.trace_audit.specs.declared.followed_rules.Followed.{Followed}
pub use Rattle.trace_audit.specs.declared.open_rules.OpenRule.{OpenRule}
pub use Rattle.trace_audit.specs.declared.residuals.Link.{Link}
pub use Rattle.trace_audit.specs.declared.residuals.Link.TheBlock.{hidden-the_row-Link-0}
pub use Rattle.trace_audit.specs.declared.residuals.Residual.{Residual, Row_of-Link, end_of-Link, items-the_row-Link, items_hidden-the_row-Link-0, more_of-Link, the_lemmas}
pub use Rattle.trace_audit.specs.declared.residuals.Waiting.{Waiting}
pub use Rattle.trace_audit.specs.declared.verdicts.RuleAt.{RuleAt}
pub use Rattle.trace_audit.specs.declared.verdicts.Verdict.{Verdict}
pub use Rattle.trace_audit.specs.declared.verdicts.Verdict.TheVariants.{Fails, Holds}
pub use Rattle.trace_audit.specs.machine.AskablePlans.{CanEvaluatePlan, IsAskable}
pub use Rattle.trace_audit.specs.machine.Auditors.{Auditing, Audits, HasTaken, audited_rules, end_of}
pub use Rattle.trace_audit.specs.machine.Cases.{one_step, p_always_later, q_later, q_next, q_now, q_until_q_later}
pub use Rattle.trace_audit.specs.machine.Judgements.{AreJudged, BeginsRules, FollowsAsked, FollowsOneAsked, IsAskedFor, IsFirstWith, IsJudged, IsRuleBefore, IsRuleBeforeAny, JudgesStep, NothingElse}
pub use Rattle.trace_audit.specs.machine.Judgements.{PutsIn, RulesAreMet, RulesCanGoOn, asked_at, rule_at}
pub use Rattle.trace_audit.specs.machine.Laws.{VerdictIsOfPolicy, VerdictIsOne}
pub use Rattle.trace_audit.specs.machine.Moments.{AuditMoment, IsAt, IsBegunWaiting, TellsRest, audit_moment, moment_of}
pub use Rattle.trace_audit.specs.machine.OpenRules.{AreAmongRules, AreForSlots, HasOneMoreRule, IsForSlot, TakesAhead, TakesAwake, open_in, slot_place}
pub use Rattle.trace_audit.specs.machine.Residuals.{CanLinkGoOn, CanRowGoOn, ClassicallyOr, IsAllOf, IsAnyOf, IsHung, IsLeftInWindow, LinkMeans, LinksMean, Means, OperatorAsks, PlanHoldsAt}
pub use Rattle.trace_audit.specs.machine.Residuals.{ResidualCanGoOn, RowMeans, WaitingAsks}
pub use Rattle.trace_audit.specs.machine.Waiting.{LinksWait, StaysAsked, WaitsForEvents}
pub use Rattle.trace_audit.specs.meaning.Verdicts.{HoldsAt, IsBroken, IsFirstBroken, IsVerdict}
pub use Rattle.trace_meaning.specs.machine.Laws.{LastIsAtTheEnd, LastIsTheNew, NoneIsLater, TraceGrows}
pub use Rattle.trace_meaning.specs.meaning.Traces.{Satisfies, last_time}
pub use Rattle.valuations.proofs.RowLaws.{agrees_once, cell_some, table_row-length, value_at-with_inside, value_at-with_outside}
pub use Rattle.valuations.proofs.ScopeLaws.{filled_fresh}
pub use Rattle.valuations.specs.machine.Bindings.{bound_in, filled_from_row}
pub use Rattle.valuations.specs.machine.Tables.{AgreeOnColumns, AgreesWithRow, IsTable, Relation}
pub use Rattle.wake_patterns.specs.machine.Laws.{BringsFresh, BringsFreshUnder, UnmetPlansFail, UnmissedPlansHold}
pub use Rattle.wake_patterns.specs.machine.WakePatterns.{met_by, missed_by, patterns_of_both, wake_patterns}
