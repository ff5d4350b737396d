-- The words in which the proofs of this crate speak: those of std, of the crates below and of its own specs.
pub use Rattle.std.proofs.Common.{Bool, Contains, Err, IfErr, IfOk, IsErrAnd, IsTrue, List, None, Ok, Option, Result, Some, [], ap, append_assoc, arith, codes, cond, drop, false, get_or, inl, inr}
pub use Rattle.std.proofs.Common.{length, map, nat_eq, ok_or, pos, refl, subst, suc, sym, take, true, true≢false, zero, ℕ, ⊎_elim, ◌*◌, ◌++◌, ◌+◌, ◌-◌, ◌<◌, ◌==◌, ◌^◌, ◌↔◌, ◌∙◌, ◌∷◌, ◌≡◌, ◌≢◌, ◌≤◌}
pub use Rattle.std.proofs.Common.{◌⊎◌}
pub use Rattle.std.proofs.lemmas.List.{append-nil, get_or-map, length-append, length-drop, length-map, length-take-le, map-append, take-append-drop, take_more}
pub use Rattle.std.proofs.lemmas.List.Elements.{All-cons, All-get_or, All-nil, Contains-append_left, Contains-append_right}
pub use Rattle.std.proofs.lemmas.List.Sums.{sum_by-cons}
pub use Rattle.std.proofs.lemmas.Option.{none-some, same_Some, slice_get-map, slice_get_read, slice_get_within}
pub use Rattle.std.proofs.lemmas.Slice.Zip.{AllZip-long}
pub use Rattle.std.specs.List.{All, AllByRecursion, AllZip, flat_map, slice_get, sum_by}
pub use Rattle.std.specs.Option.{option_and_then, option_map, option_or}
pub use Rattle.enf_data.proofs.Lists.{AllByRecursion-append, AllByRecursion-contains, AllByRecursion-from_contains, AllByRecursion-of_append, AllByRecursion-weaker, Contains-append, first_or_later}
pub use Rattle.enf_data.proofs.Lists.{here, later, none_in_nil}
pub use Rattle.enf_data.proofs.ValuationFacts.{variable_is}
pub use Rattle.enf_data.specs.declared.events.Event.{Event}
pub use Rattle.enf_data.specs.declared.events.NameId.{NameId}
pub use Rattle.enf_data.specs.declared.intervals.Interval.{Interval}
pub use Rattle.enf_data.specs.declared.limits.TheConstants.{MOST_INTERVAL_END, MOST_NAMES, MOST_NODES, MOST_RULES}
pub use Rattle.enf_data.specs.declared.steps.Step.{Step}
pub use Rattle.enf_data.specs.declared.terms.Term.{Term}
pub use Rattle.enf_data.specs.declared.terms.Term.TheVariants.{Const, Var}
pub use Rattle.enf_data.specs.declared.terms.VarId.{VarId}
pub use Rattle.enf_data.specs.declared.values.Value.{Value}
pub use Rattle.enf_data.specs.declared.values.Value.TheVariants.{Num}
pub use Rattle.enf_data.specs.meaning.Data.{step_at}
pub use Rattle.enf_data.specs.meaning.Valuations.{Valuation, onto_values, value_at, value_of_term, values_of_terms, variable_cmp, with_values}
pub use Rattle.enf_formula.proofs.SameValues.{AreSameValues-some, AreSameValues-sym}
pub use Rattle.enf_formula.proofs.VariableLaws.{free_in_scope, scoped_fresh}
pub use Rattle.enf_formula.specs.machine.Agreement.{names_in_formula}
pub use Rattle.enf_formula.specs.machine.Cases.{name_p, name_q, variable_x}
pub use Rattle.enf_formula.specs.machine.FormulaViews.{tree_of}
pub use Rattle.enf_formula.specs.machine.Laws.{AreEquivalent, IsStable}
pub use Rattle.enf_formula.specs.machine.Variables.{IsClosed, IsScopedFormula}
pub use Rattle.enf_formula.specs.machine.FormulaShape.{BindsFresh, formula_size, is_past}
pub use Rattle.enf_formula.specs.meaning.Satisfaction.{Always, And, AreSameValues, AtMost, Atom, Classically, Equal, Eventually, Exists, False, Forall, Formula, Historically, HoldsAnywhere}
pub use Rattle.enf_formula.specs.meaning.Satisfaction.{HoldsUntil, Implies, IsEventAmong, IsFree, Less, Next, Not, Once, Or, Prev, Sat, Since, True, Until, formula_place}
pub use Rattle.enforce_types.specs.declared.refusals.Refusal.{Refusal}
pub use Rattle.enforce_types.specs.declared.refusals.Refusal.TheVariants.{NotEnforceable, Unguarded}
pub use Rattle.enforce_types.specs.declared.refusals.TypeRefusal.{TypeRefusal}
pub use Rattle.enforce_types.specs.declared.refusals.TypeRefusal.TheVariants.{Cyclic, NoMemory, RoleClash, Untriggered}
pub use Rattle.enforce_types.specs.declared.rule_plans.RulePlans.{RulePlans}
pub use Rattle.enforce_types.specs.machine.Cases.{int_and_text_entries, once_p, once_q, one_p, p_at, p_leaf, p_x_at, p_x_leaf, p_x_y_at, q_at, q_leaf, q_x_leaf, text_a, text_entries, var_y}
pub use Rattle.enforce_types.specs.machine.OperandAnswers.{GivesAnswer, GivesRefusal, aim_where, denied_where, positive_end, positive_end_from, test_answer}
pub use Rattle.enforce_types.specs.machine.PlanLaws.{IsOnlyAnswer}
pub use Rattle.enforce_types.specs.machine.PolicyLaws.{FillsColumns, HasRefusal, KeepsToSignature, PlanMeans}
pub use Rattle.enforce_types.specs.machine.SortLaws.{GivesSorts, KeepsSorts, PlanKeepsSorts}
pub use Rattle.enforce_types.specs.machine.TypedPolicies.{StoredTyped, WorkTogether, formulas_of, type_refusal_of_plans, type_refusal_of_rule}
pub use Rattle.enforce_types.specs.machine.VariableSorts.{AreTermsOfSort, Besides, FillSorts, HasVarSorts, InfersSort, SortsFit, TakesSort, TraceFits, ValueFits, term_sort}
pub use Rattle.enforce_types.specs.meaning.Elab.{Aim, Answer, ArePlanned, Down, Elab, Exclusion, FromNow, HasPlan, HasPlansWith, ImplicationAnswer, IsAccepted, IsGuardFor, IsRefusedAt, LeafWhere}
pub use Rattle.enforce_types.specs.meaning.Elab.{OneOfTwo, OverOne, OverTwo, RuleAnswer, Up, UpForAll, WithEnd, guard_count, guard_numbers, has_mark, is_causable, is_suppressible, node_count}
pub use Rattle.enforce_types.specs.meaning.Elab.{renumber, renumber_all}
pub use Rattle.enforce_types.specs.meaning.PolicyRefusals.{IsFirstRefusal, RefusesPolicy}
pub use Rattle.formula_reader.proofs.OptionLaws.{MadeOfOne, both_from, one_from, or_none}
pub use Rattle.formula_reader.specs.declared.policies.PolicyRefusal.{PolicyRefusal}
pub use Rattle.formula_reader.specs.machine.StoredRules.{rule_of, stored_rule_formulas}
pub use Rattle.formula_reader.specs.machine.WellFormedPolicies.{IsPolicyFormula, IsWellFormedPolicy, IsWellFormedRule}
pub use Rattle.formula_reader.specs.meaning.PolicyAnswers.{FollowsFirstPass, IsPolicyAnswer}
pub use Rattle.formula_reader.specs.meaning.Resolution.{EventName, Point, Rule, SortOf, ThisSort, Use, argument_points, binder_points, binding_names, bound_names, bound_variables_from, entry_named}
pub use Rattle.formula_reader.specs.meaning.Resolution.{formula_in, name_in, points, rule_in, rule_with, rules_in, syntax_term_place, term_in, terms_in, use_of, with_both}
pub use Rattle.formula_reader.specs.meaning.SortRefusals.{event_name_refusal, first_point_refusal, for_variable, known_after, point_refusal, policy_refusal, rule_refusal, sort_clash, sort_given}
pub use Rattle.formula_reader.specs.meaning.SortRefusals.{sort_of_term}
pub use Rattle.monitorable_guard.proofs.SafetyLaws.{below_within, historically_within, safe_past}
pub use Rattle.monitorable_guard.specs.machine.Answers.{IsBoundIn}
pub use Rattle.monitorable_guard.specs.machine.Guards.{BoundFormula}
pub use Rattle.monitorable_guard.specs.meaning.Safety.{Assigns, BoundOrFreeIn, FreeAlike, FreeUnder, FreeWithin, IsTest, NoneBound, Safe, SafeBelow}
pub use Rattle.plan_terms.proofs.ScopeLaws.{AtEach-guards, AtEach-nodes, AtEach-weaker}
pub use Rattle.plan_terms.specs.machine.GuardProperties.{CanBeEvaluated, OfGuard, guard_of, guards_of}
pub use Rattle.plan_terms.specs.machine.IntervalEnds.{AllEndLater, EndsLater}
pub use Rattle.plan_terms.specs.machine.NameBounds.{AreBelow, LooksBelow}
pub use Rattle.plan_terms.specs.machine.StoredPlans.{plan_of}
pub use Rattle.plan_terms.specs.meaning.Plans.{AlwaysPlan, Both, CausePlan, Either, EventuallyPlan, Guarded, IsCaused, IsSuppressed, NextPlan, NothingClashes, Plan, SuppressPlan, TestOr, UntilPlan}
pub use Rattle.plan_terms.specs.meaning.Plans.{all_guards, caused_at, caused_below, formula_for, guard_triggers, guards_of_plan, interval_from_to, node_number, nodes, of_each, suppressed_at}
pub use Rattle.plan_terms.specs.meaning.Plans.{suppressed_below, triggers}
pub use Rattle.plan_terms.specs.machine.WellFormed.{AtEach, IsScopedNode, AreWellFormed, EndsInTime, GuardBindsFresh, GuardsAreListed, GuardsAreSafe, IsNumberedPlan, IsSafeNode, IsSmallPlan}
pub use Rattle.plan_terms.specs.machine.WellFormed.{IsWellFormed, LooksBack}
pub use Rattle.policy_syntax.specs.declared.refusals.SyntaxRefusal.{SyntaxRefusal}
pub use Rattle.policy_syntax.specs.declared.trees.SyntaxTerm.{SyntaxTerm}
pub use Rattle.policy_syntax.specs.meaning.Trees.{AlwaysTree, AndTree, AtMostTree, AtomTree, EndsFit, EqualTree, EventuallyTree, ExistsTree, FalseTree, ForallTree, HistoricallyTree, ImpliesTree}
pub use Rattle.policy_syntax.specs.meaning.Trees.{LessTree, NextTree, NotTree, OnceTree, OrTree, PrevTree, SinceTree, SyntaxTree, TrueTree, UntilTree}
pub use Rattle.rank_check.specs.declared.rank_answers.RankRefusal.{RankRefusal}
pub use Rattle.rank_check.specs.machine.Laws.{AcceptedPlansStay, ArePlansAnswered, OneReason}
pub use Rattle.rank_check.specs.machine.Limits.{ArePlansWithinLimits, AreTriggersBelow}
pub use Rattle.rank_check.specs.machine.Roles.{AreNamesBelow}
pub use Rattle.rank_check.specs.meaning.AcceptedPlans.{AreAccepted}
pub use Rattle.rank_check.specs.meaning.Ranked.{AreRanked, Ranked}
pub use Rattle.rank_check.specs.meaning.Refusals.{RefusesPlans}
pub use Rattle.signature.specs.declared.entries.NameEntry.{NameEntry}
pub use Rattle.signature.specs.declared.entries.Sort.{Sort}
pub use Rattle.signature.specs.declared.entries.Sort.TheVariants.{Int, Text}
pub use Rattle.signature.specs.machine.Entries.{FillColumns, FitsSignature}
pub use Rattle.signature.specs.meaning.Columns.{entry_columns, value_sort}
pub use Rattle.signature.specs.meaning.Grammar.{name_number}
pub use Rattle.valuations.proofs.ColumnLaws.{among_or_not}
pub use Rattle.valuations.proofs.RowLaws.{value_at-with_outside}
