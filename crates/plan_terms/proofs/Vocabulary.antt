-- The words in which the proofs of this crate speak: those of std, of the crates below and of its own specs.
pub use Rattle.std.proofs.Common.{All, Bool, Contains, IsTrue, List, None, Option, Some, [], ap, append_assoc, arith, cond, eq-eqb, false, get_or, inl, inr, length, length-append, lit<, lit≤, map}
pub use Rattle.std.proofs.Common.{nat_eq, ne_eqb, pos, refl, slice_index_or, subst, suc, sym, true, zero, ℕ, ⊎_elim, ◌++◌, ◌+◌, ◌<◌, ◌||◌, ◌∙◌, ◌∷◌, ◌≡◌, ◌≤◌, ◌⊎◌}
pub use Rattle.std.proofs.lemmas.Bool.{false≢true, or_parts}
pub use Rattle.std.proofs.lemmas.Bool.Decides.{not_from_Decides}
pub use Rattle.std.proofs.lemmas.List.{append-nil, get_or_append_left, map-append}
pub use Rattle.std.proofs.lemmas.List.Elements.{All-append, All-from_recursion, All-nil, All-weaker, Contains-append_left, Contains-append_right, Contains-push}
pub use Rattle.std.proofs.lemmas.List.Folds.{find-append}
pub use Rattle.std.proofs.lemmas.Option.{none-some, same_Some, slice_get-map, slice_get_read}
pub use Rattle.std.specs.List.{AllByRecursion, find, list_any, slice_get}
pub use Rattle.std.specs.Option.{option_copied, option_map, option_or}
pub use Rattle.enf_data.proofs.Lists.{AllByRecursion-append, AllByRecursion-contains, AllByRecursion-find, AllByRecursion-from_contains, AllByRecursion-of_append, AllByRecursion-weaker}
pub use Rattle.enf_data.proofs.Lists.{Contains-append, first_or_later, here, later, none_in_nil}
pub use Rattle.enf_data.proofs.RisingLists.{rising_behind, same_rising}
pub use Rattle.enf_data.proofs.ValuationFacts.{one_event, only_variable}
pub use Rattle.enf_data.proofs.ValuationLaws.{value_at-insert, variable_cmp_total}
pub use Rattle.enf_data.proofs.ValueEquality.{has_event-Decides}
pub use Rattle.enf_data.specs.declared.events.Event.{Event}
pub use Rattle.enf_data.specs.declared.events.NameId.{NameId}
pub use Rattle.enf_data.specs.declared.steps.Step.{Step}
pub use Rattle.enf_data.specs.declared.terms.Term.{Term}
pub use Rattle.enf_data.specs.declared.terms.Term.TheVariants.{Var}
pub use Rattle.enf_data.specs.declared.terms.VarId.{VarId}
pub use Rattle.enf_data.specs.declared.values.Value.{Value}
pub use Rattle.enf_data.specs.declared.values.Value.TheVariants.{Num}
pub use Rattle.enf_data.specs.meaning.Data.{IsTrace, no_step, step_at}
pub use Rattle.enf_data.specs.meaning.Membership.{HasNoRepeats, IsIn}
pub use Rattle.enf_data.specs.meaning.Valuations.{Valuation, no_values, onto_values, value_at, values_of_terms, variable_cmp, with_values}
pub use Rattle.enf_formula.proofs.VariableLaws.{new_apart}
pub use Rattle.enf_formula.specs.machine.Cases.{at_time, empty_step, event_p, event_p_of, event_q, formula_p, formula_p_x, name_p, name_q, p_1_q_1, two_steps, variable_x}
pub use Rattle.enf_formula.specs.machine.Laws.{PastDecides}
pub use Rattle.enf_formula.specs.machine.FormulaShape.{AreNewVariables, IsTermInScope, is_past}
pub use Rattle.enf_formula.specs.meaning.Satisfaction.{And, Atom, Classically, Exists, Formula, IsEventAmong, IsFree, Or, Sat, elapsed}
pub use Rattle.monitorable_guard.specs.machine.Evaluation.{AreOpen}
pub use Rattle.monitorable_guard.specs.meaning.Safety.{FreeWithin}
pub use Rattle.plan_terms.specs.machine.Cases.{cause_p, each_soon, plan_cause_q, plan_cause_q_x, plan_terms_y, soon_q_x, wait, x_is}
pub use Rattle.plan_terms.specs.machine.GuardProperties.{GuardLooksBack, OfGuard}
pub use Rattle.plan_terms.specs.machine.Laws.{ColumnsAreVariables, LeadsOn, LostStaysLost, OwedLeadsOn, OwedStaysOwed}
pub use Rattle.plan_terms.specs.machine.NamedNodes.{IsNodeByNumber, StandsIn}
pub use Rattle.plan_terms.specs.machine.StoredPlans.{plan_of}
pub use Rattle.plan_terms.specs.meaning.Owed.{IsAhead, IsLost, IsNotMet, IsStillLost, LeadsThrough, LeadsTo, Obligation, WasLost, obligation}
pub use Rattle.plan_terms.specs.meaning.Plans.{AlwaysPlan, Both, CausePlan, Either, EventuallyPlan, Guarded, NextPlan, Plan, SuppressPlan, TestOr, UntilPlan, caused_at, formula_for, guards_of_plan}
pub use Rattle.plan_terms.specs.meaning.Plans.{has_future, has_number, interval_from_to, is_future, node_in, node_number, nodes, nodes_of, of_each, triggers}
pub use Rattle.plan_terms.specs.machine.WellFormed.{AtEach, IsScopedNode, IsScopedPlan, EndsInTime, IsListedNode, IsNumberedPlan, IsSafeNode, IsWellFormed}
pub use Rattle.plan_terms.specs.meaning.Scopes.{scoped_at, scoped_nodes}
pub use Rattle.trace_meaning.specs.meaning.Traces.{Continuation}
