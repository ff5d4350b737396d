-- The words in which the proofs of this crate speak: those of std, of the crates below and of its own specs.
pub use Rattle.std.proofs.Common.{Bool, Contains, Err, IfOk, IsTrue, List, None, Ok, OnOk, Option, Result, Some, [], ap, arith, cond, false, get_or, inl, inr, length, lit<, lit≤, pos, refl}
pub use Rattle.std.proofs.Common.{slice_index_or, subst, suc, sym, take, true, true≢false, zero, ℕ, ℤ, ⊎_elim, ◌++◌, ◌+◌, ◌-◌, ◌<ℤ◌, ◌<◌, ◌∙◌, ◌∷◌, ◌≡◌, ◌≤ℤ◌, ◌≤◌, ◌⊎◌}
pub use Rattle.std.proofs.lemmas.Bool.{cases_lt}
pub use Rattle.std.proofs.lemmas.Bool.Decides.{Decides-by_or, Decides-eqb, Decides-like, not_from_Decides}
pub use Rattle.std.proofs.lemmas.Int.{by_lt_z}
pub use Rattle.std.proofs.lemmas.List.{take_all, take_more}
pub use Rattle.std.proofs.lemmas.List.Elements.{Contains-append_cases, Contains-append_left, Contains-append_right, Contains-push, Decides-contains}
pub use Rattle.std.proofs.lemmas.Map.Keys.{sorted_head, sorted_tail}
pub use Rattle.std.proofs.lemmas.Map.Views.{btree_set_contains_iff, tells_apart}
pub use Rattle.std.proofs.lemmas.Result.{on_ok_weaker}
pub use Rattle.std.specs.BTreeSet.{BTreeSet, contains}
pub use Rattle.std.specs.Bool.{Decides}
pub use Rattle.std.specs.Cmp.{tied_itself}
pub use Rattle.std.specs.Int.Signed.{clash_ℤ}
pub use Rattle.std.specs.List.{AllByRecursion, list_any}
pub use Rattle.std.specs.List.Sorted.{IsStrictlySortedBy}
pub use Rattle.std.specs.Ordering.{eq_by_cmp, is_eq}
pub use Rattle.std.specs.Prelude.{nat_eq}
pub use Rattle.enf_data.proofs.ListFacts.{both_true}
pub use Rattle.enf_data.proofs.Lists.{here, list_any-Decides}
pub use Rattle.enf_data.proofs.RisingLists.{same_rising}
pub use Rattle.enf_data.proofs.ValuationFacts.{value_alike, values_alike}
pub use Rattle.enf_data.proofs.ValuationLaws.{value_at-insert, variable_cmp_same, variable_cmp_total}
pub use Rattle.enf_data.proofs.ValueEquality.{event_eq-Decides}
pub use Rattle.enf_data.specs.declared.events.Event.{Event}
pub use Rattle.enf_data.specs.declared.events.NameId.{NameId}
pub use Rattle.enf_data.specs.declared.intervals.Interval.{Interval}
pub use Rattle.enf_data.specs.declared.steps.Step.{Step}
pub use Rattle.enf_data.specs.declared.terms.Term.{Term}
pub use Rattle.enf_data.specs.declared.terms.Term.TheVariants.{Var}
pub use Rattle.enf_data.specs.declared.terms.VarId.{VarId}
pub use Rattle.enf_data.specs.declared.values.Value.{Value}
pub use Rattle.enf_data.specs.declared.values.Value.TheVariants.{Num, Text}
pub use Rattle.enf_data.specs.machine.ValueTests.{value_eq-Decides}
pub use Rattle.enf_data.specs.meaning.Data.{step_at}
pub use Rattle.enf_data.specs.meaning.Membership.{IsIn, IsUpTo}
pub use Rattle.enf_data.specs.meaning.Valuations.{Valuation, no_values, onto_values, value_at, value_of_term, values_of_terms, variable_cmp, with_values}
pub use Rattle.enf_data.specs.meaning.Values.{event_eq, value_eq}
pub use Rattle.enf_formula.specs.machine.Agreement.{AgreeOnFreeVariables, AgreeUpTo, HaveSameNamedEvents, names_in_formula}
pub use Rattle.enf_formula.specs.machine.Cases.{broken_before, event_p, event_p_of, event_q, event_q_of, formula_p_x, formula_q_x, interval_between, name_p, name_q, p_1_q_1, p_1_q_1_p_a, p_1_q_2}
pub use Rattle.enf_formula.specs.machine.Cases.{two_steps, variable_x}
pub use Rattle.enf_formula.specs.machine.FormulaViews.{tree_of}
pub use Rattle.enf_formula.specs.machine.Laws.{FreeVariablesDecide, IsStable, NamesDecide, PastDecides}
pub use Rattle.enf_formula.specs.machine.Variables.{AddsVariables, IsClosed, IsScopedFormula}
pub use Rattle.enf_formula.specs.machine.FormulaShape.{AreNewVariables, AreTermsInScope, BindsFresh, IsTermInScope, is_past}
pub use Rattle.enf_formula.specs.meaning.Satisfaction.{Always, And, AreFreeVariables, AreNumbersInOrder, AreSameValues, AtMost, Atom, Equal, Eventually, Exists, False, Forall, Formula, HeldSince}
pub use Rattle.enf_formula.specs.meaning.Satisfaction.{Historically, HoldsAnywhere, HoldsUntil, Implies, IsEventAmong, IsFree, Less, Next, Not, Once, Or, Prev, Sat, Since, True, Until, elapsed}
