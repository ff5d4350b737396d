-- The words in which the proofs of this crate speak: those of std, of the crates below and of its own specs.
pub use Rattle.std.proofs.Common.{Contains, List, Some, [], ap, arith, inl, inr, length, map, refl, subst, suc, sym, take, zero, ℕ, ⊎_elim, ◌++◌, ◌-◌, ◌<◌, ◌∙◌, ◌∷◌, ◌≡◌, ◌≤◌}
pub use Rattle.std.proofs.lemmas.Bool.{cases_lt, false≢true}
pub use Rattle.std.proofs.lemmas.List.Elements.{Contains-append_left}
pub use Rattle.std.proofs.lemmas.Option.{none-some, same_Some}
pub use Rattle.std.specs.FinMap.{get-empty}
pub use Rattle.std.proofs.lemmas.Int.{ints}
pub use Rattle.std.specs.Prelude.{Bool, cond, nat_lt, None, Option, false, int_le, int_lt, true, ℤ, ◌<ℤ◌, ◌≤ℤ◌, ◌⊎◌}
pub use Rattle.std.specs.Bool.{Decides}
pub use Rattle.enf_data.proofs.Lists.{AllByRecursion-of_append, here}
pub use Rattle.enf_data.proofs.ValuationLaws.{value_at-insert}
pub use Rattle.enf_data.specs.declared.events.Event.{Event}
pub use Rattle.enf_data.specs.declared.events.NameId.{NameId}
pub use Rattle.enf_data.specs.declared.steps.Step.{Step}
pub use Rattle.enf_data.specs.declared.terms.Term.{Term}
pub use Rattle.enf_data.specs.declared.terms.Term.TheVariants.{Const, Var}
pub use Rattle.enf_data.specs.declared.terms.VarId.{VarId}
pub use Rattle.enf_data.specs.declared.values.Value.{Value}
pub use Rattle.enf_data.specs.declared.intervals.Interval.{Interval}
pub use Rattle.enf_data.specs.meaning.Data.{step_at}
pub use Rattle.enf_data.specs.declared.values.Value.TheVariants.{Num, Text}
pub use Rattle.enf_data.specs.machine.ValueTests.{value_eq-Decides}
pub use Rattle.enf_data.specs.meaning.Membership.{IsIn, IsUpTo}
pub use Rattle.enf_data.specs.meaning.Values.{value_eq}
pub use Rattle.enf_data.specs.meaning.Valuations.{Valuation, no_values, onto_values, value_at, value_of_term, values_of_terms, variable_cmp, with_values}
pub use Rattle.enf_formula.proofs.VariableLaws.{new_apart}
pub use Rattle.enf_formula.specs.machine.Cases.{event_q_of, name_p, name_q, variable_x}
pub use Rattle.enf_formula.specs.machine.FormulaShape.{BindsFresh}
pub use Rattle.enf_formula.specs.meaning.Satisfaction.{And, AreNumbersInOrder, AreSameValues, AtMost, Atom, Equal, Exists, False, Forall, Formula, Implies, IsEventAmong, IsFree, Less, Not, Or, Sat}
pub use Rattle.enf_formula.specs.meaning.Satisfaction.{HeldSince, HoldsAnywhere, Once, Since, True, elapsed}
pub use Rattle.plan_terms.specs.meaning.Plans.{AlwaysPlan, Both, CausePlan, Either, EventuallyPlan, Guarded, NextPlan, Plan, SuppressPlan, TestOr, UntilPlan, formula_for, interval_from_to}
pub use Rattle.plan_terms.specs.machine.WellFormed.{AtEach, GuardBindsFresh}
pub use Rattle.sleepers.specs.declared.patterns.Pattern.{Pattern}
pub use Rattle.sleepers.specs.machine.Patterns.{FitArgs, FitsArg, HasNone}
pub use Rattle.valuations.proofs.RowLaws.{value_at-with_outside}
pub use Rattle.valuations.specs.machine.Bindings.{bound_in}
pub use Rattle.wake_patterns.specs.machine.Cases.{p_alone, value_one, value_two}
pub use Rattle.wake_patterns.specs.machine.KnownTruths.{known_truth, of_known, of_numbers}
pub use Rattle.wake_patterns.specs.machine.Laws.{BringsFresh, BringsFreshUnder}
pub use Rattle.wake_patterns.specs.machine.WakePatterns.{fails_still, fails_without, first_known, holds_without, if_from_now, if_known, least_fixed, met_by, missed_by, narrower, pattern_of, patterns_of_both, patterns_of_one}
