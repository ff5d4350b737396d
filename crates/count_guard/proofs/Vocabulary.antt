-- The words in which the proofs of this crate speak: those of std, of the crates below and of its own specs.
pub use Rattle.std.proofs.Common.{Bool, Contains, IfOk, List, None, OnOk, Option, Some, [], ap, arith, cond, drop, false, get_or, inl, inr, length, map, refl, rules, subst, suc, sym, take, true, zero, ℕ}
pub use Rattle.std.proofs.Common.{⊎_elim, ◌*◌, ◌++◌, ◌+◌, ◌-◌, ◌<◌, ◌^◌, ◌∙◌, ◌∷◌, ◌≡◌, ◌≤◌, ◌↔◌, ◌⊎◌, append_assoc, length-append, ◌<ℤ◌, ◌≤ℤ◌}
pub use Rattle.std.proofs.Math.Nat.{suc-mul, zero-mul}
pub use Rattle.std.proofs.lemmas.Bool.{eq-eqb, ne_eqb, cases_lt}
pub use Rattle.std.proofs.lemmas.List.{drop-drop, drop_all, drop_at, drop_more, length-drop, length-map, length-take-le, length_push, map-append, map_push, take_at, take_more}
pub use Rattle.std.proofs.lemmas.List.Elements.{Contains-append_left, Contains-append_right}
pub use Rattle.std.proofs.lemmas.Nat.{row_fits}
pub use Rattle.std.proofs.lemmas.Option.{none-some, same_Some}
pub use Rattle.std.specs.List.{AllByRecursion, flat_map}
pub use Rattle.std.specs.Prelude.{◌==◌}
pub use Rattle.enf_data.proofs.ListFacts.{iff_then, only_item}
pub use Rattle.enf_data.proofs.Lists.{AllByRecursion-append, AllByRecursion-of_append, Contains-append, Contains-from_map, HasNoRepeats-middle, HasNoRepeats-push, first_or_later, here, later, none_in_nil}
pub use Rattle.enf_data.specs.declared.intervals.Interval.{Interval}
pub use Rattle.enf_data.specs.declared.steps.Step.{Step}
pub use Rattle.enf_data.specs.declared.terms.Term.{Term}
pub use Rattle.enf_data.specs.declared.terms.Term.TheVariants.{Const, Var}
pub use Rattle.enf_data.specs.declared.terms.VarId.{VarId}
pub use Rattle.enf_data.specs.declared.values.Value.{Value}
pub use Rattle.enf_data.specs.meaning.Data.{step_at}
pub use Rattle.enf_data.specs.meaning.Membership.{HasNoRepeats}
pub use Rattle.enf_data.specs.meaning.Valuations.{Valuation, onto_values, value_at, value_of_term, values_of_terms, with_values}
pub use Rattle.enf_formula.proofs.Dependence.{held_since, holds_until}
pub use Rattle.enf_formula.specs.machine.FormulaViews.{tree_of}
pub use Rattle.enf_formula.specs.machine.Variables.{numbered_variables}
pub use Rattle.enf_formula.specs.meaning.Satisfaction.{Always, And, AreNumbersInOrder, AreSameValues, AtMost, Atom, Equal, Eventually, Exists, False, Forall, Formula, HeldSince, Historically}
pub use Rattle.enf_formula.specs.meaning.Satisfaction.{HoldsAnywhere, HoldsUntil, Implies, IsEventAmong, IsFree, Less, Next, Not, Once, Or, Prev, Sat, Since, True, Until}
pub use Rattle.valuations.proofs.ColumnLaws.{same_variable}
pub use Rattle.valuations.proofs.RowLaws.{value_at-bound, value_at-other, value_at-with_outside}
pub use Rattle.valuations.proofs.ScopeLaws.{same_or_other}
pub use Rattle.count_guard.specs.machine.CopyMeanings.{GivesSameValues, IsTermBelow}
pub use Rattle.count_guard.specs.machine.Laws.{CopiesHoldAlike, CountsHoldAsSaid, FreeInCopies, FreeInCounts}
pub use Rattle.count_guard.specs.machine.StoredCopies.{last_term, substitution_of}
pub use Rattle.count_guard.specs.meaning.CountFormulas.{after_copies, all_of, at_least, body_copy, conjoined_with, copies_differ, counted_copies, counted_copy, different_copies, differs_from, equal_pairs}
pub use Rattle.count_guard.specs.meaning.DifferentLists.{HoldsForDifferent}
pub use Rattle.count_guard.specs.meaning.FormulaCopies.{Substitution, bound_count, copy_of, new_variables, term_given, with_new_variables, with_term, with_terms}
pub use Rattle.enf_data.proofs.ValuationFacts.{variable_is}
