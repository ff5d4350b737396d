-- The words in which the proofs of this crate speak: those of std, of the crates below and of its own specs.
pub use Rattle.std.proofs.Common.{Bool, Contains, IsSome, List, None, Option, Some, [], ap, append-nil, arith, cond, false, inl, inr, length, map, max, refl, subst, suc, sym, true, ℕ, ⊎_elim}
pub use Rattle.std.proofs.Common.{◌++◌, ◌+◌, ◌-◌, ◌<ℤ◌, ◌<◌, ◌↔◌, ◌∙◌, ◌∷◌, ◌≡◌, ◌≤ℤ◌, ◌≤◌, ◌⊎◌}
pub use Rattle.std.proofs.lemmas.List.{length-map}
pub use Rattle.std.proofs.lemmas.List.Elements.{Contains-append_left, Contains-append_right}
pub use Rattle.std.proofs.lemmas.Option.{none-some, same_Some}
pub use Rattle.std.specs.List.{AllByRecursion}
pub use Rattle.std.specs.Prelude.{◌==◌}
pub use Rattle.count_guard.proofs.CopyMeaning.{anywhere, both_sides, copied_same, denials, part, since_same, under, until_same}
pub use Rattle.count_guard.proofs.CountMeaning.{counts_hold}
pub use Rattle.count_guard.proofs.FreeInCounts.{copy_free, free_in_counts, given_either, sides_for, stands_left, stands_under, terms_for}
pub use Rattle.count_guard.proofs.GivenTerms.{term_copied, terms_below, terms_copied, terms_value}
pub use Rattle.count_guard.specs.machine.CopyMeanings.{GivesSameValues, IsTermBelow}
pub use Rattle.count_guard.specs.meaning.DifferentLists.{HoldsForDifferent, IsCount}
pub use Rattle.count_guard.specs.meaning.FormulaCopies.{Substitution, new_variables, term_given, with_new_variables, with_terms, copy_of}
pub use Rattle.enf_data.proofs.ListFacts.{iff_then}
pub use Rattle.enf_data.proofs.Lists.{Contains-append, first_or_later, later, none_in_nil}
pub use Rattle.enf_data.proofs.ValuationFacts.{as_many_values, some_value, values_listed, variable_is}
pub use Rattle.enf_data.specs.declared.events.NameId.{NameId}
pub use Rattle.enf_data.specs.declared.intervals.Interval.{Interval}
pub use Rattle.enf_data.specs.declared.steps.Step.{Step}
pub use Rattle.enf_data.specs.declared.terms.Term.{Term}
pub use Rattle.enf_data.specs.declared.terms.Term.TheVariants.{Const, Var}
pub use Rattle.enf_data.specs.declared.terms.VarId.{VarId}
pub use Rattle.enf_data.specs.declared.values.Value.{Value}
pub use Rattle.enf_data.specs.meaning.Data.{step_at}
pub use Rattle.enf_data.specs.meaning.Valuations.{Valuation, no_values, onto_values, value_at, value_of_term, values_of_terms, with_values}
pub use Rattle.enf_formula.specs.machine.Variables.{IsClosed}
pub use Rattle.enf_formula.specs.meaning.Satisfaction.{Always, And, AreNumbersInOrder, AreSameValues, AtMost, Atom, Equal, Eventually, Exists, False, Forall, Formula, HeldSince, Historically}
pub use Rattle.enf_formula.specs.meaning.Satisfaction.{HoldsAnywhere, HoldsUntil, Implies, IsEventAmong, IsFree, Less, Next, Not, Once, Or, Prev, Sat, Since, True, Until}
pub use Rattle.valuations.proofs.RowLaws.{value_at-bound, value_at-other}
pub use Rattle.valuations.proofs.ScopeLaws.{same_or_other}
pub use Rattle.definitions.specs.machine.Laws.{PlainFormulasHoldAlike, UnfoldedRulesHoldAlike}
pub use Rattle.definitions.specs.machine.WellDefined.{AreWellDefined, FitsUnfolding, FitsUnfoldings, IsWellDefined}
pub use Rattle.definitions.specs.meaning.DefinedNames.{BodyHolds, Counting, DefinedMeans, Definition, DefinitionHolds, HoldsIf, SatDefined, SatWith}
pub use Rattle.definitions.specs.meaning.UnfoldedFormulas.{Unfolding, atom_unfolded, behind_variables, body_unfolded, counted_variables, definition_unfolded, own_variables, rule_unfolded, unfolded, unfolded_count, unfoldings}
