-- The words in which the proofs of this crate speak: those of std, of the crates below and of its own specs.
pub use Rattle.std.proofs.Common.{All, Bool, Contains, Err, IfOk, IsSome, IsTrue, List, None, Ok, Option, Result, Some, T, [], ap, append-nil, append_assoc, arith, cond, drop, false, get_or, inl, inr}
pub use Rattle.std.proofs.Common.{insert, is_ok, length, length-append, ltb, map, min, nat_lt, not, refl, rules, subst, suc, sym, take, true, true≢false, zero, ℕ, ℤ, ⊎_elim, ◌&&◌, ◌++◌, ◌+◌, ◌-◌}
pub use Rattle.std.proofs.Common.{◌<ℤ◌, ◌<◌, ◌↔◌, ◌∙◌, ◌∷◌, ◌≡◌, ◌≢◌, ◌≤ℤ◌, ◌≤◌, ◌⊎◌}
pub use Rattle.std.proofs.lemmas.Bool.{cases_lt, cases_order, eq-eqb, eqb-false, eqb-true, false≢true, le-ltb, lt-ltb, ltb-false, ltb-true, ne_eqb}
pub use Rattle.std.proofs.lemmas.Bool.Decides.{Decides-and, Decides-by_or, Decides-eqb, Decides-like}
pub use Rattle.std.proofs.lemmas.Fn.{always_returns_same, dedup_same}
pub use Rattle.std.proofs.lemmas.Int.{ints}
pub use Rattle.std.proofs.lemmas.List.{at_drop_all, at_drop_more, drop_all, length-map, take_all, take_more, take_rest}
pub use Rattle.std.proofs.lemmas.List.Elements.{All-append, All-cons, All-contains, All-filter, All-nil, Contains-append_left, Contains-append_right, Contains-get_or, Decides-contains}
pub use Rattle.std.proofs.lemmas.List.Elements.{filter_map-append}
pub use Rattle.std.proofs.lemmas.List.Filters.{All-dedup}
pub use Rattle.std.proofs.lemmas.List.Kept.{Contains-dedup, Contains-from_dedup, IsStrictlySortedBy-dedup}
pub use Rattle.std.proofs.lemmas.List.Sorted.{All-permutation, Contains-permutation, IsPartitionPoint-from_clause, IsPermutation-map, IsPermutation-sym, answers_always, ranks_by}
pub use Rattle.std.proofs.lemmas.List.Sorted.{searchable_from_sorted}
pub use Rattle.std.proofs.lemmas.List.Sums.{fold_more}
pub use Rattle.std.proofs.lemmas.Map.Keys.{Less-from_sorted}
pub use Rattle.std.proofs.lemmas.Option.{none-some, same_Some}
pub use Rattle.std.proofs.lemmas.Slice.Zip.{zip_end}
pub use Rattle.std.specs.Bool.{Decides}
pub use Rattle.std.specs.Borrow.{Bor}
pub use Rattle.std.specs.Cmp.{Equal-is, IsTotalOrder, eq_by_cmp_equiv, int_ranked, tied_itself, unsigned_tied}
pub use Rattle.std.specs.Cmp.Lexicographic.{lists_total, options_total}
pub use Rattle.std.specs.FinMap.{IsAntisymmetric, slice_cmp-IsAntisymmetric}
pub use Rattle.std.specs.FinMap.Entries.{find, is_sorted, is_sorted-put, put}
pub use Rattle.std.specs.List.{cons_option, dedup, filter, list_any}
pub use Rattle.std.specs.List.Sorted.{IsBinarySearchResult, IsPartitionPoint, IsPartitionedBy, IsPermutation, IsSearchInRange, IsSorted}
pub use Rattle.std.specs.Option.{is_some, option_cmp, option_copied}
pub use Rattle.std.specs.Ordering.{MatchOrdering, eq_by_cmp, int_cmp, is_eq, is_le, is_lt, nat_cmp, ordering_reverse, ordering_then}
pub use Rattle.std.specs.Prelude.{slice_get, ◌==◌}
pub use Rattle.std.specs.declared.cmp.Ordering.{Ordering}
pub use Rattle.std.specs.declared.cmp.Ordering.TheVariants.{Equal, Greater, Less}
pub use Rattle.enf_data.proofs.ListFacts.{all_from, only_item}
pub use Rattle.enf_data.proofs.Lists.{Contains-append, Contains-filter, Contains-from_filter, Contains-from_map, Contains-map, HasNoRepeats-append, HasNoRepeats-filter, first_or_later, here, later}
pub use Rattle.enf_data.proofs.Lists.{none_in_nil, same_at, same_lists_at, some_or_not, there_from_get}
pub use Rattle.enf_data.proofs.RisingLists.{same_rising}
pub use Rattle.enf_data.proofs.SortedSearch.{below_first, no_tie, tied_between, up_to_last}
pub use Rattle.enf_data.proofs.ValuationLaws.{same_valuation, variable_cmp_total}
pub use Rattle.enf_data.proofs.ValueEquality.{same_at_or_not}
pub use Rattle.enf_data.proofs.ValueOrder.{row_cmp_exact, row_cmp_total, value_cmp_exact, value_cmp_total}
pub use Rattle.enf_data.specs.declared.terms.Term.{Term}
pub use Rattle.enf_data.specs.declared.terms.Term.TheVariants.{Const, Var}
pub use Rattle.enf_data.specs.declared.terms.VarId.{VarId}
pub use Rattle.enf_data.specs.declared.values.Value.{Value}
pub use Rattle.enf_data.specs.declared.values.Value.TheVariants.{Num, Text}
pub use Rattle.enf_data.specs.meaning.Membership.{HasNoRepeats}
pub use Rattle.enf_data.specs.meaning.Valuations.{Valuation, bindings, no_values, onto_values, valuation_of, value_at, value_of_term, values_of_terms, variable_cmp, with_values}
pub use Rattle.enf_data.specs.meaning.Values.{row_cmp, value_cmp}
pub use Rattle.valuations.specs.declared.comparing.Compare.{Compare}
pub use Rattle.valuations.specs.declared.comparing.Operand.{Operand}
pub use Rattle.valuations.specs.declared.comparing.Operand.TheVariants.{Cell, Fixed, Nowhere}
pub use Rattle.valuations.specs.machine.Bindings.{binding_place, bound_by, bound_in, filled_from_row, valuation_part, with_found, with_new, with_value}
pub use Rattle.valuations.specs.machine.Comparisons.{ComparesValues, IsColumnOf, ReadsTerm, compares_values, is_bound_value, is_row_as_bound, operand_value}
pub use Rattle.valuations.specs.machine.RowParts.{AreJoinedRows, ArePlaces, AreSingleRows, key_cmp, row_key, row_part, shown_rows}
pub use Rattle.valuations.specs.machine.Tables.{AgreeOnColumns, AgreesWhereBound, AgreesWithRow, AreSameColumns, HasValuation, IsBoundSame, IsTable, Relation, columns_shared, columns_unshared}
pub use Rattle.valuations.specs.machine.Tables.{is_column, row_cell}
