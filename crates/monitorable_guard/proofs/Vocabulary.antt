-- The words in which the proofs of this crate speak: those of std, of the crates below and of its own specs.
pub use Rattle.std.proofs.Common.{All, Bool, Box, Contains, Err, Fits, IfNone, IfOk, IsSome, IsTrue, List, None, Ok, OnOk, Option, Result, Some, Vec, [], ap, arith, cond, drop, false, get_or}
pub use Rattle.std.proofs.Common.{get_or-drop, inl, inr, is_none, is_ok, is_some, length, length-append, length-drop, length-take, map, not, pos, refl, rules, slice_get, subst, suc, sym, take}
pub use Rattle.std.proofs.Common.{take-append-drop, true, unwrap_or, w64, zero, ℕ, ℤ, ⊎_elim, ◌&&◌, ◌*◌, ◌++◌, ◌+◌, ◌-◌, ◌<ℤ◌, ◌<◌, ◌==◌, ◌^◌, ◌↔◌, ◌∙◌, ◌∷◌, ◌≡◌, ◌≢◌, ◌≤ℤ◌, ◌≤◌, ◌⊎◌}
pub use Rattle.std.proofs.Math.Seq.{take-append_seam, take-length}
pub use Rattle.std.proofs.lemmas.Bool.{and_parts, cases_lt, eqb-false, eqb-true, false≢true}
pub use Rattle.std.proofs.lemmas.Bool.Decides.{Decides-eqb, not_from_Decides}
pub use Rattle.std.proofs.lemmas.Fn.{always_returns_same}
pub use Rattle.std.proofs.lemmas.Int.{by_lt_z}
pub use Rattle.std.proofs.lemmas.List.{drop-drop, length-map, length-take-le, take_all, take_more, take_rest}
pub use Rattle.std.proofs.lemmas.List.Elements.{All-contains, All-map, All-more, Contains-append_left, Contains-append_right, Contains-get_or, Contains-push, Contains-push_cases}
pub use Rattle.std.proofs.lemmas.List.Kept.{IsStrictlySortedBy-filter}
pub use Rattle.std.proofs.lemmas.List.Sorted.{Contains-permutation, IsPartitionPoint-from_clause, IsPermutation-map, IsPermutation-sym, ranks_by}
pub use Rattle.std.proofs.lemmas.Option.{MatchOption-at_some, none-some, same_Some}
pub use Rattle.std.proofs.lemmas.Result.{IfOk-weaker}
pub use Rattle.std.specs.Bool.{Decides}
pub use Rattle.std.specs.Borrow.{Bor}
pub use Rattle.std.specs.Cmp.{IsTotalOrder, nat_cmp_total, on_total, then_total}
pub use Rattle.std.specs.FinMap.{IsAntisymmetric, nat_cmp-IsAntisymmetric}
pub use Rattle.std.specs.Int.Signed.{clash_ℤ}
pub use Rattle.std.specs.List.{AllByRecursion, IsAllAdjacentAnswer, filter}
pub use Rattle.std.specs.List.Sorted.{IsBinarySearchResult, IsPartitionPoint, IsPartitionedBy, IsPermutation, IsSearchInRange, IsSortedByKey}
pub use Rattle.std.specs.Option.{option_copied}
pub use Rattle.std.specs.Ordering.{eq_by_cmp, is_le, is_lt, nat_cmp, ordering_reverse, ordering_then}
pub use Rattle.std.specs.Prelude.{IfSome}
pub use Rattle.std.specs.declared.alloc.Global.{Global}
pub use Rattle.std.specs.declared.cmp.Ordering.{Ordering}
pub use Rattle.std.specs.declared.cmp.Ordering.TheVariants.{Greater}
pub use Rattle.enf_data.proofs.ListFacts.{Less_from_test, all_from, only_item}
pub use Rattle.enf_data.proofs.Lists.{AllByRecursion-contains, AllByRecursion-from_contains, Contains-append, Contains-filter, Contains-from_filter, Contains-from_map, Contains-map, first_or_later}
pub use Rattle.enf_data.proofs.Lists.{here, later, none_in_nil, some_or_none, some_or_not, there_from_get}
pub use Rattle.enf_data.proofs.RisingLists.{rising_distinct}
pub use Rattle.enf_data.proofs.SortedSearch.{below_first, found_tells, tied_between, up_to_last}
pub use Rattle.enf_data.proofs.ValuationFacts.{as_many_values, listed_values, only_variable, same_name, value_alike, values_alike, values_listed, variable_is}
pub use Rattle.enf_data.proofs.ValuationLaws.{variable_cmp_total}
pub use Rattle.enf_data.proofs.ValueEquality.{has_event-Decides, same_at_or_not, same_value_or_not}
pub use Rattle.enf_data.proofs.ValueOrder.{row_cmp_exact, row_cmp_total}
pub use Rattle.enf_data.specs.declared.events.Event.{Event}
pub use Rattle.enf_data.specs.declared.events.NameId.{NameId}
pub use Rattle.enf_data.specs.declared.intervals.Interval.{Interval}
pub use Rattle.enf_data.specs.declared.steps.Step.{Step}
pub use Rattle.enf_data.specs.declared.terms.Term.{Term}
pub use Rattle.enf_data.specs.declared.terms.Term.TheVariants.{Const, Var}
pub use Rattle.enf_data.specs.declared.terms.VarId.{VarId}
pub use Rattle.enf_data.specs.declared.values.Value.{Value}
pub use Rattle.enf_data.specs.declared.values.Value.TheVariants.{Num, Text}
pub use Rattle.enf_data.specs.meaning.Data.{step_at}
pub use Rattle.enf_data.specs.meaning.Membership.{HasNoRepeats, IsIn, IsUpTo}
pub use Rattle.enf_data.specs.meaning.Valuations.{BindsColumns, Valuation, no_values, onto_values, valuation_of, value_at, value_of_term, values_of_terms, variable_cmp, with_values}
pub use Rattle.enf_data.specs.meaning.Values.{has_event, row_cmp}
pub use Rattle.enf_formula.proofs.Dependence.{agree_back}
pub use Rattle.enf_formula.proofs.Gathering.{adds_both, adds_same, adds_term, last_or_before, there_last}
pub use Rattle.enf_formula.proofs.SameValues.{AreSameValues-some, AreSameValues-sym}
pub use Rattle.enf_formula.specs.machine.Agreement.{AgreeOnFreeVariables}
pub use Rattle.enf_formula.specs.machine.Cases.{variable_x}
pub use Rattle.enf_formula.specs.machine.FormulaViews.{tree_of}
pub use Rattle.enf_formula.specs.machine.Laws.{FreeVariablesDecide, IsStable}
pub use Rattle.enf_formula.specs.machine.Variables.{AddsVariables}
pub use Rattle.enf_formula.specs.machine.FormulaShape.{BindsFresh, formula_size, is_past}
pub use Rattle.enf_formula.specs.meaning.Satisfaction.{Always, And, AreFreeVariables, AreNumbersInOrder, AreSameValues, AtMost, Atom, Classically, Equal, Eventually, Exists, False, Forall, Formula}
pub use Rattle.enf_formula.specs.meaning.Satisfaction.{HeldSince, Historically, HoldsAnywhere, Implies, IsEventAmong, IsFree, Less, Next, Not, Once, Or, Prev, Sat, Since, True, Until, elapsed}
pub use Rattle.monitorable_guard.specs.machine.Answers.{AddsRows, AmongRows, AreBoundOrFree, AreOpenUnder, CanAskFormula, HasAnswers, IsBoundBy, IsBoundOrFree, IsEquated, IsFromRow, IsGuardAnswer}
pub use Rattle.monitorable_guard.specs.machine.Answers.{IsMatchAmong, IsMatchOfName, IsMatchOf, IsSolution, IsValued, RowsFitColumns}
pub use Rattle.monitorable_guard.specs.machine.Cases.{guard_case_y, three}
pub use Rattle.monitorable_guard.specs.machine.Evaluation.{AreHoldingRows, AreOpen, CanEvaluate, FirstGivesUnder, FitOperators, HasKnownValues, IsKnownNow, IsTabled}
pub use Rattle.monitorable_guard.specs.machine.EventOrder.{IsByName, arguments, event_cmp, key_of, listed, name_of, shown_events}
pub use Rattle.monitorable_guard.specs.machine.PresentMeaning.{FirstHas, HoldsNow, Tabled, TablesStandFor, outermost, tables_beyond}
pub use Rattle.monitorable_guard.specs.machine.SatisfyingRows.{AreRowsAt, AreTold}
pub use Rattle.monitorable_guard.specs.machine.TermMatches.{Extends, HasNoMatch, IsLeastFor, IsLeastMatch}
pub use Rattle.monitorable_guard.specs.machine.ValueSources.{IsArgument, IsArgumentUpTo, IsBoundValue, IsFormulaConstant, IsKnown}
pub use Rattle.monitorable_guard.specs.meaning.Safety.{Assigns, BoundOrFreeIn, FreeAlike, FreeUnder, FreeWithin, NoneBound, Safe, SafeBelow, denial}
pub use Rattle.valuations.proofs.ColumnLaws.{among_or_not, in_not_shared, is_among-Decides, not_shared_in}
pub use Rattle.valuations.proofs.KeyLaws.{key_cmp_exact, key_cmp_total, same_order}
pub use Rattle.valuations.proofs.RowLaws.{agrees_itself, agrees_once, cell_here, cell_later, cell_some, contains_valuation, same_row, table_row-length, value_at-bound, value_at-other}
pub use Rattle.valuations.proofs.RowLaws.{value_at-with_inside, value_at-with_outside}
pub use Rattle.valuations.proofs.ScopeLaws.{IsPartOfValuation, filled_keeps, filled_outside, filled_unbound, has_or_not, part_is, same_or_other}
pub use Rattle.valuations.specs.machine.Bindings.{bound_in, filled_from_row, valuation_part}
pub use Rattle.valuations.specs.machine.RowParts.{key_cmp}
pub use Rattle.valuations.specs.machine.Tables.{AgreeOnColumns, AgreesWithRow, HasValuation, IsBoundSame, IsTable, Relation, columns_unshared, is_column, row_cell}
