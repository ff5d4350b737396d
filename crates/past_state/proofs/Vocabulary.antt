-- The words in which the proofs of this crate speak: those of std, of the crates below and of its own specs.
pub use Rattle.std.proofs.Common.{All, Contains, IfOk, IsTrue, List, None, Option, Some, [], ap, append-nil, append_assoc, arith, drop, drop-cons, false, get_or, inl, inr, is_ok, length}
pub use Rattle.std.proofs.Common.{length-append, map, ne_eqb, refl, reverse, rules, set, subst, suc, sym, take, true, vec_len, zero, ℕ, ⊎_elim, ◌*◌, ◌++◌, ◌+◌, ◌-◌, ◌<◌, ◌↔◌, ◌∙◌, ◌∷◌, ◌≡◌, ◌≤◌, ◌⊎◌}
pub use Rattle.std.proofs.Math.Seq.{drop-append_seam}
pub use Rattle.std.proofs.lemmas.Bool.{and_parts, cases_lt, eqb-true, false≢true}
pub use Rattle.std.proofs.lemmas.Bool.Decides.{Decides-eqb, Decides-like}
pub use Rattle.std.proofs.lemmas.Fn.{always_returns_same}
pub use Rattle.std.proofs.lemmas.List.{at_drop_all, at_drop_more, get_or-map, get_or-reverse, get_or_append_left, length-drop, length-map, length-reverse, length-set, length-take, map-append}
pub use Rattle.std.proofs.lemmas.List.{map_push, nil_from_length, reverse-append, reverse-reverse, take-append-drop, take-map, take_all, take_more}
pub use Rattle.std.proofs.lemmas.List.Elements.{All-append, All-cons, All-contains, All-get_or, All-head, All-nil, All-push, All-tail, All-take, All-weaker, Contains-append_cases}
pub use Rattle.std.proofs.lemmas.List.Elements.{Contains-append_left, Contains-append_right, Contains-get_or}
pub use Rattle.std.proofs.lemmas.List.Sorted.{Contains-permutation, IsPermutation-sym}
pub use Rattle.std.proofs.lemmas.List.Sums.{sum-map, sum_by-cons}
pub use Rattle.std.proofs.lemmas.Map.Keys.{sorted_from_all_adjacent, sorted_tail}
pub use Rattle.std.proofs.lemmas.Map.Views.{All-after_first}
pub use Rattle.std.proofs.lemmas.Option.{get_or_from_slice_get, none-some, same_Some, slice_get-get_or, slice_get-map, slice_get_past, slice_get_read, slice_get_within}
pub use Rattle.std.proofs.lemmas.Result.{IfOk-weaker, on_ok_weaker}
pub use Rattle.std.proofs.lemmas.Simd.{map-map}
pub use Rattle.std.proofs.lemmas.Slice.Eq.{slice_eq-Decides}
pub use Rattle.std.specs.Bool.{Decides}
pub use Rattle.std.specs.Cmp.{nat_cmp_total, ranks, tied_itself}
pub use Rattle.std.specs.Cmp.Lexicographic.{pointwise}
pub use Rattle.std.specs.FinMap.{nat_cmp-IsAntisymmetric}
pub use Rattle.std.specs.Iterator.Adapters.{rev_source, zip_first, zip_second}
pub use Rattle.std.specs.List.Sorted.{IsBinarySearchResult, IsSearchInRange, IsStrictlySortedBy}
pub use Rattle.std.specs.Option.{option_copied, option_map, option_to_list}
pub use Rattle.std.specs.Ordering.{MatchOrdering, nat_cmp}
pub use Rattle.std.specs.Prelude.{Bool, IfSome, IsSome, OnErr, Vec, not, pos, slice_get, sum_by}
pub use Rattle.std.specs.Vec.Iter.{into_iter_items}
pub use Rattle.std.specs.declared.alloc.Global.{Global}
pub use Rattle.std.specs.declared.cmp.Ordering.TheVariants.{Greater}
pub use Rattle.enf_data.proofs.ListFacts.{all_from, all_front, iff_then, ok_both, only_item, slice_get-append_left, slice_get_at}
pub use Rattle.enf_data.proofs.Lists.{Contains-from_map, Contains-map, first_or_later, here, later, none_in_nil, there_from_get}
pub use Rattle.enf_data.proofs.SortedSearch.{found_tells}
pub use Rattle.enf_data.proofs.ValuationFacts.{same_name, step_at_end}
pub use Rattle.enf_data.proofs.ValuationLaws.{value_at-insert, variable_cmp_total}
pub use Rattle.enf_data.proofs.ValueOrder.{row_cmp_exact, row_cmp_total}
pub use Rattle.enf_data.specs.declared.events.Event.{Event}
pub use Rattle.enf_data.specs.declared.events.NameId.{NameId}
pub use Rattle.enf_data.specs.declared.intervals.Interval.{Interval}
pub use Rattle.enf_data.specs.declared.steps.Step.{Step}
pub use Rattle.enf_data.specs.declared.terms.Term.TheVariants.{Var}
pub use Rattle.enf_data.specs.declared.terms.VarId.{VarId}
pub use Rattle.enf_data.specs.declared.values.Value.{Value}
pub use Rattle.enf_data.specs.declared.values.Value.TheVariants.{Num}
pub use Rattle.enf_data.specs.machine.ValueTests.{value_eq-Decides}
pub use Rattle.enf_data.specs.meaning.Data.{IsTrace, no_step, step_at}
pub use Rattle.enf_data.specs.meaning.Membership.{HasNoRepeats, IsIn, IsUpTo}
pub use Rattle.enf_data.specs.meaning.Valuations.{BindsColumns, Valuation, no_values, onto_values, valuation_of, value_at, values_of_terms, variable_cmp, with_values}
pub use Rattle.enf_data.specs.meaning.Values.{row_cmp, value_eq}
pub use Rattle.enf_formula.proofs.VariableLaws.{same_free}
pub use Rattle.enf_formula.specs.machine.Agreement.{HaveSameEvents, HaveSameNamedEvents, names_in_formula}
pub use Rattle.enf_formula.specs.machine.Cases.{event_p, event_q, formula_p, formula_q, name_p, variable_x}
pub use Rattle.enf_formula.specs.machine.FormulaViews.{tree_of}
pub use Rattle.enf_formula.specs.machine.Laws.{FreeVariablesDecide, IsStable, NamesDecide, PastDecides}
pub use Rattle.enf_formula.specs.machine.FormulaShape.{BindsFresh, formula_size, is_past}
pub use Rattle.enf_formula.specs.meaning.Satisfaction.{Always, And, AreFreeVariables, AtMost, Atom, Classically, Equal, Eventually, Exists, False, Forall, Formula, HeldSince, Historically}
pub use Rattle.enf_formula.specs.meaning.Satisfaction.{HoldsAnywhere, Implies, IsEventAmong, IsFree, Less, Next, Not, Once, Or, Prev, Sat, Since, True, Until}
pub use Rattle.monitorable_guard.proofs.CycleLemmas.{fit_short}
pub use Rattle.monitorable_guard.proofs.KnownNow.{tabled_behind}
pub use Rattle.monitorable_guard.proofs.SafetyLaws.{safe_past}
pub use Rattle.monitorable_guard.specs.machine.Evaluation.{AreHoldingRows, AreOpen, CanEvaluate, FirstGivesUnder, FitOperators, HasKnownValues, IsTabled}
pub use Rattle.monitorable_guard.specs.machine.Guards.{BoundFormula}
pub use Rattle.monitorable_guard.specs.machine.Laws.{PresentIsSatisfied}
pub use Rattle.monitorable_guard.specs.machine.PresentMeaning.{FirstHas, HoldsNow, TableStandsFor, Tabled, TablesStandFor, outermost, tables_beyond}
pub use Rattle.monitorable_guard.specs.machine.ValueSources.{IsArgument, IsFormulaConstant}
pub use Rattle.monitorable_guard.specs.meaning.Safety.{BoundOrFreeIn, FreeWithin, NoneBound, Safe, SafeBelow, denial}
pub use Rattle.past_state.specs.declared.guards.PlacedGuard.{PlacedGuard}
pub use Rattle.past_state.specs.declared.kept_rows.KeptRow.{KeptRow}
pub use Rattle.past_state.specs.declared.left_sides.Left.{Left}
pub use Rattle.past_state.specs.declared.memories.Memory.{Memory}
pub use Rattle.past_state.specs.declared.memories.StepTables.{StepTables}
pub use Rattle.past_state.specs.declared.operators.OperatorState.{OperatorState}
pub use Rattle.past_state.specs.declared.shapes.WindowShape.{WindowShape}
pub use Rattle.past_state.specs.declared.survivors.Survivors.{Survivors}
pub use Rattle.past_state.specs.machine.Cases.{IsKeptInWindow, at_third, at_two, case_guards, nothing_then_p, number_steps, p_of, p_of_x, p_then_nothing, q_since_p, three_times}
pub use Rattle.past_state.specs.machine.Guards.{AreCopies, IsFreshGuard, IsPastGuard, count_in, tree_in}
pub use Rattle.past_state.specs.machine.InnerOperators.{all_outermost, inner, names_in_all}
pub use Rattle.past_state.specs.machine.KeepableOperators.{CanKeep, IsAlone, IsFreshFormula, KeptHeld, OperatorsCanBeKept, PushesFor}
pub use Rattle.past_state.specs.machine.Laws.{AreTablesOf, HistoricallyIsDenied, NoMoreThanNodes, OnceAnswers, OnceGoesOn, PrevAnswers, PrevGoesOn, SinceAnswers, SinceGoesOn, everywhere, satisfied}
pub use Rattle.past_state.specs.machine.LazyTables.{CanAnswer, CanAnswerAt, CanAskEach, LastFits, table_at, table_of_step, tables_at}
pub use Rattle.past_state.specs.machine.LeftSides.{AreSurvivors, AsksLeft, CanAskLeft, LeftHolds}
pub use Rattle.past_state.specs.machine.Memories.{AreStepTables, CanStep, FitMemory, IsCommittedTo, IsFor, IsSameMemory, IsUpToTimeOf, MemoryStands, columns_of, memory_given}
pub use Rattle.past_state.specs.machine.MemoryTimes.{IsAtLast, IsUpToLast, last_or_zero}
pub use Rattle.past_state.specs.machine.OperandQueries.{AllComeFrom, AnswersRows, CanAskRows, CanAskRowsAmong, CanAskRowsUnder, GuardAsks}
pub use Rattle.past_state.specs.machine.OperatorMeaning.{HeldAt, WindowStands}
pub use Rattle.past_state.specs.machine.OperatorRuns.{AllCommitted, AllMemoriesFit, AllStand, AreFor, AreInsideOut, AreOrderedOperators, AreSameKinds, AreUpToTimeOf, OneCommitted, Runs}
pub use Rattle.past_state.specs.machine.Past.{AreEvaluated, AreMadeOf, ArePastTables, AreSatisfied, AreTablesAtStep, BeginAt, BindsBound, CommitStands, GuardsWillHold, HasOpenColumns, IsEvaluated}
pub use Rattle.past_state.specs.machine.Past.{IsGuard, IsPast, IsSatisfied, IsSoundGuard, IsTestOf, Past, PastCommitted, PastStands, PastTables, RunStands, TablesStand, TablesStay, TablesWillStand}
pub use Rattle.past_state.specs.machine.Past.{UnreadGuardsHold, UnreadTablesStay, formulas_of_guards, guard_formula, guard_names, past_names, tables_of}
pub use Rattle.past_state.specs.machine.RestoredMemories.{AreByWindow, AreKeepableFor, ArePairsIn, AreRestored, CanRestore, IsOneRestored, IsRestored, IsRestoredSlot, IsRestoredWindow}
pub use Rattle.past_state.specs.machine.RestoringCases.{CaseRowsFit, CaseRowsFitBoth, first_window_row, once_in, prev_p, second_window_row, two_number_row}
pub use Rattle.past_state.specs.machine.RestoringLaws.{KeptAreWithinBounds, WillStandFor}
pub use Rattle.past_state.specs.machine.StoredRows.{AreRowsKept, AreStoredRows, IsWhole, StoresAt, StoresFor}
pub use Rattle.past_state.specs.machine.Survivors.{IsViewOf, SurvivorsFit, ValuationSurvives, survives_by}
pub use Rattle.past_state.specs.machine.ValueSources.{IsConstantOf, IsKeptValue, IsKnownOfGuard, TablesAreKnown}
pub use Rattle.past_state.specs.machine.WindowShapes.{AreOfOne, ComesBehind, FitsIn, HasItsColumns, HasOtherValues, RowCanFollow, TimeJoins, TimeJoinsBy, numbered_operator, operator_of}
pub use Rattle.past_state.specs.meaning.KeptRows.{AreKeptOf, AreRowsRising, HasPairAt, HeldWhere, IsLastTime, IsRowBefore, IsRowToKeep, KeptAt, KeptFor, all_operators, kept_operand, operators}
pub use Rattle.past_state.specs.meaning.KeptRows.{pair_of}
pub use Rattle.past_state.specs.meaning.RowBounds.{AreWithinBounds, HaveTime, IsFrom, IsKeepable, IsTimely, IsTimelyIn, kept_row, numbered_operators}
pub use Rattle.trace_meaning.specs.machine.Laws.{LastIsTheNew, NoneIsLater}
pub use Rattle.trace_meaning.specs.meaning.Traces.{last_time}
pub use Rattle.valuations.proofs.ColumnLaws.{among_or_not}
pub use Rattle.valuations.proofs.RowLaws.{cell_here, cell_later, cell_some, table_row-length, value_at-with_inside}
pub use Rattle.valuations.proofs.ScopeLaws.{filled_fresh}
pub use Rattle.valuations.proofs.TableLemmas.{ok_relation}
pub use Rattle.valuations.specs.machine.Bindings.{bound_in, filled_from_row}
pub use Rattle.valuations.specs.machine.Tables.{AgreeOnColumns, AgreesWhereBound, AgreesWithRow, HasValuation, IsTable, Relation, row_cell}
pub use Rattle.windows.proofs.CaseLemmas.{same_number}
pub use Rattle.windows.proofs.GivenLaws.{among_has, given_answers, given_from, given_last_answers, given_last_from, outside_has}
pub use Rattle.windows.proofs.KeptLaws.{rises_append, rises_front, rises_map, stored_last, stored_long, stored_row}
pub use Rattle.windows.specs.declared.kept_pairs.KeptPair.{KeptPair}
pub use Rattle.windows.specs.declared.steps.LastStep.{LastStep}
pub use Rattle.windows.specs.declared.surviving_rows.Surviving.{Surviving}
pub use Rattle.windows.specs.machine.AnswerTables.{given_by_slot, window_given}
pub use Rattle.windows.specs.machine.Cases.{case_from, case_within, number_row, x_columns, x_number}
pub use Rattle.windows.specs.machine.Laws.{LeastIsChosen, RememberedIsKept}
pub use Rattle.windows.specs.machine.RowTimes.{IsEndedTime, IsServedTime}
pub use Rattle.windows.specs.machine.Slots.{GivesLast, HasLast, IsSlot, IsUpToTime, LastHasColumns, Slot}
pub use Rattle.windows.specs.machine.StoredPairs.{AreKeepable, ArePairsOf, AreRising, Stores, last_step_time, pairs_of_last}
pub use Rattle.windows.specs.machine.Windows.{AnswersBy, HasRow, IsCommittedBy, KeepsLeast, SurvivesFor, Window, WindowKeeps, WindowRemembers}
pub use Rattle.windows.specs.meaning.KeptPairs.{ChosenBy, IsPairBefore, pair}
