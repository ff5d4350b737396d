-- The words in which the proofs of this crate speak: those of std, of the crates below and of its own specs.
pub use Rattle.std.proofs.Common.{All, Bool, Contains, Global, IsTrue, List, None, Option, Some, Vec, [], ap, append-nil, append_assoc, arith, drop, drop-cons, false, filter, get_or, inl, inr}
pub use Rattle.std.proofs.Common.{is_none, is_some, leb, length, length-append, map, min, nat_eq, not, refl, rules, subst, suc, sym, take, true, zero, ℕ, ⊎_elim, ◌&&◌, ◌++◌, ◌+◌, ◌-◌, ◌<◌, ◌||◌, ◌↔◌}
pub use Rattle.std.proofs.Common.{◌∙◌, ◌∷◌, ◌≡◌, ◌≤◌, ◌⊎◌}
pub use Rattle.std.proofs.lemmas.Bool.{cases_lt, false≢true}
pub use Rattle.std.proofs.lemmas.Bool.Decides.{Decides-and, Decides-eqb, Decides-like, Decides-not, Decides-or, leb_tells, not_from_Decides}
pub use Rattle.std.proofs.lemmas.List.{drop_all, drop_more, get_or-map, length-map, map-append, take_all, take_more}
pub use Rattle.std.proofs.lemmas.List.Elements.{All-cons, All-contains, All-contains_itself, All-nil, All-push, All-weaker, Contains-append_cases, Contains-append_left, Contains-append_right}
pub use Rattle.std.proofs.lemmas.List.Elements.{Contains-get_or, Contains-push}
pub use Rattle.std.proofs.lemmas.List.Folds.{Any-from_list_any}
pub use Rattle.std.proofs.lemmas.List.Quantifiers.{position-Some}
pub use Rattle.std.proofs.lemmas.List.Sorted.{Contains-permutation, IsNonDecreasingBy-from_sort_by_key, IsPermutation-swap_remove, IsPermutation-sym}
pub use Rattle.std.proofs.lemmas.Map.Views.{Contains-from_lookup, lookup-from_Contains}
pub use Rattle.std.proofs.lemmas.Option.{none-some, same_Some}
pub use Rattle.std.proofs.lemmas.Result.{IfOk-weaker, on_ok_weaker}
pub use Rattle.std.proofs.lemmas.Slice.Zip.{zip_end}
pub use Rattle.std.specs.Bool.{Decides}
pub use Rattle.std.specs.Cmp.{int_cmp_total, nat_eq_equiv, tied_itself, unsigned_Decides}
pub use Rattle.std.specs.Cmp.Lexicographic.{nat_list_cmp_total}
pub use Rattle.std.specs.Hash.{fed_then}
pub use Rattle.std.specs.HashMap.{HashMap}
pub use Rattle.std.specs.List.{AllByRecursion, IsDistinct, flat_map, fold, list_any}
pub use Rattle.std.specs.List.Sorted.{IsPermutation}
pub use Rattle.std.specs.Map.{keys_of, lookup, values_of}
pub use Rattle.std.specs.Map.Calls.{RetainsPairs}
pub use Rattle.std.specs.Option.{option_copied, option_map_or}
pub use Rattle.std.specs.Ordering.{ordering_then}
pub use Rattle.std.specs.Prelude.{IfSome, cond, if◌then◌else◌, position, slice_get, swap_remove}
pub use Rattle.std.specs.VecDeque.Iter.{deque_iter_rest}
pub use Rattle.std.specs.declared.cmp.Ordering.TheVariants.{Equal, Less}
pub use Rattle.enf_data.proofs.ListFacts.{all_from, all_front, cases_le, iff_then, ok_both, only_item}
pub use Rattle.enf_data.proofs.Lists.{Contains-filter, Contains-from_filter, Contains-from_map, Contains-map, HasNoRepeats-from_distinct, HasNoRepeats-middle, first_or_later, here, later}
pub use Rattle.enf_data.proofs.Lists.{list_any-Decides, none_in_nil, same_at, same_lists_at, there_from_get}
pub use Rattle.enf_data.proofs.ValueEquality.{derived_row_eq-Decides}
pub use Rattle.enf_data.specs.declared.intervals.Interval.{Interval}
pub use Rattle.enf_data.specs.declared.terms.VarId.{VarId}
pub use Rattle.enf_data.specs.declared.values.Value.{Value}
pub use Rattle.enf_data.specs.declared.values.Value.TheVariants.{Num, Text}
pub use Rattle.enf_data.specs.machine.ValueTests.{value_eq-Decides}
pub use Rattle.enf_data.specs.meaning.Membership.{HasNoRepeats, IsIn, IsUpTo}
pub use Rattle.enf_data.specs.meaning.Valuations.{Valuation, valuation_of, value_at}
pub use Rattle.enf_data.specs.meaning.Values.{row_cmp, value_cmp}
pub use Rattle.indexmap.proofs.CallerLemmas.{insert_entry-new}
pub use Rattle.indexmap.specs.IndexMap.{UpdatesBy, get, get_by, insert_entry}
pub use Rattle.indexmap.specs.Layout.{set_value_at}
pub use Rattle.valuations.proofs.RowLaws.{agrees_itself, agrees_once, cell_here, cell_later, cell_some, contains_from_valuation, same_row, table_row-length}
pub use Rattle.valuations.specs.machine.Tables.{AgreeOnColumns, AgreesWhereBound, AgreesWithRow, HasValuation, IsBoundSame, IsTable, Relation, row_cell}
pub use Rattle.windows.specs.declared.kept_pairs.KeptPair.{KeptPair}
pub use Rattle.windows.specs.declared.steps.LastStep.{LastStep}
pub use Rattle.windows.specs.declared.surviving_rows.Surviving.{Surviving}
pub use Rattle.windows.specs.declared.surviving_rows.Surviving.TheVariants.{AllBut, Only}
pub use Rattle.windows.specs.machine.AnswerTables.{given_by_slot, have_same_cells, is_given, is_in, is_some_in, is_up_to, rows_of_last, rows_within, survives_always, survives_among, survives_outside}
pub use Rattle.windows.specs.machine.AnswerTables.{window_given}
pub use Rattle.windows.specs.machine.Cases.{Entry, IsKeptByEntries, again_at_2, at_0_and_2, both_at_4, case_from, case_within, dies_at_once, entry, last_at, number_row, number_table, right_at_0}
pub use Rattle.windows.specs.machine.Cases.{right_at_3, right_now, step_of, with_1, x_columns, x_number}
pub use Rattle.windows.specs.machine.CommittedSteps.{AreUpTo, CommittedStep, HasColumns, HasPair, IsHeld, IsKeptTime, StepsAnswer, committed_step, to_the_end, with_committed_step}
pub use Rattle.windows.specs.machine.Laws.{AnsweredIsWalked, CommittedStands, LeastIsChosen, NothingAtFirst, OneStepMore, RememberedIsKept}
pub use Rattle.windows.specs.machine.RowQueries.{SurvivesUnder, are_cells_as_bound, cell_eq, cell_fed, cells, cells_eq, cells_eq-Decides, is_cell_as_bound}
pub use Rattle.windows.specs.machine.RowTimes.{AreLeastTimes, IsEndedTime, IsServedTime, RiseTo}
pub use Rattle.windows.specs.machine.Slots.{GivesLast, HasLast, IsSlot, LastHasColumns, Slot, with_rows}
pub use Rattle.windows.specs.declared.queue.Due.{Due}
pub use Rattle.windows.specs.machine.DueQueues.{AreInReach, AreQueued, AreUpToTime, DuesNeverFall, HasBehindAt, HasTimeAt, IsCompact, IsDueQueue, IsQueueAt, IsSettledAt, KeepsDues, LetsGo, Queue, due}
pub use Rattle.windows.specs.machine.DueQueues.{dues_from, waiting_of}
pub use Rattle.windows.specs.machine.StoredPairs.{AreBefore, AreEntriesOf, AreKeepable, AreOfLast, ArePairsKept, ArePairsOf, AreRising, AreTimesOf, Stores, last_step_time, pairs_of_last}
pub use Rattle.windows.specs.machine.WindowEntries.{AddAtMost, AddsAtMost, AddsTime, AddsTimes, AreLeast, AreWindowEntries, Forgets, ForgetsTimes, GivesRow, GivesSomeRow, HasBehind, HasTime, IsAnyRow}
pub use Rattle.windows.specs.machine.WindowEntries.{IsSomeIn, KeepsRows, RowSurvives, count_pairs, count_times}
pub use Rattle.windows.specs.machine.Windows.{AnswersBy, AnswersNow, AreTables, FitsColumns, HasLeast, HasRow, HasRowAfterStep, IsCommittedBy, IsWalkedLater, IsWalkedNow, IsWindow, KeepsLeast}
pub use Rattle.windows.specs.machine.Windows.{StandsForSteps, StandsWithStep, SurvivesFor, TellsFor, Window, WindowKeeps, WindowRemembers, WindowRemembersIn, kept_entries}
pub use Rattle.windows.specs.meaning.KeptPairs.{ChosenBy, IsPairBefore, IsRisingBy, pair}
pub use borrow.Author.Tests.{ltb-true}
