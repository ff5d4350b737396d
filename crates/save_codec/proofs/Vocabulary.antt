-- The words in which the proofs of this crate speak: those of std, of the crates below and of its own specs.
pub use Rattle.std.proofs.Common.{All, Bool, Bor, Contains, Err, IfErr, IsSome, IsTrue, List, None, Ok, OnOk, Option, Result, Some, [], ap, append_assoc, arith, codes, cond, decimal, drop, false}
pub use Rattle.std.proofs.Common.{get_or, inl, inr, length, length-append, map, not, pos, refl, rules, slice_get, slice_index, subst, suc, sym, take, true, zero, zero-add, ℕ, ℤ, ⊎_elim, ◌++◌, ◌+◌}
pub use Rattle.std.proofs.Common.{◌-◌, ◌<◌, ◌^◌, ◌↔◌, ◌∙◌, ◌∷◌, ◌≡◌, ◌≢◌, ◌≤◌, ◌⊎◌}
pub use Rattle.std.proofs.Math.Seq.{take-append-add}
pub use Rattle.std.proofs.lemmas.Bool.{false≢true}
pub use Rattle.std.proofs.lemmas.Bool.Decides.{Decides-eqb, nat_tests}
pub use Rattle.std.proofs.lemmas.Fmt.{decimal-digits_value, decimal_digit, decimal_is_IsNumeral, decimal_nonempty, first_decimal, length-decimal-le_succ}
pub use Rattle.std.proofs.lemmas.Grind.{common_steps}
pub use Rattle.std.proofs.lemmas.List.{append-nil, map-append, take-append-drop, take-append-le, take_all, take_at, take_more}
pub use Rattle.std.proofs.lemmas.List.Concat.{flat_map-append}
pub use Rattle.std.proofs.lemmas.List.Elements.{All-contains, All-from_recursion, All-head, All-nil, All-push, All-same, All-tail, All-take, All-weaker, Contains-append_left, Contains-append_right}
pub use Rattle.std.proofs.lemmas.List.Elements.{recursion_from_All}
pub use Rattle.std.proofs.lemmas.Map.Keys.{sorted_head, sorted_tail}
pub use Rattle.std.proofs.lemmas.Option.{get_or_from_slice_get, none-some, same_Some, slice_get-map, slice_get_within}
pub use Rattle.std.proofs.lemmas.Result.{IfErr-weaker, IfOk-weaker, err_from_is_err_and, on_ok_weaker}
pub use Rattle.std.proofs.lemmas.Slice.Eq.{strip_prefix_is}
pub use Rattle.std.proofs.lemmas.Str.Parse.{IsNumeralModel}
pub use Rattle.std.specs.Char.{digit_value}
pub use Rattle.std.specs.FinMap.Entries.{by_order, find, put}
pub use Rattle.std.specs.List.{AllByRecursion, flat_map, prefix_len}
pub use Rattle.std.specs.List.Sorted.{IsStrictlySortedBy}
pub use Rattle.std.specs.Option.{option_copied, option_map}
pub use Rattle.std.specs.Ordering.{is_eq, ordering_reverse}
pub use Rattle.std.specs.Str.Parse.{AllDigits, digits_value}
pub use Rattle.std.specs.declared.cmp.Ordering.TheVariants.{Greater, Less}
pub use Rattle.enf_data.proofs.ListFacts.{all_at_middle, behind_front, cancel_front, eq_from_neither_less}
pub use Rattle.enf_data.proofs.Lists.{AllByRecursion-contains, Contains-append, first_or_later, here, later, none_in_nil, there_from_get}
pub use Rattle.enf_data.proofs.ValuationFacts.{nothing_bound, nothing_rises, variable_is}
pub use Rattle.enf_data.proofs.ValuationLaws.{same_valuation, variable_cmp_total}
pub use Rattle.enf_data.specs.declared.events.NameId.{NameId}
pub use Rattle.enf_data.specs.declared.intervals.Interval.{Interval}
pub use Rattle.enf_data.specs.declared.terms.Term.{Term}
pub use Rattle.enf_data.specs.declared.terms.Term.TheVariants.{Var}
pub use Rattle.enf_data.specs.declared.terms.VarId.{VarId}
pub use Rattle.enf_data.specs.declared.values.Value.{Value}
pub use Rattle.enf_data.specs.declared.values.Value.TheVariants.{Num, Text}
pub use Rattle.enf_data.specs.meaning.Valuations.{BindsColumns, Valuation, bindings, no_values, value_at, variable_cmp}
pub use Rattle.enf_data.specs.meaning.Values.{IsValue}
pub use Rattle.enf_formula.proofs.VariableLaws.{same_free}
pub use Rattle.enf_formula.specs.meaning.Satisfaction.{AreFreeVariables, Formula, Historically, Once, Prev, Since}
pub use Rattle.enf_value.proofs.SpellingLaws.{escaped-front}
pub use Rattle.enf_value.proofs.ValueTokenLaws.{one_value}
pub use Rattle.enf_value.specs.declared.names.ByteKind.TheVariants.{Plain}
pub use Rattle.enf_value.specs.machine.Laws.{OneTokenAtPlace, PrintedIsToken}
pub use Rattle.enf_value.specs.machine.ValueCalls.{is_of_kind}
pub use Rattle.enf_value.specs.meaning.Tokens.{EndsBefore, IsNoDigit, IsNumberToken, ValueTokenAt, escaped, quoted, spelled}
pub use Rattle.obligations.specs.declared.instances.Instance.{Instance}
pub use Rattle.obligations.specs.declared.scopes.FutureNode.{FutureNode}
pub use Rattle.obligations.specs.machine.Parts.{node_with_scope}
pub use Rattle.obligations.specs.meaning.PendingBounds.{CanBePending, CanWait, first_end}
pub use Rattle.past_state.specs.declared.kept_rows.KeptRow.{KeptRow}
pub use Rattle.past_state.specs.declared.shapes.WindowShape.{WindowShape}
pub use Rattle.past_state.specs.machine.Guards.{tree_in}
pub use Rattle.past_state.specs.machine.WindowShapes.{HasItsColumns, IsFirstOutOfBounds, numbered_operator, operator_of}
pub use Rattle.past_state.specs.meaning.KeptRows.{IsRowBefore, all_operators, kept_operand}
pub use Rattle.past_state.specs.meaning.RowBounds.{AreWithinBounds, HaveTime, IsFrom, IsKeepable, IsTimely, IsTimelyIn, numbered_operators}
pub use Rattle.plan_terms.specs.machine.Laws.{FoundHasRisingScope}
pub use Rattle.plan_terms.specs.machine.StoredPlans.{plan_of}
pub use Rattle.plan_terms.specs.meaning.Plans.{Plan, is_future}
pub use Rattle.plan_terms.specs.meaning.Scopes.{FitsScope, future_in, only_future, scoped_at, scoped_in_plan}
pub use Rattle.plan_terms.specs.machine.WellFormed.{IsScopedPlan}
pub use Rattle.save_codec.specs.declared.judging.Fitting.{Fitting}
pub use Rattle.save_codec.specs.declared.judging.Judge.{Judge}
pub use Rattle.save_codec.specs.declared.judging.Unfit.{Unfit}
pub use Rattle.save_codec.specs.declared.judging.Unfit.TheVariants.{At}
pub use Rattle.save_codec.specs.declared.limits.TheConstants.{MOST_STATE_TIME}
pub use Rattle.save_codec.specs.declared.lines.Kind.{Kind}
pub use Rattle.save_codec.specs.declared.lines.Line.{Line}
pub use Rattle.save_codec.specs.declared.lines.Line.TheVariants.{Clock, Due, End, Last, Position, Row}
pub use Rattle.save_codec.specs.declared.parts.DueLine.{DueLine}
pub use Rattle.save_codec.specs.declared.parts.LineParts.{LineParts}
pub use Rattle.save_codec.specs.declared.parts.RowLine.{RowLine}
pub use Rattle.save_codec.specs.declared.refusals.StateRefusal.{StateRefusal}
pub use Rattle.save_codec.specs.declared.refusals.StateRefusal.TheVariants.{Inconsistent, NoMemory, OtherPolicy, Syntax}
pub use Rattle.save_codec.specs.declared.snapshots.Snapshot.{Snapshot}
pub use Rattle.save_codec.specs.declared.sorts.Known.{Known}
pub use Rattle.save_codec.specs.machine.BoundJudgements.{AreDuesWithin, AreFittingRows, AreInstancesOf, AreNumbers, AreRowsWithin, BreaksAt, EndsFitting, IsFoundNode, IsInstanceOf, IsJudge, IsStateOf}
pub use Rattle.save_codec.specs.machine.BoundJudgements.{IsUnfit, IsUnfitLine, IsUnfitNumber, unfit_refusal}
pub use Rattle.save_codec.specs.machine.Cases.{save_case_a, save_case_setting}
pub use Rattle.save_codec.specs.machine.KnownSorts.{GuardedPlanTells, HasBesides, KnowRules, KnowWindows, Knows, KnowsJust, Learns}
pub use Rattle.save_codec.specs.machine.Laws.{FrontKeeps, OneSaveAnswer, OneState, OneText, SavedIsText, SoundKeepsBounds}
pub use Rattle.save_codec.specs.machine.LineParts.{EndsValues, IsReadLine, line_of_due, line_of_row, lines_in}
pub use Rattle.save_codec.specs.machine.ResumeAnswers.{AnswersSave, IsFormRefusal, IsStop}
pub use Rattle.save_codec.specs.machine.SoundStates.{IsSoundInstance, IsSoundRow}
pub use Rattle.save_codec.specs.machine.StoredStates.{HasSmallNumbers, IsStoredInstance, IsStoredRow}
pub use Rattle.save_codec.specs.meaning.SaveRefusals.{IsFault, IsSaveRefusal}
pub use Rattle.save_codec.specs.meaning.SavedBounds.{AgreesWith, AreLinesWithin, DueFits, HasSorts, IsFirstUnfitLine, KeepsBounds, RowFits, RuleTells, SaveSetting, clock_behind_line, clock_from}
pub use Rattle.save_codec.specs.meaning.SavedBounds.{due_in, kept_row_of, last_behind_line, last_time_from, position_behind_line, position_from, row_in}
pub use Rattle.save_codec.specs.meaning.SavedTexts.{AreLines, IsLine, IsSmallNumber, IsSmallTime, IsTextOfLines, LinesFollow, due_line, due_text, ends_text, head_text, is_end_line, kind_may_follow}
pub use Rattle.save_codec.specs.meaning.SavedTexts.{last_line, last_text, line_follows, line_kind, line_text, lines_of, lines_text, row_line, sized, spaced, values_in, values_text}
pub use Rattle.save_codec.specs.meaning.ToldSorts.{AtomTells, FitTold, FitsTold, GuardTells, PlanTells, TermTells, TermsTell, has_guard}
pub use Rattle.signature.specs.declared.entries.NameEntry.{NameEntry}
pub use Rattle.signature.specs.declared.entries.Sort.{Sort}
pub use Rattle.signature.specs.declared.entries.Sort.TheVariants.{Int}
pub use Rattle.signature.specs.meaning.Columns.{entry_columns}
pub use Rattle.valuations.proofs.ColumnLaws.{among_or_not, is_among-Decides}
pub use Rattle.valuations.proofs.RowLaws.{cell_here, cell_later, cell_some}
pub use Rattle.valuations.proofs.ScopeLaws.{filled_outside, filled_unbound, same_or_other}
pub use Rattle.valuations.specs.machine.Bindings.{filled_from_row, with_new, with_value}
pub use Rattle.valuations.specs.machine.Tables.{row_cell}
pub use Rattle.windows.specs.meaning.KeptPairs.{ChosenBy, IsRisingBy}
