-- The words in which the proofs of this crate speak: those of std, of the crates below and of its own specs.
pub use Rattle.std.proofs.Common.{Bool, Contains, Err, IfOk, IsOk, IsTrue, List, None, Ok, OnOk, Option, Result, Some, [], add-one, add-zero, ap, append_assoc, arith, codes, decimal, drop, false}
pub use Rattle.std.proofs.Common.{get_or, if◌then◌else◌, inl, inr, length, length-append, length-drop, length-take, map, min, nat_lt, negsuc, not, pos, refl, slice_get, slice_index, slice_index_or}
pub use Rattle.std.proofs.Common.{subst, suc, sym, take, take_while, true, true≢false, unwrap_or, zero, ℕ, ⊎_elim, ◌&&◌, ◌++◌, ◌+◌, ◌-◌, ◌<◌, ◌==◌, ◌^◌, ◌||◌, ◌↔◌, ◌∙◌, ◌∷◌, ◌≡◌, ◌≢◌, ◌≤◌, ◌⊎◌}
pub use Rattle.std.proofs.Math.Seq.{drop-cons}
pub use Rattle.std.proofs.lemmas.Bool.{and_parts, cases_lt, eqb-false, eqb-true, false_from_ne_true}
pub use Rattle.std.proofs.lemmas.Bool.Decides.{nat_tests}
pub use Rattle.std.proofs.lemmas.Fmt.{decimal_digit, decimal_is_IsNumeral}
pub use Rattle.std.proofs.lemmas.List.{append-nil, drop-append-le, drop-drop, drop_all, drop_at, drop_more, get_or-drop, length-map, length-take-le, map-append, take-append-drop, take-append-le}
pub use Rattle.std.proofs.lemmas.List.{take-take, take_all, take_at, take_min, take_rest}
pub use Rattle.std.proofs.lemmas.List.Concat.{flat_map-append}
pub use Rattle.std.proofs.lemmas.List.Sums.{take_while-cons}
pub use Rattle.std.proofs.lemmas.Option.{get_or_from_slice_get, same_Some, slice_get-map, slice_get_within}
pub use Rattle.std.proofs.lemmas.Result.{err_from_is_err_and}
pub use Rattle.std.specs.Bool.{Decides}
pub use Rattle.std.specs.Borrow.{Bor}
pub use Rattle.std.specs.Char.{digit_value, is_ascii_digit}
pub use Rattle.std.specs.List.{AllByRecursion, flat_map, list_all, prefix_len}
pub use Rattle.std.specs.Option.{is_some, option_and_then, option_map, option_or}
pub use Rattle.std.specs.Result.{is_ok}
pub use Rattle.std.specs.Str.Parse.{AllDigits}
pub use Rattle.enf_data.proofs.ListFacts.{false_from_ne, front_passes, on_err_from, true_from_eq}
pub use Rattle.enf_data.proofs.Lists.{AllByRecursion-append, HasNoRepeats-middle}
pub use Rattle.enf_data.proofs.ValueEquality.{has_event-Decides}
pub use Rattle.enf_data.specs.declared.events.Event.{Event}
pub use Rattle.enf_data.specs.declared.events.NameId.{NameId}
pub use Rattle.enf_data.specs.declared.values.Value.{Value}
pub use Rattle.enf_data.specs.declared.values.Value.TheVariants.{Num, Text}
pub use Rattle.enf_data.specs.machine.EventSets.{InsertsEach, InsertsItem}
pub use Rattle.enf_data.specs.meaning.Membership.{HasNoRepeats}
pub use Rattle.enf_data.specs.meaning.Values.{IsValue, has_event}
pub use Rattle.enf_value.proofs.AppendedParts.{part_none, part_of_items}
pub use Rattle.enf_value.proofs.Fronts.{start_is_byte}
pub use Rattle.enf_value.proofs.Numerals.{range_from_digit}
pub use Rattle.enf_value.specs.declared.names.ByteKind.TheVariants.{Word}
pub use Rattle.enf_value.specs.machine.Laws.{OneTokenAtPlace, PrintedIsToken}
pub use Rattle.enf_value.specs.machine.ValueCalls.{AppendsPart, is_of_kind}
pub use Rattle.enf_value.specs.meaning.Tokens.{EndsBefore, IsValueToken, IsWrittenByte, IsWrittenText, ValueTokenAt, escaped, is_blank, is_reserved, is_word, is_word_byte, is_word_start, quoted}
pub use Rattle.enf_value.specs.meaning.Tokens.{spelled}
pub use Rattle.log_stream.specs.declared.fronts.Front.TheVariants.{Pending, Whole}
pub use Rattle.log_stream.specs.declared.items.Found.TheVariants.{Item}
pub use Rattle.log_stream.specs.declared.items.LogItem.{LogItem}
pub use Rattle.log_stream.specs.declared.items.LogItem.TheVariants.{Step}
pub use Rattle.log_stream.specs.declared.items.LogMode.{LogMode}
pub use Rattle.log_stream.specs.declared.items.LogMode.TheVariants.{Input, TraceLog}
pub use Rattle.log_stream.specs.declared.items.LogRefusal.{LogRefusal}
pub use Rattle.log_stream.specs.declared.items.LogRefusal.TheVariants.{Arity, BadRecord, NoMemory, SortClash, TimeTooLarge, TooLong, Truncated, UnknownName}
pub use Rattle.log_stream.specs.declared.limits.TheConstants.{MOST_EVENTS, MOST_RECORD_BYTES}
pub use Rattle.log_stream.specs.declared.scanning.Move.TheVariants.{Ends, Stays, To}
pub use Rattle.log_stream.specs.declared.scanning.Scan.{Scan}
pub use Rattle.log_stream.specs.declared.scanning.Scan.TheVariants.{Escaped, Inside, Outside}
pub use Rattle.log_stream.specs.declared.scanning.Scanned.TheVariants.{Open}
pub use Rattle.log_stream.specs.machine.EndScans.{BeginsAt, FindsFront, IsLasting, IsReader, IsScanned, IsWholeAt, ScanGoesOn, ScanMoves, Scans, StandsWhole, lasting, scan_after}
pub use Rattle.log_stream.specs.machine.Laws.{StepLineIsRead}
pub use Rattle.log_stream.specs.machine.LogReaders.{AreWholeRecords, IsStuck, Reader, ReadsNext}
pub use Rattle.log_stream.specs.machine.RecordStates.{Comma, Done, Events, FailsReading, GivesRecordAnswer, IsBadFrom, IsStuckAt, JudgesEvent, JudgesEvents, Named, Opened, PutsEvent, ReadsEvent}
pub use Rattle.log_stream.specs.machine.RecordStates.{ReadsFront, ReadsRow, ReadsUpTo, RecordMarked, RecordStart, RecordState, Ticked, Ticking, Valued, argument_at, clash_at, event_at, inserted_state}
pub use Rattle.log_stream.specs.machine.RecordStates.{record_next, record_run, row_refusal, so_far}
pub use Rattle.log_stream.specs.machine.StepLimits.{FitColumns, IsDeclared, IsWithinLimits}
pub use Rattle.log_stream.specs.meaning.LogGrammar.{BeginsWithRecord, CanBeginRecord, EndsBy, HasRecord, IsBadRecord, IsLog, IsLogGap, IsLogTokenAt, IsPending, IsRecordAnswer, IsRecordForm}
pub use Rattle.log_stream.specs.meaning.LogGrammar.{IsRecordSentence, IsRecordSpelled, IsTruncated, Line, LogArgument, LogMark, LogName, LogTime, LogToken, LogTokensLead, ModeReads, RefusesFront}
pub use Rattle.log_stream.specs.meaning.LogGrammar.{SpellsRecords, TickLine, WrittenArgument, WrittenEvent, WrittenRecord, argument_clash, argument_token, argument_values, behind_blanks}
pub use Rattle.log_stream.specs.meaning.LogGrammar.{behind_record, entry_of_name, event_from_written, event_refusal, event_refusal_by, event_tokens, events_from_written, first_event_refusal}
pub use Rattle.log_stream.specs.meaning.LogGrammar.{is_outside, judged_record, judged_step, length_to_end, mark_of, record_bytes, record_length, record_tokens, row_tokens, scan_behind, spelled_event}
pub use Rattle.log_stream.specs.meaning.LogGrammar.{spelled_row, spelled_step, step_line, with_event_put, with_events_put}
pub use Rattle.memchr.specs.Find.{NoneBefore, Nowhere, Passes, is_byte2}
pub use Rattle.signature.proofs.SignatureLaws.{number_only}
pub use Rattle.signature.specs.declared.entries.NameEntry.{NameEntry}
pub use Rattle.signature.specs.declared.entries.Sort.{Sort}
pub use Rattle.signature.specs.meaning.Columns.{has_sort}
pub use Rattle.signature.specs.meaning.Grammar.{IsNameEntry, IsSignature, entry_names, name_number}
pub use Rattle.trace_meaning.specs.declared.kinds.StepKind.{StepKind}
pub use Rattle.trace_meaning.specs.declared.kinds.StepKind.TheVariants.{Inserted, System}
pub use Rattle.trace_meaning.specs.meaning.Traces.{most_time}
