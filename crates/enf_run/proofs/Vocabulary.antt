-- The words in which the proofs of this crate speak: those of std, of the crates below and of its own specs.
pub use Rattle.std.proofs.Common.{All, Bool, Bor, Contains, Err, IfOk, IfSome, List, None, Ok, Option, Result, Some, [], ap, append_assoc, arith, codes, cond, decimal, drop, false, get_or}
pub use Rattle.std.proofs.Common.{if◌then◌else◌, inl, inr, is_some, length, length-append, length-drop, length-take, map, nat_lt, refl, rules, subst, suc, sym, take, true, zero, ℕ, ⊎_elim, ◌*◌, ◌++◌}
pub use Rattle.std.proofs.Common.{◌+◌, ◌-◌, ◌<◌, ◌==◌, ◌^◌, ◌∙◌, ◌∷◌, ◌≡◌, ◌≢◌, ◌≤◌}
pub use Rattle.std.proofs.lemmas.Bool.{cases_lt, true≢false}
pub use Rattle.std.proofs.lemmas.Bool.Decides.{nat_tests}
pub use Rattle.std.proofs.lemmas.List.{append-nil, append_cancel_left, drop_at, get_or_at, get_or_past, length_push, map-append, take-append-drop, take-append-le, take_all, take_at, take_more}
pub use Rattle.std.proofs.lemmas.List.Concat.{flat_map-append}
pub use Rattle.std.proofs.lemmas.List.Elements.{All-append, All-contains, All-from_recursion, All-head, All-nil, All-tail, All-weaker}
pub use Rattle.std.proofs.lemmas.List.Folds.{flat_map-map}
pub use Rattle.std.proofs.lemmas.List.FromFn.{get_or-range_with_len, length-range_with_len}
pub use Rattle.std.proofs.lemmas.List.Sums.{sum_by-append}
pub use Rattle.std.proofs.lemmas.Option.{none-some}
pub use Rattle.std.proofs.lemmas.Result.{IfOk-weaker, err_from_is_err_and}
pub use Rattle.std.specs.List.{AllByRecursion, flat_map, range_with_len}
pub use Rattle.std.specs.Option.{option_and_then, option_map, option_or}
pub use Rattle.std.specs.Prelude.{IsTrue, slice_get, unwrap_or, ◌⊎◌}
pub use Rattle.std.specs.declared.alloc.Global.{Global}
pub use Rattle.std.specs.declared.vec.Vec.{Vec}
pub use Rattle.action_report.specs.meaning.ReportLines.{action_line, kind_text, rule_name}
pub use Rattle.choice_step.proofs.JoinLaws.{follows_join, follows_split, justified_join, steps_behind}
pub use Rattle.choice_step.specs.machine.Laws.{AreDistinct}
pub use Rattle.choice_step.specs.meaning.ActedSteps.{ActedStep, AllAreJustified, as_it_came, out_step, out_steps, untouched}
pub use Rattle.choice_step.specs.meaning.Follows.{Follows, FollowsDrain, is_inserted, steps_of}
pub use Rattle.enf_data.proofs.Lists.{AllByRecursion-append, AllByRecursion-contains, AllByRecursion-from_contains, HasNoRepeats-push, first_or_later, here, none_in_nil, there_from_get}
pub use Rattle.enf_data.proofs.ValueEquality.{has_event-Decides}
pub use Rattle.enf_data.specs.declared.events.Event.{Event}
pub use Rattle.enf_data.specs.declared.events.NameId.{NameId}
pub use Rattle.enf_data.specs.declared.limits.TheConstants.{MOST_FILE_BYTES}
pub use Rattle.enf_data.specs.declared.steps.Step.{Step}
pub use Rattle.enf_data.specs.declared.terms.Term.TheVariants.{Var}
pub use Rattle.enf_data.specs.declared.terms.VarId.{VarId}
pub use Rattle.enf_data.specs.meaning.Data.{IsTrace, no_step}
pub use Rattle.enf_data.specs.meaning.Membership.{HasNoRepeats}
pub use Rattle.enf_data.specs.meaning.Values.{has_event}
pub use Rattle.enf_formula.specs.machine.FormulaViews.{tree_of}
pub use Rattle.enf_formula.specs.meaning.Satisfaction.{Always, And, AtMost, Atom, Equal, Eventually, Exists, False, Forall, Formula, Historically, Implies, Less, Next, Not, Once, Or, Prev, Since}
pub use Rattle.enf_formula.specs.meaning.Satisfaction.{True, Until}
pub use Rattle.enf_io.proofs.ExchangeLaws.{AtEachMark-given, AtEachMark-mark, GrewWhereTold-gave, GrewWhereTold-marked, GrewWhereTold-refl, GrewWhereTold-took, GrewWhereTold-trans, MarksWithin}
pub use Rattle.enf_io.proofs.ExchangeLaws.{OfCalls-MarksWithin, OfCalls-gave, OfCalls-marked, OfCalls-none, OfCalls-took, OfCalls-weaker, left-since, taken_bytes-taken}
pub use Rattle.enf_io.specs.declared.devices.IoRefusal.{IoRefusal}
pub use Rattle.enf_io.specs.declared.devices.IoRefusal.TheVariants.{Failed, NoMemory}
pub use Rattle.enf_io.specs.declared.writing.WriteRefusal.{WriteRefusal}
pub use Rattle.enf_io.specs.machine.CalmDevices.{CalmContents, calm_files, contents_under}
pub use Rattle.enf_io.specs.machine.StreamCalls.{Took, TookNothing, WritesAll, with_read_mark, with_taken, write_faults_after, written_before}
pub use Rattle.enf_io.specs.meaning.Exchange.{AtEachMark, Exchange, IsAtEnd, OfCalls, Stream, exchange_since, input_left, taken_bytes}
pub use Rattle.enf_io.specs.meaning.ExchangeGrowth.{Gave, Grew, GrewWhereTold, with_given}
pub use Rattle.enf_io.specs.machine.FileDraws.{Draws}
pub use Rattle.enf_io.specs.meaning.FileCalls.{CountsFor, GivesContents, ReadsFile, WritesFile, faults_after}
pub use Rattle.enf_io.specs.meaning.Files.{Contents, FileBytes, FileView, NoFile, one_more, with_contents}
pub use Rattle.enf_run.specs.declared.audits.Audited.{Audited}
pub use Rattle.enf_run.specs.declared.drills.Drilled.{Drilled}
pub use Rattle.enf_run.specs.declared.drills.Tally.{Tally}
pub use Rattle.enf_run.specs.declared.endings.Cut.{Cut}
pub use Rattle.enf_run.specs.declared.endings.Ending.{Ending}
pub use Rattle.enf_run.specs.declared.endings.FileEnding.{FileEnding}
pub use Rattle.enf_run.specs.declared.endings.Finish.{Finish}
pub use Rattle.enf_run.specs.declared.files.TheConstants.{MOST_STATE_BYTES}
pub use Rattle.enf_run.specs.declared.intake.Intake.{Intake}
pub use Rattle.enf_run.specs.declared.intake.Judged.{Judged}
pub use Rattle.enf_run.specs.declared.intake.Verdict.{Verdict}
pub use Rattle.enf_run.specs.declared.log_run.Enforcement.{Enforcement}
pub use Rattle.enf_run.specs.declared.refusals.PolicyRefusal.{PolicyRefusal}
pub use Rattle.enf_run.specs.declared.refusals.RecordRefusal.{RecordRefusal}
pub use Rattle.enf_run.specs.declared.refusals.Refusal.{Refusal}
pub use Rattle.enf_run.specs.declared.refusals.SignatureRefusal.{SignatureRefusal}
pub use Rattle.enf_run.specs.declared.refusals.StateRefusal.{StateRefusal}
pub use Rattle.enf_run.specs.declared.refusals.Status.{Status}
pub use Rattle.enf_run.specs.machine.Asked.{AsksToldPolicy, AsksUnderPolicy}
pub use Rattle.enf_run.specs.machine.AuditTurns.{AnswersAudit, AnswersAuditTurn, AnswersRecord, AuditorTakes, AuditsLater, AuditsOne, HasAudited, LeavesCounts, LosesAuditTurn, LosesLog, TakesTrace}
pub use Rattle.enf_run.specs.machine.AuditTurns.{TakesWholeTrace, WaitsAudit, finish_after}
pub use Rattle.enf_run.specs.machine.CommandForms.{MatchNone, MatchesForm, NamesFiles, NamesFilesAlone, NamesResumed, states_of}
pub use Rattle.enf_run.specs.machine.DrillRuns.{FinishesDrill, IsNewDrill, SampleDrillFinds, TakesCounted, TallyAtMost, causes_in, guard_operators, suppressions_in, tally_with}
pub use Rattle.enf_run.specs.machine.EnforceTurns.{HoldsTurn, AnswersTurn, CutsAnswer, CutsDrain, CutsDrainLines, CutsItem, CutsNext, CutsTaken, CutsTurn, EnforcesLater, EnforcesOne, GivesDrain}
pub use Rattle.enf_run.specs.machine.EnforceTurns.{GivesRest, IsNewLog, LeavesItem, LogMoment, LosesTurn, TakesItem, WaitsForMore, WritesNothing, log_front, log_moment, reads_on}
pub use Rattle.enf_run.specs.machine.FileReads.{EndsFile, HoldsPolicy, HoldsRefusedPolicy, HoldsRefusedSignature, HoldsRefusedState, HoldsSignature, IsFileNotRead, IsLongFile, IsShortFile}
pub use Rattle.enf_run.specs.machine.FormOutcomes.{AuditDue, AuditLacks, AuditOutcome, AuditRefused, CheckDue, CheckLacks, CheckOutcome, CheckRefused, DrillDue, DrillOutcome, EnforceDue, EnforceLacks}
pub use Rattle.enf_run.specs.machine.FormOutcomes.{EnforceOutcome, EnforceRefused, FailsToWrite, GenerateDue, GenerateOutcome, IsBrokenOff, IsEnforceDone, NoFormDue, NoFormOutcome, NoFormRefused}
pub use Rattle.enf_run.specs.machine.FormOutcomes.{rule_line}
pub use Rattle.enf_run.specs.machine.LineCuts.{CutsActions, CutsHanding, CutsLine, CutsSteps, GivesSteps, IsFrontOfActions, joined_texts}
pub use Rattle.enf_run.specs.machine.LogIntake.{CutsPiece, LosesPiece, takeable_bytes, AnswersRead, AreInPieces, CountsRise, EndsIntake, EndsTurn, GetsPiece, IsNewIntake, IsStreamUntouched}
pub use Rattle.enf_run.specs.machine.LogIntake.{LosesBytes, ReadMeetsEnd, RefusesNext, TakesBytes, TurnTakesPiece, reads_in}
pub use Rattle.enf_run.specs.machine.LogRunEnds.{EnforcerStandsBehind, HasPlans, IsOwedAtEnd, PausesLog, RanAsJudged, RanSo, RunsCut, RunsLog, RunsLogSo, RunsRefused, RunsWhole, SavesState}
pub use Rattle.enf_run.specs.machine.LogRunEnds.{SavesWhereAsked, WhereStood, WritesState, conclusion_of, enforcer_setting, rest_left, taken_log_of}
pub use Rattle.enf_run.specs.machine.LogStarts.{BeginsLog, EndsStart, typed_bounds}
pub use Rattle.enf_run.specs.machine.RunEndings.{Concludes, CutsText, EndsRunWith, FlushesAfter, FlushesGate, HandsOnWork, WritesText, cut_after, cut_after_file, ending_after_file, faults_behind, write_faults_behind}
pub use Rattle.enf_run.specs.machine.TwoRunCalls.{CallsAreOne, GivesBoth, GoesOnFromSaved, PausesAreOne, SameSources, TakeTurns, TakesBoth, TakesLogs, TellsCall, TellsCalls, calls_of, given_of}
pub use Rattle.enf_run.specs.machine.TwoRunCalls.{input_of, said_of, taken_of_call}
pub use Rattle.enf_run.specs.machine.TwoRunHeadlines.{AreNumberedLines, IsLastBehind, KeptBehindSaved, SavedBehindSaved, SavedIsAsked, record_head, start_after}
pub use Rattle.enf_run.specs.machine.TwoRunLaws.{GivesJoins, IsEndOfLog, IsLogOver, OwedIsOne, OwedJoins, RefusesForGood, RunsAreOne, TwoRunJoins, setting_after, setting_behind}
pub use Rattle.enf_run.specs.machine.TwoRunResuming.{AskedIsTaken, ComesToFitting, FittingGoesOn, FromNothingFits, IsFittingStart, IsShortState, SavedIsTaken, SavesFitting}
pub use Rattle.enf_run.specs.meaning.Calls.{AreOfForm, Audit, Call, Check, Drill, Enforce, Form, Generate, IsAuditForm, IsCheckForm, IsDrillForm, IsEnforceForm, IsGenerateForm, LeavesFiles}
pub use Rattle.enf_run.specs.meaning.Calls.{LeavesGate, MatchNoForm, NamesEnforce, NoForm, devices_of, texts_of}
pub use Rattle.enf_run.specs.meaning.EnforceOutcomes.{AsksToEnforce, AsksToEnforceSo, AsksToldEnforce, BreaksOffLog, CutsLog, EnforcesLog, IsEnforceable, MayStart, MissesState, PausesRun}
pub use Rattle.enf_run.specs.meaning.EnforceOutcomes.{RefusesRecord, RefusesStateFile, TellsClock, WhereItStarts, WritesRun, comes_to}
pub use Rattle.enf_run.specs.meaning.HandedOn.{HandsOnAll}
pub use Rattle.enf_run.specs.meaning.Headline.{HasTakenLog, Headline, IsAnsweredLog, IsAskedRun, IsKeptAtSave, IsKeptSoFar, IsKeptToEnd, IsLineFront, IsReadyState, IsRestRefusedFor, IsStateText}
pub use Rattle.enf_run.specs.meaning.Headline.{IsTakenToEnd, IsTransparentPolicy, LogEndsWithStatus, StartsAt, States, action_lines, all_formulas, most_log_bytes, option_words, record_of, records_of}
pub use Rattle.enf_run.specs.meaning.Headline.{state_words, step_action_lines, text_of_log_refusal}
pub use Rattle.enf_run.specs.meaning.LogRuns.{AnyExchange, CutsRun, FailsAtGate, FailsAtReport, Gains, HasWriteFault, IsCutLine, IsOwedWhere, StopsShort, LostLog, RunsLogFor, RunsShort, SaysActions}
pub use Rattle.enf_run.specs.meaning.LogRuns.{SaysActionsInPart, Seen, TookLog, seen_of}
pub use Rattle.enf_run.specs.meaning.Outcomes.{AsksToAudit, AuditsLog, ComesToStatus, DueOf, Dues, FindsVerdict, GaveNothing, GivesCheckText, GivesFor, GivesLog, GivesNoVerdict, IsAuditable}
pub use Rattle.enf_run.specs.meaning.Outcomes.{OutcomeOf, RefusedOf, RefusesAudited, RefusesWords, RunOutcome, SaysVerdict, SaysVerdictInPart, check_text, horizon_line, mark_line, numbered_role_line}
pub use Rattle.enf_run.specs.meaning.Outcomes.{role_line, role_lines, rule_lines, trace_log, verdict_line}
pub use Rattle.enf_run.specs.meaning.Readings.{ReadsLog, AcceptsRecords, Exchanged, IsExchange, IsFallingRecord, IsOwedInAll, IsOwedSoFar, IsReadBegun, IsRestRefusedAs, LogEndsAs, LogReading}
pub use Rattle.enf_run.specs.meaning.Readings.{LogSetting, ReadsLogToEnd, TakenLog, UpToDate, clock_behind, enforced_from, input_log, most_read_bytes, policy_of, reading_of, taken_counts, taken_log}
pub use Rattle.enf_run.specs.meaning.Reports.{AddsPart, AddsOrHolds, AddsOrNothing, IsPart, IsReported, RefusesRun, RunsOutInLine, RunsOutOfMemory, SaysDrillLine, SaysDrillOrNothing, drill_line}
pub use Rattle.enf_run.specs.meaning.Reports.{is_system, none_more, refusal_status, tally_of, text_of_record_refusal, text_of_refusal, text_of_signature}
pub use Rattle.enf_run.specs.meaning.Sources.{AreBytesHeld, AreBytesUnder, AsksPolicy, AsksRefusedFile, AsksRefusedPolicy, AsksRefusedSignature, FailsToRead, HoldsStart, HoldsState, IsBounds}
pub use Rattle.enf_run.specs.meaning.Sources.{IsRefusedPolicy, IsRefusedSignature, IsRefusedState, IsStartOf, IsWholeLog, MeetsReadFault, MeetsRefusedRecord, MeetsWriteFault, MissesFile, ReadsPolicy}
pub use Rattle.enf_run.specs.meaning.Sources.{RefusesPolicyFile, RefusesSignatureFile, RunsOutBefore, SpellsPolicy, SpellsRefusedPolicy, SpellsSignature, TellBytes, state_bounds, taken_between}
pub use Rattle.enforce_types.specs.declared.refusals.Refusal.TheVariants.{NotEnforceable}
pub use Rattle.enforce_types.specs.declared.refusals.TypeRefusal.{TypeRefusal}
pub use Rattle.enforce_types.specs.machine.PolicyLaws.{AcceptedIsNotRefused, OnePlans, PlansAreWellFormed}
pub use Rattle.enforce_types.specs.machine.TypedPolicies.{StoredTyped, WorkTogether, typed_of}
pub use Rattle.enforce_types.specs.machine.VariableSorts.{TraceFits}
pub use Rattle.enforce_types.specs.meaning.Elab.{ArePlanned, ImplicationAnswer, IsAccepted, IsGuardFor, OverOne, OverTwo, is_causable, is_suppressible, renumber_all}
pub use Rattle.enforce_types.specs.meaning.PolicyRefusals.{IsTyped, RefusesPolicy, Typed}
pub use Rattle.enforcer_core.specs.declared.steps.StepOut.{StepOut}
pub use Rattle.enforcer_core.specs.machine.Answers.{IsNewEnforcer}
pub use Rattle.enforcer_core.specs.machine.Course.{Course}
pub use Rattle.enforcer_core.specs.machine.EnforcerLaws.{EnforcerLaws}
pub use Rattle.enforcer_core.specs.machine.EnforcerSteps.{EnforcerDrains, EnforcerTakes}
pub use Rattle.enforcer_core.specs.machine.Enforcers.{Enforcing, enforcer_plans, policy_plans}
pub use Rattle.enforcer_core.specs.machine.ExistenceLaws.{IsJustOne}
pub use Rattle.enforcer_core.specs.machine.LawfulChanges.{Permits}
pub use Rattle.enforcer_core.specs.machine.Laws.{FollowsFitsSignature}
pub use Rattle.enforcer_core.specs.machine.MadeSteps.{acted_step, acted_steps}
pub use Rattle.enforcer_core.specs.machine.SnapshotLaws.{KeptCanBeTakenUp, SavedKeepsBounds}
pub use Rattle.enforcer_core.specs.machine.Snapshots.{CanBeTakenUp, IsTakenUpFrom, SavesTrace, StandsAgain, policy_operators}
pub use Rattle.enforcer_core.specs.machine.Stands.{Stands}
pub use Rattle.enforcer_core.specs.meaning.FollowsPolicy.{FollowsPolicy, FollowsToEnd}
pub use Rattle.enforcer_core.specs.meaning.JustifiedByPolicy.{IsJustifiedByPolicy}
pub use Rattle.formula_reader.proofs.RoundTrip.{answer_of_rules, rules_of_answer}
pub use Rattle.formula_reader.specs.machine.CallAnswers.{CallGivesPolicy, GivesPolicyAnswer}
pub use Rattle.formula_reader.specs.machine.Laws.{ReadIsWellFormed}
pub use Rattle.formula_reader.specs.machine.StoredRules.{policy_rules_of, rule_of, stored_rule_formulas}
pub use Rattle.formula_reader.specs.meaning.PolicyAnswers.{IsPolicyAnswer}
pub use Rattle.formula_reader.specs.meaning.Resolution.{Rule}
pub use Rattle.formula_reader.specs.meaning.RuleText.{rule_text}
pub use Rattle.log_gen.proofs.StepLaws.{early, records_more}
pub use Rattle.log_gen.proofs.TextLaws.{text_begins, text_more}
pub use Rattle.log_gen.specs.machine.Generators.{AnswersStep, Progress, generated_line}
pub use Rattle.log_gen.specs.machine.SampleTexts.{policy_text}
pub use Rattle.log_gen.specs.meaning.GeneratedLogs.{drawn_events, event_count, first_draw, generated, generated_records, generated_step, generated_text}
pub use Rattle.log_gen.specs.meaning.Samples.{of_u, sample_entries, sample_rules, u}
pub use Rattle.log_stream.proofs.LogLaws.{BeginsWithRecord-append, BeginsWithRecord-shorter, IsPending-blanks, RefusesFront-append, SpellsRecords-append, SpellsRecords-blanks, SpellsRecords-none}
pub use Rattle.log_stream.proofs.LogLaws.{SpellsRecords-push, behind-append, behind-shorter, behind_more, end_stays}
pub use Rattle.log_stream.proofs.OneLog.{ok_is, ok_not_err}
pub use Rattle.log_stream.specs.declared.items.Found.TheVariants.{Item}
pub use Rattle.log_stream.specs.declared.items.LogItem.{LogItem}
pub use Rattle.log_stream.specs.declared.items.LogMode.{LogMode}
pub use Rattle.log_stream.specs.declared.items.LogMode.TheVariants.{Input, TraceLog}
pub use Rattle.log_stream.specs.declared.items.LogRefusal.{LogRefusal}
pub use Rattle.log_stream.specs.declared.items.LogRefusal.TheVariants.{Arity, SortClash, TimeTooLarge, UnknownName}
pub use Rattle.log_stream.specs.declared.scanning.Scan.TheVariants.{Outside}
pub use Rattle.log_stream.specs.machine.LogReaders.{Reader, ReadsNext, RefusesOnce, fed}
pub use Rattle.log_stream.specs.meaning.LogGrammar.{BeginsWithRecord, EndsBy, HasRecord, IsLog, IsPending, IsRecordAnswer, IsTruncated, Line, RefusesFront, SpellsRecords, TickLine, WrittenArgument}
pub use Rattle.log_stream.specs.meaning.LogGrammar.{WrittenEvent, argument_clash, argument_values, behind_blanks, entry_of_name, event_from_written, event_refusal, event_refusal_by}
pub use Rattle.log_stream.specs.meaning.LogGrammar.{events_from_written, first_event_refusal, judged_step, line_of, record_bytes, record_length, spelled_step, text_of, with_event_put, with_events_put}
pub use Rattle.monitorable_guard.specs.machine.Guards.{BoundFormula}
pub use Rattle.monitorable_guard.specs.meaning.Safety.{IsTest}
pub use Rattle.obligations.specs.declared.actions.Action.{Action}
pub use Rattle.obligations.specs.declared.instances.Instance.{Instance}
pub use Rattle.obligations.specs.declared.literals.LiteralKind.{LiteralKind}
pub use Rattle.obligations.specs.declared.literals.LiteralKind.TheVariants.{Cause, Suppress}
pub use Rattle.obligations.specs.machine.TraceLaws.{PendCanBePending}
pub use Rattle.obligations.specs.machine.UniquenessLaws.{PendIsOne}
pub use Rattle.obligations.specs.meaning.Pending.{IsReady, NoneIsOver}
pub use Rattle.obligations.specs.meaning.PendingBounds.{CanBePending}
pub use Rattle.past_state.specs.declared.kept_rows.KeptRow.{KeptRow}
pub use Rattle.past_state.specs.machine.Guards.{tree_in}
pub use Rattle.past_state.specs.meaning.KeptRows.{IsLastTime, all_operators}
pub use Rattle.past_state.specs.meaning.RowBounds.{AreWithinBounds, HaveTime, IsFrom, IsKeepable, IsTimely}
pub use Rattle.plan_terms.proofs.NodeLemmas.{itself}
pub use Rattle.plan_terms.specs.machine.GuardProperties.{guards_of}
pub use Rattle.plan_terms.specs.machine.StoredPlans.{formulas_for, plan_of}
pub use Rattle.plan_terms.specs.meaning.Plans.{Plan, all_guards, guard_triggers, nodes}
pub use Rattle.plan_terms.specs.machine.WellFormed.{IsScopedPlan, AreWellFormed, IsWellFormed}
pub use Rattle.rank_check.proofs.PlanLemmas.{deeper}
pub use Rattle.rank_check.specs.declared.rank_answers.Role.{Role}
pub use Rattle.rank_check.specs.meaning.AcceptedPlans.{AreAccepted, Edge, EdgesLead, IsCauseNode, IsOnCycle, IsPath, IsStart, IsUntriggered, begun_later, below, is_transparent, needs_trigger}
pub use Rattle.rank_check.specs.meaning.AcceptedPlans.{path_triggers}
pub use Rattle.rank_check.specs.meaning.Ranked.{role_in}
pub use Rattle.save_codec.specs.declared.lines.Line.TheVariants.{End, Position}
pub use Rattle.save_codec.specs.declared.snapshots.Snapshot.{Snapshot}
pub use Rattle.save_codec.specs.machine.Laws.{OneSaveAnswer, OneState, OneText}
pub use Rattle.save_codec.specs.machine.ResumeAnswers.{AnswersSave, IsSettingOf}
pub use Rattle.save_codec.specs.machine.StoredStates.{HasSmallNumbers}
pub use Rattle.save_codec.specs.meaning.SaveRefusals.{IsSaveRefusal}
pub use Rattle.save_codec.specs.meaning.SavedBounds.{KeepsBounds, SaveSetting, clock_behind_line}
pub use Rattle.save_codec.specs.meaning.SavedTexts.{AreLines, IsSmallNumber, IsSmallTime, IsSnapshotOf, IsTextOfLines, LinesFollow, due_line, lines_of, row_line, saved_text}
pub use Rattle.signature.proofs.SignatureLaws.{has_sort-sort, same_signature_answer}
pub use Rattle.signature.specs.declared.entries.NameEntry.{NameEntry}
pub use Rattle.signature.specs.declared.entries.Sort.{Sort}
pub use Rattle.signature.specs.machine.Entries.{FillColumns, FitsSignature}
pub use Rattle.signature.specs.machine.Laws.{OneSignatureAnswer}
pub use Rattle.signature.specs.meaning.Columns.{has_sort}
pub use Rattle.signature.specs.meaning.Grammar.{entry_names, name_number}
pub use Rattle.signature.specs.meaning.Refusals.{AnswersSignature}
pub use Rattle.trace_audit.specs.declared.verdicts.Verdict.TheVariants.{Fails, Holds}
pub use Rattle.trace_audit.specs.machine.Auditors.{Auditing, Audits, audited_rules}
pub use Rattle.trace_audit.specs.machine.Laws.{VerdictIsOfPolicy, VerdictIsOne}
pub use Rattle.trace_audit.specs.meaning.Verdicts.{IsVerdict}
pub use Rattle.trace_meaning.proofs.RecordLaws.{recorded_join, records_changed_join}
pub use Rattle.trace_meaning.specs.declared.kinds.StepKind.{StepKind}
pub use Rattle.trace_meaning.specs.declared.kinds.StepKind.TheVariants.{Inserted, System}
pub use Rattle.trace_meaning.specs.machine.Laws.{ClockRises, FrontIsGood, GoodIsTrace, LastIsTheNew, SatisfyingIsGood, TraceGrows}
pub use Rattle.trace_meaning.specs.machine.Enforced.{GoodPrefix}
pub use Rattle.trace_meaning.specs.meaning.Traces.{AreChangedTo, AreInOrder, Good, IsInsertedLawfully, IsLaterThan, IsUntil, IsWithin, Lawful, NeverFall, OutStep, Record, Satisfies, Start, StepRecord}
pub use Rattle.trace_meaning.specs.meaning.Traces.{Tick, clock_after, event_of, from_nothing, last_time, most_time, onto_system, recorded, start_behind, system_steps, time_of, trace_of}
