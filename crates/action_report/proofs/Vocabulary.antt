-- The words in which the proofs of this crate speak: those of std, of the crates below and of its own specs.
pub use Rattle.std.proofs.Common.{All, Bool, Bor, Contains, Err, IfNone, IfOk, IsTrue, List, MatchResult, None, Ok, Option, Result, Some, [], ap, append_assoc, arith, codes, cond, decimal, false}
pub use Rattle.std.proofs.Common.{length, map, refl, rules, slice_get, slice_index, slice_index_or, subst, suc, sym, take, true, zero, zero-add, ℕ, ◌&&◌, ◌++◌, ◌+◌, ◌<◌, ◌^◌, ◌∙◌, ◌∷◌, ◌≡◌, ◌≤◌}
pub use Rattle.std.proofs.lemmas.Bool.Decides.{Decides-eqb, nat_tests}
pub use Rattle.std.proofs.lemmas.Fmt.{IsAscii-from_digits, decimal_digit, decimal_is_IsNumeral, parse-decimal}
pub use Rattle.std.proofs.lemmas.List.{map-append}
pub use Rattle.std.proofs.lemmas.List.Sums.{take_while-cons}
pub use Rattle.std.proofs.lemmas.Map.Keys.{sorted_head, sorted_tail}
pub use Rattle.std.proofs.lemmas.Option.{get_or_from_slice_get, slice_get-map, slice_get_within}
pub use Rattle.std.proofs.lemmas.Result.{MatchResult-at_ok}
pub use Rattle.std.proofs.lemmas.Slice.Eq.{bytes_eq-Decides, strip_prefix_is}
pub use Rattle.std.proofs.lemmas.Str.{IsUtf8-from_ascii}
pub use Rattle.std.specs.Char.{digit_value, is_ascii_digit}
pub use Rattle.std.specs.FinMap.Entries.{by_order, find, put}
pub use Rattle.std.specs.List.{AllByRecursion, flat_map, list_all, position, take_while}
pub use Rattle.std.specs.List.Sorted.{IsStrictlySortedBy}
pub use Rattle.std.specs.Option.{option_map}
pub use Rattle.std.specs.Ordering.{is_eq, ordering_reverse}
pub use Rattle.std.specs.Result.{result_ok}
pub use Rattle.std.specs.Str.{IsUtf8, bytes_eq}
pub use Rattle.std.specs.Str.Parse.{digits_value}
pub use Rattle.std.specs.declared.cmp.Ordering.TheVariants.{Greater, Less}
pub use Rattle.action_report.specs.machine.Cases.{report_case_a}
pub use Rattle.action_report.specs.machine.Laws.{OneActionOfLine}
pub use Rattle.action_report.specs.machine.LineParts.{AddsBindings, EndsWord, IsColumnValue, IsRising, IsRuleNamedOnce, cause_of_action, marked_values}
pub use Rattle.action_report.specs.machine.ReportedActions.{BindsJust, StandIn}
pub use Rattle.action_report.specs.meaning.ReportLines.{action_line, binding_text, bindings_text, cause_text, kind_text, labelled, rule_name, rule_variable_names, when_text}
pub use Rattle.enf_data.proofs.ListFacts.{all_at_middle, behind_front, cancel_front, ok_some, on_err_from}
pub use Rattle.enf_data.proofs.Lists.{position-cons}
pub use Rattle.enf_data.proofs.ValuationFacts.{nothing_bound, nothing_rises}
pub use Rattle.enf_data.proofs.ValuationLaws.{variable_cmp_total}
pub use Rattle.enf_data.specs.declared.events.Event.{Event}
pub use Rattle.enf_data.specs.declared.events.NameId.{NameId}
pub use Rattle.enf_data.specs.declared.terms.VarId.{VarId}
pub use Rattle.enf_data.specs.declared.values.Value.{Value}
pub use Rattle.enf_data.specs.declared.values.Value.TheVariants.{Num, Text}
pub use Rattle.enf_data.specs.meaning.Membership.{HasNoRepeats}
pub use Rattle.enf_data.specs.meaning.Valuations.{Valuation, bindings, no_values, value_at, variable_cmp}
pub use Rattle.enf_data.specs.meaning.Values.{IsValue}
pub use Rattle.enf_value.proofs.AppendedParts.{none_last, part_behind, part_first, part_last, part_none, part_of_items}
pub use Rattle.enf_value.proofs.Shapes.{digits_pass}
pub use Rattle.enf_value.proofs.ValueTokenLaws.{one_value}
pub use Rattle.enf_value.specs.machine.Laws.{OneTokenAtPlace, PrintedIsToken}
pub use Rattle.enf_value.specs.machine.ValueCalls.{AppendsPart}
pub use Rattle.enf_value.specs.meaning.Tokens.{EndsBefore, IsNoDigit, is_name, is_word, is_word_byte, is_word_start, spelled}
pub use Rattle.formula_reader.specs.machine.StoredRules.{policy_rules_of, rule_of}
pub use Rattle.formula_reader.specs.machine.WellFormedPolicies.{IsWellFormedPolicy, IsWellFormedRule}
pub use Rattle.formula_reader.specs.meaning.Resolution.{Rule, variable_text}
pub use Rattle.log_stream.specs.machine.StepLimits.{FitColumns, IsDeclared}
pub use Rattle.log_stream.specs.meaning.LogGrammar.{spelled_event, spelled_row}
pub use Rattle.obligations.specs.declared.actions.Action.{Action}
pub use Rattle.obligations.specs.declared.literals.LiteralKind.{LiteralKind}
pub use Rattle.obligations.specs.declared.literals.LiteralKind.TheVariants.{Cause, Suppress}
pub use Rattle.plan_terms.specs.machine.Laws.{FoundHasRisingScope}
pub use Rattle.plan_terms.specs.machine.NamedNodes.{scope_at}
pub use Rattle.plan_terms.specs.machine.StoredPlans.{plan_of}
pub use Rattle.plan_terms.specs.meaning.Plans.{Plan}
pub use Rattle.plan_terms.specs.machine.WellFormed.{IsScopedPlan}
pub use Rattle.plan_terms.specs.meaning.Scopes.{scoped_at}
pub use Rattle.signature.proofs.SignatureLaws.{number_only}
pub use Rattle.signature.specs.declared.entries.NameEntry.{NameEntry}
pub use Rattle.signature.specs.declared.entries.Sort.{Sort}
pub use Rattle.signature.specs.meaning.Grammar.{IsNameEntry, IsSignature, entry_names}
pub use Rattle.valuations.specs.machine.Bindings.{with_value}
