-- The words in which the proofs of this crate speak: those of std, of the crates below and of its own specs.
pub use Rattle.std.proofs.Common.{Bool, Contains, Err, IfOk, IsErrAnd, List, None, Ok, OnErr, Option, Result, Some, [], add-one, ap, append_assoc, arith, codes, cond, decimal, drop, drop-cons, eqb}
pub use Rattle.std.proofs.Common.{false, get_or, inl, inr, length, lit≤, map, max, negsuc, not, pos, refl, rules, slice_get, slice_index_or, subst, suc, sym, take, true, true≢false, zero, ℕ, ⊎_elim}
pub use Rattle.std.proofs.Common.{◌&&◌, ◌*◌, ◌++◌, ◌+◌, ◌-◌, ◌<◌, ◌==◌, ◌||◌, ◌∙◌, ◌∷◌, ◌≡◌, ◌≢◌, ◌≤◌}
pub use Rattle.std.proofs.Math.Seq.{take-append_seam}
pub use Rattle.std.proofs.lemmas.Bool.Decides.{eqb_tells, nat_tests}
pub use Rattle.std.proofs.lemmas.Grind.{common_steps}
pub use Rattle.std.proofs.lemmas.List.{append-nil, get_or-set_other, get_or-set_same, length-append, length-map, length-set, map-append, take-append-drop, take_all}
pub use Rattle.std.proofs.lemmas.List.Concat.{flat_map-append}
pub use Rattle.std.proofs.lemmas.Option.{slice_get_within}
pub use Rattle.std.proofs.lemmas.Slice.Eq.{bytes_eq-Decides}
pub use Rattle.std.specs.Char.{is_ascii_digit}
pub use Rattle.std.specs.Cmp.{nat_cmp_is}
pub use Rattle.std.specs.List.{AllByRecursion, flat_map, list_any}
pub use Rattle.std.specs.Option.{option_and_then, option_map, option_or, option_to_list, unwrap_or}
pub use Rattle.std.specs.Prelude.{IsTrue}
pub use Rattle.std.specs.Str.{bytes_eq}
pub use Rattle.enf_data.proofs.ListFacts.{drop_at_item, on_err_from}
pub use Rattle.enf_data.proofs.Lists.{position-cons}
pub use Rattle.enf_data.specs.declared.events.NameId.{NameId}
pub use Rattle.enf_data.specs.declared.intervals.Interval.{Interval}
pub use Rattle.enf_data.specs.declared.terms.Term.{Term}
pub use Rattle.enf_data.specs.declared.terms.Term.TheVariants.{Const, Var}
pub use Rattle.enf_data.specs.declared.terms.VarId.{VarId}
pub use Rattle.enf_data.specs.declared.values.Value.TheVariants.{Num}
pub use Rattle.enf_data.specs.meaning.Membership.{HasNoRepeats}
pub use Rattle.enf_data.specs.meaning.Valuations.{variable_cmp}
pub use Rattle.enf_formula.proofs.VariableLaws.{new_apart, scoped_closed, scoped_fresh}
pub use Rattle.enf_formula.specs.machine.FormulaViews.{tree_of}
pub use Rattle.enf_formula.specs.machine.Variables.{IsScopedFormula, bound_variables, numbered_variables}
pub use Rattle.enf_formula.specs.machine.FormulaShape.{AreNewVariables, AreTermsInScope, IsTermInScope, formula_size}
pub use Rattle.enf_formula.specs.meaning.Satisfaction.{Always, And, AtMost, Atom, Equal, Eventually, Exists, False, Forall, Formula, Historically, Implies, Less, Next, Not, Once, Or, Prev, Since}
pub use Rattle.enf_formula.specs.meaning.Satisfaction.{True, Until}
pub use Rattle.enf_value.proofs.AppendedParts.{none_last, part_behind, part_first, part_last, part_none}
pub use Rattle.enf_value.proofs.SpellingLaws.{spelling-value}
pub use Rattle.enf_value.specs.declared.tokens.Mark.{Mark}
pub use Rattle.enf_value.specs.machine.Laws.{PrintedIsCut}
pub use Rattle.enf_value.specs.machine.PrintedTokens.{AreApart, StopsBefore, goes_on_with_mark, placed_from, printed_tokens, token_spelling}
pub use Rattle.enf_value.specs.machine.TokenViews.{IsProper}
pub use Rattle.enf_value.specs.machine.ValueCalls.{AppendsPart}
pub use Rattle.enf_value.specs.meaning.Tokens.{NumberToken, SymbolToken, Token, begins_with, is_reserved, is_word, is_word_byte, mark_text, piece_at, reserved, tokens, tokens_from}
pub use Rattle.formula_reader.specs.declared.policies.Policy.{Policy}
pub use Rattle.formula_reader.specs.declared.policies.PolicyRefusal.{PolicyRefusal}
pub use Rattle.formula_reader.specs.declared.policies.PolicyRefusal.TheVariants.{Arity, FreeVariable, Limit, NoMemory, Rebound, SortClash, Syntax, UnknownName}
pub use Rattle.formula_reader.specs.declared.variables.Variables.{Variables}
pub use Rattle.formula_reader.specs.machine.BareRules.{bare_refusal, bare_resolved, bare_tree}
pub use Rattle.formula_reader.specs.machine.CallAnswers.{CallGivesPolicy, GivesPolicyAnswer, GivesResolutionAnswer, policy_answer_of}
pub use Rattle.formula_reader.specs.machine.Cases.{variable_id}
pub use Rattle.formula_reader.specs.machine.Laws.{ReadIsWellFormed}
pub use Rattle.formula_reader.specs.machine.PointPasses.{BindsQuantified, IsFreshVariables, IsRefusedPass, PassesPoints, VariableSorts, body_in, both_in, fill, known_in, pass, passed_on}
pub use Rattle.formula_reader.specs.machine.PointPasses.{points_of_both, points_of_bound, sorts_behind, with_sort}
pub use Rattle.formula_reader.specs.machine.PrintedOperators.{operand_text, operator_text}
pub use Rattle.formula_reader.specs.machine.RefusalPlaces.{IsLeastInRules, PlacesRise, RefusalStands, StandsInRules, place_of_point, refusal_place}
pub use Rattle.formula_reader.specs.machine.RoundTrip.{IsOfText, IsReadAs, text_levels}
pub use Rattle.formula_reader.specs.machine.StoredRules.{policy_rules_of, rule_of}
pub use Rattle.formula_reader.specs.machine.TextPieces.{IsEndText, IsFormulaText, IsIntervalText, IsRuleText, IsTermText, PrintedPiece, blank_piece, comparison_pieces, enclosed_pieces, end_piece}
pub use Rattle.formula_reader.specs.machine.TextPieces.{formula_pieces, infix_pieces, interval_pieces, mark_piece, prefix_pieces, quantified_pieces, rule_pieces, separated_pieces, term_piece}
pub use Rattle.formula_reader.specs.machine.TextPieces.{word_piece}
pub use Rattle.formula_reader.specs.machine.WellFormedPolicies.{IsName, IsPolicyFormula, IsWellFormedPolicy, IsWellFormedRule, arity_of}
pub use Rattle.formula_reader.specs.machine.WrittenBack.{binding_back, formula_back, plain_rule, plain_tree, rule_back, term_back}
pub use Rattle.formula_reader.specs.meaning.PolicyAnswers.{FollowsFirstPass, IsPolicyAnswer, IsResolutionAnswer, of_first_pass}
pub use Rattle.formula_reader.specs.meaning.Resolution.{Binder, EventName, NoSortWanted, Point, Rule, SortOf, ThisSort, Use, Wanted, argument_points, binder_points, binding_names, bound_names}
pub use Rattle.formula_reader.specs.meaning.Resolution.{bound_variables_from, entry_named, formula_in, is_named, name_in, points, rule_in, rule_with, rules_in, syntax_term_place, term_in, terms_in}
pub use Rattle.formula_reader.specs.meaning.Resolution.{use_of, variable_named, variable_numbered, variable_text, with_both}
pub use Rattle.formula_reader.specs.meaning.RuleText.{comparison_text, enclosed_text, end_text, formula_stands_alone, formula_text, infix_text, interval_text, name_text, prefix_text, quantified_text}
pub use Rattle.formula_reader.specs.meaning.RuleText.{rule_text, separated_text, term_text}
pub use Rattle.formula_reader.specs.meaning.SortRefusals.{SpellsRules, binder_refusal, event_name_refusal, first_point_refusal, for_variable, known_after, point_refusal, policy_refusal, rule_refusal}
pub use Rattle.formula_reader.specs.meaning.SortRefusals.{sort_clash, sort_given, sort_of_term, wanted_sort}
pub use Rattle.policy_syntax.specs.declared.limits.TheConstants.{MOST_VARIABLES}
pub use Rattle.policy_syntax.specs.declared.refusals.SyntaxRefusal.{SyntaxRefusal}
pub use Rattle.policy_syntax.specs.declared.trees.Binding.{Binding}
pub use Rattle.policy_syntax.specs.declared.trees.SyntaxTerm.{SyntaxTerm}
pub use Rattle.policy_syntax.specs.declared.trees.SyntaxTerm.TheVariants.{Constant, Variable}
pub use Rattle.policy_syntax.specs.machine.BareTrees.{bare_binding, bare_rule, bare_syntax_tree, bare_term}
pub use Rattle.policy_syntax.specs.machine.Laws.{TextsAreWritable, WrittenHasLevels, WrittenIsRead}
pub use Rattle.policy_syntax.specs.machine.StoredTrees.{policy_rule_of, syntax_tree_of}
pub use Rattle.policy_syntax.specs.machine.WrittenTrees.{AreLow, AreWritableVariables, HasLexemeLevels, IsWritable, IsWritableName, IsWritableRule, IsWritableTerm, Leveled, enclosed_lexemes}
pub use Rattle.policy_syntax.specs.machine.WrittenTrees.{formula_written, interval_written, kinds_written, list_written, rule_written, term_written, tree_stands_alone, variable_written}
pub use Rattle.policy_syntax.specs.meaning.Grammar.{IsPolicyText, end_lexeme, scope_behind, spell, term_lexeme, term_place}
pub use Rattle.policy_syntax.specs.meaning.Lexemes.{DigitsLexeme, Infix, NameLexeme, PlacedLexeme, PolicyLexeme, Prefix, Quantifier, Sign, Symbol, Truth, lexeme_of_token, lexeme_of_word, lexemes}
pub use Rattle.policy_syntax.specs.meaning.Phrases.{AndPhrase, Before, Between, Comparison, Conjunction, Disjunction, Event, FormulaPhrase, Implication, InfixPhrase, IntervalPhrase, LastTerm}
pub use Rattle.policy_syntax.specs.meaning.Phrases.{LastVariable, Minus, Negation, NextTerm, NextVariable, OneCase, OneOperand, OnePart, OneSide, OrPhrase, Parenthesis, Plain, Primary, PrimaryPhrase}
pub use Rattle.policy_syntax.specs.meaning.Phrases.{Quantified, Quoted, RulePhrase, TermPhrase, TermsPhrase, UnaryPhrase, VariablesPhrase}
pub use Rattle.policy_syntax.specs.meaning.Trees.{AlwaysTree, AndTree, AtMostTree, AtomTree, EqualTree, EventuallyTree, ExistsTree, FalseTree, ForallTree, HistoricallyTree, ImpliesTree, IsRule}
pub use Rattle.policy_syntax.specs.meaning.Trees.{IsShortName, KeepsLimits, LessTree, NextTree, NotTree, OnceTree, OrTree, PolicyRule, PrevTree, SinceTree, SyntaxTree, TrueTree, UntilTree, tree_size}
pub use Rattle.signature.proofs.SignatureLaws.{name_at}
pub use Rattle.signature.specs.declared.entries.NameEntry.{NameEntry}
pub use Rattle.signature.specs.declared.entries.Sort.{Sort}
pub use Rattle.signature.specs.declared.entries.Sort.TheVariants.{Int, Text}
pub use Rattle.signature.specs.meaning.Columns.{entry_columns}
pub use Rattle.signature.specs.meaning.Grammar.{name_number}
