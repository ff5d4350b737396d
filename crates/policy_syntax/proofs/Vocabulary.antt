-- The words in which the proofs of this crate speak: those of std, of the crates below and of its own specs.
pub use Rattle.std.proofs.Common.{Bool, Bor, Contains, Err, IfSome, IsTrue, List, None, Ok, Option, Result, Some, [], ap, append_assoc, arith, codes, cond, false, if◌then◌else◌, inl, inr, length}
pub use Rattle.std.proofs.Common.{length-append, map, nat_le, nat_lt, negsuc, pos, refl, reverse, subst, suc, sym, true, true≢false, zero, ℕ, ⊎_elim, ◌&&◌, ◌*◌, ◌++◌, ◌+◌, ◌-◌, ◌<◌, ◌^◌, ◌||◌, ◌↔◌}
pub use Rattle.std.proofs.Common.{◌∙◌, ◌∷◌, ◌≡◌, ◌≢◌, ◌≤◌, ◌⊎◌}
pub use Rattle.std.proofs.lemmas.Bool.{and_parts, or_cases, or_left, or_parts, or_right}
pub use Rattle.std.proofs.lemmas.Bool.Decides.{nat_tests}
pub use Rattle.std.proofs.lemmas.Grind.{common_steps}
pub use Rattle.std.proofs.lemmas.List.{append-nil, length-map, reverse-append}
pub use Rattle.std.proofs.lemmas.List.Folds.{list_any-append}
pub use Rattle.std.proofs.lemmas.Result.{err_from_is_err_and}
pub use Rattle.std.proofs.lemmas.Slice.Eq.{bytes_eq-Decides}
pub use Rattle.std.specs.List.{AllByRecursion, list_any}
pub use Rattle.std.specs.Result.{IfErr, IsErrAnd}
pub use Rattle.std.specs.Str.{bytes_eq}
pub use Rattle.enf_data.proofs.ListFacts.{if_ok_map, le_from_true, lt_from_true, true_from_le, true_from_lt}
pub use Rattle.enf_data.proofs.Lists.{HasNoRepeats-middle, HasNoRepeats-push, list_any-Decides}
pub use Rattle.enf_data.specs.declared.intervals.Interval.{Interval}
pub use Rattle.enf_data.specs.declared.limits.TheConstants.{MOST_NAME_BYTES}
pub use Rattle.enf_data.specs.declared.values.Value.{Value}
pub use Rattle.enf_data.specs.meaning.Membership.{HasNoRepeats}
pub use Rattle.enf_value.specs.declared.tokens.Mark.{Mark}
pub use Rattle.enf_value.specs.declared.tokens.PlacedToken.{PlacedToken}
pub use Rattle.enf_value.specs.machine.TokenCuts.{AreCut}
pub use Rattle.enf_value.specs.machine.TokenViews.{IsProper, placed_of, token_of}
pub use Rattle.enf_value.specs.meaning.FirstRefusal.{IsFirstReaderRefusal}
pub use Rattle.enf_value.specs.meaning.Tokens.{Token, is_word, tokens, tokens_at}
pub use Rattle.policy_syntax.specs.declared.lexemes.Sign.TheVariants.{Equal}
pub use Rattle.policy_syntax.specs.declared.lexemes.Symbol.TheVariants.{And, Arrow, CloseBracket, CloseParen, Colon, Comma, Dot, Not, OpenBracket, OpenParen, Or, Rule, Semicolon, Star}
pub use Rattle.policy_syntax.specs.declared.limits.TheConstants.{MOST_INTERVAL_END, MOST_LEVEL, MOST_NODES, MOST_RULES, MOST_VARIABLES}
pub use Rattle.policy_syntax.specs.declared.parts.Depth.{Depth}
pub use Rattle.policy_syntax.specs.declared.parts.Parts.{Parts}
pub use Rattle.policy_syntax.specs.declared.refusals.SyntaxRefusal.{SyntaxRefusal}
pub use Rattle.policy_syntax.specs.declared.refusals.SyntaxRefusal.TheVariants.{Limit, NoMemory, Syntax}
pub use Rattle.policy_syntax.specs.declared.trees.Binding.{Binding}
pub use Rattle.policy_syntax.specs.declared.trees.SyntaxFormula.{SyntaxFormula}
pub use Rattle.policy_syntax.specs.declared.trees.SyntaxPolicy.{SyntaxPolicy}
pub use Rattle.policy_syntax.specs.declared.trees.SyntaxRule.{SyntaxRule}
pub use Rattle.policy_syntax.specs.declared.trees.SyntaxTerm.{SyntaxTerm}
pub use Rattle.policy_syntax.specs.machine.Automaton.{AndTail, ArrowTail, AutomatonState, BehindArgument, BehindConstant, BehindName, BehindVariable, BoundVariable, CloseInterval, FirstArgument}
pub use Rattle.policy_syntax.specs.machine.Automaton.{FirstEnd, InfixTail, IntervalComma, ItemKind, MoreRules, NextArgument, OpenInterval, Operand, OrTail, ParenthesisEnd, RightSide, RuleColon}
pub use Rattle.policy_syntax.specs.machine.Automaton.{RuleEnd, RuleName, SecondEnd, Stack, StackItem, accepts, and_on, automaton_state, automaton_step, formula_on, infix_on, is_beyond, is_optional}
pub use Rattle.policy_syntax.specs.machine.Automaton.{is_over, is_wrong, limit_place, names_after, nodes_after, offer, offered, or_on, settle, skips, stack_item, start_stack, then_judged}
pub use Rattle.policy_syntax.specs.machine.BareTrees.{bare_binding, bare_rule, bare_syntax_tree, bare_term}
pub use Rattle.policy_syntax.specs.machine.CallAnswers.{CallGivesSyntax, GivesSyntaxAnswer, syntax_answer_of}
pub use Rattle.policy_syntax.specs.machine.Cases.{case_binding, with_name, with_nots}
pub use Rattle.policy_syntax.specs.machine.Cursor.{Ahead, IsInRange, behind_next, is_constant, is_end_lexeme, lexeme_ahead, lexeme_of, next_place}
pub use Rattle.policy_syntax.specs.machine.PartOutcomes.{Bars, BarsSymbol, JudgesRule, ReadsPart, end_refusal, judge_from, level_refusal, name_lexeme_refusal, next_lexeme_of, next_place_of}
pub use Rattle.policy_syntax.specs.machine.PartOutcomes.{node_refusal, term_refusal}
pub use Rattle.policy_syntax.specs.machine.PhraseReading.{AndRead, ArgumentsRead, FormulaRead, InfixRead, IntervalRead, IsConstantLexeme, IsLexemeTaken, OrRead, PrimaryRead, RuleRead, TermRead}
pub use Rattle.policy_syntax.specs.machine.PhraseReading.{TermsRead, UnaryRead, VariablesRead, begins_inner, has_name, is_name_of, syntax_rule_names}
pub use Rattle.policy_syntax.specs.machine.StoredTrees.{policy_rule_of, syntax_tree_of}
pub use Rattle.policy_syntax.specs.machine.WrittenTrees.{AreLow, AreWritableVariables, HasLexemeLevels, IsRuleReadAgain, IsWritable, IsWritableEnd, IsWritableInterval, IsWritableName, IsWritableRule}
pub use Rattle.policy_syntax.specs.machine.WrittenTrees.{IsWritableTerm, Leveled, enclosed_lexemes, formula_written, interval_written, kinds_written, level_of, levels_of, list_written, rule_written}
pub use Rattle.policy_syntax.specs.machine.WrittenTrees.{term_written, tree_stands_alone, variable_written}
pub use Rattle.policy_syntax.specs.meaning.Grammar.{AndFits, FormulaFits, InfixFits, IsPolicyText, LexemeStep, OrFits, PolicyFits, PolicyRead, PrimaryFits, RuleFits, UnaryFits, and_fold}
pub use Rattle.policy_syntax.specs.meaning.Grammar.{arguments_fold, bound, end_lexeme, formula_fold, infix_fold, interval_fold, or_fold, policy_fold, policy_tree, primary_fold, rule_fold}
pub use Rattle.policy_syntax.specs.meaning.Grammar.{scope_behind, some_terms_fold, spell, term_fold, term_lexeme, term_place, terms_fold, unary_fold, variables_fold}
pub use Rattle.policy_syntax.specs.meaning.Lexemes.{DigitsLexeme, End, Infix, NameLexeme, NegativeLexeme, Other, PlacedLexeme, PolicyLexeme, Prefix, Quantifier, Sign, Symbol, TextLexeme, Truth}
pub use Rattle.policy_syntax.specs.meaning.Lexemes.{infix_of, lexeme_of_infix, lexeme_of_mark, lexeme_of_prefix, lexeme_of_quantifier, lexeme_of_symbol, lexeme_of_token, lexeme_of_truth}
pub use Rattle.policy_syntax.specs.meaning.Lexemes.{lexeme_of_word, lexemes, lexemes_at, next_lexeme, prefix_of, quantifier_of, symbol_of, truth_of}
pub use Rattle.policy_syntax.specs.meaning.Phrases.{AndPhrase, ArgumentsPhrase, Before, Between, Comparison, Conjunction, Constant, Disjunction, Event, FormulaPhrase, Implication, InfixPhrase}
pub use Rattle.policy_syntax.specs.meaning.Phrases.{IntervalPhrase, LastTerm, LastVariable, Minus, Negation, NextTerm, NextVariable, OneCase, OneOperand, OnePart, OneSide, OrPhrase, Parenthesis}
pub use Rattle.policy_syntax.specs.meaning.Phrases.{Plain, Primary, PrimaryPhrase, Quantified, Quoted, RulePhrase, TermPhrase, TermsPhrase, UnaryPhrase, Variable, VariablesPhrase, and_tree}
pub use Rattle.policy_syntax.specs.meaning.Phrases.{binary_tree, formula_tree, infix_tree, interval_of, or_tree, prefix_tree, primary_tree, quantifier_tree, sign_tree, some_terms_list, term_tree}
pub use Rattle.policy_syntax.specs.meaning.Phrases.{terms_list, truth_tree, unary_tree, variables_list}
pub use Rattle.policy_syntax.specs.meaning.Refusals.{CanBeginPolicy, Deep, IsBehindName, IsDeep, IsPolicySentence, IsSyntaxAnswer, IsSyntaxFault, IsUsed, PassesLimit, RefusesLexeme, deepen}
pub use Rattle.policy_syntax.specs.meaning.Refusals.{ends_in_name, is_below_first, is_operator, is_rule, kinds_behind, nodes_behind, rule_names, rules_behind, wants_end}
pub use Rattle.policy_syntax.specs.meaning.Trees.{AlwaysTree, AndTree, AtMostTree, AtomTree, EndsFit, EqualTree, EventuallyTree, ExistsTree, FalseTree, ForallTree, HistoricallyTree, ImpliesTree}
pub use Rattle.policy_syntax.specs.meaning.Trees.{IsBounded, IsPolicy, IsRule, IsShortName, IsShortTerm, KeepsLimits, LessTree, NextTree, NotTree, OnceTree, OrTree, PolicyRule, PrevTree, SinceTree}
pub use Rattle.policy_syntax.specs.meaning.Trees.{SyntaxTree, TrueTree, UntilTree, tree_size}
