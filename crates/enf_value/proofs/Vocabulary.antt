-- The words in which the proofs of this crate speak: those of std, of the crates below and of its own specs.
pub use Rattle.std.proofs.Common.{Bool, Err, FitsSigned, IfNone, IfOk, IsTrue, List, MatchOption, MatchResult, None, Ok, OnErr, Option, Result, Some, [], add-zero, ap, append-nil, append_assoc, ap₂}
pub use Rattle.std.proofs.Common.{arith, cond, decimal, drop, false, get_or, if◌then◌else◌, inl, inr, length, length-append, length-drop, length-take, nat_le, nat_lt, neg_ℤ, negsuc, pos, refl}
pub use Rattle.std.proofs.Common.{slice_index, subst, suc, sym, take, true, true≢false, w64, zero, zero-add, ℕ, ℤ, ◌&&◌, ◌*◌, ◌++◌, ◌+◌, ◌-◌, ◌<◌, ◌==◌, ◌^◌, ◌||◌, ◌∙◌, ◌∷◌, ◌≡◌, ◌≢◌, ◌≤◌, ◌⊎◌}
pub use Rattle.std.proofs.Math.Facts.{to_z-of_z, to_z_pos}
pub use Rattle.std.proofs.Math.ListN.{drop_of_length-le}
pub use Rattle.std.proofs.Math.Seq.{drop-append_seam, drop-cons, take-append-add, take-append_seam}
pub use Rattle.std.proofs.lemmas.Bool.{and_parts, eqb-false, eqb-true, false≢true, or_parts}
pub use Rattle.std.proofs.lemmas.Bool.Decides.{nat_tests}
pub use Rattle.std.proofs.lemmas.Fmt.{IsAscii-from_digits, decimal_digit, decimal_is_IsNumeral, length-decimal-le}
pub use Rattle.std.proofs.lemmas.Int.Digits.{digits_value_more}
pub use Rattle.std.proofs.lemmas.List.{drop-drop, drop_all, get_or-drop, length-take-le, take-append-drop, take-append-le, take-take, take_all, take_min, take_more}
pub use Rattle.std.proofs.lemmas.List.Concat.{flat_map-append}
pub use Rattle.std.proofs.lemmas.List.Folds.{length-prefix_len}
pub use Rattle.std.proofs.lemmas.List.Sums.{take_while-cons}
pub use Rattle.std.proofs.lemmas.Result.{MatchResult-at_ok, Ok-from_Ok_iff, OkIff-at_ok}
pub use Rattle.std.proofs.lemmas.Str.{IsUtf8-from_ascii, IsUtf8-from_is_utf8, is_utf8-from_IsUtf8}
pub use Rattle.std.proofs.lemmas.Str.Ascii.{IsAscii-cons, IsAscii-nil}
pub use Rattle.std.proofs.lemmas.Str.Parse.{digits_value-take-le}
pub use Rattle.std.specs.Char.{digit_value, is_ascii_digit}
pub use Rattle.std.specs.Fmt.{signed_decimal}
pub use Rattle.std.specs.List.{flat_map, list_all, prefix_len, take_while}
pub use Rattle.std.specs.Option.{IsSomeAnd, option_to_list}
pub use Rattle.std.specs.Prelude.{OnOk, map, unsigned_abs}
pub use Rattle.std.specs.Result.{result_ok}
pub use Rattle.std.specs.Str.{IsAscii, IsUtf8}
pub use Rattle.std.specs.Str.Parse.{AllDigits, IsNumeral, ParsesSigned, digits_value, signed_digits_value, without_leading_plus, without_leading_sign}
pub use Rattle.enf_data.proofs.ListFacts.{cancel_front, front_passes, le_from_true, lt_from_true, ok_some, on_err_from, true_from_le, true_from_lt}
pub use Rattle.enf_data.specs.declared.limits.TheConstants.{MOST_TEXT_BYTES}
pub use Rattle.enf_data.specs.declared.values.Value.{Value}
pub use Rattle.enf_data.specs.declared.values.Value.TheVariants.{Num, Text}
pub use Rattle.enf_data.specs.meaning.Texts.{IsTextValue, is_text_value}
pub use Rattle.enf_data.specs.meaning.Values.{IsNumberValue, IsValue}
pub use Rattle.enf_value.specs.declared.names.ByteKind.TheVariants.{Plain}
pub use Rattle.enf_value.specs.declared.tokens.Mark.{Mark}
pub use Rattle.enf_value.specs.machine.Laws.{OneCut, OneTokenAtPlace, PrintedIsCut, PrintedIsToken, SpelledIsRead, TextsAreCut, TokenIsLongest}
pub use Rattle.enf_value.specs.machine.PrintedTokens.{StopsBefore, goes_on_with_mark, printed_tokens, token_spelling, value_token}
pub use Rattle.enf_value.specs.machine.TokenCuts.{AreCut, BlankGap, ClosedGap, CommentGap, CommentToEnd, IsInComment, IsLastTokenGap, IsLongestToken, IsTokenGap, IsWrongAt, NoGap, SpellsToken}
pub use Rattle.enf_value.specs.machine.TokenCuts.{StandsBehindGap}
pub use Rattle.enf_value.specs.machine.TokenViews.{BeginsToken, IsFrontToken, IsMarkAt, IsProper, IsTokenAt, begins_value, token_of}
pub use Rattle.enf_value.specs.machine.ValueCalls.{AppendsPart, WrittenTextAt, is_of_kind}
pub use Rattle.enf_value.specs.meaning.Tokens.{CutPiece, EndsBefore, IsNoDigit, IsNumberToken, IsTextToken, IsValueToken, IsWrittenByte, IsWrittenText, Lexeme, NegativeToken, NumberToken, SymbolToken}
pub use Rattle.enf_value.specs.meaning.Tokens.{TextToken, Token, TokenAtPlace, ValueTokenAt, WordToken, WrongToken, begins_with, digits_lexeme, escape_meaning, escaped, is_blank, is_comment_byte}
pub use Rattle.enf_value.specs.meaning.Tokens.{is_word, is_word_byte, is_word_start, lexeme_at, mark_at, mark_lexeme, mark_text, negative_lexeme, piece_at, quoted, spelled, text_front, text_lexeme}
pub use Rattle.enf_value.specs.meaning.Tokens.{token_piece, tokens, tokens_at, tokens_from, with_backslash, with_byte, with_escape, word_lexeme, wrong_lexeme}
