-- The tokens of a policy by what they are for.
use Rattle.std.specs.Prelude.{ℕ, Bool, List, Option, Some, None, codes, if◌then◌else◌, true, false, ◌||◌, map, [], ◌∷◌}
use Rattle.std.specs.Str.{bytes_eq}
use Rattle.enf_value.specs.declared.tokens.Mark.{Mark}
use Rattle.enf_value.specs.meaning.Tokens.{Token, tokens_at}
use Rattle.policy_syntax.specs.declared.lexemes.Infix.TheVariants.{Since, Until}
use Rattle.policy_syntax.specs.declared.lexemes.Prefix.TheVariants.{Prev, Next, Once, Historically, Eventually, Always}
use Rattle.policy_syntax.specs.declared.lexemes.Quantifier.TheVariants.{Exists, Forall}
use Rattle.policy_syntax.specs.declared.lexemes.Sign.TheVariants.{Equal, Less, AtMost}
use Rattle.policy_syntax.specs.declared.lexemes.Symbol.TheVariants.{Rule, Not, And, Or, Arrow, OpenParen, CloseParen}
use Rattle.policy_syntax.specs.declared.lexemes.Symbol.TheVariants.{OpenBracket, CloseBracket, Comma, Semicolon, Colon}
use Rattle.policy_syntax.specs.declared.lexemes.Symbol.TheVariants.{Dot, Star}
use Rattle.policy_syntax.specs.declared.lexemes.Infix as infixes
use Rattle.policy_syntax.specs.declared.lexemes.Prefix as prefixes
use Rattle.policy_syntax.specs.declared.lexemes.Quantifier as quantifiers
use Rattle.policy_syntax.specs.declared.lexemes.Sign as signs
use Rattle.policy_syntax.specs.declared.lexemes.Symbol as symbols
use Rattle.enf_value.specs.declared.tokens.Mark.TheVariants as marks
use Rattle.enf_value.specs.meaning.Tokens as token

-- the lexemes of a policy: each reserved word and mark of policies, names, numbers without and with a minus, texts,
-- and the end of the policy; `Other` is a token that has no use in a policy
pub data PolicyLexeme : Type 0 where
  Symbol : symbols.Symbol → PolicyLexeme
  Truth : Bool → PolicyLexeme
  Prefix : prefixes.Prefix → PolicyLexeme
  Infix : infixes.Infix → PolicyLexeme
  Quantifier : quantifiers.Quantifier → PolicyLexeme
  Sign : signs.Sign → PolicyLexeme
  NameLexeme : List ℕ → PolicyLexeme
  DigitsLexeme : ℕ → PolicyLexeme
  NegativeLexeme : ℕ → PolicyLexeme
  TextLexeme : List ℕ → PolicyLexeme
  End : PolicyLexeme
  Other : PolicyLexeme

-- the words that have a use, by what that is
abbrev pub symbol_of : List ℕ → Option symbols.Symbol
symbol_of word = if bytes_eq word (codes "rule") then Some Rule
    else (if bytes_eq word (codes "not") then Some Not
    else (if bytes_eq word (codes "and") then Some And
    else (if bytes_eq word (codes "or") then Some Or
    else None)))

abbrev pub truth_of : List ℕ → Option Bool
truth_of word = if bytes_eq word (codes "true") then Some true
    else (if bytes_eq word (codes "false") then Some false
    else None)

abbrev pub quantifier_of : List ℕ → Option quantifiers.Quantifier
quantifier_of word = if bytes_eq word (codes "exists") then Some Exists
    else (if bytes_eq word (codes "forall") then Some Forall
    else None)

abbrev pub prefix_of : List ℕ → Option prefixes.Prefix
prefix_of word = if bytes_eq word (codes "prev") then Some Prev
    else (if bytes_eq word (codes "next") then Some Next
    else (if bytes_eq word (codes "once") then Some Once
    else (if bytes_eq word (codes "historically") then Some Historically
    else (if bytes_eq word (codes "eventually") then Some Eventually
    else (if bytes_eq word (codes "always") then Some Always
    else None)))))

abbrev pub infix_of : List ℕ → Option infixes.Infix
infix_of word = if bytes_eq word (codes "since") then Some Since
    else (if bytes_eq word (codes "until") then Some Until
    else None)

-- `int` and `text` have no use; a word that is not reserved is a name
abbrev pub lexeme_of_name : List ℕ → PolicyLexeme
lexeme_of_name word = if bytes_eq word (codes "int") || bytes_eq word (codes "text") then Other else NameLexeme word

abbrev pub lexeme_of_infix : List ℕ → Option infixes.Infix → PolicyLexeme
lexeme_of_infix word (Some operator) = Infix operator
lexeme_of_infix word None = lexeme_of_name word

abbrev pub lexeme_of_prefix : List ℕ → Option prefixes.Prefix → PolicyLexeme
lexeme_of_prefix word (Some operator) = Prefix operator
lexeme_of_prefix word None = lexeme_of_infix word (infix_of word)

abbrev pub lexeme_of_temporal : List ℕ → PolicyLexeme
lexeme_of_temporal word = lexeme_of_prefix word (prefix_of word)

abbrev pub lexeme_of_quantifier : List ℕ → Option quantifiers.Quantifier → PolicyLexeme
lexeme_of_quantifier word (Some quantifier) = Quantifier quantifier
lexeme_of_quantifier word None = lexeme_of_temporal word

abbrev pub lexeme_of_truth : List ℕ → Option Bool → PolicyLexeme
lexeme_of_truth word (Some value) = Truth value
lexeme_of_truth word None = lexeme_of_quantifier word (quantifier_of word)

abbrev pub lexeme_of_symbol : List ℕ → Option symbols.Symbol → PolicyLexeme
lexeme_of_symbol word (Some symbol) = Symbol symbol
lexeme_of_symbol word None = lexeme_of_truth word (truth_of word)

abbrev pub lexeme_of_word : List ℕ → PolicyLexeme
lexeme_of_word word = lexeme_of_symbol word (symbol_of word)

abbrev pub lexeme_of_mark : Mark → PolicyLexeme
lexeme_of_mark marks.OpenParen = Symbol OpenParen
lexeme_of_mark marks.CloseParen = Symbol CloseParen
lexeme_of_mark marks.Comma = Symbol Comma
lexeme_of_mark marks.Semicolon = Symbol Semicolon
lexeme_of_mark marks.Colon = Symbol Colon
lexeme_of_mark marks.Dot = Symbol Dot
lexeme_of_mark marks.OpenBracket = Symbol OpenBracket
lexeme_of_mark marks.CloseBracket = Symbol CloseBracket
lexeme_of_mark marks.Star = Symbol Star
lexeme_of_mark marks.Equal = Sign Equal
lexeme_of_mark marks.Less = Sign Less
lexeme_of_mark marks.AtMost = Sign AtMost
lexeme_of_mark marks.Arrow = Symbol Arrow
lexeme_of_mark mark = Other

abbrev pub lexeme_of_token : Token → PolicyLexeme
lexeme_of_token (token.WordToken word) = lexeme_of_word word
lexeme_of_token (token.NumberToken value) = DigitsLexeme value
lexeme_of_token (token.NegativeToken value) = NegativeLexeme value
lexeme_of_token (token.TextToken text) = TextLexeme text
lexeme_of_token (token.SymbolToken mark) = lexeme_of_mark mark
lexeme_of_token token.WrongToken = Other

-- a lexeme with its place, a byte offset
abbrev pub PlacedLexeme : Type 0
PlacedLexeme = ℕ × PolicyLexeme

-- the lexemes of a text from a place on
abbrev pub lexemes_at : List ℕ → ℕ → List PlacedLexeme
lexemes_at bytes at = map (λ placed. (placed.0, lexeme_of_token placed.1)) (tokens_at bytes at)

-- the lexemes of a text
abbrev pub lexemes : List ℕ → List PlacedLexeme
lexemes bytes = lexemes_at bytes 0

-- the first of the lexemes that are left, or the end
abbrev pub next_lexeme : List PlacedLexeme → PolicyLexeme
next_lexeme [] = End
next_lexeme (placed ∷ rest) = placed.1
