-- A token is not the end, a number is one of i64, and the lexemes ahead are those of the tokens.
use Rattle.policy_syntax.proofs.Vocabulary.{◌≡◌, refl, ℕ, Bool, true, false, ◌||◌, codes, if◌then◌else◌, List, Option, None, Some, [], ◌∷◌, map, sym, ap, ◌∙◌, bytes_eq, Token, tokens_at, IsProper}
use Rattle.policy_syntax.proofs.Vocabulary.{Mark, PolicyLexeme, lexemes_at, NameLexeme, Other, infix_of, lexeme_of_infix, lexeme_of_mark, lexeme_of_prefix, lexeme_of_quantifier, lexeme_of_symbol}
use Rattle.policy_syntax.proofs.Vocabulary.{lexeme_of_token, lexeme_of_truth, prefix_of, quantifier_of, symbol_of, truth_of, lexeme_ahead, IsInRange, is_end_lexeme}
use Rattle.policy_syntax.specs.declared.lexemes.Infix.{Infix}
use Rattle.policy_syntax.specs.declared.lexemes.Prefix.{Prefix}
use Rattle.policy_syntax.specs.declared.lexemes.Quantifier.{Quantifier}
use Rattle.policy_syntax.specs.declared.lexemes.Symbol.{Symbol}
use Rattle.enf_value.specs.meaning.Tokens as token
use Rattle.enf_value.specs.declared.tokens.Mark.TheVariants as marks

-- no end, and in range
abbrev pub IsSound : PolicyLexeme → Type 0
IsSound lexeme = IsInRange lexeme × (is_end_lexeme lexeme ≡ false)

name_sound : (word : List ℕ) (b : Bool) → IsSound (if b then Other else NameLexeme word)
name_sound word true = (tt, refl)
name_sound word false = (tt, refl)

infix_sound : (word : List ℕ) (found : Option Infix) → IsSound (lexeme_of_infix word found)
infix_sound word (Some operator) = (tt, refl)
infix_sound word None = name_sound word (bytes_eq word (codes "int") || bytes_eq word (codes "text"))

prefix_sound : (word : List ℕ) (found : Option Prefix) → IsSound (lexeme_of_prefix word found)
prefix_sound word (Some operator) = (tt, refl)
prefix_sound word None = infix_sound word (infix_of word)

quantifier_sound : (word : List ℕ) (found : Option Quantifier) → IsSound (lexeme_of_quantifier word found)
quantifier_sound word (Some quantifier) = (tt, refl)
quantifier_sound word None = prefix_sound word (prefix_of word)

truth_sound : (word : List ℕ) (found : Option Bool) → IsSound (lexeme_of_truth word found)
truth_sound word (Some value) = (tt, refl)
truth_sound word None = quantifier_sound word (quantifier_of word)

symbol_sound : (word : List ℕ) (found : Option Symbol) → IsSound (lexeme_of_symbol word found)
symbol_sound word (Some symbol) = (tt, refl)
symbol_sound word None = truth_sound word (truth_of word)

mark_sound : (mark : Mark) → IsSound (lexeme_of_mark mark)
mark_sound marks.Plus = (tt, refl)
mark_sound mark = (tt, refl)

pub sound : (token : Token) → IsProper token → IsSound (lexeme_of_token token)
sound (token.WordToken word) proper = symbol_sound word (symbol_of word)
sound (token.NumberToken value) proper = (proper, refl)
sound (token.NegativeToken value) proper = (proper, refl)
sound (token.TextToken text) proper = (tt, refl)
sound (token.SymbolToken mark) proper = mark_sound mark
sound token.WrongToken proper = (tt, refl)

-- what is left from a token on
pub token_ahead : (bytes : List ℕ) (at place end : ℕ) (read : Token) (lexeme : PolicyLexeme) → lexeme ≡ lexeme_of_token read → IsSound lexeme → tokens_at bytes at ≡ (place, read) ∷ tokens_at bytes end
    → (lexeme_ahead lexeme place end bytes).rest ≡ lexemes_at bytes at
token_ahead bytes at place end read lexeme is sound_one found =
    ap (λ (b : Bool). if b then [] else (place, lexeme) ∷ lexemes_at bytes end) sound_one.1
    ∙ ap (λ (x : PolicyLexeme). (place, x) ∷ lexemes_at bytes end) is ∙ ap (map (λ (placed : token.TokenAtPlace). (placed.0, lexeme_of_token placed.1))) (sym found)
