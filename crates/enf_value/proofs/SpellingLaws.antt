-- The laws of what is spelled.
use Rattle.enf_value.proofs.Vocabulary.{Value, arith, refl, subst, sym, nat_tests, take_while-cons, flat_map, take_while, option_to_list, map, Plain, token_spelling, value_token, is_of_kind, CutPiece}
use Rattle.enf_value.proofs.Vocabulary.{TokenAtPlace, tokens_from, is_blank, is_comment_byte, lexeme_at, token_piece, escaped, spelled}
use Rattle.std.specs.Prelude.{◌≡◌, ℕ, true, [], ◌∷◌, Bool, false, cond, List, ◌++◌, pos, negsuc, ◌-◌, ◌+◌, ◌==◌, length, None, if◌then◌else◌}
use Rattle.enf_data.specs.declared.values.Value.TheVariants as values

-- a byte that stands for itself is spelled as it is
escaped_plain : (byte : ℕ) → is_of_kind Plain byte ≡ true → escaped byte ≡ byte ∷ []
escaped_plain byte plain = grind (arith, nat_tests)

-- the bytes at the front of a text that stand for themselves are spelled as they are
pub escaped-front : (bytes : List ℕ)
    → flat_map escaped (take_while (is_of_kind Plain) bytes) ≡ take_while (is_of_kind Plain) bytes
escaped-front [] = refl
escaped-front (byte ∷ bytes) =
    subst (λ l. flat_map escaped l ≡ l) (sym (take_while-cons (is_of_kind Plain) byte bytes))
    (by (is_of_kind Plain byte) refl (take_while (is_of_kind Plain) bytes) (escaped-front bytes))
  where
    by : (b : Bool) → is_of_kind Plain byte ≡ b → (front : List ℕ) → flat_map escaped front ≡ front
        → flat_map escaped (cond b (byte ∷ front) []) ≡ cond b (byte ∷ front) []
    by true is front same = λ i. escaped_plain byte is i ++ same i
    by false is front same = refl

-- is spelled as the value is printed
pub spelling-value : (value : Value) → token_spelling (value_token value) ≡ spelled value
spelling-value (values.Num (pos number)) = refl
spelling-value (values.Num (negsuc number)) = refl
spelling-value (values.Text text) = refl

-- the tokens of a piece and of what is after it
abbrev placed_behind : CutPiece → ℕ → List ℕ → List TokenAtPlace
placed_behind piece place rest =
    map (λ token. (place, token)) (option_to_list piece.0) ++ tokens_from (piece.1 - 1) (place + 1) rest

-- a blank is passed
pub blank_is_passed : (place byte : ℕ) (rest : List ℕ) → is_blank byte ≡ true
    → tokens_from 0 place (byte ∷ rest) ≡ tokens_from 0 (place + 1) rest
blank_is_passed place byte rest blank =
    λ j. placed_behind (if blank j then (None, 1) else solid) place rest
  where
    solid : CutPiece
    solid =
        if byte == 35 then (None, 1 + length (take_while is_comment_byte rest))
        else token_piece (1 + length rest) (lexeme_at byte rest)
