-- The blanks and comments at a place, and the tokens after them.
use Rattle.enf_value.proofs.Vocabulary.{◌≡◌, ℕ, zero, suc, ◌+◌, ◌-◌, ◌<◌, ◌≤◌, ◌==◌, Bool, true, false, List, [], ◌∷◌, ◌++◌, length, drop, slice_index, Option, None, Some, refl, sym, ap, subst, ◌∙◌}
use Rattle.enf_value.proofs.Vocabulary.{arith, add-zero, length-drop, length-take, if◌then◌else◌, nat_tests, prefix_len, take_while, option_to_list, drop-drop, drop-cons, Token, CutPiece, is_blank}
use Rattle.enf_value.proofs.Vocabulary.{is_comment_byte, lexeme_at, piece_at, token_piece, tokens_at, tokens_from, BeginsToken, IsFrontToken, IsTokenAt, token_of}
use Rattle.std.proofs.Common.{map}
use Rattle.enf_value.specs.declared.tokens.Token.{Token as Read}
use Rattle.enf_value.proofs.Fronts.{front_is_within}

-- after blanks and comments the same tokens are left
pub record IsPast (bytes : List ℕ) (at place : ℕ) : Type 0 where
  pub from : at ≤ place
  pub within : place ≤ length bytes
  pub same : tokens_at bytes at ≡ tokens_at bytes place

-- bytes that belong to the piece before
pub cut_left : (left place : ℕ) (bytes : List ℕ) → tokens_from left place bytes ≡ tokens_from 0 (place + left) (drop left bytes)
cut_left zero place bytes = ap (λ p. tokens_from 0 p bytes) (sym (add-zero place))
cut_left (suc left) place [] = refl
cut_left (suc left) place (byte ∷ bytes) =
    cut_left left (place + 1) bytes ∙ ap (λ p. tokens_from 0 p (drop left bytes)) (omega arith)

-- the tokens after a piece of a byte at least
behind_piece : (size place byte : ℕ) (rest : List ℕ) → 0 < size
    → tokens_from (size - 1) (place + 1) rest ≡ tokens_from 0 (place + size) (drop size (byte ∷ rest))
behind_piece zero place byte rest some = absurd (omega arith)
behind_piece (suc size) place byte rest some =
    ap (λ left. tokens_from left (place + 1) rest) (omega arith) ∙ cut_left size (place + 1) rest
    ∙ ap (λ p. tokens_from 0 p (drop size rest)) (omega arith)

-- the text at a place, by its first byte
pub text_at : (bytes : List ℕ) (place : ℕ) → place < length bytes
    → drop place bytes ≡ slice_index bytes place ∷ drop (suc place) bytes
text_at bytes place within = drop-cons bytes place 0 within

abbrev piece_by : (blank hash : Bool) → ℕ → List ℕ → CutPiece
piece_by blank hash byte rest =
    if blank then (None, 1)
    else (if hash then (None, 1 + length (take_while is_comment_byte rest))
    else token_piece (1 + length rest) (lexeme_at byte rest))

-- a token at the front, and what is after it
pub front_step : (place byte : ℕ) (rest : List ℕ) (token : Token) (size : ℕ) → BeginsToken byte → IsFrontToken (byte ∷ rest) token size → 0 < size
    → tokens_from 0 place (byte ∷ rest) ≡ (place, token) ∷ tokens_from 0 (place + size) (drop size (byte ∷ rest))
front_step place byte rest token size begins front some =
    let hash : (byte == 35) ≡ false = grind (arith, nat_tests, begins.1) in
    let is : piece_at byte rest ≡ (Some token, size) = (λ j. piece_by (begins.0 j) (hash j) byte rest) ∙ front in
    (λ j. map (λ t. (place, t)) (option_to_list ((is j).0)) ++ tokens_from ((is j).1 - 1) (place + 1) rest)
    ∙ ap (λ tokens. (place, token) ∷ tokens) (behind_piece size place byte rest some)

-- a comment at the front, and what is after it
pub space_step : (place byte : ℕ) (rest : List ℕ) → is_blank byte ≡ false → (byte == 35) ≡ true
    → tokens_from 0 place (byte ∷ rest) ≡ tokens_from 0 (place + (1 + length (take_while is_comment_byte rest))) (drop (1 + length (take_while is_comment_byte rest)) (byte ∷ rest))
space_step place byte rest blank hash =
    let is : piece_at byte rest ≡ (None, 1 + length (take_while is_comment_byte rest)) = λ j. piece_by (blank j) (hash j) byte rest in
    (λ j. map (λ t. (place, t)) (option_to_list ((is j).0)) ++ tokens_from ((is j).1 - 1) (place + 1) rest)
    ∙ behind_piece (1 + length (take_while is_comment_byte rest)) place byte rest (omega arith)

module _ (bytes : List ℕ) (place : ℕ) (within : place < length bytes) where
  -- the piece at a place and what is after it
  front_piece : (token : Option Token) (size : ℕ) → piece_at (slice_index bytes place) (drop (suc place) bytes) ≡ (token, size) → 0 < size
      → tokens_at bytes place ≡ map (λ t. (place, t)) (option_to_list token) ++ tokens_at bytes (place + size)
  front_piece token size is some =
      ap (tokens_from 0 place) (text_at bytes place within)
      ∙ (λ j. map (λ t. (place, t)) (option_to_list ((is j).0)) ++ tokens_from ((is j).1 - 1) (place + 1) (drop (suc place) bytes))
      ∙ ap (λ rest. map (λ t. (place, t)) (option_to_list token) ++ rest)
      (behind_piece size place (slice_index bytes place) (drop (suc place) bytes) some
      ∙ ap (λ text. tokens_from 0 (place + size) (drop size text)) (sym (text_at bytes place within))
      ∙ ap (tokens_from 0 (place + size)) (drop-drop size place bytes))

  pub past_comment : is_blank (slice_index bytes place) ≡ false → slice_index bytes place ≡ 35
      → tokens_at bytes place ≡ tokens_at bytes (place + (1 + length (take_while is_comment_byte (drop (suc place) bytes))))
  past_comment blank begins =
      let hash : (slice_index bytes place == 35) ≡ true = grind (arith, nat_tests) in
      front_piece None (1 + length (take_while is_comment_byte (drop (suc place) bytes)))
      (λ j. piece_by (blank j) (hash j) (slice_index bytes place) (drop (suc place) bytes)) (omega arith)

  -- the token that begins at the place
  pub past_token : BeginsToken (slice_index bytes place) → (token : Token) (size : ℕ) → IsFrontToken (drop place bytes) token size → 0 < size
      → tokens_at bytes place ≡ (place, token) ∷ tokens_at bytes (place + size)
  past_token begins token size front some =
      let hash : (slice_index bytes place == 35) ≡ false = grind (arith, nat_tests, begins.1) in
      front_piece (Some token) size
      ((λ j. piece_by (begins.0 j) (hash j) (slice_index bytes place) (drop (suc place) bytes))
      ∙ subst (λ text. IsFrontToken text token size) (text_at bytes place within) front) some

-- after a comment the same tokens are left
pub behind_comment : (bytes : List ℕ) (at place : ℕ) (comment : List ℕ) → IsPast bytes at place → place < length bytes
    → is_blank (slice_index bytes place) ≡ false → slice_index bytes place ≡ 35
    → comment ≡ take_while is_comment_byte (drop (place + 1) bytes) → IsPast bytes at (place + (1 + length comment))
behind_comment bytes at place comment past within blank begins is =
    let size : length comment ≤ length bytes - (place + 1) =
    omega (arith, ap length is, length-take (prefix_len is_comment_byte (drop (place + 1) bytes)) (drop (place + 1) bytes), length-drop (place + 1) bytes) in
    let next : place + 1 ≡ suc place = omega arith in
    record {
      from = omega (arith, past.from);
      within = omega arith;
      same = past.same ∙ past_comment bytes place within blank begins
          ∙ ap (λ l. tokens_at bytes (place + (1 + length l))) (sym (is ∙ ap (λ n. take_while is_comment_byte (drop n bytes)) next));
    }

-- the token after blanks and comments is the next one
pub next_is : (bytes : List ℕ) (at place : ℕ) (token : Read) (end : ℕ) → tokens_at bytes at ≡ tokens_at bytes place
    → place < length bytes → BeginsToken (slice_index bytes place) → IsTokenAt bytes place token end
    → tokens_at bytes at ≡ (place, token_of token) ∷ tokens_at bytes end
next_is bytes at place token end same within begins is =
    let good = front_is_within _ _ _ is.front in
    same ∙ past_token bytes place within begins (token_of token) is.size is.front good.0
    ∙ ap (λ n. (place, token_of token) ∷ tokens_at bytes n) (sym is.ends)

pub next_ends : (bytes : List ℕ) (at place : ℕ) (token : Read) (end : ℕ) → at ≤ place → place ≤ length bytes → IsTokenAt bytes place token end
    → (at < end) × (end ≤ length bytes)
next_ends bytes at place token end from within is =
    let good = front_is_within _ _ _ is.front in
    (omega (arith, good.0, is.ends, from), omega (arith, good.1, is.ends, length-drop place bytes, within))
