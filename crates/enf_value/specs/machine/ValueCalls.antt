-- What the calls that read and print values give, and the kinds of bytes that they look for.
use Rattle.enf_data.specs.declared.values.Value.{Value}
use Rattle.std.specs.Char.{is_ascii_digit, is_ascii_alphabetic}
use Rattle.std.specs.Prelude.{ℕ, ◌==◌, Bool, ◌&&◌, nat_le, not, ◌≡◌, List, ◌++◌, ◌+◌, ◌∷◌}
use Rattle.std.specs.Prelude.{length, []}
use Rattle.enf_value.specs.declared.names.ByteKind.{ByteKind}
use Rattle.enf_value.specs.declared.names.ByteKind.TheVariants.{Digit, Letter, Word, Comment, Plain}
use Rattle.enf_value.specs.meaning.Tokens.{is_word_byte, IsWrittenText, ValueTokenAt}

-- whether a byte is of a kind
abbrev pub is_of_kind : ByteKind → ℕ → Bool
is_of_kind Digit byte = is_ascii_digit byte
is_of_kind Letter byte = is_ascii_alphabetic byte
is_of_kind Word byte = is_word_byte byte
is_of_kind Comment byte = not (byte == 10)
is_of_kind Plain byte = nat_le 32 byte && not (byte == 34) && not (byte == 92)

-- a front of the text was appended
abbrev pub AppendsPart : List ℕ → List ℕ → List ℕ → Type 0
AppendsPart text before after = (part rest : List ℕ) × (text ≡ part ++ rest) × (after ≡ before ++ part)

-- the pieces of a text stand at the front of the bytes, up to a quote at this place
pub record WrittenTextAt (bytes : List ℕ) (quote : ℕ) (text : List ℕ) : Type 0 where
  pub written : List ℕ
  pub rest : List ℕ
  pub splits : bytes ≡ written ++ 34 ∷ rest
  pub ends : quote ≡ length written
  pub pieces : IsWrittenText written text

-- the value of the token that begins at a place and ends at another goes last
pub record PutsValueToken (bytes : List ℕ) (at end : ℕ) (before after : List Value) : Type 0 where
  pub value : Value
  pub token : ValueTokenAt bytes at end value
  pub last : after ≡ before ++ value ∷ []
