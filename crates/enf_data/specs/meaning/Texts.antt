-- The bytes that a text of the program may have.
use Rattle.enf_data.specs.declared.limits.TheConstants.{MOST_TEXT_BYTES}
use Rattle.std.specs.Prelude.{ℕ, ◌≤◌, List, length, nat_le, Bool, ◌&&◌}
use Rattle.std.specs.Str.{IsUtf8, is_utf8}

-- the bytes are UTF-8, and no more than a text may have
pub record IsTextValue (bytes : List ℕ) : Type 0 where
  pub utf8 : IsUtf8 bytes
  pub short : length bytes ≤ MOST_TEXT_BYTES

-- whether the bytes are those of a text of the program
abbrev pub is_text_value : List ℕ → Bool
is_text_value bytes = nat_le (length bytes) MOST_TEXT_BYTES && is_utf8 bytes
