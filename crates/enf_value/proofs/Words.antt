-- Words are ASCII, so they are UTF-8.
use Rattle.enf_value.proofs.Vocabulary.{◌≡◌, ℕ, ◌<◌, true, List, [], ◌∷◌, arith, list_all, IsAscii, IsUtf8, nat_tests, IsUtf8-from_ascii, IsAscii-nil, IsAscii-cons, and_parts, is_word, is_word_byte}
use Rattle.enf_value.proofs.Vocabulary.{is_word_start}

byte_ascii : (byte : ℕ) → is_word_byte byte ≡ true → byte < 128
byte_ascii byte e = grind (arith, nat_tests)

start_ascii : (byte : ℕ) → is_word_start byte ≡ true → byte < 128
start_ascii byte e = grind (arith, nat_tests)

bytes_ascii : (bytes : List ℕ) → list_all is_word_byte bytes ≡ true → IsAscii bytes
bytes_ascii [] e = IsAscii-nil
bytes_ascii (byte ∷ bytes) e =
    let h = and_parts (is_word_byte byte) (list_all is_word_byte bytes) e in
    IsAscii-cons byte bytes (byte_ascii byte h.0) (bytes_ascii bytes h.1)

pub word_utf8 : (word : List ℕ) → is_word word ≡ true → IsUtf8 word
word_utf8 [] e = absurd cc
word_utf8 (byte ∷ bytes) e =
    let h = and_parts (is_word_start byte) (list_all is_word_byte bytes) e in
    IsUtf8-from_ascii (byte ∷ bytes) (IsAscii-cons byte bytes (start_ascii byte h.0) (bytes_ascii bytes h.1))
