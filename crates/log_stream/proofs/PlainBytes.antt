-- Bytes over which a scan for a record's end stays outside of texts.
use Rattle.log_stream.proofs.Vocabulary.{◌≡◌, ◌≢◌, ℕ, pos, negsuc, ◌+◌, ◌^◌, ◌<◌, ◌==◌, ◌&&◌, suc, Bool, true, false, List, [], ◌∷◌, ◌++◌, length, None, Some, IsTrue, if◌then◌else◌, refl, ap, ◌∙◌}
use Rattle.log_stream.proofs.Vocabulary.{arith, decimal, digit_value, flat_map, list_all, option_map, AllDigits, nat_tests, decimal_is_IsNumeral, and_parts as both, is_word, is_word_byte}
use Rattle.log_stream.proofs.Vocabulary.{is_word_start, escaped, quoted, spelled, IsValue, Value, Num, Text, false_from_ne, start_is_byte, is_outside, length_to_end, scan_behind, scan_after, Scan}
use Rattle.log_stream.proofs.Vocabulary.{Outside, Inside, Escaped}
use Rattle.log_stream.proofs.RestFronts.{after_onward, end_onward}

-- no end is found, and the scan is where it was
abbrev pub Stays : Scan → List ℕ → Type 0
Stays scan bytes = (length_to_end scan bytes ≡ None) × (scan_after scan bytes ≡ scan)

pub stays_append : (scan : Scan) (a b : List ℕ) → Stays scan a → Stays scan b → Stays scan (a ++ b)
stays_append scan a b h k = (
  end_onward scan a b h.0 ∙ ap (λ s. option_map (λ n. n + length a) (length_to_end s b)) h.1 ∙ ap (option_map (λ n. n + length a)) k.0,
  after_onward scan a b ∙ ap (λ s. scan_after s b) h.1 ∙ k.1,
)

pub stays_one : (scan : Scan) (byte : ℕ) (bytes : List ℕ) → (is_outside scan && (byte == 59)) ≡ false → scan_behind scan byte ≡ scan → Stays scan bytes → Stays scan (byte ∷ bytes)
stays_one scan byte bytes e is h = (
  ap (λ b. if b then Some 1 else option_map (λ n. n + 1) (length_to_end (scan_behind scan byte) bytes)) e ∙ ap (λ s. option_map (λ n. n + 1) (length_to_end s bytes)) is ∙ ap
      (option_map (λ n. n + 1)) h.0,
  ap (λ s. scan_after s bytes) is ∙ h.1,
)

-- neither a quote nor a semicolon
abbrev pub ArePlain : List ℕ → Type 0
ArePlain [] = Unit {0}
ArePlain (byte ∷ bytes) = (byte ≢ 34) × (byte ≢ 59) × ArePlain bytes

pub plain_stays : (bytes : List ℕ) → ArePlain bytes → Stays Outside bytes
plain_stays [] plain = (refl, refl)
plain_stays (byte ∷ bytes) plain =
    stays_one Outside byte bytes (false_from_ne byte 59 plain.1) (ap (λ b. if b then Inside else Outside) (false_from_ne byte 34 plain.0)) (plain_stays bytes plain.2)

digit_plain : (x : ℕ) → digit_value x < 10 → (x ≢ 34) × (x ≢ 59)
digit_plain x h = (λ e. absurd (grind (arith, nat_tests)), λ e. absurd (grind (arith, nat_tests)))

pub digits_plain : (digits : List ℕ) → AllDigits 10 digits → ArePlain digits
digits_plain [] all = tt
digits_plain (x ∷ digits) all = let p = digit_plain x all.0 in (p.0, p.1, digits_plain digits all.1)

pub decimal_plain : (n : ℕ) → n < 2 ^ 64 → ArePlain (decimal n)
decimal_plain n h = digits_plain (decimal n) (decimal_is_IsNumeral n h).0.1

word_byte_plain : (x : ℕ) → is_word_byte x ≡ true → (x ≢ 34) × (x ≢ 59)
word_byte_plain x h = (λ e. absurd (grind (arith, nat_tests)), λ e. absurd (grind (arith, nat_tests)))

bytes_plain : (word : List ℕ) → list_all is_word_byte word ≡ true → ArePlain word
bytes_plain [] all = tt
bytes_plain (x ∷ word) all =
    let b = both (is_word_byte x) (list_all is_word_byte word) all in
    let p = word_byte_plain x b.0 in (p.0, p.1, bytes_plain word b.1)

pub word_bytes : (word : List ℕ) → IsTrue (is_word word) → list_all is_word_byte word ≡ true
word_bytes [] word = cc
word_bytes (x ∷ xs) word =
    let b = both (is_word_start x) (list_all is_word_byte xs) word in
    ap (λ a. a && list_all is_word_byte xs) (start_is_byte x b.0) ∙ b.1

pub word_plain : (word : List ℕ) → IsTrue (is_word word) → ArePlain word
word_plain word is = bytes_plain word (word_bytes word is)

-- what is written for a byte of a text stays inside
escaped_stays : (byte : ℕ) → Stays Inside (escaped byte)
escaped_stays byte = by (byte == 34) (byte == 92) (byte == 10) (byte == 13) (byte == 9) refl refl
  where
    by : (a b c d e : Bool) → (byte == 34) ≡ a → (byte == 92) ≡ b →
        Stays Inside (if a then 92 ∷ 34 ∷ [] else (if b then 92 ∷ 92 ∷ [] else (if c then 92 ∷ 110 ∷ [] else (if d then 92 ∷ 114 ∷ [] else (if e then 92 ∷ 116 ∷ [] else byte ∷ [])))))
    by true b c d e p q = (refl, refl)
    by false true c d e p q = (refl, refl)
    by false false true d e p q = (refl, refl)
    by false false false true e p q = (refl, refl)
    by false false false false true p q = (refl, refl)
    by false false false false false p q =
        stays_one Inside byte [] refl (ap (λ b. if b then Outside else (if byte == 92 then Escaped else Inside)) p ∙ ap (λ b. if b then Escaped else Inside) q) (refl, refl)

text_stays : (text : List ℕ) → Stays Inside (flat_map escaped text)
text_stays [] = (refl, refl)
text_stays (byte ∷ text) = stays_append Inside (escaped byte) (flat_map escaped text) (escaped_stays byte) (text_stays text)

quoted_stays : (text : List ℕ) → Stays Outside (quoted text)
quoted_stays text =
    let inside = text_stays text in (
      ap (option_map (λ n. n + 1)) (end_onward Inside (flat_map escaped text) (34 ∷ []) inside.0 ∙ ap (λ s. option_map (λ n. n + length (flat_map escaped text)) (length_to_end s (34 ∷ []))) inside.1),
      after_onward Inside (flat_map escaped text) (34 ∷ []) ∙ ap (λ s. scan_after s (34 ∷ [])) inside.1,
    )

pub spelled_stays : (value : Value) → IsValue value → Stays Outside (spelled value)
spelled_stays (Num (pos n)) fits = plain_stays (decimal n) (decimal_plain n (omega arith))
spelled_stays (Num (negsuc n)) fits = plain_stays (45 ∷ decimal (suc n)) ((λ e. absurd (omega (arith, e))), (λ e. absurd (omega (arith, e))), decimal_plain (suc n) (omega arith))
spelled_stays (Text text) fits = quoted_stays text
