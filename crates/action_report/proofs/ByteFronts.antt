-- Words, numbers and values at the front of bytes, and what is after them.
use Rattle.action_report.proofs.Vocabulary.{◌≡◌, ℕ, ◌<◌, ◌≤◌, ◌^◌, ◌&&◌, Bool, true, false, cond, List, [], ◌∷◌, ◌++◌, None, Result, Ok, Err, MatchResult, IsTrue, decimal, refl, ap, ◌∙◌, arith}
use Rattle.action_report.proofs.Vocabulary.{is_ascii_digit, digit_value, list_all, take_while, result_ok, IsUtf8, nat_tests, decimal_is_IsNumeral, IsAscii-from_digits, take_while-cons}
use Rattle.action_report.proofs.Vocabulary.{IsUtf8-from_ascii, is_word, is_word_byte, is_word_start, IsNoDigit, digits_pass, EndsWord}

-- bytes of one kind before a byte of another
pub kind_front : (kind : ℕ → Bool) (front rest : List ℕ) → list_all kind front ≡ true → take_while kind rest ≡ [] → take_while kind (front ++ rest) ≡ front
kind_front kind [] rest all none = none
kind_front kind (x ∷ front) rest all none =
    let b = both (kind x) (list_all kind front) all in
    take_while-cons kind x (front ++ rest) ∙ ap (λ c. cond c (x ∷ take_while kind (front ++ rest)) []) b.0
    ∙ ap (λ l. x ∷ l) (kind_front kind front rest b.1 none)
  where
    both : (a b : Bool) → (a && b) ≡ true → (a ≡ true) × (b ≡ true)
    both true b e = (refl, e)
    both false b e = absurd cc

none_of_kind : (kind : ℕ → Bool) (x : ℕ) (rest : List ℕ) → kind x ≡ false → take_while kind (x ∷ rest) ≡ []
none_of_kind kind x rest none = take_while-cons kind x rest ∙ ap (λ c. cond c (x ∷ take_while kind rest) []) none

-- a word, before bytes that do not go on with it
pub word_front : (word rest : List ℕ) → IsTrue (is_word word) → EndsWord rest → take_while is_word_byte (word ++ rest) ≡ word
word_front word rest is ends = kind_front is_word_byte word rest (all word is) (none rest ends)
  where
    starts : (x : ℕ) → is_word_start x ≡ true → is_word_byte x ≡ true
    starts x e = grind (arith, nat_tests)

    both : (a b c d : Bool) → (a ≡ true → c ≡ true) → (a && b) ≡ true → (c && b) ≡ true
    both true b c d f e = ap (λ x. x && b) (f refl) ∙ e
    both false b c d f e = absurd cc

    all : (word : List ℕ) → is_word word ≡ true → list_all is_word_byte word ≡ true
    all [] e = refl
    all (x ∷ word) e = both (is_word_start x) (list_all is_word_byte word) (is_word_byte x) true (starts x) e

    none : (rest : List ℕ) → EndsWord rest → take_while is_word_byte rest ≡ []
    none [] e = refl
    none (x ∷ rest) e = none_of_kind is_word_byte x rest e

digit_tests : (x : ℕ) → digit_value x < 10 → is_ascii_digit x ≡ true
digit_tests x h = grind (arith, nat_tests)

digit_small : (x : ℕ) → digit_value x < 10 → x < 128
digit_small x h = grind (arith, nat_tests)

no_digits : (rest : List ℕ) → IsNoDigit rest → take_while is_ascii_digit rest ≡ []
no_digits [] ends = refl
no_digits (x ∷ rest) ends = none_of_kind is_ascii_digit x rest (by (is_ascii_digit x) refl)
  where
    low : (x : ℕ) → is_ascii_digit x ≡ true → 48 ≤ x
    low x h = grind (arith, nat_tests)

    high : (x : ℕ) → is_ascii_digit x ≡ true → x ≤ 57
    high x h = grind (arith, nat_tests)

    by : (b : Bool) → is_ascii_digit x ≡ b → b ≡ false
    by true e = absurd (ends (low x e) (high x e))
    by false e = refl

-- a number, before bytes that do not go on with it
pub number_front : (number : ℕ) (rest : List ℕ) → number < 2 ^ 64 → IsNoDigit rest → take_while is_ascii_digit (decimal number ++ rest) ≡ decimal number
number_front number rest small ends =
    let numeral = decimal_is_IsNumeral number small in
    kind_front is_ascii_digit (decimal number) rest (digits_pass (decimal number) numeral.0.1) (no_digits rest ends)

pub number_utf8 : (number : ℕ) → number < 2 ^ 64 → IsUtf8 (decimal number)
number_utf8 number small = IsUtf8-from_ascii (decimal number) (IsAscii-from_digits (decimal number) (decimal_is_IsNumeral number small).0.1)

pub err_utf8 : {T E A : Type 0} (P : T → Type 0) (U : Type 0) (V : E → Type 0) (r : Result T E) → result_ok r ≡ None → MatchResult r P (λ e. (U → ⊥) × V e) → U → A
err_utf8 P U V (Ok x) none cases u = let f = none in cc
err_utf8 P U V (Err e) none cases u = absurd (cases.0 u)
