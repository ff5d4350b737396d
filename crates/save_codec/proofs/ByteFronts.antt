-- Numbers and values at the front of bytes, and what is after them.
use Rattle.save_codec.proofs.Vocabulary.{◌≡◌, ◌≢◌, refl, ℕ, zero, suc, pos, ◌-◌, ◌+◌, ◌<◌, ◌^◌, List, [], ◌∷◌, ◌++◌, inl, inr, get_or, length, take, drop, slice_index, decimal, sym, ap, ◌∙◌, arith}
use Rattle.save_codec.proofs.Vocabulary.{zero-add, digit_value, AllDigits, digits_value, nat_tests, decimal-digits_value, decimal_is_IsNumeral, decimal_nonempty, first_decimal, length-decimal-le_succ}
use Rattle.save_codec.proofs.Vocabulary.{IsNumeralModel, IsNoDigit, IsNumberToken, ValueTokenAt, PrintedIsToken, Num, behind_front}

-- no number begins with a minus
digit_is_no_minus : (x : ℕ) → digit_value x < 10 → x ≢ 45
digit_is_no_minus x h = λ e. absurd (grind (arith, nat_tests))

first_is_no_minus : (digits rest : List ℕ) → 0 < length digits → AllDigits 10 digits → slice_index (digits ++ rest) 0 ≢ 45
first_is_no_minus [] rest some all = absurd (omega arith)
first_is_no_minus (x ∷ digits) rest some all = digit_is_no_minus x all.0

pub decimal_is_no_minus : (number : ℕ) (rest bytes : List ℕ) → number < 2 ^ 63 → bytes ≡ decimal number ++ rest → slice_index bytes 0 ≢ 45
decimal_is_no_minus number rest bytes small e =
    let numeral = decimal_is_IsNumeral number (omega (arith, small)) in
    λ minus. first_is_no_minus (decimal number) rest numeral.0.0 numeral.0.1 (ap (λ l. slice_index l 0) (sym e) ∙ minus)

-- a number that stands in front of what does not go on with it is a token
pub number_there : PrintedIsToken → (bytes : List ℕ) (number : ℕ) (rest : List ℕ) → number < 2 ^ 63 → IsNoDigit rest → bytes ≡ decimal number ++ rest
    → ValueTokenAt bytes 0 (0 + length (decimal number)) (Num (pos number)) × (slice_index bytes 0 ≢ 45)
number_there printed bytes number rest small ends e =
    (printed bytes 0 (Num (pos number)) rest small ends e, decimal_is_no_minus number rest bytes small e)

-- ---- digits as they are printed

digits_model : IsNumeralModel (AllDigits 10) (digits_value 10)
digits_model = record { to = λ digits all. all; from = λ digits all. all; same = λ digits all. refl }

zero_alone : (digits rest bytes : List ℕ) (end : ℕ) → 0 < length digits → bytes ≡ digits ++ rest → end ≡ 0 + length digits → (slice_index bytes 0 ≡ 48 → end ≡ 1)
    → get_or digits 0 0 ≡ 48 → length digits ≡ 1
zero_alone [] rest bytes end some e ends alone first = absurd (omega arith)
zero_alone (x ∷ digits) rest bytes end some e ends alone first =
    let one : end ≡ 1 = alone (ap (λ l. slice_index l 0) e ∙ first) in
    omega (arith, ends, one)

-- digits that have no zero in front of others are how their number is printed
pub printed_there : (bytes : List ℕ) (number end : ℕ) → number < 2 ^ 63 → ValueTokenAt bytes 0 end (Num (pos number)) → slice_index bytes 0 ≢ 45 → (slice_index bytes 0 ≡ 48 → end ≡ 1)
    → bytes ≡ decimal number ++ take (length bytes - end) (drop end bytes)
printed_there bytes number end small there minus alone = by there.stands
  where
    front : (digits : List ℕ) → digits ≡ decimal number → there.token ≡ digits → bytes ≡ decimal number ++ take (length bytes - end) (drop end bytes)
    front digits printed is =
        let left : take (length bytes - end) (drop end bytes) ≡ there.rest = behind_front there.token there.rest bytes end there.splits (there.ends ∙ zero-add (length there.token)) in
        there.splits ∙ (λ i. (is ∙ printed) i ++ sym left i)

    by : IsNumberToken there.token (pos number) → bytes ≡ decimal number ++ take (length bytes - end) (drop end bytes)
    by (inl (numeral, value)) =
        let is : number ≡ digits_value 10 there.token = cc value in
        let short : digits_value 10 there.token < 2 ^ 64 = omega (arith, is, small) in
        let printed = decimal-digits_value digits_model there.token numeral.1 numeral.0 (zero_alone there.token there.rest bytes end numeral.0 there.splits there.ends alone) short in
        front there.token (sym printed ∙ ap decimal (sym is)) refl
    by (inr (digits, is, numeral, value)) = absurd (minus (ap (λ l. slice_index l 0) (there.splits ∙ ap (λ (l : List ℕ). l ++ there.rest) is)))

nonempty_front : (digits rest : List ℕ) → 0 < length digits → slice_index (digits ++ rest) 0 ≡ get_or digits 0 0
nonempty_front [] rest some = absurd (omega arith)
nonempty_front (x ∷ digits) rest some = refl

-- a number is printed with no zero in front of others
pub printed_zero_alone : (number : ℕ) (rest bytes : List ℕ) (end : ℕ) → number < 2 ^ 63 → bytes ≡ decimal number ++ rest → end ≡ length (decimal number) → slice_index bytes 0 ≡ 48 → end ≡ 1
printed_zero_alone zero rest bytes end small e ends zero_first =
    omega (arith, ends, length-decimal-le_succ 0 (omega arith), decimal_nonempty 0 (omega arith))
printed_zero_alone (suc n) rest bytes end small e ends zero_first =
    let numeral = decimal_is_IsNumeral (suc n) (omega (arith, small)) in
    let first : 48 < get_or (decimal (suc n)) 0 0 = first_decimal (suc n) (omega arith) (omega (arith, small)) in
    let same : 48 ≡ get_or (decimal (suc n)) 0 0 = sym zero_first ∙ ap (λ l. slice_index l 0) e ∙ nonempty_front (decimal (suc n)) rest numeral.0.0 in
    absurd (omega (arith, first, same))
