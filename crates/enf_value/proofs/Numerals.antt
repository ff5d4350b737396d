-- The number tokens at the front of bytes, and what `parse` makes of them.
use Rattle.enf_value.proofs.Vocabulary.{◌≡◌, ◌≢◌, ℕ, ◌<◌, ◌≤◌, ◌+◌, ◌-◌, ◌*◌, ◌^◌, ◌==◌, ℤ, pos, negsuc, neg_ℤ, Bool, true, false, cond, inl, inr, List, [], ◌∷◌, ◌++◌, length, get_or, slice_index}
use Rattle.enf_value.proofs.Vocabulary.{take, drop, refl, sym, ap, subst, ◌∙◌, true≢false, arith, if◌then◌else◌, suc, zero, FitsSigned, add-zero, zero-add, Result, Ok, Err, None, MatchResult}
use Rattle.enf_value.proofs.Vocabulary.{is_ascii_digit, digit_value, prefix_len, result_ok, IsAscii, IsUtf8, AllDigits, IsNumeral, digits_value, signed_digits_value, without_leading_sign}
use Rattle.enf_value.proofs.Vocabulary.{without_leading_plus, ParsesSigned, eqb-true, nat_tests, digits_value_more, get_or-drop, length-take-le, take-append-drop, take-append-le, Ok-from_Ok_iff}
use Rattle.enf_value.proofs.Vocabulary.{OkIff-at_ok, IsUtf8-from_ascii, digits_value-take-le, take-append_seam, IsAscii-from_digits, IsNumberToken, IsNoDigit, ValueTokenAt, IsNumberValue, Num}
use Rattle.std.specs.Int.{w64}
use Rattle.std.proofs.lemmas.List.{length-drop}

pub digit_from_test : (c : ℕ) → is_ascii_digit c ≡ true → digit_value c < 10
digit_from_test c h = grind (arith, nat_tests)

pub range_from_digit : (c : ℕ) → digit_value c < 10 → (48 ≤ c) × (c ≤ 57)
range_from_digit c h = (grind (arith, nat_tests), grind (arith, nat_tests))

pub test_from_range : (c : ℕ) → 48 ≤ c → c ≤ 57 → is_ascii_digit c ≡ true
test_from_range c low high = grind (arith, nat_tests)

no_digit : (c : ℕ) → is_ascii_digit c ≡ false → 48 ≤ c → c ≤ 57 → ⊥
no_digit c none low high = true≢false (sym (test_from_range c low high) ∙ none)

one_more : (n : ℕ) → 1 + n ≡ suc n
one_more n = omega arith

-- the digits at the front, and what follows them
pub front_digits : (xs : List ℕ) → AllDigits 10 (take (prefix_len is_ascii_digit xs) xs)
front_digits [] = tt
front_digits (x ∷ xs) = by (is_ascii_digit x) refl (front_digits xs)
  where
    by : (b : Bool) → is_ascii_digit x ≡ b → AllDigits 10 (take (prefix_len is_ascii_digit xs) xs) → AllDigits 10 (take (cond b (1 + prefix_len is_ascii_digit xs) 0) (x ∷ xs))
    by true e rest = rw one_more (digit_from_test x e, rest)
    by false e rest = tt

pub behind_digits : (xs : List ℕ) → IsNoDigit (drop (prefix_len is_ascii_digit xs) xs)
behind_digits [] = tt
behind_digits (x ∷ xs) = by (is_ascii_digit x) refl (behind_digits xs)
  where
    by : (b : Bool) → is_ascii_digit x ≡ b → IsNoDigit (drop (prefix_len is_ascii_digit xs) xs) → IsNoDigit (drop (cond b (1 + prefix_len is_ascii_digit xs) 0) (x ∷ xs))
    by true e rest = rw one_more rest
    by false e rest = no_digit x e

-- digits before no digit are all the digits at the front
pub all_digits : (digits rest : List ℕ) → AllDigits 10 digits → IsNoDigit rest → prefix_len is_ascii_digit (digits ++ rest) ≡ length digits
all_digits [] [] each end = refl
all_digits [] (x ∷ xs) each end = by (is_ascii_digit x) refl
  where
    by : (b : Bool) → is_ascii_digit x ≡ b → cond b (1 + prefix_len is_ascii_digit xs) 0 ≡ 0
    by true e = let r = range_from_digit x (digit_from_test x e) in absurd (end r.0 r.1)
    by false e = refl
all_digits (x ∷ digits) rest each end =
    let r = range_from_digit x each.0 in
    ap (λ b. cond b (1 + prefix_len is_ascii_digit (digits ++ rest)) 0) (test_from_range x r.0 r.1) ∙ one_more _ ∙ ap suc (all_digits digits rest each.1 end)

-- where a minus and digits at the front end
abbrev pub end_of : List ℕ → ℕ
end_of bytes = if slice_index bytes 0 == 45 then 1 + prefix_len is_ascii_digit (drop 1 bytes) else prefix_len is_ascii_digit bytes

pub end_of_token : (token rest : List ℕ) (number : ℤ) → IsNumberToken token number → IsNoDigit rest → end_of (token ++ rest) ≡ length token
end_of_token [] rest number (inl (numeral, is)) end = absurd (omega (arith, numeral.0))
end_of_token (x ∷ digits) rest number (inl (numeral, is)) end =
    let r = range_from_digit x numeral.1.0 in
    let plain : (x == 45) ≡ false = grind (arith, nat_tests) in
    ap (λ b. if b then 1 + prefix_len is_ascii_digit (digits ++ rest) else prefix_len is_ascii_digit (x ∷ digits ++ rest)) plain ∙ all_digits (x ∷ digits) rest numeral.1 end
end_of_token token rest number (inr (digits, split, numeral, is)) end =
    subst (λ t. end_of (t ++ rest) ≡ length t) (sym split) (one_more _ ∙ ap suc (all_digits digits rest numeral.1 end))

behind_end : (bytes : List ℕ) → IsNoDigit (drop (end_of bytes) bytes)
behind_end [] = tt
behind_end (x ∷ xs) = by (x == 45)
  where
    by : (b : Bool) → IsNoDigit (drop (if b then 1 + prefix_len is_ascii_digit xs else prefix_len is_ascii_digit (x ∷ xs)) (x ∷ xs))
    by true = rw one_more (behind_digits xs)
    by false = behind_digits (x ∷ xs)

-- bytes that begin with no sign are read as they are
plain_sign : (x : ℕ) (digits : List ℕ) → (x == 45) ≡ false → (x == 43) ≡ false → without_leading_sign (x ∷ digits) ≡ x ∷ digits
plain_sign x digits minus plus =
    ap (λ b. cond b digits (without_leading_plus (x ∷ digits))) minus ∙ ap (λ b. drop (cond b 1 0) (x ∷ digits)) plus

plain_value : (x : ℕ) (digits : List ℕ) → (x == 45) ≡ false → (x == 43) ≡ false → signed_digits_value 10 (x ∷ digits) ≡ pos (digits_value 10 (x ∷ digits))
plain_value x digits minus plus =
    ap (λ b. cond b (neg_ℤ (pos (digits_value 10 (without_leading_sign (x ∷ digits))))) (pos (digits_value 10 (without_leading_sign (x ∷ digits))))) minus
    ∙ ap (λ l. pos (digits_value 10 l)) (plain_sign x digits minus plus)

-- what is read after a sign is what the token stands for
pub value_of_token : (token : List ℕ) (number : ℤ) → IsNumberToken token number → IsNumeral 10 (without_leading_sign token) × (signed_digits_value 10 token ≡ number)
value_of_token [] number (inl (numeral, is)) = absurd (omega (arith, numeral.0))
value_of_token (x ∷ digits) number (inl (numeral, is)) =
    let r = range_from_digit x numeral.1.0 in
    let minus : (x == 45) ≡ false = grind (arith, nat_tests) in
    let plus : (x == 43) ≡ false = grind (arith, nat_tests) in
    (subst (IsNumeral 10) (sym (plain_sign x digits minus plus)) numeral, plain_value x digits minus plus ∙ sym is)
value_of_token token number (inr (digits, split, numeral, is)) =
    subst (λ t. IsNumeral 10 (without_leading_sign t) × (signed_digits_value 10 t ≡ number)) (sym split) (numeral, sym is)

-- and the other way round, where no plus stands first
token_from_value : (token : List ℕ) → slice_index token 0 ≢ 43 → IsNumeral 10 (without_leading_sign token) → IsNumberToken token (signed_digits_value 10 token)
token_from_value [] first numeral = absurd (omega (arith, numeral.0))
token_from_value (x ∷ digits) first numeral = by (x == 45) refl
  where
    plus : (x == 43) ≡ false
    plus = grind (arith, nat_tests)

    by : (b : Bool) → (x == 45) ≡ b → IsNumberToken (x ∷ digits) (signed_digits_value 10 (x ∷ digits))
    by true e =
        let behind : without_leading_sign (x ∷ digits) ≡ digits = ap (λ b. cond b digits (without_leading_plus (x ∷ digits))) e in
        inr (
          digits,
          ap (λ y. y ∷ digits) (eqb-true x 45 e),
          subst (IsNumeral 10) behind numeral,
          ap (λ b. cond b (neg_ℤ (pos (digits_value 10 (without_leading_sign (x ∷ digits))))) (pos (digits_value 10 (without_leading_sign (x ∷ digits))))) e ∙ ap
              (λ l. neg_ℤ (pos (digits_value 10 l))) behind,
        )
    by false e = inl (subst (IsNumeral 10) (plain_sign x digits e plus) numeral, plain_value x digits e plus)

first_of_take : (n x : ℕ) (xs : List ℕ) → slice_index (take n (x ∷ xs)) 0 ≡ 43 → (x ≡ 43) × (0 < n)
first_of_take zero x xs e = absurd (omega (arith, e))
first_of_take (suc n) x xs e = (e, omega arith)

no_plus : (bytes : List ℕ) → slice_index (take (end_of bytes) bytes) 0 ≢ 43
no_plus [] e = absurd (omega (arith, e))
no_plus (x ∷ xs) e =
    let first = first_of_take (end_of (x ∷ xs)) x xs e in
    let none : 0 < 0 = subst (λ y. 0 < end_of (y ∷ xs)) first.0 first.1 in
    absurd (omega (arith, none))

IsAscii-after_minus : (digits : List ℕ) → AllDigits 10 digits → IsAscii (45 ∷ digits)
IsAscii-after_minus digits each zero = omega arith
IsAscii-after_minus digits each (suc i) = IsAscii-from_digits digits each i

IsAscii-token : (token : List ℕ) (number : ℤ) → IsNumberToken token number → IsAscii token
IsAscii-token token number (inl (numeral, is)) = IsAscii-from_digits token numeral.1
IsAscii-token token number (inr (digits, split, numeral, is)) = subst IsAscii (sym split) (IsAscii-after_minus digits numeral.1)

pub fits_from_number : (number : ℤ) → IsNumberValue number → FitsSigned w64 number
fits_from_number (pos n) small = record { sfits = small }
fits_from_number (negsuc n) small = record { sfits = small }

number_from_fits : (number : ℤ) → FitsSigned w64 number → IsNumberValue number
number_from_fits (pos n) fits = fits.sfits
number_from_fits (negsuc n) fits = fits.sfits

-- a number token at the front is the minus and the digits there
pub front_is : (bytes : List ℕ) (end : ℕ) (number : ℤ) → (t : ValueTokenAt bytes 0 end (Num number)) → t.token ≡ take (end_of bytes) bytes
front_is bytes end number t =
    sym (ap (λ n. take n bytes) (ap end_of t.splits ∙ end_of_token t.token t.rest number t.stands t.whole) ∙ ap (take (length t.token)) t.splits ∙ take-append_seam t.token t.rest)

pub front_utf8 : (bytes : List ℕ) (end : ℕ) (number : ℤ) → ValueTokenAt bytes 0 end (Num number) → IsUtf8 (take (end_of bytes) bytes)
front_utf8 bytes end number t = subst IsUtf8 (front_is bytes end number t) (IsUtf8-from_ascii t.token (IsAscii-token t.token number t.stands))

pub front_parses : {E : Type 0} (bytes text : List ℕ) (end : ℕ) (number : ℤ) (r : Result ℤ E) → text ≡ take (end_of bytes) bytes → ParsesSigned w64 10 text r
    → ValueTokenAt bytes 0 end (Num number) → r ≡ Ok number
front_parses bytes text end number r is parses t =
    let v = subst (λ l. IsNumeral 10 (without_leading_sign l) × (signed_digits_value 10 l ≡ number)) (front_is bytes end number t ∙ sym is) (value_of_token t.token number t.stands) in
    Ok-from_Ok_iff r _ _ parses (v.0, subst (FitsSigned w64) (sym v.1) (fits_from_number number t.fits)) ∙ ap Ok v.1

token_at : (bytes : List ℕ) (end : ℕ) → end ≡ end_of bytes → IsNumeral 10 (without_leading_sign (take end bytes)) → IsNumberToken (take end bytes) (signed_digits_value 10 (take end bytes))
token_at bytes end at =
    token_from_value (take end bytes) (subst (λ n. slice_index (take n bytes) 0 ≢ 43) (sym at) (no_plus bytes))

pub parsed_front : {E : Type 0} (bytes text : List ℕ) (end : ℕ) (number : ℤ) (r : Result ℤ E) → end ≡ end_of bytes → end ≤ length bytes → text ≡ take end bytes
    → ParsesSigned w64 10 text r → r ≡ Ok number → ValueTokenAt bytes 0 end (Num number)
parsed_front bytes text end number r at within is parses ok =
    let p = OkIff-at_ok r _ _ number parses ok in
    record {
      token = take end bytes;
      rest = drop end bytes;
      splits = sym (take-append-drop end bytes);
      ends = sym (length-take-le end bytes within) ∙ sym (zero-add (length (take end bytes)));
      stands = subst (IsNumberToken (take end bytes)) (sym p.1) (subst (λ l. IsNumeral 10 (without_leading_sign l) → IsNumberToken (take end bytes) (signed_digits_value 10 l)) (sym is)
          (token_at bytes end at) p.0.0);
      whole = subst (λ n. IsNoDigit (drop n bytes)) (sym at) (behind_end bytes);
      fits = number_from_fits number (subst (FitsSigned w64) (sym p.1) p.0.1);
    }

pub none_ok : {T E A : Type 0} (r : Result T E) (x : T) → result_ok r ≡ None → r ≡ Ok x → A
none_ok r x none e = let f = sym none ∙ ap result_ok e in cc

pub err_utf8 : {T E A : Type 0} (P : T → Type 0) (U : Type 0) (V : E → Type 0) (r : Result T E) → result_ok r ≡ None → MatchResult r P (λ e. ¬ U × V e) → U → A
err_utf8 P U V (Ok x) none cases u = let f = none in cc
err_utf8 P U V (Err e) none cases u = absurd (cases.0 u)

-- one digit more after those before it
value_of_digit : (c : ℕ) → is_ascii_digit c ≡ true → digit_value c ≡ c - 48
value_of_digit c h = grind (arith, nat_tests)

pub one_digit_more : (digits : List ℕ) (i number : ℕ) → i < length digits → is_ascii_digit (get_or digits i 0) ≡ true → number ≡ digits_value 10 (take i digits)
    → 10 * number + (get_or digits i 0 - 48) ≡ digits_value 10 (take (i + 1) digits)
one_digit_more digits i number within digit is =
    let value = value_of_digit (get_or digits i 0) digit in
    let more = digits_value_more 10 digits i within in
    omega (arith, is, value, more)

pub all_digits_more : (digits : List ℕ) (i : ℕ) → i < length digits → AllDigits 10 (take i digits) → digit_value (get_or digits i 0) < 10 → AllDigits 10 (take (i + 1) digits)
all_digits_more [] i within each digit = absurd (omega (arith, within))
all_digits_more (x ∷ xs) zero within each digit = (digit, tt)
all_digits_more (x ∷ xs) (suc i) within each digit =
    let more : suc (i + 1) ≡ suc i + 1 = omega arith in
    subst (λ n. AllDigits 10 (take n (x ∷ xs))) more (each.0, all_digits_more xs i (omega (arith, within)) each.1 digit)

-- as many digits as there are, with no digit after them, are the digits at the front
pub digits_end : (xs : List ℕ) (count : ℕ) → count ≤ length xs → AllDigits 10 (take count xs) → (count < length xs → is_ascii_digit (get_or xs count 0) ≡ false) → prefix_len is_ascii_digit xs ≡ count
digits_end [] count within each end = omega (arith, within)
digits_end (x ∷ xs) zero within each end =
    ap (λ b. cond b (1 + prefix_len is_ascii_digit xs) 0) (end (omega arith))
digits_end (x ∷ xs) (suc count) within each end =
    let r = range_from_digit x each.0 in
    ap (λ b. cond b (1 + prefix_len is_ascii_digit xs) 0) (test_from_range x r.0 r.1) ∙ one_more _
    ∙ ap suc (digits_end xs count (omega (arith, within)) each.1 (λ below. end (omega (arith, below))))

-- and never more of them than those
pub digits_within : (xs : List ℕ) (count : ℕ) → count ≤ length xs → AllDigits 10 (take count xs) → count ≤ prefix_len is_ascii_digit xs
digits_within xs zero within each = omega arith
digits_within [] (suc count) within each = absurd (omega (arith, within))
digits_within (x ∷ xs) (suc count) within each =
    let r = range_from_digit x each.0 in
    let first : prefix_len is_ascii_digit (x ∷ xs) ≡ 1 + prefix_len is_ascii_digit xs = ap (λ b. cond b (1 + prefix_len is_ascii_digit xs) 0) (test_from_range x r.0 r.1) in
    let rest = digits_within xs count (omega (arith, within)) each.1 in omega (arith, first, rest)

-- a number that begins with no minus is written by all digits at its place
plain_numeral : (bytes : List ℕ) (at end number : ℕ) → slice_index bytes at ≢ 45 → (t : ValueTokenAt bytes at end (Num (pos number))) → IsNumeral 10 t.token
    × (number ≡ digits_value 10 t.token) × (prefix_len is_ascii_digit (drop at bytes) ≡ length t.token)
plain_numeral bytes at end number first t = by t.token t.splits t.stands
  where
    by : (token : List ℕ) → drop at bytes ≡ token ++ t.rest → IsNumberToken token (pos number) → IsNumeral 10 token × (number ≡ digits_value 10 token)
        × (prefix_len is_ascii_digit (drop at bytes) ≡ length token)
    by token splits (inl (numeral, is)) =
        (numeral, cc, ap (prefix_len is_ascii_digit) splits ∙ all_digits token t.rest numeral.1 t.whole)
    by token splits (inr (digits, split, numeral, is)) =
        let there : get_or (drop at bytes) 0 0 ≡ 45 = ap (λ l. get_or l 0 0) (splits ∙ ap (λ l. l ++ t.rest) split) in
        absurd (first (ap (λ n. get_or bytes n 0) (sym (add-zero at)) ∙ sym (get_or-drop at bytes 0 0) ∙ there))

-- so digits at its place write no more than it
pub no_larger : (bytes : List ℕ) (at end number count : ℕ) → slice_index bytes at ≢ 45 → ValueTokenAt bytes at end (Num (pos number)) → count ≤ length (drop at bytes)
    → AllDigits 10 (take count (drop at bytes)) → digits_value 10 (take count (drop at bytes)) < 2 ^ 63
no_larger bytes at end number count first t within each =
    let numeral = plain_numeral bytes at end number first t in
    let most : count ≤ length t.token = subst (λ n. count ≤ n) numeral.2 (digits_within (drop at bytes) count within each) in
    let cut = ap (take count) t.splits ∙ take-append-le count t.token t.rest most in
    let lower = digits_value-take-le 10 t.token count (omega arith) in
    let fits : number < 2 ^ 63 = t.fits in
    let same = numeral.1 in
    subst (λ l. digits_value 10 l < 2 ^ 63) (sym cut) (omega (arith, lower, fits, same))

-- and there is one at least
pub some_digit : (bytes : List ℕ) (at end number : ℕ) → slice_index bytes at ≢ 45 → ValueTokenAt bytes at end (Num (pos number)) → 0 < prefix_len is_ascii_digit (drop at bytes)
some_digit bytes at end number first t =
    let numeral = plain_numeral bytes at end number first t in
    let some : 0 < length t.token = numeral.0.0 in
    let all = numeral.2 in omega (arith, some, all)

-- the number that digits alone write is the token at their place
pub plain_token : (bytes : List ℕ) (at count number : ℕ) → count ≤ length (drop at bytes) → 0 < count → prefix_len is_ascii_digit (drop at bytes) ≡ count
    → AllDigits 10 (take count (drop at bytes)) → number ≡ digits_value 10 (take count (drop at bytes)) → number < 2 ^ 63 → ValueTokenAt bytes at (at + count) (Num (pos number))
plain_token bytes at count number within some all each is small =
    let rest = drop at bytes in
    let size = length-take-le count rest within in
    record {
      token = take count rest;
      rest = drop count rest;
      splits = sym (take-append-drop count rest);
      ends = ap (λ n. at + n) (sym size);
      stands = inl ((omega (arith, some, size), each), ap pos is);
      whole = subst (λ n. IsNoDigit (drop n rest)) all (behind_digits rest);
      fits = small;
    }

-- digits begin with a byte that is no minus
pub no_minus : (bytes : List ℕ) (at count : ℕ) → 0 < count → count ≤ length (drop at bytes) → AllDigits 10 (take count (drop at bytes)) → slice_index bytes at ≢ 45
no_minus bytes at zero some within each is = omega (arith, some)
no_minus bytes at (suc count) some within each is =
    by (drop at bytes) within each (get_or-drop at bytes 0 0 ∙ ap (λ n. get_or bytes n 0) (add-zero at) ∙ is)
  where
    by : (rest : List ℕ) → suc count ≤ length rest → AllDigits 10 (take (suc count) rest) → get_or rest 0 0 ≡ 45 → ⊥
    by [] within each is = omega (arith, within)
    by (x ∷ rest) within each is = let r = range_from_digit x each.0 in omega (arith, r.0, is)

-- the digits from a place on, where a loop stands
at_end : (bytes : List ℕ) (at end : ℕ) → at ≤ end → get_or (drop at bytes) (end - at) 0 ≡ get_or bytes end 0
at_end bytes at end onward =
    let there : at + (end - at) ≡ end = omega arith in
    get_or-drop at bytes (end - at) 0 ∙ ap (λ n. get_or bytes n 0) there

pub digit_more : (bytes : List ℕ) (at end number : ℕ) → at ≤ end → end < length bytes → is_ascii_digit (get_or bytes end 0) ≡ true → number
    ≡ digits_value 10 (take (end - at) (drop at bytes)) → AllDigits 10 (take (end - at) (drop at bytes))
    → (10 * number + (get_or bytes end 0 - 48) ≡ digits_value 10 (take (end + 1 - at) (drop at bytes))) × AllDigits 10 (take (end + 1 - at) (drop at bytes))
digit_more bytes at end number onward below digit is each =
    let size = length-drop at bytes in
    let within : end - at < length (drop at bytes) = omega (arith, size, onward, below) in
    let here = at_end bytes at end onward in
    let test = ap is_ascii_digit here ∙ digit in
    let next : end - at + 1 ≡ end + 1 - at = omega (arith, onward) in (
      ap (λ b. 10 * number + (b - 48)) (sym here) ∙ one_digit_more (drop at bytes) (end - at) number within test is ∙ ap (λ n. digits_value 10 (take n (drop at bytes))) next,
      subst (λ n. AllDigits 10 (take n (drop at bytes))) next (all_digits_more (drop at bytes) (end - at) within each (digit_from_test (get_or (drop at bytes) (end - at) 0) test)),
    )

pub all_passed : (bytes : List ℕ) (at end : ℕ) → at ≤ end → end ≤ length bytes → AllDigits 10 (take (end - at) (drop at bytes))
    → (end < length bytes → is_ascii_digit (get_or bytes end 0) ≡ false) → prefix_len is_ascii_digit (drop at bytes) ≡ end - at
all_passed bytes at end onward within each none =
    let size = length-drop at bytes in
    digits_end (drop at bytes) (end - at) (omega (arith, size, onward, within)) each
    (λ below. ap is_ascii_digit (at_end bytes at end onward) ∙ none (omega (arith, size, onward, within, below)))

pub within_rest : (bytes : List ℕ) (at end : ℕ) → end ≤ length bytes → end - at ≤ length (drop at bytes)
within_rest bytes at end within = let size = length-drop at bytes in omega (arith, size, within)
