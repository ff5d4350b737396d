-- What is printed is a token, one token begins at a place, and it is the longest.
use Rattle.enf_value.proofs.Vocabulary.{◌≡◌, ℕ, ◌<◌, ◌==◌, ℤ, pos, negsuc, neg_ℤ, Bool, true, false, inl, inr, List, [], ◌∷◌, ◌++◌, length, slice_index, drop, refl, sym, ap, subst, ◌∙◌, arith, suc}
use Rattle.enf_value.proofs.Vocabulary.{if◌then◌else◌, Some, digit_value, flat_map, signed_decimal, AllDigits, eqb-true, eqb-false, decimal_is_IsNumeral, cancel_front, escaped, spelled, IsNumberToken}
use Rattle.enf_value.proofs.Vocabulary.{IsValueToken, IsWrittenByte, IsWrittenText, IsNoDigit, ValueTokenAt, EndsBefore, IsNumberValue, IsValue, PrintedIsToken, OneTokenAtPlace, TokenIsLongest, Value}
use Rattle.enf_value.proofs.Vocabulary.{Num, Text}
use Rattle.enf_value.proofs.Escapes.{one_written}
use Rattle.enf_value.proofs.Numerals.{front_is, value_of_token, range_from_digit}
use Rattle.enf_value.proofs.TextTokens.{token_at_front, written_from_text, written_from_token, number_begins, number_first, text_begins}

number_printed : (number : ℤ) → IsNumberValue number → IsNumberToken (signed_decimal number) number
number_printed (pos n) small =
    let d = decimal_is_IsNumeral n (omega arith) in inl (d.0, ap pos (sym d.1))
number_printed (negsuc n) small =
    let d = decimal_is_IsNumeral (suc n) (omega arith) in inr (_, refl, d.0, ap (λ m. neg_ℤ (pos m)) (sym d.1))

piece_printed : (byte : ℕ) → IsWrittenByte (escaped byte) byte
piece_printed byte = by (byte == 34) (byte == 92) (byte == 10) (byte == 13) (byte == 9) refl refl refl refl refl
  where
    by : (a b c d e : Bool) → (byte == 34) ≡ a → (byte == 92) ≡ b → (byte == 10) ≡ c → (byte == 13) ≡ d → (byte == 9) ≡ e →
        IsWrittenByte (if a then 92 ∷ 34 ∷ [] else (if b then 92 ∷ 92 ∷ [] else (if c then 92 ∷ 110 ∷ [] else (if d then 92 ∷ 114 ∷ [] else (if e then 92 ∷ 116 ∷ [] else byte ∷ []))))) byte
    by true b c d e p q r s t = inr (34, refl, ap Some (sym (eqb-true byte 34 p)))
    by false true c d e p q r s t = inr (92, refl, ap Some (sym (eqb-true byte 92 q)))
    by false false true d e p q r s t = inr (110, refl, ap Some (sym (eqb-true byte 10 r)))
    by false false false true e p q r s t = inr (114, refl, ap Some (sym (eqb-true byte 13 s)))
    by false false false false true p q r s t = inr (116, refl, ap Some (sym (eqb-true byte 9 t)))
    by false false false false false p q r s t = inl (refl, eqb-false byte 34 p, eqb-false byte 92 q)

text_printed : (text : List ℕ) → IsWrittenText (flat_map escaped text) text
text_printed [] = refl
text_printed (byte ∷ text) = (escaped byte, flat_map escaped text, piece_printed byte, text_printed text, refl)

printed : (value : Value) → IsValue value → IsValueToken (spelled value) value
printed (Num number) fits = number_printed number fits
printed (Text text) fits = (flat_map escaped text, refl, text_printed text)

pub is_printed : PrintedIsToken
is_printed bytes at value rest fits ends splits = record {
  token = spelled value;
  rest = rest;
  splits = splits;
  ends = refl;
  stands = printed value fits;
  whole = ends;
  fits = fits;
}

one_front : (bytes : List ℕ) (m n : ℕ) (a b : Value) → ValueTokenAt bytes 0 m a → ValueTokenAt bytes 0 n b → (a ≡ b) × (m ≡ n)
one_front bytes m n (Num x) (Num y) s t =
    let same = front_is bytes m x s ∙ sym (front_is bytes n y t) in
    let v = value_of_token s.token x s.stands in
    let w = subst (λ l. IsNumberToken l y) (sym same) t.stands in
    (ap Num (sym v.1 ∙ (value_of_token s.token y w).1), omega (arith, s.ends, t.ends, ap length same))
one_front bytes m n (Num x) (Text text) s t = absurd (number_begins bytes m x s (text_begins bytes text n t))
one_front bytes m n (Text text) (Num y) s t = absurd (number_begins bytes n y t (text_begins bytes text m s))
one_front bytes m n (Text u) (Text w) s t =
    let f = written_from_token bytes u m s in
    let g = written_from_token bytes w n t in
    let same = one_written (drop 1 bytes) u w f.0 g.0 f.1 g.1 in
    (ap Text same.0, omega (arith, f.2, g.2, same.1))

pub is_one : OneTokenAtPlace
is_one bytes at m n a b s t =
    let same = one_front (drop at bytes) (length s.token) (length t.token) a b (token_at_front bytes at m a s) (token_at_front bytes at n b t) in
    (same.0, omega (arith, s.ends, t.ends, same.1))

-- a longer front of the same bytes is the shorter one and more
more_of : (a x b y : List ℕ) → a ++ x ≡ b ++ y → length a < length b → (byte : ℕ) × (more : List ℕ) × (b ≡ a ++ byte ∷ more) × (x ≡ byte ∷ more ++ y)
more_of a x [] y e short = absurd (omega (arith, short))
more_of [] x (byte ∷ more) y e short = (byte, more, refl, e)
more_of (c ∷ a) x (byte ∷ b) y e short =
    let r = more_of a x b y (ap (drop 1) e) (omega arith) in
    let first : c ≡ byte = ap (λ l. slice_index l 0) e in
    (r.0, r.1, (λ j. sym first j ∷ r.2 j), r.3)

digit_within : (digits : List ℕ) (byte : ℕ) (more : List ℕ) → AllDigits 10 (digits ++ byte ∷ more) → digit_value byte < 10
digit_within [] byte more each = each.0
digit_within (x ∷ digits) byte more each = digit_within digits byte more each.1

digit_behind : (token : List ℕ) (byte : ℕ) (more : List ℕ) (a b : ℤ) → IsNumberToken token a → IsNumberToken (token ++ byte ∷ more) b → digit_value byte < 10
digit_behind token byte more a b (inl (numeral, is)) (inl (longer, value)) = digit_within token byte more longer.1
digit_behind [] byte more a b (inl (numeral, is)) (inr (digits, split, longer, value)) = absurd (omega (arith, numeral.0))
digit_behind (x ∷ token) byte more a b (inl (numeral, is)) (inr (digits, split, longer, value)) =
    let r = range_from_digit x numeral.1.0 in
    let first : x ≡ 45 = ap (λ l. slice_index l 0) split in
    absurd (omega (arith, r.0, first))
digit_behind token byte more a b (inr (digits, split, numeral, is)) (inl (longer, value)) =
    let each = subst (λ l. AllDigits 10 (l ++ byte ∷ more)) split longer.1 in
    absurd (omega (arith, each.0))
digit_behind token byte more a b (inr (digits, split, numeral, is)) (inr (longer, whole, each, value)) =
    let e : digits ++ byte ∷ more ≡ longer = ap (drop 1) (sym (ap (λ l. l ++ byte ∷ more) split) ∙ whole) in
    digit_within digits byte more (subst (AllDigits 10) (sym e) each.1)

longest_front : (bytes : List ℕ) (end : ℕ) (value other : Value) (piece rest : List ℕ) → (t : ValueTokenAt bytes 0 end value) → bytes ≡ piece ++ rest → end < length piece
    → IsValueToken piece other → ⊥
longest_front bytes end (Num x) (Num y) piece rest t splits longer stands =
    let m = more_of t.token t.rest piece rest (sym t.splits ∙ splits) (omega (arith, t.ends, longer)) in
    let digit = digit_behind t.token m.0 m.1 x y t.stands (subst (λ l. IsNumberToken l y) m.2 stands) in
    let r = range_from_digit m.0 digit in
    subst IsNoDigit m.3 t.whole r.0 r.1
longest_front bytes end (Num x) (Text text) piece rest t splits longer stands =
    number_begins bytes end x t (ap (λ l. slice_index l 0) (splits ∙ ap (λ l. l ++ rest) stands.1))
longest_front bytes end (Text text) (Num y) piece rest t splits longer stands =
    number_first piece rest y stands (sym (ap (λ l. slice_index l 0) splits) ∙ text_begins bytes text end t)
longest_front bytes end (Text u) (Text w) piece rest t splits longer stands =
    let f = written_from_text bytes t.token t.rest u t.splits t.stands in
    let g = written_from_text bytes piece rest w splits stands in
    let same = one_written (drop 1 bytes) u w f.0 g.0 f.1 g.1 in
    omega (arith, f.2, g.2, same.1, t.ends, longer)

pub is_longest : TokenIsLongest
is_longest bytes at end value other piece rest t splits longer stands =
    longest_front (drop at bytes) (length t.token) value other piece rest (token_at_front bytes at end value t) splits (omega (arith, t.ends, longer)) stands

-- at one place one value stands
pub one_value : PrintedIsToken → OneTokenAtPlace → (v w : Value) (a b : List ℕ) → IsValue v → IsValue w → EndsBefore v a → EndsBefore w b → spelled v ++ a ≡ spelled w ++ b → (v ≡ w) × (a ≡ b)
one_value printed one v w a b fits also ends too e =
    let same : v ≡ w = (one (spelled v ++ a) 0 _ _ v w (printed (spelled v ++ a) 0 v a fits ends refl) (printed (spelled v ++ a) 0 w b also too e)).0 in
    (same, cancel_front (spelled w) a b (ap (λ x. spelled x ++ a) (sym same) ∙ e))
