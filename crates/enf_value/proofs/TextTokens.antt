-- The tokens at the front of bytes: a quote begins a text and no number, and tokens stand at a place as they stand at the front of what follows it.
use Rattle.enf_value.proofs.Vocabulary.{◌≡◌, ◌≢◌, ℕ, ◌+◌, ◌-◌, ℤ, inl, inr, List, [], ◌∷◌, ◌++◌, length, slice_index, take, drop, refl, sym, ap, subst, ◌∙◌, arith, append_assoc, length-append}
use Rattle.enf_value.proofs.Vocabulary.{length-drop, Option, Some, None, MatchOption, IfNone, Result, Ok, Err, IfOk, ◌≤◌, length-take, IsSomeAnd, IsAscii, nat_tests, take_all, IsUtf8-from_ascii}
use Rattle.enf_value.proofs.Vocabulary.{IsTextValue, IsNumberToken, IsTextToken, ValueTokenAt, WrittenTextAt, MOST_TEXT_BYTES, Value, Num, Text}
use Rattle.enf_value.proofs.Escapes.{one_written}

pub token_from_written : (bytes text : List ℕ) (quote : ℕ) → slice_index bytes 0 ≡ 34 → WrittenTextAt (drop 1 bytes) quote text → IsTextValue text → ValueTokenAt bytes 0 (quote + 2) (Text text)
token_from_written [] text quote first w fits = absurd (omega (arith, first))
token_from_written (x ∷ bytes) text quote first w fits = record {
  token = 34 ∷ w.written ++ 34 ∷ [];
  rest = w.rest;
  splits = λ j. first j ∷ (w.splits ∙ sym (append_assoc w.written (34 ∷ []) w.rest)) j;
  ends = omega (arith, w.ends, length-append w.written (34 ∷ []));
  stands = (w.written, refl, w.pieces);
  whole = tt;
  fits = fits;
}

pub written_from_text : (bytes token rest text : List ℕ) → bytes ≡ token ++ rest → IsTextToken token text → (quote : ℕ) × WrittenTextAt (drop 1 bytes) quote text × (length token ≡ quote + 2)
written_from_text bytes token rest text splits (written, split, pieces) = (
  length written,
  record {
    written = written;
    rest = rest;
    splits = ap (drop 1) (splits ∙ ap (λ l. l ++ rest) split) ∙ append_assoc written (34 ∷ []) rest;
    ends = refl;
    pieces = pieces;
  },
  omega (arith, ap length split, length-append written (34 ∷ [])),
)

pub written_from_token : (bytes text : List ℕ) (end : ℕ) → ValueTokenAt bytes 0 end (Text text) → (quote : ℕ) × WrittenTextAt (drop 1 bytes) quote text × (end ≡ quote + 2)
written_from_token bytes text end t =
    let w = written_from_text bytes t.token t.rest text t.splits t.stands in
    (w.0, w.1, omega (arith, t.ends, w.2))

pub text_begins : (bytes text : List ℕ) (end : ℕ) → ValueTokenAt bytes 0 end (Text text) → slice_index bytes 0 ≡ 34
text_begins bytes text end t = ap (λ l. slice_index l 0) (t.splits ∙ ap (λ l. l ++ t.rest) t.stands.1)

pub number_first : (token rest : List ℕ) (number : ℤ) → IsNumberToken token number → slice_index (token ++ rest) 0 ≢ 34
number_first [] rest number (inl (numeral, is)) e = omega (arith, numeral.0)
number_first (x ∷ digits) rest number (inl (numeral, is)) e =
    let h = numeral.1.0 in grind (arith, nat_tests)
number_first token rest number (inr (digits, split, numeral, is)) e =
    let f : 45 ≡ 34 = sym (ap (λ l. slice_index (l ++ rest) 0) split) ∙ e in omega (arith, f)

pub number_begins : (bytes : List ℕ) (end : ℕ) (number : ℤ) → ValueTokenAt bytes 0 end (Num number) → slice_index bytes 0 ≢ 34
number_begins bytes end number t e =
    number_first t.token t.rest number t.stands (sym (ap (λ l. slice_index l 0) t.splits) ∙ e)

pub token_at_place : (bytes : List ℕ) (at end : ℕ) (value : Value) → ValueTokenAt (drop at bytes) 0 end value → ValueTokenAt bytes at (at + end) value
token_at_place bytes at end value t = record {
  token = t.token;
  rest = t.rest;
  splits = t.splits;
  ends = omega (arith, t.ends);
  stands = t.stands;
  whole = t.whole;
  fits = t.fits;
}

pub token_at_front : (bytes : List ℕ) (at end : ℕ) (value : Value) → (t : ValueTokenAt bytes at end value) → ValueTokenAt (drop at bytes) 0 (length t.token) value
token_at_front bytes at end value t = record {
  token = t.token;
  rest = t.rest;
  splits = t.splits;
  ends = omega arith;
  stands = t.stands;
  whole = t.whole;
  fits = t.fits;
}

-- what `&bytes[at..]` is
pub slice_from : (bytes : List ℕ) (at : ℕ) → take (length bytes - at) (drop at bytes) ≡ drop at bytes
slice_from bytes at = take_all (length bytes - at) (drop at bytes) (omega (arith, length-drop at bytes))

-- where a text begins there is no number, and elsewhere no text
pub none_from_texts : (bytes : List ℕ) → slice_index bytes 0 ≡ 34 → ((text : List ℕ) (end : ℕ) → ValueTokenAt bytes 0 end (Text text) → ⊥) → (value : Value) (end : ℕ)
    → ValueTokenAt bytes 0 end value → ⊥
none_from_texts bytes first none (Num number) end t = number_begins bytes end number t first
none_from_texts bytes first none (Text text) end t = none text end t

pub none_from_numbers : (bytes : List ℕ) → slice_index bytes 0 ≢ 34 → ((number : ℤ) (end : ℕ) → ValueTokenAt bytes 0 end (Num number) → ⊥) → (value : Value) (end : ℕ)
    → ValueTokenAt bytes 0 end value → ⊥
none_from_numbers bytes first none (Num number) end t = none number end t
none_from_numbers bytes first none (Text text) end t = first (text_begins bytes text end t)

-- what `None` says stands when the value in a `Some` alone is changed
pub none_through : {A B : Type 0} (P R : Type 0) (Q : A → B → Type 0) (r : Option A) (s : Option B) → MatchOption r (s ≡ None) (λ x. IsSomeAnd s (Q x)) → IfNone r P → (P → R) → IfNone s R
none_through P R Q None s is p f = subst (λ t. IfNone t R) (sym is) (f p)
none_through P R Q (Some x) None is p f = absurd is
none_through P R Q (Some x) (Some y) is p f = tt

-- what is said of nothing read says what follows from it
pub none_onward : {A E : Type 0} (P R : Type 0) (r : Result (Option A) E) → IfOk r (λ found. IfNone found P) → (P → R) → IfOk r (λ found. IfNone found R)
none_onward P R (Ok None) p f = f p
none_onward P R (Ok (Some x)) p f = tt
none_onward P R (Err e) p f = tt

-- few bytes that are ASCII are a text
pub text_from_ascii : (bytes : List ℕ) (quote : ℕ) → quote ≤ MOST_TEXT_BYTES → IsAscii (take quote bytes) → IsTextValue (take quote bytes)
text_from_ascii bytes quote short ascii = record {
  utf8 = IsUtf8-from_ascii (take quote bytes) ascii;
  short = omega (arith, length-take quote bytes, short);
}

-- there is no token where the text that is written there is refused
pub none_from_refused : (bytes text : List ℕ) (quote : ℕ) → WrittenTextAt (drop 1 bytes) quote text → (IsTextValue text → ⊥) → (other : List ℕ) (end : ℕ) → ValueTokenAt bytes 0 end (Text other) → ⊥
none_from_refused bytes text quote w refused other end t =
    let o = written_from_token bytes other end t in
    let same = one_written (drop 1 bytes) other text o.0 quote o.1 w in
    refused (subst IsTextValue same.0 t.fits)
