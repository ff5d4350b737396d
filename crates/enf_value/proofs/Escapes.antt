-- The pieces of a text up to its last quote, found from the front.
use Rattle.enf_value.proofs.Vocabulary.{◌≡◌, ◌≢◌, ℕ, ◌<◌, ◌≤◌, ◌+◌, ◌==◌, Bool, true, false, inl, inr, List, [], ◌∷◌, ◌++◌, length, get_or, slice_index, take, drop, refl, sym, ap, subst, ◌∙◌, arith}
use Rattle.enf_value.proofs.Vocabulary.{append-nil, add-zero, if◌then◌else◌, suc, zero, Option, Some, None, eqb-true, eqb-false, nat_tests, drop_of_length-le, drop-cons, text_front, with_backslash}
use Rattle.enf_value.proofs.Vocabulary.{with_byte, with_escape, escape_meaning, IsWrittenText, WrittenTextAt}

-- after a text and the bytes that are written for it
abbrev pub behind : List ℕ → ℕ → Option (List ℕ × ℕ) → Option (List ℕ × ℕ)
behind text place None = None
behind text place (Some found) = Some (text ++ found.0, place + found.1)

from_byte : (byte : ℕ) (r : Option (List ℕ × ℕ)) (p : List ℕ × ℕ) → with_byte byte r ≡ Some p → (q : List ℕ × ℕ) × (r ≡ Some q) × ((byte ∷ q.0, suc q.1) ≡ p)
from_byte byte None p e = cc
from_byte byte (Some q) p e = (q, refl, cc)

from_escape : (m : Option ℕ) (r : Option (List ℕ × ℕ)) (p : List ℕ × ℕ) → with_escape m r ≡ Some p → (byte : ℕ) × (m ≡ Some byte) × (with_byte byte r ≡ Some p)
from_escape None r p e = cc
from_escape (Some byte) r p e = (byte, refl, e)

from_backslash : (r : Option (List ℕ × ℕ)) (p : List ℕ × ℕ) → with_backslash r ≡ Some p → (q : List ℕ × ℕ) × (r ≡ Some q) × ((q.0, suc q.1) ≡ p)
from_backslash None p e = cc
from_backslash (Some q) p e = (q, refl, cc)

written_plain : (byte : ℕ) (bytes text : List ℕ) (end : ℕ) → byte ≢ 34 → byte ≢ 92 → WrittenTextAt bytes end text → WrittenTextAt (byte ∷ bytes) (suc end) (byte ∷ text)
written_plain byte bytes text end quote backslash w = record {
  written = byte ∷ w.written;
  rest = w.rest;
  splits = ap (λ l. byte ∷ l) w.splits;
  ends = ap suc w.ends;
  pieces = (byte ∷ [], w.written, inl (refl, quote, backslash), w.pieces, refl);
}

-- bytes before the first quote or backslash, which is a quote, are written as they stand
pub plain_written : (bytes : List ℕ) (quote : ℕ) → quote < length bytes → ((k : ℕ) → k < quote → (slice_index bytes k ≢ 34) × (slice_index bytes k ≢ 92))
    → slice_index bytes quote ≡ 34 → WrittenTextAt bytes quote (take quote bytes)
plain_written [] quote within before is = absurd (omega (arith, within))
plain_written (byte ∷ bytes) zero within before is = record {
  written = [];
  rest = bytes;
  splits = ap (λ b. b ∷ bytes) is;
  ends = refl;
  pieces = refl;
}
plain_written (byte ∷ bytes) (suc quote) within before is =
    let apart = before 0 (omega arith) in
    written_plain byte bytes (take quote bytes) quote apart.0 apart.1
    (plain_written bytes quote (omega (arith, within)) (λ k below. before (suc k) (omega (arith, below))) is)

written_escape : (letter byte : ℕ) (bytes text : List ℕ) (end : ℕ) → escape_meaning letter ≡ Some byte → WrittenTextAt bytes end text
    → WrittenTextAt (92 ∷ letter ∷ bytes) (suc (suc end)) (byte ∷ text)
written_escape letter byte bytes text end is w = record {
  written = 92 ∷ letter ∷ w.written;
  rest = w.rest;
  splits = ap (λ l. 92 ∷ letter ∷ l) w.splits;
  ends = ap (λ n. suc (suc n)) w.ends;
  pieces = (92 ∷ letter ∷ [], w.written, inr (letter, refl, is), w.pieces, refl);
}

-- what is found stands there, after no backslash and after one
abbrev IsSound : List ℕ → Type 0
IsSound bytes =
    ((p : List ℕ × ℕ) → text_front false bytes ≡ Some p → WrittenTextAt bytes p.1 p.0)
    × ((p : List ℕ × ℕ) → text_front true bytes ≡ Some p → WrittenTextAt (92 ∷ bytes) (suc p.1) p.0)

sound_plain : (byte : ℕ) (bytes : List ℕ) (a b : Bool) → (byte == 34) ≡ a → (byte == 92) ≡ b → IsSound bytes → (p : List ℕ × ℕ)
    → (if a then Some ([], 0) else (if b then with_backslash (text_front true bytes) else with_byte byte (text_front false bytes))) ≡ Some p → WrittenTextAt (byte ∷ bytes) p.1 p.0
sound_plain byte bytes true b quote backslash rest p e =
    let is : ([], 0) ≡ p = cc in
    subst (λ q. WrittenTextAt (byte ∷ bytes) q.1 q.0) is
    (record { written = []; rest = bytes; splits = ap (λ x. x ∷ bytes) (eqb-true byte 34 quote); ends = refl; pieces = refl })
sound_plain byte bytes false true quote backslash rest p e =
    let q = from_backslash (text_front true bytes) p e in
    subst (λ r. WrittenTextAt (byte ∷ bytes) r.1 r.0) q.2 (subst (λ x. WrittenTextAt (x ∷ bytes) (suc q.0.1) q.0.0) (sym (eqb-true byte 92 backslash)) (rest.1 q.0 q.1))
sound_plain byte bytes false false quote backslash rest p e =
    let q = from_byte byte (text_front false bytes) p e in
    subst (λ r. WrittenTextAt (byte ∷ bytes) r.1 r.0) q.2 (written_plain byte bytes q.0.0 q.0.1 (eqb-false byte 34 quote) (eqb-false byte 92 backslash) (rest.0 q.0 q.1))

sound_escape : (letter : ℕ) (bytes : List ℕ) → IsSound bytes → (p : List ℕ × ℕ) → text_front true (letter ∷ bytes) ≡ Some p → WrittenTextAt (92 ∷ letter ∷ bytes) (suc p.1) p.0
sound_escape letter bytes rest p e =
    let m = from_escape (escape_meaning letter) (text_front false bytes) p e in
    let q = from_byte m.0 (text_front false bytes) p m.2 in
    subst (λ r. WrittenTextAt (92 ∷ letter ∷ bytes) (suc r.1) r.0) q.2 (written_escape letter m.0 bytes q.0.0 q.0.1 m.1 (rest.0 q.0 q.1))

sound : (bytes : List ℕ) → IsSound bytes
sound [] = (λ p e. cc, λ p e. cc)
sound (byte ∷ bytes) = (sound_plain byte bytes _ _ refl refl (sound bytes), sound_escape byte bytes (sound bytes))

pub written_from_scan : (bytes text : List ℕ) (end : ℕ) → text_front false bytes ≡ Some (text, end) → WrittenTextAt bytes end text
written_from_scan bytes text end e = (sound bytes).0 (text, end) e

-- and what stands there is found
finds : (text written rest : List ℕ) → IsWrittenText written text → text_front false (written ++ 34 ∷ rest) ≡ Some (text, length written)
finds [] written rest w = rw w refl
finds (byte ∷ text) written rest (piece, more, inl (plain, quote, backslash), pieces, split) =
    let tail = more ++ 34 ∷ rest in
    let no_quote : (byte == 34) ≡ false = grind (arith, nat_tests) in
    let no_backslash : (byte == 92) ≡ false = grind (arith, nat_tests) in
    subst (λ w. text_front false (w ++ 34 ∷ rest) ≡ Some (byte ∷ text, length w)) (sym (split ∙ ap (λ l. l ++ more) plain))
    (ap (λ b. if b then Some ([], 0) else (if byte == 92 then with_backslash (text_front true tail) else with_byte byte (text_front false tail))) no_quote
    ∙ ap (λ b. if b then with_backslash (text_front true tail) else with_byte byte (text_front false tail)) no_backslash
    ∙ ap (with_byte byte) (finds text more rest pieces))
finds (byte ∷ text) written rest (piece, more, inr (letter, plain, is), pieces, split) =
    subst (λ w. text_front false (w ++ 34 ∷ rest) ≡ Some (byte ∷ text, length w)) (sym (split ∙ ap (λ l. l ++ more) plain))
    (ap (λ m. with_backslash (with_escape m (text_front false (more ++ 34 ∷ rest)))) is
    ∙ ap (λ r. with_backslash (with_byte byte r)) (finds text more rest pieces))

pub scan_from_written : (bytes text : List ℕ) (end : ℕ) → WrittenTextAt bytes end text → text_front false bytes ≡ Some (text, end)
scan_from_written bytes text end w = ap (text_front false) w.splits ∙ finds text w.written w.rest w.pieces ∙ ap (λ n. Some (text, n)) (sym w.ends)

-- so there is one text at most
pub one_written : (bytes a b : List ℕ) (m n : ℕ) → WrittenTextAt bytes m a → WrittenTextAt bytes n b → (a ≡ b) × (m ≡ n)
one_written bytes a b m n v w =
    let e : ◌≡◌ {A = Option (List ℕ × ℕ)} (Some (a, m)) (Some (b, n)) = sym (scan_from_written bytes a m v) ∙ scan_from_written bytes b n w in
    let p : ◌≡◌ {A = List ℕ × ℕ} (a, m) (b, n) = cc in
    (ap (λ q. q.0) p, ap (λ q. q.1) p)

-- what a loop over the bytes knows where it stops: at a quote, at a letter of no meaning, at the end
pub scan_at_quote : (bytes : List ℕ) (place : ℕ) → place < length bytes → get_or bytes place 0 ≡ 34 → text_front false (drop place bytes) ≡ Some ([], 0)
scan_at_quote bytes place within is =
    ap (text_front false) (drop-cons bytes place 0 within ∙ ap (λ b. b ∷ drop (suc place) bytes) is)

pub scan_at_letter : (bytes : List ℕ) (place : ℕ) → place < length bytes → escape_meaning (get_or bytes place 0) ≡ None → text_front true (drop place bytes) ≡ None
scan_at_letter bytes place within none =
    ap (text_front true) (drop-cons bytes place 0 within) ∙ ap (λ m. with_escape m (text_front false (drop (suc place) bytes))) none

pub scan_at_end : (escape : Bool) (bytes : List ℕ) (place : ℕ) → length bytes ≤ place → text_front escape (drop place bytes) ≡ None
scan_at_end true bytes place past = ap (text_front true) (drop_of_length-le bytes past)
scan_at_end false bytes place past = ap (text_front false) (drop_of_length-le bytes past)

pub written_at_quote : (bytes text : List ℕ) (place : ℕ) (r : Option (List ℕ × ℕ)) → text_front false bytes ≡ behind text place r → r ≡ Some ([], 0) → WrittenTextAt bytes place text
written_at_quote bytes text place r known found =
    written_from_scan bytes text place (known ∙ ap (behind text place) found ∙ (λ j. Some (append-nil text j, add-zero place j)))

pub not_written : (bytes text : List ℕ) (place : ℕ) (r : Option (List ℕ × ℕ)) → text_front false bytes ≡ behind text place r → r ≡ None → (t : List ℕ) (end : ℕ) → WrittenTextAt bytes end t → ⊥
not_written bytes text place r known none t end w =
    let e = sym (scan_from_written bytes t end w) ∙ known ∙ ap (behind text place) none in cc
