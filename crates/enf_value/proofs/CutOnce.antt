-- A text is cut in one way only.
use Rattle.enf_value.proofs.Vocabulary.{◌≡◌, ℕ, suc, ◌+◌, ◌<◌, true, List, [], ◌∷◌, ◌++◌, length, slice_index, take, drop, ◌⊎◌, inl, inr, refl, sym, ap, subst, ◌∙◌, arith, append_assoc, append-nil}
use Rattle.enf_value.proofs.Vocabulary.{length-append, list_all, drop-append_seam, take-append_seam, false≢true as differ, and_parts, Token, TokenAtPlace, WordToken, NumberToken, NegativeToken}
use Rattle.enf_value.proofs.Vocabulary.{TextToken, SymbolToken, WrongToken, is_blank, is_comment_byte, tokens, IsProper, BeginsToken, AreCut, IsTokenGap, NoGap, BlankGap, CommentGap, IsInComment}
use Rattle.enf_value.proofs.Vocabulary.{IsLastTokenGap, ClosedGap, CommentToEnd, IsLongestToken, IsWrongAt, SpellsToken, StandsBehindGap, OneCut}
use Rattle.enf_value.proofs.Cut.{lt_or_eq, texts_are_cut}
use Rattle.enf_value.proofs.Shapes.{Shape, Spelled, shape}
use Rattle.enf_value.proofs.Spelled.{spells_starts}

-- ---- gaps

-- what can stand after all of a gap: nothing, an open comment, or a token
data Tail : List ℕ → Type 0 where
  End : Tail []
  OpenComment : (inside : List ℕ) → IsInComment inside → Tail (35 ∷ inside)
  Begins : (byte : ℕ) (rest : List ℕ) → BeginsToken byte → Tail (byte ∷ rest)

first_of : {x y : ℕ} {xs ys : List ℕ} → x ∷ xs ≡ y ∷ ys → x ≡ y
first_of e = ap (λ l. slice_index l 0) e

rest_of : {x y : ℕ} {xs ys : List ℕ} → x ∷ xs ≡ y ∷ ys → xs ≡ ys
rest_of e = ap (drop 1) e

not_nil : (x : ℕ) (xs : List ℕ) → [] ≡ x ∷ xs → ⊥
not_nil x xs e = omega (arith, ap length e)

-- no line feed stands inside a comment
no_feed : (inside before after : List ℕ) → IsInComment inside → inside ≡ before ++ 10 ∷ after → ⊥
no_feed [] [] after each e = not_nil 10 after e
no_feed [] (x ∷ before) after each e = not_nil x (before ++ 10 ∷ after) e
no_feed (byte ∷ inside) [] after each e =
    differ (sym (ap is_comment_byte (first_of e)) ∙ (and_parts (is_comment_byte byte) (list_all is_comment_byte inside) each).0)
no_feed (byte ∷ inside) (x ∷ before) after each e =
    no_feed inside before after (and_parts (is_comment_byte byte) (list_all is_comment_byte inside) each).1 (rest_of e)

no_blank : (tail : List ℕ) (byte : ℕ) (rest : List ℕ) → Tail tail → tail ≡ byte ∷ rest → is_blank byte ≡ true → ⊥
no_blank tail byte rest End e blank = not_nil byte rest e
no_blank tail byte rest (OpenComment inside each) e blank = differ (ap is_blank (first_of e) ∙ blank)
no_blank tail byte rest (Begins first more begins) e blank = differ (sym begins.0 ∙ ap is_blank (first_of e) ∙ blank)

no_comment : (tail inside after : List ℕ) → Tail tail → tail ≡ 35 ∷ (inside ++ 10 ∷ after) → ⊥
no_comment tail inside after End e = not_nil 35 (inside ++ 10 ∷ after) e
no_comment tail inside after (OpenComment all each) e = no_feed all inside after each (rest_of e)
no_comment tail inside after (Begins first more begins) e = begins.1 (first_of e)

same_inside : (i j x y : List ℕ) → IsInComment i → IsInComment j → i ++ 10 ∷ x ≡ j ++ 10 ∷ y → (length i ≡ length j) × (x ≡ y)
same_inside [] [] x y first second e = (refl, rest_of e)
same_inside [] (byte ∷ j) x y first second e =
    absurd (differ (ap is_comment_byte (first_of e) ∙ (and_parts (is_comment_byte byte) (list_all is_comment_byte j) second).0))
same_inside (byte ∷ i) [] x y first second e =
    absurd (differ (sym (ap is_comment_byte (first_of e)) ∙ (and_parts (is_comment_byte byte) (list_all is_comment_byte i) first).0))
same_inside (byte ∷ i) (other ∷ j) x y first second e =
    let rest = same_inside i j x y (and_parts (is_comment_byte byte) (list_all is_comment_byte i) first).1 (and_parts (is_comment_byte other) (list_all is_comment_byte j) second).1 (rest_of e) in
    (ap suc rest.0, rest.1)

-- a comment and what is after it
regroup : (inside gap tail : List ℕ) → (35 ∷ (inside ++ 10 ∷ gap)) ++ tail ≡ 35 ∷ (inside ++ 10 ∷ (gap ++ tail))
regroup inside gap tail = ap (λ l. 35 ∷ l) (append_assoc inside (10 ∷ gap) tail)

not_hash : (byte : ℕ) → is_blank byte ≡ true → byte ≡ 35 → ⊥
not_hash byte blank is = differ (sym (ap is_blank is) ∙ blank)

same_gap : (g h s t : List ℕ) → IsTokenGap g → IsTokenGap h → Tail s → Tail t → g ++ s ≡ h ++ t → (length g ≡ length h) × (s ≡ t)
same_gap g h s t NoGap NoGap first second e = (refl, e)
same_gap g h s t NoGap (BlankGap byte rest blank gap) first second e = absurd (no_blank s byte (rest ++ t) first e blank)
same_gap g h s t NoGap (CommentGap inside rest each gap) first second e = absurd (no_comment s inside (rest ++ t) first (e ∙ regroup inside rest t))
same_gap g h s t (BlankGap byte rest blank gap) NoGap first second e = absurd (no_blank t byte (rest ++ s) second (sym e) blank)
same_gap g h s t (CommentGap inside rest each gap) NoGap first second e = absurd (no_comment t inside (rest ++ s) second (sym e ∙ regroup inside rest s))
same_gap g h s t (BlankGap byte rest blank gap) (BlankGap other more also another) first second e =
    let same = same_gap rest more s t gap another first second (rest_of e) in (ap suc same.0, same.1)
same_gap g h s t (BlankGap byte rest blank gap) (CommentGap inside more each another) first second e = absurd (not_hash byte blank (first_of e))
same_gap g h s t (CommentGap inside rest each gap) (BlankGap byte more blank another) first second e = absurd (not_hash byte blank (sym (first_of e)))
same_gap g h s t (CommentGap inside rest each gap) (CommentGap other more all another) first second e =
    let comment = same_inside inside other (rest ++ s) (more ++ t) each all (rest_of (sym (regroup inside rest s) ∙ e ∙ regroup other more t)) in
    let same = same_gap rest more s t gap another first second comment.1 in
    (omega (arith, comment.0, same.0, length-append inside (10 ∷ rest), length-append other (10 ∷ more)), same.1)

-- ---- the next token of a cut

-- a token, whole or wrong, and the cut after it
abbrev IsWhole : (at : ℕ) (text : List ℕ) (token : Token) → List TokenAtPlace → Type 0
IsWhole at text token rest =
    (piece behind : List ℕ) × (text ≡ piece ++ behind) × IsLongestToken piece behind token × IsProper token × AreCut (at + length piece) behind rest

abbrev IsFault : (text : List ℕ) (token : Token) → List TokenAtPlace → Type 0
IsFault text token rest = (token ≡ WrongToken) × IsWrongAt text × (rest ≡ [])

record Head (place : ℕ) (bytes : List ℕ) (at : ℕ) (token : Token) (rest : List TokenAtPlace) : Type 0 where
  pub text : List ℕ
  pub stands : StandsBehindGap place bytes at text
  pub tail : Tail text
  pub is : IsWhole at text token rest ⊎ IsFault text token rest

whole_head : (place : ℕ) (bytes : List ℕ) (at : ℕ) (token : Token) (rest : List TokenAtPlace) (piece behind : List ℕ) → StandsBehindGap place bytes at (piece ++ behind)
    → IsLongestToken piece behind token → IsProper token → AreCut (at + length piece) behind rest → Head place bytes at token rest
whole_head place bytes at token rest piece behind stands longest proper cut =
    let s = spells_starts piece token longest.spells in
    record {
      text = piece ++ behind;
      stands = stands;
      tail = subst (λ l. Tail (l ++ behind)) (sym s.is) (Begins s.first (s.rest ++ behind) s.begins);
      is = inl (piece, behind, refl, longest, proper, cut);
    }

head_of : (place : ℕ) (bytes : List ℕ) (at : ℕ) (token : Token) (rest : List TokenAtPlace) → AreCut place bytes ((at, token) ∷ rest) → Head place bytes at token rest
head_of place bytes at (WordToken word) rest (piece, behind, stands, longest, proper, cut) = whole_head place bytes at (WordToken word) rest piece behind stands longest proper cut
head_of place bytes at (NumberToken value) rest (piece, behind, stands, longest, proper, cut) = whole_head place bytes at (NumberToken value) rest piece behind stands longest proper cut
head_of place bytes at (NegativeToken value) rest (piece, behind, stands, longest, proper, cut) = whole_head place bytes at (NegativeToken value) rest piece behind stands longest proper cut
head_of place bytes at (TextToken text) rest (piece, behind, stands, longest, proper, cut) = whole_head place bytes at (TextToken text) rest piece behind stands longest proper cut
head_of place bytes at (SymbolToken mark) rest (piece, behind, stands, longest, proper, cut) = whole_head place bytes at (SymbolToken mark) rest piece behind stands longest proper cut
head_of place bytes at WrongToken rest (text, stands, wrong, none) = record {
  text = text;
  stands = stands;
  tail = subst Tail (sym wrong.is) (Begins wrong.first wrong.rest wrong.begins);
  is = inr (refl, wrong, none);
}

-- after the last token no other stands
no_more : (place : ℕ) (bytes : List ℕ) (at : ℕ) (token : Token) (rest : List TokenAtPlace) → IsLastTokenGap bytes → Head place bytes at token rest → ⊥
no_more place bytes at token rest (ClosedGap gap is) head =
    by head.tail (same_gap gap head.stands.gap [] head.text is head.stands.between End head.tail (append-nil gap ∙ head.stands.splits)).1 (not_empty head.is)
  where
    not_empty : IsWhole at head.text token rest ⊎ IsFault head.text token rest → ([] ≡ head.text) → ⊥
    not_empty (inl (piece, behind, split, longest, proper, cut)) e =
        let s = spells_starts piece token longest.spells in
        not_nil s.first (s.rest ++ behind) (e ∙ split ∙ ap (λ l. l ++ behind) s.is)
    not_empty (inr (wrong, fault, none)) e = not_nil fault.first fault.rest (e ∙ fault.is)

    by : Tail head.text → [] ≡ head.text → ([] ≡ head.text → ⊥) → ⊥
    by tail e none = none e
no_more place bytes at token rest (CommentToEnd gap inside is each) head =
    begins head.is (same_gap gap head.stands.gap (35 ∷ inside) head.text is head.stands.between (OpenComment inside each) head.tail head.stands.splits).1
  where
    begins : IsWhole at head.text token rest ⊎ IsFault head.text token rest → 35 ∷ inside ≡ head.text → ⊥
    begins (inl (piece, behind, split, longest, proper, cut)) e =
        let s = spells_starts piece token longest.spells in
        s.begins.1 (sym (first_of (e ∙ split ∙ ap (λ l. l ++ behind) s.is)))
    begins (inr (wrong, fault, none)) e = fault.begins.1 (sym (first_of (e ∙ fault.is)))

-- ---- the longest piece

-- it is that of the shape
piece_is : (byte : ℕ) (rest : List ℕ) (s : Spelled byte rest) (piece behind : List ℕ) (token : Token) → byte ∷ rest ≡ piece ++ behind → IsLongestToken piece behind token
    → (piece ≡ s.piece) × (behind ≡ s.behind) × (token ≡ s.token)
piece_is byte rest s piece behind token split longest = by (lt_or_eq (length piece) (length s.piece) (s.bound piece behind token split longest.spells))
  where
    by : (length piece < length s.piece) ⊎ (length piece ≡ length s.piece) → (piece ≡ s.piece) × (behind ≡ s.behind) × (token ≡ s.token)
    by (inl shorter) = absurd (longest.longest s.piece s.behind s.token (sym split ∙ s.splits) shorter s.spells)
    by (inr equal) =
        let whole = sym split ∙ s.splits in
        let same : piece ≡ s.piece = sym (take-append_seam piece behind) ∙ (λ j. take (equal j) (whole j)) ∙ take-append_seam s.piece s.behind in
        let after : behind ≡ s.behind = sym (drop-append_seam piece behind) ∙ (λ j. drop (equal j) (whole j)) ∙ drop-append_seam s.piece s.behind in
        (same, after, s.same token (subst (λ l. SpellsToken l token) same longest.spells))

-- two longest pieces of one text are the same
one_piece : (text p q a b : List ℕ) (t u : Token) → text ≡ p ++ a → IsLongestToken p a t → text ≡ q ++ b → IsLongestToken q b u → (p ≡ q) × (a ≡ b) × (t ≡ u)
one_piece [] p q a b t u split first other second =
    let s = spells_starts p t first.spells in absurd (not_nil s.first (s.rest ++ a) (split ∙ ap (λ l. l ++ a) s.is))
one_piece (byte ∷ rest) p q a b t u split first other second = by (shape byte rest)
  where
    by : Shape byte rest → (p ≡ q) × (a ≡ b) × (t ≡ u)
    by (inl s) =
        let x = piece_is byte rest s p a t split first in
        let y = piece_is byte rest s q b u other second in
        (x.0 ∙ sym y.0, x.1 ∙ sym y.1, x.2 ∙ sym y.2)
    by (inr none) = absurd (none.none p a t split first.spells)

-- ---- the cut

one_cut : (place : ℕ) (bytes : List ℕ) (xs ys : List TokenAtPlace) → AreCut place bytes xs → AreCut place bytes ys → xs ≡ ys
one_cut place bytes [] [] first second = refl
one_cut place bytes [] ((at, token) ∷ ys) first second = absurd (no_more place bytes at token ys first (head_of place bytes at token ys second))
one_cut place bytes ((at, token) ∷ xs) [] first second = absurd (no_more place bytes at token xs second (head_of place bytes at token xs first))
one_cut place bytes ((at, token) ∷ xs) ((other, also) ∷ ys) first second =
    by x.is y.is (λ p b. one_cut p b xs ys)
  where
    x : Head place bytes at token xs
    x = head_of place bytes at token xs first

    y : Head place bytes other also ys
    y = head_of place bytes other also ys second

    same : (length x.stands.gap ≡ length y.stands.gap) × (x.text ≡ y.text)
    same = same_gap x.stands.gap y.stands.gap x.text y.text x.stands.between y.stands.between x.tail y.tail (sym x.stands.splits ∙ y.stands.splits)

    place_is : at ≡ other
    place_is = omega (arith, x.stands.place_is, y.stands.place_is, same.0)

    by : IsWhole at x.text token xs ⊎ IsFault x.text token xs → IsWhole other y.text also ys ⊎ IsFault y.text also ys
        → ((p : ℕ) (b : List ℕ) → AreCut p b xs → AreCut p b ys → xs ≡ ys) → (at, token) ∷ xs ≡ (other, also) ∷ ys
    by (inl (p, a, split, longest, proper, cut)) (inl (q, b, split', longest', proper', cut')) later =
        let piece = one_piece x.text p q a b token also split longest (same.1 ∙ split') longest' in
        let behind : AreCut (at + length p) a ys =
        subst (λ l. AreCut (at + length p) l ys) (sym piece.1) (subst (λ n. AreCut n b ys) (λ j. sym place_is j + length (sym piece.0 j)) cut') in
        let rest = later (at + length p) a cut behind in
        λ j. (place_is j, piece.2 j) ∷ rest j
    by (inl (p, a, split, longest, proper, cut)) (inr (is, wrong, none)) later = absurd (wrong.fault p a token (sym same.1 ∙ split) longest proper)
    by (inr (is, wrong, none)) (inl (p, a, split, longest, proper, cut)) later = absurd (wrong.fault p a also (same.1 ∙ split) longest proper)
    by (inr (is, wrong, none)) (inr (also_is, other_wrong, also_none)) later =
        λ j. (place_is j, (is ∙ sym also_is) j) ∷ (none ∙ sym also_none) j

pub one_cut_is : OneCut
one_cut_is bytes placed cut = one_cut 0 bytes placed (tokens bytes) cut (texts_are_cut bytes)
