-- Each text is cut into tokens, blanks and comments.
use Rattle.enf_value.proofs.Vocabulary.{◌≡◌, ℕ, zero, suc, ◌+◌, ◌<◌, ◌≤◌, ◌==◌, Bool, true, false, cond, List, [], ◌∷◌, ◌++◌, length, take, drop, Some, ◌⊎◌, inl, inr, refl, sym, ap, subst, ◌∙◌, arith}
use Rattle.enf_value.proofs.Vocabulary.{append_assoc, append-nil, length-append, length-drop, prefix_len, take_while, eqb-true, eqb-false, nat_tests, take-append-drop, drop_all, length-prefix_len}
use Rattle.enf_value.proofs.Vocabulary.{drop-append_seam, take-append_seam, Token, TokenAtPlace, WordToken, NumberToken, NegativeToken, TextToken, SymbolToken, WrongToken, is_blank, is_comment_byte}
use Rattle.enf_value.proofs.Vocabulary.{lexeme_at, token_piece, tokens_from, wrong_lexeme, IsProper, BeginsToken, IsFrontToken, AreCut, NoGap, BlankGap, CommentGap, IsInComment, IsLastTokenGap}
use Rattle.enf_value.proofs.Vocabulary.{ClosedGap, CommentToEnd, IsLongestToken, SpellsToken, StandsBehindGap, TextsAreCut, front_passes}
use Rattle.enf_value.proofs.SpellingLaws.{blank_is_passed}
use Rattle.enf_value.proofs.Fronts.{front_is_within}
use Rattle.enf_value.proofs.Gaps.{front_step, space_step}
use Rattle.enf_value.proofs.Shapes.{Shape, Spelled, shape}

-- ---- a gap more

module _ (place behind_place : ℕ) (bytes behind : List ℕ) (stands : (at : ℕ) (text : List ℕ) → StandsBehindGap behind_place behind at text → StandsBehindGap place bytes at text)
    (last : IsLastTokenGap behind → IsLastTokenGap bytes) where
  -- what is cut after a gap is cut with it
  moved : (placed : List TokenAtPlace) → AreCut behind_place behind placed → AreCut place bytes placed
  moved [] cut = last cut
  moved ((at, WordToken word) ∷ rest) (piece, after, at_gap, longest, proper, cut) = (piece, after, stands at _ at_gap, longest, proper, cut)
  moved ((at, NumberToken value) ∷ rest) (piece, after, at_gap, longest, proper, cut) = (piece, after, stands at _ at_gap, longest, proper, cut)
  moved ((at, NegativeToken value) ∷ rest) (piece, after, at_gap, longest, proper, cut) = (piece, after, stands at _ at_gap, longest, proper, cut)
  moved ((at, TextToken text) ∷ rest) (piece, after, at_gap, longest, proper, cut) = (piece, after, stands at _ at_gap, longest, proper, cut)
  moved ((at, SymbolToken mark) ∷ rest) (piece, after, at_gap, longest, proper, cut) = (piece, after, stands at _ at_gap, longest, proper, cut)
  moved ((at, WrongToken) ∷ rest) (text, at_gap, fault, none) = (text, stands at text at_gap, fault, none)

last_blank : (byte : ℕ) (bytes : List ℕ) → is_blank byte ≡ true → IsLastTokenGap bytes → IsLastTokenGap (byte ∷ bytes)
last_blank byte bytes blank (ClosedGap gap is) = ClosedGap (byte ∷ gap) (BlankGap byte gap blank is)
last_blank byte bytes blank (CommentToEnd gap inside is each) = CommentToEnd (byte ∷ gap) inside (BlankGap byte gap blank is) each

behind_blank : (place byte : ℕ) (rest : List ℕ) (placed : List TokenAtPlace) → is_blank byte ≡ true → AreCut (place + 1) rest placed → AreCut place (byte ∷ rest) placed
behind_blank place byte rest placed blank =
    moved place (place + 1) (byte ∷ rest) rest
    (λ at text s. record {
      gap = byte ∷ s.gap;
      splits = ap (λ l. byte ∷ l) s.splits;
      between = BlankGap byte s.gap blank s.between;
      place_is = omega (arith, s.place_is);
    })
    (last_blank byte rest blank) placed

last_comment : (inside bytes : List ℕ) → IsInComment inside → IsLastTokenGap bytes → IsLastTokenGap (35 ∷ (inside ++ 10 ∷ bytes))
last_comment inside bytes each (ClosedGap gap is) = ClosedGap (35 ∷ (inside ++ 10 ∷ gap)) (CommentGap inside gap each is)
last_comment inside bytes each (CommentToEnd gap tail is all) =
    subst IsLastTokenGap (ap (λ l. 35 ∷ l) (append_assoc inside (10 ∷ gap) (35 ∷ tail))) (CommentToEnd (35 ∷ (inside ++ 10 ∷ gap)) tail (CommentGap inside gap each is) all)

behind_comment : (place : ℕ) (inside rest : List ℕ) (placed : List TokenAtPlace) → IsInComment inside → AreCut (place + (1 + length inside) + 1) rest placed
    → AreCut place (35 ∷ (inside ++ 10 ∷ rest)) placed
behind_comment place inside rest placed each =
    moved place (place + (1 + length inside) + 1) (35 ∷ (inside ++ 10 ∷ rest)) rest
    (λ at text s. record {
      gap = 35 ∷ (inside ++ 10 ∷ s.gap);
      splits = ap (λ l. 35 ∷ l) (ap (λ l. inside ++ 10 ∷ l) s.splits ∙ sym (append_assoc inside (10 ∷ s.gap) text));
      between = CommentGap inside s.gap each s.between;
      place_is = omega (arith, s.place_is, length-append inside (10 ∷ s.gap));
    })
    (last_comment inside rest each) placed

-- ---- a token

here : (place : ℕ) (text : List ℕ) → StandsBehindGap place text place text
here place text = record { gap = []; splits = refl; between = NoGap; place_is = omega arith }

cut_token : (place : ℕ) (piece behind : List ℕ) (token : Token) (rest : List TokenAtPlace) → IsLongestToken piece behind token → IsProper token
    → AreCut (place + length piece) behind rest → AreCut place (piece ++ behind) ((place, token) ∷ rest)
cut_token place piece behind (WordToken word) rest longest proper cut = (piece, behind, here place (piece ++ behind), longest, proper, cut)
cut_token place piece behind (NumberToken value) rest longest proper cut = (piece, behind, here place (piece ++ behind), longest, proper, cut)
cut_token place piece behind (NegativeToken value) rest longest proper cut = (piece, behind, here place (piece ++ behind), longest, proper, cut)
cut_token place piece behind (TextToken text) rest longest proper cut = (piece, behind, here place (piece ++ behind), longest, proper, cut)
cut_token place piece behind (SymbolToken mark) rest longest proper cut = (piece, behind, here place (piece ++ behind), longest, proper, cut)
cut_token place piece behind WrongToken rest longest proper cut = absurd longest.spells

piece_kept : (all : ℕ) (token : Token) (piece : List ℕ) → SpellsToken piece token → token_piece all (token, length piece) ≡ (Some token, length piece)
piece_kept all (WordToken word) piece spells = refl
piece_kept all (NumberToken value) piece spells = refl
piece_kept all (NegativeToken value) piece spells = refl
piece_kept all (TextToken text) piece spells = refl
piece_kept all (SymbolToken mark) piece spells = refl
piece_kept all WrongToken piece spells = absurd spells

longest_is : (byte : ℕ) (rest : List ℕ) (s : Spelled byte rest) → IsLongestToken s.piece s.behind s.token
longest_is byte rest s = record {
  spells = s.spells;
  longest = λ more after other split long spells.
      let bound = s.bound more after other (s.splits ∙ split) spells in omega arith;
}

-- nothing is cut after a wrong token
wrong_alone : (place byte : ℕ) (rest : List ℕ) → BeginsToken byte → lexeme_at byte rest ≡ wrong_lexeme → tokens_from 0 place (byte ∷ rest) ≡ (place, WrongToken) ∷ []
wrong_alone place byte rest begins lexeme =
    front_step place byte rest WrongToken (1 + length rest) begins (ap (token_piece (1 + length rest)) lexeme) (omega arith)
    ∙ ap (λ l. (place, WrongToken) ∷ tokens_from 0 (place + (1 + length rest)) l) (drop_all (1 + length rest) (byte ∷ rest) (omega arith))

cut_wrong : (place byte : ℕ) (rest : List ℕ) → BeginsToken byte
    → ((piece behind : List ℕ) (token : Token) → byte ∷ rest ≡ piece ++ behind → IsLongestToken piece behind token → IsProper token → ⊥)
    → AreCut place (byte ∷ rest) ((place, WrongToken) ∷ [])
cut_wrong place byte rest begins fault =
    (byte ∷ rest, here place (byte ∷ rest), record { first = byte; rest = rest; is = refl; begins = begins; fault = fault }, refl)

pub lt_or_eq : (m n : ℕ) → m ≤ n → (m < n) ⊎ (m ≡ n)
lt_or_eq m n h = by (m == n) refl
  where
    by : (b : Bool) → (m == n) ≡ b → (m < n) ⊎ (m ≡ n)
    by true e = inr (eqb-true m n e)
    by false e = let differ = eqb-false m n e in inl (omega arith)

-- the longest piece that is spelled is that of the shape
fault_of : (byte : ℕ) (rest : List ℕ) (s : Spelled byte rest) → (IsProper s.token → ⊥)
    → (piece behind : List ℕ) (token : Token) → byte ∷ rest ≡ piece ++ behind → IsLongestToken piece behind token → IsProper token → ⊥
fault_of byte rest s improper piece behind token split longest proper = by (lt_or_eq (length piece) (length s.piece) (s.bound piece behind token split longest.spells))
  where
    by : (length piece < length s.piece) ⊎ (length piece ≡ length s.piece) → ⊥
    by (inl shorter) = longest.longest s.piece s.behind s.token (sym split ∙ s.splits) shorter s.spells
    by (inr equal) =
        let same : piece ≡ s.piece =
        sym (take-append_seam piece behind) ∙ (λ j. take (equal j) ((sym split ∙ s.splits) j)) ∙ take-append_seam s.piece s.behind in
        let is : token ≡ s.token = s.same token (subst (λ l. SpellsToken l token) same longest.spells) in
        improper (subst IsProper is proper)

-- ---- the text

no_line_feed : (byte : ℕ) → is_comment_byte byte ≡ false → byte ≡ 10
no_line_feed byte e = grind (arith, nat_tests)

behind_front : (kind : ℕ → Bool) (bytes : List ℕ) (byte : ℕ) (rest : List ℕ) → drop (prefix_len kind bytes) bytes ≡ byte ∷ rest → kind byte ≡ false
behind_front kind [] byte rest e = absurd cc
behind_front kind (x ∷ bytes) byte rest e = by (kind x) refl e (behind_front kind bytes byte rest)
  where
    by : (b : Bool) → kind x ≡ b → drop (cond (kind x) (1 + prefix_len kind bytes) 0) (x ∷ bytes) ≡ byte ∷ rest
        → (drop (prefix_len kind bytes) bytes ≡ byte ∷ rest → kind byte ≡ false) → kind byte ≡ false
    by true h is later =
        let more : 1 + prefix_len kind bytes ≡ suc (prefix_len kind bytes) = omega arith in
        later (sym (ap (λ n. drop n (x ∷ bytes)) (ap (λ b. cond b (1 + prefix_len kind bytes) 0) h ∙ more)) ∙ is)
    by false h is later =
        let same : x ∷ bytes ≡ byte ∷ rest = sym (ap (λ b. drop (cond b (1 + prefix_len kind bytes) 0) (x ∷ bytes)) h) ∙ is in
        let first : x ≡ byte = cc in
        ap kind (sym first) ∙ h

pub cut_from : (n place : ℕ) (bytes : List ℕ) → length bytes ≤ n → AreCut place bytes (tokens_from 0 place bytes)
cut_from n place [] few = ClosedGap [] NoGap
cut_from zero place (byte ∷ rest) few = absurd (omega arith)
cut_from (suc n) place (byte ∷ rest) few = by (is_blank byte) (byte == 35) refl refl (cut_from n)
  where
    token : BeginsToken byte → Shape byte rest → ((p : ℕ) (l : List ℕ) → length l ≤ n → AreCut p l (tokens_from 0 p l)) → AreCut place (byte ∷ rest) (tokens_from 0 place (byte ∷ rest))
    token begins (inr none) later =
        subst (AreCut place (byte ∷ rest)) (sym (wrong_alone place byte rest begins none.lexeme))
        (cut_wrong place byte rest begins (λ piece behind t split longest proper. none.none piece behind t split longest.spells))
    token begins (inl s) later = fits s.lexeme
      where
        fits : ((lexeme_at byte rest ≡ (s.token, length s.piece)) × IsProper s.token) ⊎ ((lexeme_at byte rest ≡ wrong_lexeme) × (IsProper s.token → ⊥))
            → AreCut place (byte ∷ rest) (tokens_from 0 place (byte ∷ rest))
        fits (inr (lexeme, improper)) =
            subst (AreCut place (byte ∷ rest)) (sym (wrong_alone place byte rest begins lexeme)) (cut_wrong place byte rest begins (fault_of byte rest s improper))
        fits (inl (lexeme, proper)) =
            let front : IsFrontToken (byte ∷ rest) s.token (length s.piece) =
            ap (token_piece (1 + length rest)) lexeme ∙ piece_kept (1 + length rest) s.token s.piece s.spells in
            let some = (front_is_within (byte ∷ rest) s.token (length s.piece) front).0 in
            let few_left : length s.behind ≤ n = omega (arith, ap length s.splits, length-append s.piece s.behind, some) in
            let behind : drop (length s.piece) (byte ∷ rest) ≡ s.behind = ap (drop (length s.piece)) s.splits ∙ drop-append_seam s.piece s.behind in
            let step : tokens_from 0 place (byte ∷ rest) ≡ (place, s.token) ∷ tokens_from 0 (place + length s.piece) s.behind =
            front_step place byte rest s.token (length s.piece) begins front some
            ∙ ap (λ l. (place, s.token) ∷ tokens_from 0 (place + length s.piece) l) behind in
            subst (AreCut place (byte ∷ rest)) (sym step)
            (subst (λ l. AreCut place l ((place, s.token) ∷ tokens_from 0 (place + length s.piece) s.behind)) (sym s.splits)
            (cut_token place s.piece s.behind s.token _ (longest_is byte rest s) proper (later (place + length s.piece) s.behind few_left)))

    comment : (byte == 35) ≡ true → (l : List ℕ) → drop (prefix_len is_comment_byte rest) rest ≡ l
        → ((p : ℕ) (m : List ℕ) → length m ≤ n → AreCut p m (tokens_from 0 p m))
        → AreCut place (byte ∷ rest) (tokens_from 0 (place + (1 + length (take_while is_comment_byte rest))) l)
    comment hash [] e later =
        let inside = take_while is_comment_byte rest in
        let whole : inside ≡ rest =
        sym (append-nil inside) ∙ ap (λ m. inside ++ m) (sym e) ∙ take-append-drop (prefix_len is_comment_byte rest) rest in
        let open_is : IsLastTokenGap (35 ∷ inside) = CommentToEnd [] inside NoGap (front_passes is_comment_byte rest) in
        subst IsLastTokenGap (λ j. sym (eqb-true byte 35 hash) j ∷ whole j) open_is
    comment hash (x ∷ more) e later =
        let inside = take_while is_comment_byte rest in
        let p = place + (1 + length inside) in
        let feed : x ≡ 10 = no_line_feed x (behind_front is_comment_byte rest x more e) in
        let whole : rest ≡ inside ++ 10 ∷ more =
        sym (take-append-drop (prefix_len is_comment_byte rest) rest) ∙ ap (λ m. inside ++ m) e ∙ ap (λ y. inside ++ y ∷ more) feed in
        let few_left : length more ≤ n = omega (arith, ap length e, length-drop (prefix_len is_comment_byte rest) rest) in
        let cut : AreCut place (35 ∷ (inside ++ 10 ∷ more)) (tokens_from 0 (p + 1) more) =
        behind_comment place inside more _ (front_passes is_comment_byte rest) (later (p + 1) more few_left) in
        subst (λ y. AreCut place (byte ∷ rest) (tokens_from 0 p (y ∷ more))) (sym feed)
        (subst (λ l. AreCut place l (tokens_from 0 (p + 1) more)) (λ j. sym (eqb-true byte 35 hash) j ∷ sym whole j) cut)

    by : (a b : Bool) → is_blank byte ≡ a → (byte == 35) ≡ b → ((p : ℕ) (l : List ℕ) → length l ≤ n → AreCut p l (tokens_from 0 p l)) → AreCut place (byte ∷ rest) (tokens_from 0 place (byte ∷ rest))
    by true b blank hash later =
        subst (AreCut place (byte ∷ rest)) (sym (blank_is_passed place byte rest blank)) (behind_blank place byte rest _ blank (later (place + 1) rest (omega arith)))
    by false true blank hash later =
        let size : 1 + length (take_while is_comment_byte rest) ≡ suc (prefix_len is_comment_byte rest) =
        omega (arith, length-prefix_len is_comment_byte rest) in
        let step : tokens_from 0 place (byte ∷ rest)
        ≡ tokens_from 0 (place + (1 + length (take_while is_comment_byte rest))) (drop (prefix_len is_comment_byte rest) rest) =
        space_step place byte rest blank hash
        ∙ ap (λ k. tokens_from 0 (place + (1 + length (take_while is_comment_byte rest))) (drop k (byte ∷ rest))) size in
        subst (AreCut place (byte ∷ rest)) (sym step) (comment hash (drop (prefix_len is_comment_byte rest) rest) refl later)
    by false false blank hash later = token (blank, eqb-false byte 35 hash) (shape byte rest) later

pub texts_are_cut : TextsAreCut
texts_are_cut bytes = cut_from (length bytes) 0 bytes (omega arith)
