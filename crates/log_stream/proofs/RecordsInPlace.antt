-- A record that is read where it stands, in bytes that go on after it: it ends where a scan finds the first end, and
-- its tokens stand in its own bytes as well.
use Rattle.log_stream.proofs.Vocabulary.{◌≡◌, ◌≢◌, ◌⊎◌, inl, inr, ℕ, ◌+◌, ◌-◌, ◌<◌, ◌≤◌, ◌==◌, suc, zero, Bool, true, false, List, [], ◌∷◌, ◌++◌, length, take, drop, get_or, slice_index, take_while}
use Rattle.log_stream.proofs.Vocabulary.{Some, IsTrue, if◌then◌else◌, refl, sym, ap, subst, ◌∙◌, arith, append_assoc, true≢false, length-append, length-take, pos, AllByRecursion, flat_map, option_map}
use Rattle.log_stream.proofs.Vocabulary.{nat_tests, drop-drop, get_or-drop, length-take-le, take-append-drop, take_while-cons, drop-cons, cases_lt, AllByRecursion-append, is_word_byte, is_blank}
use Rattle.log_stream.proofs.Vocabulary.{EndsBefore, IsWrittenByte, IsValueToken, IsWrittenText, ValueTokenAt, Value, Num, Text, false_from_ne, length_to_end, LogToken, LogMark, LogTime, LogName}
use Rattle.log_stream.proofs.Vocabulary.{LogArgument, IsLogGap, LogTokensLead, IsLogTokenAt, WrittenArgument, WrittenEvent, event_tokens, row_tokens, scan_after, Outside, Inside, Escaped}
use Rattle.log_stream.proofs.PlainBytes.{ArePlain, Stays, digits_plain, plain_stays, stays_append, stays_one, word_plain}
use Rattle.log_stream.proofs.ReadParts.{leads-append}
use Rattle.log_stream.proofs.RestFronts.{after_onward, end_onward}

-- ---- a scan stays outside over each token

piece_stays : (piece : List ℕ) (byte : ℕ) → IsWrittenByte piece byte → Stays Inside piece
piece_stays piece byte (inl (is, quote, backslash)) =
    subst (Stays Inside) (sym is)
    (stays_one Inside byte [] refl (ap (λ b. if b then Outside else (if byte == 92 then Escaped else Inside)) (false_from_ne byte 34 quote) ∙ ap (λ b. if b then Escaped else Inside)
    (false_from_ne byte 92 backslash)) (refl, refl))
piece_stays piece byte (inr (letter, is, means)) = subst (Stays Inside) (sym is) (refl, refl)

pieces_stay : (written text : List ℕ) → IsWrittenText written text → Stays Inside written
pieces_stay written [] is = subst (Stays Inside) (sym is) (refl, refl)
pieces_stay written (byte ∷ text) (piece, rest, one, pieces, split) =
    subst (Stays Inside) (sym split) (stays_append Inside piece rest (piece_stays piece byte one) (pieces_stay rest text pieces))

token_stays : (token : List ℕ) (value : Value) → IsValueToken token value → Stays Outside token
token_stays token (Num number) (inl (numeral, is)) = plain_stays token (digits_plain token numeral.1)
token_stays token (Num number) (inr (digits, split, numeral, is)) =
    subst (Stays Outside) (sym split) (plain_stays (45 ∷ digits) ((λ e. absurd (omega (arith, e))), (λ e. absurd (omega (arith, e))), digits_plain digits numeral.1))
token_stays token (Text text) (written, split, pieces) =
    let inside = pieces_stay written text pieces in
    subst (Stays Outside) (sym split) (
      ap (option_map (λ n. n + 1)) (end_onward Inside written (34 ∷ []) inside.0 ∙ ap (λ s. option_map (λ n. n + length written) (length_to_end s (34 ∷ []))) inside.1),
      after_onward Inside written (34 ∷ []) ∙ ap (λ s. scan_after s (34 ∷ [])) inside.1,
    )

-- bytes between two places over which the scan stays outside
pub record IsPassed (bytes : List ℕ) (from to : ℕ) : Type 0 where
  pub piece : List ℕ
  pub rest : List ℕ
  pub splits : drop from bytes ≡ piece ++ rest
  pub ends : to ≡ from + length piece
  pub stays : Stays Outside piece

behind_piece : (piece rest : List ℕ) → drop (length piece) (piece ++ rest) ≡ rest
behind_piece [] rest = refl
behind_piece (x ∷ piece) rest = behind_piece piece rest

passed_here : (bytes : List ℕ) (from : ℕ) → IsPassed bytes from from
passed_here bytes from = record { piece = []; rest = drop from bytes; splits = refl; ends = omega arith; stays = (refl, refl) }

pub passed_on : (bytes : List ℕ) (a b c : ℕ) → IsPassed bytes a b → IsPassed bytes b c → IsPassed bytes a c
passed_on bytes a b c first next =
    let behind : first.rest ≡ next.piece ++ next.rest =
    sym (behind_piece first.piece first.rest) ∙ ap (drop (length first.piece)) (sym first.splits) ∙ drop-drop (length first.piece) a bytes
    ∙ ap (λ n. drop n bytes) (sym first.ends) ∙ next.splits in
    let long = length-append first.piece next.piece in
    record {
      piece = first.piece ++ next.piece;
      rest = next.rest;
      splits = first.splits ∙ ap (λ l. first.piece ++ l) behind ∙ sym (append_assoc first.piece next.piece next.rest);
      ends = omega (arith, first.ends, next.ends, long);
      stays = stays_append Outside first.piece next.piece first.stays next.stays;
    }

-- no quote and no semicolon by itself
abbrev pub IsQuiet : LogToken → Type 0
IsQuiet (LogMark byte) = (byte ≢ 34) × (byte ≢ 59)
IsQuiet (LogTime time) = Unit {0}
IsQuiet (LogName place name) = Unit {0}
IsQuiet (LogArgument place value) = Unit {0}

front_rest : (kind : ℕ → Bool) (xs : List ℕ) → (rest : List ℕ) × (xs ≡ take_while kind xs ++ rest)
front_rest kind [] = ([], refl)
front_rest kind (x ∷ xs) = by (kind x) refl (front_rest kind xs)
  where
    by : (b : Bool) → kind x ≡ b → (rest : List ℕ) × (xs ≡ take_while kind xs ++ rest) → (rest : List ℕ) × ((x ∷ xs) ≡ take_while kind (x ∷ xs) ++ rest)
    by true e later =
        (later.0, ap (λ l. x ∷ l) later.1 ∙ ap (λ l. l ++ later.0) (sym (take_while-cons kind x xs ∙ ap (λ b. if b then x ∷ take_while kind xs else []) e)))
    by false e later =
        (x ∷ xs, ap (λ l. l ++ (x ∷ xs)) (sym (take_while-cons kind x xs ∙ ap (λ b. if b then x ∷ take_while kind xs else []) e)))

value_passed : (bytes : List ℕ) (at end : ℕ) (value : Value) → ValueTokenAt bytes at end value → IsPassed bytes at end
value_passed bytes at end value t = record {
  piece = t.token;
  rest = t.rest;
  splits = t.splits;
  ends = t.ends;
  stays = token_stays t.token value t.stands;
}

token_passed : (bytes : List ℕ) (at end : ℕ) (token : LogToken) → IsQuiet token → IsLogTokenAt bytes at end token → IsPassed bytes at end
token_passed bytes at end (LogMark byte) quiet (within, is, ends) = record {
  piece = byte ∷ [];
  rest = drop (suc at) bytes;
  splits = drop-cons bytes at 0 within ∙ ap (λ b. b ∷ drop (suc at) bytes) is;
  ends = ends;
  stays = plain_stays (byte ∷ []) (quiet.0, quiet.1, tt);
}
token_passed bytes at end (LogTime time) quiet (token, plain) = value_passed bytes at end (Num (pos time)) token
token_passed bytes at end (LogName place name) quiet (here, word, is, ends) =
    let split = front_rest is_word_byte (drop at bytes) in
    record {
      piece = name;
      rest = split.0;
      splits = split.1 ∙ ap (λ l. l ++ split.0) (sym is);
      ends = ends;
      stays = plain_stays name (word_plain name word);
    }
token_passed bytes at end (LogArgument place value) quiet (here, token) = value_passed bytes at end value token

-- ---- and over blanks

blank_plain : (byte : ℕ) → IsTrue (is_blank byte) → (byte ≢ 34) × (byte ≢ 59)
blank_plain byte blank = (λ e. absurd (grind (arith, nat_tests)), λ e. absurd (grind (arith, nat_tests)))

blanks_plain : (xs : List ℕ) (n : ℕ) → ((k : ℕ) → k < n → IsTrue (is_blank (get_or xs k 0))) → (n ≤ length xs) × ArePlain (take n xs)
blanks_plain xs zero blank = (omega arith, tt)
blanks_plain [] (suc n) blank = absurd (true≢false (sym (blank 0 (omega arith))))
blanks_plain (x ∷ xs) (suc n) blank =
    let here = blank_plain x (blank 0 (omega arith)) in
    let later = blanks_plain xs n (λ k below. blank (suc k) (omega (arith, below))) in
    (omega (arith, later.0), (here.0, here.1, later.1))

gap_passed : (bytes : List ℕ) (from to : ℕ) → IsLogGap bytes from to → IsPassed bytes from to
gap_passed bytes from to gap =
    let blanks = blanks_plain (drop from bytes) (to - from) (λ k below.
    subst (λ b. IsTrue (is_blank b)) (sym (get_or-drop from bytes k 0)) (gap.blanks (from + k) (omega arith) (omega (arith, below)))) in
    let long = length-take-le (to - from) (drop from bytes) blanks.0 in
    record {
      piece = take (to - from) (drop from bytes);
      rest = drop (to - from) (drop from bytes);
      splits = sym (take-append-drop (to - from) (drop from bytes));
      ends = omega (arith, long, gap.onward);
      stays = plain_stays (take (to - from) (drop from bytes)) blanks.1;
    }

pub leads_passed : (bytes : List ℕ) (from : ℕ) (tokens : List LogToken) (to : ℕ) → AllByRecursion IsQuiet tokens → LogTokensLead bytes from tokens to → IsPassed bytes from to
leads_passed bytes from [] to quiet is = subst (λ n. IsPassed bytes from n) (sym is) (passed_here bytes from)
leads_passed bytes from (token ∷ tokens) to quiet (end, next, stands, gap, leads) =
    passed_on bytes from end to (token_passed bytes from end token quiet.0 stands)
    (passed_on bytes end next to (gap_passed bytes end next gap) (leads_passed bytes next tokens to quiet.1 leads))

-- so the semicolon after them is the first end
pub first_end : (bytes : List ℕ) (at : ℕ) → IsPassed bytes 0 at → IsLogTokenAt bytes at (at + 1) (LogMark 59) → length_to_end Outside bytes ≡ Some (at + 1)
first_end bytes at passed (within, is, ends) =
    let here : at ≡ length passed.piece = omega (arith, passed.ends) in
    let rest : passed.rest ≡ 59 ∷ drop (suc at) bytes =
    sym (behind_piece passed.piece passed.rest) ∙ ap (drop (length passed.piece)) (sym passed.splits) ∙ ap (λ n. drop n bytes) (sym here)
    ∙ drop-cons bytes at 0 within ∙ ap (λ b. b ∷ drop (suc at) bytes) is in
    let count : 1 + length passed.piece ≡ at + 1 = omega (arith, passed.ends) in
    ap (length_to_end Outside) (passed.splits ∙ ap (λ l. passed.piece ++ l) rest)
    ∙ end_onward Outside passed.piece (59 ∷ drop (suc at) bytes) passed.stays.0
    ∙ ap (λ s. option_map (λ n. n + length passed.piece) (length_to_end s (59 ∷ drop (suc at) bytes))) passed.stays.1
    ∙ ap Some count

-- ---- the tokens of events are quiet

arguments_quiet : (args : List WrittenArgument) → AllByRecursion IsQuiet (flat_map (λ (next : WrittenArgument). LogMark 44 ∷ LogArgument next.place next.value ∷ []) args)
arguments_quiet [] = tt
arguments_quiet (arg ∷ args) = (((λ e. omega (arith, e)), (λ e. omega (arith, e))), (tt, arguments_quiet args))

row_quiet : (args : List WrittenArgument) → AllByRecursion IsQuiet (row_tokens args)
row_quiet [] = tt
row_quiet (arg ∷ args) = (tt, arguments_quiet args)

event_quiet : (event : WrittenEvent) → AllByRecursion IsQuiet (event_tokens event)
event_quiet event = (
  tt,
  (
    ((λ e. omega (arith, e)), (λ e. omega (arith, e))),
    AllByRecursion-append IsQuiet (row_tokens event.args) (LogMark 41 ∷ []) (row_quiet event.args)
        (((λ e. omega (arith, e)), (λ e. omega (arith, e))), tt),
  ),
)

pub events_quiet : (events : List WrittenEvent) → AllByRecursion IsQuiet (flat_map event_tokens events)
events_quiet [] = tt
events_quiet (event ∷ events) = AllByRecursion-append IsQuiet (event_tokens event) (flat_map event_tokens events) (event_quiet event) (events_quiet events)

-- ---- the same tokens in the bytes of the record alone

cut_get : (xs : List ℕ) (n i : ℕ) → (i < n) → get_or (take n xs) i 0 ≡ get_or xs i 0
cut_get xs zero i below = absurd (omega (arith, below))
cut_get [] (suc n) i below = refl
cut_get (x ∷ xs) (suc n) zero below = refl
cut_get (x ∷ xs) (suc n) (suc i) below = cut_get xs n i (omega (arith, below))

cut_nothing : (xs : List ℕ) (n i : ℕ) → n ≤ i → get_or (take n xs) i 0 ≡ 0
cut_nothing xs zero i past = refl
cut_nothing [] (suc n) i past = refl
cut_nothing (x ∷ xs) (suc n) zero past = absurd (omega (arith, past))
cut_nothing (x ∷ xs) (suc n) (suc i) past = cut_nothing xs n i (omega (arith, past))

nothing_cut : (k : ℕ) → [] ≡ take {A = ℕ} k []
nothing_cut zero = refl
nothing_cut (suc k) = refl

drop_cut : (at n : ℕ) (xs : List ℕ) → drop at (take n xs) ≡ take (n - at) (drop at xs)
drop_cut zero n xs = let all : n - 0 ≡ n = omega arith in ap (λ k. take k xs) (sym all)
drop_cut (suc at) zero xs =
    let none : 0 - suc at ≡ 0 = omega arith in ap (λ k. take k (drop (suc at) xs)) (sym none)
drop_cut (suc at) (suc n) [] = nothing_cut (suc n - suc at)
drop_cut (suc at) (suc n) (x ∷ xs) =
    let less : suc n - suc at ≡ n - at = omega arith in drop_cut at n xs ∙ ap (λ k. take k (drop at xs)) (sym less)

take_piece : (n : ℕ) (piece rest : List ℕ) → length piece ≤ n → take n (piece ++ rest) ≡ piece ++ take (n - length piece) rest
take_piece n [] rest within = let all : n - 0 ≡ n = omega arith in ap (λ k. take k rest) (sym all)
take_piece zero (x ∷ piece) rest within = absurd (omega (arith, within))
take_piece (suc n) (x ∷ piece) rest within =
    let less : suc n - suc (length piece) ≡ n - length piece = omega arith in
    ap (λ l. x ∷ l) (take_piece n piece rest (omega (arith, within)) ∙ ap (λ k. piece ++ take k rest) (sym less))

ends_cut : (value : Value) (n : ℕ) (rest : List ℕ) → EndsBefore value rest → EndsBefore value (take n rest)
ends_cut (Text text) n rest ends = tt
ends_cut (Num number) zero rest ends = tt
ends_cut (Num number) (suc n) [] ends = tt
ends_cut (Num number) (suc n) (x ∷ rest) ends = ends

value_cut : (bytes : List ℕ) (n at end : ℕ) (value : Value) → end ≤ n → ValueTokenAt bytes at end value → ValueTokenAt (take n bytes) at end value
value_cut bytes n at end value within t =
    let long : length t.token ≤ n - at = omega (arith, within, t.ends) in
    record {
      token = t.token;
      rest = take (n - at - length t.token) t.rest;
      splits = drop_cut at n bytes ∙ ap (take (n - at)) t.splits ∙ take_piece (n - at) t.token t.rest long;
      ends = t.ends;
      stands = t.stands;
      whole = ends_cut value (n - at - length t.token) t.rest t.whole;
      fits = t.fits;
    }

front_cut : (kind : ℕ → Bool) (n : ℕ) (xs : List ℕ) → length (take_while kind xs) ≤ n → take_while kind xs ≡ take_while kind (take n xs)
front_cut kind zero xs within = by (take_while kind xs) within
  where
    by : (l : List ℕ) → length l ≤ 0 → l ≡ []
    by [] within = refl
    by (x ∷ l) within = absurd (omega (arith, within))
front_cut kind (suc n) [] within = refl
front_cut kind (suc n) (x ∷ xs) within =
    take_while-cons kind x xs ∙ by (kind x) (subst (λ l. length l ≤ suc n) (take_while-cons kind x xs) within) (front_cut kind n xs)
    ∙ sym (take_while-cons kind x (take n xs))
  where
    by : (b : Bool) → length (if b then x ∷ take_while kind xs else []) ≤ suc n → (length (take_while kind xs) ≤ n → take_while kind xs ≡ take_while kind (take n xs))
        → (if b then x ∷ take_while kind xs else []) ≡ (if b then x ∷ take_while kind (take n xs) else [])
    by true within later = ap (λ l. x ∷ l) (later (omega (arith, within)))
    by false within later = refl

pub stands_cut : (bytes : List ℕ) (n at end : ℕ) (token : LogToken) → end ≤ n → IsLogTokenAt bytes at end token → IsLogTokenAt (take n bytes) at end token
stands_cut bytes n at end (LogMark byte) within (below, is, ends) =
    let long = length-take n bytes in
    (omega (arith, within, below, ends, long), cut_get bytes n at (omega (arith, within, ends)) ∙ is, ends)
stands_cut bytes n at end (LogTime time) within (token, plain) = (value_cut bytes n at end (Num (pos time)) within token, by (cases_lt at n))
  where
    by : (at < n) ⊎ (n ≤ at) → slice_index (take n bytes) at ≢ 45
    by (inl below) is = plain (sym (cut_get bytes n at below) ∙ is)
    by (inr past) is = let none = cut_nothing bytes n at past in omega (arith, none, is)
stands_cut bytes n at end (LogName place name) within (here, word, is, ends) =
    let long : length (take_while is_word_byte (drop at bytes)) ≤ n - at = subst (λ l. length l ≤ n - at) is (omega (arith, within, ends)) in
    (here, word, is ∙ front_cut is_word_byte (n - at) (drop at bytes) long ∙ ap (take_while is_word_byte) (sym (drop_cut at n bytes)), ends)
stands_cut bytes n at end (LogArgument place value) within (here, token) = (here, value_cut bytes n at end value within token)

gap_cut : (bytes : List ℕ) (n from to : ℕ) → to ≤ n → IsLogGap bytes from to → IsLogGap (take n bytes) from to
gap_cut bytes n from to within gap = record {
  onward = gap.onward;
  blanks = λ k low below. subst (λ b. IsTrue (is_blank b)) (sym (cut_get bytes n k (omega (arith, below, within)))) (gap.blanks k low below);
  ends = by (cases_lt to n);
}
  where
    by : (to < n) ⊎ (n ≤ to) → is_blank (slice_index (take n bytes) to) ≡ false
    by (inl below) = ap is_blank (cut_get bytes n to below) ∙ gap.ends
    by (inr past) = ap is_blank (cut_nothing bytes n to past)

stands_onward : (bytes : List ℕ) (at end : ℕ) (token : LogToken) → IsLogTokenAt bytes at end token → at ≤ end
stands_onward bytes at end (LogMark byte) (below, is, ends) = omega (arith, ends)
stands_onward bytes at end (LogTime time) (token, plain) = omega (arith, token.ends)
stands_onward bytes at end (LogName place name) (here, word, is, ends) = omega (arith, ends)
stands_onward bytes at end (LogArgument place value) (here, token) = omega (arith, token.ends)

pub leads_onward : (bytes : List ℕ) (from : ℕ) (tokens : List LogToken) (to : ℕ) → LogTokensLead bytes from tokens to → from ≤ to
leads_onward bytes from [] to is = omega (arith, is)
leads_onward bytes from (token ∷ tokens) to (end, next, stands, gap, leads) =
    let first = stands_onward bytes from end token stands in
    let rest = leads_onward bytes next tokens to leads in omega (arith, first, rest, gap.onward)

pub leads_cut : (bytes : List ℕ) (n from : ℕ) (tokens : List LogToken) (to : ℕ) → to ≤ n → LogTokensLead bytes from tokens to → LogTokensLead (take n bytes) from tokens to
leads_cut bytes n from [] to within is = is
leads_cut bytes n from (token ∷ tokens) to within (end, next, stands, gap, leads) =
    let onward = leads_onward bytes next tokens to leads in (
      end,
      next,
      stands_cut bytes n from end token (omega (arith, within, onward, gap.onward)) stands,
      gap_cut bytes n end next (omega (arith, within, onward)) gap,
      leads_cut bytes n next
          tokens to within leads,
    )

-- the semicolon is the last of them
pub leads_end : (bytes : List ℕ) (from : ℕ) (tokens : List LogToken) (at : ℕ) → LogTokensLead bytes from tokens at → IsLogTokenAt bytes at (at + 1) (LogMark 59)
    → LogTokensLead (take (at + 1) bytes) from (tokens ++ LogMark 59 ∷ []) (at + 1)
leads_end bytes from tokens at leads stands =
    leads-append (take (at + 1) bytes) from at (at + 1) tokens (LogMark 59 ∷ []) (leads_cut bytes (at + 1) from tokens at (omega arith) leads) (
      at + 1,
      at + 1,
      stands_cut bytes (at + 1) at (at + 1) (LogMark 59) (omega arith) stands,
      record {
        onward = omega arith;
        blanks = λ k low below. absurd (omega (arith, low, below));
        ends = ap is_blank (cut_nothing bytes (at + 1) (at + 1) (omega arith));
      },
      refl,
    )
