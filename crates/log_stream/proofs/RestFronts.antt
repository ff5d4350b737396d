-- The record at the front of a rest, as a scan finds it.
use Rattle.log_stream.proofs.Vocabulary.{◌≡◌, ℕ, ◌+◌, ◌-◌, ◌<◌, ◌≤◌, ◌==◌, ◌&&◌, suc, zero, min, Bool, true, false, List, [], ◌∷◌, ◌++◌, ◌⊎◌, inl, inr, length, take, drop, slice_index, Option, None}
use Rattle.log_stream.proofs.Vocabulary.{Some, IsTrue, if◌then◌else◌, refl, sym, ap, subst, ◌∙◌, arith, length-drop, length-take, add-one, option_map, drop-drop, get_or-drop, take-append-drop}
use Rattle.log_stream.proofs.Vocabulary.{take-take, take_all, take_min, is_blank, behind_blanks, is_outside, length_to_end, record_length, scan_behind, IsLogGap, BeginsAt, IsScanned, IsWholeAt}
use Rattle.log_stream.proofs.Vocabulary.{scan_after, Scan, Outside, MOST_RECORD_BYTES}
use Rattle.log_stream.proofs.Scans.{map_more, map_none}

blanks_front : (xs : List ℕ) (n : ℕ) → n ≤ length xs → ((k : ℕ) → k < n → IsTrue (is_blank (slice_index xs k))) → is_blank (slice_index xs n) ≡ false → drop n xs ≡ behind_blanks xs
blanks_front [] zero within blank here = refl
blanks_front [] (suc n) within blank here = absurd (omega arith)
blanks_front (x ∷ xs) zero within blank here = ap (λ b. if b then behind_blanks xs else x ∷ xs) (sym here)
blanks_front (x ∷ xs) (suc n) within blank here =
    blanks_front xs n (omega arith) (λ k below. blank (suc k) (omega arith)) here ∙ ap (λ b. if b then behind_blanks xs else x ∷ xs) (sym (blank 0 (omega arith)))

pub begins_at : (bytes : List ℕ) (from begin : ℕ) → IsLogGap bytes from begin → begin ≤ length bytes → BeginsAt bytes from begin
begins_at bytes from begin gap within =
    let far : from + (begin - from) ≡ begin = omega (arith, gap.onward) in
    let at = λ (k : ℕ). get_or-drop from bytes k 0 in
    record {
      within = within;
      rest_is = ap (λ n. drop n bytes) (sym far) ∙ sym (drop-drop (begin - from) from bytes)
          ∙ blanks_front (drop from bytes) (begin - from) (omega (arith, length-drop from bytes, gap.onward))
          (λ k below. ap is_blank (at k) ∙ gap.blanks (from + k) (omega arith) (omega (arith, below, far)))
          (ap is_blank (at (begin - from) ∙ ap (λ n. slice_index bytes n) far) ∙ gap.ends);
    }

-- no blank stands in front
pub begun_stays : (rest : List ℕ) → is_blank (slice_index rest 0) ≡ false → behind_blanks rest ≡ rest
begun_stays [] e = refl
begun_stays (x ∷ rest) e = ap (λ b. if b then behind_blanks rest else x ∷ rest) e

pub behind_not_blank : (rest : List ℕ) → is_blank (slice_index (behind_blanks rest) 0) ≡ false
behind_not_blank [] = refl
behind_not_blank (x ∷ rest) = by (is_blank x) refl (behind_not_blank rest)
  where
    by : (b : Bool) → is_blank x ≡ b → is_blank (slice_index (behind_blanks rest) 0) ≡ false → is_blank (slice_index (if b then behind_blanks rest else x ∷ rest) 0) ≡ false
    by true e h = h
    by false e h = e

zero_or_more : (n : ℕ) → (n ≡ 0) ⊎ (0 < n)
zero_or_more zero = inl refl
zero_or_more (suc n) = inr (omega arith)

pub nothing_scanned : (rest : List ℕ) (scan : Scan) → scan ≡ Outside → IsScanned rest 0 scan
nothing_scanned rest scan e = record { within = omega arith; short = omega arith; endless = refl; scan_is = e; begun = λ h. absurd (omega arith) }

-- what was scanned stays so after blanks
pub scanned_behind : (rest : List ℕ) (scanned : ℕ) (scan : Scan) → IsScanned rest scanned scan → IsScanned (behind_blanks rest) scanned scan
scanned_behind rest scanned scan is = by (zero_or_more scanned)
  where
    by : (scanned ≡ 0) ⊎ (0 < scanned) → IsScanned (behind_blanks rest) scanned scan
    by (inl e) = subst (λ n. IsScanned (behind_blanks rest) n scan) (sym e) (nothing_scanned (behind_blanks rest) scan (is.scan_is ∙ ap (λ n. scan_after Outside (take n rest)) e))
    by (inr h) = subst (λ r. IsScanned r scanned scan) (sym (begun_stays rest (is.begun h))) is

-- a scan of two parts
pub end_onward : (scan : Scan) (front rest : List ℕ) → length_to_end scan front ≡ None → length_to_end scan (front ++ rest)
    ≡ option_map (λ n. n + length front) (length_to_end (scan_after scan front) rest)
end_onward scan [] rest none = map_none (length_to_end scan rest) 0 refl
end_onward scan (byte ∷ front) rest none = by (is_outside scan && (byte == 59)) none (λ e. end_onward (scan_behind scan byte) front rest e)
  where
    inner : (o : Option ℕ) → option_map (λ n. n + 1) o ≡ None → o ≡ None
    inner None e = refl
    inner (Some x) e = cc

    by : (b : Bool) → (if b then Some 1 else option_map (λ n. n + 1) (length_to_end (scan_behind scan byte) front)) ≡ None →
        (length_to_end (scan_behind scan byte) front ≡ None → length_to_end (scan_behind scan byte) (front ++ rest)
        ≡ option_map (λ n. n + length front) (length_to_end (scan_after (scan_behind scan byte) front) rest)) →
        (if b then Some 1 else option_map (λ n. n + 1) (length_to_end (scan_behind scan byte) (front ++ rest)))
        ≡ option_map (λ n. n + suc (length front)) (length_to_end (scan_after (scan_behind scan byte) front) rest)
    by true e later = cc
    by false e later = ap (option_map (λ n. n + 1)) (later (inner (length_to_end (scan_behind scan byte) front) e)) ∙ map_more (length front) 1 (suc (length front))
        (length_to_end (scan_after (scan_behind scan byte) front) rest) (omega arith)

pub after_onward : (scan : Scan) (front rest : List ℕ) → scan_after scan (front ++ rest) ≡ scan_after (scan_after scan front) rest
after_onward scan [] rest = refl
after_onward scan (byte ∷ front) rest = after_onward (scan_behind scan byte) front rest

-- an end is within the bytes
pub end_within : (scan : Scan) (bytes : List ℕ) (n : ℕ) → length_to_end scan bytes ≡ Some n → (0 < n) × (n ≤ length bytes)
end_within scan [] n e = cc
end_within scan (byte ∷ bytes) n e = by (is_outside scan && (byte == 59)) e (λ m is. end_within (scan_behind scan byte) bytes m is)
  where
    inner : (o : Option ℕ) → option_map (λ x. x + 1) o ≡ Some n → (m : ℕ) × (o ≡ Some m) × (m + 1 ≡ n)
    inner None e = cc
    inner (Some m) e = (m, refl, some_number (m + 1) n e)
      where
        some_number : (a b : ℕ) → Some a ≡ Some b → a ≡ b
        some_number a b e = cc

    one : Some 1 ≡ Some n → 1 ≡ n
    one e = cc

    by : (b : Bool) → (if b then Some 1 else option_map (λ x. x + 1) (length_to_end (scan_behind scan byte) bytes)) ≡ Some n
        → ((m : ℕ) → length_to_end (scan_behind scan byte) bytes ≡ Some m → (0 < m) × (m ≤ length bytes)) → (0 < n) × (n ≤ suc (length bytes))
    by true e later = let is = one e in (omega (arith, is), omega (arith, is))
    by false e later =
        let i = inner (length_to_end (scan_behind scan byte) bytes) e in
        let l = later i.0 i.1 in (omega (arith, l.0, i.2), omega (arith, l.1, i.2))

-- the bytes in which the end is looked for
pub window_is : (bytes : List ℕ) (begin most : ℕ) → most ≡ min MOST_RECORD_BYTES (length bytes - begin) → begin + most - begin ≡ most
    → take (begin + most - begin) (drop begin bytes) ≡ take MOST_RECORD_BYTES (drop begin bytes)
window_is bytes begin most e f =
    ap (λ n. take n (drop begin bytes)) (f ∙ e ∙ ap (min MOST_RECORD_BYTES) (sym (length-drop begin bytes))) ∙ take_min MOST_RECORD_BYTES (drop begin bytes)

-- the record is found by the bytes that were not scanned
pub found_onward : (rest : List ℕ) (scanned : ℕ) (scan : Scan) → IsScanned rest scanned scan →
    (record_length rest ≡ option_map (λ n. n + scanned) (length_to_end scan (drop scanned (take MOST_RECORD_BYTES rest))))
    × (scan_after Outside (take MOST_RECORD_BYTES rest) ≡ scan_after scan (drop scanned (take MOST_RECORD_BYTES rest)))
found_onward rest scanned scan is =
    let window = take MOST_RECORD_BYTES rest in
    let front : take scanned window ≡ take scanned rest = take-take scanned MOST_RECORD_BYTES rest (omega (arith, is.short)) in
    let split = take-append-drop scanned window in
    let long : length (take scanned window) ≡ scanned = ap length front ∙ length-take scanned rest ∙ omega (arith, is.within) in
    let same : scan_after Outside (take scanned window) ≡ scan = ap (scan_after Outside) front ∙ sym is.scan_is in (
      ap (length_to_end Outside) (sym split) ∙ end_onward Outside (take scanned window) (drop scanned window) (ap (length_to_end Outside) front ∙ is.endless)
          ∙ (λ j. option_map (λ n. n + long j) (length_to_end (same j) (drop scanned window))),
      ap (scan_after Outside) (sym split) ∙ after_onward Outside (take scanned window) (drop scanned window) ∙ ap (λ s. scan_after s (drop scanned window)) same,
    )

pub whole_at : (bytes : List ℕ) (from begin scanned : ℕ) (scan : Scan) (found end : ℕ) → IsScanned (drop from bytes) scanned scan → BeginsAt bytes from begin → (n : ℕ)
    → length_to_end scan (drop scanned (take MOST_RECORD_BYTES (drop begin bytes))) ≡ Some n → found ≡ scanned + n → end ≡ begin + found → IsWholeAt bytes from begin end
whole_at bytes from begin scanned scan found end is begins n e f g =
    let rest = drop begin bytes in
    let scanned_is = subst (λ r. IsScanned r scanned scan) (sym begins.rest_is) (scanned_behind (drop from bytes) scanned scan is) in
    let whole : record_length rest ≡ Some found = (found_onward rest scanned scan scanned_is).0 ∙ ap (option_map (λ m. m + scanned)) e ∙ ap Some (omega (arith, f)) in
    let within = end_within Outside (take MOST_RECORD_BYTES rest) found whole in
    let long = length-take MOST_RECORD_BYTES rest in
    let far = length-drop begin bytes in
    record {
      n = found;
      whole = ap record_length (sym begins.rest_is) ∙ whole;
      begins = begins;
      ends = g;
      within = omega (arith, g, within.1, long, far, begins.within);
      short = omega (arith, within.1, long);
    }

-- no end in the window
pub endless_at : (bytes : List ℕ) (from begin scanned : ℕ) (scan : Scan) → IsScanned (drop from bytes) scanned scan → BeginsAt bytes from begin
    → length_to_end scan (drop scanned (take MOST_RECORD_BYTES (drop begin bytes))) ≡ None → record_length (behind_blanks (drop from bytes)) ≡ None
endless_at bytes from begin scanned scan is begins e =
    let scanned_is = subst (λ r. IsScanned r scanned scan) (sym begins.rest_is) (scanned_behind (drop from bytes) scanned scan is) in
    ap record_length (sym begins.rest_is) ∙ (found_onward (drop begin bytes) scanned scan scanned_is).0 ∙ ap (option_map (λ m. m + scanned)) e

pub open_scan : (bytes : List ℕ) (from begin scanned : ℕ) (scan after : Scan) → IsScanned (drop from bytes) scanned scan → BeginsAt bytes from begin
    → length (drop begin bytes) < MOST_RECORD_BYTES → after ≡ scan_after scan (drop scanned (take MOST_RECORD_BYTES (drop begin bytes))) → after
    ≡ scan_after Outside (behind_blanks (drop from bytes))
open_scan bytes from begin scanned scan after is begins short e =
    let scanned_is = subst (λ r. IsScanned r scanned scan) (sym begins.rest_is) (scanned_behind (drop from bytes) scanned scan is) in
    e ∙ sym (found_onward (drop begin bytes) scanned scan scanned_is).1 ∙ ap (scan_after Outside) (take_all MOST_RECORD_BYTES (drop begin bytes) (omega (arith, short)) ∙ begins.rest_is)

-- the first end of bytes is that of those up to it
pub cut_end : (scan : Scan) (bytes : List ℕ) (n : ℕ) → length_to_end scan bytes ≡ Some n → length_to_end scan (take n bytes) ≡ Some n
cut_end scan [] n e = cc
cut_end scan (byte ∷ bytes) n e = by (is_outside scan && (byte == 59)) refl e (λ m is. cut_end (scan_behind scan byte) bytes m is)
  where
    inner : (o : Option ℕ) → option_map (λ x. x + 1) o ≡ Some n → (m : ℕ) × (o ≡ Some m) × (m + 1 ≡ n)
    inner None e = cc
    inner (Some m) e = (m, refl, some_number (m + 1) n e)
      where
        some_number : (a b : ℕ) → Some a ≡ Some b → a ≡ b
        some_number a b e = cc

    one : Some 1 ≡ Some n → 1 ≡ n
    one e = cc

    by : (b : Bool) → (is_outside scan && (byte == 59)) ≡ b → (if b then Some 1 else option_map (λ x. x + 1) (length_to_end (scan_behind scan byte) bytes)) ≡ Some n
        → ((m : ℕ) → length_to_end (scan_behind scan byte) bytes ≡ Some m → length_to_end (scan_behind scan byte) (take m bytes) ≡ Some m)
        → length_to_end scan (take n (byte ∷ bytes)) ≡ Some n
    by true t e later =
        subst (λ k. length_to_end scan (take k (byte ∷ bytes)) ≡ Some k) (one e)
        (ap (λ b. if b then Some 1 else option_map (λ x. x + 1) (length_to_end (scan_behind scan byte) [])) t)
    by false t e later =
        let i = inner (length_to_end (scan_behind scan byte) bytes) e in
        let more : suc i.0 ≡ n = omega (arith, i.2) in
        subst (λ k. length_to_end scan (take k (byte ∷ bytes)) ≡ Some k) more
        (ap (λ b. if b then Some 1 else option_map (λ x. x + 1) (length_to_end (scan_behind scan byte) (take i.0 bytes))) t
        ∙ ap (option_map (λ x. x + 1)) (later i.0 i.1) ∙ ap Some (add-one i.0))

-- so a whole record ends at the end of its own bytes
pub whole_alone : (bytes : List ℕ) (from begin end : ℕ) → IsWholeAt bytes from begin end → length_to_end Outside (take (end - begin) (drop begin bytes))
    ≡ Some (length (take (end - begin) (drop begin bytes)))
whole_alone bytes from begin end w =
    let rest = drop begin bytes in
    let found : length_to_end Outside (take MOST_RECORD_BYTES (drop begin bytes)) ≡ Some w.n = ap record_length w.begins.rest_is ∙ w.whole in
    let within = end_within Outside (take MOST_RECORD_BYTES (drop begin bytes)) w.n found in
    let long = length-take MOST_RECORD_BYTES (drop begin bytes) in
    let cut = cut_end Outside (take MOST_RECORD_BYTES (drop begin bytes)) w.n found in
    let same : take w.n (take MOST_RECORD_BYTES (drop begin bytes)) ≡ take w.n (drop begin bytes) = take-take w.n MOST_RECORD_BYTES (drop begin bytes) w.short in
    let size = length-take w.n (drop begin bytes) in
    let all : w.n ≡ length (take w.n (drop begin bytes)) = omega (arith, size, within.1, long) in
    let count : w.n ≡ end - begin = omega (arith, w.ends) in
    subst (λ k. length_to_end Outside (take k (drop begin bytes)) ≡ Some (length (take k (drop begin bytes)))) count
    (ap (length_to_end Outside) (sym same) ∙ cut ∙ ap Some all)
