-- A scan for the end of a record: it stays where it is up to the bytes at which it can turn.
use Rattle.log_stream.proofs.Vocabulary.{◌≡◌, ℕ, ◌+◌, ◌-◌, ◌<◌, ◌≤◌, ◌==◌, ◌&&◌, ◌||◌, suc, zero, Bool, true, false, List, [], ◌∷◌, length, drop, slice_index, Option, None, Some, if◌then◌else◌, refl}
use Rattle.log_stream.proofs.Vocabulary.{sym, ap, ◌∙◌, arith, length-drop, option_map, eqb-true, false_from_ne_true, drop_all, drop_more, drop-drop, Passes, NoneBefore, Nowhere, is_byte2, is_outside}
use Rattle.log_stream.proofs.Vocabulary.{length_to_end, scan_behind, ScanGoesOn, scan_after, Scan, Outside, Inside, Escaped}

pub map_more : (m n k : ℕ) (o : Option ℕ) → m + n ≡ k → option_map (λ x. x + n) (option_map (λ x. x + m) o) ≡ option_map (λ x. x + k) o
map_more m n k None e = refl
map_more m n k (Some x) e = ap Some (omega arith)

pub map_none : (o : Option ℕ) (n : ℕ) → n ≡ 0 → o ≡ option_map (λ x. x + n) o
map_none None n e = refl
map_none (Some x) n e = ap Some (omega arith)

-- the bytes at which a scan stays where it is, by a test that they do not pass
abbrev pub StaysBut : Scan → (ℕ → Bool) → Type 0
StaysBut scan test = (byte : ℕ) → test byte ≡ false → (scan_behind scan byte ≡ scan) × ((is_outside scan && (byte == 59)) ≡ false)

step_end : (scan : Scan) (byte : ℕ) (bytes : List ℕ) → (is_outside scan && (byte == 59)) ≡ false → length_to_end scan (byte ∷ bytes)
    ≡ option_map (λ n. n + 1) (length_to_end (scan_behind scan byte) bytes)
step_end scan byte bytes e = ap (λ b. if b then Some 1 else option_map (λ n. n + 1) (length_to_end (scan_behind scan byte) bytes)) e

pub stays : (scan : Scan) (test : ℕ → Bool) → StaysBut scan test → (bytes : List ℕ) (n : ℕ) → n ≤ length bytes → ((k : ℕ) → k < n → test (slice_index bytes k) ≡ true → ⊥) →
    (length_to_end scan bytes ≡ option_map (λ m. m + n) (length_to_end scan (drop n bytes))) × (scan_after scan bytes ≡ scan_after scan (drop n bytes))
stays scan test h bytes zero within none = (map_none (length_to_end scan bytes) 0 refl, refl)
stays scan test h [] (suc n) within none = absurd (omega arith)
stays scan test h (byte ∷ bytes) (suc n) within none =
    let here = h byte (false_from_ne_true (test byte) (none 0 (omega arith))) in
    let later = stays scan test h bytes n (omega arith) (λ k below. none (suc k) (omega arith)) in (
      step_end scan byte bytes here.1 ∙ ap (λ s. option_map (λ m. m + 1) (length_to_end s bytes)) here.0 ∙ ap (option_map (λ m. m + 1)) later.0 ∙ map_more n 1 (suc n)
          (length_to_end scan (drop n bytes)) (omega arith),
      ap (λ s. scan_after s bytes) here.0 ∙ later.1,
    )

pub outside_stays : StaysBut Outside (is_byte2 59 34)
outside_stays byte e = by (byte == 59) (byte == 34) refl refl e
  where
    by : (a b : Bool) → (byte == 59) ≡ a → (byte == 34) ≡ b → (a || b) ≡ false → ((if byte == 34 then Inside else Outside) ≡ Outside) × ((byte == 59) ≡ false)
    by true b p q e = cc
    by false true p q e = cc
    by false false p q e = (ap (λ b. if b then Inside else Outside) q, p)

pub inside_stays : StaysBut Inside (is_byte2 34 92)
inside_stays byte e = by (byte == 34) (byte == 92) refl refl e
  where
    by : (a b : Bool) → (byte == 34) ≡ a → (byte == 92) ≡ b → (a || b) ≡ false → ((if byte == 34 then Outside else (if byte == 92 then Escaped else Inside)) ≡ Inside) × (false ≡ false)
    by true b p q e = cc
    by false true p q e = cc
    by false false p q e = (ap (λ b. if b then Outside else (if byte == 92 then Escaped else Inside)) p ∙ ap (λ b. if b then Escaped else Inside) q, refl)

-- a turn at the first byte that passes the test
pub turns_to : (scan : Scan) (test : ℕ → Bool) → StaysBut scan test → (bytes : List ℕ) (n : ℕ) → NoneBefore (Passes test bytes) 0 (length bytes) n
    → (is_outside scan && (slice_index bytes n == 59)) ≡ false → (after : Scan) → scan_behind scan (slice_index bytes n) ≡ after → ScanGoesOn scan bytes after (n + 1)
turns_to scan test h bytes n first no_end after is =
    let s = stays scan test h bytes n (omega (arith, first.high)) (λ k below passes. first.before k (omega arith) below passes) in
    let front = drop_more bytes n 0 first.high in
    record {
      some = omega arith;
      within = omega (arith, first.high);
      end = s.0 ∙ ap (λ l. option_map (λ m. m + n) (length_to_end scan l)) front ∙ ap (option_map (λ m. m + n)) (step_end scan (slice_index bytes n) (drop (n + 1) bytes) no_end)
          ∙ map_more 1 n (n + 1) (length_to_end (scan_behind scan (slice_index bytes n)) (drop (n + 1) bytes)) (omega arith) ∙ ap
          (λ x. option_map (λ m. m + (n + 1)) (length_to_end x (drop (n + 1) bytes))) is;
      scan_is = s.1 ∙ ap (scan_after scan) front ∙ ap (λ x. scan_after x (drop (n + 1) bytes)) is;
    }

pub turns_end : (bytes : List ℕ) (n : ℕ) → NoneBefore (Passes (is_byte2 59 34) bytes) 0 (length bytes) n → slice_index bytes n ≡ 59 → length_to_end Outside bytes ≡ Some (n + 1)
turns_end bytes n first is =
    let s = stays Outside (is_byte2 59 34) outside_stays bytes n (omega (arith, first.high)) (λ k below passes. first.before k (omega arith) below passes) in
    let front = drop_more bytes n 0 first.high in
    s.0 ∙ ap (λ l. option_map (λ m. m + n) (length_to_end Outside l)) (front ∙ ap (λ b. b ∷ drop (n + 1) bytes) is) ∙ ap Some (omega arith)

pub turns_nowhere : (scan : Scan) (test : ℕ → Bool) → StaysBut scan test → (bytes : List ℕ) → Nowhere (Passes test bytes) 0 (length bytes)
    → (length_to_end scan bytes ≡ None) × (scan_after scan bytes ≡ scan)
turns_nowhere scan test h bytes none =
    let s = stays scan test h bytes (length bytes) (omega arith) (λ k below passes. none k (omega arith) below passes) in
    let nothing = drop_all (length bytes) bytes (omega arith) in
    (s.0 ∙ ap (λ l. option_map (λ m. m + length bytes) (length_to_end scan l)) nothing, s.1 ∙ ap (scan_after scan) nothing)

-- a byte that passes the test, and is not the one, is the other
pub other_byte : (a b byte : ℕ) → is_byte2 a b byte ≡ true → (byte ≡ a → ⊥) → byte ≡ b
other_byte a b byte e h = by (byte == a) (byte == b) refl refl e
  where
    by : (x y : Bool) → (byte == a) ≡ x → (byte == b) ≡ y → (x || y) ≡ true → byte ≡ b
    by true y p q e = absurd (h (eqb-true byte a p))
    by false true p q e = eqb-true byte b q
    by false false p q e = cc

-- how a scan of the bytes from a place on has come to another
pub record IsScanning (bytes : List ℕ) (from : ℕ) (scan : Scan) (at : ℕ) (place : Scan) : Type 0 where
  pub onward : from ≤ at
  pub within : at ≤ length bytes
  pub end : length_to_end scan (drop from bytes) ≡ option_map (λ n. n + (at - from)) (length_to_end place (drop at bytes))
  pub scan_is : scan_after scan (drop from bytes) ≡ scan_after place (drop at bytes)

pub scanning_start : (bytes : List ℕ) (from : ℕ) (scan : Scan) → from ≤ length bytes → IsScanning bytes from scan from scan
scanning_start bytes from scan within = record {
  onward = omega arith;
  within = within;
  end = map_none (length_to_end scan (drop from bytes)) (from - from) (omega arith);
  scan_is = refl;
}

pub scanning_more : (bytes : List ℕ) (from : ℕ) (scan : Scan) (at : ℕ) (place after : Scan) (passed : ℕ) → IsScanning bytes from scan at place
    → ScanGoesOn place (drop at bytes) after passed → IsScanning bytes from scan (at + passed) after
scanning_more bytes from scan at place after passed so on =
    let rest = drop-drop passed at bytes in
    record {
      onward = omega (arith, so.onward);
      within = omega (arith, so.within, on.within, length-drop at bytes);
      end = so.end ∙ ap (option_map (λ n. n + (at - from))) on.end ∙ map_more passed (at - from) (at + passed - from) (length_to_end after (drop passed (drop at bytes))) (omega (arith, so.onward))
          ∙ ap (λ l. option_map (λ n. n + (at + passed - from)) (length_to_end after l)) rest;
      scan_is = so.scan_is ∙ on.scan_is ∙ ap (scan_after after) rest;
    }

pub scanning_ends : (bytes : List ℕ) (from : ℕ) (scan : Scan) (at : ℕ) (place : Scan) (passed : ℕ) → IsScanning bytes from scan at place → length_to_end place (drop at bytes)
    ≡ Some passed → (n : ℕ) × (length_to_end scan (drop from bytes) ≡ Some n) × (at + passed ≡ from + n)
scanning_ends bytes from scan at place passed so e = (passed + (at - from), so.end ∙ ap (option_map (λ n. n + (at - from))) e, omega (arith, so.onward))

pub scanning_open : (bytes : List ℕ) (from : ℕ) (scan : Scan) (at : ℕ) (place after : Scan) → IsScanning bytes from scan at place → length_to_end place (drop at bytes) ≡ None
    → scan_after place (drop at bytes) ≡ after → (length_to_end scan (drop from bytes) ≡ None) × (after ≡ scan_after scan (drop from bytes))
scanning_open bytes from scan at place after so e is = (so.end ∙ ap (option_map (λ n. n + (at - from))) e, sym (so.scan_is ∙ is))

pub nothing_open : (scan : Scan) (bytes : List ℕ) → bytes ≡ [] → (length_to_end scan bytes ≡ None) × (scan_after scan bytes ≡ scan)
nothing_open scan bytes e = (ap (length_to_end scan) e, ap (scan_after scan) e)
