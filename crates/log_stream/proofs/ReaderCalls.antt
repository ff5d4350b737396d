-- What a call of a reader does, by what stands at the front of its rest.
use Rattle.log_stream.proofs.Vocabulary.{◌≡◌, ℕ, ◌+◌, ◌-◌, ◌<◌, ◌≤◌, List, [], length, take, drop, Option, None, Some, Bool, false, true≢false, Ok, Err, inr, refl, sym, ap, subst, ◌∙◌, arith}
use Rattle.log_stream.proofs.Vocabulary.{length-drop, drop-drop, drop_all, take-take, take_all, same_Some, is_some, NameEntry, Item, LogItem, LogMode, LogRefusal, BadRecord, UnknownName, Arity}
use Rattle.log_stream.proofs.Vocabulary.{SortClash, TooLong, TimeTooLarge, Truncated, NoMemory, Scan, Outside, IsRecordAnswer, IsPending, IsTruncated, behind_blanks, length_to_end, record_bytes}
use Rattle.log_stream.proofs.Vocabulary.{Reader, ReadsNext, BeginsAt, IsLasting, IsReader, IsScanned, IsWholeAt, StandsWhole, lasting, scan_after, GivesRecordAnswer, ReadsFront, MOST_RECORD_BYTES}
use Rattle.log_stream.proofs.WholeItems.{refusal_judged}
use Rattle.log_stream.proofs.RestFronts.{behind_not_blank, nothing_scanned, whole_alone, whole_at}

abbrev pub reader_at : List NameEntry → LogMode → List ℕ → Option LogRefusal → Reader
reader_at entries mode rest refused = record { entries = entries; mode = mode; rest = rest; refused = refused }

-- the bytes of the record that was found
bytes_found : (bytes : List ℕ) (front begin end : ℕ) → (w : IsWholeAt bytes front begin end) → take (end - begin) (drop begin bytes) ≡ record_bytes (drop front bytes) w.n
bytes_found bytes front begin end w =
    let n : end - begin ≡ w.n = omega (arith, w.ends) in
    (λ j. take (n j) (w.begins.rest_is j))

rest_found : (bytes : List ℕ) (front begin end : ℕ) → (w : IsWholeAt bytes front begin end) → drop end bytes ≡ drop w.n (behind_blanks (drop front bytes))
rest_found bytes front begin end w = ap (λ n. drop n bytes) w.ends ∙ sym (drop-drop w.n begin bytes) ∙ ap (drop w.n) w.begins.rest_is

pub item_read : (entries : List NameEntry) (mode : LogMode) (bytes : List ℕ) (front begin end : ℕ) (refused : Option LogRefusal) (item : LogItem) → refused ≡ None
    → IsWholeAt bytes front begin end → IsRecordAnswer entries mode (take (end - begin) (drop begin bytes)) (Ok item) →
    ReadsNext (reader_at entries mode (drop front bytes) refused) (Ok (Item item)) (reader_at entries mode (drop end bytes) refused)
item_read entries mode bytes front begin end refused item none w answer =
    (none, (w.n, w.whole, subst (λ l. IsRecordAnswer entries mode l (Ok item)) (bytes_found bytes front begin end w) answer, rest_found bytes front begin end w), refl)

pub refusal_read : (entries : List NameEntry) (mode : LogMode) (bytes : List ℕ) (front begin end : ℕ) (refusal : LogRefusal) → IsWholeAt bytes front begin end
    → GivesRecordAnswer entries mode (take (end - begin) (drop begin bytes)) (Err refusal) →
    ReadsNext (reader_at entries mode (drop front bytes) None) (Err refusal) (reader_at entries mode (drop front bytes) (lasting refusal))
refusal_read entries mode bytes front begin end NoMemory w answer = (refl, refl)
refusal_read entries mode bytes front begin end (BadRecord place) w answer =
    inr (refl, (w.n, w.whole, subst (λ l. IsRecordAnswer entries mode l (Err (BadRecord place))) (bytes_found bytes front begin end w) answer), refl)
refusal_read entries mode bytes front begin end (UnknownName place) w answer =
    inr (refl, (w.n, w.whole, subst (λ l. IsRecordAnswer entries mode l (Err (UnknownName place))) (bytes_found bytes front begin end w) answer), refl)
refusal_read entries mode bytes front begin end (Arity place) w answer =
    inr (refl, (w.n, w.whole, subst (λ l. IsRecordAnswer entries mode l (Err (Arity place))) (bytes_found bytes front begin end w) answer), refl)
refusal_read entries mode bytes front begin end (SortClash place) w answer =
    inr (refl, (w.n, w.whole, subst (λ l. IsRecordAnswer entries mode l (Err (SortClash place))) (bytes_found bytes front begin end w) answer), refl)
refusal_read entries mode bytes front begin end TimeTooLarge w answer =
    inr (refl, (w.n, w.whole, subst (λ l. IsRecordAnswer entries mode l (Err TimeTooLarge)) (bytes_found bytes front begin end w) answer), refl)
refusal_read entries mode bytes front begin end TooLong w answer = absurd (refusal_judged entries answer.0 TooLong answer.2)
refusal_read entries mode bytes front begin end Truncated w answer = absurd (refusal_judged entries answer.0 Truncated answer.2)

-- an answer with the refusal of a reader that had none
pub refusal_kept : (entries : List NameEntry) (mode : LogMode) (rest : List ℕ) (refused : Option LogRefusal) (refusal : LogRefusal) (R : Reader) → refused ≡ None
    → ReadsNext (reader_at entries mode rest None) (Err refusal) R → ReadsNext (reader_at entries mode rest refused) (Err refusal) R
refusal_kept entries mode rest refused refusal R none reads = subst (λ r. ReadsNext (reader_at entries mode rest r) (Err refusal) R) (sym none) reads

-- what is kept of a pending record
pub pending_kept : (bytes kept_bytes : List ℕ) (front begin count : ℕ) (scan : Scan) (refused : Option LogRefusal) → IsPending (drop front bytes) → BeginsAt bytes front begin
    → scan ≡ scan_after Outside (behind_blanks (drop front bytes)) → kept_bytes ≡ drop begin bytes → count ≡ length kept_bytes → IsLasting refused
    → IsReader kept_bytes 0 count scan refused
pending_kept bytes kept_bytes front begin count scan refused pending begins scan_is is counted kept_is =
    let rest = behind_blanks (drop front bytes) in
    let same : kept_bytes ≡ rest = is ∙ begins.rest_is in
    let all : take (length rest) rest ≡ rest = take_all (length rest) rest (omega arith) in
    let window : take MOST_RECORD_BYTES rest ≡ rest = take_all MOST_RECORD_BYTES rest (omega (arith, pending.1)) in
    record {
      within = omega arith;
      scanned_is = subst (λ n. IsScanned kept_bytes n scan) (sym (counted ∙ ap length same)) (subst (λ l. IsScanned l (length rest) scan) (sym same) (record {
        within = omega arith;
        short = pending.1;
        endless = ap (length_to_end Outside) (all ∙ sym window) ∙ pending.0;
        scan_is = scan_is ∙ ap (scan_after Outside) (sym all);
        begun = λ some. behind_not_blank (drop front bytes);
      }));
      lasting = kept_is;
    }

-- a record was begun, or nothing is left
pub truncated_at : (bytes : List ℕ) (front begin : ℕ) → IsPending (drop front bytes) → BeginsAt bytes front begin → begin < length bytes → IsTruncated (drop front bytes)
truncated_at bytes front begin pending begins some =
    (pending, let long = ap length begins.rest_is in omega (arith, long, length-drop begin bytes))

pub nothing_left : (bytes : List ℕ) (front begin : ℕ) → BeginsAt bytes front begin → length bytes ≤ begin → behind_blanks (drop front bytes) ≡ []
nothing_left bytes front begin begins all = sym begins.rest_is ∙ drop_all begin bytes all

-- the record that stands at the front, read before its end was looked for
pub stands_ahead : (entries : List NameEntry) (mode : LogMode) (bytes : List ℕ) (from begin most n : ℕ) (item : LogItem) → BeginsAt bytes from begin
    → take (begin + most - begin) (drop begin bytes) ≡ take MOST_RECORD_BYTES (drop begin bytes)
    → ReadsFront entries mode (take (begin + most - begin) (drop begin bytes)) (Ok (item, n)) → StandsWhole entries mode bytes from item (begin + n)
stands_ahead entries mode bytes from begin most n item begins window reads =
    let read = subst (λ l. ReadsFront entries mode l (Ok (item, n))) window reads in
    let whole = whole_at bytes from begin 0 Outside n (begin + n) (nothing_scanned (drop from bytes) Outside refl) begins n read.0 (omega arith) refl in
    let short = whole.short in
    let ends = whole.ends in
    let few : n ≤ MOST_RECORD_BYTES = omega (arith, short, ends) in
    let count : n ≡ begin + n - begin = omega arith in
    record {
      begin = begin;
      whole = whole;
      answer = subst (λ l. IsRecordAnswer entries mode l (Ok item)) (take-take n MOST_RECORD_BYTES (drop begin bytes) few ∙ ap (λ k. take k (drop begin bytes)) count) read.1;
    }

-- after it nothing was scanned
pub behind_item : (bytes : List ℕ) (front end scanned : ℕ) (scan : Scan) (refused : Option LogRefusal) → scanned ≡ 0 → end ≤ length bytes
    → IsReader bytes front scanned scan refused → IsReader bytes end scanned scan refused
behind_item bytes front end scanned scan refused none within reader =
    let outside : scan ≡ Outside = reader.scanned_is.scan_is ∙ ap (λ n. scan_after Outside (take n (drop front bytes))) none in
    record {
      within = within;
      scanned_is = subst (λ n. IsScanned (drop end bytes) n scan) (sym none) (nothing_scanned (drop end bytes) scan outside);
      lasting = reader.lasting;
    }

-- the answer to the bytes of one record alone
pub item_alone : (entries : List NameEntry) (mode : LogMode) (bytes : List ℕ) (front begin end n : ℕ) (item : LogItem) → IsWholeAt bytes front begin end
    → ReadsFront entries mode (take (end - begin) (drop begin bytes)) (Ok (item, n)) → IsRecordAnswer entries mode (take (end - begin) (drop begin bytes)) (Ok item)
item_alone entries mode bytes front begin end n item w reads =
    let alone = whole_alone bytes front begin end w in
    let all = same_Some n (length (take (end - begin) (drop begin bytes))) (sym reads.0 ∙ alone) in
    subst (λ l. IsRecordAnswer entries mode l (Ok item)) (ap (λ k. take k (take (end - begin) (drop begin bytes))) all ∙ take_all (length (take (end - begin) (drop begin bytes)))
    (take (end - begin) (drop begin bytes)) (omega arith)) reads.1

-- no refusal was answered
pub no_refusal : (refused : Option LogRefusal) (found : Bool) → found ≡ is_some refused → found ≡ false → refused ≡ None
no_refusal None found is none = refl
no_refusal (Some refusal) found is none = absurd (true≢false (sym is ∙ none))
