-- What a caller needs of a log that comes in pieces: what is read of it so far, as each piece and each record comes.
use Rattle.log_stream.proofs.Vocabulary.{ℕ, List, [], refl, ◌+◌, ◌∷◌, ◌++◌, ◌≡◌, Bool, true, false, if◌then◌else◌, ◌<◌, length, arith, ◌≤◌, ◌==◌, ◌&&◌, suc, zero, take, Option, None, Some, ap, ◌∙◌}
use Rattle.log_stream.proofs.Vocabulary.{drop, Ok, sym, subst, Err, length-append, length-drop, take-append-le, drop-append-le, option_map, is_blank, NameEntry, LogItem, LogMode, LogRefusal}
use Rattle.log_stream.proofs.Vocabulary.{BadRecord, UnknownName, Arity, SortClash, TooLong, TimeTooLarge, Truncated, NoMemory, MOST_RECORD_BYTES, Scan, Outside, SpellsRecords, behind_blanks}
use Rattle.log_stream.proofs.Vocabulary.{is_outside, length_to_end, scan_behind, HasRecord, record_length, BeginsWithRecord, RefusesFront, IsPending, IsRecordAnswer}

-- nothing was read of what was fed
pub SpellsRecords-none : (entries : List NameEntry) (mode : LogMode) (text : List ℕ)
    → SpellsRecords entries mode text [] text
SpellsRecords-none entries mode text = refl

-- bytes after a text without blanks in front
abbrev pub behind_more : List ℕ → List ℕ → List ℕ
behind_more [] more = behind_blanks more
behind_more (byte ∷ rest) more = (byte ∷ rest) ++ more

pub behind-append : (text more : List ℕ) → behind_blanks (text ++ more) ≡ behind_more (behind_blanks text) more
behind-append [] more = refl
behind-append (byte ∷ text) more = by (is_blank byte) (behind-append text more)
  where
    by : (b : Bool) → behind_blanks (text ++ more) ≡ behind_more (behind_blanks text) more
        → (if b then behind_blanks (text ++ more) else byte ∷ text
        ++ more) ≡ behind_more (if b then behind_blanks text else byte ∷ text) more
    by true h = h
    by false h = refl

behind_some : (rest more : List ℕ) → 0 < length rest → behind_more rest more ≡ rest ++ more
behind_some [] more some = absurd (omega arith)
behind_some (byte ∷ rest) more some = refl

-- an end that is found stays found, whatever follows
pub end_stays : (scan : Scan) (k : ℕ) (bytes more : List ℕ) (n : ℕ)
    → length_to_end scan (take k bytes) ≡ Some n
    → (length_to_end scan (take k (bytes ++ more)) ≡ Some n) × (0 < n) × (n ≤ length bytes)
end_stays scan zero bytes more n e = cc
end_stays scan (suc k) [] more n e = cc
end_stays scan (suc k) (byte ∷ bytes) more n e =
    by (is_outside scan && (byte == 59)) e (λ m is. end_stays (scan_behind scan byte) k bytes more m is)
  where
    number : (a b : ℕ) → Some a ≡ Some b → a ≡ b
    number a b e = cc

    inner : (o : Option ℕ) → option_map (λ x. x + 1) o ≡ Some n → (m : ℕ) × (o ≡ Some m) × (m + 1 ≡ n)
    inner None e = cc
    inner (Some m) e = (m, refl, number (m + 1) n e)

    by : (b : Bool) → (if b then Some 1 else option_map (λ x. x + 1) (length_to_end (scan_behind scan byte)
        (take k bytes))) ≡ Some n
        → ((m : ℕ) → length_to_end (scan_behind scan byte) (take k bytes) ≡ Some m
        → (length_to_end (scan_behind scan byte) (take k (bytes ++ more)) ≡ Some m) × (0 < m)
        × (m ≤ length bytes))
        → ((if b then Some 1 else option_map (λ x. x + 1) (length_to_end (scan_behind scan byte) (take k (bytes
        ++ more)))) ≡ Some n) × (0 < n) × (n ≤ suc (length bytes))
    by true e later = let is = number 1 n e in (e, omega (arith, is), omega (arith, is))
    by false e later =
        let i = inner (length_to_end (scan_behind scan byte) (take k bytes)) e in
        let l = later i.0 i.1 in
        (ap (option_map (λ x. x + 1)) l.0 ∙ ap Some i.2, omega (arith, i.2), omega (arith, l.2, i.2))

-- a whole record at the front stays where it is
pub record StaysWhole (text more : List ℕ) (n : ℕ) : Type 0 where
  pub whole : HasRecord (text ++ more) n
  pub some : 0 < n
  pub within : n ≤ length (behind_blanks text)
  pub behind : behind_blanks (text ++ more) ≡ behind_blanks text ++ more

stays_whole : (text more : List ℕ) (n : ℕ) → HasRecord text n → StaysWhole text more n
stays_whole text more n whole =
    let e = end_stays Outside MOST_RECORD_BYTES (behind_blanks text) more n whole in
    let behind : behind_blanks (text ++ more) ≡ behind_blanks text ++ more = behind-append text more
    ∙ behind_some (behind_blanks text) more (omega (arith, e.1, e.2)) in
    record { whole = ap record_length behind ∙ e.0; some = e.1; within = e.2; behind = behind }

bytes_stay : (text more : List ℕ) (n : ℕ) → StaysWhole text more n
    → take n (behind_blanks (text ++ more)) ≡ take n (behind_blanks text)
bytes_stay text more n s = ap (take n) s.behind ∙ take-append-le n (behind_blanks text) more s.within

-- what is read at the front of a text is read of each longer one
pub BeginsWithRecord-append : (entries : List NameEntry) (mode : LogMode) (text : List ℕ) (item : LogItem)
    (rest more : List ℕ) → BeginsWithRecord entries mode text item rest
    → BeginsWithRecord entries mode (text ++ more) item (rest ++ more)
BeginsWithRecord-append entries mode text item rest more (n, whole, answer, is) =
    let s = stays_whole text more n whole in (
      n,
      s.whole,
      subst (λ l. IsRecordAnswer entries mode l (Ok item)) (sym (bytes_stay text more n s)) answer,
      ap (λ l. l ++ more) is ∙ sym (drop-append-le n (behind_blanks text) more s.within)
          ∙ ap (drop n) (sym s.behind),
    )

-- a refusal stands, whatever follows
pub RefusesFront-append : (entries : List NameEntry) (mode : LogMode) (text more : List ℕ) (refusal : LogRefusal)
    → RefusesFront entries mode text refusal → RefusesFront entries mode (text ++ more) refusal
RefusesFront-append entries mode text more TooLong (none, long) =
    let behind : behind_blanks (text ++ more) ≡ behind_blanks text ++ more = behind-append text more
    ∙ behind_some (behind_blanks text) more (omega (arith, long)) in (
      ap record_length behind
          ∙ ap (length_to_end Outside) (take-append-le MOST_RECORD_BYTES (behind_blanks text) more long) ∙ none,
      omega (arith, ap length behind, length-append (behind_blanks text) more, long),
    )
RefusesFront-append entries mode text more Truncated refused = refused
RefusesFront-append entries mode text more NoMemory refused = refused
RefusesFront-append entries mode text more (BadRecord place) (n, whole, answer) =
    let s = stays_whole text more n whole in (
      n,
      s.whole,
      subst (λ l. IsRecordAnswer entries mode l (Err
          (BadRecord place))) (sym (bytes_stay text more n s)) answer,
    )
RefusesFront-append entries mode text more (UnknownName place) (n, whole, answer) =
    let s = stays_whole text more n whole in (
      n,
      s.whole,
      subst (λ l. IsRecordAnswer entries mode l (Err
          (UnknownName place))) (sym (bytes_stay text more n s)) answer,
    )
RefusesFront-append entries mode text more (Arity place) (n, whole, answer) =
    let s = stays_whole text more n whole in (
      n,
      s.whole,
      subst (λ l. IsRecordAnswer entries mode l (Err (Arity place)))
          (sym (bytes_stay text more n s)) answer,
    )
RefusesFront-append entries mode text more (SortClash place) (n, whole, answer) =
    let s = stays_whole text more n whole in (
      n,
      s.whole,
      subst (λ l. IsRecordAnswer entries mode l (Err
          (SortClash place))) (sym (bytes_stay text more n s)) answer,
    )
RefusesFront-append entries mode text more TimeTooLarge (n, whole, answer) =
    let s = stays_whole text more n whole in (
      n,
      s.whole,
      subst (λ l. IsRecordAnswer entries mode l (Err TimeTooLarge))
          (sym (bytes_stay text more n s)) answer,
    )

-- a piece is fed: what was read is read of the longer text, and the piece is after the rest
pub SpellsRecords-append : (entries : List NameEntry) (mode : LogMode) (text : List ℕ) (items : List LogItem)
    (rest piece : List ℕ) → SpellsRecords entries mode text items rest
    → SpellsRecords entries mode (text ++ piece) items (rest ++ piece)
SpellsRecords-append entries mode text [] rest piece same =
    behind-append rest piece ∙ ap (λ l. behind_more l piece) same ∙ sym (behind-append text piece)
SpellsRecords-append entries mode text (item ∷ items) rest piece (between, begins, later) = (
  between ++ piece,
  BeginsWithRecord-append entries mode text item between piece begins,
  SpellsRecords-append entries mode between items rest piece later,
)

-- blanks in front count for nothing
BeginsWithRecord-same : (entries : List NameEntry) (mode : LogMode) (text other : List ℕ) (item : LogItem)
    (rest : List ℕ) → behind_blanks text ≡ behind_blanks other → BeginsWithRecord entries mode text item rest
    → BeginsWithRecord entries mode other item rest
BeginsWithRecord-same entries mode text other item rest same begins =
    let P : List ℕ → Type 0 = λ l. (n : ℕ) × (record_length l ≡ Some n)
    × IsRecordAnswer entries mode (take n l) (Ok item) × (rest ≡ drop n l) in
    subst P same begins

-- a record is handed out: it is the next that was read
pub SpellsRecords-push : (entries : List NameEntry) (mode : LogMode) (text : List ℕ) (items : List LogItem)
    (rest : List ℕ) (item : LogItem) (after : List ℕ) → SpellsRecords entries mode text items rest
    → BeginsWithRecord entries mode rest item after → SpellsRecords entries mode text (items ++ item ∷ []) after
SpellsRecords-push entries mode text [] rest item after same begins =
    (after, BeginsWithRecord-same entries mode rest text item after same begins, refl)
SpellsRecords-push entries mode text (first ∷ items) rest item after (between, read, later) begins =
    (between, read, SpellsRecords-push entries mode between items rest item after later begins)

behind-behind : (text : List ℕ) → behind_blanks (behind_blanks text) ≡ behind_blanks text
behind-behind [] = refl
behind-behind (byte ∷ text) = by (is_blank byte) refl (behind-behind text)
  where
    by : (b : Bool) → is_blank byte ≡ b → behind_blanks (behind_blanks text) ≡ behind_blanks text
        → behind_blanks (if b then behind_blanks text else byte ∷ text) ≡
        (if b then behind_blanks text else byte ∷ text)
    by true e h = h
    by false e h = ap (λ b. if b then behind_blanks text else byte ∷ text) e

-- blanks in front of the rest are let go
pub SpellsRecords-blanks : (entries : List NameEntry) (mode : LogMode) (text : List ℕ) (items : List LogItem)
    (rest : List ℕ) → SpellsRecords entries mode text items rest
    → SpellsRecords entries mode text items (behind_blanks rest)
SpellsRecords-blanks entries mode text [] rest same = behind-behind rest ∙ same
SpellsRecords-blanks entries mode text (item ∷ items) rest (between, begins, later) =
    (between, begins, SpellsRecords-blanks entries mode between items rest later)

-- without blanks in front a rest is pending as it was
pub IsPending-blanks : (rest : List ℕ) → IsPending rest → IsPending (behind_blanks rest)
IsPending-blanks rest pending =
    let P : List ℕ → Type 0 = λ l. (record_length l ≡ None) × (length l < MOST_RECORD_BYTES) in
    subst P (sym (behind-behind rest)) pending

pub behind-shorter : (text : List ℕ) → length (behind_blanks text) ≤ length text
behind-shorter [] = omega arith
behind-shorter (byte ∷ text) = by (is_blank byte) (behind-shorter text)
  where
    by : (b : Bool) → length (behind_blanks text) ≤ length text
        → length (if b then behind_blanks text else byte ∷ text) ≤ suc (length text)
    by true h = omega (arith, h)
    by false h = omega arith

-- after a record less is left, so that reading on ends
pub BeginsWithRecord-shorter : (entries : List NameEntry) (mode : LogMode) (text : List ℕ)
    (item : LogItem) (rest : List ℕ)
    → BeginsWithRecord entries mode text item rest → length rest < length text
BeginsWithRecord-shorter entries mode text item rest (n, whole, answer, is) =
    let e = end_stays Outside MOST_RECORD_BYTES (behind_blanks text) [] n whole in
    omega (arith, ap length is, length-drop n (behind_blanks text), e.1, e.2, behind-shorter text)
