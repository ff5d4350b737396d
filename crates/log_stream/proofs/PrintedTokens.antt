-- The tokens of a step's line, each at its place.
use Rattle.log_stream.proofs.Vocabulary.{◌≡◌, ℕ, ◌+◌, ◌<◌, ◌≤◌, ◌&&◌, Bool, true, false, List, [], ◌∷◌, ◌++◌, length, take_while, drop, slice_index, slice_index_or, IsTrue, if◌then◌else◌, inl, inr}
use Rattle.log_stream.proofs.Vocabulary.{◌⊎◌, refl, sym, ap, subst, ◌∙◌, arith, append_assoc, length-append, length-drop, add-zero, flat_map, list_all, cases_lt, nat_tests, drop-drop, drop_all}
use Rattle.log_stream.proofs.Vocabulary.{drop_at, get_or-drop, take_while-cons, is_word, is_word_byte, is_word_start, spelled, EndsBefore, ValueTokenAt, is_blank, IsValue, PrintedIsToken, Event}
use Rattle.log_stream.proofs.Vocabulary.{Value, Num, Text, spelled_event, spelled_row, LogMark, IsLogGap, IsLogTokenAt, LogTokensLead, WrittenArgument, WrittenEvent, argument_token, event_tokens}
use Rattle.log_stream.proofs.Vocabulary.{row_tokens, argument_at, event_at}
use Rattle.log_stream.proofs.TokensByFirstByte.{BeginsValue, value_first}
use Rattle.log_stream.proofs.PlainBytes.{word_bytes}
use Rattle.log_stream.proofs.ReadParts.{leads-append}

-- the arguments at their places, with a comma between two
abbrev pub written_args : (place : ℕ) → List Value → List WrittenArgument
written_args place [] = []
written_args place (value ∷ values) = argument_at place value ∷ written_args (place + length (spelled value) + 1) values

abbrev pub name_of : List (List ℕ) → Event → List ℕ
name_of names event = slice_index_or names event.name.0 []

abbrev pub written_event : List (List ℕ) → (place : ℕ) → Event → WrittenEvent
written_event names place event = event_at place (name_of names event) (written_args (place + length (name_of names event) + 1) event.args)

-- the events at their places, with a space between two
abbrev pub written_events : List (List ℕ) → (place : ℕ) → List Event → List WrittenEvent
written_events names place [] = []
written_events names place (event ∷ events) = written_event names place event ∷ written_events names (place + length (spelled_event names event) + 1) events

-- what stands at a place
pub at_place : (bytes : List ℕ) (p : ℕ) (l : List ℕ) → drop p bytes ≡ l → slice_index bytes p ≡ slice_index l 0
at_place bytes p l e = ap (λ n. slice_index bytes n) (sym (add-zero p)) ∙ sym (get_or-drop p bytes 0 0) ∙ ap (λ x. slice_index x 0) e

pub behind_front : (bytes : List ℕ) (p : ℕ) (front rest : List ℕ) → drop p bytes ≡ front ++ rest → drop (p + length front) bytes ≡ rest
behind_front bytes p front rest e = sym (drop-drop (length front) p bytes) ∙ ap (drop (length front)) e ∙ drop_at front rest (length front) refl

pub within_front : (bytes : List ℕ) (p byte : ℕ) (rest : List ℕ) → drop p bytes ≡ byte ∷ rest → p < length bytes
within_front bytes p byte rest e = by (cases_lt p (length bytes))
  where
    never : [] ≡ byte ∷ rest → ⊥
    never e = cc

    by : (p < length bytes) ⊎ (length bytes ≤ p) → p < length bytes
    by (inl h) = h
    by (inr h) = absurd (never (sym (drop_all p bytes h) ∙ e))

pub gap_none : (bytes : List ℕ) (p : ℕ) → is_blank (slice_index bytes p) ≡ false → IsLogGap bytes p p
gap_none bytes p e = record { onward = omega arith; blanks = λ k from to. absurd (omega arith); ends = e }

pub gap_space : (bytes : List ℕ) (p : ℕ) (rest : List ℕ) → drop p bytes ≡ 32 ∷ rest → is_blank (slice_index bytes (p + 1)) ≡ false → IsLogGap bytes p (p + 1)
gap_space bytes p rest e ends = record {
  onward = omega arith;
  blanks = λ k from to. ap is_blank (ap (λ n. slice_index bytes n) (only k from to) ∙ at_place bytes p (32 ∷ rest) e);
  ends = ends;
}
  where
    only : (k : ℕ) → p ≤ k → k < p + 1 → k ≡ p
    only k from to = omega arith

pub mark_stands : (bytes : List ℕ) (p byte : ℕ) (rest : List ℕ) → drop p bytes ≡ byte ∷ rest → IsLogTokenAt bytes p (p + 1) (LogMark byte)
mark_stands bytes p byte rest e = (within_front bytes p byte rest e, at_place bytes p (byte ∷ rest) e, refl)

-- the first byte of a value is no blank
pub value_not_blank : (byte : ℕ) (value : Value) → BeginsValue byte value → is_blank byte ≡ false
value_not_blank byte (Num number) (inl h) = let a = h.0 in let b = h.1 in grind (arith, nat_tests)
value_not_blank byte (Num number) (inr h) = ap is_blank h
value_not_blank byte (Text text) h = ap is_blank h

pub value_stands : PrintedIsToken → (bytes : List ℕ) (p : ℕ) (value : Value) (rest : List ℕ) → IsValue value → EndsBefore value rest → drop p bytes ≡ spelled value ++ rest
    → ValueTokenAt bytes p (p + length (spelled value)) value
value_stands printed bytes p value rest fits ends e = printed bytes p value rest fits ends e

-- a comma or a parenthesis ends a value
ends_value : (value : Value) (byte : ℕ) (rest : List ℕ) → byte < 48 → EndsBefore value (byte ∷ rest)
ends_value (Num number) byte rest h = λ low high. omega (arith, low, h)
ends_value (Text text) byte rest h = tt

-- values with a comma before each
abbrev pub commas : List Value → List ℕ
commas values = flat_map (λ (next : Value). 44 ∷ spelled next) values

abbrev pub AreValues : List Value → Type 0
AreValues [] = Unit {0}
AreValues (value ∷ values) = IsValue value × AreValues values

row_ends_value : (value : Value) (values : List Value) (more : List ℕ) → EndsBefore value (commas values ++ 41 ∷ more)
row_ends_value value [] more = ends_value value 41 more (omega arith)
row_ends_value value (next ∷ values) more = ends_value value 44 ((spelled next ++ commas values) ++ 41 ∷ more) (omega arith)

row_not_blank : (values : List Value) (more : List ℕ) → is_blank (slice_index (commas values ++ 41 ∷ more) 0) ≡ false
row_not_blank [] more = refl
row_not_blank (next ∷ values) more = refl

commas_lead : PrintedIsToken → (bytes : List ℕ) (q : ℕ) (values : List Value) (more : List ℕ) (end to : ℕ) → AreValues values → drop q bytes ≡ commas values ++ 41 ∷ more
    → end ≡ q + length (commas values) + 1 → IsLogGap bytes end to →
    LogTokensLead bytes q (flat_map (λ next. LogMark 44 ∷ argument_token next ∷ []) (written_args (q + 1) values) ++ LogMark 41 ∷ []) to
commas_lead printed bytes q [] more end to are e is gap = (q + 1, to, mark_stands bytes q 41 more e, subst (λ n. IsLogGap bytes n to) (is ∙ omega arith) gap, refl)
commas_lead printed bytes q (value ∷ values) more end to are e is gap =
    let rest = commas values ++ 41 ∷ more in
    let e1 : drop q bytes ≡ 44 ∷ (spelled value ++ rest) = e ∙ ap (λ l. 44 ∷ l) (append_assoc (spelled value) (commas values) (41 ∷ more)) in
    let e2 : drop (q + 1) bytes ≡ spelled value ++ rest = behind_front bytes q (44 ∷ []) (spelled value ++ rest) e1 in
    let token = value_stands printed bytes (q + 1) value rest are.0 (row_ends_value value values more) e2 in
    let e3 : drop (q + 1 + length (spelled value)) bytes ≡ rest = behind_front bytes (q + 1) (spelled value) rest e2 in
    let next = q + 1 + length (spelled value) in (
      q + 1,
      q + 1,
      mark_stands bytes q 44 (spelled value ++ rest) e1,
      gap_none bytes (q + 1) (value_not_blank (slice_index bytes (q + 1)) value (value_first bytes (q + 1) next value token)),
      (
        next,
        next,
        (refl, token),
        gap_none bytes next (ap is_blank (at_place bytes next rest e3) ∙ row_not_blank values more),
        commas_lead printed bytes next values more end to are.1 e3 (is ∙ omega (arith, length-append (44 ∷ spelled value) (commas values))) gap,
      ),
    )

pub row_leads : PrintedIsToken → (bytes : List ℕ) (q : ℕ) (values : List Value) (more : List ℕ) (end to : ℕ) → AreValues values → drop q bytes
    ≡ spelled_row values ++ 41 ∷ more → end ≡ q + length (spelled_row values) + 1 → IsLogGap bytes end to →
    (is_blank (slice_index bytes q) ≡ false) × LogTokensLead bytes q (row_tokens (written_args q values) ++ LogMark 41 ∷ []) to
row_leads printed bytes q [] more end to are e is gap =
    (ap is_blank (at_place bytes q (41 ∷ more) e), (q + 1, to, mark_stands bytes q 41 more e, subst (λ n. IsLogGap bytes n to) (is ∙ omega arith) gap, refl))
row_leads printed bytes q (value ∷ values) more end to are e is gap =
    let rest = commas values ++ 41 ∷ more in
    let e1 : drop q bytes ≡ spelled value ++ rest = e ∙ append_assoc (spelled value) (commas values) (41 ∷ more) in
    let token = value_stands printed bytes q value rest are.0 (row_ends_value value values more) e1 in
    let next = q + length (spelled value) in
    let e2 : drop next bytes ≡ rest = behind_front bytes q (spelled value) rest e1 in (
      value_not_blank (slice_index bytes q) value (value_first bytes q next value token),
      (
        next,
        next,
        (refl, token),
        gap_none bytes next (ap is_blank (at_place bytes next rest e2) ∙ row_not_blank values more),
        commas_lead printed bytes next values more end to are.1 e2 (is ∙ omega (arith, length-append (spelled value) (commas values))) gap,
      ),
    )

-- a word before a byte that is none of a word's
word_taken : (word : List ℕ) (byte : ℕ) (rest : List ℕ) → list_all is_word_byte word ≡ true → is_word_byte byte ≡ false → take_while is_word_byte (word ++ byte ∷ rest) ≡ word
word_taken [] byte rest all none = take_while-cons is_word_byte byte rest ∙ ap (λ b. if b then byte ∷ take_while is_word_byte rest else []) none
word_taken (x ∷ word) byte rest all none =
    let b = both (is_word_byte x) (list_all is_word_byte word) all in
    take_while-cons is_word_byte x (word ++ byte ∷ rest) ∙ ap (λ c. if c then x ∷ take_while is_word_byte (word ++ byte ∷ rest) else []) b.0 ∙ ap (λ l. x ∷ l) (word_taken word byte rest b.1 none)
  where
    both : (a b : Bool) → (a && b) ≡ true → (a ≡ true) × (b ≡ true)
    both true b e = (refl, e)
    both false b e = cc

word_not_blank : (word rest : List ℕ) → IsTrue (is_word word) → is_blank (slice_index (word ++ rest) 0) ≡ false
word_not_blank [] rest word = cc
word_not_blank (x ∷ xs) rest word = start x (first (is_word_start x) (list_all is_word_byte xs) word)
  where
    start : (y : ℕ) → is_word_start y ≡ true → is_blank y ≡ false
    start y h = grind (arith, nat_tests)

    first : (a b : Bool) → (a && b) ≡ true → a ≡ true
    first true b e = refl
    first false b e = cc

-- an event, from the place of its name on
pub event_leads : PrintedIsToken → (names : List (List ℕ)) (bytes : List ℕ) (p : ℕ) (event : Event) (more : List ℕ) (to : ℕ) → IsTrue (is_word (name_of names event))
    → AreValues event.args → drop p bytes ≡ spelled_event names event ++ more → IsLogGap bytes (p + length (spelled_event names event)) to →
    (is_blank (slice_index bytes p) ≡ false) × LogTokensLead bytes p (event_tokens (written_event names p event)) to
event_leads printed names bytes p event more to word are e gap =
    let name = name_of names event in
    let row = spelled_row event.args in
    let e0 : drop p bytes ≡ name ++ 40 ∷ (row ++ 41 ∷ more) = e ∙ ap (λ l. l ++ more) (append_assoc name (40 ∷ row) (41 ∷ [])) ∙ append_assoc name (40 ∷ row ++ 41 ∷ [])
    more ∙ ap (λ l. name ++ 40 ∷ l) (append_assoc row (41 ∷ []) more) in
    let next = p + length name in
    let e1 : drop next bytes ≡ 40 ∷ (row ++ 41 ∷ more) = behind_front bytes p name (40 ∷ (row ++ 41 ∷ more)) e0 in
    let e2 : drop (next + 1) bytes ≡ row ++ 41 ∷ more = behind_front bytes next (40 ∷ []) (row ++ 41 ∷ more) e1 in
    let long : p + length (spelled_event names event) ≡ next + 1 + length row + 1 = omega (arith, length-append (name ++ 40 ∷ row) (41 ∷ []), length-append name (40 ∷ row)) in
    let inner = row_leads printed bytes (next + 1) event.args more (p + length (spelled_event names event)) to are e2 long gap in (
      ap is_blank (at_place bytes p (name ++ 40 ∷ (row ++ 41 ∷ more)) e0) ∙ word_not_blank name (40 ∷ (row ++ 41 ∷ more)) word,
      (
        next,
        next,
        (refl, word, sym (ap (take_while is_word_byte) e0 ∙ word_taken name 40 (row ++ 41 ∷ more) (word_bytes name word) refl), refl),
        gap_none bytes next (ap is_blank (at_place bytes next (40 ∷ (row ++ 41 ∷ more)) e1)),
        (next + 1, next + 1, mark_stands bytes next 40 (row ++ 41 ∷ more) e1, gap_none bytes (next + 1) inner.0, inner.1),
      ),
    )

-- events, each after a space
abbrev pub spaced : List (List ℕ) → List Event → List ℕ
spaced names events = flat_map (λ event. 32 ∷ spelled_event names event) events

-- the space in front, where there is an event
abbrev pub space_before : List Event → ℕ
space_before [] = 0
space_before (event ∷ events) = 1

abbrev pub ArePrintable : List (List ℕ) → List Event → Type 0
ArePrintable names [] = Unit {0}
ArePrintable names (event ∷ events) = IsTrue (is_word (name_of names event)) × AreValues event.args × ArePrintable names events

pub events_lead : PrintedIsToken → (names : List (List ℕ)) (bytes : List ℕ) (e : ℕ) (events : List Event) → ArePrintable names events → drop e bytes ≡ spaced names events ++ 59 ∷ [] →
    IsLogGap bytes e (e + space_before events) × LogTokensLead bytes (e + space_before events) (flat_map event_tokens (written_events names (e + 1) events) ++ LogMark 59 ∷ []) (length bytes)
events_lead printed names bytes e [] are is =
    let here : e + 0 ≡ e = add-zero e in
    let after : drop (e + 1) bytes ≡ [] = behind_front bytes e (59 ∷ []) [] is in
    let at : slice_index bytes e ≡ 59 = at_place bytes e (59 ∷ []) is in
    let within = within_front bytes e 59 [] is in
    let last : e + 1 ≡ length bytes = omega (arith, within, ap length after, length-drop (e + 1) bytes) in
    subst (λ n. IsLogGap bytes e n × LogTokensLead bytes n (LogMark 59 ∷ []) (length bytes)) (sym here) (
      gap_none bytes e (ap is_blank at),
      (e + 1, e + 1, mark_stands bytes e 59 [] is, gap_none bytes (e + 1) (ap is_blank (at_place bytes (e + 1) [] after)), sym last),
    )
events_lead printed names bytes e (event ∷ events) are is =
    let text = spelled_event names event in
    let rest = spaced names events ++ 59 ∷ [] in
    let e0 : drop e bytes ≡ 32 ∷ (text ++ rest) = is ∙ ap (λ l. 32 ∷ l) (append_assoc text (spaced names events) (59 ∷ [])) in
    let e1 : drop (e + 1) bytes ≡ text ++ rest = behind_front bytes e (32 ∷ []) (text ++ rest) e0 in
    let e2 : drop (e + 1 + length text) bytes ≡ rest = behind_front bytes (e + 1) text rest e1 in
    let later = events_lead printed names bytes (e + 1 + length text) events are.2 e2 in
    let here = event_leads printed names bytes (e + 1) event rest (e + 1 + length text + space_before events) are.0 are.1 e1 later.0 in (
      gap_space bytes e (text ++ rest) e0 here.0,
      subst (λ ts. LogTokensLead bytes (e + 1) ts (length bytes)) (sym (append_assoc (event_tokens (written_event names (e + 1) event))
          (flat_map event_tokens (written_events names (e + 1 + length text + 1) events)) (LogMark 59 ∷ [])))
          (leads-append bytes (e + 1) (e + 1 + length text + space_before events) (length bytes) (event_tokens (written_event names (e + 1) event))
          (flat_map event_tokens (written_events names (e + 1 + length text + 1) events) ++ LogMark 59 ∷ []) here.1 later.1),
    )
