-- The bytes of a record have one answer at most.
use Rattle.log_stream.proofs.Vocabulary.{◌≡◌, ◌⊎◌, inl, inr, ℕ, ◌+◌, ◌<◌, ◌≤◌, ◌==◌, pos, Bool, true, false, List, [], ◌∷◌, ◌++◌, length, take_while, drop, slice_index, Option, None, Some, Result, Ok}
use Rattle.log_stream.proofs.Vocabulary.{Err, IsTrue, if◌then◌else◌, refl, sym, ap, subst, ◌∙◌, arith, append_assoc, add-zero, true≢false, ⊎_elim, option_and_then, eqb-true, cases_lt, append-nil}
use Rattle.log_stream.proofs.Vocabulary.{get_or-drop, take_while-cons, same_Some, is_word, is_word_byte, OneTokenAtPlace, Value, Num, Text, NameEntry, StepKind, LogItem, LogMode, LogRefusal}
use Rattle.log_stream.proofs.Vocabulary.{BadRecord, UnknownName, Arity, SortClash, TooLong, TimeTooLarge, Truncated, NoMemory, IsRecordAnswer, judged_record, LogToken, LogMark, LogTime, LogName}
use Rattle.log_stream.proofs.Vocabulary.{LogArgument, IsLogGap, IsLogTokenAt, LogTokensLead, WrittenEvent, WrittenRecord, Line, CanBeginRecord, IsBadRecord, IsRecordForm, IsRecordSpelled}
use Rattle.log_stream.proofs.Vocabulary.{record_tokens, RecordState, RecordStart, RecordMarked, Ticking, Ticked, Events, Named, Opened, Valued, Comma, Done, event_at, record_next, record_run}
use Rattle.log_stream.proofs.StateFronts.{begins_runs, chosen_some, run_onto, run_tokens}
use Rattle.log_stream.proofs.TokensByFirstByte.{BeginsValue, value_first}

-- gaps end at one place
gap_one : (bytes : List ℕ) (from m n : ℕ) → IsLogGap bytes from m → IsLogGap bytes from n → m ≡ n
gap_one bytes from m n a b = by (cases_lt m n) (cases_lt n m)
  where
    shorter : (x y : ℕ) → IsLogGap bytes from x → IsLogGap bytes from y → x < y → ⊥
    shorter x y g h below = true≢false (sym (h.blanks x g.onward below) ∙ g.ends)

    by : (m < n) ⊎ (n ≤ m) → (n < m) ⊎ (m ≤ n) → m ≡ n
    by (inl h) c = absurd (shorter m n a b h)
    by (inr h) (inl k) = absurd (shorter n m b a k)
    by (inr h) (inr k) = omega (arith, h, k)

-- a name begins with a byte of a word
name_first : (bytes : List ℕ) (at : ℕ) (name : List ℕ) → IsTrue (is_word name) → name ≡ take_while is_word_byte (drop at bytes) → is_word_byte (slice_index bytes at) ≡ true
name_first bytes at name word is = ap is_word_byte (sym (ap (λ n. slice_index bytes n) (add-zero at)) ∙ sym (get_or-drop at bytes 0 0)) ∙ by (drop at bytes) (subst (λ l. IsTrue (is_word l)) is word)
  where
    front : (x : ℕ) (xs : List ℕ) (b : Bool) → is_word_byte x ≡ b → IsTrue (is_word (if b then x ∷ take_while is_word_byte xs else [])) → is_word_byte x ≡ true
    front x xs true e h = e
    front x xs false e h = cc

    by : (l : List ℕ) → IsTrue (is_word (take_while is_word_byte l)) → is_word_byte (slice_index l 0) ≡ true
    by [] h = cc
    by (x ∷ xs) h = front x xs (is_word_byte x) refl (subst (λ l. IsTrue (is_word l)) (take_while-cons is_word_byte x xs) h)

name_no_mark : (bytes : List ℕ) (at e f place : ℕ) (name : List ℕ) → IsLogTokenAt bytes at e (LogName place name) → IsLogTokenAt bytes at f (LogMark 59) → ⊥
name_no_mark bytes at e f place name n m =
    true≢false (sym (name_first bytes at name n.1 n.2) ∙ ap is_word_byte m.1)

value_no_mark : (bytes : List ℕ) (at e f place : ℕ) (value : Value) → IsLogTokenAt bytes at e (LogArgument place value) → IsLogTokenAt bytes at f (LogMark 41) → ⊥
value_no_mark bytes at e f place (Num number) a m = by (value_first bytes at e (Num number) a.1)
  where
    by : BeginsValue (slice_index bytes at) (Num number) → ⊥
    by (inl h) = omega (arith, h.0, h.1, m.1)
    by (inr h) = omega (arith, h, m.1)
value_no_mark bytes at e f place (Text text) a m =
    let quote = value_first bytes at e (Text text) a.1 in omega (arith, quote, m.1)

marks_one : (bytes : List ℕ) (at e f a b : ℕ) → IsLogTokenAt bytes at e (LogMark a) → IsLogTokenAt bytes at f (LogMark b) → (LogMark a ≡ LogMark b) × (e ≡ f)
marks_one bytes at e f a b s t = (ap LogMark (sym s.1 ∙ t.1), s.2 ∙ sym t.2)

times_one : OneTokenAtPlace → (bytes : List ℕ) (at e f a b : ℕ) → IsLogTokenAt bytes at e (LogTime a) → IsLogTokenAt bytes at f (LogTime b) → (LogTime a ≡ LogTime b) × (e ≡ f)
times_one one bytes at e f a b s t = let o = one bytes at e f (Num (pos a)) (Num (pos b)) s.0 t.0 in (ap LogTime (number a b o.0), o.1)
  where
    number : (x y : ℕ) → Num (pos x) ≡ Num (pos y) → x ≡ y
    number x y e = cc

names_one : (bytes : List ℕ) (at e f p q : ℕ) (n m : List ℕ) → IsLogTokenAt bytes at e (LogName p n) → IsLogTokenAt bytes at f (LogName q m) → (LogName p n ≡ LogName q m) × (e ≡ f)
names_one bytes at e f p q n m s t =
    let same : n ≡ m = s.2 ∙ sym t.2 in
    ((λ j. LogName ((s.0 ∙ sym t.0) j) (same j)), s.3 ∙ ap (λ l. at + length l) same ∙ sym t.3)

values_one : OneTokenAtPlace → (bytes : List ℕ) (at e f p q : ℕ) (v w : Value) → IsLogTokenAt bytes at e (LogArgument p v) → IsLogTokenAt bytes at f (LogArgument q w)
    → (LogArgument p v ≡ LogArgument q w) × (e ≡ f)
values_one one bytes at e f p q v w s t =
    let o = one bytes at e f v w s.1 t.1 in ((λ j. LogArgument ((s.0 ∙ sym t.0) j) (o.0 j)), o.1)

-- the mark that goes on from a state
ends_events : (mode : LogMode) (kind : StepKind) (time : ℕ) (events : List WrittenEvent) (byte : ℕ) (after : RecordState) → record_next mode (Events kind time events) (LogMark byte)
    ≡ Some after → byte ≡ 59
ends_events mode kind time events byte after e = eqb-true byte 59 (chosen_some (byte == 59) (Some (Done (Line kind time events))) after e).0

closes_row : (mode : LogMode) (kind : StepKind) (time : ℕ) (events : List WrittenEvent) (place : ℕ) (name : List ℕ) (byte : ℕ) (after : RecordState)
    → record_next mode (Opened kind time events place name) (LogMark byte) ≡ Some after → byte ≡ 41
closes_row mode kind time events place name byte after e = eqb-true byte 41 (chosen_some (byte == 41) (Some (Events kind time (events ++ event_at place name [] ∷ []))) after e).0

-- from a state one token goes on at most
one_step : OneTokenAtPlace → (mode : LogMode) (bytes : List ℕ) (at e f : ℕ) (state : RecordState) (t u : LogToken) (x y : RecordState) → record_next mode state t ≡ Some x
    → record_next mode state u ≡ Some y → IsLogTokenAt bytes at e t → IsLogTokenAt bytes at f u → (t ≡ u) × (e ≡ f)
one_step one mode bytes at e f RecordStart (LogMark a) (LogMark b) x y p q s t = marks_one bytes at e f a b s t
one_step one mode bytes at e f (RecordMarked kind) (LogTime a) (LogTime b) x y p q s t = times_one one bytes at e f a b s t
one_step one mode bytes at e f Ticking (LogTime a) (LogTime b) x y p q s t = times_one one bytes at e f a b s t
one_step one mode bytes at e f (Ticked time) (LogMark a) (LogMark b) x y p q s t = marks_one bytes at e f a b s t
one_step one mode bytes at e f (Events kind time events) (LogMark a) (LogMark b) x y p q s t = marks_one bytes at e f a b s t
one_step one mode bytes at e f (Events kind time events) (LogName a n) (LogName b m) x y p q s t = names_one bytes at e f a b n m s t
one_step one mode bytes at e f (Events kind time events) (LogName a n) (LogMark b) x y p q s t =
    absurd (name_no_mark bytes at e f a n s (subst (λ m. IsLogTokenAt bytes at f (LogMark m)) (ends_events mode kind time events b y q) t))
one_step one mode bytes at e f (Events kind time events) (LogMark a) (LogName b m) x y p q s t =
    absurd (name_no_mark bytes at f e b m t (subst (λ n. IsLogTokenAt bytes at e (LogMark n)) (ends_events mode kind time events a x p) s))
one_step one mode bytes at e f (Named kind time events place name) (LogMark a) (LogMark b) x y p q s t = marks_one bytes at e f a b s t
one_step one mode bytes at e f (Opened kind time events place name) (LogMark a) (LogMark b) x y p q s t = marks_one bytes at e f a b s t
one_step one mode bytes at e f (Opened kind time events place name) (LogArgument a v) (LogArgument b w) x y p q s t = values_one one bytes at e f a b v w s t
one_step one mode bytes at e f (Opened kind time events place name) (LogArgument a v) (LogMark b) x y p q s t =
    absurd (value_no_mark bytes at e f a v s (subst (λ m. IsLogTokenAt bytes at f (LogMark m)) (closes_row mode kind time events place name b y q) t))
one_step one mode bytes at e f (Opened kind time events place name) (LogMark a) (LogArgument b w) x y p q s t =
    absurd (value_no_mark bytes at f e b w t (subst (λ m. IsLogTokenAt bytes at e (LogMark m)) (closes_row mode kind time events place name a x p) s))
one_step one mode bytes at e f (Valued kind time events place name args) (LogMark a) (LogMark b) x y p q s t = marks_one bytes at e f a b s t
one_step one mode bytes at e f (Comma kind time events place name args) (LogArgument a v) (LogArgument b w) x y p q s t = values_one one bytes at e f a b v w s t
one_step one mode bytes at e f state t u x y p q s r = absurd cc

-- of two fronts that can begin a record, one goes on with the other
pub record GoesOnWith (bytes : List ℕ) (front other : List LogToken) (p q : ℕ) : Type 0 where
  pub rest : List LogToken
  pub is : other ≡ front ++ rest
  pub leads : LogTokensLead bytes p rest q

fronts : OneTokenAtPlace → (mode : LogMode) (bytes : List ℕ) (from p q : ℕ) (state x y : RecordState) (f g : List LogToken) → LogTokensLead bytes from f p
    → LogTokensLead bytes from g q → record_run mode state f ≡ Some x → record_run mode state g ≡ Some y → GoesOnWith bytes f g p q ⊎ GoesOnWith bytes g f q p
fronts one mode bytes from p q state x y [] g l m a b = inl (record { rest = g; is = refl; leads = subst (λ n. LogTokensLead bytes n g q) (sym l) m })
fronts one mode bytes from p q state x y (t ∷ f) [] l m a b = inr (record { rest = t ∷ f; is = refl; leads = subst (λ n. LogTokensLead bytes n (t ∷ f) p) (sym m) l })
fronts one mode bytes from p q state x y (t ∷ f) (u ∷ g) (e, n, s, gap, l) (e', n', s', gap', m) a b =
    by (record_next mode state t) (record_next mode state u) refl refl a b (λ after same l' a' b'. fronts one mode bytes n p q after x y f g l l' a' b')
  where
    none : {z : RecordState} → None ≡ Some z → ⊥
    none e = cc

    wider : GoesOnWith bytes f g p q ⊎ GoesOnWith bytes g f q p → t ≡ u → GoesOnWith bytes (t ∷ f) (u ∷ g) p q ⊎ GoesOnWith bytes (u ∷ g) (t ∷ f) q p
    wider (inl o) same = inl (record { rest = o.rest; is = λ j. sym same j ∷ o.is j; leads = o.leads })
    wider (inr o) same = inr (record { rest = o.rest; is = λ j. same j ∷ o.is j; leads = o.leads })

    by : (c d : Option RecordState) → record_next mode state t ≡ c → record_next mode state u ≡ d → option_and_then (λ z. record_run mode z f) c ≡ Some x
        → option_and_then (λ z. record_run mode z g) d ≡ Some y
        → ((after : RecordState) → t ≡ u → LogTokensLead bytes n g q → record_run mode after f ≡ Some x → record_run mode after g ≡ Some y → GoesOnWith bytes f g p q ⊎ GoesOnWith bytes g f q p)
        → GoesOnWith bytes (t ∷ f) (u ∷ g) p q ⊎ GoesOnWith bytes (u ∷ g) (t ∷ f) q p
    by None d cis dis a b later = absurd (none a)
    by (Some z) None cis dis a b later = absurd (none b)
    by (Some z) (Some w) cis dis a b later =
        let o = one_step one mode bytes from e e' state t u z w cis dis s s' in
        let same : z ≡ w = same_Some z w (sym cis ∙ ap (record_next mode state) o.0 ∙ dis) in
        let here : n' ≡ n = gap_one bytes e' n' n gap' (subst (λ k. IsLogGap bytes k n) o.1 gap) in
        wider (later z o.0 (subst (λ k. LogTokensLead bytes k g q) here m) a (ap (λ k. record_run mode k g) same ∙ b)) o.0

-- nothing goes on from a whole record
done_ends : (mode : LogMode) (written : WrittenRecord) (rest : List LogToken) (state : RecordState) → record_run mode (Done written) rest ≡ Some state → (rest ≡ []) × (Done written ≡ state)
done_ends mode written [] state e = (refl, same_Some (Done written) state e)
done_ends mode written (LogMark b ∷ rest) state e = cc
done_ends mode written (LogTime t ∷ rest) state e = cc
done_ends mode written (LogName p n ∷ rest) state e = cc
done_ends mode written (LogArgument p v ∷ rest) state e = cc

done_is_one : (a b : WrittenRecord) → Done a ≡ Done b → a ≡ b
done_is_one a b e = cc

spelled_on : (mode : LogMode) (bytes : List ℕ) (a b : WrittenRecord) (p q : ℕ) → IsRecordForm mode a → IsRecordForm mode b → GoesOnWith bytes (record_tokens a) (record_tokens b) p q → a ≡ b
spelled_on mode bytes a b p q form other o =
    let whole : record_run mode RecordStart (record_tokens a ++ o.rest) ≡ Some (Done b) = ap (record_run mode RecordStart) (sym o.is) ∙ run_tokens mode b other in
    done_is_one a b (done_ends mode a o.rest (Done b) (sym (run_onto mode RecordStart (Done a) (record_tokens a) o.rest (run_tokens mode a form)) ∙ whole)).1

-- the bytes spell one record at most
pub one_spelled : OneTokenAtPlace → (mode : LogMode) (bytes : List ℕ) (a b : WrittenRecord) → IsRecordSpelled mode bytes a → IsRecordSpelled mode bytes b → a ≡ b
one_spelled one mode bytes a b s t =
    ⊎_elim (λ o. spelled_on mode bytes a b (length bytes) (length bytes) s.0 t.0 o) (λ o. sym (spelled_on mode bytes b a (length bytes) (length bytes) t.0 s.0 o))
    (fronts one mode bytes 0 (length bytes) (length bytes) RecordStart (Done a) (Done b) (record_tokens a) (record_tokens b) s.1 t.1 (run_tokens mode a s.0) (run_tokens mode b t.0))

-- what goes on after a bad place
no_more : (mode : LogMode) (bytes : List ℕ) (place q : ℕ) (bad : IsBadRecord mode bytes place) (rest : List LogToken) → CanBeginRecord mode (bad.front ++ rest)
    → LogTokensLead bytes place rest q → (rest ≡ []) × (q ≡ place)
no_more mode bytes place q bad [] begins l = (refl, l)
no_more mode bytes place q bad (token ∷ rest) (written, more, form, is) (end, record_next, stands, gap, l) =
    absurd (bad.stuck token end stands (written, rest ++ more, form, is ∙ append_assoc bad.front (token ∷ rest) more ∙ sym (append_assoc bad.front (token ∷ []) (rest ++ more))))

-- what is spelled is not bad
pub not_bad : OneTokenAtPlace → (mode : LogMode) (bytes : List ℕ) (written : WrittenRecord) (place : ℕ) → IsRecordSpelled mode bytes written → IsBadRecord mode bytes place → ⊥
not_bad one mode bytes written place s bad = by (fronts one mode bytes 0 place (length bytes) RecordStart runs.0 (Done written) bad.front (record_tokens written) bad.leads s.1 runs.1
    (run_tokens mode written s.0))
  where
    runs : (state : RecordState) × (record_run mode RecordStart bad.front ≡ Some state)
    runs = begins_runs mode bad.front bad.begins

    ended : (rest : List LogToken) → record_tokens written ≡ bad.front ++ rest → rest ≡ [] → place ≡ length bytes → ⊥
    ended rest is none here = bad.unfinished here (written, s.0, is ∙ ap (λ l. bad.front ++ l) none ∙ append-nil bad.front)

    by : GoesOnWith bytes bad.front (record_tokens written) place (length bytes) ⊎ GoesOnWith bytes (record_tokens written) bad.front (length bytes) place → ⊥
    by (inl o) =
        let m = no_more mode bytes place (length bytes) bad o.rest (written, [], s.0, o.is ∙ sym (append-nil (bad.front ++ o.rest))) o.leads in
        ended o.rest o.is m.0 (sym m.1)
    by (inr o) =
        let d = done_ends mode written o.rest runs.0 (sym (run_onto mode RecordStart (Done written) (record_tokens written) o.rest (run_tokens mode written s.0)) ∙ ap
        (record_run mode RecordStart) (sym o.is) ∙ runs.1) in
        ended [] (sym (append-nil (record_tokens written)) ∙ ap (λ l. record_tokens written ++ l) (sym d.0) ∙ sym o.is ∙ sym (append-nil bad.front)) refl
        (subst (λ l. LogTokensLead bytes (length bytes) l place) d.0 o.leads)

-- one place is bad at most
pub one_bad : OneTokenAtPlace → (mode : LogMode) (bytes : List ℕ) (p q : ℕ) → IsBadRecord mode bytes p → IsBadRecord mode bytes q → p ≡ q
one_bad one mode bytes p q a b =
    let x = begins_runs mode a.front a.begins in
    let y = begins_runs mode b.front b.begins in
    ⊎_elim (λ o. sym (no_more mode bytes p q a o.rest (subst (CanBeginRecord mode) o.is b.begins) o.leads).1)
    (λ o. (no_more mode bytes q p b o.rest (subst (CanBeginRecord mode) o.is a.begins) o.leads).1)
    (fronts one mode bytes 0 p q RecordStart x.0 y.0 a.front b.front a.leads b.leads x.1 y.1)

-- an answer is a bad place, or that of what is spelled
answer_cases : (entries : List NameEntry) (mode : LogMode) (bytes : List ℕ) (answer : Result LogItem LogRefusal) → IsRecordAnswer entries mode bytes answer →
    ((place : ℕ) × IsBadRecord mode bytes place × (answer ≡ Err (BadRecord place))) ⊎ ((written : WrittenRecord) × IsRecordSpelled mode bytes written × (judged_record entries written ≡ answer))
answer_cases entries mode bytes (Ok item) is = inr is
answer_cases entries mode bytes (Err (BadRecord place)) is = inl (place, is, refl)
answer_cases entries mode bytes (Err (UnknownName place)) is = inr is
answer_cases entries mode bytes (Err (Arity place)) is = inr is
answer_cases entries mode bytes (Err (SortClash place)) is = inr is
answer_cases entries mode bytes (Err TooLong) is = inr is
answer_cases entries mode bytes (Err TimeTooLarge) is = inr is
answer_cases entries mode bytes (Err Truncated) is = inr is
answer_cases entries mode bytes (Err NoMemory) is = inr is

pub one_answer : OneTokenAtPlace → (entries : List NameEntry) (mode : LogMode) (bytes : List ℕ) (x y : Result LogItem LogRefusal) → IsRecordAnswer entries mode bytes x
    → IsRecordAnswer entries mode bytes y → x ≡ y
one_answer one entries mode bytes x y a b = by (answer_cases entries mode bytes x a) (answer_cases entries mode bytes y b)
  where
    by : ((place : ℕ) × IsBadRecord mode bytes place × (x ≡ Err (BadRecord place))) ⊎ ((written : WrittenRecord) × IsRecordSpelled mode bytes written × (judged_record entries written ≡ x)) →
        ((place : ℕ) × IsBadRecord mode bytes place × (y ≡ Err (BadRecord place))) ⊎ ((written : WrittenRecord) × IsRecordSpelled mode bytes written × (judged_record entries written ≡ y)) → x ≡ y
    by (inl (p, bad, is)) (inl (q, other, also)) = is ∙ ap (λ n. Err (BadRecord n)) (one_bad one mode bytes p q bad other) ∙ sym also
    by (inl (p, bad, is)) (inr (w, spelled, also)) = absurd (not_bad one mode bytes w p spelled bad)
    by (inr (w, spelled, is)) (inl (q, other, also)) = absurd (not_bad one mode bytes w q spelled other)
    by (inr (v, spelled, is)) (inr (w, other, also)) = sym is ∙ ap (judged_record entries) (one_spelled one mode bytes v w spelled other) ∙ also
