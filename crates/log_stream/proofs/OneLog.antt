-- A log has one list of whole records, and one refusal at most.
use Rattle.log_stream.proofs.Vocabulary.{◌≡◌, ◌⊎◌, inl, inr, ℕ, ◌<◌, ◌≤◌, List, [], ◌∷◌, length, take, Option, None, Some, Result, Ok, Err, refl, sym, ap, subst, ◌∙◌, arith, same_Some}
use Rattle.log_stream.proofs.Vocabulary.{OneTokenAtPlace, NameEntry, LogItem, LogMode, LogRefusal, BadRecord, UnknownName, Arity, SortClash, TooLong, TimeTooLarge, Truncated, NoMemory, IsRecordAnswer}
use Rattle.log_stream.proofs.Vocabulary.{BeginsWithRecord, EndsBy, HasRecord, IsLog, IsPending, RefusesFront, SpellsRecords, behind_blanks, behind_record, record_bytes, record_length, AreWholeRecords}
use Rattle.log_stream.proofs.Vocabulary.{IsStuck, MOST_RECORD_BYTES}
use Rattle.log_stream.proofs.OneReading.{one_answer}

one_length : (text : List ℕ) (m n : ℕ) → HasRecord text m → HasRecord text n → m ≡ n
one_length text m n a b = number m n (sym a ∙ b)
  where
    number : (x y : ℕ) → Some x ≡ Some y → x ≡ y
    number x y e = cc

same_answer : OneTokenAtPlace → (entries : List NameEntry) (mode : LogMode) (text : List ℕ) (m n : ℕ) (x y : Result LogItem LogRefusal) → HasRecord text m → HasRecord text n
    → IsRecordAnswer entries mode (record_bytes text m) x → IsRecordAnswer entries mode (record_bytes text n) y → x ≡ y
same_answer one entries mode text m n x y a b is other =
    one_answer one entries mode (record_bytes text n) x y (subst (λ k. IsRecordAnswer entries mode (record_bytes text k) x) (one_length text m n a b) is) other

pub ok_is : (x y : LogItem) → ◌≡◌ {A = Result LogItem LogRefusal} (Ok x) (Ok y) → x ≡ y
ok_is x y e = cc

pub err_is : (x y : LogRefusal) → ◌≡◌ {A = Result LogItem LogRefusal} (Err x) (Err y) → x ≡ y
err_is x y e = cc

pub ok_not_err : (x : LogItem) (y : LogRefusal) → ◌≡◌ {A = Result LogItem LogRefusal} (Ok x) (Err y) → ⊥
ok_not_err x y e = cc

not_both : (text : List ℕ) (n : ℕ) → HasRecord text n → record_length (behind_blanks text) ≡ None → ⊥
not_both text n a b = clash (sym a ∙ b)
  where
    clash : Some n ≡ None → ⊥
    clash e = cc

-- one item begins a text
one_item : OneTokenAtPlace → (entries : List NameEntry) (mode : LogMode) (text : List ℕ) (x y : LogItem) (r s : List ℕ) → BeginsWithRecord entries mode text x r
    → BeginsWithRecord entries mode text y s → (x ≡ y) × (r ≡ s)
one_item one entries mode text x y r s (m, a, is, rest) (n, b, other, more) =
    (ok_is x y (same_answer one entries mode text m n (Ok x) (Ok y) a b is other), rest ∙ ap (behind_record text) (one_length text m n a b) ∙ sym more)

-- why a record is refused, where it is whole
refused_whole : (entries : List NameEntry) (mode : LogMode) (text : List ℕ) (refusal : LogRefusal) → RefusesFront entries mode text refusal
    → (record_length (behind_blanks text) ≡ None) ⊎ ((n : ℕ) × HasRecord text n × IsRecordAnswer entries mode (record_bytes text n) (Err refusal))
refused_whole entries mode text TooLong r = inl r.0
refused_whole entries mode text Truncated r = absurd r
refused_whole entries mode text NoMemory r = absurd r
refused_whole entries mode text (BadRecord place) r = inr r
refused_whole entries mode text (UnknownName place) r = inr r
refused_whole entries mode text (Arity place) r = inr r
refused_whole entries mode text (SortClash place) r = inr r
refused_whole entries mode text TimeTooLarge r = inr r

-- what begins with an item is not stuck
not_stuck : OneTokenAtPlace → (entries : List NameEntry) (mode : LogMode) (text : List ℕ) (item : LogItem) (rest : List ℕ) → BeginsWithRecord entries mode text item rest
    → IsStuck entries mode text → ⊥
not_stuck one entries mode text item rest (n, whole, answer, is) (inl pending) = not_both text n whole pending.0
not_stuck one entries mode text item rest (n, whole, answer, is) (inr (refusal, refused)) = by (refused_whole entries mode text refusal refused)
  where
    by : (record_length (behind_blanks text) ≡ None) ⊎ ((m : ℕ) × HasRecord text m × IsRecordAnswer entries mode (record_bytes text m) (Err refusal)) → ⊥
    by (inl none) = not_both text n whole none
    by (inr (m, also, other)) = ok_not_err item refusal (same_answer one entries mode text n m (Ok item) (Err refusal) whole also answer other)

pub refuses_same : (entries : List NameEntry) (mode : LogMode) (a b : List ℕ) → behind_blanks a ≡ behind_blanks b → (refusal : LogRefusal) → RefusesFront entries mode a refusal
    → RefusesFront entries mode b refusal
refuses_same entries mode a b same TooLong r =
    let P : List ℕ → Type 0 = λ l. (record_length l ≡ None) × (MOST_RECORD_BYTES ≤ length l) in subst P same r
refuses_same entries mode a b same Truncated r = r
refuses_same entries mode a b same NoMemory r = r
refuses_same entries mode a b same (BadRecord place) r =
    let P : List ℕ → Type 0 = λ l. (n : ℕ) × (record_length l ≡ Some n) × IsRecordAnswer entries mode (take n l) (Err (BadRecord place)) in subst P same r
refuses_same entries mode a b same (UnknownName place) r =
    let P : List ℕ → Type 0 = λ l. (n : ℕ) × (record_length l ≡ Some n) × IsRecordAnswer entries mode (take n l) (Err (UnknownName place)) in subst P same r
refuses_same entries mode a b same (Arity place) r =
    let P : List ℕ → Type 0 = λ l. (n : ℕ) × (record_length l ≡ Some n) × IsRecordAnswer entries mode (take n l) (Err (Arity place)) in subst P same r
refuses_same entries mode a b same (SortClash place) r =
    let P : List ℕ → Type 0 = λ l. (n : ℕ) × (record_length l ≡ Some n) × IsRecordAnswer entries mode (take n l) (Err (SortClash place)) in subst P same r
refuses_same entries mode a b same TimeTooLarge r =
    let P : List ℕ → Type 0 = λ l. (n : ℕ) × (record_length l ≡ Some n) × IsRecordAnswer entries mode (take n l) (Err TimeTooLarge) in subst P same r

-- a rest that differs by blanks in front alone
pub stuck_same : (entries : List NameEntry) (mode : LogMode) (a b : List ℕ) → behind_blanks a ≡ behind_blanks b → IsStuck entries mode a → IsStuck entries mode b
stuck_same entries mode a b same (inl pending) =
    let P : List ℕ → Type 0 = λ l. (record_length l ≡ None) × (length l < MOST_RECORD_BYTES) in inl (subst P same pending)
stuck_same entries mode a b same (inr (refusal, refused)) = inr (refusal, refuses_same entries mode a b same refusal refused)

-- whole records up to where nothing more is whole
one_records : OneTokenAtPlace → (entries : List NameEntry) (mode : LogMode) (text : List ℕ) (a b : List LogItem) (r s : List ℕ) → SpellsRecords entries mode text a r
    → SpellsRecords entries mode text b s → IsStuck entries mode r → IsStuck entries mode s → (a ≡ b) × (behind_blanks r ≡ behind_blanks s)
one_records one entries mode text [] [] r s x y p q = (refl, x ∙ sym y)
one_records one entries mode text [] (i ∷ b) r s x (between, begins, later) p q = absurd (not_stuck one entries mode text i between begins (stuck_same entries mode r text x p))
one_records one entries mode text (i ∷ a) [] r s (between, begins, later) y p q = absurd (not_stuck one entries mode text i between begins (stuck_same entries mode s text y q))
one_records one entries mode text (i ∷ a) (j ∷ b) r s (between, begins, later) (other, begins', later') p q =
    let o = one_item one entries mode text i j between other begins begins' in
    let l = one_records one entries mode between a b r s later (subst (λ t. SpellsRecords entries mode t b s) (sym o.1) later') p q in
    ((λ k. o.0 k ∷ l.0 k), l.1)

pub one_whole : OneTokenAtPlace → (entries : List NameEntry) (mode : LogMode) (bytes : List ℕ) (a b : List LogItem) → AreWholeRecords entries mode bytes a
    → AreWholeRecords entries mode bytes b → a ≡ b
one_whole one entries mode bytes a b (r, x, p) (s, y, q) = (one_records one entries mode bytes a b r s x y p q).0

-- the end of a log is stuck
nothing_pending : (rest : List ℕ) → behind_blanks rest ≡ [] → IsPending rest
nothing_pending rest e =
    let P : List ℕ → Type 0 = λ l. (record_length l ≡ None) × (length l < MOST_RECORD_BYTES) in subst P (sym e) (refl, omega arith)

ended_stuck : (entries : List NameEntry) (mode : LogMode) (rest : List ℕ) (refusal : Option LogRefusal) → EndsBy entries mode rest refusal → IsStuck entries mode rest
ended_stuck entries mode rest None e = inl (nothing_pending rest e)
ended_stuck entries mode rest (Some Truncated) e = inl e.0
ended_stuck entries mode rest (Some TooLong) e = inr (TooLong, e)
ended_stuck entries mode rest (Some NoMemory) e = inr (NoMemory, e)
ended_stuck entries mode rest (Some (BadRecord place)) e = inr (BadRecord place, e)
ended_stuck entries mode rest (Some (UnknownName place)) e = inr (UnknownName place, e)
ended_stuck entries mode rest (Some (Arity place)) e = inr (Arity place, e)
ended_stuck entries mode rest (Some (SortClash place)) e = inr (SortClash place, e)
ended_stuck entries mode rest (Some TimeTooLarge) e = inr (TimeTooLarge, e)

-- how a log can end, by what stands after the blanks of its rest
abbrev pub EndsSo : List NameEntry → LogMode → List ℕ → Option LogRefusal → Type 0
EndsSo entries mode rest end =
    ((end ≡ None) × (rest ≡ []))
    ⊎ (((end ≡ Some Truncated) × (record_length rest ≡ None) × (0 < length rest) × (length rest < MOST_RECORD_BYTES))
    ⊎ (((end ≡ Some TooLong) × (record_length rest ≡ None) × (MOST_RECORD_BYTES ≤ length rest))
    ⊎ ((refusal : LogRefusal) × (n : ℕ) × (end ≡ Some refusal) × (record_length rest ≡ Some n) × IsRecordAnswer entries mode (take n rest) (Err refusal))))

ends_so : (entries : List NameEntry) (mode : LogMode) (rest : List ℕ) (end : Option LogRefusal) → EndsBy entries mode rest end → EndsSo entries mode (behind_blanks rest) end
ends_so entries mode rest None e = inl (refl, e)
ends_so entries mode rest (Some Truncated) e = inr (inl (refl, e.0.0, e.1, e.0.1))
ends_so entries mode rest (Some TooLong) e = inr (inr (inl (refl, e.0, e.1)))
ends_so entries mode rest (Some NoMemory) e = absurd e
ends_so entries mode rest (Some (BadRecord place)) e = inr (inr (inr (BadRecord place, e.0, refl, e.1, e.2)))
ends_so entries mode rest (Some (UnknownName place)) e = inr (inr (inr (UnknownName place, e.0, refl, e.1, e.2)))
ends_so entries mode rest (Some (Arity place)) e = inr (inr (inr (Arity place, e.0, refl, e.1, e.2)))
ends_so entries mode rest (Some (SortClash place)) e = inr (inr (inr (SortClash place, e.0, refl, e.1, e.2)))
ends_so entries mode rest (Some TimeTooLarge) e = inr (inr (inr (TimeTooLarge, e.0, refl, e.1, e.2)))

none_some : (n : ℕ) → None ≡ Some n → ⊥
none_some n e = cc

one_end : OneTokenAtPlace → (entries : List NameEntry) (mode : LogMode) (rest : List ℕ) (x y : Option LogRefusal) → EndsSo entries mode rest x → EndsSo entries mode rest y → x ≡ y
one_end one entries mode rest x y (inl (a, e)) (inl (b, f)) = a ∙ sym b
one_end one entries mode rest x y (inl (a, e)) (inr (inl (b, f, g, h))) = absurd (omega (arith, ap length e, g))
one_end one entries mode rest x y (inl (a, e)) (inr (inr (inl (b, f, g)))) = absurd (omega (arith, ap length e, g))
one_end one entries mode rest x y (inl (a, e)) (inr (inr (inr (r, n, b, f, g)))) = absurd (none_some n (sym (ap record_length e) ∙ f))
one_end one entries mode rest x y (inr (inl (a, e, f, g))) (inl (b, h)) = absurd (omega (arith, ap length h, f))
one_end one entries mode rest x y (inr (inl (a, e, f, g))) (inr (inl (b, h, i, j))) = a ∙ sym b
one_end one entries mode rest x y (inr (inl (a, e, f, g))) (inr (inr (inl (b, h, i)))) = absurd (omega (arith, g, i))
one_end one entries mode rest x y (inr (inl (a, e, f, g))) (inr (inr (inr (r, n, b, h, i)))) = absurd (none_some n (sym e ∙ h))
one_end one entries mode rest x y (inr (inr (inl (a, e, f)))) (inl (b, h)) = absurd (omega (arith, ap length h, f))
one_end one entries mode rest x y (inr (inr (inl (a, e, f)))) (inr (inl (b, h, i, j))) = absurd (omega (arith, f, j))
one_end one entries mode rest x y (inr (inr (inl (a, e, f)))) (inr (inr (inl (b, h, i)))) = a ∙ sym b
one_end one entries mode rest x y (inr (inr (inl (a, e, f)))) (inr (inr (inr (r, n, b, h, i)))) = absurd (none_some n (sym e ∙ h))
one_end one entries mode rest x y (inr (inr (inr (q, m, a, e, f)))) (inl (b, h)) = absurd (none_some m (sym (ap record_length h) ∙ e))
one_end one entries mode rest x y (inr (inr (inr (q, m, a, e, f)))) (inr (inl (b, h, i, j))) = absurd (none_some m (sym h ∙ e))
one_end one entries mode rest x y (inr (inr (inr (q, m, a, e, f)))) (inr (inr (inl (b, h, i)))) = absurd (none_some m (sym h ∙ e))
one_end one entries mode rest x y (inr (inr (inr (q, m, a, e, f)))) (inr (inr (inr (r, n, b, h, i)))) =
    let same : m ≡ n = same_Some m n (sym e ∙ h) in
    a ∙ ap Some (err_is q r (one_answer one entries mode (take n rest) (Err q) (Err r) (subst (λ k. IsRecordAnswer entries mode (take k rest) (Err q)) same f) i)) ∙ sym b

-- a log has one list of records and one refusal at most
pub one_log : OneTokenAtPlace → (entries : List NameEntry) (mode : LogMode) (text : List ℕ) (a b : List LogItem) (x y : Option LogRefusal) → IsLog entries mode text a x
    → IsLog entries mode text b y → (a ≡ b) × (x ≡ y)
one_log one entries mode text a b x y (r, s, e) (q, t, f) =
    let o = one_records one entries mode text a b r q s t (ended_stuck entries mode r x e) (ended_stuck entries mode q y f) in
    (o.0, one_end one entries mode (behind_blanks q) x y (subst (λ l. EndsSo entries mode l x) o.1 (ends_so entries mode r x e)) (ends_so entries mode q y f))
