-- Bytes have one answer at most.
use Rattle.save_codec.proofs.Vocabulary.{◌≡◌, ◌∷◌, ◌+◌, ◌<◌, ◌≤◌, ◌^◌, [], ℕ, zero, suc, List, Option, Some, None, Bool, true, false, Ok, Err, Contains, drop, length, take, map, refl, sym, ap, subst}
use Rattle.save_codec.proofs.Vocabulary.{◌∙◌, arith, flat_map, take-append-drop, take_all, All-take, All-weaker, Contains-append_left, OneTokenAtPlace, PrintedIsToken, Interval, eq_from_neither_less}
use Rattle.save_codec.proofs.Vocabulary.{Formula, Prev, Once, Historically, Since, ChosenBy, IsRisingBy, FoundHasRisingScope, AreWithinBounds, HaveTime, IsKeepable, IsTimely, IsTimelyIn}
use Rattle.save_codec.proofs.Vocabulary.{all_operators, IsRowBefore, KeptRow, DueFits, IsFirstUnfitLine, AreLinesWithin, RowFits, SaveSetting, kept_row_of, clock_from, due_in, last_time_from}
use Rattle.save_codec.proofs.Vocabulary.{position_from, row_in, AreLines, lines_of, line_of_due, line_of_row, FrontKeeps, OneSaveAnswer, AnswersSave, Line, Clock, Last, Position, End, DueLine}
use Rattle.save_codec.proofs.Vocabulary.{RowLine, StateRefusal, Syntax, OtherPolicy, Inconsistent, NoMemory, Snapshot}
use Rattle.save_codec.proofs.JudgeLemmas.{all_take, map_take}
use Rattle.save_codec.proofs.OneText.{one_text}
use Rattle.save_codec.proofs.PartLemmas.{all_parts}
use Rattle.save_codec.proofs.SavedTexts.{one_state}
use Rattle.save_codec.proofs.StateLemmas.{Keep, body, due_lines, front_0, front_1, front_2, keep_is_within, whole, within_is_keep}
use Rattle.save_codec.proofs.FirstFault.{one_fault, text_no_fault}

-- ---- some of the rows can be kept where all can

chosen_less : (high : Option ℕ) (low last : ℕ) (P Q : ℕ → Type 0) (time : ℕ) → ((t : ℕ) → Q t → P t) → ChosenBy high low last P time → ChosenBy high low last Q time
chosen_less None low last P Q time less chosen = λ other is. chosen other (less other is)
chosen_less (Some high) low last P Q time less chosen = (chosen.0, λ far other is. chosen.1 far other (less other is))

timely_in_less : (interval : Interval) (last : ℕ) (P Q : ℕ → Type 0) (time : ℕ) → ((t : ℕ) → Q t → P t) → IsTimelyIn interval last P time → IsTimelyIn interval last Q time
timely_in_less interval last P Q time less timely = (timely.0, chosen_less interval.high interval.low last P Q time less timely.1)

timely_less : (f : Formula) (last : ℕ) (P Q : ℕ → Type 0) (time : ℕ) → ((t : ℕ) → Q t → P t) → IsTimely f last P time → IsTimely f last Q time
timely_less (Prev place interval g) last P Q time less timely = timely
timely_less (Once place interval g) last P Q time less timely = timely_in_less interval last P Q time less timely
timely_less (Historically place interval g) last P Q time less timely = timely_in_less interval last P Q time less timely
timely_less (Since place interval g h) last P Q time less timely = timely_in_less interval last P Q time less timely
timely_less f last P Q time less timely = absurd timely

in_front : {X : Type 0} (k : ℕ) (xs : List X) (x : X) → Contains (take k xs) x → Contains xs x
in_front k xs x there = subst (λ l. Contains l x) (take-append-drop k xs) (Contains-append_left (take k xs) (drop k xs) x there)

rises_front : {X : Type 0} (Before : X → X → Type 0) (k : ℕ) (xs : List X) → IsRisingBy Before xs → IsRisingBy Before (take k xs)
rises_front Before zero xs rise = tt
rises_front Before (suc k) [] rise = tt
rises_front Before (suc k) (x ∷ xs) rise = (All-take (Before x) k xs rise.0, rises_front Before k xs rise.1)

take_none : {X : Type 0} (k : ℕ) (xs : List X) → xs ≡ [] → take k xs ≡ []
take_none zero xs none = refl
take_none (suc k) xs none = ap (take (suc k)) none

bounds_front : (fs : List Formula) (last : Option ℕ) (k : ℕ) (rows : List KeptRow) → AreWithinBounds fs last rows → AreWithinBounds fs last (take k rows)
bounds_front fs None k rows none = take_none k rows none
bounds_front fs (Some last) k rows within = (
  rises_front IsRowBefore k rows within.0,
  All-take (IsKeepable fs last (take k rows)) k rows (All-weaker (IsKeepable fs last rows) (IsKeepable fs last (take k rows)) (λ r keep. record {
    operator = keep.operator;
    numbered = keep.numbered;
    long = keep.long;
    timely = timely_less keep.operator last (HaveTime rows r) (HaveTime (take k rows) r) r.time (λ t there. in_front k rows _ there) keep.timely;
  }) rows within.1),
)

-- ---- a front of lines

record IsFront (rows : List RowLine) (dues : List DueLine) (lines : List Line) : Type 0 where
  some_rows : ℕ
  some_dues : ℕ
  ends : Bool
  are : lines ≡ body (take some_rows rows) (take some_dues dues) ends

front_of_dues : (n : ℕ) (dues : List DueLine) (all : Bool) → IsFront [] dues (take n (due_lines dues all))
front_of_dues zero dues all = record { some_rows = 0; some_dues = 0; ends = false; are = refl }
front_of_dues (suc n) [] true = record { some_rows = 0; some_dues = 0; ends = true; are = ap (λ l. End ∷ l) (take_none n [] refl) }
front_of_dues (suc n) [] false = record { some_rows = 0; some_dues = 0; ends = false; are = refl }
front_of_dues (suc n) (d ∷ dues) all =
    let rest = front_of_dues n dues all in
    record {
      some_rows = 0;
      some_dues = suc rest.some_dues;
      ends = rest.ends;
      are = ap (λ l. line_of_due d ∷ l)
          (rest.are ∙ ap (λ rs. body rs (take rest.some_dues dues) rest.ends) (take_none rest.some_rows [] refl));
    }

front_of : (n : ℕ) (rows : List RowLine) (dues : List DueLine) (all : Bool) → IsFront rows dues (take n (body rows dues all))
front_of n [] dues all = front_of_dues n dues all
front_of zero (r ∷ rows) dues all = record { some_rows = 0; some_dues = 0; ends = false; are = refl }
front_of (suc n) (r ∷ rows) dues all =
    let rest = front_of n rows dues all in
    record { some_rows = suc rest.some_rows; some_dues = rest.some_dues; ends = rest.ends; are = ap (λ l. line_of_row r ∷ l) rest.are }

abbrev Head : SaveSetting → (c : ℕ) → Option ℕ → (p : ℕ) → List Line → Type 0
Head s c l p lines = AreLinesWithin s (Clock c ∷ Last l ∷ Position p ∷ lines)

keep_front : (s : SaveSetting) (c : ℕ) (l : Option ℕ) (p : ℕ) (rows : List RowLine) (dues : List DueLine) (all : Bool) (n : ℕ) → Keep s c l p rows dues
    → AreLinesWithin s (take n (whole c l p rows dues all))
keep_front s c l p rows dues all zero keep = front_0 s
keep_front s c l p rows dues all (suc zero) keep = front_1 s c keep.clock
keep_front s c l p rows dues all (suc (suc zero)) keep = front_2 s c l keep.clock keep.last
keep_front s c l p rows dues all (suc (suc (suc n))) keep =
    let front = front_of n rows dues all in
    subst (Head s c l p) (sym front.are) (keep_is_within s c l p (take front.some_rows rows) (take front.some_dues dues) front.ends (record {
      clock = keep.clock;
      last = keep.last;
      position = keep.position;
      rows_fit = (
        all_take (RowFits s) front.some_rows rows keep.rows_fit.0,
        subst (AreWithinBounds (all_operators s.guards) l) (map_take kept_row_of front.some_rows rows) (bounds_front (all_operators s.guards) l front.some_rows (map kept_row_of rows) keep.rows_fit.1),
      );
      dues_fit = all_take (DueFits s c p) front.some_dues dues keep.dues_fit;
    }))

front_again : (s : SaveSetting) (c : ℕ) (l : Option ℕ) (p : ℕ) (rows : List RowLine) (dues : List DueLine) (m n : ℕ) → AreLinesWithin s (take m (whole c l p rows dues true))
    → AreLinesWithin s (take n (take m (whole c l p rows dues true)))
front_again s c l p rows dues zero n within = subst (AreLinesWithin s) (sym (take_none n [] refl)) (front_0 s)
front_again s c l p rows dues (suc zero) zero within = front_0 s
front_again s c l p rows dues (suc zero) (suc n) within = subst (λ lines. AreLinesWithin s (Clock c ∷ lines)) (sym (take_none n [] refl)) within
front_again s c l p rows dues (suc (suc zero)) zero within = front_0 s
front_again s c l p rows dues (suc (suc zero)) (suc zero) within = front_1 s c within.clock
front_again s c l p rows dues (suc (suc zero)) (suc (suc n)) within = subst (λ lines. AreLinesWithin s (Clock c ∷ Last l ∷ lines)) (sym (take_none n [] refl)) within
front_again s c l p rows dues (suc (suc (suc m))) n within =
    let front = front_of m rows dues true in
    let keep = within_is_keep s c l p (take front.some_rows rows) (take front.some_dues dues) front.ends (subst (Head s c l p) front.are within) in
    subst (λ lines. AreLinesWithin s (take n (Clock c ∷ Last l ∷ Position p ∷ lines))) (sym front.are) (keep_front s c l p (take front.some_rows rows) (take front.some_dues dues) front.ends n keep)

take_less : {X : Type 0} (n m : ℕ) (xs : List X) → n ≤ m → take n (take m xs) ≡ take n xs
take_less zero m xs less = refl
take_less (suc n) zero xs less = absurd (omega arith)
take_less (suc n) (suc m) [] less = refl
take_less (suc n) (suc m) (x ∷ xs) less = ap (λ l. x ∷ l) (take_less n m xs (omega arith))

pub front_keeps : FrontKeeps
front_keeps s lines m n form less within =
    let c = clock_from 0 lines in
    let l = last_time_from None lines in
    let p = position_from 0 lines in
    let rows = flat_map row_in lines in
    let dues = flat_map due_in lines in
    let e : lines ≡ whole c l p rows dues true = all_parts lines form in
    subst (λ ls. AreLinesWithin s (take n ls)) (sym e) (subst (AreLinesWithin s) (take_less n m (whole c l p rows dues true) less)
    (front_again s c l p rows dues m n (subst (λ ls. AreLinesWithin s (take m ls)) e within)))

-- ---- one answer

whole_no_unfit : (s : SaveSetting) (lines : List Line) (number : ℕ) → AreLines lines → AreLinesWithin s lines → IsFirstUnfitLine s lines number → ⊥
whole_no_unfit s lines number form within unfit =
    unfit.unfit (front_keeps s lines (length lines) (unfit.count + 1) form (omega (arith, unfit.there)) (subst (AreLinesWithin s) (sym (take_all (length lines) lines (omega arith))) within))

no_less : (s : SaveSetting) (lines : List Line) (a b : ℕ) → AreLines lines → (x : IsFirstUnfitLine s lines a) (y : IsFirstUnfitLine s lines b) → x.count < y.count → ⊥
no_less s lines a b form x y less = x.unfit (front_keeps s lines y.count (x.count + 1) form (omega arith) y.before)

one_unfit : (s : SaveSetting) (lines : List Line) (a b : ℕ) → AreLines lines → IsFirstUnfitLine s lines a → IsFirstUnfitLine s lines b → a ≡ b
one_unfit s lines a b form x y =
    let left : x.count < y.count → ⊥ = no_less s lines a b form x y in
    let right : y.count < x.count → ⊥ = no_less s lines b a form y x in
    let same : x.count ≡ y.count = eq_from_neither_less x.count y.count left right in
    x.numbered ∙ ap (λ n. n + 1) same ∙ sym y.numbered

no_state : PrintedIsToken → OneTokenAtPlace → (s : SaveSetting) (bytes signature policy : List ℕ) (state : Snapshot) (refusal : StateRefusal) → length bytes < 2 ^ 63
    → AnswersSave s bytes signature policy (Ok state) → AnswersSave s bytes signature policy (Err refusal) → ⊥
no_state printed one s bytes signature policy state (Syntax line) small ok refused = text_no_fault printed one bytes signature policy (lines_of state) line small ok.0 refused
no_state printed one s bytes signature policy state OtherPolicy small ok refused =
    let same = one_text printed one bytes signature policy refused.other_signature refused.other_policy (lines_of state) refused.lines small ok.0 refused.text in
    refused.other (sym same.0) (sym same.1)
no_state printed one s bytes signature policy state (Inconsistent line) small ok refused =
    let same = one_text printed one bytes signature policy signature policy (lines_of state) refused.lines small ok.0 refused.text in
    whole_no_unfit s refused.lines line refused.text.form (subst (AreLinesWithin s) same.2 ok.1.lines) refused.unfit
no_state printed one s bytes signature policy state NoMemory small ok refused = refused

one_refusal : PrintedIsToken → OneTokenAtPlace → (s : SaveSetting) (bytes signature policy : List ℕ) (x y : StateRefusal) → length bytes < 2 ^ 63
    → AnswersSave s bytes signature policy (Err x) → AnswersSave s bytes signature policy (Err y) → x ≡ y
one_refusal printed one s bytes signature policy NoMemory y small a b = absurd a
one_refusal printed one s bytes signature policy (Syntax line) NoMemory small a b = absurd b
one_refusal printed one s bytes signature policy (Syntax line) (Syntax other) small a b = ap Syntax (one_fault printed one bytes line other small a b)
one_refusal printed one s bytes signature policy (Syntax line) OtherPolicy small a b = absurd (text_no_fault printed one bytes b.other_signature b.other_policy b.lines line small b.text a)
one_refusal printed one s bytes signature policy (Syntax line) (Inconsistent other) small a b = absurd (text_no_fault printed one bytes signature policy b.lines line small b.text a)
one_refusal printed one s bytes signature policy OtherPolicy NoMemory small a b = absurd b
one_refusal printed one s bytes signature policy OtherPolicy (Syntax line) small a b = absurd (text_no_fault printed one bytes a.other_signature a.other_policy a.lines line small a.text b)
one_refusal printed one s bytes signature policy OtherPolicy OtherPolicy small a b = refl
one_refusal printed one s bytes signature policy OtherPolicy (Inconsistent line) small a b =
    let same = one_text printed one bytes a.other_signature a.other_policy signature policy a.lines b.lines small a.text b.text in
    absurd (a.other same.0 same.1)
one_refusal printed one s bytes signature policy (Inconsistent line) NoMemory small a b = absurd b
one_refusal printed one s bytes signature policy (Inconsistent line) (Syntax other) small a b = absurd (text_no_fault printed one bytes signature policy a.lines other small a.text b)
one_refusal printed one s bytes signature policy (Inconsistent line) OtherPolicy small a b =
    let same = one_text printed one bytes b.other_signature b.other_policy signature policy b.lines a.lines small b.text a.text in
    absurd (b.other same.0 same.1)
one_refusal printed one s bytes signature policy (Inconsistent line) (Inconsistent other) small a b =
    let same = one_text printed one bytes signature policy signature policy a.lines b.lines small a.text b.text in
    ap Inconsistent (one_unfit s b.lines line other b.text.form (subst (λ lines. IsFirstUnfitLine s lines line) same.2 a.unfit) b.unfit)

pub one_answer : PrintedIsToken → OneTokenAtPlace → FoundHasRisingScope → OneSaveAnswer
one_answer printed one rises s bytes signature policy (Ok x) (Ok y) small each a b =
    ap Ok (one_state printed one rises bytes signature policy s.plans x y small each a.0 b.0 a.1.pending b.1.pending)
one_answer printed one rises s bytes signature policy (Ok x) (Err y) small each a b = absurd (no_state printed one s bytes signature policy x y small a b)
one_answer printed one rises s bytes signature policy (Err x) (Ok y) small each a b = absurd (no_state printed one s bytes signature policy y x small b a)
one_answer printed one rises s bytes signature policy (Err x) (Err y) small each a b = ap Err (one_refusal printed one s bytes signature policy x y small a b)
