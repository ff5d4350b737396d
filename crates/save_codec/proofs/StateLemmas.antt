-- The fronts of the lines of a state, and the bounds that they keep.
use Rattle.save_codec.proofs.Vocabulary.{◌≡◌, ◌↔◌, ◌++◌, ◌∷◌, ◌+◌, ◌≤◌, [], ℕ, suc, List, Option, Some, None, Bool, true, false, length, take, map, inl, inr, refl, sym, ap, subst, ◌∙◌, arith}
use Rattle.save_codec.proofs.Vocabulary.{length-append, AllByRecursion, flat_map, take-append-add, append-nil, take-append-le, All-from_recursion, All-nil, Formula, AreWithinBounds, IsKeepable}
use Rattle.save_codec.proofs.Vocabulary.{IsFrom, all_operators, KeptRow, CanBePending, Instance, AgreesWith, DueFits, IsFirstUnfitLine, AreLinesWithin, RowFits, SaveSetting, kept_row_of, clock_from}
use Rattle.save_codec.proofs.Vocabulary.{due_in, last_time_from, position_from, row_in, AreInstancesOf, AreNumbers, BreaksAt, AreDuesWithin, IsStateOf, IsUnfit, IsUnfitLine, IsUnfitNumber}
use Rattle.save_codec.proofs.Vocabulary.{AreRowsWithin, unfit_refusal, line_of_due, line_of_row, due_line, row_line, Unfit, At, MOST_STATE_TIME, Line, Clock, Last, Position, End, DueLine, RowLine}
use Rattle.save_codec.proofs.Vocabulary.{Inconsistent}
use Rattle.save_codec.specs.declared.judging.Unfit.TheVariants.{NoMemory}
use Rattle.save_codec.proofs.JudgeLemmas.{map_long, map_take}

-- rows and instances, and the end or nothing
abbrev pub closing : (all : Bool) → List Line
closing true = End ∷ []
closing false = []

abbrev pub due_lines : List DueLine → (all : Bool) → List Line
due_lines dues all = map line_of_due dues ++ closing all

abbrev pub body : List RowLine → List DueLine → (all : Bool) → List Line
body rows dues all = map line_of_row rows ++ due_lines dues all

abbrev pub whole : (c : ℕ) (l : Option ℕ) (p : ℕ) → List RowLine → List DueLine → (all : Bool) → List Line
whole c l p rows dues all = Clock c ∷ Last l ∷ Position p ∷ body rows dues all

-- none of its lines tells the clock, the last time or the position
record IsQuiet (lines : List Line) : Type 0 where
  clock : (c : ℕ) → clock_from c lines ≡ c
  last : (l : Option ℕ) → last_time_from l lines ≡ l
  position : (p : ℕ) → position_from p lines ≡ p
  agree : (l : Option ℕ) → AllByRecursion (AgreesWith l) lines

quiet_dues : (dues : List DueLine) (all : Bool) → IsQuiet (due_lines dues all)
quiet_dues [] true = record { clock = λ c. refl; last = λ l. refl; position = λ p. refl; agree = λ l. (tt, tt) }
quiet_dues [] false = record { clock = λ c. refl; last = λ l. refl; position = λ p. refl; agree = λ l. tt }
quiet_dues (d ∷ dues) all =
    let rest = quiet_dues dues all in
    record { clock = rest.clock; last = rest.last; position = rest.position; agree = λ l. (tt, rest.agree l) }

quiet : (rows : List RowLine) (dues : List DueLine) (all : Bool) → IsQuiet (body rows dues all)
quiet [] dues all = quiet_dues dues all
quiet (r ∷ rows) dues all =
    let rest = quiet rows dues all in
    record { clock = rest.clock; last = rest.last; position = rest.position; agree = λ l. (tt, rest.agree l) }

-- its rows and its instances
no_rows : (dues : List DueLine) (all : Bool) → flat_map row_in (due_lines dues all) ≡ []
no_rows [] true = refl
no_rows [] false = refl
no_rows (d ∷ dues) all = no_rows dues all

rows_in : (rows : List RowLine) (dues : List DueLine) (all : Bool) → flat_map row_in (body rows dues all) ≡ rows
rows_in [] dues all = no_rows dues all
rows_in (r ∷ rows) dues all = ap (λ l. r ∷ l) (rows_in rows dues all)

dues_behind : (dues : List DueLine) (all : Bool) → flat_map due_in (due_lines dues all) ≡ dues
dues_behind [] true = refl
dues_behind [] false = refl
dues_behind (d ∷ dues) all = ap (λ l. d ∷ l) (dues_behind dues all)

dues_in : (rows : List RowLine) (dues : List DueLine) (all : Bool) → flat_map due_in (body rows dues all) ≡ dues
dues_in [] dues all = dues_behind dues all
dues_in (r ∷ rows) dues all = dues_in rows dues all

-- ---- the bounds of lines, by their parts

pub record Keep (s : SaveSetting) (c : ℕ) (l : Option ℕ) (p : ℕ) (rows : List RowLine) (dues : List DueLine) : Type 0 where
  pub clock : c ≤ MOST_STATE_TIME
  pub last : IsFrom l c
  pub position : (l ≡ None) ↔ (p ≡ 0)
  pub rows_fit : AreRowsWithin s l rows
  pub dues_fit : AreDuesWithin s c p dues

abbrev Rows : SaveSetting → Option ℕ → List RowLine → Type 0
Rows s l rows = AreWithinBounds (all_operators s.guards) l (map kept_row_of rows)

pub keep_is_within : (s : SaveSetting) (c : ℕ) (l : Option ℕ) (p : ℕ) (rows : List RowLine) (dues : List DueLine) (all : Bool) → Keep s c l p rows dues → AreLinesWithin s (whole c l p rows dues all)
keep_is_within s c l p rows dues all k =
    let b = body rows dues all in
    let q = quiet rows dues all in
    record {
      clock = subst (λ n. n ≤ MOST_STATE_TIME) (sym (q.clock c)) k.clock;
      last = subst (λ n. IsFrom (last_time_from l b) n) (sym (q.clock c)) (subst (λ (o : Option ℕ). IsFrom o c) (sym (q.last l)) k.last);
      position = (tt, (tt, (subst (λ (o : Option ℕ). (o ≡ None) ↔ (p ≡ 0)) (sym (q.last l)) k.position, q.agree (last_time_from l b))));
      rows = subst (AllByRecursion (RowFits s)) (sym (rows_in rows dues all)) k.rows_fit.0;
      kept = subst (λ (o : Option ℕ). Rows s o (flat_map row_in b)) (sym (q.last l)) (subst (Rows s l) (sym (rows_in rows dues all)) k.rows_fit.1);
      dues = subst (λ n. AllByRecursion (DueFits s n (position_from p b)) (flat_map due_in b)) (sym (q.clock c))
          (subst (λ n. AllByRecursion (DueFits s c n) (flat_map due_in b)) (sym (q.position p)) (subst (AllByRecursion (DueFits s c p)) (sym (dues_in rows dues all)) k.dues_fit));
    }

pub within_is_keep : (s : SaveSetting) (c : ℕ) (l : Option ℕ) (p : ℕ) (rows : List RowLine) (dues : List DueLine) (all : Bool) → AreLinesWithin s (whole c l p rows dues all) → Keep s c l p rows dues
within_is_keep s c l p rows dues all w =
    let b = body rows dues all in
    let q = quiet rows dues all in
    record {
      clock = subst (λ n. n ≤ MOST_STATE_TIME) (q.clock c) w.clock;
      last = subst (λ (o : Option ℕ). IsFrom o c) (q.last l) (subst (λ n. IsFrom (last_time_from l b) n) (q.clock c) w.last);
      position = subst (λ (o : Option ℕ). (o ≡ None) ↔ (p ≡ 0)) (q.last l) w.position.1.1.0;
      rows_fit = (
        subst (AllByRecursion (RowFits s)) (rows_in rows dues all) w.rows,
        subst (Rows s l) (rows_in rows dues all) (subst (λ (o : Option ℕ). Rows s o (flat_map row_in b)) (q.last l) w.kept),
      );
      dues_fit = subst (AllByRecursion (DueFits s c p)) (dues_in rows dues all) (subst (λ n. AllByRecursion (DueFits s c n) (flat_map due_in b)) (q.position p)
          (subst (λ n. AllByRecursion (DueFits s n (position_from p b)) (flat_map due_in b)) (q.clock c) w.dues));
    }

-- ---- the three numbers

none_within : (fs : List Formula) (l : Option ℕ) → AreWithinBounds fs l []
none_within fs None = refl
none_within fs (Some last) = (tt, All-nil (IsKeepable fs last []))

pub front_0 : (s : SaveSetting) → AreLinesWithin s []
front_0 s = record { clock = omega arith; last = tt; position = tt; rows = tt; kept = refl; dues = tt }

pub front_1 : (s : SaveSetting) (c : ℕ) → c ≤ MOST_STATE_TIME → AreLinesWithin s (Clock c ∷ [])
front_1 s c clock = record { clock = clock; last = tt; position = (tt, tt); rows = tt; kept = refl; dues = tt }

pub front_2 : (s : SaveSetting) (c : ℕ) (l : Option ℕ) → c ≤ MOST_STATE_TIME → IsFrom l c → AreLinesWithin s (Clock c ∷ Last l ∷ [])
front_2 s c l clock last = record { clock = clock; last = last; position = (tt, (tt, tt)); rows = tt; kept = none_within (all_operators s.guards) l; dues = tt }

pub unfit_clock : (s : SaveSetting) (c : ℕ) (l : Option ℕ) (p : ℕ) (rows : List RowLine) (dues : List DueLine) → (c ≤ MOST_STATE_TIME → ⊥) → IsFirstUnfitLine s (whole c l p rows dues true) 1
unfit_clock s c l p rows dues bad = record { count = 0; numbered = refl; there = omega arith; before = front_0 s; unfit = λ w. bad w.clock }

pub unfit_last : (s : SaveSetting) (c : ℕ) (l : Option ℕ) (p : ℕ) (rows : List RowLine) (dues : List DueLine) → c ≤ MOST_STATE_TIME → (IsFrom l c → ⊥)
    → IsFirstUnfitLine s (whole c l p rows dues true) 2
unfit_last s c l p rows dues clock bad = record { count = 1; numbered = refl; there = omega arith; before = front_1 s c clock; unfit = λ w. bad w.last }

pub unfit_position : (s : SaveSetting) (c : ℕ) (l : Option ℕ) (p : ℕ) (rows : List RowLine) (dues : List DueLine) → c ≤ MOST_STATE_TIME → IsFrom l c
    → (((l ≡ None) ↔ (p ≡ 0)) → ⊥) → IsFirstUnfitLine s (whole c l p rows dues true) 3
unfit_position s c l p rows dues clock last bad = record { count = 2; numbered = refl; there = omega arith; before = front_2 s c l clock last; unfit = λ w. bad w.position.1.1.0 }

-- ---- rows and instances

front_rows : (rows : List RowLine) (dues : List DueLine) (place : ℕ) → place ≤ length rows → take place (body rows dues true) ≡ body (take place rows) [] false
front_rows rows dues place within =
    let long : place ≤ length (map line_of_row rows) = omega (arith, within, map_long line_of_row rows) in
    take-append-le place (map line_of_row rows) (due_lines dues true) long ∙ map_take line_of_row place rows ∙ sym (append-nil (map line_of_row (take place rows)))

front_dues : (rows : List RowLine) (dues : List DueLine) (place : ℕ) → place ≤ length dues → take (length rows + place) (body rows dues true) ≡ body rows (take place dues) false
front_dues rows dues place within =
    let long : place ≤ length (map line_of_due dues) = omega (arith, within, map_long line_of_due dues) in
    ap (λ n. take (n + place) (body rows dues true)) (sym (map_long line_of_row rows)) ∙ take-append-add (map line_of_row rows) (due_lines dues true) place
    ∙ ap (λ l. map line_of_row rows ++ l) (take-append-le place (map line_of_due dues) (End ∷ []) long ∙ map_take line_of_due place dues ∙ sym (append-nil (map line_of_due (take place dues))))

body_long : (rows : List RowLine) (dues : List DueLine) → length (body rows dues true) ≡ length rows + (length dues + 1)
body_long rows dues =
    omega (arith, length-append (map line_of_row rows) (due_lines dues true), length-append (map line_of_due dues) (End ∷ []), map_long line_of_row rows, map_long line_of_due dues)

pub unfit_row : (s : SaveSetting) (c : ℕ) (l : Option ℕ) (p : ℕ) (rows : List RowLine) (dues : List DueLine) (place : ℕ) → AreNumbers c l p
    → BreaksAt (AreRowsWithin s l) rows place → IsFirstUnfitLine s (whole c l p rows dues true) (4 + place)
unfit_row s c l p rows dues place n breaks =
    let head : List Line → List Line = λ lines. Clock c ∷ Last l ∷ Position p ∷ lines in
    let next : suc (suc (suc place)) + 1 ≡ suc (suc (suc (place + 1))) = omega arith in
    let long = body_long rows dues in
    record {
      count = suc (suc (suc place));
      numbered = omega arith;
      there = omega (arith, breaks.0, long);
      before = subst (λ lines. AreLinesWithin s (head lines)) (sym (front_rows rows dues place (omega (arith, breaks.0))))
          (keep_is_within s c l p (take place rows) [] false (record { clock = n.clock; last = n.last; position = n.position; rows_fit = breaks.1; dues_fit = tt }));
      unfit = λ w.
          let longer : AreLinesWithin s (head (take (place + 1) (body rows dues true))) = subst (λ k. AreLinesWithin s (take k (whole c l p rows dues true))) next w in
          let keep = within_is_keep s c l p (take (place + 1) rows) [] false (subst (λ lines. AreLinesWithin s (head lines)) (front_rows rows dues (place + 1) (omega (arith, breaks.0))) longer) in
          breaks.2 keep.rows_fit;
    }

pub unfit_instance : (s : SaveSetting) (c : ℕ) (l : Option ℕ) (p : ℕ) (rows : List RowLine) (dues : List DueLine) (place : ℕ) → AreNumbers c l p → AreRowsWithin s l rows
    → BreaksAt (AreDuesWithin s c p) dues place
    → IsFirstUnfitLine s (whole c l p rows dues true) (4 + length rows + place)
unfit_instance s c l p rows dues place n fit breaks =
    let head : List Line → List Line = λ lines. Clock c ∷ Last l ∷ Position p ∷ lines in
    let next : suc (suc (suc (length rows + place))) + 1 ≡ suc (suc (suc (length rows + (place + 1)))) = omega arith in
    let long = body_long rows dues in
    record {
      count = suc (suc (suc (length rows + place)));
      numbered = omega arith;
      there = omega (arith, breaks.0, long);
      before = subst (λ lines. AreLinesWithin s (head lines)) (sym (front_dues rows dues place (omega (arith, breaks.0))))
          (keep_is_within s c l p rows (take place dues) false (record { clock = n.clock; last = n.last; position = n.position; rows_fit = fit; dues_fit = breaks.1 }));
      unfit = λ w.
          let longer : AreLinesWithin s (head (take (length rows + (place + 1)) (body rows dues true))) = subst (λ k. AreLinesWithin s (take k (whole c l p rows dues true))) next w in
          let keep = within_is_keep s c l p rows (take (place + 1) dues) false (subst (λ lines. AreLinesWithin s (head lines)) (front_dues rows dues (place + 1) (omega (arith, breaks.0))) longer) in
          breaks.2 keep.dues_fit;
    }

-- ---- the state of lines that keep them

rows_told : (rows : List RowLine) → map row_line (map kept_row_of rows) ≡ map line_of_row rows
rows_told [] = refl
rows_told (r ∷ rows) = ap (λ l. line_of_row r ∷ l) (rows_told rows)

kept_lines : (rows : List RowLine) (kept : List KeptRow) → kept ≡ map kept_row_of rows → map row_line kept ≡ map line_of_row rows
kept_lines rows kept are = ap (map row_line) are ∙ rows_told rows

due_in_time : (s : SaveSetting) (c p : ℕ) (dues : List DueLine) (pending : List Instance) → map due_line pending ≡ map line_of_due dues → AreDuesWithin s c p dues
    → AllByRecursion (λ i. i.high ≤ MOST_STATE_TIME) pending
due_in_time s c p [] [] told fit = tt
due_in_time s c p [] (i ∷ pending) told fit = absurd cc
due_in_time s c p (d ∷ dues) [] told fit = absurd cc
due_in_time s c p (d ∷ dues) (i ∷ pending) told fit =
    let first : due_line i ≡ line_of_due d = cc told in
    let high : i.high ≡ d.high = cc first in
    let behind : map due_line pending ≡ map line_of_due dues = cc told in
    (omega (arith, high, fit.0.high), due_in_time s c p dues pending behind fit.1)

pub is_state : (s : SaveSetting) (c : ℕ) (l : Option ℕ) (p : ℕ) (rows : List RowLine) (dues : List DueLine) (kept : List KeptRow) (pending : List Instance) → AreNumbers c l p
    → kept ≡ map kept_row_of rows → AreRowsWithin s l rows
    → AreInstancesOf s c p dues pending → IsStateOf s (whole c l p rows dues true) (record { clock = c; last = l; position = p; kept = kept; pending = pending })
is_state s c l p rows dues kept pending n are fit instances = record {
  told = λ i. Clock c ∷ Last l ∷ Position p ∷ (kept_lines rows kept are i ++ (instances.told i ++ End ∷ []));
  clock = n.clock;
  last = n.last;
  position = n.position;
  kept = subst (AreWithinBounds (all_operators s.guards) l) (sym are) fit.1;
  pending = All-from_recursion (CanBePending s.plans c p) pending instances.can;
  due = All-from_recursion (λ i. i.high ≤ MOST_STATE_TIME) pending (due_in_time s c p dues pending instances.told instances.fit);
  within = keep_is_within s c l p rows dues true (record { clock = n.clock; last = n.last; position = n.position; rows_fit = fit; dues_fit = instances.fit });
}

-- ---- refusals

pub number_refusal : (s : SaveSetting) (c : ℕ) (l : Option ℕ) (p : ℕ) (rows : List RowLine) (dues : List DueLine) (line : ℕ) → IsUnfitNumber c l p line
    → IsUnfitLine s (whole c l p rows dues true) (Inconsistent line)
number_refusal s c l p rows dues line (inl (is, bad)) = subst (IsFirstUnfitLine s (whole c l p rows dues true)) (sym is) (unfit_clock s c l p rows dues bad)
number_refusal s c l p rows dues line (inr (inl (is, clock, bad))) = subst (IsFirstUnfitLine s (whole c l p rows dues true)) (sym is) (unfit_last s c l p rows dues clock bad)
number_refusal s c l p rows dues line (inr (inr (is, clock, last, bad))) = subst (IsFirstUnfitLine s (whole c l p rows dues true)) (sym is) (unfit_position s c l p rows dues clock last bad)

pub row_refusal : (s : SaveSetting) (c : ℕ) (l : Option ℕ) (p : ℕ) (rows : List RowLine) (dues : List DueLine) (unfit : Unfit) → AreNumbers c l p
    → IsUnfit (AreRowsWithin s l) rows unfit → IsUnfitLine s (whole c l p rows dues true) (unfit_refusal 4 unfit)
row_refusal s c l p rows dues (At place) n breaks = unfit_row s c l p rows dues place n breaks
row_refusal s c l p rows dues NoMemory n breaks = tt

pub due_refusal : (s : SaveSetting) (c : ℕ) (l : Option ℕ) (p : ℕ) (rows : List RowLine) (dues : List DueLine) (unfit : Unfit) → AreNumbers c l p → AreRowsWithin s l rows
    → IsUnfit (AreDuesWithin s c p) dues unfit
    → IsUnfitLine s (whole c l p rows dues true) (unfit_refusal (4 + length rows) unfit)
due_refusal s c l p rows dues (At place) n fit breaks = unfit_instance s c l p rows dues place n fit breaks
due_refusal s c l p rows dues NoMemory n fit breaks = tt
