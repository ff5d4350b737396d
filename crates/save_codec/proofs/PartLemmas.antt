-- Lines of the form, by their kinds.
use Rattle.save_codec.proofs.Vocabulary.{◌≡◌, ◌++◌, ◌∷◌, [], ℕ, List, Option, Some, None, IsTrue, true, false, map, refl, sym, ap, ◌∙◌, flat_map, append-nil, flat_map-append, false≢true, AreLines}
use Rattle.save_codec.proofs.Vocabulary.{LinesFollow, is_end_line, last_line, clock_behind_line, clock_from, due_in, last_behind_line, last_time_from, position_behind_line, position_from, row_in}
use Rattle.save_codec.proofs.Vocabulary.{line_of_due, line_of_row, Value, Line, Clock, Last, Position, Row, Due, End, DueLine, RowLine}

-- the lines begin with the three numbers
pub record HasNumbers (lines : List Line) : Type 0 where
  pub clock : ℕ
  pub last : Option ℕ
  pub position : ℕ
  pub others : List Line
  pub are : lines ≡ Clock clock ∷ Last last ∷ Position position ∷ others
  pub form : LinesFollow (Some (Position position)) others
  pub ends : IsTrue (is_end_line (last_line (Some (Position position)) others))

numbers_behind : (clock : ℕ) (last : Option ℕ) (lines : List Line) → LinesFollow (Some (Last last)) lines → IsTrue (is_end_line (last_line (Some (Last last)) lines))
    → HasNumbers (Clock clock ∷ Last last ∷ lines)
numbers_behind clock last [] form ends = absurd cc
numbers_behind clock last (Position position ∷ lines) form ends = record { clock = clock; last = last; position = position; others = lines; are = refl; form = form.2; ends = ends }
numbers_behind clock last (line ∷ lines) form ends = absurd (no_way form.0)
  where
    no_way : false ≡ true → ⊥
    no_way e = cc

last_behind : (clock : ℕ) (lines : List Line) → LinesFollow (Some (Clock clock)) lines → IsTrue (is_end_line (last_line (Some (Clock clock)) lines)) → HasNumbers (Clock clock ∷ lines)
last_behind clock [] form ends = absurd cc
last_behind clock (Last last ∷ lines) form ends = numbers_behind clock last lines form.2 ends
last_behind clock (line ∷ lines) form ends = absurd (no_way form.0)
  where
    no_way : false ≡ true → ⊥
    no_way e = cc

pub has_numbers : (lines : List Line) → AreLines lines → HasNumbers lines
has_numbers [] are = absurd cc
has_numbers (Clock clock ∷ lines) are = last_behind clock lines are.0.2 are.1
has_numbers (line ∷ lines) are = absurd (no_way are.0.0)
  where
    no_way : false ≡ true → ⊥
    no_way e = cc

-- ---- the numbers

pub clock_on : (clock : ℕ) (lines : List Line) (line : Line) → clock_from clock (lines ++ line ∷ []) ≡ clock_behind_line (clock_from clock lines) line
clock_on clock [] line = refl
clock_on clock (first ∷ lines) line = clock_on (clock_behind_line clock first) lines line

pub last_on : (last : Option ℕ) (lines : List Line) (line : Line) → last_time_from last (lines ++ line ∷ []) ≡ last_behind_line (last_time_from last lines) line
last_on last [] line = refl
last_on last (first ∷ lines) line = last_on (last_behind_line last first) lines line

pub position_on : (position : ℕ) (lines : List Line) (line : Line) → position_from position (lines ++ line ∷ []) ≡ position_behind_line (position_from position lines) line
position_on position [] line = refl
position_on position (first ∷ lines) line = position_on (position_behind_line position first) lines line

-- ---- rows, instances and the end

-- after a row no number stands; the rows come before the instances
pub record IsBody (lines : List Line) : Type 0 where
  pub clock : (clock : ℕ) → clock_from clock lines ≡ clock
  pub last : (last : Option ℕ) → last_time_from last lines ≡ last
  pub position : (position : ℕ) → position_from position lines ≡ position
  pub are : lines ≡ map line_of_row (flat_map row_in lines) ++ (map line_of_due (flat_map due_in lines) ++ End ∷ [])

pub record AreDues (lines : List Line) : Type 0 where
  pub clock : (clock : ℕ) → clock_from clock lines ≡ clock
  pub last : (last : Option ℕ) → last_time_from last lines ≡ last
  pub position : (position : ℕ) → position_from position lines ≡ position
  pub rows : flat_map row_in lines ≡ []
  pub are : lines ≡ map line_of_due (flat_map due_in lines) ++ End ∷ []

only_end : (lines : List Line) → LinesFollow (Some End) lines → AreDues (End ∷ lines)
only_end [] form = record { clock = λ c. refl; last = λ l. refl; position = λ p. refl; rows = refl; are = refl }
only_end (line ∷ lines) form = absurd (false≢true form.0)

are_dues : (rule node origin low high : ℕ) (values : List Value) (lines : List Line) → LinesFollow (Some (Due rule node origin low high values)) lines
    → IsTrue (is_end_line (last_line (Some (Due rule node origin low high values)) lines)) → AreDues lines
are_dues rule node origin low high values [] form ends = absurd (false≢true ends)
are_dues rule node origin low high values (Due r n o p q vs ∷ lines) form ends =
    let rest = are_dues r n o p q vs lines form.2 ends in
    record { clock = rest.clock; last = rest.last; position = rest.position; rows = rest.rows; are = ap (λ l. Due r n o p q vs ∷ l) rest.are }
are_dues rule node origin low high values (End ∷ lines) form ends = only_end lines form.2
are_dues rule node origin low high values (line ∷ lines) form ends = absurd (false≢true form.0)

dues_are_body : (lines : List Line) → AreDues lines → IsBody lines
dues_are_body lines dues = record {
  clock = dues.clock;
  last = dues.last;
  position = dues.position;
  are = dues.are ∙ ap (λ rows. map line_of_row rows ++ (map line_of_due (flat_map due_in lines) ++ End ∷ [])) (sym dues.rows);
}

due_behind : (rule node origin low high : ℕ) (values : List Value) (lines : List Line) → AreDues lines → AreDues (Due rule node origin low high values ∷ lines)
due_behind rule node origin low high values lines rest =
    record { clock = rest.clock; last = rest.last; position = rest.position; rows = rest.rows; are = ap (λ l. Due rule node origin low high values ∷ l) rest.are }

behind_row : (window time : ℕ) (values : List Value) (lines : List Line) → LinesFollow (Some (Row window time values)) lines
    → IsTrue (is_end_line (last_line (Some (Row window time values)) lines)) → IsBody lines
behind_row window time values [] form ends = absurd (false≢true ends)
behind_row window time values (Row w t vs ∷ lines) form ends =
    let rest = behind_row w t vs lines form.2 ends in
    record { clock = rest.clock; last = rest.last; position = rest.position; are = ap (λ l. Row w t vs ∷ l) rest.are }
behind_row window time values (Due r n o p q vs ∷ lines) form ends =
    dues_are_body (Due r n o p q vs ∷ lines) (due_behind r n o p q vs lines (are_dues r n o p q vs lines form.2 ends))
behind_row window time values (End ∷ lines) form ends = dues_are_body (End ∷ lines) (only_end lines form.2)
behind_row window time values (line ∷ lines) form ends = absurd (false≢true form.0)

behind_position : (position : ℕ) (lines : List Line) → LinesFollow (Some (Position position)) lines
    → IsTrue (is_end_line (last_line (Some (Position position)) lines)) → IsBody lines
behind_position position [] form ends = absurd (false≢true ends)
behind_position position (Row w t vs ∷ lines) form ends =
    let rest = behind_row w t vs lines form.2 ends in
    record { clock = rest.clock; last = rest.last; position = rest.position; are = ap (λ l. Row w t vs ∷ l) rest.are }
behind_position position (Due r n o p q vs ∷ lines) form ends =
    dues_are_body (Due r n o p q vs ∷ lines) (due_behind r n o p q vs lines (are_dues r n o p q vs lines form.2 ends))
behind_position position (End ∷ lines) form ends = dues_are_body (End ∷ lines) (only_end lines form.2)
behind_position position (line ∷ lines) form ends = absurd (false≢true form.0)

-- all lines by their kinds
abbrev pub parts_text : (clock : ℕ) (last : Option ℕ) (position : ℕ) → List RowLine → List DueLine → List Line
parts_text clock last position rows dues = Clock clock ∷ Last last ∷ Position position ∷ (map line_of_row rows ++ (map line_of_due dues ++ End ∷ []))

pub all_parts : (lines : List Line) → AreLines lines
    → lines ≡ parts_text (clock_from 0 lines) (last_time_from None lines) (position_from 0 lines) (flat_map row_in lines) (flat_map due_in lines)
all_parts lines are =
    let n = has_numbers lines are in
    let body = behind_position n.position n.others n.form n.ends in
    let c = sym (body.clock n.clock) in
    let l = sym (body.last n.last) in
    let p = sym (body.position n.position) in
    let whole : Clock n.clock ∷ Last n.last ∷ Position n.position ∷ n.others
    ≡ parts_text (clock_from n.clock n.others) (last_time_from n.last n.others) (position_from n.position n.others) (flat_map row_in n.others) (flat_map due_in n.others) =
    λ i. Clock (c i) ∷ Last (l i) ∷ Position (p i) ∷ body.are i in
    n.are ∙ whole ∙ ap (λ ls. parts_text (clock_from 0 ls) (last_time_from None ls) (position_from 0 ls) (flat_map row_in ls) (flat_map due_in ls)) (sym n.are)

pub all_of_them : (lines yielded : List Line) (clock : ℕ) (last : Option ℕ) (position : ℕ) (rows : List RowLine) (dues : List DueLine) → AreLines lines → yielded ≡ lines
    → clock ≡ clock_from 0 yielded → last ≡ last_time_from None yielded → position ≡ position_from 0 yielded → rows ≡ flat_map row_in yielded → dues ≡ flat_map due_in yielded
    → lines ≡ parts_text clock last position rows dues
all_of_them lines yielded clock last position rows dues are same a b c d e =
    all_parts lines are
    ∙ ap (λ l. parts_text (clock_from 0 l) (last_time_from None l) (position_from 0 l) (flat_map row_in l) (flat_map due_in l)) (sym same)
    ∙ λ i. parts_text (sym a i) (sym b i) (sym c i) (sym d i) (sym e i)

-- ---- one more line

pub clock_step : (yielded : List Line) (line shape : Line) (clock : ℕ) → line ≡ shape → clock ≡ clock_from 0 yielded → clock_behind_line clock shape ≡ clock_from 0 (yielded ++ line ∷ [])
clock_step yielded line shape clock is so_far =
    ap (λ n. clock_behind_line n shape) so_far ∙ ap (clock_behind_line (clock_from 0 yielded)) (sym is) ∙ sym (clock_on 0 yielded line)

pub last_step : (yielded : List Line) (line shape : Line) (last : Option ℕ) → line ≡ shape → last ≡ last_time_from None yielded → last_behind_line last shape
    ≡ last_time_from None (yielded ++ line ∷ [])
last_step yielded line shape last is so_far =
    ap (λ n. last_behind_line n shape) so_far ∙ ap (last_behind_line (last_time_from None yielded)) (sym is) ∙ sym (last_on None yielded line)

pub position_step : (yielded : List Line) (line shape : Line) (position : ℕ) → line ≡ shape → position ≡ position_from 0 yielded → position_behind_line position shape
    ≡ position_from 0 (yielded ++ line ∷ [])
position_step yielded line shape position is so_far =
    ap (λ n. position_behind_line n shape) so_far ∙ ap (position_behind_line (position_from 0 yielded)) (sym is) ∙ sym (position_on 0 yielded line)

pub items_step : {X : Type 0} (f : Line → List X) (yielded : List Line) (line shape : Line) (before after : List X) → line ≡ shape → before ≡ flat_map f yielded → after
    ≡ before ++ f shape → after ≡ flat_map f (yielded ++ line ∷ [])
items_step f yielded line shape before after is so_far put =
    put ∙ ap (λ l. l ++ f shape) so_far ∙ ap (λ l. flat_map f yielded ++ f l) (sym is) ∙ ap (λ l. flat_map f yielded ++ l) (sym (append-nil (f line))) ∙ sym (flat_map-append f yielded (line ∷ []))
