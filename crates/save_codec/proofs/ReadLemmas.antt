-- What was read of the lines of a text, and why none goes on.
use Rattle.save_codec.proofs.Vocabulary.{◌≡◌, ◌++◌, ◌∷◌, ◌+◌, ◌<◌, ◌≤◌, ◌^◌, [], ℕ, List, Option, Some, None, true, length, refl, sym, ap, subst, ◌∙◌, arith, length-append, flat_map, append-nil}
use Rattle.save_codec.proofs.Vocabulary.{option_map, AreLines, LinesFollow, line_follows, last_line, ends_text, line_kind, kind_may_follow, line_text, lines_text, clock_behind_line, clock_from}
use Rattle.save_codec.proofs.Vocabulary.{due_in, last_behind_line, last_time_from, position_behind_line, position_from, row_in, lines_in, IsReadLine, Kind, Line, Clock, Last, Position, Row, Due, End}
use Rattle.save_codec.proofs.Vocabulary.{LineParts}
use Rattle.save_codec.proofs.FormLemmas.{follow_on, last_line_behind, text_on}
use Rattle.save_codec.proofs.PartLemmas.{all_of_them, clock_step, items_step, last_step, position_step}

-- some lines were read
pub record IsReadSoFar (text rest : List ℕ) (before : Option Kind) (count : ℕ) (parts : LineParts) : Type 0 where
  pub front : List Line
  pub form : LinesFollow None front
  pub begins : text ≡ lines_text front ++ rest
  pub kind : before ≡ option_map line_kind (last_line None front)
  pub counted : count ≡ length front
  pub room : count + length rest ≤ length text
  pub clock : parts.clock ≡ clock_from 0 front
  pub last : parts.last ≡ last_time_from None front
  pub position : parts.position ≡ position_from 0 front
  pub rows : parts.rows.items ≡ flat_map row_in front
  pub dues : parts.dues.items ≡ flat_map due_in front

pub nothing_read : (text : List ℕ) (parts : LineParts) → (parts.clock ≡ 0) × (parts.last ≡ None) × (parts.position ≡ 0) → (parts.rows.items ≡ [])
    × (parts.dues.items ≡ []) → IsReadSoFar text text None 0 parts
nothing_read text parts numbers items = record {
  front = [];
  form = tt;
  begins = refl;
  kind = refl;
  counted = refl;
  room = omega arith;
  clock = numbers.0;
  last = numbers.1;
  position = numbers.2;
  rows = items.0;
  dues = items.1;
}

-- what one more line says
pub record HasPut (line : Line) (before after : LineParts) : Type 0 where
  pub clock : after.clock ≡ clock_behind_line before.clock line
  pub last : after.last ≡ last_behind_line before.last line
  pub position : after.position ≡ position_behind_line before.position line
  pub rows : after.rows.items ≡ before.rows.items ++ row_in line
  pub dues : after.dues.items ≡ before.dues.items ++ due_in line

line_is_long : (line : Line) → 0 < length (line_text line)
line_is_long (Clock t) = omega arith
line_is_long (Last l) = omega arith
line_is_long (Position p) = omega arith
line_is_long (Row w t v) = omega arith
line_is_long (Due r n o l h v) = omega arith
line_is_long End = omega arith

pub read_on : (text rest after : List ℕ) (before : Option Kind) (count : ℕ) (parts more : LineParts) (line : Line) (kind : Kind) → IsReadSoFar text rest before count parts → IsReadLine rest line after
    → kind_may_follow before kind ≡ true → kind ≡ line_kind line → HasPut line parts more → IsReadSoFar text after (Some kind) (count + 1) more
read_on text rest after before count parts more line kind so read next is put =
    let following : line_follows (last_line None so.front) line ≡ true =
    (λ i. kind_may_follow (sym so.kind i) (sym is i)) ∙ next
    in
    record {
      front = so.front ++ line ∷ [];
      form = follow_on None so.front line so.form following read.0;
      begins = text_on text rest after so.front line so.begins read.1;
      kind = ap Some is ∙ ap (option_map line_kind) (sym (last_line_behind None so.front line));
      counted = omega (arith, so.counted, length-append so.front (line ∷ []));
      room = omega (arith, so.room, ap length read.1, length-append (line_text line) after, line_is_long line);
      clock = put.clock ∙ clock_step so.front line line parts.clock refl so.clock;
      last = put.last ∙ last_step so.front line line parts.last refl so.last;
      position = put.position ∙ position_step so.front line line parts.position refl so.position;
      rows = items_step row_in so.front line line parts.rows.items more.rows.items refl so.rows put.rows;
      dues = items_step due_in so.front line line parts.dues.items more.dues.items refl so.dues put.dues;
    }

-- they are all
pub all_read : (text rest : List ℕ) (before : Option Kind) (count : ℕ) (parts : LineParts) → IsReadSoFar text rest before count parts → ends_text before ≡ true → rest ≡ [] → length text < 2 ^ 63
    → AreLines (lines_in parts) × (text ≡ lines_text (lines_in parts)) × (length (lines_in parts) < 2 ^ 63)
all_read text rest before count parts so end none small =
    let are : AreLines so.front = (so.form, ap ends_text (sym so.kind) ∙ end) in
    let same : so.front ≡ lines_in parts = all_of_them so.front so.front parts.clock parts.last parts.position parts.rows.items parts.dues.items are refl so.clock so.last so.position
    so.rows so.dues in
    let whole : text ≡ lines_text so.front = so.begins ∙ ap (λ l. lines_text so.front ++ l) none ∙ append-nil (lines_text so.front) in
    let few : length so.front < 2 ^ 63 = omega (arith, so.counted, so.room, small) in
    (subst AreLines same are, whole ∙ ap lines_text same, subst (λ (l : List Line). length l < 2 ^ 63) same few)
