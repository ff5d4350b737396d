-- The lines of a text by their kinds, and what is read of it part by part.
use Rattle.std.specs.Prelude.{List, [], ◌∷◌, ◌++◌, map, ◌≡◌, ℕ, Option, Some, ◌≢◌}
use Rattle.enf_value.specs.meaning.Tokens.{IsNoDigit}
use Rattle.save_codec.specs.declared.lines.Line.{Line}
use Rattle.save_codec.specs.declared.lines.Line.TheVariants.{Row, Due, Clock, Last, Position, End}
use Rattle.save_codec.specs.declared.parts.DueLine.{DueLine}
use Rattle.save_codec.specs.declared.parts.LineParts.{LineParts}
use Rattle.save_codec.specs.declared.parts.RowLine.{RowLine}
use Rattle.save_codec.specs.meaning.SavedTexts.{IsSmallNumber, IsLine, line_text}

abbrev pub line_of_row : RowLine → Line
line_of_row r = Row r.window r.time r.values

abbrev pub line_of_due : DueLine → Line
line_of_due d = Due d.rule d.node d.origin d.low d.high d.values

-- the lines that have these parts
abbrev pub lines_in : LineParts → List Line
lines_in parts = Clock parts.clock ∷ Last parts.last ∷ Position parts.position
    ∷ (map line_of_row parts.rows.items ++ (map line_of_due parts.dues.items ++ End ∷ []))

-- this was read, and this is left
abbrev pub IsPartRead : {A : Type 0} → Option A → (left : List ℕ) → A → (rest : List ℕ) → Type 0
IsPartRead result left read rest = (result ≡ Some read) × (left ≡ rest)

-- the bytes begin with no digit and no space
abbrev pub EndsValues : List ℕ → Type 0
EndsValues [] = Unit {0}
EndsValues (byte ∷ rest) = (byte ≢ 32) × IsNoDigit (byte ∷ rest)

-- the numbers of an instance are below 2^63
abbrev pub AreDueNumbers : (rule node origin low high : ℕ) → Type 0
AreDueNumbers rule node origin low high =
    IsSmallNumber rule × IsSmallNumber node × IsSmallNumber origin × IsSmallNumber low × IsSmallNumber high

-- the text begins with the line, and this is after it
abbrev pub IsReadLine : (text : List ℕ) → Line → (behind : List ℕ) → Type 0
IsReadLine text line behind = IsLine line × (text ≡ line_text line ++ behind)
