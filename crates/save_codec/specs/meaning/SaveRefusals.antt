-- Why the bytes of a saved state are refused.
use Rattle.std.specs.Prelude.{◌≡◌, ℕ, ◌+◌, List, ◌++◌, [], None, IsTrue, length, suc, zero}
use Rattle.save_codec.specs.declared.lines.Line.{Line}
use Rattle.save_codec.specs.declared.refusals.StateRefusal.{StateRefusal}
use Rattle.save_codec.specs.declared.refusals.StateRefusal.TheVariants.{Syntax, OtherPolicy, Inconsistent, NoMemory}
use Rattle.save_codec.specs.meaning.SavedBounds.{IsFirstUnfitLine, SaveSetting}
use Rattle.save_codec.specs.meaning.SavedTexts.{head_text, LinesFollow, line_follows, is_end_line, last_line, IsLine}
use Rattle.save_codec.specs.meaning.SavedTexts.{line_text, lines_text, IsTextOfLines}

-- the bytes do not begin with the head of a saved text
abbrev pub HasNoHead : List ℕ → Type 0
HasNoHead bytes = (signature policy rest : List ℕ) → bytes ≡ head_text signature policy ++ rest → ⊥

-- after some lines no line of the form follows, and the text does not end there as it may
pub record IsStuckBehind (text : List ℕ) (front : List Line) : Type 0 where
  pub rest : List ℕ
  pub begins : text ≡ lines_text front ++ rest
  pub form : LinesFollow None front
  pub unfinished : IsTrue (is_end_line (last_line None front)) → rest ≡ [] → ⊥
  pub stuck : (line : Line) (more : List ℕ) → IsLine line → IsTrue (line_follows (last_line None front) line)
      → rest ≡ line_text line ++ more → ⊥

-- so many lines of the form are the most that the text begins with
abbrev pub StopsBehind : (text : List ℕ) → ℕ → Type 0
StopsBehind text count = (front : List Line) × IsStuckBehind text front × (length front ≡ count)

-- the first line that has not the form: lines are counted from 1 on, and what is before them is line 0
abbrev pub IsFault : List ℕ → ℕ → Type 0
IsFault bytes zero = HasNoHead bytes
IsFault bytes (suc count) =
    (signature policy text : List ℕ) × (bytes ≡ head_text signature policy ++ text) × StopsBehind text count

-- the bytes are a saved text, but for another signature or policy
pub record IsForOtherPolicy (bytes signature policy : List ℕ) : Type 0 where
  pub other_signature : List ℕ
  pub other_policy : List ℕ
  pub lines : List Line
  pub text : IsTextOfLines bytes other_signature other_policy lines
  pub other : other_signature ≡ signature → other_policy ≡ policy → ⊥

-- the bytes are a saved text for this signature and policy, and this is its first line that breaks the bounds
pub record IsInconsistent (s : SaveSetting) (bytes signature policy : List ℕ) (line : ℕ) : Type 0 where
  pub lines : List Line
  pub text : IsTextOfLines bytes signature policy lines
  pub unfit : IsFirstUnfitLine s lines line

-- why the bytes are refused
abbrev pub IsSaveRefusal : SaveSetting → (bytes signature policy : List ℕ) → StateRefusal → Type 0
IsSaveRefusal s bytes signature policy (Syntax line) = IsFault bytes line
IsSaveRefusal s bytes signature policy OtherPolicy = IsForOtherPolicy bytes signature policy
IsSaveRefusal s bytes signature policy (Inconsistent line) = IsInconsistent s bytes signature policy line
IsSaveRefusal s bytes signature policy NoMemory = Unit {0}
