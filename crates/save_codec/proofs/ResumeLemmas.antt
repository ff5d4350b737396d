-- The answer to a text, from its lines.
use Rattle.save_codec.proofs.Vocabulary.{◌≡◌, ◌<◌, ◌^◌, List, ℕ, sym, subst, AreLinesWithin, SaveSetting, KeepsBounds, AreLines, IsTextOfLines, lines_of, IsStateOf, IsUnfitLine, IsSaveRefusal, Line}
use Rattle.save_codec.proofs.Vocabulary.{StateRefusal, Syntax, OtherPolicy, Inconsistent, NoMemory, Snapshot}

-- a position of a line is below 2^63
small_position : (state : Snapshot) → AreLines (lines_of state) → state.position < 2 ^ 63
small_position state form = form.0.2.2.1

pub keeps_bounds : (s : SaveSetting) (lines : List Line) (state : Snapshot) → AreLines lines → IsStateOf s lines state → KeepsBounds s state
keeps_bounds s lines state form is = record {
  clock = is.clock;
  last = is.last;
  position = is.position;
  small = small_position state (subst AreLines (sym is.told) form);
  kept = is.kept;
  pending = is.pending;
  due = is.due;
  lines = subst (AreLinesWithin s) (sym is.told) is.within;
}

pub state_text : (bytes signature policy : List ℕ) (s : SaveSetting) (lines : List Line) (state : Snapshot) → IsTextOfLines bytes signature policy lines → IsStateOf s lines state
    → IsTextOfLines bytes signature policy (lines_of state)
state_text bytes signature policy s lines state text is = subst (IsTextOfLines bytes signature policy) (sym is.told) text

pub lines_refused : (bytes signature policy : List ℕ) (s : SaveSetting) (lines : List Line) (refusal : StateRefusal) → IsTextOfLines bytes signature policy lines
    → IsUnfitLine s lines refusal → IsSaveRefusal s bytes signature policy refusal
lines_refused bytes signature policy s lines (Syntax line) text unfit = absurd unfit
lines_refused bytes signature policy s lines OtherPolicy text unfit = absurd unfit
lines_refused bytes signature policy s lines (Inconsistent line) text unfit = record { lines = lines; text = text; unfit = unfit }
lines_refused bytes signature policy s lines NoMemory text unfit = tt

-- the text is for the signature and the policy, and its lines are those of the parts
pub text_of_parts : (bytes s p signature policy : List ℕ) (lines parts : List Line) → s ≡ signature → p ≡ policy → lines ≡ parts → IsTextOfLines bytes s p lines
    → IsTextOfLines bytes signature policy parts
text_of_parts bytes s p signature policy lines parts e f g text =
    subst (IsTextOfLines bytes signature policy) g (subst (λ q. IsTextOfLines bytes signature q lines) f (subst (λ q. IsTextOfLines bytes q p lines) e text))
