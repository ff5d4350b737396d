-- Lines that follow one another.
use Rattle.save_codec.proofs.Vocabulary.{◌≡◌, ◌++◌, ◌∷◌, [], suc, ℕ, Result, Err, IfErr, List, Option, Some, IsTrue, refl, sym, ap, subst, ◌∙◌, arith, append_assoc, append-nil, flat_map-append}
use Rattle.save_codec.proofs.Vocabulary.{LinesFollow, line_follows, last_line, IsLine, head_text, line_text, lines_text, IsFault, IsStop, IsFormRefusal, StateRefusal, Syntax, OtherPolicy}
use Rattle.save_codec.proofs.Vocabulary.{Inconsistent, NoMemory, Line}

pub last_line_behind : (before : Option Line) (lines : List Line) (line : Line) → last_line before (lines ++ line ∷ []) ≡ Some line
last_line_behind before [] line = refl
last_line_behind before (first ∷ lines) line = last_line_behind (Some first) lines line

pub follow_on : (before : Option Line) (lines : List Line) (line : Line) → LinesFollow before lines → IsTrue (line_follows (last_line before lines) line) → IsLine line
    → LinesFollow before (lines ++ line ∷ [])
follow_on before [] line form next is = (next, is, tt)
follow_on before (first ∷ lines) line form next is = (form.0, form.1, follow_on (Some first) lines line form.2 next is)

-- one more line was read
pub text_on : (text left after : List ℕ) (lines : List Line) (line : Line) → text ≡ lines_text lines ++ left → left ≡ line_text line ++ after → text ≡ lines_text (lines ++ line ∷ []) ++ after
text_on text left after lines line begins read =
    begins ∙ ap (λ l. lines_text lines ++ l) read ∙ sym (append_assoc (lines_text lines) (line_text line) after)
    ∙ ap (λ l. l ++ after) (ap (λ l. lines_text lines ++ l) (sym (append-nil (line_text line))) ∙ sym (flat_map-append line_text lines (line ∷ [])))

-- after a head, the lines that were read are those of the text
stop_is_syntax : (bytes signature policy text : List ℕ) (why : StateRefusal) → bytes ≡ head_text signature policy ++ text → IsStop text why → IsFormRefusal bytes why
stop_is_syntax bytes signature policy text (Syntax line) is (count, stops, numbered) =
    subst (IsFault bytes) {x = suc count} {y = line} (omega (arith, numbered)) (signature, policy, text, is, stops)
stop_is_syntax bytes signature policy text OtherPolicy is stop = stop
stop_is_syntax bytes signature policy text (Inconsistent line) is stop = stop
stop_is_syntax bytes signature policy text NoMemory is stop = tt

pub refused_behind : {T : Type 0} (bytes signature policy text : List ℕ) (result : Result T StateRefusal) (why given : StateRefusal) → result ≡ Err why → why ≡ given → bytes
    ≡ head_text signature policy ++ text → IsStop text given → IfErr result (IsFormRefusal bytes)
refused_behind {T = T} bytes signature policy text result why given is same begins stop =
    subst (λ (r : Result T StateRefusal). IfErr r (IsFormRefusal bytes)) (sym is) (subst (IsFormRefusal bytes) (sym same) (stop_is_syntax bytes signature policy text given begins stop))
