-- A text of the form has no first line that has not the form, and other bytes have one such line at most.
use Rattle.save_codec.proofs.Vocabulary.{◌≡◌, ◌++◌, ◌∷◌, ◌<◌, ◌^◌, [], ℕ, zero, suc, List, Option, Some, None, IsTrue, length, refl, sym, ap, subst, ◌∙◌, append_assoc, OneTokenAtPlace, PrintedIsToken}
use Rattle.save_codec.proofs.Vocabulary.{LinesFollow, IsTextOfLines, line_follows, is_end_line, last_line, IsLine, line_text, lines_text, IsFault, Line}
use Rattle.save_codec.proofs.OneText.{head_small, none_before, one_head, one_line}

-- no line of the form follows, and the text does not end as it may
record IsStuck (before : Option Line) (rest : List ℕ) : Type 0 where
  unfinished : IsTrue (is_end_line before) → rest ≡ [] → ⊥
  stuck : (line : Line) (more : List ℕ) → IsLine line → IsTrue (line_follows before line) → rest ≡ line_text line ++ more → ⊥

stuck_not_lines : PrintedIsToken → OneTokenAtPlace → (before : Option Line) (lines front : List Line) (rest : List ℕ) → LinesFollow before lines
    → IsTrue (is_end_line (last_line before lines)) → LinesFollow before front
    → IsStuck (last_line before front) rest → lines_text lines ≡ lines_text front ++ rest → ⊥
stuck_not_lines printed one before [] [] rest form ends other stuck e = stuck.unfinished ends (sym e)
stuck_not_lines printed one before (l ∷ ls) [] rest form ends other stuck e = stuck.stuck l (lines_text ls) form.1 form.0 (sym e)
stuck_not_lines printed one before [] (m ∷ ms) rest form ends other stuck e = none_before m (lines_text ms ++ rest) (e ∙ append_assoc (line_text m) (lines_text ms) rest)
stuck_not_lines printed one before (l ∷ ls) (m ∷ ms) rest form ends other stuck e =
    let h = one_line printed one l m (lines_text ls) (lines_text ms ++ rest) form.1 other.1 (e ∙ append_assoc (line_text m) (lines_text ms) rest) in
    stuck_not_lines printed one (Some m) ls ms rest (subst (λ (x : Line). LinesFollow (Some x) ls) h.0 form.2)
    (subst (λ (x : Line). IsTrue (is_end_line (last_line (Some x) ls))) h.0 ends) other.2 stuck h.1

same_stuck : PrintedIsToken → OneTokenAtPlace → (before : Option Line) (front others : List Line) (rest more : List ℕ) → LinesFollow before front → LinesFollow before others
    → IsStuck (last_line before front) rest
    → IsStuck (last_line before others) more → lines_text front ++ rest ≡ lines_text others ++ more → length front ≡ length others
same_stuck printed one before [] [] rest more form other left right e = refl
same_stuck printed one before [] (m ∷ ms) rest more form other left right e = absurd (left.stuck m (lines_text ms ++ more) other.1 other.0 (e ∙ append_assoc (line_text m) (lines_text ms) more))
same_stuck printed one before (l ∷ ls) [] rest more form other left right e = absurd (right.stuck l (lines_text ls ++ rest) form.1 form.0 (sym e ∙ append_assoc (line_text l) (lines_text ls) rest))
same_stuck printed one before (l ∷ ls) (m ∷ ms) rest more form other left right e =
    let h = one_line printed one l m (lines_text ls ++ rest) (lines_text ms ++ more) form.1 other.1
    (sym (append_assoc (line_text l) (lines_text ls) rest) ∙ e ∙ append_assoc (line_text m) (lines_text ms) more) in
    ap suc (same_stuck printed one (Some m) ls ms rest more (subst (λ (x : Line). LinesFollow (Some x) ls) h.0 form.2) other.2
    (subst (λ (x : Line). IsStuck (last_line (Some x) ls) rest) h.0 left) right h.1)

pub text_no_fault : PrintedIsToken → OneTokenAtPlace → (bytes s p : List ℕ) (lines : List Line) (line : ℕ) → length bytes < 2 ^ 63 → IsTextOfLines bytes s p lines → IsFault bytes line → ⊥
text_no_fault printed one bytes s p lines zero small is fault = fault s p (lines_text lines) is.text
text_no_fault printed one bytes s p lines (suc count) small is (s', p', text, begins, (front, stuck, long)) =
    let a = head_small s p (lines_text lines) bytes small is.text in
    let b = head_small s' p' text bytes small begins in
    let head = one_head printed one s p s' p' (lines_text lines) text a.0 a.1 b.0 b.1 (sym is.text ∙ begins) in
    stuck_not_lines printed one None lines front stuck.rest is.form.0 is.form.1 stuck.form (record { unfinished = stuck.unfinished; stuck = stuck.stuck }) (head.2 ∙ stuck.begins)

pub one_fault : PrintedIsToken → OneTokenAtPlace → (bytes : List ℕ) (line other : ℕ) → length bytes < 2 ^ 63 → IsFault bytes line → IsFault bytes other → line ≡ other
one_fault printed one bytes zero zero small x y = refl
one_fault printed one bytes zero (suc n) small x (s, p, text, begins, more) = absurd (x s p text begins)
one_fault printed one bytes (suc m) zero small (s, p, text, begins, more) y = absurd (y s p text begins)
one_fault printed one bytes (suc m) (suc n) small (s, p, text, begins, (front, stuck, long)) (s', p', text', begins', (front', stuck', long')) =
    let a = head_small s p text bytes small begins in
    let b = head_small s' p' text' bytes small begins' in
    let head = one_head printed one s p s' p' text text' a.0 a.1 b.0 b.1 (sym begins ∙ begins') in
    ap suc (sym long ∙ same_stuck printed one None front front' stuck.rest stuck'.rest stuck.form stuck'.form (record { unfinished = stuck.unfinished; stuck = stuck.stuck })
    (record { unfinished = stuck'.unfinished; stuck = stuck'.stuck }) (sym stuck.begins ∙ head.2 ∙ stuck'.begins) ∙ long')
