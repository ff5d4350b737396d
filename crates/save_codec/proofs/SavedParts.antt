-- The parts of a saved text, one after the other.
use Rattle.save_codec.proofs.Vocabulary.{◌≡◌, ◌++◌, ◌∷◌, [], ℕ, List, codes, sym, ap, ◌∙◌, append_assoc, flat_map-append, line_text, lines_text, Line, End}

seven : (a b c d e f g : List ℕ) → (((((a ++ b) ++ c) ++ d) ++ e) ++ f) ++ g ≡ a ++ (b ++ (c ++ (d ++ (e ++ (f ++ g)))))
seven a b c d e f g = simp append_assoc

pub saved_parts : (head clock last position : List ℕ) (rows dues : List Line) (t0 t1 t2 t3 t4 t5 t6 t7 : List ℕ)
    → t0 ≡ [] → t1 ≡ t0 ++ head → t2 ≡ t1 ++ clock → t3 ≡ t2 ++ last → t4 ≡ t3 ++ position → t5 ≡ t4 ++ lines_text rows
    → t6 ≡ t5 ++ lines_text dues → t7 ≡ t6 ++ codes "end\n"
    → t7 ≡ head ++ (clock ++ (last ++ (position ++ lines_text (rows ++ (dues ++ End ∷ [])))))
saved_parts head clock last position rows dues t0 t1 t2 t3 t4 t5 t6 t7 e0 e1 e2 e3 e4 e5 e6 e7 =
    let f1 : t1 ≡ head = e1 ∙ ap (λ t. t ++ head) e0 in
    let f2 : t2 ≡ head ++ clock = e2 ∙ ap (λ t. t ++ clock) f1 in
    let f3 : t3 ≡ (head ++ clock) ++ last = e3 ∙ ap (λ t. t ++ last) f2 in
    let f4 : t4 ≡ ((head ++ clock) ++ last) ++ position = e4 ∙ ap (λ t. t ++ position) f3 in
    let f5 : t5 ≡ (((head ++ clock) ++ last) ++ position) ++ lines_text rows = e5 ∙ ap (λ t. t ++ lines_text rows) f4 in
    let f6 : t6 ≡ ((((head ++ clock) ++ last) ++ position) ++ lines_text rows) ++ lines_text dues = e6 ∙ ap (λ t. t ++ lines_text dues) f5 in
    let whole : lines_text (rows ++ (dues ++ End ∷ [])) ≡ lines_text rows ++ (lines_text dues ++ codes "end\n") =
    flat_map-append line_text rows (dues ++ End ∷ []) ∙ ap (λ t. lines_text rows ++ t) (flat_map-append line_text dues (End ∷ [])) in
    e7 ∙ ap (λ t. t ++ codes "end\n") f6 ∙ seven head clock last position (lines_text rows) (lines_text dues) (codes "end\n")
    ∙ ap (λ t. head ++ (clock ++ (last ++ (position ++ t)))) (sym whole)
