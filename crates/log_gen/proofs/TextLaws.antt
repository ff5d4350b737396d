-- What a caller needs of a text that is made line by line: what one line more adds, and that it is a front of the
-- whole.
use Rattle.std.proofs.Common.{◌≡◌, ℕ, suc, ◌+◌, ◌-◌, [], ◌∷◌, ◌++◌, ap, ◌∙◌, add-one, zero, List, sym, arith, append_assoc, ◌≤◌}
use Rattle.std.proofs.lemmas.List.{append-nil}
use Rattle.std.proofs.lemmas.List.Concat.{flat_map-append}
use Rattle.log_gen.specs.machine.Generators.{generated_line}
use Rattle.log_gen.specs.meaning.GeneratedLogs.{generated, generated_step, generated_text, sample_line}

text_suc : (start made : ℕ)
    → generated_text start (suc made) ≡ generated_text start made ++ generated_line start made
text_suc start made =
    flat_map-append sample_line (generated start made) (generated_step start made ∷ [])
    ∙ ap (λ t. generated_text start made ++ t) (append-nil (generated_line start made))

-- one line more
pub text_more : (start made : ℕ)
    → generated_text start (made + 1) ≡ generated_text start made ++ generated_line start made
text_more start made = ap (generated_text start) (add-one made) ∙ text_suc start made

text_behind : (start made rest : ℕ)
    → (tail : List ℕ) × (generated_text start (made + rest) ≡ generated_text start made ++ tail)
text_behind start made zero =
    let none : made + zero ≡ made = omega arith in
    ([], ap (generated_text start) none ∙ sym (append-nil (generated_text start made)))
text_behind start made (suc rest) =
    let less = text_behind start made rest in
    let next : made + suc rest ≡ suc (made + rest) = omega arith in (
      less.0 ++ generated_line start (made + rest),
      ap (generated_text start) next ∙ text_suc start (made + rest)
          ∙ ap (λ t. t ++ generated_line start (made + rest)) less.1
          ∙ append_assoc (generated_text start made) less.0 (generated_line start (made + rest)),
    )

-- the text of some of the steps is a front of the whole
pub text_begins : (start made steps : ℕ) → made ≤ steps
    → (tail : List ℕ) × (generated_text start steps ≡ generated_text start made ++ tail)
text_begins start made steps within =
    let tail = text_behind start made (steps - made) in
    let whole : made + (steps - made) ≡ steps = omega arith in
    (tail.0, ap (generated_text start) (sym whole) ∙ tail.1)
