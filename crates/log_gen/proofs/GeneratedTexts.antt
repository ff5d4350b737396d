-- The text of a generated log, line by line.
use Rattle.std.proofs.Common.{◌≡◌, ℕ, ◌+◌, ◌<◌, List, ◌++◌, sym, ap, ◌∙◌, arith, append_assoc}
use Rattle.enf_value.specs.machine.ValueCalls.{AppendsPart}
use Rattle.log_gen.specs.machine.Generators.{generated_line}
use Rattle.log_gen.specs.meaning.GeneratedLogs.{generated_text}
use Rattle.log_gen.proofs.TextLaws.{text_begins, text_more}

-- one line more after a text
pub append_more : (start s made m : ℕ) (old middle after : List ℕ) → s ≡ start → m ≡ made + 1 → middle ≡ old ++ generated_text start made
    → after ≡ middle ++ generated_line s made → after ≡ old ++ generated_text start m
append_more start s made m old middle after same more begun line =
    line ∙ ap (λ t. t ++ generated_line s made) begun ∙ ap (λ s. (old ++ generated_text start made) ++ generated_line s made) same
    ∙ append_assoc old (generated_text start made) (generated_line start made)
    ∙ ap (λ t. old ++ t) (sym (text_more start made) ∙ ap (generated_text start) (sym more))

-- a front of the next line, after the lines before it, is a front of the whole text
pub part_of_text : (start s made steps : ℕ) (old middle after : List ℕ) → s ≡ start → made < steps → middle ≡ old ++ generated_text start made
    → AppendsPart (generated_line s made) middle after → AppendsPart (generated_text start steps) old after
part_of_text start s made steps old middle after same less begun (part, rest, split, appended) =
    let tail = text_begins start (made + 1) steps (omega arith) in
    let text = generated_text start made in (
      text ++ part,
      rest ++ tail.0,
      tail.1 ∙ ap (λ t. t ++ tail.0) (text_more start made ∙ ap (λ s. text ++ generated_line s made) (sym same) ∙ ap (λ l. text ++ l) split)
          ∙ append_assoc text (part ++ rest) tail.0 ∙ ap (λ t. text ++ t) (append_assoc part rest tail.0) ∙ sym (append_assoc text part (rest ++ tail.0)),
      appended ∙ ap (λ t. t ++ part) begun ∙ append_assoc old text part,
    )
