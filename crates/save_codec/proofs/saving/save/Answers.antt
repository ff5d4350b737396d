-- The parts of the text were printed in order.
use Rattle.save_codec.proofs.Vocabulary.{◌++◌, All, List, ap, sym, subst, ◌∙◌, map, KeptRow, Instance, IsTextOfLines, head_text, line_text, lines_text, due_line, lines_of, row_line, IsStoredInstance}
use Rattle.save_codec.proofs.Vocabulary.{IsStoredRow, Clock, Last, Position}
use Rattle.save_codec.proofs.SavedParts.{saved_parts}
use Rattle.save_codec.proofs.SavedTexts.{lines_are, saved_is_text}
use Rattle.save_codec.proofs.saving.save.Goals as goal

pub returns-clause-text : goal.returns-clause-text
returns-clause-text c =
    let s = c.args.snapshot.now in
    saved_parts (head_text c.args.signature.now c.args.policy.now) (line_text (Clock s.clock)) (line_text (Last s.last)) (line_text (Position s.position))
    (map row_line s.kept) (map due_line s.pending) _ _ _ _ _ _ _ _
    c.new-text.ensures.items c.in_ok-print_head.ensures c.in_ok-print_numbered.ensures c.in_ok-print_last.ensures c.in_ok-print_numbered-2.ensures
    (c.in_ok-print_rows.ensures.text ∙ ap (λ (rows : List KeptRow). c.print_numbered-2.new.out.items ++ lines_text (map row_line rows)) c.as_slice.ensures)
    (c.in_ok-print_instances.ensures.text ∙ ap (λ (instances : List Instance). c.print_rows.new.out.items ++ lines_text (map due_line instances)) c.as_slice-2.ensures)
    c.in_ok-print_bytes.ensures.ok

pub returns-clause-form : goal.returns-clause-form
returns-clause-form c = λ small.
    let s = c.args.snapshot.now in
    let lines = lines_are s small (subst (All IsStoredRow) c.as_slice.ensures c.in_ok-print_rows.ensures.rows)
    (subst (All IsStoredInstance) c.as_slice-2.ensures c.in_ok-print_instances.ensures.instances) in
    subst (λ bytes. IsTextOfLines bytes c.args.signature.now c.args.policy.now (lines_of s)) (sym (returns-clause-text c)) (saved_is_text c.args.signature.now c.args.policy.now s lines)
