use Rattle.enf_value.proofs.Vocabulary.{◌≡◌, drop, false, text_front}
use Rattle.enf_value.proofs.Escapes.{behind}
use Rattle.enf_value.proofs.reading.read_written.Given as goal

abbrev pub invariant-loop-place : goal.invariant-loop-place
invariant-loop-place l =
    text_front false l.bytes ≡ behind l.text.items l.place (text_front l.escape (drop l.place l.bytes))
