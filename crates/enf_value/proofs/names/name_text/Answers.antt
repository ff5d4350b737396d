use Rattle.enf_value.proofs.Vocabulary.{Err, ap}
use Rattle.enf_value.proofs.Words.{word_utf8}
use Rattle.enf_value.proofs.names.name_text.Goals as goal

pub unreachable-requires-in-Err-NotUtf8 : goal.unreachable-requires-in-Err-NotUtf8
unreachable-requires-in-Err-NotUtf8 c =
    (c.in-Err-NotUtf8.ensures.not_utf8.0 (ap Err c.in-Err-NotUtf8.field-0-is)).1 (word_utf8 c.args.word.now c.requires.word)
