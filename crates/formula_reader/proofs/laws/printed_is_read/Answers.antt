use Rattle.formula_reader.proofs.Vocabulary.{text_levels}
use Rattle.formula_reader.proofs.RoundTrip.{read_back, source_of, text_has_levels}
use Rattle.formula_reader.proofs.laws.printed_is_read.Goals as goal

pub returns-clause-levels : goal.returns-clause-levels
returns-clause-levels c = λ entries rule h.
    text_has_levels c.printed_is_cut.ensures c.written_is_read.ensures.levels entries rule (source_of c.texts_are_writable.ensures entries rule h)

pub returns-clause-read : goal.returns-clause-read
returns-clause-read c = λ entries rule h low.
    let s = source_of c.texts_are_writable.ensures entries rule h in
    read_back c.printed_is_cut.ensures c.written_is_read.ensures.read entries rule s
    (low (text_levels entries rule) (text_has_levels c.printed_is_cut.ensures c.written_is_read.ensures.levels entries rule s))
