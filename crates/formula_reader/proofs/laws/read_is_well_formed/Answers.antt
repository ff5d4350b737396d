use Rattle.formula_reader.proofs.WellFormed.{text_good}
use Rattle.formula_reader.proofs.laws.read_is_well_formed.Goals as goal

pub returns : goal.returns
returns c = text_good c.texts_are_writable.ensures
