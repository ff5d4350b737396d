use Rattle.valuations.proofs.RowLaws.{contains_valuation, contains_from_valuation}
use Rattle.valuations.proofs.laws.rows_are_valuations.Goals as goal

pub returns : goal.returns
returns c = λ t row table long. (contains_valuation t row table, contains_from_valuation t row table long)
