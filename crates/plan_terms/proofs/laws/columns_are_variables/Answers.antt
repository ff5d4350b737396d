use Rattle.plan_terms.proofs.ColumnLemmas.{own_columns}
use Rattle.plan_terms.proofs.laws.columns_are_variables.Goals as goal

pub returns : goal.returns
returns c = own_columns
