use Rattle.enforce_types.proofs.NumberingLemmas.{nodes_numbered, guards_numbered, same_formula, safe_stays}
use Rattle.enforce_types.proofs.laws.numbers_are_places.Goals as goal

pub returns : goal.returns
returns c = record { nodes = λ p g k node is. nodes_numbered p g k node is; guards = guards_numbered; meaning = same_formula; safe = safe_stays }
