use Rattle.signature.proofs.Runs.{entries_from_tokens}
use Rattle.signature.proofs.laws.one_tree.Goals as goal

pub returns : goal.returns
returns c = entries_from_tokens
