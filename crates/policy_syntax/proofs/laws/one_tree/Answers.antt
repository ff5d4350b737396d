use Rattle.policy_syntax.proofs.Vocabulary.{sym, ap, ◌∙◌, policy_tree}
use Rattle.policy_syntax.proofs.OneTree.{policy_one}
use Rattle.policy_syntax.proofs.laws.one_tree.Goals as goal

pub returns-clause-phrases : goal.returns-clause-phrases
returns-clause-phrases c = λ placed rules others x y a b. policy_one rules others (a ∙ sym b) x y

pub returns-clause-rules : goal.returns-clause-rules
returns-clause-rules c = λ bytes rules others a b.
    sym a.read.tree_is ∙ ap policy_tree (policy_one a.read.phrase b.read.phrase (a.read.spells ∙ sym b.read.spells) a.read.fits b.read.fits) ∙ b.read.tree_is
