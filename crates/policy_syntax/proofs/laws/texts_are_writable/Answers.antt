use Rattle.policy_syntax.proofs.Vocabulary.{subst, sym, AllByRecursion, tokens, IsWritableRule}
use Rattle.policy_syntax.proofs.Writable.{AreProper, cut_proper, policy_found}
use Rattle.policy_syntax.proofs.laws.texts_are_writable.Goals as goal

pub returns : goal.returns
returns c = λ bytes rules text.
    subst (AllByRecursion IsWritableRule) text.read.tree_is (policy_found text.read.phrase
    (subst AreProper (sym text.read.spells) (cut_proper (tokens bytes) 0 bytes (c.texts_are_cut.ensures bytes))))
