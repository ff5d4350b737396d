use Rattle.policy_syntax.proofs.Vocabulary.{sym, subst, PrimaryRead, SyntaxTree}
use Rattle.policy_syntax.proofs.FormulaPhrases.{truth_read, taken_is}
use Rattle.policy_syntax.proofs.FormulaMoves.{truth_is}
use Rattle.policy_syntax.proofs.PartMoves.{operator_barred, operator_taken}
use Rattle.policy_syntax.proofs.AutomatonSteps.{follows_err}
use Rattle.policy_syntax.proofs.reader.truth.Goals as goal

pub returns-clause-read : goal.returns-clause-read
returns-clause-read c =
    let P : SyntaxTree → Type 0 = λ f. PrimaryRead c.args.depth.level c.args.depth.scope c.args.parts.now.cursor.rest c.take_node.new.self.cursor.rest f in
    subst P (sym c.constant.ensures) (truth_read _ _ _ _ _ _ c.requires.scope (taken_is _ _ _ _ _ c.requires.at c.in_ok-place.ensures.taken))

pub returns-in_err-place-clause-follows : goal.returns-in_err-place-clause-follows
returns-in_err-place-clause-follows c = follows_err _ _ _ _ _ _ c.from_residual.ensures.1 (operator_barred _ _ _ _ _ _ _ (truth_is c.args.value _ _) c.requires.at c.in_err-place.ensures.barred)

pub returns-clause-follows : goal.returns-clause-follows
returns-clause-follows c =
    operator_taken _ _ _ _ _ _ _ _ (truth_is c.args.value _ _) c.requires.scope c.requires.at c.in_ok-place.ensures.taken c.in_ok-place.ensures.nodes c.in_ok-place.ensures.few
