use Rattle.policy_syntax.proofs.FormulaPhrases.{not_at}
use Rattle.policy_syntax.proofs.PartMoves.{mark_taken, mark_stops, second_end_taken, second_end_barred, star}
use Rattle.policy_syntax.proofs.AutomatonSteps.{follows_err}
use Rattle.policy_syntax.proofs.parts.Parts.second_end.Goals as goal

pub returns-in_err-take_symbol-clause-follows : goal.returns-in_err-take_symbol-clause-follows
returns-in_err-take_symbol-clause-follows c operand scope few =
    follows_err _ _ _ _ _ _ c.from_residual.ensures.1 (mark_stops _ _ _ _ _ _ _ (star operand c.args.low c.args.level scope) (c.is_at.ensures.0 c.if-is_at.true) c.in_err-take_symbol.ensures.barred)

pub returns-then-is_at-clause-follows : goal.returns-then-is_at-clause-follows
returns-then-is_at-clause-follows c operand scope few =
    mark_taken _ _ _ _ _ _ _ _ (star operand c.args.low c.args.level scope) few c.in_ok-take_symbol.ensures.taken c.in_ok-take_symbol.ensures.nodes

pub returns-in_err-high-clause-follows : goal.returns-in_err-high-clause-follows
returns-in_err-high-clause-follows c operand scope few =
    follows_err _ _ _ _ _ _ c.from_residual-in_err-high.ensures.1 (second_end_barred _ _ _ _ _ _ (not_at _ _ c.is_at.ensures c.if-is_at.false) c.in_err-high.ensures.barred)

pub returns-clause-follows : goal.returns-clause-follows
returns-clause-follows c operand scope few =
    second_end_taken _ _ _ _ _ _ _ _ few c.in_ok-high.ensures.taken c.in_ok-high.ensures.low c.in_ok-high.ensures.high c.in_ok-high.ensures.nodes
