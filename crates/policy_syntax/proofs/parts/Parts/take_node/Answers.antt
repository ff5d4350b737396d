use Rattle.policy_syntax.proofs.Vocabulary.{◌≡◌, ℕ, ap, subst, ◌∙◌, arith, Bars, level_refusal, next_place_of, Ahead, next_place, Limit}
use Rattle.policy_syntax.proofs.PartMoves.{node_many, node_level}
use Rattle.policy_syntax.proofs.AutomatonSteps.{bars_err}
use Rattle.policy_syntax.proofs.parts.Parts.take_node.Goals as goal

pub returns-in_err-count_node-clause-barred : goal.returns-in_err-count_node-clause-barred
returns-in_err-count_node-clause-barred c =
    bars_err _ _ _ c.from_residual.ensures.1 (node_many _ _ _ _ (c.in_err-count_node.ensures.many.0 ∙ ap Limit c.place-place.ensures) c.in_err-count_node.ensures.many.1)

pub returns-in_err-take-clause-barred : goal.returns-in_err-take-clause-barred
returns-in_err-take-clause-barred c =
    let at : next_place_of c.count_node.new.self ≡ next_place_of c.args.self.now = ap (λ (a : Ahead). next_place a.end a.rest) c.in_ok-count_node.ensures.cursor in
    bars_err _ _ _ c.from_residual-in_err-take.ensures.1 (node_level _ _ _ _ (omega (arith, c.in_ok-count_node.ensures.nodes, c.in_ok-count_node.ensures.few))
    (subst (λ (p : ℕ). Bars (level_refusal p c.args.level) c.in_err-take.field-0.0) at c.in_err-take.ensures.barred))
