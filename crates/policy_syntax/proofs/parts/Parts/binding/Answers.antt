use Rattle.policy_syntax.proofs.Vocabulary.{◌+◌, [], ◌∷◌, sym, ap, subst, ◌∙◌, arith, BoundVariable, stack_item, lexeme_of, SyntaxRefusal}
use Rattle.policy_syntax.specs.machine.PartOutcomes.{RefusesFrom}
use Rattle.policy_syntax.proofs.PartMoves.{IsNoName, variable_taken, variable_other, variable_many, variable_barred, no_name}
use Rattle.policy_syntax.proofs.AutomatonSteps.{follows_err}
use Rattle.policy_syntax.proofs.parts.Parts.binding.Goals as goal

pub returns-in_default-clause-follows : goal.returns-in_default-clause-follows
returns-in_default-clause-follows c =
    subst (λ (y : SyntaxRefusal). RefusesFrom (stack_item BoundVariable c.args.depth.level (c.args.depth.scope + 1) ∷ []) c.args.self.now y) (sym c.syntax.ensures)
    (variable_other _ _ _ (subst IsNoName c.lexeme.ensures (no_name _ c.in_default.not-Name)))

pub returns-then-depth-ge-MOST_VARIABLES-clause-follows : goal.returns-then-depth-ge-MOST_VARIABLES-clause-follows
returns-then-depth-ge-MOST_VARIABLES-clause-follows c =
    subst (λ (y : SyntaxRefusal). RefusesFrom (stack_item BoundVariable c.args.depth.level (c.args.depth.scope + 1) ∷ []) c.args.self.now y) (sym c.limit.ensures)
    (variable_many _ _ _ _ (sym c.lexeme.ensures ∙ ap lexeme_of c.in-Name.is) (omega (arith, c.if-depth-ge-MOST_VARIABLES.true)))

pub returns-in_err-place-clause-follows : goal.returns-in_err-place-clause-follows
returns-in_err-place-clause-follows c =
    follows_err _ _ _ _ _ _ c.from_residual.ensures.1 (variable_barred _ _ _ _ _ (sym c.lexeme.ensures ∙ ap lexeme_of c.in-Name.is) c.in_err-place.ensures.barred)

pub returns-clause-follows : goal.returns-clause-follows
returns-clause-follows c =
    variable_taken _ _ _ _ _ _ (omega (arith, c.if-depth-ge-MOST_VARIABLES.false)) c.in_ok-place.ensures.short c.in_ok-place.ensures.taken c.in_ok-place.ensures.nodes
