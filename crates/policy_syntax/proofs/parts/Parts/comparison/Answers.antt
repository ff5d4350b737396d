use Rattle.policy_syntax.proofs.Vocabulary.{◌≡◌, sym, ap, subst, ◌∙◌, [], ◌∷◌, PolicyLexeme, Sign, next_lexeme, lexeme_of, IsLexemeTaken, PrimaryRead, SyntaxTree, BehindConstant, stack_item}
use Rattle.policy_syntax.proofs.Vocabulary.{SyntaxRefusal}
use Rattle.policy_syntax.specs.machine.PartOutcomes.{RefusesFrom}
use Rattle.policy_syntax.proofs.PartPhrases.{comparison_read}
use Rattle.policy_syntax.proofs.PartMoves.{IsNoSign, comparison_other, no_sign, operator_barred, operator_taken, right_side, sign_is, term_barred, term_taken}
use Rattle.policy_syntax.proofs.AutomatonSteps.{after, follows_err, refused_after}
use Rattle.policy_syntax.proofs.parts.Parts.comparison.Goals as goal

pub returns-clause-read : goal.returns-clause-read
returns-clause-read c before left =
    let sign_is : next_lexeme c.args.self.now.cursor.rest ≡ Sign c.in-Sign.sign = sym c.lexeme.ensures ∙ ap lexeme_of c.in-Sign.is in
    let taken = subst (λ (lexeme : PolicyLexeme). IsLexemeTaken c.args.depth.level lexeme c.in_ok-place.place c.args.self.now.cursor c.take_node.new.self.cursor) sign_is c.in_ok-place.ensures.taken in
    let P : SyntaxTree → Type 0 = λ f. PrimaryRead c.args.depth.level c.args.depth.scope before c.term.new.self.cursor.rest f in
    subst P (sym c.compared.ensures) (comparison_read _ _ _ _ _ _ _ _ _ _ c.requires left taken c.in_ok-right.ensures.read)

pub returns-in_default-clause-follows : goal.returns-in_default-clause-follows
returns-in_default-clause-follows c =
    subst (λ (y : SyntaxRefusal). RefusesFrom (stack_item BehindConstant c.args.depth.level c.args.depth.scope ∷ []) c.args.self.now y) (sym c.syntax.ensures)
    (comparison_other _ _ _ (subst IsNoSign c.lexeme.ensures (no_sign _ c.in_default.not-Sign)))

pub returns-in_err-place-clause-follows : goal.returns-in_err-place-clause-follows
returns-in_err-place-clause-follows c =
    follows_err _ _ _ _ _ _ c.from_residual.ensures.1 (operator_barred _ _ _ _ _ _ _ (sign_is c.in-Sign.sign _ _) (sym c.lexeme.ensures ∙ ap lexeme_of c.in-Sign.is) c.in_err-place.ensures.barred)

pub returns-in_err-right-clause-follows : goal.returns-in_err-right-clause-follows
returns-in_err-right-clause-follows c =
    let f = operator_taken _ _ _ _ _ _ _ _ (sign_is c.in-Sign.sign c.args.depth.level c.args.depth.scope) c.requires (sym c.lexeme.ensures ∙ ap lexeme_of c.in-Sign.is)
    c.in_ok-place.ensures.taken c.in_ok-place.ensures.nodes c.in_ok-place.ensures.few in
    follows_err _ _ _ _ _ _ c.from_residual-in_err-right.ensures.1 (refused_after _ _ _ _ _ f
    (term_barred _ _ _ _ _ _ (right_side c.args.depth.level c.args.depth.scope) c.in_err-right.ensures.judged))

pub returns-clause-follows : goal.returns-clause-follows
returns-clause-follows c =
    let f = operator_taken _ _ _ _ _ _ _ _ (sign_is c.in-Sign.sign c.args.depth.level c.args.depth.scope) c.requires (sym c.lexeme.ensures ∙ ap lexeme_of c.in-Sign.is)
    c.in_ok-place.ensures.taken c.in_ok-place.ensures.nodes c.in_ok-place.ensures.few in
    after _ _ _ _ _ _ f (term_taken _ _ _ _ _ _ _ (right_side c.args.depth.level c.args.depth.scope) c.requires c.in_ok-right.ensures.taken.1 c.in_ok-right.ensures.judged c.in_ok-right.ensures.nodes)
