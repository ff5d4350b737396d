use Rattle.policy_syntax.proofs.Vocabulary.{List, sym, ap, subst, ◌∙◌, if_ok_map, PlacedLexeme, lexeme_of, PrimaryRead, TermRead, syntax_tree_of, SyntaxFormula}
use Rattle.policy_syntax.proofs.FormulaMoves.{IsNoTruth, no_truth, side_barred, side_taken}
use Rattle.policy_syntax.proofs.PartMoves.{IsNoName, no_name}
use Rattle.policy_syntax.proofs.AutomatonSteps.{follows_after, follows_err}
use Rattle.policy_syntax.proofs.reader.bare.Goals as goal

pub returns-in-Name-clause-follows : goal.returns-in-Name-clause-follows
returns-in-Name-clause-follows c = c.named.ensures.follows _ (sym c.lexeme.ensures ∙ ap lexeme_of c.in-Name.is)

pub returns-in_err-left-in_default-clause-follows : goal.returns-in_err-left-in_default-clause-follows
returns-in_err-left-in_default-clause-follows c =
    follows_err _ _ _ _ _ _ c.from_residual.ensures.1 (side_barred _ _ _ _ (subst IsNoName c.lexeme.ensures (no_name _ c.in_default.not-Name))
    (subst IsNoTruth c.lexeme.ensures (no_truth _ c.in_default.not-Truth)) c.requires.at c.in_err-left-in_default.ensures.judged)

pub returns-in_ok-left-in_default-clause-follows : goal.returns-in_ok-left-in_default-clause-follows
returns-in_ok-left-in_default-clause-follows c =
    follows_after _ _ _ _ _ _ _ (side_taken _ _ _ _ _ (subst IsNoName c.lexeme.ensures (no_name _ c.in_default.not-Name)) c.requires.scope c.in_ok-left-in_default.ensures.taken.1
    c.in_ok-left-in_default.ensures.judged c.in_ok-left-in_default.ensures.nodes) c.comparison.ensures.follows

pub returns-in_ok-left-in_default-clause-read : goal.returns-in_ok-left-in_default-clause-read
returns-in_ok-left-in_default-clause-read c =
    let P : SyntaxFormula → Type 0 = λ f. (before : List PlacedLexeme) → TermRead c.args.depth.level c.args.depth.scope before c.term.new.self.cursor.rest c.in_ok-left-in_default.left
    → PrimaryRead c.args.depth.level c.args.depth.scope before c.comparison.new.self.cursor.rest (syntax_tree_of f) in
    let Q : SyntaxFormula → Type 0 = λ f. PrimaryRead c.args.depth.level c.args.depth.scope c.args.parts.now.cursor.rest c.comparison.new.self.cursor.rest (syntax_tree_of f) in
    if_ok_map {P = P} {Q = Q} _ (λ f read. read _ c.in_ok-left-in_default.ensures.read) c.comparison.ensures.read
