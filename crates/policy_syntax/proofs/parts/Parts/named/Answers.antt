use Rattle.policy_syntax.proofs.Vocabulary.{List, if_ok_map, PlacedLexeme, PrimaryRead, TermRead, syntax_tree_of, SyntaxFormula}
use Rattle.policy_syntax.specs.declared.trees.SyntaxTerm.TheVariants.{Variable}
use Rattle.policy_syntax.proofs.PartPhrases.{event_read, variable_read}
use Rattle.policy_syntax.proofs.FormulaPhrases.{not_at}
use Rattle.policy_syntax.proofs.PartMoves.{name_barred, name_taken, variable_side}
use Rattle.policy_syntax.proofs.AutomatonSteps.{after, follows_after, follows_err, refused_after}
use Rattle.policy_syntax.proofs.parts.Parts.named.Goals as goal

pub returns-then-not-is_at-clause-read : goal.returns-then-not-is_at-clause-read
returns-then-not-is_at-clause-read c =
    let P : SyntaxFormula → Type 0 = λ f. (before : List PlacedLexeme) → TermRead c.args.depth.level c.args.depth.scope before c.name.new.self.cursor.rest
    (Variable c.in_ok-place.place c.in_ok-place.name)
    → PrimaryRead c.args.depth.level c.args.depth.scope before c.comparison.new.self.cursor.rest (syntax_tree_of f) in
    let Q : SyntaxFormula → Type 0 = λ f. PrimaryRead c.args.depth.level c.args.depth.scope c.args.self.now.cursor.rest c.comparison.new.self.cursor.rest (syntax_tree_of f) in
    if_ok_map {P = P} {Q = Q} _ (λ f read. read _ (variable_read _ _ _ _ _ _ c.requires c.in_ok-place.ensures.taken)) c.comparison.ensures.read

pub returns-clause-read : goal.returns-clause-read
returns-clause-read c = event_read _ _ _ _ _ _ _ _ c.requires c.in_ok-place.ensures.taken c.in_ok-arguments.ensures.read

pub returns-in_err-place-clause-follows : goal.returns-in_err-place-clause-follows
returns-in_err-place-clause-follows c name at =
    follows_err _ _ _ _ _ _ c.from_residual.ensures.1 (name_barred _ _ name _ _ at c.in_err-place.ensures.barred)

pub returns-then-not-is_at-clause-follows : goal.returns-then-not-is_at-clause-follows
returns-then-not-is_at-clause-follows c name at =
    let f = name_taken _ _ _ _ _ _ c.requires c.in_ok-place.ensures.short c.in_ok-place.ensures.taken c.in_ok-place.ensures.nodes in
    let g = after _ _ _ _ _ _ f (variable_side _ _ _ _ (not_at _ _ c.is_at.ensures c.if-not-is_at.true)) in
    follows_after _ _ _ _ _ _ _ g c.comparison.ensures.follows

pub returns-in_err-arguments-clause-follows : goal.returns-in_err-arguments-clause-follows
returns-in_err-arguments-clause-follows c name at =
    let f = name_taken _ _ _ _ _ _ c.requires c.in_ok-place.ensures.short c.in_ok-place.ensures.taken c.in_ok-place.ensures.nodes in
    follows_err _ _ _ _ _ _ c.from_residual-in_err-arguments.ensures.1 (refused_after _ _ _ _ _ f c.in_err-arguments.ensures.follows)

pub returns-clause-follows : goal.returns-clause-follows
returns-clause-follows c name at =
    let f = name_taken _ _ _ _ _ _ c.requires c.in_ok-place.ensures.short c.in_ok-place.ensures.taken c.in_ok-place.ensures.nodes in
    after _ _ _ _ _ _ f c.in_ok-arguments.ensures.follows
