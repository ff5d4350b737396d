use Rattle.policy_syntax.proofs.Vocabulary.{◌≤◌, List, [], ◌∷◌, sym, subst, ap, ◌∙◌, BehindName, FirstArgument, stack_item, Ahead, Symbol, next_lexeme, IsLexemeTaken, ArgumentsRead, TermsRead}
use Rattle.policy_syntax.proofs.Vocabulary.{CloseParen, OpenParen, MOST_VARIABLES, Depth, SyntaxTerm}
use Rattle.policy_syntax.specs.machine.PartOutcomes.{Continues}
use Rattle.policy_syntax.proofs.FormulaPhrases.{not_at}
use Rattle.policy_syntax.proofs.PartMoves.{arguments_barred, arguments_end, event_many, event_opens, event_taken, first_argument, mark_stops, mark_taken, no_arguments}
use Rattle.policy_syntax.proofs.PartPhrases.{no_arguments as none_read, some_arguments}
use Rattle.policy_syntax.proofs.AutomatonSteps.{after, follows_err, refused_after}
use Rattle.policy_syntax.proofs.parts.Parts.arguments.Goals as goal

pub returns-then-is_at-clause-read : goal.returns-then-is_at-clause-read
returns-then-is_at-clause-read c =
    let opens = subst (λ (a : Ahead). IsLexemeTaken c.args.depth.level (Symbol OpenParen) c.in_ok-take_symbol.field-0 a c.take_symbol.new.self.cursor) c.in_ok-count_node.ensures.cursor
    c.in_ok-take_symbol.ensures.taken in
    let close = subst (λ (d : Depth). IsLexemeTaken d.level (Symbol CloseParen) c.in_ok-take_symbol-2.field-0 c.take_symbol.new.self.cursor c.take_symbol-then-is_at.new.self.cursor)
    c.deeper-depth.ensures c.in_ok-take_symbol-2.ensures.taken in
    let P : List SyntaxTerm → Type 0 = λ xs. ArgumentsRead c.args.depth.level c.args.depth.scope c.args.self.now.cursor.rest c.take_symbol-then-is_at.new.self.cursor.rest xs in
    subst P (sym c.new.ensures) (none_read _ _ _ _ _ _ _ c.requires.scope opens close)

pub returns-clause-read : goal.returns-clause-read
returns-clause-read c =
    let opens = subst (λ (a : Ahead). IsLexemeTaken c.args.depth.level (Symbol OpenParen) c.in_ok-take_symbol.field-0 a c.take_symbol.new.self.cursor) c.in_ok-count_node.ensures.cursor
    c.in_ok-take_symbol.ensures.taken in
    let read = subst (λ (d : Depth). TermsRead d.level d.scope c.take_symbol.new.self.cursor.rest c.terms.new.self.cursor.rest c.in_ok-terms.terms) c.deeper-depth.ensures c.in_ok-terms.ensures.read in
    let close = subst (λ (d : Depth). IsLexemeTaken d.level (Symbol CloseParen) c.in_ok-take_symbol-3.field-0 c.terms.new.self.cursor c.take_symbol-2.new.self.cursor)
    c.deeper-depth.ensures c.in_ok-take_symbol-3.ensures.taken in
    some_arguments _ _ _ _ _ _ _ _ _ c.requires.scope opens read close

pub returns-in_err-count_node-clause-follows : goal.returns-in_err-count_node-clause-follows
returns-in_err-count_node-clause-follows c =
    follows_err _ _ _ _ _ _ c.from_residual.ensures.1 (event_many _ _ _ _ _ c.requires.at c.in_err-count_node.ensures.many.0 c.in_err-count_node.ensures.many.1)

pub returns-in_err-take_symbol-clause-follows : goal.returns-in_err-take_symbol-clause-follows
returns-in_err-take_symbol-clause-follows c =
    let at = ap (λ (a : Ahead). next_lexeme a.rest) c.in_ok-count_node.ensures.cursor ∙ c.requires.at in
    follows_err _ _ _ _ _ _ c.from_residual-in_err-take_symbol.ensures.1 (event_opens _ _ _ _ c.count_node.new.self _ at c.requires.level c.in_err-take_symbol.ensures.barred)

pub returns-in_err-take_symbol-2-clause-follows : goal.returns-in_err-take_symbol-2-clause-follows
returns-in_err-take_symbol-2-clause-follows c =
    let f1 = event_taken c.args.name _ _ _ _ _ _ c.in_ok-count_node.ensures.cursor c.in_ok-count_node.ensures.nodes c.in_ok-count_node.ensures.few c.in_ok-take_symbol.ensures.taken
    c.in_ok-take_symbol.ensures.nodes in
    let P : Depth → Type 0 = λ d. Continues (stack_item (BehindName c.args.name) c.args.depth.level c.args.depth.scope ∷ []) (stack_item FirstArgument d.level d.scope ∷ [])
    c.args.self.now c.take_symbol.new.self in
    let f2 = subst P (sym c.deeper-depth.ensures) f1 in
    let few = subst (λ (d : Depth). d.scope ≤ MOST_VARIABLES) (sym c.deeper-depth.ensures) c.requires.scope in
    follows_err _ _ _ _ _ _ c.from_residual-in_err-take_symbol-2.ensures.1
    (refused_after _ _ _ _ _ f2 (mark_stops _ _ _ _ _ _ _ (no_arguments c.deeper-depth.result.level c.deeper-depth.result.scope) (c.is_at.ensures.0 c.if-is_at.true)
    c.in_err-take_symbol-2.ensures.barred))

pub returns-then-is_at-clause-follows : goal.returns-then-is_at-clause-follows
returns-then-is_at-clause-follows c =
    let f1 = event_taken c.args.name _ _ _ _ _ _ c.in_ok-count_node.ensures.cursor c.in_ok-count_node.ensures.nodes c.in_ok-count_node.ensures.few c.in_ok-take_symbol.ensures.taken
    c.in_ok-take_symbol.ensures.nodes in
    let P : Depth → Type 0 = λ d. Continues (stack_item (BehindName c.args.name) c.args.depth.level c.args.depth.scope ∷ []) (stack_item FirstArgument d.level d.scope ∷ [])
    c.args.self.now c.take_symbol.new.self in
    let f2 = subst P (sym c.deeper-depth.ensures) f1 in
    let few = subst (λ (d : Depth). d.scope ≤ MOST_VARIABLES) (sym c.deeper-depth.ensures) c.requires.scope in
    after _ _ _ _ _ _ f2 (mark_taken _ _ _ _ _ _ _ _ (no_arguments c.deeper-depth.result.level c.deeper-depth.result.scope) few c.in_ok-take_symbol-2.ensures.taken c.in_ok-take_symbol-2.ensures.nodes)

pub returns-in_err-terms-clause-follows : goal.returns-in_err-terms-clause-follows
returns-in_err-terms-clause-follows c =
    let f1 = event_taken c.args.name _ _ _ _ _ _ c.in_ok-count_node.ensures.cursor c.in_ok-count_node.ensures.nodes c.in_ok-count_node.ensures.few c.in_ok-take_symbol.ensures.taken
    c.in_ok-take_symbol.ensures.nodes in
    let P : Depth → Type 0 = λ d. Continues (stack_item (BehindName c.args.name) c.args.depth.level c.args.depth.scope ∷ []) (stack_item FirstArgument d.level d.scope ∷ [])
    c.args.self.now c.take_symbol.new.self in
    let f2 = subst P (sym c.deeper-depth.ensures) f1 in
    let few = subst (λ (d : Depth). d.scope ≤ MOST_VARIABLES) (sym c.deeper-depth.ensures) c.requires.scope in
    let f3 = after _ _ _ _ _ _ f2 (first_argument _ _ _ (not_at _ _ c.is_at.ensures c.if-is_at.false)) in
    follows_err _ _ _ _ _ _ c.from_residual-in_err-terms.ensures.1 (refused_after _ _ _ _ _ f3 c.in_err-terms.ensures.follows)

pub returns-in_err-take_symbol-3-clause-follows : goal.returns-in_err-take_symbol-3-clause-follows
returns-in_err-take_symbol-3-clause-follows c =
    let f1 = event_taken c.args.name _ _ _ _ _ _ c.in_ok-count_node.ensures.cursor c.in_ok-count_node.ensures.nodes c.in_ok-count_node.ensures.few c.in_ok-take_symbol.ensures.taken
    c.in_ok-take_symbol.ensures.nodes in
    let P : Depth → Type 0 = λ d. Continues (stack_item (BehindName c.args.name) c.args.depth.level c.args.depth.scope ∷ []) (stack_item FirstArgument d.level d.scope ∷ [])
    c.args.self.now c.take_symbol.new.self in
    let f2 = subst P (sym c.deeper-depth.ensures) f1 in
    let few = subst (λ (d : Depth). d.scope ≤ MOST_VARIABLES) (sym c.deeper-depth.ensures) c.requires.scope in
    let f3 = after _ _ _ _ _ _ f2 (first_argument _ _ _ (not_at _ _ c.is_at.ensures c.if-is_at.false)) in
    let f4 = after _ _ _ _ _ _ f3 c.in_ok-terms.ensures.follows in
    follows_err _ _ _ _ _ _ c.from_residual-in_err-take_symbol-3.ensures.1 (refused_after _ _ _ _ _ f4 (arguments_barred _ _ _ _ c.in_ok-terms.ensures.ends c.in_err-take_symbol-3.ensures.barred))

pub returns-clause-follows : goal.returns-clause-follows
returns-clause-follows c =
    let f1 = event_taken c.args.name _ _ _ _ _ _ c.in_ok-count_node.ensures.cursor c.in_ok-count_node.ensures.nodes c.in_ok-count_node.ensures.few c.in_ok-take_symbol.ensures.taken
    c.in_ok-take_symbol.ensures.nodes in
    let P : Depth → Type 0 = λ d. Continues (stack_item (BehindName c.args.name) c.args.depth.level c.args.depth.scope ∷ []) (stack_item FirstArgument d.level d.scope ∷ [])
    c.args.self.now c.take_symbol.new.self in
    let f2 = subst P (sym c.deeper-depth.ensures) f1 in
    let few = subst (λ (d : Depth). d.scope ≤ MOST_VARIABLES) (sym c.deeper-depth.ensures) c.requires.scope in
    let f3 = after _ _ _ _ _ _ f2 (first_argument _ _ _ (not_at _ _ c.is_at.ensures c.if-is_at.false)) in
    let f4 = after _ _ _ _ _ _ f3 c.in_ok-terms.ensures.follows in
    after _ _ _ _ _ _ f4 (mark_taken _ _ _ _ _ _ _ _ (arguments_end c.deeper-depth.result.level c.deeper-depth.result.scope) few c.in_ok-take_symbol-3.ensures.taken
    c.in_ok-take_symbol-3.ensures.nodes)
