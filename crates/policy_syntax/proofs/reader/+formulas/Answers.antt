use Rattle.policy_syntax.proofs.Vocabulary.{◌≡◌, false, refl, ◌+◌, ◌≤◌, [], ◌∷◌, length, sym, ap, subst, ◌∙◌, if_ok_map, prefix_tree, quantifier_tree, MOST_VARIABLES, Depth, PolicyLexeme, Symbol}
use Rattle.policy_syntax.proofs.Vocabulary.{Prefix, Infix, Quantifier, lexeme_of, begins_inner, FormulaRead, OrRead, AndRead, InfixRead, UnaryRead, PrimaryRead, SyntaxTree, syntax_tree_of, Not, And}
use Rattle.policy_syntax.proofs.Vocabulary.{Or, Arrow, SyntaxFormula, StackItem, AndTail, ArrowTail, BehindVariable, BoundVariable, InfixTail, OpenInterval, Operand, OrTail, ParenthesisEnd, and_on}
use Rattle.policy_syntax.proofs.Vocabulary.{formula_on, infix_on, stack_item, or_on}
use Rattle.policy_syntax.specs.machine.PartOutcomes.{Continues}
use Rattle.policy_syntax.proofs.FormulaPhrases.{not_at, not_infix, taken_is}
use Rattle.policy_syntax.proofs.FormulaMoves.{and_ends, and_is, arrow_ends, arrow_is, close_paren, dot, dot_barred, infix_ends, infix_is, not_inner, not_is, only_close_paren, open_paren, or_ends}
use Rattle.policy_syntax.proofs.FormulaMoves.{or_is, prefix_is, quantifier_is}
use Rattle.policy_syntax.proofs.PartMoves.{mark_barred, mark_stops, mark_taken, operator_barred, operator_taken}
use Rattle.policy_syntax.proofs.AutomatonSteps.{after, and_then, follows_err, follows_no_memory, over, refused_after, refused_over, refused_then}
use Rattle.policy_syntax.specs.meaning.Trees as tree
use Rattle.policy_syntax.proofs.FormulaPhrases as phrases
use Rattle.policy_syntax.proofs.reader.+formulas.Goals as goal

pub formula-returns-then-not-is_at-clause-read : goal.formula-returns-then-not-is_at-clause-read
formula-returns-then-not-is_at-clause-read n c = phrases.one_side _ _ _ _ _ c.in_ok-left.ensures.read (not_at _ _ c.is_at.ensures c.if-not-is_at.true)

pub formula-returns-clause-read : goal.formula-returns-clause-read
formula-returns-clause-read n c =
    let taken = taken_is _ _ (Symbol Arrow) _ _ (c.is_at.ensures.0 c.if-not-is_at.false) c.in_ok-place.ensures.taken in
    let P : SyntaxFormula → SyntaxFormula → Type 0 = λ f g. FormulaRead c.args.depth.level c.args.depth.scope c.args.parts.now.cursor.rest c.formula.new.parts.cursor.rest
    (tree.ImpliesTree c.in_ok-place.place (syntax_tree_of f) (syntax_tree_of g)) in
    subst (λ (f : SyntaxFormula). P f c.in_ok-boxed.field-0.value) (sym c.in_ok-left-2.ensures)
    (subst (λ (g : SyntaxFormula). P c.in_ok-left.left g) (sym c.in_ok-boxed.ensures)
    (phrases.implication _ _ _ _ _ _ _ _ _ _ c.requires.scope c.deeper.ensures c.in_ok-left.ensures.read taken c.in_ok-right.ensures.read))

pub disjunction-returns-then-not-is_at-clause-read : goal.disjunction-returns-then-not-is_at-clause-read
disjunction-returns-then-not-is_at-clause-read n c = phrases.one_case _ _ _ _ _ c.in_ok-left.ensures.read (not_at _ _ c.is_at.ensures c.if-not-is_at.true)

pub disjunction-returns-clause-read : goal.disjunction-returns-clause-read
disjunction-returns-clause-read n c =
    let taken = taken_is _ _ (Symbol Or) _ _ (c.is_at.ensures.0 c.if-not-is_at.false) c.in_ok-place.ensures.taken in
    let P : SyntaxFormula → SyntaxFormula → Type 0 = λ f g. OrRead c.args.depth.level c.args.depth.scope c.args.parts.now.cursor.rest c.disjunction.new.parts.cursor.rest
    (tree.OrTree c.in_ok-place.place (syntax_tree_of f) (syntax_tree_of g)) in
    subst (λ (f : SyntaxFormula). P f c.in_ok-boxed.field-0.value) (sym c.in_ok-left-2.ensures)
    (subst (λ (g : SyntaxFormula). P c.in_ok-left.left g) (sym c.in_ok-boxed.ensures)
    (phrases.disjunction _ _ _ _ _ _ _ _ _ _ c.requires.scope c.deeper.ensures c.in_ok-left.ensures.read taken c.in_ok-right.ensures.read))

pub conjunction-returns-then-not-is_at-clause-read : goal.conjunction-returns-then-not-is_at-clause-read
conjunction-returns-then-not-is_at-clause-read n c = phrases.one_part _ _ _ _ _ c.in_ok-left.ensures.read (not_at _ _ c.is_at.ensures c.if-not-is_at.true)

pub conjunction-returns-clause-read : goal.conjunction-returns-clause-read
conjunction-returns-clause-read n c =
    let taken = taken_is _ _ (Symbol And) _ _ (c.is_at.ensures.0 c.if-not-is_at.false) c.in_ok-place.ensures.taken in
    let P : SyntaxFormula → SyntaxFormula → Type 0 = λ f g. AndRead c.args.depth.level c.args.depth.scope c.args.parts.now.cursor.rest c.conjunction.new.parts.cursor.rest
    (tree.AndTree c.in_ok-place.place (syntax_tree_of f) (syntax_tree_of g)) in
    subst (λ (f : SyntaxFormula). P f c.in_ok-boxed.field-0.value) (sym c.in_ok-left-2.ensures)
    (subst (λ (g : SyntaxFormula). P c.in_ok-left.left g) (sym c.in_ok-boxed.ensures)
    (phrases.conjunction _ _ _ _ _ _ _ _ _ _ c.requires.scope c.deeper.ensures c.in_ok-left.ensures.read taken c.in_ok-right.ensures.read))

pub infix-returns-in_default : goal.infix-returns-in_default
infix-returns-in_default n c = record {
  read = phrases.one_operand _ _ _ _ _ c.in_ok-left.ensures.read (λ operator e. not_infix c.lexeme.result.now c.in_default.not-Infix operator (c.lexeme.ensures ∙ e));
  follows = after _ _ _ _ _ _ (over (stack_item InfixTail c.args.depth.level c.args.depth.scope ∷ []) _ _ _ _ c.in_ok-left.ensures.follows)
      (infix_ends _ _ _ (λ operator e. not_infix c.lexeme.result.now c.in_default.not-Infix operator (c.lexeme.ensures ∙ e)));
}

pub infix-returns-clause-read : goal.infix-returns-clause-read
infix-returns-clause-read n c =
    let taken = taken_is _ _ (Infix c.in-Infix.operator) _ _ (sym c.lexeme.ensures ∙ ap lexeme_of c.in-Infix.is) c.in_ok-place.ensures.taken in
    let P : SyntaxTree → Type 0 = λ f. InfixRead c.args.depth.level c.args.depth.scope c.args.parts.now.cursor.rest c.unary-2.new.parts.cursor.rest f in
    subst P (sym c.in_ok-formula.ensures)
    (phrases.between _ _ _ _ _ _ _ _ _ _ _ _ c.interval.new.self.cursor c.requires.scope c.deeper.ensures c.in_ok-left.ensures.read taken c.in_ok-interval.ensures.read c.in_ok-right.ensures.read)

pub negation-returns-clause-read : goal.negation-returns-clause-read
negation-returns-clause-read n c =
    let taken = taken_is _ _ (Symbol Not) _ _ c.requires.at c.in_ok-place.ensures.taken in
    let P : SyntaxFormula → Type 0 = λ f. UnaryRead c.args.depth.level c.args.depth.scope c.args.parts.now.cursor.rest c.unary.new.parts.cursor.rest
    (tree.NotTree c.in_ok-place.place (syntax_tree_of f)) in
    subst P (sym c.in_ok-boxed.ensures) (phrases.negation _ _ _ _ _ _ _ _ c.requires.scope c.deeper.ensures taken c.in_ok-operand.ensures.read)

pub prefixed-returns-clause-read : goal.prefixed-returns-clause-read
prefixed-returns-clause-read n c =
    let taken = taken_is _ _ (Prefix c.args.operator) _ _ c.requires.at c.in_ok-place.ensures.taken in
    let P : SyntaxTree → Type 0 = λ f. UnaryRead c.args.depth.level c.args.depth.scope c.args.parts.now.cursor.rest c.unary.new.parts.cursor.rest f in
    let Q : SyntaxFormula → Type 0 = λ f. P (prefix_tree c.args.operator c.in_ok-place.place c.in_ok-interval.interval (syntax_tree_of f)) in
    subst P (sym c.with_prefix.ensures)
    (subst Q (sym c.in_ok-operand-2.ensures)
    (phrases.before_operand _ _ _ _ _ _ _ _ _ _ _ c.interval.new.self.cursor c.requires.scope c.deeper.ensures c.deeper-2.ensures taken c.in_ok-interval.ensures.read c.in_ok-operand.ensures.read))

pub quantified-returns-clause-read : goal.quantified-returns-clause-read
quantified-returns-clause-read n c =
    let taken = taken_is _ _ (Quantifier c.args.quantifier) _ _ c.requires.at c.in_ok-place.ensures.taken in
    let few : c.args.depth.scope + length c.in_ok-bindings.bindings ≤ MOST_VARIABLES = subst (λ (d : Depth). d.scope + length c.in_ok-bindings.bindings ≤ MOST_VARIABLES)
    c.deeper.ensures c.in_ok-bindings.ensures.scope in
    let inner : c.with_variables-inner.result ≡ phrases.deep c.args.depth.level (c.args.depth.scope + length c.in_ok-bindings.bindings) =
    c.with_variables-inner.ensures ∙ phrases.with_variables c.deeper-2.result (phrases.deep c.args.depth.level c.args.depth.scope) c.len.result (length c.in_ok-bindings.bindings)
    c.deeper-2.ensures c.len.ensures in
    let P : SyntaxTree → Type 0 = λ f. UnaryRead c.args.depth.level c.args.depth.scope c.args.parts.now.cursor.rest c.formula.new.parts.cursor.rest f in
    let Q : SyntaxFormula → Type 0 = λ f. P (quantifier_tree c.args.quantifier c.in_ok-place.place c.in_ok-bindings.bindings (syntax_tree_of f)) in
    subst P (sym c.with_quantifier.ensures)
    (subst Q (sym c.in_ok-operand-2.ensures)
    (phrases.quantified _ _ _ _ _ _ _ _ _ _ _ _ c.bindings.new.self.cursor _ c.requires.scope few c.deeper.ensures inner taken c.in_ok-bindings.ensures.read
    c.in_ok-take_symbol.ensures.taken c.in_ok-operand.ensures.read))

pub parenthesis-returns-clause-read : goal.parenthesis-returns-clause-read
parenthesis-returns-clause-read n c =
    phrases.parenthesis _ _ _ _ _ _ _ _ _ _ c.requires.scope c.deeper.ensures c.in_ok-take_symbol.ensures.taken c.in_ok-inner.ensures.read c.in_ok-take_symbol-2.ensures.taken

pub unary-bare-requires-clause-at : goal.unary-bare-requires-clause-at
unary-bare-requires-clause-at n c =
    let P : PolicyLexeme → Type 0 = λ x. begins_inner x ≡ false in
    subst P c.lexeme.ensures (not_inner _ (λ e. not_at _ _ c.is_at.ensures c.if-is_at.false (sym c.lexeme.ensures ∙ e))
    (λ e. not_at _ _ c.is_at-2.ensures c.if-is_at-2.false (sym c.lexeme.ensures ∙ e)) c.in_default.not-Prefix c.in_default.not-Quantifier)

pub unary-returns-in_default-clause-read : goal.unary-returns-in_default-clause-read
unary-returns-in_default-clause-read n c =
    let P : SyntaxFormula → Type 0 = λ f. PrimaryRead c.args.depth.level c.args.depth.scope c.args.parts.now.cursor.rest c.bare.new.parts.cursor.rest (syntax_tree_of f) in
    let Q : SyntaxFormula → Type 0 = λ f. UnaryRead c.args.depth.level c.args.depth.scope c.args.parts.now.cursor.rest c.bare.new.parts.cursor.rest (syntax_tree_of f) in
    if_ok_map {P = P} {Q = Q} _ (λ f read. phrases.primary _ _ _ _ _ read) c.bare.ensures.read

pub formula-returns-in_err-left-clause-follows : goal.formula-returns-in_err-left-clause-follows
formula-returns-in_err-left-clause-follows n c =
    follows_err _ _ _ _ _ _ c.from_residual.ensures.1 (refused_over (stack_item ArrowTail c.args.depth.level c.args.depth.scope ∷ []) _ _ _ c.in_err-left.ensures.follows)

pub formula-returns-then-not-is_at-clause-follows : goal.formula-returns-then-not-is_at-clause-follows
formula-returns-then-not-is_at-clause-follows n c =
    let f1 = over (stack_item ArrowTail c.args.depth.level c.args.depth.scope ∷ []) _ _ _ _ c.in_ok-left.ensures.follows in
    after _ _ _ _ _ _ f1 (arrow_ends _ _ _ (not_at _ _ c.is_at.ensures c.if-not-is_at.true))

pub formula-returns-in_err-place-clause-follows : goal.formula-returns-in_err-place-clause-follows
formula-returns-in_err-place-clause-follows n c =
    let f1 = over (stack_item ArrowTail c.args.depth.level c.args.depth.scope ∷ []) _ _ _ _ c.in_ok-left.ensures.follows in
    let at = c.is_at.ensures.0 c.if-not-is_at.false in
    follows_err _ _ _ _ _ _ c.from_residual-in_err-place.ensures.1 (refused_after _ _ _ _ _ f1
    (operator_barred _ _ _ _ _ _ _ (arrow_is c.args.depth.level c.args.depth.scope) at c.in_err-place.ensures.barred))

pub formula-returns-in_err-right-clause-follows : goal.formula-returns-in_err-right-clause-follows
formula-returns-in_err-right-clause-follows n c =
    let f1 = over (stack_item ArrowTail c.args.depth.level c.args.depth.scope ∷ []) _ _ _ _ c.in_ok-left.ensures.follows in
    let at = c.is_at.ensures.0 c.if-not-is_at.false in
    let f2 = after _ _ _ _ _ _ f1 (operator_taken _ _ _ _ _ _ _ _ (arrow_is c.args.depth.level c.args.depth.scope) c.requires.scope at c.in_ok-place.ensures.taken
    c.in_ok-place.ensures.nodes c.in_ok-place.ensures.few) in
    let f3 = subst (λ (d : Depth). Continues (formula_on c.args.depth.level c.args.depth.scope []) (formula_on d.level d.scope []) c.args.parts.now c.take_node.new.self) (sym c.deeper.ensures) f2 in
    follows_err _ _ _ _ _ _ c.from_residual-in_err-right.ensures.1 (refused_after _ _ _ _ _ f3 c.in_err-right.ensures.follows)

pub formula-returns-in_err-left-2-clause-follows : goal.formula-returns-in_err-left-2-clause-follows
formula-returns-in_err-left-2-clause-follows n c =
    follows_no_memory _ _ _ _ _ c.from_residual-in_err-left-2.ensures.1

pub formula-returns-in_err-boxed-clause-follows : goal.formula-returns-in_err-boxed-clause-follows
formula-returns-in_err-boxed-clause-follows n c =
    follows_no_memory _ _ _ _ _ c.from_residual-in_err-boxed.ensures.1

pub formula-returns-clause-follows : goal.formula-returns-clause-follows
formula-returns-clause-follows n c =
    let f1 = over (stack_item ArrowTail c.args.depth.level c.args.depth.scope ∷ []) _ _ _ _ c.in_ok-left.ensures.follows in
    let at = c.is_at.ensures.0 c.if-not-is_at.false in
    let f2 = after _ _ _ _ _ _ f1 (operator_taken _ _ _ _ _ _ _ _ (arrow_is c.args.depth.level c.args.depth.scope) c.requires.scope at c.in_ok-place.ensures.taken
    c.in_ok-place.ensures.nodes c.in_ok-place.ensures.few) in
    let f3 = subst (λ (d : Depth). Continues (formula_on c.args.depth.level c.args.depth.scope []) (formula_on d.level d.scope []) c.args.parts.now c.take_node.new.self) (sym c.deeper.ensures) f2 in
    after _ _ _ _ _ _ f3 c.in_ok-right.ensures.follows

pub disjunction-returns-in_err-left-clause-follows : goal.disjunction-returns-in_err-left-clause-follows
disjunction-returns-in_err-left-clause-follows n c =
    follows_err _ _ _ _ _ _ c.from_residual.ensures.1 (refused_over (stack_item OrTail c.args.depth.level c.args.depth.scope ∷ []) _ _ _ c.in_err-left.ensures.follows)

pub disjunction-returns-then-not-is_at-clause-follows : goal.disjunction-returns-then-not-is_at-clause-follows
disjunction-returns-then-not-is_at-clause-follows n c =
    let f1 = over (stack_item OrTail c.args.depth.level c.args.depth.scope ∷ []) _ _ _ _ c.in_ok-left.ensures.follows in
    after _ _ _ _ _ _ f1 (or_ends _ _ _ (not_at _ _ c.is_at.ensures c.if-not-is_at.true))

pub disjunction-returns-in_err-place-clause-follows : goal.disjunction-returns-in_err-place-clause-follows
disjunction-returns-in_err-place-clause-follows n c =
    let f1 = over (stack_item OrTail c.args.depth.level c.args.depth.scope ∷ []) _ _ _ _ c.in_ok-left.ensures.follows in
    let at = c.is_at.ensures.0 c.if-not-is_at.false in
    follows_err _ _ _ _ _ _ c.from_residual-in_err-place.ensures.1 (refused_after _ _ _ _ _ f1
    (operator_barred _ _ _ _ _ _ _ (or_is c.args.depth.level c.args.depth.scope) at c.in_err-place.ensures.barred))

pub disjunction-returns-in_err-right-clause-follows : goal.disjunction-returns-in_err-right-clause-follows
disjunction-returns-in_err-right-clause-follows n c =
    let f1 = over (stack_item OrTail c.args.depth.level c.args.depth.scope ∷ []) _ _ _ _ c.in_ok-left.ensures.follows in
    let at = c.is_at.ensures.0 c.if-not-is_at.false in
    let f2 = after _ _ _ _ _ _ f1 (operator_taken _ _ _ _ _ _ _ _ (or_is c.args.depth.level c.args.depth.scope) c.requires.scope at c.in_ok-place.ensures.taken c.in_ok-place.ensures.nodes
    c.in_ok-place.ensures.few) in
    let f3 = subst (λ (d : Depth). Continues (or_on c.args.depth.level c.args.depth.scope []) (or_on d.level d.scope []) c.args.parts.now c.take_node.new.self) (sym c.deeper.ensures) f2 in
    follows_err _ _ _ _ _ _ c.from_residual-in_err-right.ensures.1 (refused_after _ _ _ _ _ f3 c.in_err-right.ensures.follows)

pub disjunction-returns-in_err-left-2-clause-follows : goal.disjunction-returns-in_err-left-2-clause-follows
disjunction-returns-in_err-left-2-clause-follows n c =
    follows_no_memory _ _ _ _ _ c.from_residual-in_err-left-2.ensures.1

pub disjunction-returns-in_err-boxed-clause-follows : goal.disjunction-returns-in_err-boxed-clause-follows
disjunction-returns-in_err-boxed-clause-follows n c =
    follows_no_memory _ _ _ _ _ c.from_residual-in_err-boxed.ensures.1

pub disjunction-returns-clause-follows : goal.disjunction-returns-clause-follows
disjunction-returns-clause-follows n c =
    let f1 = over (stack_item OrTail c.args.depth.level c.args.depth.scope ∷ []) _ _ _ _ c.in_ok-left.ensures.follows in
    let at = c.is_at.ensures.0 c.if-not-is_at.false in
    let f2 = after _ _ _ _ _ _ f1 (operator_taken _ _ _ _ _ _ _ _ (or_is c.args.depth.level c.args.depth.scope) c.requires.scope at c.in_ok-place.ensures.taken c.in_ok-place.ensures.nodes
    c.in_ok-place.ensures.few) in
    let f3 = subst (λ (d : Depth). Continues (or_on c.args.depth.level c.args.depth.scope []) (or_on d.level d.scope []) c.args.parts.now c.take_node.new.self) (sym c.deeper.ensures) f2 in
    after _ _ _ _ _ _ f3 c.in_ok-right.ensures.follows

pub conjunction-returns-in_err-left-clause-follows : goal.conjunction-returns-in_err-left-clause-follows
conjunction-returns-in_err-left-clause-follows n c =
    follows_err _ _ _ _ _ _ c.from_residual.ensures.1 (refused_over (stack_item AndTail c.args.depth.level c.args.depth.scope ∷ []) _ _ _ c.in_err-left.ensures.follows)

pub conjunction-returns-then-not-is_at-clause-follows : goal.conjunction-returns-then-not-is_at-clause-follows
conjunction-returns-then-not-is_at-clause-follows n c =
    let f1 = over (stack_item AndTail c.args.depth.level c.args.depth.scope ∷ []) _ _ _ _ c.in_ok-left.ensures.follows in
    after _ _ _ _ _ _ f1 (and_ends _ _ _ (not_at _ _ c.is_at.ensures c.if-not-is_at.true))

pub conjunction-returns-in_err-place-clause-follows : goal.conjunction-returns-in_err-place-clause-follows
conjunction-returns-in_err-place-clause-follows n c =
    let f1 = over (stack_item AndTail c.args.depth.level c.args.depth.scope ∷ []) _ _ _ _ c.in_ok-left.ensures.follows in
    let at = c.is_at.ensures.0 c.if-not-is_at.false in
    follows_err _ _ _ _ _ _ c.from_residual-in_err-place.ensures.1 (refused_after _ _ _ _ _ f1
    (operator_barred _ _ _ _ _ _ _ (and_is c.args.depth.level c.args.depth.scope) at c.in_err-place.ensures.barred))

pub conjunction-returns-in_err-right-clause-follows : goal.conjunction-returns-in_err-right-clause-follows
conjunction-returns-in_err-right-clause-follows n c =
    let f1 = over (stack_item AndTail c.args.depth.level c.args.depth.scope ∷ []) _ _ _ _ c.in_ok-left.ensures.follows in
    let at = c.is_at.ensures.0 c.if-not-is_at.false in
    let f2 = after _ _ _ _ _ _ f1 (operator_taken _ _ _ _ _ _ _ _ (and_is c.args.depth.level c.args.depth.scope) c.requires.scope at c.in_ok-place.ensures.taken c.in_ok-place.ensures.nodes
    c.in_ok-place.ensures.few) in
    let f3 = subst (λ (d : Depth). Continues (and_on c.args.depth.level c.args.depth.scope []) (and_on d.level d.scope []) c.args.parts.now c.take_node.new.self) (sym c.deeper.ensures) f2 in
    follows_err _ _ _ _ _ _ c.from_residual-in_err-right.ensures.1 (refused_after _ _ _ _ _ f3 c.in_err-right.ensures.follows)

pub conjunction-returns-in_err-left-2-clause-follows : goal.conjunction-returns-in_err-left-2-clause-follows
conjunction-returns-in_err-left-2-clause-follows n c =
    follows_no_memory _ _ _ _ _ c.from_residual-in_err-left-2.ensures.1

pub conjunction-returns-in_err-boxed-clause-follows : goal.conjunction-returns-in_err-boxed-clause-follows
conjunction-returns-in_err-boxed-clause-follows n c =
    follows_no_memory _ _ _ _ _ c.from_residual-in_err-boxed.ensures.1

pub conjunction-returns-clause-follows : goal.conjunction-returns-clause-follows
conjunction-returns-clause-follows n c =
    let f1 = over (stack_item AndTail c.args.depth.level c.args.depth.scope ∷ []) _ _ _ _ c.in_ok-left.ensures.follows in
    let at = c.is_at.ensures.0 c.if-not-is_at.false in
    let f2 = after _ _ _ _ _ _ f1 (operator_taken _ _ _ _ _ _ _ _ (and_is c.args.depth.level c.args.depth.scope) c.requires.scope at c.in_ok-place.ensures.taken c.in_ok-place.ensures.nodes
    c.in_ok-place.ensures.few) in
    let f3 = subst (λ (d : Depth). Continues (and_on c.args.depth.level c.args.depth.scope []) (and_on d.level d.scope []) c.args.parts.now c.take_node.new.self) (sym c.deeper.ensures) f2 in
    after _ _ _ _ _ _ f3 c.in_ok-right.ensures.follows

pub infix-returns-in_err-left-clause-follows : goal.infix-returns-in_err-left-clause-follows
infix-returns-in_err-left-clause-follows n c =
    follows_err _ _ _ _ _ _ c.from_residual.ensures.1 (refused_over (stack_item InfixTail c.args.depth.level c.args.depth.scope ∷ []) _ _ _ c.in_err-left.ensures.follows)

pub infix-returns-in_err-place-clause-follows : goal.infix-returns-in_err-place-clause-follows
infix-returns-in_err-place-clause-follows n c =
    let f1 = over (stack_item InfixTail c.args.depth.level c.args.depth.scope ∷ []) _ _ _ _ c.in_ok-left.ensures.follows in
    let at = sym c.lexeme.ensures ∙ ap lexeme_of c.in-Infix.is in
    follows_err _ _ _ _ _ _ c.from_residual-in_err-place.ensures.1 (refused_after _ _ _ _ _ f1
    (operator_barred _ _ _ _ _ _ _ (infix_is c.in-Infix.operator c.args.depth.level c.args.depth.scope) at c.in_err-place.ensures.barred))

pub infix-returns-in_err-interval-clause-follows : goal.infix-returns-in_err-interval-clause-follows
infix-returns-in_err-interval-clause-follows n c =
    let f1 = over (stack_item InfixTail c.args.depth.level c.args.depth.scope ∷ []) _ _ _ _ c.in_ok-left.ensures.follows in
    let at = sym c.lexeme.ensures ∙ ap lexeme_of c.in-Infix.is in
    let f2 = after _ _ _ _ _ _ f1 (operator_taken _ _ _ _ _ _ _ _ (infix_is c.in-Infix.operator c.args.depth.level c.args.depth.scope) c.requires.scope at c.in_ok-place.ensures.taken
    c.in_ok-place.ensures.nodes c.in_ok-place.ensures.few) in
    follows_err _ _ _ _ _ _ c.from_residual-in_err-interval.ensures.1 (refused_after _ _ _ _ _ f2 (c.in_err-interval.ensures.follows (c.args.depth.level + 1)))

pub infix-returns-in_err-right-clause-follows : goal.infix-returns-in_err-right-clause-follows
infix-returns-in_err-right-clause-follows n c =
    let f1 = over (stack_item InfixTail c.args.depth.level c.args.depth.scope ∷ []) _ _ _ _ c.in_ok-left.ensures.follows in
    let at = sym c.lexeme.ensures ∙ ap lexeme_of c.in-Infix.is in
    let f2 = after _ _ _ _ _ _ f1 (operator_taken _ _ _ _ _ _ _ _ (infix_is c.in-Infix.operator c.args.depth.level c.args.depth.scope) c.requires.scope at c.in_ok-place.ensures.taken
    c.in_ok-place.ensures.nodes c.in_ok-place.ensures.few) in
    let f3 = after _ _ _ _ _ _ f2 (c.in_ok-interval.ensures.follows (c.args.depth.level + 1)) in
    let f4 = subst (λ (d : Depth). Continues (infix_on c.args.depth.level c.args.depth.scope []) (stack_item Operand d.level d.scope ∷ []) c.args.parts.now c.interval.new.self)
    (sym c.deeper.ensures) f3 in
    follows_err _ _ _ _ _ _ c.from_residual-in_err-right.ensures.1 (refused_after _ _ _ _ _ f4 c.in_err-right.ensures.follows)

pub infix-returns-in_err-formula-clause-follows : goal.infix-returns-in_err-formula-clause-follows
infix-returns-in_err-formula-clause-follows n c =
    follows_no_memory _ _ _ _ _ c.from_residual-in_err-formula.ensures.1

pub infix-returns-clause-follows : goal.infix-returns-clause-follows
infix-returns-clause-follows n c =
    let f1 = over (stack_item InfixTail c.args.depth.level c.args.depth.scope ∷ []) _ _ _ _ c.in_ok-left.ensures.follows in
    let at = sym c.lexeme.ensures ∙ ap lexeme_of c.in-Infix.is in
    let f2 = after _ _ _ _ _ _ f1 (operator_taken _ _ _ _ _ _ _ _ (infix_is c.in-Infix.operator c.args.depth.level c.args.depth.scope) c.requires.scope at c.in_ok-place.ensures.taken
    c.in_ok-place.ensures.nodes c.in_ok-place.ensures.few) in
    let f3 = after _ _ _ _ _ _ f2 (c.in_ok-interval.ensures.follows (c.args.depth.level + 1)) in
    let f4 = subst (λ (d : Depth). Continues (infix_on c.args.depth.level c.args.depth.scope []) (stack_item Operand d.level d.scope ∷ []) c.args.parts.now c.interval.new.self)
    (sym c.deeper.ensures) f3 in
    after _ _ _ _ _ _ f4 c.in_ok-right.ensures.follows

pub negation-returns-in_err-place-clause-follows : goal.negation-returns-in_err-place-clause-follows
negation-returns-in_err-place-clause-follows n c =
    follows_err _ _ _ _ _ _ c.from_residual.ensures.1 (operator_barred _ _ _ _ _ _ _ (not_is c.args.depth.level c.args.depth.scope) c.requires.at c.in_err-place.ensures.barred)

pub negation-returns-in_err-operand-clause-follows : goal.negation-returns-in_err-operand-clause-follows
negation-returns-in_err-operand-clause-follows n c =
    let f1 = operator_taken _ _ _ _ _ _ _ _ (not_is c.args.depth.level c.args.depth.scope) c.requires.scope c.requires.at c.in_ok-place.ensures.taken c.in_ok-place.ensures.nodes
    c.in_ok-place.ensures.few in
    let f2 = subst (λ (d : Depth). Continues (stack_item Operand c.args.depth.level c.args.depth.scope ∷ []) (stack_item Operand d.level d.scope ∷ []) c.args.parts.now
    c.take_node.new.self) (sym c.deeper.ensures) f1 in
    follows_err _ _ _ _ _ _ c.from_residual-in_err-operand.ensures.1 (refused_after _ _ _ _ _ f2 c.in_err-operand.ensures.follows)

pub negation-returns-in_err-boxed-clause-follows : goal.negation-returns-in_err-boxed-clause-follows
negation-returns-in_err-boxed-clause-follows n c =
    follows_no_memory _ _ _ _ _ c.from_residual-in_err-boxed.ensures.1

pub negation-returns-clause-follows : goal.negation-returns-clause-follows
negation-returns-clause-follows n c =
    let f1 = operator_taken _ _ _ _ _ _ _ _ (not_is c.args.depth.level c.args.depth.scope) c.requires.scope c.requires.at c.in_ok-place.ensures.taken c.in_ok-place.ensures.nodes
    c.in_ok-place.ensures.few in
    let f2 = subst (λ (d : Depth). Continues (stack_item Operand c.args.depth.level c.args.depth.scope ∷ []) (stack_item Operand d.level d.scope ∷ []) c.args.parts.now
    c.take_node.new.self) (sym c.deeper.ensures) f1 in
    after _ _ _ _ _ _ f2 c.in_ok-operand.ensures.follows

pub prefixed-returns-in_err-place-clause-follows : goal.prefixed-returns-in_err-place-clause-follows
prefixed-returns-in_err-place-clause-follows n c =
    follows_err _ _ _ _ _ _ c.from_residual.ensures.1 (operator_barred _ _ _ _ _ _ _ (prefix_is c.args.operator c.args.depth.level c.args.depth.scope) c.requires.at c.in_err-place.ensures.barred)

pub prefixed-returns-in_err-interval-clause-follows : goal.prefixed-returns-in_err-interval-clause-follows
prefixed-returns-in_err-interval-clause-follows n c =
    let f1 = operator_taken _ _ _ _ _ _ _ _ (prefix_is c.args.operator c.args.depth.level c.args.depth.scope) c.requires.scope c.requires.at c.in_ok-place.ensures.taken
    c.in_ok-place.ensures.nodes c.in_ok-place.ensures.few in
    let f2 = subst (λ (d : Depth). Continues (stack_item Operand c.args.depth.level c.args.depth.scope ∷ []) (stack_item (OpenInterval (c.args.depth.level + 1)) d.level d.scope ∷ [])
    c.args.parts.now c.take_node.new.self) (sym c.deeper.ensures) f1 in
    follows_err _ _ _ _ _ _ c.from_residual-in_err-interval.ensures.1 (refused_after _ _ _ _ _ f2 (c.in_err-interval.ensures.follows (c.args.depth.level + 1)))

pub prefixed-returns-in_err-operand-clause-follows : goal.prefixed-returns-in_err-operand-clause-follows
prefixed-returns-in_err-operand-clause-follows n c =
    let f1 = operator_taken _ _ _ _ _ _ _ _ (prefix_is c.args.operator c.args.depth.level c.args.depth.scope) c.requires.scope c.requires.at c.in_ok-place.ensures.taken
    c.in_ok-place.ensures.nodes c.in_ok-place.ensures.few in
    let f2 = subst (λ (d : Depth). Continues (stack_item Operand c.args.depth.level c.args.depth.scope ∷ []) (stack_item (OpenInterval (c.args.depth.level + 1)) d.level d.scope ∷ [])
    c.args.parts.now c.take_node.new.self) (sym c.deeper.ensures) f1 in
    let f3 = after _ _ _ _ _ _ f2 (c.in_ok-interval.ensures.follows (c.args.depth.level + 1)) in
    let same : stack_item Operand (c.args.depth.level + 1) c.deeper.result.scope ≡ stack_item Operand c.deeper-2.result.level c.deeper-2.result.scope = ap
    (λ (d : Depth). stack_item Operand (c.args.depth.level + 1) d.scope) c.deeper.ensures ∙ ap (λ (d : Depth). stack_item Operand d.level d.scope) (sym c.deeper-2.ensures) in
    let f4 = subst (λ (i : StackItem). Continues (stack_item Operand c.args.depth.level c.args.depth.scope ∷ []) (i ∷ []) c.args.parts.now c.interval.new.self) same f3 in
    follows_err _ _ _ _ _ _ c.from_residual-in_err-operand.ensures.1 (refused_after _ _ _ _ _ f4 c.in_err-operand.ensures.follows)

pub prefixed-returns-in_err-operand-2-clause-follows : goal.prefixed-returns-in_err-operand-2-clause-follows
prefixed-returns-in_err-operand-2-clause-follows n c =
    follows_no_memory _ _ _ _ _ c.from_residual-in_err-operand-2.ensures.1

pub prefixed-returns-clause-follows : goal.prefixed-returns-clause-follows
prefixed-returns-clause-follows n c =
    let f1 = operator_taken _ _ _ _ _ _ _ _ (prefix_is c.args.operator c.args.depth.level c.args.depth.scope) c.requires.scope c.requires.at c.in_ok-place.ensures.taken
    c.in_ok-place.ensures.nodes c.in_ok-place.ensures.few in
    let f2 = subst (λ (d : Depth). Continues (stack_item Operand c.args.depth.level c.args.depth.scope ∷ []) (stack_item (OpenInterval (c.args.depth.level + 1)) d.level d.scope ∷ [])
    c.args.parts.now c.take_node.new.self) (sym c.deeper.ensures) f1 in
    let f3 = after _ _ _ _ _ _ f2 (c.in_ok-interval.ensures.follows (c.args.depth.level + 1)) in
    let same : stack_item Operand (c.args.depth.level + 1) c.deeper.result.scope ≡ stack_item Operand c.deeper-2.result.level c.deeper-2.result.scope = ap
    (λ (d : Depth). stack_item Operand (c.args.depth.level + 1) d.scope) c.deeper.ensures ∙ ap (λ (d : Depth). stack_item Operand d.level d.scope) (sym c.deeper-2.ensures) in
    let f4 = subst (λ (i : StackItem). Continues (stack_item Operand c.args.depth.level c.args.depth.scope ∷ []) (i ∷ []) c.args.parts.now c.interval.new.self) same f3 in
    after _ _ _ _ _ _ f4 c.in_ok-operand.ensures.follows

pub quantified-returns-in_err-place-clause-follows : goal.quantified-returns-in_err-place-clause-follows
quantified-returns-in_err-place-clause-follows n c =
    follows_err _ _ _ _ _ _ c.from_residual.ensures.1 (operator_barred _ _ _ _ _ _ _ (quantifier_is c.args.quantifier c.args.depth.level c.args.depth.scope) c.requires.at
    c.in_err-place.ensures.barred)

pub quantified-returns-in_err-bindings-clause-follows : goal.quantified-returns-in_err-bindings-clause-follows
quantified-returns-in_err-bindings-clause-follows n c =
    let f1 = operator_taken _ _ _ _ _ _ _ _ (quantifier_is c.args.quantifier c.args.depth.level c.args.depth.scope) c.requires.scope c.requires.at c.in_ok-place.ensures.taken
    c.in_ok-place.ensures.nodes c.in_ok-place.ensures.few in
    let f2 = subst (λ (d : Depth). Continues (stack_item Operand c.args.depth.level c.args.depth.scope ∷ []) (stack_item BoundVariable d.level (d.scope + 1) ∷ []) c.args.parts.now
    c.take_node.new.self) (sym c.deeper.ensures) f1 in
    follows_err _ _ _ _ _ _ c.from_residual-in_err-bindings.ensures.1 (refused_after _ _ _ _ _ f2 c.in_err-bindings.ensures.refused)

pub quantified-returns-in_err-take_symbol-clause-follows : goal.quantified-returns-in_err-take_symbol-clause-follows
quantified-returns-in_err-take_symbol-clause-follows n c =
    let f1 = operator_taken _ _ _ _ _ _ _ _ (quantifier_is c.args.quantifier c.args.depth.level c.args.depth.scope) c.requires.scope c.requires.at c.in_ok-place.ensures.taken
    c.in_ok-place.ensures.nodes c.in_ok-place.ensures.few in
    let f2 = subst (λ (d : Depth). Continues (stack_item Operand c.args.depth.level c.args.depth.scope ∷ []) (stack_item BoundVariable d.level (d.scope + 1) ∷ []) c.args.parts.now
    c.take_node.new.self) (sym c.deeper.ensures) f1 in
    let f3 = after _ _ _ _ _ _ f2 c.in_ok-bindings.ensures.follows in
    let inner : c.with_variables-inner.result ≡ phrases.the_depth c.deeper.result.level (c.deeper.result.scope + length c.in_ok-bindings.bindings) =
    c.with_variables-inner.ensures ∙ phrases.with_variables c.deeper-2.result c.deeper.result c.len.result (length c.in_ok-bindings.bindings) (c.deeper-2.ensures ∙ sym c.deeper.ensures)
    c.len.ensures in
    let f4 = subst (λ (d : Depth). Continues (stack_item Operand c.args.depth.level c.args.depth.scope ∷ []) (stack_item BehindVariable d.level d.scope ∷ []) c.args.parts.now
    c.bindings.new.self) (sym inner) f3 in
    follows_err _ _ _ _ _ _ c.from_residual-in_err-take_symbol.ensures.1 (refused_after _ _ _ _ _ f4 (dot_barred _ _ _ _ c.in_ok-bindings.ensures.ends c.in_err-take_symbol.ensures.barred))

pub quantified-returns-in_err-operand-clause-follows : goal.quantified-returns-in_err-operand-clause-follows
quantified-returns-in_err-operand-clause-follows n c =
    let f1 = operator_taken _ _ _ _ _ _ _ _ (quantifier_is c.args.quantifier c.args.depth.level c.args.depth.scope) c.requires.scope c.requires.at c.in_ok-place.ensures.taken
    c.in_ok-place.ensures.nodes c.in_ok-place.ensures.few in
    let f2 = subst (λ (d : Depth). Continues (stack_item Operand c.args.depth.level c.args.depth.scope ∷ []) (stack_item BoundVariable d.level (d.scope + 1) ∷ []) c.args.parts.now
    c.take_node.new.self) (sym c.deeper.ensures) f1 in
    let f3 = after _ _ _ _ _ _ f2 c.in_ok-bindings.ensures.follows in
    let inner : c.with_variables-inner.result ≡ phrases.the_depth c.deeper.result.level (c.deeper.result.scope + length c.in_ok-bindings.bindings) =
    c.with_variables-inner.ensures ∙ phrases.with_variables c.deeper-2.result c.deeper.result c.len.result (length c.in_ok-bindings.bindings) (c.deeper-2.ensures ∙ sym c.deeper.ensures)
    c.len.ensures in
    let f4 = subst (λ (d : Depth). Continues (stack_item Operand c.args.depth.level c.args.depth.scope ∷ []) (stack_item BehindVariable d.level d.scope ∷ []) c.args.parts.now
    c.bindings.new.self) (sym inner) f3 in
    let few : c.with_variables-inner.result.scope ≤ MOST_VARIABLES = subst (λ (d : Depth). d.scope ≤ MOST_VARIABLES) (sym inner) c.in_ok-bindings.ensures.scope in
    let f5 = after _ _ _ _ _ _ f4 (mark_taken _ _ _ _ _ _ _ _ (dot c.with_variables-inner.result.level c.with_variables-inner.result.scope) few c.in_ok-take_symbol.ensures.taken
    c.in_ok-take_symbol.ensures.nodes) in
    follows_err _ _ _ _ _ _ c.from_residual-in_err-operand.ensures.1 (refused_after _ _ _ _ _ f5 c.in_err-operand.ensures.follows)

pub quantified-returns-in_err-operand-2-clause-follows : goal.quantified-returns-in_err-operand-2-clause-follows
quantified-returns-in_err-operand-2-clause-follows n c =
    follows_no_memory _ _ _ _ _ c.from_residual-in_err-operand-2.ensures.1

pub quantified-returns-clause-follows : goal.quantified-returns-clause-follows
quantified-returns-clause-follows n c =
    let f1 = operator_taken _ _ _ _ _ _ _ _ (quantifier_is c.args.quantifier c.args.depth.level c.args.depth.scope) c.requires.scope c.requires.at c.in_ok-place.ensures.taken
    c.in_ok-place.ensures.nodes c.in_ok-place.ensures.few in
    let f2 = subst (λ (d : Depth). Continues (stack_item Operand c.args.depth.level c.args.depth.scope ∷ []) (stack_item BoundVariable d.level (d.scope + 1) ∷ []) c.args.parts.now
    c.take_node.new.self) (sym c.deeper.ensures) f1 in
    let f3 = after _ _ _ _ _ _ f2 c.in_ok-bindings.ensures.follows in
    let inner : c.with_variables-inner.result ≡ phrases.the_depth c.deeper.result.level (c.deeper.result.scope + length c.in_ok-bindings.bindings) =
    c.with_variables-inner.ensures ∙ phrases.with_variables c.deeper-2.result c.deeper.result c.len.result (length c.in_ok-bindings.bindings) (c.deeper-2.ensures ∙ sym c.deeper.ensures)
    c.len.ensures in
    let f4 = subst (λ (d : Depth). Continues (stack_item Operand c.args.depth.level c.args.depth.scope ∷ []) (stack_item BehindVariable d.level d.scope ∷ []) c.args.parts.now
    c.bindings.new.self) (sym inner) f3 in
    let few : c.with_variables-inner.result.scope ≤ MOST_VARIABLES = subst (λ (d : Depth). d.scope ≤ MOST_VARIABLES) (sym inner) c.in_ok-bindings.ensures.scope in
    let f5 = after _ _ _ _ _ _ f4 (mark_taken _ _ _ _ _ _ _ _ (dot c.with_variables-inner.result.level c.with_variables-inner.result.scope) few c.in_ok-take_symbol.ensures.taken
    c.in_ok-take_symbol.ensures.nodes) in
    after _ _ _ _ _ _ f5 c.in_ok-operand.ensures.follows

pub parenthesis-returns-in_err-take_symbol-clause-follows : goal.parenthesis-returns-in_err-take_symbol-clause-follows
parenthesis-returns-in_err-take_symbol-clause-follows n c =
    follows_err _ _ _ _ _ _ c.from_residual.ensures.1 (mark_stops _ _ _ _ _ _ _ (open_paren c.args.depth.level c.args.depth.scope) c.requires.at c.in_err-take_symbol.ensures.barred)

pub parenthesis-returns-in_err-inner-clause-follows : goal.parenthesis-returns-in_err-inner-clause-follows
parenthesis-returns-in_err-inner-clause-follows n c =
    let f1 = mark_taken _ _ _ _ _ _ _ _ (open_paren c.args.depth.level c.args.depth.scope) c.requires.scope c.in_ok-take_symbol.ensures.taken c.in_ok-take_symbol.ensures.nodes in
    let f2 = subst (λ (d : Depth). Continues (stack_item Operand c.args.depth.level c.args.depth.scope ∷ [])
    (formula_on d.level d.scope (stack_item ParenthesisEnd (c.args.depth.level + 1) c.args.depth.scope ∷ [])) c.args.parts.now c.take_symbol.new.self) (sym c.deeper.ensures) f1 in
    follows_err _ _ _ _ _ _ c.from_residual-in_err-inner.ensures.1 (refused_then (formula_on c.deeper.result.level c.deeper.result.scope [])
    (stack_item ParenthesisEnd (c.args.depth.level + 1) c.args.depth.scope ∷ []) _ _ _ _ c.in_err-inner.ensures.follows f2)

pub parenthesis-returns-in_err-take_symbol-2-clause-follows : goal.parenthesis-returns-in_err-take_symbol-2-clause-follows
parenthesis-returns-in_err-take_symbol-2-clause-follows n c =
    let f1 = mark_taken _ _ _ _ _ _ _ _ (open_paren c.args.depth.level c.args.depth.scope) c.requires.scope c.in_ok-take_symbol.ensures.taken c.in_ok-take_symbol.ensures.nodes in
    let f2 = subst (λ (d : Depth). Continues (stack_item Operand c.args.depth.level c.args.depth.scope ∷ [])
    (formula_on d.level d.scope (stack_item ParenthesisEnd (c.args.depth.level + 1) c.args.depth.scope ∷ [])) c.args.parts.now c.take_symbol.new.self) (sym c.deeper.ensures) f1 in
    let f3 = and_then (formula_on c.deeper.result.level c.deeper.result.scope []) [] (stack_item ParenthesisEnd (c.args.depth.level + 1) c.args.depth.scope ∷ []) _ _ _ _
    c.in_ok-inner.ensures.follows f2 in
    follows_err _ _ _ _ _ _ c.from_residual-in_err-take_symbol-2.ensures.1 (refused_after _ _ _ _ _ f3
    (mark_barred _ _ _ _ _ _ _ (close_paren (c.args.depth.level + 1) c.args.depth.scope) refl (λ x. refl) (only_close_paren (c.args.depth.level + 1) c.args.depth.scope)
    c.in_err-take_symbol-2.ensures.barred))

pub parenthesis-returns-clause-follows : goal.parenthesis-returns-clause-follows
parenthesis-returns-clause-follows n c =
    let f1 = mark_taken _ _ _ _ _ _ _ _ (open_paren c.args.depth.level c.args.depth.scope) c.requires.scope c.in_ok-take_symbol.ensures.taken c.in_ok-take_symbol.ensures.nodes in
    let f2 = subst (λ (d : Depth). Continues (stack_item Operand c.args.depth.level c.args.depth.scope ∷ [])
    (formula_on d.level d.scope (stack_item ParenthesisEnd (c.args.depth.level + 1) c.args.depth.scope ∷ [])) c.args.parts.now c.take_symbol.new.self) (sym c.deeper.ensures) f1 in
    let f3 = and_then (formula_on c.deeper.result.level c.deeper.result.scope []) [] (stack_item ParenthesisEnd (c.args.depth.level + 1) c.args.depth.scope ∷ []) _ _ _ _
    c.in_ok-inner.ensures.follows f2 in
    after _ _ _ _ _ _ f3 (mark_taken _ _ _ _ _ _ _ _ (close_paren (c.args.depth.level + 1) c.args.depth.scope) c.requires.scope c.in_ok-take_symbol-2.ensures.taken c.in_ok-take_symbol-2.ensures.nodes)
