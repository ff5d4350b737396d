use Rattle.policy_syntax.proofs.RulePhrases.{rule_read}
use Rattle.policy_syntax.proofs.Vocabulary.{◌≡◌, ◌<◌, ◌≤◌, true, false, [], ◌∷◌, ◌++◌, length, Some, refl, sym, ap, ◌∙◌, arith, RuleColon, RuleEnd, formula_on, stack_item, start_stack, next_lexeme_of}
use Rattle.policy_syntax.proofs.Vocabulary.{PolicyLexeme, NameLexeme, next_lexeme, is_name_of, syntax_rule_names, MOST_RULES, MOST_VARIABLES, Parts}
use Rattle.policy_syntax.proofs.FormulaPhrases.{not_at}
use Rattle.policy_syntax.proofs.PartMoves.{mark_barred, mark_taken}
use Rattle.policy_syntax.proofs.RuleMoves.{alone, colon, length_names, only_colon, only_semicolon, refused_alone, rule_barred, rule_err, rule_many, rule_name_barred, rule_name_taken, rule_name_used}
use Rattle.policy_syntax.proofs.RuleMoves.{rule_other, rule_taken, semicolon}
use Rattle.policy_syntax.proofs.AutomatonSteps.{after, and_then, refused_after, refused_then}
use Rattle.policy_syntax.proofs.reader.read_rule.Goals as goal

pub returns-clause-read : goal.returns-clause-read
returns-clause-read c =
    rule_read _ _ _ _ _ _ _ _ _ c.take_symbol-2.new.self.cursor _ _ c.in_ok-place.ensures.taken c.in_ok-name.ensures.taken c.in_ok-take_symbol.ensures.taken c.in_ok-formula.ensures.read
    c.in_ok-take_symbol-2.ensures.taken

pub returns-then-not-is_at-clause-judged : goal.returns-then-not-is_at-clause-judged
returns-then-not-is_at-clause-judged c =
    λ some. rule_other _ _ c.requires (not_at _ _ c.is_at.ensures c.if-not-is_at.true) ∙ ap Some (sym c.syntax.ensures)

pub returns-then-len-ge-MOST_RULES-clause-judged : goal.returns-then-len-ge-MOST_RULES-clause-judged
returns-then-len-ge-MOST_RULES-clause-judged c =
    λ some. rule_many (syntax_rule_names c.args.rules.now) c.args.parts.now (c.is_at.ensures.0 c.if-not-is_at.false)
    (omega (arith, length_names c.args.rules.now, c.len.ensures, c.if-len-ge-MOST_RULES.true)) ∙ ap Some (sym c.limit.ensures)

pub returns-in_err-place-clause-judged : goal.returns-in_err-place-clause-judged
returns-in_err-place-clause-judged c =
    rule_err _ _ _ _ _ c.from_residual.ensures.1 (λ some. rule_barred _ _ _ c.requires c.in_err-place.ensures.barred some)

pub returns-then-is_used-clause-judged : goal.returns-then-is_used-clause-judged
returns-then-is_used-clause-judged c =
    let s1 : Parts = record c.take_symbol.new.self { nodes = 0 } in
    let few : length (syntax_rule_names c.args.rules.now) < MOST_RULES = omega (arith, length_names c.args.rules.now, c.len.ensures, c.if-len-ge-MOST_RULES.false) in
    let e0 = rule_taken (syntax_rule_names c.args.rules.now) _ c.args.parts.now s1 few c.in_ok-place.ensures.taken refl in
    let used : is_name_of (next_lexeme_of s1) c.args.rules.now ≡ true = ap (λ (x : PolicyLexeme). is_name_of x c.args.rules.now) (sym c.lexeme.ensures) ∙ sym c.is_used.ensures ∙ c.if-is_used.true in
    λ some. e0 ∙ rule_name_used c.args.rules.now s1 used ∙ ap Some (sym c.syntax-then-is_used.ensures)

pub returns-in_err-name-clause-judged : goal.returns-in_err-name-clause-judged
returns-in_err-name-clause-judged c =
    let s1 : Parts = record c.take_symbol.new.self { nodes = 0 } in
    let few : length (syntax_rule_names c.args.rules.now) < MOST_RULES = omega (arith, length_names c.args.rules.now, c.len.ensures, c.if-len-ge-MOST_RULES.false) in
    let e0 = rule_taken (syntax_rule_names c.args.rules.now) _ c.args.parts.now s1 few c.in_ok-place.ensures.taken refl in
    let fresh : is_name_of (next_lexeme_of s1) c.args.rules.now ≡ false = ap (λ (x : PolicyLexeme). is_name_of x c.args.rules.now) (sym c.lexeme.ensures) ∙ sym c.is_used.ensures ∙
    c.if-is_used.false in
    rule_err _ _ _ _ _ c.from_residual-in_err-name.ensures.1 (λ some. e0 ∙ rule_name_barred c.args.rules.now s1 _ fresh c.in_err-name.ensures.barred some)

pub returns-in_err-take_symbol-clause-judged : goal.returns-in_err-take_symbol-clause-judged
returns-in_err-take_symbol-clause-judged c =
    let s1 : Parts = record c.take_symbol.new.self { nodes = 0 } in
    let few : length (syntax_rule_names c.args.rules.now) < MOST_RULES = omega (arith, length_names c.args.rules.now, c.len.ensures, c.if-len-ge-MOST_RULES.false) in
    let e0 = rule_taken (syntax_rule_names c.args.rules.now) _ c.args.parts.now s1 few c.in_ok-place.ensures.taken refl in
    let fresh : is_name_of (next_lexeme_of s1) c.args.rules.now ≡ false = ap (λ (x : PolicyLexeme). is_name_of x c.args.rules.now) (sym c.lexeme.ensures) ∙ sym c.is_used.ensures ∙
    c.if-is_used.false in
    let named : next_lexeme_of s1 ≡ NameLexeme c.in_ok-name.name = ap next_lexeme c.in_ok-name.ensures.taken.was in
    let e1 = rule_name_taken c.args.rules.now _ _ s1 c.name.new.self (ap (λ (x : PolicyLexeme). is_name_of x c.args.rules.now) (sym named) ∙ fresh) c.in_ok-name.ensures.short
    c.in_ok-name.ensures.taken c.in_ok-name.ensures.nodes in
    let r = mark_barred _ _ _ _ _ _ _ colon refl (λ x. refl) only_colon c.in_err-take_symbol.ensures.barred in
    rule_err _ _ _ _ _ c.from_residual-in_err-take_symbol.ensures.1 (λ some. e0 ∙ e1 ∙ refused_alone (stack_item RuleColon 0 0 ∷ []) _ _
    (syntax_rule_names c.args.rules.now ++ c.in_ok-name.name ∷ []) r some)

pub returns-in_err-formula-clause-judged : goal.returns-in_err-formula-clause-judged
returns-in_err-formula-clause-judged c =
    let s1 : Parts = record c.take_symbol.new.self { nodes = 0 } in
    let few : length (syntax_rule_names c.args.rules.now) < MOST_RULES = omega (arith, length_names c.args.rules.now, c.len.ensures, c.if-len-ge-MOST_RULES.false) in
    let e0 = rule_taken (syntax_rule_names c.args.rules.now) _ c.args.parts.now s1 few c.in_ok-place.ensures.taken refl in
    let fresh : is_name_of (next_lexeme_of s1) c.args.rules.now ≡ false = ap (λ (x : PolicyLexeme). is_name_of x c.args.rules.now) (sym c.lexeme.ensures) ∙ sym c.is_used.ensures ∙
    c.if-is_used.false in
    let named : next_lexeme_of s1 ≡ NameLexeme c.in_ok-name.name = ap next_lexeme c.in_ok-name.ensures.taken.was in
    let e1 = rule_name_taken c.args.rules.now _ _ s1 c.name.new.self (ap (λ (x : PolicyLexeme). is_name_of x c.args.rules.now) (sym named) ∙ fresh) c.in_ok-name.ensures.short
    c.in_ok-name.ensures.taken c.in_ok-name.ensures.nodes in
    let few_scope : 0 ≤ MOST_VARIABLES = omega arith in
    let f2 = mark_taken _ _ _ _ _ _ _ _ colon few_scope c.in_ok-take_symbol.ensures.taken c.in_ok-take_symbol.ensures.nodes in
    let r = refused_then (formula_on 0 0 []) (stack_item RuleEnd 0 0 ∷ []) _ _ _ _ c.in_err-formula.ensures.follows f2 in
    rule_err _ _ _ _ _ c.from_residual-in_err-formula.ensures.1 (λ some. e0 ∙ e1 ∙ refused_alone (stack_item RuleColon 0 0 ∷ []) _ _
    (syntax_rule_names c.args.rules.now ++ c.in_ok-name.name ∷ []) r some)

pub returns-in_err-take_symbol-2-clause-judged : goal.returns-in_err-take_symbol-2-clause-judged
returns-in_err-take_symbol-2-clause-judged c =
    let s1 : Parts = record c.take_symbol.new.self { nodes = 0 } in
    let few : length (syntax_rule_names c.args.rules.now) < MOST_RULES = omega (arith, length_names c.args.rules.now, c.len.ensures, c.if-len-ge-MOST_RULES.false) in
    let e0 = rule_taken (syntax_rule_names c.args.rules.now) _ c.args.parts.now s1 few c.in_ok-place.ensures.taken refl in
    let fresh : is_name_of (next_lexeme_of s1) c.args.rules.now ≡ false = ap (λ (x : PolicyLexeme). is_name_of x c.args.rules.now) (sym c.lexeme.ensures) ∙ sym c.is_used.ensures ∙
    c.if-is_used.false in
    let named : next_lexeme_of s1 ≡ NameLexeme c.in_ok-name.name = ap next_lexeme c.in_ok-name.ensures.taken.was in
    let e1 = rule_name_taken c.args.rules.now _ _ s1 c.name.new.self (ap (λ (x : PolicyLexeme). is_name_of x c.args.rules.now) (sym named) ∙ fresh) c.in_ok-name.ensures.short
    c.in_ok-name.ensures.taken c.in_ok-name.ensures.nodes in
    let few_scope : 0 ≤ MOST_VARIABLES = omega arith in
    let f2 = mark_taken _ _ _ _ _ _ _ _ colon few_scope c.in_ok-take_symbol.ensures.taken c.in_ok-take_symbol.ensures.nodes in
    let f3 = and_then (formula_on 0 0 []) [] (stack_item RuleEnd 0 0 ∷ []) _ _ _ _ c.in_ok-formula.ensures.follows f2 in
    let r = refused_after _ _ _ _ _ f3 (mark_barred _ _ _ _ _ _ _ semicolon refl (λ x. refl) only_semicolon c.in_err-take_symbol-2.ensures.barred) in
    rule_err _ _ _ _ _ c.from_residual-in_err-take_symbol-2.ensures.1 (λ some. e0 ∙ e1 ∙ refused_alone (stack_item RuleColon 0 0 ∷ []) _ _
    (syntax_rule_names c.args.rules.now ++ c.in_ok-name.name ∷ []) r some)

pub returns-clause-judged : goal.returns-clause-judged
returns-clause-judged c =
    let s1 : Parts = record c.take_symbol.new.self { nodes = 0 } in
    let few : length (syntax_rule_names c.args.rules.now) < MOST_RULES = omega (arith, length_names c.args.rules.now, c.len.ensures, c.if-len-ge-MOST_RULES.false) in
    let e0 = rule_taken (syntax_rule_names c.args.rules.now) _ c.args.parts.now s1 few c.in_ok-place.ensures.taken refl in
    let fresh : is_name_of (next_lexeme_of s1) c.args.rules.now ≡ false = ap (λ (x : PolicyLexeme). is_name_of x c.args.rules.now) (sym c.lexeme.ensures) ∙ sym c.is_used.ensures ∙
    c.if-is_used.false in
    let named : next_lexeme_of s1 ≡ NameLexeme c.in_ok-name.name = ap next_lexeme c.in_ok-name.ensures.taken.was in
    let e1 = rule_name_taken c.args.rules.now _ _ s1 c.name.new.self (ap (λ (x : PolicyLexeme). is_name_of x c.args.rules.now) (sym named) ∙ fresh) c.in_ok-name.ensures.short
    c.in_ok-name.ensures.taken c.in_ok-name.ensures.nodes in
    let few_scope : 0 ≤ MOST_VARIABLES = omega arith in
    let f2 = mark_taken _ _ _ _ _ _ _ _ colon few_scope c.in_ok-take_symbol.ensures.taken c.in_ok-take_symbol.ensures.nodes in
    let f3 = and_then (formula_on 0 0 []) [] (stack_item RuleEnd 0 0 ∷ []) _ _ _ _ c.in_ok-formula.ensures.follows f2 in
    let f4 = after _ _ _ _ _ _ f3 (mark_taken _ _ _ _ _ _ _ _ semicolon few_scope c.in_ok-take_symbol-2.ensures.taken c.in_ok-take_symbol-2.ensures.nodes) in
    e0 ∙ e1 ∙ alone (stack_item RuleColon 0 0 ∷ []) start_stack _ _ (syntax_rule_names c.args.rules.now ++ c.in_ok-name.name ∷ []) f4
