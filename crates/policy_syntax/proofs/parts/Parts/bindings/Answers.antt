use Rattle.policy_syntax.proofs.Vocabulary.{◌≡◌, refl, ◌+◌, length, ℕ, List, [], ◌∷◌, ◌++◌, sym, ap, subst, ◌∙◌, arith, length-append, PolicyLexeme, NameLexeme, Symbol, Ahead, IsLexemeTaken}
use Rattle.policy_syntax.proofs.Vocabulary.{VariablesRead, Comma, Binding, BehindVariable, BoundVariable, stack_item}
use Rattle.policy_syntax.specs.machine.PartOutcomes.{Continues}
use Rattle.policy_syntax.proofs.PartPhrases.{last_variable, next_variable, snoc_append}
use Rattle.policy_syntax.proofs.FormulaPhrases.{not_at}
use Rattle.policy_syntax.proofs.PartMoves.{mark_stops, mark_taken, refuses_no_memory, variable_comma}
use Rattle.policy_syntax.proofs.AutomatonSteps.{after, begins, refused_after, refused_err}
use Rattle.policy_syntax.proofs.parts.Parts.bindings.Invariants.{IsFront}
use Rattle.policy_syntax.proofs.parts.Parts.bindings.Goals as goal

relevel : (a b place : ℕ) (lexeme : PolicyLexeme) (s0 s1 : Ahead) → a ≡ b → IsLexemeTaken a lexeme place s0 s1 → IsLexemeTaken b lexeme place s0 s1
relevel a b place lexeme s0 s1 e t = subst (λ (level : ℕ). IsLexemeTaken level lexeme place s0 s1) e t

pub returns-then-not-is_at-clause-read : goal.returns-then-not-is_at-clause-read
returns-then-not-is_at-clause-read c =
    let pushed : c.push.new.self ≡ c.variables.bindings ++ c.in_ok-binding.binding ∷ [] = grind arith in
    let taken = relevel _ _ _ (NameLexeme c.in_ok-binding.binding.name) _ _ c.variables.invariant.level c.in_ok-binding.ensures.taken in
    let P : List Binding → Type 0 = λ xs. VariablesRead c.args.depth.level c.args.depth.scope c.args.self.now.cursor.rest c.binding.new.self.cursor.rest xs in
    subst P (sym pushed) (c.variables.invariant.read _ _ (last_variable _ _ _ _ _ c.in_ok-binding.ensures.scope taken))

pub variables-preserved : goal.variables-preserved
variables-preserved c =
    let f = after _ _ _ _ _ _ c.variables.invariant.follows c.in_ok-binding.ensures.follows in
    let pushed : c.push.new.self ≡ c.variables.bindings ++ c.in_ok-binding.binding ∷ [] = grind arith in
    let taken = relevel _ _ _ (NameLexeme c.in_ok-binding.binding.name) _ _ c.variables.invariant.level c.in_ok-binding.ensures.taken in
    let comma = relevel _ _ _ (Symbol Comma) _ _ c.variables.invariant.level c.in_ok-take_symbol.ensures.taken in
    record {
      read = λ more after r. subst (λ (xs : List Binding). VariablesRead c.args.depth.level c.args.depth.scope c.args.self.now.cursor.rest after xs)
          (snoc_append c.variables.bindings c.in_ok-binding.binding more ∙ ap (λ (xs : List Binding). xs ++ more) (sym pushed))
          (c.variables.invariant.read _ _ (next_variable _ _ _ _ _ _ _ _ _ c.in_ok-binding.ensures.scope taken comma r));
      counted = grind (arith, length-append, c.variables.invariant.counted, pushed);
      level = c.variables.invariant.level;
      follows = after _ _ _ _ _ _ f (mark_taken _ _ _ _ _ _ _ _ (variable_comma c.variables.inner.level (c.variables.inner.scope + 1)) c.in_ok-binding.ensures.scope
          c.in_ok-take_symbol.ensures.taken c.in_ok-take_symbol.ensures.nodes);
    }

pub variables-init : goal.variables-init
variables-init c =
    let P : List Binding → Type 0 = λ xs. IsFront c.args.depth c.args.depth c.args.self.now c.args.self.now xs in
    subst P (sym c.new-bindings.ensures) (record { read = λ more after r. r; counted = omega arith; level = refl; follows = begins _ _ })

pub returns-in_err-binding-clause-refused : goal.returns-in_err-binding-clause-refused
returns-in_err-binding-clause-refused c =
    refused_err _ _ _ _ c.from_residual.ensures.1 (refused_after _ _ _ _ _ c.variables.invariant.follows c.in_err-binding.ensures.follows)

pub returns-then-is_err-clause-refused : goal.returns-then-is_err-clause-refused
returns-then-is_err-clause-refused c = refuses_no_memory _ _

pub returns-then-not-is_at-clause-follows : goal.returns-then-not-is_at-clause-follows
returns-then-not-is_at-clause-follows c =
    let pushed : c.push.new.self ≡ c.variables.bindings ++ c.in_ok-binding.binding ∷ [] = grind arith in
    let counted : c.variables.inner.scope + 1 ≡ c.args.depth.scope + length c.push.new.self = grind (arith, length-append, c.variables.invariant.counted, pushed) in
    let Q : ℕ → ℕ → Type 0 = λ level scope. Continues (stack_item BoundVariable c.args.depth.level (c.args.depth.scope + 1) ∷ []) (stack_item BehindVariable level scope ∷ [])
    c.args.self.now c.binding.new.self in
    subst (λ (level : ℕ). Q level (c.args.depth.scope + length c.push.new.self)) c.variables.invariant.level
    (subst (λ (scope : ℕ). Q c.variables.inner.level scope) counted (after _ _ _ _ _ _ c.variables.invariant.follows c.in_ok-binding.ensures.follows))

pub returns-then-not-is_at-clause-ends : goal.returns-then-not-is_at-clause-ends
returns-then-not-is_at-clause-ends c = not_at _ _ c.is_at.ensures c.if-not-is_at.true

pub returns-in_err-take_symbol-clause-refused : goal.returns-in_err-take_symbol-clause-refused
returns-in_err-take_symbol-clause-refused c =
    let f = after _ _ _ _ _ _ c.variables.invariant.follows c.in_ok-binding.ensures.follows in
    refused_err _ _ _ _ c.from_residual-in_err-take_symbol.ensures.1
    (refused_after _ _ _ _ _ f (mark_stops _ _ _ _ _ _ _ (variable_comma c.variables.inner.level (c.variables.inner.scope + 1)) (c.is_at.ensures.0 c.if-not-is_at.false)
    c.in_err-take_symbol.ensures.barred))
