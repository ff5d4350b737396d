use Rattle.policy_syntax.proofs.Vocabulary.{◌≡◌, ℕ, List, [], ◌∷◌, ◌++◌, map, Ok, refl, sym, ap, subst, ◌∙◌, arith, append-nil, start_stack, judge_from, PlacedLexeme, lexemes, PolicyRead}
use Rattle.policy_syntax.proofs.Vocabulary.{syntax_rule_names, PolicyRule, policy_rule_of, NoMemory, SyntaxRule}
use Rattle.policy_syntax.specs.machine.Automaton.{judge}
use Rattle.policy_syntax.proofs.ReaderAnswer.{answers_err, read_text}
use Rattle.policy_syntax.proofs.FormulaPhrases.{not_at}
use Rattle.policy_syntax.proofs.Policies.{only_answer}
use Rattle.policy_syntax.proofs.RuleMoves.{done, names_push}
use Rattle.policy_syntax.proofs.RulePhrases.{no_rules, next_rule, read_push}
use Rattle.policy_syntax.proofs.reader.read_syntax.Goals as goal

at_start : (all rest : List PlacedLexeme) (rules : List SyntaxRule) → rest ≡ all → rules ≡ [] → (more : List PolicyRule) (after : List PlacedLexeme) → PolicyRead rest after more
    → PolicyRead all after (map policy_rule_of rules ++ more)
at_start all rest rules at none more after read = subst (λ (now : List PlacedLexeme). PolicyRead now after (map policy_rule_of rules ++ more)) at
    (subst (λ (xs : List SyntaxRule). PolicyRead rest after (map policy_rule_of xs ++ more)) (sym none) read)

pub loop-parts-init : goal.loop-parts-init
loop-parts-init c = record {
  read = at_start _ _ _ c.in_ok-new.ensures.rest c.new-rules.ensures;
  judged = (λ j. judge (sym c.in_ok-new.ensures.end j) start_stack 0 (syntax_rule_names (sym c.new-rules.ensures j)) (sym c.in_ok-new.ensures.rest j));
}

pub loop-parts-preserved : goal.loop-parts-preserved
loop-parts-preserved c =
    let pushed : c.push.new.self ≡ c.loop-parts.rules ++ c.in_ok-rule.rule ∷ [] = grind arith in
    let names : syntax_rule_names c.push.new.self ≡ syntax_rule_names c.loop-parts.rules ++ c.in_ok-rule.rule.name ∷ [] = ap syntax_rule_names pushed ∙ names_push c.loop-parts.rules
    c.in_ok-rule.rule in
    record {
      read = λ more after r. subst (λ (rules : List PolicyRule). PolicyRead (lexemes c.args.bytes.now) after rules)
          (read_push c.loop-parts.rules c.in_ok-rule.rule more ∙ ap (λ (rules : List SyntaxRule). map policy_rule_of rules ++ more) (sym pushed))
          (c.loop-parts.invariant.read _ _ (next_rule _ _ _ _ _ c.in_ok-rule.ensures.read r));
      judged = c.loop-parts.invariant.judged ∙ c.in_ok-rule.ensures.judged ∙ ap (λ (xs : List (List ℕ)). judge_from xs start_stack c.read_rule.new.parts) (sym names);
    }

pub read_rule-requires : goal.read_rule-requires
read_rule-requires c = not_at _ _ c.is_at_end.ensures c.loop-parts-test.true

pub returns-in_err-new : goal.returns-in_err-new
returns-in_err-new c =
    let a = answers_err c.args.bytes.now _ NoMemory c.from_residual.ensures.1 (λ some. absurd (some refl)) in
    record { answer = a.0; only = a.1 }

pub returns-in_err-rule : goal.returns-in_err-rule
returns-in_err-rule c =
    let a = answers_err c.args.bytes.now _ _ c.from_residual-in_err-rule.ensures.1 (λ some. c.loop-parts.invariant.judged ∙ c.in_err-rule.ensures.judged some) in
    record { answer = a.0; only = a.1 }

pub returns : goal.returns
returns c =
    let empty : c.loop-parts.parts.cursor.rest ≡ [] = c.is_at_end.ensures.0 c.loop-parts-test.false in
    let last : PolicyRead c.loop-parts.parts.cursor.rest [] [] = subst (λ (rest : List PlacedLexeme). PolicyRead rest [] []) (sym empty) no_rules in
    let read = subst (λ (rules : List PolicyRule). PolicyRead (lexemes c.args.bytes.now) [] rules) (append-nil (map policy_rule_of c.loop-parts.rules)) (c.loop-parts.invariant.read [] [] last) in
    let text = read_text _ _ (c.loop-parts.invariant.judged ∙ done _ _ empty) read in
    record {
      answer = text;
      only = λ answer is. only_answer c.args.bytes.now (Ok (map policy_rule_of c.loop-parts.rules)) answer text is;
    }
