use Rattle.policy_syntax.proofs.Vocabulary.{◌≡◌, ◌-◌, ℕ, List, [], ◌++◌, length, map, start_stack, judge_from, PlacedLexeme, lexemes, PolicyRead, syntax_rule_names, PolicyRule, policy_rule_of, Parts}
use Rattle.policy_syntax.proofs.Vocabulary.{SyntaxRule}
use Rattle.policy_syntax.specs.machine.Automaton.{judge}
use Rattle.policy_syntax.proofs.reader.read_syntax.Given as goal

-- what the rules to come will be read with, those so far were read before; and nothing was refused so far
pub record IsFront (bytes : List ℕ) (now : Parts) (rules : List SyntaxRule) : Type 0 where
  pub read : (more : List PolicyRule) (after : List PlacedLexeme) → PolicyRead now.cursor.rest after more → PolicyRead (lexemes bytes) after (map policy_rule_of rules ++ more)
  pub judged : judge (length bytes) start_stack 0 [] (lexemes bytes) ≡ judge_from (syntax_rule_names rules) start_stack now

abbrev pub invariant-loop-parts : goal.invariant-loop-parts
invariant-loop-parts l = IsFront l.bytes l.parts l.rules

abbrev pub decreases-loop-parts : goal.decreases-loop-parts
decreases-loop-parts l = 64 - length l.rules
