use Rattle.policy_syntax.proofs.Vocabulary.{◌+◌, ◌-◌, ◌*◌}
use Rattle.policy_syntax.proofs.reader.+formulas.Given as goal

-- a call goes to a deeper level, or on the same level to a nonterminal below
abbrev pub decreases-formula : goal.decreases-formula
decreases-formula l = 8 * (41 - l.depth.level) + 6

abbrev pub decreases-disjunction : goal.decreases-disjunction
decreases-disjunction l = 8 * (41 - l.depth.level) + 5

abbrev pub decreases-conjunction : goal.decreases-conjunction
decreases-conjunction l = 8 * (41 - l.depth.level) + 4

abbrev pub decreases-infix : goal.decreases-infix
decreases-infix l = 8 * (41 - l.depth.level) + 3

abbrev pub decreases-unary : goal.decreases-unary
decreases-unary l = 8 * (41 - l.depth.level) + 2

abbrev pub decreases-negation : goal.decreases-negation
decreases-negation l = 8 * (41 - l.depth.level) + 1

abbrev pub decreases-prefixed : goal.decreases-prefixed
decreases-prefixed l = 8 * (41 - l.depth.level) + 1

abbrev pub decreases-quantified : goal.decreases-quantified
decreases-quantified l = 8 * (41 - l.depth.level) + 1

abbrev pub decreases-parenthesis : goal.decreases-parenthesis
decreases-parenthesis l = 8 * (41 - l.depth.level) + 1
