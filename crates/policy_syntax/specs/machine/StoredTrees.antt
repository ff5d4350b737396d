-- The pure trees of the trees of the program.
use Rattle.std.specs.Prelude.{List, map}
use Rattle.policy_syntax.specs.declared.trees.SyntaxPolicy.{SyntaxPolicy}
use Rattle.policy_syntax.specs.declared.trees.SyntaxRule.{SyntaxRule}
use Rattle.policy_syntax.specs.meaning.Trees.{SyntaxTree, TrueTree, FalseTree, AtomTree, EqualTree, LessTree}
use Rattle.policy_syntax.specs.meaning.Trees.{AtMostTree, NotTree, AndTree, OrTree, ImpliesTree, ExistsTree, ForallTree}
use Rattle.policy_syntax.specs.meaning.Trees.{PrevTree, NextTree, OnceTree, HistoricallyTree, SinceTree, EventuallyTree}
use Rattle.policy_syntax.specs.meaning.Trees.{AlwaysTree, UntilTree, PolicyRule}
use Rattle.policy_syntax.specs.declared.trees.SyntaxFormula as stored

-- the pure tree of a tree of the program
abbrev pub syntax_tree_of : stored.SyntaxFormula → SyntaxTree
syntax_tree_of (stored.True place) = TrueTree place
syntax_tree_of (stored.False place) = FalseTree place
syntax_tree_of (stored.Atom place name terms) = AtomTree place name terms
syntax_tree_of (stored.Equal place s t) = EqualTree place s t
syntax_tree_of (stored.Less place s t) = LessTree place s t
syntax_tree_of (stored.AtMost place s t) = AtMostTree place s t
syntax_tree_of (stored.Not' place p f) = NotTree place (syntax_tree_of f)
syntax_tree_of (stored.And' place p f q g) = AndTree place (syntax_tree_of f) (syntax_tree_of g)
syntax_tree_of (stored.Or' place p f q g) = OrTree place (syntax_tree_of f) (syntax_tree_of g)
syntax_tree_of (stored.Implies' place p f q g) = ImpliesTree place (syntax_tree_of f) (syntax_tree_of g)
syntax_tree_of (stored.Exists' place xs p f) = ExistsTree place xs (syntax_tree_of f)
syntax_tree_of (stored.Forall' place xs p f) = ForallTree place xs (syntax_tree_of f)
syntax_tree_of (stored.Prev' place interval p f) = PrevTree place interval (syntax_tree_of f)
syntax_tree_of (stored.Next' place interval p f) = NextTree place interval (syntax_tree_of f)
syntax_tree_of (stored.Once' place interval p f) = OnceTree place interval (syntax_tree_of f)
syntax_tree_of (stored.Historically' place interval p f) = HistoricallyTree place interval (syntax_tree_of f)
syntax_tree_of (stored.Since' place interval p f q g) = SinceTree place interval (syntax_tree_of f) (syntax_tree_of g)
syntax_tree_of (stored.Eventually' place interval p f) = EventuallyTree place interval (syntax_tree_of f)
syntax_tree_of (stored.Always' place interval p f) = AlwaysTree place interval (syntax_tree_of f)
syntax_tree_of (stored.Until' place interval p f q g) = UntilTree place interval (syntax_tree_of f) (syntax_tree_of g)

-- the pure rule of a rule of the program
abbrev pub policy_rule_of : SyntaxRule → PolicyRule
policy_rule_of rule = record { place = rule.place; name = rule.name; formula = syntax_tree_of rule.formula }

-- the pure rules of a policy of the program
abbrev pub policy_syntax_rules : SyntaxPolicy → List PolicyRule
policy_syntax_rules policy = map policy_rule_of policy.rules
