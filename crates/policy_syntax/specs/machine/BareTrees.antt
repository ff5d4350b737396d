-- Trees but for their places: each place is 0.
use Rattle.std.specs.Prelude.{map}
use Rattle.policy_syntax.specs.declared.trees.Binding.{Binding}
use Rattle.policy_syntax.specs.declared.trees.SyntaxTerm.{SyntaxTerm}
use Rattle.policy_syntax.specs.declared.trees.SyntaxTerm.TheVariants.{Variable, Constant}
use Rattle.policy_syntax.specs.meaning.Trees.{SyntaxTree, TrueTree, FalseTree, AtomTree, EqualTree, LessTree}
use Rattle.policy_syntax.specs.meaning.Trees.{AtMostTree, NotTree, AndTree, OrTree, ImpliesTree, ExistsTree, ForallTree}
use Rattle.policy_syntax.specs.meaning.Trees.{PrevTree, NextTree, OnceTree, HistoricallyTree, SinceTree, EventuallyTree}
use Rattle.policy_syntax.specs.meaning.Trees.{AlwaysTree, UntilTree, PolicyRule}

-- a term
abbrev pub bare_term : SyntaxTerm → SyntaxTerm
bare_term (Variable place name) = Variable 0 name
bare_term (Constant place value) = Constant 0 value

-- a variable of a quantifier
abbrev pub bare_binding : Binding → Binding
bare_binding x = record { place = 0; name = x.name }

-- a formula
abbrev pub bare_syntax_tree : SyntaxTree → SyntaxTree
bare_syntax_tree (TrueTree place) = TrueTree 0
bare_syntax_tree (FalseTree place) = FalseTree 0
bare_syntax_tree (AtomTree place name terms) = AtomTree 0 name (map bare_term terms)
bare_syntax_tree (EqualTree place s t) = EqualTree 0 (bare_term s) (bare_term t)
bare_syntax_tree (LessTree place s t) = LessTree 0 (bare_term s) (bare_term t)
bare_syntax_tree (AtMostTree place s t) = AtMostTree 0 (bare_term s) (bare_term t)
bare_syntax_tree (NotTree place f) = NotTree 0 (bare_syntax_tree f)
bare_syntax_tree (AndTree place f g) = AndTree 0 (bare_syntax_tree f) (bare_syntax_tree g)
bare_syntax_tree (OrTree place f g) = OrTree 0 (bare_syntax_tree f) (bare_syntax_tree g)
bare_syntax_tree (ImpliesTree place f g) = ImpliesTree 0 (bare_syntax_tree f) (bare_syntax_tree g)
bare_syntax_tree (ExistsTree place xs f) = ExistsTree 0 (map bare_binding xs) (bare_syntax_tree f)
bare_syntax_tree (ForallTree place xs f) = ForallTree 0 (map bare_binding xs) (bare_syntax_tree f)
bare_syntax_tree (PrevTree place interval f) = PrevTree 0 interval (bare_syntax_tree f)
bare_syntax_tree (NextTree place interval f) = NextTree 0 interval (bare_syntax_tree f)
bare_syntax_tree (OnceTree place interval f) = OnceTree 0 interval (bare_syntax_tree f)
bare_syntax_tree (HistoricallyTree place interval f) = HistoricallyTree 0 interval (bare_syntax_tree f)
bare_syntax_tree (SinceTree place interval f g) = SinceTree 0 interval (bare_syntax_tree f) (bare_syntax_tree g)
bare_syntax_tree (EventuallyTree place interval f) = EventuallyTree 0 interval (bare_syntax_tree f)
bare_syntax_tree (AlwaysTree place interval f) = AlwaysTree 0 interval (bare_syntax_tree f)
bare_syntax_tree (UntilTree place interval f g) = UntilTree 0 interval (bare_syntax_tree f) (bare_syntax_tree g)

-- a rule
abbrev pub bare_rule : PolicyRule → PolicyRule
bare_rule rule = record { place = 0; name = rule.name; formula = bare_syntax_tree rule.formula }
