-- A rule under a signature written back as a syntax tree.
use Rattle.enf_data.specs.declared.terms.Term.{Term}
use Rattle.enf_data.specs.declared.terms.Term.TheVariants.{Var, Const}
use Rattle.enf_data.specs.declared.terms.VarId.{VarId}
use Rattle.std.specs.Prelude.{ℕ, List, map}
use Rattle.signature.specs.declared.entries.NameEntry.{NameEntry}
use Rattle.policy_syntax.specs.declared.trees.Binding.{Binding}
use Rattle.policy_syntax.specs.declared.trees.SyntaxTerm.{SyntaxTerm}
use Rattle.policy_syntax.specs.declared.trees.SyntaxTerm.TheVariants.{Variable, Constant}
use Rattle.policy_syntax.specs.machine.BareTrees.{bare_term, bare_binding}
use Rattle.policy_syntax.specs.meaning.Trees.{SyntaxTree, TrueTree, FalseTree, AtomTree, EqualTree, LessTree}
use Rattle.policy_syntax.specs.meaning.Trees.{AtMostTree, NotTree, AndTree, OrTree, ImpliesTree, ExistsTree, ForallTree}
use Rattle.policy_syntax.specs.meaning.Trees.{PrevTree, NextTree, OnceTree, HistoricallyTree, SinceTree, EventuallyTree}
use Rattle.policy_syntax.specs.meaning.Trees.{AlwaysTree, UntilTree}
use Rattle.formula_reader.specs.meaning.Resolution.{variable_text, Rule}
use Rattle.formula_reader.specs.meaning.RuleText.{name_text}
use Rattle.enf_formula.specs.meaning.Satisfaction as tree
use Rattle.policy_syntax.specs.meaning.Trees as syntax

-- a term by its text, at place 0
abbrev pub term_back : (vars : List (List ℕ)) → Term → SyntaxTerm
term_back vars (Var x) = Variable 0 (variable_text vars x)
term_back vars (Const value) = Constant 0 value

-- a variable of a quantifier by its name, at place 0
abbrev pub binding_back : (vars : List (List ℕ)) → VarId → Binding
binding_back vars x = record { place = 0; name = variable_text vars x }

-- a formula by its texts; its nodes keep their places
abbrev pub formula_back : List NameEntry → (vars : List (List ℕ)) → tree.Formula → SyntaxTree
formula_back entries vars (tree.True place) = TrueTree place
formula_back entries vars (tree.False place) = FalseTree place
formula_back entries vars (tree.Atom place name terms) = AtomTree place (name_text entries name)
    (map (term_back vars) terms)
formula_back entries vars (tree.Equal place s t) = EqualTree place (term_back vars s) (term_back vars t)
formula_back entries vars (tree.Less place s t) = LessTree place (term_back vars s) (term_back vars t)
formula_back entries vars (tree.AtMost place s t) = AtMostTree place (term_back vars s) (term_back vars t)
formula_back entries vars (tree.Not place f) = NotTree place (formula_back entries vars f)
formula_back entries vars (tree.And place f g) = AndTree place (formula_back entries vars f)
    (formula_back entries vars g)
formula_back entries vars (tree.Or place f g) = OrTree place (formula_back entries vars f) (formula_back entries vars g)
formula_back entries vars (tree.Implies place f g) = ImpliesTree place (formula_back entries vars f)
    (formula_back entries vars g)
formula_back entries vars (tree.Exists place xs f) = ExistsTree place (map (binding_back vars) xs)
    (formula_back entries vars f)
formula_back entries vars (tree.Forall place xs f) = ForallTree place (map (binding_back vars) xs)
    (formula_back entries vars f)
formula_back entries vars (tree.Prev place interval f) = PrevTree place interval (formula_back entries vars f)
formula_back entries vars (tree.Next place interval f) = NextTree place interval (formula_back entries vars f)
formula_back entries vars (tree.Once place interval f) = OnceTree place interval (formula_back entries vars f)
formula_back entries vars (tree.Historically place interval f) = HistoricallyTree place interval
    (formula_back entries vars f)
formula_back entries vars (tree.Since place interval f g) = SinceTree place interval (formula_back entries vars f)
    (formula_back entries vars g)
formula_back entries vars (tree.Eventually place interval f) = EventuallyTree place interval
    (formula_back entries vars f)
formula_back entries vars (tree.Always place interval f) = AlwaysTree place interval (formula_back entries vars f)
formula_back entries vars (tree.Until place interval f g) = UntilTree place interval (formula_back entries vars f)
    (formula_back entries vars g)

-- a formula but for the places of its variables and terms
abbrev pub plain_tree : SyntaxTree → SyntaxTree
plain_tree (TrueTree place) = TrueTree place
plain_tree (FalseTree place) = FalseTree place
plain_tree (AtomTree place name terms) = AtomTree place name (map bare_term terms)
plain_tree (EqualTree place s t) = EqualTree place (bare_term s) (bare_term t)
plain_tree (LessTree place s t) = LessTree place (bare_term s) (bare_term t)
plain_tree (AtMostTree place s t) = AtMostTree place (bare_term s) (bare_term t)
plain_tree (NotTree place f) = NotTree place (plain_tree f)
plain_tree (AndTree place f g) = AndTree place (plain_tree f) (plain_tree g)
plain_tree (OrTree place f g) = OrTree place (plain_tree f) (plain_tree g)
plain_tree (ImpliesTree place f g) = ImpliesTree place (plain_tree f) (plain_tree g)
plain_tree (ExistsTree place xs f) = ExistsTree place (map bare_binding xs) (plain_tree f)
plain_tree (ForallTree place xs f) = ForallTree place (map bare_binding xs) (plain_tree f)
plain_tree (PrevTree place interval f) = PrevTree place interval (plain_tree f)
plain_tree (NextTree place interval f) = NextTree place interval (plain_tree f)
plain_tree (OnceTree place interval f) = OnceTree place interval (plain_tree f)
plain_tree (HistoricallyTree place interval f) = HistoricallyTree place interval (plain_tree f)
plain_tree (SinceTree place interval f g) = SinceTree place interval (plain_tree f) (plain_tree g)
plain_tree (EventuallyTree place interval f) = EventuallyTree place interval (plain_tree f)
plain_tree (AlwaysTree place interval f) = AlwaysTree place interval (plain_tree f)
plain_tree (UntilTree place interval f g) = UntilTree place interval (plain_tree f) (plain_tree g)

-- a rule by its texts
abbrev pub rule_back : List NameEntry → Rule → syntax.PolicyRule
rule_back entries rule =
    record { place = rule.place; name = rule.name; formula = formula_back entries rule.vars rule.formula }

-- a rule but for the places of its variables and terms
abbrev pub plain_rule : syntax.PolicyRule → syntax.PolicyRule
plain_rule rule = record { place = rule.place; name = rule.name; formula = plain_tree rule.formula }
