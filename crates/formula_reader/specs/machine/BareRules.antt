-- Refusals and rules under a signature but for their places: each place is 0.
use Rattle.formula_reader.specs.declared.policies.PolicyRefusal.{PolicyRefusal}
use Rattle.formula_reader.specs.declared.policies.PolicyRefusal.TheVariants.{Syntax, UnknownName, Arity, SortClash}
use Rattle.formula_reader.specs.declared.policies.PolicyRefusal.TheVariants.{FreeVariable, Rebound, Limit, NoMemory}
use Rattle.formula_reader.specs.meaning.Resolution.{Rule}
use Rattle.enf_formula.specs.meaning.Satisfaction as tree

-- a refusal
abbrev pub bare_refusal : PolicyRefusal → PolicyRefusal
bare_refusal (Syntax place) = Syntax 0
bare_refusal (UnknownName place) = UnknownName 0
bare_refusal (Arity place) = Arity 0
bare_refusal (SortClash place) = SortClash 0
bare_refusal (FreeVariable place) = FreeVariable 0
bare_refusal (Rebound place) = Rebound 0
bare_refusal (Limit place) = Limit 0
bare_refusal NoMemory = NoMemory

-- a formula under a signature
abbrev pub bare_tree : tree.Formula → tree.Formula
bare_tree (tree.True place) = tree.True 0
bare_tree (tree.False place) = tree.False 0
bare_tree (tree.Atom place name terms) = tree.Atom 0 name terms
bare_tree (tree.Equal place s t) = tree.Equal 0 s t
bare_tree (tree.Less place s t) = tree.Less 0 s t
bare_tree (tree.AtMost place s t) = tree.AtMost 0 s t
bare_tree (tree.Not place f) = tree.Not 0 (bare_tree f)
bare_tree (tree.And place f g) = tree.And 0 (bare_tree f) (bare_tree g)
bare_tree (tree.Or place f g) = tree.Or 0 (bare_tree f) (bare_tree g)
bare_tree (tree.Implies place f g) = tree.Implies 0 (bare_tree f) (bare_tree g)
bare_tree (tree.Exists place xs f) = tree.Exists 0 xs (bare_tree f)
bare_tree (tree.Forall place xs f) = tree.Forall 0 xs (bare_tree f)
bare_tree (tree.Prev place interval f) = tree.Prev 0 interval (bare_tree f)
bare_tree (tree.Next place interval f) = tree.Next 0 interval (bare_tree f)
bare_tree (tree.Once place interval f) = tree.Once 0 interval (bare_tree f)
bare_tree (tree.Historically place interval f) = tree.Historically 0 interval (bare_tree f)
bare_tree (tree.Since place interval f g) = tree.Since 0 interval (bare_tree f) (bare_tree g)
bare_tree (tree.Eventually place interval f) = tree.Eventually 0 interval (bare_tree f)
bare_tree (tree.Always place interval f) = tree.Always 0 interval (bare_tree f)
bare_tree (tree.Until place interval f g) = tree.Until 0 interval (bare_tree f) (bare_tree g)

-- a rule under a signature
abbrev pub bare_resolved : Rule → Rule
bare_resolved rule = record { name = rule.name; formula = bare_tree rule.formula; vars = rule.vars; place = 0 }
