-- The formula that a formula of the program stands for.
use Rattle.enf_formula.specs.meaning.Satisfaction.{Formula, True, False, Atom, Equal, Less, AtMost, Not, And, Or}
use Rattle.enf_formula.specs.meaning.Satisfaction.{Implies, Exists, Forall, Prev, Next, Once, Historically, Since}
use Rattle.enf_formula.specs.meaning.Satisfaction.{Eventually, Always, Until}
use Rattle.enf_formula.specs.declared.formulas.Formula as stored

-- the pure tree of a tree of the program
abbrev pub tree_of : stored.Formula → Formula
tree_of (stored.True place) = True place
tree_of (stored.False place) = False place
tree_of (stored.Atom place name terms) = Atom place name terms
tree_of (stored.Equal place s t) = Equal place s t
tree_of (stored.Less place s t) = Less place s t
tree_of (stored.AtMost place s t) = AtMost place s t
tree_of (stored.Not' place p f) = Not place (tree_of f)
tree_of (stored.And' place p f q g) = And place (tree_of f) (tree_of g)
tree_of (stored.Or' place p f q g) = Or place (tree_of f) (tree_of g)
tree_of (stored.Implies' place p f q g) = Implies place (tree_of f) (tree_of g)
tree_of (stored.Exists' place xs p f) = Exists place xs (tree_of f)
tree_of (stored.Forall' place xs p f) = Forall place xs (tree_of f)
tree_of (stored.Prev' place interval p f) = Prev place interval (tree_of f)
tree_of (stored.Next' place interval p f) = Next place interval (tree_of f)
tree_of (stored.Once' place interval p f) = Once place interval (tree_of f)
tree_of (stored.Historically' place interval p f) = Historically place interval (tree_of f)
tree_of (stored.Since' place interval p f q g) = Since place interval (tree_of f) (tree_of g)
tree_of (stored.Eventually' place interval p f) = Eventually place interval (tree_of f)
tree_of (stored.Always' place interval p f) = Always place interval (tree_of f)
tree_of (stored.Until' place interval p f q g) = Until place interval (tree_of f) (tree_of g)
