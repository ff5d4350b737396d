-- The outermost operators of operands and formulas, and the names that formulas look for.
use Rattle.enf_data.specs.declared.events.NameId.{NameId}
use Rattle.std.specs.Prelude.{List, [], ◌++◌, ◌∷◌}
use Rattle.enf_formula.specs.machine.Agreement.{names_in_formula}
use Rattle.enf_formula.specs.meaning.Satisfaction.{Formula, Prev, Once, Historically, Since}
use Rattle.monitorable_guard.specs.machine.PresentMeaning.{outermost}

-- the names that several formulas look for
abbrev pub names_in_all : List Formula → List NameId
names_in_all [] = []
names_in_all (f ∷ fs) = names_in_formula f ++ names_in_all fs

-- the outermost operators on the past of an operator's operands, in pre-order
abbrev pub inner : Formula → List Formula
inner (Prev place interval g) = outermost g
inner (Once place interval g) = outermost g
inner (Historically place interval g) = outermost g
inner (Since place interval g h) = outermost g ++ outermost h
inner f = []

-- the outermost operators on the past of several formulas, in order
abbrev pub all_outermost : List Formula → List Formula
all_outermost [] = []
all_outermost (f ∷ fs) = outermost f ++ all_outermost fs
