-- Formulas have no more operators on the past than nodes.
use Rattle.past_state.proofs.Vocabulary.{◌≤◌, List, [], ◌∷◌, length, sym, subst, arith, length-append, sum_by, sum-map, sum_by-cons, Formula, True, False, Atom, Equal, Less, AtMost, Not, And, Or}
use Rattle.past_state.proofs.Vocabulary.{Implies, Exists, Forall, Prev, Next, Once, Historically, Since, Eventually, Always, Until, formula_size, NoMoreThanNodes, all_operators, operators}

of_one : (f : Formula) → length (operators f) ≤ formula_size f
of_one (True place) = omega arith
of_one (False place) = omega arith
of_one (Atom place name terms) = omega arith
of_one (Equal place s t) = omega arith
of_one (Less place s t) = omega arith
of_one (AtMost place s t) = omega arith
of_one (Not place g) = omega (arith, of_one g)
of_one (And place g h) = omega (arith, length-append (operators g) (operators h), of_one g, of_one h)
of_one (Or place g h) = omega (arith, length-append (operators g) (operators h), of_one g, of_one h)
of_one (Implies place g h) = omega (arith, length-append (operators g) (operators h), of_one g, of_one h)
of_one (Exists place xs g) = omega (arith, of_one g)
of_one (Forall place xs g) = omega (arith, of_one g)
of_one (Prev place interval g) = omega (arith, of_one g)
of_one (Once place interval g) = omega (arith, of_one g)
of_one (Historically place interval g) = omega (arith, of_one g)
of_one (Since place interval g h) = omega (arith, length-append (operators g) (operators h), of_one g, of_one h)
of_one (Next place interval g) = omega arith
of_one (Eventually place interval g) = omega arith
of_one (Always place interval g) = omega arith
of_one (Until place interval g h) = omega arith

of_each : (fs : List Formula) → length (all_operators fs) ≤ sum_by formula_size fs
of_each [] = omega arith
of_each (f ∷ fs) =
    omega (arith, length-append (operators f) (all_operators fs), of_one f, of_each fs, sum_by-cons formula_size f fs)

pub no_more : NoMoreThanNodes
no_more fs = subst (λ n. length (all_operators fs) ≤ n) (sym (sum-map formula_size fs)) (of_each fs)
