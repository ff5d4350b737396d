-- What plans tell of sorts, and the sorts of what is in guards.
use Rattle.enforcer_core.proofs.Vocabulary.{◌≡◌, ◌∙◌, ℕ, ⊎_elim, Bool, true, false, ◌||◌, nat_eq, IsTrue, List, [], ◌∷◌, ◌++◌, Some, Contains, refl, sym, ap, subst, arith, slice_get, list_any}
use Rattle.enforcer_core.proofs.Vocabulary.{list_any-append, same_Some, Contains-append, first_or_later, none_in_nil, Term, Var, VarId, Formula, True, False, Atom, Equal, Less, AtMost, Not, And, Or}
use Rattle.enforcer_core.proofs.Vocabulary.{Implies, Exists, Forall, Prev, Next, Once, Historically, Since, Eventually, Always, Until, NoneBound, denial, entry_columns, NameEntry, Sort, Int}
use Rattle.enforcer_core.proofs.Vocabulary.{operators, kept_operand, IsListedNode, nodes, Plan, AtEach, FormulaTells, PlanTells, SidesTell, TermsTell, is_of_guard, KeepsSorts, AreTermsOfSort, Besides}
use Rattle.enforcer_core.proofs.Vocabulary.{FillSorts, SortsFit, InfersSort, term_sort, fit_under, nothing_under}
use Rattle.plan_terms.specs.meaning.Plans as plan

-- ---- what is told is the sort

module _ (entries : List NameEntry) (sorts : VarId → Sort) (x : VarId) (sort : Sort) where
  told_term : (t : Term) (column : Sort) → term_sort sorts t ≡ column → t ≡ Var x → column ≡ sort → sorts x ≡ sort
  told_term t column fill same is = sym (ap (term_sort sorts) same) ∙ fill ∙ is

  told_terms : (terms : List Term) (cols : List Sort) → FillSorts sorts terms cols → TermsTell terms cols x sort → sorts x ≡ sort
  told_terms [] cols fill never = absurd never
  told_terms (t ∷ terms) [] fill never = absurd never
  told_terms (t ∷ terms) (column ∷ cols) fill tells = ⊎_elim (λ one. told_term t column fill.0 one.0 one.1) (λ more. told_terms terms cols fill.1 more) tells

  told_sides : (s t : Term) → AreTermsOfSort Int sorts s t → SidesTell s t x sort → sorts x ≡ sort
  told_sides s t are tells = ⊎_elim (λ one. told_term s Int are.0 one.0 one.1) (λ two. told_term t Int are.1 two.0 two.1) tells

  told_formula : (f : Formula) (N : VarId → Type 0) → SortsFit entries sorts N f → FormulaTells entries f x sort → sorts x ≡ sort
  told_formula (True place) N fit never = absurd never
  told_formula (False place) N fit never = absurd never
  told_formula (Atom place name terms) N fit tells = told_terms terms (entry_columns (slice_get entries name.0)) fit tells
  told_formula (Equal place s t) N fit never = absurd never
  told_formula (Less place s t) N fit tells = told_sides s t fit tells
  told_formula (AtMost place s t) N fit tells = told_sides s t fit tells
  told_formula (Not place g) N fit tells = told_formula g N fit tells
  told_formula (And place g h) N fit tells = ⊎_elim (λ one. told_formula g N fit.0 one) (λ two. told_formula h (Besides N (InfersSort N g)) fit.1 two) tells
  told_formula (Or place g h) N fit tells = ⊎_elim (λ one. told_formula g N fit.0 one) (λ two. told_formula h (Besides N (InfersSort N g)) fit.1 two) tells
  told_formula (Implies place g h) N fit tells = ⊎_elim (λ one. told_formula g N fit.0 one) (λ two. told_formula h (Besides N (InfersSort N g)) fit.1 two) tells
  told_formula (Exists place xs g) N fit tells = told_formula g N fit tells
  told_formula (Forall place xs g) N fit tells = told_formula g N fit tells
  told_formula (Prev place interval g) N fit tells = told_formula g N fit tells
  told_formula (Next place interval g) N fit tells = told_formula g N fit tells
  told_formula (Once place interval g) N fit tells = told_formula g N fit tells
  told_formula (Historically place interval g) N fit tells = told_formula g N fit tells
  told_formula (Since place interval g h) N fit tells = ⊎_elim (λ one. told_formula g N fit.0 one) (λ two. told_formula h (Besides N (InfersSort N g)) fit.1 two) tells
  told_formula (Eventually place interval g) N fit tells = told_formula g N fit tells
  told_formula (Always place interval g) N fit tells = told_formula g N fit tells
  told_formula (Until place interval g h) N fit tells = ⊎_elim (λ one. told_formula g N fit.0 one) (λ two. told_formula h (Besides N (InfersSort N g)) fit.1 two) tells

  pub told_plan : (p : Plan) (scope : List VarId) → AtEach (KeepsSorts entries sorts) p scope → PlanTells entries p x sort → sorts x ≡ sort
  told_plan (plan.CausePlan node place name terms) scope keeps tells = told_terms terms (entry_columns (slice_get entries name.0)) keeps tells
  told_plan (plan.SuppressPlan node place name terms) scope keeps tells = told_terms terms (entry_columns (slice_get entries name.0)) keeps tells
  told_plan (plan.Both node l r) scope keeps tells = ⊎_elim (λ one. told_plan l scope keeps.1 one) (λ two. told_plan r scope keeps.2 two) tells
  told_plan (plan.Either node l r) scope keeps tells = ⊎_elim (λ one. told_plan l scope keeps.1 one) (λ two. told_plan r scope keeps.2 two) tells
  told_plan (plan.TestOr node guard test body) scope keeps tells = ⊎_elim (λ one. told_formula test NoneBound keeps.0 one) (λ two. told_plan body scope keeps.1 two) tells
  told_plan (plan.Guarded node xs guard test body) scope keeps tells = ⊎_elim (λ one. told_formula test NoneBound keeps.0.0 one) (λ two. told_plan body (scope ++ xs) keeps.1 two) tells
  told_plan (plan.EventuallyPlan node place low high body) scope keeps tells = told_plan body scope keeps.1 tells
  told_plan (plan.AlwaysPlan node place low high body) scope keeps tells = told_plan body scope keeps.1 tells
  told_plan (plan.UntilPlan node place low high l r) scope keeps tells = ⊎_elim (λ one. told_plan l scope keeps.1 one) (λ two. told_plan r scope keeps.2 two) tells
  told_plan (plan.NextPlan node place high body) scope keeps tells = told_plan body scope keeps.1 tells

-- ---- the operands of a formula's operators on the past

module _ (entries : List NameEntry) (sorts : VarId → Sort) where
  fit_denial : (g : Formula) (N : VarId → Type 0) → SortsFit entries sorts N g → SortsFit entries sorts N (denial g)
  fit_denial (Not place h) N fit = fit
  fit_denial (Implies place a b) N fit = fit
  fit_denial g N fit = fit

  -- the first, or one of the others
  one_or : (first o : Formula) (rest : List Formula) → SortsFit entries sorts NoneBound (kept_operand first)
      → (Contains rest o → SortsFit entries sorts NoneBound (kept_operand o)) → Contains (first ∷ rest) o
      → SortsFit entries sorts NoneBound (kept_operand o)
  one_or first o rest fit others there = ⊎_elim (λ same. subst (λ (f : Formula). SortsFit entries sorts NoneBound (kept_operand f)) same fit) others (first_or_later o first rest there)

  pub fit_operands : (f : Formula) (N : VarId → Type 0) → SortsFit entries sorts N f → (o : Formula) → Contains (operators f) o → SortsFit entries sorts NoneBound (kept_operand o)
  fit_operands (True place) N fit o there = absurd (none_in_nil o there)
  fit_operands (False place) N fit o there = absurd (none_in_nil o there)
  fit_operands (Atom place name terms) N fit o there = absurd (none_in_nil o there)
  fit_operands (Equal place s t) N fit o there = absurd (none_in_nil o there)
  fit_operands (Less place s t) N fit o there = absurd (none_in_nil o there)
  fit_operands (AtMost place s t) N fit o there = absurd (none_in_nil o there)
  fit_operands (Not place g) N fit o there = fit_operands g N fit o there
  fit_operands (And place g h) N fit o there = ⊎_elim (λ one. fit_operands g N fit.0 o one)
      (λ two. fit_operands h (Besides N (InfersSort N g)) fit.1 o two)
      (Contains-append (operators g) (operators h) o there)
  fit_operands (Or place g h) N fit o there = ⊎_elim (λ one. fit_operands g N fit.0 o one)
      (λ two. fit_operands h (Besides N (InfersSort N g)) fit.1 o two)
      (Contains-append (operators g) (operators h) o there)
  fit_operands (Implies place g h) N fit o there = ⊎_elim (λ one. fit_operands g N fit.0 o one)
      (λ two. fit_operands h (Besides N (InfersSort N g)) fit.1 o two)
      (Contains-append (operators g) (operators h) o there)
  fit_operands (Exists place xs g) N fit o there = fit_operands g N fit o there
  fit_operands (Forall place xs g) N fit o there = fit_operands g N fit o there
  fit_operands (Prev place interval g) N fit o there = one_or (Prev place interval g) o (operators g) (fit_under entries sorts g NoneBound N (nothing_under N) fit) (fit_operands g N fit o) there
  fit_operands (Once place interval g) N fit o there = one_or (Once place interval g) o (operators g) (fit_under entries sorts g NoneBound N (nothing_under N) fit) (fit_operands g N fit o) there
  fit_operands (Historically place interval g) N fit o there =
      one_or (Historically place interval g) o (operators g) (fit_denial g NoneBound (fit_under entries sorts g NoneBound N (nothing_under N) fit)) (fit_operands g N fit o) there
  fit_operands (Since place interval g h) N fit o there =
      one_or (Since place interval g h) o (operators g ++ operators h) (fit_under entries sorts h NoneBound (Besides N (InfersSort N g)) (nothing_under (Besides N (InfersSort N g))) fit.1)
      (λ both. ⊎_elim (λ one. fit_operands g N fit.0 o one) (λ two. fit_operands h (Besides N (InfersSort N g)) fit.1 o two) (Contains-append (operators g) (operators h) o both)) there
  fit_operands (Next place interval g) N fit o there = absurd (none_in_nil o there)
  fit_operands (Eventually place interval g) N fit o there = absurd (none_in_nil o there)
  fit_operands (Always place interval g) N fit o there = absurd (none_in_nil o there)
  fit_operands (Until place interval g h) N fit o there = absurd (none_in_nil o there)

-- ---- the guard with a number

or_either : (a b : Bool) (R : Type 0) → (IsTrue a → R) → (IsTrue b → R) → IsTrue (a || b) → R
or_either true b R first second is = first refl
or_either false b R first second is = second is

eq_is : (m n : ℕ) → IsTrue (nat_eq m n) → m ≡ n
eq_is m n is = grind (arith, is)

module _ (entries : List NameEntry) (sorts : VarId → Sort) (guards : List (Formula × List VarId)) (guard : ℕ) (f : Formula) (bound : List VarId) (at : slice_get guards guard ≡ Some (f, bound)) where
  own : (number : ℕ) (test : Formula) (scope : List VarId) → slice_get guards number ≡ Some (test, scope)
      → SortsFit entries sorts NoneBound test → IsTrue (nat_eq number guard)
      → SortsFit entries sorts NoneBound f
  own number test scope listed fit is =
      let same : (test, scope) ≡ (f, bound) = same_Some (test, scope) (f, bound) (sym (subst (λ n. slice_get guards n ≡ Some (test, scope)) (eq_is number guard is) listed) ∙ at) in
      subst (λ (g : Formula × List VarId). SortsFit entries sorts NoneBound g.0) same fit

  in_two : (ls rs : List Plan) (R : Type 0) → (IsTrue (list_any (is_of_guard guard) ls) → R) → (IsTrue (list_any (is_of_guard guard) rs) → R) → IsTrue (list_any (is_of_guard guard) (ls ++ rs)) → R
  in_two ls rs R first second any =
      or_either (list_any (is_of_guard guard) ls) (list_any (is_of_guard guard) rs) R first second (subst IsTrue (list_any-append (is_of_guard guard) ls rs) any)

  pub guard_fits : (p : Plan) (scope : List VarId) → AtEach (IsListedNode guards) p scope
      → AtEach (KeepsSorts entries sorts) p scope → IsTrue (list_any (is_of_guard guard) (nodes p))
      → SortsFit entries sorts NoneBound f
  guard_fits (plan.CausePlan node place name terms) scope listed keeps any = absurd (cc)
  guard_fits (plan.SuppressPlan node place name terms) scope listed keeps any = absurd (cc)
  guard_fits (plan.Both node l r) scope listed keeps any = in_two (nodes l) (nodes r)
      (SortsFit entries sorts NoneBound f) (guard_fits l scope listed.1 keeps.1)
      (guard_fits r scope listed.2 keeps.2) any
  guard_fits (plan.Either node l r) scope listed keeps any = in_two (nodes l) (nodes r)
      (SortsFit entries sorts NoneBound f) (guard_fits l scope listed.1 keeps.1)
      (guard_fits r scope listed.2 keeps.2) any
  guard_fits (plan.TestOr node number test body) scope listed keeps any =
      or_either (nat_eq number guard) (list_any (is_of_guard guard) (nodes body))
      (SortsFit entries sorts NoneBound f) (own number test scope listed.0 keeps.0)
      (guard_fits body scope listed.1 keeps.1) any
  guard_fits (plan.Guarded node xs number test body) scope listed keeps any =
      or_either (nat_eq number guard) (list_any (is_of_guard guard) (nodes body))
      (SortsFit entries sorts NoneBound f) (own number test scope listed.0 keeps.0.0)
      (guard_fits body (scope ++ xs) listed.1 keeps.1) any
  guard_fits (plan.EventuallyPlan node place low high body) scope listed keeps any = guard_fits body scope listed.1 keeps.1 any
  guard_fits (plan.AlwaysPlan node place low high body) scope listed keeps any = guard_fits body scope listed.1 keeps.1 any
  guard_fits (plan.UntilPlan node place low high l r) scope listed keeps any = in_two (nodes l) (nodes r)
      (SortsFit entries sorts NoneBound f) (guard_fits l scope listed.1 keeps.1)
      (guard_fits r scope listed.2 keeps.2) any
  guard_fits (plan.NextPlan node place high body) scope listed keeps any = guard_fits body scope listed.1 keeps.1 any
