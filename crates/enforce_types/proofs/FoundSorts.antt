-- Sorts that fit where variables were found before fit where fewer were; whether a value fits is not left open.
use Rattle.enforce_types.proofs.Vocabulary.{Term, Var, Const, VarId, Valuation, ◌⊎◌, inl, inr, ⊎_elim, List, ◌≡◌, refl, Formula, True, False, Atom, Equal, Less, AtMost, Not, And, Or, Implies, Exists}
use Rattle.enforce_types.proofs.Vocabulary.{Forall, Prev, Next, Once, Historically, Since, Eventually, Always, Until, Classically, NameEntry, Sort, Int, Text, value_sort, IsBoundIn, NoneBound}
use Rattle.enforce_types.proofs.Vocabulary.{TakesSort, Besides, InfersSort, SortsFit, ValueFits}

-- ---- less that was found before

abbrev pub VarsUnder : (VarId → Type 0) → (VarId → Type 0) → Type 0
VarsUnder N M = (x : VarId) → N x → M x

pub nothing_under : (N : VarId → Type 0) → VarsUnder NoneBound N
nothing_under N x never = absurd never

bound_under : (N M : VarId → Type 0) → VarsUnder N M → (t : Term) → IsBoundIn N t → IsBoundIn M t
bound_under N M more (Var x) bound = more x bound
bound_under N M more (Const value) bound = tt

takes_under : (N M : VarId → Type 0) → VarsUnder N M → (s t : Term) (x : VarId) → TakesSort N s t x
    → TakesSort M s t x
takes_under N M more s t x takes = (takes.0, bound_under N M more t takes.1)

besides_under : (N M P Q : VarId → Type 0) → VarsUnder N M → VarsUnder P Q
    → VarsUnder (Besides N P) (Besides M Q)
besides_under N M P Q more also x either = ⊎_elim (λ n. inl (more x n)) (λ p. inr (also x p)) either

-- what was found after an operand
abbrev Behind : (VarId → Type 0) → Formula → VarId → Type 0
Behind N g = Besides N (InfersSort N g)

-- of two operands in turn
found_two : (g h : Formula) (N M : VarId → Type 0) → VarsUnder N M → VarsUnder (InfersSort N g) (InfersSort M g)
    → (VarsUnder (Behind N g) (Behind M g) → VarsUnder (InfersSort (Behind N g) h) (InfersSort (Behind M g) h))
    → (x : VarId) → InfersSort N g x ⊎ InfersSort (Behind N g) h x → InfersSort M g x
    ⊎ InfersSort (Behind M g) h x
found_two g h N M more first second x either =
    let behind = besides_under N M (InfersSort N g) (InfersSort M g) more first in
    ⊎_elim (λ here. inl (first x here)) (λ there. inr (second behind x there)) either

pub found_under : (f : Formula) (N M : VarId → Type 0) → VarsUnder N M
    → VarsUnder (InfersSort N f) (InfersSort M f)
found_under (True place) N M more x never = absurd never
found_under (False place) N M more x never = absurd never
found_under (Atom place name terms) N M more x there = there
found_under (Equal place s t) N M more x either =
    ⊎_elim (λ first. inl (takes_under N M more s t x first)) (λ second. inr (takes_under N M more t s x second))
    either
found_under (Less place s t) N M more x side = side
found_under (AtMost place s t) N M more x side = side
found_under (Not place g) N M more x found = found_under g N M more x found
found_under (And place g h) N M more x found =
    found_two g h N M more (found_under g N M more) (found_under h (Behind N g) (Behind M g)) x found
found_under (Or place g h) N M more x found =
    found_two g h N M more (found_under g N M more) (found_under h (Behind N g) (Behind M g)) x found
found_under (Implies place g h) N M more x found =
    found_two g h N M more (found_under g N M more) (found_under h (Behind N g) (Behind M g)) x found
found_under (Exists place xs g) N M more x found = found_under g N M more x found
found_under (Forall place xs g) N M more x found = found_under g N M more x found
found_under (Prev place interval g) N M more x found = found_under g N M more x found
found_under (Next place interval g) N M more x found = found_under g N M more x found
found_under (Once place interval g) N M more x found = found_under g N M more x found
found_under (Historically place interval g) N M more x found = found_under g N M more x found
found_under (Since place interval g h) N M more x found =
    found_two g h N M more (found_under g N M more) (found_under h (Behind N g) (Behind M g)) x found
found_under (Eventually place interval g) N M more x found = found_under g N M more x found
found_under (Always place interval g) N M more x found = found_under g N M more x found
found_under (Until place interval g h) N M more x found =
    found_two g h N M more (found_under g N M more) (found_under h (Behind N g) (Behind M g)) x found

module _ (entries : List NameEntry) (sorts : VarId → Sort) where
  abbrev Fits : (N : VarId → Type 0) → Formula → Type 0
  Fits N f = SortsFit entries sorts N f

  fit_two : (g h : Formula) (N M : VarId → Type 0) → VarsUnder N M → (Fits M g → Fits N g)
      → (VarsUnder (Behind N g) (Behind M g) → Fits (Behind M g) h → Fits (Behind N g) h)
      → Fits M g × Fits (Behind M g) h → Fits N g × Fits (Behind N g) h
  fit_two g h N M more first second fit =
      (first fit.0, second (besides_under N M (InfersSort N g) (InfersSort M g) more (found_under g N M more)) fit.1)

  pub fit_under : (f : Formula) (N M : VarId → Type 0) → VarsUnder N M → Fits M f → Fits N f
  fit_under (True place) N M more fit = tt
  fit_under (False place) N M more fit = tt
  fit_under (Atom place name terms) N M more fit = fit
  fit_under (Equal place s t) N M more fit = λ either. fit
      (⊎_elim (λ first. inl (bound_under N M more s first)) (λ second. inr (bound_under N M more t second)) either)
  fit_under (Less place s t) N M more fit = fit
  fit_under (AtMost place s t) N M more fit = fit
  fit_under (Not place g) N M more fit = fit_under g N M more fit
  fit_under (And place g h) N M more fit =
      fit_two g h N M more (fit_under g N M more) (fit_under h (Behind N g) (Behind M g)) fit
  fit_under (Or place g h) N M more fit =
      fit_two g h N M more (fit_under g N M more) (fit_under h (Behind N g) (Behind M g)) fit
  fit_under (Implies place g h) N M more fit =
      fit_two g h N M more (fit_under g N M more) (fit_under h (Behind N g) (Behind M g)) fit
  fit_under (Exists place xs g) N M more fit = fit_under g N M more fit
  fit_under (Forall place xs g) N M more fit = fit_under g N M more fit
  fit_under (Prev place interval g) N M more fit = fit_under g N M more fit
  fit_under (Next place interval g) N M more fit = fit_under g N M more fit
  fit_under (Once place interval g) N M more fit = fit_under g N M more fit
  fit_under (Historically place interval g) N M more fit = fit_under g N M more fit
  fit_under (Since place interval g h) N M more fit =
      fit_two g h N M more (fit_under g N M more) (fit_under h (Behind N g) (Behind M g)) fit
  fit_under (Eventually place interval g) N M more fit = fit_under g N M more fit
  fit_under (Always place interval g) N M more fit = fit_under g N M more fit
  fit_under (Until place interval g h) N M more fit =
      fit_two g h N M more (fit_under g N M more) (fit_under h (Behind N g) (Behind M g)) fit

-- ---- whether a value fits is not left open

-- a sort is this one, where that is not false
stable : (a b : Sort) → Classically (a ≡ b) → a ≡ b
stable Int Int n = refl
stable Text Text n = refl
stable Int Text n = absurd (n (λ e. absurd (cc)))
stable Text Int n = absurd (n (λ e. absurd (cc)))

pub fits_stable : (sorts : VarId → Sort) (v : Valuation) (x : VarId) → Classically (ValueFits sorts v x)
    → ValueFits sorts v x
fits_stable sorts v x h value is = stable (value_sort value) (sorts x) (λ n. h (λ f. n (f value is)))
