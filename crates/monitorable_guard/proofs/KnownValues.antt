-- The values under which a safe formula holds come from known places.
use Rattle.monitorable_guard.proofs.Vocabulary.{◌≡◌, ℕ, ◌-◌, ◌⊎◌, inl, inr, ⊎_elim, List, [], ◌∷◌, Option, None, Some, Contains, refl, sym, ap, subst, ◌∙◌, arith, same_Some, none-some, step_at}
use Rattle.monitorable_guard.proofs.Vocabulary.{Valuation, value_at, value_of_term, values_of_terms, onto_values, with_values, Event, NameId, Step, Term, Var, Const, VarId, Value, Formula, True}
use Rattle.monitorable_guard.proofs.Vocabulary.{False, Atom, Equal, Less, AtMost, Not, And, Or, Implies, Exists, Forall, Prev, Next, Once, Historically, Since, Eventually, Always, Until, IsFree, Sat}
use Rattle.monitorable_guard.proofs.Vocabulary.{IsEventAmong, AreSameValues, Classically, AreSameValues-some, AreSameValues-sym, later, first_or_later, none_in_nil, among_or_not}
use Rattle.monitorable_guard.proofs.Vocabulary.{value_at-with_outside, Safe, BoundOrFreeIn, NoneBound, Assigns, BindsFresh, IsArgument, IsArgumentUpTo, IsFormulaConstant}
use Rattle.monitorable_guard.proofs.SafetyLaws.{below_within, historically_within}

-- where a condition that holds wherever its denial is false is shown from one of two cases
module _ (S : Value → Type 0) (stable : (value : Value) → Classically (S value) → S value) where
  -- the value of x under v, where it has one, is in S
  abbrev pub From : Valuation → VarId → Type 0
  From v x = (value : Value) → value_at v x ≡ Some value → S value

  pub from_stable : (v : Valuation) (x : VarId) → Classically (From v x) → From v x
  from_stable v x h value is = stable value (λ n. h (λ f. n (f value is)))

  argument_by : (first : Option Value) (rest : Option (List Value)) (args : List Value) (value : Value) → onto_values first rest ≡ Some args → (first ≡ Some value)
      ⊎ ((behind : List Value) → rest ≡ Some behind → Contains behind value) → Contains args value
  argument_by None rest args value is either = absurd (none-some args is)
  argument_by (Some a) None args value is either = absurd (none-some args is)
  argument_by (Some a) (Some behind) args value is either =
      subst (λ l. Contains l value) (same_Some (a ∷ behind) args is)
      (⊎_elim (λ e. (0, omega arith, same_Some a value e)) (λ h. later value a behind (h behind refl)) either)

  -- a variable among the terms has its value among their values
  argument_there : (v : Valuation) (terms : List Term) (args : List Value) (x : VarId) (value : Value) → values_of_terms v terms ≡ Some args → Contains terms (Var x) → value_at v x
      ≡ Some value → Contains args value
  argument_there v [] args x value is there at = absurd (none_in_nil (Var x) there)
  argument_there v (term ∷ terms) args x value is there at =
      argument_by (value_of_term v term) (values_of_terms v terms) args value is
      (⊎_elim (λ same. inl (ap (value_of_term v) same ∙ at)) (λ behind. inr (λ rest e. argument_there v terms rest x value e behind at)) (first_or_later (Var x) term terms there))

  pub among_arguments : (v : Valuation) (terms : List Term) (events : List Event) (name : NameId) (got : Option (List Value)) (x : VarId) (value : Value) → values_of_terms v terms ≡ got
      → IsEventAmong events name got → Contains terms (Var x) → value_at v x ≡ Some value → IsArgument events value
  among_arguments v terms events name None x value e holds there at = absurd holds
  among_arguments v terms events name (Some args) x value e holds there at = (record { name = name; args = args }, holds, argument_there v terms args x value e there at)

  variable_is : (x y : VarId) → Var x ≡ Var y → x ≡ y
  variable_is x y e = cc

  pub assigned : (B : VarId → Type 0) (v : Valuation) (s t : Term) → ((value : Value) → t ≡ Const value → S value) → ((x : VarId) → B x → From v x) → Assigns B s t
      → AreSameValues (value_of_term v s) (value_of_term v t) → (x : VarId) → (s ≡ Var x) ⊎ (t ≡ Var x) → From v x
  assigned B v (Var y) (Var z) constant bound opens same x free value is = ⊎_elim
      (λ first. bound z opens.1 value (AreSameValues-some (value_at v y) (value_at v z) value same (ap (value_at v) (variable_is y x first) ∙ is)))
      (λ second. bound z opens.1 value (ap (value_at v) (variable_is z x second) ∙ is))
      free
  assigned B v (Var y) (Const c) constant bound opens same x free value is = ⊎_elim
      (λ first. constant value (ap Const (same_Some c value (AreSameValues-some (value_at v y) (Some c) value same (ap (value_at v) (variable_is y x first) ∙ is)))))
      (λ second. absurd (cc))
      free
  assigned B v (Const c) t constant bound opens same x free value is = absurd opens

  module _ (trace : List Step) where
    pub known : (i : ℕ) (v : Valuation) (f : Formula) (B scope : VarId → Type 0) → Safe f B → BindsFresh f scope → ((x : VarId) → B x → scope x)
        → ((x : VarId) → IsFree x f → scope x) → ((value : Value) → IsArgumentUpTo trace i value → S value) → ((value : Value) → IsFormulaConstant value f → S value)
        → ((x : VarId) → B x → From v x) → Sat trace i v f → (x : VarId) → IsFree x f → From v x
    known i v (True place) B scope safe fresh in_scope free_scope argument constant bound sat x free = absurd free
    known i v (False place) B scope safe fresh in_scope free_scope argument constant bound sat x free = absurd free
    known i v (Atom place name terms) B scope safe fresh in_scope free_scope argument constant bound sat x free = λ value is. argument value
        (i, omega arith, among_arguments v terms (step_at trace i).events name (values_of_terms v terms) x value refl sat free is)
    known i v (Equal place s t) B scope safe fresh in_scope free_scope argument constant bound sat x free =
        ⊎_elim
        (λ within. bound x (within x free))
        (λ opens. ⊎_elim
        (λ first. assigned B v s t (λ value is. constant value (inr is)) bound first sat x free)
        (λ second. assigned B v t s (λ value is. constant value (inl is)) bound second (AreSameValues-sym _ _ sat) x (⊎_elim inr inl free))
        opens)
        safe
    known i v (Less place s t) B scope safe fresh in_scope free_scope argument constant bound sat x free = bound x (safe x free)
    known i v (AtMost place s t) B scope safe fresh in_scope free_scope argument constant bound sat x free = bound x (safe x free)
    known i v (Not place g) B scope safe fresh in_scope free_scope argument constant bound sat x free = bound x (safe.0 x free)
    known i v (And place g h) B scope safe fresh in_scope free_scope argument constant bound sat x free =
        let left = known i v g B scope safe.0 fresh.0 in_scope (λ y fg. free_scope y (inl fg)) argument (λ value is. constant value (inl is)) bound sat.0 in
        ⊎_elim (left x)
        (λ fh. known i v h (BoundOrFreeIn B g) scope safe.1 fresh.1 (λ y b. ⊎_elim (in_scope y) (λ fg. free_scope y (inl fg)) b) (λ y f. free_scope y (inr f)) argument
        (λ value is. constant value (inr is)) (λ y b. ⊎_elim (bound y) (left y) b) sat.1 x fh)
        free
    known i v (Or place g h) B scope safe fresh in_scope free_scope argument constant bound sat x free = from_stable v x (λ no.
        let alike = safe.2 x (λ b. no (bound x b)) in
        sat
        (λ holds. no (known i v g B scope safe.0 fresh.0 in_scope (λ y fg. free_scope y (inl fg)) argument (λ value is. constant value (inl is)) bound holds x (⊎_elim (λ fg. fg) alike.1 free)))
        (λ holds. no (known i v h B scope safe.1 fresh.1 in_scope (λ y fh. free_scope y (inr fh)) argument (λ value is. constant value (inr is)) bound holds x (⊎_elim alike.0 (λ fh. fh) free))))
    known i v (Implies place g h) B scope safe fresh in_scope free_scope argument constant bound sat x free = bound x (⊎_elim (safe.0 x) (safe.1 x) free)
    known i v (Exists place xs g) B scope safe fresh in_scope free_scope argument constant bound sat x free = from_stable v x (λ no. sat (λ some. no (λ value is.
        known i (with_values xs some.0 v) g B (λ y. scope y ⊎ Contains xs y) safe fresh.1 (λ y b. inl (in_scope y b))
        (λ y fg. ⊎_elim inr (λ absent. inl (free_scope y (fg, absent))) (among_or_not xs y)) argument constant
        (λ y b other at. bound y b other (sym (value_at-with_outside xs some.0 v y (λ there. fresh.0 y there (in_scope y b))) ∙ at))
        some.2 x free.0 value (value_at-with_outside xs some.0 v x free.1 ∙ is))))
    known i v (Forall place xs g) B scope safe fresh in_scope free_scope argument constant bound sat x free = bound x (below_within xs g B safe x free.0 free.1)
    known i v (Prev place interval g) B scope safe fresh in_scope free_scope argument constant bound sat x free =
        known (i - 1) v g NoneBound scope safe fresh (λ y b. absurd b) free_scope (λ value at. argument value (at.0, omega (arith, at.1), at.2)) constant (λ y b. absurd b) sat.2 x free
    known i v (Once place interval g) B scope safe fresh in_scope free_scope argument constant bound sat x free = from_stable v x (λ no. sat (λ some. no (
        known some.0 v g NoneBound scope safe fresh (λ y b. absurd b) free_scope (λ value at. argument value (at.0, omega (arith, at.1, some.1), at.2)) constant (λ y b. absurd b) some.3 x free)))
    known i v (Historically place interval g) B scope safe fresh in_scope free_scope argument constant bound sat x free = bound x (historically_within place interval g B safe x free)
    known i v (Since place interval g h) B scope safe fresh in_scope free_scope argument constant bound sat x free = from_stable v x (λ no. sat (λ some. no (
        known some.0 v h NoneBound scope safe.0 fresh.1 (λ y b. absurd b) (λ y fh. free_scope y (inr fh)) (λ value at. argument value (at.0, omega (arith, at.1, some.1), at.2))
        (λ value is. constant value (inr is)) (λ y b. absurd b) some.3 x
        (⊎_elim (λ fg. ⊎_elim (λ b. absurd b) (λ fh. fh) (safe.1 x fg)) (λ fh. fh) free))))
    known i v (Next place interval g) B scope safe fresh in_scope free_scope argument constant bound sat x free = absurd safe
    known i v (Eventually place interval g) B scope safe fresh in_scope free_scope argument constant bound sat x free = absurd safe
    known i v (Always place interval g) B scope safe fresh in_scope free_scope argument constant bound sat x free = absurd safe
    known i v (Until place interval g h) B scope safe fresh in_scope free_scope argument constant bound sat x free = absurd safe
