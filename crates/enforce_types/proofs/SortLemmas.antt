-- What a safe formula finds, and the sorts of the values under which it holds.
use Rattle.enforce_types.proofs.Vocabulary.{◌≡◌, ℕ, ◌-◌, ◌⊎◌, inl, inr, ⊎_elim, List, [], ◌∷◌, Option, None, Some, Contains, refl, sym, ap, subst, ◌∙◌, same_Some, none-some, step_at, Valuation}
use Rattle.enforce_types.proofs.Vocabulary.{value_at, value_of_term, values_of_terms, onto_values, with_values, Event, NameId, Step, Term, Var, Const, VarId, Value, variable_is, Formula, True, False}
use Rattle.enforce_types.proofs.Vocabulary.{Atom, Equal, Less, AtMost, Not, And, Or, Implies, Exists, Forall, Prev, Next, Once, Historically, Since, Eventually, Always, Until, IsFree, Sat}
use Rattle.enforce_types.proofs.Vocabulary.{IsEventAmong, AreSameValues, AreSameValues-some, AreSameValues-sym, first_or_later, none_in_nil, among_or_not, value_at-with_outside, Assigns, NoneBound}
use Rattle.enforce_types.proofs.Vocabulary.{Safe, BoundOrFreeIn, BindsFresh, IsBoundIn, FillColumns, FitsSignature, entry_columns, value_sort, NameEntry, Sort, Besides, FillSorts, SortsFit}
use Rattle.enforce_types.proofs.Vocabulary.{InfersSort, TakesSort, TraceFits, ValueFits, term_sort, below_within, historically_within}
use Rattle.std.specs.Prelude.{slice_get}
use Rattle.enforce_types.proofs.FoundSorts.{VarsUnder, fit_under, fits_stable, nothing_under}

-- ---- a safe formula finds its free variables

found_assigned : (B N : VarId → Type 0) → VarsUnder B N → (s t : Term) → Assigns B s t → (x : VarId) → (s ≡ Var x) ⊎ (t ≡ Var x) → N x ⊎ TakesSort N s t x
found_assigned B N more (Var y) (Var z) opens x side = ⊎_elim (λ first. inr (first, more z opens.1)) (λ second. inl (subst N (variable_is z x second) (more z opens.1))) side
found_assigned B N more (Var y) (Const value) opens x side = ⊎_elim (λ first. inr (first, tt)) (λ second. absurd (cc)) side
found_assigned B N more (Const value) t opens x side = absurd opens

-- with those of N found before, what is found by two operands in turn
in_turn : (g h : Formula) (N : VarId → Type 0) (x : VarId)
    → Besides (Besides N (InfersSort N g)) (InfersSort (Besides N (InfersSort N g)) h) x → N x
    ⊎ (InfersSort N g x ⊎ InfersSort (Besides N (InfersSort N g)) h x)
in_turn g h N x either = ⊎_elim (λ before. ⊎_elim (λ n. inl n) (λ first. inr (inl first)) before) (λ second. inr (inr second)) either

first_of : (N P Q : VarId → Type 0) (x : VarId) → N x ⊎ P x → N x ⊎ (P x ⊎ Q x)
first_of N P Q x either = ⊎_elim (λ n. inl n) (λ first. inr (inl first)) either

pub finds : (f : Formula) (B N : VarId → Type 0) → Safe f B → VarsUnder B N → (x : VarId) → IsFree x f → Besides N (InfersSort N f) x
finds (True place) B N safe more x free = absurd free
finds (False place) B N safe more x free = absurd free
finds (Atom place name terms) B N safe more x free = inr free
finds (Equal place s t) B N safe more x free =
    ⊎_elim
    (λ within. inl (more x (within x free)))
    (λ opens. ⊎_elim
    (λ first. ⊎_elim (λ n. inl n) (λ takes. inr (inl takes)) (found_assigned B N more s t first x free))
    (λ second. ⊎_elim (λ n. inl n) (λ takes. inr (inr takes)) (found_assigned B N more t s second x (⊎_elim (λ l. inr l) (λ r. inl r) free)))
    opens)
    safe
finds (Less place s t) B N safe more x free = inl (more x (safe x free))
finds (AtMost place s t) B N safe more x free = inl (more x (safe x free))
finds (Not place g) B N safe more x free = inl (more x (safe.0 x free))
finds (And place g h) B N safe more x free =
    ⊎_elim (λ fg. first_of N (InfersSort N g) (InfersSort (Besides N (InfersSort N g)) h) x (finds g B N safe.0 more x fg))
    (λ fh. in_turn g h N x (finds h (BoundOrFreeIn B g) (Besides N (InfersSort N g)) safe.1 (λ y b. ⊎_elim (λ at. inl (more y at)) (λ fg. finds g B N safe.0 more y fg) b) x fh))
    free
finds (Or place g h) B N safe more x free =
    ⊎_elim (λ fg. first_of N (InfersSort N g) (InfersSort (Besides N (InfersSort N g)) h) x (finds g B N safe.0 more x fg))
    (λ fh. in_turn g h N x (finds h B (Besides N (InfersSort N g)) safe.1 (λ y b. inl (more y b)) x fh))
    free
finds (Implies place g h) B N safe more x free = inl (more x (⊎_elim (safe.0 x) (safe.1 x) free))
finds (Exists place xs g) B N safe more x free = finds g B N safe more x free.0
finds (Forall place xs g) B N safe more x free = inl (more x (below_within xs g B safe x free.0 free.1))
finds (Prev place interval g) B N safe more x free = finds g NoneBound N safe (nothing_under N) x free
finds (Once place interval g) B N safe more x free = finds g NoneBound N safe (nothing_under N) x free
finds (Historically place interval g) B N safe more x free = inl (more x (historically_within place interval g B safe x free))
finds (Since place interval g h) B N safe more x free =
    in_turn g h N x (finds h NoneBound (Besides N (InfersSort N g)) safe.0 (nothing_under (Besides N (InfersSort N g))) x
    (⊎_elim (λ fg. ⊎_elim (λ never. absurd never) (λ fh. fh) (safe.1 x fg)) (λ fh. fh) free))
finds (Next place interval g) B N safe more x free = absurd safe
finds (Eventually place interval g) B N safe more x free = absurd safe
finds (Always place interval g) B N safe more x free = absurd safe
finds (Until place interval g h) B N safe more x free = absurd safe

-- ---- sorts of values

module _ (entries : List NameEntry) (sorts : VarId → Sort) where
  -- the values of terms fill columns that the terms fill: so each variable among them has a value of its sort
  in_columns : (v : Valuation) (term : Term) (terms : List Term) (args : List Value) (column : Sort)
      (cols : List Sort) (first : Option Value) (rest : Option (List Value)) → value_of_term v term ≡ first
      → values_of_terms v terms ≡ rest → onto_values first rest ≡ Some args
      → FillSorts sorts (term ∷ terms) (column ∷ cols) → FillColumns args (column ∷ cols) → (x : VarId) → (term ≡ Var x) ⊎ Contains terms (Var x)
      → ((behind : List Value) → values_of_terms v terms ≡ Some behind → FillColumns behind cols → Contains terms (Var x) → ValueFits sorts v x) → ValueFits sorts v x
  in_columns v term terms args column cols None rest is_first is_rest is fill filled x either later = absurd (none-some args is)
  in_columns v term terms args column cols (Some a) None is_first is_rest is fill filled x either later = absurd (none-some args is)
  in_columns v term terms args column cols (Some a) (Some behind) is_first is_rest is fill filled x either later =
      let cells : FillColumns (a ∷ behind) (column ∷ cols) = subst (λ l. FillColumns l (column ∷ cols)) (sym (same_Some (a ∷ behind) args is)) filled in
      ⊎_elim
      (λ same value at. ap value_sort (same_Some value a (sym at ∙ sym (ap (value_of_term v) same) ∙ is_first)) ∙ cells.0 ∙ sym fill.0 ∙ ap (term_sort sorts) same)
      (λ there. later behind is_rest cells.1 there)
      either

  -- the values of terms fill columns that the terms fill, so each variable among the terms has a value of its sort
  in_column : (v : Valuation) (terms : List Term) (args : List Value) (cols : List Sort) → values_of_terms v terms
      ≡ Some args → FillSorts sorts terms cols → FillColumns args cols → (x : VarId)
      → Contains terms (Var x) → ValueFits sorts v x
  in_column v [] args cols is fill filled x there = absurd (none_in_nil (Var x) there)
  in_column v (term ∷ terms) args [] is fill filled x there = absurd fill
  in_column v (term ∷ terms) args (column ∷ cols) is fill filled x there =
      in_columns v term terms args column cols (value_of_term v term) (values_of_terms v terms) refl refl is fill filled x (first_or_later (Var x) term terms there)
      (λ behind is_rest cells among. in_column v terms behind cols is_rest fill.1 cells x among)

  of_event : (v : Valuation) (terms : List Term) (events : List Event) (name : NameId) (got : Option (List Value)) → ((event : Event) → Contains events event → FitsSignature entries event)
      → values_of_terms v terms ≡ got → IsEventAmong events name got → FillSorts sorts terms (entry_columns (slice_get entries name.0)) → (x : VarId) → Contains terms (Var x) → ValueFits sorts v x
  of_event v terms events name None fit is holds fill x there = absurd holds
  of_event v terms events name (Some args) fit is holds fill x there =
      let f = fit (record { name = name; args = args }) holds in
      in_column v terms args f.0.sorts is (subst (λ found. FillSorts sorts terms (entry_columns found)) f.1 fill) f.2 x there

  -- the value that an equation gives is of the sort of the other side
  assigned : (B N : VarId → Type 0) (v : Valuation) (s t : Term) → VarsUnder B N
      → (IsBoundIn N t → term_sort sorts s ≡ term_sort sorts t)
      → ((x : VarId) → B x → ValueFits sorts v x) → Assigns B s t
      → AreSameValues (value_of_term v s) (value_of_term v t)
      → (x : VarId) → (s ≡ Var x) ⊎ (t ≡ Var x) → ValueFits sorts v x
  assigned B N v (Var y) (Var z) more fit bound opens same x free value is = ⊎_elim
      (λ first. bound z opens.1 value (AreSameValues-some (value_at v y) (value_at v z) value same
      (ap (value_at v) (variable_is y x first) ∙ is)) ∙ sym (fit (more z opens.1)) ∙ ap sorts
      (variable_is y x first))
      (λ second. bound z opens.1 value (ap (value_at v) (variable_is z x second) ∙ is) ∙ ap sorts (variable_is z x second))
      free
  assigned B N v (Var y) (Const c) more fit bound opens same x free value is = ⊎_elim
      (λ first. ap value_sort (sym (same_Some c value (AreSameValues-some (value_at v y) (Some c) value same
      (ap (value_at v) (variable_is y x first) ∙ is)))) ∙ sym (fit tt) ∙ ap sorts (variable_is y x first))
      (λ second. absurd (cc))
      free
  assigned B N v (Const c) t more fit bound opens same x free value is = absurd opens

  module _ (trace : List Step) (trace_fits : (i : ℕ) (event : Event) → Contains (step_at trace i).events event → FitsSignature entries event) where
    pub fits : (i : ℕ) (v : Valuation) (f : Formula) (B N scope : VarId → Type 0) → Safe f B
        → BindsFresh f scope → VarsUnder B scope → ((x : VarId) → IsFree x f → scope x) → VarsUnder B N
        → SortsFit entries sorts N f
        → ((x : VarId) → B x → ValueFits sorts v x) → Sat trace i v f → (x : VarId) → IsFree x f → ValueFits sorts v x
    fits i v (True place) B N scope safe fresh in_scope free_scope more fit bound sat x free = absurd free
    fits i v (False place) B N scope safe fresh in_scope free_scope more fit bound sat x free = absurd free
    fits i v (Atom place name terms) B N scope safe fresh in_scope free_scope more fit bound sat x free = of_event v
        terms (step_at trace i).events name (values_of_terms v terms) (trace_fits i) refl sat fit x free
    fits i v (Equal place s t) B N scope safe fresh in_scope free_scope more fit bound sat x free =
        ⊎_elim
        (λ within. bound x (within x free))
        (λ opens. ⊎_elim
        (λ first. assigned B N v s t more (λ known. fit (inr known)) bound first sat x free)
        (λ second. assigned B N v t s more (λ known. sym (fit (inl known))) bound second (AreSameValues-sym _ _ sat) x (⊎_elim (λ l. inr l) (λ r. inl r) free))
        opens)
        safe
    fits i v (Less place s t) B N scope safe fresh in_scope free_scope more fit bound sat x free = bound x (safe x free)
    fits i v (AtMost place s t) B N scope safe fresh in_scope free_scope more fit bound sat x free = bound x (safe x free)
    fits i v (Not place g) B N scope safe fresh in_scope free_scope more fit bound sat x free = bound x (safe.0 x free)
    fits i v (And place g h) B N scope safe fresh in_scope free_scope more fit bound sat x free =
        let left = fits i v g B N scope safe.0 fresh.0 in_scope (λ y fg. free_scope y (inl fg)) more fit.0 bound sat.0 in
        ⊎_elim (left x)
        (λ fh. fits i v h (BoundOrFreeIn B g) (Besides N (InfersSort N g)) scope safe.1 fresh.1 (λ y b. ⊎_elim (in_scope y) (λ fg. free_scope y (inl fg)) b) (λ y f. free_scope y (inr f))
        (λ y b. ⊎_elim (λ at. inl (more y at)) (λ fg. finds g B N safe.0 more y fg) b) fit.1 (λ y b. ⊎_elim (bound y) (left y) b) sat.1 x fh)
        free
    fits i v (Or place g h) B N scope safe fresh in_scope free_scope more fit bound sat x free = fits_stable sorts v x (λ no.
        let alike = safe.2 x (λ b. no (bound x b)) in
        sat
        (λ holds. no (fits i v g B N scope safe.0 fresh.0 in_scope (λ y fg. free_scope y (inl fg)) more fit.0 bound holds x (⊎_elim (λ fg. fg) alike.1 free)))
        (λ holds. no (fits i v h B N scope safe.1 fresh.1 in_scope (λ y fh. free_scope y (inr fh)) more
        (fit_under entries sorts h N (Besides N (InfersSort N g)) (λ y n. inl n) fit.1) bound holds x
        (⊎_elim alike.0 (λ fh. fh) free))))
    fits i v (Implies place g h) B N scope safe fresh in_scope free_scope more fit bound sat x free = bound x (⊎_elim (safe.0 x) (safe.1 x) free)
    fits i v (Exists place xs g) B N scope safe fresh in_scope free_scope more fit bound sat x free = fits_stable sorts v x (λ no. sat (λ some. no (λ value is.
        fits i (with_values xs some.0 v) g B N (λ y. scope y ⊎ Contains xs y) safe fresh.1
        (λ y b. inl (in_scope y b)) (λ y fg. ⊎_elim (λ there. inr there)
        (λ absent. inl (free_scope y (fg, absent))) (among_or_not xs y)) more fit
        (λ y b other at. bound y b other (sym (value_at-with_outside xs some.0 v y (λ there. fresh.0 y there (in_scope y b))) ∙ at))
        some.2 x free.0 value (value_at-with_outside xs some.0 v x free.1 ∙ is))))
    fits i v (Forall place xs g) B N scope safe fresh in_scope free_scope more fit bound sat x free = bound x (below_within xs g B safe x free.0 free.1)
    fits i v (Prev place interval g) B N scope safe fresh in_scope free_scope more fit bound sat x free =
        fits (i - 1) v g NoneBound N scope safe fresh (λ y b. absurd b) free_scope (nothing_under N) fit (λ y b. absurd b) sat.2 x free
    fits i v (Once place interval g) B N scope safe fresh in_scope free_scope more fit bound sat x free = fits_stable sorts v x (λ no. sat (λ some. no (
        fits some.0 v g NoneBound N scope safe fresh (λ y b. absurd b) free_scope (nothing_under N) fit (λ y b. absurd b) some.3 x free)))
    fits i v (Historically place interval g) B N scope safe fresh in_scope free_scope more fit bound sat x free = bound x (historically_within place interval g B safe x free)
    fits i v (Since place interval g h) B N scope safe fresh in_scope free_scope more fit bound sat x free = fits_stable sorts v x (λ no. sat (λ some. no (
        fits some.0 v h NoneBound (Besides N (InfersSort N g)) scope safe.0 fresh.1 (λ y b. absurd b)
        (λ y fh. free_scope y (inr fh)) (nothing_under (Besides N (InfersSort N g))) fit.1 (λ y b. absurd b)
        some.3 x
        (⊎_elim (λ fg. ⊎_elim (λ b. absurd b) (λ fh. fh) (safe.1 x fg)) (λ fh. fh) free))))
    fits i v (Next place interval g) B N scope safe fresh in_scope free_scope more fit bound sat x free = absurd safe
    fits i v (Eventually place interval g) B N scope safe fresh in_scope free_scope more fit bound sat x free = absurd safe
    fits i v (Always place interval g) B N scope safe fresh in_scope free_scope more fit bound sat x free = absurd safe
    fits i v (Until place interval g h) B N scope safe fresh in_scope free_scope more fit bound sat x free = absurd safe

pub values_fit : (entries : List NameEntry) (sorts : VarId → Sort) (trace : List Step) (i : ℕ) (f : Formula)
    (bound found : List VarId) (v : Valuation) → TraceFits entries trace → Safe f (Contains bound)
    → BindsFresh f (λ x. Contains bound x ⊎ IsFree x f) → VarsUnder (Contains bound) (Contains found)
    → SortsFit entries sorts (Contains found) f → ((x : VarId) → Contains bound x → ValueFits sorts v x)
    → Sat trace i v f → (x : VarId) → IsFree x f → ValueFits sorts v x
values_fit entries sorts trace i f bound found v trace_fits safe fresh more fit given sat x free =
    fits entries sorts trace trace_fits i v f (Contains bound) (Contains found) (λ y. Contains bound y ⊎ IsFree y f) safe fresh (λ y b. inl b) (λ y b. inr b) more fit given sat x free
