-- What the parts of a formula are asked under.
use Rattle.monitorable_guard.proofs.Vocabulary.{ℕ, ◌⊎◌, inl, inr, ⊎_elim, List, ◌++◌, None, Contains, ◌↔◌, Contains-append_left, Contains-append_right, Valuation, VarId, Formula, True, False, Atom}
use Rattle.monitorable_guard.proofs.Vocabulary.{Equal, Less, AtMost, Not, And, Or, Implies, Exists, Forall, Prev, Next, Once, Historically, Since, Eventually, Always, Until, among_or_not}
use Rattle.monitorable_guard.proofs.Vocabulary.{Contains-append, Relation, IsBoundBy, IsBoundOrFree, CanAskFormula, outermost, tables_beyond, BindsFresh, FreeWithin, BoundOrFreeIn}
use Rattle.monitorable_guard.proofs.AgreementLemmas.{fit_front, fit_back}
use Rattle.monitorable_guard.proofs.SafetyLemmas.{safe_same}

within_either : (S T U : VarId → Type 0) → ((x : VarId) → T x → S x) → (x : VarId) → T x ⊎ U x → S x ⊎ U x
within_either S T U less x either = ⊎_elim (λ t. inl (less x t)) (λ u. inr u) either

-- what binds fresh variables does so in a smaller scope
pub fresh_within : (f : Formula) (S T : VarId → Type 0) → ((x : VarId) → T x → S x) → BindsFresh f S → BindsFresh f T
fresh_within (True place) S T less fresh = tt
fresh_within (False place) S T less fresh = tt
fresh_within (Atom place name terms) S T less fresh = tt
fresh_within (Equal place s t) S T less fresh = tt
fresh_within (Less place s t) S T less fresh = tt
fresh_within (AtMost place s t) S T less fresh = tt
fresh_within (Not place g) S T less fresh = fresh_within g S T less fresh
fresh_within (And place g h) S T less fresh = (fresh_within g S T less fresh.0, fresh_within h S T less fresh.1)
fresh_within (Or place g h) S T less fresh = (fresh_within g S T less fresh.0, fresh_within h S T less fresh.1)
fresh_within (Implies place g h) S T less fresh = (fresh_within g S T less fresh.0, fresh_within h S T less fresh.1)
fresh_within (Exists place xs g) S T less fresh = (
  λ x there t. fresh.0 x there (less x t),
  fresh_within g (λ x. S x ⊎ Contains xs x) (λ x. T x ⊎ Contains xs x)
      (within_either S T (Contains xs) less) fresh.1,
)
fresh_within (Forall place xs g) S T less fresh = (
  λ x there t. fresh.0 x there (less x t),
  fresh_within g (λ x. S x ⊎ Contains xs x) (λ x. T x ⊎ Contains xs x)
      (within_either S T (Contains xs) less) fresh.1,
)
fresh_within (Prev place interval g) S T less fresh = fresh_within g S T less fresh
fresh_within (Next place interval g) S T less fresh = fresh_within g S T less fresh
fresh_within (Once place interval g) S T less fresh = fresh_within g S T less fresh
fresh_within (Historically place interval g) S T less fresh = fresh_within g S T less fresh
fresh_within (Since place interval g h) S T less fresh = (fresh_within g S T less fresh.0, fresh_within h S T less fresh.1)
fresh_within (Eventually place interval g) S T less fresh = fresh_within g S T less fresh
fresh_within (Always place interval g) S T less fresh = fresh_within g S T less fresh
fresh_within (Until place interval g h) S T less fresh = (fresh_within g S T less fresh.0, fresh_within h S T less fresh.1)

-- u has values for just the variables that v has values for and those that are free in g
abbrev pub BindsMore : Valuation → Formula → Valuation → Type 0
BindsMore v g u = (x : VarId) → IsBoundBy u x ↔ BoundOrFreeIn (IsBoundBy v) g x

pub binds_itself : (v : Valuation) (g : Formula) → FreeWithin g (IsBoundBy v) → BindsMore v g v
binds_itself v g within x = (λ b. inl b, λ either. ⊎_elim (λ b. b) (within x) either)

turned : (v : Valuation) (g : Formula) (u : Valuation) → BindsMore v g u → (x : VarId) → BoundOrFreeIn (IsBoundBy v) g x ↔ IsBoundBy u x
turned v g u more x = ((more x).1, (more x).0)

module _ (v : Valuation) (tables : List Relation) where
  pub ask_not : (p : ℕ) (g : Formula) → CanAskFormula v tables (Not p g) → CanAskFormula v tables g
  ask_not p g ask = record { safe = ask.safe.1; fresh = ask.fresh; tabled = ask.tabled }

  pub ask_and_left : (p : ℕ) (g h : Formula) → CanAskFormula v tables (And p g h) → CanAskFormula v tables g
  ask_and_left p g h ask = record {
    safe = ask.safe.0;
    fresh = fresh_within g (IsBoundOrFree v (And p g h)) (IsBoundOrFree v g) (λ x in_scope. ⊎_elim inl (λ free. inr (inl free)) in_scope) ask.fresh.0;
    tabled = fit_front (outermost g) (outermost h) tables ask.tabled;
  }

  pub ask_and_right : (p : ℕ) (g h : Formula) (u : Valuation) → BindsMore v g u → CanAskFormula v tables (And p g h) → CanAskFormula u (tables_beyond g tables) h
  ask_and_right p g h u more ask = record {
    safe = safe_same None h (BoundOrFreeIn (IsBoundBy v) g) (IsBoundBy u) (turned v g u more) ask.safe.1;
    fresh = fresh_within h (IsBoundOrFree v (And p g h)) (IsBoundOrFree u h) (λ x in_scope.
        ⊎_elim (λ b. ⊎_elim inl (λ free. inr (inl free)) ((more x).0 b)) (λ free. inr (inr free)) in_scope) ask.fresh.1;
    tabled = fit_back (outermost g) (outermost h) tables ask.tabled;
  }

  pub ask_or_left : (p : ℕ) (g h : Formula) → CanAskFormula v tables (Or p g h) → CanAskFormula v tables g
  ask_or_left p g h ask = record {
    safe = ask.safe.0;
    fresh = fresh_within g (IsBoundOrFree v (Or p g h)) (IsBoundOrFree v g) (λ x in_scope. ⊎_elim inl (λ free. inr (inl free)) in_scope) ask.fresh.0;
    tabled = fit_front (outermost g) (outermost h) tables ask.tabled;
  }

  pub ask_or_right : (p : ℕ) (g h : Formula) → CanAskFormula v tables (Or p g h) → CanAskFormula v (tables_beyond g tables) h
  ask_or_right p g h ask = record {
    safe = ask.safe.1;
    fresh = fresh_within h (IsBoundOrFree v (Or p g h)) (IsBoundOrFree v h) (λ x in_scope. ⊎_elim inl (λ free. inr (inr free)) in_scope) ask.fresh.1;
    tabled = fit_back (outermost g) (outermost h) tables ask.tabled;
  }

  pub ask_implies_left : (p : ℕ) (g h : Formula) → CanAskFormula v tables (Implies p g h) → CanAskFormula v tables g
  ask_implies_left p g h ask = record {
    safe = ask.safe.2;
    fresh = fresh_within g (IsBoundOrFree v (Implies p g h)) (IsBoundOrFree v g) (λ x in_scope. ⊎_elim inl (λ free. inr (inl free)) in_scope) ask.fresh.0;
    tabled = fit_front (outermost g) (outermost h) tables ask.tabled;
  }

  pub ask_implies_right : (p : ℕ) (g h : Formula) → CanAskFormula v tables (Implies p g h) → CanAskFormula v (tables_beyond g tables) h
  ask_implies_right p g h ask = record {
    safe = ask.safe.3;
    fresh = fresh_within h (IsBoundOrFree v (Implies p g h)) (IsBoundOrFree v h) (λ x in_scope. ⊎_elim inl (λ free. inr (inr free)) in_scope) ask.fresh.1;
    tabled = fit_back (outermost g) (outermost h) tables ask.tabled;
  }

  pub ask_exists : (p : ℕ) (xs : List VarId) (g : Formula) → CanAskFormula v tables (Exists p xs g) → CanAskFormula v tables g
  ask_exists p xs g ask = record {
    safe = ask.safe;
    fresh = fresh_within g (λ x. IsBoundOrFree v (Exists p xs g) x ⊎ Contains xs x) (IsBoundOrFree v g)
        (λ x in_scope. ⊎_elim (λ b. inl (inl b)) (λ free. ⊎_elim inr (λ absent. inl (inr (free, absent))) (among_or_not xs x)) in_scope) ask.fresh.1;
    tabled = ask.tabled;
  }

  pub ask_none : (p q : ℕ) (xs : List VarId) (g : Formula) → CanAskFormula v tables (Forall p xs (Not q g)) → CanAskFormula v tables g
  ask_none p q xs g ask = record {
    safe = ask.safe.1;
    fresh = fresh_within g (λ x. IsBoundOrFree v (Forall p xs (Not q g)) x ⊎ Contains xs x) (IsBoundOrFree v g)
        (λ x in_scope. ⊎_elim (λ b. inl (inl b)) (λ free. ⊎_elim inr (λ absent. inl (inr (free, absent))) (among_or_not xs x)) in_scope) ask.fresh.1;
    tabled = ask.tabled;
  }

  pub ask_range : (p q : ℕ) (xs : List VarId) (g h : Formula) → CanAskFormula v tables (Forall p xs (Implies q g h)) → CanAskFormula v tables g
  ask_range p q xs g h ask = record {
    safe = ask.safe.2;
    fresh = fresh_within g (λ x. IsBoundOrFree v (Forall p xs (Implies q g h)) x ⊎ Contains xs x) (IsBoundOrFree v g)
        (λ x in_scope. ⊎_elim (λ b. inl (inl b)) (λ free. ⊎_elim inr (λ absent. inl (inr (inl free, absent))) (among_or_not xs x)) in_scope) ask.fresh.1.0;
    tabled = fit_front (outermost g) (outermost h) tables ask.tabled;
  }

  pub ask_each : (p q : ℕ) (xs : List VarId) (g h : Formula) (u : Valuation) → BindsMore v g u → CanAskFormula v tables (Forall p xs (Implies q g h)) → CanAskFormula u (tables_beyond g tables) h
  ask_each p q xs g h u more ask = record {
    safe = safe_same None h (BoundOrFreeIn (IsBoundBy v) g) (IsBoundBy u) (turned v g u more) ask.safe.3;
    fresh = fresh_within h (λ x. IsBoundOrFree v (Forall p xs (Implies q g h)) x ⊎ Contains xs x) (IsBoundOrFree u h) (λ x in_scope. ⊎_elim
        (λ b. ⊎_elim (λ bound. inl (inl bound)) (λ free. ⊎_elim inr (λ absent. inl (inr (inl free, absent))) (among_or_not xs x)) ((more x).0 b))
        (λ free. ⊎_elim inr (λ absent. inl (inr (inr free, absent))) (among_or_not xs x))
        in_scope) ask.fresh.1.1;
    tabled = fit_back (outermost g) (outermost h) tables ask.tabled;
  }

  pub ask_nested : (p q : ℕ) (xs ys : List VarId) (g : Formula) → CanAskFormula v tables (Forall p xs (Forall q ys g)) → CanAskFormula v tables (Forall p (xs ++ ys) g)
  ask_nested p q xs ys g ask = record {
    safe = ask.safe;
    fresh = (
      λ x there in_scope. ⊎_elim
          (λ front. ask.fresh.0 x front (outer x in_scope))
          (λ back. ask.fresh.1.0 x back (inl (outer x in_scope)))
          (Contains-append xs ys x there),
      fresh_within g (λ x. (IsBoundOrFree v (Forall p xs (Forall q ys g)) x ⊎ Contains xs x) ⊎ Contains ys x) (λ x. IsBoundOrFree v (Forall p (xs ++ ys) g) x ⊎ Contains (xs ++ ys) x)
          (λ x either. ⊎_elim (λ in_scope. inl (inl (outer x in_scope))) (λ there. ⊎_elim (λ front. inl (inr front)) (λ back. inr back) (Contains-append xs ys x there)) either) ask.fresh.1.1,
    );
    tabled = ask.tabled;
  }
    where
      outer : (x : VarId) → IsBoundOrFree v (Forall p (xs ++ ys) g) x → IsBoundOrFree v (Forall p xs (Forall q ys g)) x
      outer x in_scope = ⊎_elim (λ b. inl b) (λ free. inr ((free.0, λ back. free.1 (Contains-append_right xs ys x back)), λ front. free.1 (Contains-append_left xs ys x front))) in_scope

  -- the place has no part in it
  pub and_anywhere : (p q : ℕ) (g h : Formula) → CanAskFormula v tables (And p g h) → CanAskFormula v tables (And q g h)
  and_anywhere p q g h ask = record { safe = ask.safe; fresh = ask.fresh; tabled = ask.tabled }

  pub or_anywhere : (p q : ℕ) (g h : Formula) → CanAskFormula v tables (Or p g h) → CanAskFormula v tables (Or q g h)
  or_anywhere p q g h ask = record { safe = ask.safe; fresh = ask.fresh; tabled = ask.tabled }
