-- The operators on the past that are told by a table of the valuations under which they hold.
use Rattle.monitorable_guard.proofs.Vocabulary.{◌≡◌, ℕ, ◌⊎◌, ⊎_elim, List, [], ◌∷◌, Box, Contains, ◌↔◌, sym, subst, Global, Event, Interval, VarId, Valuation, Formula, IsFree, tree_of, Relation}
use Rattle.monitorable_guard.proofs.Vocabulary.{FirstGivesUnder, FitOperators, HoldsNow, FirstHas, outermost}
use Rattle.enf_formula.specs.declared.formulas.Formula as stored

-- it is a `prev`, a `once` or a `since`
abbrev pub IsTold : stored.Formula → Type 0
IsTold f = ((p : ℕ) × (interval : Interval) × (g : Box stored.Formula Global) × (f ≡ stored.Prev p interval g))
    ⊎ (((p : ℕ) × (interval : Interval) × (g : Box stored.Formula Global) × (f ≡ stored.Once p interval g))
    ⊎ ((p : ℕ) × (interval : Interval) × (g : Box stored.Formula Global) × (h : Box stored.Formula Global) × (f ≡ stored.Since p interval g h)))

module _ (tables : List Relation) where
  pub told_fit : (f : stored.Formula) → IsTold f → FitOperators (outermost (tree_of f)) tables → FitOperators (tree_of f ∷ []) tables
  told_fit f told = ⊎_elim
      (λ is. subst (λ k. FitOperators (outermost (tree_of k)) tables → FitOperators (tree_of k ∷ []) tables) (sym is.3) (λ fit. fit))
      (λ others. ⊎_elim
      (λ is. subst (λ k. FitOperators (outermost (tree_of k)) tables → FitOperators (tree_of k ∷ []) tables) (sym is.3) (λ fit. fit))
      (λ is. subst (λ k. FitOperators (outermost (tree_of k)) tables → FitOperators (tree_of k ∷ []) tables) (sym is.4) (λ fit. fit))
      others)
      told

  pub told_holds : (events : List Event) (u : Valuation) (f : stored.Formula) → IsTold f → HoldsNow events tables u (tree_of f) ↔ FirstHas tables u
  told_holds events u f told = ⊎_elim
      (λ is. subst (λ k. HoldsNow events tables u (tree_of k) ↔ FirstHas tables u) (sym is.3) (λ h. h, λ h. h))
      (λ others. ⊎_elim
      (λ is. subst (λ k. HoldsNow events tables u (tree_of k) ↔ FirstHas tables u) (sym is.3) (λ h. h, λ h. h))
      (λ is. subst (λ k. HoldsNow events tables u (tree_of k) ↔ FirstHas tables u) (sym is.4) (λ h. h, λ h. h))
      others)
      told

-- the free variables of the operator are columns of what is given
pub given_columns : (v : Valuation) (f : Formula) (tables : List Relation) → FitOperators (f ∷ []) tables → (given : Relation) → FirstGivesUnder tables v given → (x : VarId)
    → IsFree x f → Contains given.columns x
given_columns v f [] fit given gives x free = absurd gives
given_columns v f (t ∷ tables) fit given gives x free = subst (λ l. Contains l x) (sym gives.0) ((fit.0 x).1 free)
