-- Bindings one after another.
use Rattle.valuations.proofs.Vocabulary.{◌≡◌, ℕ, ◌+◌, ◌<◌, List, length, get_or, take, Some, sym, ap, ◌∙◌, Bor, fold_more, Valuation, value_at, VarId, Value, with_value, bound_by}
use Rattle.valuations.proofs.RowLaws.{value_at-bound, value_at-other}

-- ---- bindings one after another

bound_more : (base : Valuation) (bindings : List (VarId × Bor Value)) (i : ℕ) (b : VarId × Bor Value) → i < length bindings → b ≡ get_or bindings i b
    → bound_by base (take (i + 1) bindings) ≡ with_value (bound_by base (take i bindings)) b.0 b.1.now
bound_more base bindings i b within at = fold_more (λ v binding. with_value v binding.0 binding.1.now) base bindings i b within ∙ ap
    (λ (c : VarId × Bor Value). with_value (bound_by base (take i bindings)) c.0 c.1.now) (sym at)

module _ (base : Valuation) (bindings : List (VarId × Bor Value)) (i : ℕ) (b : VarId × Bor Value) (x : VarId) (within : i < length bindings) (at : b ≡ get_or bindings i b)
    (so_far : value_at (bound_by base bindings) x ≡ value_at (bound_by base (take (i + 1) bindings)) x) where
  pub bound_here : b.0 ≡ x → value_at (bound_by base bindings) x ≡ Some b.1.now
  bound_here same = so_far ∙ ap (λ v. value_at v x) (bound_more base bindings i b within at) ∙ value_at-bound (bound_by base (take i bindings)) b.0 x b.1.now same

  pub bound_before : (b.0 ≡ x → ⊥) → value_at (bound_by base bindings) x ≡ value_at (bound_by base (take i bindings)) x
  bound_before other = so_far ∙ ap (λ v. value_at v x) (bound_more base bindings i b within at) ∙ value_at-other (bound_by base (take i bindings)) b.0 x b.1.now other
