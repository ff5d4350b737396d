-- Variables that are bound in turn.
use Rattle.formula_reader.proofs.Vocabulary.{◌≡◌, ◌≢◌, ◌<◌, ◌+◌, ◌∷◌, List, length, drop, get_or, Some, Result, Err, refl, ◌∙◌, drop-cons, add-one, ℕ, VariableSorts, IsRefusedPass, pass}
use Rattle.formula_reader.proofs.Vocabulary.{binder_points, variable_named, binder_refusal, PolicyRefusal, NoMemory, Binding, NameEntry, VarId}

-- a variable that is refused refuses those that are bound from it on
pub bind_refused : (entries : List NameEntry) (sorts : VariableSorts) (names : List (List ℕ)) (scope : List VarId) (xs : List Binding) (i : ℕ) (x : Binding)
    (whole : Result VariableSorts PolicyRefusal) (refusal : PolicyRefusal)
    → whole ≡ pass entries sorts (binder_points names scope (drop i xs)) → i < length xs → x ≡ get_or xs i x
    → (refusal ≢ NoMemory → binder_refusal x.place (variable_named names scope x.name) ≡ Some refusal)
    → IsRefusedPass refusal whole
bind_refused entries sorts names scope xs i x whole refusal e lt is refused = record {
  else = λ n.
      let h : drop i xs ≡ x ∷ drop (i + 1) xs = rw (add-one, drop-cons xs i x, ← is) refl in
      let k : pass entries sorts (binder_points names scope (drop i xs)) ≡ Err refusal = rw (h, refused n) refl in
      e ∙ k;
}
