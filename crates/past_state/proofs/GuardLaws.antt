-- Laws of the guards of a past state: they have the formulas of the guards that it was made for, and the names of each
-- are among those of all.
use Rattle.past_state.proofs.Vocabulary.{NameId, ◌≡◌, List, [], ◌∷◌, map, refl, ℕ, zero, suc, Contains, subst, sym, Contains-append_left, Contains-append_right, none-some, same_Some, names_in_formula}
use Rattle.past_state.proofs.Vocabulary.{BoundFormula, PlacedGuard, AreCopies, tree_in, formulas_of_guards, IsGuard, guard_formula, guard_names}

pub copies_formulas : (guards : List BoundFormula) (placed : List PlacedGuard) → AreCopies guards placed
    → formulas_of_guards placed ≡ map tree_in guards
copies_formulas [] [] copies = refl
copies_formulas [] (q ∷ placed) copies = absurd copies
copies_formulas (h ∷ guards) [] copies = absurd copies
copies_formulas (h ∷ guards) (q ∷ placed) copies = λ i. copies.0 i ∷ copies_formulas guards placed copies.2 i

pub looks_at : (guards : List PlacedGuard) (number : ℕ) (g : PlacedGuard) (name : NameId) → IsGuard guards number g
    → Contains (names_in_formula (guard_formula g)) name → Contains (guard_names guards) name
looks_at [] number g name is there = absurd (none-some g is)
looks_at (h ∷ guards) zero g name is there =
    Contains-append_left (names_in_formula (guard_formula h)) (guard_names guards) name
    (subst (λ k. Contains (names_in_formula (guard_formula k)) name) (sym (same_Some h g is)) there)
looks_at (h ∷ guards) (suc number) g name is there =
    Contains-append_right (names_in_formula (guard_formula h)) (guard_names guards) name
    (looks_at guards number g name is there)
