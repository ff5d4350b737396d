-- What is in a list that was gathered came from one of the items.
use Rattle.obligations.proofs.Vocabulary.{Contains-append, here, later, none_in_nil, Step, no_values, subst, ⊎_elim, arith, refl, slice_get, Plan, Instance, Begun, Gathers, BegunByRoots}
use Rattle.std.specs.Prelude.{List, [], ◌∷◌, Contains, ◌≡◌, ℕ, suc, ◌+◌, Some}

-- ---- what is gathered

pub Gathers-contains : {X Y : Type 0} (P : X → List Y → Type 0) (xs : List X) (ys : List Y)
    (y : Y) → Gathers P xs ys
    → Contains ys y → (x : X) × Contains xs x × (some : List Y) × P x some × Contains some y
Gathers-contains {Y = Y} P [] ys y none there =
    absurd (none_in_nil y (subst (λ (l : List Y). Contains l y) none there))
Gathers-contains {Y = Y} P (x ∷ xs) ys y (first, rest, holds, others, are) there =
    ⊎_elim (λ front. (x, here x xs, first, holds, front))
    (λ back. let o = Gathers-contains P xs rest y others back in (o.0, later o.0 x xs o.1, o.2, o.3, o.4))
    (Contains-append first rest y (subst (λ (l : List Y). Contains l y) are there))

pub BegunByRoots-contains : (trace : List Step) (rule : ℕ) (plans : List Plan) (begun : List Instance) (i : Instance)
    → BegunByRoots trace rule plans begun → Contains begun i
    → (k : ℕ) × (plan : Plan) × (slice_get plans k ≡ Some plan) × (some : List Instance)
    × Begun trace (rule + k) plan no_values some × Contains some i
BegunByRoots-contains trace rule [] begun i none there =
    absurd (none_in_nil i (subst (λ (l : List Instance). Contains l i) none there))
BegunByRoots-contains trace rule (plan ∷ plans) begun i (first, rest, begins, others, are) there =
    ⊎_elim
    (λ front. (
      0,
      plan,
      refl,
      first,
      subst (λ (r : ℕ). Begun trace r plan no_values first) {x = rule} {y = rule + 0} (omega arith) begins,
      front,
    ))
    (λ back. let o = BegunByRoots-contains trace (suc rule) plans rest i others back in (
      suc o.0,
      o.1,
      o.2,
      o.3,
      subst (λ (r : ℕ). Begun trace r o.1 no_values o.3) {x = suc rule + o.0} {y = rule + suc o.0} (omega arith) o.4,
      o.5,
    ))
    (Contains-append first rest i (subst (λ (l : List Instance). Contains l i) are there))
