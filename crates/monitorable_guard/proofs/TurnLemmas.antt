-- Formulas that can be evaluated one after another, each where the variables of those before it are bound too.
use Rattle.monitorable_guard.proofs.Vocabulary.{◌≡◌, ℕ, zero, suc, ◌+◌, ◌<◌, ◌≤◌, ◌⊎◌, inl, inr, ⊎_elim, List, [], ◌∷◌, ◌++◌, length, get_or, map, Contains, ◌↔◌, refl, sym, ap, subst, ◌∙◌, arith}
use Rattle.monitorable_guard.proofs.Vocabulary.{None, here, later, first_or_later, none_in_nil, among_or_not, VarId, Formula, And, IsFree, Safe, BoundOrFreeIn, outermost, formula_size, only_item}
use Rattle.monitorable_guard.proofs.Vocabulary.{Contains-append, Contains-append_left, Contains-append_right}
use Rattle.monitorable_guard.proofs.ReorderingParts.{conjuncts_are}
use Rattle.monitorable_guard.proofs.SafetyGrowth.{AreKnown, AreWithin, known_with, more_with, safe_grows}
use Rattle.monitorable_guard.specs.machine.AskingOrder.{total_size}
use Rattle.monitorable_guard.specs.machine.Reordering.{AreSafeInTurn, PlacedFormula, SomePlaced, conjuncts_from}
use Rattle.std.proofs.lemmas.List.Sums.{sum_by-append, sum_by-remove, sum_by_push}
use Rattle.std.specs.List.{remove}

pub listed_known : (xs : List VarId) → AreKnown (Contains xs)
listed_known xs x = among_or_not xs x

pub turn_grows : (ps : List PlacedFormula) (B C : VarId → Type 0) → AreWithin B C → AreKnown C → AreSafeInTurn B ps → AreSafeInTurn C ps
turn_grows [] B C more known safe = tt
turn_grows (p ∷ ps) B C more known safe = (
  safe_grows None p.formula B C more known safe.0,
  turn_grows ps (BoundOrFreeIn B p.formula) (BoundOrFreeIn C p.formula) (more_with B C p.formula more) (known_with C p.formula known) safe.1,
)

-- those behind may rest on the variables that those before bind
pub turn_joined : (ps qs : List PlacedFormula) (B C : VarId → Type 0) → AreKnown B → ((x : VarId) → C x → B x ⊎ SomePlaced ps (λ p. IsFree x p.formula))
    → AreSafeInTurn B ps → AreSafeInTurn C qs → AreSafeInTurn B (ps ++ qs)
turn_joined [] qs B C known less front back = turn_grows qs C B (λ x c. ⊎_elim (λ b. b) (λ some. absurd (none_in_nil some.0 some.1)) (less x c)) known back
turn_joined (p ∷ ps) qs B C known less front back = (
  front.0,
  turn_joined ps qs (BoundOrFreeIn B p.formula) C (known_with B p.formula known)
      (λ x c. ⊎_elim
      (λ b. inl (inl b))
      (λ some. ⊎_elim
      (λ same. inl (inr (subst (λ q. IsFree x q.formula) (sym same) some.2)))
      (λ behind. inr (some.0, behind, some.2))
      (first_or_later some.0 p ps some.1))
      (less x c))
      front.1 back,
)

-- the conjuncts of what can be evaluated
pub conjuncts_safe : (first : ℕ) (f : Formula) (B : VarId → Type 0) → AreKnown B → Safe f B → AreSafeInTurn B (conjuncts_from first f)
conjuncts_safe first (And place g h) B known safe = turn_joined (conjuncts_from first g) (conjuncts_from (first + length (outermost g)) h) B (BoundOrFreeIn B g) known
    (λ x either. ⊎_elim (λ b. inl b) (λ free. inr (((conjuncts_are first g).free x).1 free)) either)
    (conjuncts_safe first g B known safe.0) (conjuncts_safe (first + length (outermost g)) h (BoundOrFreeIn B g) (known_with B g known) safe.1)
conjuncts_safe first f B known safe = (safe, tt)

-- where one of them can be evaluated first, the others can after it
pub turn_removed : (ps : List PlacedFormula) (i : ℕ) (p : PlacedFormula) (B : VarId → Type 0) → AreKnown B → i < length ps → get_or ps i p ≡ p → Safe p.formula B → AreSafeInTurn B ps
    → AreSafeInTurn (BoundOrFreeIn B p.formula) (remove ps i)
turn_removed [] i p B known within at ready safe = absurd (omega (arith, within))
turn_removed (q ∷ ps) zero p B known within at ready safe = subst (λ (r : PlacedFormula). AreSafeInTurn (BoundOrFreeIn B r.formula) ps) at safe.1
turn_removed (q ∷ ps) (suc i) p B known within at ready safe =
    let more = BoundOrFreeIn B q.formula in
    let below = turn_removed ps i p more (known_with B q.formula known) (omega (arith, within)) at
    (safe_grows None p.formula B more (λ x b. inl b) (known_with B q.formula known) ready) safe.1 in (
      safe_grows None q.formula B (BoundOrFreeIn B p.formula) (λ x b. inl b) (known_with B p.formula known) safe.0,
      turn_grows (remove ps i) (BoundOrFreeIn more p.formula) (BoundOrFreeIn (BoundOrFreeIn B p.formula) q.formula)
          (λ x either. ⊎_elim (λ b. ⊎_elim (λ there. inl (inl there)) (λ free. inr free) b) (λ free. inl (inr free)) either)
          (known_with (BoundOrFreeIn B p.formula) q.formula (known_with B p.formula known)) below,
    )

-- the last of them, and those before it
pub turn_parted : (ps : List PlacedFormula) (p : PlacedFormula) (B : VarId → Type 0) → AreKnown B → AreSafeInTurn B (ps ++ p ∷ [])
    → AreSafeInTurn B ps × ((C : List VarId) → ((x : VarId) → B x ⊎ SomePlaced ps (λ q. IsFree x q.formula) → Contains C x) → Safe p.formula (Contains C))
turn_parted [] p B known safe = (tt, λ C more. safe_grows None p.formula B (Contains C) (λ x b. more x (inl b)) (listed_known C) safe.0)
turn_parted (q ∷ ps) p B known safe =
    let behind = turn_parted ps p (BoundOrFreeIn B q.formula) (known_with B q.formula known) safe.1 in (
      (safe.0, behind.0),
      λ C more. behind.1 C (λ x either. ⊎_elim
          (λ b. ⊎_elim (λ there. more x (inl there)) (λ free. more x (inr (q, here q ps, free))) b)
          (λ some. more x (inr (some.0, later some.0 q ps some.1, some.2)))
          either),
    )

-- ---- what is taken out of a list

pub removed_parts : {X : Type 0} (xs : List X) (i : ℕ) (x y : X) → i < length xs → get_or xs i x ≡ x → Contains xs y ↔ ((x ≡ y) ⊎ Contains (remove xs i) y)
removed_parts [] i x y within at = absurd (omega (arith, within))
removed_parts (z ∷ xs) zero x y within at = (
  λ there. ⊎_elim (λ same. inl (sym at ∙ same)) (λ behind. inr behind) (first_or_later y z xs there),
  λ either. ⊎_elim (λ same. subst (Contains (z ∷ xs)) (at ∙ same) (here z xs)) (λ behind. later y z xs behind) either,
)
removed_parts (z ∷ xs) (suc i) x y within at =
    let below = removed_parts xs i x y (omega (arith, within)) at in (
      λ there. ⊎_elim
          (λ same. inr (subst (Contains (z ∷ remove xs i)) same (here z (remove xs i))))
          (λ behind. ⊎_elim (λ same. inl same) (λ rest. inr (later y z (remove xs i) rest)) (below.0 behind))
          (first_or_later y z xs there),
      λ either. ⊎_elim
          (λ same. later y z xs (below.1 (inl same)))
          (λ there. ⊎_elim (λ same. subst (Contains (z ∷ xs)) same (here z xs)) (λ rest. later y z xs (below.1 (inr rest))) (first_or_later y z (remove xs i) there))
          either,
    )

pub map-remove : {X Y : Type 0} (f : X → Y) (xs : List X) (i : ℕ) → map f (remove xs i) ≡ remove (map f xs) i
map-remove f [] zero = refl
map-remove f [] (suc i) = refl
map-remove f (x ∷ xs) zero = refl
map-remove f (x ∷ xs) (suc i) = ap (λ l. f x ∷ l) (map-remove f xs i)

-- ---- sizes

pub conjuncts_size : (first : ℕ) (f : Formula) → total_size (conjuncts_from first f) ≤ formula_size f
conjuncts_size first (And place g h) =
    let front = conjuncts_size first g in
    let back = conjuncts_size (first + length (outermost g)) h in
    omega (arith, front, back, sum_by-append (λ (p : PlacedFormula). formula_size p.formula) (conjuncts_from first g) (conjuncts_from (first + length (outermost g)) h))
conjuncts_size first f = omega arith

pub conjuncts_smaller : (first place : ℕ) (g h : Formula) → total_size (conjuncts_from first (And place g h)) < formula_size (And place g h)
conjuncts_smaller first place g h =
    let front = conjuncts_size first g in
    let back = conjuncts_size (first + length (outermost g)) h in
    omega (arith, front, back, sum_by-append (λ (p : PlacedFormula). formula_size p.formula) (conjuncts_from first g) (conjuncts_from (first + length (outermost g)) h))

-- ---- a turn so far

-- some of all stand in turn, and the others are left, in order; the scope has the variables that those in turn bind
pub record TurnSoFar (bound scope : List VarId) (all turn left : List PlacedFormula) : Type 0 where
  pub safe : AreSafeInTurn (Contains bound) turn
  pub behind : AreSafeInTurn (Contains scope) left
  pub scoped : (x : VarId) → Contains scope x → Contains bound x ⊎ SomePlaced turn (λ p. IsFree x p.formula)
  pub same : (p : PlacedFormula) → Contains all p ↔ (Contains turn p ⊎ Contains left p)
  pub sizes : total_size turn + total_size left ≡ total_size all

pub turn_begins : (bound : List VarId) (all : List PlacedFormula) → AreSafeInTurn (Contains bound) all → TurnSoFar bound bound all [] all
turn_begins bound all safe = record {
  safe = tt;
  behind = safe;
  scoped = λ x there. inl there;
  same = λ p. (λ there. inr there, λ either. ⊎_elim (λ none. absurd (none_in_nil p none)) (λ there. there) either);
  sizes = omega arith;
}

module _ (bound scope next : List VarId) (all turn left : List PlacedFormula) (so_far : TurnSoFar bound scope all turn left) (i : ℕ) (p : PlacedFormula) (within : i < length left)
    (at : get_or left i p ≡ p) (ready : Safe p.formula (Contains scope)) (more : (x : VarId) → Contains next x ↔ BoundOrFreeIn (Contains scope) p.formula x) where
  pub turn_goes_on : TurnSoFar bound next all (turn ++ p ∷ []) (remove left i)
  turn_goes_on = record {
    safe = turn_joined turn (p ∷ []) (Contains bound) (Contains scope) (listed_known bound) so_far.scoped so_far.safe (ready, tt);
    behind = turn_grows (remove left i) (BoundOrFreeIn (Contains scope) p.formula) (Contains next) (λ x either. (more x).1 either) (listed_known next)
        (turn_removed left i p (Contains scope) (listed_known scope) within at ready so_far.behind);
    scoped = λ x there. ⊎_elim
        (λ old. ⊎_elim (λ b. inl b) (λ some. inr (some.0, Contains-append_left turn (p ∷ []) some.0 some.1, some.2)) (so_far.scoped x old))
        (λ free. inr (p, Contains-append_right turn (p ∷ []) p (here p []), free))
        ((more x).0 there);
    same = λ q. (
      λ there. ⊎_elim
          (λ front. inl (Contains-append_left turn (p ∷ []) q front))
          (λ back. ⊎_elim
          (λ same. inl (subst (Contains (turn ++ p ∷ [])) same (Contains-append_right turn (p ∷ []) p (here p []))))
          (λ rest. inr rest)
          ((removed_parts left i p q within at).0 back))
          ((so_far.same q).0 there),
      λ either. (so_far.same q).1 (⊎_elim
          (λ turned. ⊎_elim (λ front. inl front) (λ last. inr ((removed_parts left i p q within at).1 (inl (only_item p q last)))) (Contains-append turn (p ∷ []) q turned))
          (λ rest. inr ((removed_parts left i p q within at).1 (inr rest)))
          either),
    );
    sizes =
        let size = λ (q : PlacedFormula). formula_size q.formula in
        let out : total_size (remove left i) + size (get_or left i p) ≡ total_size left = sum_by-remove size left i p within in
        let is : size (get_or left i p) ≡ size p = ap size at in
        let pushed : total_size (turn ++ p ∷ []) ≡ total_size turn + size p = sum_by_push size turn p in
        let before : total_size turn + total_size left ≡ total_size all = so_far.sizes in
        omega (arith, out, is, pushed, before);
  }

module _ (bound scope : List VarId) (all turn left : List PlacedFormula) (so_far : TurnSoFar bound scope all turn left) (none : left ≡ []) where
  pub turn_same : (p : PlacedFormula) → Contains turn p ↔ Contains all p
  turn_same p = (
    λ there. (so_far.same p).1 (inl there),
    λ there. ⊎_elim (λ turned. turned) (λ behind. absurd (none_in_nil p (subst (λ l. Contains l p) none behind))) ((so_far.same p).0 there),
  )

  pub turn_size : total_size turn ≡ total_size all
  turn_size =
      let before : total_size turn + total_size left ≡ total_size all = so_far.sizes in
      let nothing : total_size left ≡ 0 = ap total_size none in
      omega (arith, before, nothing)
