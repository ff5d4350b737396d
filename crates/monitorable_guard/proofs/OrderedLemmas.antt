-- What the functions that put a formula in order hand on to each other.
use Rattle.monitorable_guard.proofs.Vocabulary.{◌≡◌, ◌^◌, ℕ, ◌+◌, ◌<◌, ◌≤◌, ◌⊎◌, inl, inr, ⊎_elim, List, [], ◌∷◌, ◌++◌, length, get_or, take, Contains, ◌↔◌, sym, ap, subst, ◌∙◌, arith, None, Result}
use Rattle.monitorable_guard.proofs.Vocabulary.{Ok, Err, IfOk, length-append, take_more, take-length, VarId, Formula, And, IsFree, Safe, outermost, True, False, Atom, Equal, Less, AtMost, Not, Or}
use Rattle.monitorable_guard.proofs.Vocabulary.{Implies, Exists, Forall, Prev, Next, Once, Historically, Since, Eventually, Always, Until, BoundOrFreeIn, formula_size}
use Rattle.monitorable_guard.proofs.ReorderingParts.{conjuncts_are}
use Rattle.monitorable_guard.proofs.SafetyLemmas.{safe_same}
use Rattle.monitorable_guard.proofs.TurnLemmas.{listed_known, turn_parted}
use Rattle.monitorable_guard.specs.machine.AskingOrder.{total_size}
use Rattle.monitorable_guard.specs.machine.Reordering.{PlacedFormula, EachPlaced, SomePlaced, conjuncts_from, AreSafeInTurn, IsReordered}
use Rattle.std.proofs.lemmas.List.Sums.{sum_by-append, sum_by_push}

-- ---- numbers of operators

pub room_left : (first : ℕ) (fs gs : List Formula) → first + length (fs ++ gs) < 2 ^ 64 → first + length fs < 2 ^ 64
room_left first fs gs room = omega (arith, room, length-append fs gs)

pub room_right : (first : ℕ) (fs gs : List Formula) → first + length (fs ++ gs) < 2 ^ 64 → (first + length fs) + length gs < 2 ^ 64
room_right first fs gs room = omega (arith, room, length-append fs gs)

pub conjuncts_room : (first : ℕ) (f : Formula) → first + length (outermost f) < 2 ^ 64 → EachPlaced (conjuncts_from first f) (λ p. p.first + length (outermost p.formula) < 2 ^ 64)
conjuncts_room first f room p there =
    let within : p.first + length (outermost p.formula) ≤ first + length (outermost f) = (conjuncts_are first f).within p there in
    omega (arith, within, room)

-- ---- the last of some

pub last_parts : {X : Type 0} (xs : List X) (before : ℕ) (x : X) → length xs ≡ before + 1 → x ≡ get_or xs before x → xs ≡ take before xs ++ x ∷ []
last_parts xs before x long at =
    let within : before < length xs = omega (arith, long) in
    sym (take-length xs) ∙ ap (λ n. take n xs) long ∙ take_more xs before x within ∙ ap (λ y. take before xs ++ y ∷ []) (sym at)

-- ---- a conjunction in turn

module _ (bound scope : List VarId) (ps : List PlacedFormula) (last : PlacedFormula) (a : Formula) (ns : List ℕ) (left : IsReordered ps a ns)
    (listed : (x : VarId) → Contains scope x ↔ BoundOrFreeIn (Contains bound) a x) where
  pub scope_of_turn : (x : VarId) → Contains bound x ⊎ SomePlaced ps (λ q. IsFree x q.formula) → Contains scope x
  scope_of_turn x either = (listed x).1 (⊎_elim (λ b. inl b) (λ some. inr ((left.free x).1 some)) either)

  pub last_safe : AreSafeInTurn (Contains bound) (ps ++ last ∷ []) → Safe last.formula (Contains scope)
  last_safe safe = (turn_parted ps last (Contains bound) (listed_known bound) safe).1 scope scope_of_turn

  pub conjunction_safe : (place : ℕ) (b : Formula) → Safe a (Contains bound) → Safe b (Contains scope) → Safe (And place a b) (Contains bound)
  conjunction_safe place b front back = (front, safe_same None b (Contains scope) (BoundOrFreeIn (Contains bound) a) listed back)

-- ---- what was made

module _ {A E : Type 0} (formula_in : A → Formula) (numbers_in : A → List ℕ) (r : Result A E) (made : Formula) (numbers : List ℕ) where
  pub ok_same : (ps : List PlacedFormula) → IsReordered ps made numbers → IfOk r (λ a. formula_in a ≡ made) → IfOk r (λ a. numbers_in a ≡ numbers)
      → IfOk r (λ a. IsReordered ps (formula_in a) (numbers_in a))
  ok_same ps told is are = by r is are
    where
      by : (s : Result A E) → IfOk s (λ a. formula_in a ≡ made) → IfOk s (λ a. numbers_in a ≡ numbers) → IfOk s (λ a. IsReordered ps (formula_in a) (numbers_in a))
      by (Ok a) e f = subst (λ g. IsReordered ps g (numbers_in a)) (sym e) (subst (IsReordered ps made) (sym f) told)
      by (Err x) e f = tt

pub ok_so : {A E : Type 0} (formula_in : A → Formula) (P : Formula → Type 0) (made : Formula) → P made → (r : Result A E) → IfOk r (λ a. formula_in a ≡ made) → IfOk r (λ a. P (formula_in a))
ok_so formula_in P made so (Ok a) is = subst P (sym is) so
ok_so formula_in P made so (Err e) is = tt

-- ---- sizes

pub size_some : (f : Formula) → 0 < formula_size f
size_some (True place) = omega arith
size_some (False place) = omega arith
size_some (Atom place name terms) = omega arith
size_some (Equal place s t) = omega arith
size_some (Less place s t) = omega arith
size_some (AtMost place s t) = omega arith
size_some (Not place g) = omega arith
size_some (And place g h) = omega arith
size_some (Or place g h) = omega arith
size_some (Implies place g h) = omega arith
size_some (Exists place xs g) = omega arith
size_some (Forall place xs g) = omega arith
size_some (Prev place interval g) = omega arith
size_some (Next place interval g) = omega arith
size_some (Once place interval g) = omega arith
size_some (Historically place interval g) = omega arith
size_some (Since place interval g h) = omega arith
size_some (Eventually place interval g) = omega arith
size_some (Always place interval g) = omega arith
size_some (Until place interval g h) = omega arith

pub last_size : (ps : List PlacedFormula) (p : PlacedFormula) → total_size (ps ++ p ∷ []) ≡ total_size ps + formula_size p.formula
last_size ps p = sum_by_push (λ (q : PlacedFormula). formula_size q.formula) ps p

pub conjuncts_large : (first : ℕ) (f : Formula) → 0 < total_size (conjuncts_from first f)
conjuncts_large first (And place g h) =
    let front = conjuncts_large first g in
    omega (arith, front, sum_by-append (λ (p : PlacedFormula). formula_size p.formula) (conjuncts_from first g) (conjuncts_from (first + length (outermost g)) h))
conjuncts_large first f = let some = size_some f in omega (arith, some)

pub some_by_size : (ps : List PlacedFormula) → 0 < total_size ps → 0 < length ps
some_by_size [] large = absurd (omega (arith, large))
some_by_size (p ∷ ps) large = omega arith
