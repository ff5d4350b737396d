use Rattle.monitorable_guard.proofs.Vocabulary.{◌≡◌, ◌+◌, ◌<◌, ◌↔◌, List, Option, None, Contains, length, sym, ap, subst, ◌∙◌, arith, rules, length-map, VarId, tree_of, outermost, ◌^◌}
use Rattle.monitorable_guard.proofs.Vocabulary.{◌-◌, length-take-le, Formula, BoundOrFreeIn, formula_size, Not, And, Or, Implies, Exists, Forall, Safe, SafeBelow, ℕ, [], ◌∷◌, ◌++◌, get_or, take, here}
use Rattle.monitorable_guard.proofs.Vocabulary.{Contains-append_left, Contains-append_right, ⊎_elim, inl, inr}
use Rattle.monitorable_guard.proofs.OrderedLemmas.{room_left, room_right, conjuncts_room, conjuncts_large, some_by_size, last_parts, last_safe, conjunction_safe, ok_same, ok_so, size_some, last_size}
use Rattle.monitorable_guard.proofs.OrderedSafety.{not_part, exists_part, forall_part, and_whole, and_below, or_parts, implies_parts, not_again, exists_again, forall_again, or_again, implies_again}
use Rattle.monitorable_guard.proofs.ReorderingLemmas.{as_given, and_reordered}
use Rattle.monitorable_guard.proofs.ReorderingParts.{whole_reordered, or_reordered, implies_reordered, not_reordered, exists_reordered, forall_reordered}
use Rattle.monitorable_guard.proofs.SafetyLemmas.{safe_same}
use Rattle.monitorable_guard.proofs.TurnLemmas.{listed_known, conjuncts_safe, conjuncts_smaller, turn_parted}
use Rattle.monitorable_guard.specs.machine.AskingOrder.{placed_conjunct, placed_conjuncts, total_size}
use Rattle.monitorable_guard.specs.machine.Reordering.{AreSafeInTurn, EachPlaced, PlacedFormula, conjuncts_from, only_formula, IsReordered}
use Rattle.monitorable_guard.specs.declared.order.Conjunct.{Conjunct}
use Rattle.std.proofs.lemmas.List.{map-append}
use Rattle.monitorable_guard.proofs.order.+ordering.Goals as goal

-- ---- a conjunction

pub ordered-in_turn-requires : goal.ordered-in_turn-requires
ordered-in_turn-requires t c =
    let B = Contains c.args.bound.now in
    let safe = rw (c.in-And.is) at c.requires.safe in
    let whole = and_whole safe.0 c.in-And.field-0 (tree_of c.in-And.field-1.value) (tree_of c.in-And.field-2.value) B safe.1 in
    subst (AreSafeInTurn B) (sym c.in_ok-all-in-And.ensures)
    (conjuncts_safe c.args.first (tree_of c.args.formula.now) B (listed_known c.args.bound.now) (subst (λ k. Safe (tree_of k) B) (sym c.in-And.is) whole))

pub ordered-ordered_turn-requires : goal.ordered-ordered_turn-requires
ordered-ordered_turn-requires t c =
    let f = tree_of c.args.formula.now in
    let slice = c.as_slice.result.now in
    let placed_same : placed_conjuncts slice ≡ placed_conjuncts c.in_ok-turn-in-And.turn.items = ap placed_conjuncts c.as_slice.ensures.value in
    let size : total_size (placed_conjuncts slice) ≡ total_size (conjuncts_from c.args.first f) =
    ap total_size placed_same ∙ c.in_ok-turn-in-And.ensures.size ∙ ap total_size c.in_ok-all-in-And.ensures in
    let small : total_size (conjuncts_from c.args.first f) < formula_size f = subst (λ k. total_size (conjuncts_from c.args.first (tree_of k)) < formula_size (tree_of k)) (sym c.in-And.is)
    (conjuncts_smaller c.args.first c.in-And.field-0 (tree_of c.in-And.field-1.value) (tree_of c.in-And.field-2.value)) in
    let large = conjuncts_large c.args.first f in
    let some : 0 < length (placed_conjuncts slice) = some_by_size (placed_conjuncts slice) (omega (arith, size, large)) in
    let lifted : (p : PlacedFormula) → Contains (placed_conjuncts slice) p → Contains (conjuncts_from c.args.first f) p =
    λ p there. subst (λ l. Contains l p) c.in_ok-all-in-And.ensures ((c.in_ok-turn-in-And.ensures.same p).0 (subst (λ l. Contains l p) placed_same there)) in (
      omega (arith, size, small),
      (
        omega (arith, some, length-map slice placed_conjunct),
        (
          λ p there. conjuncts_room c.args.first f c.requires.room p (lifted p there),
          subst (AreSafeInTurn (Contains c.args.bound.now)) (sym placed_same) c.in_ok-turn-in-And.ensures.safe,
        ),
      ),
    )

pub ordered-returns-in_ok-turned-in-And-clause-same : goal.ordered-returns-in_ok-turned-in-And-clause-same
ordered-returns-in_ok-turned-in-And-clause-same t c =
    let f = tree_of c.args.formula.now in
    let same : (p : PlacedFormula) → Contains (placed_conjuncts c.as_slice.result.now) p ↔ Contains (conjuncts_from c.args.first f) p =
    λ p. subst (λ l. Contains (placed_conjuncts c.as_slice.result.now) p ↔ Contains l p) c.in_ok-all-in-And.ensures
    (subst (λ l. Contains (placed_conjuncts l) p ↔ Contains (placed_conjuncts c.in_ok-all-in-And.all.items) p) (sym c.as_slice.ensures.value) (c.in_ok-turn-in-And.ensures.same p)) in
    let a = c.in_ok-turned-in-And.turned.asked in
    whole_reordered c.args.first f (placed_conjuncts c.as_slice.result.now) (tree_of a.formula) a.numbers.items same c.in_ok-turned-in-And.ensures.same

pub ordered-returns-in_ok-turned-in-And-clause-safe : goal.ordered-returns-in_ok-turned-in-And-clause-safe
ordered-returns-in_ok-turned-in-And-clause-safe t c = λ above safe. and_below above c.in-And.field-0 (tree_of c.in-And.field-1.value) (tree_of c.in-And.field-2.value)
    (tree_of c.in_ok-turned-in-And.turned.asked.formula) (Contains c.args.bound.now) c.in_ok-turned-in-And.ensures.safe
    (subst (λ k. SafeBelow above (tree_of k) (Contains c.args.bound.now)) c.in-And.is safe)

-- ---- two parts

pub ordered-ordered_either-requires : goal.ordered-ordered_either-requires
ordered-ordered_either-requires t c =
    let room = rw (c.in-Or.is, ← c.deref.ensures, ← c.deref-in-Or.ensures) at c.requires.room in
    let safe = rw (c.in-Or.is, ← c.deref.ensures, ← c.deref-in-Or.ensures) at c.requires.safe in
    let parts = or_parts safe.0 c.in-Or.place (tree_of c.deref.result.now) (tree_of c.deref-in-Or.result.now) (Contains c.args.bound.now) safe.1 in
    (search rules, (room, (parts.0, parts.1)))

pub ordered-returns-in-Or-clause-same : goal.ordered-returns-in-Or-clause-same
ordered-returns-in-Or-clause-same t c = rw (c.in-Or.is, ← c.deref.ensures, ← c.deref-in-Or.ensures) c.ordered_either.ensures.same

pub ordered-returns-in-Or-clause-safe : goal.ordered-returns-in-Or-clause-safe
ordered-returns-in-Or-clause-safe t c = rw (c.in-Or.is, ← c.deref.ensures, ← c.deref-in-Or.ensures) c.ordered_either.ensures.safe

pub ordered-ordered_condition-requires : goal.ordered-ordered_condition-requires
ordered-ordered_condition-requires t c =
    let room = rw (c.in-Implies.is, ← c.deref-in-Implies.ensures, ← c.deref-in-Implies-2.ensures) at c.requires.room in
    let safe = rw (c.in-Implies.is, ← c.deref-in-Implies.ensures, ← c.deref-in-Implies-2.ensures) at c.requires.safe in
    let parts = implies_parts safe.0 c.in-Implies.place (tree_of c.deref-in-Implies.result.now) (tree_of c.deref-in-Implies-2.result.now) (Contains c.args.bound.now)
    (listed_known c.args.bound.now) safe.1 in
    (search rules, (room, (parts.0, parts.1)))

pub ordered-returns-in-Implies-clause-same : goal.ordered-returns-in-Implies-clause-same
ordered-returns-in-Implies-clause-same t c = rw (c.in-Implies.is, ← c.deref-in-Implies.ensures, ← c.deref-in-Implies-2.ensures) c.ordered_condition.ensures.same

pub ordered-returns-in-Implies-clause-safe : goal.ordered-returns-in-Implies-clause-safe
ordered-returns-in-Implies-clause-safe t c = rw (c.in-Implies.is, ← c.deref-in-Implies.ensures, ← c.deref-in-Implies-2.ensures) c.ordered_condition.ensures.safe

-- ---- one part

pub ordered-ordered-requires : goal.ordered-ordered-requires
ordered-ordered-requires t c =
    let room = rw (c.in-Not.is, ← c.deref-in-Not.ensures) at c.requires.room in
    let safe = rw (c.in-Not.is, ← c.deref-in-Not.ensures) at c.requires.safe in
    (search rules, (room, (None, not_part safe.0 c.in-Not.place (tree_of c.deref-in-Not.result.now) (Contains c.args.bound.now) safe.1)))

pub ordered-returns-in_ok-part-in-Not-clause-same : goal.ordered-returns-in_ok-part-in-Not-clause-same
ordered-returns-in_ok-part-in-Not-clause-same t c =
    let part = c.in_ok-part-in-Not.part in
    rw (c.in-Not.is, ← c.deref-in-Not.ensures)
    (ok_same (λ a. tree_of a.formula) (λ a. a.numbers.items) c.not.result (Not c.in-Not.place (tree_of part.formula)) part.numbers.items
    (only_formula c.args.first (Not c.in-Not.place (tree_of c.deref-in-Not.result.now)))
    (not_reordered c.args.first (tree_of c.deref-in-Not.result.now) (tree_of part.formula) part.numbers.items c.in_ok-part-in-Not.ensures.same c.in-Not.place)
    c.not.ensures.formula c.not.ensures.numbers)

pub ordered-returns-in_ok-part-in-Not-clause-safe : goal.ordered-returns-in_ok-part-in-Not-clause-safe
ordered-returns-in_ok-part-in-Not-clause-safe t c =
    let part = c.in_ok-part-in-Not.part in
    let g = tree_of c.deref-in-Not.result.now in
    let B = Contains c.args.bound.now in
    rw (c.in-Not.is, ← c.deref-in-Not.ensures)
    (ok_so (λ a. tree_of a.formula) (λ k. (above : Option (List VarId)) → SafeBelow above (Not c.in-Not.place g) B → SafeBelow above k B) (Not c.in-Not.place (tree_of part.formula))
    (λ above safe. not_again c.args.first g (tree_of part.formula) part.numbers.items c.in_ok-part-in-Not.ensures.same B above c.in-Not.place (c.in_ok-part-in-Not.ensures.safe None
    (not_part above c.in-Not.place g B safe)) safe)
    c.not.result c.not.ensures.formula)

pub ordered-ordered-requires-in-Exists : goal.ordered-ordered-requires-in-Exists
ordered-ordered-requires-in-Exists t c =
    let room = rw (c.in-Exists.is, ← c.deref-in-Exists.ensures) at c.requires.room in
    let safe = rw (c.in-Exists.is, ← c.deref-in-Exists.ensures) at c.requires.safe in
    (search rules, (room, (None, exists_part safe.0 c.in-Exists.place c.in-Exists.xs (tree_of c.deref-in-Exists.result.now) (Contains c.args.bound.now) safe.1)))

pub ordered-returns-in_ok-part-in-Exists-clause-same : goal.ordered-returns-in_ok-part-in-Exists-clause-same
ordered-returns-in_ok-part-in-Exists-clause-same t c =
    let part = c.in_ok-part-in-Exists.part in
    rw (c.in-Exists.is, ← c.deref-in-Exists.ensures)
    (ok_same (λ a. tree_of a.formula) (λ a. a.numbers.items) c.exists.result (Exists c.in-Exists.place c.in-Exists.xs (tree_of part.formula)) part.numbers.items
    (only_formula c.args.first (Exists c.in-Exists.place c.in-Exists.xs (tree_of c.deref-in-Exists.result.now)))
    (exists_reordered c.args.first (tree_of c.deref-in-Exists.result.now) (tree_of part.formula) part.numbers.items c.in_ok-part-in-Exists.ensures.same c.in-Exists.place c.in-Exists.xs)
    c.exists.ensures.formula c.exists.ensures.numbers)

pub ordered-returns-in_ok-part-in-Exists-clause-safe : goal.ordered-returns-in_ok-part-in-Exists-clause-safe
ordered-returns-in_ok-part-in-Exists-clause-safe t c =
    let part = c.in_ok-part-in-Exists.part in
    let g = tree_of c.deref-in-Exists.result.now in
    let B = Contains c.args.bound.now in
    rw (c.in-Exists.is, ← c.deref-in-Exists.ensures)
    (ok_so (λ a. tree_of a.formula) (λ k. (above : Option (List VarId)) → SafeBelow above (Exists c.in-Exists.place c.in-Exists.xs g) B → SafeBelow above k B) (Exists c.in-Exists.place
    c.in-Exists.xs (tree_of part.formula))
    (λ above safe. exists_again c.args.first g (tree_of part.formula) part.numbers.items c.in_ok-part-in-Exists.ensures.same B above c.in-Exists.place c.in-Exists.xs
    (c.in_ok-part-in-Exists.ensures.safe None (exists_part above c.in-Exists.place c.in-Exists.xs g B safe)) safe)
    c.exists.result c.exists.ensures.formula)

pub ordered-ordered-requires-in-Forall : goal.ordered-ordered-requires-in-Forall
ordered-ordered-requires-in-Forall t c =
    let room = rw (c.in-Forall.is, ← c.deref-in-Forall.ensures) at c.requires.room in
    let safe = rw (c.in-Forall.is, ← c.deref-in-Forall.ensures) at c.requires.safe in
    (search rules, (room, forall_part safe.0 c.in-Forall.place c.in-Forall.xs (tree_of c.deref-in-Forall.result.now) (Contains c.args.bound.now) safe.1))

pub ordered-returns-in_ok-part-in-Forall-clause-same : goal.ordered-returns-in_ok-part-in-Forall-clause-same
ordered-returns-in_ok-part-in-Forall-clause-same t c =
    let part = c.in_ok-part-in-Forall.part in
    rw (c.in-Forall.is, ← c.deref-in-Forall.ensures)
    (ok_same (λ a. tree_of a.formula) (λ a. a.numbers.items) c.forall.result (Forall c.in-Forall.place c.in-Forall.xs (tree_of part.formula)) part.numbers.items
    (only_formula c.args.first (Forall c.in-Forall.place c.in-Forall.xs (tree_of c.deref-in-Forall.result.now)))
    (forall_reordered c.args.first (tree_of c.deref-in-Forall.result.now) (tree_of part.formula) part.numbers.items c.in_ok-part-in-Forall.ensures.same c.in-Forall.place c.in-Forall.xs)
    c.forall.ensures.formula c.forall.ensures.numbers)

pub ordered-returns-in_ok-part-in-Forall-clause-safe : goal.ordered-returns-in_ok-part-in-Forall-clause-safe
ordered-returns-in_ok-part-in-Forall-clause-safe t c =
    let part = c.in_ok-part-in-Forall.part in
    let g = tree_of c.deref-in-Forall.result.now in
    let B = Contains c.args.bound.now in
    rw (c.in-Forall.is, ← c.deref-in-Forall.ensures)
    (ok_so (λ a. tree_of a.formula) (λ k. (above : Option (List VarId)) → SafeBelow above (Forall c.in-Forall.place c.in-Forall.xs g) B → SafeBelow above k B) (Forall c.in-Forall.place
    c.in-Forall.xs (tree_of part.formula))
    (λ above safe. forall_again c.args.first g (tree_of part.formula) part.numbers.items c.in_ok-part-in-Forall.ensures.same B c.in_ok-part-in-Forall.ensures.safe above c.in-Forall.place
    c.in-Forall.xs safe)
    c.forall.result c.forall.ensures.formula)

-- ---- as it is given

pub ordered-returns-in_default-clause-same : goal.ordered-returns-in_default-clause-same
ordered-returns-in_default-clause-same t c = ok_same (λ a. tree_of a.formula) (λ a. a.numbers.items) c.given.result (tree_of c.args.formula.now) _
    (only_formula c.args.first (tree_of c.args.formula.now)) (as_given c.args.first (tree_of c.args.formula.now)) c.given.ensures.formula c.given.ensures.numbers

pub ordered-returns-in_default-clause-safe : goal.ordered-returns-in_default-clause-safe
ordered-returns-in_default-clause-safe t c = ok_so (λ a. tree_of a.formula)
    (λ k. (above : Option (List VarId)) → SafeBelow above (tree_of c.args.formula.now) (Contains c.args.bound.now) → SafeBelow above k (Contains c.args.bound.now))
    (tree_of c.args.formula.now) (λ above safe. safe) c.given.result c.given.ensures.formula

-- ---- ordered_either

pub ordered_either-ordered-requires : goal.ordered_either-ordered-requires
ordered_either-ordered-requires t c =
    (search rules, (room_left c.args.first (outermost (tree_of c.args.g.now)) (outermost (tree_of c.args.h.now)) c.requires.room, (None, c.requires.left)))

pub ordered_either-operators-requires : goal.ordered_either-operators-requires
ordered_either-operators-requires t c =
    let room = room_left c.args.first (outermost (tree_of c.args.g.now)) (outermost (tree_of c.args.h.now)) c.requires.room in
    omega (arith, room)

pub ordered_either-ordered-requires-2 : goal.ordered_either-ordered-requires-2
ordered_either-ordered-requires-2 t c =
    let room = room_right c.args.first (outermost (tree_of c.args.g.now)) (outermost (tree_of c.args.h.now)) c.requires.room in
    (search rules, (subst (λ n. c.args.first + n + length (outermost (tree_of c.args.h.now)) < 2 ^ 64) (sym c.operators.ensures) room, (None, c.requires.right)))

pub ordered_either-returns-clause-same : goal.ordered_either-returns-clause-same
ordered_either-returns-clause-same t c =
    let g = tree_of c.args.g.now in
    let h = tree_of c.args.h.now in
    let right = subst (λ n. IsReordered (only_formula (c.args.first + n) h) (tree_of c.in_ok-right.right.formula) c.in_ok-right.right.numbers.items) c.operators.ensures
    c.in_ok-right.ensures.same in
    ok_same (λ a. tree_of a.formula) (λ a. a.numbers.items) c.or.result _ _ (only_formula c.args.first (Or c.args.place g h))
    (or_reordered c.args.first g h (tree_of c.in_ok-left.left.formula) (tree_of c.in_ok-right.right.formula) c.in_ok-left.left.numbers.items c.in_ok-right.right.numbers.items
    c.in_ok-left.ensures.same right c.args.place) c.or.ensures.formula c.or.ensures.numbers

pub ordered_either-returns-clause-safe : goal.ordered_either-returns-clause-safe
ordered_either-returns-clause-safe t c =
    let g = tree_of c.args.g.now in
    let h = tree_of c.args.h.now in
    let B = Contains c.args.bound.now in
    let right = subst (λ n. IsReordered (only_formula (c.args.first + n) h) (tree_of c.in_ok-right.right.formula) c.in_ok-right.right.numbers.items) c.operators.ensures
    c.in_ok-right.ensures.same in
    ok_so (λ a. tree_of a.formula) (λ k. (above : Option (List VarId)) → SafeBelow above (Or c.args.place g h) B → SafeBelow above k B) _
    (λ above safe. or_again c.args.first g h (tree_of c.in_ok-left.left.formula) (tree_of c.in_ok-right.right.formula) c.in_ok-left.left.numbers.items c.in_ok-right.right.numbers.items
    c.in_ok-left.ensures.same right B above c.args.place (c.in_ok-left.ensures.safe None c.requires.left) (c.in_ok-right.ensures.safe None c.requires.right) safe)
    c.or.result c.or.ensures.formula

-- ---- ordered_condition

pub ordered_condition-ordered-requires : goal.ordered_condition-ordered-requires
ordered_condition-ordered-requires t c =
    (search rules, (room_left c.args.first (outermost (tree_of c.args.g.now)) (outermost (tree_of c.args.h.now)) c.requires.room, (None, c.requires.left)))

pub ordered_condition-operators-requires : goal.ordered_condition-operators-requires
ordered_condition-operators-requires t c =
    let room = room_left c.args.first (outermost (tree_of c.args.g.now)) (outermost (tree_of c.args.h.now)) c.requires.room in
    omega (arith, room)

-- the second part can be evaluated in the scope as it is listed
scope_safe : (h : Formula) (g : Formula) (bound scope listed : List VarId) → listed ≡ scope → ((x : VarId) → Contains scope x ↔ BoundOrFreeIn (Contains bound) g x)
    → Safe h (BoundOrFreeIn (Contains bound) g) ↔ Safe h (Contains listed)
scope_safe h g bound scope listed is are =
    let told = subst (λ l. (x : VarId) → Contains l x ↔ BoundOrFreeIn (Contains bound) g x) (sym is) are in (
      λ safe. safe_same None h (BoundOrFreeIn (Contains bound) g) (Contains listed) (λ x. ((told x).1, (told x).0)) safe,
      λ safe. safe_same None h (Contains listed) (BoundOrFreeIn (Contains bound) g) told safe,
    )

pub ordered_condition-ordered-requires-2 : goal.ordered_condition-ordered-requires-2
ordered_condition-ordered-requires-2 t c =
    let room = room_right c.args.first (outermost (tree_of c.args.g.now)) (outermost (tree_of c.args.h.now)) c.requires.room in (
      search rules,
      (
        subst (λ n. c.args.first + n + length (outermost (tree_of c.args.h.now)) < 2 ^ 64) (sym c.operators.ensures) room,
        (
          None,
          (scope_safe (tree_of c.args.h.now) (tree_of c.args.g.now) c.args.bound.now c.in_ok-scope.scope.items c.as_slice.result.now c.as_slice.ensures.value c.in_ok-scope.ensures).0 c.requires.right,
        ),
      ),
    )

pub ordered_condition-returns-clause-same : goal.ordered_condition-returns-clause-same
ordered_condition-returns-clause-same t c =
    let g = tree_of c.args.g.now in
    let h = tree_of c.args.h.now in
    let right = subst (λ n. IsReordered (only_formula (c.args.first + n) h) (tree_of c.in_ok-right.right.formula) c.in_ok-right.right.numbers.items) c.operators.ensures
    c.in_ok-right.ensures.same in
    ok_same (λ a. tree_of a.formula) (λ a. a.numbers.items) c.implies.result _ _ (only_formula c.args.first (Implies c.args.place g h))
    (implies_reordered c.args.first g h (tree_of c.in_ok-left.left.formula) (tree_of c.in_ok-right.right.formula) c.in_ok-left.left.numbers.items c.in_ok-right.right.numbers.items
    c.in_ok-left.ensures.same right c.args.place) c.implies.ensures.formula c.implies.ensures.numbers

pub ordered_condition-returns-clause-safe : goal.ordered_condition-returns-clause-safe
ordered_condition-returns-clause-safe t c =
    let g = tree_of c.args.g.now in
    let h = tree_of c.args.h.now in
    let B = Contains c.args.bound.now in
    let b = tree_of c.in_ok-right.right.formula in
    let right = subst (λ n. IsReordered (only_formula (c.args.first + n) h) b c.in_ok-right.right.numbers.items) c.operators.ensures
    c.in_ok-right.ensures.same in
    let scoped = scope_safe h g c.args.bound.now c.in_ok-scope.scope.items c.as_slice.result.now c.as_slice.ensures.value c.in_ok-scope.ensures in
    let back = scope_safe b g c.args.bound.now c.in_ok-scope.scope.items c.as_slice.result.now c.as_slice.ensures.value c.in_ok-scope.ensures in
    ok_so (λ a. tree_of a.formula) (λ k. (above : Option (List VarId)) → SafeBelow above (Implies c.args.place g h) B → SafeBelow above k B) _
    (λ above safe. implies_again c.args.first g h (tree_of c.in_ok-left.left.formula) b c.in_ok-left.left.numbers.items c.in_ok-right.right.numbers.items
    c.in_ok-left.ensures.same right B above c.args.place (c.in_ok-left.ensures.safe None c.requires.left) (back.1 (c.in_ok-right.ensures.safe None (scoped.0 c.requires.right))) safe)
    c.implies.result c.implies.ensures.formula

-- ---- ordered_turn

-- so many that a usize counts them
abbrev HasRoom : PlacedFormula → Type 0
HasRoom p = p.first + length (outermost p.formula) < 2 ^ 64

-- those before the last, and it
module _ (turn : List Conjunct) (before : ℕ) (last : Conjunct) (long : length turn ≡ before + 1) (at : last ≡ get_or turn before last) where
  turn_parts : placed_conjuncts turn ≡ placed_conjuncts (take before turn) ++ placed_conjunct last ∷ []
  turn_parts = ap placed_conjuncts (last_parts turn before last long at) ∙ map-append placed_conjunct (take before turn) (last ∷ [])

  lone_turn : before ≡ 0 → placed_conjuncts turn ≡ placed_conjunct last ∷ []
  lone_turn none = turn_parts ∙ ap (λ n. placed_conjuncts (take n turn) ++ placed_conjunct last ∷ []) none

  last_room : EachPlaced (placed_conjuncts turn) HasRoom → HasRoom (placed_conjunct last)
  last_room room = room (placed_conjunct last) (subst (λ l. Contains l (placed_conjunct last)) (sym turn_parts)
      (Contains-append_right (placed_conjuncts (take before turn)) (placed_conjunct last ∷ []) (placed_conjunct last) (here (placed_conjunct last) [])))

  front_room : EachPlaced (placed_conjuncts turn) HasRoom → EachPlaced (placed_conjuncts (take before turn)) HasRoom
  front_room room p there = room p (subst (λ l. Contains l p) (sym turn_parts) (Contains-append_left (placed_conjuncts (take before turn)) (placed_conjunct last ∷ []) p there))

  parts_safe : (bound : List VarId) → AreSafeInTurn (Contains bound) (placed_conjuncts turn)
      → AreSafeInTurn (Contains bound) (placed_conjuncts (take before turn) ++ placed_conjunct last ∷ [])
  parts_safe bound safe = subst (AreSafeInTurn (Contains bound)) turn_parts safe

  front_safe : (bound : List VarId) → AreSafeInTurn (Contains bound) (placed_conjuncts turn) → AreSafeInTurn (Contains bound) (placed_conjuncts (take before turn))
  front_safe bound safe = (turn_parted (placed_conjuncts (take before turn)) (placed_conjunct last) (Contains bound) (listed_known bound) (parts_safe bound safe)).0

  parts_size : total_size (placed_conjuncts turn) ≡ total_size (placed_conjuncts (take before turn)) + formula_size (tree_of last.formula.now)
  parts_size = ap total_size turn_parts ∙ last_size (placed_conjuncts (take before turn)) (placed_conjunct last)

-- the scope of the last as it is listed
turn_scope : (bound scope items : List VarId) (a : Formula) → scope ≡ items → ((x : VarId) → Contains items x ↔ BoundOrFreeIn (Contains bound) a x)
    → (x : VarId) → Contains scope x ↔ BoundOrFreeIn (Contains bound) a x
turn_scope bound scope items a is told = subst (λ l. (x : VarId) → Contains l x ↔ BoundOrFreeIn (Contains bound) a x) (sym is) told

before_last : (turn : List Conjunct) → 0 < length turn → length turn ≡ (length turn - 1) + 1
before_last turn some = omega (arith, some)

pub ordered_turn-ordered-requires : goal.ordered_turn-ordered-requires
ordered_turn-ordered-requires t c =
    let turn = c.args.turn.now in
    let last = c.index-turn-before.result in
    let before = length turn - 1 in
    let long = before_last turn c.requires.some in
    let sizes = parts_size turn before last long c.index-turn-before.is in
    let safe = subst (AreSafeInTurn (Contains c.args.bound.now)) (lone_turn turn before last long c.index-turn-before.is c.if-before-eq0.true) c.requires.safe in
    (omega (arith, sizes), (last_room turn before last long c.index-turn-before.is c.requires.room, (None, safe.0)))

pub ordered_turn-returns-then-before-eq0-clause-same : goal.ordered_turn-returns-then-before-eq0-clause-same
ordered_turn-returns-then-before-eq0-clause-same t c =
    let turn = c.args.turn.now in
    let a = c.in_ok-asked.asked in
    let lone = lone_turn turn (length turn - 1) c.index-turn-before.result (before_last turn c.requires.some) c.index-turn-before.is c.if-before-eq0.true in
    subst (λ ps. IsReordered ps (tree_of a.formula) a.numbers.items) (sym lone) c.in_ok-asked.ensures.same

pub ordered_turn-returns-then-before-eq0-clause-safe : goal.ordered_turn-returns-then-before-eq0-clause-safe
ordered_turn-returns-then-before-eq0-clause-safe t c =
    let turn = c.args.turn.now in
    let lone = lone_turn turn (length turn - 1) c.index-turn-before.result (before_last turn c.requires.some) c.index-turn-before.is c.if-before-eq0.true in
    let safe = subst (AreSafeInTurn (Contains c.args.bound.now)) lone c.requires.safe in
    c.in_ok-asked.ensures.safe None safe.0

pub ordered_turn-ordered_turn-requires : goal.ordered_turn-ordered_turn-requires
ordered_turn-ordered_turn-requires t c =
    let turn = c.args.turn.now in
    let last = c.index-turn-before.result in
    let before = length turn - 1 in
    let long = before_last turn c.requires.some in
    let sizes = parts_size turn before last long c.index-turn-before.is in
    let some = size_some (tree_of last.formula.now) in
    let front = length-take-le before turn (omega (arith, long)) in (
      omega (arith, sizes, some),
      (
        omega (arith, front, c.if-before-eq0.false),
        (front_room turn before last long c.index-turn-before.is c.requires.room, front_safe turn before last long c.index-turn-before.is c.args.bound.now c.requires.safe),
      ),
    )

pub ordered_turn-ordered-requires-2 : goal.ordered_turn-ordered-requires-2
ordered_turn-ordered-requires-2 t c =
    let turn = c.args.turn.now in
    let bound = c.args.bound.now in
    let last = c.index-turn-before.result in
    let before = length turn - 1 in
    let long = before_last turn c.requires.some in
    let sizes = parts_size turn before last long c.index-turn-before.is in
    let a = tree_of c.in_ok-left.left.asked.formula in
    let listed = turn_scope bound c.as_slice.result.now c.in_ok-left.left.scope.items a c.as_slice.ensures.value c.in_ok-left.ensures.scope in
    let safe = last_safe bound c.as_slice.result.now (placed_conjuncts (take before turn)) (placed_conjunct last) a c.in_ok-left.left.asked.numbers.items c.in_ok-left.ensures.same listed
    (parts_safe turn before last long c.index-turn-before.is bound c.requires.safe) in
    (omega (arith, sizes), (last_room turn before last long c.index-turn-before.is c.requires.room, (None, safe)))

pub ordered_turn-returns-clause-same : goal.ordered_turn-returns-clause-same
ordered_turn-returns-clause-same t c =
    let turn = c.args.turn.now in
    let last = c.index-turn-before.result in
    let before = length turn - 1 in
    let long = before_last turn c.requires.some in
    let a = tree_of c.in_ok-left.left.asked.formula in
    let b = tree_of c.in_ok-right.right.formula in
    let ns = c.in_ok-left.left.asked.numbers.items in
    let ms = c.in_ok-right.right.numbers.items in
    let place = c.place-place.result in
    let made = c.in_ok-asked-2.asked in
    let joined = and_reordered (placed_conjuncts (take before turn)) (placed_conjunct last ∷ []) a b ns ms c.in_ok-left.ensures.same c.in_ok-right.ensures.same place in
    let told = subst (λ ps. IsReordered ps (And place a b) (ns ++ ms)) (sym (turn_parts turn before last long c.index-turn-before.is)) joined in
    subst (λ g. IsReordered (placed_conjuncts turn) g made.numbers.items) (sym c.in_ok-asked-2.ensures.formula)
    (subst (IsReordered (placed_conjuncts turn) (And place a b)) (sym c.in_ok-asked-2.ensures.numbers) told)

pub ordered_turn-returns-clause-safe : goal.ordered_turn-returns-clause-safe
ordered_turn-returns-clause-safe t c =
    let turn = c.args.turn.now in
    let bound = c.args.bound.now in
    let scope = c.as_slice.result.now in
    let last = c.index-turn-before.result in
    let before = length turn - 1 in
    let long = before_last turn c.requires.some in
    let a = tree_of c.in_ok-left.left.asked.formula in
    let b = tree_of c.in_ok-right.right.formula in
    let front = placed_conjuncts (take before turn) in
    let ns = c.in_ok-left.left.asked.numbers.items in
    let listed = turn_scope bound scope c.in_ok-left.left.scope.items a c.as_slice.ensures.value c.in_ok-left.ensures.scope in
    let safe = last_safe bound scope front (placed_conjunct last) a ns c.in_ok-left.ensures.same listed (parts_safe turn before last long c.index-turn-before.is bound c.requires.safe) in
    subst (λ k. Safe k (Contains bound)) (sym c.in_ok-asked-2.ensures.formula)
    (conjunction_safe bound scope front (placed_conjunct last) a ns c.in_ok-left.ensures.same listed c.place-place.result b c.in_ok-left.ensures.safe (c.in_ok-right.ensures.safe None safe))

-- the scope after a conjunction, by that after its first part
scope_goes_on : (bound scope next : List VarId) (place : ℕ) (a b : Formula) → ((x : VarId) → Contains scope x ↔ BoundOrFreeIn (Contains bound) a x)
    → ((x : VarId) → Contains next x ↔ BoundOrFreeIn (Contains scope) b x) → (x : VarId) → Contains next x ↔ BoundOrFreeIn (Contains bound) (And place a b) x
scope_goes_on bound scope next place a b first more x = (
  λ there. ⊎_elim (λ before. ⊎_elim (λ given. inl given) (λ free. inr (inl free)) ((first x).0 before)) (λ free. inr (inr free)) ((more x).0 there),
  λ either. (more x).1 (⊎_elim (λ given. inl ((first x).1 (inl given))) (λ free. ⊎_elim (λ left. inl ((first x).1 (inr left))) (λ right. inr right) free) either),
)

pub ordered_turn-returns-clause-scope : goal.ordered_turn-returns-clause-scope
ordered_turn-returns-clause-scope t c =
    let bound = c.args.bound.now in
    let left = c.in_ok-left.left in
    let next = c.in_ok-scope-2.scope.items in
    let a = tree_of left.asked.formula in
    let b = tree_of c.in_ok-right.right.formula in
    let more : (x : VarId) → Contains next x ↔ BoundOrFreeIn (Contains left.scope.items) b x =
    subst (λ (s : List VarId). (x : VarId) → Contains next x ↔ BoundOrFreeIn (Contains s) b x) c.as_slice-2.ensures.value c.in_ok-scope-2.ensures in
    subst (λ k. (x : VarId) → Contains next x ↔ BoundOrFreeIn (Contains bound) k x) (sym c.in_ok-asked-2.ensures.formula)
    (scope_goes_on bound left.scope.items next c.place-place.result a b c.in_ok-left.ensures.scope more)
