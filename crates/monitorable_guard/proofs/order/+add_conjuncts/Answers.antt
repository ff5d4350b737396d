use Rattle.monitorable_guard.proofs.Vocabulary.{◌+◌, ◌<◌, ◌^◌, ap, sym, ◌∙◌, ◌++◌, ◌∷◌, [], subst, tree_of, outermost, arith, length, Fits, w64, formula_size}
use Rattle.monitorable_guard.proofs.CycleLemmas.{fits_from}
use Rattle.monitorable_guard.proofs.KindLemmas.{lone_conjunct}
use Rattle.monitorable_guard.proofs.OrderedLemmas.{room_left, room_right}
use Rattle.monitorable_guard.specs.machine.AskingOrder.{placed_conjunct, placed_conjuncts}
use Rattle.std.proofs.lemmas.List.{map-append}
use Rattle.monitorable_guard.proofs.order.+add_conjuncts.Goals as goal

pub add_conjuncts-requires : goal.add_conjuncts-requires
add_conjuncts-requires t c =
    let room = rw (c.in-And.is, ← c.deref.ensures) at c.requires in
    let whole = ap (λ k. formula_size (tree_of k)) c.in-And.is in
    let part = ap (λ k. formula_size (tree_of k)) c.deref.ensures in
    (omega (arith, whole, part), room_left c.args.first (outermost (tree_of c.deref.result.now)) (outermost (tree_of c.in-And.h.value)) room)

pub operators-requires : goal.operators-requires
operators-requires t c =
    let room = rw (c.in-And.is, ← c.deref-in-And-2.ensures) at c.requires in
    let left = room_left c.args.first (outermost (tree_of c.deref-in-And-2.result.now)) (outermost (tree_of c.in-And.h.value)) room in
    omega (arith, left)

pub overflow_add-first : goal.overflow_add-first
overflow_add-first t c =
    let room = rw (c.in-And.is, ← c.deref-in-And-2.ensures) at c.requires in
    subst (λ n. Fits w64 (c.args.first + n)) (sym c.operators.ensures)
    (fits_from (room_left c.args.first (outermost (tree_of c.deref-in-And-2.result.now)) (outermost (tree_of c.in-And.h.value)) room))

pub add_conjuncts-requires-in-And : goal.add_conjuncts-requires-in-And
add_conjuncts-requires-in-And t c =
    let room = rw (c.in-And.is, ← c.deref-in-And.ensures, ← c.deref-in-And-2.ensures) at c.requires in
    let whole = ap (λ k. formula_size (tree_of k)) c.in-And.is in
    let part = ap (λ k. formula_size (tree_of k)) c.deref-in-And.ensures in (
      omega (arith, whole, part),
      subst (λ n. c.args.first + n + length (outermost (tree_of c.deref-in-And.result.now)) < 2 ^ 64) (sym c.operators.ensures)
          (room_right c.args.first (outermost (tree_of c.deref-in-And-2.result.now)) (outermost (tree_of c.deref-in-And.result.now)) room),
    )

pub returns : goal.returns
returns t c =
    ap placed_conjuncts c.in_ok-push.ensures.items ∙ map-append placed_conjunct c.args.all.now.items (record { formula = c.args.formula; first = c.args.first } ∷ [])
    ∙ ap (λ l. placed_conjuncts c.args.all.now.items ++ l) (sym (lone_conjunct c.args.formula.now c.in_default.not-And c.args.first))
