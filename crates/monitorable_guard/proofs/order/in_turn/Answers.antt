use Rattle.monitorable_guard.proofs.Vocabulary.{◌≡◌, ◌<◌, ◌↔◌, List, [], ◌∷◌, ◌++◌, length, get_or, Contains, ap, sym, refl, ◌∙◌, subst, arith, length-map, VarId, Safe, tree_of, BoundOrFreeIn}
use Rattle.monitorable_guard.proofs.Vocabulary.{eqb-true}
use Rattle.monitorable_guard.proofs.TurnLemmas.{TurnSoFar, turn_goes_on, turn_same, turn_size, map-remove}
use Rattle.monitorable_guard.specs.declared.order.Conjunct.{Conjunct}
use Rattle.monitorable_guard.specs.machine.AskingOrder.{placed_conjunct, placed_conjuncts}
use Rattle.std.proofs.lemmas.List.{get_or-map, map-append}
use Rattle.monitorable_guard.proofs.order.in_turn.Goals as goal

pub loop-alloc-preserved : goal.loop-alloc-preserved
loop-alloc-preserved c =
    let bound = c.args.bound.now in
    let all = placed_conjuncts c.args.conjuncts.items in
    let left = c.loop-alloc.left.items in
    let turn = c.loop-alloc.turn.items in
    let scope = c.loop-alloc.scope.items in
    let next = c.in_ok-scope-2.scope.items in
    let i = c.in_ok-next.next in
    let conjunct = c.remove-conjunct.result in
    let p = placed_conjunct conjunct in
    let within : i < length left = subst (λ (l : List Conjunct). i < length l) c.as_slice.ensures.value c.in_ok-next.ensures.within in
    let at : get_or left i conjunct ≡ conjunct = sym c.remove-conjunct.ensures.value in
    let placed_at : get_or (placed_conjuncts left) i p ≡ p = get_or-map placed_conjunct left i conjunct p within ∙ ap placed_conjunct at in
    let long : i < length (placed_conjuncts left) = omega (arith, within, length-map left placed_conjunct) in
    let told = subst (λ (s : List VarId). Safe (tree_of (get_or c.as_slice.result.now i conjunct).formula.now) (Contains s)) c.as_slice-in-loop-alloc.ensures.value
    (c.in_ok-next.ensures.ready conjunct) in
    let first = subst (λ (l : List Conjunct). Safe (tree_of (get_or l i conjunct).formula.now) (Contains scope)) c.as_slice.ensures.value told in
    let ready : Safe p.formula (Contains scope) = subst (λ (k : Conjunct). Safe (tree_of k.formula.now) (Contains scope)) at first in
    let more : (x : VarId) → Contains next x ↔ BoundOrFreeIn (Contains scope) p.formula x =
    subst (λ (s : List VarId). (x : VarId) → Contains next x ↔ BoundOrFreeIn (Contains s) p.formula x) c.as_slice-in-loop-alloc-2.ensures.value c.in_ok-scope-2.ensures in
    let on = turn_goes_on bound scope next all (placed_conjuncts turn) (placed_conjuncts left) c.loop-alloc.invariant i p long placed_at ready more in
    let turn_is = ap placed_conjuncts c.in_ok-push.ensures.items ∙ map-append placed_conjunct turn (conjunct ∷ []) in
    let left_is = ap placed_conjuncts c.remove-conjunct.ensures.items ∙ map-remove placed_conjunct left i in
    subst (λ l. TurnSoFar bound next all l (placed_conjuncts c.remove-conjunct.new.self.items)) (sym turn_is) (subst (TurnSoFar bound next all (placed_conjuncts turn ++ p ∷ [])) (sym left_is) on)

pub returns-clause-safe : goal.returns-clause-safe
returns-clause-safe c = c.loop-alloc.invariant.safe

no_items : {X : Type 0} (xs : List X) → length xs ≡ 0 → xs ≡ []
no_items [] none = refl
no_items (x ∷ xs) none = absurd (omega (arith, none))

pub returns-clause-same : goal.returns-clause-same
returns-clause-same c =
    let empty = eqb-true c.loop-alloc.left.len 0 (sym c.is_empty.ensures ∙ c.loop-alloc-test.false) in
    let none = no_items c.loop-alloc.left.items (omega (arith, empty, c.loop-alloc.left.ok.0)) in
    turn_same c.args.bound.now c.loop-alloc.scope.items (placed_conjuncts c.args.conjuncts.items) (placed_conjuncts c.loop-alloc.turn.items) (placed_conjuncts c.loop-alloc.left.items)
    c.loop-alloc.invariant (ap placed_conjuncts none)

pub returns-clause-size : goal.returns-clause-size
returns-clause-size c =
    let empty = eqb-true c.loop-alloc.left.len 0 (sym c.is_empty.ensures ∙ c.loop-alloc-test.false) in
    let none = no_items c.loop-alloc.left.items (omega (arith, empty, c.loop-alloc.left.ok.0)) in
    turn_size c.args.bound.now c.loop-alloc.scope.items (placed_conjuncts c.args.conjuncts.items) (placed_conjuncts c.loop-alloc.turn.items) (placed_conjuncts c.loop-alloc.left.items)
    c.loop-alloc.invariant (ap placed_conjuncts none)
