use Rattle.monitorable_guard.proofs.Vocabulary.{◌≡◌, ◌+◌, ◌≤◌, ◌<◌, ℕ, suc, ap, sym, subst, refl, ◌∙◌, List, ◌∷◌, length, not, map, drop, get_or, arith, Option, None, Some, is_some, true, false}
use Rattle.monitorable_guard.proofs.Vocabulary.{option_copied, false≢true, length-map, length-drop, Bor, Term, Value, Valuation, value_of_term}
use Rattle.std.proofs.Common.{drop-cons, add-one}
use Rattle.monitorable_guard.specs.machine.EventOrder.{leading_known}
use Rattle.monitorable_guard.proofs.EventLemmas.{leading_within}
use Rattle.monitorable_guard.proofs.events.leading.Goals as goal

-- a value that is there counts, and one that is lacking ends the count
counted : (o : Option (Bor Value)) (a : Option Value) (rest : List (Option Value)) → option_copied o ≡ a → is_some o ≡ true → leading_known (a ∷ rest) ≡ suc (leading_known rest)
counted None a rest e some = absurd (false≢true some)
counted (Some x) a rest e some = subst (λ b. leading_known (b ∷ rest) ≡ suc (leading_known rest)) e refl

ended : (o : Option (Bor Value)) (a : Option Value) (rest : List (Option Value)) → option_copied o ≡ a → is_some o ≡ false → leading_known (a ∷ rest) ≡ 0
ended None a rest e none = subst (λ b. leading_known (b ∷ rest) ≡ 0) e refl
ended (Some x) a rest e none = absurd (false≢true (sym none))

at_place : (v : Valuation) (terms : List Term) (place : ℕ) (t : Term) → place < length terms → t ≡ get_or terms place t
    → leading_known (map (value_of_term v) (drop place terms)) ≡ leading_known (value_of_term v t ∷ map (value_of_term v) (drop (place + 1) terms))
at_place v terms place t within is =
    ap (λ l. leading_known (map (value_of_term v) l)) (drop-cons terms place t within)
    ∙ ap (λ n. leading_known (value_of_term v (get_or terms place t) ∷ map (value_of_term v) (drop n terms))) (sym (add-one place))
    ∙ ap (λ u. leading_known (value_of_term v u ∷ map (value_of_term v) (drop (place + 1) terms))) (sym is)

pub loop-place-preserved : goal.loop-place-preserved
loop-place-preserved g c =
    let v = g.V.Lookup.valuation c.args.v.now in
    let terms = c.args.terms.now in
    let place = c.loop-place.place in
    let before : leading_known (map (value_of_term v) terms) ≡ place + leading_known (map (value_of_term v) (drop place terms)) = c.loop-place.invariant in
    let one : leading_known (map (value_of_term v) (drop place terms)) ≡ suc (leading_known (map (value_of_term v) (drop (place + 1) terms))) =
    at_place v terms place c.index-terms-place.result c.loop-place-test.true c.index-terms-place.is
    ∙ counted c.value_in.result _ (map (value_of_term v) (drop (place + 1) terms)) c.value_in.ensures (c.is_none.ensures ∙ ap not c.if-is_none.false) in
    let after : leading_known (map (value_of_term v) terms) ≡ (place + 1) + leading_known (map (value_of_term v) (drop (place + 1) terms)) = omega (arith, before, one) in
    after

pub returns-then-is_none-clause-count : goal.returns-then-is_none-clause-count
returns-then-is_none-clause-count g c =
    let v = g.V.Lookup.valuation c.args.v.now in
    let terms = c.args.terms.now in
    let place = c.loop-place.place in
    let before : leading_known (map (value_of_term v) terms) ≡ place + leading_known (map (value_of_term v) (drop place terms)) = c.loop-place.invariant in
    let none : leading_known (map (value_of_term v) (drop place terms)) ≡ 0 =
    at_place v terms place c.index-terms-place.result c.loop-place-test.true c.index-terms-place.is
    ∙ ended c.value_in.result _ (map (value_of_term v) (drop (place + 1) terms)) c.value_in.ensures (c.is_none.ensures ∙ ap not c.if-is_none.true) in
    omega (arith, before, none)

pub returns-clause-count : goal.returns-clause-count
returns-clause-count g c =
    let v = g.V.Lookup.valuation c.args.v.now in
    let terms = c.args.terms.now in
    let place = c.loop-place.place in
    let before : leading_known (map (value_of_term v) terms) ≡ place + leading_known (map (value_of_term v) (drop place terms)) = c.loop-place.invariant in
    let few = leading_within (map (value_of_term v) (drop place terms)) in
    let end : place ≤ length terms = c.loop-place.auto.place-end in
    let test : length terms ≤ place = c.loop-place-test.false in
    omega (arith, before, few, end, test, length-map (drop place terms) (value_of_term v), length-drop place terms)
