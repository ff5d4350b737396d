use Rattle.past_state.proofs.Vocabulary.{◌≡◌, ◌∙◌, ◌++◌, ◌+◌, ℕ, suc, List, drop, get_or, map, sym, subst, ap, append-nil, append_assoc, arith, at_drop_all, at_drop_more, map-map, Formula, tree_of}
use Rattle.past_state.proofs.Vocabulary.{BoundFormula, tree_in, operators, numbered_operators, numbered_operator}
use Rattle.past_state.proofs.ShapeLemmas.{without_numbers}
use Rattle.past_state.proofs.shapes.window_shapes.Goals as goal

pub loop-number-preserved : goal.loop-number-preserved
loop-number-preserved c =
    let n = c.loop-number.number in
    let guards = c.args.guards.now in
    let g = c.index-guards-number.result in
    let old : List (ℕ × Formula) = map numbered_operator c.loop-number.shapes.items in
    let rest : List (ℕ × Formula) = numbered_operators (suc n) (map tree_in (drop (n + 1) guards)) in
    let own : List (ℕ × Formula) = map (λ (o : Formula). (n, o)) (operators (tree_in g)) in
    let step : numbered_operators n (map tree_in (drop n guards)) ≡ map (λ (o : Formula). (n, o)) (operators (tree_in (get_or guards n g))) ++ rest =
    at_drop_more (λ (l : List BoundFormula). numbered_operators n (map tree_in l)) guards n g c.loop-number-test.true in
    let pushed : map numbered_operator c.push_shapes.new.out.items ≡ old ++ own =
    subst (λ f. map numbered_operator c.push_shapes.new.out.items ≡ old ++ map (λ (o : Formula). (n, o)) (operators (tree_of f))) c.formula.ensures.formula c.in_ok-push_shapes.ensures.operators in
    let next : suc n ≡ n + 1 = omega arith in record {
      operators = c.loop-number.invariant.operators ∙ ap (λ l. old ++ l) step
          ∙ ap (λ k. old ++ (map (λ (o : Formula). (n, o)) (operators (tree_in k)) ++ rest)) (sym c.index-guards-number.is)
          ∙ sym (append_assoc old own rest) ∙ ap (λ l. l ++ rest) (sym pushed)
          ∙ ap (λ m. map numbered_operator c.push_shapes.new.out.items ++ numbered_operators m (map tree_in (drop (n + 1) guards))) next;
      columns = c.in_ok-push_shapes.ensures.columns c.loop-number.invariant.columns;
    }

pub returns-clause-windows : goal.returns-clause-windows
returns-clause-windows c =
    let n = c.loop-number.number in
    let guards = c.args.guards.now in
    let shapes = c.loop-number.shapes.items in
    let all : numbered_operators 0 (map tree_in guards) ≡ map numbered_operator shapes =
    c.loop-number.invariant.operators ∙ ap (λ l. map numbered_operator shapes ++ l) (at_drop_all (λ (l : List BoundFormula). numbered_operators n (map tree_in l)) guards n c.loop-number-test.false)
    ∙ append-nil (map numbered_operator shapes) in
    sym (map-map (λ (p : ℕ × Formula). p.1) numbered_operator shapes) ∙ ap (map (λ (p : ℕ × Formula). p.1)) (sym all) ∙ without_numbers 0 (map tree_in guards)
