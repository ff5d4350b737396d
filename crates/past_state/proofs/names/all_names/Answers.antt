use Rattle.past_state.proofs.Vocabulary.{◌≡◌, ◌∙◌, ◌++◌, ◌+◌, drop, get_or, sym, subst, ap, append-nil, append_assoc, at_drop_all, at_drop_more, tree_of, names_in_formula, guard_formula, guard_names}
use Rattle.past_state.proofs.names.all_names.Goals as goal

pub loop-placed-init : goal.loop-placed-init
loop-placed-init c = ap (λ l. l ++ guard_names c.args.guards.now) (sym c.new-names.ensures.items)

pub loop-placed-preserved : goal.loop-placed-preserved
loop-placed-preserved c =
    let guards = c.args.guards.now in
    let g = c.placed-item.result in
    let names = c.loop-placed.names.items in
    let rest = guard_names (drop (c.loop-placed.placed-index + 1) guards) in
    let step : guard_names (drop c.loop-placed.placed-index guards) ≡ names_in_formula (guard_formula (get_or guards c.loop-placed.placed-index g)) ++ rest =
    at_drop_more guard_names guards c.loop-placed.placed-index g c.loop-placed-test.true in
    let pushed : c.push_names.new.out.items ≡ names ++ names_in_formula (guard_formula g) =
    subst (λ f. c.push_names.new.out.items ≡ names ++ names_in_formula (tree_of f)) c.formula.ensures.formula c.in_ok-push_names.ensures in
    c.loop-placed.invariant ∙ ap (λ l. names ++ l) step ∙ ap (λ k. names ++ (names_in_formula (guard_formula k) ++ rest)) (sym c.placed-item.is)
    ∙ sym (append_assoc names (names_in_formula (guard_formula g)) rest) ∙ ap (λ l. l ++ rest) (sym pushed)

pub returns : goal.returns
returns c =
    let names = c.loop-placed.names.items in
    sym (c.loop-placed.invariant ∙ ap (λ l. names ++ l) (at_drop_all guard_names c.args.guards.now c.loop-placed.placed-index c.loop-placed-test.false) ∙ append-nil names)
