use Rattle.past_state.proofs.Vocabulary.{◌≡◌, ◌∙◌, ◌++◌, ◌∷◌, ⊎_elim, ℕ, List, map, sym, ap, subst, on_ok_weaker, VarId, Formula, Since, AreFreeVariables, tree_of, operators, kept_operand}
use Rattle.past_state.proofs.Vocabulary.{numbered_operator}
use Rattle.enf_formula.specs.declared.formulas.Formula.{Formula as Stored}
use Rattle.past_state.proofs.ShapeLemmas.{denial_free, pushed_two}
use Rattle.past_state.proofs.shapes.+push_shapes.Goals as goal

abbrev Keeps : Formula → Formula → Type 0
Keeps operand operator = (columns : List VarId) → AreFreeVariables operand columns → AreFreeVariables (kept_operand operator) columns

pub returns-in_ok-push_shapes-in-And-clause-columns : goal.returns-in_ok-push_shapes-in-And-clause-columns
returns-in_ok-push_shapes-in-And-clause-columns t c =
    on_ok_weaker c.push_shapes-in-And-2.result (λ step each. step (c.in_ok-push_shapes-in-And.ensures.columns each)) c.push_shapes-in-And-2.ensures.columns

pub returns-in_ok-push_shape-in-Prev-clause-columns : goal.returns-in_ok-push_shape-in-Prev-clause-columns
returns-in_ok-push_shape-in-Prev-clause-columns t c =
    let Own : Stored → Type 0 = λ p. Keeps (tree_of c.in-Prev.f.value) (tree_of p) in
    let own : Own c.args.formula.now = ⊎_elim (λ k. subst Own (sym k.2) (λ xs free. free))
    (⊎_elim (λ k. subst Own (sym k.2) (λ xs free. free)) (λ k. subst Own (sym k.2) (denial_free (tree_of c.in-Prev.f.value)))) c.in-Prev.is in
    let fits : Keeps (tree_of c.deref-in-Prev.result.now) (tree_of c.args.formula.now) = subst (λ (p : Stored). Keeps (tree_of p) (tree_of c.args.formula.now)) (sym c.deref-in-Prev.ensures) own in
    on_ok_weaker c.push_shapes-in-Prev.result (λ step each. step (c.in_ok-push_shape-in-Prev.ensures.columns fits each)) c.push_shapes-in-Prev.ensures.columns

pub returns-in_ok-push_shapes-in-Since-clause-columns : goal.returns-in_ok-push_shapes-in-Since-clause-columns
returns-in_ok-push_shapes-in-Since-clause-columns t c =
    let own : Keeps (tree_of c.in-Since.g.value) (tree_of c.args.formula.now) = subst (λ p. Keeps (tree_of c.in-Since.g.value) (tree_of p)) (sym c.in-Since.is) (λ xs free. free) in
    let fits : Keeps (tree_of c.deref.result.now) (tree_of c.args.formula.now) = subst (λ (p : Stored). Keeps (tree_of p) (tree_of c.args.formula.now)) (sym c.deref.ensures) own in
    on_ok_weaker c.push_shapes-in-Since.result
    (λ step each. step (c.in_ok-push_shapes-in-Since.ensures.columns (c.in_ok-push_shape-in-Since.ensures.columns fits each)))
    c.push_shapes-in-Since.ensures.columns

pub returns-in_ok-push_shapes-in-Since-clause-operators : goal.returns-in_ok-push_shapes-in-Since-clause-operators
returns-in_ok-push_shapes-in-Since-clause-operators t c =
    let old : List (ℕ × Formula) = map numbered_operator c.args.out.now.items in
    let one : List (ℕ × Formula) = map numbered_operator c.push_shape.new.out.items in
    let two : List (ℕ × Formula) = map numbered_operator c.push_shapes.new.out.items in
    let new : List (ℕ × Formula) = map numbered_operator c.push_shapes-in-Since.new.out.items in
    let left : operators (tree_of c.deref-in-Since.result.now) ≡ operators (tree_of c.in-Since.f.value) = ap (λ p. operators (tree_of p)) c.deref-in-Since.ensures in
    let right : operators (tree_of c.deref-in-Since-2.result.now) ≡ operators (tree_of c.in-Since.g.value) = ap (λ p. operators (tree_of p)) c.deref-in-Since-2.ensures in
    let whole : operators (tree_of c.args.formula.now) ≡ tree_of c.args.formula.now ∷ (operators (tree_of c.deref-in-Since.result.now) ++ operators (tree_of c.deref-in-Since-2.result.now)) =
    subst (λ p. operators (tree_of p) ≡ tree_of p ∷ (operators (tree_of c.deref-in-Since.result.now) ++ operators (tree_of c.deref-in-Since-2.result.now))) (sym c.in-Since.is)
    (ap (λ l. Since c.in-Since.field-0 c.in-Since.field-1 (tree_of c.in-Since.f.value) (tree_of c.in-Since.g.value) ∷ l)
    (ap (λ l. l ++ operators (tree_of c.in-Since.g.value)) (sym left) ∙ ap (λ l. operators (tree_of c.deref-in-Since.result.now) ++ l) (sym right))) in
    on_ok_weaker c.push_shapes-in-Since.result
    (λ last. pushed_two c.args.guard (tree_of c.args.formula.now) (operators (tree_of c.deref-in-Since.result.now)) (operators (tree_of c.deref-in-Since-2.result.now))
    old one two new c.in_ok-push_shape-in-Since.ensures.operators c.in_ok-push_shapes-in-Since.ensures.operators last
    ∙ ap (λ l. old ++ map (λ (o : Formula). (c.args.guard, o)) l) (sym whole))
    c.push_shapes-in-Since.ensures.operators
