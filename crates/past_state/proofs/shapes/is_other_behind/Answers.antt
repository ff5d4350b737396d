use Rattle.past_state.proofs.Vocabulary.{◌≡◌, ◌∙◌, inr, arith, sym, refl, false≢true, row_cmp_exact}
use Rattle.past_state.proofs.ShapeLemmas.{not_before, not_less}
use Rattle.past_state.proofs.shapes.is_other_behind.Goals as goal

pub returns-in-Less-clause-other : goal.returns-in-Less-clause-other
returns-in-Less-clause-other c = (λ _ one. not_less c.args.before.now.row c.args.row.now.row one.1 (sym c.compare.ensures ∙ c.in-Less.is), λ _. refl)

pub returns-then-before-row-2-clause-behind : goal.returns-then-before-row-2-clause-behind
returns-then-before-row-2-clause-behind c =
    let window : c.args.before.now.window ≡ c.args.row.now.window = omega (arith, c.if-before-row.false, c.if-row-before.false) in
    inr (window, inr (row_cmp_exact c.args.before.now.row c.args.row.now.row (sym c.compare.ensures ∙ c.in-Equal.is), c.if-before-row-2.true))

pub returns-then-before-row-2-clause-other : goal.returns-then-before-row-2-clause-other
returns-then-before-row-2-clause-other c =
    let window : c.args.before.now.window ≡ c.args.row.now.window = omega (arith, c.if-before-row.false, c.if-row-before.false) in (
      λ other. absurd (false≢true other),
      λ differ. absurd (differ (window, row_cmp_exact c.args.before.now.row c.args.row.now.row (sym c.compare.ensures ∙ c.in-Equal.is))),
    )

pub returns-in-Greater-clause-none : goal.returns-in-Greater-clause-none
returns-in-Greater-clause-none c =
    let window : c.args.before.now.window ≡ c.args.row.now.window = omega (arith, c.if-before-row.false, c.if-row-before.false) in
    not_before c.args.before.now c.args.row.now (sym c.compare.ensures ∙ c.in-Greater.is) window
