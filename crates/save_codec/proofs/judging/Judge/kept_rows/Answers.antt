-- Which row is the first that breaks the bounds.
use Rattle.save_codec.proofs.Vocabulary.{List, map, rules, subst, ◌∙◌, AreWithinBounds, IsFirstOutOfBounds, operator_of, WindowShape}
use Rattle.save_codec.proofs.JudgeLemmas.{broken_row, rows_fit, unfit_row}
use Rattle.save_codec.proofs.judging.Judge.kept_rows.Goals as goal

pub returns-in-Err-clause-err : goal.returns-in-Err-clause-err
returns-in-Err-clause-err c = λ s is.
    broken_row s c.args.self.now c.args.last c.args.rows.items c.in_ok-fitting.fitting c.as_slice-2.result.now c.in-Err.broken.row is (c.in_ok-fitting.ensures s is) c.as_slice-2.ensures.value
    (subst (λ (l : List WindowShape). IsFirstOutOfBounds (map operator_of l) c.args.last c.as_slice-2.result.now c.in-Err.broken.row) c.as_slice.ensures.value c.in-Err.ensures.first)

pub returns-then-not-fitting-clause-err : goal.returns-then-not-fitting-clause-err
returns-then-not-fitting-clause-err c = λ s is.
    unfit_row s c.args.self.now c.args.last c.args.rows.items c.in_ok-fitting.fitting c.as_slice-2.result.now c.len.result is (c.in_ok-fitting.ensures s is) c.as_slice-2.ensures.value
    c.if-not-fitting.true (search rules)
    (subst (λ (l : List WindowShape). AreWithinBounds (map operator_of l) c.args.last c.as_slice-2.result.now) c.as_slice.ensures.value c.in_default.ensures.within)

pub returns-clause-ok : goal.returns-clause-ok
returns-clause-ok c = λ s is.
    let fit = rows_fit s c.args.self.now c.args.last c.args.rows.items c.in_ok-fitting.fitting c.as_slice-2.result.now is (c.in_ok-fitting.ensures s is) c.as_slice-2.ensures.value
    c.if-not-fitting.false
    (subst (λ (l : List WindowShape). AreWithinBounds (map operator_of l) c.args.last c.as_slice-2.result.now) c.as_slice.ensures.value c.in_default.ensures.within) in
    (c.from_vec.ensures ∙ fit.0, fit.1)
