use Rattle.monitorable_guard.proofs.Vocabulary.{rules, ◌≡◌, subst, IsAllAdjacentAnswer, is_lt, always_returns_same, row_cmp}
use Rattle.monitorable_guard.proofs.EventRowLemmas.{arguments_rise}
use Rattle.monitorable_guard.proofs.guard_rows.rise.Goals as goal

pub returns : goal.returns
returns c = λ rising.
    let each = c.is_sorted_by.ensures.cases (λ a b. is_lt (row_cmp a.now.args b.now.args)) (always_returns_same _ _ _ (λ a r q k. search rules)) in
    arguments_rise c.args.events.now (subst (IsAllAdjacentAnswer (λ x y b. b ≡ is_lt (row_cmp x.now.args y.now.args)) c.args.events.now) rising each)
