use Rattle.monitorable_guard.proofs.Vocabulary.{◌∙◌, ⊎_elim, tree_of}
use Rattle.monitorable_guard.proofs.ConditionLemmas.{fresh_joined}
use Rattle.monitorable_guard.proofs.DecisionLemmas.{decides_alike, decides_second}
use Rattle.monitorable_guard.proofs.conditions.+fresh.Goals as goal

pub is_fresh-returns-in-Exists : goal.is_fresh-returns-in-Exists
is_fresh-returns-in-Exists t c =
    ⊎_elim (λ e. rw (e.1, ← c.deref-in-Exists.ensures, ← c.as_slice.ensures) c.is_fresh_below.ensures)
    (λ e. rw (e.1, ← c.deref-in-Exists.ensures, ← c.as_slice.ensures) c.is_fresh_below.ensures) c.in-Exists.is

pub is_fresh_below-returns-in_ok-all : goal.is_fresh_below-returns-in_ok-all
is_fresh_below-returns-in_ok-all t c =
    decides_second c.is_fresh.result c.are_apart.result _ _ c.are_apart.ensures c.if-are_apart.true
    (decides_alike c.is_fresh.result _ _ (fresh_joined (tree_of c.args.body.now) c.args.scope.now c.args.xs.now c.as_slice.result.now (c.as_slice.ensures.value ∙ c.in_ok-all.ensures))
    c.is_fresh.ensures)
