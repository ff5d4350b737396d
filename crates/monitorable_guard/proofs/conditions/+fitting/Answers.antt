use Rattle.monitorable_guard.proofs.Vocabulary.{◌≡◌, [], ◌∷◌, refl, sym, subst, ⊎_elim, IfOk, IsTrue, ◌↔◌, tree_of, FitOperators, outermost}
use Rattle.monitorable_guard.proofs.ConditionLemmas.{fit_alike}
use Rattle.monitorable_guard.proofs.CycleLemmas.{fit_short}
use Rattle.monitorable_guard.proofs.DecisionLemmas.{decides_alike}
use Rattle.monitorable_guard.proofs.conditions.+fitting.Goals as goal

pub fit_both-tables_behind-requires : goal.fit_both-tables_behind-requires
fit_both-tables_behind-requires t c = fit_short (outermost (tree_of c.args.g.now)) c.args.tables.now (c.in_ok-fits.ensures.0 c.if-branch.true)

pub fits-returns-in-Prev : goal.fits-returns-in-Prev
fits-returns-in-Prev t c =
    let alone : outermost (tree_of c.args.formula.now) ≡ tree_of c.args.formula.now ∷ [] =
    ⊎_elim (λ e. rw e.3 refl) (⊎_elim (λ e. rw e.3 refl) (⊎_elim (λ e. rw e.3 refl) (λ e. rw e.4 refl))) c.in-Prev.is in
    subst (λ fs. IfOk c.first_fits.result (λ b. IsTrue b ↔ FitOperators fs c.args.tables.now)) (sym alone) c.first_fits.ensures

pub fits-returns-in-And : goal.fits-returns-in-And
fits-returns-in-And t c =
    let both = decides_alike c.fit_both.result _ _ (fit_alike (tree_of c.deref.result.now) (tree_of c.deref-in-And.result.now) c.args.tables.now) c.fit_both.ensures in
    ⊎_elim (λ e. rw (e.1, ← c.deref.ensures, ← c.deref-in-And.ensures) both)
    (⊎_elim (λ e. rw (e.1, ← c.deref.ensures, ← c.deref-in-And.ensures) both)
    (λ e. rw (e.1, ← c.deref.ensures, ← c.deref-in-And.ensures) both)) c.in-And.is
