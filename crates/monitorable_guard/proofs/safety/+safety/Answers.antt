use Rattle.monitorable_guard.proofs.Vocabulary.{◌↔◌, [], ◌∙◌, inl, inr, ⊎_elim, sym, subst, Contains, IsTrue, IfOk, tree_of, Safe, FreeWithin, BoundOrFreeIn, NoneBound, denial}
use Rattle.monitorable_guard.proofs.SafetyLemmas.{historically_denial}
use Rattle.monitorable_guard.proofs.DecisionLemmas.{decides_alike, decides_second, safe_by_itself, safe_alike, nothing_listed, pair_alike, test_alike, denial_else}
use Rattle.monitorable_guard.proofs.safety.+safety.Goals as goal

pub is_safe-returns-in-Not : goal.is_safe-returns-in-Not
is_safe-returns-in-Not t c = rw (c.in-Not.is, ← c.deref.ensures) c.is_safe_test.ensures

pub is_safe-returns-in-And : goal.is_safe-returns-in-And
is_safe-returns-in-And t c = rw (c.in-And.is, ← c.deref-in-And.ensures, ← c.deref-in-And-2.ensures) c.is_safe_both.ensures

pub is_safe-returns-in-Or : goal.is_safe-returns-in-Or
is_safe-returns-in-Or t c = rw (c.in-Or.is, ← c.deref-in-Or.ensures, ← c.deref-in-Or-2.ensures) c.is_safe_either.ensures

pub is_safe-returns-in-Implies : goal.is_safe-returns-in-Implies
is_safe-returns-in-Implies t c = rw (c.in-Implies.is, ← c.deref-in-Implies.ensures, ← c.deref-in-Implies-2.ensures) c.is_safe_condition.ensures

pub is_safe-returns-in-Exists : goal.is_safe-returns-in-Exists
is_safe-returns-in-Exists t c = rw (c.in-Exists.is, ← c.deref-in-Exists.ensures) c.is_safe.ensures

pub is_safe-returns-in-Forall : goal.is_safe-returns-in-Forall
is_safe-returns-in-Forall t c = rw (c.in-Forall.is, ← c.deref-in-Forall.ensures, ← c.as_slice.ensures) c.is_safe_below.ensures

pub is_safe-returns-in-Historically : goal.is_safe-returns-in-Historically
is_safe-returns-in-Historically t c =
    let B = Contains c.args.bound.now in
    let asks = historically_denial c.in-Historically.field-0 c.in-Historically.field-1 (tree_of c.in-Historically.g.value) B in
    subst (λ f. IfOk c.is_safe_history.result (λ b. IsTrue b ↔ Safe (tree_of f) B)) (sym c.in-Historically.is)
    (decides_alike c.is_safe_history.result _ _ (asks.1, asks.0) (subst (λ f. IfOk c.is_safe_history.result
    (λ b. IsTrue b ↔ (FreeWithin (tree_of f) B × Safe (denial (tree_of f)) NoneBound))) c.deref-in-Historically.ensures c.is_safe_history.ensures))

pub is_safe-returns-in-Since : goal.is_safe-returns-in-Since
is_safe-returns-in-Since t c =
    rw (c.in-Since.is, ← c.deref-in-Since.ensures, ← c.deref-in-Since-2.ensures) (decides_alike c.is_safe_test_with.result _ _
    (let p = pair_alike (tree_of c.deref-in-Since.result.now) (tree_of c.deref-in-Since-2.result.now) (Contains []) NoneBound nothing_listed in
    (λ s. ((p.0 s).0, (p.0 s).1.0, (p.0 s).1.1), λ s. p.1 (s.0, (s.1, s.2)))) c.is_safe_test_with.ensures)

pub is_safe-returns-in-Prev : goal.is_safe-returns-in-Prev
is_safe-returns-in-Prev t c = rw (c.in-Prev.is, ← c.deref-in-Prev.ensures) (decides_alike c.is_safe-in-Prev.result _ _ (safe_by_itself (tree_of c.deref-in-Prev.result.now)) c.is_safe-in-Prev.ensures)

pub is_safe-returns-in-Once : goal.is_safe-returns-in-Once
is_safe-returns-in-Once t c =
    rw (c.in-Once.is, ← c.deref-in-Once.ensures) (decides_alike c.is_safe-in-Once.result _ _ (safe_by_itself (tree_of c.deref-in-Once.result.now)) c.is_safe-in-Once.ensures)

pub is_safe_below-returns-in_ok-all-in-Forall : goal.is_safe_below-returns-in_ok-all-in-Forall
is_safe_below-returns-in_ok-all-in-Forall t c =
    rw (c.in-Forall.is, ← c.deref.ensures, ← c.as_slice.ensures, ← c.in_ok-all-in-Forall.ensures, ← c.as_slice-in-Forall.ensures.value) c.is_safe_below.ensures

pub is_safe_below-returns-in-Implies : goal.is_safe_below-returns-in-Implies
is_safe_below-returns-in-Implies t c =
    rw (c.in-Implies.is, ← c.deref-in-Implies.ensures, ← c.deref-in-Implies-2.ensures)
    (decides_alike c.is_safe_range.result _ _ (
      λ s. (λ x free absent. ⊎_elim (λ a. s.0 x a absent) (λ b. s.1 x b absent) free, s.2, s.3, s.4, s.5),
      λ s.
          (λ x f a. s.0 x (inl f) a, λ x f a. s.0 x (inr f) a, s.1, s.2, s.3, s.4),
    ) c.is_safe_range.ensures)

pub is_safe_below-returns-then-branch : goal.is_safe_below-returns-then-branch
is_safe_below-returns-then-branch t c =
    rw (c.in-Not.is, ← c.deref-in-Not.ensures) (decides_second c.is_safe.result c.in_ok-is_free_under-in-Not.field-0 _ _ c.in_ok-is_free_under-in-Not.ensures c.if-branch.true
    (subst (λ f. IfOk c.is_safe.result (λ b. IsTrue b ↔ Safe (tree_of f) (Contains c.args.bound.now))) (c.deref-then-branch.ensures ∙ sym c.deref-in-Not.ensures)
    c.is_safe.ensures))

pub is_safe_both-returns-in_ok-all : goal.is_safe_both-returns-in_ok-all
is_safe_both-returns-in_ok-all t c =
    decides_second c.is_safe-then-branch.result c.in_ok-is_safe.field-0 _ _ c.in_ok-is_safe.ensures c.if-branch.true
    (decides_alike c.is_safe-then-branch.result _ _ (safe_alike (tree_of c.args.h.now) (Contains c.as_slice.result.now) (BoundOrFreeIn (Contains c.args.bound.now) (tree_of c.args.g.now))
    (subst (λ l. (x : _) → Contains l x ↔ BoundOrFreeIn (Contains c.args.bound.now) (tree_of c.args.g.now) x) (sym c.as_slice.ensures.value) c.in_ok-all.ensures))
    c.is_safe-then-branch.ensures)

pub is_safe_denial-returns-in-Not : goal.is_safe_denial-returns-in-Not
is_safe_denial-returns-in-Not t c =
    rw (c.in-Not.is, ← c.deref.ensures) (decides_alike c.is_safe.result _ _ (safe_by_itself (tree_of c.deref.result.now)) c.is_safe.ensures)

pub is_safe_denial-returns-in-Implies : goal.is_safe_denial-returns-in-Implies
is_safe_denial-returns-in-Implies t c =
    rw (c.in-Implies.is, ← c.deref-in-Implies.ensures, ← c.deref-in-Implies-2.ensures)
    (decides_alike c.is_safe_test_with.result _ _ (pair_alike (tree_of c.deref-in-Implies.result.now) (tree_of c.deref-in-Implies-2.result.now) (Contains []) NoneBound nothing_listed)
    c.is_safe_test_with.ensures)

pub is_safe_denial-returns-in_default : goal.is_safe_denial-returns-in_default
is_safe_denial-returns-in_default t c =
    decides_alike c.is_safe_test.result _ _ (denial_else c.args.g.now c.in_default.not-Not c.in_default.not-Implies) c.is_safe_test.ensures

pub is_safe_either-returns-then-branch-2 : goal.is_safe_either-returns-then-branch-2
is_safe_either-returns-then-branch-2 t c =
    decides_alike c.is_free_alike.result _ _ (λ alike. (c.in_ok-is_safe.ensures.0 c.if-branch.true, c.in_ok-is_safe-2.ensures.0 c.if-branch-2.true, alike), λ all. all.2) c.is_free_alike.ensures

pub is_safe_range-returns-then-branch-3 : goal.is_safe_range-returns-then-branch-3
is_safe_range-returns-then-branch-3 t c =
    decides_alike c.is_safe_test_with.result _ _ (
      λ s. (
        c.in_ok-is_free_under.ensures.0 c.if-branch.true,
        c.in_ok-is_free_under-2.ensures.0 c.if-branch-2.true,
        c.in_ok-are_free_in.ensures.0 c.if-branch-3.true,
        s.0,
        s.1.1,
        s.1.0,
      ),
      λ s. (s.3, (s.5, s.4)),
    ) c.is_safe_test_with.ensures

pub is_safe_test_with-returns-in_ok-all : goal.is_safe_test_with-returns-in_ok-all
is_safe_test_with-returns-in_ok-all t c =
    decides_second c.is_safe_test.result c.in_ok-is_safe.field-0 _ _ c.in_ok-is_safe.ensures c.if-branch.true
    (decides_alike c.is_safe_test.result _ _ (test_alike (tree_of c.args.h.now) (Contains c.as_slice.result.now) (BoundOrFreeIn (Contains c.args.bound.now) (tree_of c.args.g.now))
    (subst (λ l. (x : _) → Contains l x ↔ BoundOrFreeIn (Contains c.args.bound.now) (tree_of c.args.g.now) x) (sym c.as_slice.ensures.value) c.in_ok-all.ensures))
    c.is_safe_test.ensures)
