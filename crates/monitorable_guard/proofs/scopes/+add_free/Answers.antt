use Rattle.monitorable_guard.proofs.Vocabulary.{IfOk-weaker, List, VarId, Contains, subst, sym, adds_both, adds_same}
use Rattle.monitorable_guard.proofs.scopes.+add_free.Goals as goal

pub returns-in-Atom : goal.returns-in-Atom
returns-in-Atom t c = rw (c.in-Atom.is, ← c.as_slice.ensures) c.add_terms.ensures

pub returns-in_ok-add_free-in-And : goal.returns-in_ok-add_free-in-And
returns-in_ok-add_free-in-And t c =
    rw (c.in-And.is, ← c.deref.ensures, ← c.deref-in-And.ensures) (IfOk-weaker c.add_free-in-And.result _ _ (λ _ b. adds_both c.in_ok-add_free-in-And.ensures b) c.add_free-in-And.ensures)

pub returns-in_ok-free-in_default : goal.returns-in_ok-free-in_default
returns-in_ok-free-in_default t c =
    let free = c.in_ok-free-in_default.ensures in
    let listed = c.as_slice-in_default.ensures in
    IfOk-weaker c.add_each.result _ _ (λ _ a. adds_same (λ x there. (free.exact x).0 (subst (λ (l : List VarId). Contains l x) listed there))
    (λ x is. subst (λ (l : List VarId). Contains l x) (sym listed) ((free.exact x).1 is)) a) c.add_each.ensures
