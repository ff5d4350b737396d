use Rattle.prev_rows.proofs.Vocabulary.{◌≡◌, ◌↔◌, Contains, subst, IfOk-weaker, KeptPair, pairs_of_last}
use Rattle.prev_rows.proofs.GrownLemmas.{kept_is}
use Rattle.prev_rows.specs.declared.last_rows.Kept.TheVariants.{Grown}
use Rattle.prev_rows.proofs.last_rows.LastRows.kept.Goals as goal

pub returns-in-Grown-clause-exact : goal.returns-in-Grown-clause-exact
returns-in-Grown-clause-exact c =
    let same : c.in-Grown.rows ≡ c.args.self.now = kept_is c.self.inside.kept (Grown c.in-Grown.rows) c.args.self.now c.in-Grown.is c.self.view_is in
    IfOk-weaker c.kept-in-Grown.result _ (λ pairs. (p : KeptPair) → Contains pairs.items p ↔ Contains (pairs_of_last c.args.self.now.last) p)
    (λ pairs exact p. subst (λ s. Contains pairs.items p ↔ Contains (pairs_of_last s.last) p) same (exact p)) c.kept-in-Grown.ensures.exact
