use Rattle.prev_rows.proofs.Vocabulary.{◌≡◌, ◌∙◌, ◌↔◌, All, Contains, length, map, ap, refl, subst, sym, IfOk-weaker, AreRising, IsSlot, KeptPair, grown_rows, pair, pairs_of_last}
use Rattle.prev_rows.proofs.GrownLemmas.{grown_fit, grown_pairs, grown_rises}
use Rattle.prev_rows.proofs.grown_rows.GrownRows.kept.Goals as goal

pub returns-clause-rising : goal.returns-clause-rising
returns-clause-rising c = IfOk-weaker c.at_time.result (λ out. out.items ≡ map (λ (p : KeptPair). pair p.row c.last.result) c.in_ok-pairs.pairs.items) _
    (λ out is. subst AreRising (sym is) (grown_rises c.self.inside.window c.self.invariant.0 c.in_ok-pairs.pairs.items c.in_ok-pairs.ensures.keepable c.last.result)) c.at_time.ensures

pub returns-clause-exact : goal.returns-clause-exact
returns-clause-exact c = IfOk-weaker c.at_time.result (λ out. out.items ≡ map (λ (p : KeptPair). pair p.row c.last.result) c.in_ok-pairs.pairs.items) _
    (λ out is p. subst (λ s. Contains out.items p ↔ Contains (pairs_of_last s.last) p) c.self.view_is
    (subst (λ l. Contains l p ↔ Contains (map (λ row. pair row c.self.inside.window.last) (grown_rows c.self.inside.window).rows) p)
    (sym (is ∙ ap (λ t. map (λ (q : KeptPair). pair q.row t) c.in_ok-pairs.pairs.items) c.last.ensures))
    (grown_pairs c.self.inside.window c.self.invariant.0 c.in_ok-pairs.pairs.items c.in_ok-pairs.ensures.exact p))) c.at_time.ensures

pub returns-clause-whole : goal.returns-clause-whole
returns-clause-whole c = IfOk-weaker c.at_time.result (λ out. out.items ≡ map (λ (p : KeptPair). pair p.row c.last.result) c.in_ok-pairs.pairs.items) _
    (λ out is. subst (λ s. IsSlot s × All (λ p. length p.row ≡ length s.columns) (pairs_of_last s.last)) c.self.view_is (
      record { distinct = c.kept.ensures.least.distinct; fits = refl },
      grown_fit c.self.inside.window c.self.invariant.0 c.in_ok-pairs.pairs.items c.in_ok-pairs.ensures.exact c.in_ok-pairs.ensures.keepable.fit,
    )) c.at_time.ensures
