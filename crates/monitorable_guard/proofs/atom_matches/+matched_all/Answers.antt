use Rattle.monitorable_guard.proofs.Vocabulary.{◌≡◌, ◌≢◌, ℕ, ◌<◌, ◌-◌, ◌==◌, false, List, ◌∷◌, length, take, drop, arith, sym, subst, ◌∙◌, eqb-false, take_rest, MatchOption-at_some, IsLeastFor}
use Rattle.monitorable_guard.proofs.MatchLemmas.{first_of, some_from, none_from}
use Rattle.monitorable_guard.proofs.atom_matches.+matched_all.Goals as goal

some_left : {X : Type 0} (xs : List X) → (length xs == 0) ≡ false → 0 < length xs
some_left xs e = let apart : length xs ≢ 0 = eqb-false _ _ e in omega arith

terms_are : (t : ℕ) (c : goal.After-matched_all t) → c.args.terms.now ≡ c.index-terms-0.result ∷ take (length c.args.terms.now - 1) (drop 1 c.args.terms.now)
terms_are t c = first_of c.args.terms.now _ _ (some_left c.args.terms.now (sym c.is_empty.ensures ∙ c.if-is_empty.false)) c.index-terms-0.is (take_rest c.args.terms.now 1)

values_are : (t : ℕ) (c : goal.After-matched_all t) → c.args.values.now ≡ c.index-values-0.result ∷ take (length c.args.values.now - 1) (drop 1 c.args.values.now)
values_are t c = first_of c.args.values.now _ _ (subst (λ n. 0 < n) c.requires (some_left c.args.terms.now (sym c.is_empty.ensures ∙ c.if-is_empty.false))) c.index-values-0.is
    (take_rest c.args.values.now 1)

pub returns-in-Some-clause-some : goal.returns-in-Some-clause-some
returns-in-Some-clause-some t c =
    some_from c.args.terms.now c.args.values.now c.args.v c.in-Some.w c.index-terms-0.result c.index-values-0.result _ _ c.matched_all.result (terms_are t c) (values_are t c)
    (MatchOption-at_some _ (IsLeastFor c.index-terms-0.result c.index-values-0.result c.args.v) c.in-Some.w c.in-Some.is c.in_ok-w.ensures.some) c.matched_all.ensures.some

pub returns-in-Some-clause-none : goal.returns-in-Some-clause-none
returns-in-Some-clause-none t c =
    none_from c.args.terms.now c.args.values.now c.args.v c.in-Some.w c.index-terms-0.result c.index-values-0.result _ _ c.matched_all.result (terms_are t c) (values_are t c)
    (MatchOption-at_some _ (IsLeastFor c.index-terms-0.result c.index-values-0.result c.args.v) c.in-Some.w c.in-Some.is c.in_ok-w.ensures.some) c.matched_all.ensures.none
