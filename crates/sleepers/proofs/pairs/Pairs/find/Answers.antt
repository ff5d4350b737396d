use Rattle.sleepers.proofs.Vocabulary.{rules, ◌≡◌, ℕ, ◌<◌, ◌^◌, List, Contains, map, sym, subst, subst₂, true, range_contains, deref, Included, iter_end, AllByRecursion-contains, shown}
use Rattle.sleepers.proofs.EntryLemmas.{shown_put}
use Rattle.sleepers.proofs.PairLemmas.{filter_has, in_range, push_on, push_seen, pair_cmp}
use Rattle.sleepers.proofs.pairs.Pairs.find.Goals as goal

pub loop-pair-preserved : goal.loop-pair-preserved
loop-pair-preserved c =
    let old = c.loop-pair.found.items in
    let new = c.push.new.self.items in
    let next = c.in-Some.pair.now in
    record {
      has = λ pair there. push_seen (shown c.loop-pair.yielded) next old new c.in_ok-push.ensures.items c.loop-pair.invariant.has pair
          (subst (λ (l : List (ℕ × ℕ)). Contains l pair) (shown_put c.loop-pair.yielded c.in-Some.pair) there);
      kept = λ x there. push_on old new next.1 x c.in_ok-push.ensures.items (c.loop-pair.invariant.kept x there);
    }

pub returns-in_err-push-clause-kept : goal.returns-in_err-push-clause-kept
returns-in_err-push-clause-kept c = λ x there.
    subst (λ (l : List ℕ). Contains l x) (sym c.in_err-push.ensures.items) (c.loop-pair.invariant.kept x there)

pub returns-clause-ok : goal.returns-clause-ok
returns-clause-ok c = λ pair there above below.
    let keys = c.self.inside.pairs.keys in
    let among : Contains keys pair = subst (λ (l : List (ℕ × ℕ)). Contains l pair) (sym c.self.view_is) there in
    let fits = AllByRecursion-contains (λ (p : ℕ × ℕ). p.1 < 2 ^ 64) keys pair c.self.invariant among in
    let start = c.new.result.start in
    let end = c.new.result.end in
    let within : range_contains pair_cmp (Included start) (Included end) pair ≡ true =
    subst₂ (λ (a b : ℕ × ℕ). range_contains pair_cmp (Included a) (Included b) pair ≡ true) (sym c.new.ensures.start) (sym c.new.ensures.end)
    (in_range c.args.least c.args.greatest pair above below fits) in
    let listed : Contains c.range-pair-items.result pair =
    subst (λ (l : List (ℕ × ℕ)). Contains l pair) (sym (c.range-pair-items.ensures.between c.new.ensures.exhausted))
    (filter_has (range_contains pair_cmp (Included start) (Included end)) keys pair among within) in
    let all : map deref c.loop-pair.yielded ≡ c.range-pair-items.result = search (rules, iter_end) in
    c.loop-pair.invariant.has pair (subst (λ (l : List (ℕ × ℕ)). Contains l pair) (sym all) listed)
