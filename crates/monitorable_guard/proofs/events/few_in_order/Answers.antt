use Rattle.monitorable_guard.proofs.Vocabulary.{rules, ◌≡◌, ◌≤◌, ◌++◌, arith, drop, length, take, sym, subst, ◌∙◌, is_lt, always_returns_same, take-append_seam, take-length, length-take-le, ranks_by}
use Rattle.monitorable_guard.proofs.Vocabulary.{key_of, event_cmp, shown_events, IsByName}
use Rattle.monitorable_guard.proofs.EventLemmas.{event_cmp_total, sorted_by_name}
use Rattle.monitorable_guard.proofs.events.few_in_order.Goals as goal

pub returns-clause-order : goal.returns-clause-order
returns-clause-order c =
    let events = c.args.events.now in
    let places = c.loop-place.places in
    let sorted = c.sort_unstable_by.new.self in
    let filled : c.loop-place.place ≡ length events = omega arith in
    let all : shown_events (take (length events) places) ≡ events =
    subst (λ n. shown_events (take n places) ≡ take n events) filled c.loop-place.invariant.1 ∙ take-length events in
    let room : length events ≤ length places = omega arith in
    let long : length sorted ≡ length events = c.sort_unstable_by.ensures.len ∙ length-take-le (length events) places room in
    let front : take (length events) (sorted ++ drop (length events) places) ≡ sorted =
    subst (λ n. take n (sorted ++ drop (length events) places) ≡ sorted) long (take-append_seam sorted (drop (length events) places)) in
    subst (IsByName events) (sym front) (sorted_by_name events (take (length events) places) sorted all
    c.sort_unstable_by.ensures.permutation
    (c.sort_unstable_by.ensures.sorted (λ x y. is_lt (event_cmp (key_of x) (key_of y))) (ranks_by event_cmp_total key_of) (always_returns_same _ _ _ (λ a r q k. search rules))))
