use Rattle.choice_step.proofs.Vocabulary.{◌<◌, Contains, length, map, sym, subst, arith, slice_get, option_map, length-map, HasNoneOf}
use Rattle.choice_step.proofs.WokenRuleLemmas.{none_of}
use Rattle.choice_step.proofs.rule_triggers.Wakes.next_by_name.Goals as goal

pub returns-then-last-from-clause-asleep : goal.returns-then-last-from-clause-asleep
returns-then-last-from-clause-asleep c rule low high = absurd (omega (arith, low, high))

pub returns-clause-behind : goal.returns-clause-behind
returns-clause-behind c = c.least_from.ensures.within.0

pub returns-clause-asleep : goal.returns-clause-asleep
returns-clause-asleep c rule low high =
    let wakes = map (option_map (λ names. names.items)) c.self.inside.names in
    let within : rule < length wakes =
    omega (arith, high, c.least_from.ensures.within.1, c.first_named-first.ensures.within.1, c.len-last.ensures, length-map c.self.inside.names (option_map (λ names. names.items))) in
    subst (λ l. HasNoneOf (slice_get l rule) c.args.all.now) c.self.view_is
    (none_of wakes c.self.inside.always.items c.self.inside.by_name.items c.args.all.now c.args.from c.least_from.result rule c.self.invariant low high within
    (λ other there le. c.least_from.ensures.least other (subst (λ l. Contains l other) (sym c.as_slice-2.ensures.value) there) le)
    (λ event among entry there named le. omega (
      arith,
      c.least_from.ensures.within.1,
      c.first_named-first.ensures.least event among entry (subst (λ l. Contains l entry) (sym c.as_slice.ensures.value) there) named le,
    )))
