use Rattle.windows.proofs.Vocabulary.{arith, subst}
use Rattle.windows.proofs.EntryLemmas.{fit_of, kept_set, row_forgets}
use Rattle.windows.proofs.PlaceLemmas.{count_set, settled_past, settled_set, sets_place, valued_at}
use Rattle.windows.proofs.entries.settle_at.Goals as goal

pub returns-then-len-place-clause-settled : goal.returns-then-len-place-clause-settled
returns-then-len-place-clause-settled c = settled_past c.args.high c.args.interval.low c.args.now c.args.place c.args.entries.now.entries (omega (arith, c.if-len-place.true, c.len.ensures.len))

pub settle_counted-lost-requires : goal.settle_counted-lost-requires
settle_counted-lost-requires c =
    let at = valued_at c.args.entries.now.entries c.args.place c.index_mut.result.now c.index_mut.ensures.value in
    let sets = sets_place c.args.entries.now.entries c.args.place (at.0, c.index_mut.result.now) c.index_mut.result.now at.1 in
    (fit_of c.requires.kept.0 _ c.args.entries.now.entries at.0 c.index_mut.result.now c.requires.kept.1 sets.was).1

pub returns-clause-kept : goal.returns-clause-kept
returns-clause-kept c = λ long kept.
    let at = valued_at c.args.entries.now.entries c.args.place c.index_mut.result.now c.index_mut.ensures.value in
    kept_set long c.args.now at.0 c.args.entries.now.entries c.args.place c.index_mut.result.now c.settle_counted-lost.new.self kept
    (sets_place c.args.entries.now.entries c.args.place (at.0, c.index_mut.result.now) c.settle_counted-lost.new.self at.1) c.settle_counted-lost.ensures.settles.rise

pub returns-clause-forgets : goal.returns-clause-forgets
returns-clause-forgets c =
    let at = valued_at c.args.entries.now.entries c.args.place c.index_mut.result.now c.index_mut.ensures.value in
    row_forgets c.args.interval c.args.now at.0 c.args.entries.now.entries _ c.index_mut.result.now c.settle_counted-lost.new.self
    (sets_place c.args.entries.now.entries c.args.place (at.0, c.index_mut.result.now) c.settle_counted-lost.new.self at.1)
    c.args.high c.requires.high c.settle_counted-lost.ensures.settles.forgets

pub returns-clause-settled : goal.returns-clause-settled
returns-clause-settled c =
    settled_set c.args.high c.args.interval.low c.args.now c.args.place c.args.entries.now.entries c.settle_counted-lost.new.self c.settle_counted-lost.ensures.settles.rise
    c.settle_counted-lost.ensures.settles.least

pub returns-clause-counted : goal.returns-clause-counted
returns-clause-counted c =
    omega (
      arith,
      count_set c.args.entries.now.entries c.args.place c.index_mut.result.now c.settle_counted-lost.new.self c.index_mut.ensures.value,
      c.settle_counted-lost.ensures.lost,
      c.requires.counted,
      c.saturating_sub.ensures,
    )
