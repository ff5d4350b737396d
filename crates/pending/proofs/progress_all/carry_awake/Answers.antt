use Rattle.pending.proofs.Vocabulary.{◌∷◌, ap, drop, map, subst, sym, ◌∙◌, AllByRecursion, plan_of, guards_now, CanAskOf, count_due, WalksEntries, ArePendingEntries, items_of}
use Rattle.pending.proofs.EntryStepLemmas.{ahead_has, walk_begins, walk_goes_on}
use Rattle.pending.proofs.progress_all.carry_awake.Goals as goal

pub loop-entry-init : goal.loop-entry-init
loop-entry-init c =
    let now = c.args.now.now in
    let plans = map plan_of c.args.plans.now in
    let all = c.wake.new.sleepers.entries in
    let first = c.wake.new.sleepers.ahead in (
      subst (λ l. WalksEntries now plans c.args.inserted c.args.later all first all first l) (sym c.new-more.ensures.items) (walk_begins now plans c.args.inserted c.args.later all first),
      (λ steps kept. kept),
      ahead_has (CanAskOf (guards_now now) plans) c.args.sleepers.now.entries first (λ x there. (c.in_ok-wake.ensures.ok.without x there).0) c.requires.asked,
      (λ d. c.requires.held d ∙ ap (λ l. count_due plans (items_of l) d) (sym c.wake.ensures.entries)),
      c.requires.queue,
    )

pub returns-in_err-stays-clause-kept : goal.returns-in_err-stays-clause-kept
returns-in_err-stays-clause-kept c = λ steps kept. c.loop-entry.invariant.1 steps (subst (ArePendingEntries steps) (sym c.wake.ensures.entries) kept)

pub loop-entry-preserved : goal.loop-entry-preserved
loop-entry-preserved c =
    let now = c.args.now.now in
    let plans = map plan_of c.args.plans.now in
    let loop = c.loop-entry.invariant in
    let entry = c.in-Some.entry.now in
    let before = c.loop-entry.sleepers.ahead in
    let at = c.in-Some.ensures.some in
    let on = c.settle.ensures.ahead in
    let (more, becomes, grown) = c.in_ok-stays.ensures in
    let left = c.loop-entry.sleepers.entries in (
      walk_goes_on now plans c.args.inserted c.args.later c.wake.new.sleepers.entries c.wake.new.sleepers.ahead left (drop 1 before) c.loop-entry.more.items
          (record { entry = entry; stays = c.in_ok-stays.stays; begun = more }) before c.settle.new.sleepers.entries c.settle.new.sleepers.ahead c.carry_entry.new.into.items
          loop.0 at becomes c.settle.ensures.stays (λ gone. c.settle.ensures.goes gone entry (at ∙ ap (λ l. entry ∷ l) (sym on))) on grown,
      (λ steps kept. c.settle.ensures.kept steps (loop.1 steps kept)),
      subst (λ l. AllByRecursion (CanAskOf (guards_now now) plans) (items_of l)) (sym on)
          (subst (λ l. AllByRecursion (CanAskOf (guards_now now) plans) (items_of l)) at loop.2).1,
      c.settle.ensures.held,
      c.settle.ensures.queue,
    )

pub returns-clause-kept : goal.returns-clause-kept
returns-clause-kept c = λ steps kept. c.loop-entry.invariant.1 steps (subst (ArePendingEntries steps) (sym c.wake.ensures.entries) kept)
