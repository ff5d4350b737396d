use Rattle.pending.proofs.Vocabulary.{◌++◌, ◌∷◌, [], ap, subst, sym, ◌∙◌, append_assoc, arith, AllByRecursion, AllByRecursion-of_append, eqb-true, CanPutIn, ArePendingEntries, FitsStep}
use Rattle.pending.proofs.EntryLemmas.{more_kept, puts_more, puts_none}
use Rattle.pending.proofs.progress_all.put_each.Goals as goal

pub loop-entry-preserved : goal.loop-entry-preserved
loop-entry-preserved c =
    let loop = c.loop-entry.invariant in
    let yielded = c.loop-entry.yielded in
    let x = c.in-Some.entry in
    let rest = c.next.new.self.rest.items in
    let before = c.loop-entry.sleepers.entries in
    let after = c.put_one.new.sleepers.entries in
    let one = c.in_ok-put_one.ensures.puts in
    let first = c.in-Some.ensures.steps.0 in (
      loop.0 ∙ ap (λ l. yielded ++ l) first ∙ sym (append_assoc yielded (x ∷ []) rest),
      puts_more yielded x c.args.sleepers.now.entries before after loop.1 one,
      (subst (λ l. CanPutIn l before) first loop.2).1 after one,
      (λ steps kept fits. let parts = AllByRecursion-of_append (FitsStep steps) yielded (x ∷ []) fits in more_kept steps x before after one (loop.3 steps kept parts.0) parts.1.0),
      c.in_ok-put_one.ensures.held,
      c.put_one.ensures.queue,
    )

pub returns-in_err-put_one-clause-kept : goal.returns-in_err-put_one-clause-kept
returns-in_err-put_one-clause-kept c =
    λ steps kept fits.
    let loop = c.loop-entry.invariant in
    let all = sym c.into_iter-entry-iterator.ensures.into_iter_gives.0 ∙ loop.0 in
    subst (ArePendingEntries steps) (sym c.in_err-put_one.ensures.err)
    (loop.3 steps kept (AllByRecursion-of_append (FitsStep steps) c.loop-entry.yielded c.loop-entry.entry-iterator.rest.items (subst (AllByRecursion (FitsStep steps)) all fits)).0)

pub returns-clause-kept : goal.returns-clause-kept
returns-clause-kept c =
    λ steps kept fits.
    let loop = c.loop-entry.invariant in
    let all = sym c.into_iter-entry-iterator.ensures.into_iter_gives.0 ∙ loop.0 in
    loop.3 steps kept (AllByRecursion-of_append (FitsStep steps) c.loop-entry.yielded c.loop-entry.entry-iterator.rest.items (subst (AllByRecursion (FitsStep steps)) all fits)).0

pub returns-then-is_empty-clause-puts : goal.returns-then-is_empty-clause-puts
returns-then-is_empty-clause-puts c =
    let none = eqb-true c.args.more.len 0 (sym c.is_empty.ensures ∙ c.if-is_empty.true) in
    puts_none c.args.more.items c.args.sleepers.now.entries (omega (arith, none, c.args.more.ok.0))
