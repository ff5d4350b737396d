use Rattle.windows.proofs.Vocabulary.{◌≡◌, ◌∙◌, ◌++◌, length, refl, sym, ap, subst}
use Rattle.windows.proofs.CopyLemmas.{not_copied}
use Rattle.windows.proofs.ListSteps.{all_pushed, next_pushed}
use Rattle.windows.proofs.copies.copy_entries.Goals as goal

pub loop-row-init : goal.loop-row-init
loop-row-init c =
    subst (λ l. l ++ c.into_iter-row-iterator.result ≡ c.args.entries.now.entries) (sym c.in_ok-copy.ensures.empty)
    (c.into_iter-row-iterator.ensures.into_iter_gives ∙ c.iter-row-items.ensures.rest)

pub copy_entry-requires : goal.copy_entry-requires
copy_entry-requires c =
    not_copied c.loop-row.copy.entries c.loop-row.row-iterator c.next.new.self c.args.entries.now.entries c.in-Some.row.now c.in-Some.times.now c.requires c.loop-row.invariant c.in-Some.ensures.steps

pub loop-row-preserved : goal.loop-row-preserved
loop-row-preserved c =
    next_pushed c.loop-row.copy.entries c.loop-row.row-iterator c.next.new.self c.copy_entry.new.copy.entries c.args.entries.now.entries
    (c.in-Some.row.now, c.in-Some.times.now) (c.in-Some.row.now, c.in-Some.times.now) c.loop-row.invariant c.in-Some.ensures.steps refl c.in_ok-copy_entry.ensures

pub returns : goal.returns
returns c = all_pushed c.loop-row.copy.entries c.loop-row.row-iterator c.args.entries.now.entries c.loop-row.invariant (ap length c.in-None.ensures.steps.0)
