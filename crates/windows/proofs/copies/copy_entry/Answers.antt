use Rattle.windows.proofs.CopyLemmas.{entry_copied}
use Rattle.windows.proofs.copies.copy_entry.Goals as goal

pub returns : goal.returns
returns c =
    entry_copied c.args.copy.now c.args.row.now c.in_ok-duplicate.field-0 c.args.times.now c.in_ok-times.times c.insert.new.self.entries c.requires
    c.in_ok-duplicate.ensures c.in_ok-times.ensures c.in_ok-insert.ensures.entries
