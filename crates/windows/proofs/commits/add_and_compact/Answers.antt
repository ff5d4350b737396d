use Rattle.windows.proofs.Vocabulary.{on_ok_weaker, Contains}
use Rattle.windows.proofs.CompactLemmas.{adds_kept, at_most_kept}
use Rattle.windows.proofs.commits.add_and_compact.Goals as goal

pub returns-clause-among : goal.returns-clause-among
returns-clause-among c =
    on_ok_weaker c.compact_if_many.result (λ keeps. at_most_kept c.args.now (Contains c.args.rows.items) c.args.entries.now.entries c.add_rows.new.entries.entries c.compact_if_many.new.entries.entries
    c.in_ok-left.ensures.among keeps) c.compact_if_many.ensures.keeps

pub returns-clause-added : goal.returns-clause-added
returns-clause-added c =
    on_ok_weaker c.compact_if_many.result (λ keeps. adds_kept c.args.interval c.args.now (Contains c.args.rows.items) c.args.entries.now.entries c.add_rows.new.entries.entries
    c.compact_if_many.new.entries.entries c.in_ok-left.ensures.added keeps) c.compact_if_many.ensures.keeps
