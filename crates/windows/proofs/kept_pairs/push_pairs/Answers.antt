use Rattle.windows.proofs.Vocabulary.{◌∙◌, [], sym}
use Rattle.std.proofs.lemmas.List.{append-nil}
use Rattle.windows.proofs.EntryLemmas.{missing, sets_at}
use Rattle.windows.proofs.PairLemmas.{no_times, times_of_row}
use Rattle.windows.proofs.kept_pairs.push_pairs.Goals as goal

pub returns-in_ok-push_times : goal.returns-in_ok-push_times
returns-in_ok-push_times c =
    let sets = sets_at c.args.row.now c.args.entries.now.entries c.in-Some.place c.index.result.now c.index.result.now (sym c.in-Some.is ∙ c.get_index_of.ensures.index) c.index.ensures in
    (c.index.result.now, times_of_row c.requires.0 c.requires.1 c.args.entries.now.entries c.args.row.now c.index.result.now c.requires.2 sets.was, c.in_ok-push_times.ensures)

pub returns-in_default : goal.returns-in_default
returns-in_default c = ([], no_times c.args.entries.now.entries c.args.row.now (missing _ _ c.in_default.not-Some c.get_index_of.ensures.found), sym (append-nil c.args.out.now.items))
