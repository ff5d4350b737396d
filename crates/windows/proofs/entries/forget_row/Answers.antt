use Rattle.windows.proofs.Vocabulary.{◌∙◌, arith, sym, subst, set_value_at, HasNoRepeats}
use Rattle.windows.proofs.EntryLemmas.{SetsAt, forgets_missing, missing, row_let_go, set_keys, sets_at, unique_from}
use Rattle.windows.proofs.PlaceLemmas.{count_set}
use Rattle.windows.proofs.entries.forget_row.Goals as goal

pub returns-clause-keeps : goal.returns-clause-keeps
returns-clause-keeps c =
    let es = c.args.entries.now.entries in
    let sets = sets_at c.args.row.now es c.in-Some.place c.index_mut.result.now c.clear-lost.new.self (sym c.in-Some.is ∙ c.get_index_of.ensures.index) c.index_mut.ensures.value in
    row_let_go c.args.row.now es (set_value_at es c.in-Some.place c.clear-lost.new.self) c.index_mut.result.now
    (subst (SetsAt es (set_value_at es c.in-Some.place c.clear-lost.new.self) c.args.row.now c.index_mut.result.now) c.clear-lost.ensures.cleared sets)
    (set_keys es c.in-Some.place c.clear-lost.new.self)
    (subst HasNoRepeats (sym (set_keys es c.in-Some.place c.clear-lost.new.self)) (unique_from es c.len-given.ensures.unique))

pub returns-clause-rows : goal.returns-clause-rows
returns-clause-rows c = set_keys c.args.entries.now.entries c.in-Some.place c.clear-lost.new.self

pub returns-clause-counted : goal.returns-clause-counted
returns-clause-counted c =
    omega (
      arith,
      count_set c.args.entries.now.entries c.in-Some.place c.index_mut.result.now c.clear-lost.new.self c.index_mut.ensures.value,
      c.clear-lost.ensures.count,
      c.requires.counted,
      c.saturating_sub.ensures,
    )

pub returns-in_default-clause-keeps : goal.returns-in_default-clause-keeps
returns-in_default-clause-keeps c = forgets_missing c.args.row.now c.args.entries.now.entries (missing _ _ c.in_default.not-Some c.get_index_of.ensures.found)
