use Rattle.windows.proofs.Vocabulary.{◌≡◌, All, Contains, length, subst, sym}
use Rattle.windows.proofs.EntryLemmas.{entries_fit}
use Rattle.windows.proofs.since.SinceWindow.index_by.Goals as goal

pub of-requires-clause-within : goal.of-requires-clause-within
of-requires-clause-within c = λ x there. c.are_some_of.ensures c.if-are_some_of.true x (subst (λ l. Contains l x) (sym c.as_slice.ensures) there)

pub of-requires-clause-fit : goal.of-requires-clause-fit
of-requires-clause-fit c = subst (λ l. All (λ e. length e.0 ≡ length l) c.self.inside.entries.entries) (sym c.as_slice-among.ensures)
    (entries_fit (length c.self.inside.columns) c.self.inside.last c.self.inside.entries.entries c.self.invariant.kept)
