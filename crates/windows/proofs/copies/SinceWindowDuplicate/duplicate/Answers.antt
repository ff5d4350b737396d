use Rattle.windows.proofs.Vocabulary.{◌≡◌, All, IfSome, length, sym, subst, IsWindow}
use Rattle.windows.proofs.EntryLemmas.{entries_fit}
use Rattle.windows.specs.machine.RowIndexes.{IsIndexOf}
use Rattle.windows.specs.machine.WindowEntries.{rows_of}
use Rattle.windows.proofs.WindowLemmas.{window_by}
use Rattle.windows.proofs.copies.SinceWindowDuplicate.duplicate.Goals as goal

pub made_anew-requires-clause-indexed : goal.made_anew-requires-clause-indexed
made_anew-requires-clause-indexed c = (
  rows_of c.self.inside.entries.entries,
  subst (λ l. IfSome c.self.inside.index (IsIndexOf l (rows_of c.self.inside.entries.entries))) (sym c.as_slice-among.ensures) c.self.invariant.indexed,
)

pub made_anew-requires-clause-fit : goal.made_anew-requires-clause-fit
made_anew-requires-clause-fit c = subst (λ l. All (λ e. length e.0 ≡ length l) c.self.inside.entries.entries) (sym c.as_slice-among.ensures)
    (entries_fit (length c.self.inside.columns) c.self.inside.last c.self.inside.entries.entries c.self.invariant.kept)

pub invariant_of-result : goal.invariant_of-result
invariant_of-result c =
    subst (λ l. IsWindow c.self.inside.interval l c.self.inside.last c.in_ok-copy_entries.field-0.entries c.in_ok-duplicate-2.field-0 c.in_ok-index.index c.self.inside.pairs) (sym c.in_ok-duplicate.ensures)
    (subst (λ q. IsWindow c.self.inside.interval c.self.inside.columns c.self.inside.last c.in_ok-copy_entries.field-0.entries q c.in_ok-index.index c.self.inside.pairs) (sym c.in_ok-duplicate-2.ensures)
    (subst (λ es. IsWindow c.self.inside.interval c.self.inside.columns c.self.inside.last es c.self.inside.queue c.in_ok-index.index c.self.inside.pairs) (sym c.in_ok-copy_entries.ensures)
    (window_by c.self.inside.interval c.self.inside.columns c.self.inside.last c.self.inside.entries.entries c.self.inside.queue c.self.inside.index c.in_ok-index.index c.self.inside.pairs
    (subst (λ l. IfSome c.in_ok-index.index (IsIndexOf l (rows_of c.self.inside.entries.entries))) c.as_slice-among.ensures c.in_ok-index.ensures) c.self.invariant)))
