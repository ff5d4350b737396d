use Rattle.windows.proofs.Vocabulary.{◌≡◌, ◌∙◌, Contains, List, sym, VarId, subst, on_ok_weaker, cells, ap}
use Rattle.valuations.specs.machine.Bindings.{filled_from_row}
use Rattle.windows.specs.machine.RowIndexes.{KeepBuckets, bucket_at, part_cells}
use Rattle.windows.proofs.IndexLemmas.{frame_cells, whole_part}
use Rattle.windows.proofs.row_index.RowIndex.note.Goals as goal

pub returns-clause-kept : goal.returns-clause-kept
returns-clause-kept c = subst (λ w. KeepBuckets w.buckets c.note_in.new.buckets.entries) c.self.view_is c.note_in.ensures.kept

pub returns-clause-noted : goal.returns-clause-noted
returns-clause-noted c = on_ok_weaker c.note_in.result (λ noted.
    let same : cells c.as_slice-2.result.now (filled_from_row c.empty-nothing.result c.args.among.now c.as_slice.result.now) ≡ part_cells c.self.inside.columns c.args.among.now c.args.row.now =
    (λ i. cells (c.as_slice-2.ensures i) (filled_from_row (c.empty-nothing.ensures i) c.args.among.now (c.as_slice.ensures i)))
    ∙ frame_cells c.self.inside.columns c.args.among.now c.args.row.now in
    let whole = whole_part c.self.inside.columns c.args.among.now c.args.row.now
    (subst (λ (l : List VarId). (x : VarId) → Contains l x → Contains c.args.among.now x) (ap (λ w. w.columns) (sym c.self.view_is)) c.requires.within) c.requires.fits in
    subst (λ b. Contains (bucket_at c.note_in.new.buckets.entries b) c.args.place) same (noted whole.0 (same ∙ whole.1))) c.note_in.ensures.noted
