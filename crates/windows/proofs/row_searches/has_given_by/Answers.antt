use Rattle.windows.proofs.Vocabulary.{Contains, IfSome, subst, sym}
use Rattle.windows.specs.machine.RowIndexes.{IsIndexOf}
use Rattle.windows.specs.machine.WindowEntries.{rows_of}
use Rattle.windows.proofs.IndexLemmas.{has_place}
use Rattle.windows.proofs.row_searches.has_given_by.Goals as goal

pub has_found-requires : goal.has_found-requires
has_found-requires g c = λ place row times at agrees.
    let is = subst (λ o. IfSome o (IsIndexOf c.args.query.columns.now (rows_of c.args.entries.now.entries))) c.in-Some.is c.requires.indexed in
    subst (λ l. Contains l place) (sym c.places-places.ensures)
    (has_place c.args.query.columns.now c.args.entries.now.entries c.in-Some.index (g.V.Lookup.valuation c.args.query.values.now) is c.requires.fit (c.is_bound_by.ensures c.if-is_bound_by.true)
    place row times at agrees)
