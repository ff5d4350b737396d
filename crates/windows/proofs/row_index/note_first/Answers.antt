use Rattle.windows.proofs.Vocabulary.{◌≡◌, IfSome, map, Some, subst, cells}
use Rattle.windows.proofs.IndexLemmas.{if_none, new_keeps, new_noted}
use Rattle.windows.proofs.row_index.note_first.Goals as goal

pub returns-in_default-clause-noted : goal.returns-in_default-clause-noted
returns-in_default-clause-noted g c = λ key whole. absurd (if_none c.in_ok-part.field-0 _ c.in_default.not-Some c.in_ok-part.ensures.none key whole)

pub returns-clause-kept : goal.returns-clause-kept
returns-clause-kept g c =
    let bounds = cells c.args.query.columns.now (g.V.Lookup.valuation c.args.query.values.now) in
    new_keeps c.args.buckets.now bounds c.in-Some.part c.in_ok-bucket.bucket c.insert.new.self.entries c.args.place c.requires
    (subst (λ o. IfSome o (λ row. bounds ≡ map Some row)) c.in-Some.is c.in_ok-part.ensures.some) c.in_ok-insert.ensures.entries

pub returns-clause-noted : goal.returns-clause-noted
returns-clause-noted g c = λ key whole.
    let bounds = cells c.args.query.columns.now (g.V.Lookup.valuation c.args.query.values.now) in
    new_noted c.args.buckets.now bounds c.in-Some.part c.in_ok-bucket.bucket c.insert.new.self.entries c.args.place c.requires
    (subst (λ o. IfSome o (λ row. bounds ≡ map Some row)) c.in-Some.is c.in_ok-part.ensures.some) c.in_ok-insert.ensures.entries c.in_ok-bucket.ensures
