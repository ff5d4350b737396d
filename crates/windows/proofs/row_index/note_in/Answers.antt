use Rattle.windows.proofs.Vocabulary.{◌≡◌, ◌∙◌, ◌++◌, [], ◌∷◌, Contains, map, Some, subst, sym, on_ok_weaker, cells, cells_eq, Contains-append_left, Contains-push}
use Rattle.windows.proofs.EntryLemmas.{missing}
use Rattle.windows.proofs.TimeLemmas.{either_way}
use Rattle.windows.proofs.IndexLemmas.{set_bucket, set_first}
use Rattle.windows.proofs.row_index.note_in.Goals as goal

pub returns-in-Some-clause-kept : goal.returns-in-Some-clause-kept
returns-in-Some-clause-kept g c = λ bounds place there.
    set_bucket (λ key. cells_eq bounds (map Some key)) c.args.buckets.now.entries c.in-Some.at c.index_mut.result.now c.put.new.self c.index_mut.ensures.value
    (λ other h. either_way c.put.result (c.put.new.self ≡ c.index_mut.result.now ++ c.args.place ∷ []) (c.put.new.self ≡ c.index_mut.result.now) (Contains c.put.new.self other)
    c.put.ensures.ok c.put.ensures.err
    (λ grown. subst (λ l. Contains l other) (sym grown) (Contains-append_left c.index_mut.result.now (c.args.place ∷ []) other h)) (λ same. subst (λ l. Contains l other) (sym same) h)) place there

pub returns-in-Some-clause-noted : goal.returns-in-Some-clause-noted
returns-in-Some-clause-noted g c = on_ok_weaker c.put.result (λ grown. λ key whole.
    let bounds = cells c.args.query.columns.now (g.V.Lookup.valuation c.args.query.values.now) in
    subst (λ l. Contains l c.args.place)
    (sym (set_first (λ k. cells_eq bounds (map Some k)) c.args.buckets.now.entries c.in-Some.at c.index_mut.result.now c.put.new.self (sym c.get_index_of.ensures.index ∙ c.in-Some.is)
    c.index_mut.ensures.value ∙ grown))
    (Contains-push c.index_mut.result.now c.args.place)) c.put.ensures.ok

pub note_first-requires : goal.note_first-requires
note_first-requires g c = missing _ _ c.in_default.not-Some c.get_index_of.ensures.found
