use Rattle.windows.proofs.Vocabulary.{◌∙◌, [], ap, sym, option_copied, option_map_or, cells}
use Rattle.windows.specs.machine.RowIndexes.{bucket_at}
use Rattle.windows.proofs.row_index.RowIndex.places.Goals as goal

pub returns-in-Some : goal.returns-in-Some
returns-in-Some g c =
    let v = g.V.Lookup.valuation c.args.v.now in
    c.as_slice-in-Some.ensures
    ∙ ap (λ o. option_map_or (λ places. places) o []) (sym (ap option_copied c.in-Some.is) ∙ c.get.ensures.value)
    ∙ ap (λ l. bucket_at c.self.inside.buckets.entries (cells l v)) c.as_slice.ensures
    ∙ ap (λ w. bucket_at w.buckets (cells w.columns v)) c.self.view_is
