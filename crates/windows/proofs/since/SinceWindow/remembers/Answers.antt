use Rattle.windows.proofs.Vocabulary.{◌≡◌, ◌∙◌, None, Some, map, ap, sym, subst, lookup, option_copied, cells, cells_eq}
use Rattle.windows.proofs.RowAnswerLemmas.{found, nothing}
use Rattle.windows.proofs.since.SinceWindow.remembers.Goals as goal

pub returns-in-Some : goal.returns-in-Some
returns-in-Some g c =
    let v = g.V.Lookup.valuation c.args.v.now in
    found c.self.inside.interval c.self.inside.columns c.self.inside.last c.self.inside.entries.entries c.self.invariant.distinct c.self.invariant.kept c.args.time v c.args.self.now
    c.in-Some.times.now c.has_in.result c.self.view_is
    (subst (λ l. Some c.in-Some.times.now ≡ lookup (λ row. cells_eq (cells l v) (map Some row)) c.self.inside.entries.entries) c.as_slice.ensures
    (sym (ap option_copied c.in-Some.is) ∙ c.get.ensures.value)) c.has_in.ensures

pub returns-in-None : goal.returns-in-None
returns-in-None g c =
    let v = g.V.Lookup.valuation c.args.v.now in
    nothing c.self.inside.interval c.self.inside.columns c.self.inside.last c.self.inside.entries.entries c.self.invariant.distinct c.self.invariant.kept c.args.time v c.args.self.now c.self.view_is
    (subst (λ l. None ≡ lookup (λ row. cells_eq (cells l v) (map Some row)) c.self.inside.entries.entries) c.as_slice.ensures (sym (ap option_copied c.in-None.is) ∙ c.get.ensures.value))
