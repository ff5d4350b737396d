use Rattle.windows.proofs.Vocabulary.{◌≡◌, ◌∙◌, ap, false≢true, same_Some, slice_get, Some, subst, sym, cells, IsSomeIn, SurvivesUnder}
use Rattle.std.specs.Map.Iter.{deref_pair}
use Rattle.std.specs.Option.{option_map}
use Rattle.windows.proofs.IndexLemmas.{at_more, at_no_more, none_at_place}
use Rattle.windows.proofs.bound_answers.push_at.Goals as goal

pub returns-in_default : goal.returns-in_default
returns-in_default g c = at_no_more c.args.interval c.args.now (SurvivesUnder c.args.surviving.now (cells c.args.query.columns.now (g.V.Lookup.valuation c.args.query.values.now)))
    c.args.entries.now.entries c.args.place c.args.out.now.items
    (λ row times at given. none_at_place c.get_index.result deref_pair _ c.get_index.ensures.entry c.in_default.not-Some (row, times) at)

pub returns-then-not-is_given_under : goal.returns-then-not-is_given_under
returns-then-not-is_given_under g c =
    let S = SurvivesUnder c.args.surviving.now (cells c.args.query.columns.now (g.V.Lookup.valuation c.args.query.values.now)) in
    let at : slice_get c.args.entries.now.entries c.args.place ≡ Some (c.in-Some.row.now, c.in-Some.times.now) = sym c.get_index.ensures.entry ∙ ap (option_map deref_pair) c.in-Some.is in
    at_no_more c.args.interval c.args.now S c.args.entries.now.entries c.args.place c.args.out.now.items
    (λ row times there given. false≢true (sym c.if-not-is_given_under.true ∙ c.is_given_under.ensures.given.1
    (subst (λ e. IsSomeIn c.args.interval c.args.now e.1 × S e.0) (same_Some _ _ (sym there ∙ at)) given)))

pub returns : goal.returns
returns g c =
    let given = c.is_given_under.ensures.given.0 c.if-not-is_given_under.false in
    at_more c.args.interval c.args.now (SurvivesUnder c.args.surviving.now (cells c.args.query.columns.now (g.V.Lookup.valuation c.args.query.values.now)))
    c.args.entries.now.entries c.args.place c.args.out.now.items c.push.new.self.items c.in-Some.row.now c.in_ok-duplicate.field-0 c.in-Some.times.now
    (sym c.get_index.ensures.entry ∙ ap (option_map deref_pair) c.in-Some.is) given.0 given.1 c.in_ok-duplicate.ensures c.in_ok-push.ensures.items
