use Rattle.sleepers.proofs.Vocabulary.{rules, Bor, always_returns_same, place_cmp, Entry}
use Rattle.sleepers.proofs.AgendaLemmas.{search_found, search_free}
use Rattle.sleepers.proofs.agenda.search.Goals as goal

pub returns-clause-found : goal.returns-clause-found
returns-clause-found g c =
    search_found c.args.entries.now c.args.place.now c.requires c.binary_search_by.result c.binary_search_by.ensures.bound
    (c.binary_search_by.ensures.position (λ (r : Bor (Entry g.row.T.Denot)). place_cmp r.now.place c.args.place.now) (always_returns_same _ _ _ (λ a r q k. search rules)))

pub returns-clause-free : goal.returns-clause-free
returns-clause-free g c =
    search_free c.args.entries.now c.args.place.now c.requires c.binary_search_by.result c.binary_search_by.ensures.bound
    (c.binary_search_by.ensures.position (λ (r : Bor (Entry g.row.T.Denot)). place_cmp r.now.place c.args.place.now) (always_returns_same _ _ _ (λ a r q k. search rules)))
