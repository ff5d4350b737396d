use Rattle.windows.proofs.Vocabulary.{◌≡◌, ◌∙◌, ◌↔◌, ◌++◌, [], ◌∷◌, List, length, All, Contains, map, arith, ap, sym, subst, IfOk-weaker, Value, KeptPair}
use Rattle.std.proofs.lemmas.List.{append-nil}
use Rattle.windows.proofs.RestoreLemmas.{rows_fit}
use Rattle.windows.proofs.kept_pairs.rows_of.Goals as goal

-- the rows of all pairs, when none is left
all_rows : (rows : List (List Value)) (pairs all left : List KeptPair) → map (λ (p : KeptPair). p.row) all ≡ rows ++ map (λ (p : KeptPair). p.row) left → length left ≡ 0 → all
    ≡ pairs → rows ≡ map (λ (p : KeptPair). p.row) pairs
all_rows rows pairs all [] so_far none is = sym (append-nil rows) ∙ sym so_far ∙ ap (map (λ (p : KeptPair). p.row)) is
all_rows rows pairs all (p ∷ left) so_far none is = absurd (omega (arith, none))

pub from_rows-requires-clause-fits : goal.from_rows-requires-clause-fits
from_rows-requires-clause-fits c =
    let all = all_rows c.loop-pair.rows.items c.args.pairs.items _ c.loop-pair.pair-iterator.rest.items c.loop-pair.invariant.2
    (omega (arith, c.in-None.ensures.steps.0, c.loop-pair.pair-iterator.rest.ok.0)) c.into_iter-pair-iterator.ensures.into_iter_gives.0 in
    subst (λ l. All (λ row. length row ≡ length l) c.loop-pair.rows.items) (sym c.in_ok-duplicate.ensures)
    (subst (All (λ row. length row ≡ length c.args.columns.now)) (sym all) (rows_fit (length c.args.columns.now) c.args.pairs.items c.requires.fit))

pub returns-clause-rows : goal.returns-clause-rows
returns-clause-rows c =
    let all = all_rows c.loop-pair.rows.items c.args.pairs.items _ c.loop-pair.pair-iterator.rest.items c.loop-pair.invariant.2
    (omega (arith, c.in-None.ensures.steps.0, c.loop-pair.pair-iterator.rest.ok.0)) c.into_iter-pair-iterator.ensures.into_iter_gives.0 in
    IfOk-weaker c.from_rows.result (λ t. (row : List Value) → Contains t.rows row ↔ Contains c.loop-pair.rows.items row) _
    (λ t same row. subst (λ l. Contains t.rows row ↔ Contains l row) all (same row)) c.from_rows.ensures.rows
