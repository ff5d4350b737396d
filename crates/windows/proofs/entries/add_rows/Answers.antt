use Rattle.windows.proofs.Vocabulary.{◌∙◌, ◌≡◌, ◌++◌, ◌∷◌, [], List, Value, append_assoc, arith, length, ap, sym, subst, Contains, All-contains, Contains-append_right}
use Rattle.windows.proofs.EntryLemmas.{adds_then, at_most_then}
use Rattle.windows.proofs.entries.add_rows.Goals as goal

-- the row that comes next is one of all
among : (all yielded rest : List (List Value)) (row : List Value) → all ≡ yielded ++ row ∷ rest → Contains all row
among all yielded rest row is = subst (λ l. Contains l row) (sym is) (Contains-append_right yielded (row ∷ rest) row (0, omega arith, λ j. row))

pub add_row-requires-clause-fits : goal.add_row-requires-clause-fits
add_row-requires-clause-fits c =
    let yielded = c.loop-row.yielded in
    let is = sym c.into_iter-row-iterator.ensures.into_iter_gives.0 ∙ c.loop-row.invariant.2 ∙ ap (λ l. yielded ++ l) c.in-Some.ensures.steps.0 in
    All-contains (λ row. length row ≡ length c.args.among.now) c.args.rows.items c.in-Some.row c.requires.fit (among c.args.rows.items yielded c.next.new.self.rest.items c.in-Some.row is)

pub loop-row-preserved : goal.loop-row-preserved
loop-row-preserved c =
    let yielded = c.loop-row.yielded in
    let row = c.in-Some.row in
    let rest = c.next.new.self.rest.items in
    let is = c.loop-row.invariant.2 ∙ ap (λ l. yielded ++ l) c.in-Some.ensures.steps.0 in (
      tt,
      tt,
      is ∙ sym (append_assoc yielded (row ∷ []) rest),
      at_most_then c.args.now (Contains c.into_iter-row-iterator.result.rest.items) row c.args.entries.now.entries c.loop-row.entries.entries c.add_row.new.entries.entries
          (among c.into_iter-row-iterator.result.rest.items yielded rest row is)
          c.loop-row.invariant.3 c.in_ok-left.ensures.among,
      adds_then c.args.interval c.args.now yielded row c.args.entries.now.entries c.loop-row.entries.entries c.add_row.new.entries.entries
          c.loop-row.invariant.4 c.in_ok-left.ensures.added,
      c.in_ok-left.ensures.kept,
      c.in_ok-left.ensures.least,
      c.in_ok-left.ensures.indexed,
      c.in_ok-left.ensures.queued,
      c.in_ok-left.ensures.counted,
    )
