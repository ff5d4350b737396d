use Rattle.windows.proofs.Vocabulary.{◌≡◌, ◌∙◌, [], ap, arith, length, map, refl, sym, subst, All-contains, Contains, Contains-from_map, List, Value, ℕ}
use Rattle.std.proofs.lemmas.List.{length-map}
use Rattle.windows.proofs.IndexLemmas.{next_row, no_places, notes_all, notes_next}
use Rattle.windows.proofs.row_index.RowIndex.of.Goals as goal

pub loop-row-init : goal.loop-row-init
loop-row-init c = record {
  done = [];
  split = c.into_iter-row-iterator.ensures.into_iter_gives ∙ c.keys-row-items.ensures.rest;
  place_is = refl;
  columns_are = ap (λ w. w.columns) c.new-index.ensures;
  indexed = no_places c.args.among.now c.new-index.result (λ x there. c.requires.within x (subst (λ w. Contains w.columns x) c.new-index.ensures there));
}

pub note-requires-clause-within : goal.note-requires-clause-within
note-requires-clause-within c = c.loop-row.invariant.indexed.within

pub note-requires-clause-fits : goal.note-requires-clause-fits
note-requires-clause-fits c =
    let rows = map (λ e. e.0) c.args.entries.now.entries in
    let there = (next_row c.args.among.now c.args.columns rows c.loop-row.row-iterator c.next.new.self c.in-Some.row.now c.loop-row.place c.loop-row.index c.in-Some.ensures.steps c.loop-row.invariant).0 in
    let from = Contains-from_map (λ (e : List Value × List ℕ). e.0) c.args.entries.now.entries c.in-Some.row.now there in
    ap length (sym from.2) ∙ All-contains (λ e. length e.0 ≡ length c.args.among.now) c.args.entries.now.entries from.0 c.requires.fit from.1

pub overflow_add-place : goal.overflow_add-place
overflow_add-place c =
    let rows = map (λ e. e.0) c.args.entries.now.entries in
    let within = (next_row c.args.among.now c.args.columns rows c.loop-row.row-iterator c.next.new.self c.in-Some.row.now c.loop-row.place c.loop-row.index c.in-Some.ensures.steps c.loop-row.invariant).1 in
    omega (arith, within, length-map c.args.entries.now.entries (λ (e : List Value × List ℕ). e.0), c.keys-row-items.ensures.fits)

pub loop-row-preserved : goal.loop-row-preserved
loop-row-preserved c =
    notes_next c.args.among.now c.args.columns (map (λ e. e.0) c.args.entries.now.entries) c.loop-row.row-iterator c.next.new.self c.in-Some.row.now c.loop-row.place c.loop-row.index
    c.note.new.self c.in-Some.ensures.steps c.note.ensures.columns c.note.ensures.kept c.in_ok-note.ensures.noted c.loop-row.invariant

pub returns : goal.returns
returns c =
    notes_all c.args.among.now c.args.columns (map (λ e. e.0) c.args.entries.now.entries) c.loop-row.row-iterator c.loop-row.place c.loop-row.index (ap length c.in-None.ensures.steps.0) c.loop-row.invariant
