use Rattle.windows.proofs.Vocabulary.{◌≡◌, ◌∙◌, ◌++◌, ◌∷◌, [], ap, none-some, same_Some, subst, sym, length, List, Value, ℕ, IfSome, on_ok_weaker}
use Rattle.std.specs.Map.Iter.{deref_pair}
use Rattle.std.specs.Option.{option_map}
use Rattle.windows.proofs.IndexLemmas.{last_at}
use Rattle.windows.specs.machine.RowIndexes.{IsIndexOf}
use Rattle.windows.proofs.entries.note_last.Goals as goal

pub note_place-requires-clause-indexed : goal.note_place-requires-clause-indexed
note_place-requires-clause-indexed c = (c.requires.front, c.requires.indexed)

pub note_place-requires-clause-fits : goal.note_place-requires-clause-fits
note_place-requires-clause-fits c =
    let at = last_at c.args.among.now c.args.entries.now.entries c.args.place c.args.index.now _ (sym (ap (option_map deref_pair) c.in-Some.is) ∙ c.get_index.ensures.entry) c.requires in
    ap length (same_Some c.in-Some.row.now c.requires.last at) ∙ c.requires.fits

pub returns-in-Some : goal.returns-in-Some
returns-in-Some c =
    let at = last_at c.args.among.now c.args.entries.now.entries c.args.place c.args.index.now _ (sym (ap (option_map deref_pair) c.in-Some.is) ∙ c.get_index.ensures.entry) c.requires in
    on_ok_weaker c.note_place.result
    (λ noted. subst (λ rows. IfSome c.note_place.new.index (IsIndexOf c.args.among.now rows))
    (ap (λ row. c.requires.front ++ row ∷ []) (same_Some c.in-Some.row.now c.requires.last at) ∙ sym c.requires.split)
    (noted c.requires.front c.requires.at c.requires.indexed)) c.note_place.ensures.noted

pub returns-in-None : goal.returns-in-None
returns-in-None c = absurd (none-some c.requires.last
    (last_at c.args.among.now c.args.entries.now.entries c.args.place c.args.index.now _ (sym (ap (option_map deref_pair) c.in-None.is) ∙ c.get_index.ensures.entry) c.requires))
