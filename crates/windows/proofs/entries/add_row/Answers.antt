use Rattle.windows.proofs.Vocabulary.{inr, ◌∙◌, refl, sym, ap, arith, map-append, subst, [], ◌∷◌, ◌++◌, List, ℕ, Value, HashMap, Option, None, Some, IfSome, ◌≡◌, length, get_by, insert_entry}
use Rattle.windows.proofs.Vocabulary.{AddAtMost, AddsTimes, AreLeast, AreQueued, AreWindowEntries, set_value_at}
use Rattle.enf_data.specs.contracts.rows.RowPartialEq.TheImpl as rows
use Rattle.std.specs.Prelude.{is_some}
use Rattle.windows.proofs.EntryLemmas.{first_at_most, fit_of, grown_by, kept_first, kept_set, least_first, least_of, least_set, missing, place_behind, put_again, put_sets, put_value, row_added, row_at_most, row_first, unique_from}
use Rattle.windows.proofs.EntryLemmas.{set_keys}
use Rattle.windows.proofs.PlaceLemmas.{count_append, count_set, queued_pushed, queued_set}
use Rattle.windows.proofs.IndexLemmas.{index_but_last}
use Rattle.windows.specs.machine.RowIndexes.{IsIndexOf}
use Rattle.windows.specs.machine.WindowEntries.{count_pairs, rows_of}
use Rattle.windows.proofs.entries.add_row.Goals as goal

-- a row that was not there goes last
grown : {S : Type 0} (m : HashMap (List Value) (List ℕ) S) (row : List Value) (held : Option (List ℕ)) (one : List ℕ) (after : List (List Value × List ℕ))
    → ((x : List ℕ) → held ≡ Some x → ⊥) → held ≡ get_by (rows.eq-value.it row) m → after ≡ insert_entry rows.eq-value.it m.entries row one → after ≡ m.entries ++ (row, one) ∷ []
grown m row held one after not_some is put = grown_by m row row one after (missing held (get_by (rows.eq-value.it row) m) not_some (ap is_some is)) refl put

pub add-requires-clause-rise : goal.add-requires-clause-rise
add-requires-clause-rise c =
    (fit_of _ _ c.args.entries.now.entries c.args.row c.in-Some.before c.requires.kept (put_sets c.args.entries.now c.args.row c.in_ok-place.place c.in-Some.before c.one.result c.insert_full.new.self.entries (sym c.in_ok-place.ensures.old ∙ c.in-Some.is) c.in_ok-place.ensures.index c.in_ok-place.ensures.entries c.in-Some.before).was).1

pub add-requires-clause-least : goal.add-requires-clause-least
add-requires-clause-least c =
    least_of c.args.interval c.args.now c.args.entries.now.entries c.args.row c.in-Some.before c.requires.least (put_sets c.args.entries.now c.args.row c.in_ok-place.place c.in-Some.before c.one.result c.insert_full.new.self.entries (sym c.in_ok-place.ensures.old ∙ c.in-Some.is) c.in_ok-place.ensures.index c.in_ok-place.ensures.entries c.in-Some.before).was

pub note_last-requires : goal.note_last-requires
note_last-requires c =
    index_but_last c.args.among.now c.args.entries.now.entries c.insert_full.new.self.entries c.args.row c.one.result c.in_ok-place.place c.args.index.now
    (place_behind c.args.entries.now c.args.row c.in_ok-place.place (missing _ _ c.in_default.not-Some (ap is_some c.in_ok-place.ensures.old)) c.in_ok-place.ensures.index)
    c.requires.fits c.requires.indexed (grown c.args.entries.now c.args.row c.in_ok-place.held c.one.result c.insert_full.new.self.entries c.in_default.not-Some c.in_ok-place.ensures.old c.in_ok-place.ensures.entries)

pub returns-in_default-clause-among : goal.returns-in_default-clause-among
returns-in_default-clause-among c =
    first_at_most c.args.interval c.args.now c.args.row c.args.entries.now.entries c.insert_full.new.self.entries c.one.result (grown c.args.entries.now c.args.row c.in_ok-place.held c.one.result c.insert_full.new.self.entries c.in_default.not-Some c.in_ok-place.ensures.old c.in_ok-place.ensures.entries) c.one.ensures

pub returns-in_default-clause-added : goal.returns-in_default-clause-added
returns-in_default-clause-added c =
    row_first c.args.interval c.args.now c.args.row c.args.entries.now.entries c.insert_full.new.self.entries c.one.result (grown c.args.entries.now c.args.row c.in_ok-place.held c.one.result c.insert_full.new.self.entries c.in_default.not-Some c.in_ok-place.ensures.old c.in_ok-place.ensures.entries) c.one.ensures

pub returns-in_default-clause-kept : goal.returns-in_default-clause-kept
returns-in_default-clause-kept c =
    kept_first _ c.args.now c.args.row c.args.entries.now.entries c.insert_full.new.self.entries c.one.result c.requires.kept c.requires.fits (grown c.args.entries.now c.args.row c.in_ok-place.held c.one.result c.insert_full.new.self.entries c.in_default.not-Some c.in_ok-place.ensures.old c.in_ok-place.ensures.entries)
    c.one.ensures (unique_from c.insert_full.new.self.entries c.insert_full.ensures.unique)

pub returns-in_default-clause-least : goal.returns-in_default-clause-least
returns-in_default-clause-least c =
    least_first c.args.interval c.args.now c.args.row c.args.entries.now.entries c.insert_full.new.self.entries c.one.result c.requires.least (grown c.args.entries.now c.args.row c.in_ok-place.held c.one.result c.insert_full.new.self.entries c.in_default.not-Some c.in_ok-place.ensures.old c.in_ok-place.ensures.entries) c.one.ensures

pub returns-in_default-clause-queued : goal.returns-in_default-clause-queued
returns-in_default-clause-queued c = record {
  up_to = c.push_due.ensures.up_to;
  in_reach = c.push_due.ensures.in_reach c.requires.queued.in_reach;
  queued = λ high is. queued_pushed c.args.now c.in_ok-place.place c.args.row c.one.result c.args.entries.now.entries c.insert_full.new.self.entries c.args.queue.now c.push_due.new.queue
      (place_behind c.args.entries.now c.args.row c.in_ok-place.place (missing _ _ c.in_default.not-Some (ap is_some c.in_ok-place.ensures.old)) c.in_ok-place.ensures.index)
      c.one.ensures (grown c.args.entries.now c.args.row c.in_ok-place.held c.one.result c.insert_full.new.self.entries c.in_default.not-Some c.in_ok-place.ensures.old c.in_ok-place.ensures.entries) c.push_due.ensures.stays (c.in_ok-push_due.ensures.waits high is) (c.requires.queued.queued high is);
}

pub returns-in_default-clause-counted : goal.returns-in_default-clause-counted
returns-in_default-clause-counted c =
    let grown = (grown c.args.entries.now c.args.row c.in_ok-place.held c.one.result c.insert_full.new.self.entries c.in_default.not-Some c.in_ok-place.ensures.old c.in_ok-place.ensures.entries) in
    omega (arith, ap count_pairs grown, count_append c.args.entries.now.entries ((c.args.row, c.one.result) ∷ []), ap length c.one.ensures, c.requires.counted, c.saturating_add.ensures)

pub returns-clause-among : goal.returns-clause-among
returns-clause-among c =
    subst (AddAtMost c.args.now (λ other. other ≡ c.args.row) c.args.entries.now.entries) (sym (put_again c.args.entries.now c.args.row c.in_ok-place.place c.in-Some.before c.one.result c.insert_full.new.self.entries (sym c.in_ok-place.ensures.old ∙ c.in-Some.is) c.in_ok-place.ensures.index c.in_ok-place.ensures.entries c.add.new.self))
    (row_at_most c.args.interval c.args.now c.args.row c.args.entries.now.entries _ c.in-Some.before c.add.new.self (put_sets c.args.entries.now c.args.row c.in_ok-place.place c.in-Some.before c.one.result c.insert_full.new.self.entries (sym c.in_ok-place.ensures.old ∙ c.in-Some.is) c.in_ok-place.ensures.index c.in_ok-place.ensures.entries c.add.new.self) c.in_ok-more.ensures.among)

pub returns-clause-added : goal.returns-clause-added
returns-clause-added c =
    subst (AddsTimes c.args.interval c.args.now (λ other. other ≡ c.args.row) c.args.entries.now.entries) (sym (put_again c.args.entries.now c.args.row c.in_ok-place.place c.in-Some.before c.one.result c.insert_full.new.self.entries (sym c.in_ok-place.ensures.old ∙ c.in-Some.is) c.in_ok-place.ensures.index c.in_ok-place.ensures.entries c.add.new.self))
    (row_added c.args.interval c.args.now c.args.row c.args.entries.now.entries _ c.in-Some.before c.add.new.self (put_sets c.args.entries.now c.args.row c.in_ok-place.place c.in-Some.before c.one.result c.insert_full.new.self.entries (sym c.in_ok-place.ensures.old ∙ c.in-Some.is) c.in_ok-place.ensures.index c.in_ok-place.ensures.entries c.add.new.self) c.in_ok-more.ensures.added)

pub returns-clause-kept : goal.returns-clause-kept
returns-clause-kept c =
    subst (AreWindowEntries (length c.args.among.now) c.args.now) (sym (put_again c.args.entries.now c.args.row c.in_ok-place.place c.in-Some.before c.one.result c.insert_full.new.self.entries (sym c.in_ok-place.ensures.old ∙ c.in-Some.is) c.in_ok-place.ensures.index c.in_ok-place.ensures.entries c.add.new.self))
    (kept_set _ c.args.now c.args.row c.args.entries.now.entries c.in_ok-place.place c.in-Some.before c.add.new.self c.requires.kept (put_sets c.args.entries.now c.args.row c.in_ok-place.place c.in-Some.before c.one.result c.insert_full.new.self.entries (sym c.in_ok-place.ensures.old ∙ c.in-Some.is) c.in_ok-place.ensures.index c.in_ok-place.ensures.entries c.add.new.self) c.in_ok-more.ensures.rise)

pub returns-clause-least : goal.returns-clause-least
returns-clause-least c =
    subst (AreLeast c.args.interval c.args.now) (sym (put_again c.args.entries.now c.args.row c.in_ok-place.place c.in-Some.before c.one.result c.insert_full.new.self.entries (sym c.in_ok-place.ensures.old ∙ c.in-Some.is) c.in_ok-place.ensures.index c.in_ok-place.ensures.entries c.add.new.self))
    (least_set c.args.interval c.args.now c.args.row c.args.entries.now.entries _ c.in-Some.before c.add.new.self c.requires.least (put_sets c.args.entries.now c.args.row c.in_ok-place.place c.in-Some.before c.one.result c.insert_full.new.self.entries (sym c.in_ok-place.ensures.old ∙ c.in-Some.is) c.in_ok-place.ensures.index c.in_ok-place.ensures.entries c.add.new.self) (inr c.in_ok-more.ensures.least))

pub returns-clause-indexed : goal.returns-clause-indexed
returns-clause-indexed c =
    subst (λ rows. IfSome c.args.index.now (IsIndexOf c.args.among.now rows))
    (sym (ap rows_of (put_again c.args.entries.now c.args.row c.in_ok-place.place c.in-Some.before c.one.result c.insert_full.new.self.entries (sym c.in_ok-place.ensures.old ∙ c.in-Some.is) c.in_ok-place.ensures.index c.in_ok-place.ensures.entries c.add.new.self) ∙ set_keys c.args.entries.now.entries c.in_ok-place.place c.add.new.self)) c.requires.indexed

pub returns-clause-queued : goal.returns-clause-queued
returns-clause-queued c = record {
  up_to = c.push_due.ensures.up_to;
  in_reach = c.push_due.ensures.in_reach c.requires.queued.in_reach;
  queued = λ high is. subst (λ es. AreQueued es c.push_due.new.queue) (sym (put_again c.args.entries.now c.args.row c.in_ok-place.place c.in-Some.before c.one.result c.insert_full.new.self.entries (sym c.in_ok-place.ensures.old ∙ c.in-Some.is) c.in_ok-place.ensures.index c.in_ok-place.ensures.entries c.add.new.self))
      (queued_set c.args.now c.in_ok-place.place c.args.entries.now.entries c.in-Some.before c.add.new.self c.args.queue.now c.push_due.new.queue
      (put_value c.args.entries.now c.args.row c.in_ok-place.place c.in-Some.before c.one.result c.insert_full.new.self.entries (sym c.in_ok-place.ensures.old ∙ c.in-Some.is) c.in_ok-place.ensures.index c.in_ok-place.ensures.entries)
      c.in_ok-more.ensures.among c.push_due.ensures.stays (c.in_ok-push_due.ensures.waits high is) (c.requires.queued.queued high is));
}

pub returns-clause-counted : goal.returns-clause-counted
returns-clause-counted c =
    omega (
      arith,
      ap count_pairs (put_again c.args.entries.now c.args.row c.in_ok-place.place c.in-Some.before c.one.result c.insert_full.new.self.entries (sym c.in_ok-place.ensures.old ∙ c.in-Some.is) c.in_ok-place.ensures.index c.in_ok-place.ensures.entries c.add.new.self),
      count_set c.args.entries.now.entries c.in_ok-place.place c.in-Some.before c.add.new.self (put_value c.args.entries.now c.args.row c.in_ok-place.place c.in-Some.before c.one.result c.insert_full.new.self.entries (sym c.in_ok-place.ensures.old ∙ c.in-Some.is) c.in_ok-place.ensures.index c.in_ok-place.ensures.entries),
      c.in_ok-more.ensures.count,
      c.requires.counted,
      c.saturating_add-2.ensures,
    )
