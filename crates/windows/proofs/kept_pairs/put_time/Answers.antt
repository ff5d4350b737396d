use Rattle.windows.proofs.Vocabulary.{◌∙◌, refl, sym, ap, subst, ◌++◌, [], ◌∷◌, HasNoRepeats, AreEntriesOf}
use Rattle.std.specs.Prelude.{is_some}
use Rattle.windows.proofs.EntryLemmas.{forgets_missing, grown_by, missing, put_again, put_sets, set_keys, unique_from}
use Rattle.windows.proofs.RestoreLemmas.{entry_first, entry_set, later_times}
use Rattle.windows.proofs.kept_pairs.put_time.Goals as goal

pub push-requires : goal.push-requires
push-requires c =
    let sets = put_sets c.args.entries.now c.args.pair.row c.in_ok-place.place c.in-Some.before c.one.result c.insert_full.new.self.entries (sym c.in_ok-place.ensures.old ∙ c.in-Some.is)
    c.in_ok-place.ensures.index c.in_ok-place.ensures.entries c.in-Some.before in
    later_times c.requires.0 c.args.pair c.args.entries.now.entries c.in-Some.before c.requires.1 c.requires.2 sets.was

pub returns-in_default : goal.returns-in_default
returns-in_default c = λ done are before.
    let none = missing _ _ c.in_default.not-Some (ap is_some c.in_ok-place.ensures.old) in
    entry_first done c.args.pair c.args.entries.now.entries c.insert_full.new.self.entries c.one.result
    (λ time has. (((forgets_missing c.args.pair.row c.args.entries.now.entries none).exact c.args.pair.row time).0 has).1 refl)
    (grown_by c.args.entries.now c.args.pair.row c.args.pair.row c.one.result c.insert_full.new.self.entries none refl c.in_ok-place.ensures.entries)
    c.one.ensures (unique_from c.insert_full.new.self.entries c.insert_full.ensures.unique) are

pub returns : goal.returns
returns c = λ done are before.
    let was = sym c.in_ok-place.ensures.old ∙ c.in-Some.is in
    subst (AreEntriesOf (done ++ c.args.pair ∷ []))
    (sym (put_again c.args.entries.now c.args.pair.row c.in_ok-place.place c.in-Some.before c.one.result c.insert_full.new.self.entries was c.in_ok-place.ensures.index c.in_ok-place.ensures.entries c.push.new.self))
    (entry_set done c.args.pair c.args.entries.now.entries _ c.in-Some.before c.push.new.self
    (put_sets c.args.entries.now c.args.pair.row c.in_ok-place.place c.in-Some.before c.one.result c.insert_full.new.self.entries was c.in_ok-place.ensures.index c.in_ok-place.ensures.entries c.push.new.self)
    c.in_ok-push.ensures.ok (subst HasNoRepeats (sym (set_keys c.args.entries.now.entries c.in_ok-place.place c.push.new.self)) are.unique) are before)
