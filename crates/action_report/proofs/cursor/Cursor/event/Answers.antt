-- The name in front is that of the event, and its arguments follow.
use Rattle.action_report.proofs.Vocabulary.{◌≡◌, ◌++◌, ◌∷◌, Some, slice_get, sym, ap, subst, ◌∙◌, spelled_row, FitColumns}
use Rattle.action_report.proofs.RowLemmas.{event_text, name_of, paren_ends_word, same_event}
use Rattle.action_report.proofs.cursor.Cursor.event.Goals as goal

pub returns-in_default-clause-again : goal.returns-in_default-clause-again
returns-in_default-clause-again c = λ event rest d e.
    let n = name_of c.args.signature.now event c.len-names.ensures.signature d in
    let w = c.word.ensures d.entry.text (40 ∷ spelled_row event.args ++ 41 ∷ rest) n.word (paren_ends_word (spelled_row event.args ++ 41 ∷ rest))
    (event_text c.args.signature.now event d.entry rest c.args.self.now.rest.now n e) in
    absurd (c.in_default.not-Some _ (c.find.ensures.only event.name (n.found ∙ ap Some (sym w.0))))

pub returns-in-Some-2-clause-again : goal.returns-in-Some-2-clause-again
returns-in-Some-2-clause-again c = λ event rest d e.
    let n = name_of c.args.signature.now event c.len-names.ensures.signature d in
    let w = c.word.ensures d.entry.text (40 ∷ spelled_row event.args ++ 41 ∷ rest) n.word (paren_ends_word (spelled_row event.args ++ 41 ∷ rest))
    (event_text c.args.signature.now event d.entry rest c.args.self.now.rest.now n e) in
    let found = c.in-Some.ensures.only event.name (n.found ∙ ap Some (sym w.0)) in
    let name : c.in-Some.name ≡ event.name = cc found in
    let there : Some c.in-Some-entry.entry.now ≡ Some d.entry = c.in-Some-entry.ensures ∙ ap (λ k. slice_get c.args.signature.now k.0) name ∙ d.found in
    let entry : c.in-Some-entry.entry.now ≡ d.entry = cc there in
    let sorts = c.as_slice.ensures ∙ ap (λ x. x.sorts) entry in
    let read = c.in_ok-args.ensures.again event.args rest (subst (λ l. FitColumns l event.args) (sym sorts) d.fit) w.1 in
    let args : c.in-Some-2.args ≡ event.args = cc (read.0, c.in-Some-2.is) in
    (ap Some (same_event event c.in-Some.name c.in-Some-2.args name args), read.1)

pub returns-in-None-clause-again : goal.returns-in-None-clause-again
returns-in-None-clause-again c = λ event rest d e.
    let n = name_of c.args.signature.now event c.len-names.ensures.signature d in
    let w = c.word.ensures d.entry.text (40 ∷ spelled_row event.args ++ 41 ∷ rest) n.word (paren_ends_word (spelled_row event.args ++ 41 ∷ rest))
    (event_text c.args.signature.now event d.entry rest c.args.self.now.rest.now n e) in
    let found = c.in-Some.ensures.only event.name (n.found ∙ ap Some (sym w.0)) in
    let name : c.in-Some.name ≡ event.name = cc found in
    let there : Some c.in-Some-entry.entry.now ≡ Some d.entry = c.in-Some-entry.ensures ∙ ap (λ k. slice_get c.args.signature.now k.0) name ∙ d.found in
    let entry : c.in-Some-entry.entry.now ≡ d.entry = cc there in
    let sorts = c.as_slice.ensures ∙ ap (λ x. x.sorts) entry in
    let read = c.in_ok-args.ensures.again event.args rest (subst (λ l. FitColumns l event.args) (sym sorts) d.fit) w.1 in
    absurd (cc (read.0, c.in-None.is))
