use Rattle.windows.proofs.Vocabulary.{IfSome, subst, on_ok_weaker}
use Rattle.windows.specs.machine.RowIndexes.{IsIndexOf}
use Rattle.windows.proofs.IndexLemmas.{noted_no_more, noted_one}
use Rattle.windows.proofs.row_index.note_place.Goals as goal

pub note-requires-clause-within : goal.note-requires-clause-within
note-requires-clause-within c = (subst (λ o. IfSome o (IsIndexOf c.args.among.now c.requires.indexed.0)) c.in-Some.is c.requires.indexed.1).within

pub returns-in-Some-clause-kept : goal.returns-in-Some-clause-kept
returns-in-Some-clause-kept c = λ rows is.
    noted_no_more c.args.among.now rows c.in-Some.index c.note.new.self c.note.ensures.columns c.note.ensures.kept (subst (λ o. IfSome o (IsIndexOf c.args.among.now rows)) c.in-Some.is is)

pub returns-in-Some-clause-noted : goal.returns-in-Some-clause-noted
returns-in-Some-clause-noted c = on_ok_weaker c.note.result (λ there. λ rows last is.
    noted_one c.args.among.now rows c.args.row.now c.args.place c.in-Some.index c.note.new.self last c.note.ensures.columns c.note.ensures.kept there
    (subst (λ o. IfSome o (IsIndexOf c.args.among.now rows)) c.in-Some.is is)) c.note.ensures.noted
