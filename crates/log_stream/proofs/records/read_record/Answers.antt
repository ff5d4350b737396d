use Rattle.log_stream.proofs.Vocabulary.{sym, true≢false}
use Rattle.log_stream.proofs.WholeItems.{none_marked}
use Rattle.log_stream.proofs.records.read_record.Goals.{then-eq+in_default-behind_mark-2, else-eq}
use Rattle.log_stream.proofs.records.read_record.Goals as goal

pub returns-in-Some-behind_mark : goal.returns-in-Some-behind_mark
returns-in-Some-behind_mark c = c.read_tick.ensures c.args.signature.now c.args.mode c.in-Some-behind_mark.ensures.some

pub returns : goal.returns
returns c = λ whole.
    none_marked c.args.signature.now c.args.mode c.args.bytes.now c.bad_at.result c.in_default.ensures.none c.in_default-behind_mark.ensures.none
    (elim c.if-eq.branch [
      | then-eq+in_default-behind_mark-2 w ↦ λ end is s. w.in_default-behind_mark-2.ensures.none end s
      | else-eq w ↦ λ end is s. let e = rw is at w.if-eq.ensures in true≢false (sym e)
    ])
    c.bad_at.ensures
