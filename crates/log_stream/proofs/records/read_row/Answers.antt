use Rattle.log_stream.proofs.Vocabulary.{[], sym, ◌∙◌, arith, Opened}
use Rattle.log_stream.proofs.RecordParts.{fails_bad, row_done, row_more, row_start, row_without_mark, row_without_value}
use Rattle.log_stream.proofs.ReadParts.{clash_nothing}
use Rattle.log_stream.proofs.records.read_row.Goals as goal

pub returns-in-Some-clause-ok : goal.returns-in-Some-clause-ok
returns-in-Some-clause-ok c = record {
  args = [];
  leads = c.in-Some.ensures.some;
  values = c.requires.empty;
  first = c.requires.clear ∙ sym (clash_nothing c.args.sorts.now);
}

pub loop-next-init : goal.loop-next-init
loop-next-init c =
    rw (c.requires.empty, c.requires.clear)
    (row_start c.args.sorts.now c.args.bytes.now c.args.from c.requires.within c.in_default.ensures.none (clash_nothing c.args.sorts.now))

pub returns-in_default-2-clause-err : goal.returns-in_default-2-clause-err
returns-in_default-2-clause-err c = λ mode kind time events place name.
    let none = rw c.in_default-2.is at c.in_ok-next.ensures.none in
    fails_bad mode c.args.bytes.now c.args.from (Opened kind time events place name) c.loop-next.place c.bad_at.result c.bad_at.ensures
    (row_without_value mode c.args.sorts.now c.args.bytes.now c.args.from c.loop-next.row c.loop-next.clash c.loop-next.place kind time events place name c.loop-next.invariant
    (λ p end value s. none p end value s))

pub returns-in_default-behind_mark-2-clause-err : goal.returns-in_default-behind_mark-2-clause-err
returns-in_default-behind_mark-2-clause-err c = λ mode kind time events place name.
    let put = rw c.in-Some-2.is at c.in_ok-next.ensures.some in
    fails_bad mode c.args.bytes.now c.args.from (Opened kind time events place name) c.in-Some-2.next c.bad_at-in_default-behind_mark-2.result c.bad_at-in_default-behind_mark-2.ensures
    (row_without_mark mode c.args.sorts.now c.args.bytes.now c.args.from c.loop-next.row c.loop-next.clash c.loop-next.place c.in-Some-2.next put.value kind time events place name
    c.loop-next.invariant put.leads c.in_default-behind_mark.ensures.none c.in_default-behind_mark-2.ensures.none)

pub returns-in-Some-behind_mark-clause-ok : goal.returns-in-Some-behind_mark-clause-ok
returns-in-Some-behind_mark-clause-ok c =
    let put = rw c.in-Some-2.is at c.in_ok-next.ensures.some in
    let clashes = c.note_clash.ensures c.loop-next.row put.value put.last in
    rw (put.last, clashes)
    (row_done c.args.sorts.now c.args.bytes.now c.args.from c.loop-next.row c.loop-next.clash c.loop-next.place c.in-Some-2.next c.in-Some-behind_mark.next put.value c.loop-next.invariant
    put.leads c.in-Some-behind_mark.ensures.some)

pub loop-next-preserved : goal.loop-next-preserved
loop-next-preserved c =
    let put = rw c.in-Some-2.is at c.in_ok-next.ensures.some in
    let on = rw c.in-Some-2.is at c.in_ok-next.ensures.within in
    let clashes = c.note_clash.ensures c.loop-next.row put.value put.last in
    let onward = c.in-Some-behind_mark-2.ensures.within in
    rw (put.last, clashes)
    (row_more c.args.sorts.now c.args.bytes.now c.args.from c.loop-next.row c.loop-next.clash c.loop-next.place c.in-Some-2.next c.in-Some-behind_mark-2.after put.value
    c.loop-next.invariant put.leads c.in-Some-behind_mark-2.ensures.some (omega (arith, on.0, onward.0)) onward.1)
