use Rattle.std.proofs.Common.{◌∙◌, sym, arith, true≢false}
use Rattle.std.specs.Prelude.{⊤}
use Rattle.enf_io.proofs.Interruptions.{done_again, none_yet, one_more_passed, read_kept, reads_after}
use Rattle.enf_io.proofs.adapters.read_again.Goals as goal

pub loop-count-init : goal.loop-count-init
loop-count-init g c = none_yet (λ left. ⊤) g.I.ReadOnce.read_gives (g.I.ReadOnce.left c.args.input.now) c.args.input.now

pub loop-count-preserved : goal.loop-count-preserved
loop-count-preserved g c =
    let h = c.loop-count.invariant in
    let r = c.read_once-answer in
    let was = c.fails_by.ensures.0 c.if-not-fails_by.false in
    one_more_passed (λ left. ⊤) g.I.ReadOnce.read_gives _ _ _ _ _ _ h r.new.buf r.result r.ensures.once _ tt was
    (read_kept _ _ r.result r.new.buf was r.ensures.bytes)

pub returns-then-not-fails_by-clause-once : goal.returns-then-not-fails_by-clause-once
returns-then-not-fails_by-clause-once g c =
    let r = c.read_once-answer in
    done_again (λ left. ⊤) g.I.ReadOnce.read_gives _ _ _ _ _ _ c.loop-count.invariant r.new.buf r.result r.ensures.once
    (λ was. absurd (true≢false (sym (c.fails_by.ensures.1 was) ∙ c.if-not-fails_by.true)))

pub returns-then-not-fails_by-clause-bytes : goal.returns-then-not-fails_by-clause-bytes
returns-then-not-fails_by-clause-bytes g c =
    let r = c.read_once-answer in
    reads_after _ _ _ r.result r.new.buf c.loop-count.invariant.kept r.ensures.bytes

pub returns-clause-once : goal.returns-clause-once
returns-clause-once g c =
    let r = c.read_once in
    let end = c.loop-count.auto._count-end in
    let test = c.loop-count-test.false in
    done_again (λ left. ⊤) g.I.ReadOnce.read_gives _ _ _ _ _ _ c.loop-count.invariant r.new.buf r.result r.ensures.once (λ was. omega (arith, end, test))

pub returns-clause-bytes : goal.returns-clause-bytes
returns-clause-bytes g c =
    let r = c.read_once in
    reads_after _ _ _ r.result r.new.buf c.loop-count.invariant.kept r.ensures.bytes
