use Rattle.std.proofs.Common.{◌≡◌, ◌∙◌, refl, sym, arith, true≢false}
use Rattle.enf_io.proofs.Interruptions.{done_again, none_yet, one_more_passed, write_kept, writes_after}
use Rattle.enf_io.proofs.adapters.write_again.Goals as goal

pub loop-count-init : goal.loop-count-init
loop-count-init g c = none_yet (λ given. given ≡ c.args.bytes.now) g.O.WriteOnce.write_gives (g.O.WriteOnce.held c.args.output.now) c.args.output.now

pub loop-count-preserved : goal.loop-count-preserved
loop-count-preserved g c =
    let r = c.write_once-answer in
    let was = c.fails_by.ensures.0 c.if-not-fails_by.false in
    one_more_passed (λ given. given ≡ c.args.bytes.now) g.O.WriteOnce.write_gives _ _ _ _ _ _ c.loop-count.invariant c.args.bytes.now r.result r.ensures.once _ refl was
    (write_kept _ _ r.result c.args.bytes.now was r.ensures.bytes)

pub returns-then-not-fails_by-clause-once : goal.returns-then-not-fails_by-clause-once
returns-then-not-fails_by-clause-once g c =
    let r = c.write_once-answer in
    done_again (λ given. given ≡ c.args.bytes.now) g.O.WriteOnce.write_gives _ _ _ _ _ _ c.loop-count.invariant c.args.bytes.now r.result r.ensures.once
    (λ was. absurd (true≢false (sym (c.fails_by.ensures.1 was) ∙ c.if-not-fails_by.true)))

pub returns-then-not-fails_by-clause-bytes : goal.returns-then-not-fails_by-clause-bytes
returns-then-not-fails_by-clause-bytes g c =
    let r = c.write_once-answer in
    writes_after _ _ _ r.result c.args.bytes.now c.loop-count.invariant.kept r.ensures.bytes

pub returns-clause-once : goal.returns-clause-once
returns-clause-once g c =
    let r = c.write_once in
    let end = c.loop-count.auto._count-end in
    let test = c.loop-count-test.false in
    done_again (λ given. given ≡ c.args.bytes.now) g.O.WriteOnce.write_gives _ _ _ _ _ _ c.loop-count.invariant c.args.bytes.now r.result r.ensures.once (λ was. omega (arith, end, test))

pub returns-clause-bytes : goal.returns-clause-bytes
returns-clause-bytes g c =
    let r = c.write_once in
    writes_after _ _ _ r.result c.args.bytes.now c.loop-count.invariant.kept r.ensures.bytes
