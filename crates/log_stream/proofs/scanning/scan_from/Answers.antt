use Rattle.log_stream.proofs.Vocabulary.{List, ℕ, subst, drop, arith, drop_all, take_rest, ScanMoves, Ends, To, Stays}
use Rattle.log_stream.proofs.Scans.{nothing_open, scanning_ends, scanning_more, scanning_open, scanning_start}
use Rattle.log_stream.proofs.scanning.scan_from.Goals as goal

pub loop-at-init : goal.loop-at-init
loop-at-init c = scanning_start c.args.bytes.now c.args.from c.args.scan c.requires

pub returns-in-Ends : goal.returns-in-Ends
returns-in-Ends c =
    let turn = subst (λ (l : List ℕ). ScanMoves c.loop-at.place l (Ends c.in-Ends.passed)) (take_rest c.args.bytes.now c.loop-at.at) c.in-Ends.ensures in
    scanning_ends c.args.bytes.now c.args.from c.args.scan c.loop-at.at c.loop-at.place c.in-Ends.passed c.loop-at.invariant turn.2

pub loop-at-preserved : goal.loop-at-preserved
loop-at-preserved c =
    let turn = subst (λ (l : List ℕ). ScanMoves c.loop-at.place l (To c.in-To.next c.in-To.passed)) (take_rest c.args.bytes.now c.loop-at.at) c.in-To.ensures in
    scanning_more c.args.bytes.now c.args.from c.args.scan c.loop-at.at c.loop-at.place c.in-To.next c.in-To.passed c.loop-at.invariant turn

pub returns-in-Stays : goal.returns-in-Stays
returns-in-Stays c =
    let turn = subst (λ (l : List ℕ). ScanMoves c.loop-at.place l Stays) (take_rest c.args.bytes.now c.loop-at.at) c.in-Stays.ensures in
    scanning_open c.args.bytes.now c.args.from c.args.scan c.loop-at.at c.loop-at.place c.loop-at.place c.loop-at.invariant turn.0 turn.1

pub returns : goal.returns
returns c =
    let test = c.loop-at-test.false in
    let end = nothing_open c.loop-at.place (drop c.loop-at.at c.args.bytes.now) (drop_all c.loop-at.at c.args.bytes.now (omega (arith, test))) in
    scanning_open c.args.bytes.now c.args.from c.args.scan c.loop-at.at c.loop-at.place c.loop-at.place c.loop-at.invariant end.0 end.1
