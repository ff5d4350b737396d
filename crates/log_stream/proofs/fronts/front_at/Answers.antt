use Rattle.log_stream.proofs.Vocabulary.{List, ℕ, ◌+◌, subst, ap, refl, drop, length, arith, length-drop, Scans, Open}
use Rattle.log_stream.specs.declared.scanning.Scanned.TheVariants.{Ends}
use Rattle.log_stream.proofs.RestFronts.{begins_at, endless_at, open_scan, whole_at, window_is}
use Rattle.log_stream.proofs.fronts.front_at.Goals as goal

pub overflow_add-result : goal.overflow_add-result
overflow_add-result c =
    let begin = c.skip_blanks-begin.result in
    let begins = begins_at c.args.bytes.now c.args.from begin c.skip_blanks-begin.ensures.gap c.skip_blanks-begin.ensures.within in
    let window = window_is c.args.bytes.now begin c.min-most.result c.min-most.ensures (omega arith) in
    let found = subst (λ (l : List ℕ). Scans c.args.scan (drop c.args.scanned l) c.args.scanned (Ends c.in-Ends.length)) window c.in-Ends.ensures in
    let whole = whole_at c.args.bytes.now c.args.from begin c.args.scanned c.args.scan c.in-Ends.length (begin + c.in-Ends.length) c.requires.scanned begins found.0 found.1 found.2 refl in
    let within = whole.within in
    omega (arith, within)

pub returns-in-Ends : goal.returns-in-Ends
returns-in-Ends c =
    let begin = c.skip_blanks-begin.result in
    let begins = begins_at c.args.bytes.now c.args.from begin c.skip_blanks-begin.ensures.gap c.skip_blanks-begin.ensures.within in
    let window = window_is c.args.bytes.now begin c.min-most.result c.min-most.ensures (omega arith) in
    let found = subst (λ (l : List ℕ). Scans c.args.scan (drop c.args.scanned l) c.args.scanned (Ends c.in-Ends.length)) window c.in-Ends.ensures in
    whole_at c.args.bytes.now c.args.from begin c.args.scanned c.args.scan c.in-Ends.length (begin + c.in-Ends.length) c.requires.scanned begins found.0 found.1 found.2 refl

pub returns-in-Open : goal.returns-in-Open
returns-in-Open c =
    let begin = c.skip_blanks-begin.result in
    let begins = begins_at c.args.bytes.now c.args.from begin c.skip_blanks-begin.ensures.gap c.skip_blanks-begin.ensures.within in
    let window = window_is c.args.bytes.now begin c.min-most.result c.min-most.ensures (omega arith) in
    let found = subst (λ (l : List ℕ). Scans c.args.scan (drop c.args.scanned l) c.args.scanned (Open c.in-Open.field-0)) window c.in-Open.ensures in
    let long = ap length begins.rest_is in
    let far = length-drop begin c.args.bytes.now in
    let most = c.min-most.ensures in
    let full = c.if-most-eq-MOST_RECORD_BYTES.true in
    (endless_at c.args.bytes.now c.args.from begin c.args.scanned c.args.scan c.requires.scanned begins found.0, omega (arith, long, far, most, full))

pub returns-in-Open-2 : goal.returns-in-Open-2
returns-in-Open-2 c =
    let begin = c.skip_blanks-begin.result in
    let begins = begins_at c.args.bytes.now c.args.from begin c.skip_blanks-begin.ensures.gap c.skip_blanks-begin.ensures.within in
    let window = window_is c.args.bytes.now begin c.min-most.result c.min-most.ensures (omega arith) in
    let found = subst (λ (l : List ℕ). Scans c.args.scan (drop c.args.scanned l) c.args.scanned (Open c.in-Open.field-0)) window c.in-Open.ensures in
    let long = ap length begins.rest_is in
    let far = length-drop begin c.args.bytes.now in
    let most = c.min-most.ensures in
    let part = c.if-most-eq-MOST_RECORD_BYTES.false in (
      (endless_at c.args.bytes.now c.args.from begin c.args.scanned c.args.scan c.requires.scanned begins found.0, omega (arith, long, far, most, part)),
      begins,
      open_scan c.args.bytes.now c.args.from begin c.args.scanned c.args.scan c.in-Open.field-0 c.requires.scanned begins (omega (arith, far, most, part)) found.1,
    )
