use Rattle.enf_value.proofs.Vocabulary.{◌≡◌, ◌+◌, ◌-◌, ◌<◌, ◌≤◌, false, length, pos, slice_index, subst, sym, arith, ◌∙◌, is_ascii_digit, ValueTokenAt, Num}
use Rattle.enf_value.proofs.Numerals.{all_passed, digit_from_test, digit_more, no_larger, no_minus, plain_token, range_from_digit, some_digit, within_rest}
use Rattle.enf_value.proofs.reading.read_digits.Goals.{then-loop-end-test+else-is_ascii_digit, else-loop-end-test, then-end-at-via-then-end-at, then-end-at-via-else-end-at+then-number}
use Rattle.enf_value.proofs.reading.read_digits.Goals as goal

pub returns-then-number-gt-MOST_BEFORE_A_DIGIT-clause-none :
    goal.returns-then-number-gt-MOST_BEFORE_A_DIGIT-clause-none
returns-then-number-gt-MOST_BEFORE_A_DIGIT-clause-none c = λ number end first t.
    let known = c.loop-end.invariant in
    let more = digit_more c.args.bytes.now c.args.at c.loop-end.end c.loop-end.number known.onward c.loop-end-test.true (sym c.is_ascii_digit.ensures.value ∙ c.if-is_ascii_digit.true)
    known.value known.digits in
    let below : c.loop-end.end + 1 ≤ length c.args.bytes.now = omega (arith, c.loop-end-test.true) in
    let small = no_larger c.args.bytes.now c.args.at end number (c.loop-end.end + 1 - c.args.at) first t (within_rest c.args.bytes.now c.args.at (c.loop-end.end + 1) below) more.1 in
    omega (arith, small, more.0, c.if-number-gt-MOST_BEFORE_A_DIGIT.true)

pub loop-end-preserved : goal.loop-end-preserved
loop-end-preserved c =
    let known = c.loop-end.invariant in
    let byte = slice_index c.args.bytes.now c.loop-end.end in
    let digit = sym c.is_ascii_digit.ensures.value ∙ c.if-is_ascii_digit.true in
    let more = digit_more c.args.bytes.now c.args.at c.loop-end.end c.loop-end.number known.onward c.loop-end-test.true digit known.value known.digits in
    let range = range_from_digit byte (digit_from_test byte digit) in
    record {
      onward = omega arith;
      within = omega arith;
      value = more.0;
      digits = more.1;
      small = omega (arith, range.1, c.if-number-gt-MOST_BEFORE_A_DIGIT.false);
    }

pub returns-then-end-at-clause-none : goal.returns-then-end-at-clause-none
returns-then-end-at-clause-none c = λ number end first t.
    let known = c.loop-end.invariant in
    let none : c.loop-end.end < length c.args.bytes.now → is_ascii_digit (slice_index c.args.bytes.now c.loop-end.end)
    ≡ false = elim c.loop-end-test.branch [
      | then-loop-end-test+else-is_ascii_digit w ↦ λ below. sym w.is_ascii_digit.ensures.value ∙ w.if-is_ascii_digit.false
      | else-loop-end-test w ↦ λ below. absurd (omega (arith, below, w.loop-end-test.false))
    ] in
    let all = all_passed c.args.bytes.now c.args.at c.loop-end.end known.onward known.within known.digits none in
    let some = some_digit c.args.bytes.now c.args.at end number first t in
    let small = no_larger c.args.bytes.now c.args.at end number (c.loop-end.end - c.args.at) first t (within_rest c.args.bytes.now c.args.at c.loop-end.end known.within) known.digits in
    elim c.then-end-at.branch [
      | then-end-at-via-then-end-at w ↦ omega (arith, some, all, w.if-end-at.true)
      | then-end-at-via-else-end-at+then-number w ↦ omega
          (arith, small, known.value, w.if-number.true)
    ]

pub returns-clause-some : goal.returns-clause-some
returns-clause-some c =
    let known = c.loop-end.invariant in
    let none : c.loop-end.end < length c.args.bytes.now → is_ascii_digit (slice_index c.args.bytes.now c.loop-end.end)
    ≡ false = elim c.loop-end-test.branch [
      | then-loop-end-test+else-is_ascii_digit w ↦ λ below. sym w.is_ascii_digit.ensures.value ∙ w.if-is_ascii_digit.false
      | else-loop-end-test w ↦ λ below. absurd (omega (arith, below, w.loop-end-test.false))
    ] in
    let all = all_passed c.args.bytes.now c.args.at c.loop-end.end known.onward known.within known.digits none in
    let token = plain_token c.args.bytes.now c.args.at (c.loop-end.end - c.args.at) c.loop-end.number (within_rest c.args.bytes.now c.args.at c.loop-end.end known.within)
    (omega (arith, known.onward, c.if-end-at.false)) all known.digits known.value (omega (arith, c.if-number.false)) in
    let is : c.args.at + (c.loop-end.end - c.args.at) ≡ c.loop-end.end = omega (arith, known.onward) in
    subst (λ n. ValueTokenAt c.args.bytes.now c.args.at n (Num (pos c.loop-end.number))) is token

pub returns-clause-digits : goal.returns-clause-digits
returns-clause-digits c =
    let known = c.loop-end.invariant in
    no_minus c.args.bytes.now c.args.at (c.loop-end.end - c.args.at) (omega (arith, known.onward, c.if-end-at.false)) (within_rest c.args.bytes.now c.args.at c.loop-end.end known.within) known.digits
