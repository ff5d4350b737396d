use Rattle.log_stream.proofs.Vocabulary.{◌≡◌, ◌==◌, ℕ, false, true, refl, ap, ◌∙◌, arith, slice_index, if◌then◌else◌, nat_tests, true_from_eq, is_byte2, Outside, Inside, Escaped}
use Rattle.log_stream.proofs.Scans.{inside_stays, other_byte, outside_stays, turns_end, turns_nowhere, turns_to}
use Rattle.log_stream.proofs.scanning.first_move.Goals as goal

eq_not : (a b : ℕ) → (a ≡ b → ⊥) → (a == b) ≡ false
eq_not a b e = grind (arith, nat_tests)

-- the scan after a byte that is known
behind_quote : (byte : ℕ) → byte ≡ 34 → (if byte == 34 then Inside else Outside) ≡ Inside
behind_quote byte e = ap (λ b. if b then Inside else Outside) (true_from_eq byte 34 e)

behind_inner_quote : (byte : ℕ) → byte ≡ 34 → (if byte == 34 then Outside else (if byte == 92 then Escaped else Inside)) ≡ Outside
behind_inner_quote byte e = ap (λ b. if b then Outside else (if byte == 92 then Escaped else Inside)) (true_from_eq byte 34 e)

behind_backslash : (byte : ℕ) → byte ≡ 92 → (if byte == 34 then Outside else (if byte == 92 then Escaped else Inside)) ≡ Escaped
behind_backslash byte e =
    ap (λ b. if b then Outside else (if byte == 92 then Escaped else Inside)) (eq_not byte 34 (λ is. omega (arith, e, is))) ∙ ap (λ b. if b then Escaped else Inside) (true_from_eq byte 92 e)

pub returns-in-Some : goal.returns-in-Some
returns-in-Some c =
    let first = c.in-Some.ensures.0 in
    let is = c.if-bytes-at-eq59.true in
    rw c.in-Outside.is (omega arith, omega (arith, first.high), turns_end c.args.bytes.now c.in-Some.at first is)

pub returns-in-Some-2 : goal.returns-in-Some-2
returns-in-Some-2 c =
    let first = c.in-Some.ensures.0 in
    let other = other_byte 59 34 (slice_index c.args.bytes.now c.in-Some.at) c.in-Some.ensures.1 c.if-bytes-at-eq59.false in
    rw c.in-Outside.is
    (turns_to Outside (is_byte2 59 34) outside_stays c.args.bytes.now c.in-Some.at first (eq_not (slice_index c.args.bytes.now c.in-Some.at) 59 c.if-bytes-at-eq59.false) Inside
    (behind_quote (slice_index c.args.bytes.now c.in-Some.at) other))

pub returns-in-None : goal.returns-in-None
returns-in-None c = rw c.in-Outside.is (turns_nowhere Outside (is_byte2 59 34) outside_stays c.args.bytes.now c.in-None.ensures)

pub returns-in-Some-memchr2 : goal.returns-in-Some-memchr2
returns-in-Some-memchr2 c =
    let first = c.in-Some-memchr2.ensures.0 in
    rw c.in-Inside.is
    (turns_to Inside (is_byte2 34 92) inside_stays c.args.bytes.now c.in-Some-memchr2.at first refl Outside
    (behind_inner_quote (slice_index c.args.bytes.now c.in-Some-memchr2.at) c.if-bytes-at-eq34.true))

pub returns-in-Some-2-memchr2 : goal.returns-in-Some-2-memchr2
returns-in-Some-2-memchr2 c =
    let first = c.in-Some-memchr2.ensures.0 in
    let other = other_byte 34 92 (slice_index c.args.bytes.now c.in-Some-memchr2.at) c.in-Some-memchr2.ensures.1 c.if-bytes-at-eq34.false in
    rw c.in-Inside.is
    (turns_to Inside (is_byte2 34 92) inside_stays c.args.bytes.now c.in-Some-memchr2.at first refl Escaped (behind_backslash (slice_index c.args.bytes.now c.in-Some-memchr2.at) other))

pub returns-in-None-memchr2 : goal.returns-in-None-memchr2
returns-in-None-memchr2 c = rw c.in-Inside.is (turns_nowhere Inside (is_byte2 34 92) inside_stays c.args.bytes.now c.in-None-memchr2.ensures)
