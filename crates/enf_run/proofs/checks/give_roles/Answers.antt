use Rattle.enf_run.proofs.Vocabulary.{List, ℕ, ◌≡◌, ◌<◌, ap, arith, get_or, length, subst, flat_map, range_with_len, take_all, get_or-range_with_len, length-range_with_len, err_from_is_err_and}
use Rattle.enf_run.proofs.Vocabulary.{role_in, Role, numbered_role_line, role_line}
use Rattle.enf_run.proofs.TextLemmas.{Broken, Whole, piece_cut, piece_whole, whole_none}
use Rattle.enf_run.proofs.checks.give_roles.Goals as goal

-- the first numbers in order
number_at : (n i : ℕ) → i < n → i ≡ get_or (range_with_len 0 n) i 0
number_at n i within = let at = get_or-range_with_len 0 n i 0 within in omega (arith, at)

pub loop-number-init : goal.loop-number-init
loop-number-init g c = whole_none (g.S.Sink.seen c.args.sink.now)

pub loop-number-preserved : goal.loop-number-preserved
loop-number-preserved g c =
    let seen = g.S.Sink.seen in
    let entries = c.args.signature.now in
    let roles = c.args.typed.now.ranked.roles in
    let i = c.loop-number.number in
    let within : i < length entries = omega (arith, c.loop-number-test.true, c.len-number-end.ensures.length) in
    let one : Whole (numbered_role_line entries roles i) (seen c.loop-number.sink) (seen c.give_role.new.sink) =
    subst (λ (text : List ℕ). Whole (role_line (role_in roles (record { 0 = i })) text) (seen c.loop-number.sink) (seen c.give_role.new.sink)) c.text_of_name.ensures
    (subst (λ (role : Role). Whole (role_line role c.text_of_name.result.now) (seen c.loop-number.sink) (seen c.give_role.new.sink)) c.role.ensures c.in_ok-give_role.ensures) in
    let at = subst (λ (n : ℕ). Whole (numbered_role_line entries roles n) (seen c.loop-number.sink) (seen c.give_role.new.sink)) (number_at (length entries) i within) one in
    piece_whole (numbered_role_line entries roles) (range_with_len 0 (length entries)) i 0
    (omega (arith, within, length-range_with_len 0 (length entries))) (seen c.args.sink.now)
    (seen c.loop-number.sink) (seen c.give_role.new.sink) c.loop-number.invariant at

pub returns-in_err-give_role : goal.returns-in_err-give_role
returns-in_err-give_role g c =
    let p = err_from_is_err_and c.from_residual.result c.from_residual.ensures.1 in
    let seen = g.S.Sink.seen in
    let cut = c.in_err-give_role.field-0.0 in
    let entries = c.args.signature.now in
    let roles = c.args.typed.now.ranked.roles in
    let i = c.loop-number.number in
    let within : i < length entries = omega (arith, c.loop-number-test.true, c.len-number-end.ensures.length) in
    let one : Broken (numbered_role_line entries roles i) cut (seen c.loop-number.sink) (seen c.give_role.new.sink) =
    subst (λ (text : List ℕ). Broken (role_line (role_in roles (record { 0 = i })) text) cut (seen c.loop-number.sink) (seen c.give_role.new.sink)) c.text_of_name.ensures
    (subst (λ (role : Role). Broken (role_line role c.text_of_name.result.now) cut (seen c.loop-number.sink) (seen c.give_role.new.sink)) c.role.ensures c.in_err-give_role.ensures) in
    let at = subst (λ (n : ℕ). Broken (numbered_role_line entries roles n) cut (seen c.loop-number.sink) (seen c.give_role.new.sink)) (number_at (length entries) i within) one in
    rw (p.1, p.2) (piece_cut (numbered_role_line entries roles) (range_with_len 0 (length entries)) i 0
    (omega (arith, within, length-range_with_len 0 (length entries))) (seen c.args.sink.now)
    (seen c.loop-number.sink) (seen c.give_role.new.sink) c.loop-number.invariant cut at)

pub returns : goal.returns
returns g c =
    let seen = g.S.Sink.seen in
    let entries = c.args.signature.now in
    let lines = numbered_role_line entries c.args.typed.now.ranked.roles in
    let all = ap (flat_map lines) (take_all c.loop-number.number (range_with_len 0 (length entries))
    (omega (
      arith,
      c.loop-number-test.false,
      c.len-number-end.ensures.length,
      length-range_with_len 0
          (length entries),
    ))) in
    subst (λ (t : List ℕ). Whole t (seen c.args.sink.now) (seen c.loop-number.sink)) all c.loop-number.invariant
