use Rattle.enf_value.proofs.Vocabulary.{◌≡◌, ◌∙◌, ◌++◌, ℕ, ◌+◌, ◌-◌, ◌≤◌, List, ap, ap₂, arith, decimal, length, subst, sym, take, OnOk, decimal_digit, length-decimal-le, take-take, take-append-add}
use Rattle.enf_value.proofs.Vocabulary.{take-append_seam}
use Rattle.enf_value.proofs.printing.print_number.Goals as goal

-- of a piece that is longer than wanted a cut leaves its front
cut_behind : (xs ys more : List ℕ) (count most : ℕ) → count ≡ length ys → count ≤ most
    → take (length xs + count) (xs ++ take most (ys ++ more)) ≡ xs ++ ys
cut_behind xs ys more count most is small =
    take-append-add xs (take most (ys ++ more)) count
    ∙ ap (λ l. xs ++ l) (take-take count most (ys ++ more) small ∙ ap (λ n. take n (ys ++ more)) is ∙ take-append_seam ys more)

pub returns-then-number-lt10-clause-ok : goal.returns-then-number-lt10-clause-ok
returns-then-number-lt10-clause-ok c =
    subst (λ l. OnOk c.print_byte.result (c.print_byte.new.out.items ≡ c.args.out.now.items ++ l)) (sym (decimal_digit c.args.number c.if-number-lt10.true))
    c.print_byte.ensures.ok

pub write_digits-start-requires : goal.write_digits-start-requires
write_digits-start-requires c =
    (length-decimal-le 20 c.args.number (omega arith) (omega (arith, c.ranges.number.fits)) c.ranges.number.fits, omega arith)

pub returns-clause-ok : goal.returns-clause-ok
returns-clause-ok c =
    let before = c.args.out.now.items in
    let start = c.write_digits-start.result in
    let count : 20 - start ≡ length (decimal c.args.number) = omega (arith, c.write_digits-start.ensures.start) in
    let long : c.len.result ≡ length c.args.out.now.items = omega (arith, c.len.ensures) in
    c.truncate.ensures.items
    ∙ ap₂ take (ap (λ n. n + (20 - start)) long) (c.in_ok-print_bytes.ensures.ok ∙ ap (λ l. before ++ take (start + 20 - start) l) c.write_digits-start.ensures.written)
    ∙ cut_behind before (decimal c.args.number) _ (20 - start) (start + 20 - start) count (omega arith)
