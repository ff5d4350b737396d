-- Bytes that are emitted in turns are emitted in order.
use Rattle.std.proofs.Common.{◌≡◌, ℕ, ◌+◌, ◌-◌, List, ◌++◌, take, drop, length, sym, ap, ◌∙◌, append_assoc}
use Rattle.std.proofs.Math.Seq.{take-add}
use Rattle.std.proofs.lemmas.List.{take_rest}
use Rattle.std.specs.Prelude.{Option, Some, None}
use Rattle.enf_io.specs.meaning.Exchange.{Exchange}
use Rattle.enf_io.specs.meaning.ExchangeGrowth.{Gave}

-- the front that was emitted, and then the front of the rest
appended_front : (n k : ℕ) (xs held : List ℕ) → held ++ take n xs ++ take k (take (length xs - n) (drop n xs)) ≡ held ++ take (n + k) xs
appended_front n k xs held =
    ap (λ l. held ++ take n xs ++ take k l) (take_rest xs n) ∙ append_assoc held (take n xs) (take k (drop n xs)) ∙ ap (λ l. held ++ l) (sym (take-add n k xs))

pub Gave-more : (n k : ℕ) (xs : List ℕ) (before between after : Option Exchange)
    → Gave (take n xs) before between → Gave (take k (take (length xs - n) (drop n xs))) between after → Gave (take (n + k) xs) before after
Gave-more n k xs None None after first second = second
Gave-more n k xs None (Some y) after first second = absurd (cc)
Gave-more n k xs (Some x) between after first second =
    rw (second, first) (ap (λ l. Some (record { input = x.input; taken = x.taken; given = l; marks = x.marks })) (appended_front n k xs x.given))
