-- The order of the merge: by time, and at the same time by stream.
use Rattle.std.proofs.Common.{arith, ⊎_elim}
use Rattle.std.proofs.lemmas.Bool.Decides.{nat_tests}
use Rattle.std.specs.Prelude.{ℕ, ◌≡◌, ◌<◌, ◌≤◌, ◌⊎◌, Bool, true, false, ◌&&◌, ◌||◌, ◌==◌, nat_lt}

-- ---- The order as one of pairs of numbers.

abbrev pub lex : (time stream other_time other : ℕ) → Bool
lex time stream other_time other = nat_lt time other_time || ((time == other_time) && nat_lt stream other)

pub lex_true : (a s b r : ℕ) → lex a s b r ≡ true → (a < b) ⊎ ((a ≡ b) × (s < r))
lex_true a s b r h = grind (arith, nat_tests)

pub lex_false : (a s b r : ℕ) → lex a s b r ≡ false → (b < a) ⊎ ((a ≡ b) × (r ≤ s))
lex_false a s b r h = grind (arith, nat_tests)

pub lex_at_least : (a s b r : ℕ) → (b < a) ⊎ ((a ≡ b) × (r ≤ s)) → lex a s b r ≡ false
lex_at_least a s b r h = grind (arith, nat_tests)

pub lex_same : (a s : ℕ) → lex a s a s ≡ false
lex_same a s = grind (arith, nat_tests)

pub lex_turned : (a s b r : ℕ) → lex a s b r ≡ true → lex b r a s ≡ false
lex_turned a s b r h = grind (arith, nat_tests)

pub lex_far : (a s b r c q : ℕ) → lex a s b r ≡ false → lex b r c q ≡ false → lex a s c q ≡ false
lex_far a s b r c q h k = grind (arith, nat_tests)

pub lex_both : (a s b r : ℕ) → lex a s b r ≡ false → lex b r a s ≡ false → (a ≡ b) × (s ≡ r)
lex_both a s b r h k = grind (arith, nat_tests)

pub lex_apart : (a s b r c q : ℕ) → lex a s b r ≡ true → lex c q b r ≡ false → q ≡ s → c ≤ a → ⊥
lex_apart a s b r c q h k same le =
    ⊎_elim (λ less. ⊎_elim (λ more. omega arith) (λ tied. omega (arith, tied.0)) (lex_false c q b r k))
    (λ tied. ⊎_elim (λ more. omega (arith, tied.0)) (λ t. omega (arith, tied.0, tied.1, t.0, t.1)) (lex_false c q b r k))
    (lex_true a s b r h)
