-- A lexeme within the limits adds nothing to what is asked of those after it.
use Rattle.policy_syntax.proofs.Vocabulary.{◌≡◌, ℕ, ◌≤◌, Bool, true, nat_le, ◌&&◌, arith, nat_tests, bound, PolicyLexeme, MOST_LEVEL, MOST_VARIABLES}

both : (a b c : Bool) → a ≡ true → b ≡ true → (a && b && c) ≡ c
both a b c e f = (λ j. e j && f j && c)

pub bound_is : (level scope place : ℕ) (lexeme : PolicyLexeme) (rest : Bool) → level ≤ MOST_LEVEL → scope ≤ MOST_VARIABLES → bound level scope place lexeme rest ≡ rest
bound_is level scope place lexeme rest low few =
    let e : nat_le level MOST_LEVEL ≡ true = grind (arith, nat_tests) in
    let f : nat_le scope MOST_VARIABLES ≡ true = grind (arith, nat_tests) in
    both (nat_le level MOST_LEVEL) (nat_le scope MOST_VARIABLES) rest e f
