-- How the first node with a number is found.
use Rattle.plan_terms.proofs.Vocabulary.{◌≡◌, ℕ, zero, suc, ◌+◌, false, cond, nat_eq, List, [], ◌∷◌, ◌++◌, Option, Some, None, arith, eq-eqb, ne_eqb, refl, sym, ap, ◌∙◌, find, slice_get, option_or}
use Rattle.plan_terms.proofs.Vocabulary.{find-append, Plan, has_number, node_number}

-- not at the node itself, but in what stands first below it
pub in_first : (number node : ℕ) (f : Plan) (l r : List Plan) (found : Plan) → nat_eq node number ≡ false → find (has_number number) l ≡ Some found → Some found
    ≡ cond (nat_eq node number) (Some f) (find (has_number number) (l ++ r))
in_first number node f l r found other is =
    sym (ap (λ b. cond b (Some f) (find (has_number number) (l ++ r))) other ∙ find-append (has_number number) l r ∙ ap (λ o. option_or o (find (has_number number) r)) is)

-- neither at the node itself nor in what stands first below it
pub in_second : (number node : ℕ) (f : Plan) (l r : List Plan) (found : Option Plan) → nat_eq node number ≡ false → find (has_number number) l ≡ None → found
    ≡ find (has_number number) r → found ≡ cond (nat_eq node number) (Some f) (find (has_number number) (l ++ r))
in_second number node f l r found other none is =
    is ∙ sym (ap (λ b. cond b (Some f) (find (has_number number) (l ++ r))) other ∙ find-append (has_number number) l r ∙ ap (λ o. option_or o (find (has_number number) r)) none)

-- of nodes that are numbered from a number on, the one with a number stands that far on
pub placed : (nodes : List Plan) (first number k : ℕ) → number ≡ first + k → ((i : ℕ) (node : Plan) → slice_get nodes i ≡ Some node → node_number node ≡ first + i)
    → find (has_number number) nodes ≡ slice_get nodes k
placed [] first number k far numbered = refl
placed (node ∷ nodes) first number zero far numbered =
    let is : node_number node ≡ first + 0 = numbered 0 node refl in
    ap (λ b. cond b (Some node) (find (has_number number) nodes)) (eq-eqb (node_number node) number (omega arith))
placed (node ∷ nodes) first number (suc k) far numbered =
    let is : node_number node ≡ first + 0 = numbered 0 node refl in
    let more : (i : ℕ) (other : Plan) → slice_get nodes i ≡ Some other → node_number other ≡ first + 1 + i =
    λ i other found. let n : node_number other ≡ first + suc i = numbered (suc i) other found in omega arith in
    ap (λ b. cond b (Some node) (find (has_number number) nodes)) (ne_eqb (node_number node) number (omega arith)) ∙ placed nodes (first + 1) number k (omega arith) more
