-- How the variables in scope at a node are found.
use Rattle.obligations.proofs.Vocabulary.{Result, Ok, Err, IfOk, ◌≡◌, ℕ, Bool, true, false, cond, List, ◌∷◌, ◌++◌, Option, Some, None, ap, subst, ◌∙◌, find, option_map, option_or, find-append, VarId}
use Rattle.obligations.proofs.Vocabulary.{has_number, Plan, scoped_at, scoped_nodes, FindsScope}

abbrev Scoped : Type 0
Scoped = Plan × List VarId

abbrev numbered : ℕ → Scoped → Bool
numbered number node = has_number number node.0

-- not at the node itself
passed : (plan : Plan) (scope : List VarId) (number : ℕ) (rest : List Scoped) → has_number number plan ≡ false → scoped_nodes plan scope ≡ (plan, scope) ∷ rest
    → scoped_at number plan scope ≡ find (numbered number) rest
passed plan scope number rest other is =
    ap (find (numbered number)) is ∙ ap (λ b. cond b (Some (plan, scope)) (find (numbered number) rest)) other

-- a node with two below it
abbrev pub HasTwo : (plan left right : Plan) (scope : List VarId) → Type 0
HasTwo plan left right scope = scoped_nodes plan scope ≡ (plan, scope) ∷ scoped_nodes left scope ++ scoped_nodes right scope

-- below the first of two nodes, or below the second
pub below_first : (plan left right : Plan) (scope after : List VarId) (number : ℕ) → has_number number plan ≡ false → HasTwo plan left right scope
    → FindsScope number left scope after true → FindsScope number plan scope after true
below_first plan left right scope after number other is finds =
    ap (option_map (λ (node : Scoped). node.1)) (passed plan scope number (scoped_nodes left scope ++ scoped_nodes right scope) other is ∙ find-append (numbered number)
    (scoped_nodes left scope) (scoped_nodes right scope))
    ∙ by (scoped_at number left scope) finds
  where
    by : (o : Option Scoped) → option_map (λ (node : Scoped). node.1) o ≡ Some after → option_map (λ (node : Scoped). node.1)
        (option_or o (find (numbered number) (scoped_nodes right scope))) ≡ Some after
    by (Some node) e = e
    by None e = absurd cc

pub below_second : (plan left right : Plan) (scope middle after : List VarId) (number : ℕ) (found : Bool) → has_number number plan ≡ false → HasTwo plan left right scope
    → FindsScope number left scope middle false → FindsScope number right middle after found → FindsScope number plan scope after found
below_second plan left right scope middle after number found other is none finds =
    let here : scoped_at number plan scope ≡ scoped_at number right scope =
    passed plan scope number (scoped_nodes left scope ++ scoped_nodes right scope) other is
    ∙ find-append (numbered number) (scoped_nodes left scope) (scoped_nodes right scope)
    ∙ ap (λ o. option_or o (find (numbered number) (scoped_nodes right scope))) none.0 in
    by found (subst (λ m. FindsScope number right m after found) none.1 finds) here
  where
    by : (found : Bool) → FindsScope number right scope after found → scoped_at number plan scope ≡ scoped_at number right scope → FindsScope number plan scope after found
    by true finds e = ap (option_map (λ (node : Scoped). node.1)) e ∙ finds
    by false finds e = (e ∙ finds.0, finds.1)

pub below_second_if : {E : Type 0} (result : Result Bool E) (plan left right : Plan) (scope middle after : List VarId) (number : ℕ) → has_number number plan ≡ false → HasTwo plan left right scope
    → FindsScope number left scope middle false → IfOk result (FindsScope number right middle after) → IfOk result (FindsScope number plan scope after)
below_second_if (Ok found) plan left right scope middle after number other is none finds = below_second plan left right scope middle after number found other is none finds
below_second_if (Err e) plan left right scope middle after number other is none finds = tt
