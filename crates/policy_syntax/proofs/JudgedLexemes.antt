-- What the automaton does at a lexeme and at the end, case by case.
use Rattle.policy_syntax.proofs.Vocabulary.{◌≡◌, ℕ, Bool, true, false, ◌&&◌, if◌then◌else◌, List, [], ◌∷◌, ◌++◌, Option, None, Some, Ok, Err, ap, ◌∙◌, PolicyLexeme, PlacedLexeme, ItemKind, Stack}
use Rattle.policy_syntax.proofs.Vocabulary.{AutomatonState, stack_item, automaton_state, offer, offered, skips, settle, automaton_step, is_optional, accepts, is_wrong, is_over, limit_place}
use Rattle.policy_syntax.proofs.Vocabulary.{nodes_after, names_after, then_judged, Syntax, Limit}
use Rattle.policy_syntax.specs.machine.Automaton.{judge}

-- a stack that need not be settled
settled : (kind : ItemKind) (level scope : ℕ) (rest : Stack) (lexeme : PolicyLexeme) → skips kind lexeme ≡ false → settle lexeme (stack_item kind level scope ∷ rest)
    ≡ stack_item kind level scope ∷ rest
settled kind level scope rest lexeme kept = ap (λ (b : Bool). if b then settle lexeme rest else stack_item kind level scope ∷ rest) kept

-- a lexeme begins the next item, and no refusal stands there
pub judge_takes : (end level scope nodes place : ℕ) (kind : ItemKind) (rest left : Stack) (names : List (List ℕ)) (lexeme : PolicyLexeme) (more : List PlacedLexeme)
    → skips kind lexeme ≡ false → offer kind level scope place lexeme ≡ Some left → is_wrong kind names lexeme ≡ false → is_over kind level scope nodes names lexeme ≡ false
    → judge end (stack_item kind level scope ∷ rest) nodes names ((place, lexeme) ∷ more) ≡ judge end (left ++ rest) (nodes_after kind nodes lexeme) (names_after kind names lexeme) more
unfolding judge
judge_takes end level scope nodes place kind rest left names lexeme more kept offers right within =
    ap (λ (s : Stack). then_judged (λ (s : AutomatonState). judge end s.stack s.nodes s.names more) (automaton_step s nodes names place lexeme)) (settled kind level scope rest lexeme kept)
    ∙ ap (λ (o : Option Stack). then_judged (λ (s : AutomatonState). judge end s.stack s.nodes s.names more) (offered (stack_item kind level scope) rest nodes names place lexeme o)) offers
    ∙ (λ j. then_judged (λ (s : AutomatonState). judge end s.stack s.nodes s.names more)
    (if right j then Err (Syntax place)
    else (if within j then Err (Limit (limit_place kind place lexeme))
    else Ok (automaton_state (left ++ rest) (nodes_after kind nodes lexeme) (names_after kind names lexeme)))))

-- a lexeme begins the next item, and passes a limit
pub judge_limits : (end level scope nodes place : ℕ) (kind : ItemKind) (rest left : Stack) (names : List (List ℕ)) (lexeme : PolicyLexeme) (more : List PlacedLexeme)
    → skips kind lexeme ≡ false → offer kind level scope place lexeme ≡ Some left → is_wrong kind names lexeme ≡ false → is_over kind level scope nodes names lexeme ≡ true
    → judge end (stack_item kind level scope ∷ rest) nodes names ((place, lexeme) ∷ more) ≡ Some (Limit (limit_place kind place lexeme))
unfolding judge
judge_limits end level scope nodes place kind rest left names lexeme more kept offers right beyond =
    ap (λ (s : Stack). then_judged (λ (s : AutomatonState). judge end s.stack s.nodes s.names more) (automaton_step s nodes names place lexeme)) (settled kind level scope rest lexeme kept)
    ∙ ap (λ (o : Option Stack). then_judged (λ (s : AutomatonState). judge end s.stack s.nodes s.names more) (offered (stack_item kind level scope) rest nodes names place lexeme o)) offers
    ∙ (λ j. then_judged (λ (s : AutomatonState). judge end s.stack s.nodes s.names more)
    (if right j then Err (Syntax place)
    else (if beyond j then Err (Limit (limit_place kind place lexeme))
    else Ok (automaton_state (left ++ rest) (nodes_after kind nodes lexeme) (names_after kind names lexeme)))))

-- it is a name that was used before, or an end below the first
pub judge_refuses : (end level scope nodes place : ℕ) (kind : ItemKind) (rest left : Stack) (names : List (List ℕ)) (lexeme : PolicyLexeme) (more : List PlacedLexeme)
    → skips kind lexeme ≡ false → offer kind level scope place lexeme ≡ Some left → is_wrong kind names lexeme ≡ true
    → judge end (stack_item kind level scope ∷ rest) nodes names ((place, lexeme) ∷ more) ≡ Some (Syntax place)
unfolding judge
judge_refuses end level scope nodes place kind rest left names lexeme more kept offers wrong =
    ap (λ (s : Stack). then_judged (λ (s : AutomatonState). judge end s.stack s.nodes s.names more) (automaton_step s nodes names place lexeme)) (settled kind level scope rest lexeme kept)
    ∙ ap (λ (o : Option Stack). then_judged (λ (s : AutomatonState). judge end s.stack s.nodes s.names more) (offered (stack_item kind level scope) rest nodes names place lexeme o)) offers
    ∙ (λ j. then_judged (λ (s : AutomatonState). judge end s.stack s.nodes s.names more)
    (if wrong j then Err (Syntax place)
    else (if is_over kind level scope nodes names lexeme then Err (Limit (limit_place kind place lexeme))
    else Ok (automaton_state (left ++ rest) (nodes_after kind nodes lexeme) (names_after kind names lexeme)))))

-- it cannot begin the next item
pub judge_sticks : (end level scope nodes place : ℕ) (kind : ItemKind) (rest : Stack) (names : List (List ℕ)) (lexeme : PolicyLexeme) (more : List PlacedLexeme)
    → skips kind lexeme ≡ false → offer kind level scope place lexeme ≡ None
    → judge end (stack_item kind level scope ∷ rest) nodes names ((place, lexeme) ∷ more) ≡ Some (Syntax place)
unfolding judge
judge_sticks end level scope nodes place kind rest names lexeme more kept offers =
    ap (λ (s : Stack). then_judged (λ (s : AutomatonState). judge end s.stack s.nodes s.names more) (automaton_step s nodes names place lexeme)) (settled kind level scope rest lexeme kept)
    ∙ ap (λ (o : Option Stack). then_judged (λ (s : AutomatonState). judge end s.stack s.nodes s.names more) (offered (stack_item kind level scope) rest nodes names place lexeme o)) offers

-- an item that must come does not
pub judge_ends : (end level scope nodes : ℕ) (kind : ItemKind) (rest : Stack) (names : List (List ℕ)) → is_optional kind ≡ false
    → judge end (stack_item kind level scope ∷ rest) nodes names [] ≡ Some (Syntax end)
unfolding judge
judge_ends end level scope nodes kind rest names e = ap (λ (b : Bool). if b && accepts rest then None else Some (Syntax end)) e

-- an optional part does not come, at a lexeme and at the end
pub judge_skips : (end level scope nodes place : ℕ) (kind : ItemKind) (rest : Stack) (names : List (List ℕ)) (lexeme : PolicyLexeme) (more : List PlacedLexeme) → skips kind lexeme ≡ true
    → judge end (stack_item kind level scope ∷ rest) nodes names ((place, lexeme) ∷ more) ≡ judge end rest nodes names ((place, lexeme) ∷ more)
unfolding judge
judge_skips end level scope nodes place kind rest names lexeme more e =
    ap (λ (b : Bool). then_judged (λ (s : AutomatonState). judge end s.stack s.nodes s.names more)
    (automaton_step (if b then settle lexeme rest else stack_item kind level scope ∷ rest) nodes names place lexeme)) e

pub judge_skips_end : (end level scope nodes : ℕ) (kind : ItemKind) (rest : Stack) (names : List (List ℕ)) → is_optional kind ≡ true
    → judge end (stack_item kind level scope ∷ rest) nodes names [] ≡ judge end rest nodes names []
unfolding judge
judge_skips_end end level scope nodes kind rest names e = ap (λ (b : Bool). if b && accepts rest then None else Some (Syntax end)) e
