-- What the automaton refuses first is the first refusal.
use Rattle.policy_syntax.proofs.Vocabulary.{◌≡◌, inl, inr, ℕ, Bool, true, false, true≢false, if◌then◌else◌, List, [], ◌∷◌, ◌++◌, Option, None, Some, Result, Ok, Err, refl, sym, ap, subst, ◌∙◌}
use Rattle.policy_syntax.proofs.Vocabulary.{append_assoc, append-nil, IsFirstReaderRefusal, Stack, AutomatonState, settle, automaton_step, accepts, then_judged, PlacedLexeme, IsPolicySentence}
use Rattle.policy_syntax.proofs.Vocabulary.{RefusesLexeme, SyntaxRefusal, Syntax}
use Rattle.policy_syntax.specs.machine.Automaton.{judge}
use Rattle.policy_syntax.proofs.Fronts.{accepted, sentence}
use Rattle.policy_syntax.proofs.LexemeRefusals.{IsOn, on_next, refused_stands, stands_refused, taken_begins}

-- the first refusal after a front of a text that ends at a place
abbrev pub First : SyntaxRefusal → (end : ℕ) → (front rest : List PlacedLexeme) → Type 0
First refusal end front rest = IsFirstReaderRefusal RefusesLexeme IsPolicySentence (Syntax end) refusal front rest

some_is : (x y : SyntaxRefusal) → ◌≡◌ {A = Option SyntaxRefusal} (Some x) (Some y) → x ≡ y
some_is x y e = cc

error_is : (x y : SyntaxRefusal) → ◌≡◌ {A = Result AutomatonState SyntaxRefusal} (Err x) (Err y) → x ≡ y
error_is x y e = cc

none_is : (x : SyntaxRefusal) → ◌≡◌ {A = Option SyntaxRefusal} None (Some x) → ⊥
none_is x e = cc

not_both : (after : AutomatonState) (x : SyntaxRefusal) → ◌≡◌ {A = Result AutomatonState SyntaxRefusal} (Ok after) (Err x) → ⊥
not_both after x e = cc

-- the state after a lexeme is on the way
taken_on : (front : List PlacedLexeme) (stack : Stack) (nodes : ℕ) (names : List (List ℕ)) (token : PlacedLexeme) (after : AutomatonState) → IsOn front stack nodes names
    → automaton_step (settle token.1 stack) nodes names token.0 token.1 ≡ Ok after
    → IsOn (front ++ token ∷ []) after.stack after.nodes after.names
taken_on front stack nodes names token after on e =
    let t = taken_begins stack nodes names token.0 token.1 after e in
    subst (λ (s : AutomatonState). IsOn (front ++ token ∷ []) s.stack s.nodes s.names) (sym t.1) (on_next front stack nodes names token.0 token.1 on t.0)

pub judged_first : (end : ℕ) (front : List PlacedLexeme) (stack : Stack) (nodes : ℕ) (names : List (List ℕ)) (rest : List PlacedLexeme) (refusal : SyntaxRefusal) → IsOn front stack nodes names
    → judge end stack nodes names rest ≡ Some refusal → First refusal end front rest
unfolding judge
judged_first end front stack nodes names [] refusal on e = by (accepts stack) refl e
  where
    by : (b : Bool) → accepts stack ≡ b → (if b then None else Some (Syntax end)) ≡ Some refusal → First refusal end front []
    by true is e = absurd (none_is refusal e)
    by false is e = (sym (some_is (Syntax end) refusal e), λ (s : IsPolicySentence front). true≢false (sym (accepted front stack on.reached s) ∙ is))
judged_first end front stack nodes names (token ∷ rest) refusal on e =
    by (automaton_step (settle token.1 stack) nodes names token.0 token.1) refl e
    (λ (after : AutomatonState) is later. judged_first end (front ++ token ∷ []) after.stack after.nodes after.names rest refusal (taken_on front stack nodes names token after on is) later)
  where
    by : (r : Result AutomatonState SyntaxRefusal) → automaton_step (settle token.1 stack) nodes names token.0 token.1 ≡ r
        → then_judged (λ (after : AutomatonState). judge end after.stack after.nodes after.names rest) r ≡ Some refusal
        → ((after : AutomatonState) → automaton_step (settle token.1 stack) nodes names token.0 token.1 ≡ Ok after → judge end after.stack after.nodes after.names rest
        ≡ Some refusal → First refusal end (front ++ token ∷ []) rest) → First refusal end front (token ∷ rest)
    by (Ok after) is e later =
        inr ((λ (r : SyntaxRefusal) (stands : RefusesLexeme r front token). not_both after r (sym is ∙ stands_refused front stack nodes names token.0 token.1 r on stands)), later after is e)
    by (Err other) is e later = inl (refused_stands front stack nodes names token.0 token.1 refusal on (is ∙ ap Err (some_is other refusal e)))

pub first_judged : (end : ℕ) (front : List PlacedLexeme) (stack : Stack) (nodes : ℕ) (names : List (List ℕ)) (rest : List PlacedLexeme) (refusal : SyntaxRefusal) → IsOn front stack nodes names
    → First refusal end front rest → judge end stack nodes names rest ≡ Some refusal
unfolding judge
first_judged end front stack nodes names [] refusal on first = by (accepts stack) refl
  where
    by : (b : Bool) → accepts stack ≡ b → (if b then None else Some (Syntax end)) ≡ Some refusal
    by true is = absurd (first.1 (sentence front stack on.reached is))
    by false is = ap Some (sym first.0)
first_judged end front stack nodes names (token ∷ rest) refusal on first =
    by (automaton_step (settle token.1 stack) nodes names token.0 token.1) refl first
    (λ (after : AutomatonState) is later. first_judged end (front ++ token ∷ []) after.stack after.nodes after.names rest refusal (taken_on front stack nodes names token after on is) later)
  where
    by : (r : Result AutomatonState SyntaxRefusal) → automaton_step (settle token.1 stack) nodes names token.0 token.1 ≡ r → First refusal end front (token ∷ rest)
        → ((after : AutomatonState) → automaton_step (settle token.1 stack) nodes names token.0 token.1 ≡ Ok after → First refusal end (front ++ token ∷ []) rest
        → judge end after.stack after.nodes after.names rest ≡ Some refusal)
        → then_judged (λ (after : AutomatonState). judge end after.stack after.nodes after.names rest) r ≡ Some refusal
    by (Ok after) is (inl stands) later = absurd (not_both after refusal (sym is ∙ stands_refused front stack nodes names token.0 token.1 refusal on stands))
    by (Ok after) is (inr clear) later = later after is clear.1
    by (Err other) is (inl stands) later = ap Some (error_is other refusal (sym is ∙ stands_refused front stack nodes names token.0 token.1 refusal on stands))
    by (Err other) is (inr clear) later = absurd (clear.0 other (refused_stands front stack nodes names token.0 token.1 other on is))

-- where nothing is refused the lexemes are a policy
pub judged_sentence : (end : ℕ) (front : List PlacedLexeme) (stack : Stack) (nodes : ℕ) (names : List (List ℕ)) (rest : List PlacedLexeme) → IsOn front stack nodes names
    → judge end stack nodes names rest ≡ None → IsPolicySentence (front ++ rest)
unfolding judge
judged_sentence end front stack nodes names [] on e = by (accepts stack) refl e
  where
    by : (b : Bool) → accepts stack ≡ b → ◌≡◌ {A = Option SyntaxRefusal} (if b then None else Some (Syntax end)) None → IsPolicySentence (front ++ [])
    by true is e = subst IsPolicySentence (sym (append-nil front)) (sentence front stack on.reached is)
    by false is e = absurd cc
judged_sentence end front stack nodes names (token ∷ rest) on e =
    by (automaton_step (settle token.1 stack) nodes names token.0 token.1) refl e
    (λ (after : AutomatonState) is later. judged_sentence end (front ++ token ∷ []) after.stack after.nodes after.names rest (taken_on front stack nodes names token after on is) later)
  where
    by : (r : Result AutomatonState SyntaxRefusal) → automaton_step (settle token.1 stack) nodes names token.0 token.1 ≡ r
        → then_judged (λ (after : AutomatonState). judge end after.stack after.nodes after.names rest) r ≡ None
        → ((after : AutomatonState) → automaton_step (settle token.1 stack) nodes names token.0 token.1 ≡ Ok after → judge end after.stack after.nodes after.names rest ≡ None
        → IsPolicySentence ((front ++ token ∷ []) ++ rest)) → IsPolicySentence (front ++ token ∷ rest)
    by (Ok after) is e later = subst IsPolicySentence (append_assoc front (token ∷ []) rest) (later after is e)
    by (Err other) is e later = absurd cc
