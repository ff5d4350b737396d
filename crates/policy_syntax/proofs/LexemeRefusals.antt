-- At a lexeme the automaton refuses what the definition refuses there.
use Rattle.policy_syntax.proofs.Vocabulary.{◌≡◌, ◌⊎◌, inl, inr, ℕ, ◌+◌, Bool, true, false, IsTrue, true≢false, ◌||◌, if◌then◌else◌, List, [], ◌∷◌, ◌++◌, length, reverse, Contains, Option, None, Some}
use Rattle.policy_syntax.proofs.Vocabulary.{Result, Ok, Err, refl, sym, ap, subst, ◌∙◌, list_any, bytes_eq, reverse-append, list_any-append, bytes_eq-Decides, list_any-Decides, ItemKind, StackItem}
use Rattle.policy_syntax.proofs.Vocabulary.{Stack, AutomatonState, automaton_state, offer, offered, settle, automaton_step, is_over, is_wrong, limit_place, nodes_after, names_after, start_stack}
use Rattle.policy_syntax.proofs.Vocabulary.{PolicyLexeme, PlacedLexeme, Symbol, NameLexeme, DigitsLexeme, kinds_behind, is_below_first, nodes_behind, rule_names, rules_behind, wants_end}
use Rattle.policy_syntax.proofs.Vocabulary.{IsSyntaxFault, IsUsed, PassesLimit, RefusesLexeme, Rule, Comma, OpenBracket, Star, SyntaxRefusal, Syntax, Limit, NoMemory}
use Rattle.policy_syntax.proofs.AutomatonCounts.{Suits, StackSuits, behind_push, ends_in_rule, settled_suits}
use Rattle.policy_syntax.proofs.CountedLexemes.{LeftSuits, left_suits, nodes_next, names_next, rules_next}
use Rattle.policy_syntax.proofs.Fronts.{Begins, Reached, begins, can_begin, deep_is, is_deep, reached_next, reached_start}
use Rattle.policy_syntax.proofs.PassedLimits.{IsCounted, IsOver, over_passes, passes_over}
use Rattle.policy_syntax.specs.machine.Automaton as automaton
use Rattle.policy_syntax.specs.meaning.Refusals as refusals

-- ---- names that were used, and ends below the first

unused : (back : List PolicyLexeme) (x : PolicyLexeme) → ends_in_rule back ≡ false → IsUsed back x → ⊥
unused [] x e used = used
unused (Symbol Rule ∷ before) x e used = true≢false e
unused (lexeme ∷ before) x e used = used

any_reverse : (f : List ℕ → Bool) (xs : List (List ℕ)) → list_any f (reverse xs) ≡ list_any f xs
any_reverse f [] = refl
any_reverse f (x ∷ xs) =
    ap (list_any f) (reverse-append (x ∷ []) xs) ∙ list_any-append f (reverse xs) (x ∷ []) ∙ swapped (list_any f (reverse xs)) (list_any f xs) (f x) (any_reverse f xs)
  where
    swapped : (a b c : Bool) → a ≡ b → (a || (c || false)) ≡ (c || b)
    swapped true true true e = refl
    swapped true true false e = refl
    swapped false false true e = refl
    swapped false false false e = refl
    swapped true false c e = absurd cc
    swapped false true c e = absurd cc

below_wants : (back : List PolicyLexeme) (x : PolicyLexeme) → is_below_first back x ≡ true → wants_end back ≡ true
below_wants (Symbol Comma ∷ DigitsLexeme low ∷ Symbol OpenBracket ∷ before) x e = refl
below_wants (Symbol Comma ∷ DigitsLexeme low ∷ Symbol other ∷ before) x e = absurd (true≢false (sym e))
below_wants (Symbol Comma ∷ DigitsLexeme low ∷ lexeme ∷ before) x e = absurd (true≢false (sym e))
below_wants (Symbol Comma ∷ DigitsLexeme low ∷ []) x e = absurd (true≢false (sym e))
below_wants (Symbol Comma ∷ lexeme ∷ before) x e = absurd (true≢false (sym e))
below_wants (Symbol Comma ∷ []) x e = absurd (true≢false (sym e))
below_wants (lexeme ∷ before) x e = absurd (true≢false (sym e))
below_wants [] x e = absurd (true≢false (sym e))

wrong_used : (kind : ItemKind) (l s p : ℕ) (left : Stack) (front : List PlacedLexeme) (back : List PolicyLexeme) (names : List (List ℕ)) (x : PolicyLexeme) → Suits kind front back
    → offer kind l s p x ≡ Some left → names ≡ reverse (rule_names back)
    → IsUsed back x → is_wrong kind names x ≡ true
wrong_used automaton.RuleName l s p left front back names (NameLexeme name) suits e is used =
    let before = suits.context.0 in
    let used_before : Contains (rule_names before) name = subst (λ (b : List PolicyLexeme). IsUsed b (NameLexeme name)) suits.context.1 used in
    let any : list_any (bytes_eq name) (rule_names before) ≡ true = (list_any-Decides bytes_eq bytes_eq-Decides (rule_names before) name).1 used_before in
    ap (list_any (bytes_eq name)) (is ∙ ap (λ (b : List PolicyLexeme). reverse (rule_names b)) suits.context.1) ∙ any_reverse (bytes_eq name) (rule_names before) ∙ any
wrong_used automaton.RuleName l s p left front back names x suits e is used = absurd cc
wrong_used kind l s p left front back names x suits e is used = absurd (unused back x suits.rule used)

wrong_below : (kind : ItemKind) (l s p : ℕ) (left : Stack) (front : List PlacedLexeme) (back : List PolicyLexeme) (names : List (List ℕ)) (x : PolicyLexeme) → Suits kind front back
    → offer kind l s p x ≡ Some left
    → is_below_first back x ≡ true → is_wrong kind names x ≡ true
wrong_below (automaton.SecondEnd operand low) l s p left front back names (DigitsLexeme high) suits e below =
    ap (λ (b : List PolicyLexeme). is_below_first b (DigitsLexeme high)) (sym suits.context.1) ∙ below
wrong_below (automaton.SecondEnd operand low) l s p left front back names (Symbol Star) suits e below =
    absurd (true≢false (sym below ∙ ap (λ (b : List PolicyLexeme). is_below_first b (Symbol Star)) suits.context.1))
wrong_below (automaton.SecondEnd operand low) l s p left front back names x suits e below = absurd cc
wrong_below (automaton.FirstEnd operand) l s p left front back names x suits e below =
    absurd (true≢false (sym below ∙ ap (λ (b : List PolicyLexeme). is_below_first b x) suits.context.1))
wrong_below kind l s p left front back names x suits e below = absurd (true≢false (sym (below_wants back x below) ∙ suits.wanted))

wrong_is : (kind : ItemKind) (front : List PlacedLexeme) (back : List PolicyLexeme) (names : List (List ℕ)) (x : PolicyLexeme) → Suits kind front back → names ≡ reverse (rule_names back)
    → is_wrong kind names x ≡ true → IsUsed back x ⊎ IsTrue (is_below_first back x)
wrong_is automaton.RuleName front back names (NameLexeme name) suits is e =
    let before = suits.context.0 in
    let any : list_any (bytes_eq name) (rule_names before) ≡ true =
    sym (any_reverse (bytes_eq name) (rule_names before)) ∙ ap (list_any (bytes_eq name)) (sym (is ∙ ap (λ (b : List PolicyLexeme). reverse (rule_names b)) suits.context.1)) ∙ e in
    inl (subst (λ (b : List PolicyLexeme). IsUsed b (NameLexeme name)) (sym suits.context.1) ((list_any-Decides bytes_eq bytes_eq-Decides (rule_names before) name).0 any))
wrong_is (automaton.SecondEnd operand low) front back names (DigitsLexeme high) suits is e =
    inr (ap (λ (b : List PolicyLexeme). is_below_first b (DigitsLexeme high)) suits.context.1 ∙ e)
wrong_is kind front back names x suits is e = absurd (true≢false (sym e))

-- ---- a state on the way

pub record IsOn (front : List PlacedLexeme) (stack : Stack) (nodes : ℕ) (names : List (List ℕ)) : Type 0 where
  pub reached : Reached front stack
  pub suits : StackSuits stack front (kinds_behind front)
  pub counted : IsCounted front nodes names
  pub names_are : names ≡ reverse (rule_names (kinds_behind front))

pub start_on : IsOn [] start_stack 0 []
start_on = record {
  reached = reached_start;
  suits = (record { rule = refl; wanted = refl; context = tt }, refl);
  counted = record { nodes_are = refl; rules_are = refl };
  names_are = refl;
}

-- one lexeme more
pub on_next : (front : List PlacedLexeme) (stack : Stack) (nodes : ℕ) (names : List (List ℕ)) (p : ℕ) (x : PolicyLexeme) → IsOn front stack nodes names → (b : Begins stack p x)
    → IsOn (front ++ (p, x) ∷ []) (b.left ++ b.rest) (nodes_after b.next.kind nodes x) (names_after b.next.kind names x)
on_next front stack nodes names p x on b =
    let kind = b.next.kind in
    let back = kinds_behind front in
    let suits = settled_suits stack front back x b.next b.rest on.suits b.settled in
    let pushed : x ∷ back ≡ kinds_behind (front ++ (p, x) ∷ []) = sym (behind_push front (p, x)) in
    record {
      reached = reached_next front stack p x on.reached b;
      suits = subst (StackSuits (b.left ++ b.rest) (front ++ (p, x) ∷ [])) pushed
          (subst (λ (o : Option Stack). LeftSuits o b.rest (front ++ (p, x) ∷ []) (x ∷ back)) b.offers (left_suits kind b.next.level b.next.scope p x b.rest front back suits.0 suits.1));
      counted = record {
        nodes_are = nodes_next kind b.next.level b.next.scope p x b.left front back nodes suits.0 b.offers on.counted.nodes_are ∙ ap nodes_behind pushed;
        rules_are = subst (λ (bs : List PolicyLexeme). rules_behind bs ≡ length (names_after kind names x) + (if ends_in_rule bs then 1 else 0)) pushed
            (rules_next kind b.next.level b.next.scope p x b.left front back names suits.0 b.offers on.counted.rules_are);
      };
      names_are = names_next kind b.next.level b.next.scope p x b.left front back names suits.0 b.offers on.names_are ∙ ap (λ (bs : List PolicyLexeme). reverse (rule_names bs)) pushed;
    }

-- ---- a lexeme

-- what the automaton does at a lexeme that can stand there
abbrev pub does : StackItem → Stack → Stack → (nodes : ℕ) → (names : List (List ℕ)) → (place : ℕ) → PolicyLexeme → Result AutomatonState SyntaxRefusal
does next rest left nodes names place lexeme = offered next rest nodes names place lexeme (Some left)

step_does : (stack : Stack) (nodes : ℕ) (names : List (List ℕ)) (p : ℕ) (x : PolicyLexeme) (b : Begins stack p x) → automaton_step (settle x stack) nodes names p x
    ≡ does b.next b.rest b.left nodes names p x
step_does stack nodes names p x b =
    ap (λ (s : Stack). automaton_step s nodes names p x) b.settled ∙ ap (offered b.next b.rest nodes names p x) b.offers

-- either it can stand there, or the automaton is stuck
record IsStuck (stack : Stack) (nodes : ℕ) (names : List (List ℕ)) (p : ℕ) (x : PolicyLexeme) : Type 0 where
  is : automaton_step (settle x stack) nodes names p x ≡ Err (Syntax p)
  never : Begins stack p x → ⊥

told : (stack : Stack) (nodes : ℕ) (names : List (List ℕ)) (p : ℕ) (x : PolicyLexeme) → Begins stack p x ⊎ IsStuck stack nodes names p x
told stack nodes names p x = by (settle x stack) refl
  where
    offers : (next : StackItem) (rest : Stack) (o : Option Stack) → settle x stack ≡ next ∷ rest → offer next.kind next.level next.scope p x ≡ o → Begins stack p x ⊎ IsStuck stack nodes names p x
    offers next rest (Some left) settled e = inl (record { next = next; rest = rest; left = left; settled = settled; offers = e })
    offers next rest None settled e = inr (record {
      is = ap (λ (s : Stack). automaton_step s nodes names p x) settled ∙ ap (offered next rest nodes names p x) e;
      never = λ (b : Begins stack p x).
          let same : next ∷ rest ≡ b.next ∷ b.rest = sym settled ∙ b.settled in
          let next_is : next ≡ b.next = cc in
          let none : None ≡ Some b.left = sym e ∙ ap (λ (i : StackItem). offer i.kind i.level i.scope p x) next_is ∙ b.offers in cc;
    })

    by : (s : Stack) → settle x stack ≡ s → Begins stack p x ⊎ IsStuck stack nodes names p x
    by [] e = inr (record { is = ap (λ (s : Stack). automaton_step s nodes names p x) e; never = λ (b : Begins stack p x). let no : [] ≡ b.next ∷ b.rest = sym e ∙ b.settled in cc })
    by (next ∷ rest) e = offers next rest (offer next.kind next.level next.scope p x) e refl

-- where it can stand there, it is a syntax error exactly where it is wrong
module _ (front : List PlacedLexeme) (stack : Stack) (nodes : ℕ) (names : List (List ℕ)) (p : ℕ) (x : PolicyLexeme) (on : IsOn front stack nodes names) (b : Begins stack p x) where
  suits : Suits b.next.kind front (kinds_behind front)
  suits = (settled_suits stack front (kinds_behind front) x b.next b.rest on.suits b.settled).0

  wrong_syntax : is_wrong b.next.kind names x ≡ true → IsSyntaxFault front (p, x)
  wrong_syntax e = by (wrong_is b.next.kind front (kinds_behind front) names x suits on.names_are e)
    where
      by : IsUsed (kinds_behind front) x ⊎ IsTrue (is_below_first (kinds_behind front) x) → IsSyntaxFault front (p, x)
      by (inl used) = refusals.Used used
      by (inr below) = refusals.Backwards below

  syntax_wrong : IsSyntaxFault front (p, x) → is_wrong b.next.kind names x ≡ true
  syntax_wrong (refusals.Stuck never) = absurd (never (can_begin front stack p x on.reached b))
  syntax_wrong (refusals.Used used) = wrong_used b.next.kind b.next.level b.next.scope p b.left front (kinds_behind front) names x suits b.offers on.names_are used
  syntax_wrong (refusals.Backwards below) = wrong_below b.next.kind b.next.level b.next.scope p b.left front (kinds_behind front) names x suits b.offers below

  passes : is_over b.next.kind b.next.level b.next.scope nodes names x ≡ true → PassesLimit front p x (limit_place b.next.kind p x)
  passes e = over_passes b.next.kind b.next.level b.next.scope p b.left front nodes names x suits b.offers on.counted (is_deep front stack p x on.reached b) e

  is_passed : (at : ℕ) → PassesLimit front p x at → IsOver b.next.kind b.next.level b.next.scope nodes p names x at
  is_passed at passed = passes_over b.next.kind b.next.level b.next.scope p b.left front nodes names x at suits b.offers on.counted (λ l s d. deep_is front stack p x l s on.reached b d) passed

  -- what the automaton refuses stands there
  done_stands : (wrong over : Bool) (after : AutomatonState) (refusal : SyntaxRefusal) → is_wrong b.next.kind names x ≡ wrong → is_over b.next.kind b.next.level b.next.scope nodes names x ≡ over
      → ◌≡◌ {A = Result AutomatonState SyntaxRefusal} (if wrong then Err (Syntax p) else (if over then Err (Limit (limit_place b.next.kind p x)) else Ok after)) (Err refusal)
      → RefusesLexeme refusal front (p, x)
  done_stands true over after refusal wrong e is =
      let r : Syntax p ≡ refusal = cc in subst (λ (r : SyntaxRefusal). RefusesLexeme r front (p, x)) r (refl, wrong_syntax wrong)
  done_stands false true after refusal wrong e is =
      let r : Limit (limit_place b.next.kind p x) ≡ refusal = cc in
      subst (λ (r : SyntaxRefusal). RefusesLexeme r front (p, x)) r ((λ syntax. true≢false (sym (syntax_wrong syntax) ∙ wrong)), passes e)
  done_stands false false after refusal wrong e is = absurd cc

  -- and what stands there it refuses
  stands_done : (wrong over : Bool) (after : AutomatonState) (refusal : SyntaxRefusal) → is_wrong b.next.kind names x ≡ wrong → is_over b.next.kind b.next.level b.next.scope nodes names x ≡ over
      → RefusesLexeme refusal front (p, x) → ◌≡◌ {A = Result AutomatonState SyntaxRefusal}
      (if wrong then Err (Syntax p) else (if over then Err (Limit (limit_place b.next.kind p x)) else Ok after)) (Err refusal)
  stands_done true over after (Syntax place) wrong e stands = ap (λ (n : ℕ). Err (Syntax n)) (sym stands.0)
  stands_done false over after (Syntax place) wrong e stands = absurd (true≢false (sym (syntax_wrong stands.1) ∙ wrong))
  stands_done true over after (Limit place) wrong e stands = absurd (stands.0 (wrong_syntax wrong))
  stands_done false true after (Limit place) wrong e stands = ap (λ (n : ℕ). Err (Limit n)) (sym (is_passed place stands.1).place)
  stands_done false false after (Limit place) wrong e stands = absurd (true≢false (sym (is_passed place stands.1).is ∙ e))
  stands_done wrong over after NoMemory f e stands = absurd stands

pub refused_stands : (front : List PlacedLexeme) (stack : Stack) (nodes : ℕ) (names : List (List ℕ)) (p : ℕ) (x : PolicyLexeme) (refusal : SyntaxRefusal)
    → IsOn front stack nodes names → automaton_step (settle x stack) nodes names p x ≡ Err refusal → RefusesLexeme refusal front (p, x)
refused_stands front stack nodes names p x refusal on e = by (told stack nodes names p x)
  where
    by : Begins stack p x ⊎ IsStuck stack nodes names p x → RefusesLexeme refusal front (p, x)
    by (inl b) = done_stands front stack nodes names p x on b _ _ (automaton_state (b.left ++ b.rest) (nodes_after b.next.kind nodes x) (names_after b.next.kind names x)) refusal refl refl
        (sym (step_does stack nodes names p x b) ∙ e)
    by (inr stuck) =
        let r : Syntax p ≡ refusal = same (sym stuck.is ∙ e) in
        subst (λ (r : SyntaxRefusal). RefusesLexeme r front (p, x)) r (refl, refusals.Stuck (λ can. stuck.never (begins front stack p x on.reached can)))
      where
        same : ◌≡◌ {A = Result AutomatonState SyntaxRefusal} (Err (Syntax p)) (Err refusal) → Syntax p ≡ refusal
        same e = cc

pub stands_refused : (front : List PlacedLexeme) (stack : Stack) (nodes : ℕ) (names : List (List ℕ)) (p : ℕ) (x : PolicyLexeme) (refusal : SyntaxRefusal)
    → IsOn front stack nodes names → RefusesLexeme refusal front (p, x) → automaton_step (settle x stack) nodes names p x ≡ Err refusal
stands_refused front stack nodes names p x refusal on stands = by (told stack nodes names p x)
  where
    stuck_is : (r : SyntaxRefusal) → IsStuck stack nodes names p x → RefusesLexeme r front (p, x) → automaton_step (settle x stack) nodes names p x ≡ Err r
    stuck_is (Syntax place) stuck stands = stuck.is ∙ ap (λ (n : ℕ). Err (Syntax n)) (sym stands.0)
    stuck_is (Limit place) stuck stands = absurd (stands.0 (refusals.Stuck (λ can. stuck.never (begins front stack p x on.reached can))))
    stuck_is NoMemory stuck stands = absurd stands

    by : Begins stack p x ⊎ IsStuck stack nodes names p x → automaton_step (settle x stack) nodes names p x ≡ Err refusal
    by (inl b) = step_does stack nodes names p x b ∙ stands_done front stack nodes names p x on b _ _
        (automaton_state (b.left ++ b.rest) (nodes_after b.next.kind nodes x) (names_after b.next.kind names x)) refusal refl refl stands
    by (inr stuck) = stuck_is refusal stuck stands

-- what it takes it begins
pub taken_begins : (stack : Stack) (nodes : ℕ) (names : List (List ℕ)) (p : ℕ) (x : PolicyLexeme) (after : AutomatonState) → automaton_step (settle x stack) nodes names p x ≡ Ok after
    → (b : Begins stack p x) × (after ≡ automaton_state (b.left ++ b.rest) (nodes_after b.next.kind nodes x) (names_after b.next.kind names x))
taken_begins stack nodes names p x after e = by (told stack nodes names p x)
  where
    taken : (wrong over : Bool) (place : ℕ) (later : AutomatonState) → ◌≡◌ {A = Result AutomatonState SyntaxRefusal}
        (if wrong then Err (Syntax p) else (if over then Err (Limit place) else Ok later)) (Ok after) → after ≡ later
    taken true over place later e = absurd cc
    taken false true place later e = absurd cc
    taken false false place later e = cc

    no : ◌≡◌ {A = Result AutomatonState SyntaxRefusal} (Err (Syntax p)) (Ok after) → ⊥
    no e = cc

    by : Begins stack p x ⊎ IsStuck stack nodes names p x → (b : Begins stack p x) × (after ≡ automaton_state (b.left ++ b.rest) (nodes_after b.next.kind nodes x) (names_after b.next.kind names x))
    by (inl b) = (b, taken (is_wrong b.next.kind names x) (is_over b.next.kind b.next.level b.next.scope nodes names x) (limit_place b.next.kind p x) _ (sym (step_does stack nodes names p x b) ∙ e))
    by (inr stuck) = absurd (no (sym stuck.is ∙ e))
