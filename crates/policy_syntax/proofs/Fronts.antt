-- The stack after the front of a text says how it can go on.
use Rattle.policy_syntax.proofs.Vocabulary.{◌≡◌, ℕ, true, List, [], ◌∷◌, ◌++◌, Some, refl, sym, ap, subst, ◌∙◌, append_assoc, append-nil, StackItem, Stack, offer, settle, start_stack, accepts}
use Rattle.policy_syntax.proofs.Vocabulary.{PolicyFits, policy_fold, rule_fold, RulePhrase, PolicyLexeme, PlacedLexeme, CanBeginPolicy, Deep, IsDeep, IsPolicySentence, deepen}
use Rattle.policy_syntax.proofs.StackMeanings.{Denotes, rules_fold}
use Rattle.policy_syntax.proofs.StackBeginnings.{Onwards, onwards}
use Rattle.policy_syntax.proofs.StackPredecessors.{back_step}
use Rattle.policy_syntax.proofs.StackCompletions.{complete, ends, ended}
use Rattle.policy_syntax.proofs.SpellingMaps.{flat, flat_policy}

-- ---- the start stands for policies

rules_are : (rules : List RulePhrase) (rest : List Deep) → rules_fold 0 0 rules rest ≡ policy_fold deepen rules rest
rules_are [] rest = refl
rules_are (rule ∷ rules) rest = ap (rule_fold deepen rule) (rules_are rules rest)

policy_denoted : (rules : List RulePhrase) → PolicyFits rules → Denotes start_stack (policy_fold deepen rules [])
policy_denoted rules fits = ([], record { phrase = rules; spells = rules_are rules []; fits = (fits, λ e. cc) }, refl)

record IsPolicyOf (text : List Deep) : Type 0 where
  rules : List RulePhrase
  fits : PolicyFits rules
  is : policy_fold deepen rules [] ≡ text

policy_is : (text : List Deep) → Denotes start_stack text → IsPolicyOf text
policy_is text (after, r, nothing) = record { rules = r.phrase; fits = r.fits.0; is = sym (rules_are r.phrase []) ∙ ap (rules_fold 0 0 r.phrase) (sym nothing) ∙ r.spells }

-- ---- the parts of a text

flat-append : (xs ys : List Deep) → flat (xs ++ ys) ≡ flat xs ++ flat ys
flat-append [] ys = refl
flat-append (x ∷ xs) ys = ap (λ (rest : List PlacedLexeme). x.placed ∷ rest) (flat-append xs ys)

record Split (text : List Deep) (front : List PlacedLexeme) (token : PlacedLexeme) (rest : List PlacedLexeme) : Type 0 where
  before : List Deep
  deep : Deep
  after : List Deep
  is : text ≡ before ++ deep ∷ after
  front_is : flat before ≡ front
  token_is : deep.placed ≡ token
  rest_is : flat after ≡ rest

split_onto : (deep : Deep) (text : List Deep) (first : PlacedLexeme) (front : List PlacedLexeme) (token : PlacedLexeme) (rest : List PlacedLexeme) → deep.placed ≡ first
    → Split text front token rest → Split (deep ∷ text) (first ∷ front) token rest
split_onto deep text first front token rest head s = record {
  before = deep ∷ s.before;
  deep = s.deep;
  after = s.after;
  is = ap (λ (more : List Deep). deep ∷ more) s.is;
  front_is = (λ j. head j ∷ s.front_is j);
  token_is = s.token_is;
  rest_is = s.rest_is;
}

flat_split : (text : List Deep) (front : List PlacedLexeme) (token : PlacedLexeme) (rest : List PlacedLexeme) → flat text ≡ front ++ token ∷ rest → Split text front token rest
flat_split [] [] token rest e = absurd cc
flat_split [] (first ∷ front) token rest e = absurd cc
flat_split (deep ∷ text) [] token rest e = record { before = []; deep = deep; after = text; is = refl; front_is = refl; token_is = cc; rest_is = cc }
flat_split (deep ∷ text) (first ∷ front) token rest e =
    split_onto deep text first front token rest (cc) (flat_split text front token rest (cc))

-- ---- one step

-- what the automaton does at a lexeme
pub record Begins (stack : Stack) (place : ℕ) (lexeme : PolicyLexeme) : Type 0 where
  pub next : StackItem
  pub rest : Stack
  pub left : Stack
  pub settled : settle lexeme stack ≡ next ∷ rest
  pub offers : offer next.kind next.level next.scope place lexeme ≡ Some left

record SameStep (deep : Deep) (next : StackItem) (stack : Stack) (more : List Deep) : Type 0 where
  level : deep.level ≡ next.level
  scope : deep.scope ≡ next.scope
  later : Denotes stack more

same_step : (stack : Stack) (deep : Deep) (more : List Deep) (p : ℕ) (x : PolicyLexeme) (b : Begins stack p x) → Onwards stack deep more → deep.placed ≡ (p, x)
    → SameStep deep b.next (b.left ++ b.rest) more
same_step stack deep more p x b o e =
    let both : o.next ∷ o.rest ≡ b.next ∷ b.rest = sym o.settled ∙ ap (λ (t : PlacedLexeme). settle t.1 stack) e ∙ b.settled in
    let next_is : o.next ≡ b.next = cc in
    let rest_is : o.rest ≡ b.rest = cc in
    let some : Some o.left ≡ Some b.left = sym o.offers ∙ (λ j. offer (next_is j).kind (next_is j).level (next_is j).scope (e j).0 (e j).1) ∙ b.offers in
    let left_is : o.left ≡ b.left = cc in
    record {
      level = o.level ∙ ap (λ (i : StackItem). i.level) next_is;
      scope = o.scope ∙ ap (λ (i : StackItem). i.scope) next_is;
      later = subst (λ (s : Stack). Denotes s more) (λ j. left_is j ++ rest_is j) o.later;
    }

-- ---- fronts

-- after the front of a text the stack is what is still to come
pub record Reached (front : List PlacedLexeme) (stack : Stack) : Type 0 where
  pub deep : List Deep
  pub is : flat deep ≡ front
  pub onto : (text : List Deep) → Denotes stack text → Denotes start_stack (deep ++ text)
  pub from : (before text : List Deep) → flat before ≡ front → Denotes start_stack (before ++ text) → Denotes stack text

pub reached_start : Reached [] start_stack
reached_start = record { deep = []; is = refl; onto = λ text denoted. denoted; from = from }
  where
    from : (before text : List Deep) → flat before ≡ [] → Denotes start_stack (before ++ text) → Denotes start_stack text
    from [] text e denoted = denoted
    from (x ∷ before) text e denoted = absurd cc

no_more : (after : List Deep) → flat after ≡ [] → after ≡ []
no_more [] e = refl
no_more (x ∷ after) e = absurd cc

regrouped : (all before after text : List Deep) (deep : Deep) → all ≡ before ++ deep ∷ after → after ≡ [] → all ++ text ≡ before ++ deep ∷ text
regrouped all before after text deep e nothing =
    let whole : all ≡ before ++ deep ∷ [] = e ∙ ap (λ (rest : List Deep). before ++ deep ∷ rest) nothing in
    ap (λ (f : List Deep). f ++ text) whole ∙ append_assoc before (deep ∷ []) text

pub reached_next : (front : List PlacedLexeme) (stack : Stack) (p : ℕ) (x : PolicyLexeme) → Reached front stack → (b : Begins stack p x) → Reached (front ++ (p, x) ∷ []) (b.left ++ b.rest)
reached_next front stack p x r b = record {
  deep = r.deep ++ here ∷ [];
  is = flat-append r.deep (here ∷ []) ∙ ap (λ (f : List PlacedLexeme). f ++ (p, x) ∷ []) r.is;
  onto = λ text denoted. subst (Denotes start_stack) (sym (append_assoc r.deep (here ∷ []) text)) (r.onto (here ∷ text) (back_step stack b.next b.rest b.left p x text b.settled b.offers denoted));
  from = from;
}
  where
    here : Deep
    here = record { placed = (p, x); level = b.next.level; scope = b.next.scope }

    from : (before text : List Deep) → flat before ≡ front ++ (p, x) ∷ [] → Denotes start_stack (before ++ text) → Denotes (b.left ++ b.rest) text
    from before text e denoted =
        let s = flat_split before front (p, x) [] e in
        let d = r.from s.before (s.deep ∷ text) s.front_is (subst (Denotes start_stack) (regrouped before s.before s.after text s.deep s.is (no_more s.after s.rest_is)) denoted) in
        let same = same_step stack s.deep text p x b (onwards stack s.deep text d) s.token_is in same.later

-- a policy begins with the front and the lexeme exactly where the automaton goes on

pub can_begin : (front : List PlacedLexeme) (stack : Stack) (p : ℕ) (x : PolicyLexeme) → Reached front stack → Begins stack p x → CanBeginPolicy (front ++ (p, x) ∷ [])
can_begin front stack p x r b =
    let n = reached_next front stack p x r b in
    let c = complete (b.left ++ b.rest) in
    let policy = policy_is (n.deep ++ c.text) (n.onto c.text c.denoted) in
    (policy.rules, flat c.text, policy.fits, sym (flat_policy policy.rules) ∙ ap flat policy.is ∙ flat-append n.deep c.text ∙ ap (λ (f : List PlacedLexeme). f ++ flat c.text) n.is)

pub begins : (front : List PlacedLexeme) (stack : Stack) (p : ℕ) (x : PolicyLexeme) → Reached front stack → CanBeginPolicy (front ++ (p, x) ∷ []) → Begins stack p x
begins front stack p x r (rules, rest, fits, e) =
    let s = flat_split (policy_fold deepen rules []) front (p, x) rest (flat_policy rules ∙ e ∙ append_assoc front ((p, x) ∷ []) rest) in
    let o = onwards stack s.deep s.after (r.from s.before (s.deep ∷ s.after) s.front_is (subst (Denotes start_stack) s.is (policy_denoted rules fits))) in
    record {
      next = o.next;
      rest = o.rest;
      left = o.left;
      settled = ap (λ (t : PlacedLexeme). settle t.1 stack) (sym s.token_is) ∙ o.settled;
      offers = ap (λ (t : PlacedLexeme). offer o.next.kind o.next.level o.next.scope t.0 t.1) (sym s.token_is) ∙ o.offers;
    }

-- the item's level and scope are those of the lexeme in any policy

pub is_deep : (front : List PlacedLexeme) (stack : Stack) (p : ℕ) (x : PolicyLexeme) → Reached front stack → (b : Begins stack p x) → IsDeep front (p, x) b.next.level b.next.scope
is_deep front stack p x r b =
    let c = complete (b.left ++ b.rest) in
    let here : Deep = record { placed = (p, x); level = b.next.level; scope = b.next.scope } in
    let policy = policy_is (r.deep ++ here ∷ c.text) (r.onto (here ∷ c.text) (back_step stack b.next b.rest b.left p x c.text b.settled b.offers c.denoted)) in
    record { rules = policy.rules; fits = policy.fits; before = r.deep; after = c.text; is = policy.is; front_is = r.is }

pub deep_is : (front : List PlacedLexeme) (stack : Stack) (p : ℕ) (x : PolicyLexeme) (level scope : ℕ) → Reached front stack → (b : Begins stack p x)
    → IsDeep front (p, x) level scope → (level ≡ b.next.level) × (scope ≡ b.next.scope)
deep_is front stack p x level scope r b d =
    let here : Deep = record { placed = (p, x); level = level; scope = scope } in
    let o = onwards stack here d.after (r.from d.before (here ∷ d.after) d.front_is (subst (Denotes start_stack) d.is (policy_denoted d.rules d.fits))) in
    let same = same_step stack here d.after p x b o refl in (same.level, same.scope)

-- the front is a policy exactly where nothing need come

pub sentence : (front : List PlacedLexeme) (stack : Stack) → Reached front stack → accepts stack ≡ true → IsPolicySentence front
sentence front stack r e =
    let policy = policy_is (r.deep ++ []) (r.onto [] (ends stack e)) in
    (policy.rules, policy.fits, sym (flat_policy policy.rules) ∙ ap flat (policy.is ∙ append-nil r.deep) ∙ r.is)

pub accepted : (front : List PlacedLexeme) (stack : Stack) → Reached front stack → IsPolicySentence front → accepts stack ≡ true
accepted front stack r (rules, fits, e) =
    ended stack (r.from (policy_fold deepen rules []) [] (flat_policy rules ∙ e) (subst (Denotes start_stack) (sym (append-nil (policy_fold deepen rules []))) (policy_denoted rules fits)))
