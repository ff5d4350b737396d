-- A lexeme passes a limit exactly where the automaton says so.
use Rattle.policy_syntax.proofs.Vocabulary.{◌≡◌, ◌≢◌, ⊎_elim, ℕ, ◌+◌, ◌<◌, ◌≤◌, nat_le, nat_lt, Bool, true, false, true≢false, ◌||◌, ◌&&◌, if◌then◌else◌, List, [], ◌∷◌, ◌++◌, length, reverse, Some}
use Rattle.policy_syntax.proofs.Vocabulary.{refl, sym, ap, subst, ◌∙◌, arith, reverse-append, or_cases, or_left, or_right, MOST_NAME_BYTES, true_from_lt, true_from_le, lt_from_true, le_from_true}
use Rattle.policy_syntax.proofs.Vocabulary.{ItemKind, Stack, offer, is_over, is_beyond, limit_place, PolicyLexeme, PlacedLexeme, Symbol, NameLexeme, DigitsLexeme, kinds_behind, ends_in_name}
use Rattle.policy_syntax.proofs.Vocabulary.{is_operator, is_rule, nodes_behind, rules_behind, IsBehindName, IsDeep, PassesLimit, Rule, OpenParen, MOST_INTERVAL_END, MOST_LEVEL, MOST_NODES, MOST_RULES}
use Rattle.policy_syntax.proofs.Vocabulary.{MOST_VARIABLES}
use Rattle.policy_syntax.proofs.AutomatonCounts.{Suits, ends_in_rule, is_end, behind_push}
use Rattle.policy_syntax.specs.machine.Automaton as automaton
use Rattle.policy_syntax.specs.meaning.Refusals as refusals

-- ---- tests

-- ---- the parenthesis after a name

abbrev pub is_call : ItemKind → PolicyLexeme → Bool
is_call (automaton.BehindName at) (Symbol OpenParen) = true
is_call kind x = false

abbrev pub over : ItemKind → (level scope nodes : ℕ) → List (List ℕ) → PolicyLexeme → Bool
over kind level scope nodes names x = nat_lt MOST_LEVEL level || nat_lt MOST_VARIABLES scope || is_beyond kind nodes names x

pub record IsOther (kind : ItemKind) (level scope nodes p : ℕ) (names : List (List ℕ)) (x : PolicyLexeme) : Type 0 where
  pub over_is : is_over kind level scope nodes names x ≡ over kind level scope nodes names x
  pub place_is : limit_place kind p x ≡ p

pub other : (kind : ItemKind) (level scope nodes p : ℕ) (names : List (List ℕ)) (x : PolicyLexeme) → is_call kind x ≡ false → IsOther kind level scope nodes p names x
other (automaton.BehindName at) level scope nodes p names (Symbol OpenParen) e = absurd (true≢false e)
other (automaton.BehindName at) level scope nodes p names x e = record { over_is = refl; place_is = refl }
other kind level scope nodes p names x e = record { over_is = refl; place_is = refl }

-- no other lexeme stands after an event's name
not_behind : (kind : ItemKind) (l s p : ℕ) (left : Stack) (front : List PlacedLexeme) (x : PolicyLexeme) → Suits kind front (kinds_behind front) → offer kind l s p x ≡ Some left
    → is_call kind x ≡ false → IsBehindName front x → ⊥
not_behind kind l s p left front x suits e called (is, named) =
    by kind suits (ap (offer kind l s p) (sym is) ∙ e) (ap (is_call kind) (sym is) ∙ called)
  where
    by : (kind : ItemKind) → Suits kind front (kinds_behind front) → offer kind l s p (Symbol OpenParen) ≡ Some left → is_call kind (Symbol OpenParen) ≡ false → ⊥
    by automaton.Operand suits e called = true≢false (sym named ∙ suits.context)
    by (automaton.BehindName at) suits e called = true≢false called
    by kind suits e called = cc

behind_call : (kind : ItemKind) (front : List PlacedLexeme) (x : PolicyLexeme) → Suits kind front (kinds_behind front) → is_call kind x ≡ true → IsBehindName front x
behind_call (automaton.BehindName at) front (Symbol OpenParen) suits e = (refl, ap ends_in_name suits.context.4)
behind_call (automaton.BehindName at) front x suits e = absurd (true≢false (sym e))
behind_call kind front x suits e = absurd (true≢false (sym e))

not_call : (kind : ItemKind) (front : List PlacedLexeme) (x : PolicyLexeme) → Suits kind front (kinds_behind front) → (IsBehindName front x → ⊥) → is_call kind x ≡ false
not_call kind front x suits not = by (is_call kind x) refl
  where
    by : (b : Bool) → is_call kind x ≡ b → is_call kind x ≡ false
    by true e = absurd (not (behind_call kind front x suits e))
    by false e = e

-- ---- from the automaton to the definition

-- what is counted, as far as it matters here
pub record IsCounted (front : List PlacedLexeme) (nodes : ℕ) (names : List (List ℕ)) : Type 0 where
  pub nodes_are : nodes ≡ nodes_behind (kinds_behind front)
  pub rules_are : rules_behind (kinds_behind front) ≡ length names + (if ends_in_rule (kinds_behind front) then 1 else 0)

beyond_passes : (kind : ItemKind) (p : ℕ) (front : List PlacedLexeme) (nodes : ℕ) (names : List (List ℕ)) (x : PolicyLexeme) → Suits kind front (kinds_behind front)
    → IsCounted front nodes names → is_beyond kind nodes names x ≡ true
    → PassesLimit front p x p
beyond_passes kind p front nodes names (Symbol Rule) suits counted e = refusals.TooManyRules refl (omega (arith, le_from_true MOST_RULES (length names) e, counted.rules_are))
beyond_passes kind p front nodes names (NameLexeme name) suits counted e = refusals.LongName name refl (lt_from_true MOST_NAME_BYTES (length name) e)
beyond_passes (automaton.FirstEnd operand) p front nodes names (DigitsLexeme end) suits counted e = refusals.GreatEnd end refl suits.wanted (lt_from_true MOST_INTERVAL_END end e)
beyond_passes (automaton.SecondEnd operand low) p front nodes names (DigitsLexeme end) suits counted e = refusals.GreatEnd end refl suits.wanted (lt_from_true MOST_INTERVAL_END end e)
beyond_passes kind p front nodes names (DigitsLexeme end) suits counted e = absurd (true≢false (sym e))
beyond_passes kind p front nodes names x suits counted e = operator x e
  where
    operator : (x : PolicyLexeme) → (is_operator x && nat_le MOST_NODES nodes) ≡ true → PassesLimit front p x p
    operator x e = by (is_operator x) refl e
      where
        by : (b : Bool) → is_operator x ≡ b → (b && nat_le MOST_NODES nodes) ≡ true → PassesLimit front p x p
        by true is e = refusals.TooManyNodes is (subst (λ (n : ℕ). MOST_NODES ≤ n) counted.nodes_are (le_from_true MOST_NODES nodes e))
        by false is e = absurd (true≢false (sym e))

event_passes : (kind : ItemKind) (p : ℕ) (front : List PlacedLexeme) (level scope nodes : ℕ) (names : List (List ℕ)) (x : PolicyLexeme) → Suits kind front (kinds_behind front)
    → IsCounted front nodes names → is_call kind x ≡ true → is_over kind level scope nodes names x ≡ true
    → PassesLimit front p x (limit_place kind p x)
event_passes (automaton.BehindName at) p front level scope nodes names (Symbol OpenParen) suits counted called e =
    refusals.EventNode suits.context.0 at suits.context.1 refl suits.context.3 (subst (λ (n : ℕ). MOST_NODES ≤ n) counted.nodes_are (le_from_true MOST_NODES nodes e))
event_passes (automaton.BehindName at) p front level scope nodes names x suits counted called e = absurd (true≢false (sym called))
event_passes kind p front level scope nodes names x suits counted called e = absurd (true≢false (sym called))

pub over_passes : (kind : ItemKind) (level scope p : ℕ) (left : Stack) (front : List PlacedLexeme) (nodes : ℕ) (names : List (List ℕ)) (x : PolicyLexeme)
    → Suits kind front (kinds_behind front) → offer kind level scope p x ≡ Some left → IsCounted front nodes names
    → IsDeep front (p, x) level scope → is_over kind level scope nodes names x ≡ true → PassesLimit front p x (limit_place kind p x)
over_passes kind level scope p left front nodes names x suits offers counted deep e = by (is_call kind x) refl
  where
    by : (b : Bool) → is_call kind x ≡ b → PassesLimit front p x (limit_place kind p x)
    by true called = event_passes kind p front level scope nodes names x suits counted called e
    by false called =
        let o = other kind level scope nodes p names x called in
        let not = not_behind kind level scope p left front x suits offers called in
        let is : over kind level scope nodes names x ≡ true = sym o.over_is ∙ e in
        subst (PassesLimit front p x) (sym o.place_is)
        (⊎_elim (λ (h : (nat_lt MOST_LEVEL level || nat_lt MOST_VARIABLES scope) ≡ true).
        ⊎_elim (λ (g : nat_lt MOST_LEVEL level ≡ true). refusals.DeepLevel level scope deep not (lt_from_true MOST_LEVEL level g))
        (λ (g : nat_lt MOST_VARIABLES scope ≡ true). refusals.WideScope level scope deep not (lt_from_true MOST_VARIABLES scope g))
        (or_cases (nat_lt MOST_LEVEL level) (nat_lt MOST_VARIABLES scope) h))
        (λ (g : is_beyond kind nodes names x ≡ true). beyond_passes kind p front nodes names x suits counted g)
        (or_cases (nat_lt MOST_LEVEL level || nat_lt MOST_VARIABLES scope) (is_beyond kind nodes names x) is))

-- ---- and back

last_of : (front xs ys : List PlacedLexeme) (x y : PlacedLexeme) → front ≡ xs ++ x ∷ [] → front ≡ ys ++ y ∷ [] → x ≡ y
last_of front xs ys x y e f =
    let both : x ∷ reverse xs ≡ y ∷ reverse ys = sym (reverse-append xs (x ∷ [])) ∙ ap reverse (sym e ∙ f) ∙ reverse-append ys (y ∷ []) in cc

operator_beyond : (kind : ItemKind) (nodes : ℕ) (names : List (List ℕ)) (x : PolicyLexeme) → is_operator x ≡ true → nat_le MOST_NODES nodes ≡ true → is_beyond kind nodes names x ≡ true
operator_beyond kind nodes names (Symbol Rule) is e = absurd (true≢false (sym is))
operator_beyond kind nodes names (NameLexeme name) is e = absurd (true≢false (sym is))
operator_beyond kind nodes names (DigitsLexeme value) is e = absurd (true≢false (sym is))
operator_beyond kind nodes names x is e = (λ j. is j && e j)

operator_not_call : (kind : ItemKind) (x : PolicyLexeme) → is_operator x ≡ true → is_call kind x ≡ false
operator_not_call (automaton.BehindName at) (Symbol OpenParen) is = absurd (true≢false (sym is))
operator_not_call (automaton.BehindName at) x is = refl
operator_not_call kind x is = refl

rule_is : (x : PolicyLexeme) → is_rule x ≡ true → x ≡ Symbol Rule
rule_is (Symbol Rule) e = refl
rule_is x e = absurd (true≢false (sym e))

rule_item : (kind : ItemKind) (l s p : ℕ) (left : Stack) (front : List PlacedLexeme) (back : List PolicyLexeme) → Suits kind front back → offer kind l s p (Symbol Rule) ≡ Some left
    → ends_in_rule back ≡ false
rule_item automaton.RuleName l s p left front back suits e = absurd cc
rule_item kind l s p left front back suits e = suits.rule

end_beyond : (kind : ItemKind) (nodes end : ℕ) (names : List (List ℕ)) → is_end kind ≡ true → nat_lt MOST_INTERVAL_END end ≡ true → is_beyond kind nodes names (DigitsLexeme end) ≡ true
end_beyond (automaton.FirstEnd operand) nodes end names is e = e
end_beyond (automaton.SecondEnd operand low) nodes end names is e = e
end_beyond kind nodes end names is e = absurd (true≢false (sym is))

abbrev one_if : Bool → ℕ
one_if b = if b then 1 else 0

-- some other lexeme is beyond
pub record IsOver (kind : ItemKind) (level scope nodes p : ℕ) (names : List (List ℕ)) (x : PolicyLexeme) (at : ℕ) : Type 0 where
  pub is : is_over kind level scope nodes names x ≡ true
  pub place : at ≡ limit_place kind p x

by_beyond : (kind : ItemKind) (level scope nodes p : ℕ) (names : List (List ℕ)) (x : PolicyLexeme) → is_call kind x ≡ false → is_beyond kind nodes names x ≡ true
    → IsOver kind level scope nodes p names x p
by_beyond kind level scope nodes p names x called e =
    let o = other kind level scope nodes p names x called in record {
      is = o.over_is ∙ or_right (nat_lt MOST_LEVEL level || nat_lt MOST_VARIABLES scope) (is_beyond kind nodes names x) e;
      place = sym o.place_is;
    }

plain_call : (kind : ItemKind) (x : PolicyLexeme) → (x ≢ Symbol OpenParen) → is_call kind x ≡ false
plain_call (automaton.BehindName at) (Symbol OpenParen) other = absurd (other refl)
plain_call (automaton.BehindName at) x other = refl
plain_call kind x other = refl

event_over : (kind : ItemKind) (level scope p : ℕ) (left : Stack) (front : List PlacedLexeme) (nodes : ℕ) (names : List (List ℕ)) (before : List PlacedLexeme) (at : ℕ)
    (name : List ℕ) → Suits kind front (kinds_behind front)
    → offer kind level scope p (Symbol OpenParen) ≡ Some left → front ≡ before ++ (at, NameLexeme name) ∷ [] → MOST_NODES ≤ nodes → IsOver kind level scope nodes p names (Symbol OpenParen) at
event_over automaton.Operand level scope p left front nodes names before at name suits offers is few =
    absurd (true≢false (sym (ap (λ (f : List PlacedLexeme). ends_in_name (kinds_behind f)) is ∙ ap ends_in_name (behind_push before (at, NameLexeme name))) ∙ suits.context))
event_over (automaton.BehindName other) level scope p left front nodes names before at name suits offers is few =
    let same : (at, NameLexeme name) ≡ (other, NameLexeme suits.context.1) = last_of front before suits.context.0 (at, NameLexeme name) (other, NameLexeme suits.context.1) is suits.context.3 in
    record { is = true_from_le MOST_NODES nodes few; place = ap (λ (t : PlacedLexeme). t.0) same }
event_over kind level scope p left front nodes names before at name suits offers is few = absurd cc

pub passes_over : (kind : ItemKind) (level scope p : ℕ) (left : Stack) (front : List PlacedLexeme) (nodes : ℕ) (names : List (List ℕ)) (x : PolicyLexeme) (at : ℕ)
    → Suits kind front (kinds_behind front) → offer kind level scope p x ≡ Some left → IsCounted front nodes names
    → ((l s : ℕ) → IsDeep front (p, x) l s → (l ≡ level) × (s ≡ scope)) → PassesLimit front p x at → IsOver kind level scope nodes p names x at
passes_over kind level scope p left front nodes names x at suits offers counted deep (refusals.TooManyRules is many) =
    let rule : x ≡ Symbol Rule = rule_is x is in
    let free : ends_in_rule (kinds_behind front) ≡ false = rule_item kind level scope p left front (kinds_behind front) suits (ap (offer kind level scope p) (sym rule) ∙ offers) in
    let none = ap one_if free in
    by_beyond kind level scope nodes p names x (ap (is_call kind) rule ∙ plain_call kind (Symbol Rule) (λ e. cc))
    (ap (is_beyond kind nodes names) rule ∙ true_from_le MOST_RULES (length names) (omega (arith, many, counted.rules_are, none)))
passes_over kind level scope p left front nodes names x at suits offers counted deep (refusals.LongName name is long) =
    by_beyond kind level scope nodes p names x (ap (is_call kind) is ∙ plain_call kind (NameLexeme name) (λ e. cc))
    (ap (is_beyond kind nodes names) is ∙ true_from_lt MOST_NAME_BYTES (length name) long)
passes_over kind level scope p left front nodes names x at suits offers counted deep (refusals.GreatEnd end is wanted great) =
    by_beyond kind level scope nodes p names x (ap (is_call kind) is ∙ plain_call kind (DigitsLexeme end) (λ e. cc))
    (ap (is_beyond kind nodes names) is ∙ end_beyond kind nodes end names (sym suits.wanted ∙ wanted) (true_from_lt MOST_INTERVAL_END end great))
passes_over kind level scope p left front nodes names x at suits offers counted deep (refusals.TooManyNodes is many) =
    by_beyond kind level scope nodes p names x (operator_not_call kind x is) (operator_beyond kind nodes names x is
    (true_from_le MOST_NODES nodes (subst (λ (n : ℕ). MOST_NODES ≤ n) (sym counted.nodes_are) many)))
passes_over kind level scope p left front nodes names x at suits offers counted deep (refusals.EventNode before place name is ends many) =
    let over = event_over kind level scope p left front nodes names before at name suits (ap (offer kind level scope p) (sym is) ∙ offers) ends
    (subst (λ (n : ℕ). MOST_NODES ≤ n) (sym counted.nodes_are) many) in
    subst (λ (y : PolicyLexeme). IsOver kind level scope nodes p names y at) (sym is) over
passes_over kind level scope p left front nodes names x at suits offers counted deep (refusals.DeepLevel l s d not great) =
    let o = other kind level scope nodes p names x (not_call kind front x suits not) in
    let same = deep l s d in record {
      is = o.over_is ∙ or_left (nat_lt MOST_LEVEL level || nat_lt MOST_VARIABLES scope) (is_beyond kind nodes names x)
          (or_left (nat_lt MOST_LEVEL level) (nat_lt MOST_VARIABLES scope) (true_from_lt MOST_LEVEL level (subst (λ (n : ℕ). MOST_LEVEL < n) same.0 great)));
      place = sym o.place_is;
    }
passes_over kind level scope p left front nodes names x at suits offers counted deep (refusals.WideScope l s d not great) =
    let o = other kind level scope nodes p names x (not_call kind front x suits not) in
    let same = deep l s d in record {
      is = o.over_is ∙ or_left (nat_lt MOST_LEVEL level || nat_lt MOST_VARIABLES scope) (is_beyond kind nodes names x)
          (or_right (nat_lt MOST_LEVEL level) (nat_lt MOST_VARIABLES scope) (true_from_lt MOST_VARIABLES scope (subst (λ (n : ℕ). MOST_VARIABLES < n) same.1 great)));
      place = sym o.place_is;
    }
