-- The levels of the lexemes of phrases, and how many variables are in scope at them.
use Rattle.policy_syntax.proofs.Vocabulary.{◌≡◌, ℕ, ◌≤◌, Bool, true, false, nat_le, ◌&&◌, List, [], ◌∷◌, map, refl, sym, ap, ◌∙◌, arith, nat_tests, RulePhrase, LexemeStep, bound, policy_fold, Deep}
use Rattle.policy_syntax.proofs.Vocabulary.{deepen, AreLow, Leveled, level_of, levels_of, MOST_LEVEL, MOST_VARIABLES}
use Rattle.policy_syntax.proofs.SpellingMaps.{policy_map}

-- each lexeme with its level
abbrev pub leveled : LexemeStep (List Leveled)
leveled level scope place lexeme rest = (level, lexeme) ∷ rest

-- whether few variables are in scope at each
abbrev pub roomy : LexemeStep Bool
roomy level scope place lexeme rest = nat_le scope MOST_VARIABLES && rest

pub room_is : (scope : ℕ) (rest : Bool) → scope ≤ MOST_VARIABLES → (nat_le scope MOST_VARIABLES && rest) ≡ rest
room_is scope rest few = let e : nat_le scope MOST_VARIABLES ≡ true = grind (arith, nat_tests) in ap (λ b. b && rest) e

pub levels_of_phrases : (rules : List RulePhrase) → levels_of rules ≡ policy_fold leveled rules []
levels_of_phrases rules = policy_map deepen leveled (map level_of) (λ l s p x r. refl) rules []

abbrev all_roomy : List Deep → Bool
all_roomy [] = true
all_roomy (deep ∷ rest) = nat_le deep.scope MOST_VARIABLES && all_roomy rest

abbrev all_bound : List Deep → Bool
all_bound [] = true
all_bound (deep ∷ rest) = nat_le deep.level MOST_LEVEL && nat_le deep.scope MOST_VARIABLES && all_bound rest

both_are : (text : List Deep) → AreLow (map level_of text) → all_roomy text ≡ true → all_bound text ≡ true
both_are [] low rooms = refl
both_are (deep ∷ rest) low rooms = by (nat_le deep.scope MOST_VARIABLES) refl rooms (both_are rest low.1)
  where
    by : (b : Bool) → nat_le deep.scope MOST_VARIABLES ≡ b → (b && all_roomy rest) ≡ true → (all_roomy rest ≡ true → all_bound rest ≡ true) → all_bound (deep ∷ rest) ≡ true
    by true e r more =
        let is_low : deep.level ≤ MOST_LEVEL = low.0 in
        let is : nat_le deep.level MOST_LEVEL ≡ true = grind (arith, nat_tests) in
        ap (λ b. b && nat_le deep.scope MOST_VARIABLES && all_bound rest) is ∙ ap (λ b. b && all_bound rest) e ∙ more r
    by false e r more = absurd cc

-- where levels are low and scopes small, all stand within the limits
pub rooms_bound : (rules : List RulePhrase) → AreLow (levels_of rules) → policy_fold roomy rules true ≡ true → policy_fold bound rules true ≡ true
rooms_bound rules low rooms =
    sym (policy_map deepen bound all_bound (λ l s p x r. refl) rules [])
    ∙ both_are (policy_fold deepen rules []) low (policy_map deepen roomy all_roomy (λ l s p x r. refl) rules [] ∙ rooms)
