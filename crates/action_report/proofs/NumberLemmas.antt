-- The rule with a name, and what stands after numbers.
use Rattle.action_report.proofs.Vocabulary.{◌≡◌, ℕ, zero, suc, Bool, true, false, cond, List, [], ◌∷◌, ◌++◌, map, Some, Contains, slice_get, codes, refl, sym, ap, subst, ◌∙◌, arith, append_assoc}
use Rattle.action_report.proofs.Vocabulary.{AllByRecursion, position, option_map, bytes_eq, get_or_from_slice_get, slice_get-map, slice_get_within, bytes_eq-Decides, HasNoRepeats, IsNoDigit}
use Rattle.action_report.proofs.Vocabulary.{position-cons, NameEntry, Rule, rule_of, IsWellFormedPolicy, IsWellFormedRule, Action, bindings_text, cause_text, when_text, labelled, IsRuleNamedOnce}
use Rattle.formula_reader.specs.declared.policies.Rule.{Rule as StoredRule}
use Rattle.action_report.proofs.BindLemmas.{Binding}
use Rattle.action_report.proofs.RowLemmas.{name_is_word}

pub all_at : {X : Type 0} (P : X → Type 0) (xs : List X) (n : ℕ) (x : X) → AllByRecursion P xs → slice_get xs n ≡ Some x → P x
all_at P [] n x each found = absurd cc
all_at P (y ∷ ys) zero x each found = let same : y ≡ x = cc found in subst P same each.0
all_at P (y ∷ ys) (suc n) x each found = all_at P ys n x each.1 found

-- among names that differ, the first item with a name is the one that has it
position_named : {X : Type 0} (f : X → List ℕ) (name : List ℕ) (xs : List X) (n : ℕ) → HasNoRepeats (map f xs) → slice_get (map f xs) n ≡ Some name → position (λ x. bytes_eq (f x) name) xs ≡ Some n
position_named f name [] n distinct found = absurd cc
position_named f name (x ∷ xs) zero distinct found =
    let same : f x ≡ name = cc found in
    position-cons (λ y. bytes_eq (f y) name) x xs ∙ ap (λ b. cond b (Some 0) (option_map suc (position (λ y. bytes_eq (f y) name) xs))) ((bytes_eq-Decides (f x) name).1 same)
position_named {X = X} f name (x ∷ xs) (suc n) distinct found =
    position-cons (λ y. bytes_eq (f y) name) x xs ∙ by (bytes_eq (f x) name) refl (position_named f name xs n distinct.1 found)
  where
    there : Contains (map f xs) name
    there = (n, slice_get_within (map f xs) n name found, get_or_from_slice_get (map f xs) n name name found)

    by : (b : Bool) → bytes_eq (f x) name ≡ b → position (λ y. bytes_eq (f y) name) xs ≡ Some n
        → cond (bytes_eq (f x) name) (Some 0) (option_map suc (position (λ y. bytes_eq (f y) name) xs)) ≡ Some (suc n)
    by true same rest = absurd (distinct.0 (subst (Contains (map f xs)) (sym ((bytes_eq-Decides (f x) name).0 same)) there))
    by false other rest = ap (λ b. cond b (Some 0) (option_map suc (position (λ y. bytes_eq (f y) name) xs))) other ∙ ap (option_map suc) rest

abbrev name_of_rule : Rule → List ℕ
name_of_rule rule = rule.name

-- two rules of one name are one
pub named : (rules : List Rule) (m n : ℕ) (rule other : Rule) → IsRuleNamedOnce rules m rule → IsRuleNamedOnce rules n other → rule.name ≡ other.name → m ≡ n
named rules m n rule other is also same =
    let first = position_named name_of_rule rule.name rules m is.distinct (slice_get-map name_of_rule rules m ∙ ap (option_map name_of_rule) is.found) in
    let second = position_named name_of_rule rule.name rules n is.distinct (slice_get-map name_of_rule rules n ∙ ap (option_map name_of_rule) also.found ∙ ap Some (sym same)) in
    let both : Some m ≡ Some n = sym first ∙ second in
    cc both

names_same : (rules : List StoredRule) → map name_of_rule (map rule_of rules) ≡ map (λ (rule : StoredRule). rule.name) rules
names_same [] = refl
names_same (rule ∷ rules) = ap (λ l. rule.name ∷ l) (names_same rules)

-- a rule of the program is found by its name
pub place_named : (rules : List StoredRule) (number : ℕ) (rule : Rule) (name : List ℕ) → IsRuleNamedOnce (map rule_of rules) number rule → name ≡ rule.name
    → position (λ (other : StoredRule). bytes_eq other.name name) rules ≡ Some number
place_named rules number rule name is same =
    position_named (λ (other : StoredRule). other.name) name rules number (subst HasNoRepeats (names_same rules) is.distinct)
    (ap (λ l. slice_get l number) (sym (names_same rules)) ∙ slice_get-map name_of_rule (map rule_of rules) number ∙ ap (option_map name_of_rule) is.found ∙ ap Some (sym same))

-- a rule of a policy
pub rule_at : (entries : List NameEntry) (rules : List Rule) (number : ℕ) (rule : Rule) → IsWellFormedPolicy entries rules → slice_get rules number ≡ Some rule → IsRuleNamedOnce rules number rule
rule_at entries rules number rule policy found = record {
  found = found;
  word = name_is_word rule.name (all_at (IsWellFormedRule entries) rules number rule policy.each found).name.0;
  distinct = policy.distinct;
}

-- what stands after the last number
pub no_digit_behind : (vars : List (List ℕ)) (values : List Binding) → IsNoDigit (bindings_text vars values ++ codes "\n")
no_digit_behind vars [] = λ low high. omega arith
no_digit_behind vars (value ∷ values) = λ low high. omega arith

-- ---- the numbers, one after the other

pub when_split : (action : Action) (rest : List ℕ) → when_text action ++ rest ≡ labelled (codes " at ") action.time ++ (labelled (codes " step ") action.position ++ rest)
when_split action rest = append_assoc (labelled (codes " at ") action.time) (labelled (codes " step ") action.position) rest

pub cause_split : (name : List ℕ) (action : Action) (rest : List ℕ) → cause_text name action ++ rest
    ≡ codes " rule " ++ (name ++ (labelled (codes " node ") action.node ++ (labelled (codes " leaf ") action.leaf ++ (labelled (codes " origin ") action.origin ++ rest))))
cause_split name action rest =
    let node = labelled (codes " node ") action.node in
    let leaf = labelled (codes " leaf ") action.leaf in
    let origin = labelled (codes " origin ") action.origin in
    append_assoc (codes " rule ") (name ++ (node ++ (leaf ++ origin))) rest
    ∙ ap (λ l. codes " rule " ++ l) (append_assoc name (node ++ (leaf ++ origin)) rest
    ∙ ap (λ l. name ++ l) (append_assoc node (leaf ++ origin) rest ∙ ap (λ l. node ++ l) (append_assoc leaf origin rest)))
