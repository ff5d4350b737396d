-- What is in the way of policies, rule after rule.
use Rattle.slices.proofs.Vocabulary.{◌≡◌, ◌⊎◌, ⊎_elim, inl, inr, ℕ, ◌+◌, ◌<◌, List, [], ◌∷◌, ◌++◌, length, Option, None, Some, sym, ap, subst, ◌∙◌, get_or, Formula, IsSlicedRule, IsSlicedPolicy, Keying}
use Rattle.std.proofs.Common.{take}
use Rattle.std.proofs.lemmas.List.{map-append, take_more}
use Rattle.std.proofs.lemmas.List.Elements.{All-contains, Contains-append_left, Contains-get_or, Contains-push, Contains-push_cases}
use Rattle.enf_formula.specs.machine.FormulaViews.{tree_of}
use Rattle.formula_reader.specs.declared.policies.Rule.{Rule as StoredRule}
use Rattle.formula_reader.specs.machine.StoredRules.{stored_rule_formulas}
use Rattle.slices.proofs.HindranceLaws.{nothing_is_in_the_way}
use Rattle.slices.proofs.HindranceLemmas.{either_first}
use Rattle.slices.specs.declared.hindrances.Hindrance.{Hindrance}
use Rattle.slices.specs.machine.FirstHindrances.{IsFirstAnswer, IsPolicyInTheWay, earlier_of}
use Rattle.slices.specs.meaning.SlicedRules.{IsRuleInTheWay}

same_first : (P Q : Hindrance → Type 0) (answer : Option Hindrance) → ((h : Hindrance) → P h → Q h) → ((h : Hindrance) → Q h → P h)
    → IsFirstAnswer P answer → IsFirstAnswer Q answer
same_first P Q None to from is = λ h there. is h (from h there)
same_first P Q (Some h) to from is = record { is_one = to h is.is_one; first = λ other there. is.first other (from other there) }

-- one rule more
pub rules_first : (keying : Keying) (front : List Formula) (rule : Formula) (a b : Option Hindrance) → IsFirstAnswer (IsPolicyInTheWay keying front) a
    → IsFirstAnswer (IsRuleInTheWay keying rule) b → IsFirstAnswer (IsPolicyInTheWay keying (front ++ rule ∷ [])) (earlier_of a b)
rules_first keying front rule a b before last =
    same_first (λ h. IsPolicyInTheWay keying front h ⊎ IsRuleInTheWay keying rule h) (IsPolicyInTheWay keying (front ++ rule ∷ [])) (earlier_of a b)
    (λ h either. ⊎_elim (λ is. (is.0, Contains-append_left front (rule ∷ []) is.0 is.1, is.2)) (λ is. (rule, Contains-push front rule, is)) either)
    (λ h is. ⊎_elim (λ there. inl (is.0, there, is.2)) (λ same. inr (subst (λ (r : Formula). IsRuleInTheWay keying r h) (sym same) is.2)) (Contains-push_cases front rule is.0 is.1))
    (either_first (IsPolicyInTheWay keying front) (IsRuleInTheWay keying rule) a b before last)

pub formulas_more : (rules : List StoredRule) (i : ℕ) (rule : StoredRule) → i < length rules → rule ≡ get_or rules i rule
    → stored_rule_formulas (take (i + 1) rules) ≡ stored_rule_formulas (take i rules) ++ tree_of rule.formula ∷ []
formulas_more rules i rule below is =
    ap stored_rule_formulas (take_more rules i rule below)
    ∙ map-append (λ (r : StoredRule). tree_of r.formula) (take i rules) (get_or rules i rule ∷ [])
    ∙ ap (λ (r : StoredRule). stored_rule_formulas (take i rules) ++ tree_of r.formula ∷ []) (sym is)

pub policy_clear : (keying : Keying) (policy : List Formula) → ((h : Hindrance) → IsPolicyInTheWay keying policy h → ⊥)
    → IsSlicedPolicy keying policy
policy_clear keying policy none k d below =
    (nothing_is_in_the_way keying (get_or policy k d)).0 (λ h is. none h (get_or policy k d, Contains-get_or policy k d below, is))

pub policy_refuted : (keying : Keying) (policy : List Formula) (h : Hindrance) → IsPolicyInTheWay keying policy h
    → IsSlicedPolicy keying policy → ⊥
policy_refuted keying policy h is sliced =
    (nothing_is_in_the_way keying is.0).1 (All-contains (IsSlicedRule keying) policy is.0 sliced is.1) h is.2
