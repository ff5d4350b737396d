-- What passing the points of a rule says of the rule.
use Rattle.formula_reader.proofs.Vocabulary.{◌≡◌, ◌≢◌, ℕ, List, [], None, Some, Ok, Err, refl, sym, ap, ◌∙◌, ◌++◌, option_map, NameEntry, IsFreshVariables, PassesPoints, IsRefusedPass, pass, points}
use Rattle.formula_reader.proofs.Vocabulary.{bound_names, Rule, formula_in, rule_in, rule_with, rule_refusal, PolicyRefusal, NoMemory, Variables}
use Rattle.formula_reader.proofs.SortAgreement.{refused_by, first_is}
use Rattle.formula_reader.proofs.PointCounts.{formula_counts}
use Rattle.enf_formula.specs.meaning.Satisfaction as tree
use Rattle.policy_syntax.specs.meaning.Trees as syntax

-- the first refusal of a rule is that at which passing its points stops
pub rule_is : (entries : List NameEntry) (rule : syntax.PolicyRule) → rule_refusal entries rule ≡ refused_by (pass entries [] (points entries [] [] rule.formula))
rule_is entries rule =
    first_is entries [] [] (points entries [] [] rule.formula) (record { each = λ x. refl }) (formula_counts entries [] [] rule.formula).fits

-- a rule whose points are passed has no refusal
pub rule_passes : (entries : List NameEntry) (rule : syntax.PolicyRule) (old new : Variables) → IsFreshVariables old
    → PassesPoints entries old new (points entries old.names.items old.scope.items rule.formula) (bound_names rule.formula)
    → rule_refusal entries rule ≡ None
rule_passes entries rule old new fresh p =
    let e : pass entries [] (points entries [] [] rule.formula) ≡ Ok new.sorts.items = rw (← fresh.names, ← fresh.sorts, ← fresh.scope) p.sorts in
    rule_is entries rule ∙ ap refused_by e

-- a rule whose points are not passed has the refusal
pub rule_refuses : (entries : List NameEntry) (rule : syntax.PolicyRule) (old : Variables) (refusal : PolicyRefusal) → IsFreshVariables old
    → IsRefusedPass refusal (pass entries old.sorts.items (points entries old.names.items old.scope.items rule.formula))
    → refusal ≢ NoMemory → rule_refusal entries rule ≡ Some refusal
rule_refuses entries rule old refusal fresh r n =
    let e : pass entries [] (points entries [] [] rule.formula) ≡ Err refusal = rw (← fresh.names, ← fresh.sorts, ← fresh.scope) (r.else n) in
    rule_is entries rule ∙ ap refused_by e

-- a rule whose points are passed, under a signature
pub rule_resolved : (entries : List NameEntry) (rule : syntax.PolicyRule) (old new : Variables) (formula : tree.Formula) → IsFreshVariables old
    → PassesPoints entries old new (points entries old.names.items old.scope.items rule.formula) (bound_names rule.formula)
    → formula_in entries old.names.items old.scope.items rule.formula ≡ Some formula
    → rule_in entries rule ≡ Some (record { name = rule.name; formula = formula; vars = new.names.items; place = rule.place })
rule_resolved entries rule old new formula fresh p e =
    let f : formula_in entries [] [] rule.formula ≡ Some formula = rw (← fresh.names, ← fresh.scope) e in
    let v : bound_names rule.formula ≡ new.names.items = sym (p.names ∙ ap (λ (ns : List (List ℕ)). ns ++ bound_names rule.formula) fresh.names) in
    ap (option_map (rule_with rule)) f ∙ ap (λ (ns : List (List ℕ)). let r : Rule = record { name = rule.name; formula = formula; vars = ns; place = rule.place } in Some r) v

pub ruleset one_rule = (rule_passes, rule_refuses, rule_resolved)
