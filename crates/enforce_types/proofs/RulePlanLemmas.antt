-- Plans one after another.
use Rattle.enforce_types.proofs.Vocabulary.{◌≡◌, ℕ, ◌+◌, ◌*◌, ◌<◌, ◌≤◌, List, [], ◌∷◌, ◌++◌, length, take, drop, get_or, Result, Ok, Err, IfErr, IsErrAnd, inl, inr, refl, sym, ap, subst, ◌∙◌, arith}
use Rattle.enforce_types.proofs.Vocabulary.{append_assoc, All, AllZip, get_or-map, length-append, length-map, map-append, take_more, take-append-drop, append-nil, All-get_or, VarId, Formula, tree_of}
use Rattle.enforce_types.proofs.Vocabulary.{formula_size, stored_rule_formulas, plan_of, Plan, CausePlan, SuppressPlan, Both, Either, TestOr, Guarded, EventuallyPlan, AlwaysPlan, UntilPlan, NextPlan}
use Rattle.enforce_types.proofs.Vocabulary.{all_guards, guards_of_plan, MOST_NODES, NameEntry, BoundFormula, Elab, Up, is_causable, is_suppressible, RuleAnswer, HasPlan, ArePlanned, node_count}
use Rattle.enforce_types.proofs.Vocabulary.{guard_count, renumber, renumber_all, GivesRefusal, GuardsAreSafe, guard_of, guards_of, IsFirstRefusal, Refusal, TypeRefusal}
use Rattle.formula_reader.specs.declared.policies.Rule.{Rule}
use Rattle.enforce_types.proofs.OperandLemmas.{refusal_map}
use Rattle.enforce_types.proofs.PlanSizes.{plan_fits, guards_are_nodes}
use Rattle.enforce_types.proofs.SafeGuards.{safe_guards}

abbrev Guards' : Type 0
Guards' = List (Formula × List VarId)

two_same : (a b c d : Guards') → a ≡ c → b ≡ d → a ++ b ≡ c ++ d
two_same a b c d x y = cc

-- numbers have no part in what the guards are
pub same_guards_in : (n g : ℕ) (p : Plan) (scope : List VarId) → guards_of_plan (renumber n g p) scope ≡ guards_of_plan p scope
same_guards_in n g (CausePlan node place name terms) scope = refl
same_guards_in n g (SuppressPlan node place name terms) scope = refl
same_guards_in n g (Both node l r) scope = two_same _ _ _ _ (same_guards_in (n + 1) g l scope) (same_guards_in (n + 1 + node_count l) (g + guard_count l) r scope)
same_guards_in n g (Either node l r) scope = two_same _ _ _ _ (same_guards_in (n + 1) g l scope) (same_guards_in (n + 1 + node_count l) (g + guard_count l) r scope)
same_guards_in n g (TestOr node guard test body) scope = ap (λ (gs : Guards'). (test, scope) ∷ gs) (same_guards_in (n + 1) (g + 1) body scope)
same_guards_in n g (Guarded node vars guard test body) scope = ap (λ (gs : Guards'). (test, scope) ∷ gs) (same_guards_in (n + 1) (g + 1) body (scope ++ vars))
same_guards_in n g (EventuallyPlan node place low high body) scope = same_guards_in (n + 1) g body scope
same_guards_in n g (AlwaysPlan node place low high body) scope = same_guards_in (n + 1) g body scope
same_guards_in n g (UntilPlan node place low high l r) scope = two_same _ _ _ _ (same_guards_in (n + 1) g l scope) (same_guards_in (n + 1 + node_count l) (g + guard_count l) r scope)
same_guards_in n g (NextPlan node place high body) scope = same_guards_in (n + 1) g body scope

two_counted : (a b : Guards') (m n : List ℕ) → length a ≡ length m → length b ≡ length n → length (a ++ b) ≡ length (m ++ n)
two_counted a b m n x y = omega (arith, length-append a b, length-append m n)

-- there are as many guards as numbers of them
pub guards_counted : (p : Plan) (scope : List VarId) → length (guards_of_plan p scope) ≡ guard_count p
guards_counted (CausePlan node place name terms) scope = refl
guards_counted (SuppressPlan node place name terms) scope = refl
guards_counted (Both node l r) scope = two_counted _ _ _ _ (guards_counted l scope) (guards_counted r scope)
guards_counted (Either node l r) scope = two_counted _ _ _ _ (guards_counted l scope) (guards_counted r scope)
guards_counted (TestOr node guard test body) scope = let e : length (guards_of_plan body scope) ≡ guard_count body = guards_counted body scope in omega arith
guards_counted (Guarded node vars guard test body) scope = let e : length (guards_of_plan body (scope ++ vars)) ≡ guard_count body = guards_counted body (scope ++ vars) in omega arith
guards_counted (EventuallyPlan node place low high body) scope = guards_counted body scope
guards_counted (AlwaysPlan node place low high body) scope = guards_counted body scope
guards_counted (UntilPlan node place low high l r) scope = two_counted _ _ _ _ (guards_counted l scope) (guards_counted r scope)
guards_counted (NextPlan node place high body) scope = guards_counted body scope

-- one plan more
numbered_push : (g h : ℕ) (plans : List Plan) (p : Plan) → h ≡ g + length (all_guards plans) → renumber_all g (plans ++ p ∷ []) ≡ renumber_all g plans ++ renumber 0 h p ∷ []
numbered_push g h [] p is = ap (λ (k : ℕ). renumber 0 k p ∷ []) (omega arith)
numbered_push g h (q ∷ plans) p is =
    ap (λ (ps : List Plan). renumber 0 g q ∷ ps) (numbered_push (g + guard_count q) h plans p (omega (arith, guards_counted q [], length-append (guards_of_plan q []) (all_guards plans))))

pub all_same_guards : (g : ℕ) (plans : List Plan) → all_guards (renumber_all g plans) ≡ all_guards plans
all_same_guards g [] = refl
all_same_guards g (p ∷ plans) = two_same _ _ _ _ (same_guards_in 0 g p []) (all_same_guards (g + guard_count p) plans)

guards_push : (plans : List Plan) (p : Plan) → all_guards (plans ++ p ∷ []) ≡ all_guards plans ++ guards_of_plan p []
guards_push [] p = append-nil (guards_of_plan p [])
guards_push (q ∷ plans) p = ap (λ (gs : Guards'). guards_of_plan q [] ++ gs) (guards_push plans p) ∙ sym (append_assoc (guards_of_plan q []) (all_guards plans) (guards_of_plan p []))

zip_push : (entries : List NameEntry) (policy : List Formula) (plans : List Plan) (f : Formula) (p : Plan)
    → AllZip (HasPlan entries) policy plans → HasPlan entries f p
    → AllZip (HasPlan entries) (policy ++ f ∷ []) (plans ++ p ∷ [])
zip_push entries [] [] f p h b = (b, tt)
zip_push entries [] (q ∷ plans) f p h b = absurd h
zip_push entries (g ∷ policy) [] f p h b = absurd h
zip_push entries (g ∷ policy) (q ∷ plans) f p h b = (h.0, zip_push entries policy plans f p h.1 b)

pub planned_push : (entries : List NameEntry) (policy : List Formula) (plans : List Plan) (guards : Guards')
    (f : Formula) (p : Plan) → ArePlanned entries policy plans guards → HasPlan entries f p
    → ArePlanned entries (policy ++ f ∷ []) (plans ++ renumber 0 (length guards) p ∷ [])
    (guards ++ guards_of_plan p [])
planned_push entries policy plans guards f p are has =
    let known : guards ≡ all_guards are.made = are.guarded ∙ ap all_guards are.numbered ∙ all_same_guards 0 are.made in
    let pushed : renumber_all 0 (are.made ++ p ∷ []) ≡ renumber_all 0 are.made ++ renumber 0 (length guards) p
    ∷ [] = numbered_push 0 (length guards) are.made p
    (let e : length guards ≡ length (all_guards are.made) = ap length known in omega arith) in
    let whole : plans ++ renumber 0 (length guards) p ∷ [] ≡ renumber_all 0 (are.made ++ p ∷ []) = ap (λ (ps : List Plan). ps ++ renumber 0 (length guards) p ∷ []) are.numbered ∙ sym pushed in
    record {
      made = are.made ++ p ∷ [];
      answered = zip_push entries policy are.made f p are.answered has;
      numbered = whole;
      guarded = ap (λ (gs : Guards'). gs ++ guards_of_plan p []) known ∙ sym (guards_push are.made p) ∙ sym (all_same_guards 0 (are.made ++ p ∷ [])) ∙ ap all_guards (sym whole);
    }

-- a refusal after formulas that have plans
refused_behind : (entries : List NameEntry) (policy rest : List Formula) (made : List Plan) (f : Formula)
    (r : Refusal) → AllZip (HasPlan entries) policy made → RuleAnswer entries f (Err r)
    → IsFirstRefusal entries (policy ++ f ∷ rest) r
refused_behind entries [] rest [] f r h refuses = inl refuses
refused_behind entries [] rest (q ∷ made) f r h refuses = absurd h
refused_behind entries (g ∷ policy) rest [] f r h refuses = absurd h
refused_behind entries (g ∷ policy) rest (q ∷ made) f r h refuses = inr (q, h.0, refused_behind entries policy rest made f r h.1 refuses)

module _ (rules : List Rule) (i : ℕ) (rule : Rule) (within : i < length rules) (is : rule ≡ get_or rules i rule) where
  formulas_more : stored_rule_formulas (take (i + 1) rules) ≡ stored_rule_formulas (take i rules) ++ tree_of rule.formula ∷ []
  formulas_more =
      ap stored_rule_formulas (take_more rules i rule within ∙ ap (λ (r : Rule). take i rules ++ r ∷ []) (sym is))
      ∙ map-append (λ r. tree_of r.formula) (take i rules) (rule ∷ [])

  pub planned_more : (entries : List NameEntry) (plans more : List Plan) (guards others : Guards') (n : ℕ)
      (p : Plan) → n ≡ length guards → ArePlanned entries (stored_rule_formulas (take i rules)) plans guards
      → HasPlan entries (tree_of rule.formula) p → more ≡ plans ++ renumber 0 n p ∷ [] → others
      ≡ guards ++ guards_of_plan p [] → ArePlanned entries (stored_rule_formulas (take (i + 1) rules)) more others
  planned_more entries plans more guards others n p count are has e d =
      let more_is : more ≡ plans ++ renumber 0 (length guards) p ∷ [] = e ∙ ap (λ (k : ℕ). plans ++ renumber 0 k p ∷ []) count in
      rw (formulas_more, more_is, d) (planned_push entries (stored_rule_formulas (take i rules)) plans guards (tree_of rule.formula) p are has)

  -- the formula is not larger than each may be
  pub size_at : All (λ f. formula_size f ≤ MOST_NODES) (stored_rule_formulas rules) → formula_size (tree_of rule.formula) ≤ MOST_NODES
  size_at small =
      subst (λ (f : Formula). formula_size f ≤ MOST_NODES)
      (get_or-map (λ r. tree_of r.formula) rules i rule (tree_of rule.formula) within ∙ ap
      (λ (r : Rule). tree_of r.formula) (sym is)) (All-get_or (λ f. formula_size f ≤ MOST_NODES)
      (stored_rule_formulas rules) i (tree_of rule.formula)
      (omega (arith, within, length-map rules (λ r. tree_of r.formula))) small)

  pub refused_at : (entries : List NameEntry) (plans : List Plan) (guards : Guards') (r : Refusal)
      → ArePlanned entries (stored_rule_formulas (take i rules)) plans guards
      → RuleAnswer entries (tree_of rule.formula) (Err r) → IsFirstRefusal entries (stored_rule_formulas rules) r
  refused_at entries plans guards r are refuses =
      let whole : stored_rule_formulas (take i rules) ++ tree_of rule.formula ∷ stored_rule_formulas
      (drop (i + 1) rules) ≡ stored_rule_formulas rules = sym
      (append_assoc (stored_rule_formulas (take i rules)) (tree_of rule.formula ∷ [])
      (stored_rule_formulas (drop (i + 1) rules))) ∙ ap
      (λ (fs : List Formula). fs ++ stored_rule_formulas (drop (i + 1) rules)) (sym formulas_more) ∙ sym
      (map-append (λ r. tree_of r.formula) (take (i + 1) rules) (drop (i + 1) rules)) ∙ ap
      stored_rule_formulas (take-append-drop (i + 1) rules) in
      subst (λ (fs : List Formula). IsFirstRefusal entries fs r) whole
      (refused_behind entries (stored_rule_formulas (take i rules)) (stored_rule_formulas (drop (i + 1) rules))
      are.made (tree_of rule.formula) r are.answered refuses)

-- from what was answered for a formula to its plan or its refusal
pub has_plan : (entries : List NameEntry) (f : Formula) (scope : List VarId) (p : Plan) → scope ≡ []
    → Elab (is_causable entries) (is_suppressible entries) Up f scope (Ok p) → HasPlan entries f p
has_plan entries f scope p none e = subst (λ (s : List VarId). Elab (is_causable entries) (is_suppressible entries) Up f s (Ok p)) none e

pub has_refusal : (entries : List NameEntry) (f : Formula) (scope : List VarId) (why : Refusal) → scope ≡ []
    → Elab (is_causable entries) (is_suppressible entries) Up f scope (Err why) → RuleAnswer entries f (Err why)
has_refusal entries f scope why none e = subst (λ (s : List VarId). Elab (is_causable entries) (is_suppressible entries) Up f s (Err why)) none e

-- the refusal of a rule is passed on
pub rule_refused : {T : Type 0} (P Q : Refusal → Type 0) (e : TypeRefusal) (r : Result T TypeRefusal) → IsErrAnd r (λ x. x ≡ e) → GivesRefusal P e
    → ((why : Refusal) → P why → Q why) → IfErr r (GivesRefusal Q)
rule_refused P Q e (Ok made) is h each = tt
rule_refused P Q e (Err x) is h each = subst (GivesRefusal Q) (sym is) (refusal_map P Q e each h)

pub rule_safe : (entries : List NameEntry) (f : Formula) (p : Plan) → HasPlan entries f p → GuardsAreSafe p []
rule_safe entries f p has = safe_guards (is_causable entries) (is_suppressible entries) Up f [] p has

pub nodes_few : (entries : List NameEntry) (f : Formula) (p : Plan) → HasPlan entries f p → formula_size f ≤ MOST_NODES → node_count p ≤ MOST_NODES
nodes_few entries f p has small = let fits : node_count p ≤ formula_size f = plan_fits (is_causable entries) (is_suppressible entries) Up f [] p has in omega arith

pub guards_few : (entries : List NameEntry) (f : Formula) (p : Plan) → HasPlan entries f p → formula_size f ≤ MOST_NODES → guard_count p ≤ MOST_NODES
guards_few entries f p has small = omega (arith, nodes_few entries f p has small, guards_are_nodes p)

pub few_more : (old new : List BoundFormula) (p : Plan) (i : ℕ) → guards_of new
    ≡ guards_of old ++ guards_of_plan p [] → guard_count p ≤ MOST_NODES → length old ≤ MOST_NODES * i
    → length new ≤ MOST_NODES * (i + 1)
few_more old new p i is few so_far =
    let e : length (guards_of new) ≡ length (guards_of old ++ guards_of_plan p []) = ap length is in
    omega (arith, length-map new guard_of, length-map old guard_of, length-append (guards_of old) (guards_of_plan p []), guards_counted p [])
