-- A policy without a refusal has its rules under the signature.
use Rattle.formula_reader.proofs.Vocabulary.{◌≡◌, ℕ, List, [], ◌∷◌, ◌++◌, length, Option, None, Some, Result, Ok, Err, refl, ap, slice_get, option_map, option_and_then, Term, VarId, SyntaxTerm}
use Rattle.formula_reader.proofs.Vocabulary.{SyntaxTree, TrueTree, FalseTree, AtomTree, EqualTree, LessTree, AtMostTree, NotTree, AndTree, OrTree, ImpliesTree, ExistsTree, ForallTree, PrevTree}
use Rattle.formula_reader.proofs.Vocabulary.{NextTree, OnceTree, HistoricallyTree, SinceTree, EventuallyTree, AlwaysTree, UntilTree, entry_columns, NameEntry, Sort, name_number, IsResolutionAnswer}
use Rattle.formula_reader.proofs.Vocabulary.{Point, EventName, Binder, Use, entry_named, argument_points, binder_points, points, term_in, bound_names, binding_names, bound_variables_from, Rule}
use Rattle.formula_reader.proofs.Vocabulary.{with_both, name_in, terms_in, formula_in, rule_in, rules_in, rule_with, event_name_refusal, known_after, point_refusal, first_point_refusal, rule_refusal}
use Rattle.formula_reader.proofs.Vocabulary.{policy_refusal, PolicyRefusal}
use Rattle.formula_reader.proofs.OptionLaws.{or_none}
use Rattle.formula_reader.proofs.CallAnswers.{answers_same}
use Rattle.enf_formula.specs.meaning.Satisfaction as tree
use Rattle.policy_syntax.specs.meaning.Trees as syntax

-- each event name is in the signature with its number of columns, and each term stands for something
abbrev pub AreKnown : List NameEntry → List Point → Type 0
AreKnown entries [] = Unit {0}
AreKnown entries (EventName place name terms ∷ rest) = (event_name_refusal place terms (entry_named entries name) ≡ None) × AreKnown entries rest
AreKnown entries (Binder place taken ∷ rest) = AreKnown entries rest
AreKnown entries (Use place term wanted ∷ rest) = ((t : Term) × (term ≡ Some t)) × AreKnown entries rest

pub name_known : (entries : List NameEntry) (place terms : ℕ) (number : Option ℕ)
    → event_name_refusal place terms (option_and_then (slice_get entries) number) ≡ None → (n : ℕ) × (number ≡ Some n)
name_known entries place terms None e = absurd (cc)
name_known entries place terms (Some n) e = (n, refl)

-- points without a refusal are known
pub points_known : (entries : List NameEntry) (before points : List Point) → first_point_refusal entries before points ≡ None → AreKnown entries points
points_known entries before [] e = tt
points_known entries before (EventName place name terms ∷ rest) e =
    let h = or_none (point_refusal entries (known_after before) (EventName place name terms)) (first_point_refusal entries (EventName place name terms ∷ before) rest) e in
    (h.0, points_known entries (EventName place name terms ∷ before) rest h.1)
points_known entries before (Binder place taken ∷ rest) e =
    let h = or_none (point_refusal entries (known_after before) (Binder place taken)) (first_point_refusal entries (Binder place taken ∷ before) rest) e in
    points_known entries (Binder place taken ∷ before) rest h.1
points_known entries before (Use place None wanted ∷ rest) e = absurd (cc)
points_known entries before (Use place (Some t) wanted ∷ rest) e =
    let h = or_none (point_refusal entries (known_after before) (Use place (Some t) wanted)) (first_point_refusal entries (Use place (Some t) wanted ∷ before) rest) e in
    ((t, refl), points_known entries (Use place (Some t) wanted ∷ before) rest h.1)

pub known_front : (entries : List NameEntry) (front back : List Point) → AreKnown entries (front ++ back) → AreKnown entries front
known_front entries [] back h = tt
known_front entries (EventName place name terms ∷ front) back h = (h.0, known_front entries front back h.1)
known_front entries (Binder place taken ∷ front) back h = known_front entries front back h
known_front entries (Use place term wanted ∷ front) back h = (h.0, known_front entries front back h.1)

pub known_back : (entries : List NameEntry) (front back : List Point) → AreKnown entries (front ++ back) → AreKnown entries back
known_back entries [] back h = h
known_back entries (EventName place name terms ∷ front) back h = known_back entries front back h.1
known_back entries (Binder place taken ∷ front) back h = known_back entries front back h
known_back entries (Use place term wanted ∷ front) back h = known_back entries front back h.1

-- a value is there
abbrev pub IsThere : {A : Type 0} → Option A → Type 0
IsThere {A = A} option = (value : A) × (option ≡ Some value)

both_there : {A B C : Type 0} (f : A → B → C) (a : Option A) (b : Option B) → IsThere a → IsThere b → IsThere (with_both f a b)
both_there f a b (x, e) (y, h) = (f x y, rw (e, h) refl)

map_there : {A B : Type 0} (f : A → B) (a : Option A) → IsThere a → IsThere (option_map f a)
map_there f a (x, e) = (f x, ap (option_map f) e)

terms_there : (entries : List NameEntry) (names : List (List ℕ)) (scope : List VarId) (sorts : List Sort) (terms : List SyntaxTerm)
    → AreKnown entries (argument_points names scope sorts terms) → IsThere (terms_in names scope terms)
terms_there entries names scope sorts [] h = ([], refl)
terms_there entries names scope [] (term ∷ terms) h =
    both_there ◌∷◌ (term_in names scope term) (terms_in names scope terms) h.0 (terms_there entries names scope [] terms h.1)
terms_there entries names scope (sort ∷ sorts) (term ∷ terms) h =
    both_there ◌∷◌ (term_in names scope term) (terms_in names scope terms) h.0 (terms_there entries names scope sorts terms h.1)

both_formulas : (make : tree.Formula → tree.Formula → tree.Formula) (entries : List NameEntry) (names : List (List ℕ)) (scope : List VarId) (f g : SyntaxTree)
    → (AreKnown entries (points entries names scope f) → IsThere (formula_in entries names scope f))
    → (AreKnown entries (points entries (names ++ bound_names f) scope g) → IsThere (formula_in entries (names ++ bound_names f) scope g))
    → AreKnown entries (points entries names scope f ++ points entries (names ++ bound_names f) scope g)
    → IsThere (with_both make (formula_in entries names scope f) (formula_in entries (names ++ bound_names f) scope g))
both_formulas make entries names scope f g l r h =
    both_there make (formula_in entries names scope f) (formula_in entries (names ++ bound_names f) scope g)
    (l (known_front entries (points entries names scope f) (points entries (names ++ bound_names f) scope g) h))
    (r (known_back entries (points entries names scope f) (points entries (names ++ bound_names f) scope g) h))

-- a formula whose points are known is there
formula_there : (entries : List NameEntry) (names : List (List ℕ)) (scope : List VarId) (f : SyntaxTree)
    → AreKnown entries (points entries names scope f) → IsThere (formula_in entries names scope f)
formula_there entries names scope (TrueTree place) h = (tree.True place, refl)
formula_there entries names scope (FalseTree place) h = (tree.False place, refl)
formula_there entries names scope (AtomTree place name terms) h =
    both_there (tree.Atom place) (name_in entries name) (terms_in names scope terms)
    (map_there (λ number. record { 0 = number }) (name_number entries name) (name_known entries place (length terms) (name_number entries name) h.0))
    (terms_there entries names scope (entry_columns (entry_named entries name)) terms h.1)
formula_there entries names scope (EqualTree place s t) h = both_there (tree.Equal place) (term_in names scope s) (term_in names scope t) h.0 h.1.0
formula_there entries names scope (LessTree place s t) h = both_there (tree.Less place) (term_in names scope s) (term_in names scope t) h.0 h.1.0
formula_there entries names scope (AtMostTree place s t) h = both_there (tree.AtMost place) (term_in names scope s) (term_in names scope t) h.0 h.1.0
formula_there entries names scope (NotTree place f) h = map_there (tree.Not place) (formula_in entries names scope f) (formula_there entries names scope f h)
formula_there entries names scope (AndTree place f g) h =
    both_formulas (tree.And place) entries names scope f g (formula_there entries names scope f)
    (formula_there entries (names ++ bound_names f) scope g) h
formula_there entries names scope (OrTree place f g) h =
    both_formulas (tree.Or place) entries names scope f g (formula_there entries names scope f)
    (formula_there entries (names ++ bound_names f) scope g) h
formula_there entries names scope (ImpliesTree place f g) h =
    both_formulas (tree.Implies place) entries names scope f g (formula_there entries names scope f)
    (formula_there entries (names ++ bound_names f) scope g) h
formula_there entries names scope (ExistsTree place xs f) h =
    map_there (tree.Exists place (bound_variables_from (length names) xs)) (formula_in entries (names ++ binding_names xs) (scope ++ bound_variables_from (length names) xs) f)
    (formula_there entries (names ++ binding_names xs) (scope ++ bound_variables_from (length names) xs) f
    (known_back entries (binder_points names scope xs) (points entries (names ++ binding_names xs) (scope ++ bound_variables_from (length names) xs) f) h))
formula_there entries names scope (ForallTree place xs f) h =
    map_there (tree.Forall place (bound_variables_from (length names) xs)) (formula_in entries (names ++ binding_names xs) (scope ++ bound_variables_from (length names) xs) f)
    (formula_there entries (names ++ binding_names xs) (scope ++ bound_variables_from (length names) xs) f
    (known_back entries (binder_points names scope xs) (points entries (names ++ binding_names xs) (scope ++ bound_variables_from (length names) xs) f) h))
formula_there entries names scope (PrevTree place interval f) h = map_there (tree.Prev place interval) (formula_in entries names scope f) (formula_there entries names scope f h)
formula_there entries names scope (NextTree place interval f) h = map_there (tree.Next place interval) (formula_in entries names scope f) (formula_there entries names scope f h)
formula_there entries names scope (OnceTree place interval f) h = map_there (tree.Once place interval) (formula_in entries names scope f) (formula_there entries names scope f h)
formula_there entries names scope (HistoricallyTree place interval f) h = map_there (tree.Historically place interval) (formula_in entries names scope f) (formula_there entries names scope f h)
formula_there entries names scope (SinceTree place interval f g) h =
    both_formulas (tree.Since place interval) entries names scope f g (formula_there entries names scope f)
    (formula_there entries (names ++ bound_names f) scope g) h
formula_there entries names scope (EventuallyTree place interval f) h = map_there (tree.Eventually place interval) (formula_in entries names scope f) (formula_there entries names scope f h)
formula_there entries names scope (AlwaysTree place interval f) h = map_there (tree.Always place interval) (formula_in entries names scope f) (formula_there entries names scope f h)
formula_there entries names scope (UntilTree place interval f g) h =
    both_formulas (tree.Until place interval) entries names scope f g (formula_there entries names scope f)
    (formula_there entries (names ++ bound_names f) scope g) h

-- rules without a refusal are there
rules_there : (entries : List NameEntry) (rules : List syntax.PolicyRule) → policy_refusal entries rules ≡ None → IsThere (rules_in entries rules)
rules_there entries [] e = ([], refl)
rules_there entries (rule ∷ rules) e =
    let h = or_none (rule_refusal entries rule) (policy_refusal entries rules) e in
    both_there ◌∷◌ (rule_in entries rule) (rules_in entries rules)
    (map_there (rule_with rule) (formula_in entries [] [] rule.formula)
    (formula_there entries [] [] rule.formula (points_known entries [] (points entries [] [] rule.formula) h.0)))
    (rules_there entries rules h.1)

-- rules have exactly one answer
pub one_answer_of : (entries : List NameEntry) (rules : List syntax.PolicyRule)
    → (answer : Result (List Rule) PolicyRefusal) × IsResolutionAnswer entries rules answer
    × ((other : Result (List Rule) PolicyRefusal) → IsResolutionAnswer entries rules other → other ≡ answer)
one_answer_of entries rules = by (policy_refusal entries rules) refl
  where
    by : (r : Option PolicyRefusal) → policy_refusal entries rules ≡ r
        → (answer : Result (List Rule) PolicyRefusal) × IsResolutionAnswer entries rules answer
        × ((other : Result (List Rule) PolicyRefusal) → IsResolutionAnswer entries rules other → other ≡ answer)
    by None e =
        let there = rules_there entries rules e in
        (Ok there.0, (e, there.1), λ other is. answers_same entries rules other (Ok there.0) is (e, there.1))
    by (Some refusal) e = (Err refusal, e, λ other is. answers_same entries rules other (Err refusal) is e)
