-- The rules of a text are well formed.
use Rattle.formula_reader.proofs.Vocabulary.{◌≡◌, ◌==◌, ℕ, ◌+◌, ◌≤◌, suc, Bool, true, false, true≢false, cond, ◌||◌, ◌&&◌, not, List, [], ◌∷◌, ◌++◌, length, map, Option, None, Some, Ok, refl, sym, ap}
use Rattle.formula_reader.proofs.Vocabulary.{subst, ◌∙◌, arith, slice_get, nat_tests, length-append, length-map, bytes_eq-Decides, AllByRecursion, list_any, option_and_then, option_map, bytes_eq}
use Rattle.formula_reader.proofs.Vocabulary.{bound_variables, numbered_variables, IsScopedFormula, scoped_closed, scoped_fresh, AreNewVariables, IsTermInScope, formula_size, HasNoRepeats, is_reserved}
use Rattle.formula_reader.proofs.Vocabulary.{reserved, NameId, Term, VarId, PolicyLexeme, NameLexeme, lexeme_of_word, KeepsLimits, IsRule, IsShortName, tree_size, SyntaxTree, TrueTree, FalseTree}
use Rattle.formula_reader.proofs.Vocabulary.{AtomTree, EqualTree, LessTree, AtMostTree, NotTree, AndTree, OrTree, ImpliesTree, ExistsTree, ForallTree, PrevTree, NextTree, OnceTree, HistoricallyTree}
use Rattle.formula_reader.proofs.Vocabulary.{SinceTree, EventuallyTree, AlwaysTree, UntilTree, IsPolicyText, IsWritable, IsWritableName, IsWritableRule, TextsAreWritable, MOST_VARIABLES, Binding}
use Rattle.formula_reader.proofs.Vocabulary.{SyntaxTerm, NameEntry, name_number, bound_names, binding_names, term_in, bound_variables_from, Rule, formula_in, name_in, rule_in, rule_with, rules_in}
use Rattle.formula_reader.proofs.Vocabulary.{terms_in, with_both, binder_points, entry_named, points, IsPolicyAnswer, event_name_refusal, policy_refusal, rule_refusal, Arity, IsName, IsPolicyFormula}
use Rattle.formula_reader.proofs.Vocabulary.{IsWellFormedPolicy, IsWellFormedRule, arity_of}
use Rattle.formula_reader.proofs.OptionLaws.{both_from, one_from, or_none}
use Rattle.formula_reader.proofs.RulesExist.{AreKnown, known_back, known_front, points_known}
use Rattle.formula_reader.proofs.RoundTrip.{policy_of, text_of}
use Rattle.formula_reader.proofs.FreshVariables.{IsScope, bound_in_turn, count_numbered, no_scope, numbered_on, scope_later, scope_on, term_in_scope, terms_in_scope}
use Rattle.enf_formula.specs.meaning.Satisfaction as tree
use Rattle.policy_syntax.specs.meaning.Trees as syntax

-- ---- names

-- the reserved words are lexemes of their own
abbrev is_named_lexeme : PolicyLexeme → Bool
is_named_lexeme (NameLexeme name) = true
is_named_lexeme lexeme = false

abbrev IsNoName : List ℕ → Type 0
IsNoName word = is_named_lexeme (lexeme_of_word word) ≡ false

none_reserved : AllByRecursion IsNoName reserved
none_reserved = (refl, (refl, (refl, (refl, (refl, (refl, (refl, (refl, (refl, (refl, (refl, (refl, (refl, (refl, (refl, (refl, (refl, (refl, tt))))))))))))))))))

not_among : (words : List (List ℕ)) (word : List ℕ) → AllByRecursion IsNoName words → lexeme_of_word word ≡ NameLexeme word → list_any (λ other. bytes_eq other word) words ≡ false
not_among [] word h e = refl
not_among (other ∷ words) word h e = by (bytes_eq other word) refl (not_among words word h.1 e)
  where
    by : (b : Bool) → bytes_eq other word ≡ b → list_any (λ w. bytes_eq w word) words ≡ false → list_any (λ w. bytes_eq w word) (other ∷ words) ≡ false
    by true is rest =
        let same : other ≡ word = (bytes_eq-Decides other word).0 is in
        let named : is_named_lexeme (lexeme_of_word other) ≡ true = ap (λ (w : List ℕ). is_named_lexeme (lexeme_of_word w)) same ∙ ap is_named_lexeme e in
        absurd (true≢false (sym named ∙ h.0))
    by false is rest = ap (λ b. b || list_any (λ w. bytes_eq w word) words) is ∙ rest

writable_name : (name : List ℕ) → IsWritableName name → IsShortName name → IsName name
writable_name name h short = (ap (λ b. b && not (is_reserved name)) h.0 ∙ ap not (not_among reserved name none_reserved h.1), short)

name_front : (xs ys : List (List ℕ)) → AllByRecursion IsName xs → AllByRecursion IsName ys → AllByRecursion IsName (xs ++ ys)
name_front [] ys h g = g
name_front (x ∷ xs) ys h g = (h.0, name_front xs ys h.1 g)

variable_names : (xs : List Binding) → AllByRecursion (λ (x : Binding). IsShortName x.name) xs → AllByRecursion (λ (x : Binding). IsWritableName x.name) xs
    → AllByRecursion IsName (binding_names xs)
variable_names [] short h = tt
variable_names (x ∷ xs) short h = (writable_name x.name h.0 short.0, variable_names xs short.1 h.1)

names_are : (k : ℕ) (s : SyntaxTree) → KeepsLimits k s → IsWritable s → AllByRecursion IsName (bound_names s)
names_are k (TrueTree place) kept h = tt
names_are k (FalseTree place) kept h = tt
names_are k (AtomTree place name terms) kept h = tt
names_are k (EqualTree place s t) kept h = tt
names_are k (LessTree place s t) kept h = tt
names_are k (AtMostTree place s t) kept h = tt
names_are k (NotTree place s) kept h = names_are k s kept h
names_are k (AndTree place s t) kept h = name_front (bound_names s) (bound_names t) (names_are k s kept.0 h.0) (names_are k t kept.1 h.1)
names_are k (OrTree place s t) kept h = name_front (bound_names s) (bound_names t) (names_are k s kept.0 h.0) (names_are k t kept.1 h.1)
names_are k (ImpliesTree place s t) kept h = name_front (bound_names s) (bound_names t) (names_are k s kept.0 h.0) (names_are k t kept.1 h.1)
names_are k (ExistsTree place xs s) kept h = name_front (binding_names xs) (bound_names s) (variable_names xs kept.1 h.0.1) (names_are (k + length xs) s kept.2 h.1)
names_are k (ForallTree place xs s) kept h = name_front (binding_names xs) (bound_names s) (variable_names xs kept.1 h.0.1) (names_are (k + length xs) s kept.2 h.1)
names_are k (PrevTree place interval s) kept h = names_are k s kept.1 h.1
names_are k (NextTree place interval s) kept h = names_are k s kept.1 h.1
names_are k (OnceTree place interval s) kept h = names_are k s kept.1 h.1
names_are k (HistoricallyTree place interval s) kept h = names_are k s kept.1 h.1
names_are k (SinceTree place interval s t) kept h = name_front (bound_names s) (bound_names t) (names_are k s kept.1 h.1) (names_are k t kept.2 h.2)
names_are k (EventuallyTree place interval s) kept h = names_are k s kept.1 h.1
names_are k (AlwaysTree place interval s) kept h = names_are k s kept.1 h.1
names_are k (UntilTree place interval s t) kept h = name_front (bound_names s) (bound_names t) (names_are k s kept.1 h.1) (names_are k t kept.2 h.2)

-- ---- formulas

-- an event name that is not refused has so many columns
columns_are : (place terms : ℕ) (entry : Option NameEntry) → event_name_refusal place terms entry ≡ None → option_map (λ (e : NameEntry). length e.sorts) entry ≡ Some terms
columns_are place terms None e = absurd cc
columns_are place terms (Some entry) e = by (length entry.sorts == terms) refl e
  where
    by : (b : Bool) → (length entry.sorts == terms) ≡ b → cond b None (Some (Arity place)) ≡ None → Some (length entry.sorts) ≡ Some terms
    by true is f = let same : length entry.sorts ≡ terms = grind (arith, nat_tests) in ap Some same
    by false is f = absurd cc

module _ (entries : List NameEntry) where
  -- where variables with these names have been bound, and these are in scope: the formula has so many nodes, and binds
  -- so many variables
  record Good (names : List (List ℕ)) (scope : List VarId) (nodes bound : ℕ) (f : tree.Formula) : Type 0 where
    fits : IsPolicyFormula entries (length scope) f
    scoped : IsScopedFormula f scope
    numbered : bound_variables f ≡ numbered_variables (length names) bound
    size : formula_size f ≡ nodes

  arity_is : (place terms : ℕ) (name : List ℕ) (found : NameId) → name_in entries name ≡ Some found → event_name_refusal place terms (entry_named entries name) ≡ None
      → arity_of entries found ≡ Some terms
  arity_is place terms name found e known =
      let h = one_from (λ (number : ℕ). let id : NameId = record { 0 = number } in id) (name_number entries name) found e in
      let there : entry_named entries name ≡ slice_get entries h.x = ap (option_and_then (slice_get entries)) h.from in
      subst (λ (id : NameId). arity_of entries id ≡ Some terms) h.made
      (columns_are place terms (slice_get entries h.x) (ap (event_name_refusal place terms) (sym there) ∙ known))

  good_one : (names : List (List ℕ)) (scope : List VarId) (make : tree.Formula → tree.Formula) (a : Option tree.Formula) (f : tree.Formula) (n m b : ℕ) → option_map make a ≡ Some f
      → ((g : tree.Formula) → a ≡ Some g → Good names scope n b g) → ((g : tree.Formula) → Good names scope n b g → Good names scope m b (make g)) → Good names scope m b f
  good_one names scope make a f n m b e below over =
      let h = one_from make a f e in subst (Good names scope m b) h.made (over h.x (below h.x h.from))

  good_two : (names : List (List ℕ)) (scope : List VarId) (make : tree.Formula → tree.Formula → tree.Formula) (s t : SyntaxTree) (f : tree.Formula)
      → with_both make (formula_in entries names scope s) (formula_in entries (names ++ bound_names s) scope t) ≡ Some f
      → AreKnown entries (points entries names scope s ++ points entries (names ++ bound_names s) scope t)
      → IsScope (length names) scope
      → ((g : tree.Formula) → formula_in entries names scope s ≡ Some g → AreKnown entries (points entries names scope s) → Good names scope (tree_size s) (length (bound_names s)) g)
      → ((g : tree.Formula) → formula_in entries (names ++ bound_names s) scope t ≡ Some g → IsScope (length (names ++ bound_names s)) scope
      → AreKnown entries (points entries (names ++ bound_names s) scope t) → Good (names ++ bound_names s) scope (tree_size t) (length (bound_names t)) g)
      → ((a b : tree.Formula) → IsPolicyFormula entries (length scope) a → IsPolicyFormula entries (length scope) b → IsPolicyFormula entries (length scope) (make a b))
      → ((a b : tree.Formula) → IsScopedFormula a scope → IsScopedFormula b scope → IsScopedFormula (make a b) scope)
      → ((a b : tree.Formula) → bound_variables (make a b) ≡ bound_variables a ++ bound_variables b)
      → ((a b : tree.Formula) → formula_size (make a b) ≡ formula_size a + formula_size b + 1)
      → Good names scope (tree_size s + (1 + tree_size t)) (length (bound_names s ++ bound_names t)) f
  good_two names scope make s t f e known in_scope left right fits scoped bound sized =
      let h = both_from make (formula_in entries names scope s) (formula_in entries (names ++ bound_names s) scope t) f e in
      let count : length (names ++ bound_names s) ≡ length names + length (bound_names s) = length-append names (bound_names s) in
      let a = left h.x h.left (known_front entries (points entries names scope s) (points entries (names ++ bound_names s) scope t) known) in
      let b = right h.y h.right (scope_later (length names) (length (names ++ bound_names s)) scope (omega arith) in_scope)
      (known_back entries (points entries names scope s) (points entries (names ++ bound_names s) scope t) known) in
      let whole : bound_variables (make h.x h.y) ≡ numbered_variables (length names) (length (bound_names s ++ bound_names t)) =
      bound h.x h.y ∙ ap (λ (xs : List VarId). xs ++ bound_variables h.y) a.numbered
      ∙ ap (λ (ys : List VarId). numbered_variables (length names) (length (bound_names s)) ++ ys) (b.numbered ∙ ap (λ n. numbered_variables n (length (bound_names t))) count)
      ∙ numbered_on (length names) (length (bound_names s)) (length (bound_names t)) ∙ ap (numbered_variables (length names)) (sym (length-append (bound_names s) (bound_names t))) in
      subst (Good names scope (tree_size s + (1 + tree_size t)) (length (bound_names s ++ bound_names t))) h.made
      (record { fits = fits h.x h.y a.fits b.fits; scoped = scoped h.x h.y a.scoped b.scoped; numbered = whole; size = omega (arith, a.size, b.size, sized h.x h.y) })

  -- a quantifier, above a formula that is good with its variables
  good_bound : (names : List (List ℕ)) (scope : List VarId) (make : List VarId → tree.Formula → tree.Formula) (xs : List Binding) (s : SyntaxTree) (f : tree.Formula)
      → option_map (make (bound_variables_from (length names) xs)) (formula_in entries (names ++ binding_names xs) (scope ++ bound_variables_from (length names) xs) s) ≡ Some f
      → AreKnown entries (binder_points names scope xs ++ points entries (names ++ binding_names xs) (scope ++ bound_variables_from (length names) xs) s)
      → IsScope (length names) scope → length scope + length xs ≤ MOST_VARIABLES
      → ((g : tree.Formula) → formula_in entries (names ++ binding_names xs) (scope ++ bound_variables_from (length names) xs) s ≡ Some g
      → length scope + length xs ≡ length (scope ++ bound_variables_from (length names) xs) → IsScope (length (names ++ binding_names xs)) (scope ++ bound_variables_from (length names) xs)
      → AreKnown entries (points entries (names ++ binding_names xs) (scope ++ bound_variables_from (length names) xs) s)
      → Good (names ++ binding_names xs) (scope ++ bound_variables_from (length names) xs) (tree_size s) (length (bound_names s)) g)
      → ((ys : List VarId) (g : tree.Formula) → length scope + length ys ≤ MOST_VARIABLES → IsPolicyFormula entries (length scope + length ys) g → IsPolicyFormula entries (length scope) (make ys g))
      → ((ys : List VarId) (g : tree.Formula) → AreNewVariables scope ys → IsScopedFormula g (scope ++ ys) → IsScopedFormula (make ys g) scope)
      → ((ys : List VarId) (g : tree.Formula) → bound_variables (make ys g) ≡ ys ++ bound_variables g)
      → ((ys : List VarId) (g : tree.Formula) → formula_size (make ys g) ≡ formula_size g + 1)
      → Good names scope (1 + tree_size s) (length (binding_names xs ++ bound_names s)) f
  good_bound names scope make xs s f e known in_scope few below fits scoped bound sized =
      let vs = bound_variables_from (length names) xs in
      let h = one_from (make vs) (formula_in entries (names ++ binding_names xs) (scope ++ vs) s) f e in
      let turn : vs ≡ numbered_variables (length names) (length xs) = bound_in_turn (length names) xs in
      let many : length vs ≡ length xs = ap length turn ∙ count_numbered (length names) (length xs) in
      let named : length (binding_names xs) ≡ length xs = length-map xs (λ (x : Binding). x.name) in
      let count : length (names ++ binding_names xs) ≡ length names + length xs = length-append names (binding_names xs) ∙ ap (λ n. length names + n) named in
      let wide : length (scope ++ vs) ≡ length scope + length vs = length-append scope vs in
      let grown = scope_on (length names) (length xs) scope in_scope in
      let grown_there : IsScope (length (names ++ binding_names xs)) (scope ++ vs) =
      subst (λ (ys : List VarId). IsScope (length (names ++ binding_names xs)) (scope ++ ys)) (sym turn)
      (subst (λ n. IsScope n (scope ++ numbered_variables (length names) (length xs))) (sym count) grown) in
      let g = below h.x h.from (omega arith) grown_there (known_back entries (binder_points names scope xs) (points entries (names ++ binding_names xs) (scope ++ vs) s) known) in
      let whole : bound_variables (make vs h.x) ≡ numbered_variables (length names) (length (binding_names xs ++ bound_names s)) =
      bound vs h.x ∙ ap (λ (ys : List VarId). ys ++ bound_variables h.x) turn
      ∙ ap (λ (ys : List VarId). numbered_variables (length names) (length xs) ++ ys) (g.numbered ∙ ap (λ n. numbered_variables n (length (bound_names s))) count)
      ∙ numbered_on (length names) (length xs) (length (bound_names s))
      ∙ ap (numbered_variables (length names)) (sym (length-append (binding_names xs) (bound_names s) ∙ ap (λ n. n + length (bound_names s)) named)) in
      subst (Good names scope (1 + tree_size s) (length (binding_names xs ++ bound_names s))) h.made
      (record {
        fits = fits vs h.x (omega (arith, many, few)) (subst (λ n. IsPolicyFormula entries n h.x) wide g.fits);
        scoped = scoped vs h.x grown_there.rising g.scoped;
        numbered = whole;
        size = omega (arith, g.size, sized vs h.x);
      })

  good_terms : (names : List (List ℕ)) (scope : List VarId) (make : Term → Term → tree.Formula) (s t : SyntaxTerm) (f : tree.Formula)
      → with_both make (term_in names scope s) (term_in names scope t) ≡ Some f
      → ((a b : Term) → IsTermInScope scope a → IsTermInScope scope b → Good names scope 1 0 (make a b)) → Good names scope 1 0 f
  good_terms names scope make s t f e over =
      let h = both_from make (term_in names scope s) (term_in names scope t) f e in
      subst (Good names scope 1 0) h.made (over h.x h.y (term_in_scope names scope s h.x h.left) (term_in_scope names scope t h.y h.right))

  good_atom : (names : List (List ℕ)) (scope : List VarId) (place : ℕ) (name : List ℕ) (terms : List SyntaxTerm) (f : tree.Formula)
      → with_both (tree.Atom place) (name_in entries name) (terms_in names scope terms) ≡ Some f
      → event_name_refusal place (length terms) (entry_named entries name) ≡ None → Good names scope 1 0 f
  good_atom names scope place name terms f e known =
      let h = both_from (tree.Atom place) (name_in entries name) (terms_in names scope terms) f e in
      let there = terms_in_scope names scope terms h.y h.right in
      subst (Good names scope 1 0) h.made
      (record { fits = arity_is place (length terms) name h.x h.left known ∙ ap Some (sym there.1); scoped = there.0; numbered = refl; size = refl })

  good : (names : List (List ℕ)) (scope : List VarId) (k : ℕ) (s : SyntaxTree) (f : tree.Formula) → formula_in entries names scope s ≡ Some f → KeepsLimits k s → k ≡ length scope
      → IsScope (length names) scope → AreKnown entries (points entries names scope s) → Good names scope (tree_size s) (length (bound_names s)) f
  good names scope k (TrueTree place) f e kept count h known =
      let is : tree.True place ≡ f = cc in subst (Good names scope 1 0) is (record { fits = tt; scoped = tt; numbered = refl; size = refl })
  good names scope k (FalseTree place) f e kept count h known =
      let is : tree.False place ≡ f = cc in subst (Good names scope 1 0) is (record { fits = tt; scoped = tt; numbered = refl; size = refl })
  good names scope k (AtomTree place name terms) f e kept count h known = good_atom names scope place name terms f e known.0
  good names scope k (EqualTree place s t) f e kept count h known =
      good_terms names scope (tree.Equal place) s t f e (λ a b x y. record { fits = tt; scoped = (x, y); numbered = refl; size = refl })
  good names scope k (LessTree place s t) f e kept count h known =
      good_terms names scope (tree.Less place) s t f e (λ a b x y. record { fits = tt; scoped = (x, y); numbered = refl; size = refl })
  good names scope k (AtMostTree place s t) f e kept count h known =
      good_terms names scope (tree.AtMost place) s t f e (λ a b x y. record { fits = tt; scoped = (x, y); numbered = refl; size = refl })
  good names scope k (NotTree place s) f e kept count h known =
      good_one names scope (tree.Not place) (formula_in entries names scope s) f (tree_size s) (1 + tree_size s) (length (bound_names s)) e
      (λ g is. good names scope k s g is kept count h known) (λ g x. record { fits = x.fits; scoped = x.scoped; numbered = x.numbered; size = omega (arith, x.size) })
  good names scope k (AndTree place s t) f e kept count h known =
      good_two names scope (tree.And place) s t f e known h (λ g is low. good names scope k s g is kept.0 count h low)
      (λ g is later high. good (names ++ bound_names s) scope k t g is kept.1 count later high) (λ a b x y. (x, y)) (λ a b x y. (x, y)) (λ a b. refl) (λ a b. refl)
  good names scope k (OrTree place s t) f e kept count h known =
      good_two names scope (tree.Or place) s t f e known h (λ g is low. good names scope k s g is kept.0 count h low)
      (λ g is later high. good (names ++ bound_names s) scope k t g is kept.1 count later high) (λ a b x y. (x, y)) (λ a b x y. (x, y)) (λ a b. refl) (λ a b. refl)
  good names scope k (ImpliesTree place s t) f e kept count h known =
      good_two names scope (tree.Implies place) s t f e known h (λ g is low. good names scope k s g is kept.0 count h low)
      (λ g is later high. good (names ++ bound_names s) scope k t g is kept.1 count later high) (λ a b x y. (x, y)) (λ a b x y. (x, y)) (λ a b. refl) (λ a b. refl)
  good names scope k (ExistsTree place xs s) f e kept count h known =
      good_bound names scope (tree.Exists place) xs s f e known h (omega (arith, kept.0, count))
      (λ g is wide later high. good (names ++ binding_names xs) (scope ++ bound_variables_from (length names) xs) (k + length xs) s g is kept.2 (omega (arith, count, wide)) later high)
      (λ ys g few x. (few, x)) (λ ys g new x. (new, x)) (λ ys g. refl) (λ ys g. refl)
  good names scope k (ForallTree place xs s) f e kept count h known =
      good_bound names scope (tree.Forall place) xs s f e known h (omega (arith, kept.0, count))
      (λ g is wide later high. good (names ++ binding_names xs) (scope ++ bound_variables_from (length names) xs) (k + length xs) s g is kept.2 (omega (arith, count, wide)) later high)
      (λ ys g few x. (few, x)) (λ ys g new x. (new, x)) (λ ys g. refl) (λ ys g. refl)
  good names scope k (PrevTree place interval s) f e kept count h known =
      good_one names scope (tree.Prev place interval) (formula_in entries names scope s) f (tree_size s) (1 + tree_size s) (length (bound_names s)) e
      (λ g is. good names scope k s g is kept.1 count h known) (λ g x. record { fits = (kept.0, x.fits); scoped = x.scoped; numbered = x.numbered; size = omega (arith, x.size) })
  good names scope k (NextTree place interval s) f e kept count h known =
      good_one names scope (tree.Next place interval) (formula_in entries names scope s) f (tree_size s) (1 + tree_size s) (length (bound_names s)) e
      (λ g is. good names scope k s g is kept.1 count h known) (λ g x. record { fits = (kept.0, x.fits); scoped = x.scoped; numbered = x.numbered; size = omega (arith, x.size) })
  good names scope k (OnceTree place interval s) f e kept count h known =
      good_one names scope (tree.Once place interval) (formula_in entries names scope s) f (tree_size s) (1 + tree_size s) (length (bound_names s)) e
      (λ g is. good names scope k s g is kept.1 count h known) (λ g x. record { fits = (kept.0, x.fits); scoped = x.scoped; numbered = x.numbered; size = omega (arith, x.size) })
  good names scope k (HistoricallyTree place interval s) f e kept count h known =
      good_one names scope (tree.Historically place interval) (formula_in entries names scope s) f (tree_size s) (1 + tree_size s) (length (bound_names s)) e
      (λ g is. good names scope k s g is kept.1 count h known) (λ g x. record { fits = (kept.0, x.fits); scoped = x.scoped; numbered = x.numbered; size = omega (arith, x.size) })
  good names scope k (SinceTree place interval s t) f e kept count h known =
      good_two names scope (tree.Since place interval) s t f e known h (λ g is low. good names scope k s g is kept.1 count h low)
      (λ g is later high. good (names ++ bound_names s) scope k t g is kept.2 count later high) (λ a b x y. (kept.0, x, y)) (λ a b x y. (x, y)) (λ a b. refl) (λ a b. refl)
  good names scope k (EventuallyTree place interval s) f e kept count h known =
      good_one names scope (tree.Eventually place interval) (formula_in entries names scope s) f (tree_size s) (1 + tree_size s) (length (bound_names s)) e
      (λ g is. good names scope k s g is kept.1 count h known) (λ g x. record { fits = (kept.0, x.fits); scoped = x.scoped; numbered = x.numbered; size = omega (arith, x.size) })
  good names scope k (AlwaysTree place interval s) f e kept count h known =
      good_one names scope (tree.Always place interval) (formula_in entries names scope s) f (tree_size s) (1 + tree_size s) (length (bound_names s)) e
      (λ g is. good names scope k s g is kept.1 count h known) (λ g x. record { fits = (kept.0, x.fits); scoped = x.scoped; numbered = x.numbered; size = omega (arith, x.size) })
  good names scope k (UntilTree place interval s t) f e kept count h known =
      good_two names scope (tree.Until place interval) s t f e known h (λ g is low. good names scope k s g is kept.1 count h low)
      (λ g is later high. good (names ++ bound_names s) scope k t g is kept.2 count later high) (λ a b x y. (kept.0, x, y)) (λ a b x y. (x, y)) (λ a b. refl) (λ a b. refl)

  -- ---- rules

  rule_good : (source : syntax.PolicyRule) (rule : Rule) → rule_in entries source ≡ Some rule → rule_refusal entries source ≡ None → IsRule source → IsWritableRule source
      → IsWellFormedRule entries rule
  rule_good source rule e clear is writable =
      let h = one_from (rule_with source) (formula_in entries [] [] source.formula) rule e in
      let g = good [] [] 0 source.formula h.x h.from is.kept refl (no_scope 0) (points_known entries [] (points entries [] [] source.formula) clear) in
      subst (IsWellFormedRule entries) h.made (record {
        name = writable_name source.name writable.name is.short;
        formula = g.fits;
        scoped = g.scoped;
        closed = scoped_closed h.x g.scoped;
        fresh = scoped_fresh h.x [] (λ x. ⊥) (λ x none. absurd none) g.scoped;
        numbered = g.numbered;
        vars = names_are 0 source.formula is.kept writable.formula;
        small = omega (arith, is.small, g.size);
      })

  rules_good : (sources : List syntax.PolicyRule) (rules : List Rule) → rules_in entries sources ≡ Some rules → policy_refusal entries sources ≡ None → AllByRecursion IsRule sources
      → AllByRecursion IsWritableRule sources
      → AllByRecursion (IsWellFormedRule entries) rules × (map (λ (rule : Rule). rule.name) rules ≡ map (λ (rule : syntax.PolicyRule). rule.name) sources) × (length rules ≡ length sources)
  rules_good [] rules e clear is writable =
      let none : [] ≡ rules = cc in
      subst (λ (rs : List Rule). AllByRecursion (IsWellFormedRule entries) rs × (map (λ (rule : Rule). rule.name) rs ≡ []) × (length rs ≡ 0)) none (tt, refl, refl)
  rules_good (source ∷ sources) rules e clear is writable =
      let h = both_from ◌∷◌ (rule_in entries source) (rules_in entries sources) rules e in
      let none = or_none (rule_refusal entries source) (policy_refusal entries sources) clear in
      let more = rules_good sources h.y h.right none.1 is.1 writable.1 in
      let made = one_from (rule_with source) (formula_in entries [] [] source.formula) h.x h.left in
      let called : h.x.name ≡ source.name = ap (λ (r : Rule). r.name) (sym made.made) in
      subst (λ (rs : List Rule). AllByRecursion (IsWellFormedRule entries) rs × (map (λ (rule : Rule). rule.name) rs ≡ source.name ∷ map (λ (rule : syntax.PolicyRule). rule.name) sources)
      × (length rs ≡ suc (length sources))) h.made (
        (rule_good source h.x h.left none.0 is.0 writable.0, more.0),
        ap (λ (n : List ℕ). n ∷ map (λ (rule : Rule). rule.name) h.y) called ∙ ap (λ (ns : List (List ℕ)). source.name ∷ ns) more.1,
        ap suc more.2,
      )

-- the rules of a text
pub text_good : TextsAreWritable → (entries : List NameEntry) (bytes : List ℕ) (rules : List Rule) → IsPolicyAnswer entries bytes (Ok rules) → IsWellFormedPolicy entries rules
text_good texts entries bytes rules answer =
    let policy = policy_of entries rules answer.passed answer.follows in
    let text : IsPolicyText bytes policy.0 = text_of bytes answer.passed policy.0 policy.1 answer.read in
    let all = rules_good entries policy.0 rules policy.3 policy.2 text.within.each (texts bytes policy.0 text) in
    record { few = omega (arith, text.within.few, all.2); each = all.0; distinct = subst HasNoRepeats (sym all.1) text.within.distinct }
