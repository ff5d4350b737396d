-- What is asked of trees does not depend on their places.
use Rattle.policy_syntax.proofs.Vocabulary.{◌≡◌, ℕ, ◌+◌, ◌≤◌, List, [], ◌∷◌, length, map, refl, sym, ap, subst, ◌∙◌, AllByRecursion, length-map, KeepsLimits, IsRule, IsShortName, IsShortTerm}
use Rattle.policy_syntax.proofs.Vocabulary.{tree_size, SyntaxTree, PolicyRule, TrueTree, FalseTree, AtomTree, EqualTree, LessTree, AtMostTree, NotTree, AndTree, OrTree, ImpliesTree, ExistsTree}
use Rattle.policy_syntax.proofs.Vocabulary.{ForallTree, PrevTree, NextTree, OnceTree, HistoricallyTree, SinceTree, EventuallyTree, AlwaysTree, UntilTree, bare_syntax_tree, bare_rule, bare_term}
use Rattle.policy_syntax.proofs.Vocabulary.{bare_binding, MOST_NODES, MOST_VARIABLES, Binding, SyntaxTerm}
use Rattle.policy_syntax.specs.declared.trees.SyntaxTerm.TheVariants.{Variable, Constant}

bare_size : (f : SyntaxTree) → tree_size (bare_syntax_tree f) ≡ tree_size f
bare_size (TrueTree place) = refl
bare_size (FalseTree place) = refl
bare_size (AtomTree place name ts) = refl
bare_size (EqualTree place s t) = refl
bare_size (LessTree place s t) = refl
bare_size (AtMostTree place s t) = refl
bare_size (NotTree place f) = ap (λ (n : ℕ). 1 + n) (bare_size f)
bare_size (AndTree place f g) = (λ j. bare_size f j + (1 + bare_size g j))
bare_size (OrTree place f g) = (λ j. bare_size f j + (1 + bare_size g j))
bare_size (ImpliesTree place f g) = (λ j. bare_size f j + (1 + bare_size g j))
bare_size (ExistsTree place xs f) = ap (λ (n : ℕ). 1 + n) (bare_size f)
bare_size (ForallTree place xs f) = ap (λ (n : ℕ). 1 + n) (bare_size f)
bare_size (PrevTree place interval f) = ap (λ (n : ℕ). 1 + n) (bare_size f)
bare_size (NextTree place interval f) = ap (λ (n : ℕ). 1 + n) (bare_size f)
bare_size (OnceTree place interval f) = ap (λ (n : ℕ). 1 + n) (bare_size f)
bare_size (HistoricallyTree place interval f) = ap (λ (n : ℕ). 1 + n) (bare_size f)
bare_size (SinceTree place interval f g) = (λ j. bare_size f j + (1 + bare_size g j))
bare_size (EventuallyTree place interval f) = ap (λ (n : ℕ). 1 + n) (bare_size f)
bare_size (AlwaysTree place interval f) = ap (λ (n : ℕ). 1 + n) (bare_size f)
bare_size (UntilTree place interval f g) = (λ j. bare_size f j + (1 + bare_size g j))

short_term : (t : SyntaxTerm) → IsShortTerm t → IsShortTerm (bare_term t)
short_term (Variable place name) h = h
short_term (Constant place value) h = h

term_short : (t : SyntaxTerm) → IsShortTerm (bare_term t) → IsShortTerm t
term_short (Variable place name) h = h
term_short (Constant place value) h = h

short_terms : (ts : List SyntaxTerm) → AllByRecursion IsShortTerm ts → AllByRecursion IsShortTerm (map bare_term ts)
short_terms [] h = tt
short_terms (t ∷ ts) h = (short_term t h.0, short_terms ts h.1)

terms_short : (ts : List SyntaxTerm) → AllByRecursion IsShortTerm (map bare_term ts) → AllByRecursion IsShortTerm ts
terms_short [] h = tt
terms_short (t ∷ ts) h = (term_short t h.0, terms_short ts h.1)

short_names : (xs : List Binding) → AllByRecursion (λ (x : Binding). IsShortName x.name) xs → AllByRecursion (λ (x : Binding). IsShortName x.name) (map bare_binding xs)
short_names [] h = tt
short_names (x ∷ xs) h = (h.0, short_names xs h.1)

names_short : (xs : List Binding) → AllByRecursion (λ (x : Binding). IsShortName x.name) (map bare_binding xs) → AllByRecursion (λ (x : Binding). IsShortName x.name) xs
names_short [] h = tt
names_short (x ∷ xs) h = (h.0, names_short xs h.1)

-- the scope after as many variables
behind_bare : (scope : ℕ) (xs : List Binding) → scope + length (map bare_binding xs) ≡ scope + length xs
behind_bare scope xs = ap (λ (n : ℕ). scope + n) (length-map xs bare_binding)

kept_bare : (f : SyntaxTree) (scope : ℕ) → KeepsLimits scope f → KeepsLimits scope (bare_syntax_tree f)
kept_bare (TrueTree place) scope k = k
kept_bare (FalseTree place) scope k = k
kept_bare (AtomTree place name ts) scope k = (k.0, short_terms ts k.1)
kept_bare (EqualTree place s t) scope k = (short_term s k.0, short_term t k.1)
kept_bare (LessTree place s t) scope k = (short_term s k.0, short_term t k.1)
kept_bare (AtMostTree place s t) scope k = (short_term s k.0, short_term t k.1)
kept_bare (NotTree place f) scope k = kept_bare f scope k
kept_bare (AndTree place f g) scope k = (kept_bare f scope k.0, kept_bare g scope k.1)
kept_bare (OrTree place f g) scope k = (kept_bare f scope k.0, kept_bare g scope k.1)
kept_bare (ImpliesTree place f g) scope k = (kept_bare f scope k.0, kept_bare g scope k.1)
kept_bare (ExistsTree place xs f) scope k = (
  subst (λ (n : ℕ). n ≤ MOST_VARIABLES) (sym (behind_bare scope xs)) k.0,
  short_names xs k.1,
  subst
      (λ (n : ℕ). KeepsLimits n (bare_syntax_tree f)) (sym (behind_bare scope xs)) (kept_bare f (scope + length xs) k.2),
)
kept_bare (ForallTree place xs f) scope k = (
  subst (λ (n : ℕ). n ≤ MOST_VARIABLES) (sym (behind_bare scope xs)) k.0,
  short_names xs k.1,
  subst
      (λ (n : ℕ). KeepsLimits n (bare_syntax_tree f)) (sym (behind_bare scope xs)) (kept_bare f (scope + length xs) k.2),
)
kept_bare (PrevTree place interval f) scope k = (k.0, kept_bare f scope k.1)
kept_bare (NextTree place interval f) scope k = (k.0, kept_bare f scope k.1)
kept_bare (OnceTree place interval f) scope k = (k.0, kept_bare f scope k.1)
kept_bare (HistoricallyTree place interval f) scope k = (k.0, kept_bare f scope k.1)
kept_bare (SinceTree place interval f g) scope k = (k.0, kept_bare f scope k.1, kept_bare g scope k.2)
kept_bare (EventuallyTree place interval f) scope k = (k.0, kept_bare f scope k.1)
kept_bare (AlwaysTree place interval f) scope k = (k.0, kept_bare f scope k.1)
kept_bare (UntilTree place interval f g) scope k = (k.0, kept_bare f scope k.1, kept_bare g scope k.2)

bare_kept : (f : SyntaxTree) (scope : ℕ) → KeepsLimits scope (bare_syntax_tree f) → KeepsLimits scope f
bare_kept (TrueTree place) scope k = k
bare_kept (FalseTree place) scope k = k
bare_kept (AtomTree place name ts) scope k = (k.0, terms_short ts k.1)
bare_kept (EqualTree place s t) scope k = (term_short s k.0, term_short t k.1)
bare_kept (LessTree place s t) scope k = (term_short s k.0, term_short t k.1)
bare_kept (AtMostTree place s t) scope k = (term_short s k.0, term_short t k.1)
bare_kept (NotTree place f) scope k = bare_kept f scope k
bare_kept (AndTree place f g) scope k = (bare_kept f scope k.0, bare_kept g scope k.1)
bare_kept (OrTree place f g) scope k = (bare_kept f scope k.0, bare_kept g scope k.1)
bare_kept (ImpliesTree place f g) scope k = (bare_kept f scope k.0, bare_kept g scope k.1)
bare_kept (ExistsTree place xs f) scope k = (
  subst (λ (n : ℕ). n ≤ MOST_VARIABLES) (behind_bare scope xs) k.0,
  names_short xs k.1,
  bare_kept f (scope + length xs)
      (subst (λ (n : ℕ). KeepsLimits n (bare_syntax_tree f)) (behind_bare scope xs) k.2),
)
bare_kept (ForallTree place xs f) scope k = (
  subst (λ (n : ℕ). n ≤ MOST_VARIABLES) (behind_bare scope xs) k.0,
  names_short xs k.1,
  bare_kept f (scope + length xs)
      (subst (λ (n : ℕ). KeepsLimits n (bare_syntax_tree f)) (behind_bare scope xs) k.2),
)
bare_kept (PrevTree place interval f) scope k = (k.0, bare_kept f scope k.1)
bare_kept (NextTree place interval f) scope k = (k.0, bare_kept f scope k.1)
bare_kept (OnceTree place interval f) scope k = (k.0, bare_kept f scope k.1)
bare_kept (HistoricallyTree place interval f) scope k = (k.0, bare_kept f scope k.1)
bare_kept (SinceTree place interval f g) scope k = (k.0, bare_kept f scope k.1, bare_kept g scope k.2)
bare_kept (EventuallyTree place interval f) scope k = (k.0, bare_kept f scope k.1)
bare_kept (AlwaysTree place interval f) scope k = (k.0, bare_kept f scope k.1)
bare_kept (UntilTree place interval f g) scope k = (k.0, bare_kept f scope k.1, bare_kept g scope k.2)

-- a rule at other places is within the limits too
pub rule_anywhere : (rule other : PolicyRule) → bare_rule other ≡ bare_rule rule → IsRule rule → IsRule other
rule_anywhere rule other e h =
    let name : other.name ≡ rule.name = ap (λ (r : PolicyRule). r.name) e in
    let same : bare_syntax_tree other.formula ≡ bare_syntax_tree rule.formula = ap (λ (r : PolicyRule). r.formula) e in
    record {
      short = subst IsShortName (sym name) h.short;
      small = subst (λ (n : ℕ). n ≤ MOST_NODES) (sym (sym (bare_size other.formula) ∙ ap tree_size same ∙ bare_size rule.formula)) h.small;
      kept = bare_kept other.formula 0 (subst (KeepsLimits 0) (sym same) (kept_bare rule.formula 0 h.kept));
    }
