-- What the second pass gives, written back, is the syntax tree that it came from, but for the places of variables and terms.
use Rattle.formula_reader.proofs.Vocabulary.{◌≡◌, ℕ, zero, suc, ◌+◌, Bool, true, false, cond, List, [], ◌∷◌, ◌++◌, length, map, Option, None, Some, refl, sym, ap, subst, ◌∙◌, append_assoc, slice_get}
use Rattle.formula_reader.proofs.Vocabulary.{append-nil, length-append, bytes_eq-Decides, option_map, unwrap_or, bytes_eq, NameId, Term, Var, Const, VarId, Binding, SyntaxTerm, Variable, Constant}
use Rattle.formula_reader.proofs.Vocabulary.{SyntaxTree, TrueTree, FalseTree, AtomTree, EqualTree, LessTree, AtMostTree, NotTree, AndTree, OrTree, ImpliesTree, ExistsTree, ForallTree, PrevTree}
use Rattle.formula_reader.proofs.Vocabulary.{NextTree, OnceTree, HistoricallyTree, SinceTree, EventuallyTree, AlwaysTree, UntilTree, NameEntry, name_number, name_at, position-cons, name_text}
use Rattle.formula_reader.proofs.Vocabulary.{is_named, variable_named, term_in, bound_names, binding_names, bound_variables_from, Rule, with_both, name_in, terms_in, formula_in, rule_in, rule_with}
use Rattle.formula_reader.proofs.Vocabulary.{term_back, binding_back, formula_back, plain_tree, rule_back, plain_rule, bare_binding, bare_term}
use Rattle.formula_reader.proofs.OptionLaws.{both_from, one_from}
use Rattle.enf_formula.specs.meaning.Satisfaction as tree
use Rattle.policy_syntax.specs.meaning.Trees as syntax

front_get : (names rest : List (List ℕ)) (i : ℕ) (name : List ℕ) → slice_get names i ≡ Some name → slice_get (names ++ rest) i ≡ Some name
front_get [] rest i name e = absurd (cc)
front_get (n ∷ names) rest zero name e = e
front_get (n ∷ names) rest (suc i) name e = front_get names rest i name e

seam_get : (names rest : List (List ℕ)) (name : List ℕ) → slice_get (names ++ name ∷ rest) (length names) ≡ Some name
seam_get [] rest name = refl
seam_get (n ∷ names) rest name = seam_get names rest name

-- the variable that a name finds has that name
named_is : (name : List ℕ) (entry : Option (List ℕ)) → is_named name entry ≡ true → entry ≡ Some name
named_is name None e = absurd (cc)
named_is name (Some other) e = ap Some ((bytes_eq-Decides other name).0 e)

named_found : (names : List (List ℕ)) (scope : List VarId) (name : List ℕ) (x : VarId) → variable_named names scope name ≡ Some x → slice_get names x.0 ≡ Some name
named_found names [] name x e = absurd (cc)
named_found names (y ∷ scope) name x e =
    by (is_named name (slice_get names y.0)) refl e (named_found names scope name x)
  where
    by : (b : Bool) → is_named name (slice_get names y.0) ≡ b → cond b (Some y) (variable_named names scope name) ≡ Some x
        → (variable_named names scope name ≡ Some x → slice_get names x.0 ≡ Some name) → slice_get names x.0 ≡ Some name
    by true is f later =
        let same : y ≡ x = cc in
        subst (λ (z : VarId). slice_get names z.0 ≡ Some name) same (named_is name (slice_get names y.0) is)
    by false is f later = later f

term_written : (vars names rest : List (List ℕ)) (scope : List VarId) (term : SyntaxTerm) (found : Term)
    → vars ≡ names ++ rest → term_in names scope term ≡ Some found → term_back vars found ≡ bare_term term
term_written vars names rest scope (Variable place name) found v e =
    let h = one_from Var (variable_named names scope name) found e in
    let there : slice_get vars h.x.0 ≡ Some name =
    ap (λ (ns : List (List ℕ)). slice_get ns h.x.0) v ∙ front_get names rest h.x.0 name (named_found names scope name h.x h.from) in
    ap (term_back vars) (sym h.made) ∙ ap (λ (o : Option (List ℕ)). Variable 0 (unwrap_or o [])) there
term_written vars names rest scope (Constant place value) found v e =
    let h : Const value ≡ found = cc in ap (term_back vars) (sym h)

terms_written : (vars names rest : List (List ℕ)) (scope : List VarId) (terms : List SyntaxTerm) (found : List Term)
    → vars ≡ names ++ rest → terms_in names scope terms ≡ Some found → map (term_back vars) found ≡ map bare_term terms
terms_written vars names rest scope [] found v e = let h : [] ≡ found = cc in ap (map (term_back vars)) (sym h)
terms_written vars names rest scope (term ∷ terms) found v e =
    let h = both_from ◌∷◌ (term_in names scope term) (terms_in names scope terms) found e in
    ap (map (term_back vars)) (sym h.made)
    ∙ ap (λ (t : SyntaxTerm). t ∷ map (term_back vars) h.y) (term_written vars names rest scope term h.x v h.left)
    ∙ ap (λ (ts : List SyntaxTerm). bare_term term ∷ ts) (terms_written vars names rest scope terms h.y v h.right)

-- the name with a name's number is that name
pub number_names : (entries : List NameEntry) (name : List ℕ) (number : ℕ) → name_number entries name ≡ Some number → name_at entries number ≡ Some name
number_names [] name number e = absurd (cc)
number_names (entry ∷ entries) name number e =
    by (bytes_eq name entry.text) refl (sym (position-cons (λ y. bytes_eq name y.text) entry entries) ∙ e) (number_names entries name)
  where
    by : (b : Bool) → bytes_eq name entry.text ≡ b → cond (bytes_eq name entry.text) (Some 0) (option_map suc (name_number entries name)) ≡ Some number
        → ((m : ℕ) → name_number entries name ≡ Some m → name_at entries m ≡ Some name) → name_at (entry ∷ entries) number ≡ Some name
    by true is f later =
        let g : Some 0 ≡ Some number = sym (ap (λ (b : Bool). cond b (Some 0) (option_map suc (name_number entries name))) is) ∙ f in
        let n : 0 ≡ number = cc in
        subst (λ (k : ℕ). name_at (entry ∷ entries) k ≡ Some name) n (ap Some (sym ((bytes_eq-Decides name entry.text).0 is)))
    by false is f later =
        let g : option_map suc (name_number entries name) ≡ Some number = sym (ap (λ (b : Bool). cond b (Some 0) (option_map suc (name_number entries name))) is) ∙ f in
        let h = one_from suc (name_number entries name) number g in
        subst (λ (k : ℕ). name_at (entry ∷ entries) k ≡ Some name) h.made (later h.x h.from)

name_written : (entries : List NameEntry) (name : List ℕ) (found : NameId) → name_in entries name ≡ Some found → name_text entries found ≡ name
name_written entries name found e =
    let h = one_from (λ (number : ℕ). let id : NameId = record { 0 = number } in id) (name_number entries name) found e in
    ap (name_text entries) (sym h.made) ∙ ap (λ (o : Option (List ℕ)). unwrap_or o []) (number_names entries name h.x h.from)

-- the variables of a quantifier
binders_written : (vars names rest : List (List ℕ)) (xs : List Binding) → vars ≡ names ++ (binding_names xs ++ rest)
    → map (binding_back vars) (bound_variables_from (length names) xs) ≡ map bare_binding xs
binders_written vars names rest [] v = refl
binders_written vars names rest (x ∷ xs) v =
    let first : slice_get vars (length names) ≡ Some x.name =
    ap (λ (ns : List (List ℕ)). slice_get ns (length names)) v ∙ seam_get names (binding_names xs ++ rest) x.name in
    let more : vars ≡ (names ++ x.name ∷ []) ++ (binding_names xs ++ rest) = v ∙ sym (append_assoc names (x.name ∷ []) (binding_names xs ++ rest)) in
    let count : length (names ++ x.name ∷ []) ≡ length names + 1 = length-append names (x.name ∷ []) in
    ap (λ (o : Option (List ℕ)). let b : Binding = record { place = 0; name = unwrap_or o [] } in b ∷ map (binding_back vars) (bound_variables_from (length names + 1) xs)) first
    ∙ ap (λ (bs : List Binding). bare_binding x ∷ bs)
    (ap (λ (n : ℕ). map (binding_back vars) (bound_variables_from n xs)) (sym count) ∙ binders_written vars (names ++ x.name ∷ []) rest xs more)

one_written : (entries : List NameEntry) (vars : List (List ℕ)) (make : SyntaxTree → SyntaxTree) (node : tree.Formula → tree.Formula) (f : SyntaxTree) (a : Option tree.Formula) (c : tree.Formula)
    → ((x : tree.Formula) → formula_back entries vars (node x) ≡ make (formula_back entries vars x))
    → option_map node a ≡ Some c → ((x : tree.Formula) → a ≡ Some x → formula_back entries vars x ≡ plain_tree f)
    → formula_back entries vars c ≡ make (plain_tree f)
one_written entries vars make node f a c back e each =
    let h = one_from node a c e in ap (formula_back entries vars) (sym h.made) ∙ back h.x ∙ ap make (each h.x h.from)

both_written : (entries : List NameEntry) (vars : List (List ℕ)) (make : SyntaxTree → SyntaxTree → SyntaxTree) (node : tree.Formula → tree.Formula → tree.Formula) (f g : SyntaxTree)
    (a b : Option tree.Formula) (c : tree.Formula)
    → ((x y : tree.Formula) → formula_back entries vars (node x y) ≡ make (formula_back entries vars x) (formula_back entries vars y))
    → with_both node a b ≡ Some c → ((x : tree.Formula) → a ≡ Some x → formula_back entries vars x ≡ plain_tree f)
    → ((y : tree.Formula) → b ≡ Some y → formula_back entries vars y ≡ plain_tree g)
    → formula_back entries vars c ≡ make (plain_tree f) (plain_tree g)
both_written entries vars make node f g a b c back e left right =
    let h = both_from node a b c e in
    ap (formula_back entries vars) (sym h.made) ∙ back h.x h.y
    ∙ ap (λ (p : SyntaxTree). make p (formula_back entries vars h.y)) (left h.x h.left) ∙ ap (λ (q : SyntaxTree). make (plain_tree f) q) (right h.y h.right)

terms_of_both : (entries : List NameEntry) (vars names rest : List (List ℕ)) (scope : List VarId) (make : SyntaxTerm → SyntaxTerm → SyntaxTree) (node : Term → Term → tree.Formula)
    (s t : SyntaxTerm) (c : tree.Formula) → ((x y : Term) → formula_back entries vars (node x y) ≡ make (term_back vars x) (term_back vars y))
    → vars ≡ names ++ rest → with_both node (term_in names scope s) (term_in names scope t) ≡ Some c → formula_back entries vars c ≡ make (bare_term s) (bare_term t)
terms_of_both entries vars names rest scope make node s t c back v e =
    let h = both_from node (term_in names scope s) (term_in names scope t) c e in
    ap (formula_back entries vars) (sym h.made) ∙ back h.x h.y
    ∙ ap (λ (p : SyntaxTerm). make p (term_back vars h.y)) (term_written vars names rest scope s h.x v h.left)
    ∙ ap (λ (q : SyntaxTerm). make (bare_term s) q) (term_written vars names rest scope t h.y v h.right)

-- the names after the left operand, and before the right one
left_front : (vars names a b rest : List (List ℕ)) → vars ≡ names ++ ((a ++ b) ++ rest) → vars ≡ names ++ (a ++ (b ++ rest))
left_front vars names a b rest v = v ∙ ap (λ (ns : List (List ℕ)). names ++ ns) (append_assoc a b rest)

right_front : (vars names a b rest : List (List ℕ)) → vars ≡ names ++ ((a ++ b) ++ rest) → vars ≡ (names ++ a) ++ (b ++ rest)
right_front vars names a b rest v = left_front vars names a b rest v ∙ sym (append_assoc names a (b ++ rest))

-- a formula written back
pub formula_written : (entries : List NameEntry) (vars names rest : List (List ℕ)) (scope : List VarId) (f : SyntaxTree) (c : tree.Formula)
    → vars ≡ names ++ (bound_names f ++ rest) → formula_in entries names scope f ≡ Some c → formula_back entries vars c ≡ plain_tree f
formula_written entries vars names rest scope (TrueTree place) c v e = let h : tree.True place ≡ c = cc in ap (formula_back entries vars) (sym h)
formula_written entries vars names rest scope (FalseTree place) c v e = let h : tree.False place ≡ c = cc in ap (formula_back entries vars) (sym h)
formula_written entries vars names rest scope (AtomTree place name terms) c v e =
    let h = both_from (tree.Atom place) (name_in entries name) (terms_in names scope terms) c e in
    ap (formula_back entries vars) (sym h.made)
    ∙ ap (λ (n : List ℕ). AtomTree place n (map (term_back vars) h.y)) (name_written entries name h.x h.left)
    ∙ ap (λ (ts : List SyntaxTerm). AtomTree place name ts) (terms_written vars names rest scope terms h.y v h.right)
formula_written entries vars names rest scope (EqualTree place s t) c v e = terms_of_both entries vars names rest scope (EqualTree place) (tree.Equal place) s t c (λ x y. refl) v e
formula_written entries vars names rest scope (LessTree place s t) c v e = terms_of_both entries vars names rest scope (LessTree place) (tree.Less place) s t c (λ x y. refl) v e
formula_written entries vars names rest scope (AtMostTree place s t) c v e = terms_of_both entries vars names rest scope (AtMostTree place) (tree.AtMost place) s t c (λ x y. refl) v e
formula_written entries vars names rest scope (NotTree place f) c v e =
    one_written entries vars (NotTree place) (tree.Not place) f (formula_in entries names scope f) c (λ x. refl) e (λ x h. formula_written entries vars names rest scope f x v h)
formula_written entries vars names rest scope (AndTree place f g) c v e =
    both_written entries vars (AndTree place) (tree.And place) f g (formula_in entries names scope f) (formula_in entries (names ++ bound_names f) scope g) c (λ x y. refl) e
    (λ x h. formula_written entries vars names (bound_names g ++ rest) scope f x (left_front vars names (bound_names f) (bound_names g) rest v) h)
    (λ y h. formula_written entries vars (names ++ bound_names f) rest scope g y (right_front vars names (bound_names f) (bound_names g) rest v) h)
formula_written entries vars names rest scope (OrTree place f g) c v e =
    both_written entries vars (OrTree place) (tree.Or place) f g (formula_in entries names scope f) (formula_in entries (names ++ bound_names f) scope g) c (λ x y. refl) e
    (λ x h. formula_written entries vars names (bound_names g ++ rest) scope f x (left_front vars names (bound_names f) (bound_names g) rest v) h)
    (λ y h. formula_written entries vars (names ++ bound_names f) rest scope g y (right_front vars names (bound_names f) (bound_names g) rest v) h)
formula_written entries vars names rest scope (ImpliesTree place f g) c v e =
    both_written entries vars (ImpliesTree place) (tree.Implies place) f g (formula_in entries names scope f) (formula_in entries (names ++ bound_names f) scope g) c (λ x y. refl) e
    (λ x h. formula_written entries vars names (bound_names g ++ rest) scope f x (left_front vars names (bound_names f) (bound_names g) rest v) h)
    (λ y h. formula_written entries vars (names ++ bound_names f) rest scope g y (right_front vars names (bound_names f) (bound_names g) rest v) h)
formula_written entries vars names rest scope (ExistsTree place xs f) c v e =
    one_written entries vars (ExistsTree place (map (binding_back vars) (bound_variables_from (length names) xs))) (tree.Exists place (bound_variables_from (length names) xs)) f
    (formula_in entries (names ++ binding_names xs) (scope ++ bound_variables_from (length names) xs) f) c (λ x. refl) e
    (λ x h. formula_written entries vars (names ++ binding_names xs) rest (scope ++ bound_variables_from (length names) xs) f x (right_front vars names (binding_names xs) (bound_names f) rest v) h)
    ∙ ap (λ (bs : List Binding). ExistsTree place bs (plain_tree f)) (binders_written vars names (bound_names f ++ rest) xs (left_front vars names (binding_names xs) (bound_names f) rest v))
formula_written entries vars names rest scope (ForallTree place xs f) c v e =
    one_written entries vars (ForallTree place (map (binding_back vars) (bound_variables_from (length names) xs))) (tree.Forall place (bound_variables_from (length names) xs)) f
    (formula_in entries (names ++ binding_names xs) (scope ++ bound_variables_from (length names) xs) f) c (λ x. refl) e
    (λ x h. formula_written entries vars (names ++ binding_names xs) rest (scope ++ bound_variables_from (length names) xs) f x (right_front vars names (binding_names xs) (bound_names f) rest v) h)
    ∙ ap (λ (bs : List Binding). ForallTree place bs (plain_tree f)) (binders_written vars names (bound_names f ++ rest) xs (left_front vars names (binding_names xs) (bound_names f) rest v))
formula_written entries vars names rest scope (PrevTree place interval f) c v e =
    one_written entries vars (PrevTree place interval) (tree.Prev place interval) f (formula_in entries names scope f) c (λ x. refl) e (λ x h. formula_written entries vars names rest scope f x v h)
formula_written entries vars names rest scope (NextTree place interval f) c v e =
    one_written entries vars (NextTree place interval) (tree.Next place interval) f (formula_in entries names scope f) c (λ x. refl) e (λ x h. formula_written entries vars names rest scope f x v h)
formula_written entries vars names rest scope (OnceTree place interval f) c v e =
    one_written entries vars (OnceTree place interval) (tree.Once place interval) f (formula_in entries names scope f) c (λ x. refl) e (λ x h. formula_written entries vars names rest scope f x v h)
formula_written entries vars names rest scope (HistoricallyTree place interval f) c v e =
    one_written entries vars (HistoricallyTree place interval) (tree.Historically place interval) f (formula_in entries names scope f) c (λ x. refl) e
    (λ x h. formula_written entries vars names rest scope f x v h)
formula_written entries vars names rest scope (SinceTree place interval f g) c v e =
    both_written entries vars (SinceTree place interval) (tree.Since place interval) f g (formula_in entries names scope f) (formula_in entries (names ++ bound_names f) scope g) c (λ x y. refl) e
    (λ x h. formula_written entries vars names (bound_names g ++ rest) scope f x (left_front vars names (bound_names f) (bound_names g) rest v) h)
    (λ y h. formula_written entries vars (names ++ bound_names f) rest scope g y (right_front vars names (bound_names f) (bound_names g) rest v) h)
formula_written entries vars names rest scope (EventuallyTree place interval f) c v e =
    one_written entries vars (EventuallyTree place interval) (tree.Eventually place interval) f (formula_in entries names scope f) c (λ x. refl) e
    (λ x h. formula_written entries vars names rest scope f x v h)
formula_written entries vars names rest scope (AlwaysTree place interval f) c v e =
    one_written entries vars (AlwaysTree place interval) (tree.Always place interval) f (formula_in entries names scope f) c (λ x. refl) e
    (λ x h. formula_written entries vars names rest scope f x v h)
formula_written entries vars names rest scope (UntilTree place interval f g) c v e =
    both_written entries vars (UntilTree place interval) (tree.Until place interval) f g (formula_in entries names scope f) (formula_in entries (names ++ bound_names f) scope g) c (λ x y. refl) e
    (λ x h. formula_written entries vars names (bound_names g ++ rest) scope f x (left_front vars names (bound_names f) (bound_names g) rest v) h)
    (λ y h. formula_written entries vars (names ++ bound_names f) rest scope g y (right_front vars names (bound_names f) (bound_names g) rest v) h)

-- a rule written back
pub rule_written : (entries : List NameEntry) (rule : syntax.PolicyRule) (found : Rule) → rule_in entries rule ≡ Some found → rule_back entries found ≡ plain_rule rule
rule_written entries rule found e =
    let h = one_from (rule_with rule) (formula_in entries [] [] rule.formula) found e in
    ap (rule_back entries) (sym h.made)
    ∙ ap (λ (f : SyntaxTree). let r : syntax.PolicyRule = record { place = rule.place; name = rule.name; formula = f } in r)
    (formula_written entries (bound_names rule.formula) [] [] [] rule.formula h.x (sym (append-nil (bound_names rule.formula))) h.from)
