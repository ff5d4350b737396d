-- Worked cases of the grammar and of its refusals: texts with their trees, and texts that are none.
use Rattle.enf_data.specs.declared.intervals.Interval.{Interval}
use Rattle.std.specs.Prelude.{ℕ, List, [], Option, ◌∷◌, codes, Some, None, pos, Err, ◌++◌, flat_map}
use Rattle.std.specs.Prelude.{replicate}
use Rattle.policy_syntax.specs.declared.refusals.SyntaxRefusal.TheVariants.{Syntax, Limit}
use Rattle.policy_syntax.specs.declared.trees.Binding.{Binding}
use Rattle.policy_syntax.specs.meaning.Grammar.{PolicyRead}
use Rattle.policy_syntax.specs.meaning.Lexemes.{lexemes}
use Rattle.policy_syntax.specs.meaning.Refusals.{IsSyntaxAnswer}
use Rattle.policy_syntax.specs.meaning.Trees.{PolicyRule, SyntaxTree}
use Rattle.policy_syntax.specs.meaning.Trees as tree
use Rattle.policy_syntax.specs.declared.trees.SyntaxTerm.TheVariants as terms
use Rattle.enf_data.specs.declared.values.Value.TheVariants as values

-- the text is a policy of these rules
abbrev pub HasTree : List ℕ → List PolicyRule → Type 0
HasTree bytes rules = PolicyRead (lexemes bytes) [] rules

abbrev pub bounds : ℕ → Option ℕ → Interval
bounds low high = record { low = low; high = high }

abbrev pub case_binding : (place : ℕ) → List ℕ → Binding
case_binding place name = record { place = place; name = name }

abbrev pub rule_of_case : (place : ℕ) → List ℕ → SyntaxTree → PolicyRule
rule_of_case place name formula = record { place = place; name = name; formula = formula }

-- rule r: a() -> b() -> c();
abbrev pub implication_to_the_right : List PolicyRule
implication_to_the_right =
    rule_of_case 0 (codes "r") (tree.ImpliesTree 12 (tree.AtomTree 8 (codes "a") ([]))
    (tree.ImpliesTree 19 (tree.AtomTree 15
    (codes "b") ([])) (tree.AtomTree 22 (codes "c") ([])))) ∷ []

-- rule r: a() -> b() or c() and d();
abbrev pub precedence : List PolicyRule
precedence =
    rule_of_case 0 (codes "r") (tree.ImpliesTree 12 (tree.AtomTree 8 (codes "a") ([]))
    (tree.OrTree 19 (tree.AtomTree 15 (codes
    "b") ([])) (tree.AndTree 26 (tree.AtomTree 22 (codes "c") ([])) (tree.AtomTree 30 (codes "d") ([]))))) ∷ []

-- rule r: forall x. a(x) and b();
abbrev pub quantifier_reaches : List PolicyRule
quantifier_reaches =
    rule_of_case 0 (codes "r") (tree.ForallTree 8 ((case_binding 15 (codes "x")) ∷ [])
    (tree.AndTree 23 (tree.AtomTree 18
    (codes "a") ((terms.Variable 20 (codes "x")) ∷ [])) (tree.AtomTree 27 (codes "b") ([])))) ∷ []

-- rule r: (forall x. a(x)) and b();
abbrev pub quantifier_in_parentheses : List PolicyRule
quantifier_in_parentheses =
    rule_of_case 0 (codes "r") (tree.AndTree 25 (tree.ForallTree 9 ((case_binding 16 (codes "x")) ∷ [])
    (tree.AtomTree 19
    (codes "a") ((terms.Variable 21 (codes "x")) ∷ []))) (tree.AtomTree 29 (codes "b") ([]))) ∷ []

-- rule r: forall x. a() since[0,1] b() since[0,*] c();
abbrev pub since_behind_a_quantifier : List PolicyRule
since_behind_a_quantifier =
    rule_of_case 0 (codes "r") (tree.SinceTree 37 (bounds 0 None)
    (tree.ForallTree 8 ((case_binding 15 (codes "x")) ∷ [])
    (tree.SinceTree 22 (bounds 0 (Some 1)) (tree.AtomTree 18 (codes "a") ([])) (tree.AtomTree 33 (codes "b") ([]))))
    (tree.AtomTree 48 (codes "c") ([]))) ∷ []

-- rule r: not once[2,5] a() until[0,1] b();
abbrev pub prefix_binds_tighter : List PolicyRule
prefix_binds_tighter =
    rule_of_case 0 (codes "r") (tree.UntilTree 26 (bounds 0 (Some 1))
    (tree.NotTree 8 (tree.OnceTree 12 (bounds 2 (Some 5))
    (tree.AtomTree 22 (codes "a") ([])))) (tree.AtomTree 37 (codes "b") ([]))) ∷ []

-- rule r: exists x, y. x <= y and y = 7;
abbrev pub comparison : List PolicyRule
comparison =
    rule_of_case 0 (codes "r") (tree.ExistsTree 8 ((case_binding 15 (codes "x")) ∷ (case_binding 18 (codes "y")) ∷
    [])
    (tree.AndTree 28 (tree.AtMostTree 23 (terms.Variable 21 (codes "x")) (terms.Variable 26 (codes "y")))
    (tree.EqualTree
    34 (terms.Variable 32 (codes "y")) (terms.Constant 36 (values.Num (pos 7)))))) ∷ []

-- rule r: true; rule s: false;
abbrev pub two_rules : List PolicyRule
two_rules =
    rule_of_case 0 (codes "r") (tree.TrueTree 8) ∷ rule_of_case 14 (codes "s") (tree.FalseTree 22) ∷ []

-- ---- refused texts

-- the first refusal of the text, with its place
abbrev pub HasSyntaxAt : List ℕ → (place : ℕ) → Type 0
HasSyntaxAt bytes place = IsSyntaxAnswer bytes (Err (Syntax place))

abbrev pub HasLimitAt : List ℕ → (place : ℕ) → Type 0
HasLimitAt bytes place = IsSyntaxAnswer bytes (Err (Limit place))

-- a rule with so many `not` before this
abbrev pub with_nots : ℕ → List ℕ → List ℕ
with_nots count formula = codes "rule r: " ++ flat_map (λ word. word) (replicate count (codes "not ")) ++ formula

-- a rule with a name of so many bytes
abbrev pub with_name : ℕ → List ℕ
with_name count = codes "rule " ++ replicate count 97 ++ codes ": true;"
