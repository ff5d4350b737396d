-- Small policies, on which the definitions can be checked by eye.
use Rattle.enf_data.specs.declared.events.NameId.{NameId}
use Rattle.enf_data.specs.declared.intervals.Interval.{Interval}
use Rattle.enf_data.specs.declared.terms.Term.{Term}
use Rattle.enf_data.specs.declared.terms.Term.TheVariants.{Var}
use Rattle.enf_data.specs.declared.terms.VarId.{VarId}
use Rattle.enf_data.specs.declared.values.Value.TheVariants.{Num, Text as TextConstant}
use Rattle.std.specs.Prelude.{true, false, List, [], ◌∷◌, codes, ℕ, pos, ◌≡◌, Some, None, map}
use Rattle.signature.specs.declared.entries.NameEntry.{NameEntry}
use Rattle.signature.specs.declared.entries.Sort.TheVariants.{Int, Text}
use Rattle.policy_syntax.specs.declared.trees.Binding.{Binding}
use Rattle.policy_syntax.specs.declared.trees.SyntaxTerm.{SyntaxTerm}
use Rattle.policy_syntax.specs.declared.trees.SyntaxTerm.TheVariants.{Variable, Constant}
use Rattle.policy_syntax.specs.meaning.Trees.{SyntaxTree, AtomTree, PolicyRule as SyntaxRule}
use Rattle.formula_reader.specs.declared.policies.PolicyRefusal.{PolicyRefusal}
use Rattle.formula_reader.specs.machine.RoundTrip.{text_levels}
use Rattle.formula_reader.specs.meaning.Resolution.{formula_in, Rule}
use Rattle.formula_reader.specs.meaning.RuleText.{formula_text}
use Rattle.formula_reader.specs.meaning.SortRefusals.{rule_refusal}
use Rattle.enf_formula.specs.meaning.Satisfaction as tree

-- go(); num(int); txt(text); two(int,text);
abbrev pub reader_case_entries : List NameEntry
reader_case_entries =
    record { text = codes "go"; sorts = []; causable = true; suppressible = false }
    ∷ record { text = codes "num"; sorts = Int ∷ []; causable = false; suppressible = false }
    ∷ record { text = codes "txt"; sorts = Text ∷ []; causable = false; suppressible = false }
    ∷ record { text = codes "two"; sorts = Int ∷ Text ∷ []; causable = false; suppressible = false }
    ∷ []

-- the variables x and y at a place
abbrev pub syntax_x : ℕ → SyntaxTerm
syntax_x place = Variable place (codes "x")

abbrev pub syntax_y : ℕ → SyntaxTerm
syntax_y place = Variable place (codes "y")

-- the number 1 and the text "a" at a place
abbrev pub syntax_one : ℕ → SyntaxTerm
syntax_one place = Constant place (Num (pos 1))

abbrev pub syntax_letter : ℕ → SyntaxTerm
syntax_letter place = Constant place (TextConstant (codes "a"))

-- x and y at a place of a quantifier
abbrev pub bind_x : ℕ → Binding
bind_x place = record { place = place; name = codes "x" }

abbrev pub bind_y : ℕ → Binding
bind_y place = record { place = place; name = codes "y" }

-- the event names at a place, with terms
abbrev pub go_atom : ℕ → List SyntaxTerm → SyntaxTree
go_atom place terms = AtomTree place (codes "go") terms

abbrev pub num_atom : ℕ → List SyntaxTerm → SyntaxTree
num_atom place terms = AtomTree place (codes "num") terms

abbrev pub txt_atom : ℕ → List SyntaxTerm → SyntaxTree
txt_atom place terms = AtomTree place (codes "txt") terms

abbrev pub two_atom : ℕ → List SyntaxTerm → SyntaxTree
two_atom place terms = AtomTree place (codes "two") terms

-- a name that no entry has
abbrev pub lost_atom : ℕ → List SyntaxTerm → SyntaxTree
lost_atom place terms = AtomTree place (codes "lost") terms

-- rule r: f;
abbrev pub rule_of_tree : SyntaxTree → SyntaxRule
rule_of_tree f = record { place = 0; name = codes "r"; formula = f }

-- the rule's first refusal is this one
abbrev pub IsRuleRefused : SyntaxTree → PolicyRefusal → Type 0
IsRuleRefused f refusal = rule_refusal reader_case_entries (rule_of_tree f) ≡ Some refusal

-- the rule has no refusal
abbrev pub HasNoRefusal : SyntaxTree → Type 0
HasNoRefusal f = rule_refusal reader_case_entries (rule_of_tree f) ≡ None

-- the formula is this one under the signature
abbrev pub ResolvesTo : SyntaxTree → tree.Formula → Type 0
ResolvesTo f g = formula_in reader_case_entries [] [] f ≡ Some g

-- the number of go, num and two
abbrev pub name_go : NameId
name_go = record { 0 = 0 }

abbrev pub name_num : NameId
name_num = record { 0 = 1 }

abbrev pub name_two : NameId
name_two = record { 0 = 3 }

-- a variable, as a term
abbrev pub variable_term : ℕ → Term
variable_term number = Var (record { 0 = number })

abbrev pub variable_id : ℕ → VarId
variable_id number = record { 0 = number }

-- the events go() and num(x)
abbrev pub said_go : tree.Formula
said_go = tree.Atom 0 name_go []

abbrev pub said_num : tree.Formula
said_num = tree.Atom 0 name_num (variable_term 0 ∷ [])

-- [2,5] and [2,*]
abbrev pub from_two_to_five : Interval
from_two_to_five = record { low = 2; high = Some 5 }

abbrev pub from_two_on : Interval
from_two_on = record { low = 2; high = None }

-- exists x. f
abbrev pub exists_x : tree.Formula → tree.Formula
exists_x f = tree.Exists 0 (variable_id 0 ∷ []) f

-- once[2,high] go()
abbrev pub once_up_to : ℕ → tree.Formula
once_up_to high = tree.Once 0 (record { low = 2; high = Some high }) said_go

-- a number that no entry has
abbrev pub name_none : NameId
name_none = record { 0 = 4 }

-- the text of a formula whose variables are x and y
abbrev pub HasFormulaText : tree.Formula → List ℕ → Type 0
HasFormulaText f text = formula_text reader_case_entries (codes "x" ∷ codes "y" ∷ []) f ≡ text

-- rule r: f; its variables are x and y
abbrev pub rule_r : tree.Formula → Rule
rule_r f = record { name = codes "r"; formula = f; vars = codes "x" ∷ codes "y" ∷ []; place = 0 }

-- the levels of the tokens of its canonical text
abbrev pub HasTextLevels : tree.Formula → List ℕ → Type 0
HasTextLevels f levels = map (λ leveled. leveled.0) (text_levels reader_case_entries (rule_r f)) ≡ levels
