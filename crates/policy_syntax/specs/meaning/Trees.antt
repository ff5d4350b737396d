-- Syntax trees of policies, rules, and the limits on them.
use Rattle.enf_data.specs.declared.intervals.Interval.{Interval}
use Rattle.enf_data.specs.declared.limits.TheConstants.{MOST_NAME_BYTES}
use Rattle.enf_data.specs.meaning.Membership.{HasNoRepeats}
use Rattle.std.specs.List.{AllByRecursion}
use Rattle.std.specs.Prelude.{ℕ, List, ◌+◌, ◌≤◌, Option, Some, None, length, map}
use Rattle.policy_syntax.specs.declared.limits.TheConstants.{MOST_INTERVAL_END, MOST_VARIABLES, MOST_NODES, MOST_RULES}
use Rattle.policy_syntax.specs.declared.trees.Binding.{Binding}
use Rattle.policy_syntax.specs.declared.trees.SyntaxTerm.{SyntaxTerm}
use Rattle.policy_syntax.specs.declared.trees.SyntaxTerm.TheVariants.{Variable, Constant}

-- each node begins with the place of its principal token; names and variables are lists of bytes
pub data SyntaxTree : Type 0 where
  TrueTree : (place : ℕ) → SyntaxTree
  FalseTree : (place : ℕ) → SyntaxTree
  AtomTree : (place : ℕ) → (name : List ℕ) → List SyntaxTerm → SyntaxTree
  EqualTree : (place : ℕ) → SyntaxTerm → SyntaxTerm → SyntaxTree
  LessTree : (place : ℕ) → SyntaxTerm → SyntaxTerm → SyntaxTree
  AtMostTree : (place : ℕ) → SyntaxTerm → SyntaxTerm → SyntaxTree
  NotTree : (place : ℕ) → SyntaxTree → SyntaxTree
  AndTree : (place : ℕ) → SyntaxTree → SyntaxTree → SyntaxTree
  OrTree : (place : ℕ) → SyntaxTree → SyntaxTree → SyntaxTree
  ImpliesTree : (place : ℕ) → SyntaxTree → SyntaxTree → SyntaxTree
  ExistsTree : (place : ℕ) → List Binding → SyntaxTree → SyntaxTree
  ForallTree : (place : ℕ) → List Binding → SyntaxTree → SyntaxTree
  PrevTree : (place : ℕ) → Interval → SyntaxTree → SyntaxTree
  NextTree : (place : ℕ) → Interval → SyntaxTree → SyntaxTree
  OnceTree : (place : ℕ) → Interval → SyntaxTree → SyntaxTree
  HistoricallyTree : (place : ℕ) → Interval → SyntaxTree → SyntaxTree
  SinceTree : (place : ℕ) → Interval → SyntaxTree → SyntaxTree → SyntaxTree
  EventuallyTree : (place : ℕ) → Interval → SyntaxTree → SyntaxTree
  AlwaysTree : (place : ℕ) → Interval → SyntaxTree → SyntaxTree
  UntilTree : (place : ℕ) → Interval → SyntaxTree → SyntaxTree → SyntaxTree

-- how many nodes a formula has
abbrev pub tree_size : SyntaxTree → ℕ
tree_size (NotTree place f) = 1 + tree_size f
tree_size (AndTree place f g) = tree_size f + (1 + tree_size g)
tree_size (OrTree place f g) = tree_size f + (1 + tree_size g)
tree_size (ImpliesTree place f g) = tree_size f + (1 + tree_size g)
tree_size (ExistsTree place xs f) = 1 + tree_size f
tree_size (ForallTree place xs f) = 1 + tree_size f
tree_size (PrevTree place interval f) = 1 + tree_size f
tree_size (NextTree place interval f) = 1 + tree_size f
tree_size (OnceTree place interval f) = 1 + tree_size f
tree_size (HistoricallyTree place interval f) = 1 + tree_size f
tree_size (SinceTree place interval f g) = tree_size f + (1 + tree_size g)
tree_size (EventuallyTree place interval f) = 1 + tree_size f
tree_size (AlwaysTree place interval f) = 1 + tree_size f
tree_size (UntilTree place interval f g) = tree_size f + (1 + tree_size g)
tree_size f = 1

-- the second end of an interval is no less than the first, and neither is too great
abbrev pub EndsFit : ℕ → Option ℕ → Type 0
EndsFit low None = low ≤ MOST_INTERVAL_END
EndsFit low (Some high) = (low ≤ high) × (high ≤ MOST_INTERVAL_END)

abbrev pub IsBounded : Interval → Type 0
IsBounded interval = EndsFit interval.low interval.high

abbrev pub IsShortName : List ℕ → Type 0
IsShortName name = length name ≤ MOST_NAME_BYTES

abbrev pub IsShortTerm : SyntaxTerm → Type 0
IsShortTerm (Variable place name) = IsShortName name
IsShortTerm (Constant place value) = Unit {0}

-- where so many variables are in scope, each quantifier's are few enough with them; names are short, and intervals fit
abbrev pub KeepsLimits : (scope : ℕ) → SyntaxTree → Type 0
KeepsLimits scope (TrueTree place) = Unit {0}
KeepsLimits scope (FalseTree place) = Unit {0}
KeepsLimits scope (AtomTree place name terms) = IsShortName name × AllByRecursion IsShortTerm terms
KeepsLimits scope (EqualTree place s t) = IsShortTerm s × IsShortTerm t
KeepsLimits scope (LessTree place s t) = IsShortTerm s × IsShortTerm t
KeepsLimits scope (AtMostTree place s t) = IsShortTerm s × IsShortTerm t
KeepsLimits scope (NotTree place f) = KeepsLimits scope f
KeepsLimits scope (AndTree place f g) = KeepsLimits scope f × KeepsLimits scope g
KeepsLimits scope (OrTree place f g) = KeepsLimits scope f × KeepsLimits scope g
KeepsLimits scope (ImpliesTree place f g) = KeepsLimits scope f × KeepsLimits scope g
KeepsLimits scope (ExistsTree place xs f) =
    (scope + length xs ≤ MOST_VARIABLES) × AllByRecursion (λ (x : Binding). IsShortName x.name) xs
    × KeepsLimits (scope + length xs) f
KeepsLimits scope (ForallTree place xs f) =
    (scope + length xs ≤ MOST_VARIABLES) × AllByRecursion (λ (x : Binding). IsShortName x.name) xs
    × KeepsLimits (scope + length xs) f
KeepsLimits scope (PrevTree place interval f) = IsBounded interval × KeepsLimits scope f
KeepsLimits scope (NextTree place interval f) = IsBounded interval × KeepsLimits scope f
KeepsLimits scope (OnceTree place interval f) = IsBounded interval × KeepsLimits scope f
KeepsLimits scope (HistoricallyTree place interval f) = IsBounded interval × KeepsLimits scope f
KeepsLimits scope (SinceTree place interval f g) = IsBounded interval × KeepsLimits scope f × KeepsLimits scope g
KeepsLimits scope (EventuallyTree place interval f) = IsBounded interval × KeepsLimits scope f
KeepsLimits scope (AlwaysTree place interval f) = IsBounded interval × KeepsLimits scope f
KeepsLimits scope (UntilTree place interval f g) = IsBounded interval × KeepsLimits scope f × KeepsLimits scope g

-- a rule: the place of its word `rule`, its name and its formula
pub record PolicyRule : Type 0 where
  pub place : ℕ
  pub name : List ℕ
  pub formula : SyntaxTree

-- a rule keeps the limits
pub record IsRule (rule : PolicyRule) : Type 0 where
  pub short : IsShortName rule.name
  pub small : tree_size rule.formula ≤ MOST_NODES
  pub kept : KeepsLimits 0 rule.formula

-- the rules keep the limits, and no two have the same name
pub record IsPolicy (rules : List PolicyRule) : Type 0 where
  pub few : length rules ≤ MOST_RULES
  pub each : AllByRecursion IsRule rules
  pub distinct : HasNoRepeats (map (λ (rule : PolicyRule). rule.name) rules)
