-- The phrases of the grammar of policies by its nonterminals, and the tree of each.
use Rattle.enf_data.specs.declared.intervals.Interval.{Interval}
use Rattle.std.specs.Prelude.{ℕ, List, Option, Bool, [], ◌∷◌, pos, neg_ℤ, Some, None, true, false}
use Rattle.policy_syntax.specs.declared.trees.Binding.{Binding}
use Rattle.policy_syntax.specs.declared.trees.SyntaxTerm.{SyntaxTerm}
use Rattle.policy_syntax.specs.meaning.Lexemes.{Prefix, Infix, Quantifier, Sign}
use Rattle.policy_syntax.specs.meaning.Trees.{SyntaxTree}
use Rattle.policy_syntax.specs.declared.lexemes.Infix as infixes
use Rattle.policy_syntax.specs.declared.lexemes.Prefix as prefixes
use Rattle.policy_syntax.specs.declared.lexemes.Quantifier as quantifiers
use Rattle.policy_syntax.specs.declared.lexemes.Sign as signs
use Rattle.enf_data.specs.declared.values.Value.TheVariants as values
use Rattle.policy_syntax.specs.declared.trees.SyntaxTerm.TheVariants as terms
use Rattle.policy_syntax.specs.meaning.Trees as tree
use Rattle.policy_syntax.specs.declared.lexemes.Infix.TheVariants as infix_words
use Rattle.policy_syntax.specs.declared.lexemes.Prefix.TheVariants as prefix_words
use Rattle.policy_syntax.specs.declared.lexemes.Quantifier.TheVariants as quantifier_words
use Rattle.policy_syntax.specs.declared.lexemes.Sign.TheVariants as sign_marks

-- ---- phrases: each has the place of each of its lexemes

-- term = VAR | NUMBER | TEXT
pub data TermPhrase : Type 0 where
  Variable : (place : ℕ) → (name : List ℕ) → TermPhrase
  Plain : (place : ℕ) → (value : ℕ) → TermPhrase
  Minus : (place : ℕ) → (value : ℕ) → TermPhrase
  Quoted : (place : ℕ) → (text : List ℕ) → TermPhrase

-- term { "," term }
pub data TermsPhrase : Type 0 where
  LastTerm : TermPhrase → TermsPhrase
  NextTerm : TermPhrase → (comma : ℕ) → TermsPhrase → TermsPhrase

-- "(" [ term { "," term } ] ")"
pub record ArgumentsPhrase : Type 0 where
  pub open_paren : ℕ
  pub terms : Option TermsPhrase
  pub close_paren : ℕ

-- VAR { "," VAR }
pub data VariablesPhrase : Type 0 where
  LastVariable : Binding → VariablesPhrase
  NextVariable : Binding → (comma : ℕ) → VariablesPhrase → VariablesPhrase

-- interval = "[" DIGITS "," ( DIGITS | "*" ) "]"
pub record IntervalPhrase : Type 0 where
  pub open_bracket : ℕ
  pub low_place : ℕ
  pub low : ℕ
  pub comma : ℕ
  pub high_place : ℕ
  pub high : Option ℕ
  pub close_bracket : ℕ

mutual
  -- formula = orf [ "->" formula ]
  pub data FormulaPhrase : Type 0 where
    OneSide : OrPhrase → FormulaPhrase
    Implication : OrPhrase → (place : ℕ) → FormulaPhrase → FormulaPhrase

  -- orf = andf [ "or" orf ]
  pub data OrPhrase : Type 0 where
    OneCase : AndPhrase → OrPhrase
    Disjunction : AndPhrase → (place : ℕ) → OrPhrase → OrPhrase

  -- andf = binf [ "and" andf ]
  pub data AndPhrase : Type 0 where
    OnePart : InfixPhrase → AndPhrase
    Conjunction : InfixPhrase → (place : ℕ) → AndPhrase → AndPhrase

  -- binf = unary [ ( "since" | "until" ) interval unary ]
  pub data InfixPhrase : Type 0 where
    OneOperand : UnaryPhrase → InfixPhrase
    Between : UnaryPhrase → infixes.Infix → (place : ℕ) → IntervalPhrase → UnaryPhrase → InfixPhrase

  -- unary = "not" unary | ( "prev" | "next" | "once" | "historically" | "eventually" | "always" ) interval unary
  --       | ( "forall" | "exists" ) VAR { "," VAR } "." formula | primary
  pub data UnaryPhrase : Type 0 where
    Negation : (place : ℕ) → UnaryPhrase → UnaryPhrase
    Before : prefixes.Prefix → (place : ℕ) → IntervalPhrase → UnaryPhrase → UnaryPhrase
    Quantified : quantifiers.Quantifier → (place : ℕ) → VariablesPhrase → (dot : ℕ) → FormulaPhrase → UnaryPhrase
    Primary : PrimaryPhrase → UnaryPhrase

  -- primary = "(" formula ")" | "true" | "false" | NAME "(" .. ")" | term ( "=" | "<" | "<=" ) term
  pub data PrimaryPhrase : Type 0 where
    Parenthesis : (open_paren : ℕ) → FormulaPhrase → (close_paren : ℕ) → PrimaryPhrase
    Constant : Bool → (place : ℕ) → PrimaryPhrase
    Event : (place : ℕ) → (name : List ℕ) → ArgumentsPhrase → PrimaryPhrase
    Comparison : TermPhrase → signs.Sign → (place : ℕ) → TermPhrase → PrimaryPhrase

-- "rule" NAME ":" formula ";"
pub record RulePhrase : Type 0 where
  pub place : ℕ
  pub name_place : ℕ
  pub name : List ℕ
  pub colon : ℕ
  pub formula : FormulaPhrase
  pub semicolon : ℕ

abbrev pub variables_list : VariablesPhrase → List Binding
variables_list (LastVariable variable) = variable ∷ []
variables_list (NextVariable variable comma more) = variable ∷ variables_list more

-- ---- trees
abbrev pub term_tree : TermPhrase → SyntaxTerm
term_tree (Variable place name) = terms.Variable place name
term_tree (Plain place value) = terms.Constant place (values.Num (pos value))
term_tree (Minus place value) = terms.Constant place (values.Num (neg_ℤ (pos value)))
term_tree (Quoted place text) = terms.Constant place (values.Text text)

abbrev pub terms_list : TermsPhrase → List SyntaxTerm
terms_list (LastTerm term) = term_tree term ∷ []
terms_list (NextTerm term comma more) = term_tree term ∷ terms_list more

abbrev pub some_terms_list : Option TermsPhrase → List SyntaxTerm
some_terms_list None = []
some_terms_list (Some more) = terms_list more

abbrev pub interval_of : IntervalPhrase → Interval
interval_of interval = record { low = interval.low; high = interval.high }

abbrev pub infix_tree : infixes.Infix → (place : ℕ) → Interval → SyntaxTree → SyntaxTree → SyntaxTree
infix_tree infix_words.Since = tree.SinceTree
infix_tree infix_words.Until = tree.UntilTree

abbrev pub prefix_tree : prefixes.Prefix → (place : ℕ) → Interval → SyntaxTree → SyntaxTree
prefix_tree prefix_words.Prev = tree.PrevTree
prefix_tree prefix_words.Next = tree.NextTree
prefix_tree prefix_words.Once = tree.OnceTree
prefix_tree prefix_words.Historically = tree.HistoricallyTree
prefix_tree prefix_words.Eventually = tree.EventuallyTree
prefix_tree prefix_words.Always = tree.AlwaysTree

abbrev pub quantifier_tree : quantifiers.Quantifier → (place : ℕ) → List Binding → SyntaxTree → SyntaxTree
quantifier_tree quantifier_words.Exists = tree.ExistsTree
quantifier_tree quantifier_words.Forall = tree.ForallTree

abbrev pub sign_tree : signs.Sign → (place : ℕ) → SyntaxTerm → SyntaxTerm → SyntaxTree
sign_tree sign_marks.Equal = tree.EqualTree
sign_tree sign_marks.Less = tree.LessTree
sign_tree sign_marks.AtMost = tree.AtMostTree

abbrev pub truth_tree : Bool → (place : ℕ) → SyntaxTree
truth_tree true = tree.TrueTree
truth_tree false = tree.FalseTree

abbrev mutual
  pub formula_tree : FormulaPhrase → SyntaxTree
  formula_tree (OneSide f) = or_tree f
  formula_tree (Implication f place g) = tree.ImpliesTree place (or_tree f) (formula_tree g)

  pub or_tree : OrPhrase → SyntaxTree
  or_tree (OneCase f) = and_tree f
  or_tree (Disjunction f place g) = tree.OrTree place (and_tree f) (or_tree g)

  pub and_tree : AndPhrase → SyntaxTree
  and_tree (OnePart f) = binary_tree f
  and_tree (Conjunction f place g) = tree.AndTree place (binary_tree f) (and_tree g)

  pub binary_tree : InfixPhrase → SyntaxTree
  binary_tree (OneOperand f) = unary_tree f
  binary_tree (Between f operator place interval g) =
      infix_tree operator place (interval_of interval) (unary_tree f) (unary_tree g)

  pub unary_tree : UnaryPhrase → SyntaxTree
  unary_tree (Negation place f) = tree.NotTree place (unary_tree f)
  unary_tree (Before operator place interval f) = prefix_tree operator place (interval_of interval) (unary_tree f)
  unary_tree (Quantified quantifier place variables dot f) =
      quantifier_tree quantifier place (variables_list variables) (formula_tree f)
  unary_tree (Primary f) = primary_tree f

  pub primary_tree : PrimaryPhrase → SyntaxTree
  primary_tree (Parenthesis open_paren f close_paren) = formula_tree f
  primary_tree (Constant value place) = truth_tree value place
  primary_tree (Event place name arguments) = tree.AtomTree place name (some_terms_list arguments.terms)
  primary_tree (Comparison s sign place t) = sign_tree sign place (term_tree s) (term_tree t)
