-- Trees but for the places of variables and terms are written alike.
use Rattle.formula_reader.proofs.Vocabulary.{◌≡◌, ◌≢◌, ℕ, ◌+◌, List, [], ◌∷◌, map, refl, ◌∙◌, AllByRecursion, PolicyLexeme, Symbol, Prefix, Infix, Quantifier, Sign, NameLexeme, bare_binding}
use Rattle.formula_reader.proofs.Vocabulary.{bare_term, SyntaxTree, PolicyRule, TrueTree, FalseTree, AtomTree, EqualTree, LessTree, AtMostTree, NotTree, AndTree, OrTree, ImpliesTree, ExistsTree}
use Rattle.formula_reader.proofs.Vocabulary.{ForallTree, PrevTree, NextTree, OnceTree, HistoricallyTree, SinceTree, EventuallyTree, AlwaysTree, UntilTree, AreWritableVariables, IsWritable}
use Rattle.formula_reader.proofs.Vocabulary.{IsWritableName, IsWritableTerm, Leveled, enclosed_lexemes, formula_written, interval_written, list_written, rule_written, tree_stands_alone, term_written}
use Rattle.formula_reader.proofs.Vocabulary.{variable_written, Binding, SyntaxTerm, Variable, Constant, plain_tree, plain_rule}
use Rattle.policy_syntax.specs.declared.lexemes.Infix.TheVariants as infix_words
use Rattle.policy_syntax.specs.declared.lexemes.Prefix.TheVariants as prefix_words
use Rattle.policy_syntax.specs.declared.lexemes.Quantifier.TheVariants as quantifier_words
use Rattle.policy_syntax.specs.declared.lexemes.Sign.TheVariants as sign_marks
use Rattle.policy_syntax.specs.declared.lexemes.Symbol.TheVariants as symbol

writable_term : (t : SyntaxTerm) → IsWritableTerm t → IsWritableTerm (bare_term t)
writable_term (Variable place name) w = w
writable_term (Constant place value) w = w

writable_terms : (ts : List SyntaxTerm) → AllByRecursion IsWritableTerm ts → AllByRecursion IsWritableTerm (map bare_term ts)
writable_terms [] w = tt
writable_terms (t ∷ ts) w = (writable_term t w.0, writable_terms ts w.1)

writable_names : (xs : List Binding) → AllByRecursion (λ (x : Binding). IsWritableName x.name) xs → AllByRecursion (λ (x : Binding). IsWritableName x.name) (map bare_binding xs)
writable_names [] w = tt
writable_names (x ∷ xs) w = (w.0, writable_names xs w.1)

some_variables : (xs : List Binding) → xs ≢ [] → map bare_binding xs ≢ []
some_variables [] some e = some refl
some_variables (x ∷ xs) some e = absurd cc

writable_variables : (xs : List Binding) → AreWritableVariables xs → AreWritableVariables (map bare_binding xs)
writable_variables xs w = (some_variables xs w.0, writable_names xs w.1)

pub writable_plain : (f : SyntaxTree) → IsWritable f → IsWritable (plain_tree f)
writable_plain (TrueTree place) w = w
writable_plain (FalseTree place) w = w
writable_plain (AtomTree place name terms) w = (w.0, writable_terms terms w.1)
writable_plain (EqualTree place s t) w = (writable_term s w.0, writable_term t w.1)
writable_plain (LessTree place s t) w = (writable_term s w.0, writable_term t w.1)
writable_plain (AtMostTree place s t) w = (writable_term s w.0, writable_term t w.1)
writable_plain (NotTree place f) w = writable_plain f w
writable_plain (AndTree place f g) w = (writable_plain f w.0, writable_plain g w.1)
writable_plain (OrTree place f g) w = (writable_plain f w.0, writable_plain g w.1)
writable_plain (ImpliesTree place f g) w = (writable_plain f w.0, writable_plain g w.1)
writable_plain (ExistsTree place xs f) w = (writable_variables xs w.0, writable_plain f w.1)
writable_plain (ForallTree place xs f) w = (writable_variables xs w.0, writable_plain f w.1)
writable_plain (PrevTree place interval f) w = (w.0, writable_plain f w.1)
writable_plain (NextTree place interval f) w = (w.0, writable_plain f w.1)
writable_plain (OnceTree place interval f) w = (w.0, writable_plain f w.1)
writable_plain (HistoricallyTree place interval f) w = (w.0, writable_plain f w.1)
writable_plain (SinceTree place interval f g) w = (w.0, writable_plain f w.1, writable_plain g w.2)
writable_plain (EventuallyTree place interval f) w = (w.0, writable_plain f w.1)
writable_plain (AlwaysTree place interval f) w = (w.0, writable_plain f w.1)
writable_plain (UntilTree place interval f g) w = (w.0, writable_plain f w.1, writable_plain g w.2)

-- ---- what is written

term_alike : (t : SyntaxTerm) → term_written (bare_term t) ≡ term_written t
term_alike (Variable place name) = refl
term_alike (Constant place value) = refl

list_alike : {A : Type 0} (lexeme : A → PolicyLexeme) (bared : A → A) (level : ℕ) (items : List A) (rest : List Leveled) → ((item : A) → lexeme (bared item) ≡ lexeme item)
    → list_written lexeme level (map bared items) rest ≡ list_written lexeme level items rest
list_alike lexeme bared level [] rest alike = refl
list_alike lexeme bared level (item ∷ []) rest alike = (λ j. (level, alike item j) ∷ rest)
list_alike lexeme bared level (item ∷ next ∷ more) rest alike =
    (λ j. (level, alike item j) ∷ (level, Symbol symbol.Comma) ∷ list_alike lexeme bared level (next ∷ more) rest alike j)

alone_alike : (f : SyntaxTree) → tree_stands_alone (plain_tree f) ≡ tree_stands_alone f
alone_alike (TrueTree place) = refl
alone_alike (FalseTree place) = refl
alone_alike (AtomTree place name terms) = refl
alone_alike (EqualTree place s t) = refl
alone_alike (LessTree place s t) = refl
alone_alike (AtMostTree place s t) = refl
alone_alike (NotTree place f) = refl
alone_alike (AndTree place f g) = refl
alone_alike (OrTree place f g) = refl
alone_alike (ImpliesTree place f g) = refl
alone_alike (ExistsTree place xs f) = refl
alone_alike (ForallTree place xs f) = refl
alone_alike (PrevTree place interval f) = refl
alone_alike (NextTree place interval f) = refl
alone_alike (OnceTree place interval f) = refl
alone_alike (HistoricallyTree place interval f) = refl
alone_alike (SinceTree place interval f g) = refl
alone_alike (EventuallyTree place interval f) = refl
alone_alike (AlwaysTree place interval f) = refl
alone_alike (UntilTree place interval f g) = refl

-- an operand
abbrev operand : SyntaxTree → ℕ → List Leveled → List Leveled
operand f level rest = enclosed_lexemes (tree_stands_alone f) (formula_written f) level rest

operand_alike : (f : SyntaxTree) → formula_written (plain_tree f) ≡ formula_written f → operand (plain_tree f) ≡ operand f
operand_alike f same = (λ j level rest. enclosed_lexemes (alone_alike f j) (same j) level rest)

-- the variables of a quantifier, and its operand
both_alike : (xs : List Binding) (operand_of other : ℕ → List Leveled → List Leveled) → operand_of ≡ other → (level : ℕ) (rest : List Leveled)
    → list_written variable_written (level + 1) (map bare_binding xs) ((level + 1, Symbol symbol.Dot) ∷ operand_of (level + 1) rest)
    ≡ list_written variable_written (level + 1) xs ((level + 1, Symbol symbol.Dot) ∷ other (level + 1) rest)
both_alike xs operand_of other same level rest =
    list_alike variable_written bare_binding (level + 1) xs ((level + 1, Symbol symbol.Dot) ∷ operand_of (level + 1) rest) (λ x. refl)
    ∙ (λ j. list_written variable_written (level + 1) xs ((level + 1, Symbol symbol.Dot) ∷ same j (level + 1) rest))

written_alike : (f : SyntaxTree) → formula_written (plain_tree f) ≡ formula_written f
written_alike (TrueTree place) = refl
written_alike (FalseTree place) = refl
written_alike (AtomTree place name terms) = (λ j level rest. (level, NameLexeme name) ∷ (level, Symbol symbol.OpenParen) ∷ list_alike term_written bare_term (level + 1) terms
    ((level + 1, Symbol symbol.CloseParen) ∷ rest) term_alike j)
written_alike (EqualTree place s t) = (λ j level rest. (level, term_alike s j) ∷ (level, Sign sign_marks.Equal) ∷ (level, term_alike t j) ∷ rest)
written_alike (LessTree place s t) = (λ j level rest. (level, term_alike s j) ∷ (level, Sign sign_marks.Less) ∷ (level, term_alike t j) ∷ rest)
written_alike (AtMostTree place s t) = (λ j level rest. (level, term_alike s j) ∷ (level, Sign sign_marks.AtMost) ∷ (level, term_alike t j) ∷ rest)
written_alike (NotTree place f) = (λ j level rest. (level, Symbol symbol.Not) ∷ operand_alike f (written_alike f) j (level + 1) rest)
written_alike (AndTree place f g) = (λ j level rest. operand_alike f (written_alike f) j level ((level, Symbol symbol.And) ∷ operand_alike g (written_alike g) j (level + 1) rest))
written_alike (OrTree place f g) = (λ j level rest. operand_alike f (written_alike f) j level ((level, Symbol symbol.Or) ∷ operand_alike g (written_alike g) j (level + 1) rest))
written_alike (ImpliesTree place f g) = (λ j level rest. operand_alike f (written_alike f) j level ((level, Symbol symbol.Arrow) ∷ operand_alike g (written_alike g) j (level + 1) rest))
written_alike (ExistsTree place xs f) =
    (λ j level rest. (level, Quantifier quantifier_words.Exists)
    ∷ both_alike xs (operand (plain_tree f)) (operand f) (operand_alike f (written_alike f)) level rest j)
written_alike (ForallTree place xs f) =
    (λ j level rest. (level, Quantifier quantifier_words.Forall)
    ∷ both_alike xs (operand (plain_tree f)) (operand f) (operand_alike f (written_alike f)) level rest j)
written_alike (PrevTree place interval f) = (λ j level rest. (level, Prefix prefix_words.Prev) ∷ interval_written (level + 1) interval (operand_alike f (written_alike f) j (level + 1) rest))
written_alike (NextTree place interval f) = (λ j level rest. (level, Prefix prefix_words.Next) ∷ interval_written (level + 1) interval (operand_alike f (written_alike f) j (level + 1) rest))
written_alike (OnceTree place interval f) = (λ j level rest. (level, Prefix prefix_words.Once) ∷ interval_written (level + 1) interval (operand_alike f (written_alike f) j (level + 1) rest))
written_alike (HistoricallyTree place interval f) = (λ j level rest. (level, Prefix prefix_words.Historically) ∷ interval_written (level + 1) interval
    (operand_alike f (written_alike f) j (level + 1) rest))
written_alike (SinceTree place interval f g) = (λ j level rest. operand_alike f (written_alike f) j level
    ((level, Infix infix_words.Since) ∷ interval_written level interval (operand_alike g (written_alike g) j (level + 1) rest)))
written_alike (EventuallyTree place interval f) = (λ j level rest. (level, Prefix prefix_words.Eventually) ∷ interval_written (level + 1) interval
    (operand_alike f (written_alike f) j (level + 1) rest))
written_alike (AlwaysTree place interval f) = (λ j level rest. (level, Prefix prefix_words.Always) ∷ interval_written (level + 1) interval (operand_alike f (written_alike f) j (level + 1) rest))
written_alike (UntilTree place interval f g) = (λ j level rest. operand_alike f (written_alike f) j level
    ((level, Infix infix_words.Until) ∷ interval_written level interval (operand_alike g (written_alike g) j (level + 1) rest)))

pub rule_alike : (rule : PolicyRule) → rule_written (plain_rule rule) ≡ rule_written rule
rule_alike rule = (λ j. (0, Symbol symbol.Rule) ∷ (0, NameLexeme rule.name) ∷ (0, Symbol symbol.Colon) ∷ written_alike rule.formula j 0 ((0, Symbol symbol.Semicolon) ∷ []))
