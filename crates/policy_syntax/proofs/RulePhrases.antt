-- Rules and policies, put together from their parts.
use Rattle.policy_syntax.proofs.Vocabulary.{◌≡◌, ℕ, ◌≤◌, true, List, [], ◌∷◌, ◌++◌, map, refl, sym, ap, subst, ◌∙◌, arith, bound, spell, PolicyRead, Ahead, PolicyLexeme, PlacedLexeme, Symbol}
use Rattle.policy_syntax.proofs.Vocabulary.{NameLexeme, next_lexeme, IsLexemeTaken, FormulaRead, RuleRead, SyntaxTree, PolicyRule, policy_rule_of, MOST_VARIABLES, SyntaxRule}
use Rattle.policy_syntax.proofs.LexemeLimits.{bound_is}
use Rattle.policy_syntax.specs.meaning.Grammar as grammar
use Rattle.policy_syntax.specs.declared.lexemes.Symbol.TheVariants as symbols

abbrev pub rule_with : (place : ℕ) (name : List ℕ) → SyntaxTree → PolicyRule
rule_with place name f = record { place = place; name = name; formula = f }

pub rule_read : (p0 p1 p2 p3 : ℕ) (name : List ℕ) (f : SyntaxTree) (s0 s1 s2 s3 s4 s5 : Ahead)
    → IsLexemeTaken 0 (Symbol symbols.Rule) p0 s0 s1 → IsLexemeTaken 0 (NameLexeme name) p1 s1 s2 → IsLexemeTaken 0 (Symbol symbols.Colon) p2 s2 s3
    → FormulaRead 0 0 s3.rest s4.rest f → IsLexemeTaken 0 (Symbol symbols.Semicolon) p3 s4 s5
    → RuleRead s0.rest s5.rest (record { place = p0; name = name; formula = f })
rule_read p0 p1 p2 p3 name f s0 s1 s2 s3 s4 s5 a b c r d =
    let few : 0 ≤ MOST_VARIABLES = omega arith in
    record {
      phrase = record { place = p0; name_place = p1; name = name; colon = p2; formula = r.phrase; semicolon = p3 };
      tree_is = ap (λ (g : SyntaxTree). rule_with p0 name g) r.tree_is;
      fits = subst (λ (next : PolicyLexeme). grammar.FormulaFits r.phrase next) (ap next_lexeme d.was) r.fits;
      spells = ap (λ rest. (p0, Symbol symbols.Rule) ∷ (p1, NameLexeme name) ∷ (p2, Symbol symbols.Colon) ∷ grammar.formula_fold spell 0 0 r.phrase rest) (sym d.was)
          ∙ ap (λ rest. (p0, Symbol symbols.Rule) ∷ (p1, NameLexeme name) ∷ (p2, Symbol symbols.Colon) ∷ rest) r.spells
          ∙ ap (λ rest. (p0, Symbol symbols.Rule) ∷ (p1, NameLexeme name) ∷ rest) (sym c.was) ∙ ap (λ rest. (p0, Symbol symbols.Rule) ∷ rest) (sym b.was) ∙ sym a.was;
      bounds = bound_is 0 0 p0 (Symbol symbols.Rule) _ a.low few ∙ bound_is 0 0 p1 (NameLexeme name) _ b.low few ∙ bound_is 0 0 p2 (Symbol symbols.Colon) _ c.low few
          ∙ ap (grammar.formula_fold bound 0 0 r.phrase) (bound_is 0 0 p3 (Symbol symbols.Semicolon) true d.low few) ∙ r.bounds;
    }

-- ---- policies

pub no_rules : PolicyRead [] [] []
no_rules = record { phrase = []; tree_is = refl; fits = tt; spells = refl; bounds = refl }

pub next_rule : (rule : PolicyRule) (more : List PolicyRule) (before mid after : List PlacedLexeme) → RuleRead before mid rule → PolicyRead mid after more → PolicyRead before after (rule ∷ more)
next_rule rule more before mid after r m = record {
  phrase = r.phrase ∷ m.phrase;
  tree_is = (λ j. r.tree_is j ∷ m.tree_is j);
  fits = (r.fits, m.fits);
  spells = ap (grammar.rule_fold spell r.phrase) m.spells ∙ r.spells;
  bounds = ap (grammar.rule_fold bound r.phrase) m.bounds ∙ r.bounds;
}

pub read_push : (rules : List SyntaxRule) (rule : SyntaxRule) (more : List PolicyRule) → map policy_rule_of rules ++ policy_rule_of rule ∷ more ≡ map policy_rule_of (rules ++ rule ∷ []) ++ more
read_push [] rule more = refl
read_push (first ∷ rules) rule more = ap (λ rest. policy_rule_of first ∷ rest) (read_push rules rule more)
