use Rattle.policy_syntax.proofs.Vocabulary.{ℕ, List, [], ◌∷◌, codes, Option, Some, None, true, false, refl, case_binding, ArgumentsPhrase, IntervalPhrase, RulePhrase, FormulaPhrase, TermsPhrase}
use Rattle.policy_syntax.proofs.Vocabulary.{OneSide, Implication, OneCase, Disjunction, OnePart, Conjunction, OneOperand, Between, Negation, Before, Quantified, Primary, Parenthesis, Constant, Event}
use Rattle.policy_syntax.proofs.Vocabulary.{Comparison, Variable, Plain, LastTerm, LastVariable, NextVariable}
use Rattle.policy_syntax.specs.declared.lexemes.Infix.TheVariants as infix_words
use Rattle.policy_syntax.specs.declared.lexemes.Prefix.TheVariants as prefix_words
use Rattle.policy_syntax.specs.declared.lexemes.Quantifier.TheVariants as quantifier_words
use Rattle.policy_syntax.specs.declared.lexemes.Sign.TheVariants as sign_marks
use Rattle.policy_syntax.proofs.worked_cases.trees.Goals as goal

abbrev arguments : ℕ → Option TermsPhrase → ℕ → ArgumentsPhrase
arguments open_paren terms close_paren = record { open_paren = open_paren; terms = terms; close_paren = close_paren }

abbrev interval : ℕ → ℕ → ℕ → ℕ → ℕ → Option ℕ → ℕ → IntervalPhrase
interval a b low c d high e =
    record { open_bracket = a; low_place = b; low = low; comma = c; high_place = d; high = high; close_bracket = e }

abbrev rule : ℕ → ℕ → List ℕ → ℕ → FormulaPhrase → ℕ → RulePhrase
rule place name_place name colon formula semicolon =
    record { place = place; name_place = name_place; name = name; colon = colon; formula = formula; semicolon = semicolon }

pub returns-clause-implication_to_the_right : goal.returns-clause-implication_to_the_right
returns-clause-implication_to_the_right c = record {
  phrase =
      rule 0 5 (codes "r") 6 (Implication (OneCase (OnePart (OneOperand (Primary (Event 8 (codes "a") (arguments
      9 None 10)))))) 12 (Implication (OneCase (OnePart (OneOperand (Primary (Event 15 (codes "b") (arguments 16
      None 17)))))) 19 (OneSide (OneCase (OnePart (OneOperand (Primary (Event 22 (codes "c") (arguments 23 None
      24))))))))) 25 ∷ [];
  tree_is = refl;
  fits = (
    (
      (((tt, λ operator e. cc), λ e. cc), λ e. cc),
      (
        (((tt, λ operator e. cc), λ e. cc), λ e. cc),
        (
          (
            (
              (
                tt,
                λ
                    operator e. cc,
              ),
              λ e. cc,
            ),
            λ e. cc,
          ),
          λ e. cc,
        ),
      ),
    ),
    tt,
  );
  spells = refl;
  bounds = refl;
}

pub returns-clause-precedence : goal.returns-clause-precedence
returns-clause-precedence c = record {
  phrase =
      rule 0 5 (codes "r") 6 (Implication (OneCase (OnePart (OneOperand (Primary (Event 8 (codes "a") (arguments
      9 None 10)))))) 12 (OneSide (Disjunction (OnePart (OneOperand (Primary (Event 15 (codes "b") (arguments 16
      None 17))))) 19 (OneCase (Conjunction (OneOperand (Primary (Event 22 (codes "c") (arguments 23 None 24))))
      26 (OnePart (OneOperand (Primary (Event 30 (codes "d") (arguments 31 None 32)))))))))) 33 ∷ [];
  tree_is = refl;
  fits = (
    (
      (((tt, λ operator e. cc), λ e. cc), λ e. cc),
      (
        (
          ((tt, λ operator e. cc), λ e. cc),
          (
            (
              (
                tt,
                λ operator e.
                    cc,
              ),
              ((tt, λ operator e. cc), λ e. cc),
            ),
            λ e. cc,
          ),
        ),
        λ e. cc,
      ),
    ),
    tt,
  );
  spells = refl;
  bounds = refl;
}

pub returns-clause-quantifier_reaches : goal.returns-clause-quantifier_reaches
returns-clause-quantifier_reaches c = record {
  phrase =
      rule 0 5 (codes "r") 6 (OneSide (OneCase (OnePart (OneOperand (Quantified quantifier_words.Forall 8
      (LastVariable (case_binding 15 (codes "x"))) 16 (OneSide (OneCase (Conjunction (OneOperand (Primary (Event 18
      (codes "a") (arguments 19 (Some (LastTerm (Variable 20 (codes "x")))) 21)))) 23 (OnePart (OneOperand
      (Primary (Event 27 (codes "b") (arguments 28 None 29))))))))))))) 30 ∷ [];
  tree_is = refl;
  fits = (
    (
      (
        (
          (((((tt, λ operator e. cc), ((tt, λ operator e. cc), λ e. cc)), λ e. cc), λ e. cc), λ operator e. cc),
          λ e. cc,
        ),
        λ e. cc,
      ),
      λ e. cc,
    ),
    tt,
  );
  spells = refl;
  bounds = refl;
}

pub returns-clause-quantifier_in_parentheses : goal.returns-clause-quantifier_in_parentheses
returns-clause-quantifier_in_parentheses c = record {
  phrase =
      rule 0 5 (codes "r") 6 (OneSide (OneCase (Conjunction (OneOperand (Primary (Parenthesis 8 (OneSide (OneCase
      (OnePart (OneOperand (Quantified quantifier_words.Forall 9 (LastVariable (case_binding 16 (codes "x"))) 17
      (OneSide (OneCase (OnePart (OneOperand (Primary (Event 19 (codes "a") (arguments 20 (Some (LastTerm
      (Variable 21 (codes "x")))) 22)))))))))))) 23))) 25 (OnePart (OneOperand (Primary (Event 29 (codes "b")
      (arguments 30 None 31)))))))) 32 ∷ [];
  tree_is = refl;
  fits = (
    (
      (
        (
          (
            (
              (((((((tt, λ operator e. cc), λ e. cc), λ e. cc), λ e. cc), λ operator e. cc), λ e. cc), λ e. cc),
              λ
                  e. cc,
            ),
            λ operator e. cc,
          ),
          ((tt, λ operator e. cc), λ e. cc),
        ),
        λ e. cc,
      ),
      λ e. cc,
    ),
    tt,
  );
  spells = refl;
  bounds = refl;
}

pub returns-clause-since_behind_a_quantifier : goal.returns-clause-since_behind_a_quantifier
returns-clause-since_behind_a_quantifier c = record {
  phrase =
      rule 0 5 (codes "r") 6 (OneSide (OneCase (OnePart (Between (Quantified quantifier_words.Forall 8
      (LastVariable (case_binding 15 (codes "x"))) 16 (OneSide (OneCase (OnePart (Between (Primary (Event 18 (codes
      "a") (arguments 19 None 20))) infix_words.Since 22 (interval 27 28 0 29 30 (Some 1) 31) (Primary (Event 33
      (codes "b") (arguments 34 None 35)))))))) infix_words.Since 37 (interval 42 43 0 44 45 None 46) (Primary
      (Event 48 (codes "c") (arguments 49 None 50))))))) 51 ∷ [];
  tree_is = refl;
  fits =
      (((((((((tt, tt), λ e. cc), λ e. cc), λ e. cc), tt), λ e. cc), λ e. cc), λ e. cc), tt);
  spells = refl;
  bounds = refl;
}

pub returns-clause-prefix_binds_tighter : goal.returns-clause-prefix_binds_tighter
returns-clause-prefix_binds_tighter c = record {
  phrase =
      rule 0 5 (codes "r") 6 (OneSide (OneCase (OnePart (Between (Negation 8 (Before prefix_words.Once 12
      (interval 16 17 2 18 19 (Some 5) 20) (Primary (Event 22 (codes "a") (arguments 23 None 24)))))
      infix_words.Until 26 (interval 31 32 0 33 34 (Some 1) 35) (Primary (Event 37 (codes "b") (arguments 38 None
      39))))))) 40 ∷ [];
  tree_is = refl;
  fits =
      (((((tt, tt), λ e. cc), λ e. cc), λ e. cc), tt);
  spells = refl;
  bounds = refl;
}

pub returns-clause-comparison : goal.returns-clause-comparison
returns-clause-comparison c = record {
  phrase =
      rule 0 5 (codes "r") 6 (OneSide (OneCase (OnePart (OneOperand (Quantified quantifier_words.Exists 8
      (NextVariable (case_binding 15 (codes "x")) 16 (LastVariable (case_binding 18 (codes "y")))) 19 (OneSide (OneCase
      (Conjunction (OneOperand (Primary (Comparison (Variable 21 (codes "x")) sign_marks.AtMost 23 (Variable 26
      (codes "y"))))) 28 (OnePart (OneOperand (Primary (Comparison (Variable 32 (codes "y")) sign_marks.Equal 34
      (Plain 36 7))))))))))))) 37 ∷ [];
  tree_is = refl;
  fits = (
    (
      (
        (
          (((((tt, λ operator e. cc), ((tt, λ operator e. cc), λ e. cc)), λ e. cc), λ e. cc), λ operator e. cc),
          λ e. cc,
        ),
        λ e. cc,
      ),
      λ e. cc,
    ),
    tt,
  );
  spells = refl;
  bounds = refl;
}

pub returns-clause-two_rules : goal.returns-clause-two_rules
returns-clause-two_rules c = record {
  phrase =
      rule 0 5 (codes "r") 6 (OneSide (OneCase (OnePart (OneOperand (Primary (Constant true 8)))))) 12 ∷ rule 14
      19 (codes "s") 20 (OneSide (OneCase (OnePart (OneOperand (Primary (Constant false 22)))))) 27 ∷ [];
  tree_is = refl;
  fits = (
    ((((tt, λ operator e. cc), λ e. cc), λ e. cc), λ e. cc),
    (
      (
        (((tt, λ operator e. cc), λ e. cc), λ e. cc),
        λ
            e. cc,
      ),
      tt,
    ),
  );
  spells = refl;
  bounds = refl;
}
