-- The sample policy is read under the sample signature.
use Rattle.std.proofs.Common.{List, [], ◌∷◌, None, Some, Ok, codes, refl, lit≤}
use Rattle.policy_syntax.specs.meaning.Phrases.{Before, Between, Event, Implication, LastTerm, LastVariable, Negation, OneCase, OneOperand, OnePart, OneSide, Parenthesis, Primary, Quantified}
use Rattle.policy_syntax.specs.meaning.Phrases.{RulePhrase, Variable}
use Rattle.policy_syntax.specs.meaning.Grammar.{PolicyFits, policy_tree, IsPolicyText}
use Rattle.policy_syntax.specs.meaning.Trees.{IsPolicy}
use Rattle.formula_reader.specs.meaning.PolicyAnswers.{IsPolicyAnswer}
use Rattle.log_gen.specs.machine.SampleTexts.{policy_text}
use Rattle.log_gen.specs.meaning.Samples.{sample_entries, sample_rules}
use Rattle.log_gen.proofs.SampleSignature.{are_distinct, distinct-HasNoRepeats}
use Rattle.policy_syntax.specs.declared.lexemes.Infix.TheVariants as infix_words
use Rattle.policy_syntax.specs.declared.lexemes.Prefix.TheVariants as prefix_words
use Rattle.policy_syntax.specs.declared.lexemes.Quantifier.TheVariants as quantifier_words

abbrev consent_phrase : RulePhrase
consent_phrase = record {
  place = 0;
  name_place = 5;
  name = codes "consent";
  colon = 12;
  formula = OneSide (OneCase (OnePart (OneOperand (Quantified quantifier_words.Forall 14 (LastVariable (record { place = 21; name = codes "u" })) 22
      (Implication (OneCase (OnePart (OneOperand (Primary (Event 24 (codes "use") (record { open_paren = 27; terms = Some (LastTerm (Variable 28 (codes "u"))); close_paren = 29 })))))) 31
      (OneSide (OneCase (OnePart (OneOperand (Before prefix_words.Once 34 (record {
        open_bracket = 38;
        low_place = 39;
        low = 0;
        comma = 40;
        high_place = 41;
        high = None;
        close_bracket = 42;
      }) (Primary (Event 44 (codes "consent") (record { open_paren = 51; terms = Some (LastTerm (Variable 52 (codes "u"))); close_paren = 53 })))))))))))));
  semicolon = 54;
}

abbrev erase_phrase : RulePhrase
erase_phrase = record {
  place = 56;
  name_place = 61;
  name = codes "erase";
  colon = 66;
  formula = OneSide (OneCase (OnePart (OneOperand (Quantified quantifier_words.Forall 68 (LastVariable (record { place = 75; name = codes "u" })) 76
      (Implication (OneCase (OnePart (OneOperand (Primary (Event 78 (codes "request") (record { open_paren = 85; terms = Some (LastTerm (Variable 86 (codes "u"))); close_paren = 87 }))))))
      89 (OneSide (OneCase (OnePart (OneOperand (Before prefix_words.Eventually 92 (record
      { open_bracket = 102; low_place = 103; low = 0; comma = 104; high_place = 105; high = Some 30; close_bracket = 107 })
      (Primary (Event 109 (codes "delete") (record { open_paren = 115; terms = Some (LastTerm (Variable 116 (codes "u"))); close_paren = 117 })))))))))))));
  semicolon = 118;
}

abbrev hold_phrase : RulePhrase
hold_phrase = record {
  place = 120;
  name_place = 125;
  name = codes "hold";
  colon = 129;
  formula = OneSide (OneCase (OnePart (OneOperand (Quantified quantifier_words.Forall 131 (LastVariable (record { place = 138; name = codes "u" })) 139
      (Implication (OneCase (OnePart (OneOperand (Primary (Event 141 (codes "lock") (record { open_paren = 145; terms = Some (LastTerm (Variable 146 (codes "u"))); close_paren = 147 }))))))
      149
      (OneSide
      (OneCase
      (OnePart
      (Between
      (Primary
      (Parenthesis 152
      (OneSide (OneCase (OnePart (OneOperand (Negation 153 (Primary (Event 157 (codes "use")
      (record { open_paren = 160; terms = Some (LastTerm (Variable 161 (codes "u"))); close_paren = 162 })))))))) 163)) infix_words.Until 165
      (record { open_bracket = 170; low_place = 171; low = 0; comma = 172; high_place = 173; high = Some 10; close_bracket = 175 })
      (Primary (Event 177 (codes "unlock") (record { open_paren = 183; terms = Some (LastTerm (Variable 184 (codes "u"))); close_paren = 185 }))))))))))));
  semicolon = 186;
}

abbrev phrases : List RulePhrase
phrases = consent_phrase ∷ erase_phrase ∷ hold_phrase ∷ []

they_fit : PolicyFits phrases
they_fit = (
  ((((((((tt, λ operator e. cc), λ e. cc), λ e. cc), ((((tt, λ operator e. cc), λ e. cc), λ e. cc), λ e. cc)), λ operator e. cc), λ e. cc), λ e. cc), λ e. cc),
  (
    ((((((((tt, λ operator e. cc), λ e. cc), λ e. cc), ((((tt, λ operator e. cc), λ e. cc), λ e. cc), λ e. cc)), λ operator e. cc), λ e. cc), λ e. cc), λ e. cc),
    (
      (
        (
          (
            (((((tt, λ operator e. cc), λ e. cc), λ e. cc), ((((((((tt, λ operator e. cc), λ e. cc), λ e. cc), λ e. cc), tt), λ e. cc), λ e. cc), λ e. cc)), λ operator e. cc),
            λ e.
                cc,
          ),
          λ e. cc,
        ),
        λ e. cc,
      ),
      tt,
    ),
  ),
)

within_limits : IsPolicy (policy_tree phrases)
unfolding are_distinct
within_limits = record {
  few = lit≤ tt;
  each = (
    record { short = lit≤ tt; small = lit≤ tt; kept = (lit≤ tt, (lit≤ tt, tt), ((lit≤ tt, (lit≤ tt, tt)), (lit≤ tt, (lit≤ tt, (lit≤ tt, tt))))) },
    (
      record { short = lit≤ tt; small = lit≤ tt; kept = (lit≤ tt, (lit≤ tt, tt), ((lit≤ tt, (lit≤ tt, tt)), ((lit≤ tt, lit≤ tt), (lit≤ tt, (lit≤ tt, tt))))) },
      (
        record { short = lit≤ tt; small = lit≤ tt; kept = (lit≤ tt, (lit≤ tt, tt), ((lit≤ tt, (lit≤ tt, tt)), ((lit≤ tt, lit≤ tt), (lit≤ tt, (lit≤ tt, tt)), (lit≤ tt, (lit≤ tt, tt))))) },
        tt,
      ),
    ),
  );
  distinct = distinct-HasNoRepeats (codes "consent" ∷ codes "erase" ∷ codes "hold" ∷ []) refl;
}

is_text : IsPolicyText policy_text (policy_tree phrases)
is_text = record { read = record { phrase = phrases; tree_is = refl; fits = they_fit; spells = refl; bounds = refl }; within = within_limits }

pub policy_is_read : IsPolicyAnswer sample_entries policy_text (Ok sample_rules)
policy_is_read = record { passed = Ok (policy_tree phrases); read = is_text; follows = (refl, refl) }
