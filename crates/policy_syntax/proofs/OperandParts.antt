-- A formula is its first operand and the optional parts after it.
use Rattle.policy_syntax.proofs.Vocabulary.{◌≡◌, ℕ, ◌+◌, List, ◌∷◌, refl, sym, ap, subst, ◌∙◌, Stack, stack_item, infix_on, and_on, or_on, formula_on, FormulaPhrase, OrPhrase, AndPhrase, InfixPhrase}
use Rattle.policy_syntax.proofs.Vocabulary.{OneSide, Implication, OneCase, Disjunction, OnePart, Conjunction, OneOperand, Between, formula_fold, or_fold, and_fold, infix_fold, unary_fold}
use Rattle.policy_syntax.proofs.Vocabulary.{interval_fold, FormulaFits, OrFits, AndFits, InfixFits, UnaryFits, PolicyLexeme, Symbol, Infix, Deep, deepen, And, Or, Arrow}
use Rattle.policy_syntax.proofs.StackMeanings.{Denotes, InfixRest, NoInfix, SomeInfix, Rest, Without, With, InfixRestFits, AndRestFits, OrRestFits, ArrowRestFits, infix_rest_fold, and_rest_fold}
use Rattle.policy_syntax.proofs.StackMeanings.{or_rest_fold, arrow_rest_fold, next_deep}
use Rattle.policy_syntax.specs.machine.Automaton as automaton

-- a phrase and what stands after it
pub record Joined {P : Type 0} (spelled : P → List Deep → List Deep) (Fits : P → PolicyLexeme → Type 0) (rest : Stack) (text : List Deep) : Type 0 where
  pub phrase : P
  pub after : List Deep
  pub spells : spelled phrase after ≡ text
  pub fits : Fits phrase (next_deep after)
  pub later : Denotes rest after

pub infix_split : (l s : ℕ) (rest : Stack) (f : InfixPhrase) (after : List Deep) → InfixFits f (next_deep after) → Denotes rest after → Denotes (infix_on l s rest) (infix_fold deepen l s f after)
infix_split l s rest (OneOperand u) after fits later =
    (after, record { phrase = u; spells = refl; fits = fits.0 }, (after, record { phrase = NoInfix; spells = refl; fits = fits.1 }, later))
infix_split l s rest (Between u operator place interval g) after fits later = (
  deepen l s place (Infix operator) (interval_fold deepen l s interval (unary_fold deepen (l + 1) s g after)),
  record { phrase = u; spells = refl; fits = fits.0 },
  (after, record { phrase = SomeInfix operator place interval g; spells = refl; fits = fits.1 }, later),
)

pub and_split : (l s : ℕ) (rest : Stack) (f : AndPhrase) (after : List Deep) → AndFits f (next_deep after) → Denotes rest after → Denotes (and_on l s rest) (and_fold deepen l s f after)
and_split l s rest (OnePart f) after fits later =
    infix_split l s (stack_item automaton.AndTail l s ∷ rest) f after fits.0 (after, record { phrase = Without; spells = refl; fits = fits.1 }, later)
and_split l s rest (Conjunction f place g) after fits later =
    infix_split l s (stack_item automaton.AndTail l s ∷ rest) f (deepen l s place (Symbol And) (and_fold deepen (l + 1) s g after)) fits.0
    (after, record { phrase = With place g; spells = refl; fits = fits.1 }, later)

pub or_split : (l s : ℕ) (rest : Stack) (f : OrPhrase) (after : List Deep) → OrFits f (next_deep after) → Denotes rest after → Denotes (or_on l s rest) (or_fold deepen l s f after)
or_split l s rest (OneCase f) after fits later =
    and_split l s (stack_item automaton.OrTail l s ∷ rest) f after fits.0 (after, record { phrase = Without; spells = refl; fits = fits.1 }, later)
or_split l s rest (Disjunction f place g) after fits later =
    and_split l s (stack_item automaton.OrTail l s ∷ rest) f (deepen l s place (Symbol Or) (or_fold deepen (l + 1) s g after)) fits.0
    (after, record { phrase = With place g; spells = refl; fits = fits.1 }, later)

pub formula_split : (l s : ℕ) (rest : Stack) (f : FormulaPhrase) (after : List Deep) → FormulaFits f (next_deep after) → Denotes rest after
    → Denotes (formula_on l s rest) (formula_fold deepen l s f after)
formula_split l s rest (OneSide f) after fits later =
    or_split l s (stack_item automaton.ArrowTail l s ∷ rest) f after fits.0 (after, record { phrase = Without; spells = refl; fits = fits.1 }, later)
formula_split l s rest (Implication f place g) after fits later =
    or_split l s (stack_item automaton.ArrowTail l s ∷ rest) f (deepen l s place (Symbol Arrow) (formula_fold deepen (l + 1) s g after)) fits.0
    (after, record { phrase = With place g; spells = refl; fits = fits.1 }, later)

pub infix_join : (l s : ℕ) (rest : Stack) (text : List Deep) → Denotes (infix_on l s rest) text → Joined (infix_fold deepen l s) InfixFits rest text
infix_join l s rest text (middle, u, (after, r, later)) = by r.phrase r.spells r.fits
  where
    by : (phrase : InfixRest) → infix_rest_fold l s phrase after ≡ middle → InfixRestFits phrase (next_deep after) → Joined (infix_fold deepen l s) InfixFits rest text
    by NoInfix e fits = record {
      phrase = OneOperand u.phrase;
      after = after;
      spells = ap (unary_fold deepen l s u.phrase) e ∙ u.spells;
      fits = (subst (λ (x : List Deep). UnaryFits u.phrase (next_deep x)) (sym e) u.fits, fits);
      later = later;
    }
    by (SomeInfix operator place interval g) e fits = record {
      phrase = Between u.phrase operator place interval g;
      after = after;
      spells = ap (unary_fold deepen l s u.phrase) e ∙ u.spells;
      fits = (subst (λ (x : List Deep). UnaryFits u.phrase (next_deep x)) (sym e) u.fits, fits);
      later = later;
    }

pub and_join : (l s : ℕ) (rest : Stack) (text : List Deep) → Denotes (and_on l s rest) text → Joined (and_fold deepen l s) AndFits rest text
and_join l s rest text denoted = by first.later.1.phrase first.later.1.spells first.later.1.fits
  where
    first : Joined (infix_fold deepen l s) InfixFits (stack_item automaton.AndTail l s ∷ rest) text
    first = infix_join l s (stack_item automaton.AndTail l s ∷ rest) text denoted

    by : (phrase : Rest AndPhrase) → and_rest_fold l s phrase first.later.0 ≡ first.after → AndRestFits phrase (next_deep first.later.0) → Joined (and_fold deepen l s) AndFits rest text
    by Without e fits = record {
      phrase = OnePart first.phrase;
      after = first.later.0;
      spells = ap (infix_fold deepen l s first.phrase) e ∙ first.spells;
      fits = (subst (λ (x : List Deep). InfixFits first.phrase (next_deep x)) (sym e) first.fits, fits);
      later = first.later.2;
    }
    by (With place g) e fits = record {
      phrase = Conjunction first.phrase place g;
      after = first.later.0;
      spells = ap (infix_fold deepen l s first.phrase) e ∙ first.spells;
      fits = (subst (λ (x : List Deep). InfixFits first.phrase (next_deep x)) (sym e) first.fits, fits);
      later = first.later.2;
    }

pub or_join : (l s : ℕ) (rest : Stack) (text : List Deep) → Denotes (or_on l s rest) text → Joined (or_fold deepen l s) OrFits rest text
or_join l s rest text denoted = by first.later.1.phrase first.later.1.spells first.later.1.fits
  where
    first : Joined (and_fold deepen l s) AndFits (stack_item automaton.OrTail l s ∷ rest) text
    first = and_join l s (stack_item automaton.OrTail l s ∷ rest) text denoted

    by : (phrase : Rest OrPhrase) → or_rest_fold l s phrase first.later.0 ≡ first.after → OrRestFits phrase (next_deep first.later.0) → Joined (or_fold deepen l s) OrFits rest text
    by Without e fits = record {
      phrase = OneCase first.phrase;
      after = first.later.0;
      spells = ap (and_fold deepen l s first.phrase) e ∙ first.spells;
      fits = (subst (λ (x : List Deep). AndFits first.phrase (next_deep x)) (sym e) first.fits, fits);
      later = first.later.2;
    }
    by (With place g) e fits = record {
      phrase = Disjunction first.phrase place g;
      after = first.later.0;
      spells = ap (and_fold deepen l s first.phrase) e ∙ first.spells;
      fits = (subst (λ (x : List Deep). AndFits first.phrase (next_deep x)) (sym e) first.fits, fits);
      later = first.later.2;
    }

pub formula_join : (l s : ℕ) (rest : Stack) (text : List Deep) → Denotes (formula_on l s rest) text → Joined (formula_fold deepen l s) FormulaFits rest text
formula_join l s rest text denoted = by first.later.1.phrase first.later.1.spells first.later.1.fits
  where
    first : Joined (or_fold deepen l s) OrFits (stack_item automaton.ArrowTail l s ∷ rest) text
    first = or_join l s (stack_item automaton.ArrowTail l s ∷ rest) text denoted

    by : (phrase : Rest FormulaPhrase) → arrow_rest_fold l s phrase first.later.0 ≡ first.after → ArrowRestFits phrase (next_deep first.later.0)
        → Joined (formula_fold deepen l s) FormulaFits rest text
    by Without e fits = record {
      phrase = OneSide first.phrase;
      after = first.later.0;
      spells = ap (or_fold deepen l s first.phrase) e ∙ first.spells;
      fits = (subst (λ (x : List Deep). OrFits first.phrase (next_deep x)) (sym e) first.fits, fits);
      later = first.later.2;
    }
    by (With place g) e fits = record {
      phrase = Implication first.phrase place g;
      after = first.later.0;
      spells = ap (or_fold deepen l s first.phrase) e ∙ first.spells;
      fits = (subst (λ (x : List Deep). OrFits first.phrase (next_deep x)) (sym e) first.fits, fits);
      later = first.later.2;
    }
