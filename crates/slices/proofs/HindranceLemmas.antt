-- The first of what is in the way of two parts, and what stands in the way of a cut.
use Rattle.std.proofs.Common.{◌≡◌, ◌⊎◌, ⊎_elim, inl, inr, Bool, true, false, cond, Option, None, Some, nat_le, arith, ◌≤◌, ◌<◌, ◌∙◌, sym, subst, List, ℕ}
use Rattle.std.proofs.lemmas.Bool.Decides.{leb_tells}
use Rattle.enf_data.specs.declared.terms.VarId.{VarId}
use Rattle.enf_formula.specs.declared.formulas.Formula.{Formula as Stored}
use Rattle.enf_formula.specs.machine.FormulaViews.{tree_of}
use Rattle.slices.specs.declared.hindrances.Hindrance.{Hindrance}
use Rattle.slices.specs.declared.verdicts.Verdict.{Verdict}
use Rattle.slices.specs.machine.FirstHindrances.{IsFirstAnswer, earlier_of}
use Rattle.slices.specs.meaning.Slices.{Keying}
use Rattle.slices.specs.meaning.SlicedRules.{HoldsForOthers, IsBodyInTheWay, IsInTheWay, IsOperandInTheWay, IsRuleInTheWay, key_variable}
use Rattle.slices.specs.declared.hindrances.Why.TheVariants.{Rule}
use Rattle.enf_formula.specs.meaning.Satisfaction.{Forall, Formula, formula_place}

pub either_first : (P Q : Hindrance → Type 0) (a b : Option Hindrance) → IsFirstAnswer P a → IsFirstAnswer Q b
    → IsFirstAnswer (λ h. P h ⊎ Q h) (earlier_of a b)
either_first P Q None None p q = λ h either. ⊎_elim (λ is. p h is) (λ is. q h is) either
either_first P Q None (Some g) p q =
    record { is_one = inr q.is_one; first = λ o either. ⊎_elim (λ is. absurd (p o is)) (λ is. q.first o is) either }
either_first P Q (Some h) None p q =
    record { is_one = inl p.is_one; first = λ o either. ⊎_elim (λ is. p.first o is) (λ is. absurd (q o is)) either }
either_first P Q (Some h) (Some g) p q = by (nat_le h.place g.place) (leb_tells h.place g.place)
  where
    by : (r : Bool) → ((r ≡ true) × (h.place ≤ g.place)) ⊎ ((r ≡ false) × (g.place < h.place))
        → IsFirstAnswer (λ o. P o ⊎ Q o) (cond r (Some h) (Some g))
    by r (inl tells) = subst (λ t. IsFirstAnswer (λ o. P o ⊎ Q o) (cond t (Some h) (Some g))) (sym tells.0) (record {
      is_one = inl p.is_one;
      first = λ o either. ⊎_elim (λ is. p.first o is) (λ is. let later = q.first o is in omega arith) either;
    })
    by r (inr tells) = subst (λ t. IsFirstAnswer (λ o. P o ⊎ Q o) (cond t (Some h) (Some g))) (sym tells.0) (record {
      is_one = inr q.is_one;
      first = λ o either. ⊎_elim (λ is. let later = p.first o is in omega arith) (λ is. q.first o is) either;
    })

-- the first of what is in the way of an operand and in it
pub operand_first : (keying : Keying) (x : VarId) (wanted : Verdict) (f g h : Stored) (a b r : Option Hindrance)
    → g ≡ f → IsFirstAnswer (IsOperandInTheWay keying (tree_of g) wanted) a
    → h ≡ f → IsFirstAnswer (IsInTheWay keying x (tree_of h)) b → r ≡ earlier_of a b
    → IsFirstAnswer (λ i. IsOperandInTheWay keying (tree_of f) wanted i ⊎ IsInTheWay keying x (tree_of f) i) r
operand_first keying x wanted f g h a b r first operand second inner is =
    subst (IsFirstAnswer (λ i. IsOperandInTheWay keying (tree_of f) wanted i ⊎ IsInTheWay keying x (tree_of f) i)) (sym is)
    (either_first (IsOperandInTheWay keying (tree_of f) wanted) (IsInTheWay keying x (tree_of f)) a b
    (subst (λ (k : Stored). IsFirstAnswer (IsOperandInTheWay keying (tree_of k) wanted) a) first operand)
    (subst (λ (k : Stored). IsFirstAnswer (IsInTheWay keying x (tree_of k)) b) second inner))

-- what a rule says of its variables may fail where nothing of the key happens
abbrev pub IsWholeInTheWay : Keying → Formula → Hindrance → Type 0
IsWholeInTheWay keying f h = (h ≡ record { place = formula_place f; why = Rule }) × (HoldsForOthers keying f → ⊥)

-- the first of what is in the way of a rule that has a key variable
pub rule_first : (keying : Keying) (place : ℕ) (xs : List VarId) (f : Formula) (x : VarId) (found : Option VarId) (a b : Option Hindrance)
    → found ≡ key_variable keying xs f → found ≡ Some x → IsFirstAnswer (IsWholeInTheWay keying f) a
    → IsFirstAnswer (IsInTheWay keying x f) b → IsFirstAnswer (IsRuleInTheWay keying (Forall place xs f)) (earlier_of a b)
rule_first keying place xs f x found a b key is whole inner =
    subst (λ (o : Option VarId). IsFirstAnswer (IsBodyInTheWay keying o (Forall place xs f) f) (earlier_of a b)) (sym is ∙ key)
    (either_first (IsWholeInTheWay keying f) (IsInTheWay keying x f) a b whole inner)
