-- Nothing is in the way of a rule where it is of one key, and only there.
use Rattle.slices.proofs.Vocabulary.{◌≡◌, ◌↔◌, ⊎_elim, inl, inr, ℕ, List, Option, None, Some, refl, sym, ap, subst, ◌∙◌, none-some, same_Some, eqb_tells, slice_get, Formula, True, False, Atom, Equal, Less, AtMost, Not}
use Rattle.slices.proofs.Vocabulary.{And, Or, Implies, Exists, Forall, Prev, Next, Once, Historically, Since, Eventually, Always, Until, formula_place, Term, Var, Const, VarId, variable_is, Verdict, Holds, Fails, Open, AtStep, InTrace}
use Rattle.slices.proofs.Vocabulary.{HasKeyTerm, IsOfOneKey, IsSlicedRule, key_variable, Keying, verdict_of}
use Rattle.slices.specs.declared.hindrances.Hindrance.{Hindrance}
use Rattle.slices.specs.declared.hindrances.Why.TheVariants.{NoKey, OtherKey, Bound, Neighbour, Operand, Rule}
use Rattle.slices.specs.machine.FirstHindrances.{IsFirstAnswer}
use Rattle.slices.specs.machine.Laws.{NothingIsInTheWay}
use Rattle.slices.specs.meaning.SlicedRules.{IsBodyInTheWay, IsInTheWay, IsRuleInTheWay}
use Rattle.std.specs.Option.{IfNone, OnSome}

verdict_stable : (d wanted : Verdict) → ((d ≡ wanted → ⊥) → ⊥) → d ≡ wanted
verdict_stable Holds Holds h = refl
verdict_stable Holds Fails h = absurd (h (λ e. cc))
verdict_stable Holds Open h = absurd (h (λ e. cc))
verdict_stable Fails Holds h = absurd (h (λ e. cc))
verdict_stable Fails Fails h = refl
verdict_stable Fails Open h = absurd (h (λ e. cc))
verdict_stable Open Holds h = absurd (h (λ e. cc))
verdict_stable Open Fails h = absurd (h (λ e. cc))
verdict_stable Open Open h = refl

term_stable : (term : Option Term) (x : VarId) → ((term ≡ Some (Var x) → ⊥) → ⊥) → term ≡ Some (Var x)
term_stable None x h = absurd (h (λ e. none-some (Var x) e))
term_stable (Some (Const value)) x h = absurd (h (λ e. cc))
term_stable (Some (Var y)) x h =
    ⊎_elim (λ same i. Some (Var (record { 0 = same.1 i })))
    (λ other. absurd (h (λ e. other.1 (ap (λ z. z.0) (variable_is y x (same_Some (Var y) (Var x) e))))))
    (eqb_tells y.0 x.0)

key_term_stable : (column : Option ℕ) (terms : List Term) (x : VarId) → ((HasKeyTerm column terms x → ⊥) → ⊥) → HasKeyTerm column terms x
key_term_stable None terms x h = tt
key_term_stable (Some column) terms x h = term_stable (slice_get terms column) x h

module _ (keying : Keying) (x : VarId) where
  clear : (f : Formula) → ((h : Hindrance) → IsInTheWay keying x f h → ⊥) → IsOfOneKey keying x f
  clear (True place) none = tt
  clear (False place) none = tt
  clear (Atom place name terms) none =
      key_term_stable (keying name) terms x (λ other. none (record { place = place; why = OtherKey }) (refl, other))
  clear (Equal place s t) none = tt
  clear (Less place s t) none = tt
  clear (AtMost place s t) none = tt
  clear (Not place f) none = clear f none
  clear (And place f g) none = (clear f (λ h is. none h (inl is)), clear g (λ h is. none h (inr is)))
  clear (Or place f g) none = (clear f (λ h is. none h (inl is)), clear g (λ h is. none h (inr is)))
  clear (Implies place f g) none = (clear f (λ h is. none h (inl is)), clear g (λ h is. none h (inr is)))
  clear (Exists place xs f) none =
      (λ there. none (record { place = place; why = Bound }) (inl (refl, there)), clear f (λ h is. none h (inr is)))
  clear (Forall place xs f) none =
      (λ there. none (record { place = place; why = Bound }) (inl (refl, there)), clear f (λ h is. none h (inr is)))
  clear (Prev place interval f) none = none (record { place = place; why = Neighbour }) (inl refl)
  clear (Next place interval f) none = none (record { place = place; why = Neighbour }) (inl refl)
  clear (Once place interval f) none = (
    verdict_stable (verdict_of AtStep keying f) Fails (λ wrong. none (record { place = formula_place f; why = Operand }) (inl (refl, wrong))),
    clear f (λ h is. none h (inr is)),
  )
  clear (Historically place interval f) none = (
    verdict_stable (verdict_of AtStep keying f) Holds (λ wrong. none (record { place = formula_place f; why = Operand }) (inl (refl, wrong))),
    clear f (λ h is. none h (inr is)),
  )
  clear (Since place interval f g) none = (
    (
      verdict_stable (verdict_of AtStep keying f) Holds (λ wrong. none (record { place = formula_place f; why = Operand }) (inl (inl (refl, wrong)))),
      clear f (λ h is. none h (inl (inr is))),
    ),
    (
      verdict_stable (verdict_of AtStep keying g) Fails (λ wrong. none (record { place = formula_place g; why = Operand }) (inr (inl (refl, wrong)))),
      clear g (λ h is. none h (inr (inr is))),
    ),
  )
  clear (Eventually place interval f) none = (
    verdict_stable (verdict_of AtStep keying f) Fails (λ wrong. none (record { place = formula_place f; why = Operand }) (inl (refl, wrong))),
    clear f (λ h is. none h (inr is)),
  )
  clear (Always place interval f) none = (
    verdict_stable (verdict_of AtStep keying f) Holds (λ wrong. none (record { place = formula_place f; why = Operand }) (inl (refl, wrong))),
    clear f (λ h is. none h (inr is)),
  )
  clear (Until place interval f g) none = (
    (
      verdict_stable (verdict_of AtStep keying f) Holds (λ wrong. none (record { place = formula_place f; why = Operand }) (inl (inl (refl, wrong)))),
      clear f (λ h is. none h (inl (inr is))),
    ),
    (
      verdict_stable (verdict_of AtStep keying g) Fails (λ wrong. none (record { place = formula_place g; why = Operand }) (inr (inl (refl, wrong)))),
      clear g (λ h is. none h (inr (inr is))),
    ),
  )

  refuted : (f : Formula) → IsOfOneKey keying x f → (h : Hindrance) → IsInTheWay keying x f h → ⊥
  refuted (True place) one h is = is
  refuted (False place) one h is = is
  refuted (Atom place name terms) one h is = is.1 one
  refuted (Equal place s t) one h is = is
  refuted (Less place s t) one h is = is
  refuted (AtMost place s t) one h is = is
  refuted (Not place f) one h is = refuted f one h is
  refuted (And place f g) one h is = ⊎_elim (λ l. refuted f one.0 h l) (λ r. refuted g one.1 h r) is
  refuted (Or place f g) one h is = ⊎_elim (λ l. refuted f one.0 h l) (λ r. refuted g one.1 h r) is
  refuted (Implies place f g) one h is = ⊎_elim (λ l. refuted f one.0 h l) (λ r. refuted g one.1 h r) is
  refuted (Exists place xs f) one h is = ⊎_elim (λ b. one.0 b.1) (λ i. refuted f one.1 h i) is
  refuted (Forall place xs f) one h is = ⊎_elim (λ b. one.0 b.1) (λ i. refuted f one.1 h i) is
  refuted (Prev place interval f) one h is = one
  refuted (Next place interval f) one h is = one
  refuted (Once place interval f) one h is = ⊎_elim (λ o. o.1 one.0) (λ i. refuted f one.1 h i) is
  refuted (Historically place interval f) one h is = ⊎_elim (λ o. o.1 one.0) (λ i. refuted f one.1 h i) is
  refuted (Since place interval f g) one h is =
      ⊎_elim (λ l. ⊎_elim (λ o. o.1 one.0.0) (λ i. refuted f one.0.1 h i) l) (λ r. ⊎_elim (λ o. o.1 one.1.0) (λ i. refuted g one.1.1 h i) r) is
  refuted (Eventually place interval f) one h is = ⊎_elim (λ o. o.1 one.0) (λ i. refuted f one.1 h i) is
  refuted (Always place interval f) one h is = ⊎_elim (λ o. o.1 one.0) (λ i. refuted f one.1 h i) is
  refuted (Until place interval f g) one h is =
      ⊎_elim (λ l. ⊎_elim (λ o. o.1 one.0.0) (λ i. refuted f one.0.1 h i) l) (λ r. ⊎_elim (λ o. o.1 one.1.0) (λ i. refuted g one.1.1 h i) r) is

body_clear : (keying : Keying) (place : ℕ) (xs : List VarId) (f : Formula) (o : Option VarId) → key_variable keying xs f ≡ o
    → ((h : Hindrance) → IsBodyInTheWay keying o (Forall place xs f) f h → ⊥) ↔ IsSlicedRule keying (Forall place xs f)
body_clear keying place xs f None found = (
  λ none. absurd (none (record { place = place; why = NoKey }) refl),
  λ sliced h is. none-some sliced.0 (sym found ∙ sliced.1),
)
body_clear keying place xs f (Some x) found = (
  λ none. (
    x,
    found,
    clear keying x f (λ h is. none h (inr is)),
    (
      verdict_stable (verdict_of AtStep keying f) Holds (λ wrong. none (record { place = formula_place f; why = Rule }) (inl (refl, λ holds. wrong holds.0))),
      verdict_stable (verdict_of InTrace keying f) Holds (λ wrong. none (record { place = formula_place f; why = Rule }) (inl (refl, λ holds. wrong holds.1))),
    ),
  ),
  λ sliced h is.
      ⊎_elim (λ rule. rule.1 sliced.3)
      (λ inner. refuted keying x f (subst (λ z. IsOfOneKey keying z f) (same_Some sliced.0 x (sym sliced.1 ∙ found)) sliced.2) h inner) is,
)

pub nothing_is_in_the_way : NothingIsInTheWay
nothing_is_in_the_way keying (Forall place xs f) = body_clear keying place xs f (key_variable keying xs f) refl
nothing_is_in_the_way keying rule =
    (λ none. none (record { place = formula_place rule; why = NoKey }) refl, λ sliced. absurd sliced)

-- what an answer on a rule tells
pub none_tells : (keying : Keying) (rule : Formula) (answer : Option Hindrance) → IsFirstAnswer (IsRuleInTheWay keying rule) answer
    → IfNone answer (IsSlicedRule keying rule)
none_tells keying rule None is = (nothing_is_in_the_way keying rule).0 is
none_tells keying rule (Some h) is = tt

pub some_tells : (keying : Keying) (rule : Formula) (answer : Option Hindrance) → IsFirstAnswer (IsRuleInTheWay keying rule) answer
    → OnSome answer (IsSlicedRule keying rule → ⊥)
some_tells keying rule None is = tt
some_tells keying rule (Some h) is = λ sliced. (nothing_is_in_the_way keying rule).1 sliced h is.is_one
