-- A plan means what the formula means that it makes true, and the denial of what it makes false.
use Rattle.enforce_types.proofs.Vocabulary.{◌≡◌, ℕ, ◌+◌, Bool, List, [], ◌∷◌, ◌++◌, length, take, drop, Some, Ok, arith, refl, sym, subst, NameId, Interval, Step, VarId, Value, Valuation, with_values}
use Rattle.enforce_types.proofs.Vocabulary.{length-append, length-take-le, length-drop, take-append-drop, Formula, Atom, Not, And, Or, Implies, Exists, Forall, Next, Eventually, Always, Until, Sat}
use Rattle.enforce_types.proofs.Vocabulary.{HoldsUntil, HoldsAnywhere, IsStable, AreEquivalent, formula_for, interval_from_to, Plan, Elab, Aim, Up, Down, UpForAll}
use Rattle.enforce_types.proofs.MadePlans.{not_refused, with_end, from_now}
use Rattle.enforce_types.proofs.RuleMeaning.{leaf_keeps, one_keeps, two_keep, one_of_two_keeps, exclusion_keeps, implication_keeps}
use Rattle.std.specs.FinMap as map
use Rattle.plan_terms.specs.meaning.Plans as plan

-- what a formula is made
abbrev pub Meant : Aim → Formula → Formula
Meant Up f = f
Meant Down f = Not 0 f
Meant (UpForAll place xs) f = Forall 0 xs f

-- values of two lists of variables in turn
pub in_turn : (xs ys : List VarId) (first second : List Value) (v : Valuation) → length first ≡ length xs → with_values (xs ++ ys) (first ++ second) v ≡ with_values ys second (with_values xs first v)
in_turn [] ys [] second v same = refl
in_turn [] ys (a ∷ first) second v same = absurd (omega arith)
in_turn (x ∷ xs) ys [] second v same = absurd (omega arith)
in_turn (x ∷ xs) ys (a ∷ first) second v same = in_turn xs ys first second (map.insert v x a) (omega arith)

-- `forall`s that are directly nested are one
pub nested : (xs ys : List VarId) (f : Formula) → AreEquivalent (Forall 0 (xs ++ ys) f) (Forall 0 xs (Forall 0 ys f))
nested xs ys f trace i v = (
  λ all values same others alike. subst (λ (w : Valuation). Sat trace i w f) (in_turn xs ys values others v same)
      (all (values ++ others) (omega (arith, length-append values others, length-append xs ys))),
  λ each values same.
      let n = length-append xs ys in
      let first : length (take (length xs) values) ≡ length xs = length-take-le (length xs) values (omega arith) in
      let rest : length (drop (length xs) values) ≡ length ys = omega (arith, length-drop (length xs) values) in
      subst (λ (vs : List Value). Sat trace i (with_values (xs ++ ys) vs v) f) (take-append-drop (length xs) values)
      (subst (λ (w : Valuation). Sat trace i w f) (sym
      (in_turn xs ys (take (length xs) values) (drop (length xs) values) v first))
      (each (take (length xs) values) first (drop (length xs) values) rest)),
)

-- `until` depends on what its sides hold at each position
pub holds_until : (trace : List Step) (i : ℕ) (interval : Interval) (F G F' G' : ℕ → Type 0)
    → ((k : ℕ) → F k → F' k) → ((j : ℕ) → G j → G' j) → HoldsUntil trace i interval F G
    → HoldsUntil trace i interval F' G'
holds_until trace i interval F G F' G' left right held none =
    held (λ some. none (some.0, some.1, some.2, some.3, right some.0 some.4, λ k from before. left k (some.5 k from before)))

-- an interval with an end
pub ends : (interval : Interval) (high : ℕ) → interval.high ≡ Some high → interval_from_to interval.low high ≡ interval
ends interval high is = λ i. record { low = interval.low; high = sym is i }

pub eventually_keeps : (p q : ℕ) (interval : Interval) (f g : Formula) → AreEquivalent f g → AreEquivalent (Eventually p interval f) (Eventually q interval g)
eventually_keeps p q interval f g same trace i v = (
  holds_until trace i interval HoldsAnywhere (λ j. Sat trace j v f) HoldsAnywhere (λ j. Sat trace j v g) (λ k h. h) (λ j. (same trace j v).0),
  holds_until trace i interval HoldsAnywhere (λ j. Sat trace j v g) HoldsAnywhere (λ j. Sat trace j v f) (λ k h. h) (λ j. (same trace j v).1),
)

pub always_keeps : (p q : ℕ) (interval : Interval) (f g : Formula) → AreEquivalent f g → AreEquivalent (Always p interval f) (Always q interval g)
always_keeps p q interval f g same trace i v = (
  λ each some. each (holds_until trace i interval HoldsAnywhere (λ j. Sat trace j v g → ⊥) HoldsAnywhere (λ j. Sat trace j v f → ⊥) (λ k h. h) (λ j n h. n ((same trace j v).0 h)) some),
  λ each some. each (holds_until trace i interval HoldsAnywhere (λ j. Sat trace j v f → ⊥) HoldsAnywhere (λ j. Sat trace j v g → ⊥) (λ k h. h) (λ j n h. n ((same trace j v).1 h)) some),
)

pub until_keeps : (p q : ℕ) (interval : Interval) (f g f' g' : Formula) → AreEquivalent f f' → AreEquivalent g g' → AreEquivalent (Until p interval f g) (Until q interval f' g')
until_keeps p q interval f g f' g' left right trace i v = (
  holds_until trace i interval (λ k. Sat trace k v f) (λ j. Sat trace j v g) (λ k. Sat trace k v f') (λ j. Sat trace j v g') (λ k. (left trace k v).0) (λ j. (right trace j v).0),
  holds_until trace i interval (λ k. Sat trace k v f') (λ j. Sat trace j v g') (λ k. Sat trace k v f) (λ j. Sat trace j v g) (λ k. (left trace k v).1) (λ j. (right trace j v).1),
)

pub next_keeps : (p q : ℕ) (interval : Interval) (f g : Formula) → AreEquivalent f g → AreEquivalent (Next p interval f) (Next q interval g)
next_keeps p q interval f g same trace i v = (λ h. (h.0, h.1, (same trace (i + 1) v).0 h.2), λ h. (h.0, h.1, (same trace (i + 1) v).1 h.2))

-- a plan for the denial of an operand
pub eventually_denied : (p q : ℕ) (interval : Interval) (f g : Formula) → AreEquivalent f (Not 0 g) → AreEquivalent (Eventually p interval f) (Not 0 (Always q interval g))
eventually_denied p q interval f g same trace i v = (
  λ some each. each (holds_until trace i interval HoldsAnywhere (λ j. Sat trace j v f) HoldsAnywhere (λ j. Sat trace j v g → ⊥) (λ k h. h) (λ j. (same trace j v).0) some),
  λ not_each none. not_each (λ some. some (λ found. none (found.0, found.1, found.2, found.3, (same trace found.0 v).1 found.4, found.5))),
)

module _ (stable : (trace : List Step) (i : ℕ) (v : Valuation) (f : Formula) → IsStable (Sat trace i v f)) where
  always_denied : (p q : ℕ) (interval : Interval) (f g : Formula) → AreEquivalent f (Not 0 g) → AreEquivalent (Always p interval f) (Not 0 (Eventually q interval g))
  always_denied p q interval f g same trace i v = (
    λ each some. each (holds_until trace i interval HoldsAnywhere (λ j. Sat trace j v g) HoldsAnywhere (λ j. Sat trace j v f → ⊥) (λ k h. h) (λ j h d. (same trace j v).0 d h) some),
    λ none some. none (holds_until trace i interval HoldsAnywhere (λ j. Sat trace j v f → ⊥) HoldsAnywhere
        (λ j. Sat trace j v g) (λ k h. h) (λ j n. stable trace j v g (λ fails. n ((same trace j v).1 fails)))
        some),
  )

  pub kept : (c s : NameId → Bool) (aim : Aim) (f : Formula) (scope : List VarId) (p : Plan) → Elab c s aim f scope (Ok p) → AreEquivalent (formula_for p) (Meant aim f)
  kept c s Up (Atom place name terms) scope p e = leaf_keeps (c name) place (plan.CausePlan 0 place name terms) p (λ f. AreEquivalent f (Atom place name terms)) e (λ trace i v. (λ h. h, λ h. h))
  kept c s Up (Not place g) scope p e = λ trace i v. kept c s Down g scope p e trace i v
  kept c s Up (And place g h) scope p e =
      two_keep _ _ (plan.Both 0) p (λ f. AreEquivalent f (And place g h)) e (λ l r a b trace i v. (
        λ both. ((kept c s Up g scope l a trace i v).0 both.0, (kept c s Up h scope r b trace i v).0 both.1),
        λ both. ((kept c s Up g scope l a trace i v).1 both.0, (kept c s Up h scope r b trace i v).1 both.1),
      ))
  kept c s Up (Or place g h) scope p e = one_of_two_keeps scope g h (Elab c s Up g scope) (Elab c s Up h scope) p e (kept c s Up g scope) (kept c s Up h scope)
  kept c s Up (Implies place g h) scope p e = λ trace i v.
      let all = implication_keeps stable place place scope [] g h (Elab c s Down g) (Elab c s Up h) p e (kept c s Down g) (kept c s Up h) trace i v in
      (λ holds. all.0 holds [] refl, λ implies. all.1 (λ values same. implies))
  kept c s Up (Forall place xs g) scope p e = λ trace i v. kept c s (UpForAll place xs) g scope p e trace i v
  kept c s Up (Eventually place interval g) scope p e =
      let w = with_end place interval.high _ p e in
      one_keeps _ (plan.EventuallyPlan 0 place interval.low w.0) p
      (λ f. AreEquivalent f (Eventually place interval g)) w.2
      (λ q a. subst (λ (I : Interval). AreEquivalent (Eventually place I (formula_for q))
      (Eventually place interval g)) (sym (ends interval w.0 w.1))
      (eventually_keeps place place interval (formula_for q) g (kept c s Up g scope q a)))
  kept c s Up (Always place interval g) scope p e =
      let w = with_end place interval.high _ p e in
      one_keeps _ (plan.AlwaysPlan 0 place interval.low w.0) p (λ f. AreEquivalent f (Always place interval g)) w.2
      (λ q a. subst (λ (I : Interval). AreEquivalent (Always place I (formula_for q))
      (Always place interval g)) (sym (ends interval w.0 w.1))
      (always_keeps place place interval (formula_for q) g (kept c s Up g scope q a)))
  kept c s Up (Until place interval g h) scope p e =
      let w = with_end place interval.high _ p e in
      two_keep _ _ (plan.UntilPlan 0 place interval.low w.0) p (λ f. AreEquivalent f (Until place interval g h)) w.2
      (λ l r a b. subst (λ (I : Interval). AreEquivalent (Until place I (formula_for l) (formula_for r))
      (Until place interval g h)) (sym (ends interval w.0 w.1))
      (until_keeps place place interval (formula_for l) (formula_for r) g h (kept c s Up g scope l a)
      (kept c s Up h scope r b)))
  kept c s Up (Next place interval g) scope p e =
      let w = from_now place interval.low interval.high _ p e in
      one_keeps _ (plan.NextPlan 0 place w.0) p (λ f. AreEquivalent f (Next place interval g)) w.3
      (λ q a. subst (λ (I : Interval). AreEquivalent (Next place I (formula_for q)) (Next place interval g))
      (λ i. record { low = w.1 i; high = w.2 i }) (next_keeps place place interval (formula_for q) g
      (kept c s Up g scope q a)))
  kept c s Down (Atom place name terms) scope p e = leaf_keeps (s name) place (plan.SuppressPlan 0 place name terms)
      p (λ f. AreEquivalent f (Not 0 (Atom place name terms))) e (λ trace i v. (λ h. h, λ h. h))
  kept c s Down (Not place g) scope p e = λ trace i v. (
    λ holds denied. denied ((kept c s Up g scope p e trace i v).0 holds),
    λ not_denied. (kept c s Up g scope p e trace i v).1 (stable trace i v g not_denied),
  )
  kept c s Down (And place g h) scope p e = λ trace i v.
      let one = one_of_two_keeps scope (Not _ g) (Not _ h) (Elab c s Down g scope) (Elab c s Down h scope) p e (kept c s Down g scope) (kept c s Down h scope) trace i v in
      (λ holds both. one.0 holds (λ n. n both.0) (λ n. n both.1), λ not_both. one.1 (λ n m. n (λ a. m (λ b. not_both (a, b)))))
  kept c s Down (Or place g h) scope p e =
      two_keep _ _ (plan.Both 0) p (λ f. AreEquivalent f (Not 0 (Or place g h))) e (λ l r a b trace i v. (
        λ both either. either ((kept c s Down g scope l a trace i v).0 both.0) ((kept c s Down h scope r b trace i v).0 both.1),
        λ neither. ((kept c s Down g scope l a trace i v).1 (λ holds. neither (λ n m. n holds)), (kept c s Down h scope r b trace i v).1 (λ holds. neither (λ n m. m holds))),
      ))
  kept c s Down (Implies place g h) scope p e =
      two_keep _ _ (plan.Both 0) p (λ f. AreEquivalent f (Not 0 (Implies place g h))) e (λ l r a b trace i v. (
        λ both implies. (kept c s Down h scope r b trace i v).0 both.1 (implies ((kept c s Up g scope l a trace i v).0 both.0)),
        λ fails. ((kept c s Up g scope l a trace i v).1 (stable trace i v g (λ n. fails (λ holds. absurd (n holds)))), (kept c s Down h scope r b trace i v).1 (λ holds. fails (λ _. holds))),
      ))
  kept c s Down (Exists place xs g) scope p e = λ trace i v.
      let none = exclusion_keeps place scope xs g (Elab c s Down g) p e (kept c s Down g) trace i v in
      (λ holds some. some (λ found. none.0 holds found.0 found.1 found.2), λ not_some. none.1 (λ values same holds. not_some (λ n. n (values, same, holds))))
  kept c s Down (Eventually place interval g) scope p e =
      let w = with_end place interval.high _ p e in
      one_keeps _ (plan.AlwaysPlan 0 place interval.low w.0) p
      (λ f. AreEquivalent f (Not 0 (Eventually place interval g))) w.2
      (λ q a. subst (λ (I : Interval). AreEquivalent (Always place I (formula_for q))
      (Not 0 (Eventually place interval g))) (sym (ends interval w.0 w.1))
      (always_denied place place interval (formula_for q) g (kept c s Down g scope q a)))
  kept c s Down (Always place interval g) scope p e =
      let w = with_end place interval.high _ p e in
      one_keeps _ (plan.EventuallyPlan 0 place interval.low w.0) p
      (λ f. AreEquivalent f (Not 0 (Always place interval g))) w.2
      (λ q a. subst (λ (I : Interval). AreEquivalent (Eventually place I (formula_for q))
      (Not 0 (Always place interval g))) (sym (ends interval w.0 w.1))
      (eventually_denied place place interval (formula_for q) g (kept c s Down g scope q a)))
  kept c s (UpForAll first xs) (Forall place ys g) scope p e = λ trace i v.
      let all = kept c s (UpForAll first (xs ++ ys)) g scope p e trace i v in
      let one = nested xs ys g trace i v in
      (λ holds. one.0 (all.0 holds), λ each. all.1 (one.1 each))
  kept c s (UpForAll first xs) (Implies place g h) scope p e =
      implication_keeps stable first place scope xs g h (Elab c s Down g) (Elab c s Up h) p e (kept c s Down g) (kept c s Up h)
  kept c s (UpForAll first xs) (Not place g) scope p e = exclusion_keeps first scope xs g (Elab c s Down g) p e (kept c s Down g)
  kept c s (UpForAll first xs) f scope p e = absurd (not_refused p _ e)
  kept c s aim f scope p e = absurd (not_refused p _ e)
