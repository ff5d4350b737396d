-- Each node of a plan that is made for a formula of a policy keeps to what is asked of plans.
use Rattle.enforce_types.proofs.Vocabulary.{◌≡◌, ℕ, ◌+◌, ◌≤◌, Bool, true, false, IsTrue, List, [], ◌++◌, length, Option, Some, Ok, Contains, ◌⊎◌, ⊎_elim, refl, sym, ap, subst, ◌∙◌, arith}
use Rattle.enforce_types.proofs.Vocabulary.{append_assoc, append-nil, Contains-append_left, variable_cmp, NameId, MOST_INTERVAL_END, VarId, Formula, Atom, Not, And, Or, Implies, Exists, Forall, Next}
use Rattle.enforce_types.proofs.Vocabulary.{Eventually, Always, Until, IsFree, formula_place, free_in_scope, scoped_fresh, IsScopedFormula, formula_size, IsPolicyFormula, FreeWithin, GuardBindsFresh}
use Rattle.enforce_types.proofs.Vocabulary.{EndsInTime, OfGuard, EndsLater, LooksBelow, Plan, Both, Either, TestOr, Guarded, AtEach, IsScopedNode, EndsFit, NameEntry, LeafWhere, ImplicationAnswer}
use Rattle.enforce_types.proofs.Vocabulary.{Exclusion, Elab, Aim, Up, Down, UpForAll, renumber, FillsColumns}
use Rattle.std.specs.List.Sorted.{IsStrictlySortedBy}
use Rattle.enforce_types.proofs.FormulaNames.{names_below}
use Rattle.enforce_types.proofs.MadePlans.{by_made, by_one, by_two, by_one_of_two, by_exclusion, by_implication, with_end, from_now, not_refused}
use Rattle.plan_terms.specs.meaning.Plans as plan

abbrev Rising : List VarId → Type 0
Rising scope = IsStrictlySortedBy variable_cmp scope

module _ (entries : List NameEntry) (c s : NameId → Bool) (most : ℕ) where
  abbrev pub IsSmallTest : Formula × List VarId → Type 0
  IsSmallTest guard = formula_size guard.0 ≤ most + 1

  -- what a leaf does may be done
  abbrev pub MayBeDone : Plan → Type 0
  MayBeDone (plan.CausePlan node place name terms) = IsTrue (c name)
  MayBeDone (plan.SuppressPlan node place name terms) = IsTrue (s name)
  MayBeDone p = Unit {0}

  -- what is asked of each node
  abbrev pub IsFine : Plan → List VarId → Type 0
  IsFine p scope = IsScopedNode p scope × OfGuard GuardBindsFresh p scope × OfGuard (LooksBelow (length entries)) p scope
      × OfGuard IsSmallTest p scope × EndsInTime p × MayBeDone p × FillsColumns entries p × EndsLater p

  abbrev pub AreFine : Plan → List VarId → Type 0
  AreFine p scope = AtEach IsFine p scope

  -- what is known of a formula with the variables in scope
  abbrev pub IsGiven : Formula → List VarId → Type 0
  IsGiven f scope = IsScopedFormula f scope × ((k : ℕ) × IsPolicyFormula entries k f) × (formula_size f ≤ most) × Rising scope

  -- for all values of some variables: with these in scope too
  abbrev pub IsGivenFor : Aim → Formula → List VarId → Type 0
  IsGivenFor Up f scope = IsGiven f scope
  IsGivenFor Down f scope = IsGiven f scope
  IsGivenFor (UpForAll first xs) f scope = IsGiven f (scope ++ xs)

  -- a guard or test
  abbrev IsGoodTest : Formula → List VarId → List VarId → Type 0
  IsGoodTest g scope all = FreeWithin g (Contains all) × GuardBindsFresh (g, scope) × LooksBelow (length entries) (g, scope) × IsSmallTest (g, scope)

  good_test : (g : Formula) (scope all : List VarId) (k : ℕ)
      → ((x : VarId) → Contains scope x → Contains all x) → IsScopedFormula g all
      → IsPolicyFormula entries k g → formula_size g ≤ most + 1 → IsGoodTest g scope all
  good_test g scope all k within scoped formed small = (
    λ x free. free_in_scope g all scoped x free,
    scoped_fresh g all (λ x. Contains scope x ⊎ IsFree x g) (λ x e. ⊎_elim (λ there. within x there) (λ free. free_in_scope g all scoped x free) e) scoped,
    names_below entries k g formed,
    small,
  )

  fine_test : (g : Formula) (q : Plan) (scope : List VarId) → IsGoodTest g scope scope → AreFine q scope → AreFine (TestOr 0 0 g q) scope
  fine_test g q scope good each = ((good.0, good.1, good.2, good.3, tt, tt, tt, tt), each)

  fine_guard : (g : Formula) (q : Plan) (scope xs : List VarId) → Rising (scope ++ xs) → IsGoodTest g scope (scope ++ xs) → AreFine q (scope ++ xs) → AreFine (Guarded 0 xs 0 g q) scope
  fine_guard g q scope xs rising good each = (((rising, good.0), good.1, good.2, good.3, tt, tt, tt, tt), each)

  fine_either : (l r : Plan) (scope : List VarId) → AreFine l scope → AreFine r scope → AreFine (Either 0 l r) scope
  fine_either l r scope a b = ((tt, tt, tt, tt, tt, tt, tt, tt), a, b)

  fine_both : (l r : Plan) (scope : List VarId) → AreFine l scope → AreFine r scope → AreFine (Both 0 l r) scope
  fine_both l r scope a b = ((tt, tt, tt, tt, tt, tt, tt, tt), a, b)

  -- the operand of a test in scope
  test_of : (g : Formula) (scope : List VarId) (k : ℕ) → IsScopedFormula g scope → IsPolicyFormula entries k g → formula_size g ≤ most + 1 → IsGoodTest g scope scope
  test_of g scope k scoped formed small = good_test g scope scope k (λ x there. there) scoped formed small

  guard_of : (g : Formula) (scope xs : List VarId) (k : ℕ) → IsScopedFormula g (scope ++ xs) → IsPolicyFormula entries k g → formula_size g ≤ most + 1 → IsGoodTest g scope (scope ++ xs)
  guard_of g scope xs k scoped formed small = good_test g scope (scope ++ xs) k (λ x there. Contains-append_left scope xs x there) scoped formed small

  fine_leaf : (may : Bool) (place : ℕ) (leaf p : Plan) (scope : List VarId) → LeafWhere may place leaf (Ok p) → (IsTrue may → AreFine leaf scope) → AreFine p scope
  fine_leaf true place leaf p scope e fine = by_made (λ q. AreFine q scope) p leaf e (fine refl)
  fine_leaf false place leaf p scope e fine = absurd (not_refused p _ e)

  ends : (low n : ℕ) (high : Option ℕ) → high ≡ Some n → EndsFit low high → (low ≤ n) × (n ≤ MOST_INTERVAL_END)
  ends low n high is fits = subst (EndsFit low) is fits

  no_more : (scope xs : List VarId) → xs ≡ [] → scope ++ xs ≡ scope
  no_more scope xs none = ap (λ ys. scope ++ ys) none ∙ append-nil scope

  fine_exclusion : (place : ℕ) (scope xs : List VarId) (g : Formula) (p : Plan) → Exclusion place scope xs g (Elab c s Down g) (Ok p) → IsGiven g (scope ++ xs)
      → ((W : List VarId) (q : Plan) → Elab c s Down g W (Ok q) → IsGiven g W → AreFine q W) → AreFine p scope
  fine_exclusion place scope xs g p e h downs =
      by_exclusion (λ q. AreFine q scope) p place scope xs g (Elab c s Down g) e
      (λ q a guards. fine_guard g q scope xs h.3 (guard_of g scope xs h.1.0 h.0 h.1.1 (omega (arith, h.2))) (downs (scope ++ xs) q a h))

  fine_implication : (place arrow : ℕ) (scope xs : List VarId) (g h : Formula) (p : Plan)
      → ImplicationAnswer place arrow scope xs g h (Elab c s Down g) (Elab c s Up h) (Ok p)
      → IsGiven (Implies arrow g h) (scope ++ xs)
      → ((W : List VarId) (q : Plan) → Elab c s Down g W (Ok q) → IsGiven g W → AreFine q W) → ((W : List VarId) (q : Plan) → Elab c s Up h W (Ok q) → IsGiven h W → AreFine q W) → AreFine p scope
  fine_implication place arrow scope xs g h p e all downs ups =
      let k : ℕ = all.1.0 in
      let left : IsGiven g (scope ++ xs) = (all.0.0, (k, all.1.1.0), omega (arith, all.2), all.3) in
      let right : IsGiven h (scope ++ xs) = (all.0.1, (k, all.1.1.1), omega (arith, all.2), all.3) in
      by_implication (λ q. AreFine q scope) p place arrow scope xs g h (Elab c s Down g) (Elab c s Up h) e
      (λ q b guards. fine_guard g q scope xs all.3 (guard_of g scope xs k left.0 left.1.1 (omega (arith, left.2))) (ups (scope ++ xs) q b right))
      (λ o q a b none. fine_either o q scope (downs scope o a
      (subst (λ (W : List VarId). IsGiven g W) (no_more scope xs none) left))
      (subst (λ (W : List VarId). AreFine q W) (no_more scope xs none) (ups (scope ++ xs) q b right)))
      (λ q a guards t. fine_guard (And arrow g (Not (formula_place h) h)) q scope xs all.3
      (guard_of (And arrow g (Not (formula_place h) h)) scope xs k (left.0, right.0) (left.1.1, right.1.1)
      (omega (arith, all.2))) (downs (scope ++ xs) q a left))
      (λ q a t none. subst (λ (W : List VarId). AreFine (TestOr 0 0 h q) W) (no_more scope xs none)
      (fine_test h q (scope ++ xs) (test_of h (scope ++ xs) k right.0 right.1.1 (omega (arith, right.2)))
      (downs (scope ++ xs) q a left)))

  pub made_fine : (aim : Aim) (f : Formula) (scope : List VarId) (p : Plan) → Elab c s aim f scope (Ok p) → IsGivenFor aim f scope → AreFine p scope
  made_fine Up (Atom place name terms) scope p e h = fine_leaf (c name) place _ p scope e (λ may. (h.0, tt, tt, tt, tt, may, h.1.1, tt))
  made_fine Up (Not place g) scope p e h = made_fine Down g scope p e (h.0, h.1, omega (arith, h.2), h.3)
  made_fine Up (And place g h) scope p e all =
      by_two (λ q. AreFine q scope) p _ _ _ e
      (λ l r a b. fine_both l r scope (made_fine Up g scope l a
      (all.0.0, (all.1.0, all.1.1.0), omega (arith, all.2), all.3))
      (made_fine Up h scope r b (all.0.1, (all.1.0, all.1.1.1), omega (arith, all.2), all.3)))
  made_fine Up (Or place g h) scope p e all =
      by_one_of_two (λ q. AreFine q scope) p scope g h _ _ e
      (λ q b t. fine_test g q scope (test_of g scope all.1.0 all.0.0 all.1.1.0 (omega (arith, all.2))) (made_fine Up h scope q b (all.0.1, (all.1.0, all.1.1.1), omega (arith, all.2), all.3)))
      (λ o q a b. fine_either o q scope (made_fine Up g scope o a
      (all.0.0, (all.1.0, all.1.1.0), omega (arith, all.2), all.3))
      (made_fine Up h scope q b (all.0.1, (all.1.0, all.1.1.1), omega (arith, all.2), all.3)))
      (λ q a t. fine_test h q scope (test_of h scope all.1.0 all.0.1 all.1.1.1 (omega (arith, all.2))) (made_fine Up g scope q a (all.0.0, (all.1.0, all.1.1.0), omega (arith, all.2), all.3)))
  made_fine Up (Implies place g h) scope p e all =
      fine_implication place place scope [] g h p e (subst (λ (W : List VarId). IsGiven (Implies place g h) W)
      (sym (append-nil scope)) all) (λ W q a k. made_fine Down g W q a k) (λ W q b k. made_fine Up h W q b k)
  made_fine Up (Forall place xs g) scope p e h = made_fine (UpForAll place xs) g scope p e (h.0.1, (h.1.0 + length xs, h.1.1.1), omega (arith, h.2), h.0.0)
  made_fine Up (Eventually place interval g) scope p e h =
      let found = with_end place interval.high _ p e in
      by_one (λ q. AreFine q scope) p _ _ found.2 (λ q a. (
        (tt, tt, tt, tt, ends interval.low found.0 interval.high found.1 h.1.1.0, tt, tt, found.3),
        made_fine Up g
            scope q a (h.0, (h.1.0, h.1.1.1), omega (arith, h.2), h.3),
      ))
  made_fine Up (Always place interval g) scope p e h =
      let found = with_end place interval.high _ p e in
      by_one (λ q. AreFine q scope) p _ _ found.2 (λ q a. (
        (tt, tt, tt, tt, ends interval.low found.0 interval.high found.1 h.1.1.0, tt, tt, found.3),
        made_fine Up g
            scope q a (h.0, (h.1.0, h.1.1.1), omega (arith, h.2), h.3),
      ))
  made_fine Up (Until place interval g h) scope p e all =
      let found = with_end place interval.high _ p e in
      by_two (λ q. AreFine q scope) p _ _ _ found.2
      (λ l r a b. (
        (tt, tt, tt, tt, ends interval.low found.0 interval.high found.1 all.1.1.0, tt, tt, found.3),
        made_fine Up g scope l a (all.0.0, (all.1.0, all.1.1.1), omega (arith, all.2), all.3),
        made_fine Up h scope
            r b (all.0.1, (all.1.0, all.1.1.2), omega (arith, all.2), all.3),
      ))
  made_fine Up (Next place interval g) scope p e h =
      let found = from_now place interval.low interval.high _ p e in
      by_one (λ q. AreFine q scope) p _ _ found.3 (λ q a. (
        (tt, tt, tt, tt, (ends interval.low found.0 interval.high found.2 h.1.1.0).1, tt, tt, found.4),
        made_fine
            Up g scope q a (h.0, (h.1.0, h.1.1.1), omega (arith, h.2), h.3),
      ))
  made_fine Down (Atom place name terms) scope p e h = fine_leaf (s name) place _ p scope e (λ may. (h.0, tt, tt, tt, tt, may, h.1.1, tt))
  made_fine Down (Not place g) scope p e h = made_fine Up g scope p e (h.0, h.1, omega (arith, h.2), h.3)
  made_fine Down (And place g h) scope p e all =
      by_one_of_two (λ q. AreFine q scope) p scope _ _ _ _ e
      (λ q b t. fine_test (Not (formula_place g) g) q scope
      (test_of (Not (formula_place g) g) scope all.1.0 all.0.0 all.1.1.0 (omega (arith, all.2)))
      (made_fine Down h scope q b (all.0.1, (all.1.0, all.1.1.1), omega (arith, all.2), all.3)))
      (λ o q a b. fine_either o q scope (made_fine Down g scope o a
      (all.0.0, (all.1.0, all.1.1.0), omega (arith, all.2), all.3))
      (made_fine Down h scope q b (all.0.1, (all.1.0, all.1.1.1), omega (arith, all.2), all.3)))
      (λ q a t. fine_test (Not (formula_place h) h) q scope
      (test_of (Not (formula_place h) h) scope all.1.0 all.0.1 all.1.1.1 (omega (arith, all.2)))
      (made_fine Down g scope q a (all.0.0, (all.1.0, all.1.1.0), omega (arith, all.2), all.3)))
  made_fine Down (Or place g h) scope p e all =
      by_two (λ q. AreFine q scope) p _ _ _ e
      (λ l r a b. fine_both l r scope (made_fine Down g scope l a
      (all.0.0, (all.1.0, all.1.1.0), omega (arith, all.2), all.3))
      (made_fine Down h scope r b (all.0.1, (all.1.0, all.1.1.1), omega (arith, all.2), all.3)))
  made_fine Down (Implies place g h) scope p e all =
      by_two (λ q. AreFine q scope) p _ _ _ e
      (λ l r a b. fine_both l r scope (made_fine Up g scope l a
      (all.0.0, (all.1.0, all.1.1.0), omega (arith, all.2), all.3))
      (made_fine Down h scope r b (all.0.1, (all.1.0, all.1.1.1), omega (arith, all.2), all.3)))
  made_fine Down (Exists place xs g) scope p e h = fine_exclusion place scope xs g p e (h.0.1, (h.1.0 + length xs, h.1.1.1), omega (arith, h.2), h.0.0) (λ W q a k. made_fine Down g W q a k)
  made_fine Down (Eventually place interval g) scope p e h =
      let found = with_end place interval.high _ p e in
      by_one (λ q. AreFine q scope) p _ _ found.2 (λ q a. (
        (tt, tt, tt, tt, ends interval.low found.0 interval.high found.1 h.1.1.0, tt, tt, found.3),
        made_fine Down
            g scope q a (h.0, (h.1.0, h.1.1.1), omega (arith, h.2), h.3),
      ))
  made_fine Down (Always place interval g) scope p e h =
      let found = with_end place interval.high _ p e in
      by_one (λ q. AreFine q scope) p _ _ found.2 (λ q a. (
        (tt, tt, tt, tt, ends interval.low found.0 interval.high found.1 h.1.1.0, tt, tt, found.3),
        made_fine Down
            g scope q a (h.0, (h.1.0, h.1.1.1), omega (arith, h.2), h.3),
      ))
  made_fine (UpForAll first xs) (Forall place ys g) scope p e h =
      made_fine (UpForAll first (xs ++ ys)) g scope p e (subst (λ (W : List VarId). IsGiven g W) (append_assoc scope xs ys) (h.0.1, (h.1.0 + length ys, h.1.1.1), omega (arith, h.2), h.0.0))
  made_fine (UpForAll first xs) (Implies place g h) scope p e all = fine_implication first place scope xs g h p e all (λ W q a k. made_fine Down g W q a k) (λ W q b k. made_fine Up h W q b k)
  made_fine (UpForAll first xs) (Not place g) scope p e h = fine_exclusion first scope xs g p e (h.0, h.1, omega (arith, h.2), h.3) (λ W q a k. made_fine Down g W q a k)
  made_fine (UpForAll first xs) f scope p e h = absurd (not_refused p _ e)
  made_fine aim f scope p e h = absurd (not_refused p _ e)

  -- numbers have no part in it
  pub fine_stays : (p : Plan) (n g : ℕ) (scope : List VarId) → IsFine p scope → IsFine (renumber n g p) scope
  fine_stays (plan.CausePlan node place name terms) n g scope h = h
  fine_stays (plan.SuppressPlan node place name terms) n g scope h = h
  fine_stays (plan.Both node l r) n g scope h = h
  fine_stays (plan.Either node l r) n g scope h = h
  fine_stays (plan.TestOr node guard test body) n g scope h = h
  fine_stays (plan.Guarded node vars guard test body) n g scope h = h
  fine_stays (plan.EventuallyPlan node place low high body) n g scope h = h
  fine_stays (plan.AlwaysPlan node place low high body) n g scope h = h
  fine_stays (plan.UntilPlan node place low high l r) n g scope h = h
  fine_stays (plan.NextPlan node place high body) n g scope h = h
