-- How each rule keeps the meaning.
use Rattle.enforce_types.proofs.Vocabulary.{◌≡◌, ℕ, Bool, List, [], ◌++◌, length, Ok, refl, sym, subst, Step, VarId, Valuation, with_values, Formula, Not, Or, Implies, Forall, Sat, IsStable}
use Rattle.enforce_types.proofs.Vocabulary.{AreEquivalent, formula_for, Plan, Answer, LeafWhere, OverOne, OverTwo, OneOfTwo, ImplicationAnswer, Exclusion}
use Rattle.enforce_types.proofs.MadePlans.{by_exclusion, by_implication, by_leaf, by_one, by_one_of_two, by_two}

-- what is said of the formula of the plan that is made
pub leaf_keeps : (may : Bool) (place : ℕ) (l p : Plan) (P : Formula → Type 0) → LeafWhere may place l (Ok p) → P (formula_for l) → P (formula_for p)
leaf_keeps may place l p P e holds = by_leaf (λ (r : Plan). P (formula_for r)) p may place l e holds

pub one_keeps : (one : Answer → Type 0) (node : Plan → Plan) (p : Plan) (P : Formula → Type 0) → OverOne one node (Ok p) → ((q : Plan) → one (Ok q) → P (formula_for (node q))) → P (formula_for p)
one_keeps one node p P e keeps = by_one (λ (r : Plan). P (formula_for r)) p one node e keeps

pub two_keep : (first second : Answer → Type 0) (node : Plan → Plan → Plan) (p : Plan) (P : Formula → Type 0)
    → OverTwo first second node (Ok p) → ((l r : Plan) → first (Ok l) → second (Ok r)
    → P (formula_for (node l r))) → P (formula_for p)
two_keep first second node p P e keep = by_two (λ (r : Plan). P (formula_for r)) p first second node e keep

-- one of two formulas holds
pub one_of_two_keeps : (scope : List VarId) (l r : Formula) (left right : Answer → Type 0) (p : Plan)
    → OneOfTwo scope l r left right (Ok p) → ((q : Plan) → left (Ok q) → AreEquivalent (formula_for q) l)
    → ((q : Plan) → right (Ok q) → AreEquivalent (formula_for q) r) → AreEquivalent (formula_for p) (Or 0 l r)
one_of_two_keeps scope l r left right p e ls rs =
    by_one_of_two (λ (made : Plan). AreEquivalent (formula_for made) (Or 0 l r)) p scope l r left right e
    (λ q b test trace i v. (
      λ either n m. either n (λ h. m ((rs q b trace i v).0 h)),
      λ either n m. either n (λ h. m ((rs q b trace i v).1 h)),
    ))
    (λ o q a b trace i v. (
      λ either n m. either (λ h. n ((ls o a trace i v).0 h)) (λ h. m ((rs q b trace i v).0 h)),
      λ either n m. either (λ h. n ((ls o a trace i v).1 h)) (λ h. m ((rs q b trace i v).1 h)),
    ))
    (λ q a test trace i v. (
      λ either n m. either m (λ h. n ((ls q a trace i v).0 h)),
      λ either n m. either (λ h. m ((ls q a trace i v).1 h)) n,
    ))

pub exclusion_keeps : (place : ℕ) (scope xs : List VarId) (g : Formula) (down : List VarId → Answer → Type 0)
    (p : Plan) → Exclusion place scope xs g down (Ok p)
    → ((W : List VarId) (q : Plan) → down W (Ok q) → AreEquivalent (formula_for q) (Not 0 g))
    → AreEquivalent (formula_for p) (Forall 0 xs (Not 0 g))
exclusion_keeps place scope xs g down p e downs =
    by_exclusion (λ (made : Plan). AreEquivalent (formula_for made) (Forall 0 xs (Not 0 g))) p place scope xs g down e (λ q a guards trace i v. (
      λ each values same holds. (downs (scope ++ xs) q a trace i (with_values xs values v)).0 (each values same holds) holds,
      λ none values same holds. (downs (scope ++ xs) q a trace i (with_values xs values v)).1 (none values same),
    ))

-- an implication for all values of no variables is the implication
pub none_bound : (xs : List VarId) (f g : Formula) → xs ≡ [] → AreEquivalent f g → AreEquivalent f (Forall 0 xs g)
none_bound xs f g none same = subst (λ (ys : List VarId). AreEquivalent f (Forall 0 ys g)) (sym none) (λ trace i v. (by trace i v, λ each. (same trace i v).1 (each [] refl)))
  where
    by : (trace : List Step) (i : ℕ) (v : Valuation) → Sat trace i v f → Sat trace i v (Forall 0 [] g)
    by trace i v holds values length = (same trace i v).0 holds

module _ (stable : (trace : List Step) (i : ℕ) (v : Valuation) (f : Formula) → IsStable (Sat trace i v f)) where
  pub implication_keeps : (place arrow : ℕ) (scope xs : List VarId) (g h : Formula)
      (down up : List VarId → Answer → Type 0) (p : Plan)
      → ImplicationAnswer place arrow scope xs g h down up (Ok p)
      → ((W : List VarId) (q : Plan) → down W (Ok q) → AreEquivalent (formula_for q) (Not 0 g))
      → ((W : List VarId) (q : Plan) → up W (Ok q) → AreEquivalent (formula_for q) h)
      → AreEquivalent (formula_for p) (Forall 0 xs (Implies 0 g h))
  implication_keeps place arrow scope xs g h down up p e downs ups =
      by_implication (λ (made : Plan). AreEquivalent (formula_for made) (Forall 0 xs (Implies 0 g h))) p place arrow scope xs g h down up e
      (λ q a guards trace i v. (
        λ each values same holds. (ups (scope ++ xs) q a trace i (with_values xs values v)).0 (each values same holds),
        λ each values same holds. (ups (scope ++ xs) q a trace i (with_values xs values v)).1 (each values same holds),
      ))
      (λ o q b a none. none_bound xs (Or 0 (formula_for o) (formula_for q)) (Implies 0 g h) none (λ trace i v. (
        λ either holds. stable trace i v h (λ fails. either (λ d. (downs scope o b trace i v).0 d holds) (λ u. fails ((ups (scope ++ xs) q a trace i v).0 u))),
        λ implies n m. n ((downs scope o b trace i v).1 (λ holds. m ((ups (scope ++ xs) q a trace i v).1 (implies holds)))),
      )))
      (λ q b guards test trace i v. (
        λ each values same holds. stable trace i (with_values xs values v) h (λ fails. (downs (scope ++ xs) q b trace i (with_values xs values v)).0 (each values same (holds, fails)) holds),
        λ each values same both. absurd (both.1 (each values same both.0)),
      ))
      (λ q b test none. none_bound xs (Or 0 h (formula_for q)) (Implies 0 g h) none (λ trace i v. (
        λ either holds. stable trace i v h (λ fails. either fails (λ d. (downs (scope ++ xs) q b trace i v).0 d holds)),
        λ implies n m. m ((downs (scope ++ xs) q b trace i v).1 (λ holds. n (implies holds))),
      )))
