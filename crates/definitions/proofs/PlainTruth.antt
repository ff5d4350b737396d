-- Without definitions a formula holds where it is satisfied.
use Rattle.definitions.proofs.Vocabulary.{ℕ, ◌+◌, ◌-◌, ◌↔◌, List, [], anywhere, denials, since_same, until_same, Step, Valuation, with_values, Formula, True, False, Atom, Equal, Less}
use Rattle.definitions.proofs.Vocabulary.{AtMost, Not, And, Or, Implies, Exists, Forall, Prev, Next, Once, Historically, Since, Eventually, Always, Until, Sat, HeldSince, HoldsUntil, HoldsAnywhere}
use Rattle.definitions.proofs.Vocabulary.{DefinedMeans, SatWith, PlainFormulasHoldAlike}

module _ (trace : List Step) where
  plain_same : (f : Formula) (i : ℕ) (v : Valuation) → SatWith (DefinedMeans [] trace) trace i v f ↔ Sat trace i v f
  plain_same (True place) i v = (λ s. s, λ s. s)
  plain_same (False place) i v = (λ s. s, λ s. s)
  plain_same (Atom place name terms) i v = (λ s. s, λ s. s)
  plain_same (Equal place s t) i v = (λ s. s, λ s. s)
  plain_same (Less place s t) i v = (λ s. s, λ s. s)
  plain_same (AtMost place s t) i v = (λ s. s, λ s. s)
  plain_same (Not place f) i v = denials (SatWith (DefinedMeans [] trace) trace i v f) (Sat trace i v f) (plain_same f i v)
  plain_same (And place f g) i v =
      let left = plain_same f i v in
      let right = plain_same g i v in
      (λ s. (left.0 s.0, right.0 s.1), λ s. (left.1 s.0, right.1 s.1))
  plain_same (Or place f g) i v =
      let left = plain_same f i v in
      let right = plain_same g i v in
      (λ s p q. s (λ holds. p (left.0 holds)) (λ holds. q (right.0 holds)), λ s p q. s (λ holds. p (left.1 holds)) (λ holds. q (right.1 holds)))
  plain_same (Implies place f g) i v =
      let left = plain_same f i v in
      let right = plain_same g i v in
      (λ s holds. right.0 (s (left.1 holds)), λ s holds. right.1 (s (left.0 holds)))
  plain_same (Exists place xs f) i v = (
    λ s none. s (λ some. none (some.0, some.1, (plain_same f i (with_values xs some.0 v)).0 some.2)),
    λ s none. s (λ some. none (some.0, some.1, (plain_same f i (with_values xs some.0 v)).1 some.2)),
  )
  plain_same (Forall place xs f) i v = (
    λ s values long. (plain_same f i (with_values xs values v)).0 (s values long),
    λ s values long. (plain_same f i (with_values xs values v)).1 (s values long),
  )
  plain_same (Prev place interval f) i v = let inner = plain_same f (i - 1) v in (λ s. (s.0, s.1, inner.0 s.2), λ s. (s.0, s.1, inner.1 s.2))
  plain_same (Next place interval f) i v = let inner = plain_same f (i + 1) v in (λ s. (s.0, s.1, inner.0 s.2), λ s. (s.0, s.1, inner.1 s.2))
  plain_same (Once place interval f) i v = since_same trace i interval HoldsAnywhere (λ j. SatWith (DefinedMeans [] trace) trace j v f) HoldsAnywhere (λ j. Sat trace j v f) anywhere (λ j. plain_same f j v)
  plain_same (Eventually place interval f) i v = until_same trace i interval HoldsAnywhere (λ j. SatWith (DefinedMeans [] trace) trace j v f) HoldsAnywhere (λ j. Sat trace j v f) anywhere (λ j. plain_same f j v)
  plain_same (Historically place interval f) i v =
      denials (HeldSince trace i interval HoldsAnywhere (λ j. SatWith (DefinedMeans [] trace) trace j v f → ⊥)) (HeldSince trace i interval HoldsAnywhere (λ j. Sat trace j v f → ⊥))
      (since_same trace i interval HoldsAnywhere (λ j. SatWith (DefinedMeans [] trace) trace j v f → ⊥) HoldsAnywhere (λ j. Sat trace j v f → ⊥) anywhere (λ j. denials (SatWith (DefinedMeans [] trace) trace j v f) (Sat trace j v f) (plain_same f j v)))
  plain_same (Always place interval f) i v =
      denials (HoldsUntil trace i interval HoldsAnywhere (λ j. SatWith (DefinedMeans [] trace) trace j v f → ⊥)) (HoldsUntil trace i interval HoldsAnywhere (λ j. Sat trace j v f → ⊥))
      (until_same trace i interval HoldsAnywhere (λ j. SatWith (DefinedMeans [] trace) trace j v f → ⊥) HoldsAnywhere (λ j. Sat trace j v f → ⊥) anywhere (λ j. denials (SatWith (DefinedMeans [] trace) trace j v f) (Sat trace j v f) (plain_same f j v)))
  plain_same (Since place interval f g) i v =
      since_same trace i interval (λ j. SatWith (DefinedMeans [] trace) trace j v f) (λ j. SatWith (DefinedMeans [] trace) trace j v g) (λ j. Sat trace j v f) (λ j. Sat trace j v g) (λ j. plain_same f j v) (λ j. plain_same g j v)
  plain_same (Until place interval f g) i v =
      until_same trace i interval (λ j. SatWith (DefinedMeans [] trace) trace j v f) (λ j. SatWith (DefinedMeans [] trace) trace j v g) (λ j. Sat trace j v f) (λ j. Sat trace j v g) (λ j. plain_same f j v) (λ j. plain_same g j v)

pub plain_formulas : PlainFormulasHoldAlike
plain_formulas trace i v f = plain_same trace f i v
