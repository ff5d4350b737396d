-- Where the values of kept rows come from.
use Rattle.past_state.proofs.Vocabulary.{◌⊎◌, inr, ℕ, ◌-◌, List, length, Contains, None, Valuation, Interval, Step, Formula, True, False, Atom, Equal, Less, AtMost, Not, And, Or, Implies, Exists}
use Rattle.past_state.proofs.Vocabulary.{Forall, Prev, Next, Once, Historically, Since, Eventually, Always, Until, IsFree, Classically, Sat, HoldsAnywhere, denial, KeptAt, KeptHeld}
use Rattle.past_state.proofs.Vocabulary.{OperatorsCanBeKept}
use Rattle.past_state.proofs.KeepableLemmas.{keep_all}

pub can_be_kept : OperatorsCanBeKept
can_be_kept f bound safe fresh = keep_all None f (Contains bound) (λ x. Contains bound x ⊎ IsFree x f) safe fresh (λ x free. inr free)

some_position : (trace : List Step) (interval : Interval) (F : ℕ → Type 0) (v : Valuation) (g : Formula) (time : ℕ) → KeptAt trace interval F (λ i. Sat trace i v g) time
    → Classically ((i : ℕ) × Sat trace i v g)
some_position trace interval F v g time kept none = kept.0 (λ at. none (at.0, at.3))

pub held : KeptHeld
held trace (Prev place interval g) v time can kept = record { fresh = can.0; safe = can.1; held = λ none. none (length trace - 1, kept.2) }
held trace (Once place interval g) v time can kept = record { fresh = can.0; safe = can.1; held = some_position trace interval HoldsAnywhere v g time kept }
held trace (Historically place interval g) v time can kept = record { fresh = can.0; safe = can.1; held = some_position trace interval HoldsAnywhere v (denial g) time kept }
held trace (Since place interval g h) v time can kept = record { fresh = can.0; safe = can.3; held = some_position trace interval (λ i. Sat trace i v g) v h time kept }
held trace (True place) v time can never = absurd never
held trace (False place) v time can never = absurd never
held trace (Atom place name terms) v time can never = absurd never
held trace (Equal place s t) v time can never = absurd never
held trace (Less place s t) v time can never = absurd never
held trace (AtMost place s t) v time can never = absurd never
held trace (Not place g) v time can never = absurd never
held trace (And place g h) v time can never = absurd never
held trace (Or place g h) v time can never = absurd never
held trace (Implies place g h) v time can never = absurd never
held trace (Exists place xs g) v time can never = absurd never
held trace (Forall place xs g) v time can never = absurd never
held trace (Next place interval g) v time can never = absurd never
held trace (Eventually place interval g) v time can never = absurd never
held trace (Always place interval g) v time can never = absurd never
held trace (Until place interval g h) v time can never = absurd never
