-- Windows that go on standing for a trace.
use Rattle.past_state.proofs.Vocabulary.{◌≡◌, ◌∙◌, ◌↔◌, ◌⊎◌, Contains, ℕ, suc, ◌-◌, ◌<◌, ◌≤◌, IsTrue, List, [], ◌∷◌, ◌++◌, length, sym, subst, arith, length-append, step_at, IsIn, Valuation}
use Rattle.past_state.proofs.Vocabulary.{BindsColumns, Interval, Step, iff_then as then, step_at_end, IsFree, Formula, Not, Implies, Once, Historically, Sat, HeldSince, HoldsAnywhere, IsStable}
use Rattle.past_state.proofs.Vocabulary.{PastDecides, is_past, denial, last_time, LastIsTheNew, Relation, HasValuation, LeastIsChosen, RememberedIsKept, Window, AnswersBy, HasRow, IsCommittedBy}
use Rattle.past_state.proofs.Vocabulary.{WindowKeeps, WindowRemembers, HeldAt, WindowStands, HasPairAt, KeptAt, AreTablesOf, satisfied, ValuationSurvives, Survivors}
use Rattle.past_state.proofs.HeldLemmas.{earlier_at, goes_on}
use Rattle.past_state.proofs.KeptLemmas.{kept_now, kept_on}

-- a formula that does not look ahead holds on the longer trace where it held
pub same_sat : PastDecides → (trace : List Step) (step : Step) (f : Formula) → IsTrue (is_past f) → (v : Valuation) (k : ℕ) → k < length trace
    → satisfied trace f v k ↔ satisfied (trace ++ step ∷ []) f v k
same_sat decides trace step f past v k below = decides trace (trace ++ step ∷ []) k v f past (λ i up_to. sym (earlier_at trace step i (omega arith)))

pub same_everywhere : (trace : List Step) (k : ℕ) → k < length trace → HoldsAnywhere k ↔ HoldsAnywhere k
same_everywhere trace k below = (λ h. h, λ h. h)

-- what held up to the last position, from its time, is what held since there
pub held_since : (trace : List Step) (step : Step) (interval : Interval) (F G : ℕ → Type 0)
    → HeldAt (trace ++ step ∷ []) interval step.time F G ↔ HeldSince (trace ++ step ∷ []) (length trace) interval F G
held_since trace step interval F G = (
  λ held none. held (λ h. none (
    h.0,
    omega (arith, longer, h.1),
    subst (λ s. IsIn interval (s.time - (step_at (trace ++ step ∷ []) h.0).time)) (sym (step_at_end trace step)) h.2,
    h.3,
    λ k behind up_to. h.4 k behind (omega (arith, longer)),
  )),
  λ held none. held (λ h. none (
    h.0,
    omega (arith, longer, h.1),
    subst (λ s. IsIn interval (s.time - (step_at (trace ++ step ∷ []) h.0).time)) (step_at_end trace step) h.2,
    h.3,
    λ k behind below. h.4 k behind (omega (arith, longer)),
  )),
)
  where
    longer : length (trace ++ step ∷ []) ≡ suc (length trace)
    longer = omega (arith, length-append trace (step ∷ []))

module _ (kept : RememberedIsKept) (chosen : LeastIsChosen) (last : LastIsTheNew) (trace : List Step) (step : Step) (interval : Interval) (F G F' G' : Valuation → ℕ → Type 0)
    (g : Formula) (window : Window) (survivors : Survivors) (right : Relation)
    (same_F : (v : Valuation) (k : ℕ) → k < length trace → F v k ↔ F' v k) (same_G : (v : Valuation) (k : ℕ) → k < length trace → G v k ↔ G' v k)
    (later : last_time trace ≤ step.time) (stands : WindowStands trace interval F G g window) (tables : AreTablesOf trace window F' G' survivors right) where
  -- at a time from the step's on
  goes : (time : ℕ) → step.time ≤ time → (v : Valuation) → BindsColumns v window.columns → (Now : Type 0)
      → Now ↔ ((IsIn interval (time - step.time) × HasValuation right v) ⊎ (WindowRemembers window time v × ValuationSurvives survivors v))
      → Now ↔ HeldAt (trace ++ step ∷ []) interval time (F' v) (G' v)
  goes time from v binds Now unfolded =
      let up_to = stands.up_to in
      goes_on trace step interval time (F v) (G v) (F' v) (G' v) (same_F v) (same_G v) survivors right v (WindowRemembers window time v) (WindowKeeps window window.last v) Now
      (kept window time v (omega arith)) unfolded (stands.gives time (omega arith) v binds) (tables.survives v binds) (tables.is_right v binds)

  pub answered : (v : Valuation) → BindsColumns v window.columns → AnswersBy window step.time (ValuationSurvives survivors) right v ↔ HeldSince (trace ++ step ∷ []) (length trace)
      interval (F' v) (G' v)
  answered v binds =
      let same : 0 ≡ step.time - step.time = omega arith in
      then
      (goes step.time (omega arith) v binds (AnswersBy window step.time (ValuationSurvives survivors) right v)
      (subst (λ i. AnswersBy window step.time (ValuationSurvives survivors) right v ↔ ((IsIn i (step.time - step.time) × HasValuation right v)
      ⊎ (WindowRemembers window step.time v × ValuationSurvives survivors v))) stands.interval_is
      (subst (λ d. AnswersBy window step.time (ValuationSurvives survivors) right v ↔ ((IsIn window.interval d × HasValuation right v)
      ⊎ (WindowRemembers window step.time v × ValuationSurvives survivors v))) same (λ h. h, λ h. h))))
      (held_since trace step interval (F' v) (G' v))

  -- what the window keeps after the step
  keeps_on : (after : Window) (v : Valuation) → IsCommittedBy window step.time (ValuationSurvives survivors) right after → BindsColumns v window.columns
      → (time : ℕ) → HasRow after v time ↔ KeptAt (trace ++ step ∷ []) window.interval (F' v) (G' v) time
  keeps_on after v committed binds =
      let held = subst (λ i. (time : ℕ) → HasRow window v time ↔ KeptAt trace i (F v) (G v) time) (sym stands.interval_is) (stands.kept v binds) in
      kept_on chosen trace step (F v) (G v) (F' v) (G' v) (same_F v) (same_G v) (last trace step) later window after (ValuationSurvives survivors v) (HasValuation right v) v
      committed.interval_is committed.last_is committed.least (committed.from v) (committed.serves v) held
      (λ time has. tables.survives v binds (kept_now (last_time trace) (HasPairAt trace (F v) (G v)) window v time has stands.up_to ((held time).0 has).1)) (tables.is_right v binds)

  pub still_stands : (after : Window) → IsCommittedBy window step.time (ValuationSurvives survivors) right after → WindowStands (trace ++ step ∷ []) interval F' G' g after
  still_stands after committed = record {
    interval_is = committed.interval_is ∙ stands.interval_is;
    columns_are = λ x. subst (λ l. Contains l x ↔ IsFree x g) (sym committed.columns_are) (stands.columns_are x);
    up_to = subst (λ t. after.last ≤ t) (sym (last trace step)) (omega (arith, committed.last_is));
    gives = λ time from v binds.
        let from_step : step.time ≤ time = subst (λ t. t ≤ time) (last trace step) from in
        goes time from_step v (subst (BindsColumns v) committed.columns_are binds) (WindowRemembers after time v)
        (subst (λ i. WindowRemembers after time v ↔ ((IsIn i (time - step.time) × HasValuation right v) ⊎ (WindowRemembers window time v × ValuationSurvives survivors v)))
        stands.interval_is (committed.remembers time from_step v));
    kept = λ v binds. subst (λ i. (time : ℕ) → HasRow after v time ↔ KeptAt (trace ++ step ∷ []) i (F' v) (G' v) time) stands.interval_is
        (keeps_on after v committed (subst (BindsColumns v) committed.columns_are binds));
  }

-- the denial holds where the formula fails
denial_is : ((trace : List Step) (i : ℕ) (v : Valuation) (f : Formula) → IsStable (Sat trace i v f)) → (trace : List Step) (i : ℕ) (v : Valuation) (g : Formula)
    → (Sat trace i v g → ⊥) ↔ Sat trace i v (denial g)
denial_is stable trace i v (Not place h) = (λ fails. stable trace i v h fails, λ holds fails. fails holds)
denial_is stable trace i v (Implies place a b) = (
  λ fails. (stable trace i v a (λ not_a. fails (λ holds. absurd (not_a holds))), λ holds. fails (λ first. holds)),
  λ holds implies. holds.1 (implies holds.0),
)
denial_is stable trace i v g = (λ fails. fails, λ fails. fails)

pub denied : ((trace : List Step) (i : ℕ) (v : Valuation) (f : Formula) → IsStable (Sat trace i v f)) → (trace : List Step) (i : ℕ) (v : Valuation) (place : ℕ) (interval : Interval) (g : Formula)
    → (Sat trace i v (Historically place interval g) → ⊥) ↔ Sat trace i v (Once place interval (denial g))
denied stable trace i v place interval g = (
  λ fails none. fails (λ held. held (λ h. none (h.0, h.1, h.2, (denial_is stable trace h.0 v g).0 h.3, h.4))),
  λ held holds. holds (λ none. held (λ h. none (h.0, h.1, h.2, (denial_is stable trace h.0 v g).1 h.3, h.4))),
)
