-- Windows of `once` without an end that are told only with what their operand begins.
use Rattle.past_state.proofs.Vocabulary.{◌≡◌, ◌∙◌, ◌↔◌, ◌⊎◌, inl, inr, ⊎_elim, ℕ, ◌+◌, ◌-◌, ◌<◌, ◌≤◌, IsTrue, List, [], ◌∷◌, ◌++◌, length, Contains, Option, None, Some, sym, ap, subst, arith}
use Rattle.past_state.proofs.Vocabulary.{All-contains, and_parts, cases_lt, step_at, IsIn, IsUpTo, Valuation, BindsColumns, Interval, Step, Formula, Once, Since, Sat, IsFree, is_past, PastDecides}
use Rattle.past_state.proofs.Vocabulary.{last_time, LastIsTheNew, Relation, HasValuation, LeastIsChosen, RememberedIsKept, Window, AnswersBy, HasRow, IsCommittedBy, KeepsLeast, IsEndedTime}
use Rattle.past_state.proofs.Vocabulary.{IsServedTime, WindowRemembers, HeldAt, WindowStands, KeptAt, AreTablesOf, satisfied, everywhere, ValuationSurvives, Survivors}
use Rattle.past_state.proofs.Decided.{IsDecided, stable, in_interval, in_table, is_remembered, survives_stable}
use Rattle.past_state.proofs.HeldLemmas.{held_from, held_now, held_on}
use Rattle.past_state.proofs.KeptLemmas.{end_of, kept_on, up_to_end}
use Rattle.past_state.proofs.WindowTraceLemmas.{held_since, same_everywhere, same_sat}
use Rattle.past_state.specs.machine.Newcomers.{BeginsWith}
use Rattle.windows.proofs.TimeLemmas.{up_to}
use Rattle.windows.specs.machine.Windows.{HasLeast}

-- ---- formulas that hold where another one does, and else only where they held before

up_to_none : (high : Option ℕ) (t : ℕ) → IsUpTo high (t - t)
up_to_none None t = tt
up_to_none (Some high) t = omega arith

at_once : (interval : Interval) (t : ℕ) → interval.low ≡ 0 → IsIn interval (t - t)
at_once interval t low = (omega (arith, low), up_to_none interval.high t)

pub starts : (g begun : Formula) → BeginsWith g begun → (trace : List Step) (i : ℕ) (v : Valuation) → Sat trace i v begun → Sat trace i v g
starts (Once place inner h) begun begins trace i v holds =
    λ none. none (i, omega arith, at_once inner (step_at trace i).time begins.0, subst (Sat trace i v) (sym begins.1) holds, λ k after up_to. tt)
starts (Since place inner f h) begun begins trace i v holds =
    λ none. none (i, omega arith, at_once inner (step_at trace i).time begins.0, subst (Sat trace i v) (sym begins.1) holds, λ k after up_to. absurd (omega (arith, after, up_to)))
starts g begun begins trace i v holds = absurd begins

began : (trace : List Step) (i : ℕ) (v : Valuation) (begun : Formula) (j : ℕ) → j ≤ i → Sat trace j v begun → (Sat trace i v begun → ⊥)
    → (((k : ℕ) × (k < i) × Sat trace k v begun) → ⊥) → ⊥
began trace i v begun j up_to holds not_now none =
    ⊎_elim (λ earlier. none (j, earlier, holds)) (λ from. let is : j ≡ i = omega (arith, up_to, from) in not_now (subst (λ k. Sat trace k v begun) is holds)) (cases_lt j i)

before : (g begun : Formula) → BeginsWith g begun → (trace : List Step) (i : ℕ) (v : Valuation) → Sat trace i v g → (Sat trace i v begun → ⊥)
    → (((k : ℕ) × (k < i) × Sat trace k v begun) → ⊥) → ⊥
before (Once place inner h) begun begins trace i v holds not_now none = holds (λ s. began trace i v begun s.0 s.1 (subst (Sat trace s.0 v) begins.1 s.3) not_now none)
before (Since place inner f h) begun begins trace i v holds not_now none = holds (λ s. began trace i v begun s.0 s.1 (subst (Sat trace s.0 v) begins.1 s.3) not_now none)
before g begun begins trace i v holds not_now none = absurd begins

pub begun_past : (g begun : Formula) → BeginsWith g begun → IsTrue (is_past g) → IsTrue (is_past begun)
begun_past (Once place inner h) begun begins past = subst (λ f. IsTrue (is_past f)) begins.1 past
begun_past (Since place inner f h) begun begins past = subst (λ k. IsTrue (is_past k)) begins.1 (and_parts (is_past f) (is_past h) past).1
begun_past g begun begins past = absurd begins

-- ---- windows

-- what is kept is not later than the last time
no_later : (window : Window) (v : Valuation) (time : ℕ) → KeepsLeast window → HasRow window v time → time ≤ window.last
no_later window v time least has = up_to window.last has.1 time (All-contains (HasLeast window) window.kept (has.0, has.1) least.rows has.2).rise has.3

module _ (kept : RememberedIsKept) (chosen : LeastIsChosen) (last : LastIsTheNew) (decides : PastDecides) (trace : List Step) (step : Step) (interval : Interval)
    (g begun : Formula) (window : Window) (survivors : Survivors) (right : Relation) (past : IsTrue (is_past g)) (later : last_time trace ≤ step.time)
    (endless : interval.high ≡ None) (begins : BeginsWith g begun) (stands : WindowStands trace interval everywhere (satisfied trace g) g window)
    (tables : AreTablesOf trace window everywhere (satisfied (trace ++ step ∷ []) begun) survivors right) where
  endless_window : window.interval.high ≡ None
  endless_window = ap (λ i. i.high) stands.interval_is ∙ endless

  up_to_endless : (d : ℕ) → IsUpTo window.interval.high d
  up_to_endless d = subst (λ h. IsUpTo h d) (sym endless_window) tt

  survives : (v : Valuation) → BindsColumns v window.columns → (k : ℕ) → HasRow window v k → ValuationSurvives survivors v
  survives v binds k has = (tables.survives v binds (k, (omega arith, up_to_endless (window.last - k)), has)).1 tt

  -- what holds, and does not begin, was remembered
  older : (v : Valuation) → BindsColumns v window.columns → Sat (trace ++ step ∷ []) (length trace) v g → (HasValuation right v → ⊥) → (k : ℕ) × HasRow window v k
  older v binds holds absent =
      let found = (stands.gives (last_time trace + interval.low + end_of trace) (omega arith) v binds).1 (λ none. before g begun begins (trace ++ step ∷ []) (length trace) v holds (λ now. absent ((tables.is_right v binds).1 now)) (λ j.
      none (
        j.0,
        j.1,
        (omega (arith, up_to_end trace j.0 j.1), subst (λ h. IsUpTo h (last_time trace + interval.low + end_of trace - (step_at trace j.0).time)) (sym endless) tt),
        (same_sat decides trace step g past v j.0 j.1).1 (starts g begun begins (trace ++ step ∷ []) j.0 v j.2),
        λ k after below. tt,
      ))) in
      (found.0, found.2)

  -- at a time from the step's on
  goes : (time : ℕ) → step.time ≤ time → (v : Valuation) → BindsColumns v window.columns → (Now : Type 0) → (((Now → ⊥) → ⊥) → Now)
      → Now ↔ ((IsIn interval (time - step.time) × HasValuation right v) ⊎ (WindowRemembers window time v × ValuationSurvives survivors v))
      → ((k : ℕ) → HasRow window v k → IsIn interval (time - step.time) → Now)
      → Now ↔ HeldAt (trace ++ step ∷ []) interval time (everywhere v) (satisfied (trace ++ step ∷ []) g v)
  goes time from v binds Now sure unfolded old =
      let gives = stands.gives time (omega (arith, later, from)) v binds in
      let counts = λ (earlier : ℕ). IsIn interval (time - earlier) in
      let same = same_sat decides trace step g past v in (
        λ h. ⊎_elim
            (λ n. held_now trace step counts (everywhere v) (satisfied trace g v) (everywhere v) (satisfied (trace ++ step ∷ []) g v) (same_everywhere trace) same n.0
            (starts g begun begins (trace ++ step ∷ []) (length trace) v ((tables.is_right v binds).0 n.1)))
            (λ e. held_on trace step counts (everywhere v) (satisfied trace g v) (everywhere v) (satisfied (trace ++ step ∷ []) g v) (same_everywhere trace) same (gives.0 e.0) tt)
            (unfolded.0 h),
        λ held. sure (λ refused. held_from trace step counts (everywhere v) (satisfied trace g v) (everywhere v) (satisfied (trace ++ step ∷ []) g v) (same_everywhere trace) same held
            (λ either. ⊎_elim
            (λ n. ⊎_elim (λ has. refused (unfolded.1 (inl (n.0, has)))) (λ absent. let was = older v binds n.1 absent in refused (old was.0 was.1 n.0)) (in_table right v))
            (λ e. let remembered = gives.1 e.0 in refused (unfolded.1 (inr (remembered, survives v binds remembered.0 remembered.2))))
            either)),
      )

  abbrev Answer : Valuation → Type 0
  Answer v = AnswersBy window step.time (ValuationSurvives survivors) right v

  answers_surely : (v : Valuation) → ((Answer v → ⊥) → ⊥) → Answer v
  answers_surely v sure =
      ⊎_elim (λ yes. inl yes)
      (λ no. inr (
        stable (is_remembered window step.time v) (λ none. sure (λ either. ⊎_elim no (λ e. none e.0) either)),
        survives_stable survivors v (λ none. sure (λ either. ⊎_elim no (λ e. none e.1) either)),
      ))
      decided
    where
      decided : IsDecided (IsIn window.interval 0 × HasValuation right v)
      decided = ⊎_elim (λ within. ⊎_elim (λ has. inl (within, has)) (λ no. inr (λ h. no h.1)) (in_table right v)) (λ no. inr (λ h. no h.0)) (in_interval window.interval 0)

  pub begun_answers : (v : Valuation) → BindsColumns v window.columns
      → AnswersBy window step.time (ValuationSurvives survivors) right v ↔ Sat (trace ++ step ∷ []) (length trace) v (Once 0 interval g)
  begun_answers v binds =
      let same : 0 ≡ step.time - step.time = omega arith in
      let told = goes step.time (omega arith) v binds (Answer v) (answers_surely v)
      (subst (λ i. Answer v ↔ ((IsIn i (step.time - step.time) × HasValuation right v) ⊎ (WindowRemembers window step.time v × ValuationSurvives survivors v))) stands.interval_is
      (subst (λ d. Answer v ↔ ((IsIn window.interval d × HasValuation right v) ⊎ (WindowRemembers window step.time v × ValuationSurvives survivors v))) same (λ h. h, λ h. h)))
      (λ k has within. inr (
        (
          k,
          (subst (λ i. i.low ≤ step.time - k) (sym stands.interval_is) (omega (arith, within.0)), up_to_endless (step.time - k)),
          has,
        ),
        survives v binds k has,
      )) in
      let turned = held_since trace step interval (everywhere v) (satisfied (trace ++ step ∷ []) g v) in
      (λ h. turned.0 (told.0 h), λ h. told.1 (turned.1 h))

  module _ (after : Window) (committed : IsCommittedBy window step.time (ValuationSurvives survivors) right after) where
    -- in the place of what was kept something is
    still : (v : Valuation) → BindsColumns v window.columns → (k : ℕ) → HasRow window v k → (t : ℕ) × (t ≤ step.time) × HasRow after v t
    still v binds k has =
        ⊎_elim (λ s. (s.0, subst (λ l. s.0 ≤ l) committed.last_is (no_later after v s.0 committed.least s.2), s.2)) (λ ended. absurd ended)
        (subst (λ h. IsServedTime h window.interval.low step.time (HasRow after v) k ⊎ IsEndedTime h step.time k) endless_window (committed.serves v k (inl (has, survives v binds k has))))

    remembered_after : (v : Valuation) → BindsColumns v window.columns → (time : ℕ) → step.time ≤ time → (k : ℕ) → HasRow window v k → IsIn interval (time - step.time) → WindowRemembers after time v
    remembered_after v binds time from k has within =
        let now = still v binds k has in (
          now.0,
          subst (λ i. IsIn i (time - now.0)) (sym (committed.interval_is ∙ stands.interval_is))
              (omega (arith, within.0, now.1, from), subst (λ h. IsUpTo h (time - now.0)) (sym endless) tt),
          now.2,
        )

    serves : (v : Valuation) → BindsColumns v window.columns → (t : ℕ)
        → (HasRow window v t × ValuationSurvives survivors v) ⊎ ((t ≡ step.time) × Sat (trace ++ step ∷ []) (length trace) v g)
        → IsServedTime window.interval.high window.interval.low step.time (HasRow after v) t ⊎ IsEndedTime window.interval.high step.time t
    serves v binds t (inl old) = committed.serves v t (inl old)
    serves v binds t (inr new) =
        ⊎_elim (λ has. committed.serves v t (inr (new.0, has)))
        (λ absent.
        let was = older v binds new.1 absent in
        let now = still v binds was.0 was.1 in
        subst (λ h. IsServedTime h window.interval.low step.time (HasRow after v) t ⊎ IsEndedTime h step.time t) (sym endless_window)
        (inl (now.0, subst (λ l. now.0 ≤ l) (sym new.0) now.1, now.2)))
        (in_table right v)

    keeps_on : (v : Valuation) → BindsColumns v window.columns → (time : ℕ)
        → HasRow after v time ↔ KeptAt (trace ++ step ∷ []) window.interval (everywhere v) (satisfied (trace ++ step ∷ []) g v) time
    keeps_on v binds =
        let held = subst (λ i. (time : ℕ) → HasRow window v time ↔ KeptAt trace i (everywhere v) (satisfied trace g v) time) (sym stands.interval_is) (stands.kept v binds) in
        kept_on chosen trace step (everywhere v) (satisfied trace g v) (everywhere v) (satisfied (trace ++ step ∷ []) g v) (same_everywhere trace) (same_sat decides trace step g past v)
        (last trace step) later window after (ValuationSurvives survivors v) (Sat (trace ++ step ∷ []) (length trace) v g) v committed.interval_is committed.last_is committed.least
        (λ t has. ⊎_elim (λ old. inl old) (λ new. inr (new.0, starts g begun begins (trace ++ step ∷ []) (length trace) v ((tables.is_right v binds).0 new.1))) (committed.from v t has))
        (serves v binds) held (λ t has. (λ h. tt, λ h. survives v binds t has)) (λ h. h, λ h. h)

    pub begun_stands : WindowStands (trace ++ step ∷ []) interval everywhere (satisfied (trace ++ step ∷ []) g) g after
    begun_stands = record {
      interval_is = committed.interval_is ∙ stands.interval_is;
      columns_are = λ x. subst (λ l. Contains l x ↔ IsFree x g) (sym committed.columns_are) (stands.columns_are x);
      up_to = subst (λ t. after.last ≤ t) (sym (last trace step)) (omega (arith, committed.last_is));
      gives = λ time from v binds.
          let from_step : step.time ≤ time = subst (λ t. t ≤ time) (last trace step) from in
          let before_binds = subst (BindsColumns v) committed.columns_are binds in
          goes time from_step v before_binds (WindowRemembers after time v) (stable (is_remembered after time v))
          (subst (λ i. WindowRemembers after time v ↔ ((IsIn i (time - step.time) × HasValuation right v) ⊎ (WindowRemembers window time v × ValuationSurvives survivors v)))
          stands.interval_is (committed.remembers time from_step v)) (remembered_after v before_binds time from_step);
      kept = λ v binds. subst (λ i. (time : ℕ) → HasRow after v time ↔ KeptAt (trace ++ step ∷ []) i (everywhere v) (satisfied (trace ++ step ∷ []) g v) time) stands.interval_is
          (keeps_on v (subst (BindsColumns v) committed.columns_are binds));
    }
