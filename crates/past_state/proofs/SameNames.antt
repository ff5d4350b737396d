-- What operators on the past remember and answer depends on the events of their names alone.
use Rattle.past_state.proofs.Vocabulary.{◌≡◌, ◌∙◌, ◌↔◌, ⊎_elim, ℕ, zero, suc, ◌-◌, ◌<◌, ◌≤◌, List, [], ◌∷◌, ◌++◌, length, drop, All, Contains, Option, None, Some, refl, sym, subst, arith}
use Rattle.past_state.proofs.Vocabulary.{length-append, All-cons, All-head, All-nil, All-tail, Contains-append_cases, Contains-append_left, Contains-append_right, step_at, IsIn, Valuation, NameId}
use Rattle.past_state.proofs.Vocabulary.{Interval, Step, Formula, Not, Implies, Prev, Once, Historically, Since, Sat, NamesDecide, HaveSameNamedEvents, HaveSameEvents, names_in_formula}
use Rattle.past_state.proofs.Vocabulary.{TablesStandFor, Tabled, denial, last_time, Relation, ChosenBy, IsUpToTime, Window, HeldWhere, HasPairAt, KeptAt, everywhere, satisfied, MemoryStands}
use Rattle.past_state.proofs.Vocabulary.{names_in_all, inner, AllStand, WindowStands, Memory, OperatorState}
use Rattle.past_state.proofs.OuterOperators.{outer_onto}
use Rattle.past_state.specs.declared.memories.Memory.TheVariants as memories

-- ---- names of what is kept

denial_names : (g : Formula) → names_in_formula (denial g) ≡ names_in_formula g
denial_names (Not place h) = refl
denial_names (Implies place a b) = refl
denial_names g = refl

-- ---- formulas whose names are among some

module _ (names : List NameId) where
  abbrev pub Within : Formula → Type 0
  Within f = (name : NameId) → Contains (names_in_formula f) name → Contains names name

  pub all_within : (fs : List Formula) → ((name : NameId) → Contains (names_in_all fs) name → Contains names name) → All Within fs
  all_within [] within = All-nil Within
  all_within (f ∷ fs) within =
      All-cons Within f fs (λ name there. within name (Contains-append_left (names_in_formula f) (names_in_all fs) name there))
      (all_within fs (λ name there. within name (Contains-append_right (names_in_formula f) (names_in_all fs) name there)))

  pub names_within : (fs : List Formula) → All Within fs → (name : NameId) → Contains (names_in_all fs) name → Contains names name
  names_within [] within name there = absurd (omega (arith, there.1))
  names_within (f ∷ fs) within name there =
      ⊎_elim (All-head Within f fs within name) (names_within fs (All-tail Within f fs within) name) (Contains-append_cases (names_in_formula f) (names_in_all fs) name there)

  all_drop : (n : ℕ) (fs : List Formula) → All Within fs → All Within (drop n fs)
  all_drop zero fs within = within
  all_drop (suc n) [] within = within
  all_drop (suc n) (f ∷ fs) within = all_drop n fs (All-tail Within f fs within)

  pub outer_within : (before fs : List Formula) → All Within before → All Within fs → All Within (outer_onto before fs)
  outer_within before [] first within = first
  outer_within before (f ∷ fs) first within =
      outer_within (f ∷ drop (length (inner f)) before) fs
      (All-cons Within f (drop (length (inner f)) before) (All-head Within f fs within) (all_drop (length (inner f)) before first)) (All-tail Within f fs within)

-- ---- traces with another last step

time_at_end : (trace : List Step) (s t : Step) → s.time ≡ t.time → (i : ℕ) → (step_at (trace ++ s ∷ []) i).time ≡ (step_at (trace ++ t ∷ []) i).time
time_at_end [] s t same zero = same
time_at_end [] s t same (suc i) = refl
time_at_end (x ∷ trace) s t same zero = refl
time_at_end (x ∷ trace) s t same (suc i) = time_at_end trace s t same i

events_at_end : (names : List NameId) (trace : List Step) (s t : Step) → HaveSameEvents names s.events t.events → (i : ℕ)
    → HaveSameEvents names (step_at (trace ++ s ∷ []) i).events (step_at (trace ++ t ∷ []) i).events
events_at_end names [] s t same zero = same
events_at_end names [] s t same (suc i) = λ event named. (λ h. h, λ h. h)
events_at_end names (x ∷ trace) s t same zero = λ event named. (λ h. h, λ h. h)
events_at_end names (x ∷ trace) s t same (suc i) = events_at_end names trace s t same i

pub same_with : (names : List NameId) (trace : List Step) (s t : Step) → s.time ≡ t.time → HaveSameEvents names s.events t.events → HaveSameNamedEvents names (trace ++ s ∷ []) (trace ++ t ∷ [])
same_with names trace s t time same = record {
  long = omega (arith, length-append trace (s ∷ []), length-append trace (t ∷ []));
  times = time_at_end trace s t time;
  events = events_at_end names trace s t same;
}

pub last_same : (names : List NameId) (trace other : List Step) → HaveSameNamedEvents names trace other → last_time trace ≡ last_time other
last_same names [] [] same = refl
last_same names [] (t ∷ other) same = absurd (omega (arith, same.long))
last_same names (s ∷ trace) [] same = absurd (omega (arith, same.long))
last_same names (s ∷ []) (t ∷ []) same = same.times 0
last_same names (s ∷ []) (t ∷ u ∷ other) same = absurd (omega (arith, same.long))
last_same names (s ∷ r ∷ trace) (t ∷ []) same = absurd (omega (arith, same.long))
last_same names (s ∷ r ∷ trace) (t ∷ u ∷ other) same =
    last_same names (r ∷ trace) (u ∷ other) (record { long = omega (arith, same.long); times = λ i. same.times (suc i); events = λ i. same.events (suc i) })

pub turned : (names : List NameId) (trace other : List Step) → HaveSameNamedEvents names trace other → HaveSameNamedEvents names other trace
turned names trace other same = record {
  long = sym same.long;
  times = λ i. sym (same.times i);
  events = λ i event named. ((same.events i event named).1, (same.events i event named).0);
}

-- ---- what held, and what is kept

chosen_same : (high : Option ℕ) (low last : ℕ) (P Q : ℕ → Type 0) → ((t : ℕ) → Q t → P t) → (time : ℕ) → ChosenBy high low last P time → ChosenBy high low last Q time
chosen_same None low last P Q back time chosen = λ t there. chosen t (back t there)
chosen_same (Some high) low last P Q back time chosen = (chosen.0, λ far t there far_t. chosen.1 far t (back t there) far_t)

module _ (names : List NameId) where
  held_same : (trace other : List Step) → HaveSameNamedEvents names trace other → (Counts : ℕ → Type 0) (F G F' G' : ℕ → Type 0) → ((k : ℕ) → F k → F' k) → ((k : ℕ) → G k → G' k)
      → HeldWhere trace Counts F G → HeldWhere other Counts F' G'
  held_same trace other same Counts F G F' G' left right held none =
      held (λ h. none (
        h.0,
        subst (λ n. h.0 < n) same.long h.1,
        subst Counts (same.times h.0) h.2,
        right h.0 h.3,
        λ k behind below. left k (h.4 k behind (subst (λ n. k < n) (sym same.long) below)),
      ))

  kept_same : (trace other : List Step) → HaveSameNamedEvents names trace other → (interval : Interval) (F G F' G' : ℕ → Type 0) → ((k : ℕ) → F k ↔ F' k) → ((k : ℕ) → G k ↔ G' k)
      → (time : ℕ) → KeptAt trace interval F G time → KeptAt other interval F' G' time
  kept_same trace other same interval F G F' G' left right time kept = (
    held_same trace other same (λ earlier. earlier ≡ time) F G F' G' (λ k. (left k).0) (λ k. (right k).0) kept.0,
    subst (λ l. ChosenBy interval.high interval.low l (HasPairAt other F' G') time) (last_same names trace other same)
        (chosen_same interval.high interval.low (last_time trace) (HasPairAt trace F G) (HasPairAt other F' G')
        (λ t. held_same other trace (turned names trace other same) (λ earlier. earlier ≡ t) F' G' F G (λ k. (left k).1) (λ k. (right k).1)) time kept.1),
  )

  window_same : (trace other : List Step) → HaveSameNamedEvents names trace other → (interval : Interval) (F G F' G' : Valuation → ℕ → Type 0) (g : Formula) (window : Window)
      → ((v : Valuation) (k : ℕ) → F v k ↔ F' v k) → ((v : Valuation) (k : ℕ) → G v k ↔ G' v k) → WindowStands trace interval F G g window → WindowStands other interval F' G' g window
  window_same trace other same interval F G F' G' g window left right stands = record {
    interval_is = stands.interval_is;
    columns_are = stands.columns_are;
    up_to = subst (λ l. window.last ≤ l) (last_same names trace other same) stands.up_to;
    gives = λ time from v binds.
        let was = stands.gives time (subst (λ l. l ≤ time) (sym (last_same names trace other same)) from) v binds in (
          λ remembers. held_same trace other same (λ earlier. IsIn interval (time - earlier)) (F v) (G v) (F' v) (G' v) (λ k. (left v k).0) (λ k. (right v k).0) (was.0 remembers),
          λ held. was.1 (held_same other trace (turned names trace other same) (λ earlier. IsIn interval (time - earlier)) (F' v) (G' v) (F v) (G v) (λ k. (left v k).1) (λ k. (right v k).1) held),
        );
    kept = λ v binds time.
        let was = stands.kept v binds time in (
          λ has. kept_same trace other same interval (F v) (G v) (F' v) (G' v) (left v) (right v) time (was.0 has),
          λ kept. was.1 (kept_same other trace (turned names trace other same) interval (F' v) (G' v) (F v) (G v) (λ k. ((left v k).1, (left v k).0)) (λ k. ((right v k).1, (right v k).0)) time kept),
        );
  }

  module _ (decide : NamesDecide) (trace other : List Step) (same : HaveSameNamedEvents names trace other) where
    sat_same : (f : Formula) → Within names f → (i : ℕ) (v : Valuation) → Sat trace i v f ↔ Sat other i v f
    sat_same f within i v = decide trace other i v f (record { long = same.long; times = same.times; events = λ k event named. same.events k event (within event.name named) })

    tabled_same : (f : Formula) → Within names f → (i : ℕ) (v : Valuation) → Tabled trace i v f ↔ Tabled other i v f
    tabled_same (Historically place interval g) within i v =
        let both = sat_same (Historically place interval g) within i v in (λ fails holds. fails (both.1 holds), λ fails holds. fails (both.0 holds))
    tabled_same f within i v = sat_same f within i v

    pub stand_same : (i : ℕ) (fs : List Formula) (tables : List Relation) → All (Within names) fs → TablesStandFor trace i fs tables → TablesStandFor other i fs tables
    stand_same i [] tables within stand = tt
    stand_same i (f ∷ fs) [] within stand = absurd stand
    stand_same i (f ∷ fs) (t ∷ tables) within stand = (
      record {
        columns = stand.0.columns;
        rows = λ v binds.
            let both = tabled_same f (All-head (Within names) f fs within) i v in
            (λ has. both.0 ((stand.0.rows v binds).0 has), λ holds. (stand.0.rows v binds).1 (both.1 holds));
      },
      stand_same i fs tables (All-tail (Within names) f fs within) stand.1,
    )

    every_same : (v : Valuation) (k : ℕ) → everywhere v k ↔ everywhere v k
    every_same v k = (λ h. h, λ h. h)

    last_holds : (g : Formula) → Within names g → (v : Valuation) → Sat trace (length trace - 1) v g → Sat other (length other - 1) v g
    last_holds g within v holds = subst (λ n. Sat other (n - 1) v g) same.long ((sat_same g within (length trace - 1) v).0 holds)

    last_held : (g : Formula) → Within names g → (v : Valuation) → Sat other (length other - 1) v g → Sat trace (length trace - 1) v g
    last_held g within v holds = (sat_same g within (length trace - 1) v).1 (subst (λ n. Sat other (n - 1) v g) (sym same.long) holds)

    memory_same : (f : Formula) (m : Memory) → Within names f → MemoryStands trace f m → MemoryStands other f m
    memory_same (Prev place interval g) (memories.Prev slot operand) within stands = record {
      interval_is = stands.interval_is;
      columns_are = stands.columns_are;
      up_to = subst (λ l. IsUpToTime l slot.last) (last_same names trace other same) stands.up_to;
      gives = λ time from v binds.
          let was = stands.gives time (subst (λ l. l ≤ time) (sym (last_same names trace other same)) from) v binds in (
            λ gives. let h = was.0 gives in (
              subst (λ n. 0 < n) same.long h.0,
              subst (λ l. IsIn interval (time - l)) (last_same names trace other same) h.1,
              last_holds g within v h.2,
            ),
            λ h. was.1 (
              subst (λ n. 0 < n) (sym same.long) h.0,
              subst (λ l. IsIn interval (time - l)) (sym (last_same names trace other same)) h.1,
              last_held g within v h.2,
            ),
          );
      kept = λ v binds time.
          let was = stands.kept v binds time in (
            λ has. let h = was.0 has in (subst (λ n. 0 < n) same.long h.0, h.1 ∙ last_same names trace other same, last_holds g within v h.2),
            λ h. was.1 (subst (λ n. 0 < n) (sym same.long) h.0, h.1 ∙ sym (last_same names trace other same), last_held g within v h.2),
          );
    }
    memory_same (Once place interval g) (memories.Once window right) within stands =
        window_same trace other same interval everywhere (satisfied trace g) everywhere (satisfied other g) g window every_same (λ v k. sat_same g within k v) stands
    memory_same (Historically place interval g) (memories.Once window right) within stands =
        window_same trace other same interval everywhere (satisfied trace (denial g)) everywhere (satisfied other (denial g)) (denial g) window every_same
        (λ v k. sat_same (denial g) (λ name there. within name (subst (λ l. Contains l name) (denial_names g) there)) k v) stands
    memory_same (Since place interval g h) (memories.Since window left left_tables right) within stands =
        window_same trace other same interval (satisfied trace g) (satisfied trace h) (satisfied other g) (satisfied other h) h window
        (λ v k. sat_same g (λ name there. within name (Contains-append_left (names_in_formula g) (names_in_formula h) name there)) k v)
        (λ v k. sat_same h (λ name there. within name (Contains-append_right (names_in_formula g) (names_in_formula h) name there)) k v) stands
    memory_same f m within stands = absurd stands

    pub all_same : (fs : List Formula) (operators : List OperatorState) → All (Within names) fs → AllStand trace fs operators → AllStand other fs operators
    all_same [] operators within stands = tt
    all_same (f ∷ fs) [] within stands = absurd stands
    all_same (f ∷ fs) (o ∷ operators) within stands =
        (memory_same f o.memory (All-head (Within names) f fs within) stands.0, all_same fs operators (All-tail (Within names) f fs within) stands.1)
