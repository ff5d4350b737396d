-- Windows and slots that are made again stand for each trace whose kept rows are theirs.
use Rattle.past_state.proofs.Vocabulary.{◌≡◌, ◌∙◌, ◌↔◌, ⊎_elim, ℕ, suc, ◌+◌, ◌-◌, ◌<◌, ◌≤◌, List, [], ◌∷◌, ◌++◌, reverse, length, All, Contains, Option, None, Some, refl, sym, ap, subst, arith}
use Rattle.past_state.proofs.Vocabulary.{IsSome, slice_get, All-contains, reverse-reverse, false≢true, HasNoRepeats, IsIn, Valuation, value_at, BindsColumns, valuation_of, Interval, Step, VarId}
use Rattle.past_state.proofs.Vocabulary.{Value, Formula, Prev, Once, Historically, Since, AreFreeVariables, Sat, HoldsAnywhere, FreeVariablesDecide, denial, last_time, here, later, first_or_later}
use Rattle.past_state.proofs.Vocabulary.{none_in_nil, Contains-from_map, Contains-map, cell_here, cell_later, value_at-with_inside, AgreesWithRow, row_cell, stored_long, pair, pairs_of_last, Slot}
use Rattle.past_state.proofs.Vocabulary.{GivesLast, HasLast, IsSlot, LastHasColumns, Window, HasRow, WindowRemembers, KeptPair, LastStep, HeldAt, WindowStands, HeldWhere, HasPairAt, KeptAt, AreKeptOf}
use Rattle.past_state.proofs.Vocabulary.{IsRowToKeep, KeptFor, IsLastTime, kept_row, IsFor, IsUpToTimeOf, MemoryStands, columns_of, last_or_zero, AreRestored, AreFor, AllStand, IsWhole, StoresFor}
use Rattle.past_state.proofs.Vocabulary.{KeptRow, Memory, OperatorState}
use Rattle.std.proofs.lemmas.List.{append-nil}
use Rattle.past_state.proofs.BoundsLemmas.{kept_with}
use Rattle.past_state.proofs.KeptLemmas.{remembers_held}
use Rattle.past_state.proofs.MemoryLemmas.{still_for}
use Rattle.past_state.proofs.RestoredRowLemmas.{chosen_fewer, numbered, reversed_front, up_to_from}
use Rattle.past_state.proofs.SavedLemmas.{columns_free}
use Rattle.past_state.specs.declared.memories.Memory.TheVariants as memories

-- ---- a valuation that binds the columns has the values of a row

-- the value at a variable
value_of : (v : Valuation) (x : VarId) → IsSome (value_at v x) → (value : Value) × (value_at v x ≡ Some value)
value_of v x some = by (value_at v x) some
  where
    by : (o : Option Value) → IsSome o → (value : Value) × (o ≡ Some value)
    by None s = absurd (false≢true s)
    by (Some value) s = (value, refl)

row_under : (v : Valuation) (columns : List VarId) → HasNoRepeats columns → BindsColumns v columns → (row : List Value) × (length row ≡ length columns) × AgreesWithRow v columns row
row_under v [] distinct binds = ([], refl, λ x there. absurd (none_in_nil x there))
row_under v (y ∷ columns) distinct binds =
    let first = value_of v y (binds y (here y columns)) in
    let rest = row_under v columns distinct.1 (λ x there. binds x (later x y columns there)) in (
      first.0 ∷ rest.0,
      ap suc rest.1,
      λ x there. ⊎_elim
          (λ same. subst (λ z. value_at v z ≡ row_cell (y ∷ columns) (first.0 ∷ rest.0) z) same (first.1 ∙ sym (cell_here y y columns first.0 rest.0 refl)))
          (λ behind. rest.2 x behind ∙ sym (cell_later y x columns first.0 rest.0 (λ same. distinct.0 (subst (Contains columns) (sym same) behind))))
          (first_or_later x y columns there),
    )

-- ---- what has to be kept speaks of the free variables alone

held_same : (trace : List Step) (Counts F G P Q : ℕ → Type 0) → ((k : ℕ) → F k → P k) → ((k : ℕ) → G k → Q k) → HeldWhere trace Counts F G → HeldWhere trace Counts P Q
held_same trace Counts F G P Q left right held none = held (λ h. none (h.0, h.1, h.2, right h.0 h.3, λ k behind below. left k (h.4 k behind below)))

kept_same : (trace : List Step) (interval : Interval) (F G P Q : ℕ → Type 0) (time : ℕ) → ((k : ℕ) → F k ↔ P k) → ((k : ℕ) → G k ↔ Q k)
    → KeptAt trace interval F G time → KeptAt trace interval P Q time
kept_same trace interval F G P Q time left right held = (
  held_same trace (λ earlier. earlier ≡ time) F G P Q (λ k. (left k).0) (λ k. (right k).0) held.0,
  chosen_fewer interval.high interval.low (last_time trace) (HasPairAt trace F G) (HasPairAt trace P Q) time
      (λ t. held_same trace (λ earlier. earlier ≡ t) P Q F G (λ k. (left k).1) (λ k. (right k).1)) held.1,
)

-- two valuations with the same values of the columns
HaveSame : List VarId → Valuation → Valuation → Type 0
HaveSame columns v w = (x : VarId) → Contains columns x → value_at v x ≡ value_at w x

kept_under : FreeVariablesDecide → (trace : List Step) (f : Formula) (m : Memory) (v w : Valuation) (time : ℕ) → IsFor f m → HaveSame (columns_of m) v w → KeptFor trace f v time
    → KeptFor trace f w time
unfolding HaveSame
kept_under decides trace (Prev place interval g) (memories.Prev slot operand) v w time for same held =
    (held.0, held.1, (decides trace (length trace - 1) v w g (λ x free. same x ((for.1.exact x).1 free))).0 held.2)
kept_under decides trace (Once place interval g) (memories.Once window right) v w time for same held =
    kept_same trace interval HoldsAnywhere (λ i. Sat trace i v g) HoldsAnywhere (λ i. Sat trace i w g) time (λ k. (λ h. h, λ h. h))
    (λ k. decides trace k v w g (λ x free. same x ((for.1.exact x).1 free))) held
kept_under decides trace (Historically place interval g) (memories.Once window right) v w time for same held =
    kept_same trace interval HoldsAnywhere (λ i. Sat trace i v (denial g)) HoldsAnywhere (λ i. Sat trace i w (denial g)) time (λ k. (λ h. h, λ h. h))
    (λ k. decides trace k v w (denial g) (λ x free. same x ((for.1.exact x).1 free))) held
kept_under decides trace (Since place interval g h) (memories.Since window left left_tables right) v w time for same held =
    kept_same trace interval (λ i. Sat trace i v g) (λ i. Sat trace i v h) (λ i. Sat trace i w g) (λ i. Sat trace i w h) time
    (λ k. decides trace k v w g (λ x free. same x ((for.1.exact x).1 (for.5 x free)))) (λ k. decides trace k v w h (λ x free. same x ((for.1.exact x).1 free))) held
kept_under decides trace f m v w time for same held = absurd for

-- ---- one window or slot

module _ (decides : FreeVariablesDecide) (trace : List Step) (fs : List Formula) (rows : List KeptRow) (are : AreKeptOf trace fs rows) (number : ℕ) (f : Formula) (at : slice_get fs number ≡ Some f)
    (m : Memory) (for : IsFor f m) (distinct : HasNoRepeats (columns_of m)) (stores : (p : KeptPair) → StoresFor m p ↔ Contains rows (kept_row number p)) where
  -- a row that it has is kept for each valuation with its values
  kept_of_row : (v : Valuation) (row : List Value) (time : ℕ) → length row ≡ length (columns_of m) → AgreesWithRow v (columns_of m) row → StoresFor m (pair row time) → KeptFor trace f v time
  unfolding HaveSame
  kept_of_row v row time long agrees stored =
      let k : IsRowToKeep trace fs (kept_row number (pair row time)) = (are (kept_row number (pair row time))).0 ((stores (pair row time)).0 stored) in
      let held : KeptFor trace f (valuation_of (columns_of m) row) time = kept_with trace fs (kept_row number (pair row time)) f (columns_of m) at (columns_free f m for) k in
      kept_under decides trace f m (valuation_of (columns_of m) row) v time for
      (λ x there. value_at-with_inside (columns_of m) row _ x distinct long there ∙ sym (agrees x there)) held

  -- and the row with the values of a valuation that has to be kept is there
  row_of_kept : (v : Valuation) (time : ℕ) → BindsColumns v (columns_of m) → KeptFor trace f v time
      → (row : List Value) × (length row ≡ length (columns_of m)) × AgreesWithRow v (columns_of m) row × StoresFor m (pair row time)
  unfolding HaveSame
  row_of_kept v time binds held =
      let r = row_under v (columns_of m) distinct binds in (
        r.0,
        r.1,
        r.2,
        (stores (pair r.0 time)).1 ((are (kept_row number (pair r.0 time))).1 (record {
          operator = f;
          numbered = at;
          columns = columns_of m;
          free = columns_free f m for;
          fits = r.1;
          kept = kept_under decides trace f m v (valuation_of (columns_of m) r.0) time for
              (λ x there. r.2 x there ∙ sym (value_at-with_inside (columns_of m) r.0 _ x distinct r.1 there)) held;
        })),
      )

window_stands : (trace : List Step) (interval : Interval) (F G : Valuation → ℕ → Type 0) (g : Formula) (window : Window) → window.interval ≡ interval
    → AreFreeVariables g window.columns → window.last ≤ last_time trace
    → ((v : Valuation) → BindsColumns v window.columns → (time : ℕ) → HasRow window v time ↔ KeptAt trace interval (F v) (G v) time) → WindowStands trace interval F G g window
window_stands trace interval F G g window is free up_to held = record {
  interval_is = is;
  columns_are = free.exact;
  up_to = up_to;
  gives = λ time from v binds. subst (λ i. WindowRemembers window time v ↔ HeldAt trace i time (F v) (G v)) is
      (remembers_held trace (F v) (G v) window v (subst (λ i. (t : ℕ) → HasRow window v t ↔ KeptAt trace i (F v) (G v) t) (sym is) (held v binds)) time from);
  kept = held;
}

-- of a slot: what it gives, from what it has
gives_last : (trace : List Step) (interval : Interval) (time : ℕ) (last : Option LastStep) (v : Valuation) (G : Type 0)
    → ((t : ℕ) → HasLast last v t ↔ ((0 < length trace) × (t ≡ last_time trace) × G))
    → GivesLast interval time last v ↔ ((0 < length trace) × IsIn interval (time - last_time trace) × G)
gives_last trace interval time None v G has = (λ none. absurd none, λ h. absurd ((has (last_time trace)).1 (h.0, refl, h.2)))
gives_last trace interval time (Some last) v G has = (
  λ h. let k = (has last.time).0 (refl, h.1) in (k.0, subst (λ t. IsIn interval (time - t)) k.1 h.0, k.2),
  λ h. let k = (has (last_time trace)).1 (h.0, refl, h.2) in (subst (λ t. IsIn interval (time - t)) k.0 h.1, k.1),
)

-- a valuation that it has is that of one of its rows
of_last : (slot : Slot) → IsSlot slot × All (λ q. length q.row ≡ length slot.columns) (pairs_of_last slot.last) → (v : Valuation) (time : ℕ) → HasLast slot.last v time → {K : Type 0}
    → ((row : List Value) → length row ≡ length slot.columns → AgreesWithRow v slot.columns row → Contains (pairs_of_last slot.last) (pair row time) → K) → K
of_last slot whole v time has {K} then = by slot.last whole.0.fits whole.1 has then
  where
    by : (last : Option LastStep) → LastHasColumns slot.columns last → All (λ q. length q.row ≡ length slot.columns) (pairs_of_last last) → HasLast last v time
        → ((row : List Value) → length row ≡ length slot.columns → AgreesWithRow v slot.columns row → Contains (pairs_of_last last) (pair row time) → K) → K
    by None fits long has then = absurd has
    by (Some last) fits long has then =
        let there : Contains (pairs_of_last (Some last)) (pair has.1.0 time) = subst (λ t. Contains (pairs_of_last (Some last)) (pair has.1.0 t)) (sym has.0)
        (Contains-map (λ row. pair row last.time) last.rows.rows has.1.0 has.1.1) in
        then has.1.0 (All-contains (λ q. length q.row ≡ length slot.columns) (pairs_of_last (Some last)) (pair has.1.0 time) long there) (subst (λ l. AgreesWithRow v l has.1.0) fits has.1.2) there

to_last : (slot : Slot) → IsSlot slot × All (λ q. length q.row ≡ length slot.columns) (pairs_of_last slot.last) → (v : Valuation) (time : ℕ) (row : List Value) → AgreesWithRow v slot.columns row
    → Contains (pairs_of_last slot.last) (pair row time) → HasLast slot.last v time
to_last slot whole v time row agrees there = by slot.last whole.0.fits there
  where
    by : (last : Option LastStep) → LastHasColumns slot.columns last → Contains (pairs_of_last last) (pair row time) → HasLast last v time
    by None fits there = absurd (none_in_nil (pair row time) there)
    by (Some last) fits there =
        let from = Contains-from_map (λ r. pair r last.time) last.rows.rows (pair row time) there in
        let is : from.0 ≡ row = ap (λ p. p.row) from.2 in
        (sym (ap (λ p. p.time) from.2), (row, subst (Contains last.rows.rows) is from.1, subst (λ l. AgreesWithRow v l row) (sym fits) agrees))

-- what stores just the kept rows stands for the trace
one_stands : FreeVariablesDecide → (trace : List Step) (fs : List Formula) (rows : List KeptRow) → AreKeptOf trace fs rows → (number : ℕ) (f : Formula) → slice_get fs number
    ≡ Some f → (m : Memory) → IsFor f m
    → IsWhole m → IsUpToTimeOf (last_time trace) m → ((p : KeptPair) → StoresFor m p ↔ Contains rows (kept_row number p)) → MemoryStands trace f m
one_stands decides trace fs rows are number (Prev place interval g) at (memories.Prev slot operand) for whole up_to stores =
    let held : (v : Valuation) → BindsColumns v slot.columns → (time : ℕ) → HasLast slot.last v time ↔
    ((0 < length trace) × (time ≡ last_time trace) × Sat trace (length trace - 1) v g) = λ v binds time. (
      λ has. of_last slot whole v time has (λ row long agrees stored.
          kept_of_row decides trace fs rows are number (Prev place interval g) at (memories.Prev slot operand) for whole.0.distinct stores v row time long agrees stored),
      λ k. let r = row_of_kept decides trace fs rows are number (Prev place interval g) at (memories.Prev slot operand) for whole.0.distinct stores v time binds k in
          to_last slot whole v time r.0 r.2 r.3,
    ) in record {
      interval_is = for.2;
      columns_are = for.1.exact;
      up_to = up_to;
      gives = λ time from v binds. gives_last trace interval time slot.last v (Sat trace (length trace - 1) v g) (held v binds);
      kept = held;
    }
one_stands decides trace fs rows are number (Once place interval g) at (memories.Once window right) for whole up_to stores =
    window_stands trace interval (λ v. HoldsAnywhere) (λ v i. Sat trace i v g) g window for.2 for.1 up_to (λ v binds time. (
      λ has. kept_of_row decides trace fs rows are number (Once place interval g) at (memories.Once window right) for whole.distinct stores v has.0 time
          (stored_long window has.0 time whole (has.1, has.2, has.3)) has.4 (has.1, has.2, has.3),
      λ k. let r = row_of_kept decides trace fs rows are number (Once place interval g) at (memories.Once window right) for whole.distinct stores v time binds k in
          (r.0, r.3.0, r.3.1, r.3.2, r.2),
    ))
one_stands decides trace fs rows are number (Historically place interval g) at (memories.Once window right) for whole up_to stores =
    window_stands trace interval (λ v. HoldsAnywhere) (λ v i. Sat trace i v (denial g)) (denial g) window for.2 for.1 up_to (λ v binds time. (
      λ has. kept_of_row decides trace fs rows are number (Historically place interval g) at (memories.Once window right) for whole.distinct stores v has.0 time
          (stored_long window has.0 time whole (has.1, has.2, has.3)) has.4 (has.1, has.2, has.3),
      λ k. let r = row_of_kept decides trace fs rows are number (Historically place interval g) at (memories.Once window right) for whole.distinct stores v time binds k in
          (r.0, r.3.0, r.3.1, r.3.2, r.2),
    ))
one_stands decides trace fs rows are number (Since place interval g h) at (memories.Since window left left_tables right) for whole up_to stores =
    window_stands trace interval (λ v i. Sat trace i v g) (λ v i. Sat trace i v h) h window for.2 for.1 up_to (λ v binds time. (
      λ has. kept_of_row decides trace fs rows are number (Since place interval g h) at (memories.Since window left left_tables right) for whole.distinct stores v has.0 time
          (stored_long window has.0 time whole (has.1, has.2, has.3)) has.4 (has.1, has.2, has.3),
      λ k. let r = row_of_kept decides trace fs rows are number (Since place interval g h) at (memories.Since window left left_tables right) for whole.distinct stores v time binds k in
          (r.0, r.3.0, r.3.1, r.3.2, r.2),
    ))
one_stands decides trace fs rows are number f at m for whole up_to stores = absurd for

-- ---- all of them

each_stands : FreeVariablesDecide → (trace : List Step) (last : Option ℕ) (rows : List KeptRow) (gs more : List Formula) → last_or_zero last ≡ last_time trace
    → AreKeptOf trace (reverse gs ++ more) rows → (operators after : List OperatorState)
    → AreFor gs operators → AreRestored last rows 0 operators after → AllStand trace gs after
each_stands decides trace last rows [] more is are operators after for restored = tt
each_stands decides trace last rows (g ∷ gs) more is are [] after for restored = absurd for
each_stands decides trace last rows (g ∷ gs) more is are (o ∷ operators) [] for restored = absurd restored
each_stands decides trace last rows (g ∷ gs) more is are (o ∷ operators) (p ∷ after) for restored =
    let one = restored.0 in
    let number : length operators + 0 ≡ length operators = omega arith in (
      one_stands decides trace (reverse (g ∷ gs) ++ more) rows are (length operators) g (numbered g gs more o operators for) p.memory (still_for g o.memory p.memory for.0 one.same) one.whole
          (up_to_from p.memory last (last_time trace) one.last_is (omega (arith, is))) (subst (λ n. (q : KeptPair) → StoresFor p.memory q ↔ Contains rows (kept_row n q)) number one.stores),
      each_stands decides trace last rows gs (g ∷ more) is (subst (λ l. AreKeptOf trace l rows) (reversed_front g gs more) are) operators after for.2 restored.1,
    )

pub all_stand : FreeVariablesDecide → (trace : List Step) (last : Option ℕ) (rows : List KeptRow) (fs : List Formula) → last_or_zero last ≡ last_time trace
    → AreKeptOf trace fs rows → (operators after : List OperatorState)
    → AreFor (reverse fs) operators → AreRestored last rows 0 operators after → AllStand trace (reverse fs) after
all_stand decides trace last rows fs is are operators after for restored =
    each_stands decides trace last rows (reverse fs) [] is (subst (λ l. AreKeptOf trace l rows) (sym (append-nil (reverse (reverse fs)) ∙ reverse-reverse fs)) are) operators after for restored

pub made_stands : FreeVariablesDecide → (trace : List Step) (last : Option ℕ) (rows : List KeptRow) (fs : List Formula) → IsLastTime trace last → AreKeptOf trace fs rows
    → (operators after : List OperatorState)
    → AreFor (reverse fs) operators → AreRestored last rows 0 operators after → AllStand trace (reverse fs) after
made_stands decides trace None rows fs at are = all_stand decides trace None rows fs (ap last_time (sym at)) are
made_stands decides trace (Some last) rows fs at are = all_stand decides trace (Some last) rows fs at.1 are
