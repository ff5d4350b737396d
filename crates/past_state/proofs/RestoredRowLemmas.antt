-- Rows window by window, and windows and slots that are made again of them.
use Rattle.past_state.proofs.Vocabulary.{◌≡◌, ◌∙◌, ◌↔◌, ◌⊎◌, inl, inr, ⊎_elim, ℕ, zero, suc, ◌+◌, ◌<◌, ◌≤◌, List, [], ◌∷◌, ◌++◌, set, reverse, length, All, Contains, Option, None, Some, refl, sym, ap}
use Rattle.past_state.proofs.Vocabulary.{subst, arith, append_assoc, length-append, Vec, slice_get, Global, length-reverse, length-set, reverse-append, reverse-reverse, All-cons, All-contains}
use Rattle.past_state.proofs.Vocabulary.{All-nil, All-weaker, Contains-append_cases, Contains-append_left, Contains-append_right, none-some, same_Some, slice_get_within, Formula, Prev, Once}
use Rattle.past_state.proofs.Vocabulary.{Historically, Since, AreFreeVariables, HasNoRepeats, Interval, VarId, only_item as only, all_from, slice_get-append_left, here, none_in_nil, ChosenBy}
use Rattle.past_state.proofs.Vocabulary.{IsPairBefore, pair, rises_append, rises_front, AreKeepable, pairs_of_last, last_step_time, Slot, IsUpToTime, LastHasColumns, Window, KeptPair, LastStep}
use Rattle.past_state.proofs.Vocabulary.{BoundFormula, PushesFor, IsFor, IsUpToTimeOf, columns_of, AreWithinBounds, HaveTime, IsKeepable, IsTimely, IsTimelyIn, IsFrom, kept_row, IsAtLast}
use Rattle.past_state.proofs.Vocabulary.{last_or_zero, AreByWindow, AreKeepableFor, ArePairsIn, AreRestored, CanRestore, IsOneRestored, IsRestored, IsRestoredSlot, IsRestoredWindow, AreFor}
use Rattle.past_state.proofs.Vocabulary.{AreSameKinds, AreUpToTimeOf, AreRowsRising, IsRowBefore, pair_of, kept_operand, StoresAt, StoresFor, KeptRow, Left, Memory, OperatorState}
use Rattle.std.proofs.lemmas.List.{append-nil}
use Rattle.past_state.proofs.FirstMemoryLemmas.{distinct}
use Rattle.past_state.proofs.SavedLemmas.{at_place, columns_free, lengths}
use Rattle.past_state.specs.declared.memories.Memory.TheVariants as memories
use Rattle.past_state.specs.declared.prev_operands.Operand.{Operand}

-- ---- one window or slot

pub restored_prev : (slot : Slot) (operand : Operand) (last : Option ℕ) (pairs : List KeptPair) (after : Slot) → All (λ p. length p.row ≡ length slot.columns) pairs
    → IsRestoredSlot slot last pairs after
    → IsRestored (memories.Prev slot operand) last pairs (memories.Prev after operand)
restored_prev slot operand last pairs after fit r = record {
  same = (after, r.interval_is, r.columns_are, (λ was. subst (λ l. LastHasColumns l after.last) r.columns_are r.is_slot.fits), refl);
  whole = (
    r.is_slot,
    all_from (λ p. length p.row ≡ length after.columns) (pairs_of_last after.last) (λ p there.
        All-contains (λ q. length q.row ≡ length slot.columns) pairs p fit ((r.stores p).0 there) ∙ ap length (sym r.columns_are)),
  );
  last_is = r.last_is;
  stores = r.stores;
}

pub restored_once : (window : Window) (right : BoundFormula) (last : Option ℕ) (pairs : List KeptPair) (after : Window) → IsRestoredWindow window last pairs after
    → IsRestored (memories.Once window right) last pairs (memories.Once after right)
restored_once window right last pairs after r = record {
  same = (after, record { interval_is = r.interval_is; columns_are = r.columns_are }, refl);
  whole = r.least;
  last_is = r.last_is;
  stores = λ p. ((r.stores p.row p.time).1, (r.stores p.row p.time).0);
}

pub restored_since : (window : Window) (left : Left) (left_tables : ℕ) (right : BoundFormula) (last : Option ℕ) (pairs : List KeptPair) (after : Window) → IsRestoredWindow window last pairs after
    → IsRestored (memories.Since window left left_tables right) last pairs (memories.Since after left left_tables right)
restored_since window left left_tables right last pairs after r = record {
  same = (after, record { interval_is = r.interval_is; columns_are = r.columns_are }, refl);
  whole = r.least;
  last_is = r.last_is;
  stores = λ p. ((r.stores p.row p.time).1, (r.stores p.row p.time).0);
}

-- ---- the rows of each window

pub pairs_none : (window : ℕ) → ArePairsIn [] window []
pairs_none window = record {
  exact = λ p. (λ there. absurd (none_in_nil p there), λ there. absurd (none_in_nil (kept_row window p) there));
  rising = λ rises. tt;
}

pairs_other : (rows : List KeptRow) (r : KeptRow) (window : ℕ) (pairs : List KeptPair) → (window ≡ r.window → ⊥) → ArePairsIn rows window pairs → ArePairsIn (rows ++ r ∷ []) window pairs
pairs_other rows r window pairs other are = record {
  exact = λ p. (
    λ there. Contains-append_left rows (r ∷ []) (kept_row window p) ((are.exact p).0 there),
    λ there. ⊎_elim (λ front. (are.exact p).1 front) (λ last. absurd (other (sym (ap (λ s. s.window) (only r (kept_row window p) last)))))
        (Contains-append_cases rows (r ∷ []) (kept_row window p) there),
  );
  rising = λ rises. are.rising (rises_front IsRowBefore rows (r ∷ []) rises).0;
}

pairs_same : (rows : List KeptRow) (r : KeptRow) (pairs : List KeptPair) → ArePairsIn rows r.window pairs → ArePairsIn (rows ++ r ∷ []) r.window (pairs ++ pair_of r ∷ [])
pairs_same rows r pairs are = record {
  exact = λ p. (
    λ there. ⊎_elim (λ front. Contains-append_left rows (r ∷ []) (kept_row r.window p) ((are.exact p).0 front))
        (λ last. Contains-append_right rows (r ∷ []) (kept_row r.window p) (subst (λ q. Contains (r ∷ []) (kept_row r.window q)) (only (pair_of r) p last) (here r [])))
        (Contains-append_cases pairs (pair_of r ∷ []) p there),
    λ there. ⊎_elim (λ front. Contains-append_left pairs (pair_of r ∷ []) p ((are.exact p).1 front))
        (λ last. Contains-append_right pairs (pair_of r ∷ []) p (subst (Contains (pair_of r ∷ [])) (ap pair_of (only r (kept_row r.window p) last)) (here (pair_of r) [])))
        (Contains-append_cases rows (r ∷ []) (kept_row r.window p) there),
  );
  rising = λ rises.
      let front = rises_front IsRowBefore rows (r ∷ []) rises in
      rises_append IsPairBefore pairs (pair_of r ∷ []) (are.rising front.0) (All-nil (IsPairBefore (pair_of r)), tt) (λ p q there also.
      subst (IsPairBefore p) (only (pair_of r) q also)
      (⊎_elim (λ less. absurd (omega (arith, less))) (λ both. both.1) (front.1 (kept_row r.window p) r ((are.exact p).0 there) (here r []))));
}

-- ---- lists of them

slice_set : {X : Type 0} (xs : List X) (i k : ℕ) (y z : X) → slice_get (set xs i y) k ≡ Some z → ((k ≡ i) × (z ≡ y)) ⊎ ((k ≡ i → ⊥) × (slice_get xs k ≡ Some z))
slice_set [] i zero y z e = absurd (none-some z e)
slice_set [] i (suc k) y z e = absurd (none-some z e)
slice_set (x ∷ xs) zero zero y z e = inl (refl, same_Some z y (sym e))
slice_set (x ∷ xs) zero (suc k) y z e = inr (λ same. omega (arith, same), e)
slice_set (x ∷ xs) (suc i) zero y z e = inr (λ same. omega (arith, same), e)
slice_set (x ∷ xs) (suc i) (suc k) y z e = ⊎_elim (λ both. inl (ap suc both.0, both.1)) (λ both. inr (λ same. both.0 (omega (arith, same)), both.1)) (slice_set xs i k y z e)

pub slice_push : {X : Type 0} (xs : List X) (k : ℕ) (y z : X) → slice_get (xs ++ y ∷ []) k ≡ Some z → (slice_get xs k ≡ Some z) ⊎ ((k ≡ length xs) × (z ≡ y))
slice_push [] zero y z e = inr (refl, same_Some z y (sym e))
slice_push [] (suc zero) y z e = absurd (none-some z e)
slice_push [] (suc (suc k)) y z e = absurd (none-some z e)
slice_push (x ∷ xs) zero y z e = inl e
slice_push (x ∷ xs) (suc k) y z e = ⊎_elim (λ front. inl front) (λ last. inr (ap suc last.0, last.1)) (slice_push xs k y z e)

none_at : {X : Type 0} (k : ℕ) (z : X) → slice_get [] k ≡ Some z → ⊥
none_at zero z e = none-some z e
none_at (suc k) z e = none-some z e

pub lists_more : (count : ℕ) (lists after : List (Vec KeptPair Global)) (empty : Vec KeptPair Global) → AreByWindow [] count lists → empty.items ≡ [] → after
    ≡ lists ++ empty ∷ [] → AreByWindow [] (count + 1) after
lists_more count lists after empty are none grown = subst (AreByWindow [] (count + 1)) (sym grown) (
  omega (arith, are.0, length-push lists empty),
  λ window pairs at. ⊎_elim (λ earlier. are.1 window pairs earlier)
      (λ same. subst (ArePairsIn [] window) (sym (ap (λ v. v.items) same.1 ∙ none)) (pairs_none window)) (slice_push lists window empty pairs at),
)
  where
    length-push : (xs : List (Vec KeptPair Global)) (x : Vec KeptPair Global) → length (xs ++ x ∷ []) ≡ length xs + 1
    length-push [] x = refl
    length-push (y ∷ xs) x = let rest = length-push xs x in omega (arith, rest)

pub lists_filled : (rows : List KeptRow) (r : KeptRow) (count : ℕ) (lists : List (Vec KeptPair Global)) (before after : Vec KeptPair Global) → AreByWindow rows count lists
    → slice_get lists r.window ≡ Some before → after.items ≡ before.items ++ pair_of r ∷ [] → AreByWindow (rows ++ r ∷ []) count (set lists r.window after)
lists_filled rows r count lists before after are at grown = (
  length-set lists r.window after ∙ are.0,
  λ window pairs found. ⊎_elim
      (λ same. subst (λ w. ArePairsIn (rows ++ r ∷ []) w pairs.items) (sym same.0) (subst (ArePairsIn (rows ++ r ∷ []) r.window) (sym (ap (λ v. v.items) same.1 ∙ grown))
      (pairs_same rows r before.items (are.1 r.window before at))))
      (λ other. pairs_other rows r window pairs.items other.0 (are.1 window pairs other.1)) (slice_set lists r.window window after pairs found),
)

-- ---- which rows can be kept

-- what is chosen of more times is chosen of fewer
pub chosen_fewer : (high : Option ℕ) (low last : ℕ) (P Q : ℕ → Type 0) (time : ℕ) → ((t : ℕ) → Q t → P t) → ChosenBy high low last P time → ChosenBy high low last Q time
chosen_fewer None low last P Q time fewer chosen = λ other there. chosen other (fewer other there)
chosen_fewer (Some high) low last P Q time fewer chosen = (chosen.0, λ far other there. chosen.1 far other (fewer other there))

module _ (fs : List Formula) (last : ℕ) (rows : List KeptRow) (window : ℕ) (f : Formula) (pairs : List KeptPair) (at : slice_get fs window ≡ Some f)
    (bounds : AreWithinBounds fs (Some last) rows) (are : ArePairsIn rows window pairs) where
  keepable : (p : KeptPair) → Contains pairs p → IsKeepable fs last rows (kept_row window p)
  keepable p there = All-contains (IsKeepable fs last rows) rows (kept_row window p) bounds.1 ((are.exact p).0 there)

  same_operator : (p : KeptPair) (there : Contains pairs p) → (keepable p there).operator ≡ f
  same_operator p there = same_Some (keepable p there).operator f (sym (keepable p there).numbered ∙ at)

  is_long : (columns : List VarId) → AreFreeVariables (kept_operand f) columns → (p : KeptPair) → Contains pairs p → length p.row ≡ length columns
  is_long columns free p there = (keepable p there).long columns (subst (λ g. AreFreeVariables (kept_operand g) columns) (sym (same_operator p there)) free)

  is_timely : (p : KeptPair) → Contains pairs p → IsTimely f last (HaveTime rows (kept_row window p)) p.time
  is_timely p there = subst (λ g. IsTimely g last (HaveTime rows (kept_row window p)) p.time) (same_operator p there) (keepable p there).timely

  in_window : (interval : Interval) (columns : List VarId) → AreFreeVariables (kept_operand f) columns
      → ((p : KeptPair) → Contains pairs p → IsTimelyIn interval last (HaveTime rows (kept_row window p)) p.time) → AreKeepable interval columns last pairs
  in_window interval columns free timely = record {
    fit = all_from (λ p. length p.row ≡ length columns) pairs (is_long columns free);
    up_to = all_from (λ p. p.time ≤ last) pairs (λ p there. (timely p there).0);
    rising = are.rising bounds.0;
    chosen = λ row time there. chosen_fewer interval.high interval.low last (HaveTime rows (kept_row window (pair row time))) (λ other. Contains pairs (pair row other)) time
        (λ t. (are.exact (pair row t)).0) (timely (pair row time) there).1;
  }

keepable_some : (fs : List Formula) (last : ℕ) (rows : List KeptRow) (window : ℕ) (f : Formula) (m : Memory) (pairs : List KeptPair) → slice_get fs window ≡ Some f → IsFor f m
    → AreWithinBounds fs (Some last) rows → ArePairsIn rows window pairs → AreKeepableFor m (Some last) pairs
keepable_some fs last rows window (Prev place interval g) (memories.Prev slot operand) pairs at for bounds are = (
  all_from (λ p. length p.row ≡ length slot.columns) pairs (is_long fs last rows window (Prev place interval g) pairs at bounds are slot.columns for.1),
  all_from (λ p. p.time ≡ last) pairs (is_timely fs last rows window (Prev place interval g) pairs at bounds are),
)
keepable_some fs last rows window (Once place interval g) (memories.Once w right) pairs at for bounds are =
    subst (λ i. AreKeepable i w.columns last pairs) (sym for.2) (in_window fs last rows window (Once place interval g) pairs at bounds are interval w.columns for.1
    (is_timely fs last rows window (Once place interval g) pairs at bounds are))
keepable_some fs last rows window (Historically place interval g) (memories.Once w right) pairs at for bounds are =
    subst (λ i. AreKeepable i w.columns last pairs) (sym for.2) (in_window fs last rows window (Historically place interval g) pairs at bounds are interval w.columns for.1
    (is_timely fs last rows window (Historically place interval g) pairs at bounds are))
keepable_some fs last rows window (Since place interval g h) (memories.Since w left left_tables right) pairs at for bounds are =
    subst (λ i. AreKeepable i w.columns last pairs) (sym for.2) (in_window fs last rows window (Since place interval g h) pairs at bounds are interval w.columns for.1
    (is_timely fs last rows window (Since place interval g h) pairs at bounds are))
keepable_some fs last rows window f m pairs at for bounds are = absurd for

nothing_in : (rows : List KeptRow) (window : ℕ) (pairs : List KeptPair) → rows ≡ [] → ArePairsIn rows window pairs → (p : KeptPair) → Contains pairs p → ⊥
nothing_in rows window pairs none are p there = none_in_nil (kept_row window p) (subst (λ l. Contains l (kept_row window p)) none ((are.exact p).0 there))

window_empty : (interval : Interval) (columns : List VarId) (rows : List KeptRow) (window : ℕ) (pairs : List KeptPair) → rows ≡ [] → ArePairsIn rows window pairs → AreKeepable interval columns 0 pairs
window_empty interval columns rows window pairs none are = record {
  fit = all_from (λ p. length p.row ≡ length columns) pairs (λ p there. absurd (nothing_in rows window pairs none are p there));
  up_to = all_from (λ p. p.time ≤ 0) pairs (λ p there. absurd (nothing_in rows window pairs none are p there));
  rising = are.rising (subst AreRowsRising (sym none) tt);
  chosen = λ row time there. absurd (nothing_in rows window pairs none are (pair row time) there);
}

no_pairs_in : (pairs : List KeptPair) → ((p : KeptPair) → Contains pairs p → ⊥) → pairs ≡ []
no_pairs_in [] none = refl
no_pairs_in (p ∷ pairs) none = absurd (none p (here p pairs))

keepable_none : (m : Memory) (rows : List KeptRow) (window : ℕ) (pairs : List KeptPair) → rows ≡ [] → ArePairsIn rows window pairs → AreKeepableFor m None pairs
keepable_none (memories.Prev slot operand) rows window pairs none are = (
  all_from (λ p. length p.row ≡ length slot.columns) pairs (λ p there. absurd (nothing_in rows window pairs none are p there)),
  no_pairs_in pairs (nothing_in rows window pairs none are),
)
keepable_none (memories.Once w right) rows window pairs none are = window_empty w.interval w.columns rows window pairs none are
keepable_none (memories.Since w left left_tables right) rows window pairs none are = window_empty w.interval w.columns rows window pairs none are

pub keepable_for : (fs : List Formula) (last : Option ℕ) (rows : List KeptRow) (window : ℕ) (f : Formula) (m : Memory) (pairs : List KeptPair) → slice_get fs window ≡ Some f → IsFor f m
    → AreWithinBounds fs last rows → ArePairsIn rows window pairs → AreKeepableFor m last pairs
keepable_for fs None rows window f m pairs at for bounds are = keepable_none m rows window pairs bounds are
keepable_for fs (Some last) rows window f m pairs at for bounds are = keepable_some fs last rows window f m pairs at for bounds are

-- ---- operators by their numbers

pub reversed_front : (g : Formula) (gs more : List Formula) → reverse (g ∷ gs) ++ more ≡ reverse gs ++ g ∷ more
reversed_front g gs more = ap (λ l. l ++ more) (reverse-append (g ∷ []) gs) ∙ append_assoc (reverse gs) (g ∷ []) more

at_front : {X : Type 0} (xs more : List X) (g : X) (n : ℕ) → length xs ≡ n → slice_get (xs ++ g ∷ more) n ≡ Some g
at_front [] more g zero e = refl
at_front [] more g (suc n) e = absurd (omega (arith, e))
at_front (x ∷ xs) more g zero e = absurd (omega (arith, e))
at_front (x ∷ xs) more g (suc n) e = at_front xs more g n (omega (arith, e))

-- the operator at its number, counted from the last one
pub numbered : (g : Formula) (gs more : List Formula) (o : OperatorState) (operators : List OperatorState) → AreFor (g ∷ gs) (o ∷ operators)
    → slice_get (reverse (g ∷ gs) ++ more) (length operators) ≡ Some g
numbered g gs more o operators are = subst (λ l. slice_get l (length operators) ≡ Some g) (sym (reversed_front g gs more))
    (at_front (reverse gs) more g (length operators) (length-reverse gs ∙ lengths gs operators are.2))

-- ---- the turns of the loops

pub within_rows : (rows front back : List KeptRow) (r : KeptRow) (count : ℕ) → rows ≡ front ++ r ∷ back → All (λ s. s.window < count) rows → r.window < count
within_rows rows front back r count split all =
    All-contains (λ s. s.window < count) rows r all (subst (λ l. Contains l r) (sym split) (Contains-append_right front (r ∷ back) r (here r back)))

-- each row is for one of the operators
pub rows_within : (operators : List OperatorState) (last : Option ℕ) (rows : List KeptRow) → CanRestore operators last rows → All (λ r. r.window < length operators) rows
rows_within operators None rows can = all_from (λ r. r.window < length operators) rows (λ r there. absurd (none_in_nil r (subst (λ l. Contains l r) can.bounds there)))
rows_within operators (Some last) rows can = all_from (λ r. r.window < length operators) rows (λ r there.
    let k = All-contains (IsKeepable can.formulas last rows) rows r can.bounds.1 there in
    omega (arith, slice_get_within can.formulas r.window k.operator k.numbered, length-reverse can.formulas, lengths (reverse can.formulas) operators can.are_for))

-- the operator of a number, counted from the last one, is of one of the formulas
numbered_for : (gs more : List Formula) (front back : List OperatorState) (o : OperatorState) → AreFor gs (front ++ o ∷ back) → (f : Formula)
    × (slice_get (reverse gs ++ more) (length back) ≡ Some f) × IsFor f o.memory
numbered_for [] more [] back o are = absurd are
numbered_for [] more (q ∷ front) back o are = absurd are
numbered_for (g ∷ gs) more [] back o are = (g, numbered g gs more o back are, are.0)
numbered_for (g ∷ gs) more (q ∷ front) back o are =
    let rest = numbered_for gs (g ∷ more) front back o are.2 in (rest.0, subst (λ l. slice_get l (length back) ≡ Some rest.0) (sym (reversed_front g gs more)) rest.1, rest.2)

module _ (operators front back : List OperatorState) (o : OperatorState) (last : Option ℕ) (rows : List KeptRow) (can : CanRestore operators last rows) (split : operators ≡ front ++ o ∷ back) where
  of : (f : Formula) × (slice_get can.formulas (length back) ≡ Some f) × IsFor f o.memory
  of =
      let found = numbered_for (reverse can.formulas) [] front back o (subst (AreFor (reverse can.formulas)) split can.are_for) in
      (found.0, subst (λ l. slice_get l (length back) ≡ Some found.0) (append-nil (reverse (reverse can.formulas)) ∙ reverse-reverse can.formulas) found.1, found.2)

  pub distinct_here : HasNoRepeats (columns_of o.memory)
  distinct_here = distinct (columns_of o.memory) (columns_free of.0 o.memory of.2).rising

  pub keepable_here : (pairs : List KeptPair) → ArePairsIn rows (length back) pairs → AreKeepableFor o.memory last pairs
  keepable_here pairs are = keepable_for can.formulas last rows (length back) of.0 o.memory pairs of.1 of.2 can.bounds are

restored_snoc : (last : Option ℕ) (rows : List KeptRow) (behind : ℕ) (operators after : List OperatorState) (o p : OperatorState) → AreRestored last rows (behind + 1) operators after
    → IsOneRestored last rows behind o p
    → AreRestored last rows behind (operators ++ o ∷ []) (after ++ p ∷ [])
restored_snoc last rows behind [] [] o p so_far one = (subst (λ n. IsOneRestored last rows n o p) (omega arith) one, tt)
restored_snoc last rows behind [] (q ∷ after) o p so_far one = absurd so_far
restored_snoc last rows behind (r ∷ operators) [] o p so_far one = absurd so_far
restored_snoc last rows behind (r ∷ operators) (q ∷ after) o p so_far one = (
  subst (λ n. IsOneRestored last rows n r q) (omega (arith, length-append operators (o ∷ []))) so_far.0,
  restored_snoc last rows behind operators after o p so_far.1 one,
)

-- the operators that are left, a list of pairs for each of them, and what was made of those in front
pub record AreLeft (operators : List OperatorState) (last : Option ℕ) (rows : List KeptRow) (left : List OperatorState) (lists : List (Vec KeptPair Global)) (made : List OperatorState) : Type 0 where
  pub front : List OperatorState
  pub split : operators ≡ front ++ left
  pub by_window : AreByWindow rows (length left) lists
  pub so_far : AreRestored last rows (length left) front made

pub all_left : {operators made : List OperatorState} {last : Option ℕ} {rows : List KeptRow} {lists : List (Vec KeptPair Global)} → AreByWindow rows (length operators) lists → made
    ≡ [] → AreLeft operators last rows operators lists made
all_left {operators} {last = last} {rows = rows} are none = record {
  front = [];
  split = refl;
  by_window = are;
  so_far = subst (AreRestored last rows (length operators) []) (sym none) tt;
}

pub none_left : {operators left made : List OperatorState} {last : Option ℕ} {rows : List KeptRow} {lists : List (Vec KeptPair Global)} → AreLeft operators last rows left lists made
    → length left ≡ 0 → AreRestored last rows 0 operators made
none_left {left = []} {made} {last} {rows} are none = subst (λ l. AreRestored last rows 0 l made) (sym (are.split ∙ append-nil are.front)) are.so_far
none_left {left = o ∷ left} are none = absurd (omega (arith, none))

-- the next operator, with the last of the lists
module _ {operators left behind made : List OperatorState} {last : Option ℕ} {rows : List KeptRow} {lists : List (Vec KeptPair Global)} {o : OperatorState}
    (are : AreLeft operators last rows left lists made) (taken : left ≡ o ∷ behind) where
  split_here : operators ≡ are.front ++ o ∷ behind
  split_here = are.split ∙ ap (λ l. are.front ++ l) taken

  pub distinct_next : CanRestore operators last rows → HasNoRepeats (columns_of o.memory)
  distinct_next can = distinct_here operators are.front behind o last rows can split_here

  module _ (earlier : List (Vec KeptPair Global)) (pairs : Vec KeptPair Global) (popped : lists ≡ earlier ++ pairs ∷ []) where
    as_many_left : length earlier ≡ length behind
    as_many_left = omega (arith, are.by_window.0, ap length taken, ap length popped, length-append earlier (pairs ∷ []))

    pairs_here : ArePairsIn rows (length behind) pairs.items
    pairs_here = are.by_window.1 (length behind) pairs (subst (λ l. slice_get l (length behind) ≡ Some pairs) (sym popped) (at_front earlier [] pairs (length behind) as_many_left))

    pub keepable_next : CanRestore operators last rows → AreKeepableFor o.memory last pairs.items
    keepable_next can = keepable_here operators are.front behind o last rows can split_here pairs.items pairs_here

    pub one_less : (p : OperatorState) (after : List OperatorState) → p.taken ≡ o.taken → IsRestored o.memory last pairs.items p.memory → after ≡ made ++ p ∷ []
        → AreLeft operators last rows behind earlier after
    one_less p after same r grown = record {
      front = are.front ++ o ∷ [];
      split = split_here ∙ sym (append_assoc are.front (o ∷ []) behind);
      by_window = (
        as_many_left,
        λ window others at. are.by_window.1 window others (subst (λ l. slice_get l window ≡ Some others) (sym popped)
            (slice_get-append_left earlier (pairs ∷ []) window others at)),
      );
      so_far = subst (AreRestored last rows (length behind) (are.front ++ o ∷ [])) (sym grown) (restored_snoc last rows (length behind) are.front made o p
          (subst (λ n. AreRestored last rows n are.front made) (omega (arith, ap length taken)) are.so_far) (record {
            taken_is = same;
            same = r.same;
            whole = r.whole;
            last_is = r.last_is;
            stores = λ q. (λ stored. (pairs_here.exact q).0 ((r.stores q).0 stored), λ there. (r.stores q).1 ((pairs_here.exact q).1 there));
          }));
    }

-- ---- what is made again

pub same_kinds : (last : Option ℕ) (rows : List KeptRow) (behind : ℕ) (operators after : List OperatorState) → AreRestored last rows behind operators after → AreSameKinds operators after
same_kinds last rows behind [] [] restored = refl
same_kinds last rows behind [] (p ∷ after) restored = absurd restored
same_kinds last rows behind (o ∷ operators) [] restored = absurd restored
same_kinds last rows behind (o ∷ operators) (p ∷ after) restored = (restored.0.taken_is, restored.0.same, same_kinds last rows behind operators after restored.1)

pub at_last : (last : Option ℕ) (rows : List KeptRow) (behind : ℕ) (operators after : List OperatorState) → AreRestored last rows behind operators after → All (λ o. IsAtLast last o.memory) after
at_last last rows behind [] [] restored = All-nil (λ o. IsAtLast last o.memory)
at_last last rows behind [] (p ∷ after) restored = absurd restored
at_last last rows behind (o ∷ operators) [] restored = absurd restored
at_last last rows behind (o ∷ operators) (p ∷ after) restored =
    All-cons (λ q. IsAtLast last q.memory) p after restored.0.last_is (at_last last rows behind operators after restored.1)

slot_up_to : (step : Option LastStep) (last : Option ℕ) (time : ℕ) → last_step_time step ≡ last → last_or_zero last ≤ time → IsUpToTime time step
slot_up_to None last time at from = tt
slot_up_to (Some step) None time at from = absurd (none-some step.time (sym at))
slot_up_to (Some step) (Some last) time at from = omega (arith, from, same_Some step.time last at)

pub up_to_from : (m : Memory) (last : Option ℕ) (time : ℕ) → IsAtLast last m → last_or_zero last ≤ time → IsUpToTimeOf time m
up_to_from (memories.Prev slot operand) last time at from = slot_up_to slot.last last time at from
up_to_from (memories.Once window right) last time at from = omega (arith, at, from)
up_to_from (memories.Since window left left_tables right) last time at from = omega (arith, at, from)

pub none_later : (last : Option ℕ) (rows : List KeptRow) (behind : ℕ) (operators after : List OperatorState) (time : ℕ) → AreRestored last rows behind operators after
    → last_or_zero last ≤ time → AreUpToTimeOf time after
none_later last rows behind operators after time restored from =
    All-weaker (λ o. IsAtLast last o.memory) (λ o. IsUpToTimeOf time o.memory) (λ o at. up_to_from o.memory last time at from) after (at_last last rows behind operators after restored)

same_count : (last : Option ℕ) (rows : List KeptRow) (operators after : List OperatorState) → AreRestored last rows 0 operators after → length after ≡ length operators
same_count last rows [] [] restored = refl
same_count last rows [] (p ∷ after) restored = absurd restored
same_count last rows (o ∷ operators) [] restored = absurd restored
same_count last rows (o ∷ operators) (p ∷ after) restored = ap suc (same_count last rows operators after restored.1)

-- the rows of each are those of its window
stored_at : (last : Option ℕ) (rows : List KeptRow) (operators after : List OperatorState) → AreRestored last rows 0 operators after → (k : ℕ) (p : OperatorState)
    → slice_get (reverse after) k ≡ Some p
    → (q : KeptPair) → StoresFor p.memory q ↔ Contains rows (kept_row k q)
stored_at last rows operators [] restored k p e = absurd (none_at k p e)
stored_at last rows [] (r ∷ after) restored k p e = absurd restored
stored_at last rows (o ∷ operators) (r ∷ after) restored k p e =
    ⊎_elim (λ front. stored_at last rows operators after restored.1 k p front)
    (λ here_is.
    let number : length operators + 0 ≡ k = omega (arith, here_is.0, length-reverse after, same_count last rows operators after restored.1) in
    subst (λ r. (q : KeptPair) → StoresFor r.memory q ↔ Contains rows (kept_row k q)) (sym here_is.1)
    (subst (λ n. (q : KeptPair) → StoresFor r.memory q ↔ Contains rows (kept_row n q)) number restored.0.stores))
    (slice_push (reverse after) k r p (subst (λ l. slice_get l k ≡ Some p) (reverse-append (r ∷ []) after) e))

pub rows_exact : (last : Option ℕ) (rows : List KeptRow) (operators after : List OperatorState) → AreRestored last rows 0 operators after → All (λ r. r.window < length operators) rows
    → (r : KeptRow) → Contains rows r ↔ StoresAt after r
rows_exact last rows operators after restored within r = (
  λ there.
      let o = at_place (reverse after) r.window (omega (
        arith,
        All-contains (λ s. s.window < length operators) rows r within there,
        length-reverse after,
        same_count last rows operators
            after restored,
      )) in
      (o.0, o.1, (stored_at last rows operators after restored r.window o.0 o.1 (pair_of r)).1 there),
  λ stored. (stored_at last rows operators after restored r.window stored.0 stored.1 (pair_of r)).0 stored.2,
)

-- ---- what was put last before the first step

pub pushed_for : (fs : List Formula) (before after : List OperatorState) → before ≡ [] → PushesFor (reverse fs) before after → AreFor (reverse fs) after
pushed_for fs before after none pushes = subst (AreFor (reverse fs)) (sym (pushes.grown ∙ ap (λ l. l ++ pushes.added) none)) pushes.are_for

pub can_restore : (fs : List Formula) (before after : List OperatorState) (last : Option ℕ) (rows : List KeptRow) → before ≡ [] → PushesFor (reverse fs) before after
    → AreWithinBounds fs last rows → CanRestore after last rows
can_restore fs before after last rows none pushes bounds = record { formulas = fs; are_for = pushed_for fs before after none pushes; bounds = bounds }

pub from_start : (last : Option ℕ) (time : ℕ) → IsFrom last time → last_or_zero last ≤ time
from_start None time from = omega arith
from_start (Some last) time from = from
