-- The rows of a past state, window by window, and of which traces they are kept.
use Rattle.past_state.proofs.Vocabulary.{◌≡◌, ◌∙◌, ◌↔◌, inl, inr, ⊎_elim, ℕ, zero, suc, ◌+◌, ◌-◌, ◌<◌, List, [], ◌∷◌, ◌++◌, map, reverse, length, get_or, Contains, Some, refl, sym, ap, subst, arith}
use Rattle.past_state.proofs.Vocabulary.{slice_get, cases_lt, get_or-reverse, length-reverse, Contains-append_cases, Contains-append_left, Contains-append_right, get_or_from_slice_get, same_Some}
use Rattle.past_state.proofs.Vocabulary.{slice_get-get_or, slice_get_within, Step, Value, Formula, True, Prev, Once, Historically, Since, AreFreeVariables, same_free, none_in_nil, Contains-map}
use Rattle.past_state.proofs.Vocabulary.{Contains-from_map, valuation_of, rises_append, rises_map, stored_last, stored_long, stored_row, AreRising, Stores, IsPairBefore, Window, HasRow, KeepsLeast}
use Rattle.past_state.proofs.Vocabulary.{KeptPair, columns_of, IsFor, MemoryStands, all_operators, kept_operand, AreKeptOf, AreRowsRising, IsRowBefore, KeptFor, pair_of, Past, IsPast}
use Rattle.past_state.proofs.Vocabulary.{formulas_of_guards, AreFor, AllStand, kept_row, IsWhole, StoresAt, StoresFor, KeptRow, Memory, OperatorState}
use Rattle.past_state.proofs.RowLemmas.{row_binds}
use Rattle.past_state.specs.declared.memories.Memory.TheVariants as memories

-- ---- window by window

-- the rows of the windows and slots up to a number
pub record SavedUpTo (operators : List OperatorState) (n : ℕ) (rows : List KeptRow) : Type 0 where
  pub rising : AreRowsRising rows
  pub exact : (r : KeptRow) → Contains rows r ↔ ((r.window < n) × StoresAt operators r)
  pub whole : (k : ℕ) (o : OperatorState) → k < n → slice_get (reverse operators) k ≡ Some o → IsWhole o.memory

pub saved_none : (operators : List OperatorState) → SavedUpTo operators 0 []
saved_none operators = record {
  rising = tt;
  exact = λ r. (λ there. absurd (none_in_nil r there), λ both. absurd (omega (arith, both.0)));
  whole = λ k o below. absurd (omega (arith, below));
}

-- the operator of a number, counted from the last one
pub counted_back : (operators : List OperatorState) (n : ℕ) (o : OperatorState) → n < length operators → o ≡ get_or operators (length operators - 1 - n) o → slice_get (reverse operators) n ≡ Some o
counted_back operators n o below is =
    slice_get-get_or (reverse operators) n o (omega (arith, below, length-reverse operators)) ∙ ap Some (get_or-reverse operators n o below ∙ sym is)

pub saved_more : (operators : List OperatorState) (n : ℕ) (o : OperatorState) (pairs : List KeptPair) (rows after : List KeptRow) → slice_get (reverse operators) n ≡ Some o → AreRising pairs
    → ((p : KeptPair) → Contains pairs p ↔ StoresFor o.memory p) → IsWhole o.memory → after ≡ rows ++ map (kept_row n) pairs → SavedUpTo operators n rows → SavedUpTo operators (n + 1) after
saved_more operators n o pairs rows after numbered rises stored whole grown so_far = record {
  rising = subst AreRowsRising (sym grown) (rises_append IsRowBefore rows (map (kept_row n) pairs) so_far.rising
      (rises_map IsPairBefore IsRowBefore (kept_row n) (λ p q before. inr (refl, before)) pairs rises)
      (λ r s first second. let from = Contains-from_map (kept_row n) pairs s second in
      subst (IsRowBefore r) from.2 (inl ((so_far.exact r).0 first).0)));
  exact = λ r. (
    λ there. ⊎_elim
        (λ first. let both = (so_far.exact r).0 first in (omega (arith, both.0), both.1))
        (λ last. let from = Contains-from_map (kept_row n) pairs r last in
        let at : n ≡ r.window = ap (λ s. s.window) from.2 in
        let same : from.0 ≡ pair_of r = ap pair_of from.2 in
        (omega (arith, at), (o, subst (λ k. slice_get (reverse operators) k ≡ Some o) at numbered, subst (StoresFor o.memory) same ((stored from.0).0 from.1))))
        (Contains-append_cases rows (map (kept_row n) pairs) r (subst (λ l. Contains l r) grown there)),
    λ both. subst (λ l. Contains l r) (sym grown) (⊎_elim
        (λ earlier. Contains-append_left rows (map (kept_row n) pairs) r ((so_far.exact r).1 (earlier, both.1)))
        (λ from.
        let at : n ≡ r.window = omega (arith, from, both.0) in
        let same : both.1.0 ≡ o = same_Some both.1.0 o (sym both.1.1 ∙ subst (λ k. slice_get (reverse operators) k ≡ Some o) at numbered) in
        Contains-append_right rows (map (kept_row n) pairs) r (subst (λ k. Contains (map (kept_row n) pairs) (kept_row k (pair_of r))) at
        (Contains-map (kept_row n) pairs (pair_of r) ((stored (pair_of r)).1 (subst (λ p. StoresFor p.memory (pair_of r)) same both.1.2)))))
        (cases_lt r.window n)),
  );
  whole = λ k p below is. ⊎_elim (λ earlier. so_far.whole k p earlier is)
      (λ from. let at : k ≡ n = omega (arith, from, below) in
      subst (λ q. IsWhole q.memory) (same_Some o p (sym numbered ∙ subst (λ j. slice_get (reverse operators) j ≡ Some p) at is)) whole)
      (cases_lt k n);
}

pub rows_of : (operators : List OperatorState) (rows : List KeptRow) → SavedUpTo operators (length operators) rows → (r : KeptRow) → Contains rows r ↔ StoresAt operators r
rows_of operators rows saved r = (
  λ there. ((saved.exact r).0 there).1,
  λ stored. (saved.exact r).1 (omega (arith, slice_get_within (reverse operators) r.window stored.0 stored.1, length-reverse operators), stored),
)

pub at_place : (os : List OperatorState) (n : ℕ) → n < length os → (o : OperatorState) × (slice_get os n ≡ Some o)
at_place [] n below = absurd (omega (arith, below))
at_place (o ∷ os) zero below = (o, refl)
at_place (o ∷ os) (suc n) below = at_place os n (omega (arith, below))

-- ---- of a trace

of_window : (window : Window) (row : List Value) (time : ℕ) (K : Type 0) → KeepsLeast window → (length row ≡ length window.columns → HasRow window (valuation_of window.columns row) time ↔ K)
    → Stores window row time ↔ ((length row ≡ length window.columns) × K)
of_window window row time K least held = (
  λ stored. let long = stored_long window row time least stored in (long, (held long).0 ((stored_row window row time least long).0 stored)),
  λ both. (stored_row window row time least both.0).1 ((held both.0).1 both.1),
)

-- what is kept for an operator is what has to be kept of each trace for which it stands
memory_kept : (trace : List Step) (f : Formula) (m : Memory) (p : KeptPair) → IsWhole m → IsFor f m → MemoryStands trace f m
    → StoresFor m p ↔ ((length p.row ≡ length (columns_of m)) × KeptFor trace f (valuation_of (columns_of m) p.row) p.time)
memory_kept trace (Prev place interval g) (memories.Prev slot operand) p whole for stands =
    let last = stored_last slot p whole.0 whole.1 in (
      λ stored. let both = last.0 stored in (both.0, (stands.kept (valuation_of slot.columns p.row) (row_binds slot.columns p.row whole.0.distinct both.0) p.time).0 both.1),
      λ both. last.1 (both.0, (stands.kept (valuation_of slot.columns p.row) (row_binds slot.columns p.row whole.0.distinct both.0) p.time).1 both.1),
    )
memory_kept trace (Once place interval g) (memories.Once window right) p whole for stands =
    of_window window p.row p.time _ whole (λ long. stands.kept (valuation_of window.columns p.row) (row_binds window.columns p.row whole.distinct long) p.time)
memory_kept trace (Historically place interval g) (memories.Once window right) p whole for stands =
    of_window window p.row p.time _ whole (λ long. stands.kept (valuation_of window.columns p.row) (row_binds window.columns p.row whole.distinct long) p.time)
memory_kept trace (Since place interval g h) (memories.Since window left left_tables right) p whole for stands =
    of_window window p.row p.time _ whole (λ long. stands.kept (valuation_of window.columns p.row) (row_binds window.columns p.row whole.distinct long) p.time)
memory_kept trace f m p whole for stands = absurd for

-- the columns are the free variables of the operand
pub columns_free : (f : Formula) (m : Memory) → IsFor f m → AreFreeVariables (kept_operand f) (columns_of m)
columns_free (Prev place interval g) (memories.Prev slot operand) for = for.1
columns_free (Once place interval g) (memories.Once window right) for = for.1
columns_free (Historically place interval g) (memories.Once window right) for = for.1
columns_free (Since place interval g h) (memories.Since window left left_tables right) for = for.1
columns_free f m for = absurd for

-- each operator has its window or slot, at the same place from the end
pub lengths : (fs : List Formula) (operators : List OperatorState) → AreFor fs operators → length fs ≡ length operators
lengths [] [] are = refl
lengths [] (o ∷ operators) are = absurd are
lengths (f ∷ fs) [] are = absurd are
lengths (f ∷ fs) (o ∷ operators) are = ap suc (lengths fs operators are.2)

-- a past state has an operator for each of its guards' formulas
pub counted : (past : Past) → IsPast past → length past.operators ≡ length (all_operators (formulas_of_guards past.guards))
counted past is = sym (lengths (reverse (all_operators (formulas_of_guards past.guards))) past.operators is.kept) ∙ length-reverse (all_operators (formulas_of_guards past.guards))

for_at : (fs : List Formula) (operators : List OperatorState) (k : ℕ) (d : Formula) (e : OperatorState) → AreFor fs operators → k < length fs → IsFor (get_or fs k d) (get_or operators k e).memory
for_at [] operators k d e are below = absurd (omega (arith, below))
for_at (f ∷ fs) [] k d e are below = absurd are
for_at (f ∷ fs) (o ∷ operators) zero d e are below = are.0
for_at (f ∷ fs) (o ∷ operators) (suc k) d e are below = for_at fs operators k d e are.2 (omega (arith, below))

stand_at : (trace : List Step) (fs : List Formula) (operators : List OperatorState) (k : ℕ) (d : Formula) (e : OperatorState) → AllStand trace fs operators → k < length fs
    → MemoryStands trace (get_or fs k d) (get_or operators k e).memory
stand_at trace [] operators k d e stand below = absurd (omega (arith, below))
stand_at trace (f ∷ fs) [] k d e stand below = absurd stand
stand_at trace (f ∷ fs) (o ∷ operators) zero d e stand below = stand.0
stand_at trace (f ∷ fs) (o ∷ operators) (suc k) d e stand below = stand_at trace fs operators k d e stand.1 (omega (arith, below))

module _ (trace : List Step) (fs : List Formula) (operators : List OperatorState) (rows : List KeptRow) (are : AreFor (reverse fs) operators) (stand : AllStand trace (reverse fs) operators)
    (saved : SavedUpTo operators (length operators) rows) where
  same_count : length fs ≡ length operators
  same_count = sym (length-reverse fs) ∙ lengths (reverse fs) operators are

  -- the operator and the window of one number
  both_at : (n : ℕ) (f : Formula) (o : OperatorState) → slice_get fs n ≡ Some f → slice_get (reverse operators) n ≡ Some o → IsFor f o.memory × MemoryStands trace f o.memory
  both_at n f o is_f is_o =
      let below : n < length fs = slice_get_within fs n f is_f in
      let within : length operators - 1 - n < length (reverse fs) = omega (arith, below, same_count, length-reverse fs) in
      let at_o : get_or operators (length operators - 1 - n) o ≡ o = sym (get_or-reverse operators n o (omega (arith, below, same_count))) ∙ get_or_from_slice_get (reverse operators) n o o is_o in
      let at_f : get_or (reverse fs) (length operators - 1 - n) f ≡ f =
      get_or-reverse fs (length operators - 1 - n) f (omega (arith, below, same_count))
      ∙ ap (λ k. get_or fs k f) (omega (arith, below, same_count)) ∙ get_or_from_slice_get fs n f f is_f in (
        subst (λ (p : Formula × OperatorState). IsFor p.0 p.1.memory) (λ i. (at_f i, at_o i)) (for_at (reverse fs) operators (length operators - 1 - n) f o are within),
        subst (λ (p : Formula × OperatorState). MemoryStands trace p.0 p.1.memory) (λ i. (at_f i, at_o i)) (stand_at trace (reverse fs) operators (length operators - 1 - n) f o stand within),
      )

  pub kept_of_trace : AreKeptOf trace fs rows
  kept_of_trace r = (
    λ there.
        let stored = ((saved.exact r).0 there).1 in
        let o = stored.0 in
        let within : r.window < length operators = ((saved.exact r).0 there).0 in
        let f = get_or fs r.window (True 0) in
        let is_f : slice_get fs r.window ≡ Some (get_or fs r.window (True 0)) = slice_get-get_or fs r.window (True 0) (omega (arith, within, same_count)) in
        let both = both_at r.window (get_or fs r.window (True 0)) stored.0 is_f stored.1 in
        let held = (memory_kept trace (get_or fs r.window (True 0)) stored.0.memory (pair_of r) (saved.whole r.window stored.0 within stored.1) both.0 both.1).0 stored.2 in
        record {
          operator = get_or fs r.window (True 0);
          numbered = is_f;
          columns = columns_of stored.0.memory;
          free = columns_free (get_or fs r.window (True 0)) stored.0.memory both.0;
          fits = held.0;
          kept = held.1;
        },
    λ k.
        let within : r.window < length operators = omega (arith, slice_get_within fs r.window k.operator k.numbered, same_count) in
        let o = some_operator r.window within in
        let both = both_at r.window k.operator o.0 k.numbered o.1 in
        let same : k.columns ≡ columns_of o.0.memory = same_free (kept_operand k.operator) k.columns (columns_of o.0.memory) k.free (columns_free k.operator o.0.memory both.0) in
        let held = subst (λ l. (length r.row ≡ length l) × KeptFor trace k.operator (valuation_of l r.row) r.time) same (k.fits, k.kept) in
        (saved.exact r).1 (within, (o.0, o.1, (memory_kept trace k.operator o.0.memory (pair_of r) (saved.whole r.window o.0 within o.1) both.0 both.1).1 held)),
  )
    where
      some_operator : (n : ℕ) → n < length operators → (o : OperatorState) × (slice_get (reverse operators) n ≡ Some o)
      some_operator n below = at_place (reverse operators) n (omega (arith, below, length-reverse operators))
