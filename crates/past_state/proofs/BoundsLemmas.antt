-- What has to be kept of a trace is within the bounds at its last time.
use Rattle.past_state.proofs.Vocabulary.{◌≡◌, ◌∙◌, ℕ, List, [], ◌∷◌, length, Contains, None, Some, refl, sym, ap, subst, arith, slice_get, same_Some, IsTrace, Valuation, valuation_of, Interval, Step}
use Rattle.past_state.proofs.Vocabulary.{VarId, all_from, Formula, Prev, Once, Historically, Since, AreFreeVariables, Sat, HoldsAnywhere, same_free, denial, last_time, NoneIsLater, here, none_in_nil}
use Rattle.past_state.proofs.Vocabulary.{ChosenBy, pair, HasPairAt, KeptAt, AreKeptOf, IsRowToKeep, KeptFor, kept_operand, kept_row, HaveTime, IsKeepable, IsTimely, IsTimelyIn, KeptAreWithinBounds}
use Rattle.past_state.proofs.Vocabulary.{KeptRow}
use Rattle.past_state.proofs.ChosenLemmas.{not_below}
use Rattle.past_state.proofs.RestoredRowLemmas.{chosen_fewer}

-- a row that has to be kept is so for the operator of its number, with the values of that one's columns
pub kept_with : (trace : List Step) (fs : List Formula) (r : KeptRow) (f : Formula) (columns : List VarId) → slice_get fs r.window ≡ Some f → AreFreeVariables (kept_operand f) columns
    → IsRowToKeep trace fs r
    → KeptFor trace f (valuation_of columns r.row) r.time
kept_with trace fs r f columns at free k =
    let is : k.operator ≡ f = same_Some k.operator f (sym k.numbered ∙ at) in
    let same : k.columns ≡ columns = same_free (kept_operand f) k.columns columns (subst (λ g. AreFreeVariables (kept_operand g) k.columns) is k.free) free in
    subst (λ l. KeptFor trace f (valuation_of l r.row) r.time) same (subst (λ g. KeptFor trace g (valuation_of k.columns r.row) r.time) is k.kept)

-- ---- the times that are kept could not be left out

module _ (law : NoneIsLater) (trace : List Step) (is_trace : IsTrace trace) (last : ℕ) (at : last ≡ last_time trace) (P : ℕ → Type 0) (time : ℕ) where
  timely_in : (interval : Interval) (F G : ℕ → Type 0) → ((other : ℕ) → P other → KeptAt trace interval F G other) → KeptAt trace interval F G time → IsTimelyIn interval last P time
  timely_in interval F G each held = (
    not_below time last (λ above. held.0 (λ h. omega (arith, above, h.2, at, law trace h.0 is_trace h.1))),
    chosen_fewer interval.high interval.low last (HasPairAt trace F G) P time (λ other there. (each other there).0)
        (subst (λ l. ChosenBy interval.high interval.low l (HasPairAt trace F G) time) (sym at) held.1),
  )

  timely_for : (f : Formula) (v : Valuation) → ((other : ℕ) → P other → KeptFor trace f v other) → KeptFor trace f v time → IsTimely f last P time
  timely_for (Prev place interval g) v each held = held.1 ∙ sym at
  timely_for (Once place interval g) v each held = timely_in interval HoldsAnywhere (λ i. Sat trace i v g) each held
  timely_for (Historically place interval g) v each held = timely_in interval HoldsAnywhere (λ i. Sat trace i v (denial g)) each held
  timely_for (Since place interval g h) v each held = timely_in interval (λ i. Sat trace i v g) (λ i. Sat trace i v h) each held
  timely_for f v each held = absurd held

-- ---- the rows

none_of_nothing : (f : Formula) (v : Valuation) (time : ℕ) → KeptFor [] f v time → ⊥
none_of_nothing (Prev place interval g) v time held = omega (arith, held.0)
none_of_nothing (Once place interval g) v time held = held.0 (λ h. omega (arith, h.1))
none_of_nothing (Historically place interval g) v time held = held.0 (λ h. omega (arith, h.1))
none_of_nothing (Since place interval g h) v time held = held.0 (λ h. omega (arith, h.1))
none_of_nothing f v time held = held

-- before the first step no row has to be kept
pub kept_of_nothing : (fs : List Formula) (rows : List KeptRow) → rows ≡ [] → AreKeptOf [] fs rows
kept_of_nothing fs rows none r = (
  λ there. absurd (none_in_nil r (subst (λ l. Contains l r) none there)),
  λ k. absurd (none_of_nothing k.operator (valuation_of k.columns r.row) r.time k.kept),
)

pub kept_are_within : NoneIsLater → KeptAreWithinBounds
kept_are_within law trace None fs [] is_trace at rising are = refl
kept_are_within law trace None fs (r ∷ rows) is_trace at rising are =
    let k = (are r).0 (here r rows) in
    absurd (none_of_nothing k.operator (valuation_of k.columns r.row) r.time (subst (λ t. KeptFor t k.operator (valuation_of k.columns r.row) r.time) at k.kept))
kept_are_within law trace (Some last) fs rows is_trace at rising are = (rising, all_from (IsKeepable fs last rows) rows keepable)
  where
    keepable : (r : KeptRow) → Contains rows r → IsKeepable fs last rows r
    keepable r there =
        let k = (are r).0 there in record {
          operator = k.operator;
          numbered = k.numbered;
          long = λ columns free. k.fits ∙ ap length (same_free (kept_operand k.operator) k.columns columns k.free free);
          timely = timely_for law trace is_trace last at.1 (HaveTime rows r) r.time k.operator (valuation_of k.columns r.row)
              (λ other also. kept_with trace fs (kept_row r.window (pair r.row other)) k.operator k.columns k.numbered k.free ((are (kept_row r.window (pair r.row other))).0 also)) k.kept;
        }
