-- Whether steps over one variable give a number can be computed.
use Rattle.windows.proofs.Vocabulary.{◌≡◌, ◌∙◌, ⊎_elim, ℕ, ◌-◌, ◌≤◌, Bool, true, false, not, ◌&&◌, ◌||◌, List, [], ◌∷◌, ◌++◌, length, map, Contains, Option, None, Some, refl, sym, ap, subst, arith}
use Rattle.windows.proofs.Vocabulary.{append_assoc, append-nil, Decides, list_any, false≢true, Decides-and, Decides-or, Decides-like, Decides-eqb, map-append, Contains-append_right, list_any-Decides}
use Rattle.windows.proofs.Vocabulary.{none_in_nil, here, later, first_or_later, HasNoRepeats, IsIn, IsUpTo, Interval, Value, agrees_itself, agrees_once, Valuation, AgreesWithRow, HasValuation}
use Rattle.windows.proofs.Vocabulary.{StepsAnswer, IsHeld, CommittedStep, HasPair, x_columns, number_row, x_number, number_table, Entry, IsKeptByEntries, step_of, last_at, with_1, ChosenBy, GivesLast}
use Rattle.windows.proofs.Vocabulary.{WindowRemembersIn}
use Rattle.std.specs.Prelude.{nat_eq}
use Rattle.std.proofs.Math.Dec.{leb}
use Rattle.windows.proofs.GivenLaws.{leb-Decides}
use Rattle.windows.proofs.HeldLemmas.{held_more, none_held}

abbrev pub is_up_to : Option ℕ → ℕ → Bool
is_up_to None d = true
is_up_to (Some high) d = leb d high

is_up_to-Decides : (high : Option ℕ) (d : ℕ) → Decides (is_up_to high d) (IsUpTo high d)
is_up_to-Decides None d = (λ e. tt, λ h. refl)
is_up_to-Decides (Some high) d = leb-Decides d high

abbrev pub is_in : Interval → ℕ → Bool
is_in interval d = leb interval.low d && is_up_to interval.high d

pub is_in-Decides : (interval : Interval) (d : ℕ) → Decides (is_in interval d) (IsIn interval d)
is_in-Decides interval d = Decides-and _ _ (leb-Decides interval.low d) (is_up_to-Decides interval.high d)

pub distinct : HasNoRepeats x_columns
distinct = (none_in_nil _, tt)

pub same_number : (m n : ℕ) → number_row m ≡ number_row n → m ≡ n
same_number m n e = cc

in_rows : (ns : List ℕ) (n : ℕ) → Contains ns n → Contains (map number_row ns) (number_row n)
in_rows [] n there = absurd (none_in_nil n there)
in_rows (m ∷ ns) n there = ⊎_elim (λ same. (0, omega arith, λ i. number_row (same i))) (λ behind. later (number_row n) (number_row m) (map number_row ns) (in_rows ns n behind))
    (first_or_later n m ns there)

pub from_rows : (ns : List ℕ) (r : List Value) → Contains (map number_row ns) r → (n : ℕ) × Contains ns n × (r ≡ number_row n)
from_rows [] r there = absurd (none_in_nil r there)
from_rows (m ∷ ns) r there =
    ⊎_elim (λ same. (m, here m ns, sym same)) (λ behind. let found = from_rows ns r behind in (found.0, later found.0 m ns found.1, found.2))
    (first_or_later r (number_row m) (map number_row ns) there)

abbrev pub has : List ℕ → ℕ → Bool
has ns n = list_any (nat_eq n) ns

pub has-Decides : (ns : List ℕ) (n : ℕ) → Decides (has ns n) (HasValuation (number_table ns) (x_number n))
has-Decides ns n =
    Decides-like (has ns n)
    (λ there. (number_row n, in_rows ns n there, agrees_itself x_columns (number_row n) distinct refl))
    (λ h. let found = from_rows ns h.0 h.1 in
    subst (Contains ns) (same_number found.0 n (sym found.2 ∙ agrees_once (x_number n) x_columns h.0 (number_row n) distinct (ap length found.2) refl h.2
    (agrees_itself x_columns (number_row n) distinct refl))) found.1)
    (list_any-Decides nat_eq (λ a b. Decides-eqb a b) ns n)

-- one pass over the steps
abbrev pub walk : (ℕ → Bool) → ℕ → Bool → List Entry → Bool
walk counts n held [] = held
walk counts n held (e ∷ entries) = walk counts n ((counts e.time && has e.right n) || (held && has e.surviving n)) entries

module _ (C : ℕ → Type 0) (counts : ℕ → Bool) (decided : (t : ℕ) → Decides (counts t) (C t)) (n : ℕ) where
  walk-Decides : (held : Bool) (before entries : List Entry) → Decides held (IsHeld C (map step_of before) (x_number n))
      → Decides (walk counts n held entries) (IsHeld C (map step_of (before ++ entries)) (x_number n))
  walk-Decides held before [] d = subst (λ l. Decides held (IsHeld C (map step_of l) (x_number n))) (sym (append-nil before)) d
  walk-Decides held before (e ∷ entries) d =
      let more = held_more C (map step_of before) (step_of e) (x_number n) in
      let held' : Bool = (counts e.time && has e.right n) || (held && has e.surviving n) in
      let with_e : Decides held' (IsHeld C (map step_of before ++ step_of e ∷ []) (x_number n)) =
      Decides-like held' more.1 more.0 (Decides-or _ _ (Decides-and _ _ (decided e.time) (has-Decides e.right n)) (Decides-and _ _ d (has-Decides e.surviving n))) in
      subst (λ l. Decides (walk counts n held' entries) (IsHeld C (map step_of l) (x_number n))) (append_assoc before (e ∷ []) entries)
      (walk-Decides held' (before ++ e ∷ []) entries (subst (λ l. Decides held' (IsHeld C l (x_number n))) (sym (map-append step_of before (e ∷ []))) with_e))

  held-Decides : (entries : List Entry) → Decides (walk counts n false entries) (IsHeld C (map step_of entries) (x_number n))
  held-Decides entries = walk-Decides false [] entries (λ e. absurd (false≢true e), λ h. absurd (none_held C (x_number n) h))

pub given-Decides : (interval : Interval) (time n : ℕ) (entries : List Entry)
    → Decides (walk (λ t. is_in interval (time - t)) n false entries) (StepsAnswer interval time (map step_of entries) (x_number n))
given-Decides interval time n entries = held-Decides (λ t. IsIn interval (time - t)) (λ t. is_in interval (time - t)) (λ t. is_in-Decides interval (time - t)) n entries

-- ---- what has to be kept

abbrev pub pair : List Entry → ℕ → ℕ → Bool
pair entries n time = walk (λ t. nat_eq t time) n false entries

pub pair-Decides : (entries : List Entry) (n time : ℕ) → Decides (pair entries n time) (HasPair (map step_of entries) (x_number n) time)
pair-Decides entries n time = held-Decides (λ t. t ≡ time) (λ t. nat_eq t time) (λ t. Decides-eqb t time) n entries

from_map : (entries : List Entry) (s : CommittedStep) → Contains (map step_of entries) s → (e : Entry) × Contains entries e × (step_of e ≡ s)
from_map [] s there = absurd (none_in_nil s there)
from_map (e ∷ entries) s there =
    ⊎_elim (λ same. (e, here e entries, same)) (λ behind. let found = from_map entries s behind in (found.0, later found.0 e entries found.1, found.2))
    (first_or_later s (step_of e) (map step_of entries) there)

-- a time at which it was right is the time of one of them
time_among : (entries : List Entry) (v : Valuation) (time : ℕ) → HasPair (map step_of entries) v time → (e : Entry) × Contains entries e × (e.time ≡ time)
time_among entries v time held =
    let found = from_map entries held.step (subst (λ l. Contains l held.step) (sym held.split) (Contains-append_right held.before (held.step ∷ held.after) held.step (here held.step held.after))) in
    (found.0, found.1, ap (λ s. s.time) found.2 ∙ held.counts)

abbrev pub each : (ℕ → Bool) → List Entry → Bool
each p [] = true
each p (e ∷ entries) = p e.time && each p entries

each-Decides : (p : ℕ → Bool) (Q : ℕ → Type 0) → ((t : ℕ) → Decides (p t) (Q t)) → (entries : List Entry) → Decides (each p entries) ((e : Entry) → Contains entries e → Q e.time)
each-Decides p Q decided [] = (λ yes e there. absurd (none_in_nil e there), λ all. refl)
each-Decides p Q decided (e ∷ entries) =
    Decides-like (each p (e ∷ entries))
    (λ both other there. ⊎_elim (λ same. subst (λ x. Q x.time) same both.0) (λ behind. both.1 other behind) (first_or_later other e entries there))
    (λ all. (all e (here e entries), λ other there. all other (later other e entries there)))
    (Decides-and _ _ (decided e.time) (each-Decides p Q decided entries))

Decides-implies : {P Q : Type 0} (a b : Bool) → Decides a P → Decides b Q → Decides (not a || b) (P → Q)
Decides-implies true b first second = (λ yes p. second.0 yes, λ f. second.1 (f (first.0 refl)))
Decides-implies false b first second = (λ yes p. absurd (false≢true (first.1 p)), λ f. refl)

abbrev pub chosen : Option ℕ → ℕ → ℕ → List Entry → ℕ → ℕ → Bool
chosen None low last entries n time = each (λ i. not (pair entries n i) || leb time i) entries
chosen (Some high) low last entries n time =
    leb (last - time) high && (not (leb low (last - time)) || each (λ i. not (pair entries n i) || (not (leb low (last - i)) || leb i time)) entries)

-- it is enough to look at the times of the steps
at_times : (entries : List Entry) (n : ℕ) (p : ℕ → Bool) (Q : ℕ → Type 0) → ((t : ℕ) → Decides (p t) (Q t))
    → Decides (each (λ i. not (pair entries n i) || p i) entries) ((i : ℕ) → HasPair (map step_of entries) (x_number n) i → Q i)
at_times entries n p Q decided =
    Decides-like (each (λ i. not (pair entries n i) || p i) entries)
    (λ all i held. let e = time_among entries (x_number n) i held in subst Q e.2 (all e.0 e.1 (subst (HasPair (map step_of entries) (x_number n)) (sym e.2) held)))
    (λ all e there. all e.time)
    (each-Decides (λ i. not (pair entries n i) || p i) (λ i. HasPair (map step_of entries) (x_number n) i → Q i)
    (λ i. Decides-implies (pair entries n i) (p i) (pair-Decides entries n i) (decided i)) entries)

chosen-Decides : (high : Option ℕ) (low last : ℕ) (entries : List Entry) (n time : ℕ) → Decides (chosen high low last entries n time)
    (ChosenBy high low last (HasPair (map step_of entries) (x_number n)) time)
chosen-Decides None low last entries n time = at_times entries n (λ i. leb time i) (λ i. time ≤ i) (λ i. leb-Decides time i)
chosen-Decides (Some high) low last entries n time =
    Decides-and _ _ (leb-Decides (last - time) high)
    (Decides-implies (leb low (last - time)) _ (leb-Decides low (last - time))
    (at_times entries n (λ i. not (leb low (last - i)) || leb i time) (λ i. low ≤ last - i → i ≤ time)
    (λ i. Decides-implies (leb low (last - i)) (leb i time) (leb-Decides low (last - i)) (leb-Decides i time))))

pub kept-Decides : (interval : Interval) (last : ℕ) (entries : List Entry) (n time : ℕ)
    → Decides (pair entries n time && chosen interval.high interval.low last entries n time) (IsKeptByEntries interval last entries n time)
kept-Decides interval last entries n time = Decides-and _ _ (pair-Decides entries n time) (chosen-Decides interval.high interval.low last entries n time)

-- ---- a window of one row

pub only_row : (time : ℕ) (e : List Value × List ℕ) → Contains (with_1 (record { low = 0; high = None }) time).kept e → (e.0 ≡ number_row 1) × (e.1 ≡ time ∷ [])
only_row time e there = ⊎_elim (λ same. (ap (λ x. x.0) (sym same), ap (λ x. x.1) (sym same))) (λ none. absurd (none_in_nil e none)) (first_or_later e (number_row 1, time ∷ []) [] there)

pub remembered-Decides : (by interval : Interval) (time at n : ℕ) → Decides (is_in by (at - time) && nat_eq 1 n) (WindowRemembersIn by (with_1 interval time) at (x_number n))
remembered-Decides by interval time at n =
    Decides-like (is_in by (at - time) && nat_eq 1 n)
    (λ both. (
      time,
      both.0,
      (
        number_row 1,
        time ∷ [],
        (0, omega arith, refl),
        here time [],
        subst (λ m. AgreesWithRow (x_number m) x_columns (number_row 1)) both.1
            (agrees_itself x_columns (number_row 1) distinct refl),
      ),
    ))
    (λ h. let entry = only_row time (h.2.0, h.2.1) h.2.2 in (
      subst (λ t. IsIn by (at - t)) (⊎_elim (λ same. sym same) (λ none. absurd (none_in_nil h.0 none)) (first_or_later h.0 time [] (subst (λ l. Contains l h.0) entry.1 h.2.3))) h.1,
      same_number 1 n (agrees_once (x_number n) x_columns (number_row 1) (number_row n) distinct refl refl (subst (AgreesWithRow (x_number n) x_columns) entry.0 h.2.4)
          (agrees_itself x_columns (number_row n) distinct refl)),
    ))
    (Decides-and _ _ (is_in-Decides by (at - time)) (Decides-eqb 1 n))

pub last-Decides : (interval : Interval) (time n earlier : ℕ) (ns : List ℕ)
    → Decides (is_in interval (time - earlier) && has ns n) (GivesLast interval time (last_at earlier ns) (x_number n))
last-Decides interval time n earlier ns = Decides-and _ _ (is_in-Decides interval (time - earlier)) (has-Decides ns n)
