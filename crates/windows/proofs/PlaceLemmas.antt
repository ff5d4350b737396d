-- The rows of entries by their places, and how many times they have.
use Rattle.windows.proofs.Vocabulary.{◌≡◌, ◌∙◌, ◌⊎◌, inl, inr, ⊎_elim, ℕ, zero, suc, ◌+◌, ◌-◌, ◌<◌, ◌≤◌, List, [], ◌∷◌, ◌++◌, length, map, filter, drop, cond, get_or, Contains, Bool, true, false}
use Rattle.windows.proofs.Vocabulary.{false≢true, Option, None, Some, refl, sym, ap, subst, arith, same_Some, none-some, slice_get, set_value_at, values_of, HasNoRepeats, there_from_get, Value}
use Rattle.windows.proofs.Vocabulary.{HasTimeAt, HasBehindAt, HasTime, HasBehind, AddsAtMost, Due, Queue, AreQueued, KeepsDues, waiting_of, due, dues_from, count_pairs, count_times, length-append}
use Rattle.windows.proofs.Vocabulary.{length-map, Contains-append_cases, Contains-append_left, Contains-append_right, Contains-map, Contains-from_map, none_in_nil, here, later, first_or_later}
use Rattle.windows.proofs.Vocabulary.{kept_entries, RiseTo, AreLeastTimes, IsSettledAt, KeepsRows}
use Rattle.std.proofs.lemmas.Option.{slice_get-map}
use Rattle.std.specs.Option.{option_map}
use Rattle.enf_data.proofs.ListFacts.{slice_get_at}
use Rattle.windows.specs.machine.RowTimes.{is_some_time}
use Rattle.windows.specs.machine.WindowEntries.{rows_of}
use Rattle.windows.specs.machine.Windows.{has_times}
use Rattle.windows.proofs.EntryLemmas.{SetsAt}
use Rattle.windows.proofs.LeastLemmas.{one_entry}
use Rattle.windows.proofs.QueueLemmas.{queued_fewer, waits_there}
use Rattle.windows.proofs.TimeLemmas.{least_live, least_near}

-- ---- places

-- an entry stands at its place
pub place_of : (es : List (List Value × List ℕ)) (e : List Value × List ℕ) → Contains es e → (place : ℕ) × (slice_get es place ≡ Some e)
place_of es e there = (there.0, slice_get_at es there.0 e there.1 (sym there.2))

entry_at : (es : List (List Value × List ℕ)) (place : ℕ) (row : List Value) → slice_get (rows_of es) place ≡ Some row → (e : List Value × List ℕ) × (slice_get es place ≡ Some e) × (e.0 ≡ row)
entry_at [] place row is = absurd (none-some row is)
entry_at (e ∷ es) zero row is = (e, refl, same_Some e.0 row is)
entry_at (e ∷ es) (suc place) row is = entry_at es place row is

row_at : (es : List (List Value × List ℕ)) (place : ℕ) (e : List Value × List ℕ) → slice_get es place ≡ Some e → slice_get (rows_of es) place ≡ Some e.0
row_at [] place e is = absurd (none-some e is)
row_at (x ∷ es) zero e is = ap (λ y. Some y.0) (same_Some x e is)
row_at (x ∷ es) (suc place) e is = row_at es place e is

-- where the rows stay in their places and none stands twice, what comes of the times of a row comes of those at its place
pub at_same : (C : List ℕ → ℕ → Type 0) (es after : List (List Value × List ℕ)) → rows_of after ≡ rows_of es → HasNoRepeats (rows_of es)
    → ((row : List Value) (time : ℕ) → ((times : List ℕ) × Contains after (row, times) × C times time) → (times : List ℕ) × Contains es (row, times) × C times time)
    → (place time : ℕ) → ((e : List Value × List ℕ) × (slice_get after place ≡ Some e) × C e.1 time) → (e : List Value × List ℕ) × (slice_get es place ≡ Some e) × C e.1 time
at_same C es after same unique from place time h =
    let was = from h.0.0 time (h.0.1, there_from_get after place h.0 h.1, h.2) in
    let at = entry_at es place h.0.0 (subst (λ rows. slice_get rows place ≡ Some h.0.0) same (row_at after place h.0 h.1)) in
    let there : Contains es (h.0.0, at.0.1) = subst (λ r. Contains es (r, at.0.1)) at.2 (there_from_get es place at.0 at.1) in
    (at.0, at.1, subst (λ times. C times time) (one_entry es unique h.0.0 was.0 at.0.1 was.1 there) was.2)

pub times_at_same : (es after : List (List Value × List ℕ)) → rows_of after ≡ rows_of es → HasNoRepeats (rows_of es)
    → ((row : List Value) (time : ℕ) → HasTime after row time → HasTime es row time) → (place time : ℕ) → HasTimeAt after place time → HasTimeAt es place time
times_at_same es after same unique from = at_same Contains es after same unique from

pub behind_at_same : (es after : List (List Value × List ℕ)) → rows_of after ≡ rows_of es → HasNoRepeats (rows_of es)
    → ((row : List Value) (time : ℕ) → HasBehind after row time → HasBehind es row time) → (place time : ℕ) → HasBehindAt after place time → HasBehindAt es place time
behind_at_same es after same unique from = at_same (λ times time. Contains (drop 1 times) time) es after same unique from

-- ---- the times at a place are changed

pub sets_place : (es : List (List Value × List ℕ)) (place : ℕ) (e : List Value × List ℕ) (new : List ℕ) → slice_get es place ≡ Some e → SetsAt es (set_value_at es place new) e.0 e.1 new
sets_place [] place e new is = absurd (none-some e is)
sets_place (x ∷ es) zero e new is =
    let first : x ≡ e = same_Some x e is in
    let entry : List Value × List ℕ = (x.0, new) in
    let changed : entry ≡ (e.0, new) = (λ i. ((first i).0, new)) in record {
      was = (0, omega arith, first);
      is = (0, omega arith, changed);
      from = λ other there. ⊎_elim (λ h. inr (sym h ∙ changed)) (λ behind. inl (later other x es behind)) (first_or_later other (x.0, new) es there);
      rest = λ other there. ⊎_elim (λ h. inr (sym h ∙ first)) (λ behind. inl (later other (x.0, new) es behind)) (first_or_later other x es there);
      rows = refl;
    }
sets_place (x ∷ es) (suc place) e new is =
    let inner = sets_place es place e new is in record {
      was = later (e.0, e.1) x es inner.was;
      is = later (e.0, new) x (set_value_at es place new) inner.is;
      from = λ other there. ⊎_elim (λ h. inl (0, omega arith, h)) (λ behind. ⊎_elim (λ b. inl (later other x es b)) (λ same_one. inr same_one) (inner.from other behind))
          (first_or_later other x (set_value_at es place new) there);
      rest = λ other there. ⊎_elim (λ h. inl (0, omega arith, h)) (λ behind. ⊎_elim (λ b. inl (later other x (set_value_at es place new) b)) (λ same_one. inr same_one)
          (inner.rest other behind)) (first_or_later other x es there);
      rows = ap (λ l. x.0 ∷ l) inner.rows;
    }

-- the entry at a place, whose times are known
pub valued_at : (es : List (List Value × List ℕ)) (place : ℕ) (old : List ℕ) → slice_get (values_of es) place ≡ Some old → (row : List Value) × (slice_get es place ≡ Some (row, old))
valued_at [] place old is = absurd (none-some old is)
valued_at (x ∷ es) zero old is = (x.0, (λ i. Some (x.0, same_Some x.1 old is i)))
valued_at (x ∷ es) (suc place) old is = valued_at es place old is

-- what stands at a place after it
pub at_set : (es : List (List Value × List ℕ)) (place : ℕ) (new : List ℕ) (at : ℕ) (e : List Value × List ℕ) → slice_get (set_value_at es place new) at ≡ Some e
    → ((at ≡ place) × (e.1 ≡ new)) ⊎ (slice_get es at ≡ Some e)
at_set [] place new at e is = absurd (none-some e is)
at_set (x ∷ es) zero new zero e is = let entry : List Value × List ℕ = (x.0, new) in inl (refl, sym (ap (λ y. y.1) (same_Some entry e is)))
at_set (x ∷ es) zero new (suc at) e is = inr is
at_set (x ∷ es) (suc place) new zero e is = inr is
at_set (x ∷ es) (suc place) new (suc at) e is = ⊎_elim (λ same. inl (ap suc same.0, same.1)) (λ other. inr other) (at_set es place new at e is)

pub at_set_itself : (es : List (List Value × List ℕ)) (place : ℕ) (new : List ℕ) (e : List Value × List ℕ) → slice_get (set_value_at es place new) place ≡ Some e → e.1 ≡ new
at_set_itself [] place new e is = absurd (none-some e is)
at_set_itself (x ∷ es) zero new e is = let entry : List Value × List ℕ = (x.0, new) in sym (ap (λ y. y.1) (same_Some entry e is))
at_set_itself (x ∷ es) (suc place) new e is = at_set_itself es place new e is

-- what stands at a place once one is put last
pub at_pushed : (es : List (List Value × List ℕ)) (last : List Value × List ℕ) (at : ℕ) (e : List Value × List ℕ) → slice_get (es ++ last ∷ []) at ≡ Some e
    → ((at ≡ length es) × (last ≡ e)) ⊎ (slice_get es at ≡ Some e)
at_pushed [] last zero e is = inl (refl, same_Some last e is)
at_pushed [] last (suc at) e is = absurd (none-some e is)
at_pushed (x ∷ es) last zero e is = inr is
at_pushed (x ∷ es) last (suc at) e is = ⊎_elim (λ same. inl (ap suc same.0, same.1)) (λ other. inr other) (at_pushed es last at e is)

-- ---- a time is added at a place, and queued

pub queued_set : (now place : ℕ) (es : List (List Value × List ℕ)) (old new : List ℕ) (before after : Queue) → slice_get (values_of es) place ≡ Some old → AddsAtMost now old new
    → KeepsDues before after → Contains (waiting_of after) (due now place) → AreQueued es before → AreQueued (set_value_at es place new) after
queued_set now place es old new before after value adds keeps waits queued = record {
  times = λ at time has. ⊎_elim
      (λ same. ⊎_elim
      (λ was. keeps.stays (due time at) (queued.times at time ((row.0, old), subst (λ p. slice_get es p ≡ Some (row.0, old)) (sym same.0) row.1, was)))
      (λ added. subst (λ d. Contains after.dues d) (λ i. due (sym added i) (sym same.0 i)) (waits_there after (due now place) waits))
      (adds.from time (subst (λ l. Contains l time) same.1 has.2)))
      (λ other. keeps.stays (due time at) (queued.times at time (has.0, other, has.2))) (at_set es place new at has.0 has.1);
  waiting = λ at time has. ⊎_elim
      (λ same. ⊎_elim
      (λ was. keeps.waits (due time at) (queued.waiting at time ((row.0, old), subst (λ p. slice_get es p ≡ Some (row.0, old)) (sym same.0) row.1, was)))
      (λ added. subst (λ d. Contains (waiting_of after) d) (λ i. due (sym added i) (sym same.0 i)) waits)
      (adds.behind time (subst (λ (l : List ℕ). Contains (drop 1 l) time) same.1 has.2)))
      (λ other. keeps.waits (due time at) (queued.waiting at time (has.0, other, has.2))) (at_set es place new at has.0 has.1);
}
  where
    row : (row : List Value) × (slice_get es place ≡ Some (row, old))
    row = valued_at es place old value

pub queued_pushed : (now place : ℕ) (row : List Value) (new : List ℕ) (es grown : List (List Value × List ℕ)) (before after : Queue) → place ≡ length es → new ≡ now ∷ []
    → grown ≡ es ++ (row, new) ∷ [] → KeepsDues before after → Contains (waiting_of after) (due now place) → AreQueued es before → AreQueued grown after
queued_pushed now place row new es grown before after last one is keeps waits queued = record {
  times = λ at time has. ⊎_elim
      (λ same.
      let at_now : Contains (now ∷ []) time = subst (λ l. Contains l time) (sym (ap (λ e. e.1) same.1) ∙ one) has.2 in
      subst (λ d. Contains after.dues d) (λ i. due (only time at_now i) ((last ∙ sym same.0) i)) (waits_there after (due now place) waits))
      (λ other. keeps.stays (due time at) (queued.times at time (has.0, other, has.2))) (at_pushed es (row, new) at has.0 (subst (λ l. slice_get l at ≡ Some has.0) is has.1));
  waiting = λ at time has. ⊎_elim
      (λ same. absurd (none_in_nil time (subst (λ (l : List ℕ). Contains (drop 1 l) time) (sym (ap (λ e. e.1) same.1) ∙ one) has.2)))
      (λ other. keeps.waits (due time at) (queued.waiting at time (has.0, other, has.2))) (at_pushed es (row, new) at has.0 (subst (λ l. slice_get l at ≡ Some has.0) is has.1));
}
  where
    only : (time : ℕ) → Contains (now ∷ []) time → now ≡ time
    only time there = ⊎_elim (λ same. same) (λ none. absurd (none_in_nil time none)) (first_or_later time now [] there)

-- rows are let go
pub queued_kept : (S : List Value → Type 0) (es after : List (List Value × List ℕ)) (queue : Queue) → HasNoRepeats (rows_of es) → KeepsRows S es after → rows_of after ≡ rows_of es → AreQueued es queue
    → AreQueued after queue
queued_kept S es after queue unique keeps same = queued_fewer es after queue (times_at_same es after same unique (λ row time has. ((keeps.exact row time).0 has).0))
    (behind_at_same es after same unique (λ row time has. ⊎_elim (λ before. (has.0, before, has.2))
    (λ gone. absurd (none_in_nil time (subst (λ (l : List ℕ). Contains (drop 1 l) time) gone.0 has.2))) (keeps.among (row, has.0) has.1)))

-- ---- how many times there are

pub count_set : (es : List (List Value × List ℕ)) (place : ℕ) (old new : List ℕ) → slice_get (values_of es) place ≡ Some old
    → count_pairs (set_value_at es place new) + length old ≡ count_pairs es + length new
count_set [] place old new is = absurd (none-some old is)
count_set (x ∷ es) zero old new is = let same : length x.1 ≡ length old = ap length (same_Some x.1 old is) in omega (arith, same)
count_set (x ∷ es) (suc place) old new is = let rest = count_set es place old new is in omega (arith, rest)

pub count_append : (es more : List (List Value × List ℕ)) → count_pairs (es ++ more) ≡ count_pairs es + count_pairs more
count_append [] more = omega arith
count_append (x ∷ es) more = let rest = count_append es more in omega (arith, rest)

pub count_kept : (es : List (List Value × List ℕ)) → count_pairs (kept_entries es) ≡ count_pairs es
count_kept [] = refl
count_kept (x ∷ es) = by (is_some_time x.1) refl (count_kept es)
  where
    none_of : (times : List ℕ) → is_some_time times ≡ false → length times ≡ 0
    none_of [] none = refl
    none_of (t ∷ times) none = absurd (false≢true (sym none))

    by : (b : Bool) → is_some_time x.1 ≡ b → count_pairs (kept_entries es) ≡ count_pairs es → count_pairs (cond b (x ∷ kept_entries es) (kept_entries es)) ≡ length x.1 + count_pairs es
    by true some rest = omega (arith, rest)
    by false none rest = omega (arith, rest, none_of x.1 none)

pub kept_short : (es : List (List Value × List ℕ)) → length (kept_entries es) ≤ length es
kept_short [] = omega arith
kept_short (x ∷ es) = by (is_some_time x.1) (kept_short es)
  where
    by : (b : Bool) → length (kept_entries es) ≤ length es → length (cond b (x ∷ kept_entries es) (kept_entries es)) ≤ suc (length es)
    by true rest = omega (arith, rest)
    by false rest = omega (arith, rest)

-- each row that is kept has one at least
pub kept_within : (es : List (List Value × List ℕ)) → length (kept_entries es) ≤ count_pairs es
kept_within [] = omega arith
kept_within (x ∷ es) = by (is_some_time x.1) refl (kept_within es)
  where
    some_of : (times : List ℕ) → is_some_time times ≡ true → 1 ≤ length times
    some_of [] some = absurd (false≢true some)
    some_of (t ∷ times) some = omega arith

    by : (b : Bool) → is_some_time x.1 ≡ b → length (kept_entries es) ≤ count_pairs es → length (cond b (x ∷ kept_entries es) (kept_entries es)) ≤ length x.1 + count_pairs es
    by true some rest = omega (arith, rest, some_of x.1 some)
    by false none rest = omega (arith, rest)

-- ---- the dues of all rows

pub dues_count : (place : ℕ) (all : List (List ℕ)) → length (dues_from place all) ≡ count_times all
dues_count place [] = refl
dues_count place (times ∷ others) =
    let rest = dues_count (suc place) others in
    omega (arith, rest, length-append (map (λ time. due time place) times) (dues_from (suc place) others), length-map times (λ time. due time place))

pub dues_there : (from : ℕ) (es : List (List Value × List ℕ)) (at time : ℕ) → HasTimeAt es at time → Contains (dues_from from (values_of es)) (due time (from + at))
dues_there from [] at time has = absurd (none-some has.0 has.1)
dues_there from (x ∷ es) zero time has =
    Contains-append_left (map (λ t. due t from) x.1) (dues_from (suc from) (values_of es)) (due time (from + 0)) (subst (λ p. Contains (map (λ t. due t from) x.1) (due time p)) (omega arith)
    (Contains-map (λ t. due t from) x.1 time (subst (λ (e : List Value × List ℕ). Contains e.1 time) (sym (same_Some x has.0 has.1)) has.2)))
dues_there from (x ∷ es) (suc at) time has =
    Contains-append_right (map (λ t. due t from) x.1) (dues_from (suc from) (values_of es)) (due time (from + suc at))
    (subst (λ p. Contains (dues_from (suc from) (values_of es)) (due time p)) (omega arith) (dues_there (suc from) es at time has))

pub dues_known : (from : ℕ) (es : List (List Value × List ℕ)) (d : Due) → Contains (dues_from from (values_of es)) d → (e : List Value × List ℕ) × Contains es e × Contains e.1 d.time
dues_known from [] d there = absurd (none_in_nil d there)
dues_known from (x ∷ es) d there = ⊎_elim
    (λ first. let at = Contains-from_map (λ t. due t from) x.1 d first in (x, here x es, subst (λ t. Contains x.1 t) (ap (λ (y : Due). y.time) at.2) at.1))
    (λ behind. let rest = dues_known (suc from) es d behind in (rest.0, Contains-append_right (x ∷ []) es rest.0 rest.1, rest.2))
    (Contains-append_cases (map (λ t. due t from) x.1) (dues_from (suc from) (values_of es)) d there)

-- ---- a place whose times are settled

pub settled_set : (high low now place : ℕ) (es : List (List Value × List ℕ)) (new : List ℕ) → RiseTo now new → (new ≡ []) ⊎ AreLeastTimes (Some high) low now new
    → IsSettledAt high low now (set_value_at es place new) place
settled_set high low now place es new rise least = λ time. (
  λ has.
      let at : Contains new time = subst (λ l. Contains l time) (at_set_itself es place new has.0 has.1) has.2 in
      ⊎_elim (λ none. absurd (none_in_nil time (subst (λ l. Contains l time) none at))) (λ is. least_live high low now new rise is time at) least,
  λ has.
      let at : Contains (drop 1 new) time = subst (λ (l : List ℕ). Contains (drop 1 l) time) (at_set_itself es place new has.0 has.1) has.2 in
      ⊎_elim (λ none. absurd (none_in_nil time (subst (λ (l : List ℕ). Contains (drop 1 l) time) none at))) (λ is. least_near high low now new is time at) least,
)

none_past : (es : List (List Value × List ℕ)) (place : ℕ) (e : List Value × List ℕ) → length es ≤ place → slice_get es place ≡ Some e → ⊥
none_past [] place e past is = none-some e is
none_past (x ∷ es) zero e past is = omega (arith, past)
none_past (x ∷ es) (suc place) e past is = none_past es place e (omega (arith, past)) is

-- there is no such row
pub settled_past : (high low now place : ℕ) (es : List (List Value × List ℕ)) → length es ≤ place → IsSettledAt high low now es place
settled_past high low now place es past = λ time. (λ has. absurd (none_past es place has.0 past has.1), λ has. absurd (none_past es place has.0 past has.1))
