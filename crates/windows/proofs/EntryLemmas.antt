-- Rows with their times.
use Rattle.windows.proofs.Vocabulary.{◌≡◌, ◌∙◌, ◌↔◌, ◌⊎◌, inl, inr, ⊎_elim, ℕ, zero, suc, ◌+◌, ◌-◌, ◌<◌, ◌≤◌, Bool, true, false, List, [], ◌∷◌, ◌++◌, length, map, take, drop, get_or, All, Contains}
use Rattle.windows.proofs.Vocabulary.{Option, None, Some, refl, sym, ap, subst, arith, false≢true, All-contains, All-nil, All-push, Contains-append_cases, Contains-append_left, Contains-append_right}
use Rattle.windows.proofs.Vocabulary.{Contains-get_or, Contains-push, same_Some, none-some, position, slice_get, IfSome, cond, IsDistinct, RetainsPairs, take_more, position-Some, keys_of, lookup}
use Rattle.windows.proofs.Vocabulary.{values_of, set_value_at, get_by, insert_entry, insert_entry-new, HashMap, HasNoRepeats-from_distinct, here, later, first_or_later, none_in_nil}
use Rattle.windows.proofs.Vocabulary.{derived_row_eq-Decides, HasNoRepeats, Interval, Value, all_from, AddAtMost, AddsAtMost, AddsTime, AddsTimes, AreWindowEntries, AreLeast, Forgets, ForgetsTimes}
use Rattle.windows.proofs.Vocabulary.{GivesRow, GivesSomeRow, HasTime, IsAnyRow, IsSomeIn, KeepsRows, IsEndedTime, AreLeastTimes, IsServedTime, RiseTo, Contains-from_map, Contains-map, All-weaker}
use Rattle.std.specs.Prelude.{is_some, IsTrue}
use Rattle.indexmap.proofs.MapLemmas.{Found-position, absent_from_lookup, insert_entry-first, or_len-absent, some_index}
use Rattle.std.specs.List.{position_or_len}
use Rattle.windows.proofs.LeastLemmas.{one_entry}
use Rattle.windows.proofs.TimeLemmas.{first_least, itself, rise_later}
use Rattle.windows.specs.machine.RowTimes.{is_some_time}
use Rattle.windows.specs.machine.Windows.{kept_entries}
use Rattle.windows.specs.machine.WindowEntries.{IsLetGoUnless}
use Rattle.enf_data.specs.contracts.rows.RowPartialEq.TheImpl as rows

-- ---- an entry whose times are changed

pub record SetsAt (es after : List (List Value × List ℕ)) (row : List Value) (old new : List ℕ) : Type 0 where
  pub was : Contains es (row, old)
  pub is : Contains after (row, new)
  pub from : (e : List Value × List ℕ) → Contains after e → Contains es e ⊎ (e ≡ (row, new))
  pub rest : (e : List Value × List ℕ) → Contains es e → Contains after e ⊎ (e ≡ (row, old))
  pub rows : map (λ e. e.0) after ≡ map (λ e. e.0) es

-- at the place of the row
sets_there : (test : List Value → Bool) (row d : List Value) → ((k : List Value) → test k ≡ true → row ≡ k)
    → (es : List (List Value × List ℕ)) (place : ℕ) (old new : List ℕ) → place < length (keys_of es)
    → test (get_or (keys_of es) place d) ≡ true → slice_get (values_of es) place ≡ Some old → SetsAt es (set_value_at es place new) row old new
sets_there test row d same [] place old new within passes value = absurd (omega (arith, within))
sets_there test row d same (e ∷ es) zero old new within passes value =
    let key : row ≡ e.0 = same e.0 passes in
    let held : e.1 ≡ old = same_Some e.1 old value in
    let first : e ≡ (row, old) = (λ i. (sym key i, held i)) in
    let entry : List Value × List ℕ = (e.0, new) in
    let changed : entry ≡ (row, new) = (λ i. (sym key i, new)) in record {
      was = (0, omega arith, first);
      is = (0, omega arith, changed);
      from = λ other there. ⊎_elim (λ h. inr (sym h ∙ changed)) (λ behind. inl (later other e es behind)) (first_or_later other (e.0, new) es there);
      rest = λ other there. ⊎_elim (λ h. inr (sym h ∙ first)) (λ behind. inl (later other (e.0, new) es behind)) (first_or_later other e es there);
      rows = refl;
    }
sets_there test row d same (e ∷ es) (suc place) old new within passes value =
    let inner = sets_there test row d same es place old new (omega (arith, within)) passes value in record {
      was = later (row, old) e es inner.was;
      is = later (row, new) e (set_value_at es place new) inner.is;
      from = λ other there. ⊎_elim (λ h. inl (0, omega arith, h)) (λ behind. ⊎_elim (λ b. inl (later other e es b)) (λ same_one. inr same_one) (inner.from other behind))
          (first_or_later other e (set_value_at es place new) there);
      rest = λ other there. ⊎_elim (λ h. inl (0, omega arith, h)) (λ behind. ⊎_elim (λ b. inl (later other e (set_value_at es place new) b)) (λ same_one. inr same_one)
          (inner.rest other behind)) (first_or_later other e es there);
      rows = ap (λ l. e.0 ∷ l) inner.rows;
    }

pub sets_at : (row : List Value) (es : List (List Value × List ℕ)) (place : ℕ) (old new : List ℕ) → Some place ≡ position (rows.eq-value.it row) (keys_of es)
    → slice_get (values_of es) place ≡ Some old → SetsAt es (set_value_at es place new) row old new
sets_at row es place old new found value =
    let at = position-Some (rows.eq-value.it row) (keys_of es) place row (sym found) in
    sets_there (rows.eq-value.it row) row row (λ k passes. (derived_row_eq-Decides row k).0 passes) es place old new at.0 at.1 value

-- ---- times that serve

pub served_by : (high : Option ℕ) (low now : ℕ) (P Q : ℕ → Type 0) (time : ℕ) → ((other : ℕ) → P other → Q other) → IsServedTime high low now P time → IsServedTime high low now Q time
served_by None low now P Q time weaker served = (served.0, served.1, weaker served.0 served.2)
served_by (Some high) low now P Q time weaker served = (served.0, served.1, served.2, weaker served.0 served.3)

-- what serves in the place of one that serves does so too
pub served_on : (high : Option ℕ) (low now : ℕ) (P Q : ℕ → Type 0) (time : ℕ) → ((other : ℕ) → P other → IsServedTime high low now Q other ⊎ IsEndedTime high now other)
    → IsServedTime high low now P time
    → IsServedTime high low now Q time ⊎ IsEndedTime high now time
served_on None low now P Q time serves served =
    ⊎_elim (λ by. inl (by.0, omega (arith, by.1, served.1), by.2)) (λ ended. absurd ended) (serves served.0 served.2)
served_on (Some high) low now P Q time serves served =
    ⊎_elim (λ by. inl (
      by.0,
      omega (arith, by.1, served.1),
      ⊎_elim (λ same. ⊎_elim (λ first. inl (same ∙ first)) (λ far. inr (subst (λ t. low ≤ now - t) (sym same) far)) served.2) (λ far. inr far) by.2,
      by.3,
    )) (λ ended. inr (omega (arith, ended, served.1))) (serves served.0 served.3)

pub not_ended_now : (high : Option ℕ) (now : ℕ) → IsEndedTime high now now → ⊥
not_ended_now None now ended = ended
not_ended_now (Some high) now ended = omega (arith, ended)

-- ---- rows that are so long, with times that rise

abbrev Fit : ℕ → ℕ → List Value × List ℕ → Type 0
Fit long last e = (length e.0 ≡ long) × RiseTo last e.1

pub fit_of : (long last : ℕ) (es : List (List Value × List ℕ)) (row : List Value) (times : List ℕ) → AreWindowEntries long last es → Contains es (row, times)
    → (length row ≡ long) × RiseTo last times
fit_of long last es row times kept there = All-contains (Fit long last) es (row, times) kept.fit there

pub entries_fit : (long last : ℕ) (es : List (List Value × List ℕ)) → AreWindowEntries long last es → All (λ e. length e.0 ≡ long) es
entries_fit long last es kept = All-weaker (Fit long last) (λ e. length e.0 ≡ long) (λ e fit. fit.0) es kept.fit

pub least_of : (interval : Interval) (last : ℕ) (es : List (List Value × List ℕ)) (row : List Value) (times : List ℕ) → AreLeast interval last es
    → Contains es (row, times) → (times ≡ []) ⊎ AreLeastTimes interval.high interval.low last times
least_of interval last es row times least there = All-contains (λ e. (e.1 ≡ []) ⊎ AreLeastTimes interval.high interval.low last e.1) es (row, times) least there

-- where the row has a time
pub least_with : (interval : Interval) (last : ℕ) (es : List (List Value × List ℕ)) (row : List Value) (times : List ℕ) (time : ℕ) → AreLeast interval last es
    → Contains es (row, times) → Contains times time → AreLeastTimes interval.high interval.low last times
least_with interval last es row times time least there has = ⊎_elim (λ none. absurd (none_in_nil time (subst (λ l. Contains l time) none has))) (λ is. is)
    (least_of interval last es row times least there)

pub set_keys : (es : List (List Value × List ℕ)) (place : ℕ) (new : List ℕ) → map (λ e. e.0) (set_value_at es place new) ≡ map (λ e. e.0) es
set_keys [] place new = refl
set_keys (e ∷ es) zero new = refl
set_keys (e ∷ es) (suc place) new = ap (λ l. e.0 ∷ l) (set_keys es place new)

pub kept_set : (long last : ℕ) (row : List Value) (es : List (List Value × List ℕ)) (place : ℕ) (old new : List ℕ) → AreWindowEntries long last es
    → SetsAt es (set_value_at es place new) row old new → RiseTo last new
    → AreWindowEntries long last (set_value_at es place new)
kept_set long last row es place old new kept sets rise = record {
  fit = all_from (Fit long last) (set_value_at es place new) (λ e there. ⊎_elim (λ before. All-contains (Fit long last) es e kept.fit before)
      (λ same. subst (Fit long last) (sym same) ((All-contains (Fit long last) es (row, old) kept.fit sets.was).0, rise)) (sets.from e there));
  unique = subst HasNoRepeats (sym (set_keys es place new)) kept.unique;
}

pub least_set : (interval : Interval) (last : ℕ) (row : List Value) (es after : List (List Value × List ℕ)) (old new : List ℕ) → AreLeast interval last es → SetsAt es after row old new
    → (new ≡ []) ⊎ AreLeastTimes interval.high interval.low last new → AreLeast interval last after
least_set interval last row es after old new least sets is = all_from (λ e. (e.1 ≡ []) ⊎ AreLeastTimes interval.high interval.low last e.1) after (λ e there.
    ⊎_elim (λ before. All-contains (λ x. (x.1 ≡ []) ⊎ AreLeastTimes interval.high interval.low last x.1) es e least before)
    (λ same. subst (λ x. (x.1 ≡ []) ⊎ AreLeastTimes interval.high interval.low last x.1) (sym same) is) (sets.from e there))

pub kept_first : (long last : ℕ) (row : List Value) (es after : List (List Value × List ℕ)) (new : List ℕ) → AreWindowEntries long last es → length row ≡ long → after
    ≡ es ++ (row, new) ∷ [] → new ≡ last ∷ []
    → HasNoRepeats (map (λ e. e.0) after) → AreWindowEntries long last after
kept_first long last row es after new kept fits grown one unique = record {
  fit = subst (All (Fit long last)) (sym grown) (All-push (Fit long last) es (row, new) kept.fit
      (fits, subst (RiseTo last) (sym one) (omega arith, All-nil _, tt)));
  unique = unique;
}

pub least_first : (interval : Interval) (last : ℕ) (row : List Value) (es after : List (List Value × List ℕ)) (new : List ℕ) → AreLeast interval last es → after
    ≡ es ++ (row, new) ∷ [] → new ≡ last ∷ [] → AreLeast interval last after
least_first interval last row es after new least grown one =
    subst (AreLeast interval last) (sym grown) (All-push (λ e. (e.1 ≡ []) ⊎ AreLeastTimes interval.high interval.low last e.1) es (row, new) least
    (inr (subst (AreLeastTimes interval.high interval.low last) (sym one) (first_least interval.high interval.low last))))

-- rows that stay fit as before, and those that lose their times do
pub kept_fewer : (long last : ℕ) (es after : List (List Value × List ℕ)) → AreWindowEntries long last es
    → ((e : List Value × List ℕ) → Contains after e → Contains es e ⊎ ((e.1 ≡ []) × Contains (map (λ x. x.0) es) e.0)) → HasNoRepeats (map (λ e. e.0) after) → AreWindowEntries long last after
kept_fewer long last es after kept among unique = record {
  fit = all_from (Fit long last) after (λ e there. ⊎_elim (λ before. All-contains (Fit long last) es e kept.fit before) (λ gone.
      let from = Contains-from_map (λ (x : List Value × List ℕ). x.0) es e.0 gone.1 in
      (ap length (sym from.2) ∙ (All-contains (Fit long last) es from.0 kept.fit from.1).0, subst (RiseTo last) (sym gone.0) tt)) (among e there));
  unique = unique;
}

pub least_fewer : (interval : Interval) (last : ℕ) (es after : List (List Value × List ℕ)) → AreLeast interval last es
    → ((e : List Value × List ℕ) → Contains after e → Contains es e ⊎ ((e.1 ≡ []) × Contains (map (λ x. x.0) es) e.0)) → AreLeast interval last after
least_fewer interval last es after least among = all_from (λ e. (e.1 ≡ []) ⊎ AreLeastTimes interval.high interval.low last e.1) after
    (λ e there. ⊎_elim (λ before. All-contains (λ x. (x.1 ≡ []) ⊎ AreLeastTimes interval.high interval.low last x.1) es e least before) (λ gone. inl gone.0) (among e there))

pub kept_later : (long last now : ℕ) (es : List (List Value × List ℕ)) → last ≤ now → AreWindowEntries long last es → AreWindowEntries long now es
kept_later long last now es below kept = record {
  fit = all_from (Fit long now) es (λ e there. let fit = All-contains (Fit long last) es e kept.fit there in (fit.0, rise_later last now e.1 below fit.1));
  unique = kept.unique;
}

-- keys that the map tells apart do not repeat
pub unique_from : (es : List (List Value × List ℕ)) → IsDistinct rows.eq-value.it (keys_of es) → HasNoRepeats (map (λ e. e.0) es)
unique_from es distinct = HasNoRepeats-from_distinct rows.eq-value.it derived_row_eq-Decides (keys_of es) distinct

-- ---- a time is added to a row

module _ (interval : Interval) (now : ℕ) (row : List Value) (es after : List (List Value × List ℕ)) (old new : List ℕ) (sets : SetsAt es after row old new) where
  -- what holds of the times of each entry after it, by what held before or holds of the new ones
  from_set : (C : List ℕ → ℕ → Type 0) (D : Type 0) (other : List Value) (time : ℕ) → (times : List ℕ) × Contains after (other, times) × C times time
      → (C new time → C old time ⊎ D)
      → ((times : List ℕ) × Contains es (other, times) × C times time) ⊎ (D × (other ≡ row))
  from_set C D other time has adds = ⊎_elim (λ before. inl (has.0, before, has.2)) (λ same.
      let same_row : other ≡ row = ap (λ e. e.0) same in
      ⊎_elim (λ b. inl (subst (λ r. (times : List ℕ) × Contains es (r, times) × C times time) (sym same_row) (old, sets.was, b))) (λ d. inr (d, same_row))
      (adds (subst (λ t. C t time) (ap (λ e. e.1) same) has.2)))
      (sets.from (other, has.0) has.1)

  serves_set : (other : List Value) (time : ℕ) → HasTime es other time
      → ((t : ℕ) → Contains old t → IsServedTime interval.high interval.low now (Contains new) t ⊎ IsEndedTime interval.high now t)
      → IsServedTime interval.high interval.low now (HasTime after other) time ⊎ IsEndedTime interval.high now time
  serves_set other time has serves = ⊎_elim (λ stays. inl (itself interval.high interval.low now (HasTime after other) time (has.0, stays, has.2))) (λ same.
      let same_row : other ≡ row = ap (λ e. e.0) same in
      ⊎_elim
      (λ by. inl (served_by interval.high interval.low now (Contains new) (HasTime after other) time
      (λ t there. subst (λ r. HasTime after r t) (sym same_row) (new, sets.is, there)) by)) (λ ended. inr ended)
      (serves time (subst (λ t. Contains t time) (ap (λ e. e.1) same) has.2)))
      (sets.rest (other, has.0) has.1)

  pub row_at_most : AddsAtMost now old new → AddAtMost now (λ other. other ≡ row) es after
  row_at_most adds = record {
    from = λ other time has. from_set Contains (time ≡ now) other time has (adds.from time);
    behind = λ other time has. from_set (λ l t. Contains (drop 1 l) t) (time ≡ now) other time has (adds.behind time);
  }

  pub row_added : AddsTime interval now old new → AddsTimes interval now (λ other. other ≡ row) es after
  row_added adds = record {
    serves = λ other time has. serves_set other time has adds.serves;
    added = λ other same. served_by interval.high interval.low now (Contains new) (HasTime after other) now
        (λ t there. subst (λ r. HasTime after r t) (sym same) (new, sets.is, there)) adds.added;
  }

  -- or some are left out
  pub row_forgets : (high : ℕ) → interval.high ≡ Some high → ForgetsTimes high interval.low now old new → Forgets interval now es after
  row_forgets high is forgets = record {
    rows = sets.rows;
    from = λ other time has. ⊎_elim (λ before. before) (λ none. absurd none.0) (from_set Contains ⊥ other time has (λ there. inl (forgets.from time there)));
    behind = λ other time has. ⊎_elim (λ before. before) (λ none. absurd none.0) (from_set (λ l t. Contains (drop 1 l) t) ⊥ other time has (λ there. inl (forgets.behind time there)));
    serves = λ other time has. serves_set other time has (λ t there. subst (λ h. IsServedTime h interval.low now (Contains new) t ⊎ IsEndedTime h now t) (sym is) (forgets.serves t there));
  }

-- the times of a row go
pub row_let_go : (row : List Value) (es after : List (List Value × List ℕ)) (old : List ℕ) → SetsAt es after row old [] → map (λ e. e.0) after ≡ map (λ e. e.0) es
    → HasNoRepeats (map (λ e. e.0) after) → KeepsRows (λ other. other ≡ row → ⊥) es after
row_let_go row es after old sets same_keys unique = record {
  among = λ e there. ⊎_elim (λ before. inl before) (λ same. inr (
    ap (λ x. x.1) same,
    subst (Contains (map (λ x. x.0) es)) (sym (ap (λ x. x.0) same)) (Contains-map (λ (x : List Value × List ℕ). x.0) es (row, old) sets.was),
  )) (sets.from e there);
  exact = λ other time. (
    λ has. ⊎_elim
        (λ before. (
          (has.0, before, has.2),
          λ same. none_in_nil time (subst (λ l. Contains l time) (one_entry after unique row has.0 [] (subst (λ r. Contains after (r, has.0)) same has.1) sets.is) has.2),
        ))
        (λ same. absurd (none_in_nil time (subst (λ l. Contains l time) (ap (λ x. x.1) same) has.2))) (sets.from (other, has.0) has.1),
    λ both. ⊎_elim (λ stays. (both.0.0, stays, both.0.2)) (λ same. absurd (both.1 (ap (λ x. x.0) same))) (sets.rest (other, both.0.0) both.0.1),
  );
  unique = λ before. unique;
}

module _ (interval : Interval) (now : ℕ) (row : List Value) (es after : List (List Value × List ℕ)) (new : List ℕ) (grown : after ≡ es ++ (row, new) ∷ []) (one : new ≡ now ∷ []) where
  first_from : (other : List Value) (times : List ℕ) → Contains after (other, times) → Contains es (other, times) ⊎ ((times ≡ now ∷ []) × (other ≡ row))
  first_from other times there = ⊎_elim (λ before. inl before) (λ last.
      let same : (row, new) ≡ (other, times) = ⊎_elim (λ h. h) (λ b. absurd (none_in_nil (other, times) b)) (first_or_later (other, times) (row, new) [] last) in
      inr (ap (λ e. e.1) (sym same) ∙ one, ap (λ e. e.0) (sym same)))
      (Contains-append_cases es ((row, new) ∷ []) (other, times) (subst (λ l. Contains l (other, times)) grown there))

  pub first_at_most : AddAtMost now (λ other. other ≡ row) es after
  first_at_most = record {
    from = λ other time has. ⊎_elim (λ before. inl (has.0, before, has.2))
        (λ first. inr (⊎_elim (λ h. sym h) (λ b. absurd (none_in_nil time b)) (first_or_later time now [] (subst (λ l. Contains l time) first.0 has.2)), first.1)) (first_from other has.0 has.1);
    behind = λ other time has. ⊎_elim (λ before. inl (has.0, before, has.2)) (λ first. absurd (none_in_nil time (subst (λ l. Contains (drop 1 l) time) first.0 has.2))) (first_from other has.0 has.1);
  }

  pub row_first : AddsTimes interval now (λ other. other ≡ row) es after
  row_first = record {
    serves = λ other time has. inl (itself interval.high interval.low now (HasTime after other) time
        (has.0, subst (λ l. Contains l (other, has.0)) (sym grown) (Contains-append_left es ((row, new) ∷ []) (other, has.0) has.1), has.2));
    added = λ other same. itself interval.high interval.low now (HasTime after other) now
        (subst (λ r. HasTime after r now) (sym same) (new, subst (λ l. Contains l (row, new)) (sym grown) (Contains-push es (row, new)), subst (λ l. Contains l now) (sym one) (here now [])));
  }

pub missing : {X Y : Type 0} (r : Option X) (o : Option Y) → ((x : X) → r ≡ Some x → ⊥) → is_some r ≡ is_some o → o ≡ None
missing None None not_some same = refl
missing None (Some y) not_some same = absurd (false≢true same)
missing (Some x) o not_some same = absurd (not_some x refl)

-- what a new key leaves
pub grown_by : {S : Type 0} (m : HashMap (List Value) (List ℕ) S) (row key : List Value) (times : List ℕ) (after : List (List Value × List ℕ))
    → get_by (rows.eq-value.it row) m ≡ None → key ≡ row
    → after ≡ insert_entry rows.eq-value.it m.entries key times → after ≡ m.entries ++ (row, times) ∷ []
grown_by m row key times after none same is = is ∙ ap (λ k. insert_entry rows.eq-value.it m.entries k times) same ∙ insert_entry-new rows.eq-value.it m row times none

-- where the row is there, its times are put in its place
module _ {S : Type 0} (m : HashMap (List Value) (List ℕ) S) (row : List Value) (place : ℕ) (old one : List ℕ) (middle : List (List Value × List ℕ))
    (held : get_by (rows.eq-value.it row) m ≡ Some old) (index : place ≡ position_or_len (rows.eq-value.it row) (keys_of m.entries))
    (is : middle ≡ insert_entry rows.eq-value.it m.entries row one) where
  put_there : (Some place ≡ position (rows.eq-value.it row) (keys_of m.entries)) × (slice_get (values_of m.entries) place ≡ Some old)
      × (middle ≡ set_value_at m.entries place one)
  put_there = by (position (rows.eq-value.it row) (keys_of m.entries)) refl
    where
      by : (o : Option ℕ) → position (rows.eq-value.it row) (keys_of m.entries) ≡ o
          → (Some place ≡ position (rows.eq-value.it row) (keys_of m.entries)) × (slice_get (values_of m.entries) place ≡ Some old)
          × (middle ≡ set_value_at m.entries place one)
      by None p = absurd (false≢true (sym (ap is_some p) ∙ some_index (rows.eq-value.it row) m.entries ∙ ap is_some held))
      by (Some i) p =
          let found = Found-position (rows.eq-value.it row) m.entries i p in
          let at : place ≡ i = index ∙ found.or_len in (
            ap Some at ∙ sym p,
            subst (λ n. slice_get (values_of m.entries) n ≡ Some old) (sym at) (sym found.value ∙ held),
            is ∙ insert_entry-first rows.eq-value.it row one m.entries i found.first ∙ ap (λ n. set_value_at m.entries n one) (sym at),
          )

  -- and then others instead
  pub put_again : (new : List ℕ) → set_value_at middle place new ≡ set_value_at m.entries place new
  put_again new = ap (λ es. set_value_at es place new) put_there.2 ∙ twice m.entries place
    where
      twice : (es : List (List Value × List ℕ)) (n : ℕ) → set_value_at (set_value_at es n one) n new ≡ set_value_at es n new
      twice [] n = refl
      twice (e ∷ es) zero = refl
      twice (e ∷ es) (suc n) = ap (λ l. e ∷ l) (twice es n)

  pub put_value : slice_get (values_of m.entries) place ≡ Some old
  put_value = put_there.1

  pub put_sets : (new : List ℕ) → SetsAt m.entries (set_value_at m.entries place new) row old new
  put_sets new = sets_at row m.entries place old new put_there.0 put_there.1

-- a new key goes behind the others
pub place_behind : {S : Type 0} (m : HashMap (List Value) (List ℕ) S) (row : List Value) (place : ℕ) → get_by (rows.eq-value.it row) m ≡ None
    → place ≡ position_or_len (rows.eq-value.it row) (keys_of m.entries) → place ≡ length m.entries
place_behind m row place none index =
    index ∙ or_len-absent (rows.eq-value.it row) m.entries (absent_from_lookup (rows.eq-value.it row) m.entries none)

-- ---- rows of a list, one after another

pub at_most_then : (now : ℕ) (R : List Value → Type 0) (row : List Value) (es middle after : List (List Value × List ℕ)) → R row → AddAtMost now R es middle
    → AddAtMost now (λ other. other ≡ row) middle after → AddAtMost now R es after
at_most_then now R row es middle after holds first second = record {
  from = λ other time has. ⊎_elim (first.from other time) (λ added. inr (added.0, subst R (sym added.1) holds)) (second.from other time has);
  behind = λ other time has. ⊎_elim (first.behind other time) (λ added. inr (added.0, subst R (sym added.1) holds)) (second.behind other time has);
}

pub adds_then : (interval : Interval) (now : ℕ) (done : List (List Value)) (row : List Value) (es middle after : List (List Value × List ℕ)) → AddsTimes interval now (Contains done) es middle
    → AddsTimes interval now (λ other. other ≡ row) middle after → AddsTimes interval now (Contains (done ++ row ∷ [])) es after
adds_then interval now done row es middle after first second = record {
  serves = λ other time has. ⊎_elim (served_on interval.high interval.low now (HasTime middle other) (HasTime after other) time (second.serves other)) (λ ended. inr ended)
      (first.serves other time has);
  added = λ other there. ⊎_elim
      (λ before. ⊎_elim (λ by. by) (λ ended. absurd (not_ended_now interval.high now ended))
      (served_on interval.high interval.low now (HasTime middle other) (HasTime after other) now (second.serves other) (first.added other before)))
      (λ last. second.added other (⊎_elim (λ same. sym same) (λ none. absurd (none_in_nil other none)) (first_or_later other row [] last)))
      (Contains-append_cases done (row ∷ []) other there);
}

pub forgets_then : (interval : Interval) (now : ℕ) (es middle after : List (List Value × List ℕ)) → Forgets interval now es middle → Forgets interval now middle after
    → Forgets interval now es after
forgets_then interval now es middle after first second = record {
  rows = second.rows ∙ first.rows;
  from = λ row time has. first.from row time (second.from row time has);
  behind = λ row time has. first.behind row time (second.behind row time has);
  serves = λ row time has. ⊎_elim (served_on interval.high interval.low now (HasTime middle row) (HasTime after row) time (second.serves row)) (λ ended. inr ended) (first.serves row time has);
}

pub keeps_all : (es : List (List Value × List ℕ)) → KeepsRows (λ row. Contains [] row → ⊥) es es
keeps_all es = record { among = λ e there. inl there; exact = λ row time. (λ has. (has, λ there. none_in_nil row there), λ both. both.0); unique = λ unique. unique }

-- no row is new
keys_among : (es middle : List (List Value × List ℕ)) → ((e : List Value × List ℕ) → Contains middle e → Contains es e ⊎ ((e.1 ≡ []) × Contains (map (λ x. x.0) es) e.0)) → (row : List Value)
    → Contains (map (λ x. x.0) middle) row → Contains (map (λ x. x.0) es) row
keys_among es middle among row there =
    let from = Contains-from_map (λ (x : List Value × List ℕ). x.0) middle row there in
    subst (Contains (map (λ x. x.0) es)) from.2
    (⊎_elim (λ before. Contains-map (λ (x : List Value × List ℕ). x.0) es from.0 before) (λ gone. gone.1) (among from.0 from.1))

pub keeps_then : (done : List (List Value)) (row : List Value) (es middle after : List (List Value × List ℕ)) → KeepsRows (λ other. Contains done other → ⊥) es middle
    → KeepsRows (λ other. other ≡ row → ⊥) middle after → KeepsRows (λ other. Contains (done ++ row ∷ []) other → ⊥) es after
keeps_then done row es middle after first second = record {
  among = λ e there. ⊎_elim (first.among e) (λ gone. inr (gone.0, keys_among es middle first.among e.0 gone.1)) (second.among e there);
  exact = λ other time. (
    λ has. let mid = (second.exact other time).0 has in let was = (first.exact other time).0 mid.0 in (
      was.0,
      λ there. ⊎_elim was.1 (λ last. mid.1 (⊎_elim (λ same. sym same) (λ none. absurd (none_in_nil other none)) (first_or_later other row [] last)))
          (Contains-append_cases done (row ∷ []) other there),
    ),
    λ both. (second.exact other time).1 (
      (first.exact other time).1 (both.0, λ there. both.1 (Contains-append_left done (row ∷ []) other there)),
      λ same. both.1 (subst (Contains (done ++ row ∷ [])) (sym same) (Contains-push done row)),
    ),
  );
  unique = λ unique. second.unique (first.unique unique);
}

-- and then those without times are taken out
pub keeps_both : (S : List Value → Type 0) (es middle after : List (List Value × List ℕ)) → KeepsRows S es middle → KeepsRows (λ row. Unit {0}) middle after → KeepsRows S es after
keeps_both S es middle after first second = record {
  among = λ e there. ⊎_elim (first.among e) (λ gone. inr (gone.0, keys_among es middle first.among e.0 gone.1)) (second.among e there);
  exact = λ row time. (λ has. (first.exact row time).0 ((second.exact row time).0 has).0, λ both. (second.exact row time).1 ((first.exact row time).1 both, tt));
  unique = λ unique. second.unique (first.unique unique);
}

pub keeps_every : (es : List (List Value × List ℕ)) → KeepsRows (λ row. Unit {0}) es es
keeps_every es = record { among = λ e there. inl there; exact = λ row time. (λ has. (has, tt), λ both. both.0); unique = λ unique. unique }

-- in a list, up to a place
pub next_of : {X : Type 0} (P : List X → Type 0) (rows : List X) (i : ℕ) (row : X) → i < length rows → row ≡ get_or rows i row → P (take i rows ++ row ∷ []) → P (take (i + 1) rows)
next_of P rows i row below is holds = subst P (ap (λ r. take i rows ++ r ∷ []) is ∙ sym (take_more rows i row below)) holds

-- ---- a row that is not there

absent : (test : List Value → Bool) (es : List (List Value × List ℕ)) → lookup test es ≡ None → (e : List Value × List ℕ) → Contains es e → test e.0 ≡ true → ⊥
absent test [] none e there passes = none_in_nil e there
absent test (f ∷ es) none e there passes = by (test f.0) refl none (λ rest behind. absent test es rest e behind passes)
  where
    by : (b : Bool) → test f.0 ≡ b → cond b (Some f.1) (lookup test es) ≡ None → (lookup test es ≡ None → Contains es e → ⊥) → ⊥
    by true is found others = none-some f.1 (sym found)
    by false is rest others = ⊎_elim (λ same. false≢true (sym is ∙ ap (λ x. test x.0) same ∙ passes)) (others rest) (first_or_later e f es there)

pub forgets_missing : (row : List Value) (es : List (List Value × List ℕ)) → lookup (rows.eq-value.it row) es ≡ None → KeepsRows (λ other. other ≡ row → ⊥) es es
forgets_missing row es none = record {
  among = λ e there. inl there;
  exact = λ other time. (λ has. (has, λ same. absent (rows.eq-value.it row) es none (other, has.0) has.1 ((derived_row_eq-Decides row other).1 (sym same))), λ both. both.0);
  unique = λ unique. unique;
}

-- ---- what a table keeps

module _ {F : Type 0} (T : F → List Value → List ℕ → Bool → List ℕ → F → Type 0) (S : List Value → Type 0) (X : Type 0) (f : F)
    (says : (k : List Value) (v : List ℕ) (b : Bool) (w : List ℕ) (g : F) → T f k v b w g → IsTrue b × IsLetGoUnless (S k) v w × (g ≡ f) × X) where
  -- each entry that is left was there, or its times went
  left_from : (es kept : List (List Value × List ℕ)) → RetainsPairs T f es kept → (e : List Value × List ℕ) → Contains kept e
      → (Contains es e × S e.0) ⊎ ((e.1 ≡ []) × Contains (map (λ x. x.0) es) e.0)
  left_from [] kept h e there = absurd (none_in_nil e (subst (λ l. Contains l e) h there))
  left_from (x ∷ es) kept h e there =
      let s = says x.0 x.1 h.0 h.1 h.2 h.4 in
      let left : kept ≡ (x.0, h.1) ∷ h.3 = h.6 ∙ ap (λ b. cond b ((x.0, h.1) ∷ h.3) h.3) s.0 in
      ⊎_elim
      (λ same. ⊎_elim
      (λ stays. inl ((0, omega arith, (λ i. (x.0, sym stays.1 i)) ∙ same), subst S (ap (λ y. y.0) same) stays.0))
      (λ gone. inr (sym (ap (λ y. y.1) same) ∙ gone.1, (0, omega arith, ap (λ y. y.0) same))) s.1)
      (λ behind. ⊎_elim (λ both. inl (later e x es both.0, both.1)) (λ gone. inr (gone.0, later e.0 x.0 (map (λ y. y.0) es) gone.1))
      (left_from es h.3 (subst (λ g. RetainsPairs T g es h.3) s.2 h.5) e behind))
      (first_or_later e (x.0, h.1) h.3 (subst (λ l. Contains l e) left there))

  left_all : (es kept : List (List Value × List ℕ)) → RetainsPairs T f es kept → (e : List Value × List ℕ) → Contains es e → S e.0 → Contains kept e
  left_all [] kept h e there survives = absurd (none_in_nil e there)
  left_all (x ∷ es) kept h e there survives =
      let s = says x.0 x.1 h.0 h.1 h.2 h.4 in
      let left : kept ≡ (x.0, h.1) ∷ h.3 = h.6 ∙ ap (λ b. cond b ((x.0, h.1) ∷ h.3) h.3) s.0 in
      subst (λ l. Contains l e) (sym left) (⊎_elim
      (λ same. ⊎_elim (λ stays. (0, omega arith, (λ i. (x.0, stays.1 i)) ∙ same)) (λ gone. absurd (gone.0 (subst S (sym (ap (λ y. y.0) same)) survives))) s.1)
      (λ behind. later e (x.0, h.1) h.3 (left_all es h.3 (subst (λ g. RetainsPairs T g es h.3) s.2 h.5) e behind survives)) (first_or_later e x es there))

  pub rows_said : (es kept : List (List Value × List ℕ)) → RetainsPairs T f es kept → map (λ e. e.0) kept ≡ map (λ e. e.0) es
  rows_said [] kept h = ap (map (λ e. e.0)) h
  rows_said (x ∷ es) kept h =
      let s = says x.0 x.1 h.0 h.1 h.2 h.4 in
      ap (map (λ e. e.0)) (h.6 ∙ ap (λ b. cond b ((x.0, h.1) ∷ h.3) h.3) s.0) ∙ ap (λ l. x.0 ∷ l) (rows_said es h.3 (subst (λ g. RetainsPairs T g es h.3) s.2 h.5))

  -- and what is known once the first is asked for
  pub known_said : (es kept : List (List Value × List ℕ)) → RetainsPairs T f es kept → IsAnyRow es → X
  known_said [] kept h any = absurd (none_in_nil any.0 any.1)
  known_said (e ∷ es) kept h any = (says e.0 e.1 h.0 h.1 h.2 h.4).3

  pub keeps_said : (es kept : List (List Value × List ℕ)) → RetainsPairs T f es kept → HasNoRepeats (map (λ e. e.0) kept) → KeepsRows S es kept
  keeps_said es kept h unique = record {
    unique = λ before. unique;
    among = λ e there. ⊎_elim (λ both. inl both.0) (λ gone. inr gone) (left_from es kept h e there);
    exact = λ row time. (
      λ has. ⊎_elim (λ both. ((has.0, both.0, has.2), both.1)) (λ gone. absurd (none_in_nil time (subst (λ l. Contains l time) gone.0 has.2)))
          (left_from es kept h (row, has.0) has.1),
      λ both. (both.0.0, left_all es kept h (row, both.0.0) both.0.1 both.1, both.0.2),
    );
  }

-- ---- what has times is kept

module _ {F : Type 0} (T : F → List Value → List ℕ → Bool → List ℕ → F → Type 0) (f : F)
    (says : (k : List Value) (v : List ℕ) (b : Bool) (w : List ℕ) (g : F) → T f k v b w g → (b ≡ is_some_time v) × (w ≡ v) × (g ≡ f)) where
  pub compacted : (es kept : List (List Value × List ℕ)) → RetainsPairs T f es kept → kept ≡ kept_entries es
  compacted [] kept h = h
  compacted (x ∷ es) kept h =
      let s = says x.0 x.1 h.0 h.1 h.2 h.4 in
      let rest = compacted es h.3 (subst (λ g. RetainsPairs T g es h.3) s.2 h.5) in
      h.6 ∙ (λ i. cond (s.0 i) ((x.0, s.1 i) ∷ rest i) (rest i))

pub some_at : {X : Type 0} (r : Option X) (x : X) (P : X → Type 0) → r ≡ Some x → IfSome r P → P x
some_at None x P is holds = absurd (none-some x is)
some_at (Some y) x P is holds = subst P (same_Some y x is) holds

pub item_there : (rows : List (List Value)) (i : ℕ) (row : List Value) → i < length rows → row ≡ get_or rows i row → Contains rows row
item_there rows i row below is = subst (Contains rows) (sym is) (Contains-get_or rows i row below)

-- the rows that are out, and those that the rest of the entries give
module _ (interval : Interval) (now : ℕ) (S : List Value → Type 0) (All : List Value → Type 0) (e : List Value × List ℕ) (left rest : List (List Value × List ℕ))
    (is : left ≡ e ∷ rest) (out : List (List Value))
    (so_far : (row : List Value) → (Contains out row ⊎ GivesRow interval now S left row) ↔ All row) where
  given_later : (row : List Value) → GivesRow interval now S rest row → GivesRow interval now S left row
  given_later row g = ((g.0.0, subst (λ l. Contains l (row, g.0.0)) (sym is) (later (row, g.0.0) e rest g.0.1), g.0.2), g.1)

  first_or_rest : (row : List Value) (times : List ℕ) → Contains left (row, times) → (e ≡ (row, times)) ⊎ Contains rest (row, times)
  first_or_rest row times there = first_or_later (row, times) e rest (subst (λ l. Contains l (row, times)) is there)

  pub gives_more : (after : List (List Value)) (key : List Value) → key ≡ e.0 → IsSomeIn interval now e.1 → S e.0 → after ≡ out ++ key ∷ []
      → (row : List Value) → (Contains after row ⊎ GivesRow interval now S rest row) ↔ All row
  gives_more after key same some survives grown row = (
    λ either. ⊎_elim
        (λ there. ⊎_elim (λ before. (so_far row).0 (inl before))
        (λ last. let is_row : key ≡ row = ⊎_elim (λ h. h) (λ none. absurd (none_in_nil row none)) (first_or_later row key [] last) in
        (so_far row).0 (inr (subst (GivesRow interval now S left) (sym same ∙ is_row) ((e.1, subst (λ l. Contains l e) (sym is) (here e rest), some), survives))))
        (Contains-append_cases out (key ∷ []) row (subst (λ l. Contains l row) grown there)))
        (λ g. (so_far row).0 (inr (given_later row g))) either,
    λ all. ⊎_elim (λ before. inl (subst (λ l. Contains l row) (sym grown) (Contains-append_left out (key ∷ []) row before)))
        (λ g. ⊎_elim (λ first. inl (subst (λ l. Contains l row) (sym grown) (subst (Contains (out ++ key ∷ [])) (same ∙ ap (λ x. x.0) first) (Contains-push out key))))
        (λ behind. inr ((g.0.0, behind, g.0.2), g.1)) (first_or_rest row g.0.0 g.0.1))
        ((so_far row).1 all),
  )

  pub gives_no_more : (IsSomeIn interval now e.1 × S e.0 → ⊥) → (row : List Value) → (Contains out row ⊎ GivesRow interval now S rest row) ↔ All row
  gives_no_more not_it row = (
    λ either. (so_far row).0 (⊎_elim (λ before. inl before) (λ g. inr (given_later row g)) either),
    λ all. ⊎_elim (λ before. inl before)
        (λ g. ⊎_elim (λ first. absurd (not_it (subst (λ x. IsSomeIn interval now x.1 × S x.0) (sym first) (g.0.2, g.1)))) (λ behind. inr ((g.0.0, behind, g.0.2), g.1))
        (first_or_rest row g.0.0 g.0.1))
        ((so_far row).1 all),
  )

pub gives_all : (interval : Interval) (now : ℕ) (S : List Value → Type 0) (All : List Value → Type 0) (left : List (List Value × List ℕ)) (out : List (List Value)) → left ≡ []
    → ((row : List Value) → (Contains out row ⊎ GivesRow interval now S left row) ↔ All row) → (row : List Value) → Contains out row ↔ All row
gives_all interval now S All left out is so_far row = (
  λ there. (so_far row).0 (inl there),
  λ all. ⊎_elim (λ there. there) (λ g. absurd (none_in_nil (row, g.0.0) (subst (λ l. Contains l (row, g.0.0)) is g.0.1))) ((so_far row).1 all),
)

-- what is known once some row is given
pub given_more : (interval : Interval) (now : ℕ) (X Given : Type 0) (e : List Value × List ℕ) (left rest : List (List Value × List ℕ)) → left ≡ e ∷ rest → (IsSomeIn interval now e.1 → X)
    → (Given → X ⊎ GivesSomeRow interval now left) → Given → X ⊎ GivesSomeRow interval now rest
given_more interval now X Given e left rest is first before given = ⊎_elim (λ known. inl known)
    (λ g. ⊎_elim (λ same. inl (first (subst (λ x. IsSomeIn interval now x.1) (sym same) g.1.0.2))) (λ behind. inr (g.0, ((g.1.0.0, behind, g.1.0.2), tt)))
    (first_or_later (g.0, g.1.0.0) e rest (subst (λ l. Contains l (g.0, g.1.0.0)) is g.1.0.1))) (before given)

-- the first of the rest is put last
pub moves_on : (All : List Value → Type 0) (x : List Value) (left rest out after : List (List Value)) (key : List Value) → left ≡ x ∷ rest → key ≡ x → after ≡ out ++ key ∷ []
    → ((row : List Value) → (Contains out row ⊎ Contains left row) ↔ All row) → (row : List Value) → (Contains after row ⊎ Contains rest row) ↔ All row
moves_on All x left rest out after key is same grown so_far row = (
  λ either. (so_far row).0 (⊎_elim
      (λ there. ⊎_elim (λ before. inl before) (λ last. inr (subst (λ l. Contains l row) (sym is)
      (⊎_elim (λ h. (0, omega arith, sym same ∙ h)) (λ none. absurd (none_in_nil row none)) (first_or_later row key [] last))))
      (Contains-append_cases out (key ∷ []) row (subst (λ l. Contains l row) grown there)))
      (λ behind. inr (subst (λ l. Contains l row) (sym is) (later row x rest behind))) either),
  λ all. ⊎_elim (λ before. inl (subst (λ l. Contains l row) (sym grown) (Contains-append_left out (key ∷ []) row before)))
      (λ there. ⊎_elim (λ first. inl (subst (λ l. Contains l row) (sym grown) (subst (Contains (out ++ key ∷ [])) (same ∙ first) (Contains-push out key)))) (λ behind. inr behind)
      (first_or_later row x rest (subst (λ l. Contains l row) is there))) ((so_far row).1 all),
)

-- rows that are put last
pub grows : (old done : List (List Value)) (row : List Value) (out after : List (List Value)) (key : List Value)
    → ((r : List Value) → Contains out r ↔ (Contains old r ⊎ Contains done r)) → key ≡ row → after ≡ out ++ key ∷ []
    → (r : List Value) → Contains after r ↔ (Contains old r ⊎ Contains (done ++ row ∷ []) r)
grows old done row out after key so_far is grown r = (
  λ there. ⊎_elim
      (λ before. ⊎_elim (λ o. inl o) (λ d. inr (Contains-append_left done (row ∷ []) r d)) ((so_far r).0 before))
      (λ last. inr (Contains-append_right done (row ∷ []) r (subst (λ k. Contains (k ∷ []) r) is last)))
      (Contains-append_cases out (key ∷ []) r (subst (λ l. Contains l r) grown there)),
  λ either. subst (λ l. Contains l r) (sym grown) (⊎_elim
      (λ o. Contains-append_left out (key ∷ []) r ((so_far r).1 (inl o)))
      (λ d. ⊎_elim (λ before. Contains-append_left out (key ∷ []) r ((so_far r).1 (inr before)))
      (λ last. Contains-append_right out (key ∷ []) r (subst (λ k. Contains (k ∷ []) r) (sym is) last)) (Contains-append_cases done (row ∷ []) r d))
      either),
)

-- the times at a place
pub times_at : (es : List (List Value × List ℕ)) (place : ℕ) (d : List Value × List ℕ) (times : List ℕ) → place < length es → slice_get (values_of es) place
    ≡ Some times → (get_or es place d).1 ≡ times
times_at [] place d times below is = absurd (omega (arith, below))
times_at (e ∷ es) zero d times below is = same_Some e.1 times is
times_at (e ∷ es) (suc place) d times below is = times_at es place d times (omega (arith, below)) is
