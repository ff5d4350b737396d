-- Windows that stand for the committed steps.
use Rattle.windows.proofs.Vocabulary.{◌≡◌, ◌∙◌, ◌↔◌, ◌⊎◌, inl, inr, ⊎_elim, ℕ, ◌-◌, ◌≤◌, List, [], length, map, get_or, All, Contains, Option, None, Some, refl, sym, ap, subst, arith, All-contains}
use Rattle.windows.proofs.Vocabulary.{All-nil, All-push, All-weaker, Contains-get_or, HasNoRepeats, IsIn, IsUpTo, Valuation, Interval, VarId, Value, iff_then as then, all_from, later, none_in_nil}
use Rattle.windows.proofs.Vocabulary.{Contains-from_map, Contains-map, table_row-length, same_row, Relation, IsTable, AgreesWithRow, HasValuation, StepsAnswer, AreUpTo, HasColumns, committed_step}
use Rattle.windows.proofs.Vocabulary.{to_the_end, with_committed_step, CommittedStep, HasPair, IsKeptTime, ChosenBy, RememberedIsKept, CommittedStands, AnsweredIsWalked, AddAtMost, AddsTimes}
use Rattle.windows.proofs.Vocabulary.{AreWindowEntries, AreLeast, Forgets, GivesRow, GivesSomeRow, HasTime, IsAnyRow, IsSomeIn, KeepsRows, RowSurvives, IsEndedTime, AreLeastTimes, IsServedTime}
use Rattle.windows.proofs.Vocabulary.{RiseTo, Queue, Window, AnswersBy, AreTables, FitsColumns, HasRowAfterStep, StandsWithStep, HasLeast, HasRow, IsCommittedBy, IsWindow, IsWalkedLater, IsWalkedNow}
use Rattle.windows.proofs.Vocabulary.{WindowKeeps, KeepsLeast, WindowRemembers, WindowRemembersIn, StandsForSteps, SurvivesFor, TellsFor, AnswersNow, kept_entries, Surviving, Only, AllBut, ◌∷◌, Bool}
use Rattle.windows.proofs.Vocabulary.{true, false, false≢true, cond, here, Contains-filter, Contains-from_filter, IfSome}
use Rattle.windows.specs.declared.surviving_rows.Surviving.TheVariants.{All as Whole}
use Rattle.windows.proofs.EntryLemmas.{fit_of, least_of, served_by, served_on}
use Rattle.windows.proofs.HeldLemmas.{held_more, none_held, nothing_at_first, one_step_more}
use Rattle.windows.proofs.LeastLemmas.{least_is_chosen}
use Rattle.windows.proofs.KeptTimeLemmas.{chosen_of_all, ended_later, kept_if_chosen, served_later}
use Rattle.windows.proofs.TimeLemmas.{itself, least_live}
use Rattle.windows.specs.machine.RowIndexes.{IsIndexOf, PartIndex}
use Rattle.windows.specs.machine.WindowEntries.{rows_of}
use Rattle.windows.specs.machine.RowTimes.{is_some_time}
use Rattle.windows.specs.machine.Windows.{has_times}

-- a distance that is in the interval, at an earlier time
nearer : (high : Option ℕ) (earlier time j : ℕ) → earlier ≤ time → IsUpTo high (time - j) → IsUpTo high (earlier - j)
nearer None earlier time j within up_to = tt
nearer (Some high) earlier time j within up_to = omega (arith, up_to)

pub remembered_is_kept : RememberedIsKept
remembered_is_kept window time v later h = (h.0, (omega arith, nearer window.interval.high window.last time h.0 later h.1.1), h.2)

-- what goes on by one step is the walk over one step more
walked_more : (interval : Interval) (time later : ℕ) (steps : List CommittedStep) (surviving right : Relation) (v : Valuation) (Before : Type 0) → Before ↔ StepsAnswer interval later steps v
    → ((IsIn interval (later - time) × HasValuation right v) ⊎ (Before × HasValuation surviving v)) ↔ StepsAnswer interval later (with_committed_step steps time surviving right) v
walked_more interval time later steps surviving right v Before before =
    let more = one_step_more interval later steps (committed_step time surviving right) v in (
      λ either. more.1 (⊎_elim (λ now. inl now) (λ earlier. inr (before.0 earlier.0, earlier.1)) either),
      λ h. ⊎_elim (λ now. inl now) (λ earlier. inr (before.1 earlier.0, earlier.1)) (more.0 h),
    )

-- a row that is kept is not past the end
kept_now : (window : Window) (steps : List CommittedStep) → StandsForSteps window steps → (v : Valuation) (time : ℕ) → HasRow window v time → WindowKeeps window window.last v
kept_now window steps stands v time has = (time, (omega arith, within window.interval.high ((stands.kept v time).0 has).1), has)
  where
    within : (high : Option ℕ) → ChosenBy high window.interval.low window.last (HasPair steps v) time → IsUpTo high (window.last - time)
    within None chosen = tt
    within (Some high) chosen = chosen.0

-- what it remembers for a time from the last one on it keeps at the last one
kept_earlier : (window : Window) (time : ℕ) (v : Valuation) → window.last ≤ time → WindowKeeps window time v → WindowKeeps window window.last v
kept_earlier window time v below h = (h.0, (omega arith, nearer window.interval.high window.last time h.0 below h.1.1), h.2)

-- a table that tells the same of what is kept
by_table : (Now Before S F : Type 0) → (Before → F ↔ S) → (Now ⊎ (Before × S)) ↔ (Now ⊎ (Before × F))
by_table Now Before S F tells = (
  λ either. ⊎_elim (λ now. inl now) (λ both. inr (both.0, (tells both.0).1 both.1)) either,
  λ either. ⊎_elim (λ now. inl now) (λ both. inr (both.0, (tells both.0).0 both.1)) either,
)

module _ (before : Window) (time : ℕ) (S : Valuation → Type 0) (surviving right : Relation) (after : Window) (later : before.last ≤ time) (tells : TellsFor before S surviving)
    (committed : IsCommittedBy before time S right after) (steps : List CommittedStep) (stands : StandsForSteps before steps) where
  held_now : (v : Valuation) (j : ℕ) → HasPair (with_committed_step steps time surviving right) v j ↔ (((time ≡ j) × HasValuation right v) ⊎ (HasPair steps v j × HasValuation surviving v))
  held_now v j = held_more (λ earlier. earlier ≡ j) steps (committed_step time surviving right) v

  tells_row : (v : Valuation) (j : ℕ) → HasRow before v j → HasValuation surviving v ↔ S v
  tells_row v j has = tells v (kept_now before steps stands v j has)

  sound_now : (v : Valuation) (j : ℕ) → HasRow after v j → HasPair (with_committed_step steps time surviving right) v j
  sound_now v j has = (held_now v j).1 (⊎_elim (λ earlier. inr (((stands.kept v j).0 earlier.0).0, (tells_row v j earlier.0).1 earlier.1)) (λ now. inl (sym now.0, now.1)) (committed.from v j has))

  served_now : (v : Valuation) (j : ℕ) → HasPair (with_committed_step steps time surviving right) v j
      → IsServedTime before.interval.high before.interval.low time (HasRow after v) j ⊎ IsEndedTime before.interval.high time j
  served_now v j held = ⊎_elim (λ now. committed.serves v j (inr (sym now.0, now.1)))
      (λ earlier. ⊎_elim
      (λ by. served_on before.interval.high before.interval.low time (HasRow before v) (HasRow after v) j (λ other has. committed.serves v other (inl (has, (tells_row v other has).0 earlier.1)))
      (served_later before.interval.high before.interval.low before.last time (HasRow before v) j later by))
      (λ ended. inr (ended_later before.interval.high before.last time j later ended)) (stands.served v j earlier.0)) ((held_now v j).0 held)

  chosen_now : (v : Valuation) (j : ℕ) → HasRow after v j → ChosenBy before.interval.high before.interval.low time (HasRow after v) j
  chosen_now v j has = subst (λ i. ChosenBy i.high i.low time (HasRow after v) j) committed.interval_is
      (subst (λ t. ChosenBy after.interval.high after.interval.low t (HasRow after v) j) committed.last_is (least_is_chosen after committed.least v j has))

  kept_with : (v : Valuation) (j : ℕ) → HasRow after v j ↔ IsKeptTime before.interval time (with_committed_step steps time surviving right) v j
  kept_with v j = (
    λ has. (
      sound_now v j has,
      chosen_of_all before.interval.high before.interval.low time (HasRow after v) (HasPair (with_committed_step steps time surviving right) v) (served_now v) j
          (chosen_now v j has),
    ),
    λ kept. kept_if_chosen before.interval.high before.interval.low time (HasRow after v) (HasPair (with_committed_step steps time surviving right) v) (sound_now v) j (served_now v j kept.0) kept.1,
  )

  pub stands_with : HasColumns before.columns (committed_step time surviving right) → StandsForSteps after (with_committed_step steps time surviving right)
  stands_with columns = record {
    fits = subst (λ l. All (HasColumns l) (with_committed_step steps time surviving right)) (sym committed.columns_are)
        (All-push (HasColumns before.columns) steps (committed_step time surviving right) stands.fits columns);
    up_to = subst (λ t. AreUpTo t (with_committed_step steps time surviving right)) (sym committed.last_is)
        (All-push (λ s. s.time ≤ time) steps (committed_step time surviving right) (All-weaker (λ s. s.time ≤ before.last) (λ s. s.time ≤ time)
        (λ s below. omega (arith, below, later)) steps stands.up_to) (omega arith));
    remembers = λ from past v.
        let here : time ≤ from = subst (λ t. t ≤ from) committed.last_is past in
        let below : before.last ≤ from = omega (arith, here, later) in
        subst (λ i. WindowRemembers after from v ↔ StepsAnswer i from (with_committed_step steps time surviving right) v) (sym committed.interval_is)
        (then (committed.remembers from here v)
        (then (by_table (IsIn before.interval (from - time) × HasValuation right v) (WindowRemembers before from v) (S v) (HasValuation surviving v)
        (λ h. tells v (remembered_is_kept before from v below h)))
        (walked_more before.interval time from steps surviving right v (WindowRemembers before from v) (stands.remembers from below v))));
    keeps = λ from past v.
        let here : time ≤ from = subst (λ t. t ≤ from) committed.last_is past in
        let below : before.last ≤ from = omega (arith, here, later) in
        subst (λ i. WindowKeeps after from v ↔ StepsAnswer (to_the_end i) from (with_committed_step steps time surviving right) v) (sym committed.interval_is)
        (then (committed.keeps from here v)
        (then (by_table (IsIn (to_the_end before.interval) (from - time) × HasValuation right v) (WindowKeeps before from v) (S v) (HasValuation surviving v)
        (λ h. tells v (kept_earlier before from v below h)))
        (walked_more (to_the_end before.interval) time from steps surviving right v (WindowKeeps before from v) (stands.keeps from below v))));
    kept = λ v j. subst (λ t. HasRow after v j ↔ IsKeptTime after.interval t (with_committed_step steps time surviving right) v j) (sym committed.last_is)
        (subst (λ i. HasRow after v j ↔ IsKeptTime i time (with_committed_step steps time surviving right) v j) (sym committed.interval_is) (kept_with v j));
    served = λ v j held. subst (λ t. IsServedTime after.interval.high after.interval.low t (HasRow after v) j ⊎ IsEndedTime after.interval.high t j) (sym committed.last_is)
        (subst (λ i. IsServedTime i.high i.low time (HasRow after v) j ⊎ IsEndedTime i.high time j) (sym committed.interval_is) (served_now v j held));
  }

pub committed_stands : CommittedStands
committed_stands before time s surviving right after later columns tells committed steps stands = stands_with before time (SurvivesFor s) surviving right after later tells committed steps
    stands columns

-- a table tells of itself
pub committed_by_table : (before : Window) (time : ℕ) (surviving right : Relation) (after : Window) → before.last ≤ time → HasColumns before.columns (committed_step time surviving right)
    → IsCommittedBy before time (HasValuation surviving) right after → StandsWithStep before time surviving right after
committed_by_table before time surviving right after later columns committed steps stands =
    stands_with before time (HasValuation surviving) surviving right after later (λ v keeps. (λ h. h, λ h. h)) committed steps stands columns

-- the rows of the present step are those of the walk
pub nothing_kept : (window : Window) → window.kept ≡ [] → window.last ≡ 0 → StandsForSteps window []
nothing_kept window none first = record {
  fits = All-nil _;
  up_to = All-nil _;
  remembers = λ time later v. (λ h. absurd (no_row v h.0 h.2), λ h. absurd (nothing_at_first window.interval time v h));
  keeps = λ time later v. (λ h. absurd (no_row v h.0 h.2), λ h. absurd (nothing_at_first (to_the_end window.interval) time v h));
  kept = λ v time. (λ has. absurd (no_row v time has), λ kept. absurd (none_held (λ earlier. earlier ≡ time) v kept.0));
  served = λ v time held. absurd (none_held (λ earlier. earlier ≡ time) v held);
}
  where
    no_row : (v : Valuation) (t : ℕ) → HasRow window v t → ⊥
    no_row v t h = none_in_nil (h.0, h.1) (subst (λ l. Contains l (h.0, h.1)) none h.2)

pub walked_now : (window : Window) (time : ℕ) (surviving right t : Relation) → window.last ≤ time → ((v : Valuation) → HasValuation t v ↔ AnswersNow window time surviving right v)
    → IsWalkedNow window time surviving right t
walked_now window time surviving right t later has steps stands v =
    let same : 0 ≡ time - time = omega arith in
    then (has v)
    (subst (λ d. ((IsIn window.interval d × HasValuation right v) ⊎ (WindowRemembers window time v × HasValuation surviving v)) ↔ StepsAnswer window.interval time
    (with_committed_step steps time surviving right) v) (sym same)
    (walked_more window.interval time time steps surviving right v (WindowRemembers window time v) (stands.remembers time later v)))

pub answered_is_walked : AnsweredIsWalked
answered_is_walked window time s surviving right t later tells has =
    walked_now window time surviving right t later (λ v. then (has v) (by_table (IsIn window.interval 0 × HasValuation right v) (WindowRemembers window time v) (SurvivesFor s v)
    (HasValuation surviving v) (λ h. tells v (remembered_is_kept window time v later h))))

pub walked_later : (window : Window) (t : Relation) → ((v : Valuation) → HasValuation t v ↔ WindowKeeps window window.last v) → IsWalkedLater window t
walked_later window t has steps stands v = then (has v) (stands.keeps window.last (omega arith) v)

-- ---- rows with their times

some_time : (times : List ℕ) (time : ℕ) → Contains times time → is_some_time times ≡ true
some_time [] time there = absurd (none_in_nil time there)
some_time (t ∷ times) time there = refl

pub first_time : (times : List ℕ) → is_some_time times ≡ true → (time : ℕ) × Contains times time
first_time [] some = absurd (false≢true some)
first_time (t ∷ times) some = (t, here t times)

pub to_view : (es : List (List Value × List ℕ)) (row : List Value) (times : List ℕ) (time : ℕ) → Contains es (row, times) → Contains times time → Contains (kept_entries es) (row, times)
to_view es row times time there has = Contains-filter has_times es (row, times) there (some_time times time has)

-- each row that is kept has a time
pub kept_from : (es : List (List Value × List ℕ)) (e : List Value × List ℕ) → Contains (kept_entries es) e → Contains es e × (is_some_time e.1 ≡ true)
kept_from es e there = Contains-from_filter has_times es e there

pub from_view : (es : List (List Value × List ℕ)) (row : List Value) (times : List ℕ) → Contains (kept_entries es) (row, times) → (kept : List ℕ)
    × Contains es (row, kept) × (kept ≡ times)
from_view es row times there = (times, (kept_from es (row, times) there).0, refl)

-- no row stands twice among those
pub kept_once : (es : List (List Value × List ℕ)) → HasNoRepeats (map (λ e. e.0) es) → HasNoRepeats (map (λ e. e.0) (kept_entries es))
kept_once [] unique = tt
kept_once (e ∷ es) unique = by (has_times e) (kept_once es unique.1)
  where
    by : (b : Bool) → HasNoRepeats (map (λ x. x.0) (kept_entries es)) → HasNoRepeats (map (λ x. x.0) (cond b (e ∷ kept_entries es) (kept_entries es)))
    by true rest = (
      λ there. let from = Contains-from_map (λ (x : List Value × List ℕ). x.0) (kept_entries es) e.0 there in
          unique.0 (subst (Contains (map (λ x. x.0) es)) from.2 (Contains-map (λ (x : List Value × List ℕ). x.0) es from.0 (kept_from es from.0 from.1).0)),
      rest,
    )
    by false rest = rest

module _ (columns : List VarId) (distinct : HasNoRepeats columns) where
  -- rows of these columns that have a valuation's values
  one_row : (v : Valuation) (a b : List Value) → length a ≡ length columns → length b ≡ length columns → AgreesWithRow v columns a → AgreesWithRow v columns b → a ≡ b
  one_row v a b long_a long_b is_a is_b = same_row columns a b distinct long_a long_b (λ x there. sym (is_a x there) ∙ is_b x there)

  in_table : (t : Relation) (v : Valuation) (row : List Value) → IsTable t → t.columns ≡ columns → length row ≡ length columns → AgreesWithRow v columns row → HasValuation t v ↔ Contains t.rows row
  in_table t v row table same long agrees = (
    λ has. subst (Contains t.rows) (one_row v has.0 row (table_row-length t has.0 table has.1 ∙ ap length same) long (subst (λ l. AgreesWithRow v l has.0) same has.2) agrees) has.1,
    λ there. (row, there, subst (λ l. AgreesWithRow v l row) (sym same) agrees),
  )

  pub survives_for : (s : Surviving) (v : Valuation) (row : List Value) → FitsColumns columns s → AreTables s → length row ≡ length columns → AgreesWithRow v columns row
      → RowSurvives s row ↔ SurvivesFor s v
  survives_for Whole v row same tables long agrees = (λ h. tt, λ h. tt)
  survives_for (Only rows) v row same tables long agrees = let there = in_table rows.now v row tables same long agrees in (there.1, there.0)
  survives_for (AllBut rows) v row same tables long agrees = let there = in_table rows.now v row tables same long agrees in (λ no has. no (there.0 has), λ no has. no (there.1 has))

pub served_in : (high : Option ℕ) (low now later t : ℕ) (P : ℕ → Type 0) → now ≤ later → IsServedTime high low now P t → (low ≤ later - t) × IsUpTo high (later - t)
    → (o : ℕ) × P o × ((low ≤ later - o) × IsUpTo high (later - o))
served_in None low now later t P from served within = (served.0, served.2, (omega (arith, served.1, within.0), tt))
served_in (Some high) low now later t P from served within =
    (served.0, served.3, (⊎_elim (λ same. subst (λ o. low ≤ later - o) (sym same) within.0) (λ far. omega (arith, far)) served.2, omega (arith, served.1, within.1)))

pub not_ended : (high : Option ℕ) (now later t : ℕ) → now ≤ later → IsUpTo high (later - t) → IsEndedTime high now t → ⊥
not_ended None now later t from within ended = ended
not_ended (Some high) now later t from within ended = omega (arith, within, ended)

pub served_to_end : (high : Option ℕ) (low now later t : ℕ) (P : ℕ → Type 0) → now ≤ later → IsServedTime high low now P t → (0 ≤ later - t) × IsUpTo high (later - t)
    → (o : ℕ) × P o × ((0 ≤ later - o) × IsUpTo high (later - o))
served_to_end None low now later t P from served within = (served.0, served.2, (omega arith, tt))
served_to_end (Some high) low now later t P from served within = (served.0, served.3, (omega arith, omega (arith, served.1, within.1)))

-- ---- a window after a commit

-- by what it has, what it remembers
pub remembers_from : (before after : Window) (time : ℕ) (S : Valuation → Type 0) (right : Relation)
    → ((v : Valuation) (j : ℕ) → HasRow after v j → HasRowAfterStep before time S right v j)
    → ((v : Valuation) (j : ℕ) → HasRowAfterStep before time S right v j → IsServedTime before.interval.high before.interval.low time (HasRow after v) j ⊎ IsEndedTime before.interval.high time j)
    → (J : Interval) → ((later t : ℕ) (P : ℕ → Type 0) → time ≤ later → IsServedTime before.interval.high before.interval.low time P t → IsIn J (later - t) → (o : ℕ) × P o × IsIn J (later - o))
    → ((later t : ℕ) → time ≤ later → IsIn J (later - t) → IsEndedTime before.interval.high time t → ⊥)
    → (later : ℕ) → time ≤ later → (v : Valuation)
    → WindowRemembersIn J after later v ↔ ((IsIn J (later - time) × HasValuation right v) ⊎ (WindowRemembersIn J before later v × S v))
remembers_from before after time S right from serves J serves_in alive later past v = (
  λ h. ⊎_elim (λ earlier. inr ((h.0, h.1, earlier.0), earlier.1)) (λ now. inl (subst (λ t. IsIn J (later - t)) now.0 h.1, now.1)) (from v h.0 h.2),
  λ either. ⊎_elim (λ now. found time (inr (refl, now.1)) now.0) (λ earlier. found earlier.0.0 (inl (earlier.0.2, earlier.1)) earlier.0.1) either,
)
  where
    found : (j : ℕ) → HasRowAfterStep before time S right v j → IsIn J (later - j) → WindowRemembersIn J after later v
    found j goes within = ⊎_elim (λ by. let o = serves_in later j (HasRow after v) past by within in (o.0, o.2, o.1)) (λ ended. absurd (alive later j past within ended)) (serves v j goes)

pub keeps_kept : (es after : List (List Value × List ℕ)) → after ≡ kept_entries es → KeepsRows (λ row. Unit {0}) es after
keeps_kept es after is = subst (KeepsRows (λ row. Unit {0}) es) (sym is) (record {
  among = λ e there. inl (kept_from es e there).0;
  exact = λ row time. (
    λ has. ((has.0, (kept_from es (row, has.0) has.1).0, has.2), tt),
    λ both. (both.0.0, to_view es row both.0.0 time both.0.1 both.0.2, both.0.2),
  );
  unique = kept_once es;
})

-- a window of these entries has the least times of its rows
pub keeps_least : (interval : Interval) (columns : List VarId) (last : ℕ) (es : List (List Value × List ℕ)) → HasNoRepeats columns → AreWindowEntries (length columns) last es
    → AreLeast interval last es
    → KeepsLeast (record { interval = interval; columns = columns; last = last; kept = kept_entries es })
keeps_least interval columns last es distinct kept least = record {
  distinct = distinct;
  rows = all_from (HasLeast (record { interval = interval; columns = columns; last = last; kept = kept_entries es })) (kept_entries es) (λ e there.
      let entry = from_view es e.0 e.1 there in let fit = fit_of (length columns) last es e.0 entry.0 kept entry.1 in record {
        long = fit.0;
        rise = subst (RiseTo last) entry.2 fit.1;
        least = ⊎_elim (λ none. absurd (false≢true (sym (ap is_some_time none) ∙ (kept_from es e there).1))) (λ is. is) (least_of interval last es e.0 e.1 least (kept_from es e there).0);
      });
  unique = kept_once es kept.unique;
}

pub window_least : (interval : Interval) (columns : List VarId) (last : ℕ) (es : List (List Value × List ℕ)) (queue : Queue) (index : Option PartIndex) (pairs : ℕ)
    → IsWindow interval columns last es queue index pairs
    → KeepsLeast (record { interval = interval; columns = columns; last = last; kept = kept_entries es })
window_least interval columns last es queue index pairs is = keeps_least interval columns last es is.distinct is.kept is.least

-- with another index of the same rows
pub window_by : (interval : Interval) (columns : List VarId) (last : ℕ) (es : List (List Value × List ℕ)) (queue : Queue) (index other : Option PartIndex) (pairs : ℕ)
    → IfSome other (IsIndexOf columns (rows_of es)) → IsWindow interval columns last es queue index pairs → IsWindow interval columns last es queue other pairs
window_by interval columns last es queue index other pairs indexed is = record {
  distinct = is.distinct;
  kept = is.kept;
  least = is.least;
  queued = is.queued;
  indexed = indexed;
  compact = is.compact;
  counted = is.counted;
}

module _ (interval : Interval) (columns : List VarId) (last time : ℕ) (es left middle after : List (List Value × List ℕ)) (s : Surviving) (right : Relation) (distinct : HasNoRepeats columns)
    (kept : AreWindowEntries (length columns) last es) (same : FitsColumns columns s) (tables : IsAnyRow left → AreTables s) (right_columns : right.columns ≡ columns)
    (forgets : Forgets interval time es left) (keeps : KeepsRows (RowSurvives s) left middle) (most : AddAtMost time (Contains right.rows) middle after)
    (adds : AddsTimes interval time (Contains right.rows) middle after)
    (kept_after : AreWindowEntries (length columns) time after) (least_after : AreLeast interval time after) where
  long : (row : List Value) (t : ℕ) → HasTime es row t → length row ≡ length columns
  long row t has = (fit_of (length columns) last es row has.0 kept has.1).0

  has_now : (row : List Value) (t : ℕ) (v : Valuation) → HasTime after row t → AgreesWithRow v columns row
      → HasRow (record { interval = interval; columns = columns; last = time; kept = kept_entries after }) v t
  has_now row t v has agrees = (row, has.0, to_view after row has.0 t has.1 has.2, has.2, agrees)

  from_now : (v : Valuation) (t : ℕ) → HasRow (record { interval = interval; columns = columns; last = time; kept = kept_entries after }) v t
      → HasRowAfterStep (record { interval = interval; columns = columns; last = last; kept = kept_entries es }) time (SurvivesFor s) right v t
  from_now v t h =
      let entry = from_view after h.0 h.1 h.2 in
      ⊎_elim
      (λ mid. let both = (keeps.exact h.0 t).0 mid in let was = forgets.from h.0 t both.0 in
      inl ((h.0, was.0, to_view es h.0 was.0 t was.1 was.2, was.2, h.4), (survives_for columns distinct s v h.0 same (tables ((h.0, both.0.0), both.0.1)) (long h.0 t was) h.4).0 both.1))
      (λ added. inr (added.0, (h.0, added.1, subst (λ l. AgreesWithRow v l h.0) (sym right_columns) h.4)))
      (most.from h.0 t (entry.0, entry.1, subst (λ l. Contains l t) (sym entry.2) h.3))

  serves_now : (v : Valuation) (t : ℕ) → HasRowAfterStep (record { interval = interval; columns = columns; last = last; kept = kept_entries es }) time (SurvivesFor s) right v t
      → IsServedTime interval.high interval.low time (HasRow (record { interval = interval; columns = columns; last = time; kept = kept_entries after }) v) t ⊎ IsEndedTime interval.high time t
  serves_now v t goes = ⊎_elim
      (λ earlier. let h = earlier.0 in let entry = from_view es h.0 h.1 h.2 in
      let has : HasTime es h.0 t = (entry.0, entry.1, subst (λ l. Contains l t) (sym entry.2) h.3) in
      let survives : (o : ℕ) → HasTime left h.0 o → RowSurvives s h.0 = (λ o there. (survives_for columns distinct s v h.0 same (tables ((h.0, there.0), there.1)) (long h.0 t has) h.4).1 earlier.1) in
      ⊎_elim
      (λ by. ⊎_elim
      (λ found. inl (served_by interval.high interval.low time (HasTime after h.0) (HasRow (record { interval = interval; columns = columns; last = time; kept = kept_entries after }) v) t
      (λ o there. has_now h.0 o v there h.4) found)) (λ ended. inr ended)
      (served_on interval.high interval.low time (HasTime left h.0) (HasTime after h.0) t (λ o there. adds.serves h.0 o ((keeps.exact h.0 o).1 (there, survives o there))) by))
      (λ ended. inr ended) (forgets.serves h.0 t has))
      (λ now. inl (served_by interval.high interval.low time (HasTime after now.1.0) (HasRow (record { interval = interval; columns = columns; last = time; kept = kept_entries after }) v) t
      (λ o there. has_now now.1.0 o v there (subst (λ l. AgreesWithRow v l now.1.0) right_columns now.1.2))
      (subst (IsServedTime interval.high interval.low time (HasTime after now.1.0)) (sym now.0) (adds.added now.1.0 now.1.1))))
      goes

  is_committed : IsCommittedBy (record { interval = interval; columns = columns; last = last; kept = kept_entries es }) time (SurvivesFor s) right
      (record { interval = interval; columns = columns; last = time; kept = kept_entries after })
  is_committed = record {
    interval_is = refl;
    columns_are = refl;
    last_is = refl;
    remembers = remembers_from (record { interval = interval; columns = columns; last = last; kept = kept_entries es })
        (record { interval = interval; columns = columns; last = time; kept = kept_entries after }) time (SurvivesFor s) right from_now serves_now
        interval (served_in interval.high interval.low time) (λ later t past within ended. not_ended interval.high time later t past within.1 ended);
    keeps = remembers_from (record { interval = interval; columns = columns; last = last; kept = kept_entries es })
        (record { interval = interval; columns = columns; last = time; kept = kept_entries after }) time (SurvivesFor s) right from_now serves_now
        (to_the_end interval) (served_to_end interval.high interval.low time) (λ later t past within ended. not_ended interval.high time later t past within.1 ended);
    from = from_now;
    serves = serves_now;
    least = keeps_least interval columns time after distinct kept_after least_after;
  }

  pub is_committed_in : (window : Window) → record { interval = interval; columns = columns; last = last; kept = kept_entries es } ≡ window
      → IsCommittedBy window time (SurvivesFor s) right (record { interval = interval; columns = columns; last = time; kept = kept_entries after })
  is_committed_in window is = subst (λ w. IsCommittedBy w time (SurvivesFor s) right (record { interval = interval; columns = columns; last = time; kept = kept_entries after })) is is_committed

-- a step at which no row is right and all survive
pub is_passed_in : (interval : Interval) (columns : List VarId) (last time : ℕ) (es left after : List (List Value × List ℕ)) (right : Relation) → HasNoRepeats columns
    → AreWindowEntries (length columns) last es → right.columns ≡ columns → right.rows ≡ [] → Forgets interval time es left → KeepsRows (λ row. Unit {0}) left after
    → AreWindowEntries (length columns) time after → AreLeast interval time after → (window : Window)
    → record { interval = interval; columns = columns; last = last; kept = kept_entries es } ≡ window
    → IsCommittedBy window time (λ v. Unit {0}) right (record { interval = interval; columns = columns; last = time; kept = kept_entries after })
is_passed_in interval columns last time es left after right distinct kept same none forgets keeps kept_after least_after window is =
    is_committed_in interval columns last time es left after after Whole right distinct kept tt (λ _. tt) same forgets keeps
    (record { from = λ row t has. inl has; behind = λ row t has. inl has })
    (record {
      serves = λ row t has. inl (itself interval.high interval.low time (HasTime after row) t has);
      added = λ row there. absurd (none_in_nil row (subst (λ l. Contains l row) none there));
    })
    kept_after least_after window is

-- what is kept is in some row with a time
pub kept_is_had : (window : Window) → KeepsLeast window → (v : Valuation) → WindowKeeps window window.last v ↔ ((time : ℕ) × HasRow window v time)
kept_is_had window least v = (
  λ h. (h.0, h.2),
  λ has. (
    has.0,
    (
      omega arith,
      within window.interval.high has.0 has.1.1 has.1.3 (All-contains (HasLeast window) window.kept (has.1.0, has.1.1) least.rows has.1.2).rise
          (All-contains (HasLeast window) window.kept (has.1.0, has.1.1) least.rows has.1.2).least,
    ),
    has.1,
  ),
)
  where
    within : (high : Option ℕ) (time : ℕ) (times : List ℕ) → Contains times time → RiseTo window.last times → AreLeastTimes high window.interval.low window.last times
        → IsUpTo high (window.last - time)
    within None time times there rise is = tt
    within (Some high) time times there rise is = least_live high window.interval.low window.last times rise is time there

-- ---- the rows that are given at a time

module _ (interval J : Interval) (columns : List VarId) (last time : ℕ) (es : List (List Value × List ℕ)) (s : Surviving) (distinct : HasNoRepeats columns)
    (kept : AreWindowEntries (length columns) last es) (same : FitsColumns columns s) (tables : GivesSomeRow J time es → AreTables s) where
  pub given_rows : (v : Valuation) → ((row : List Value) × GivesRow J time (RowSurvives s) es row × AgreesWithRow v columns row)
      ↔ (WindowRemembersIn J (record { interval = interval; columns = columns; last = last; kept = kept_entries es }) time v × SurvivesFor s v)
  given_rows v = (
    λ h. let g = h.1.0 in
        let fits_in = (fit_of (length columns) last es h.0 g.0 kept g.1).0 in
        ((g.2.0, g.2.2, (h.0, g.0, to_view es h.0 g.0 g.2.0 g.1 g.2.1, g.2.1, h.2)), (survives_for columns distinct s v h.0 same (tables (h.0, (g, tt))) fits_in h.2).0 h.1.1),
    λ both. let h = both.0 in let entry = from_view es h.2.0 h.2.1 h.2.2 in
        let fits_in = (fit_of (length columns) last es h.2.0 entry.0 kept entry.1).0 in
        let some : IsSomeIn J time entry.0 = (h.0, subst (λ l. Contains l h.0) (sym entry.2) h.2.3, h.1) in
        (h.2.0, ((entry.0, entry.1, some), (survives_for columns distinct s v h.2.0 same (tables (h.2.0, ((entry.0, entry.1, some), tt))) fits_in h.2.4).1 both.1), h.2.4),
  )

  pub given_fits : (row : List Value) → GivesRow J time (RowSurvives s) es row → length row ≡ length columns
  given_fits row g = (fit_of (length columns) last es row g.0.0 kept g.0.1).0

-- ---- tables of rows

pub fit_all : (n : ℕ) (rows : List (List Value)) → ((row : List Value) → Contains rows row → length row ≡ n) → All (λ row. length row ≡ n) rows
fit_all n rows each k d below = each (get_or rows k d) (Contains-get_or rows k d below)

pub table_gives : (t : Relation) (columns : List VarId) (out : List (List Value)) → t.columns ≡ columns → ((row : List Value) → Contains t.rows row ↔ Contains out row) → (v : Valuation)
    → HasValuation t v ↔ ((row : List Value) × Contains out row × AgreesWithRow v columns row)
table_gives t columns out same rows v = (
  λ has. (has.0, (rows has.0).0 has.1, subst (λ l. AgreesWithRow v l has.0) same has.2),
  λ h. (h.0, (rows h.0).1 h.1, subst (λ l. AgreesWithRow v l h.0) (sym same) h.2),
)

module _ (window : Window) (interval : Interval) (columns : List VarId) (last time : ℕ) (es : List (List Value × List ℕ)) (distinct : HasNoRepeats columns)
    (kept : AreWindowEntries (length columns) last es)
    (is : record { interval = interval; columns = columns; last = last; kept = kept_entries es } ≡ window) where
  pub key_fits : (row : List Value) → Contains (map (λ e. e.0) (kept_entries es)) row → length row ≡ length columns
  key_fits row there =
      let e = Contains-from_map (λ (x : List Value × List ℕ). x.0) (kept_entries es) row there in
      ap length (sym e.2) ∙ (fit_of (length columns) last es e.0.0 e.0.1 kept (kept_from es e.0 e.1).0).0

  -- a table of all rows has those that have some time, and so what is kept
  pub had_rows : (items out : List (List Value)) (t : Relation) → items ≡ [] → ((row : List Value) → Contains out row ↔ (Contains items row ⊎ Contains (map (λ e. e.0) (kept_entries es)) row)) → t.columns ≡ columns
      → ((row : List Value) → Contains t.rows row ↔ Contains out row) → (v : Valuation) → HasValuation t v ↔ ((time : ℕ) × HasRow window v time)
  had_rows items out t empty outs same rows v = subst (λ w. HasValuation t v ↔ ((time : ℕ) × HasRow w v time)) is
      (then (table_gives t columns out same rows v) (
        λ h. let e = Contains-from_map (λ (x : List Value × List ℕ). x.0) (kept_entries es) h.0 (⊎_elim (λ none. absurd (none_in_nil h.0 (subst (λ l. Contains l h.0) empty none)))
            (λ key. key) ((outs h.0).0 h.1)) in
            let first = first_time e.0.1 (kept_from es e.0 e.1).1 in
            (first.0, (e.0.0, e.0.1, e.1, first.1, subst (AgreesWithRow v columns) (sym e.2) h.2)),
        λ had. let h = had.1 in (h.0, (outs h.0).1 (inr (Contains-map (λ (x : List Value × List ℕ). x.0) (kept_entries es) (h.0, h.1) h.2)), h.4),
      ))

  pub kept_rows : (items out : List (List Value)) (t : Relation) → AreLeast interval last es → items ≡ []
      → ((row : List Value) → Contains out row ↔ (Contains items row ⊎ Contains (map (λ e. e.0) (kept_entries es)) row)) → t.columns ≡ columns
      → ((row : List Value) → Contains t.rows row ↔ Contains out row) → (v : Valuation) → HasValuation t v ↔ WindowKeeps window window.last v
  kept_rows items out t least empty outs same rows v =
      let had = kept_is_had window (subst KeepsLeast is (keeps_least interval columns last es distinct kept least)) v in
      then (had_rows items out t empty outs same rows v) (had.1, had.0)

  pub answer_rows : (s : Surviving) (right : Relation) (middle out : List (List Value)) (t : Relation) → FitsColumns columns s → (GivesSomeRow interval time es → AreTables s) → right.columns ≡ columns
      → ((row : List Value) → Contains middle row ↔ (Contains [] row ⊎ GivesRow interval time (RowSurvives s) es row))
      → ((row : List Value) → Contains out row ↔ (Contains middle row ⊎ (IsIn interval 0 × Contains right.rows row))) → t.columns ≡ columns
      → ((row : List Value) → Contains t.rows row ↔ Contains out row) → (v : Valuation) → HasValuation t v ↔ AnswersBy window time (SurvivesFor s) right v
  answer_rows s right middle out t fits_s tables right_columns middles outs same rows v = subst (λ w. HasValuation t v ↔ AnswersBy w time (SurvivesFor s) right v) is
      (then (table_gives t columns out same rows v)
      (let given = given_rows interval interval columns last time es s distinct kept fits_s tables v in (
        λ h. ⊎_elim
            (λ mid. inr (given.0 (h.0, ⊎_elim (λ none. absurd (none_in_nil h.0 none)) (λ g. g) ((middles h.0).0 mid), h.2)))
            (λ now. inl (now.0, (h.0, now.1, subst (λ l. AgreesWithRow v l h.0) (sym right_columns) h.2)))
            ((outs h.0).0 h.1),
        λ either. ⊎_elim
            (λ now. (now.1.0, (outs now.1.0).1 (inr (now.0, now.1.1)), subst (λ l. AgreesWithRow v l now.1.0) right_columns now.1.2))
            (λ both. let g = given.1 both in (g.0, (outs g.0).1 (inl ((middles g.0).1 (inr g.1))), g.2))
            either,
      )))
