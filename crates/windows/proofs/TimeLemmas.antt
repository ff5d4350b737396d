-- The times of one row.
use Rattle.windows.proofs.Vocabulary.{◌≡◌, ◌∙◌, ◌⊎◌, inl, inr, ⊎_elim, ℕ, zero, suc, ◌-◌, ◌<◌, ◌≤◌, List, [], ◌∷◌, ◌++◌, length, drop, leb, All, get_or, Contains, Option, None, Some, refl, sym, ap}
use Rattle.windows.proofs.Vocabulary.{subst, arith, All-contains, All-nil, All-push, Contains-append_cases, Contains-append_left, Contains-push, Contains-get_or, cases_le, cases_lt, leb_tells}
use Rattle.windows.proofs.Vocabulary.{IsRisingBy, IsUpTo, slice_get, same_Some, none-some, Interval, here, later, first_or_later, none_in_nil, there_from_get, IsIn, all_from, AddsAtMost, AddsTime}
use Rattle.windows.proofs.Vocabulary.{ForgetsTimes, IsSomeIn, IsEndedTime, AreLeastTimes, IsServedTime, RiseTo, false, false≢true}
use Rattle.windows.proofs.KeptLaws.{rises_append}
use Rattle.windows.specs.machine.RowTimes.{IsFirstPassed, is_some_time}
use Rattle.windows.specs.machine.WindowEntries.{SettlesTimes}
use Rattle.std.specs.Prelude.{Result, Ok, Err, OnOk, OnErr}
use Rattle.std.specs.List.Sorted.{IsPartitionedBy}
use Rattle.std.proofs.lemmas.Bool.{leb-true}
use Rattle.std.proofs.lemmas.Option.{slice_get-get_or}

equal_or_below : (a b : ℕ) → a ≤ b → (a ≡ b) ⊎ (a < b)
equal_or_below zero zero below = inl refl
equal_or_below zero (suc b) below = inr (omega arith)
equal_or_below (suc a) zero below = absurd (omega (arith, below))
equal_or_below (suc a) (suc b) below = ⊎_elim (λ same. inl (ap suc same)) (λ less. inr (omega (arith, less))) (equal_or_below a b (omega (arith, below)))

-- ---- times that rise

-- none is later than the last
pub up_to : (last : ℕ) (times : List ℕ) (time : ℕ) → RiseTo last times → Contains times time → time ≤ last
up_to last [] time rise there = absurd (none_in_nil time there)
up_to last (t ∷ times) time rise there = ⊎_elim (λ same. omega (arith, rise.0, same)) (λ behind. up_to last times time rise.2 behind) (first_or_later time t times there)

pub rise_later : (last now : ℕ) (times : List ℕ) → last ≤ now → RiseTo last times → RiseTo now times
rise_later last now [] below rise = tt
rise_later last now (t ∷ times) below rise = (omega (arith, rise.0, below), rise.1, rise_later last now times below rise.2)

-- the time now goes last
pub rise_push : (now : ℕ) (times : List ℕ) → RiseTo now times → (Contains times now → ⊥) → RiseTo now (times ++ now ∷ [])
rise_push now [] rise absent = (omega arith, All-nil _, tt)
rise_push now (t ∷ times) rise absent = (
  rise.0,
  All-push (λ l. t < l) times now rise.1 (⊎_elim (λ same. absurd (absent (0, omega arith, same))) (λ less. less) (equal_or_below t now rise.0)),
  rise_push now times rise.2 (λ behind. absent (later now t times behind)),
)

-- ---- the least times

-- none of them is past the end, and none but the first is far enough
pub least_live : (high low now : ℕ) (times : List ℕ) → RiseTo now times → AreLeastTimes (Some high) low now times → (time : ℕ) → Contains times time → now - time ≤ high
least_live high low now [] rise least time there = absurd least
least_live high low now (t ∷ times) rise least time there = ⊎_elim (λ same. omega (arith, least.0, same)) (λ behind.
    let above : t < time = All-contains (λ l. t < l) times time rise.1 behind in omega (arith, least.0, above)) (first_or_later time t times there)

pub least_near : (high low now : ℕ) (times : List ℕ) → AreLeastTimes (Some high) low now times → (time : ℕ) → Contains (drop 1 times) time → now - time < low
least_near high low now [] least time there = absurd least
least_near high low now (t ∷ times) least time there = All-contains (λ l. now - l < low) times time least.1 there

-- and so they are the least
pub least_from : (high low now : ℕ) (times : List ℕ) → 0 < length times → ((time : ℕ) → Contains times time → now - time ≤ high) → ((time : ℕ) → Contains (drop 1 times) time → now - time < low)
    → AreLeastTimes (Some high) low now times
least_from high low now [] some live near = omega (arith, some)
least_from high low now (t ∷ times) some live near = (live t (here t times), all_from (λ l. now - l < low) times near)

pub some_least : (high : Option ℕ) (low now : ℕ) (times : List ℕ) → AreLeastTimes high low now times → 0 < length times
some_least None low now [] least = absurd least
some_least (Some high) low now [] least = absurd least
some_least high low now (t ∷ times) least = omega arith

pub first_of : (times : List ℕ) → 0 < length times → (time : ℕ) × Contains times time
first_of [] some = absurd (omega (arith, some))
first_of (t ∷ times) some = (t, here t times)

-- ---- what is passed is forgotten

forgets_first : (high low now : ℕ) (before : List ℕ) (a b : ℕ) (times : List ℕ) → a < b → (high < now - a) ⊎ (low ≤ now - b) → ForgetsTimes high low now before (a ∷ b ∷ times)
    → ForgetsTimes high low now before (b ∷ times)
forgets_first high low now before a b times rises passed forgets = record {
  from = λ time there. forgets.from time (later time a (b ∷ times) there);
  behind = λ time there. forgets.behind time (later time b times there);
  serves = λ time there. ⊎_elim
      (λ by. ⊎_elim
      (λ first. ⊎_elim (λ ended. inr (omega (arith, by.1, first, ended))) (λ far. inl (b, omega (arith, by.1, first, rises), inr far, here b times)) passed)
      (λ behind. inl (by.0, by.1, by.2, behind)) (first_or_later by.0 a (b ∷ times) by.3))
      (λ ended. inr ended) (forgets.serves time there);
}

pub forgets_none : (high low now : ℕ) (times : List ℕ) → ForgetsTimes high low now times times
forgets_none high low now times = record {
  from = λ time there. there;
  behind = λ time there. there;
  serves = λ time there. inl (time, omega arith, inl refl, there);
}

-- the last one is passed
forgets_last : (high low now : ℕ) (before : List ℕ) (t : ℕ) → high < now - t → ForgetsTimes high low now before (t ∷ []) → ForgetsTimes high low now before []
forgets_last high low now before t past forgets = record {
  from = λ time there. absurd (none_in_nil time there);
  behind = λ time there. absurd (none_in_nil time there);
  serves = λ time there. inr (⊎_elim
      (λ by. let same : t ≡ by.0 = ⊎_elim (λ e. e) (λ none. absurd (none_in_nil by.0 none)) (first_or_later by.0 t [] by.3) in omega (arith, same, past, by.1))
      (λ ended. ended) (forgets.serves time there));
}

-- how far the front is passed
pub record Passes (high low now : ℕ) (before left : List ℕ) : Type 0 where
  pub rise : RiseTo now left
  pub forgets : ForgetsTimes high low now before left

pub passes_none : (high low now : ℕ) (times : List ℕ) → RiseTo now times → Passes high low now times times
passes_none high low now times rise = record { rise = rise; forgets = forgets_none high low now times }

pub passes_more : (high low now : ℕ) (before left : List ℕ) → IsFirstPassed high low now left → Passes high low now before left → Passes high low now before (drop 1 left)
passes_more high low now before [] passed passes = absurd passed
passes_more high low now before (t ∷ []) passed passes = record { rise = tt; forgets = forgets_last high low now before t passed passes.forgets }
passes_more high low now before (a ∷ b ∷ times) passed passes = record {
  rise = passes.rise.2;
  forgets = forgets_first high low now before a b times (All-contains (λ l. a < l) (b ∷ times) b passes.rise.1 (here b times)) passed passes.forgets;
}

-- the first is not past the end, and the second not far enough
pub passes_enough : (high low now : ℕ) (before left : List ℕ) → (IsFirstPassed high low now left → ⊥) → Passes high low now before left → SettlesTimes high low now before left
passes_enough high low now before [] held passes = record { forgets = passes.forgets; rise = tt; least = inl refl }
passes_enough high low now before (t ∷ []) held passes = record {
  forgets = passes.forgets;
  rise = passes.rise;
  least = inr (⊎_elim (λ past. absurd (held past)) (λ alive. alive) (cases_lt high (now - t)), All-nil _);
}
passes_enough high low now before (a ∷ b ∷ times) held passes =
    let near : now - b < low = ⊎_elim (λ less. less) (λ far. absurd (held (inr far))) (cases_lt (now - b) low) in record {
      forgets = passes.forgets;
      rise = passes.rise;
      least = inr (
        ⊎_elim (λ past. absurd (held (inl past))) (λ alive. alive) (cases_lt high (now - a)),
        all_from (λ l. now - l < low) (b ∷ times) (λ time there. ⊎_elim (λ same. omega (arith, same, near)) (λ behind.
            let above : b < time = All-contains (λ l. b < l) times time passes.rise.2.1 behind in omega (arith, above, near)) (first_or_later time b times there)),
      );
    }

-- what is tested of the first
pub first_passed : (high low now : ℕ) (times : List ℕ) → 0 < length times → length times < 2 → ((d : ℕ) → high < now - get_or times 0 d) → IsFirstPassed high low now times
first_passed high low now [] some one past = absurd (omega (arith, some))
first_passed high low now (t ∷ []) some one past = past 0
first_passed high low now (a ∷ b ∷ times) some one past = absurd (omega (arith, one))

pub first_held : (high low now : ℕ) (times : List ℕ) → length times < 2 → (0 < length times → (d : ℕ) → now - get_or times 0 d ≤ high) → IsFirstPassed high low now times → ⊥
first_held high low now [] one live passed = passed
first_held high low now (t ∷ []) one live passed = let near = live (omega arith) 0 in omega (arith, near, passed)
first_held high low now (a ∷ b ∷ times) one live passed = omega (arith, one)

-- what is not several is settled by one look
pub ended_settles : (high low now : ℕ) (times : List ℕ) → ((time : ℕ) → Contains times time → high < now - time) → SettlesTimes high low now times []
ended_settles high low now times ended = record {
  forgets = record {
    from = λ time there. absurd (none_in_nil time there);
    behind = λ time there. absurd (none_in_nil time there);
    serves = λ time there. inr (ended time there);
  };
  rise = tt;
  least = inl refl;
}

pub few_settled : (high low now : ℕ) (times : List ℕ) → length times < 2 → RiseTo now times → (time : ℕ) × Contains times time × (now - time ≤ high) → SettlesTimes high low now times times
few_settled high low now [] few rise live = absurd (none_in_nil live.0 live.1)
few_settled high low now (t ∷ []) few rise live = passes_enough high low now (t ∷ []) (t ∷ []) (λ past.
    let same : t ≡ live.0 = ⊎_elim (λ e. e) (λ none. absurd (none_in_nil live.0 none)) (first_or_later live.0 t [] live.1) in omega (arith, same, past, live.2))
    (passes_none high low now (t ∷ []) rise)
few_settled high low now (a ∷ b ∷ times) few rise live = absurd (omega (arith, few))

pub first_least : (high : Option ℕ) (low now : ℕ) → AreLeastTimes high low now (now ∷ [])
first_least None low now = refl
first_least (Some high) low now = (omega arith, All-nil _)

-- ---- a time is added

pushed : (now : ℕ) (times : List ℕ) (time : ℕ) → Contains (times ++ now ∷ []) time → Contains times time ⊎ (time ≡ now)
pushed now times time there = ⊎_elim (λ before. inl before) (λ last. inr (⊎_elim (λ same. sym same) (λ none. absurd (none_in_nil time none)) (first_or_later time now [] last)))
    (Contains-append_cases times (now ∷ []) time there)

pushed_behind : (now : ℕ) (times : List ℕ) (time : ℕ) → Contains (drop 1 (times ++ now ∷ [])) time → Contains (drop 1 times) time ⊎ (time ≡ now)
pushed_behind now [] time there = absurd (none_in_nil time there)
pushed_behind now (t ∷ times) time there = pushed now times time there

pub adds_at_most : (high low now : ℕ) (before after : List ℕ) → ForgetsTimes high low now (before ++ now ∷ []) after → AddsAtMost now before after
adds_at_most high low now before after forgets = record {
  from = λ time there. pushed now before time (forgets.from time there);
  behind = λ time there. pushed_behind now before time (forgets.behind time there);
}

pub adds_by : (interval : Interval) (now : ℕ) (before after : List ℕ) (high : ℕ) → interval.high ≡ Some high → ForgetsTimes high interval.low now (before ++ now ∷ []) after
    → AddsTime interval now before after
adds_by interval now before after high is forgets = record {
  serves = λ time there. subst (λ h. IsServedTime h interval.low now (Contains after) time ⊎ IsEndedTime h now time) (sym is) (forgets.serves time (Contains-append_left before (now ∷ []) time there));
  added = subst (λ h. IsServedTime h interval.low now (Contains after) now) (sym is) (⊎_elim (λ by. by) (λ ended. absurd (omega (arith, ended))) (forgets.serves now (Contains-push before now)));
}

-- where 0 is far enough the time now is there alone, in the place of one
pub replaced_at_most : (now : ℕ) (before : List ℕ) → AddsAtMost now before (now ∷ [])
replaced_at_most now before = record {
  from = λ time there. inr (⊎_elim (λ same. sym same) (λ none. absurd (none_in_nil time none)) (first_or_later time now [] there));
  behind = λ time there. absurd (none_in_nil time there);
}

pub replaced_added : (interval : Interval) (now high : ℕ) (before : List ℕ) → interval.high ≡ Some high → interval.low ≡ 0 → RiseTo now before → AddsTime interval now before (now ∷ [])
replaced_added interval now high before is low rise = record {
  serves = λ time there. inl (serves time (up_to now before time rise there));
  added = serves now (omega arith);
}
  where
    serves : (time : ℕ) → time ≤ now → IsServedTime interval.high interval.low now (Contains (now ∷ [])) time
    serves time below = subst (λ h. IsServedTime h interval.low now (Contains (now ∷ [])) time) (sym is) (now, below, inr (omega (arith, low)), here now [])

pub one_of_least : (high : Option ℕ) (end low now : ℕ) (times : List ℕ) → high ≡ Some end → low ≡ 0 → AreLeastTimes high low now times → length times ≡ 1
one_of_least high end low now times is none least = by end low now times none (subst (λ h. AreLeastTimes h low now times) is least)
  where
    by : (end low now : ℕ) (times : List ℕ) → low ≡ 0 → AreLeastTimes (Some end) low now times → length times ≡ 1
    by end low now [] none least = absurd least
    by end low now (first ∷ []) none least = refl
    by end low now (first ∷ second ∷ times) none least =
        let near : now - second < low = All-contains (λ l. now - l < low) (second ∷ times) second least.1 (here second times) in absurd (omega (arith, near, none))

-- else it goes last
pub earlier_all : (now : ℕ) (times : List ℕ) → RiseTo now times → (Contains times now → ⊥) → All (λ earlier. earlier < now) times
earlier_all now times rise absent = all_from (λ earlier. earlier < now) times (λ time there.
    ⊎_elim (λ same. absurd (absent (subst (Contains times) same there))) (λ less. less) (equal_or_below time now (up_to now times time rise there)))

pub pushed_least : (high : Option ℕ) (end low now : ℕ) (times : List ℕ) → high ≡ Some end → 0 < low → AreLeastTimes high low now times → AreLeastTimes high low now (times ++ now ∷ [])
pushed_least high end low now times is far least = subst (λ h. AreLeastTimes h low now (times ++ now ∷ [])) (sym is) (by times (subst (λ h. AreLeastTimes h low now times) is least))
  where
    by : (times : List ℕ) → AreLeastTimes (Some end) low now times → AreLeastTimes (Some end) low now (times ++ now ∷ [])
    by [] least = absurd least
    by (first ∷ times) least = (least.0, All-push (λ l. now - l < low) times now least.1 (omega (arith, far)))

pub itself : (high : Option ℕ) (low now : ℕ) (P : ℕ → Type 0) (time : ℕ) → P time → IsServedTime high low now P time
itself None low now P time there = (time, omega arith, there)
itself (Some high) low now P time there = (time, omega arith, inl refl, there)

-- an interval without end has an earlier one
pub adds_no_later : (interval : Interval) (now : ℕ) (before after : List ℕ) → ((high : ℕ) → interval.high ≡ Some high → ⊥) → RiseTo now before
    → AreLeastTimes interval.high interval.low now before → after ≡ before → AddsTime interval now before after
adds_no_later interval now before after endless rise least same =
    let first = first_of before (some_least interval.high interval.low now before least) in
    subst (AddsTime interval now before) (sym same) (record {
      serves = λ time b. inl (itself interval.high interval.low now (Contains before) time b);
      added = subst (λ h. IsServedTime h interval.low now (Contains before) now) (sym (no_end interval.high endless)) (first.0, up_to now before first.0 rise first.1, first.1);
    })
  where
    no_end : (high : Option ℕ) → ((x : ℕ) → high ≡ Some x → ⊥) → high ≡ None
    no_end None not_some = refl
    no_end (Some x) not_some = absurd (not_some x refl)

-- ---- times of which none is later than those behind it

pub rising_of : (last : ℕ) (times : List ℕ) → RiseTo last times → IsRisingBy ◌<◌ times
rising_of last [] rise = tt
rising_of last (t ∷ times) rise = (rise.1, rising_of last times rise.2)

pub rising_push : (times : List ℕ) (time : ℕ) → IsRisingBy ◌<◌ times → All (λ t. t < time) times → IsRisingBy ◌<◌ (times ++ time ∷ [])
rising_push times time rises earlier = rises_append ◌<◌ times (time ∷ []) rises (All-nil _, tt) (λ x y first second.
    ⊎_elim (λ same. subst (λ t. x < t) same (All-contains (λ t. t < time) times x earlier first)) (λ none. absurd (none_in_nil y none)) (first_or_later y time [] second))

pub rising_places : (times : List ℕ) (i j d e : ℕ) → IsRisingBy ◌<◌ times → i ≤ j → j < length times → get_or times i d ≤ get_or times j e
rising_places [] i j d e rises le within = absurd (omega (arith, within))
rising_places (t ∷ times) zero zero d e rises le within = omega arith
rising_places (t ∷ times) zero (suc j) d e rises le within =
    let inside : j < length times = omega (arith, within) in
    let above : t < get_or times j e = All-contains (λ l. t < l) times (get_or times j e) rises.0 (Contains-get_or times j e inside) in omega (arith, above)
rising_places (t ∷ times) (suc i) zero d e rises le within = absurd (omega (arith, le))
rising_places (t ∷ times) (suc i) (suc j) d e rises le within = rising_places times i j d e rises.1 (omega (arith, le)) (omega (arith, within))

-- ---- a time at a distance in the interval

-- those that are far enough come first
pub far_first : (times : List ℕ) (low now : ℕ) → IsRisingBy ◌<◌ times → IsPartitionedBy (λ y. leb low (now - y)) times
far_first times low now rises = λ i j d le within far.
    let below : get_or times i d ≤ get_or times j d = rising_places times i j d d rises le within in
    let enough : low ≤ now - get_or times j d = leb-true low (now - get_or times j d) far in
    ⊎_elim (λ yes. yes.0) (λ no. absurd (omega (arith, below, enough, no.1))) (leb_tells low (now - get_or times i d))

-- and the last of them is the nearest
module _ (interval : Interval) (now : ℕ) (times : List ℕ) (rises : IsRisingBy ◌<◌ times) (far : ℕ) (within : far ≤ length times)
    (enough : (place : ℕ) (d : ℕ) → place < far → interval.low ≤ now - get_or times place d)
    (near : (place : ℕ) (d : ℕ) → far ≤ place → place < length times → now - get_or times place d < interval.low) where
  pub last_far_in : (d : ℕ) → 0 < far → IsIn interval (now - get_or times (far - 1) d) → IsSomeIn interval now times
  last_far_in d some is = (get_or times (far - 1) d, Contains-get_or times (far - 1) d (omega (arith, some, within)), is)

  some_far : (time : ℕ) → Contains times time → interval.low ≤ now - time → 0 < far
  some_far time there low = ⊎_elim (λ none.
      let at : get_or times there.0 time ≡ time = there.2 in
      absurd (omega (arith, none, at, low, near there.0 time (omega (arith, none)) there.1))) (λ some. some) (cases_le far 0)

  pub in_last_far : (d : ℕ) → IsSomeIn interval now times → (0 < far) × IsIn interval (now - get_or times (far - 1) d)
  in_last_far d some =
      let there = some.1 in
      let at : get_or times there.0 some.0 ≡ some.0 = there.2 in
      let any = some_far some.0 there some.2.0 in
      let inside : there.0 < far = ⊎_elim (λ past. absurd (omega (arith, at, some.2.0, near there.0 some.0 past there.1))) (λ less. less) (cases_le far there.0) in
      let later_one : get_or times there.0 some.0 ≤ get_or times (far - 1) d = rising_places times there.0 (far - 1) some.0 d rises (omega (arith, inside)) (omega (arith, any, within)) in
      (any, (enough (far - 1) d (omega (arith, any)), nearer interval.high some.0 (get_or times (far - 1) d) (omega (arith, at, later_one)) some.2.1))
    where
      nearer : (high : Option ℕ) (a b : ℕ) → a ≤ b → IsUpTo high (now - a) → IsUpTo high (now - b)
      nearer None a b below up = tt
      nearer (Some high) a b below up = omega (arith, below, up)

-- ---- the latest time

pub rise_latest : (last : ℕ) (times : List ℕ) (d : ℕ) → RiseTo last times → (time : ℕ) → Contains times time → time ≤ get_or times (length times - 1) d
rise_latest last [] d rise time there = absurd (none_in_nil time there)
rise_latest last (u ∷ []) d rise time there = ⊎_elim (λ same. omega (arith, same)) (λ b. absurd (none_in_nil time b)) (first_or_later time u [] there)
rise_latest last (u ∷ w ∷ times) d rise time there =
    let place : suc (length times) ≡ length (u ∷ w ∷ times) - 1 = omega arith in
    let inner : length (w ∷ times) - 1 ≡ length times = omega arith in
    let first : u < w = All-contains (λ l. u < l) (w ∷ times) w rise.1 (here w times) in
    let later_ones : (t : ℕ) → Contains (w ∷ times) t → t ≤ get_or (w ∷ times) (length times) d =
    (λ t behind. subst (λ n. t ≤ get_or (w ∷ times) n d) inner (rise_latest last (w ∷ times) d rise.2 t behind)) in
    subst (λ n. time ≤ get_or (u ∷ w ∷ times) n d) place
    (⊎_elim (λ same. let far = later_ones w (here w times) in omega (arith, same, first, far)) (λ behind. later_ones time behind) (first_or_later time u (w ∷ times) there))

pub some_latest : (times : List ℕ) (x : ℕ) → Some x ≡ slice_get times (length times - 1) → Contains times x × (x ≡ get_or times (length times - 1) x)
some_latest times x is = (there_from_get times (length times - 1) x (sym is), got_at times (length times - 1) x (sym is))
  where
    got_at : (xs : List ℕ) (i : ℕ) (y : ℕ) → slice_get xs i ≡ Some y → y ≡ get_or xs i y
    got_at [] i y e = absurd (none-some y e)
    got_at (z ∷ xs) zero y e = sym (same_Some z y e)
    got_at (z ∷ xs) (suc i) y e = got_at xs i y e

pub latest_of : (now : ℕ) (times : List ℕ) (x : ℕ) → Some x ≡ slice_get times (length times - 1) → RiseTo now times → (x ≤ now) × ((time : ℕ) → Contains times time → time ≤ x)
latest_of now times x is rise =
    let at = some_latest times x is in
    (up_to now times x rise at.0, λ time there. subst (λ y. time ≤ y) (sym at.1) (rise_latest now times x rise time there))

pub no_latest : (times : List ℕ) → slice_get times (length times - 1) ≡ None → times ≡ []
no_latest [] none = refl
no_latest (t ∷ times) none = absurd (none-some (get_or (t ∷ times) (length (t ∷ times) - 1) t)
    (sym none ∙ slice_get-get_or (t ∷ times) (length (t ∷ times) - 1) t (omega arith)))

pub either_way : {X E : Type 0} (r : Result X E) (P Q R : Type 0) → OnOk r P → OnErr r Q → (P → R) → (Q → R) → R
either_way (Ok x) P Q R ok err p q = p ok
either_way (Err e) P Q R ok err p q = q err

pub adds_none : (now : ℕ) (before after : List ℕ) → after ≡ before → AddsAtMost now before after
adds_none now before after same = record {
  from = λ time there. inl (subst (λ l. Contains l time) same there);
  behind = λ time there. inl (subst (λ (l : List ℕ). Contains (drop 1 l) time) same there);
}

pub alone_at_most : (now : ℕ) (before : List ℕ) → before ≡ [] → AddsAtMost now before (now ∷ [])
alone_at_most now before none = record {
  from = λ time there. inr (⊎_elim (λ same. sym same) (λ no. absurd (none_in_nil time no)) (first_or_later time now [] there));
  behind = λ time there. absurd (none_in_nil time there);
}

pub alone_added : (interval : Interval) (now : ℕ) (before : List ℕ) → before ≡ [] → AddsTime interval now before (now ∷ [])
alone_added interval now before none = record {
  serves = λ time there. absurd (none_in_nil time (subst (λ l. Contains l time) none there));
  added = itself interval.high interval.low now (Contains (now ∷ [])) now (here now []);
}

pub first_at : (times : List ℕ) (x d : ℕ) → 0 < length times → x ≡ get_or times 0 x → get_or times 0 d ≡ x
first_at [] x d some is = absurd (omega (arith, some))
first_at (t ∷ times) x d some is = sym is

pub none_at : (times : List ℕ) → is_some_time times ≡ false → times ≡ []
none_at [] none = refl
none_at (t ∷ times) none = absurd (false≢true (sym none))

pub passed_shorter : (high low now : ℕ) (left after : List ℕ) → after ≡ drop 1 left → IsFirstPassed high low now left → length after < length left
passed_shorter high low now [] after is passed = absurd passed
passed_shorter high low now (t ∷ []) after is passed = omega (arith, ap length is)
passed_shorter high low now (a ∷ b ∷ times) after is passed = omega (arith, ap length is)
