-- What is left of rows and dues at a time, where the place of each ended one was settled, and then of each that is far.
use Rattle.windows.proofs.Vocabulary.{◌≡◌, ◌∙◌, ◌⊎◌, inl, inr, refl, ⊎_elim, ℕ, ◌-◌, ◌<◌, ◌≤◌, List, [], ◌∷◌, drop, All, Contains, Option, Some, sym, ap, subst, arith, All-contains, Interval, Value}
use Rattle.windows.proofs.Vocabulary.{cases_le, all_from, later, there_from_get, AreWindowEntries, AreLeast, Forgets, HasBehindAt, HasTimeAt, IsSettledAt, Queue, AreInReach, AreQueued, AreUpToTime}
use Rattle.windows.proofs.Vocabulary.{LetsGo, waiting_of, Due, due, HasNoRepeats, IsEndedTime, AreLeastTimes}
use Rattle.windows.specs.machine.WindowEntries.{rows_of}
use Rattle.windows.proofs.EntryLemmas.{least_with}
use Rattle.windows.proofs.PlaceLemmas.{behind_at_same, place_of, times_at_same}
use Rattle.windows.proofs.TimeLemmas.{least_from, least_near}

pub behind_among : (times : List ℕ) (time : ℕ) → Contains (drop 1 times) time → Contains times time
behind_among [] time there = there
behind_among (t ∷ times) time there = later time t times there

has_behind : (es : List (List Value × List ℕ)) (place time : ℕ) → HasBehindAt es place time → HasTimeAt es place time
has_behind es place time has = (has.0, has.1, behind_among has.0.1 time has.2)

-- times of which none is past the end, and none but the first far enough
none_or_least : (high : Option ℕ) (end low now : ℕ) (times : List ℕ) → high ≡ Some end → ((time : ℕ) → Contains times time → now - time ≤ end)
    → ((time : ℕ) → Contains (drop 1 times) time → now - time < low) → (times ≡ []) ⊎ AreLeastTimes high low now times
none_or_least high end low now [] is live near = inl refl
none_or_least high end low now (t ∷ times) is live near = inr (subst (λ h. AreLeastTimes h low now (t ∷ times)) (sym is) (least_from end low now (t ∷ times) (omega arith) live near))

pub still_up_to : (Gone Passed : ℕ → Type 0) (now : ℕ) (before after : Queue) → LetsGo Gone Passed before after → AreUpToTime now before.dues → AreUpToTime now after.dues
still_up_to Gone Passed now before after goes up_to = all_from (λ d. d.time ≤ now) after.dues (λ d there. All-contains (λ x. x.time ≤ now) before.dues d up_to (goes.among d there))

pub still_in_reach : (high : Option ℕ) (end now : ℕ) (Gone Passed : ℕ → Type 0) (before after : Queue) → high ≡ Some end → LetsGo Gone Passed before after
    → All (λ d. now - d.time ≤ end) before.dues → AreInReach high now after.dues
still_in_reach high end now Gone Passed before after is goes live = subst (λ h. AreInReach h now after.dues) (sym is)
    (all_from (λ d. now - d.time ≤ end) after.dues (λ d there. All-contains (λ x. now - x.time ≤ end) before.dues d live (goes.among d there)))

-- a place that is settled stays so
pub settled_then : (high : ℕ) (interval : Interval) (now place : ℕ) (middle after : List (List Value × List ℕ)) → HasNoRepeats (rows_of middle) → Forgets interval now middle after
    → IsSettledAt high interval.low now middle place → IsSettledAt high interval.low now after place
settled_then high interval now place middle after unique second settled = λ time. (
  λ has. (settled time).0 (times_at_same middle after second.rows unique second.from place time has),
  λ has. (settled time).1 (behind_at_same middle after second.rows unique second.behind place time has),
)

module _ (interval : Interval) (high last now : ℕ) (es e1 : List (List Value × List ℕ)) (q0 q1 : Queue) (is : interval.high ≡ Some high)
    (queued : AreQueued es q0) (unique : HasNoRepeats (rows_of es)) (f1 : Forgets interval now es e1)
    (s1 : (d : Due) → Contains q0.dues d → IsEndedTime (Some high) now d.time → IsSettledAt high interval.low now e1 d.place)
    (l1 : LetsGo (IsEndedTime (Some high) now) (IsEndedTime (Some high) now) q0 q1) where
  from1 : (place time : ℕ) → HasTimeAt e1 place time → HasTimeAt es place time
  from1 = times_at_same es e1 f1.rows unique f1.from

  behind1 : (place time : ℕ) → HasBehindAt e1 place time → HasBehindAt es place time
  behind1 = behind_at_same es e1 f1.rows unique f1.behind

  live : (place time : ℕ) → HasTimeAt e1 place time → now - time ≤ high
  live place time has = ⊎_elim (λ live. live) (λ ended. (s1 (due time place) (queued.times place time (from1 place time has)) ended time).0 has) (cases_le (now - time) high)

  times1 : (place time : ℕ) → HasTimeAt e1 place time → Contains q1.dues (due time place)
  times1 place time has = ⊎_elim (λ ended. absurd (let near = live place time has in omega (arith, ended, near))) (λ stays. stays)
      (l1.stays (due time place) (queued.times place time (from1 place time has)))

  waits1 : (place time : ℕ) → HasBehindAt e1 place time → Contains (waiting_of q1) (due time place)
  waits1 place time has = ⊎_elim (λ ended. absurd (let near = live place time (has_behind e1 place time has) in omega (arith, ended, near))) (λ waits. waits)
      (l1.waits (due time place) (queued.waiting place time (behind1 place time has)))

  pub queued1 : AreQueued e1 q1
  queued1 = record { times = times1; waiting = waits1 }

  -- where 0 is far enough, no row has more than one time
  pub least1 : AreLeast interval last es → (0 < interval.low → ⊥) → AreLeast interval now e1
  least1 least near = all_from (λ e. (e.1 ≡ []) ⊎ AreLeastTimes interval.high interval.low now e.1) e1 (λ e there.
      let at = place_of e1 e there in
      none_or_least interval.high high interval.low now e.1 is (λ time has. live at.0 time (e, at.1, has))
      (λ time has. let was = behind1 at.0 time (e, at.1, has) in
      let left : last - time < interval.low = least_near high interval.low last was.0.1
      (subst (λ h. AreLeastTimes h interval.low last was.0.1) is
      (least_with interval last es was.0.0 was.0.1 time least (there_from_get es at.0 was.0 was.1) (behind_among was.0.1 time was.2))) time was.2 in
      absurd (near (omega (arith, left)))))

  module _ (e2 : List (List Value × List ℕ)) (q2 : Queue) (f2 : Forgets interval now e1 e2)
      (s2 : (d : Due) → Contains (waiting_of q1) d → interval.low ≤ now - d.time → IsSettledAt high interval.low now e2 d.place)
      (l2 : LetsGo (λ _. ⊥) (λ time. interval.low ≤ now - time) q1 q2) where
    unique1 : HasNoRepeats (rows_of e1)
    unique1 = subst HasNoRepeats (sym f1.rows) unique

    from2 : (place time : ℕ) → HasTimeAt e2 place time → HasTimeAt e1 place time
    from2 = times_at_same e1 e2 f2.rows unique1 f2.from

    behind2 : (place time : ℕ) → HasBehindAt e2 place time → HasBehindAt e1 place time
    behind2 = behind_at_same e1 e2 f2.rows unique1 f2.behind

    near2 : (place time : ℕ) → HasBehindAt e2 place time → now - time < interval.low
    near2 place time has = ⊎_elim (λ far. (s2 (due time place) (waits1 place time (behind2 place time has)) far time).1 has) (λ near. near) (cases_le interval.low (now - time))

    pub queued2 : AreQueued e2 q2
    queued2 = record {
      times = λ place time has. ⊎_elim (λ none. absurd none) (λ stays. stays) (l2.stays (due time place) (times1 place time (from2 place time has)));
      waiting = λ place time has. ⊎_elim (λ far. absurd (let near = near2 place time has in omega (arith, far, near))) (λ waits. waits)
          (l2.waits (due time place) (waits1 place time (behind2 place time has)));
    }

    pub least2 : AreLeast interval now e2
    least2 = all_from (λ e. (e.1 ≡ []) ⊎ AreLeastTimes interval.high interval.low now e.1) e2 (λ e there.
        let at = place_of e2 e there in
        none_or_least interval.high high interval.low now e.1 is (λ time has. live at.0 time (from2 at.0 time (e, at.1, has)))
        (λ time has. near2 at.0 time (e, at.1, has)))
