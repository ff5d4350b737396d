-- Who is still to be asked, as a step goes on.
use Rattle.pending.proofs.Vocabulary.{◌≡◌, ◌∙◌, ◌⊎◌, ℕ, List, [], ◌∷◌, ◌++◌, Contains, arith, drop, inl, inr, ⊎_elim, sym, ap, subst, Event, Entry, Instance, Pattern, Listed, SleepsNow, listed_of}
use Rattle.pending.proofs.Vocabulary.{Contains-append, first_or_later, later, none_in_nil}
use Rattle.sleepers.specs.machine.Agendas.{LeavesAsleep}
use Rattle.sleepers.specs.machine.Patterns.{HasNone}
use Rattle.pending.proofs.AskingLemmas.{awake_ahead}
use Rattle.pending.specs.machine.AskedEntries.{AskingList, BeginsAsking, IsAskingAt, IsFirstAhead, PassesFirst, RousesAsking}

-- ---- events of none of the patterns

none_of : (patterns : List Pattern) (before after : List Event) → ((e : Event) → Contains after e → Contains before e) → HasNone patterns before → HasNone patterns after
none_of [] before after come none = tt
none_of (p ∷ patterns) before after come none = ((λ e there matches. none.0 e (come e there) matches), none_of patterns before after come none.1)

none_more : (patterns : List Pattern) (before : List Event) (event : Event) → HasNone patterns before → HasNone patterns (event ∷ []) → HasNone patterns (before ++ event ∷ [])
none_more [] before event none one = tt
none_more (p ∷ patterns) before event none one = (
  (λ e there matches. ⊎_elim (λ on. none.0 e on matches) (λ last. one.0 e last matches) (Contains-append before (event ∷ []) e there)),
  none_more patterns before event none.1 one.1,
)

-- one that sleeps still sleeps where events went, and where one came that is of none of its patterns
pub sleeps_of : (before after : List Event) (moment : ℕ) (x : Entry Instance) → ((e : Event) → Contains after e → Contains before e)
    → SleepsNow before moment (listed_of x) → SleepsNow after moment (listed_of x)
sleeps_of before after moment x come asleep = record {
  patterns = asleep.patterns;
  waits = asleep.waits;
  none = none_of asleep.patterns before after come asleep.none;
  in_time = asleep.in_time;
}

sleeps_on : (before : List Event) (event : Event) (moment : ℕ) (x : Entry Instance) → LeavesAsleep event x
    → SleepsNow before moment (listed_of x) → SleepsNow (before ++ event ∷ []) moment (listed_of x)
sleeps_on before event moment x leaves asleep = record {
  patterns = asleep.patterns;
  waits = asleep.waits;
  none = none_more asleep.patterns before event asleep.none (leaves asleep.patterns asleep.waits);
  in_time = asleep.in_time;
}

module _ (Met : Instance → Type 0) (events : List Event) (moment : ℕ) where
  -- at first, where those that sleep miss nothing
  pub asking_begins : (listed : List Listed) (asking : AskingList) → BeginsAsking events moment listed asking
      → ((x : Entry Instance) → Contains asking.all x → SleepsNow events moment (listed_of x) → Met x.item) → IsAskingAt Met events moment asking
  asking_begins listed asking begins met x there =
      ⊎_elim (λ on. inl on) (λ asleep. inr (met x there asleep, inl asleep))
      (awake_ahead (λ y. SleepsNow events moment (listed_of y)) asking.all asking.ahead begins.ahead x there)

  -- those in front of the first
  pub asking_front : (asking : AskingList) (i : Instance) → IsAskingAt Met events moment asking → (first : IsFirstAhead asking i)
      → (x : Entry Instance) → Contains first.front x → Met x.item
  asking_front asking i is first x there =
      ⊎_elim (λ ahead. absurd (first.none x there ahead)) (λ on. on.0)
      (is x (subst (λ (l : List (Entry Instance)). Contains l x) (sym first.are) (in_front first.front (first.entry ∷ first.back) x there)))
    where
      in_front : (xs ys : List (Entry Instance)) (y : Entry Instance) → Contains xs y → Contains (xs ++ ys) y
      in_front [] ys y at = absurd (none_in_nil y at)
      in_front (z ∷ xs) ys y at = ⊎_elim (λ same. (0, omega arith, same)) (λ on. later y z (xs ++ ys) (in_front xs ys y on)) (first_or_later y z xs at)

  -- all, where none is still to be asked
  pub asking_ended : (asking : AskingList) → IsAskingAt Met events moment asking → asking.ahead ≡ [] → (x : Entry Instance) → Contains asking.all x → Met x.item
  asking_ended asking is none x there =
      ⊎_elim (λ ahead. absurd (none_in_nil x (subst (λ (l : List (Entry Instance)). Contains l x) none ahead))) (λ on. on.0) (is x there)

  -- the first was asked and misses nothing
  pub asking_passes : (before after : AskingList) (i : Instance) → IsAskingAt Met events moment before → IsFirstAhead before i → PassesFirst before after → Met i
      → IsAskingAt Met events moment after
  asking_passes before after i is first passes met x there =
      ⊎_elim
      (λ ahead. ⊎_elim
      (λ same. inr (
        subst (λ (y : Entry Instance). Met y.item) same (subst Met (sym first.is) met),
        inr (subst (λ (y : Entry Instance). Contains after.asked y) same (passes.first first.entry (first.ahead ∙ ap (λ (l : List (Entry Instance)). first.entry ∷ l) (sym passes.ahead)))),
      ))
      (λ on. inl (subst (λ (l : List (Entry Instance)). Contains l x) (sym passes.ahead) on))
      (first_or_later x first.entry (drop 1 before.ahead) (subst (λ (l : List (Entry Instance)). Contains l x) first.ahead ahead)))
      (λ on. inr (on.0, ⊎_elim (λ asleep. inl asleep) (λ asked. inr (passes.kept x asked)) on.1))
      (is x (subst (λ (l : List (Entry Instance)). Contains l x) passes.all there))

  -- those that an event wakes are to be asked; the others know of it
  pub asking_roused : (event : Event) (before after : AskingList) → RousesAsking event before after → IsAskingAt Met events moment before
      → IsAskingAt Met (events ++ event ∷ []) moment after
  asking_roused event before after rouses is x there =
      ⊎_elim (λ ahead. inl (rouses.ahead x ahead))
      (λ on. ⊎_elim
      (λ asleep. ⊎_elim (λ ahead. inl ahead) (λ leaves. inr (on.0, inl (sleeps_on events event moment x leaves asleep))) (rouses.roused x there))
      (λ asked. inr (on.0, inr (subst (λ (l : List (Entry Instance)). Contains l x) (sym rouses.asked) asked))) on.1)
      (is x (subst (λ (l : List (Entry Instance)). Contains l x) rouses.all there))

-- another property, where those have it that sleep, and those that were asked and had the one
pub asking_turns : (Met After : Instance → Type 0) (events : List Event) (moment : ℕ) (before after : AskingList) → after.all ≡ before.all
    → ((x : Entry Instance) → Contains before.ahead x → Contains after.ahead x)
    → ((x : Entry Instance) → Contains after.all x → SleepsNow events moment (listed_of x) → After x.item)
    → ((x : Entry Instance) → Contains after.all x → Contains before.asked x → Met x.item → Contains after.ahead x ⊎ (Contains after.asked x × After x.item))
    → IsAskingAt Met events moment before → IsAskingAt After events moment after
asking_turns Met After events moment before after all ahead sleeps asked is x there =
    ⊎_elim (λ on. inl (ahead x on))
    (λ on. ⊎_elim (λ asleep. inr (sleeps x there asleep, inl asleep))
    (λ was. ⊎_elim (λ back. inl back) (λ stays. inr (stays.1, inr stays.0)) (asked x there was on.0)) on.1)
    (is x (subst (λ (l : List (Entry Instance)). Contains l x) all there))
