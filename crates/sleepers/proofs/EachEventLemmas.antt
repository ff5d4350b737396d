-- Groups that are awake, told event by event.
use Rattle.sleepers.proofs.Vocabulary.{ℕ, List, [], ◌∷◌, ◌++◌, Contains, ◌⊎◌, inl, inr, ⊎_elim, refl, sym, subst, ◌∙◌, same_Some, Contains-append, first_or_later, none_in_nil}
use Rattle.sleepers.proofs.Vocabulary.{AllByRecursion-contains, AllByRecursion-from_contains, HasNoRepeats, Event, Pattern, Entry, Split, HasNone, IsAsleep, IsContainedIn}
use Rattle.sleepers.proofs.Vocabulary.{AllButThose, AreAwake, StandsAsleep, StandsAwake, by_place, entries_at, held, here, later}
use Rattle.sleepers.specs.machine.Agendas.{LeavesAsleep}
use Rattle.sleepers.specs.machine.Groups.{AreAwakeBy}
use Rattle.sleepers.proofs.GroupLemmas.{held_in}
use Rattle.sleepers.proofs.PlaceListLemmas.{by_place_in}

none_and : (told : List Event) (event : Event) (ps : List Pattern) → HasNone ps told → HasNone ps (event ∷ []) → HasNone ps (told ++ event ∷ [])
none_and told event [] a b = tt
none_and told event (p ∷ ps) a b = (
  (λ e there m. ⊎_elim (λ on. a.0 e on m) (λ last. b.0 e last m) (Contains-append told (event ∷ []) e there)),
  none_and told event ps a.1 b.1,
)

none_fewer : (events : List Event) (event : Event) → Contains events event → (ps : List Pattern) → HasNone ps events → HasNone ps (event ∷ [])
none_fewer events event on [] none = tt
none_fewer events event on (p ∷ ps) none = (
  (λ e there m. ⊎_elim (λ same. none.0 e (subst (λ (x : Event). Contains events x) same on) m) (λ nil. absurd (none_in_nil e nil))
      (first_or_later e event [] there)),
  none_fewer events event on ps none.1,
)

none_nothing : (ps : List Pattern) → HasNone ps []
none_nothing [] = tt
none_nothing (p ∷ ps) = ((λ e there m. none_in_nil e there), none_nothing ps)

module _ {T : Type 0} (time : ℕ) where
  asleep_fewer : (events : List Event) (event : Event) → Contains events event → (x : Entry T) → IsAsleep events time x → IsAsleep (event ∷ []) time x
  asleep_fewer events event on x a =
      record { patterns = a.patterns; waits = a.waits; none = none_fewer events event on a.patterns a.none; in_time = a.in_time }

  asleep_without : (events : List Event) (x : Entry T) → IsAsleep events time x → IsAsleep [] time x
  asleep_without events x a = record { patterns = a.patterns; waits = a.waits; none = none_nothing a.patterns; in_time = a.in_time }

  asleep_and : (told : List Event) (event : Event) (x : Entry T) → IsAsleep told time x → LeavesAsleep event x → IsAsleep (told ++ event ∷ []) time x
  asleep_and told event x a leaves =
      record { patterns = a.patterns; waits = a.waits; none = none_and told event a.patterns a.none (leaves a.patterns a.waits); in_time = a.in_time }

  pub asleep_leaves : (event : Event) (x : Entry T) → IsAsleep (event ∷ []) time x → LeavesAsleep event x
  asleep_leaves event x a ps waits = subst (λ (l : List Pattern). HasNone l (event ∷ [])) (same_Some a.patterns ps (sym a.waits ∙ waits)) a.none

  module _ (events : List Event) (groups : List (Split (Entry T))) where
    awake_wider : (event : Event) → Contains events event → (number : ℕ) → StandsAwake (event ∷ []) time groups number → StandsAwake events time groups number
    awake_wider event on number s = record { some = s.some; none = λ x there asleep. s.none x there (asleep_fewer events event on x asleep) }

    awake_without : (number : ℕ) → StandsAwake [] time groups number → StandsAwake events time groups number
    awake_without number s = record { some = s.some; none = λ x there asleep. s.none x there (asleep_without events x asleep) }

    -- none of the events has told anything
    pub by_none : (numbers : List ℕ) → AreAwake [] time groups numbers → AreAwakeBy events [] time groups numbers
    by_none numbers are = record {
      awake = λ n there. awake_without n (AllByRecursion-contains (StandsAwake [] time groups) numbers n are.awake there);
      others = are.others;
    }

    -- one more event has told
    pub by_more : (event : Event) (told : List Event) (old new : List ℕ) → Contains events event → IsContainedIn old new
        → ((n : ℕ) → Contains new n → Contains old n ⊎ StandsAwake (event ∷ []) time groups n)
        → ((n : ℕ) (x : Entry T) → Contains (entries_at groups n) x → Contains new n ⊎ LeavesAsleep event x)
        → AreAwakeBy events told time groups old → AreAwakeBy events (told ++ event ∷ []) time groups new
    by_more event told old new on kept awake looked is = record {
      awake = λ n there. ⊎_elim (λ was. is.awake n was) (λ now. awake_wider event on n now) (awake n there);
      others = λ n x there. ⊎_elim (λ among. inl among)
          (λ leaves. ⊎_elim (λ was. inl (kept n was)) (λ asleep. inr (asleep_and told event x asleep leaves)) (is.others n x there))
          (looked n x there);
    }

    -- all events have told
    pub by_all : (old new : List ℕ) → HasNoRepeats new → IsContainedIn old new → IsContainedIn new old → AreAwakeBy events events time groups old
        → AreAwake events time groups new
    by_all old new once kept among is = record {
      once = once;
      awake = AllByRecursion-from_contains (StandsAwake events time groups) new (λ n there. is.awake n (among n there));
      others = λ n x there. ⊎_elim (λ on. inl (kept n on)) (λ asleep. inr asleep) (is.others n x there);
    }

    each_asleep : (xs : List (Entry T)) → ((x : Entry T) → Contains xs x → IsAsleep events time x) → AllButThose (IsAsleep events time) xs []
    each_asleep [] each = refl
    each_asleep (x ∷ xs) each = inr (each x (here x xs), each_asleep xs (λ y there. each y (later y x xs there)))

    -- no group is awake
    pub all_asleep : ((number : ℕ) → StandsAsleep events time groups number) → AllButThose (IsAsleep events time) (by_place (held groups)) []
    all_asleep each = each_asleep (by_place (held groups)) (λ x there.
        let (number, on) = held_in groups x (by_place_in (held groups) x there) in each number x on)
