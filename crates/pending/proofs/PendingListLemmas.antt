-- A list of pending instances as its callers see it.
use Rattle.pending.proofs.Vocabulary.{ℕ, List, [], ◌∷◌, ⊎_elim, inl, inr, ap, Event, AllButThose, IsAsleep, Entry, Instance, SleepsNow, all_listed}

-- those that are awake are all but those that sleep
pub listed_but : (events : List Event) (moment : ℕ) (all rest : List (Entry Instance)) → AllButThose (IsAsleep events moment) all rest
    → AllButThose (SleepsNow events moment) (all_listed all) (all_listed rest)
listed_but events moment [] rest but = ap all_listed but
listed_but events moment (e ∷ all) rest but = ⊎_elim
    (λ c. inl (
      all_listed c.0,
      (λ sleeps. c.1 (record { patterns = sleeps.patterns; waits = sleeps.waits; none = sleeps.none; in_time = sleeps.in_time })),
      listed_but events moment all c.0 c.2,
      ap all_listed c.3,
    ))
    (λ c. let asleep = c.0 in inr (
      record { patterns = asleep.patterns; waits = asleep.waits; none = asleep.none; in_time = asleep.in_time },
      listed_but events moment all rest c.1,
    )) but
