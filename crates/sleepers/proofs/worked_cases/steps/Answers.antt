use Rattle.sleepers.proofs.Vocabulary.{ℕ, [], ◌∷◌, Contains, inl, ⊎_elim, refl, sym, subst, arith, here, first_or_later, none_in_nil, any_pattern, ended, sleeper, ArePlaced, IsAsleep, entry_places}
use Rattle.sleepers.proofs.Vocabulary.{IsPlaceBefore, Place, beginning_at, Entry}
use Rattle.sleepers.proofs.worked_cases.steps.Goals as goal

one_placed : (x : Entry ℕ) → ArePlaced (x ∷ [])
one_placed x = ((λ q there. absurd (none_in_nil q there)), tt)

awake : (x : Entry ℕ) → Contains (ended.entry ∷ []) x → IsAsleep [] 5 x → ⊥
awake x there asleep =
    ⊎_elim (λ same. let in_time = (subst (λ (y : Entry ℕ). IsAsleep [] 5 y) (sym same) asleep).in_time in omega (arith, in_time))
    (λ on. none_in_nil x on) (first_or_later x ended.entry [] there)

pub returns-clause-step : goal.returns-clause-step
returns-clause-step c = record {
  placed = one_placed ended.entry;
  made = ((omega arith, tt), tt);
  looked_at = record {
    once = ((λ there. none_in_nil ended.entry there), tt);
    without = λ x there. (there, awake x there);
    others = λ x there. inl there;
  };
  go_on = (refl, tt);
  taken_out = ([], record { front = []; back = []; fewer_is = refl; more_is = refl; placed = one_placed ended.entry }, refl);
  first_beginning = refl;
}

pub returns-clause-puts_in : goal.returns-clause-puts_in
returns-clause-puts_in c =
    let one = sleeper (beginning_at 1 0 ∷ beginning_at 10 0 ∷ []) 9 in
    let two = sleeper (beginning_at 2 0 ∷ []) 9 in
    let first = λ (q : Place) (there : Contains (entry_places (two ∷ [])) q).
    ⊎_elim (λ same. subst (λ (p : Place). IsPlaceBefore one.place p) same (inl (inl (omega arith)))) (λ on. absurd (none_in_nil q on)) (first_or_later q two.place [] there) in (
      one ∷ [],
      record { front = []; back = []; fewer_is = refl; more_is = refl; placed = one_placed one },
      (
        one ∷ two ∷ [],
        record { front = one ∷ []; back = []; fewer_is = refl; more_is = refl; placed = (first, one_placed two) },
        refl,
      ),
    )

pub returns-clause-not_made_twice : goal.returns-clause-not_made_twice
returns-clause-not_made_twice c = λ step. let below = step.made.0.0 in omega (arith, below)

pub returns-clause-not_while_asleep : goal.returns-clause-not_while_asleep
returns-clause-not_while_asleep c = λ step. (step.looked_at.without ended.entry (here ended.entry [])).1 (record {
  patterns = any_pattern ∷ [];
  waits = refl;
  none = ((λ event there matches. none_in_nil event there), tt);
  in_time = omega arith;
})
