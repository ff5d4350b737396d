-- Instances that sleep miss nothing.
use Rattle.choice_step.proofs.Vocabulary.{◌≡◌, ℕ, Bool, false, List, [], ⊎_elim, sym, ap, subst, arith, ◌<◌, ◌∙◌, step_moment, Event, Step, VarId}
use Rattle.choice_step.proofs.Vocabulary.{Formula, Plan, time_now, MissingOfExists, MissingOf, CanAskOf, HasNone, SleepsNow, SleepersMissNothing, EarlyMissNothing, Listed, Wait}
use Rattle.choice_step.proofs.Vocabulary.{IsWaitOf, is_forced, trace_with_step}
use Rattle.pending.proofs.MomentLemmas.{before_last, not_begun, not_forced}
use Rattle.choice_step.proofs.UniquenessLemmas.{last_step}
use Rattle.choice_step.proofs.FirstActionLemmas.{Met}

module _ (exists : MissingOfExists) (sleep : SleepersMissNothing) (early : EarlyMissNothing) (guards : List (Formula × List VarId)) (plans : List Plan) (inserted : Bool)
    (trace : List Step) (time : ℕ) (events : List Event) where
  abbrev now : List Step
  now = trace_with_step trace time events

  pub sleeper_met : (x : Listed) → CanAskOf guards plans x.instance → IsWaitOf plans x.wait x.instance → SleepsNow events (step_moment inserted time) x
      → Met plans inserted now x.instance
  sleeper_met x can is sleeps =
      let i = x.instance in
      let step : Step = record { time = time; events = events } in
      let last = last_step trace step in
      let at : time_now now ≡ time = ap (λ (s : Step). s.time) last in
      let none = subst (HasNone sleeps.patterns) (sym (ap (λ (s : Step). s.events) last)) sleeps.none in
      let before = before_last plans x.wait i (step_moment inserted time) is sleeps.in_time in
      let waits : is_forced inserted (time_now now) i ≡ false = subst (λ t. is_forced inserted t i ≡ false) (sym at) (not_forced inserted time i.high before) in
      let found = exists guards plans now i false can in
      let nothing = ⊎_elim
      (λ open_is. sleep guards plans now i can (record { patterns = sleeps.patterns; wakes = sym (ap (λ (w : Wait). w.patterns) open_is) ∙ sleeps.waits; none = none }) found.0 found.1)
      (λ early_is.
      let first = not_begun inserted time i (subst (λ (w : Wait). step_moment inserted time < w.until) early_is sleeps.in_time) in
      early guards plans now i can (record {
        patterns = sleeps.patterns;
        wakes = sym (ap (λ (w : Wait). w.patterns) early_is) ∙ sleeps.waits;
        none = none;
        before = omega (arith, first, at);
      }) found.0 found.1) is in
      subst (λ b. MissingOf plans now i b []) (sym waits) (subst (MissingOf plans now i false) nothing found.1)
