use Rattle.sleepers.proofs.Vocabulary.{ℕ, List, [], ◌∷◌, Contains, inl, inr, ⊎_elim, sym, subst, get_or, get_or_default, none_in_nil, take_all, Event, StandsAsleep, StandsAwake}
use Rattle.sleepers.proofs.Vocabulary.{Contains-append_left, Contains-push, Contains-push_cases}
use Rattle.sleepers.proofs.LoopLemmas.{in_next}
use Rattle.sleepers.proofs.awake_groups.push_awake_of.Goals as goal

pub loop-number-init : goal.loop-number-init
loop-number-init g c = record {
  kept = λ n there. there;
  awake = λ n there. inl there;
  looked = λ n there. absurd (none_in_nil n there);
}

pub loop-number-preserved-then-not-is_awake : goal.loop-number-preserved-then-not-is_awake
loop-number-preserved-then-not-is_awake g c =
    let groups = c.args.groups.now in
    let found = c.args.found.now in
    let i = c.loop-number.number-index in
    let next = get_or found i 0 in
    let asleep = subst (λ (l : List Event). StandsAsleep l c.args.time groups next) c.from_ref.ensures.value
    (c.is_awake.ensures.asleep c.if-not-is_awake.true (c.requires next)) in
    record {
      kept = c.loop-number.invariant.kept;
      awake = c.loop-number.invariant.awake;
      looked = λ n there. ⊎_elim (λ on. c.loop-number.invariant.looked n on)
          (λ same. inr (subst (λ (m : ℕ). StandsAsleep (c.args.event.now ∷ []) c.args.time groups m) same asleep))
          (in_next found i next n c.loop-number-test.true (get_or_default found i 0 next c.loop-number-test.true) there);
    }

pub loop-number-preserved : goal.loop-number-preserved
loop-number-preserved g c =
    let groups = c.args.groups.now in
    let found = c.args.found.now in
    let i = c.loop-number.number-index in
    let next = get_or found i 0 in
    let old = c.loop-number.numbers.items in
    let new = c.push.new.self.items in
    let awake = subst (λ (l : List Event). StandsAwake l c.args.time groups next) c.from_ref.ensures.value
    (c.is_awake.ensures.awake c.if-not-is_awake.false (c.requires next)) in
    let on = λ (n : ℕ) (there : Contains old n). subst (λ (l : List ℕ). Contains l n) (sym c.in_ok-push.ensures.items) (Contains-append_left old (next ∷ []) n there) in
    record {
      kept = λ n there. on n (c.loop-number.invariant.kept n there);
      awake = λ n there. ⊎_elim (λ was. c.loop-number.invariant.awake n was)
          (λ same. inr (subst (λ (m : ℕ). StandsAwake (c.args.event.now ∷ []) c.args.time groups m) same awake))
          (Contains-push_cases old next n (subst (λ (l : List ℕ). Contains l n) c.in_ok-push.ensures.items there));
      looked = λ n there. ⊎_elim (λ before. ⊎_elim (λ is. inl (on n is)) (λ asleep. inr asleep) (c.loop-number.invariant.looked n before))
          (λ same. inl (subst (λ (m : ℕ). Contains new m) same (subst (λ (l : List ℕ). Contains l next) (sym c.in_ok-push.ensures.items) (Contains-push old next))))
          (in_next found i next n c.loop-number-test.true (get_or_default found i 0 next c.loop-number-test.true) there);
    }

pub returns-clause-looked : goal.returns-clause-looked
returns-clause-looked g c = λ n there.
    c.loop-number.invariant.looked n
    (subst (λ (l : List ℕ). Contains l n) (sym (take_all c.loop-number.number-index c.args.found.now c.loop-number-test.false)) there)
