use Rattle.past_state.proofs.Vocabulary.{◌∙◌, ◌++◌, ◌∷◌, [], ◌<◌, length, ap, sym, refl, arith, append_assoc}
use Rattle.past_state.proofs.CommitLemmas.{below, fits_here, up_to_here, next_committed, commit_none, lengths_add, same_all, same_set}
use Rattle.past_state.proofs.operators.commit_each.Goals as goal

pub loop-step-init : goal.loop-step-init
loop-step-init c = (tt, tt, refl, commit_none c.args.time c.args.operators.now.items, same_all c.args.operators.now.items, refl)

pub index_mut-requires : goal.index_mut-requires
index_mut-requires c =
    let within : c.loop-step.place < length c.loop-step.operators.items = below c.args.time c.args.operators.now.items c.loop-step.operators.items c.args.steps.items c.loop-step.yielded
    c.next.new.self.rest.items c.in-Some.step c.loop-step.place c.requires.fits
    (sym c.into_iter-step-iterator.ensures.into_iter_gives.0 ∙ c.loop-step.invariant.5 ∙ ap (λ l. c.loop-step.yielded ++ l) c.in-Some.ensures.steps.0) c.loop-step.invariant.2
    c.loop-step.invariant.3 in
    omega (arith, within, c.loop-step.operators.ok.0)

pub commit-requires-clause-later : goal.commit-requires-clause-later
commit-requires-clause-later c = up_to_here c.args.time c.args.operators.now.items c.loop-step.operators.items c.args.steps.items c.loop-step.yielded c.next.new.self.rest.items
    c.in-Some.step c.loop-step.place c.index_mut.result.now c.requires.fits
    (sym c.into_iter-step-iterator.ensures.into_iter_gives.0 ∙ c.loop-step.invariant.5 ∙ ap (λ l. c.loop-step.yielded ++ l) c.in-Some.ensures.steps.0) c.loop-step.invariant.2
    c.loop-step.invariant.3 c.index_mut.ensures.value c.requires.later

pub commit-requires-clause-fits : goal.commit-requires-clause-fits
commit-requires-clause-fits c = fits_here c.args.time c.args.operators.now.items c.loop-step.operators.items c.args.steps.items c.loop-step.yielded c.next.new.self.rest.items c.in-Some.step
    c.loop-step.place c.index_mut.result.now c.requires.fits
    (sym c.into_iter-step-iterator.ensures.into_iter_gives.0 ∙ c.loop-step.invariant.5 ∙ ap (λ l. c.loop-step.yielded ++ l) c.in-Some.ensures.steps.0) c.loop-step.invariant.2
    c.loop-step.invariant.3 c.index_mut.ensures.value

pub loop-step-preserved : goal.loop-step-preserved
loop-step-preserved c = (
  tt,
  tt,
  lengths_add c.loop-step.yielded c.in-Some.step c.loop-step.place c.loop-step.invariant.2,
  next_committed c.args.time c.args.operators.now.items c.loop-step.operators.items c.args.steps.items c.loop-step.yielded c.next.new.self.rest.items c.in-Some.step c.loop-step.place
      c.index_mut.result.now c.requires.fits
      (sym c.into_iter-step-iterator.ensures.into_iter_gives.0 ∙ c.loop-step.invariant.5 ∙ ap (λ l. c.loop-step.yielded ++ l) c.in-Some.ensures.steps.0) c.loop-step.invariant.2 c.loop-step.invariant.3
      (record { taken = c.index_mut.result.now.taken; memory = c.commit.new.self }) c.index_mut.ensures.value (refl, c.in_ok-commit.ensures.ok),
  same_set c.args.operators.now.items c.loop-step.operators.items c.loop-step.place c.index_mut.result.now (record { taken = c.index_mut.result.now.taken; memory = c.commit.new.self })
      c.loop-step.invariant.4
      (below c.args.time c.args.operators.now.items c.loop-step.operators.items c.args.steps.items c.loop-step.yielded c.next.new.self.rest.items c.in-Some.step c.loop-step.place c.requires.fits
      (sym c.into_iter-step-iterator.ensures.into_iter_gives.0 ∙ c.loop-step.invariant.5 ∙ ap (λ l. c.loop-step.yielded ++ l) c.in-Some.ensures.steps.0) c.loop-step.invariant.2
      c.loop-step.invariant.3)
      c.index_mut.ensures.value refl c.commit.ensures.kind,
  c.loop-step.invariant.5 ∙ ap (λ l. c.loop-step.yielded ++ l) c.in-Some.ensures.steps.0 ∙ sym (append_assoc c.loop-step.yielded (c.in-Some.step ∷ []) c.next.new.self.rest.items),
)

pub returns-in_err-commit-clause-kinds : goal.returns-in_err-commit-clause-kinds
returns-in_err-commit-clause-kinds c =
    same_set c.args.operators.now.items c.loop-step.operators.items c.loop-step.place c.index_mut.result.now (record { taken = c.index_mut.result.now.taken; memory = c.commit.new.self })
    c.loop-step.invariant.4
    (below c.args.time c.args.operators.now.items c.loop-step.operators.items c.args.steps.items c.loop-step.yielded c.next.new.self.rest.items c.in-Some.step c.loop-step.place c.requires.fits
    (sym c.into_iter-step-iterator.ensures.into_iter_gives.0 ∙ c.loop-step.invariant.5 ∙ ap (λ l. c.loop-step.yielded ++ l) c.in-Some.ensures.steps.0) c.loop-step.invariant.2 c.loop-step.invariant.3)
    c.index_mut.ensures.value refl c.commit.ensures.kind
