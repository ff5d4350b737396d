use Rattle.past_state.proofs.Vocabulary.{ap, sym, subst, IsPast, AllMemoriesFit, AllCommitted, on_ok_weaker}
use Rattle.past_state.proofs.CommitLemmas.{all_up_to}
use Rattle.past_state.proofs.PastLemmas.{fits_run, still_past}
use Rattle.past_state.proofs.past.PastState.commit.Goals as goal

pub commit_shared-requires-clause-fits : goal.commit_shared-requires-clause-fits
commit_shared-requires-clause-fits c =
    subst (λ l. AllMemoriesFit l c.tables.inside.steps.items) (sym (ap (λ p. p.operators) c.self.view_is))
    (subst (AllMemoriesFit c.args.self.now.operators) (sym (ap (λ t. t.steps) c.tables.view_is)) (fits_run _ _ _ _ _ _ c.requires.are.2.1))

pub invariant_of-self : goal.invariant_of-self
invariant_of-self c = (
  still_past (record { guards = c.self.inside.guards.value.items; operators = c.self.inside.operators.value.items.items }) _ c.self.invariant.0 c.commit_shared.ensures.kinds,
  c.self.invariant.1,
)

pub returns-clause-up_to : goal.returns-clause-up_to
returns-clause-up_to c =
    on_ok_weaker c.commit_shared.result (λ committed later within. all_up_to c.args.time later c.self.inside.operators.value.items.items c.tables.inside.steps.items
    c.commit_shared.new.operators.value.items.items within
    (subst (λ l. AllMemoriesFit l c.tables.inside.steps.items) (sym (ap (λ p. p.operators) c.self.view_is))
    (subst (AllMemoriesFit c.args.self.now.operators) (sym (ap (λ t. t.steps) c.tables.view_is)) (fits_run _ _ _ _ _ _ c.requires.are.2.1))) committed) c.commit_shared.ensures.ok

pub returns-clause-stands : goal.returns-clause-stands
returns-clause-stands c =
    on_ok_weaker c.commit_shared.result (λ committed. c.steps_stand.ensures.committed c.args.self.now c.args.time c.args.events.now c.args.tables _ (subst IsPast c.self.view_is c.self.invariant.0) (
      ap (λ p. p.guards) c.self.view_is,
      subst (λ l. AllCommitted c.args.time l c.args.tables.steps c.commit_shared.new.operators.value.items.items) (ap (λ p. p.operators) c.self.view_is)
          (subst (λ l. AllCommitted c.args.time c.self.inside.operators.value.items.items l c.commit_shared.new.operators.value.items.items) (ap (λ t. t.steps) c.tables.view_is) committed),
    )) c.commit_shared.ensures.ok
