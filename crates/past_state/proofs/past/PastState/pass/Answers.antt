use Rattle.past_state.proofs.Vocabulary.{List, ap, sym, subst, All-nil, AreUpToTimeOf, IsPast, IsUpToTimeOf, AllCommitted, OperatorState, on_ok_weaker}
use Rattle.past_state.proofs.CommitLemmas.{all_up_to}
use Rattle.past_state.proofs.PastLemmas.{still_past}
use Rattle.past_state.proofs.UntouchedLemmas.{fit_idle, passed_stands}
use Rattle.past_state.specs.machine.UntouchedSteps.{idle_tables}
use Rattle.past_state.proofs.past.PastState.pass.Goals as goal

pub returns-then-is_empty-clause-up_to : goal.returns-then-is_empty-clause-up_to
returns-then-is_empty-clause-up_to c = λ later within.
    subst (λ (l : List OperatorState). AreUpToTimeOf later l) (sym (c.is_empty.ensures.none.0 c.if-is_empty.true)) (All-nil (λ (o : OperatorState). IsUpToTimeOf later o.memory))

pub returns-then-is_empty-clause-stands : goal.returns-then-is_empty-clause-stands
returns-then-is_empty-clause-stands c = λ events none trace later stands. c.is_empty.ensures.stands c.if-is_empty.true _

pub invariant_of-self : goal.invariant_of-self
invariant_of-self c = (
  still_past (record { guards = c.self.inside.guards.value.items; operators = c.self.inside.operators.value.items.items }) _ c.self.invariant.0 c.pass_shared.ensures.kinds,
  c.self.invariant.1,
)

pub returns-clause-up_to : goal.returns-clause-up_to
returns-clause-up_to c =
    on_ok_weaker c.pass_shared.result (λ committed later within. all_up_to c.args.time later c.self.inside.operators.value.items.items (idle_tables c.self.inside.operators.value.items.items)
    c.pass_shared.new.operators.value.items.items within (fit_idle c.self.inside.operators.value.items.items) committed) c.pass_shared.ensures.ok

pub returns-clause-stands : goal.returns-clause-stands
returns-clause-stands c =
    on_ok_weaker c.pass_shared.result (λ committed. passed_stands c.steps_stand.ensures.committed c.args.self.now c.args.time _ (subst IsPast c.self.view_is c.self.invariant.0) (
      ap (λ p. p.guards) c.self.view_is,
      subst (λ l. AllCommitted c.args.time l (idle_tables l) c.pass_shared.new.operators.value.items.items) (ap (λ p. p.operators) c.self.view_is) committed,
    )) c.pass_shared.ensures.ok
