use Rattle.enforcer_core.proofs.Vocabulary.{acted_step, acted_steps, arith, length-map}
use Rattle.enforcer_core.proofs.RecordLemmas.{tick_out}
use Rattle.enforcer_core.proofs.step_memory.Remembered.let_pass.Goals as goal

pub returns-clause-out : goal.returns-clause-out
returns-clause-out c =
    rw c.from_vec.ensures
    (tick_out c.step_laws.ensures c.args.policy.now c.args.self.now c.pass.new.self c.args.clock c.in_ok-steps.field-0.clock c.args.time c.requires.not_over
    (acted_steps c.in_ok-steps.field-0.steps.items) c.in_ok-steps.ensures.passes c.in_ok-steps.ensures.none_left
    (let few = c.in_ok-steps.ensures.few in omega (arith, few, length-map c.in_ok-steps.field-0.steps.items acted_step)))
