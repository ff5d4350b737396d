use Rattle.trace_audit.proofs.Vocabulary.{◌≡◌, ◌<◌, ◌+◌, ◌++◌, ◌∷◌, ◌∙◌, [], List, length, get_or, take, ap, sym, subst, arith, length-take-le, take_more, Step, Audits}
use Rattle.trace_audit.proofs.AuditLemmas.{front_before, same_step, within_last}
use Rattle.trace_audit.proofs.auditor.audit.Goals as goal

pub step-requires-clause-stands : goal.step-requires-clause-stands
step-requires-clause-stands c = (take c.loop-step.step-index c.args.trace.now, c.loop-step.invariant.0)

pub step-requires-clause-later : goal.step-requires-clause-later
step-requires-clause-later c =
    let steps = c.as_slice-step-items.ensures.steps in
    let within = subst (λ (l : List Step). c.loop-step.step-index < length l) steps c.loop-step-test.true in
    let at = subst (λ (l : List Step). c.step-item.result ≡ get_or l c.loop-step.step-index c.step-item.result) steps c.step-item.is in
    let before = front_before c.last_time_of_trace.ensures.at_the_end c.last_time_of_trace.ensures.none_later c.args.trace.now c.as_slice-step-items.ensures.trace c.loop-step.step-index within in
    let last = c.loop-step.invariant.0.last in
    let same = same_step c.args.trace.now c.loop-step.step-index c.step-item.result within at in
    omega (arith, before, last, same)

pub step-requires-clause-in_time : goal.step-requires-clause-in_time
step-requires-clause-in_time c =
    let steps = c.as_slice-step-items.ensures.steps in
    let within = subst (λ (l : List Step). c.loop-step.step-index < length l) steps c.loop-step-test.true in
    let at = subst (λ (l : List Step). c.step-item.result ≡ get_or l c.loop-step.step-index c.step-item.result) steps c.step-item.is in
    let none_later = within_last c.last_time_of_trace.ensures.at_the_end c.last_time_of_trace.ensures.none_later c.args.trace.now c.as_slice-step-items.ensures.trace c.loop-step.step-index within in
    let same = same_step c.args.trace.now c.loop-step.step-index c.step-item.result within at in
    omega (arith, none_later, same, c.requires.in_time)

pub step-requires-clause-room : goal.step-requires-clause-room
step-requires-clause-room c =
    let within = subst (λ (l : List Step). c.loop-step.step-index < length l) c.as_slice-step-items.ensures.steps c.loop-step-test.true in
    let position = c.loop-step.invariant.0.position in
    omega (arith, position, length-take-le c.loop-step.step-index c.args.trace.now (omega (arith, within)), within, c.requires.few)

pub loop-step-preserved : goal.loop-step-preserved
loop-step-preserved c =
    let trace = c.args.trace.now in
    let k = c.loop-step.step-index in
    let found = c.step-item.result in
    let steps = c.as_slice-step-items.ensures.steps in
    let within = subst (λ (l : List Step). k < length l) steps c.loop-step-test.true in
    let at = subst (λ (l : List Step). found ≡ get_or l k found) steps c.step-item.is in
    let more : take (k + 1) trace ≡ take k trace ++ found ∷ [] = take_more trace k found within ∙ ap (λ s. take k trace ++ s ∷ []) (sym at) in
    let taken = c.in_ok-step.ensures in
    (subst (Audits c.step.new.self) (sym more) (taken.stands (take k trace) c.loop-step.invariant.0), taken.policy ∙ c.loop-step.invariant.1)
