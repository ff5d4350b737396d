-- What the flush does, whatever the output came to before it.
use Rattle.enf_run.proofs.Vocabulary.{Result, Err, Cut, FlushesAfter, ap, subst, sym, ◌∙◌, err_from_is_err_and}
use Rattle.enf_run.proofs.LastFlushLemmas.{flushed_done, flushed_fault, flushed_held, flushed_lack}
use Rattle.enf_run.specs.declared.endings.Cut.TheVariants as cuts
use Rattle.enf_run.proofs.step_lines.hand_on_after.Goals as goal

pub returns-in-Ok : goal.returns-in-Ok
returns-in-Ok g c =
    let gate = g.G.Sink.seen c.args.gate.now in
    let result = c.hand_on.result in
    let flushed = flushed_done result gate (g.G.Sink.seen c.hand_on.new.gate) c.hand_on.ensures in
    subst (λ (given : Result (Unit {0}) Cut). FlushesAfter {T = Unit {0}} given result gate (g.G.Sink.seen c.hand_on.new.gate)) (sym c.in-Ok.is) flushed

pub returns-in_err-hand_on-in-Err-NoMemory : goal.returns-in_err-hand_on-in-Err-NoMemory
returns-in_err-hand_on-in-Err-NoMemory g c =
    let p = err_from_is_err_and c.from_residual.result c.from_residual.ensures.1 in
    let gate = g.G.Sink.seen c.args.gate.now in
    let after = g.G.Sink.seen c.hand_on-in-Err-NoMemory.new.gate in
    let cut = c.in_err-hand_on-in-Err-NoMemory.field-0.0 in
    let lost = c.in-Err-NoMemory.is ∙ ap Err (rw c.in-Err-NoMemory.is at c.in-Err-NoMemory.field-0-is) in
    rw (p.1, p.2) (subst (λ (given : Result (Unit {0}) Cut). FlushesAfter {T = Unit {0}} given (Err cut) gate after) (sym lost)
    (flushed_held cut gate after c.in_err-hand_on-in-Err-NoMemory.ensures))

pub returns-in_ok-hand_on-in-Err-NoMemory : goal.returns-in_ok-hand_on-in-Err-NoMemory
returns-in_ok-hand_on-in-Err-NoMemory g c =
    let gate = g.G.Sink.seen c.args.gate.now in
    let after = g.G.Sink.seen c.hand_on-in-Err-NoMemory.new.gate in
    let lost = c.in-Err-NoMemory.is ∙ ap Err (rw c.in-Err-NoMemory.is at c.in-Err-NoMemory.field-0-is) in
    subst (λ (given : Result (Unit {0}) Cut). FlushesAfter {T = Unit {0}} given (Err cuts.NoMemory) gate after) (sym lost)
    (flushed_lack gate after c.in_ok-hand_on-in-Err-NoMemory.ensures)

pub returns-in-Err-WriteFault : goal.returns-in-Err-WriteFault
returns-in-Err-WriteFault g c =
    let gate = g.G.Sink.seen c.args.gate.now in
    let failed = c.in-Err-WriteFault.is ∙ ap Err (rw c.in-Err-WriteFault.is at c.in-Err-WriteFault.field-0-is) in
    subst (λ (given : Result (Unit {0}) Cut). FlushesAfter {T = Unit {0}} given (Err cuts.WriteFault) gate gate) (sym failed) (flushed_fault gate)
