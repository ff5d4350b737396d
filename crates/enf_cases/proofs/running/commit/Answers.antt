use Rattle.std.proofs.Common.{refl}
use Rattle.enf_cases.proofs.RunningLemmas.{goes_on}
use Rattle.enf_cases.proofs.running.commit.Goals as goal

pub commit-requires-clause-later : goal.commit-requires-clause-later
commit-requires-clause-later c = c.requires.stands.up_to c.args.step.now.time c.requires.from

pub returns-clause-stands : goal.returns-clause-stands
returns-clause-stands c =
    goes_on c.trace_grows.ensures.trace c.trace_grows.ensures.last c.args.running.now.last c.args.running.now.state c.commit.new.self c.args.step.now c.requires.from c.as_slice-events.ensures.distinct
    c.requires.stands c.in_ok-commit.ensures.up_to (λ trace later stands. c.in_ok-commit.ensures.stands trace c.args.step.now refl refl later stands c.requires.are)
