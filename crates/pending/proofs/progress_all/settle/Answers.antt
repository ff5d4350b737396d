use Rattle.pending.proofs.Vocabulary.{arith, map, plan_of}
use Rattle.pending.proofs.EntryLemmas.{count_more, fewer_kept}
use Rattle.pending.proofs.progress_all.settle.Goals as goal

pub returns-in-Some-clause-kept : goal.returns-in-Some-clause-kept
returns-in-Some-clause-kept c = λ steps kept. fewer_kept steps c.in-Some.entry c.take.new.self.entries c.args.sleepers.now.entries c.in-Some.ensures.some kept

pub returns-in-Some-clause-held : goal.returns-in-Some-clause-held
returns-in-Some-clause-held c =
    λ d.
    let more = count_more (map plan_of c.args.plans.now) c.in-Some.entry c.take.new.self.entries c.args.sleepers.now.entries c.in-Some.ensures.some d in
    let gone = c.let_go.ensures.held d in
    let was = c.requires.held d in
    omega (arith, more, gone, was)
