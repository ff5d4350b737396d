use Rattle.sleepers.proofs.AgendaLemmas.{put_all, put_among, put_kept, put_more, put_none, put_own}
use Rattle.sleepers.proofs.agenda.Agenda.put_each.Goals as goal

pub loop-entry-init : goal.loop-entry-init
loop-entry-init g c = put_none c.args.self.now c.args.entries.now

pub put-requires : goal.put-requires
put-requires g c =
    put_own c.args.self.now c.args.entries.now c.loop-entry.entry-index c.entry-item.result c.loop-entry-test.true c.entry-item.is c.loop-entry.self c.loop-entry.invariant c.requires

pub loop-entry-preserved : goal.loop-entry-preserved
loop-entry-preserved g c =
    put_more c.args.self.now c.args.entries.now c.loop-entry.entry-index c.entry-item.result c.loop-entry-test.true c.entry-item.is c.loop-entry.self c.loop-entry.invariant
    c.put.new.self c.put.ensures.kept c.put.ensures.among c.in_ok-put.ensures.has

pub returns-in_err-put-clause-kept : goal.returns-in_err-put-clause-kept
returns-in_err-put-clause-kept g c =
    put_kept c.args.self.now c.args.entries.now c.loop-entry.entry-index c.entry-item.result c.loop-entry-test.true c.entry-item.is c.loop-entry.self c.loop-entry.invariant
    c.put.new.self c.put.ensures.kept c.put.ensures.among

pub returns-in_err-put-clause-among : goal.returns-in_err-put-clause-among
returns-in_err-put-clause-among g c =
    put_among c.args.self.now c.args.entries.now c.loop-entry.entry-index c.entry-item.result c.loop-entry-test.true c.entry-item.is c.loop-entry.self c.loop-entry.invariant
    c.put.new.self c.put.ensures.kept c.put.ensures.among

pub returns-clause-has : goal.returns-clause-has
returns-clause-has g c =
    put_all c.args.self.now c.args.entries.now c.loop-entry.entry-index c.loop-entry.self c.loop-entry-test.false c.loop-entry.invariant
