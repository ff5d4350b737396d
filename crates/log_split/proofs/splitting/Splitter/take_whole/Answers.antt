-- The records that were taken, one more, up to what is left.
use Rattle.std.proofs.Common.{arith}
use Rattle.log_split.proofs.TakingLemmas.{falling_few, falling_taken, pending_few, pending_rest, pending_still, pending_taken, refused_few, refused_taken, room, split_smaller, split_taken, taken_none}
use Rattle.log_split.proofs.splitting.Splitter.take_whole.Goals as goal

pub loop-item-init : goal.loop-item-init
loop-item-init c =
    taken_none c.args.self.now c.args.out.now.items c.requires.splitting

pub returns-in-Ok-Pending-clause-taken : goal.returns-in-Ok-Pending-clause-taken
returns-in-Ok-Pending-clause-taken c =
    pending_taken c.args.self.now c.loop-item.self c.args.out.now.items c.loop-item.out.items c.loop-item.invariant c.next_record.new.self
    (rw c.in-Ok-Pending.field-0-is at c.in-Ok-Pending.ensures)

pub returns-in-Ok-Pending-clause-still : goal.returns-in-Ok-Pending-clause-still
returns-in-Ok-Pending-clause-still c =
    pending_still c.args.self.now c.loop-item.self c.args.out.now.items c.loop-item.out.items c.loop-item.invariant c.next_record.new.self
    (rw c.in-Ok-Pending.field-0-is at c.in-Ok-Pending.ensures)

pub returns-in-Ok-Pending-clause-pending : goal.returns-in-Ok-Pending-clause-pending
returns-in-Ok-Pending-clause-pending c =
    pending_rest c.args.self.now c.loop-item.self c.args.out.now.items c.loop-item.out.items c.loop-item.invariant c.next_record.new.self
    (rw c.in-Ok-Pending.field-0-is at c.in-Ok-Pending.ensures)

pub returns-in-Ok-Pending-clause-few : goal.returns-in-Ok-Pending-clause-few
returns-in-Ok-Pending-clause-few c =
    pending_few c.args.self.now c.loop-item.self c.args.out.now.items c.loop-item.out.items c.loop-item.invariant c.next_record.new.self
    (rw c.in-Ok-Pending.field-0-is at c.in-Ok-Pending.ensures)

pub take-requires-clause-few : goal.take-requires-clause-few
take-requires-clause-few c =
    let most = room c.args.self.now c.loop-item.self c.args.out.now.items c.loop-item.out.items c.loop-item.invariant c.next_record.new.self c.in-Ok-Item.item (rw c.in-Ok-Item.field-0-is at c.in-Ok-Item.ensures) in omega (arith, most, c.requires.few)

pub returns-in-Some-clause-taken : goal.returns-in-Some-clause-taken
returns-in-Some-clause-taken c =
    falling_taken c.args.self.now c.loop-item.self c.args.out.now.items c.loop-item.out.items c.loop-item.invariant c.next_record.new.self c.in-Ok-Item.item
    (rw c.in-Ok-Item.field-0-is at c.in-Ok-Item.ensures) c.take.new.self c.take.new.out.items c.in-Some.refusal
    (rw c.in-Some.is at c.in_ok-refusal-in-Ok-Item.ensures)

pub returns-in-Some-clause-few : goal.returns-in-Some-clause-few
returns-in-Some-clause-few c =
    falling_few c.args.self.now c.loop-item.self c.args.out.now.items c.loop-item.out.items c.loop-item.invariant c.next_record.new.self c.in-Ok-Item.item
    (rw c.in-Ok-Item.field-0-is at c.in-Ok-Item.ensures) c.take.new.self c.take.new.out.items c.in-Some.refusal
    (rw c.in-Some.is at c.in_ok-refusal-in-Ok-Item.ensures)

pub loop-item-preserved : goal.loop-item-preserved
loop-item-preserved c =
    split_taken c.args.self.now c.loop-item.self c.args.out.now.items c.loop-item.out.items c.loop-item.invariant c.next_record.new.self c.in-Ok-Item.item
    (rw c.in-Ok-Item.field-0-is at c.in-Ok-Item.ensures) c.take.new.self c.take.new.out.items
    (rw c.in_default.is at c.in_ok-refusal-in-Ok-Item.ensures)

pub loop-item-smaller : goal.loop-item-smaller
loop-item-smaller c =
    split_smaller c.args.self.now c.loop-item.self c.args.out.now.items c.loop-item.out.items c.loop-item.invariant c.next_record.new.self c.in-Ok-Item.item
    (rw c.in-Ok-Item.field-0-is at c.in-Ok-Item.ensures) c.take.new.self c.take.new.out.items
    (rw c.in_default.is at c.in_ok-refusal-in-Ok-Item.ensures)

pub returns-in-Err-clause-taken : goal.returns-in-Err-clause-taken
returns-in-Err-clause-taken c =
    refused_taken c.args.self.now c.loop-item.self c.args.out.now.items c.loop-item.out.items c.loop-item.invariant c.next_record.new.self
    c.in-Err.why _ c.in_ok-refusal_of-in-Err.ensures c.in-Err.ensures

pub returns-in-Err-clause-few : goal.returns-in-Err-clause-few
returns-in-Err-clause-few c =
    refused_few c.args.self.now c.loop-item.self c.args.out.now.items c.loop-item.out.items c.loop-item.invariant c.next_record.new.self
    c.in-Err.why _ c.in_ok-refusal_of-in-Err.ensures c.in-Err.ensures
