use Rattle.std.proofs.Common.{Ok, sym, subst}
use Rattle.log_stream.proofs.LogLaws.{BeginsWithRecord-shorter, IsPending-blanks}
use Rattle.log_stream.specs.meaning.LogGrammar.{IsPending}
use Rattle.log_stream.specs.machine.LogReaders.{Reader, ReadsNext}
use Rattle.log_stream.specs.declared.items.Found.{Found}
use Rattle.enf_cases.proofs.logs.read_on.Goals as goal

pub loop-item-smaller : goal.loop-item-smaller
loop-item-smaller c =
    let reads = subst (λ (found : Found). ReadsNext c.loop-item.reader (Ok found) c.next_record.new.self) c.in-Ok-Item.field-0-is c.in-Ok-Item.ensures in
    BeginsWithRecord-shorter c.loop-item.reader.entries c.loop-item.reader.mode c.loop-item.reader.rest c.in-Ok-Item.item c.next_record.new.self.rest reads.1

pub returns-in-Ok-Pending : goal.returns-in-Ok-Pending
returns-in-Ok-Pending c = λ same none.
    let reads = subst (λ (found : Found). ReadsNext c.loop-item.reader (Ok found) c.next_record.new.self) c.in-Ok-Pending.field-0-is c.in-Ok-Pending.ensures in
    subst (λ (r : Reader). IsPending r.rest) (sym reads.2) (IsPending-blanks c.loop-item.reader.rest reads.1)
