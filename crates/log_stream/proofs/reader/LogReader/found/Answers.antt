use Rattle.log_stream.proofs.Vocabulary.{List, ℕ, ◌-◌, sym, subst, take, drop, Option, Ok, Err, arith, Reader, ReadsNext, FindsFront, lasting, Item, LogRefusal, ReadsFront, Pending, Whole}
use Rattle.log_stream.proofs.ReaderCalls.{item_alone, item_read, pending_kept, reader_at, refusal_kept, refusal_read}
use Rattle.log_stream.proofs.RestFronts.{whole_alone}
use Rattle.log_stream.proofs.reader.LogReader.found.Goals as goal

pub invariant_of-self-in-Pending : goal.invariant_of-self-in-Pending
invariant_of-self-in-Pending c =
    let found = subst (λ (l : List ℕ). FindsFront l c.self.inside.front (Pending c.in-Pending.begin c.in-Pending.scan)) c.deref.ensures.value c.in-Pending.ensures in
    pending_kept c.self.inside.bytes.items c.let_go.new.bytes.items c.self.inside.front c.in-Pending.begin c.len-self-inside.result c.in-Pending.scan c.self.inside.refused found.0 found.1
    found.2 c.let_go.ensures (omega (arith, c.len-self-inside.ensures, c.let_go.new.bytes.ok.0)) c.self.invariant.lasting

pub returns-in-Ok : goal.returns-in-Ok
returns-in-Ok c =
    let whole = subst (λ (l : List ℕ). FindsFront l c.self.inside.front (Whole c.in-Whole.begin c.in-Whole.end)) c.deref.ensures.value c.in-Whole.ensures in
    let reads = subst (λ (l : List ℕ). ReadsFront c.self.inside.signature c.self.inside.mode (take (c.in-Whole.end - c.in-Whole.begin) (drop c.in-Whole.begin l))
    (Ok (c.in-Ok.item, c.in-Ok._length))) c.deref-in-Whole.ensures.value c.in-Ok.ensures in
    let answer = item_alone c.self.inside.signature c.self.inside.mode c.self.inside.bytes.items c.self.inside.front c.in-Whole.begin c.in-Whole.end c.in-Ok._length c.in-Ok.item whole reads in
    subst (λ (r : Reader). ReadsNext r (Ok (Item c.in-Ok.item)) (reader_at c.self.inside.signature c.self.inside.mode (drop c.in-Whole.end c.self.inside.bytes.items)
    c.self.inside.refused)) c.self.view_is
    (item_read c.self.inside.signature c.self.inside.mode c.self.inside.bytes.items c.self.inside.front c.in-Whole.begin c.in-Whole.end c.self.inside.refused c.in-Ok.item c.in_default.is whole answer)

pub returns-in-Err : goal.returns-in-Err
returns-in-Err c =
    let whole = subst (λ (l : List ℕ). FindsFront l c.self.inside.front (Whole c.in-Whole.begin c.in-Whole.end)) c.deref.ensures.value c.in-Whole.ensures in
    let reads = subst (λ (l : List ℕ). ReadsFront c.self.inside.signature c.self.inside.mode (take (c.in-Whole.end - c.in-Whole.begin) (drop c.in-Whole.begin l)) (Err c.in-Err.refusal))
    c.deref-in-Whole.ensures.value c.in-Err.ensures in
    let answer = reads (whole_alone c.self.inside.bytes.items c.self.inside.front c.in-Whole.begin c.in-Whole.end whole) in
    let rest = drop c.self.inside.front c.self.inside.bytes.items in
    let next = refusal_read c.self.inside.signature c.self.inside.mode c.self.inside.bytes.items c.self.inside.front c.in-Whole.begin c.in-Whole.end c.in-Err.refusal whole answer in
    subst (λ (r : Reader). ReadsNext r (Err c.in-Err.refusal) (reader_at c.self.inside.signature c.self.inside.mode rest c.lasting-self-inside.result)) c.self.view_is
    (subst (λ (x : Option LogRefusal). ReadsNext (reader_at c.self.inside.signature c.self.inside.mode rest c.self.inside.refused) (Err c.in-Err.refusal)
    (reader_at c.self.inside.signature c.self.inside.mode rest x)) (sym c.lasting-self-inside.ensures)
    (refusal_kept c.self.inside.signature c.self.inside.mode rest c.self.inside.refused c.in-Err.refusal
    (reader_at c.self.inside.signature c.self.inside.mode rest (lasting c.in-Err.refusal)) c.in_default.is next))
