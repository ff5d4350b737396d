use Rattle.log_stream.proofs.Vocabulary.{List, ℕ, Ok, arith, drop, subst, Reader, ReadsNext, StandsWhole, Item}
use Rattle.log_stream.proofs.ReaderCalls.{behind_item, item_read, no_refusal, reader_at}
use Rattle.log_stream.proofs.reader.LogReader.taken_ahead.Goals as goal

pub invariant_of-self-2 : goal.invariant_of-self-2
invariant_of-self-2 c =
    let stands = subst (λ (l : List ℕ). StandsWhole c.self.inside.signature c.self.inside.mode l c.self.inside.front c.in_ok-item.item c.in_ok-item.end) c.as_slice-bytes.ensures.value
    c.in_ok-item.ensures in
    behind_item c.self.inside.bytes.items c.self.inside.front c.in_ok-item.end c.self.inside.scanned c.self.inside.scan c.self.inside.refused (omega (arith, c.if-self-gt0.false))
    stands.whole.within c.self.invariant

pub returns-clause-some : goal.returns-clause-some
returns-clause-some c =
    let stands = subst (λ (l : List ℕ). StandsWhole c.self.inside.signature c.self.inside.mode l c.self.inside.front c.in_ok-item.item c.in_ok-item.end) c.as_slice-bytes.ensures.value
    c.in_ok-item.ensures in
    subst (λ (r : Reader). ReadsNext r (Ok (Item c.in_ok-item.item)) (reader_at c.self.inside.signature c.self.inside.mode (drop c.in_ok-item.end c.self.inside.bytes.items)
    c.self.inside.refused)) c.self.view_is
    (item_read c.self.inside.signature c.self.inside.mode c.self.inside.bytes.items c.self.inside.front stands.begin c.in_ok-item.end c.self.inside.refused c.in_ok-item.item
    (no_refusal c.self.inside.refused c.is_some.result c.is_some.ensures c.if-is_some.false) stands.whole stands.answer)
