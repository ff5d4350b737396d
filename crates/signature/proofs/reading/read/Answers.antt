use Rattle.signature.proofs.Vocabulary.{◌≡◌, Err, ap, subst, sym, refl, ◌∙◌, length, rules, true≢false, SymbolToken, tokens_at, placed_of, token_of, Arrow, onto_tokens, without_arrows, Syntax}
use Rattle.signature.proofs.Answering.{ended}
use Rattle.signature.proofs.Loop.{Reads, arrow_refused, at_end, ended_within, not_taken, past_token, plain_token, reads_ok, reads_refused}
use Rattle.signature.proofs.reading.read.Goals as goal

pub loop-part-preserved : goal.loop-part-preserved
loop-part-preserved c =
    let next = rw c.in-Some.is at c.in_ok-next.ensures.some in
    let within = rw c.in-Some.is at c.in_ok-next.ensures.within in
    let plain : token_of c.in-Some.next.token ≡ SymbolToken Arrow → ⊥ = λ is. true≢false (sym (c.is_arrow.ensures.1 is) ∙ c.if-is_arrow.false) in
    let rest = without_arrows (tokens_at c.args.bytes.now c.in-Some.next.end) in
    past_token c.args.bytes.now c.loop-part.place c.loop-part.signature c.loop-part.part c.loop-part.invariant (placed_of c.in-Some.next) rest
    (ap without_arrows next ∙ plain_token c.in-Some.next.place (token_of c.in-Some.next.token) rest plain)
    c.in-Some.next.end within.1 refl c.take.new.signature c.in_ok-part.part c.in_ok-part.ensures

refused : (c : goal.After-drop-signature-inside-in_err-part-4) → Reads c.args.bytes.now c.from_residual-in_err-part.result
refused c =
    let next = rw c.in-Some.is at c.in_ok-next.ensures.some in
    let same : c.from_residual-in_err-part.result ≡ Err c.in_err-part.field-0.0 = search rules in
    let plain : token_of c.in-Some.next.token ≡ SymbolToken Arrow → ⊥ = λ is. true≢false (sym (c.is_arrow.ensures.1 is) ∙ c.if-is_arrow.false) in
    let rest = without_arrows (tokens_at c.args.bytes.now c.in-Some.next.end) in
    subst (Reads c.args.bytes.now) (sym same)
    (not_taken c.args.bytes.now c.loop-part.place c.loop-part.signature c.loop-part.part c.loop-part.invariant (placed_of c.in-Some.next) rest
    (ap without_arrows next ∙ plain_token c.in-Some.next.place (token_of c.in-Some.next.token) rest plain)
    c.take.new.signature c.in_err-part.field-0.0 c.in_err-part.ensures)

pub returns-in_err-part-clause-answer : goal.returns-in_err-part-clause-answer
returns-in_err-part-clause-answer c = (refused c).answer

pub returns-in_err-part-clause-only : goal.returns-in_err-part-clause-only
returns-in_err-part-clause-only c = (refused c).only

arrow : (c : goal.After-drop-signature-inside-then-is_arrow-4) → Reads c.args.bytes.now (Err c.arrow_refusal.result)
arrow c =
    let next = rw c.in-Some.is at c.in_ok-next.ensures.some in
    let is : token_of c.in-Some.next.token ≡ SymbolToken Arrow = c.is_arrow.ensures.0 c.if-is_arrow.true in
    let rest = without_arrows (tokens_at c.args.bytes.now c.in-Some.next.end) in
    arrow_refused c.args.bytes.now c.loop-part.place c.in-Some.next.place c.loop-part.signature c.loop-part.part c.loop-part.invariant
    (ap without_arrows next ∙ ap (λ token. onto_tokens c.in-Some.next.place token rest) is)
    c.arrow_refusal.result c.arrow_refusal.ensures

pub returns-then-is_arrow-clause-answer : goal.returns-then-is_arrow-clause-answer
returns-then-is_arrow-clause-answer c = (arrow c).answer

pub returns-then-is_arrow-clause-only : goal.returns-then-is_arrow-clause-only
returns-then-is_arrow-clause-only c = (arrow c).only

pub returns-in-Nothing : goal.returns-in-Nothing
returns-in-Nothing c =
    let last = rw c.in_default.is at c.in_ok-next.ensures.none in
    let end = at_end c.args.bytes.now c.loop-part.place c.loop-part.signature c.loop-part.part c.loop-part.invariant last in
    let reads = reads_ok c.args.bytes.now c.loop-part.signature (end ∙ ap (ended (length c.args.bytes.now) c.loop-part.signature) c.in-Nothing.is) in
    record { answer = reads.answer; only = reads.only }

pub returns-in_default-part : goal.returns-in_default-part
returns-in_default-part c =
    let last = rw c.in_default.is at c.in_ok-next.ensures.none in
    let end = at_end c.args.bytes.now c.loop-part.place c.loop-part.signature c.loop-part.part c.loop-part.invariant last in
    let reads = reads_refused c.args.bytes.now (Syntax (length c.args.bytes.now)) (end ∙ ended_within (length c.args.bytes.now) c.loop-part.signature c.loop-part.part c.in_default-part.not-Nothing) in
    record { answer = reads.answer; only = reads.only }
