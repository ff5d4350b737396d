use Rattle.log_stream.proofs.Vocabulary.{List, ℕ, None, ◌≡◌, ◌≤◌, inr, refl, sym, subst, length, arith, IsPending, IsLogGap, Reader}
use Rattle.log_stream.proofs.ReaderCalls.{nothing_left, truncated_at}
use Rattle.log_stream.proofs.RestFronts.{begins_at}
use Rattle.log_stream.proofs.reader.LogReader.end.Goals as goal

pub returns-then-skip_blanks-len : goal.returns-then-skip_blanks-len
returns-then-skip_blanks-len c =
    let gap = subst (λ (l : List ℕ). IsLogGap l c.self.inside.front c.skip_blanks.result) c.deref.ensures.value c.skip_blanks.ensures.gap in
    let within = subst (λ (l : List ℕ). c.skip_blanks.result ≤ length l) c.deref.ensures.value c.skip_blanks.ensures.within in
    let begins = begins_at c.self.inside.bytes.items c.self.inside.front c.skip_blanks.result gap within in
    let test = c.if-skip_blanks-len.true in
    let pending = subst (λ (r : Reader). r.refused ≡ None → IsPending r.rest) (sym c.self.view_is) c.requires c.in_default.is in
    rw (← c.self.view_is)
    (inr (c.in_default.is, (refl, truncated_at c.self.inside.bytes.items c.self.inside.front c.skip_blanks.result pending begins (omega (arith, test, c.len.ensures, c.self.inside.bytes.ok.0))), refl))

pub returns : goal.returns
returns c =
    let gap = subst (λ (l : List ℕ). IsLogGap l c.self.inside.front c.skip_blanks.result) c.deref.ensures.value c.skip_blanks.ensures.gap in
    let within = subst (λ (l : List ℕ). c.skip_blanks.result ≤ length l) c.deref.ensures.value c.skip_blanks.ensures.within in
    let begins = begins_at c.self.inside.bytes.items c.self.inside.front c.skip_blanks.result gap within in
    let test = c.if-skip_blanks-len.false in
    rw (← c.self.view_is)
    (c.in_default.is, nothing_left c.self.inside.bytes.items c.self.inside.front c.skip_blanks.result begins (omega (arith, test, c.len.ensures, c.self.inside.bytes.ok.0)), refl)
