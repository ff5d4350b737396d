use Rattle.enf_run.proofs.Vocabulary.{List, ℕ, Ok, subst, AnswersSignature, IsShortFile}
use Rattle.enf_run.proofs.files.read_signature.Goals as goal

pub returns-in-Ok-clause-held : goal.returns-in-Ok-clause-held
returns-in-Ok-clause-held g c =
    let bytes = c.in-Some.bytes.items in
    let short : IsShortFile 1048576 (g.F.Files.seen c.args.files.now).contents c.args.name.now bytes = rw c.in-Some.is at c.in_ok-bytes.ensures.bytes in
    let answer = subst (λ (text : List ℕ). AnswersSignature text (Ok c.in-Ok.signature)) c.deref.ensures.value c.in-Ok.ensures.answer in
    record { under = short.under; is_signature = record { short = short.short; answer = answer } }
