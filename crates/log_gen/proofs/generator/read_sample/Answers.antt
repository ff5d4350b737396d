-- The sample's text is read as its entries.
use Rattle.std.proofs.Common.{List, ℕ, sym, subst}
use Rattle.std.specs.Prelude.{Ok, Result}
use Rattle.signature.specs.meaning.Refusals.{AnswersSignature}
use Rattle.signature.specs.declared.entries.NameEntry.{NameEntry}
use Rattle.signature.specs.declared.refusals.SignatureRefusal.{SignatureRefusal}
use Rattle.log_gen.specs.meaning.Samples.{sample_entries}
use Rattle.log_gen.proofs.generator.read_sample.Goals as goal

pub returns-in-Ok : goal.returns-in-Ok
returns-in-Ok c =
    let answer : Result (List NameEntry) SignatureRefusal = Ok sample_entries in
    let same = c.in-Ok.ensures.only answer (subst (λ (bytes : List ℕ). AnswersSignature bytes answer) (sym c.sample_signature.ensures.text) c.sample_signature.ensures.read) in
    cc same
