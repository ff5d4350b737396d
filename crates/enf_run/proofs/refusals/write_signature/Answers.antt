use Rattle.enf_run.proofs.Vocabulary.{List, ℕ, ◌++◌, ◌∙◌, ap, codes, decimal, sym, subst, text_of_signature, WritesText}
use Rattle.signature.specs.declared.refusals.SignatureRefusal.{SignatureRefusal as TextRefusal}
use Rattle.enf_run.proofs.PieceLemmas.{five_pieces}
use Rattle.enf_run.proofs.refusals.write_signature.Goals as goal

pub returns-in-Repeated : goal.returns-in-Repeated
returns-in-Repeated g c =
    let name = c.args.name.now in
    let place = c.as_bytes-at.ensures.value ∙ c.format.ensures.text in
    let text = ap (λ (xs : List ℕ). codes "signature: repeated " ++ (name ++ (codes " at " ++ (xs ++ codes "\n")))) place
    ∙ five_pieces (codes "signature: repeated ") name (codes " at ") (decimal c.in-Repeated.place) (codes "\n")
    ∙ sym (ap (λ (why : TextRefusal). text_of_signature why name) c.in-Repeated.is) in
    subst (λ (t : List ℕ). WritesText t c.write_pieces.result (g.R.Sink.seen c.args.report.now) (g.R.Sink.seen c.write_pieces.new.report)) text c.write_pieces.ensures
