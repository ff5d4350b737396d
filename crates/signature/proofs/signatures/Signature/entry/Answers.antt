use Rattle.signature.proofs.Vocabulary.{ℕ, Vec, sym, ◌∙◌, ap, slice_get, option_map, Global, slice_get-map, NameEntry}
use Rattle.signature.proofs.signatures.Signature.entry.Goals as goal

pub returns : goal.returns
returns c =
    ap (option_map (λ (pair : Vec ℕ Global × NameEntry). pair.1)) c.in_ok-entry.ensures.entry
    ∙ sym (slice_get-map (λ (pair : Vec ℕ Global × NameEntry). pair.1) c.self.inside.entries.entries c.args.name.0)
    ∙ ap (λ entries. slice_get entries c.args.name.0) c.self.view_is
