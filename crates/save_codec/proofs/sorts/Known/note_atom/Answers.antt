use Rattle.save_codec.proofs.Vocabulary.{◌≡◌, None, slice_get, sym, ap, ◌∙◌, option_copied, AtomTells}
use Rattle.save_codec.proofs.SortLemmas.{learns_none, no_entry}
use Rattle.save_codec.proofs.sorts.Known.note_atom.Goals as goal

pub returns-in-None : goal.returns-in-None
returns-in-None c =
    let none : slice_get c.args.signature.now c.args.name.0 ≡ None = sym c.entry.ensures ∙ ap option_copied c.in-None.is in
    learns_none (AtomTells c.args.signature.now c.args.name c.args.terms.now) c.args.self.now (no_entry c.args.signature.now c.args.name c.args.terms.now none)
