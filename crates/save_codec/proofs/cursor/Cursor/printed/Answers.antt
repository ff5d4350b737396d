use Rattle.save_codec.proofs.Vocabulary.{◌≡◌, ◌++◌, refl, ap, sym, ◌∙◌, quoted, spelled, cancel_front as cancel}
use Rattle.save_codec.proofs.cursor.Cursor.printed.Goals as goal

pub returns-then-quoted-clause-again : goal.returns-then-quoted-clause-again
returns-then-quoted-clause-again c = λ rest e.
    let text = spelled c.args.value.now in
    let same : quoted c.bytes.result.now ≡ text = ap quoted c.bytes.ensures.value ∙ sym (ap spelled c.in-Text.is) in
    let left = c.quoted.new.self.rest.now in
    (refl, cancel text left rest (ap (λ l. l ++ left) (sym same) ∙ sym (c.quoted.ensures.taken c.if-quoted.true) ∙ e))
