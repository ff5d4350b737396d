-- By what is known of the window's columns.
use Rattle.save_codec.proofs.Vocabulary.{◌≡◌, List, None, Some, slice_get, ap, sym, ◌∙◌, option_copied, WindowShape, Known}
use Rattle.save_codec.proofs.JudgeLemmas.{no_known, sorts_known}
use Rattle.save_codec.proofs.judging.Judge.has_sorts.Goals as goal

pub returns-in_default-item_at : goal.returns-in_default-item_at
returns-in_default-item_at c = λ s is.
    let found : slice_get c.args.self.now.shapes.items c.args.row.now.window ≡ Some c.in-Some.shape.now =
    ap (λ (l : List WindowShape). slice_get l c.args.row.now.window) (sym c.as_slice.ensures.value) ∙ sym c.item_at.ensures ∙ ap option_copied c.in-Some.is in
    let none : slice_get c.args.self.now.windows.items c.args.row.now.window ≡ None =
    ap (λ (l : List Known). slice_get l c.args.row.now.window) (sym c.as_slice-2.ensures.value) ∙ sym c.item_at-2.ensures ∙ ap option_copied c.in_default-item_at.is in
    absurd (no_known s c.args.self.now c.args.row.now.window c.in-Some.shape.now is found none)

pub returns : goal.returns
returns c = λ s is.
    let found : slice_get c.args.self.now.shapes.items c.args.row.now.window ≡ Some c.in-Some.shape.now =
    ap (λ (l : List WindowShape). slice_get l c.args.row.now.window) (sym c.as_slice.ensures.value) ∙ sym c.item_at.ensures ∙ ap option_copied c.in-Some.is in
    let knows : slice_get c.args.self.now.windows.items c.args.row.now.window ≡ Some c.in-Some-item_at.known.now =
    ap (λ (l : List Known). slice_get l c.args.row.now.window) (sym c.as_slice-2.ensures.value) ∙ sym c.item_at-2.ensures ∙ ap option_copied c.in-Some-item_at.is in
    sorts_known s c.args.self.now c.args.row.now c.in-Some.shape.now c.in-Some-item_at.known.now c.as_slice-3.result.now c.as_slice-4.result.now c.fit.result is found knows
    c.as_slice-3.ensures c.as_slice-4.ensures c.fit.ensures
