use Rattle.save_codec.proofs.Vocabulary.{◌↔◌, Contains, IsTrue, List, subst, VarId}
use Rattle.save_codec.proofs.SortLemmas.{fits_num, fits_text}
use Rattle.save_codec.proofs.sorts.Known.fits.Goals as goal

pub returns-in-Num : goal.returns-in-Num
returns-in-Num c =
    fits_num c.args.self.now c.args.variable c.args.value.now c.in-Num.field-0 c.is_in.result c.in-Num.is
    (subst (λ (l : List VarId). IsTrue c.is_in.result ↔ Contains l c.args.variable) c.as_slice.ensures.value c.is_in.ensures)

pub returns-in-Text : goal.returns-in-Text
returns-in-Text c =
    fits_text c.args.self.now c.args.variable c.args.value.now c.in-Text.field-0 c.is_in-in-Text.result c.in-Text.is
    (subst (λ (l : List VarId). IsTrue c.is_in-in-Text.result ↔ Contains l c.args.variable) c.as_slice-in-Text.ensures.value c.is_in-in-Text.ensures)
