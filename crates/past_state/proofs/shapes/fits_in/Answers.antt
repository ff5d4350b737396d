use Rattle.past_state.proofs.Vocabulary.{◌∙◌, IsTrue, sym, ne_eqb, false≢true}
use Rattle.past_state.proofs.ShapeLemmas.{fits_none, fits_with}
use Rattle.past_state.proofs.shapes.fits_in.Goals as goal

pub returns-then-len : goal.returns-then-len
returns-then-len c =
    let iff = fits_with c.args.shapes.now c.args.last (IsTrue c.args.alone) c.args.row.now c.in-Some.shape.now c.requires.columns c.in-Some.ensures.lookup.3.0 c.in-Some.ensures.lookup.1 in
    (λ holds. iff.1 (sym c.len.ensures ∙ c.if-len.true ∙ c.len-in-Some.ensures, c.joins.ensures.0 holds), λ fits. c.joins.ensures.1 (iff.0 fits).1)

pub returns-else-len : goal.returns-else-len
returns-else-len c =
    let iff = fits_with c.args.shapes.now c.args.last (IsTrue c.args.alone) c.args.row.now c.in-Some.shape.now c.requires.columns c.in-Some.ensures.lookup.3.0 c.in-Some.ensures.lookup.1 in (
      λ holds. absurd (false≢true (sym (ne_eqb c.len.result c.len-in-Some.result c.if-len.false) ∙ holds)),
      λ fits. absurd (c.if-len.false (c.len.ensures ∙ (iff.0 fits).0 ∙ sym c.len-in-Some.ensures)),
    )

pub returns-in-None : goal.returns-in-None
returns-in-None c =
    (λ holds. absurd (false≢true holds), λ fits. absurd (fits_none c.args.shapes.now c.args.last (IsTrue c.args.alone) c.args.row.now c.in-None.ensures.lookup.3 fits))
