use Rattle.save_codec.proofs.Vocabulary.{sym, ◌∙◌, is_among-Decides}
use Rattle.save_codec.proofs.sorts.is_in.Goals as goal

pub returns : goal.returns
returns c =
    let tells = is_among-Decides c.args.list.now c.args.variable in
    (λ t. tells.0 (sym c.contains.ensures.value ∙ t), λ there. c.contains.ensures.value ∙ tells.1 there)
