use Rattle.monitorable_guard.proofs.Vocabulary.{sym, ◌∙◌, is_among-Decides}
use Rattle.monitorable_guard.proofs.scopes.is_in.Goals as goal

pub returns : goal.returns
returns c =
    let tells = is_among-Decides c.args.variables.now c.args.x in
    (λ t. tells.0 (sym c.contains.ensures.value ∙ t), λ there. c.contains.ensures.value ∙ tells.1 there)
