use Rattle.trace_audit.proofs.Vocabulary.{◌∙◌, ◌++◌, ◌∷◌, [], List, ap, sym, subst, IsHung, Link}
use Rattle.trace_audit.proofs.ResidualLemmas.{hung_on_chain, hung_on_one}
use Rattle.trace_audit.specs.declared.residuals.Link.TheVariants as link
use Rattle.trace_audit.specs.declared.residuals.Residual.TheVariants as stored
use Rattle.trace_audit.proofs.residuals.hang.Goals as goal

pub returns-in_ok-push-in-Chain : goal.returns-in_ok-push-in-Chain
returns-in_ok-push-in-Chain c = subst (λ r. IsHung r c.args.link (stored.Chain c.push.new.self)) (sym c.in-Chain.is)
    (hung_on_chain c.in-Chain.links c.push.new.self c.args.link c.in_ok-push-in-Chain.ensures.items)

pub returns-in_ok-push-in_default-2 : goal.returns-in_ok-push-in_default-2
returns-in_ok-push-in_default-2 c =
    hung_on_one c.args.rest c.push-in_default-2.new.self c.args.link
    (c.in_ok-push-in_default-2.ensures.items ∙ ap (λ (l : List Link). l ++ c.args.link ∷ [])
    (c.in_ok-push-in_default.ensures.items ∙ ap (λ (l : List Link). l ++ link.Both c.args.rest ∷ []) c.in_ok-links-in_default.ensures.items))
