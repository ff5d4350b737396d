use Rattle.trace_audit.proofs.Vocabulary.{sym, subst, IsAnyOf}
use Rattle.trace_audit.proofs.ResidualLemmas.{any_of_failed, any_with_failed}
use Rattle.trace_audit.proofs.residuals.any.Goals as goal

pub returns-in-Failed : goal.returns-in-Failed
returns-in-Failed c = subst (λ l. IsAnyOf l c.args.right c.args.right) (sym c.in-Failed.is) (any_of_failed c.is_classical.ensures c.args.right)

pub returns-in-Failed-right : goal.returns-in-Failed-right
returns-in-Failed-right c = subst (λ r. IsAnyOf c.args.left r c.args.left) (sym c.in-Failed-right.is) (any_with_failed c.is_classical.ensures c.args.left)
