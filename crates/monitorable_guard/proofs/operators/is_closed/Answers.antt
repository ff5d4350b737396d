use Rattle.monitorable_guard.proofs.Vocabulary.{sym, subst, Contains}
use Rattle.monitorable_guard.proofs.operators.is_closed.Goals as goal

pub returns : goal.returns
returns c = (
  λ t x free. c.are_bound.ensures.0 t x (subst (λ l. Contains l x) (sym c.as_slice.ensures) ((c.in_ok-free.ensures.exact x).1 free)),
  λ within. c.are_bound.ensures.1 (λ x there. within x ((c.in_ok-free.ensures.exact x).0 (subst (λ l. Contains l x) c.as_slice.ensures there))),
)
