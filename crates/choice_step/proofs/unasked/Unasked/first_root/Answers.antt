use Rattle.choice_step.proofs.Vocabulary.{Contains, arith, inl, inr, sym, subst, ⊎_elim}
use Rattle.choice_step.proofs.unasked.Unasked.first_root.Goals as goal

pub returns : goal.returns
returns c = record {
  within = c.least_from.ensures.within.1;
  least = λ rule there. c.least_from.ensures.least rule (subst (λ l. Contains l rule) (sym c.as_slice.ensures.value) there) (omega arith);
  there = ⊎_elim (λ at. inl at) (λ has. inr (subst (λ l. Contains l c.least_from.result) c.as_slice.ensures.value has)) c.least_from.ensures.there;
}
