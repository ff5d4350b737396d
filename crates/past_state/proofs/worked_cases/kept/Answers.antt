use Rattle.past_state.proofs.Vocabulary.{⊎_elim, refl, arith, HoldsAnywhere, at_third}
use Rattle.past_state.proofs.CaseLemmas.{first, first_alone, none_later, one_of, second}
use Rattle.past_state.proofs.worked_cases.kept.Goals as goal

pub returns : goal.returns
returns c = record {
  far_enough = (first HoldsAnywhere tt tt, (omega arith, λ far other held far_too. first_alone HoldsAnywhere 2 other (omega arith) held far_too));
  near = (second HoldsAnywhere tt, (omega arith, λ far other held far_too. none_later HoldsAnywhere 2 other (omega arith) held));
  latest_of_the_far = (second HoldsAnywhere tt, (omega arith, λ far other held far_too. none_later HoldsAnywhere 2 other (omega arith) held));
  earlier_of_the_far = λ k. omega (arith, k.1.1 (omega arith) 2 (second HoldsAnywhere tt) (omega arith));
  at_the_end = (first HoldsAnywhere tt tt, (omega arith, λ far other held far_too. first_alone HoldsAnywhere 2 other (omega arith) held far_too));
  past_the_end = λ k. omega (arith, k.1.0);
  earliest = (first HoldsAnywhere tt tt, λ other held. omega arith);
  later = λ k. omega (arith, k.1 0 (first HoldsAnywhere tt tt));
  died = λ k. one_of at_third 0 k.0 (λ either. ⊎_elim (λ z. omega (arith, z.1)) (λ t. omega (arith, t)) either);
  lived = (second at_third refl, (omega arith, λ far other held far_too. none_later at_third 2 other (omega arith) held));
  never_right = λ k. one_of HoldsAnywhere 3 k.0 (λ either. ⊎_elim (λ z. omega (arith, z.0)) (λ t. omega (arith, t)) either);
}
