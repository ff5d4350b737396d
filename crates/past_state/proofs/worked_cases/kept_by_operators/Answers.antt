use Rattle.past_state.proofs.Vocabulary.{[], refl, arith, Sat, here, x_number, number_steps, p_of, p_of_x}
use Rattle.past_state.proofs.RowCaseLemmas.{held_at, none_after_three, none_after_two, once_kept, p_at, p_of_another, since_died, since_kept}
use Rattle.past_state.proofs.worked_cases.kept_by_operators.Goals as goal

pub returns : goal.returns
returns c =
    let last : Sat number_steps 2 (x_number 1) p_of_x = p_at 2 1 (here (p_of 1) []) in record {
      last_position = (omega arith, refl, last);
      another_number = λ k. omega (arith, p_of_another 2 1 2 refl k.2);
      with_the_last_time = λ k. omega (arith, k.1);
      of_the_denial = (
        held_at (λ i. Sat number_steps i (x_number 1) p_of_x) 2 (omega arith) last,
        (omega arith, λ far other held far_too. none_after_three (λ i. Sat number_steps i (x_number 1) p_of_x) other held),
      );
      the_latest = λ k. omega (arith, k.1.1 (omega arith) 3 (held_at (λ i. Sat number_steps i (x_number 1) p_of_x) 2 (omega arith) last) (omega arith));
      where_it_fails = (
        held_at (λ i. Sat number_steps i (x_number 1) p_of_x → ⊥) 1 (omega arith) (λ holds. omega (arith, p_of_another 1 2 1 refl holds)),
        (omega arith, λ far other held far_too. none_after_two (λ i. Sat number_steps i (x_number 1) p_of_x → ⊥) other (λ fails. fails last) held),
      );
      far_of_once = once_kept;
      right_side_of_since = since_kept;
      died = since_died;
      not_where_it_holds = λ k. omega (arith, none_after_two (λ i. Sat number_steps i (x_number 1) p_of_x → ⊥) 3 (λ fails. fails last) k.0);
    }
