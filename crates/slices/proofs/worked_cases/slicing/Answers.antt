use Rattle.slices.proofs.Vocabulary.{◌≡◌, ⊎_elim, inl, inr, ℕ, zero, suc, ◌≤◌, List, [], ◌∷◌, Some, Contains, arith, refl, sym, subst, lit<, lit≤, pos, none-some, step_at, Step, Num, no_values}
use Rattle.slices.proofs.Vocabulary.{onto_values, value_at-insert, Sat, IsEventAmong, absent, Holds, Fails, Open}
use Rattle.enf_formula.specs.machine.Cases.{event_p_of, formula_p_x, name_p, variable_x}
use Rattle.slices.specs.declared.hindrances.Why.TheVariants.{Neighbour}
use Rattle.slices.specs.machine.Cases.{other_key_before, x_is_1, p_has_key, is_key_1}
use Rattle.slices.specs.meaning.Slices.{slice_of}
use Rattle.slices.proofs.worked_cases.slicing.Goals as goal

-- p(x) speaks of p(1), where x is 1
speaks_of_1 : (trace : List Step) (i : ℕ) → Sat trace i x_is_1 formula_p_x → Contains (step_at trace i).events (event_p_of (Num (pos 1)))
speaks_of_1 trace i h =
    subst (λ given. IsEventAmong (step_at trace i).events name_p (onto_values given (Some []))) (value_at-insert no_values variable_x (Num (pos 1)) variable_x) h

holds_of_1 : (trace : List Step) (i : ℕ) → Contains (step_at trace i).events (event_p_of (Num (pos 1))) → Sat trace i x_is_1 formula_p_x
holds_of_1 trace i h =
    subst (λ given. IsEventAmong (step_at trace i).events name_p (onto_values given (Some []))) (sym (value_at-insert no_values variable_x (Num (pos 1)) variable_x)) h

pub returns-clause-answered_in_time : goal.returns-clause-answered_in_time
returns-clause-answered_in_time c = (variable_x, refl, (refl, (refl, refl)), (refl, refl))

pub returns-clause-asks_what_is_shared : goal.returns-clause-asks_what_is_shared
returns-clause-asks_what_is_shared c = (variable_x, refl, (refl, (refl, tt)), (refl, refl))

pub returns-clause-none_before : goal.returns-clause-none_before
returns-clause-none_before c = (variable_x, refl, (refl, (refl, refl)), (refl, refl))

pub returns-clause-all_before : goal.returns-clause-all_before
returns-clause-all_before c = λ sliced. let wrong : Fails ≡ Holds = sliced.2.1.0 in cc

pub returns-clause-the_step_before : goal.returns-clause-the_step_before
returns-clause-the_step_before c = λ sliced. sliced.2.1

pub returns-clause-wanted_by_what_is_shared : goal.returns-clause-wanted_by_what_is_shared
returns-clause-wanted_by_what_is_shared c = λ sliced. let wrong : Open ≡ Holds = sliced.3.1 in cc

pub returns-clause-no_key : goal.returns-clause-no_key
returns-clause-no_key c = λ sliced. none-some sliced.0 sliced.1

pub returns-clause-first_in_the_way : goal.returns-clause-first_in_the_way
returns-clause-first_in_the_way c = record {
  is_one = inr (inr (inl refl));
  first = λ other is. ⊎_elim (λ rule. absurd (rule.1 (refl, refl)))
      (λ inner. ⊎_elim (λ left. absurd (left.1 refl))
      (λ right. ⊎_elim (λ at. subst (λ h. 7 ≤ h.place) (sym at) (lit≤ tt)) (λ atom. subst (λ h. 7 ≤ h.place) (sym atom.0) (lit≤ tt)) right) inner) is;
}

pub returns-clause-second_in_the_way : goal.returns-clause-second_in_the_way
returns-clause-second_in_the_way c =
    λ first. let late : 9 ≤ 7 = first.first (record { place = 7; why = Neighbour }) (inr (inr (inl refl))) in omega arith

pub returns-clause-holds_by_another_key : goal.returns-clause-holds_by_another_key
returns-clause-holds_by_another_key c =
    λ none. none (
      0,
      lit≤ tt,
      (lit≤ tt, tt),
      λ has. absent (event_p_of (Num (pos 2)) ∷ []) (event_p_of (Num (pos 1))) refl (speaks_of_1 other_key_before 0 has),
      λ k after upto. tt,
    )

only_p_1 : (j : ℕ) → j ≤ 0 → (Sat (slice_of p_has_key is_key_1 other_key_before) j x_is_1 formula_p_x → ⊥) → ⊥
only_p_1 zero upto lacks = lacks (holds_of_1 (slice_of p_has_key is_key_1 other_key_before) 0 (0, lit< tt, refl))
only_p_1 (suc j) upto lacks = omega arith

pub returns-clause-fails_without_it : goal.returns-clause-fails_without_it
returns-clause-fails_without_it c = λ held. held (λ some. only_p_1 some.0 some.1 some.3)
