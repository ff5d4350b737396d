use Rattle.definitions.proofs.Vocabulary.{◌≡◌, ℕ, List, [], ◌∷◌, Contains, Some, length, arith, refl, sym, subst, AllByRecursion, none_in_nil, first_or_later, Step, step_at, Value, Valuation, no_values}
use Rattle.definitions.proofs.Vocabulary.{onto_values, with_values, IsEventAmong, value_at-bound, DefinedMeans, SatWith, ⊎_elim}
use Rattle.enf_data.specs.declared.values.Value.TheVariants.{Num}
use Rattle.enf_formula.specs.machine.Cases.{empty_step, event_p_of, name_p, p_1_q_1}
use Rattle.enf_formula.proofs.Stability.{absent}
use Rattle.std.proofs.Common.{pos, lit<}
use Rattle.count_guard.specs.machine.Cases.{case_variable, p_1_p_2}
use Rattle.definitions.specs.machine.Cases.{defined_atom, defines_one, name_one, variable_of_rule}
use Rattle.definitions.proofs.worked_cases.defined_atoms.Goals as goal

abbrev with_x : Value → Valuation
with_x value = with_values (case_variable 0 ∷ []) (value ∷ []) no_values

-- one(x) speaks of p(x)
one_there : (trace : List Step) (i : ℕ) (value : Value) → Contains (step_at trace i).events (event_p_of value) → DefinedMeans (defines_one ∷ []) trace i name_one (Some (value ∷ []))
one_there trace i value h =
    subst (λ given. IsEventAmong (step_at trace i).events name_p (onto_values given (Some []))) (sym (value_at-bound no_values (case_variable 0) (case_variable 0) value refl)) h

there_one : (trace : List Step) (i : ℕ) (value : Value) → DefinedMeans (defines_one ∷ []) trace i name_one (Some (value ∷ [])) → Contains (step_at trace i).events (event_p_of value)
there_one trace i value h =
    subst (λ given. IsEventAmong (step_at trace i).events name_p (onto_values given (Some []))) (value_at-bound no_values (case_variable 0) (case_variable 0) value refl) h

-- and so of the value of x
one_with : (trace : List Step) (i : ℕ) (value : Value) → Contains (step_at trace i).events (event_p_of value)
    → SatWith (DefinedMeans (defines_one ∷ []) trace) trace i (with_x value) (defined_atom 3 name_one (variable_of_rule 0 ∷ []))
one_with trace i value h =
    subst (λ given. DefinedMeans (defines_one ∷ []) trace i name_one (onto_values given (Some []))) (sym (value_at-bound no_values (case_variable 0) (case_variable 0) value refl))
    (one_there trace i value h)

with_one : (trace : List Step) (i : ℕ) (value : Value) → SatWith (DefinedMeans (defines_one ∷ []) trace) trace i (with_x value) (defined_atom 3 name_one (variable_of_rule 0 ∷ []))
    → Contains (step_at trace i).events (event_p_of value)
with_one trace i value h =
    there_one trace i value (subst (λ given. DefinedMeans (defines_one ∷ []) trace i name_one (onto_values given (Some [])))
    (value_at-bound no_values (case_variable 0) (case_variable 0) value refl) h)

other_list : Contains ((Num (pos 2) ∷ []) ∷ []) (Num (pos 1) ∷ []) → ⊥
other_list there = ⊎_elim (λ same. absurd (cc)) (λ behind. none_in_nil (Num (pos 1) ∷ []) behind) (first_or_later (Num (pos 1) ∷ []) (Num (pos 2) ∷ []) [] there)

pub returns-clause-there : goal.returns-clause-there
returns-clause-there c = one_there p_1_q_1 0 (Num (pos 1)) (0, lit< tt, refl)

pub returns-clause-other_value : goal.returns-clause-other_value
returns-clause-other_value c = λ h. absent (step_at p_1_q_1 0).events (event_p_of (Num (pos 2))) refl (there_one p_1_q_1 0 (Num (pos 2)) h)

pub returns-clause-two : goal.returns-clause-two
returns-clause-two c = λ none. none (
  (Num (pos 1) ∷ []) ∷ (Num (pos 2) ∷ []) ∷ [],
  refl,
  (other_list, (none_in_nil (Num (pos 2) ∷ []), tt)),
  (
    (refl, one_with p_1_p_2 0 (Num (pos 1)) (0, lit< tt, refl)),
    ((refl, one_with p_1_p_2 0 (Num (pos 2)) (1, lit< tt, refl)), tt),
  ),
)

nothing_there : (lists : List (List Value)) → length lists ≡ 2
    → AllByRecursion (λ values. (length values ≡ 1) × SatWith (DefinedMeans (defines_one ∷ []) empty_step) empty_step 0 (with_values (case_variable 0 ∷ []) values no_values)
    (defined_atom 3 name_one (variable_of_rule 0 ∷ []))) lists → ⊥
nothing_there [] long all = omega (arith, long)
nothing_there ([] ∷ lists) long all = let wide = all.0.0 in omega (arith, wide)
nothing_there ((value ∷ []) ∷ lists) long all = none_in_nil (event_p_of value) (with_one empty_step 0 value all.0.1)
nothing_there ((value ∷ next ∷ values) ∷ lists) long all = let wide = all.0.0 in omega (arith, wide)

pub returns-clause-none : goal.returns-clause-none
returns-clause-none c = λ some. some (λ found. nothing_there found.0 found.1 found.3)

pub returns-clause-no_later_one : goal.returns-clause-no_later_one
returns-clause-no_later_one c =
    λ h. absent (step_at p_1_q_1 0).events (record { name = name_one; args = Num (pos 1) ∷ [] }) refl
    (subst (λ given. IsEventAmong (step_at p_1_q_1 0).events name_one (onto_values given (Some []))) (value_at-bound no_values (case_variable 0) (case_variable 0) (Num (pos 1)) refl) h)
