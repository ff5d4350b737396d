use Rattle.count_guard.proofs.Vocabulary.{◌≡◌, ℕ, zero, suc, ◌≤◌, List, [], ◌∷◌, Contains, Some, length, arith, refl, sym, ap, subst, ◌∙◌, ◌⊎◌, inl, inr, ⊎_elim, AllByRecursion, HasNoRepeats, step_at, Step}
use Rattle.count_guard.proofs.Vocabulary.{Value, onto_values, value_at-bound, IsEventAmong, first_or_later, none_in_nil, get_or}
use Rattle.enf_data.specs.declared.events.Event.{Event}
use Rattle.enf_data.specs.declared.values.Value.TheVariants.{Num}
use Rattle.enf_data.specs.meaning.Valuations.{no_values, with_values}
use Rattle.enf_formula.specs.machine.Cases.{empty_step, event_p_of, formula_p_x, name_p, variable_x}
use Rattle.enf_formula.specs.meaning.Satisfaction.{Sat}
use Rattle.std.proofs.Common.{pos, lit<}
use Rattle.count_guard.specs.machine.Cases.{once_p_with, p_1_p_2, p_1_twice, p_with}
use Rattle.count_guard.proofs.worked_cases.counts.Goals as goal

-- p(x) speaks of the value of x
speaks : (trace : List Step) (i : ℕ) (value : Value) → Sat trace i (with_values (variable_x ∷ []) (value ∷ []) no_values) formula_p_x → Contains (step_at trace i).events (event_p_of value)
speaks trace i value h =
    subst (λ given. IsEventAmong (step_at trace i).events name_p (onto_values given (Some []))) (value_at-bound no_values variable_x variable_x value refl) h

holds : (trace : List Step) (i : ℕ) (value : Value) → Contains (step_at trace i).events (event_p_of value) → Sat trace i (with_values (variable_x ∷ []) (value ∷ []) no_values) formula_p_x
holds trace i value h =
    subst (λ given. IsEventAmong (step_at trace i).events name_p (onto_values given (Some []))) (sym (value_at-bound no_values variable_x variable_x value refl)) h

-- events with the same argument
argument : (a b : Value) → event_p_of a ≡ event_p_of b → b ≡ a
argument a b same = sym (ap (λ (event : Event). get_or event.args 0 a) same)

-- the lists with 1 and with 2
abbrev with_1 : List Value
with_1 = Num (pos 1) ∷ []

abbrev with_2 : List Value
with_2 = Num (pos 2) ∷ []

one_or_two : (values : List Value) → length values ≡ 1 → p_with p_1_p_2 values → (values ≡ with_1) ⊎ (values ≡ with_2)
one_or_two [] long h = absurd (omega (arith, long))
one_or_two (value ∷ []) long h = ⊎_elim
    (λ first. inl (ap (λ (v : Value). v ∷ []) (argument (Num (pos 1)) value first)))
    (λ behind. ⊎_elim
    (λ second. inr (ap (λ (v : Value). v ∷ []) (argument (Num (pos 2)) value second)))
    (λ none. absurd (none_in_nil (event_p_of value) none))
    (first_or_later (event_p_of value) (event_p_of (Num (pos 2))) [] behind))
    (first_or_later (event_p_of value) (event_p_of (Num (pos 1))) (event_p_of (Num (pos 2)) ∷ []) (speaks p_1_p_2 0 value h))
one_or_two (value ∷ next ∷ values) long h = absurd (omega (arith, long))

-- of three lists two are the same
pigeons : (a b c : List Value) → (a ≡ b → ⊥) → (a ≡ c → ⊥) → (b ≡ c → ⊥) → (a ≡ with_1) ⊎ (a ≡ with_2) → (b ≡ with_1) ⊎ (b ≡ with_2) → (c ≡ with_1) ⊎ (c ≡ with_2) → ⊥
pigeons a b c ab ac bc (inl a1) (inl b1) one = ab (a1 ∙ sym b1)
pigeons a b c ab ac bc (inl a1) (inr b2) (inl c1) = ac (a1 ∙ sym c1)
pigeons a b c ab ac bc (inl a1) (inr b2) (inr c2) = bc (b2 ∙ sym c2)
pigeons a b c ab ac bc (inr a2) (inl b1) (inl c1) = bc (b1 ∙ sym c1)
pigeons a b c ab ac bc (inr a2) (inl b1) (inr c2) = ac (a2 ∙ sym c2)
pigeons a b c ab ac bc (inr a2) (inr b2) one = ab (a2 ∙ sym b2)

no_three : (lists : List (List Value)) → length lists ≡ 3 → HasNoRepeats lists → AllByRecursion (λ values. (length values ≡ 1) × p_with p_1_p_2 values) lists → ⊥
no_three [] long distinct all = omega (arith, long)
no_three (a ∷ []) long distinct all = omega (arith, long)
no_three (a ∷ b ∷ []) long distinct all = omega (arith, long)
no_three (a ∷ b ∷ c ∷ []) long distinct all =
    pigeons a b c (λ same. distinct.0 (0, omega arith, sym same)) (λ same. distinct.0 (1, omega arith, sym same)) (λ same. distinct.1.0 (0, omega arith, sym same))
    (one_or_two a all.0.0 all.0.1) (one_or_two b all.1.0.0 all.1.0.1) (one_or_two c all.1.1.0.0 all.1.1.0.1)
no_three (a ∷ b ∷ c ∷ d ∷ lists) long distinct all = omega (arith, long)

other_value : Contains (with_2 ∷ []) with_1 → ⊥
other_value there = ⊎_elim
    (λ same. let wrong : Num (pos 2) ≡ Num (pos 1) = ap (λ (l : List Value). get_or l 0 (Num (pos 0))) same in cc)
    (λ behind. none_in_nil with_1 behind)
    (first_or_later with_1 with_2 [] there)

pub returns-clause-two : goal.returns-clause-two
returns-clause-two c = λ none. none (
  with_1 ∷ with_2 ∷ [],
  refl,
  (other_value, (none_in_nil with_2, tt)),
  (
    (refl, holds p_1_p_2 0 (Num (pos 1)) (0, lit< tt, refl)),
    ((refl, holds p_1_p_2 0 (Num (pos 2)) (1, lit< tt, refl)), tt),
  ),
)

pub returns-clause-not_three : goal.returns-clause-not_three
returns-clause-not_three c = λ some. some (λ found. no_three found.0 found.1 found.2 found.3)

pub returns-clause-two_at_most : goal.returns-clause-two_at_most
returns-clause-two_at_most c = returns-clause-not_three c

pub returns-clause-more_than_one : goal.returns-clause-more_than_one
returns-clause-more_than_one c = λ few. few (returns-clause-two c)

pub returns-clause-exactly_two : goal.returns-clause-exactly_two
returns-clause-exactly_two c = (returns-clause-two c, returns-clause-not_three c)

pub returns-clause-not_exactly_one : goal.returns-clause-not_exactly_one
returns-clause-not_exactly_one c = λ one. one.1 (returns-clause-two c)

nothing_there : (lists : List (List Value)) → length lists ≡ 2 → AllByRecursion (λ values. (length values ≡ 1) × p_with empty_step values) lists → ⊥
nothing_there [] long all = omega (arith, long)
nothing_there ([] ∷ lists) long all = let wide = all.0.0 in omega (arith, wide)
nothing_there ((value ∷ []) ∷ lists) long all = none_in_nil (event_p_of value) (speaks empty_step 0 value all.0.1)
nothing_there ((value ∷ next ∷ values) ∷ lists) long all = let wide = all.0.0 in omega (arith, wide)

pub returns-clause-none_at_all : goal.returns-clause-none_at_all
returns-clause-none_at_all c = λ some. some (λ found. nothing_there found.0 found.1 found.3)

-- each step has p(1) alone
only_1 : (j : ℕ) → j ≤ 1 → (values : List Value) → length values ≡ 1 → Sat p_1_twice j (with_values (variable_x ∷ []) values no_values) formula_p_x → values ≡ with_1
only_1 j upto [] long h = absurd (omega (arith, long))
only_1 zero upto (value ∷ []) long h = ⊎_elim
    (λ first. ap (λ (v : Value). v ∷ []) (argument (Num (pos 1)) value first))
    (λ none. absurd (none_in_nil (event_p_of value) none))
    (first_or_later (event_p_of value) (event_p_of (Num (pos 1))) [] (speaks p_1_twice 0 value h))
only_1 (suc zero) upto (value ∷ []) long h = ⊎_elim
    (λ first. ap (λ (v : Value). v ∷ []) (argument (Num (pos 1)) value first))
    (λ none. absurd (none_in_nil (event_p_of value) none))
    (first_or_later (event_p_of value) (event_p_of (Num (pos 1))) [] (speaks p_1_twice 1 value h))
only_1 (suc (suc j)) upto (value ∷ []) long h = absurd (omega arith)
only_1 j upto (value ∷ next ∷ values) long h = absurd (omega (arith, long))

no_two : (lists : List (List Value)) → length lists ≡ 2 → HasNoRepeats lists → AllByRecursion (λ values. (length values ≡ 1) × once_p_with p_1_twice values) lists → ⊥
no_two [] long distinct all = omega (arith, long)
no_two (a ∷ []) long distinct all = omega (arith, long)
no_two (a ∷ b ∷ []) long distinct all =
    all.0.1 (λ one. all.1.0.1 (λ other. distinct.0 (0, omega arith, only_1 other.0 other.1 b all.1.0.0 other.3 ∙ sym (only_1 one.0 one.1 a all.0.0 one.3))))
no_two (a ∷ b ∷ c ∷ lists) long distinct all = omega (arith, long)

pub returns-clause-one_value_twice : goal.returns-clause-one_value_twice
returns-clause-one_value_twice c = λ some. some (λ found. no_two found.0 found.1 found.2 found.3)
