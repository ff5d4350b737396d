-- Small traces, logs and rules, on which the definitions can be checked by eye.
use Rattle.enf_data.specs.declared.steps.Step.{Step}
use Rattle.enf_data.specs.declared.values.Value.{Value}
use Rattle.enf_data.specs.declared.values.Value.TheVariants.{Num}
use Rattle.enf_data.specs.meaning.Valuations.{Valuation, no_values, with_values}
use Rattle.enf_data.specs.meaning.Values.{value_eq}
use Rattle.enf_formula.specs.machine.Cases.{at_time, event_p_of, event_q_of, formula_p_x, formula_q_x, interval_between}
use Rattle.enf_formula.specs.machine.Cases.{interval_from, name_p, number_term, variable_x}
use Rattle.enf_formula.specs.meaning.Satisfaction.{Formula, Atom, Forall, Implies, Not, Once, Prev}
use Rattle.slices.specs.machine.StoredKeys.{keying_of}
use Rattle.slices.specs.meaning.Slices.{Keying}
use Rattle.std.specs.Prelude.{Bool, List, [], ◌∷◌, Some, pos}
use Rattle.trace_meaning.specs.meaning.Traces.{Record, StepRecord, Tick}

-- the key of p is its argument, and q is shared
abbrev pub p_has_key : Keying
p_has_key = keying_of (Some 0 ∷ [])

-- the key of each is its argument
abbrev pub p_and_q_have_keys : Keying
p_and_q_have_keys = keying_of (Some 0 ∷ Some 0 ∷ [])

-- the key 1
abbrev pub is_key_1 : Value → Bool
is_key_1 value = value_eq value (Num (pos 1))

-- p(2) p(1) at time 0, p(2) at 1, nothing at 2, q(2) at 3
abbrev pub two_keys : List Step
two_keys = at_time 0 (event_p_of (Num (pos 2)) ∷ event_p_of (Num (pos 1)) ∷ [])
    ∷ at_time 1 (event_p_of (Num (pos 2)) ∷ []) ∷ at_time 2 [] ∷ at_time 3 (event_q_of (Num (pos 2)) ∷ []) ∷ []

-- p(1) at time 0
abbrev pub p_1_alone : List Step
p_1_alone = at_time 0 (event_p_of (Num (pos 1)) ∷ []) ∷ []

-- p(1) at time 0, q(2) at 3
abbrev pub p_1_and_shared : List Step
p_1_and_shared = at_time 0 (event_p_of (Num (pos 1)) ∷ []) ∷ at_time 3 (event_q_of (Num (pos 2)) ∷ []) ∷ []

-- p(2) at time 1, and the tick 4
abbrev pub log_of_2 : List Record
log_of_2 = StepRecord (at_time 1 (event_p_of (Num (pos 2)) ∷ [])) ∷ Tick 4 ∷ []

-- forall x. p(x) -> f
abbrev pub for_each_p : Formula → Formula
for_each_p f = Forall 0 (variable_x ∷ []) (Implies 0 formula_p_x f)

-- forall x. q(x) -> f
abbrev pub for_each_q : Formula → Formula
for_each_q f = Forall 0 (variable_x ∷ []) (Implies 0 formula_q_x f)

-- forall x. p(x) -> prev p(1), with the places of `prev` and of p(1)
abbrev pub twice_in_the_way : Formula
twice_in_the_way =
    for_each_p (Prev 7 (interval_between 0 3) (Atom 9 name_p (number_term (pos 1) ∷ [])))

-- p(2) at time 0, p(1) at 1
abbrev pub other_key_before : List Step
other_key_before = at_time 0 (event_p_of (Num (pos 2)) ∷ []) ∷ at_time 1 (event_p_of (Num (pos 1)) ∷ []) ∷ []

-- x is 1
abbrev pub x_is_1 : Valuation
x_is_1 = with_values (variable_x ∷ []) (Num (pos 1) ∷ []) no_values

-- once not p(x)
abbrev pub once_not_p_x : Formula
once_not_p_x = Once 0 (interval_from 0) (Not 0 formula_p_x)
