-- Small traces and policies, on which verdicts can be checked by eye.
use Rattle.enf_data.specs.declared.steps.Step.{Step}
use Rattle.std.specs.Prelude.{List, [], ◌∷◌}
use Rattle.enf_formula.specs.machine.Cases.{at_time, event_q, formula_q, interval_between, formula_p}
use Rattle.enf_formula.specs.meaning.Satisfaction.{Formula, Next, Eventually, Until, Always}

-- q() at time 0, and no other step
abbrev pub one_step : List Step
one_step = at_time 0 (event_q ∷ []) ∷ []

-- what would have to come after the last step
abbrev pub q_next : Formula
q_next = Next 0 (interval_between 0 10) formula_q

abbrev pub q_later : Formula
q_later = Eventually 0 (interval_between 1 10) formula_q

abbrev pub q_until_q_later : Formula
q_until_q_later = Until 0 (interval_between 1 10) formula_q formula_q

abbrev pub p_always_later : Formula
p_always_later = Always 0 (interval_between 1 10) formula_p

-- the formula that asks for q() now
abbrev pub q_now : Formula
q_now = Eventually 0 (interval_between 0 10) formula_q
