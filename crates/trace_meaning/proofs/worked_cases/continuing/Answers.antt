use Rattle.std.proofs.Common.{◌≡◌, ℕ, zero, suc, ◌<◌, ◌≤◌, List, [], ◌∷◌, ◌++◌, length, map, Contains, arith, refl, sym, ap, subst, lit<, lit≤}
use Rattle.std.proofs.lemmas.Bool.Decides.{not_from_Decides}
use Rattle.std.proofs.lemmas.List.Elements.{All-cons, All-nil, All-from_recursion}
use Rattle.enf_data.specs.meaning.Data.{IsTrace, step_at, no_step}
use Rattle.enf_data.proofs.ValueEquality.{has_event-Decides}
use Rattle.enf_data.specs.meaning.Valuations.{no_values}
use Rattle.enf_data.specs.declared.steps.Step.{Step}
use Rattle.enf_formula.specs.machine.Cases.{event_p, event_q, at_time, interval_between, formula_p, formula_q}
use Rattle.enf_formula.specs.meaning.Satisfaction.{Formula, Implies, Eventually, Sat, elapsed}
use Rattle.enf_data.specs.meaning.Membership.{HasNoRepeats, IsIn}
use Rattle.trace_meaning.specs.machine.Cases.{inserted_at, may_cause, may_suppress, policy_p_in_time, q_at_1, q_then_p, system_at}
use Rattle.trace_meaning.specs.meaning.Traces.{Good, IsCause, IsInsertedLawfully, IsLaterThan, Cause, IsUntil, OutStep, event_of}
use Rattle.trace_meaning.specs.declared.kinds.StepKind.TheVariants.{System, Inserted}
use Rattle.trace_meaning.proofs.Growth.{trace_begins, trace_grows}
use Rattle.trace_meaning.proofs.worked_cases.continuing.Goals as goal

abbrev rule : Formula
rule = Implies 0 formula_q (Eventually 0 (interval_between 0 2) formula_p)

no_q_in_p : Contains (event_p ∷ []) event_q → ⊥
no_q_in_p = not_from_Decides _ (has_event-Decides (event_p ∷ []) event_q) refl

no_p_in_q : Contains (event_q ∷ []) event_p → ⊥
no_p_in_q = not_from_Decides _ (has_event-Decides (event_q ∷ []) event_p) refl

no_p_in_nothing : Contains [] event_p → ⊥
no_p_in_nothing = not_from_Decides _ (has_event-Decides [] event_p) refl

no_q_in_nothing : Contains [] event_q → ⊥
no_q_in_nothing = not_from_Decides _ (has_event-Decides [] event_q) refl

trace : IsTrace q_then_p
trace = trace_grows q_at_1 (at_time 3 (event_p ∷ [])) (trace_grows [] (at_time 1 (event_q ∷ [])) trace_begins (lit≤ tt) (no_q_in_nothing, tt)) (lit≤ tt) (no_p_in_nothing, tt)

satisfied : (i : ℕ) → i < 2 → Sat q_then_p i no_values rule
satisfied zero below = λ q fails. fails (1, lit≤ tt, lit< tt, (lit≤ tt, lit≤ tt), (0, lit< tt, refl), λ k from before. tt)
satisfied (suc zero) below = λ q. absurd (no_q_in_p q)
satisfied (suc (suc i)) below = absurd (omega arith)

good_until_3 : (clock : ℕ) → clock ≤ 3 → Good policy_p_in_time q_at_1 clock
good_until_3 clock le = (
  q_then_p,
  record {
    more = at_time 3 (event_p ∷ []) ∷ [];
    begins = refl;
    later = All-cons (λ (step : Step). clock ≤ step.time) (at_time 3 (event_p ∷ [])) [] le (All-nil (λ (step : Step). clock ≤ step.time));
    is_trace = trace;
  },
  All-from_recursion (λ f. (i : ℕ) → i < length q_then_p → Sat q_then_p i no_values f) policy_p_in_time (satisfied, tt),
)

pub returns-clause-good_at_the_last_moment : goal.returns-clause-good_at_the_last_moment
returns-clause-good_at_the_last_moment c = good_until_3 3 (lit≤ tt)

pub returns-clause-good_prefix : goal.returns-clause-good_prefix
returns-clause-good_prefix c = good_until_3 1 (lit≤ tt)

pub returns-clause-from_a_later_time : goal.returns-clause-from_a_later_time
returns-clause-from_a_later_time c continued =
    let lengths : length q_then_p ≡ length (q_at_1 ++ continued.more) = ap (λ (t : List Step). length t) continued.begins in
    let some : 0 < length continued.more = omega arith in
    let late : 4 ≤ (step_at continued.more 0).time = continued.later 0 no_step some in
    let time : (step_at continued.more 0).time ≡ 3 = sym (ap (λ t. (step_at t 1).time) continued.begins) in
    omega arith

-- after q() at time 1, where no time is below 4, p() comes too late
late : (more : List Step) → ((i : ℕ) → i < length more → 4 ≤ (step_at more i).time) → (j : ℕ) → j < length (q_at_1 ++ more)
    → IsIn (interval_between 0 2) (elapsed (q_at_1 ++ more) 0 j) → Contains (step_at (q_at_1 ++ more) j).events event_p → ⊥
late more later zero below near has = no_p_in_q has
late more later (suc j) below near has = let far : 4 ≤ (step_at more j).time = later j (omega arith) in omega (arith, near.1)

pub returns-clause-too_late : goal.returns-clause-too_late
returns-clause-too_late c good =
    let continued = good.1 in
    let more = continued.more in
    let all : (i : ℕ) → i < length (q_at_1 ++ more) → Sat (q_at_1 ++ more) i no_values rule =
    subst (λ (t : List Step). (i : ℕ) → i < length t → Sat t i no_values rule) continued.begins (good.2 0 rule (lit< tt)) in
    all 0 (omega arith) (0, lit< tt, refl) (λ some. late more (λ i below. continued.later i no_step below) some.0 some.2 some.3 some.4)

-- q() at time 1, as it came
abbrev as_it_came : List OutStep
as_it_came = system_at 1 (event_q ∷ []) [] ∷ []

-- and p() that was put in at time 3
abbrev put_in : List OutStep
put_in = inserted_at 3 (event_p ∷ []) (Cause event_p ∷ []) ∷ []

pub returns-clause-keeps_up : goal.returns-clause-keeps_up
returns-clause-keeps_up c = record {
  lawful = record {
    changed = (record { same_time = refl; changed = refl }, tt);
    inserted = All-from_recursion (λ o. IsInsertedLawfully may_cause may_suppress o o.kind) as_it_came (tt, tt);
    once = All-from_recursion (λ (o : OutStep). HasNoRepeats (map event_of o.changes)) as_it_came (tt, tt);
    in_order = (All-nil (λ (p : OutStep). IsLaterThan System p.kind 1 p.step.time), tt);
  };
  within = record {
    from = All-from_recursion (λ (o : OutStep). 0 ≤ o.step.time) as_it_came (lit≤ tt, tt);
    until = All-from_recursion (λ (o : OutStep). IsUntil 3 o.kind o.step.time) as_it_came (lit≤ tt, tt);
  };
  good = good_until_3 3 (lit≤ tt);
}

pub returns-clause-keeps_up_no_more : goal.returns-clause-keeps_up_no_more
returns-clause-keeps_up_no_more c keeps = returns-clause-too_late c keeps.good

pub returns-clause-not_all_that_is_owed : goal.returns-clause-not_all_that_is_owed
returns-clause-not_all_that_is_owed c e =
    e.satisfied 0 rule (lit< tt) 0 (lit< tt) (0, lit< tt, refl) (λ some. late [] (λ i below. absurd (omega (arith, below))) some.0 some.2 some.3 some.4)

pub returns-clause-all_that_is_owed : goal.returns-clause-all_that_is_owed
returns-clause-all_that_is_owed c = record {
  lawful = record {
    changed = tt;
    inserted = All-from_recursion (λ o. IsInsertedLawfully may_cause may_suppress o o.kind) put_in
        (((event_p ∷ [], (refl, no_p_in_nothing, refl), refl), All-from_recursion IsCause (Cause event_p ∷ []) (tt, tt)), tt);
    once = All-from_recursion (λ (o : OutStep). HasNoRepeats (map event_of o.changes)) put_in ((no_p_in_nothing, tt), tt);
    in_order = (All-nil (λ (p : OutStep). IsLaterThan Inserted p.kind 3 p.step.time), tt);
  };
  is_trace = trace;
  satisfied = All-from_recursion (λ f. (i : ℕ) → i < length q_then_p → Sat q_then_p i no_values f) policy_p_in_time (satisfied, tt);
}
