use Rattle.obligations.proofs.Vocabulary.{rules, ◌≡◌, ℕ, zero, suc, ◌≤◌, false, List, [], ◌∷◌, refl, sym, subst, arith, inl, inr, ⊎_elim, All, All-cons, All-nil, none_in_nil, event_p, no_values}
use Rattle.obligations.proofs.Vocabulary.{Event, LacksNothing, cause_literal, cause_p, waiting, Instance, HasDeadline, IsClean, MissingOf, NoneIsOver, PendsBehind}
use Rattle.enf_formula.specs.machine.Cases.{at_time}
use Rattle.obligations.proofs.MissingLeafLemmas.{no_cons}
use Rattle.obligations.proofs.RowsLemmas.{rows_are_one}
use Rattle.obligations.proofs.UniquenessLemmas.{pends_one}
use Rattle.obligations.specs.machine.Cases.{next_p, soon_p, then_at}
use Rattle.obligations.proofs.worked_cases.clean_with_pending.Goals as goal

-- what the first step leaves
abbrev left : Instance
left = waiting 0 1 11

left_by_next : (time : ℕ) (events : List Event) → PendsBehind (next_p 0 ∷ []) (then_at time events) 1 (left ∷ [])
left_by_next time events = ([], refl, ([], left ∷ [], refl, (left ∷ [], [], refl, refl, refl), refl))

left_by_soon : (time : ℕ) (events : List Event) → PendsBehind (soon_p 0 0 ∷ []) (then_at time events) 1 (left ∷ [])
left_by_soon time events =
    ([], refl, ([], left ∷ [], refl, (left ∷ [], [], inr ((cause_literal event_p 1, [], search rules), refl), refl, refl), refl))

next_met : IsClean (next_p 0 ∷ []) (then_at 2 (event_p ∷ []))
next_met zero within = (
  [],
  refl,
  record {
    roots = All-cons (λ plan. LacksNothing (at_time 1 [] ∷ []) plan no_values) (next_p 0) [] refl
        (All-nil (λ plan. LacksNothing (at_time 1 [] ∷ []) plan no_values));
    instances = All-nil (λ i. MissingOf (next_p 0 ∷ []) (at_time 1 [] ∷ []) i false []);
    in_time = All-nil (λ i. (deadline : ℕ) → HasDeadline (next_p 0 ∷ []) i deadline → 1 ≤ deadline);
  },
)
next_met (suc zero) within = (
  left ∷ [],
  left_by_next 2 (event_p ∷ []),
  record {
    roots = All-cons (λ plan. LacksNothing (then_at 2 (event_p ∷ [])) plan no_values) (next_p 0) [] refl
        (All-nil (λ plan. LacksNothing (then_at 2 (event_p ∷ [])) plan no_values));
    instances = All-cons (λ i. MissingOf (next_p 0 ∷ []) (then_at 2 (event_p ∷ [])) i false []) left [] (inl ((0, omega arith, refl), refl))
        (All-nil (λ i. MissingOf (next_p 0 ∷ []) (then_at 2 (event_p ∷ [])) i false []));
    in_time = All-cons (λ i. (deadline : ℕ) → HasDeadline (next_p 0 ∷ []) i deadline → 2 ≤ deadline) left [] (λ deadline has. omega (arith, has.1))
        (All-nil (λ i. (deadline : ℕ) → HasDeadline (next_p 0 ∷ []) i deadline → 2 ≤ deadline));
  },
)
next_met (suc (suc n)) within = absurd (omega (arith, within))

soon_waits : IsClean (soon_p 0 0 ∷ []) (then_at 11 [])
soon_waits zero within = (
  [],
  refl,
  record {
    roots = All-cons (λ plan. LacksNothing (at_time 1 [] ∷ []) plan no_values) (soon_p 0 0) [] refl
        (All-nil (λ plan. LacksNothing (at_time 1 [] ∷ []) plan no_values));
    instances = All-nil (λ i. MissingOf (soon_p 0 0 ∷ []) (at_time 1 [] ∷ []) i false []);
    in_time = All-nil (λ i. (deadline : ℕ) → HasDeadline (soon_p 0 0 ∷ []) i deadline → 1 ≤ deadline);
  },
)
soon_waits (suc zero) within = (
  left ∷ [],
  left_by_soon 11 [],
  record {
    roots = All-cons (λ plan. LacksNothing (then_at 11 []) plan no_values) (soon_p 0 0) [] refl
        (All-nil (λ plan. LacksNothing (then_at 11 []) plan no_values));
    instances = All-cons (λ i. MissingOf (soon_p 0 0 ∷ []) (then_at 11 []) i false []) left [] refl
        (All-nil (λ i. MissingOf (soon_p 0 0 ∷ []) (then_at 11 []) i false []));
    in_time = All-cons (λ i. (deadline : ℕ) → HasDeadline (soon_p 0 0 ∷ []) i deadline → 11 ≤ deadline) left [] (λ deadline has. omega (arith, has.1))
        (All-nil (λ i. (deadline : ℕ) → HasDeadline (soon_p 0 0 ∷ []) i deadline → 11 ≤ deadline));
  },
)
soon_waits (suc (suc n)) within = absurd (omega (arith, within))

pub returns-clause-next_met : goal.returns-clause-next_met
returns-clause-next_met c = next_met

pub returns-clause-next_missed : goal.returns-clause-next_missed
returns-clause-next_missed c clean =
    let at = clean 1 (omega arith) in
    let same : at.0 ≡ left ∷ [] = pends_one rows_are_one (next_p 0 ∷ []) (then_at 2 []) 1 at.0 (left ∷ []) at.1 (left_by_next 2 []) in
    let met : MissingOf (next_p 0 ∷ []) (then_at 2 []) left false [] =
    subst (All (λ i. MissingOf (next_p 0 ∷ []) (then_at 2 []) i false [])) same at.2.instances 0 left (omega arith) in
    ⊎_elim (λ there. none_in_nil event_p there.0) (λ away. no_cons (cause_literal event_p 1) [] (sym away.1)) met

pub returns-clause-waits_at_the_deadline : goal.returns-clause-waits_at_the_deadline
returns-clause-waits_at_the_deadline c = soon_waits

pub returns-clause-waits_past_the_deadline : goal.returns-clause-waits_past_the_deadline
returns-clause-waits_past_the_deadline c clean =
    let at = clean 1 (omega arith) in
    let same : at.0 ≡ left ∷ [] = pends_one rows_are_one (soon_p 0 0 ∷ []) (then_at 12 []) 1 at.0 (left ∷ []) at.1 (left_by_soon 12 []) in
    let late : 12 ≤ 11 =
    subst (λ (pending : List Instance). NoneIsOver (soon_p 0 0 ∷ []) pending 12) same at.2.in_time 0 left (omega arith) 11 (refl, refl) in
    omega (arith, late)
