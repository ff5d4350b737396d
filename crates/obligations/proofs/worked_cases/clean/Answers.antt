use Rattle.obligations.proofs.Vocabulary.{ℕ, zero, suc, ◌≤◌, false, [], ◌∷◌, refl, arith, inl, All-cons, All-nil, event_p, no_values, LacksNothing, at_5, begun_at_5, cause_p, HasDeadline, IsClean}
use Rattle.obligations.proofs.Vocabulary.{MissingOf}
use Rattle.obligations.proofs.worked_cases.clean.Goals as goal

one_step : IsClean (cause_p 0 ∷ []) (at_5 (event_p ∷ []))
one_step zero within = (
  [],
  refl,
  record {
    roots = All-cons (λ plan. LacksNothing (at_5 (event_p ∷ [])) plan no_values) (cause_p 0) [] (inl ((0, omega arith, refl), refl))
        (All-nil (λ plan. LacksNothing (at_5 (event_p ∷ [])) plan no_values));
    instances = All-nil (λ i. MissingOf (cause_p 0 ∷ []) (at_5 (event_p ∷ [])) i false []);
    in_time = All-nil (λ i. (deadline : ℕ) → HasDeadline (cause_p 0 ∷ []) i deadline → 5 ≤ deadline);
  },
)
one_step (suc n) within = absurd (omega (arith, within))

pub returns-clause-nothing_missing : goal.returns-clause-nothing_missing
returns-clause-nothing_missing c = one_step

pub returns-clause-no_step : goal.returns-clause-no_step
returns-clause-no_step c n within = absurd (omega (arith, within))

pub returns-clause-ready : goal.returns-clause-ready
returns-clause-ready c = record {
  clean = one_step;
  pending = [];
  pend = ([], refl, ([], [], refl, ([], [], refl, refl, refl), refl));
  in_time = All-nil (λ i. (deadline : ℕ) → HasDeadline (cause_p 0 ∷ []) i deadline → 5 ≤ deadline);
  not_later = omega arith;
}

pub returns-clause-past_the_deadline : goal.returns-clause-past_the_deadline
returns-clause-past_the_deadline c over =
    let late : 16 ≤ 15 = over 0 (begun_at_5 0 5 15) (omega arith) 15 (refl, refl) in omega (arith, late)
