use Rattle.trace_audit.proofs.Vocabulary.{◌≡◌, ℕ, zero, suc, ◌<◌, ◌≤◌, [], ◌∷◌, Contains, refl, ap, subst, arith, lit<, lit≤, same_Some, no_values, Event, event_p, event_q, formula_p, formula_q}
use Rattle.trace_audit.proofs.Vocabulary.{Formula, Sat, elapsed, one_step, p_always_later, q_later, q_next, q_now, q_until_q_later, HoldsAt, IsVerdict, Fails, Holds}
use Rattle.trace_audit.proofs.worked_cases.where_the_trace_ends.Goals as goal

-- the only rule of a policy fails at the only position
alone : (f : Formula) → (Sat one_step 0 no_values f → ⊥) → IsVerdict (f ∷ []) one_step (Fails 0 0)
alone f fails = record {
  there = lit< tt;
  broken = (f, refl, fails);
  least = λ i r less. absurd (omega (arith, less));
  first = λ r less. absurd (omega (arith, less));
}

-- or holds there
satisfied : (f : Formula) → Sat one_step 0 no_values f → IsVerdict (f ∷ []) one_step Holds
satisfied f holds zero d within zero there = holds
satisfied f holds zero d within (suc i) there = absurd (omega (arith, there))
satisfied f holds (suc k) d within i there = absurd (omega (arith, within))

no_later : (j : ℕ) → j < 1 → 1 ≤ elapsed one_step 0 j → ⊥
no_later zero there low = omega (arith, low)
no_later (suc j) there low = omega (arith, there)

no_p : Contains (event_q ∷ []) event_p → ⊥
no_p (zero, there, same) = let names : ◌≡◌ {A = ℕ} 1 0 = ap (λ (e : Event). e.name.0) same in omega (arith, names)
no_p (suc k, there, same) = omega (arith, there)

q_there : Sat one_step 0 no_values formula_q
q_there = (0, lit< tt, refl)

pub returns-clause-no_rule : goal.returns-clause-no_rule
returns-clause-no_rule c = λ k d within i there. absurd (omega (arith, within))

pub returns-clause-no_step : goal.returns-clause-no_step
returns-clause-no_step c = λ k d within i there. absurd (omega (arith, there))

pub returns-clause-next : goal.returns-clause-next
returns-clause-next c = alone q_next (λ sat. let there = sat.0 in omega (arith, there))

pub returns-clause-eventually : goal.returns-clause-eventually
returns-clause-eventually c = alone q_later (λ sat. sat (λ met. no_later met.0 met.2 met.3.0))

pub returns-clause-until : goal.returns-clause-until
returns-clause-until c = alone q_until_q_later (λ sat. sat (λ met. no_later met.0 met.2 met.3.0))

pub returns-clause-always : goal.returns-clause-always
returns-clause-always c = satisfied p_always_later (λ some. some (λ met. no_later met.0 met.2 met.3.0))

pub returns-clause-at_once : goal.returns-clause-at_once
returns-clause-at_once c =
    satisfied q_now (λ never. never (0, lit≤ tt, lit< tt, (lit≤ tt, lit≤ tt), q_there, λ k from before. tt))

pub returns-clause-first_rule : goal.returns-clause-first_rule
returns-clause-first_rule c = record {
  there = lit< tt;
  broken = (formula_p, refl, no_p);
  least = λ i r less. absurd (omega (arith, less));
  first = q_holds;
}
  where
    q_holds : (r : ℕ) → r < 1 → HoldsAt (formula_q ∷ formula_p ∷ q_next ∷ []) one_step r 0
    q_holds zero less f of = subst (Sat one_step 0 no_values) (same_Some formula_q f of) q_there
    q_holds (suc r) less f of = absurd (omega (arith, less))

pub returns-clause-not_a_later_rule : goal.returns-clause-not_a_later_rule
returns-clause-not_a_later_rule c = λ verdict. no_p (verdict.first 1 (lit< tt) formula_p refl)

pub returns-clause-not_held : goal.returns-clause-not_held
returns-clause-not_held c = λ verdict. let there = (verdict 0 q_next (lit< tt) 0 (lit< tt)).0 in omega (arith, there)
