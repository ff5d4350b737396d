use Rattle.obligations.proofs.Vocabulary.{◌≡◌, ℕ, zero, suc, ◌<◌, List, [], ◌∷◌, ◌++◌, Contains, IsTrue, inr, ⊎_elim, refl, sym, ap, subst, arith, lit<, lit≤, false≢true, same_Some, step_at, no_step}
use Rattle.obligations.proofs.Vocabulary.{none_in_nil, no_values, Step, one_event, at_time, event_p, Sat, IsLost, IsAhead, LeadsThrough, Obligation, obligation, is_future, formula_for, Plan, at_5}
use Rattle.obligations.proofs.Vocabulary.{soon_p, then_for, cause_p, IsWantedBy, literal_of}
use Rattle.obligations.proofs.OwedCases.{also_too_late, as_it_is, soon_leads, then_p, two_steps}
use Rattle.obligations.proofs.worked_cases.justified_later.Goals as goal

-- at the deadline, before the action
abbrev at_15 : List Step
at_15 = at_5 [] ++ at_time 15 [] ∷ []

lost_soon : IsLost at_15 16 (soon_p 0 0) no_values 0
lost_soon longer continued holds =
    let holds' : Sat (at_15 ++ continued.more) 0 no_values (formula_for (soon_p 0 0)) =
    subst (λ (t : List Step). Sat t 0 no_values (formula_for (soon_p 0 0))) continued.begins holds in
    holds' (λ some. also_too_late continued.more (λ i below. continued.later i no_step below) some.0 some.2 some.3 some.4)

lost_now : (i : ℕ) → IsAhead at_15 0 10 0 i → i < 1 → IsLost at_15 16 (cause_p 1) no_values i
lost_now zero ahead before longer continued has =
    none_in_nil event_p (subst (λ (t : List Step). Contains (step_at t 0).events event_p) continued.begins has)
lost_now (suc i) ahead before longer continued has = absurd (omega (arith, before))

pub returns-clause-at_the_deadline : goal.returns-clause-at_the_deadline
returns-clause-at_the_deadline c = record {
  time = refl;
  position = refl;
  node = soon_p 0 0;
  named = refl;
  begun = inr (refl, lit< tt);
  owed = record { root = soon_p 0 0; of_rule = refl; begun = 0; there = lit< tt; moves = []; leads = refl };
  lost = lost_soon;
  serves = record {
    leaf = cause_p 1;
    valuation = no_values;
    moves = obligation (cause_p 1) no_values 1 ∷ [];
    leads = ((1, record { not_before = lit≤ tt; there = lit< tt; distance = (lit≤ tt, lit≤ tt) }, lost_now, refl), refl);
    wanted = (refl, refl, refl);
  };
}

-- p() comes in time after a step
in_time : (time clock : ℕ) → clock ≡ 15 → Sat (at_time 5 [] ∷ at_time time [] ∷ at_time clock (event_p ∷ []) ∷ []) 0 no_values (formula_for (soon_p 0 0))
in_time time clock is none = none (2, lit≤ tt, lit< tt, (omega arith, omega (arith, is)), (0, lit< tt, refl), λ k from before. tt)

pub returns-clause-before_it : goal.returns-clause-before_it
returns-clause-before_it c right =
    let is : soon_p 0 0 ≡ right.node = same_Some (soon_p 0 0) right.node right.named in
    subst (λ (n : Plan). IsLost (at_5 [] ++ at_time 14 [] ∷ []) 15 n no_values 0) (sym is) right.lost
    (at_time 5 [] ∷ at_time 14 [] ∷ at_time 15 (event_p ∷ []) ∷ []) (then_p 14 15 (lit≤ tt) (lit≤ tt)) (in_time 14 15 refl)

pub returns-clause-at_a_step_of_the_system : goal.returns-clause-at_a_step_of_the_system
returns-clause-at_a_step_of_the_system c right =
    let is : soon_p 0 0 ≡ right.node = same_Some (soon_p 0 0) right.node right.named in
    subst (λ (n : Plan). IsLost at_15 15 n no_values 0) (sym is) right.lost
    (at_time 5 [] ∷ at_time 15 [] ∷ at_time 15 (event_p ∷ []) ∷ []) (then_p 15 15 (lit≤ tt) (lit≤ tt)) (in_time 15 15 refl)

pub returns-clause-met_in_time : goal.returns-clause-met_in_time
returns-clause-met_in_time c right =
    let is : soon_p 0 0 ≡ right.node = same_Some (soon_p 0 0) right.node right.named in
    subst (λ (n : Plan). IsLost (at_time 5 (event_p ∷ []) ∷ at_time 15 [] ∷ []) 16 n no_values 0) (sym is) right.lost
    (at_time 5 (event_p ∷ []) ∷ at_time 15 [] ∷ [])
    (as_it_is (at_time 5 (event_p ∷ []) ∷ at_time 15 [] ∷ []) 16 refl (two_steps 5 15 (event_p ∷ []) [] (lit≤ tt) (one_event event_p) tt))
    (λ none. none (0, lit≤ tt, lit< tt, (lit≤ tt, lit≤ tt), (0, lit< tt, refl), λ k from before. tt))

pub returns-clause-another_origin : goal.returns-clause-another_origin
returns-clause-another_origin c right =
    let is : soon_p 0 0 ≡ right.node = same_Some (soon_p 0 0) right.node right.named in
    subst (λ (n : Plan). IsLost at_15 16 n no_values 1) (sym is) right.lost
    (at_time 5 [] ∷ at_time 15 [] ∷ at_time 16 (event_p ∷ []) ∷ []) (then_p 15 16 (lit≤ tt) (lit≤ tt))
    (λ none. none (2, lit≤ tt, lit< tt, (lit≤ tt, lit≤ tt), (0, lit< tt, refl), λ k from before. tt))

pub returns-clause-leaf_for_node : goal.returns-clause-leaf_for_node
returns-clause-leaf_for_node c right =
    let is : cause_p 1 ≡ right.node = same_Some (cause_p 1) right.node right.named in
    ⊎_elim
    (λ root. let numbers : ◌≡◌ {A = ℕ} 1 0 = root.0 in omega (arith, numbers))
    (λ begun. false≢true (subst (λ (n : Plan). IsTrue (is_future n)) (sym is) begun.0))
    right.begun

pub returns-clause-node_for_leaf : goal.returns-clause-node_for_leaf
returns-clause-node_for_leaf c right =
    let is : soon_p 0 0 ≡ right.node = same_Some (soon_p 0 0) right.node right.named in
    let s = right.serves in
    let leads = subst (λ (n : Plan). LeadsThrough at_15 16 (obligation n no_values 0) s.moves (obligation s.leaf s.valuation 1)) (sym is) s.leads in
    ⊎_elim
    (λ (same : obligation (soon_p 0 0) no_values 0 ≡ obligation s.leaf s.valuation 1).
    subst (λ (n : Plan). IsWantedBy n s.valuation (literal_of (then_for 15 0 0 0))) (sym (ap (λ (o : Obligation). o.node) same)) s.wanted)
    (λ (body : cause_p 1 ≡ s.leaf).
    let wanted = subst (λ (n : Plan). IsWantedBy n s.valuation (literal_of (then_for 15 0 0 0))) (sym body) s.wanted in
    let numbers : ◌≡◌ {A = ℕ} 0 1 = wanted.1 in omega (arith, numbers))
    (soon_leads at_15 16 no_values 0 s.moves (obligation s.leaf s.valuation 1) leads)

pub returns-clause-another_time : goal.returns-clause-another_time
returns-clause-another_time c right = let times : ◌≡◌ {A = ℕ} 16 15 = right.time in omega (arith, times)
