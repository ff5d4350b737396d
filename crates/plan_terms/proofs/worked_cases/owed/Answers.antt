use Rattle.plan_terms.proofs.Vocabulary.{◌≡◌, ℕ, zero, suc, ◌<◌, pos, List, [], ◌∷◌, Option, None, Some, slice_index_or, arith, refl, sym, ap, subst, ◌∙◌, lit<, lit≤, same_Some, none_in_nil}
use Rattle.plan_terms.proofs.Vocabulary.{no_values, values_of_terms, with_values, NameId, Var, Value, Num, empty_step, name_p, name_q, two_steps, variable_x, IsEventAmong, cause_p, plan_cause_q}
use Rattle.plan_terms.proofs.Vocabulary.{plan_cause_q_x, each_soon, soon_q_x, x_is, caused_at, node_number, Plan, LeadsThrough, Obligation, obligation}
use Rattle.plan_terms.proofs.OwedCases.{for_1, from_leaf}
use Rattle.plan_terms.proofs.worked_cases.owed.Goals as goal

pub returns-clause-root : goal.returns-clause-root
returns-clause-root c =
    record { root = plan_cause_q 0; of_rule = refl; begun = 1; there = lit< tt; moves = []; leads = refl }

pub returns-clause-another_rule : goal.returns-clause-another_rule
returns-clause-another_rule c owed =
    let is : owed.root ≡ cause_p 0 = sym (same_Some (cause_p 0) owed.root owed.of_rule) in
    let same : obligation owed.root no_values owed.begun ≡ obligation (plan_cause_q 0) no_values 1 =
    from_leaf two_steps 3 0 0 (obligation owed.root no_values owed.begun) owed.moves (obligation (plan_cause_q 0) no_values 1) name_p is owed.leads in
    let node : cause_p 0 ≡ plan_cause_q 0 = sym is ∙ ap (λ (o : Obligation). o.node) same in
    let names : ◌≡◌ {A = ℕ} 0 1 = ap (λ (plan : Plan). (slice_index_or (caused_at plan) 0 name_p).0) node in
    omega (arith, names)

pub returns-clause-behind_the_trace : goal.returns-clause-behind_the_trace
returns-clause-behind_the_trace c owed =
    let is : owed.root ≡ plan_cause_q 0 = sym (same_Some (plan_cause_q 0) owed.root owed.of_rule) in
    let same : obligation owed.root no_values owed.begun ≡ obligation (plan_cause_q 0) no_values 2 =
    from_leaf two_steps 3 0 0 (obligation owed.root no_values owed.begun) owed.moves (obligation (plan_cause_q 0) no_values 2) name_q is owed.leads in
    let then : owed.begun ≡ 2 = ap (λ (o : Obligation). o.position) same in
    let there = owed.there in
    omega (arith, then, there)

pub returns-clause-below_a_guard : goal.returns-clause-below_a_guard
returns-clause-below_a_guard c = record {
  root = each_soon;
  of_rule = refl;
  begun = 0;
  there = lit< tt;
  moves = obligation soon_q_x (x_is (Num (pos 1))) 0 ∷ [];
  leads = (for_1, refl);
}

pub returns-clause-two_moves : goal.returns-clause-two_moves
returns-clause-two_moves c = record {
  root = each_soon;
  of_rule = refl;
  begun = 0;
  there = lit< tt;
  moves = obligation soon_q_x (x_is (Num (pos 1))) 0 ∷ obligation plan_cause_q_x (x_is (Num (pos 1))) 0 ∷ [];
  leads = (
    for_1,
    (
      (
        0,
        record { not_before = lit≤ tt; there = lit< tt; distance = (lit≤ tt, lit≤ tt) },
        (λ i ahead before. absurd (omega (arith, before))),
        refl,
      ),
      refl,
    ),
  );
}

none_among : (name : NameId) (args : Option (List Value)) → IsEventAmong [] name args → ⊥
none_among name None among = among
none_among name (Some args) among = none_in_nil (record { name = name; args = args }) among

from_guard : (begun : ℕ) → begun < 1 → (moves : List Obligation)
    → LeadsThrough empty_step 0 (obligation each_soon no_values begun) moves (obligation soon_q_x (x_is (Num (pos 1))) 0) → ⊥
from_guard begun below [] same =
    let numbers : ◌≡◌ {A = ℕ} 0 1 = ap (λ (o : Obligation). node_number o.node) same in omega (arith, numbers)
from_guard zero below (next ∷ moves) leads =
    none_among name_p (values_of_terms (with_values (variable_x ∷ []) leads.0.0 no_values) (Var variable_x ∷ [])) leads.0.2
from_guard (suc begun) below (next ∷ moves) leads = omega (arith, below)

pub returns-clause-not_a_root : goal.returns-clause-not_a_root
returns-clause-not_a_root c owed =
    let is : owed.root ≡ each_soon = sym (same_Some each_soon owed.root owed.of_rule) in
    from_guard owed.begun owed.there owed.moves
    (subst (λ (root : Plan). LeadsThrough empty_step 0 (obligation root no_values owed.begun) owed.moves (obligation soon_q_x (x_is (Num (pos 1))) 0)) is owed.leads)
