use Rattle.obligations.proofs.Vocabulary.{◌≡◌, ℕ, List, [], ◌∷◌, Contains, inl, refl, sym, ap, subst, ◌∙◌, arith, lit<, none-some, same_Some, step_at, none_in_nil, no_values, Event, Step, one_event}
use Rattle.obligations.proofs.Vocabulary.{event_p, event_q, IsLost, LeadsTo, Obligation, obligation, Plan, at_5, at_once_for, bar_q, cause_p, IsWantedBy, ServesLiteral, literal_of, last_position}
use Rattle.obligations.proofs.Vocabulary.{Literal}
use Rattle.obligations.proofs.OwedCases.{as_it_is, nowhere, one_step}
use Rattle.obligations.specs.declared.literals.LiteralKind.TheVariants as kind
use Rattle.obligations.proofs.worked_cases.justified_at_once.Goals as goal

pub returns-clause-absent : goal.returns-clause-absent
returns-clause-absent c = record {
  time = refl;
  position = refl;
  node = cause_p 0;
  named = refl;
  begun = inl (refl, refl, refl);
  owed = record { root = cause_p 0; of_rule = refl; begun = 0; there = lit< tt; moves = []; leads = refl };
  lost = λ longer continued has.
      none_in_nil event_p (subst (λ (t : List Step). Contains (step_at t 0).events event_p) continued.begins has);
  serves = record { leaf = cause_p 0; valuation = no_values; moves = []; leads = refl; wanted = (refl, refl, refl) };
}

pub returns-clause-to_be_absent : goal.returns-clause-to_be_absent
returns-clause-to_be_absent c = record {
  time = refl;
  position = refl;
  node = bar_q 0;
  named = refl;
  begun = inl (refl, refl, refl);
  owed = record { root = bar_q 0; of_rule = refl; begun = 0; there = lit< tt; moves = []; leads = refl };
  lost = λ longer continued has_not.
      has_not (subst (λ (t : List Step). Contains (step_at t 0).events event_q) (sym continued.begins) (0, lit< tt, refl));
  serves = record { leaf = bar_q 0; valuation = no_values; moves = []; leads = refl; wanted = (refl, refl, refl) };
}

pub returns-clause-there : goal.returns-clause-there
returns-clause-there c right =
    let is : cause_p 0 ≡ right.node = same_Some (cause_p 0) right.node right.named in
    subst (λ (n : Plan). IsLost (at_5 (event_p ∷ [])) 5 n no_values 0) (sym is) right.lost (at_5 (event_p ∷ []))
    (as_it_is (at_5 (event_p ∷ [])) 5 refl (one_step 5 (event_p ∷ []) (one_event event_p))) (0, lit< tt, refl)

pub returns-clause-not_there : goal.returns-clause-not_there
returns-clause-not_there c right =
    let is : bar_q 0 ≡ right.node = same_Some (bar_q 0) right.node right.named in
    subst (λ (n : Plan). IsLost (at_5 []) 5 n no_values 0) (sym is) right.lost (at_5 [])
    (as_it_is (at_5 []) 5 refl (one_step 5 [] tt)) (λ has. none_in_nil event_q has)

-- a leaf that is a root serves itself alone
wanted_by : (trace : List Step) (leaf node : Plan) (literal : Literal) → leaf ≡ node
    → ((next : Obligation) → LeadsTo trace 5 leaf no_values 0 next → ⊥)
    → (s : ServesLiteral trace 5 (obligation node no_values 0) literal) → IsWantedBy leaf s.valuation literal
wanted_by trace leaf node literal is none s =
    let same : obligation node no_values 0 ≡ obligation s.leaf s.valuation (last_position trace) =
    nowhere trace 5 (obligation node no_values 0) s.moves (obligation s.leaf s.valuation (last_position trace))
    (λ next leads. none next (subst (λ (n : Plan). LeadsTo trace 5 n no_values 0 next) (sym is) leads)) s.leads in
    subst (λ (n : Plan). IsWantedBy n s.valuation literal) (sym (is ∙ ap (λ (o : Obligation). o.node) same)) s.wanted

not_both : kind.Cause ≡ kind.Suppress → ⊥
not_both same = cc

pub returns-clause-another_rule : goal.returns-clause-another_rule
returns-clause-another_rule c right =
    let is : bar_q 0 ≡ right.node = same_Some (bar_q 0) right.node right.named in
    not_both (wanted_by (at_5 (event_q ∷ [])) (bar_q 0) right.node (literal_of (at_once_for kind.Cause event_p 1 0)) is (λ next none. none) right.serves).0

pub returns-clause-another_event : goal.returns-clause-another_event
returns-clause-another_event c right =
    let is : cause_p 0 ≡ right.node = same_Some (cause_p 0) right.node right.named in
    let names : ◌≡◌ {A = ℕ} 1 0 = ap (λ (e : Event). e.name.0) (wanted_by (at_5 []) (cause_p 0) right.node (literal_of (at_once_for kind.Cause event_q 0 0)) is (λ next none. none) right.serves).2 in
    omega (arith, names)

pub returns-clause-another_leaf : goal.returns-clause-another_leaf
returns-clause-another_leaf c right =
    let is : cause_p 0 ≡ right.node = same_Some (cause_p 0) right.node right.named in
    let leaves : ◌≡◌ {A = ℕ} 1 0 = (wanted_by (at_5 []) (cause_p 0) right.node (literal_of (at_once_for kind.Cause event_p 0 1)) is (λ next none. none) right.serves).1 in
    omega (arith, leaves)

pub returns-clause-no_rule : goal.returns-clause-no_rule
returns-clause-no_rule c right = none-some right.node right.named
