use Rattle.obligations.proofs.Vocabulary.{◌≡◌, ℕ, List, [], ◌∷◌, ◌++◌, IsTrue, inl, ⊎_elim, refl, sym, ap, subst, arith, lit<, lit≤, false≢true, step_at, no_step, none_in_nil, there_from_get}
use Rattle.obligations.proofs.Vocabulary.{Valuation, no_values, Event, Step, one_event, event_p, Sat, window_end, has_deadline, formula_for, Plan, IsLost, IsOwed, LeadsThrough, Obligation, obligation}
use Rattle.obligations.proofs.Vocabulary.{always_p, at_5, soon_p, cause_p}
use Rattle.obligations.proofs.OwedCases.{as_it_is, behind_body, one_step, only_root, soon_leads, too_late, IsSoon}
use Rattle.obligations.proofs.worked_cases.needed.Goals as goal

pub returns-clause-at_the_deadline : goal.returns-clause-at_the_deadline
returns-clause-at_the_deadline c = record {
  rule = 0;
  node = soon_p 0 0;
  valuation = no_values;
  origin = 0;
  deadline = refl;
  is_now = refl;
  owed = record { root = soon_p 0 0; of_rule = refl; begun = 0; there = lit< tt; moves = []; leads = refl };
  lost = λ longer continued holds.
      let holds' : Sat (at_5 [] ++ continued.more) 0 no_values (formula_for (soon_p 0 0)) =
      subst (λ (t : List Step). Sat t 0 no_values (formula_for (soon_p 0 0))) continued.begins holds in
      holds' (λ some. too_late continued.more (λ i below. continued.later i no_step below) some.0 some.2 some.3 some.4);
}

-- what is owed of p() within ten units and has a deadline was begun at the only step
was_begun : (events : List Event) (clock rule : ℕ) (node : Plan) (v : Valuation) (origin : ℕ)
    → IsOwed (soon_p 0 0 ∷ []) (at_5 events) clock rule node v origin → IsTrue (has_deadline node)
    → (soon_p 0 0 ≡ node) × (origin ≡ 0)
was_begun events clock rule node v origin owed deadline =
    let root = only_root (soon_p 0 0) owed.root rule owed.of_rule in
    let there = owed.there in
    ⊎_elim
    (λ (same : obligation (soon_p 0 0) no_values owed.begun ≡ obligation node v origin).
    let here : owed.begun ≡ origin = ap (λ (o : Obligation). o.position) same in
    (ap (λ (o : Obligation). o.node) same, omega (arith, here, there)))
    (λ (body : cause_p 1 ≡ node). absurd (false≢true (subst (λ (n : Plan). IsTrue (has_deadline n)) (sym body) deadline)))
    (soon_leads (at_5 events) clock no_values owed.begun owed.moves (obligation node v origin)
    (subst (λ (n : Plan). LeadsThrough (at_5 events) clock (obligation n no_values owed.begun) owed.moves (obligation node v origin)) (sym root) owed.leads))

pub returns-clause-before_it : goal.returns-clause-before_it
returns-clause-before_it c needed =
    let begun = was_begun [] 15 needed.rule needed.node needed.valuation needed.origin needed.owed needed.deadline in
    let end : 10 ≡ window_end needed.node = ap window_end begun.0 in
    let start : (step_at (at_5 []) needed.origin).time ≡ 5 = ap (λ (i : ℕ). (step_at (at_5 []) i).time) begun.1 in
    let now = needed.is_now in
    omega (arith, now, end, start)

pub returns-clause-met_in_time : goal.returns-clause-met_in_time
returns-clause-met_in_time c needed =
    let begun = was_begun (event_p ∷ []) 16 needed.rule needed.node needed.valuation needed.origin needed.owed needed.deadline in
    let lost = subst (λ (n : Plan). IsLost (at_5 (event_p ∷ [])) 16 n needed.valuation needed.origin) (sym begun.0) needed.lost in
    let lost' = subst (λ (i : ℕ). IsLost (at_5 (event_p ∷ [])) 16 (soon_p 0 0) needed.valuation i) begun.1 lost in
    lost' (at_5 (event_p ∷ [])) (as_it_is (at_5 (event_p ∷ [])) 16 refl (one_step 5 (event_p ∷ []) (one_event event_p)))
    (λ none. none (0, lit≤ tt, lit< tt, (lit≤ tt, lit≤ tt), (0, lit< tt, refl), λ k from before. tt))

always_leads : (trace : List Step) (clock : ℕ) (v : Valuation) (j : ℕ) (moves : List Obligation) (to : Obligation)
    → LeadsThrough trace clock (obligation (always_p 0 0) v j) moves to → IsSoon (obligation (always_p 0 0) v j) to
always_leads trace clock v j [] to leads = inl leads
always_leads trace clock v j (next ∷ moves) to leads =
    behind_body trace clock (obligation (always_p 0 0) v j) next moves to
    (ap (λ (o : Obligation). o.node) leads.0.2) leads.1

pub returns-clause-no_deadline : goal.returns-clause-no_deadline
returns-clause-no_deadline c needed =
    let owed = needed.owed in
    let root = only_root (always_p 0 0) owed.root needed.rule owed.of_rule in
    ⊎_elim
    (λ (same : obligation (always_p 0 0) no_values owed.begun ≡ obligation needed.node needed.valuation needed.origin).
    false≢true (subst (λ (n : Plan). IsTrue (has_deadline n)) (sym (ap (λ (o : Obligation). o.node) same)) needed.deadline))
    (λ (body : cause_p 1 ≡ needed.node). false≢true (subst (λ (n : Plan). IsTrue (has_deadline n)) (sym body) needed.deadline))
    (always_leads (at_5 []) 16 no_values owed.begun owed.moves (obligation needed.node needed.valuation needed.origin)
    (subst (λ (n : Plan). LeadsThrough (at_5 []) 16 (obligation n no_values owed.begun) owed.moves (obligation needed.node needed.valuation needed.origin)) (sym root) owed.leads))

pub returns-clause-no_rule : goal.returns-clause-no_rule
returns-clause-no_rule c needed =
    none_in_nil needed.owed.root (there_from_get [] needed.rule needed.owed.root needed.owed.of_rule)
