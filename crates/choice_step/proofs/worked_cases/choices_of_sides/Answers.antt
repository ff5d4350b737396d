use Rattle.choice_step.proofs.Vocabulary.{◌≡◌, List, [], ◌∷◌, Contains, false, length, refl, ap, inl, inr, lit<, arith, none_in_nil, event_p, event_q, Either, cause_literal, Action, event_r, for_leaf}
use Rattle.choice_step.proofs.Vocabulary.{p_and_r, p_up_to_5, Root}
use Rattle.choice_step.proofs.CaseLemmas.{absent, no_p, q_not_r}
use Rattle.obligations.specs.declared.literals.LiteralKind.TheVariants as kind
use Rattle.choice_step.proofs.worked_cases.choices_of_sides.Goals as goal

no_r_yet : Contains (event_q ∷ []) event_r → ⊥
no_r_yet = absent event_q event_r [] q_not_r (none_in_nil event_r)

pub returns-clause-met : goal.returns-clause-met
returns-clause-met c = (
  Root 0 (Either 0 p_up_to_5 p_and_r),
  cause_literal event_p 5,
  event_q ∷ event_p ∷ [],
  inl (
    refl,
    cause_literal event_r 6 ∷ [],
    inr (inr (
      (cause_literal event_p 3, [], inr ((λ none. none (0, lit< tt, refl)), inr (no_p, refl))),
      (cause_literal event_p 5, cause_literal event_r 6 ∷ [], (cause_literal event_p 5 ∷ [], cause_literal event_r 6 ∷ [], inr (no_p, refl), inr (no_r_yet, refl), refl)),
      (cause_literal event_p 5 ∷ [], cause_literal event_r 6 ∷ [], inr (no_p, refl), inr (no_r_yet, refl), refl),
    )),
  ),
  refl,
  refl,
  (refl, (inl (inr ((λ none. none (0, lit< tt, refl)), inl ((1, lit< tt, refl), refl)), refl), tt)),
)

pub returns-clause-not_owed : goal.returns-clause-not_owed
returns-clause-not_owed c owed =
    let met : List Action = for_leaf kind.Cause event_p 0 5 ∷ [] in
    let both : List Action = for_leaf kind.Cause event_p 0 5 ∷ for_leaf kind.Cause event_r 0 6 ∷ [] in
    let one =
    c.follows_is_one.ensures.step (Either 0 p_up_to_5 p_and_r ∷ []) [] [] false 5 (event_q ∷ []) met both (event_q ∷ event_p ∷ []) (event_q ∷ event_p ∷ event_r ∷ [])
    (none_in_nil event_q, tt) (returns-clause-met c) owed
    in
    let lengths : 1 ≡ 2 = ap length one.0 in omega (arith, lengths)
