use Rattle.choice_step.proofs.Vocabulary.{◌≡◌, List, [], ◌∷◌, false, length, refl, ap, inl, inr, lit<, arith, slice_index_or, none_in_nil, event_p, event_q, cause_literal, Action, event_r, for_leaf}
use Rattle.choice_step.proofs.Vocabulary.{for_root, p_where_q, q_is_there, r_is_there, Root}
use Rattle.choice_step.proofs.CaseLemmas.{no_p, no_r}
use Rattle.obligations.specs.declared.literals.LiteralKind.TheVariants as kind
use Rattle.choice_step.proofs.worked_cases.woken_choices.Goals as goal

pub returns-clause-from_the_start : goal.returns-clause-from_the_start
returns-clause-from_the_start c = (
  Root 1 q_is_there,
  cause_literal event_q 0,
  event_q ∷ [],
  inr (inl (none_in_nil event_q, refl), inl (refl, [], inr (none_in_nil event_q, refl))),
  refl,
  refl,
  (
    Root 0 p_where_q,
    cause_literal event_p 1,
    event_q ∷ event_p ∷ [],
    inl (refl, [], inr ((λ none. none (0, lit< tt, refl)), inr (no_p, refl))),
    refl,
    refl,
    (
      Root 2 r_is_there,
      cause_literal event_r 0,
      event_q ∷ event_p ∷ event_r ∷ [],
      inr (
        inr ((λ none. none (0, lit< tt, refl)), inl ((1, lit< tt, refl), refl)),
        inr (inl ((0, lit< tt, refl), refl), inl (refl, [], inr (no_r, refl))),
      ),
      refl,
      refl,
      (
        refl,
        (
          inr ((λ none. none (0, lit< tt, refl)), inl ((1, lit< tt, refl), refl)),
          (inl ((0, lit< tt, refl), refl), (inl ((2, lit< tt, refl), refl), tt)),
        ),
      ),
    ),
  ),
)

abbrev woken : List Action
woken = for_root kind.Cause event_q 1 ∷ for_leaf kind.Cause event_p 0 1 ∷ for_root kind.Cause event_r 2 ∷ []

pub returns-clause-not_behind_the_others : goal.returns-clause-not_behind_the_others
returns-clause-not_behind_the_others c turned =
    let turned_actions : List Action = for_root kind.Cause event_q 1 ∷ for_root kind.Cause event_r 2 ∷ for_leaf kind.Cause event_p 0 1 ∷ [] in
    let one =
    c.follows_is_one.ensures.step (p_where_q ∷ q_is_there ∷ r_is_there ∷ []) [] [] false 5 [] woken turned_actions (event_q ∷ event_p ∷ event_r ∷ []) (event_q ∷ event_r ∷ event_p ∷ [])
    tt (returns-clause-from_the_start c) turned
    in
    let rules : 0 ≡ 2 = ap (λ (l : List Action). (slice_index_or l 1 (for_root kind.Cause event_q 1)).rule) one.0 in
    omega (arith, rules)

pub returns-clause-not_left_asleep : goal.returns-clause-not_left_asleep
returns-clause-not_left_asleep c asleep =
    let two : List Action = for_root kind.Cause event_q 1 ∷ for_root kind.Cause event_r 2 ∷ [] in
    let one =
    c.follows_is_one.ensures.step (p_where_q ∷ q_is_there ∷ r_is_there ∷ []) [] [] false 5 [] woken two (event_q ∷ event_p ∷ event_r ∷ []) (event_q ∷ event_r ∷ [])
    tt (returns-clause-from_the_start c) asleep
    in
    let lengths : 3 ≡ 2 = ap length one.1 in omega (arith, lengths)
