use Rattle.choice_step.proofs.Vocabulary.{◌≡◌, [], ◌∷◌, false, length, refl, ap, inl, inr, lit<, arith, none_in_nil, each_q, p_of_1, q_of_1, cause_literal, for_leaf, for_root, p_of_1_is_there, Root}
use Rattle.obligations.specs.declared.literals.LiteralKind.TheVariants as kind
use Rattle.choice_step.proofs.worked_cases.fed_choices.Goals as goal

pub returns-clause-fed : goal.returns-clause-fed
returns-clause-fed c = (
  Root 1 p_of_1_is_there,
  cause_literal p_of_1 0,
  p_of_1 ∷ [],
  inr (c.missing_of_rows.ensures.no_row, inl (refl, [], inr (none_in_nil p_of_1, refl))),
  refl,
  refl,
  (
    Root 0 (each_q 0),
    cause_literal q_of_1 1,
    p_of_1 ∷ q_of_1 ∷ [],
    inl (refl, [], c.missing_of_rows.ensures.one_row),
    refl,
    refl,
    (refl, (c.missing_of_rows.ensures.one_row_met, (inl ((0, lit< tt, refl), refl), tt))),
  ),
)

pub returns-clause-not_left_unfed : goal.returns-clause-not_left_unfed
returns-clause-not_left_unfed c unfed =
    let one =
    c.follows_is_one.ensures.step (each_q 0 ∷ p_of_1_is_there ∷ []) [] [] false 5 []
    (for_root kind.Cause p_of_1 1 ∷ for_leaf kind.Cause q_of_1 0 1 ∷ [])
    (for_root kind.Cause p_of_1 1 ∷ []) (p_of_1 ∷ q_of_1 ∷ []) (p_of_1 ∷ [])
    tt (returns-clause-fed c) unfed
    in
    let lengths : 2 ≡ 1 = ap length one.1 in omega (arith, lengths)
