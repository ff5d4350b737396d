use Rattle.obligations.proofs.Vocabulary.{◌≡◌, [], ◌∷◌, refl, sym, ap, inl, inr, ⊎_elim, first_or_later, here, none_in_nil, NameId, Var, name_p, name_q, variable_x}
use Rattle.obligations.proofs.CaseLemmas.{names_apart}
use Rattle.obligations.specs.declared.literals.LiteralKind.TheVariants as kind
use Rattle.obligations.proofs.worked_cases.left_plans.Goals as goal

apart : kind.Suppress ≡ kind.Cause → name_p ≡ name_p → ⊥
apart suppress same = cc

pub returns-clause-own : goal.returns-clause-own
returns-clause-own c = (inr (refl, (Var variable_x ∷ [], (refl, refl), (refl, refl))), (apart, tt))

pub returns-clause-own_of_two : goal.returns-clause-own_of_two
returns-clause-own_of_two c = (
  inr (
    refl,
    (
      Var variable_x ∷ [],
      inl ((refl, refl), (λ there. ⊎_elim (λ same. names_apart (sym (ap (λ (n : NameId). n.0) same))) (none_in_nil name_p) (first_or_later name_p name_q [] there))),
      (refl, refl),
    ),
  ),
  (apart, tt),
)

pub returns-clause-looked_for_twice : goal.returns-clause-looked_for_twice
returns-clause-looked_for_twice c = λ leaves.
    ⊎_elim
    (λ ignores. ignores (here name_p (name_p ∷ [])))
    (λ own. ⊎_elim (λ first. first.1 (here name_p [])) (λ second. second.0 (here name_p [])) own.1.1)
    leaves.0

pub returns-clause-not_looked_for : goal.returns-clause-not_looked_for
returns-clause-not_looked_for c = (
  inl (λ there. ⊎_elim (λ same. names_apart (sym (ap (λ (n : NameId). n.0) same))) (none_in_nil name_p) (first_or_later name_p name_q [] there)),
  (apart, tt),
)

pub returns-clause-not_where_caused : goal.returns-clause-not_where_caused
returns-clause-not_where_caused c = λ leaves.
    ⊎_elim (λ ignores. ignores (here name_p [])) (λ own. absurd (let same = own.0 in cc)) leaves.0

pub returns-clause-another_suppressed : goal.returns-clause-another_suppressed
returns-clause-another_suppressed c = λ leaves.
    ⊎_elim (λ ignores. ignores (here name_q [])) (λ own. names_apart (ap (λ (n : NameId). n.0) own.1.2.0)) leaves.0
