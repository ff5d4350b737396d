use Rattle.enforce_types.proofs.Vocabulary.{◌≡◌, ℕ, IsTrue, [], arith, refl, subst, ⊎_elim, true≢false, sym, same_Some, first_or_later, here, none_in_nil, NameId, name_p, name_q, text_entries}
use Rattle.enforce_types.proofs.Vocabulary.{is_causable}
use Rattle.enforce_types.proofs.worked_cases.keeping_to_signature.Goals as goal

pub returns-clause-kept : goal.returns-clause-kept
returns-clause-kept c = record {
  caused = λ name there.
      ⊎_elim (λ (same : name_q ≡ name). subst (λ (n : NameId). IsTrue (is_causable text_entries n)) same refl) (λ none. absurd (none_in_nil name none)) (first_or_later name name_q [] there);
  suppressed = λ name there. absurd (none_in_nil name there);
  filled = (tt, (tt, (refl, tt)));
  looked_for = (omega arith, tt);
}

pub returns-clause-not_causable : goal.returns-clause-not_causable
returns-clause-not_causable c = λ kept. true≢false (sym (kept.caused name_p (here name_p [])))

pub returns-clause-not_suppressible : goal.returns-clause-not_suppressible
returns-clause-not_suppressible c = λ kept. true≢false (sym (kept.suppressed name_q (here name_q [])))

pub returns-clause-no_term : goal.returns-clause-no_term
returns-clause-no_term c = λ kept. let same : ◌≡◌ {A = ℕ} 1 0 = same_Some 1 0 kept.filled.0 in omega arith

pub returns-clause-two_terms : goal.returns-clause-two_terms
returns-clause-two_terms c = λ kept. let same : ◌≡◌ {A = ℕ} 1 2 = same_Some 1 2 kept.filled.0 in omega arith

pub returns-clause-no_name : goal.returns-clause-no_name
returns-clause-no_name c = λ kept. omega (arith, kept.looked_for.0)
