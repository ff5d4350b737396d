use Rattle.enf_formula.proofs.Vocabulary.{◌≡◌, ℕ, zero, suc, pos, List, [], ◌∷◌, length, Contains, Some, arith, refl, sym, ap, subst, slice_index_or, lit<, step_at, Step, Valuation, no_values}
use Rattle.enf_formula.proofs.Vocabulary.{with_values, onto_values, value_at-insert, NameId, Var, Value, Num, Text, p_1_q_1, p_1_q_1_p_a, p_1_q_2, name_p, name_q, event_p_of, event_q_of, formula_p_x}
use Rattle.enf_formula.proofs.Vocabulary.{formula_q_x, variable_x, Atom, Sat, IsEventAmong}
use Rattle.enf_formula.proofs.Stability.{absent}
use Rattle.enf_formula.proofs.worked_cases.first_order.Goals as goal

-- v with x bound to the value
abbrev bound : Value → Valuation → Valuation
bound value v = with_values (variable_x ∷ []) (value ∷ []) v

-- an atom of x speaks of the value of x
holds_at : (trace : List Step) (name : NameId) (value : Value) (v : Valuation) → IsEventAmong (step_at trace 0).events name (Some (value ∷ []))
    → Sat trace 0 (bound value v) (Atom 0 name (Var variable_x ∷ []))
holds_at trace name value v h =
    subst (λ given. IsEventAmong (step_at trace 0).events name (onto_values given (Some []))) (sym (value_at-insert v variable_x value variable_x)) h

speaks_of : (trace : List Step) (name : NameId) (value : Value) (v : Valuation) → Sat trace 0 (bound value v) (Atom 0 name (Var variable_x ∷ []))
    → IsEventAmong (step_at trace 0).events name (Some (value ∷ []))
speaks_of trace name value v h =
    subst (λ given. IsEventAmong (step_at trace 0).events name (onto_values given (Some []))) (value_at-insert v variable_x value variable_x) h

pub returns-clause-one_p_lacks_q : goal.returns-clause-one_p_lacks_q
returns-clause-one_p_lacks_q c =
    λ each. absent (step_at p_1_q_1_p_a 0).events (event_q_of (Text (97 ∷ []))) refl (speaks_of p_1_q_1_p_a name_q _ no_values
    (each (Text (97 ∷ []) ∷ []) refl (holds_at p_1_q_1_p_a name_p (Text (97 ∷ [])) no_values (2, lit< tt, refl))))

pub returns-clause-some_p : goal.returns-clause-some_p
returns-clause-some_p c = λ none. none (Num (pos 1) ∷ [], refl, holds_at p_1_q_1 name_p (Num (pos 1)) no_values (0, lit< tt, refl))

pub returns-clause-some_value_lacks_p : goal.returns-clause-some_value_lacks_p
returns-clause-some_value_lacks_p c =
    λ none. none (Num (pos 2) ∷ [], refl, λ has. absent (step_at p_1_q_1 0).events (event_p_of (Num (pos 2))) refl (speaks_of p_1_q_1 name_p (Num (pos 2)) no_values has))

pub returns-clause-not_each_value : goal.returns-clause-not_each_value
returns-clause-not_each_value c =
    λ each. absent (step_at p_1_q_1 0).events (event_p_of (Num (pos 2))) refl (speaks_of p_1_q_1 name_p (Num (pos 2)) no_values (each (Num (pos 2) ∷ []) refl))

pub returns-clause-inner_binding_counts : goal.returns-clause-inner_binding_counts
returns-clause-inner_binding_counts c =
    λ none. none (
      Num (pos 1) ∷ [],
      refl,
      (
        holds_at p_1_q_2 name_p (Num (pos 1)) no_values (0, lit< tt, refl),
        λ no. no
            (Num (pos 2) ∷ [], refl, holds_at p_1_q_2 name_q (Num (pos 2)) (bound (Num (pos 1)) no_values) (1, lit< tt, refl)),
      ),
    )

-- p() has the value 1 alone
p_of_1 : (value : Value) → Contains (step_at p_1_q_2 0).events (event_p_of value) → value ≡ Num (pos 1)
p_of_1 value (zero, below, is) = sym (ap (λ event. slice_index_or event.args 0 (Num (pos 1))) is)
p_of_1 value (suc zero, below, is) = let other : ◌≡◌ {A = ℕ} 1 0 = ap (λ event. event.name.0) is in absurd (omega arith)
p_of_1 value (suc (suc i), below, is) = absurd (omega arith)

no_one_value : (values : List Value) → length values ≡ 1 → Sat p_1_q_2 0 (with_values (variable_x ∷ []) values no_values) formula_p_x
    → Sat p_1_q_2 0 (with_values (variable_x ∷ []) values no_values) formula_q_x → ⊥
no_one_value [] one p q = absurd (omega arith)
no_one_value (value ∷ []) one p q =
    absent (step_at p_1_q_2 0).events (event_q_of (Num (pos 1))) refl (subst (λ value. Contains (step_at p_1_q_2 0).events (event_q_of value))
    (p_of_1 value (speaks_of p_1_q_2 name_p value no_values p)) (speaks_of p_1_q_2 name_q value no_values q))
no_one_value (value ∷ next ∷ values) one p q = absurd (omega arith)

pub returns-clause-one_binding_for_both : goal.returns-clause-one_binding_for_both
returns-clause-one_binding_for_both c =
    λ some. some (λ found. no_one_value found.0 found.1 found.2.0 found.2.1)
