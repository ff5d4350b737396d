use Rattle.enforce_types.proofs.Vocabulary.{◌≡◌, ℕ, zero, suc, pos, [], ◌∷◌, Option, codes, nat_eq, cond, false, inr, ⊎_elim, Contains, refl, sym, subst, ◌∙◌, none-some, step_at, first_or_later, here}
use Rattle.enforce_types.proofs.Vocabulary.{none_in_nil, VarId, Num, name_p, FillColumns, FitsSignature, entry_columns, NameEntry, Sort, Int, Text, text_a, int_and_text_entries, one_p}
use Rattle.std.specs.Prelude.{slice_get}
use Rattle.enforce_types.proofs.worked_cases.sorts.Goals as goal

int_is_no_text : Int ≡ Text → ⊥
int_is_no_text e = cc

-- x is a number, and y a text
abbrev x_alone : VarId → Sort
x_alone v = cond (nat_eq v.0 0) Int Text

pub returns-clause-constant : goal.returns-clause-constant
returns-clause-constant c = ((λ v. Text), λ known. refl)

pub returns-clause-clash : goal.returns-clause-clash
returns-clause-clash c = λ sorted. int_is_no_text (sym sorted.1.0.0 ∙ sorted.1.1 (inr tt))

pub returns-clause-found_behind : goal.returns-clause-found_behind
returns-clause-found_behind c = (x_alone, (((λ known. ⊎_elim (λ never. absurd never) (λ never. absurd never) known), (refl, tt)), (refl, tt)))

pub returns-clause-no_name : goal.returns-clause-no_name
returns-clause-no_name c = λ sorted. sorted.1

pub returns-clause-trace : goal.returns-clause-trace
returns-clause-trace c i event there = by i there
  where
    by : (i : ℕ) → Contains (step_at (one_p (Num (pos 7))) i).events event → FitsSignature int_and_text_entries event
    by zero there = ⊎_elim (λ same. subst (FitsSignature int_and_text_entries) same
        (record { text = codes "p"; sorts = Int ∷ []; causable = false; suppressible = false }, refl, (refl, tt)))
        (λ never. absurd (none_in_nil event never))
        (first_or_later event (record { name = name_p; args = Num (pos 7) ∷ [] }) [] there)
    by (suc i) there = absurd (none_in_nil event there)

pub returns-clause-no_number : goal.returns-clause-no_number
returns-clause-no_number c = λ fits.
    let one = fits 0 (record { name = name_p; args = text_a ∷ [] }) (here (record { name = name_p; args = text_a ∷ [] }) []) in
    let column : FillColumns (text_a ∷ []) (entry_columns (slice_get int_and_text_entries 0)) = subst
    (λ (found : Option NameEntry). FillColumns (text_a ∷ []) (entry_columns found)) (sym one.1) one.2 in
    int_is_no_text (sym column.0)

pub returns-clause-no_entry : goal.returns-clause-no_entry
returns-clause-no_entry c = λ fits.
    let one = fits 0 (record { name = name_p; args = text_a ∷ [] }) (here (record { name = name_p; args = text_a ∷ [] }) []) in
    none-some one.0 one.1
