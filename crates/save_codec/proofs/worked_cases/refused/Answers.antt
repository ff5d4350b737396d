-- A byte of the head is another, and a number or a row breaks a bound.
use Rattle.save_codec.proofs.Vocabulary.{◌≡◌, ◌∷◌, [], ℕ, List, None, Some, true, slice_index, ap, refl, sym, arith, All-head, All-nil, none-some, IsKeepable, KeptRow, kept_row_of, save_case_setting}
use Rattle.save_codec.proofs.Vocabulary.{RowLine}
use Rattle.save_codec.proofs.StateLemmas.{keep_is_within, unfit_last, unfit_position, unfit_row}
use Rattle.save_codec.proofs.worked_cases.refused.Goals as goal

pub returns-clause-head : goal.returns-clause-head
returns-clause-head c = λ signature policy rest e. let differ : 50 ≡ 49 = ap (λ (l : List ℕ). slice_index l 9) e in cc differ

pub returns-clause-beginning : goal.returns-clause-beginning
returns-clause-beginning c = keep_is_within save_case_setting 0 None 0 [] [] true (record
    { clock = omega arith; last = tt; position = ((λ none. refl), (λ zero. refl)); rows_fit = (tt, refl); dues_fit = tt })

pub returns-clause-late : goal.returns-clause-late
returns-clause-late c = unfit_last save_case_setting 4 (Some 5) 1 [] [] (omega arith) (λ before. omega (arith, before))

pub returns-clause-stepless : goal.returns-clause-stepless
returns-clause-stepless c = unfit_position save_case_setting 6 (Some 5) 0 [] [] (omega arith) (omega arith) (λ agree. none-some 5 (sym (agree.1 refl)))

abbrev row : RowLine
row = record { window = 0; time = 5; values = [] }

no_window : (rows : List KeptRow) → IsKeepable [] 5 rows (kept_row_of row) → ⊥
no_window rows keep = none-some keep.operator keep.numbered

pub returns-clause-windowless : goal.returns-clause-windowless
returns-clause-windowless c = unfit_row save_case_setting 6 (Some 5) 1 (row ∷ []) [] 0
    (record { clock = omega arith; last = omega arith; position = ((λ some. absurd (none-some 5 (sym some))), (λ one. absurd (omega (arith, one)))) })
    (omega arith, (tt, (tt, All-nil (IsKeepable [] 5 []))), λ fit. no_window (kept_row_of row ∷ []) (All-head (IsKeepable [] 5 (kept_row_of row ∷ [])) (kept_row_of row) [] fit.1.1))
