use Rattle.log_stream.proofs.Vocabulary.{◌≡◌, pos, [], ◌∷◌, inl, inr, refl, arith, codes, ValueTokenAt, Num, System, RecordStart, RecordMarked, LogMark, Input, TraceLog}
use Rattle.log_stream.proofs.TokensByFirstByte.{BeginsValue, value_first}
use Rattle.log_stream.proofs.PrintedTokens.{gap_none, gap_space}
use Rattle.log_stream.proofs.ReadParts.{bad_behind, bad_here, is_bad, stuck_marked, stuck_start}
use Rattle.log_stream.proofs.worked_cases.syntax.Goals as goal

one : ValueTokenAt (codes "@1 ;") 1 2 (Num (pos 1))
one = record {
  token = 49 ∷ [];
  rest = 32 ∷ 59 ∷ [];
  splits = refl;
  ends = refl;
  stands = inl ((omega arith, (omega arith, tt)), refl);
  whole = λ low high. omega (arith, low);
  fits = omega arith;
}

pub returns-clause-spelled : goal.returns-clause-spelled
returns-clause-spelled c =
    let text = codes "@1 ;" in (
      (tt, omega arith),
      (
        1,
        1,
        (omega arith, refl, refl),
        gap_none text 1 refl,
        (
          2,
          3,
          (one, λ e. omega (arith, e)),
          gap_space text 2 (59 ∷ []) refl refl,
          (4, 4, (omega arith, refl, refl), gap_none text 4 refl, refl),
        ),
      ),
    )

pub returns-clause-inserted : goal.returns-clause-inserted
returns-clause-inserted c =
    is_bad Input (codes "+1;") 0
    (bad_here Input (codes "+1;") 0 RecordStart
    (stuck_start Input (codes "+1;") 0 (λ end s. absurd (omega (arith, s.1))) (λ end s. absurd (omega (arith, s.1))) (λ end is s. other is)))
  where
    other : Input ≡ TraceLog → ⊥
    other e = cc

pub returns-clause-no_time : goal.returns-clause-no_time
returns-clause-no_time c =
    let text = codes "@;" in
    is_bad Input text 1
    (bad_behind Input text 0 1 RecordStart (RecordMarked System) (LogMark 64 ∷ []) 1 (1, 1, (omega arith, refl, refl), gap_none text 1 refl, refl) refl
    (bad_here Input text 1 (RecordMarked System) (stuck_marked Input text 1 System (λ time end s. no_digit (value_first text 1 end (Num (pos time)) s.0)))))
  where
    no_digit : BeginsValue 59 (Num (pos 0)) → ⊥
    no_digit (inl h) = omega (arith, h.1)
    no_digit (inr h) = omega (arith, h)
