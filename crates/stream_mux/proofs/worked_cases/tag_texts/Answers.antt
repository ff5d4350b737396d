use Rattle.enf_data.specs.declared.values.Value.TheVariants.{Num}
use Rattle.enf_value.specs.meaning.Tokens.{ValueTokenAt}
use Rattle.log_stream.proofs.PrintedTokens.{gap_none, gap_space}
use Rattle.log_stream.proofs.TokensByFirstByte.{BeginsValue, value_first}
use Rattle.std.proofs.Common.{[], arith, codes, inl, inr, lit<, pos, refl, ◌∷◌}
use Rattle.stream_mux.proofs.BadTags.{no_colon_is_bad, no_number_is_bad}
use Rattle.stream_mux.proofs.worked_cases.tag_texts.Goals as goal

one : ValueTokenAt (codes "1: end ;") 0 1 (Num (pos 1))
one = record {
  token = 49 ∷ [];
  rest = 58 ∷ 32 ∷ 101 ∷ 110 ∷ 100 ∷ 32 ∷ 59 ∷ [];
  splits = refl;
  ends = refl;
  stands = inl ((omega arith, (omega arith, tt)), refl);
  whole = λ low high. omega (arith, high);
  fits = omega arith;
}

pub returns-clause-end : goal.returns-clause-end
returns-clause-end c =
    let text = codes "1: end ;" in (
      lit< tt,
      (
        1,
        1,
        (one, λ e. omega (arith, e)),
        gap_none text 1 refl,
        (
          2,
          3,
          (omega arith, refl, refl),
          gap_space text 2 (101 ∷ 110 ∷ 100 ∷ 32 ∷ 59 ∷ []) refl refl,
          (
            6,
            7,
            (refl, refl, refl, refl),
            gap_space text 6 (59 ∷ []) refl refl,
            (8, 8, (omega arith, refl, refl), gap_none text 8 refl, refl),
          ),
        ),
      ),
    )

no_digit : BeginsValue 64 (Num (pos 0)) → ⊥
no_digit (inl h) = omega (arith, h.1)
no_digit (inr h) = omega (arith, h)

pub returns-clause-no_tag : goal.returns-clause-no_tag
returns-clause-no_tag c =
    no_number_is_bad (codes "@1;") (λ stream end fits s. no_digit (value_first (codes "@1;") 0 end (Num (pos stream)) s.0))

two : ValueTokenAt (codes "1 @2;") 0 1 (Num (pos 1))
two = record {
  token = 49 ∷ [];
  rest = 32 ∷ 64 ∷ 50 ∷ 59 ∷ [];
  splits = refl;
  ends = refl;
  stands = inl ((omega arith, (omega arith, tt)), refl);
  whole = λ low high. omega (arith, low);
  fits = omega arith;
}

pub returns-clause-no_colon : goal.returns-clause-no_colon
returns-clause-no_colon c =
    let text = codes "1 @2;" in
    no_colon_is_bad text 1 2 (lit< tt) (1, 2, (two, λ e. omega (arith, e)), gap_space text 1 (64 ∷ 50 ∷ 59 ∷ []) refl refl, refl)
    (λ end s. omega (arith, s.1))
