-- Laws of generated steps: how many draws they make, how far their times go, and what one step more adds.
use Rattle.std.proofs.Common.{ℕ, zero, suc, ◌*◌, ◌≤◌, arith, ◌≡◌, ◌+◌, [], ◌∷◌, ◌++◌, ap, ◌∙◌, add-one}
use Rattle.std.proofs.lemmas.List.{map-append}
use Rattle.trace_meaning.specs.meaning.Traces.{StepRecord}
use Rattle.log_gen.specs.meaning.GeneratedLogs.{first_draw, time_before, generated, generated_records, generated_step}

-- at most eight draws for each step
pub few_draws : (start step : ℕ) → first_draw start step ≤ 8 * step
few_draws start zero = omega arith
few_draws start (suc step) = omega (arith, few_draws start step)

-- at most seven units for each step
pub early : (start step : ℕ) → time_before start step ≤ 7 * step
early start zero = omega arith
early start (suc step) = omega (arith, early start step)

-- one record more
pub records_more : (start made : ℕ)
    → generated_records start (made + 1) ≡ generated_records start made
    ++ StepRecord (generated_step start made) ∷ []
records_more start made =
    ap (generated_records start) (add-one made)
    ∙ map-append (λ step. StepRecord step) (generated start made) (generated_step start made ∷ [])
