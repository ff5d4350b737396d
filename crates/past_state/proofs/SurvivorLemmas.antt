-- Survivors as windows see them.
use Rattle.past_state.proofs.Vocabulary.{◌≡◌, ◌↔◌, ℕ, IsTrue, List, refl, sym, subst, Valuation, VarId, Value, Relation, AgreesWithRow, HasValuation, window_given, among_has, given_answers}
use Rattle.past_state.proofs.Vocabulary.{outside_has, Window, AnswersBy, SurvivesFor, Surviving, ValuationSurvives, SurvivorsFit, IsViewOf, survives_by, Survivors}
use Rattle.windows.specs.declared.surviving_rows.Surviving.TheVariants as seen
use Rattle.past_state.specs.declared.survivors.Survivors.TheVariants as told

-- what is so by the view is so
pub by_view : (P : (Valuation → Type 0) → Type 0) (survivors : Survivors) (view : Surviving) → IsViewOf survivors view → P (SurvivesFor view) → P (ValuationSurvives survivors)
by_view P told.All seen.All is holds = holds
by_view P told.All (seen.Only rows) is holds = absurd is
by_view P told.All (seen.AllBut rows) is holds = absurd is
by_view P (told.Only rows) seen.All is holds = absurd is
by_view P (told.Only rows) (seen.Only others) is holds = subst (λ t. P (HasValuation t)) is holds
by_view P (told.Only rows) (seen.AllBut others) is holds = absurd is
by_view P (told.AllBut rows) seen.All is holds = absurd is
by_view P (told.AllBut rows) (seen.Only others) is holds = absurd is
by_view P (told.AllBut rows) (seen.AllBut others) is holds = subst (λ t. P (λ v. HasValuation t v → ⊥)) is holds

-- a row survives where the valuations do that agree with it
survives_row : (columns : List VarId) (survivors : Survivors) (row : List Value) (v : Valuation) → SurvivorsFit columns survivors → AgreesWithRow v columns row
    → IsTrue (survives_by survivors row) ↔ ValuationSurvives survivors v
survives_row columns told.All row v fit agrees = (λ _. tt, λ _. refl)
survives_row columns (told.Only rows) row v fit agrees = among_has rows row v (subst (λ l. AgreesWithRow v l row) (sym fit) agrees)
survives_row columns (told.AllBut rows) row v fit agrees = outside_has rows row v (subst (λ l. AgreesWithRow v l row) (sym fit) agrees)

-- so a window gives what it answers
pub window_gives : (window : Window) (time : ℕ) (survivors : Survivors) (right : Relation) → SurvivorsFit window.columns survivors → right.columns ≡ window.columns → (v : Valuation)
    → HasValuation (window_given window time (survives_by survivors) right) v ↔ AnswersBy window time (ValuationSurvives survivors) right v
window_gives window time survivors right fit same =
    given_answers window time (survives_by survivors) right (ValuationSurvives survivors) same (λ row times w there agrees. survives_row window.columns survivors row w fit agrees)
