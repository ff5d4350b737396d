-- A plan after a test or under rows misses nothing at any step where its body does not.
use Rattle.obligations.proofs.Vocabulary.{◌≡◌, ℕ, List, [], ◌∷◌, ◌++◌, ⊎_elim, ◌∙◌, with_values, VarId, Formula, Plan, TestOr, Guarded, Missing, Gathers, IsPatient, Literal}

pub patient_test : (node guard : ℕ) (test : Formula) (body : Plan) → IsPatient body → IsPatient (TestOr node guard test body)
patient_test node guard test body inner trace v literals missing =
    ⊎_elim (λ m. m.1) (λ m. inner trace v literals m.1) missing

gathers_none : {X : Type 0} (P : X → List Literal → Type 0) → ((x : X) (ys : List Literal) → P x ys → ys ≡ []) → (xs : List X)
    (ys : List Literal) → Gathers P xs ys → ys ≡ []
gathers_none P each [] ys gathered = gathered
gathers_none P each (x ∷ xs) ys (first, rest, one, others, are) =
    are ∙ (λ i. each x first one i ++ gathers_none P each xs rest others i)

pub patient_rows : (node guard : ℕ) (xs : List VarId) (test : Formula) (body : Plan) → IsPatient body
    → IsPatient (Guarded node xs guard test body)
patient_rows node guard xs test body inner trace v literals (rows, are, gathered) =
    gathers_none (λ row. Missing trace body (with_values xs row v)) (λ row. inner trace (with_values xs row v)) rows literals gathered
