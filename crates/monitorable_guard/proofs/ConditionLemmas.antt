-- What it takes to evaluate a formula, from what its parts ask.
use Rattle.monitorable_guard.proofs.Vocabulary.{◌≡◌, ⊎_elim, Bool, List, [], ◌∷◌, ◌++◌, drop, length, slice_get, Some, All, Contains, IsTrue, ◌↔◌, ◌⊎◌, sym, subst, All-contains, Contains-append_left}
use Rattle.monitorable_guard.proofs.Vocabulary.{Contains-append_right, VarId, all_from, Formula, AreFreeVariables, Contains-append, Relation, FitOperators, outermost, tables_beyond, BindsFresh}
use Rattle.monitorable_guard.proofs.AgreementLemmas.{fit_front, fit_back}
use Rattle.monitorable_guard.proofs.PartLemmas.{fresh_within}

pub fresh_alike : (f : Formula) (S T : VarId → Type 0) → ((x : VarId) → S x ↔ T x) → BindsFresh f S ↔ BindsFresh f T
fresh_alike f S T same = (fresh_within f S T (λ x. (same x).1), fresh_within f T S (λ x. (same x).0))

pub fresh_joined : (f : Formula) (front back all : List VarId) → all ≡ front ++ back → BindsFresh f (Contains all) ↔ BindsFresh f (λ x. Contains front x ⊎ Contains back x)
fresh_joined f front back all joined = fresh_alike f (Contains all) (λ x. Contains front x ⊎ Contains back x) (λ x. (
  λ there. Contains-append front back x (subst (λ l. Contains l x) joined there),
  λ either. subst (λ l. Contains l x) (sym joined) (⊎_elim (Contains-append_left front back x) (Contains-append_right front back x) either),
))

pub fit_join : (fs gs : List Formula) (tables : List Relation) → FitOperators fs tables → FitOperators gs (drop (length fs) tables) → FitOperators (fs ++ gs) tables
fit_join [] gs tables front back = back
fit_join (f ∷ fs) gs [] front back = absurd front
fit_join (f ∷ fs) gs (t ∷ tables) front back = (front.0, fit_join fs gs tables front.1 back)

pub fit_alike : (g h : Formula) (tables : List Relation) → (FitOperators (outermost g) tables × FitOperators (outermost h) (tables_beyond g tables)) ↔ FitOperators (outermost g ++ outermost h) tables
fit_alike g h tables = (
  λ both. fit_join (outermost g) (outermost h) tables both.0 both.1,
  λ all. (fit_front (outermost g) (outermost h) tables all, fit_back (outermost g) (outermost h) tables all),
)

-- the first of the tables has these columns, and the same variables are free
pub first_decided : (f : Formula) (tables : List Relation) (first : Relation) (free : List VarId) (b : Bool) → Some first ≡ slice_get tables 0 → AreFreeVariables f free
    → IsTrue b ↔ (All (Contains first.columns) free × All (Contains free) first.columns) → IsTrue b ↔ FitOperators (f ∷ []) tables
first_decided f [] first free b there are told = absurd (cc)
first_decided f (t ∷ tables) first free b there are told =
    let same : first ≡ t = cc in (
      λ yes. (
        λ x. (
          λ at. (are.exact x).0 (All-contains (Contains free) first.columns x (told.0 yes).1 (subst (λ r. Contains r.columns x) (sym same) at)),
          λ is_free. subst (λ r. Contains r.columns x) same (All-contains (Contains first.columns) free x (told.0 yes).0 ((are.exact x).1 is_free)),
        ),
        tt,
      ),
      λ fit. told.1 (
        all_from (Contains first.columns) free (λ x at. subst (λ r. Contains r.columns x) (sym same) ((fit.0 x).1 ((are.exact x).0 at))),
        all_from (Contains free) first.columns (λ x at. (are.exact x).1 ((fit.0 x).0 (subst (λ r. Contains r.columns x) same at))),
      ),
    )
