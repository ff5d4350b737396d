-- Columns of rows, and which rows under them survive.
use Rattle.past_state.proofs.Vocabulary.{◌≡◌, ◌∙◌, ◌↔◌, inl, inr, ⊎_elim, ◌<◌, List, [], ◌∷◌, Contains, sym, subst, ranks, MatchOrdering, IsStrictlySortedBy, All-contains, All-after_first, Formula}
use Rattle.past_state.proofs.Vocabulary.{AreFreeVariables, IsFree, tree_of, same_free, Valuation, variable_cmp, BindsColumns, Event, VarId, AreOpen, HasKnownValues, BoundFormula, HoldsNow}
use Rattle.past_state.proofs.Vocabulary.{none_in_nil, Relation, IsTable, HasValuation, Window, WindowKeeps, AnswersRows, AllComeFrom, AreSurvivors}
use Rattle.std.specs.declared.cmp.Ordering.TheVariants.{Less}
use Rattle.past_state.specs.declared.left_sides.Left.TheVariants as side
use Rattle.past_state.specs.declared.survivors.Survivors.TheVariants as told

below : (x y : VarId) → variable_cmp x y ≡ Less → x.0 < y.0
below x y e = subst (λ r. MatchOrdering r (x.0 < y.0) (x.0 ≡ y.0) (y.0 < x.0)) e (ranks x.0 y.0)

pub after : (x : VarId) (xs : List VarId) → IsStrictlySortedBy variable_cmp (x ∷ xs) → (y : VarId) → Contains xs y → x.0 < y.0
after x xs sorted y there = below x y (All-contains (λ z. variable_cmp x z ≡ Less) xs y (All-after_first variable_cmp x xs sorted) there)

-- with nothing bound the open variables are all that are free
pub open_free : (f : Formula) (bound xs : List VarId) → bound ≡ [] → AreOpen f bound xs → AreFreeVariables f xs
open_free f bound xs none opened = record {
  rising = opened.rising;
  exact = λ x. (λ there. ((opened.exact x).0 there).0, λ free. (opened.exact x).1 (free, λ there. none_in_nil x (subst (λ l. Contains l x) none there)));
}

pub answers_all : (events : List Event) (tables : List Relation) (guard : BoundFormula) (columns : List VarId) (t : Relation)
    → AreFreeVariables (tree_of guard.formula) columns → IsTable t → AreFreeVariables (tree_of guard.formula) t.columns
    → ((v : Valuation) → BindsColumns v t.columns → HasValuation t v ↔ HoldsNow events tables v (tree_of guard.formula)) → AllComeFrom events tables (tree_of guard.formula) t
    → AnswersRows events tables guard columns t
answers_all events tables guard columns t free table found rows known =
    let same : t.columns ≡ columns = same_free (tree_of guard.formula) t.columns columns found free in
    record { table = table; columns_are = same; rows = λ v binds. rows v (subst (BindsColumns v) (sym same) binds); known = known }

-- with nothing bound no value is that of a bound variable
pub known_from : (events : List Event) (tables : List Relation) (f : Formula) (bound : List VarId) (v : Valuation) (t : Relation) → bound ≡ []
    → HasKnownValues events tables f bound v t → AllComeFrom events tables f t
known_from events tables f bound v t none known row there value inside =
    ⊎_elim (λ argument. inl argument)
    (λ either. inr (⊎_elim (λ tabled. inl tabled) (λ last. ⊎_elim (λ constant. inr constant) (λ of. absurd (none_in_nil of.0 (subst (λ l. Contains l of.0) none of.1))) last) either))
    (known row there value inside)

-- the kept rows under which a guard holds are those that survive
pub surviving_in : (events : List Event) (tables : List Relation) (guard : BoundFormula) (window : Window) (lasting surviving : Relation) → lasting.columns ≡ window.columns
    → ((v : Valuation) → HasValuation lasting v ↔ WindowKeeps window window.last v) → surviving.columns ≡ lasting.columns
    → ((v : Valuation) → HasValuation surviving v ↔ (HasValuation lasting v × HoldsNow events tables v (tree_of guard.formula)))
    → AreSurvivors events tables (side.ByRow guard) window (told.Only surviving)
surviving_in events tables guard window lasting surviving columns lasts surviving_columns survives = record {
  fit = surviving_columns ∙ columns;
  exact = λ v binds keeps. (λ h. ((survives v).0 h).1, λ holds. (survives v).1 ((lasts v).1 keeps, holds));
}

-- and all but those under which it is denied
pub failing_in : (events : List Event) (tables : List Relation) (guard : BoundFormula) (window : Window) (denied failing : Relation)
    → ((x : VarId) → Contains denied.columns x → Contains window.columns x)
    → ((v : Valuation) → BindsColumns v denied.columns → HasValuation denied v ↔ HoldsNow events tables v (tree_of guard.formula)) → failing.columns ≡ window.columns
    → ((v : Valuation) → WindowKeeps window window.last v → HasValuation failing v ↔ HasValuation denied v)
    → AreSurvivors events tables (side.Denied guard) window (told.AllBut failing)
failing_in events tables guard window denied failing within rows columns found = record {
  fit = columns;
  exact = λ v binds keeps.
      let same = found v keeps in
      let tells = rows v (λ x there. binds x (within x there)) in
      (λ absent holds. absent (same.1 (tells.1 holds)), λ fails there. fails (tells.0 (same.0 there)));
}

pub denied_within : (f : Formula) (denied : Relation) (columns : List VarId) → AreFreeVariables f denied.columns → ((x : VarId) → IsFree x f → Contains columns x)
    → (x : VarId) → Contains denied.columns x → Contains columns x
denied_within f denied columns opened free x there = free x ((opened.exact x).0 there)
