-- What is emitted fits the signature: the plans of a policy that was read cause what fits, where guards give values of
-- the sorts that are known.
use Rattle.enforcer_core.proofs.Vocabulary.{◌≡◌, ℕ, zero, suc, Bool, true, false, ◌&&◌, IsTrue, List, [], ◌∷◌, ◌++◌, length, Option, None, Some, refl, sym, subst, slice_get, AllByRecursion, flat_map}
use Rattle.enforcer_core.proofs.Vocabulary.{option_map, none-some, same_Some, AreTermsInScope, IsTermInScope, AllByRecursion-contains, AllByRecursion-of_append, there_from_get, Valuation, onto_values}
use Rattle.enforcer_core.proofs.Vocabulary.{value_of_term, values_of_terms, Event, Step, Term, Var, Const, VarId, Value, ReadIsWellFormed, nodes, Plan, AtEach, IsScopedNode, IsWellFormed}
use Rattle.enforcer_core.proofs.Vocabulary.{has_sort-from_sort, has_sort-sort, FillColumns, FitsSignature, entry_columns, has_sort, value_sort, NameEntry, Sort, AreRight, GuardsGiveRight}
use Rattle.enforcer_core.proofs.Vocabulary.{TraceEventsFit, CausesFit, FollowedFits, FillsColumns, PlansKeepToSignature, KeepsSorts, PolicyKeepsSorts, ReadIsSorted, FillSorts, term_sort}
use Rattle.enforcer_core.proofs.Vocabulary.{FollowsFitsSignature}
use Rattle.enforcer_core.proofs.RightSortLemmas.{AllKeepSorts, gives_right, sorts_in, sorts_keep}
use Rattle.plan_terms.specs.meaning.Plans as plan

-- ---- whether an event fits, as a test

abbrev fill : List Value → (entry_columns : List Sort) → Bool
fill [] [] = true
fill [] (column ∷ cols) = false
fill (value ∷ values) [] = false
fill (value ∷ values) (column ∷ cols) = has_sort column value && fill values cols

abbrev fits_entry : Option NameEntry → List Value → Bool
fits_entry None args = false
fits_entry (Some entry) args = fill args entry.sorts

abbrev fits : List NameEntry → Event → Bool
fits entries event = fits_entry (slice_get entries event.name.0) event.args

filled : (values : List Value) (cols : List Sort) → IsTrue (fill values cols) → FillColumns values cols
filled [] [] is = tt
filled [] (column ∷ cols) is = absurd (cc)
filled (value ∷ values) [] is = absurd (cc)
filled (value ∷ values) (column ∷ cols) is = by (has_sort column value) refl is (filled values cols)
  where
    by : (b : Bool) → has_sort column value ≡ b → IsTrue (b && fill values cols) → (IsTrue (fill values cols) → FillColumns values cols) → FillColumns (value ∷ values) (column ∷ cols)
    by true has rest behind = (has_sort-sort column value has, behind rest)
    by false has never behind = absurd (cc)

fills : (values : List Value) (cols : List Sort) → FillColumns values cols → IsTrue (fill values cols)
fills [] [] are = refl
fills [] (column ∷ cols) are = absurd are
fills (value ∷ values) [] are = absurd are
fills (value ∷ values) (column ∷ cols) are = subst (λ (b : Bool). IsTrue (b && fill values cols)) (sym (has_sort-from_sort column value are.0)) (fills values cols are.1)

fits_signature : (entries : List NameEntry) (event : Event) → IsTrue (fits entries event) → FitsSignature entries event
fits_signature entries event is = by (slice_get entries event.name.0) refl is
  where
    by : (found : Option NameEntry) → slice_get entries event.name.0 ≡ found → IsTrue (fits_entry found event.args) → FitsSignature entries event
    by None at never = absurd (cc)
    by (Some entry) at fill_all = (entry, at, filled event.args entry.sorts fill_all)

signature_fits : (entries : List NameEntry) (event : Event) → FitsSignature entries event → IsTrue (fits entries event)
signature_fits entries event (entry, at, are) = subst (λ (found : Option NameEntry). IsTrue (fits_entry found event.args)) (sym at) (fills event.args entry.sorts are)

-- ---- what a plan causes

module _ (entries : List NameEntry) (sorts : VarId → Sort) where
  abbrev Right : VarId → Value → Bool
  Right x value = has_sort (sorts x) value

  -- values of terms that have the sorts of columns have them too
  term_value : (scope : List VarId) (v : Valuation) → AreRight Right scope v → (t : Term) (column : Sort) → term_sort sorts t ≡ column → IsTermInScope scope t
      → (value : Value) → value_of_term v t ≡ Some value → value_sort value ≡ column
  term_value scope v right (Var x) column fill_it there value is = has_sort-sort column value (subst (λ (sort : Sort). IsTrue (has_sort sort value)) fill_it (right x value there is))
  term_value scope v right (Const constant) column fill_it there value is = subst (λ (w : Value). value_sort w ≡ column) (same_Some constant value is) fill_it

  terms_fill : (scope : List VarId) (v : Valuation) → AreRight Right scope v → (terms : List Term) → AreTermsInScope scope terms → (cols : List Sort) → FillSorts sorts terms cols
      → (args : List Value) → values_of_terms v terms ≡ Some args → FillColumns args cols
  terms_fill scope v right [] there [] fill_all args is = subst (λ (l : List Value). FillColumns l []) (same_Some [] args is) tt
  terms_fill scope v right [] there (column ∷ cols) fill_all args is = absurd fill_all
  terms_fill scope v right (t ∷ terms) there [] fill_all args is = absurd fill_all
  terms_fill scope v right (t ∷ terms) there (column ∷ cols) fill_all args is =
      by (value_of_term v t) refl (values_of_terms v terms) refl is (terms_fill scope v right terms there.1 cols fill_all.1)
    where
      by : (first : Option Value) → value_of_term v t ≡ first → (rest : Option (List Value)) → values_of_terms v terms ≡ rest → onto_values first rest ≡ Some args
          → ((values : List Value) → values_of_terms v terms ≡ Some values → FillColumns values cols) → FillColumns args (column ∷ cols)
      by None one rest more both behind = absurd (none-some args both)
      by (Some value) one None more both behind = absurd (none-some args both)
      by (Some value) one (Some values) more both behind =
          subst (λ (l : List Value). FillColumns l (column ∷ cols)) (same_Some (value ∷ values) args both)
          (term_value scope v right t column fill_all.0 there.0 value one, behind values more)

  -- the name of a leaf has an entry
  leaf_fits : (terms : List Term) (args : List Value) (found : Option NameEntry) → option_map (λ (entry : NameEntry). length entry.sorts) found ≡ Some (length terms)
      → ((cols : List Sort) → FillSorts sorts terms cols → FillColumns args cols) → FillSorts sorts terms (entry_columns found) → IsTrue (fits_entry found args)
  leaf_fits terms args None many keeps fill_all = absurd (none-some (length terms) many)
  leaf_fits terms args (Some entry) many keeps fill_all = fills args entry.sorts (keeps entry.sorts fill_all)

  causes_fit : (p : Plan) (scope : List VarId) → AtEach IsScopedNode p scope → AtEach (KeepsSorts entries sorts) p scope → AllByRecursion (FillsColumns entries) (nodes p)
      → AtEach (CausesFit (fits entries) Right) p scope
  causes_fit (plan.CausePlan node place name terms) scope scoped keeps many =
      λ v args right is. leaf_fits terms args (slice_get entries name.0) many.0 (λ cols fill_all. terms_fill scope v right terms scoped cols fill_all args is) keeps
  causes_fit (plan.SuppressPlan node place name terms) scope scoped keeps many = tt
  causes_fit (plan.Both node l r) scope scoped keeps many =
      let parts = AllByRecursion-of_append (FillsColumns entries) (nodes l) (nodes r) many.1 in
      (tt, causes_fit l scope scoped.1 keeps.1 parts.0, causes_fit r scope scoped.2 keeps.2 parts.1)
  causes_fit (plan.Either node l r) scope scoped keeps many =
      let parts = AllByRecursion-of_append (FillsColumns entries) (nodes l) (nodes r) many.1 in
      (tt, causes_fit l scope scoped.1 keeps.1 parts.0, causes_fit r scope scoped.2 keeps.2 parts.1)
  causes_fit (plan.TestOr node guard test body) scope scoped keeps many = (tt, causes_fit body scope scoped.1 keeps.1 many.1)
  causes_fit (plan.Guarded node xs guard test body) scope scoped keeps many = (tt, causes_fit body (scope ++ xs) scoped.1 keeps.1 many.1)
  causes_fit (plan.EventuallyPlan node place low high body) scope scoped keeps many = (tt, causes_fit body scope scoped.1 keeps.1 many.1)
  causes_fit (plan.AlwaysPlan node place low high body) scope scoped keeps many = (tt, causes_fit body scope scoped.1 keeps.1 many.1)
  causes_fit (plan.UntilPlan node place low high l r) scope scoped keeps many =
      let parts = AllByRecursion-of_append (FillsColumns entries) (nodes l) (nodes r) many.1 in
      (tt, causes_fit l scope scoped.1 keeps.1 parts.0, causes_fit r scope scoped.2 keeps.2 parts.1)
  causes_fit (plan.NextPlan node place high body) scope scoped keeps many = (tt, causes_fit body scope scoped.1 keeps.1 many.1)

-- ---- what is emitted

-- the nodes of a plan are of those of all plans
nodes_of_rule : (entries : List NameEntry) (plans : List Plan) → AllByRecursion (FillsColumns entries) (flat_map nodes plans) → (rule : ℕ) (p : Plan) → slice_get plans rule ≡ Some p
    → AllByRecursion (FillsColumns entries) (nodes p)
nodes_of_rule entries [] many rule p at = absurd (none-some p at)
nodes_of_rule entries (q ∷ plans) many zero p at =
    subst (λ (node : Plan). AllByRecursion (FillsColumns entries) (nodes node)) (same_Some q p at) (AllByRecursion-of_append (FillsColumns entries) (nodes q) (flat_map nodes plans) many).0
nodes_of_rule entries (q ∷ plans) many (suc rule) p at =
    nodes_of_rule entries plans (AllByRecursion-of_append (FillsColumns entries) (nodes q) (flat_map nodes plans) many).1 rule p at

pub follows_fits : FollowedFits → ReadIsSorted → PolicyKeepsSorts → ReadIsWellFormed → PlansKeepToSignature → FollowsFitsSignature
follows_fits followed read_sorted policy_keeps well_formed kept entries rules bytes plans guards trace records out answer planned formed trace_fits records_fit follows i event there =
    fits_signature entries event (followed guards plans trace records out (fits entries) right formed (record { causes = causes; give = give })
    (λ j e at. signature_fits entries e (trace_fits j e at)) (λ j e at. signature_fits entries e (records_fit j e at)) follows i event there)
  where
    keep : AllKeepSorts entries plans
    keep = policy_keeps entries rules plans guards (well_formed entries bytes rules answer) (read_sorted entries bytes rules answer) planned

    right : (rule : ℕ) → VarId → Value → Bool
    right rule x value = has_sort (sorts_in entries plans keep rule x) value

    many : AllByRecursion (FillsColumns entries) (flat_map nodes plans)
    many = (kept entries rules plans guards (well_formed entries bytes rules answer) planned).filled

    scoped : (rule : ℕ) (p : Plan) → slice_get plans rule ≡ Some p → AtEach IsScopedNode p []
    scoped rule p at = (AllByRecursion-contains (IsWellFormed guards) plans p formed.each (there_from_get plans rule p at)).scoped

    causes : (rule : ℕ) (p : Plan) → slice_get plans rule ≡ Some p → AtEach (CausesFit (fits entries) (right rule)) p []
    causes rule p at =
        causes_fit entries (sorts_in entries plans keep rule) p [] (scoped rule p at) (sorts_keep entries plans keep rule p at) (nodes_of_rule entries plans many rule p at)

    give : (steps : List Step) → TraceEventsFit (fits entries) steps → GuardsGiveRight plans steps right
    give steps all rule p at =
        gives_right entries (sorts_in entries plans keep rule) p steps (λ j e there'. fits_signature entries e (all j e there')) (scoped rule p at) (sorts_keep entries plans keep rule p at)
