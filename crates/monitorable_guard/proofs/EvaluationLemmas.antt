-- The valuations that answer a formula, from those that answer its parts.
use Rattle.monitorable_guard.proofs.Vocabulary.{◌≡◌, ℕ, Bool, true, false, not, ◌⊎◌, inl, inr, ⊎_elim, List, [], ◌∷◌, ◌++◌, length, map, Option, None, Some, unwrap_or, pos, IsSome, IsTrue, Contains}
use Rattle.monitorable_guard.proofs.Vocabulary.{◌↔◌, refl, sym, ap, subst, ◌∙◌, false≢true, length-map, none-some, Valuation, value_at, value_of_term, values_of_terms, onto_values, with_values}
use Rattle.monitorable_guard.proofs.Vocabulary.{valuation_of, Event, NameId, Term, Var, VarId, Value, Num, Formula, Atom, Equal, Not, And, Or, Implies, Exists, Forall, IsFree, IsEventAmong}
use Rattle.monitorable_guard.proofs.Vocabulary.{AreSameValues, Classically, first_or_later, none_in_nil, some_or_none, among_or_not, value_at-bound, value_at-other, value_at-with_outside, cell_some}
use Rattle.monitorable_guard.proofs.Vocabulary.{table_row-length, contains_valuation, agrees_itself, same_or_other, filled_keeps, filled_outside, filled_unbound, filled_from_row, Relation, IsTable}
use Rattle.monitorable_guard.proofs.Vocabulary.{HasValuation, AgreesWithRow, IsBoundSame, IsSolution, AreBoundOrFree, AreOpenUnder, HasAnswers, IsGuardAnswer, IsBoundBy, IsEquated, IsFromRow}
use Rattle.monitorable_guard.proofs.Vocabulary.{IsBoundOrFree, IsMatchAmong, Extends, FirstGivesUnder, FitOperators, HoldsNow, FirstHas, outermost, tables_beyond, FreeWithin, FreeUnder, FreeAlike}
use Rattle.monitorable_guard.proofs.Vocabulary.{values_listed}
use Rattle.monitorable_guard.proofs.AgreementLemmas.{now_agrees, has_agrees, nested_alike}
use Rattle.monitorable_guard.proofs.PartLemmas.{BindsMore}
use Rattle.monitorable_guard.proofs.RowsLemmas.{SomeOf}
use Rattle.monitorable_guard.proofs.PresentLemmas.{bound_with}
use Rattle.monitorable_guard.proofs.EventLemmas.{begins_under}
use Rattle.monitorable_guard.specs.machine.EventOrder.{BeginAsKnown}
use Rattle.std.specs.FinMap as finite
use Rattle.valuations.specs.machine.Tables as tabled

-- ---- valuations that go on from others

pub value_from : (v : Valuation) (x : VarId) → IsBoundBy v x → (value : Value) × (value_at v x ≡ Some value)
value_from v x bound = ⊎_elim (λ some. some) (λ none. absurd (cc (bound, none))) (some_or_none (value_at v x))

pub bound_from : (v : Valuation) (x : VarId) (value : Value) → value_at v x ≡ Some value → IsBoundBy v x
bound_from v x value at = subst IsSome (sym at) refl

pub bound_on : (v u : Valuation) (x : VarId) → Extends v u → IsBoundBy v x → IsBoundBy u x
bound_on v u x ext bound = let known = value_from v x bound in bound_from u x known.0 (ext x known.0 known.1)

-- where the first has a value, the second has the same
pub same_on : (v u : Valuation) (x : VarId) → Extends v u → IsBoundBy v x → value_at v x ≡ value_at u x
same_on v u x ext bound = let known = value_from v x bound in known.1 ∙ sym (ext x known.0 known.1)

pub bound_as : (v u : Valuation) (x : VarId) → value_at v x ≡ value_at u x → IsBoundBy v x → IsBoundBy u x
bound_as v u x same bound = subst IsSome same bound

pub bound_or_not : (v : Valuation) (x : VarId) → IsBoundBy v x ⊎ (value_at v x ≡ None)
bound_or_not v x = ⊎_elim (λ some. inl (bound_from v x some.0 some.1)) (λ none. inr none) (some_or_none (value_at v x))

pub not_bound : (v : Valuation) (x : VarId) → value_at v x ≡ None → IsBoundBy v x → ⊥
not_bound v x none bound = let known = value_from v x bound in none-some known.0 (sym none ∙ known.1)

pub absent_from : (v : Valuation) (x : VarId) → (IsBoundBy v x → ⊥) → value_at v x ≡ None
absent_from v x unbound = ⊎_elim (λ bound. absurd (unbound bound)) (λ none. none) (bound_or_not v x)

-- ---- valuations that are filled from rows

pub extends_filled : (v : Valuation) (columns : List VarId) (row : List Value) → Extends v (filled_from_row v columns row)
extends_filled v columns row x value at = filled_keeps v columns row x value at

module _ (v u : Valuation) (columns : List VarId) (row : List Value) (ext : Extends v u) (long : length row ≡ length columns) (agrees : AgreesWithRow u columns row) where
  pub filled_same : (x : VarId) → IsBoundBy v x ⊎ Contains columns x → value_at (filled_from_row v columns row) x ≡ value_at u x
  filled_same x either = ⊎_elim
      (λ bound. let known = value_from v x bound in filled_keeps v columns row x known.0 known.1 ∙ sym (ext x known.0 known.1))
      (λ none. filled_unbound v columns row x none ∙ sym (agrees x (⊎_elim (λ bound. absurd (not_bound v x none bound)) (λ there. there) either)))
      (bound_or_not v x)

  pub filled_below : Extends (filled_from_row v columns row) u
  filled_below x value at = ⊎_elim
      (λ there. sym (filled_same x (inr there)) ∙ at)
      (λ absent. ext x value (sym (filled_outside v columns row x absent) ∙ at))
      (among_or_not columns x)

pub filled_binds : (v : Valuation) (columns : List VarId) (row : List Value) (x : VarId) → length row ≡ length columns → IsBoundBy v x ⊎ Contains columns x
    → IsBoundBy (filled_from_row v columns row) x
filled_binds v columns row x long either = ⊎_elim
    (λ bound. bound_on v (filled_from_row v columns row) x (extends_filled v columns row) bound)
    (λ none.
    let there : Contains columns x = ⊎_elim (λ bound. absurd (not_bound v x none bound)) (λ there. there) either in
    let some = cell_some columns row x long there in
    bound_from (filled_from_row v columns row) x some.0 (filled_unbound v columns row x none ∙ some.1))
    (bound_or_not v x)

pub filled_binds_only : (v : Valuation) (columns : List VarId) (row : List Value) (x : VarId) → IsBoundBy (filled_from_row v columns row) x → IsBoundBy v x ⊎ Contains columns x
filled_binds_only v columns row x bound = ⊎_elim
    (λ there. inr there)
    (λ absent. inl (bound_as (filled_from_row v columns row) v x (filled_outside v columns row x absent) bound))
    (among_or_not columns x)

-- where v has no value for the columns, it has the row's after it was filled
pub filled_agrees : (v : Valuation) (columns : List VarId) (row : List Value) → ((x : VarId) → Contains columns x → value_at v x ≡ None) → length row ≡ length columns
    → AgreesWithRow (filled_from_row v columns row) columns row
filled_agrees v columns row none long x there = filled_unbound v columns row x (none x there)

-- ---- values of quantified variables

-- the value of a variable, and some value where it has none
abbrev look : Valuation → VarId → Value
look u x = unwrap_or (value_at u x) (Num (pos 0))

abbrev pub looked : Valuation → List VarId → List Value
looked u xs = map (look u) xs

look_is : (u : Valuation) (x : VarId) → IsBoundBy u x → value_at u x ≡ Some (look u x)
look_is u x bound = by (value_at u x) (value_from u x bound).0 (value_from u x bound).1
  where
    by : (o : Option Value) (value : Value) → o ≡ Some value → o ≡ Some (unwrap_or o (Num (pos 0)))
    by None value e = absurd (none-some value e)
    by (Some a) value e = refl

-- with u's values of these variables, v has what u has, where it had it or the variable is one of them
pub with_looked : (u : Valuation) (xs : List VarId) (v : Valuation) (x : VarId) → IsBoundBy u x → Contains xs x ⊎ (value_at v x ≡ value_at u x)
    → value_at (with_values xs (looked u xs) v) x ≡ value_at u x
with_looked u [] v x bound either = ⊎_elim (λ there. absurd (none_in_nil x there)) (λ e. e) either
with_looked u (y ∷ xs) v x bound either =
    with_looked u xs (finite.insert v y (look u y)) x bound
    (⊎_elim
    (λ same. inr (value_at-bound v y x (look u y) same ∙ ap (λ z. Some (look u z)) same ∙ sym (look_is u x bound)))
    (λ other. ⊎_elim
    (λ there. ⊎_elim (λ same. absurd (other same)) (λ tables_beyond. inl tables_beyond) (first_or_later x y xs there))
    (λ e. inr (value_at-other v y x (look u y) other ∙ e))
    either)
    (same_or_other y x))

-- ---- values of terms

parts_of : (first : Option Value) (rest : Option (List Value)) (args : List Value) → onto_values first rest ≡ Some args → IsSome first × ((tables_beyond : List Value) × (rest ≡ Some tables_beyond))
parts_of None rest args e = absurd (none-some args e)
parts_of (Some a) None args e = absurd (none-some args e)
parts_of (Some a) (Some tables_beyond) args e = (refl, (tables_beyond, refl))

-- where terms have values, their variables have
pub terms_bound : (u : Valuation) (terms : List Term) (args : List Value) (x : VarId) → values_of_terms u terms ≡ Some args → Contains terms (Var x) → IsBoundBy u x
terms_bound u [] args x is there = absurd (none_in_nil (Var x) there)
terms_bound u (t ∷ terms) args x is there =
    let parts = parts_of (value_of_term u t) (values_of_terms u terms) args is in
    ⊎_elim
    (λ same. subst IsSome (ap (value_of_term u) same) parts.0)
    (λ tables_beyond. terms_bound u terms parts.1.0 x parts.1.1 tables_beyond)
    (first_or_later (Var x) t terms there)

same_bound : (a b : Option Value) → AreSameValues a b → IsSome a × IsSome b
same_bound None b same = absurd same
same_bound (Some a) None same = absurd same
same_bound (Some a) (Some b) same = (refl, refl)

module _ (events : List Event) where
  pub atom_to : (tables : List Relation) (v : Valuation) (place : ℕ) (name : NameId) (terms : List Term) (named : List Event)
      → ((event : Event) → Contains named event ↔ (Contains events event × (event.name ≡ name) × BeginAsKnown (map (value_of_term v) terms) event.args))
      → (columns : List VarId) (w : Valuation) → IsMatchAmong named terms v columns w
      → IsGuardAnswer events tables v (Atom place name terms) columns w
  atom_to tables v place name terms named are columns w some =
      let event = some.0 in
      let there = (are event).0 some.1 in
      let at : Contains events (record { name = name; args = event.args }) = subst (λ n. Contains events (record { name = n; args = event.args })) there.1 there.0 in (
        some.2.0,
        record {
          extends = some.2.1;
          binds = λ x free. terms_bound some.2.0 terms event.args x some.2.2 free;
          holds = subst (IsEventAmong events name) (sym some.2.2) at;
        },
        some.2.3,
      )

  pub atom_from : (tables : List Relation) (v : Valuation) (place : ℕ) (name : NameId) (terms : List Term) (named : List Event)
      → ((event : Event) → Contains named event ↔ (Contains events event × (event.name ≡ name) × BeginAsKnown (map (value_of_term v) terms) event.args))
      → (columns : List VarId) (w : Valuation) → IsGuardAnswer events tables v (Atom place name terms) columns w → IsMatchAmong named terms v columns w
  atom_from tables v place name terms named are columns w some = by (values_of_terms some.0 terms) refl some.1.holds
    where
      by : (got : Option (List Value)) → values_of_terms some.0 terms ≡ got → IsEventAmong events name got → IsMatchAmong named terms v columns w
      by None is holds = absurd holds
      by (Some args) is holds = (
        record { name = name; args = args },
        (are (record { name = name; args = args })).1 (holds, refl, begins_under v some.0 some.1.extends terms args (values_listed some.0 terms args is)),
        (some.0, some.1.extends, is, some.2),
      )

  pub equal_to : (tables : List Relation) (v : Valuation) (place : ℕ) (s t : Term) (columns : List VarId) (w : Valuation) → IsEquated s t v columns w
      → IsGuardAnswer events tables v (Equal place s t) columns w
  equal_to tables v place s t columns w some = (
    some.0,
    record {
      extends = some.1;
      binds = λ x free. ⊎_elim
          (λ is. subst IsSome (ap (value_of_term some.0) is) (same_bound (value_of_term some.0 s) (value_of_term some.0 t) some.2).0)
          (λ is. subst IsSome (ap (value_of_term some.0) is) (same_bound (value_of_term some.0 s) (value_of_term some.0 t) some.2).1)
          free;
      holds = some.2;
    },
    some.3,
  )

  pub equal_from : (tables : List Relation) (v : Valuation) (place : ℕ) (s t : Term) (columns : List VarId) (w : Valuation) → IsGuardAnswer events tables v (Equal place s t) columns w
      → IsEquated s t v columns w
  equal_from tables v place s t columns w some = (some.0, some.1.extends, some.1.holds, some.2)

  -- ---- a formula whose free variables have values

  pub closed_to : (tables : List Relation) (v : Valuation) (f : Formula) (columns : List VarId) (w : Valuation) → FreeWithin f (IsBoundBy v) → HoldsNow events tables v f
      → tabled.AgreeOnColumns columns w v → IsGuardAnswer events tables v f columns w
  closed_to tables v f columns w closed holds agree = (v, record { extends = λ x value at. at; binds = closed; holds = holds }, agree)

  pub closed_from : (tables : List Relation) (v : Valuation) (f : Formula) (columns : List VarId) (w : Valuation) → FitOperators (outermost f) tables → FreeWithin f (IsBoundBy v)
      → AreBoundOrFree columns v f → IsGuardAnswer events tables v f columns w → HoldsNow events tables v f × tabled.AgreeOnColumns columns w v
  closed_from tables v f columns w fit closed scope some = (
    now_agrees events tables f some.0 v fit (λ x free. sym (same_on v some.0 x some.1.extends (closed x free))) some.1.holds,
    λ x there. some.2 x there ∙ sym (same_on v some.0 x some.1.extends (⊎_elim (λ bound. bound) (closed x) (scope x there))),
  )

  -- ---- under the rows of a table

  module _ (tables : List Relation) (v : Valuation) (g : Formula) (t : Relation) (table : IsTable t) (opens : AreOpenUnder v g t.columns) (rows : HasAnswers events tables v g t)
      (fit : FitOperators (outermost g) tables) where
    unbound : (x : VarId) → Contains t.columns x → value_at v x ≡ None
    unbound x there = absent_from v x ((opens.exact x).0 there).1

    bound_or_column : (x : VarId) → IsFree x g → IsBoundBy v x ⊎ Contains t.columns x
    bound_or_column x free = ⊎_elim (λ bound. inl bound) (λ none. inr ((opens.exact x).1 (free, not_bound v x none))) (bound_or_not v x)

    -- what goes on from v with a row answers the formula
    pub under_row : (row : List Value) → Contains t.rows row → (u : Valuation) → Extends (filled_from_row v t.columns row) u → IsSolution events tables v g u
    under_row row there u ext =
        let long = table_row-length t row table there in
        let found = (rows (filled_from_row v t.columns row)).0 (row, there, filled_agrees v t.columns row unbound long) in
        record {
          extends = λ x value at. ext x value (extends_filled v t.columns row x value at);
          binds = λ x free. bound_on (filled_from_row v t.columns row) u x ext (filled_binds v t.columns row x long (bound_or_column x free));
          holds = now_agrees events tables g found.0 u fit
              (λ x free. ⊎_elim
              (λ bound. sym (same_on v found.0 x found.1.extends bound) ∙ same_on v u x (λ y value at. ext y value (extends_filled v t.columns row y value at)) bound)
              (λ column. sym (found.2 x column) ∙ same_on (filled_from_row v t.columns row) u x ext (filled_binds v t.columns row x long (inr column)))
              (bound_or_column x free))
              found.1.holds;
        }

    pub row_of : (u : Valuation) → IsSolution events tables v g u → HasValuation t u
    row_of u answers = (rows u).1 (u, answers, λ x there. refl)

    pub binds_more : (row : List Value) → Contains t.rows row → BindsMore v g (filled_from_row v t.columns row)
    binds_more row there x = (
      λ bound. ⊎_elim (λ b. inl b) (λ column. inr ((opens.exact x).0 column).0) (filled_binds_only v t.columns row x bound),
      λ either. filled_binds v t.columns row x (table_row-length t row table there) (⊎_elim (λ b. inl b) (bound_or_column x) either),
    )

    pub both_to : (place : ℕ) (h : Formula) (columns : List VarId) (w : Valuation) → SomeOf t.rows
        (λ row. IsGuardAnswer events (tables_beyond g tables) (filled_from_row v t.columns row) h columns w) → IsGuardAnswer events tables v (And place g h) columns w
    both_to place h columns w some =
        let left = under_row some.0 some.1 some.2.0 some.2.1.extends in (
          some.2.0,
          record {
            extends = left.extends;
            binds = λ x free. ⊎_elim (left.binds x) (some.2.1.binds x) free;
            holds = (left.holds, some.2.1.holds);
          },
          some.2.2,
        )

    pub both_from : (place : ℕ) (h : Formula) (columns : List VarId) (w : Valuation) → IsGuardAnswer events tables v (And place g h) columns w
        → SomeOf t.rows (λ row. IsGuardAnswer events (tables_beyond g tables) (filled_from_row v t.columns row) h columns w)
    both_from place h columns w some =
        let has = row_of some.0 (record { extends = some.1.extends; binds = λ x free. some.1.binds x (inl free); holds = some.1.holds.0 }) in (
          has.0,
          has.1,
          (
            some.0,
            record {
              extends = filled_below v some.0 t.columns has.0 some.1.extends (table_row-length t has.0 table has.1) has.2;
              binds = λ x free. some.1.binds x (inr free);
              holds = some.1.holds.1;
            },
            some.2,
          ),
        )

    -- a condition on each
    module _ (xs : List VarId) (h : Formula) (under : FreeUnder xs g (IsBoundBy v)) (under_right : FreeUnder xs h (IsBoundBy v)) (all : (x : VarId) → Contains xs x → IsFree x g)
        (apart : (x : VarId) → Contains xs x → IsBoundBy v x → ⊥) (right : (x : VarId) → IsFree x h → IsBoundBy v x ⊎ IsFree x g)
        (fit_right : FitOperators (outermost h) (tables_beyond g tables)) where
      pub each_to : (p q : ℕ) → ((row : List Value) → Contains t.rows row → HoldsNow events (tables_beyond g tables) (filled_from_row v t.columns row) h)
          → HoldsNow events tables v (Forall p xs (Implies q g h))
      each_to p q each values long holds =
          let u = with_values xs values v in
          let ext : Extends v u = λ x value at. value_at-with_outside xs values v x (λ there. apart x there (bound_from v x value at)) ∙ at in
          let has = row_of u (record {
            extends = ext;
            binds = λ x free. bound_with xs values v x long
                (⊎_elim (λ there. inl there) (λ absent. inr (under x free absent)) (among_or_not xs x));
            holds = holds;
          }) in
          now_agrees events (tables_beyond g tables) h (filled_from_row v t.columns has.0) u fit_right
          (λ x free. filled_same v u t.columns has.0 ext (table_row-length t has.0 table has.1) has.2 x (⊎_elim (λ b. inl b) (bound_or_column x) (right x free)))
          (each has.0 has.1)

      pub each_from : (p q : ℕ) → HoldsNow events tables v (Forall p xs (Implies q g h)) → (row : List Value) → Contains t.rows row
          → HoldsNow events (tables_beyond g tables) (filled_from_row v t.columns row) h
      each_from p q each row there =
          let u = filled_from_row v t.columns row in
          let left = under_row row there u (λ x value at. at) in
          let same : (x : VarId) → IsBoundBy u x → Contains xs x ⊎ IsBoundBy v x → value_at (with_values xs (looked u xs) v) x
          ≡ value_at u x = λ x bound either. with_looked u xs v x bound (⊎_elim (λ in_xs. inl in_xs) (λ b. inr (same_on v u x (extends_filled v t.columns row) b)) either) in
          let bound_right : (x : VarId) → IsFree x h → IsBoundBy u x = λ x free. ⊎_elim (λ b. bound_on v u x (extends_filled v t.columns row) b) (left.binds x) (right x free) in
          now_agrees events (tables_beyond g tables) h (with_values xs (looked u xs) v) u fit_right
          (λ x free. same x (bound_right x free) (⊎_elim (λ in_xs. inl in_xs) (λ absent. inr (under_right x free absent)) (among_or_not xs x)))
          (each (looked u xs) (length-map xs (look u))
          (now_agrees events tables g u (with_values xs (looked u xs) v) fit
          (λ x free. sym (same x (left.binds x free) (⊎_elim (λ in_xs. inl in_xs) (λ absent. inr (under x free absent)) (among_or_not xs x))))
          left.holds))

  -- ---- `or`

  module _ (tables : List Relation) (v : Valuation) (place : ℕ) (g h : Formula) (alike : FreeAlike (IsBoundBy v) g h) where
    pub either_to : (columns : List VarId) (w : Valuation) → IsGuardAnswer events tables v g columns w ⊎ IsGuardAnswer events (tables_beyond g tables) v h columns w
        → IsGuardAnswer events tables v (Or place g h) columns w
    either_to columns w some = ⊎_elim
        (λ left. (
          left.0,
          record {
            extends = left.1.extends;
            binds = λ x free. ⊎_elim (left.1.binds x) (λ right. ⊎_elim (bound_on v left.0 x left.1.extends) (λ none. left.1.binds x ((alike x (not_bound v x none)).1 right)) (bound_or_not v x)) free;
            holds = λ l r. l left.1.holds;
          },
          left.2,
        ))
        (λ right. (
          right.0,
          record {
            extends = right.1.extends;
            binds = λ x free. ⊎_elim (λ left. ⊎_elim (bound_on v right.0 x right.1.extends) (λ none. right.1.binds x ((alike x (not_bound v x none)).0 left)) (bound_or_not v x))
                (right.1.binds x) free;
            holds = λ l r. r right.1.holds;
          },
          right.2,
        ))
        some

    pub either_from : (columns : List VarId) (w : Valuation) → IsGuardAnswer events tables v (Or place g h) columns w
        → Classically (IsGuardAnswer events tables v g columns w ⊎ IsGuardAnswer events (tables_beyond g tables) v h columns w)
    either_from columns w some neither = some.1.holds
        (λ holds. neither (inl (some.0, record { extends = some.1.extends; binds = λ x free. some.1.binds x (inl free); holds = holds }, some.2)))
        (λ holds. neither (inr (some.0, record { extends = some.1.extends; binds = λ x free. some.1.binds x (inr free); holds = holds }, some.2)))

  -- ---- below quantifiers

  module _ (tables : List Relation) (v : Valuation) (xs : List VarId) (g : Formula) (fit : FitOperators (outermost g) tables) where
    -- u's values of the variables are such under which g holds
    some_from : FreeUnder xs g (IsBoundBy v) → (u : Valuation) → IsSolution events tables v g u → HoldsNow events tables (with_values xs (looked u xs) v) g
    some_from under u answers =
        now_agrees events tables g u (with_values xs (looked u xs) v) fit
        (λ x free. sym (with_looked u xs v x (answers.binds x free) (⊎_elim (λ there. inl there) (λ absent. inr (same_on v u x answers.extends (under x free absent))) (among_or_not xs x))))
        answers.holds

    answer_from : FreeUnder xs g (IsBoundBy v) → ((x : VarId) → Contains xs x → IsBoundBy v x → ⊥) → (values : List Value) → length values ≡ length xs
        → HoldsNow events tables (with_values xs values v) g → IsSolution events tables v g (with_values xs values v)
    answer_from under apart values long holds = record {
      extends = λ x value at. value_at-with_outside xs values v x (λ there. apart x there (bound_from v x value at)) ∙ at;
      binds = λ x free. bound_with xs values v x long (⊎_elim (λ there. inl there) (λ absent. inr (under x free absent)) (among_or_not xs x));
      holds = holds;
    }

    pub exists_decided : (place : ℕ) (there : Bool) → FreeUnder xs g (IsBoundBy v) → ((x : VarId) → Contains xs x → IsBoundBy v x → ⊥)
        → IsTrue there ↔ ((u : Valuation) × IsSolution events tables v g u) → IsTrue there ↔ HoldsNow events tables v (Exists place xs g)
    exists_decided place there under apart told = (
      λ t none. let some = told.0 t in none (looked some.0 xs, length-map xs (look some.0), some_from under some.0 some.1),
      by there told,
    )
      where
        by : (b : Bool) → IsTrue b ↔ ((u : Valuation) × IsSolution events tables v g u) → HoldsNow events tables v (Exists place xs g) → IsTrue b
        by true told holds = refl
        by false told holds = absurd (holds (λ some. false≢true (told.1 (with_values xs some.0 v, answer_from under apart some.0 some.1 some.2))))

    pub none_decided : (p q : ℕ) (there : Bool) → FreeUnder xs g (IsBoundBy v) → ((x : VarId) → Contains xs x → IsBoundBy v x → ⊥)
        → IsTrue there ↔ ((u : Valuation) × IsSolution events tables v g u) → IsTrue (not there) ↔ HoldsNow events tables v (Forall p xs (Not q g))
    none_decided p q there under apart told = (
      λ t values long holds. not_both there t (told.1 (with_values xs values v, answer_from under apart values long holds)),
      by there told,
    )
      where
        not_both : (b : Bool) → IsTrue (not b) → IsTrue b → ⊥
        not_both true n t = false≢true n
        not_both false n t = false≢true t

        by : (b : Bool) → IsTrue b ↔ ((u : Valuation) × IsSolution events tables v g u) → HoldsNow events tables v (Forall p xs (Not q g)) → IsTrue (not b)
        by true told each = let some = told.0 refl in absurd (each (looked some.0 xs) (length-map xs (look some.0)) (some_from under some.0 some.1))
        by false told each = refl

  module _ (tables : List Relation) (v : Valuation) (place : ℕ) (xs : List VarId) (g : Formula) (fit : FitOperators (outermost g) tables) where
    pub exists_to : (columns : List VarId) (w : Valuation) → IsGuardAnswer events tables v g columns w → IsGuardAnswer events tables v (Exists place xs g) columns w
    exists_to columns w some = (
      some.0,
      record {
        extends = some.1.extends;
        binds = λ x free. some.1.binds x free.0;
        holds = λ none. none (
          looked some.0 xs,
          length-map xs (look some.0),
          some_from tables some.0 xs g fit (λ x free absent. some.1.binds x free) some.0
              (record { extends = λ x value at. at; binds = some.1.binds; holds = some.1.holds }),
        );
      },
      some.2,
    )

    pub exists_from : ((x : VarId) → Contains xs x → IsBoundOrFree v (Exists place xs g) x → ⊥) → (columns : List VarId) → AreBoundOrFree columns v (Exists place xs g)
        → (w : Valuation) → IsGuardAnswer events tables v (Exists place xs g) columns w → Classically (IsGuardAnswer events tables v g columns w)
    exists_from fresh columns scope w some none = some.1.holds (λ found. none (
      with_values xs found.0 some.0,
      record {
        extends = λ x value at. value_at-with_outside xs found.0 some.0 x (λ there. fresh x there (inl (bound_from v x value at))) ∙ some.1.extends x value at;
        binds = λ x free. bound_with xs found.0 some.0 x found.1 (⊎_elim (λ there. inl there) (λ absent. inr (some.1.binds x (free, absent))) (among_or_not xs x));
        holds = found.2;
      },
      λ x there. some.2 x there ∙ sym (value_at-with_outside xs found.0 some.0 x (λ bound. fresh x bound (scope x there))),
    ))

    -- the values of some variables, and those of others
    pub nested_same : (p q r : ℕ) (ys : List VarId) → HoldsNow events tables v (Forall p (xs ++ ys) g) ↔ HoldsNow events tables v (Forall q xs (Forall r ys g))
    nested_same p q r ys = nested_alike (λ u. HoldsNow events tables u g) xs ys v

  -- ---- operators on the past

  module _ (v : Valuation) (f : Formula) where
    first_to : (tables : List Relation) → FitOperators (f ∷ []) tables → (given : Relation) → IsTable given → FirstGivesUnder tables v given → (row : List Value)
        → Contains given.rows row → FirstHas tables (filled_from_row v given.columns row) × ((x : VarId) → IsFree x f → IsBoundBy (filled_from_row v given.columns row) x)
    first_to [] fit given table gives row there = absurd gives
    first_to (t ∷ tables) fit given table gives row there =
        let long = table_row-length given row table there in
        let told = (gives.1 (valuation_of given.columns row)).0 (contains_valuation given row table there) in
        let own = agrees_itself given.columns row table.distinct long in (
          has_agrees t (valuation_of given.columns row) (filled_from_row v given.columns row)
              (λ x column. ⊎_elim
              (λ bound. let known = value_from v x bound in same_as (value_at v x) known.0 (value_at (valuation_of given.columns row) x) known.1 (told.1 x column) ∙ sym
              (filled_keeps v given.columns row x known.0 known.1))
              (λ none. let there : Contains given.columns x = subst (λ l. Contains l x) (sym gives.0) column in own x there ∙ sym (filled_unbound v given.columns row x none))
              (bound_or_not v x))
              told.0,
          λ x free. filled_binds v given.columns row x long (inr (subst (λ l. Contains l x) (sym gives.0) ((fit.0 x).1 free))),
        )
      where
        same_as : (a : Option Value) (value : Value) (b : Option Value) → a ≡ Some value → IsBoundSame a b → b ≡ Some value
        same_as None value b e same = absurd (none-some value e)
        same_as (Some a) value b e same = same ∙ e

    first_from : (tables : List Relation) → FitOperators (f ∷ []) tables → (given : Relation) → FirstGivesUnder tables v given → (u : Valuation) → Extends v u
        → FirstHas tables u → HasValuation given u × ((x : VarId) → IsFree x f → Contains given.columns x)
    first_from [] fit given gives u ext has = absurd gives
    first_from (t ∷ tables) fit given gives u ext has = (
      (gives.1 u).1 (has, λ x column. by (value_at v x) (value_at u x) (ext x)),
      λ x free. subst (λ l. Contains l x) (sym gives.0) ((fit.0 x).1 free),
    )
      where
        by : (a b : Option Value) → ((value : Value) → a ≡ Some value → b ≡ Some value) → IsBoundSame a b
        by None b same = tt
        by (Some a) b same = same a refl

    module _ (tables : List Relation) (fit : FitOperators (f ∷ []) tables) (given : Relation) (table : IsTable given) (gives : FirstGivesUnder tables v given) where
      pub past_to : ((u : Valuation) → FirstHas tables u → HoldsNow events tables u f) → (columns : List VarId) (w : Valuation) → IsFromRow given v columns w
          → IsGuardAnswer events tables v f columns w
      past_to holds columns w some =
          let told = first_to tables fit given table gives some.0 some.1 in
          (filled_from_row v given.columns some.0, record { extends = extends_filled v given.columns some.0; binds = told.1; holds = holds (filled_from_row v given.columns some.0) told.0 }, some.2)

      pub past_from : ((u : Valuation) → HoldsNow events tables u f → FirstHas tables u) → (columns : List VarId) → AreBoundOrFree columns v f → (w : Valuation)
          → IsGuardAnswer events tables v f columns w → IsFromRow given v columns w
      past_from has columns scope w some =
          let told = first_from tables fit given gives some.0 some.1.extends (has some.0 some.1.holds) in (
            told.0.0,
            told.0.1,
            λ x there. some.2 x there ∙ sym (filled_same v some.0 given.columns told.0.0 some.1.extends (table_row-length given told.0.0 table told.0.1) told.0.2 x
                (⊎_elim (λ bound. inl bound) (λ free. inr (told.1 x free)) (scope x there))),
          )
