-- A formula that needs an event holds for none where the event is not; where it begins with an event whose terms are
-- the columns, it holds for the arguments of such alone.
use Rattle.monitorable_guard.proofs.Vocabulary.{◌≡◌, ◌↔◌, ◌∙◌, ℕ, ◌+◌, ◌<◌, inl, inr, ⊎_elim, List, [], ◌∷◌, ◌++◌, length, take, get_or, map, Option, None, Some, Contains, refl, sym, ap, subst, arith, here, first_or_later, none_in_nil}
use Rattle.monitorable_guard.proofs.Vocabulary.{take_more, Contains-push, Contains-push_cases, Contains-append_left, All-contains, all_from, Valuation, value_at, values_of_terms}
use Rattle.monitorable_guard.proofs.Vocabulary.{Event, NameId, Term, Var, VarId, Value, Formula, And, Atom, IsFree, IsEventAmong, onto_values, filled_from_row, Relation, IsTable}
use Rattle.monitorable_guard.proofs.Vocabulary.{AgreesWithRow, rising_distinct, variable_cmp_total, same_Some, none-some, AddsRows, AreOpenUnder, CanAskFormula, FreeWithin, HoldsNow, IsBoundBy, IsGuardAnswer}
use Rattle.monitorable_guard.specs.machine.NeededEvents.{BeginsWithEvent, HoldsForArguments, HoldsForNone, first_conjunct}
use Rattle.monitorable_guard.proofs.Vocabulary.{Bor, Contains-from_map, shown_events}
use Rattle.monitorable_guard.proofs.AgreementLemmas.{now_agrees}
use Rattle.monitorable_guard.proofs.EvaluationLemmas.{absent_from, bound_or_not, not_bound, extends_filled, filled_agrees, filled_binds, same_on}
use Rattle.monitorable_guard.proofs.EventRowLemmas.{agrees_from, values_from}
use Rattle.monitorable_guard.proofs.RowsLemmas.{SomeOf, adds_as}
use Rattle.monitorable_guard.proofs.WithinLemmas.{row_ask}
use Rattle.std.specs.List.Sorted.{IsStrictlySortedBy}

-- ---- what holds for none

of_atom : (events : List Event) (name : NameId) (args : Option (List Value)) → IsEventAmong events name args
    → (event : Event) × Contains events event × (event.name ≡ name)
of_atom events name None there = absurd there
of_atom events name (Some args) there = (record { name = name; args = args }, there, refl)

pub atom_lacks : (events : List Event) (place : ℕ) (name : NameId) (terms : List Term)
    → ((event : Event) → Contains events event → event.name ≡ name → ⊥) → HoldsForNone events (Atom place name terms)
atom_lacks events place name terms none tables v holds = let met = of_atom events name (values_of_terms v terms) holds in none met.0 met.1 met.2

-- one more of the events is of another name
pub none_more : (events : List Event) (name : NameId) (i : ℕ) (event : Event) → i < length events → event ≡ get_or events i event → (event.name ≡ name → ⊥)
    → ((e : Event) → Contains (take i events) e → e.name ≡ name → ⊥) → (e : Event) → Contains (take (i + 1) events) e → e.name ≡ name → ⊥
none_more events name i event within is other before e there same = ⊎_elim
    (λ front. before e front same)
    (λ last. other (ap (λ (x : Event). x.name) (is ∙ last) ∙ same))
    (Contains-push_cases (take i events) (get_or events i event) e (subst (λ l. Contains l e) (take_more events i event within) there))

-- ---- the rows of a formula that begins with an event

long_from : (w : Valuation) (columns : List VarId) (row : List Value) → values_of_terms w (map Var columns) ≡ Some row → length row ≡ length columns
long_from w [] row is = ap length (sym (same_Some [] row is))
long_from w (x ∷ columns) row is = by (value_at w x) (values_of_terms w (map Var columns)) refl is (λ rest at. long_from w columns rest at)
  where
    by : (o : Option Value) (r : Option (List Value)) → values_of_terms w (map Var columns) ≡ r → onto_values o r ≡ Some row
        → ((rest : List Value) → values_of_terms w (map Var columns) ≡ Some rest → length rest ≡ length columns) → length row ≡ length (x ∷ columns)
    by None r at onto below = absurd (none-some row onto)
    by (Some a) None at onto below = absurd (none-some row onto)
    by (Some a) (Some rest) at onto below = let whole : length (a ∷ rest) ≡ length row = ap length (same_Some (a ∷ rest) row onto) in omega (arith, whole, below rest at)

pub first_holds : (events : List Event) (tables : List Relation) (v : Valuation) (f : Formula) → HoldsNow events tables v f → HoldsNow events tables v (first_conjunct f)
first_holds events tables v (And place g h) holds = first_holds events tables v g holds.0
first_holds events tables v f holds = holds

module _ (events : List Event) (tables : List Relation) (v : Valuation) (f : Formula) (columns : List VarId) (opens : AreOpenUnder v f columns) (can : CanAskFormula v tables f) where
  abbrev filled : List Value → Valuation
  filled args = filled_from_row v columns args

  none_before : (x : VarId) → Contains columns x → value_at v x ≡ None
  none_before x there = absent_from v x ((opens.exact x).0 there).1

  one_row : (args : List Value) → length args ≡ length columns → IsTable (record { columns = columns; rows = args ∷ [] })
  unfolding IsStrictlySortedBy
  one_row args long = record {
    distinct = rising_distinct variable_cmp_total columns opens.rising;
    fits = all_from (λ row. length row ≡ length columns) (args ∷ []) (λ row there. ⊎_elim (λ same. ap length (sym same) ∙ long) (λ behind. absurd (none_in_nil row behind))
        (first_or_later row args [] there));
    rising = (tt, tt);
  }

  pub told_ask : (args : List Value) → length args ≡ length columns → CanAskFormula (filled args) tables f
  told_ask args long = row_ask events tables v f columns opens (record { columns = columns; rows = args ∷ [] }) (one_row args long) (λ x there. there) can args (here args [])

  pub told_closed : (args : List Value) → length args ≡ length columns → FreeWithin f (IsBoundBy (filled args))
  told_closed args long x free = filled_binds v columns args x long (⊎_elim (λ bound. inl bound) (λ none. inr ((opens.exact x).1 (free, λ bound. not_bound v x none bound))) (bound_or_not v x))

  told_to : (args : List Value) (w : Valuation) → HoldsForArguments events tables v f columns args w → IsGuardAnswer events tables v f columns w
  told_to args w (long, holds, agrees) = (
    filled args,
    record { extends = extends_filled v columns args; binds = told_closed args long; holds = holds },
    λ x column. agrees x column ∙ sym (filled_agrees v columns args none_before long x column),
  )

  -- where the event is there, its first conjunct holds for the arguments
  pub told_begins : (name : NameId) (args : List Value) → length args ≡ length columns → BeginsWithEvent name columns f → Contains events (record { name = name; args = args })
      → HoldsNow events tables (filled args) (first_conjunct f)
  told_begins name args long begins there =
      subst (HoldsNow events tables (filled args)) (sym begins.1)
      (subst (IsEventAmong events name)
      (sym (values_from (filled args) columns args (rising_distinct variable_cmp_total columns opens.rising) long (filled_agrees v columns args none_before long))) there)

  module _ (name : NameId) (named : List (Bor Event)) (all : (event : Event) → Contains (shown_events named) event ↔ (Contains events event × (event.name ≡ name)))
      (begins : BeginsWithEvent name columns f) where
    abbrev ForSome : List (Bor Event) → Valuation → Type 0
    ForSome some w = SomeOf some (λ event. HoldsForArguments events tables v f columns event.now.args w)

    told_from : (w : Valuation) → IsGuardAnswer events tables v f columns w → ForSome named w
    told_from w (u, is, agree) = by (values_of_terms u (map Var columns)) refl (subst (HoldsNow events tables u) begins.1 (first_holds events tables u f is.holds))
      where
        by : (args : Option (List Value)) → values_of_terms u (map Var columns) ≡ args → IsEventAmong events name (values_of_terms u (map Var columns)) → ForSome named w
        by None at among = absurd (subst (IsEventAmong events name) at among)
        by (Some args) at among =
            let long = long_from u columns args at in
            let own = agrees_from u columns args at in
            let same : (x : VarId) → IsFree x f → value_at u x ≡ value_at (filled args) x = λ x free. ⊎_elim
            (λ bound. sym (same_on v u x is.extends bound) ∙ same_on v (filled args) x (extends_filled v columns args) bound)
            (λ none. let column = (opens.exact x).1 (free, λ bound. not_bound v x none bound) in own x column ∙ sym (filled_agrees v columns args none_before long x column))
            (bound_or_not v x) in
            let found = Contains-from_map (λ e. e.now) named (record { name = name; args = args }) ((all (record { name = name; args = args })).1 (subst (IsEventAmong events name) at among, refl)) in (
              found.0,
              found.1,
              subst (λ (e : Event). HoldsForArguments events tables v f columns e.args w) (sym found.2)
                  (long, now_agrees events tables f u (filled args) can.tabled same is.holds, λ x column. agree x column ∙ own x column),
            )

    -- the arguments that were added are the answers
    pub told_answers : (before after : List (List Value)) → AddsRows columns before after (ForSome named) → AddsRows columns before after (IsGuardAnswer events tables v f columns)
    told_answers before after adds = adds_as columns before after (ForSome named) (IsGuardAnswer events tables v f columns)
        (λ w some. told_to some.0.now.args w some.2) (λ w is none. none (told_from w is)) adds

  -- those of one event are added, where the formula holds for them
  pub adds_told : (before : List (List Value)) (args : List Value) → length args ≡ length columns → HoldsNow events tables (filled args) f
      → AddsRows columns before (before ++ args ∷ []) (HoldsForArguments events tables v f columns args)
  adds_told before args long holds = record {
    fit = λ fit. all_from (λ r. length r ≡ length columns) (before ++ args ∷ []) (λ r there. ⊎_elim
        (λ front. All-contains (λ r. length r ≡ length columns) before r fit front)
        (λ same. ap length (sym same) ∙ long)
        (Contains-push_cases before args r there));
    kept = λ w has. (has.0, Contains-append_left before (args ∷ []) has.0 has.1, has.2);
    added = λ w is. (args, Contains-push before args, is.2);
    only = λ w has. ⊎_elim
        (λ front. inl (has.0, front, has.2))
        (λ same. inr (long, holds, subst (AgreesWithRow w columns) (sym same) has.2))
        (Contains-push_cases before args has.0 has.1);
  }
