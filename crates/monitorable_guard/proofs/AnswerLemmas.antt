-- Whether a formula has an answer, from whether its parts have.
use Rattle.monitorable_guard.proofs.Vocabulary.{◌≡◌, ℕ, ◌+◌, Bool, true, false, not, ◌⊎◌, inl, inr, ⊎_elim, List, [], ◌∷◌, length, drop, Option, None, Some, IsTrue, Contains, ◌↔◌, refl, sym, subst}
use Rattle.monitorable_guard.proofs.Vocabulary.{◌∙◌, false≢true, Result, Ok, Err, IfOk, none_in_nil, Valuation, value_at, no_values, valuation_of, Event, NameId, Term, VarId, Value, Formula, Atom}
use Rattle.monitorable_guard.proofs.Vocabulary.{And, Or, Exists, Classically, agrees_itself, here, table_row-length, filled_keeps, filled_unbound, filled_from_row, Relation, IsTable, HasValuation}
use Rattle.monitorable_guard.proofs.Vocabulary.{IsBoundSame, none-some, AreOpenUnder, CanAskFormula, HasAnswers, IsGuardAnswer, IsBoundBy, IsMatchAmong, FirstGivesUnder, FitOperators, HoldsNow}
use Rattle.monitorable_guard.proofs.Vocabulary.{FirstHas, outermost, tables_beyond, FreeWithin, cell_some, value_of_term, map}
use Rattle.valuations.specs.machine.Tables.{AgreesWhereBound}
use Rattle.monitorable_guard.proofs.AgreementLemmas.{now_agrees, has_agrees, fit_front}
use Rattle.monitorable_guard.proofs.EvaluationLemmas.{value_from, bound_from, bound_as, bound_or_not, same_on, extends_filled, atom_to, atom_from, both_to, both_from, either_to, either_from}
use Rattle.monitorable_guard.proofs.EvaluationLemmas.{exists_to, exists_from}
use Rattle.monitorable_guard.proofs.PairLemmas.{next_tables}
use Rattle.monitorable_guard.specs.machine.Answers.{HasSolution}
use Rattle.monitorable_guard.specs.machine.EventOrder.{BeginAsKnown}
use Rattle.monitorable_guard.specs.machine.Evaluation.{FirstHasUnder}

-- ---- what is decided

decided_as : (b : Bool) (P Q : Type 0) → (P → Q) → (Q → Classically P) → IsTrue b ↔ P → IsTrue b ↔ Q
decided_as true P Q to from told = (λ t. to (told.0 t), λ q. refl)
decided_as false P Q to from told = (λ t. to (told.0 t), λ q. absurd (from q (λ p. false≢true (told.1 p))))

pub ok_answered : {E : Type 0} (r : Result Bool E) (P Q : Type 0) → (P → Q) → (Q → Classically P) → IfOk r (λ b. IsTrue b ↔ P) → IfOk r (λ b. IsTrue b ↔ Q)
ok_answered (Ok b) P Q to from told = decided_as b P Q to from told
ok_answered (Err e) P Q to from told = tt

-- ---- an answer over no column

module _ (events : List Event) (tables : List Relation) (v : Valuation) (f : Formula) where
  pub to_answer : HasSolution events tables v f → (w : Valuation) → IsGuardAnswer events tables v f [] w
  to_answer some w = (some.0, some.1, λ x there. absurd (none_in_nil x there))

  pub from_answer : (w : Valuation) → IsGuardAnswer events tables v f [] w → HasSolution events tables v f
  from_answer w some = (some.0, some.1)

  -- where each free variable has a value
  pub ok_closed : {E : Type 0} (r : Result Bool E) → FitOperators (outermost f) tables → FreeWithin f (IsBoundBy v) → IfOk r (λ b. IsTrue b ↔ HoldsNow events tables v f)
      → IfOk r (λ b. IsTrue b ↔ HasSolution events tables v f)
  ok_closed (Ok b) fit closed told = (
    λ t. (v, record { extends = λ x value at. at; binds = closed; holds = told.0 t }),
    λ some. told.1 (now_agrees events tables f some.0 v fit (λ x free. sym (same_on v some.0 x some.1.extends (closed x free))) some.1.holds),
  )
  ok_closed (Err e) fit closed told = tt

-- ---- an atom

module _ (events : List Event) (tables : List Relation) (v : Valuation) (place : ℕ) (name : NameId) (terms : List Term) (named : List Event)
    (are : (event : Event) → Contains named event ↔ (Contains events event × (event.name ≡ name) × BeginAsKnown (map (value_of_term v) terms) event.args)) where
  pub ok_atom : {E : Type 0} (r : Result Bool E) → IfOk r (λ b. IsTrue b ↔ ((w : Valuation) × IsMatchAmong named terms v [] w))
      → IfOk r (λ b. IsTrue b ↔ HasSolution events tables v (Atom place name terms))
  ok_atom r told = ok_answered r ((w : Valuation) × IsMatchAmong named terms v [] w) (HasSolution events tables v (Atom place name terms))
      (λ some. from_answer events tables v (Atom place name terms) some.0 (atom_to events tables v place name terms named are [] some.0 some.1))
      (λ some none. none (no_values, atom_from events tables v place name terms named are [] no_values (to_answer events tables v (Atom place name terms) some no_values)))
      told

-- ---- an operator on the past

module _ (events : List Event) (v : Valuation) (f : Formula) where
  same_as : (a : Option Value) (value : Value) (b : Option Value) → a ≡ Some value → IsBoundSame a b → b ≡ Some value
  same_as None value b e same = absurd (none-some value e)
  same_as (Some a) value b e same = same ∙ e

  as_same : (a b : Option Value) → ((value : Value) → a ≡ Some value → b ≡ Some value) → IsBoundSame a b
  as_same None b same = tt
  as_same (Some a) b same = same a refl

  -- what goes on from v with the values of the row has those of w
  filled_as : (t : Relation) (w : Valuation) → (has : HasValuation t w) → AgreesWhereBound t.columns v w → (x : VarId) → Contains t.columns x
      → value_at w x ≡ value_at (filled_from_row v t.columns has.0) x
  filled_as t w has agrees x there = ⊎_elim
      (λ bound.
      let known = value_from v x bound in
      same_as (value_at v x) known.0 (value_at w x) known.1 (agrees x there) ∙ sym (filled_keeps v t.columns has.0 x known.0 known.1))
      (λ none. has.2 x there ∙ sym (filled_unbound v t.columns has.0 x none))
      (bound_or_not v x)

  pub some_past : (tables : List Relation) → FitOperators (f ∷ []) tables → ((u : Valuation) → HoldsNow events tables u f ↔ FirstHas tables u)
      → FirstHasUnder tables v ↔ HasSolution events tables v f
  some_past [] fit told = absurd fit
  some_past (t ∷ tables) fit told = (
    λ some.
        let u = filled_from_row v t.columns some.2.0 in
        let same = filled_as t some.0 some.2 some.3 in (
          u,
          record {
            extends = extends_filled v t.columns some.2.0;
            binds = λ x free. let there = (fit.0 x).1 free in bound_as some.0 u x (same x there) (some.1 x there);
            holds = (told u).1 (has_agrees t some.0 u same some.2);
          },
        ),
    λ answer. (
      answer.0,
      λ x there. answer.1.binds x ((fit.0 x).0 there),
      (told answer.0).0 answer.1.holds,
      λ x there. as_same (value_at v x) (value_at answer.0 x) (answer.1.extends x),
    ),
  )

-- rows that agree with v are there just where one of them is listed
pub given_some : (v : Valuation) (tables : List Relation) (given : Relation) → IsTable given → FirstGivesUnder tables v given → (empty : Bool) → IsTrue empty ↔ (given.rows ≡ [])
    → IsTrue (not empty) ↔ FirstHasUnder tables v
given_some v [] given table gives empty told = absurd gives
given_some v (t ∷ tables) given table gives empty told = by given.rows refl empty told
  where
    some : (row : List Value) → Contains given.rows row → FirstHasUnder (t ∷ tables) v
    some row there =
        let w = valuation_of given.columns row in
        let own = agrees_itself given.columns row table.distinct (table_row-length given row table there) in
        let both = (gives.1 w).0 (row, there, own) in (
          w,
          λ x column.
              let among : Contains given.columns x = subst (λ l. Contains l x) (sym gives.0) column in
              let cell = cell_some given.columns row x (table_row-length given row table there) among in
              bound_from w x cell.0 (own x among ∙ cell.1),
          both.0,
          both.1,
        )

    by : (rows : List (List Value)) → given.rows ≡ rows → (b : Bool) → IsTrue b ↔ (given.rows ≡ []) → IsTrue (not b) ↔ FirstHasUnder (t ∷ tables) v
    by [] is true known = (λ n. absurd (false≢true n), λ found. let has = (gives.1 found.0).1 (found.2, found.3) in absurd (none_in_nil has.0 (subst (λ l. Contains l has.0) is has.1)))
    by [] is false known = absurd (false≢true (known.1 is))
    by (row ∷ rows) is true known = let e : row ∷ rows ≡ [] = sym is ∙ known.0 refl in absurd (cc)
    by (row ∷ rows) is false known = (λ n. some row (subst (λ l. Contains l row) (sym is) (here row rows)), λ found. refl)

-- ---- two parts

module _ (events : List Event) (tables : List Relation) (first next : ℕ) (v : Valuation) (g h : Formula) (at : next ≡ first + length (outermost g)) (place : ℕ) where
  module _ (ask : CanAskFormula v (drop first tables) (And place g h)) (t : Relation) (table : IsTable t) (opens : AreOpenUnder v g t.columns)
      (rows : HasAnswers events (drop first tables) v g t) where
    pub ok_both_answered : {E : Type 0} (r : Result Bool E) → IfOk r (λ b. IsTrue b ↔ ((row : List Value) × Contains t.rows row × HasSolution events (drop next tables)
        (filled_from_row v t.columns row) h)) → IfOk r (λ b. IsTrue b ↔ HasSolution events (drop first tables) v (And place g h))
    ok_both_answered r told =
        let fit = fit_front (outermost g) (outermost h) (drop first tables) ask.tabled in
        let behind = next_tables events tables first next v g h at in
        ok_answered r ((row : List Value) × Contains t.rows row × HasSolution events (drop next tables) (filled_from_row v t.columns row) h)
        (HasSolution events (drop first tables) v (And place g h))
        (λ some. from_answer events (drop first tables) v (And place g h) no_values (both_to events (drop first tables) v g t table opens rows fit place h [] no_values (
          some.0,
          some.1,
          to_answer events (tables_beyond g (drop first tables)) (filled_from_row v t.columns some.0) h
              (subst (λ l. HasSolution events l (filled_from_row v t.columns some.0) h) behind some.2) no_values,
        )))
        (λ some none.
        let found = both_from events (drop first tables) v g t table opens rows fit place h [] no_values (to_answer events (drop first tables) v (And place g h) some no_values) in
        none (
          found.0,
          found.1,
          subst (λ l. HasSolution events l (filled_from_row v t.columns found.0) h) (sym behind)
              (from_answer events (tables_beyond g (drop first tables)) (filled_from_row v t.columns found.0) h no_values found.2),
        ))
        told

  module _ (ask : CanAskFormula v (drop first tables) (Or place g h)) where
    either_solved : HasSolution events (drop first tables) v g ⊎ HasSolution events (tables_beyond g (drop first tables)) v h → HasSolution events (drop first tables) v (Or place g h)
    either_solved some = from_answer events (drop first tables) v (Or place g h) no_values (either_to events (drop first tables) v place g h ask.safe.2 [] no_values
        (⊎_elim (λ left. inl (to_answer events (drop first tables) v g left no_values)) (λ right. inr (to_answer events (tables_beyond g (drop first tables)) v h right no_values)) some))

    -- where the first has one
    pub first_answered : (b : Bool) → IsTrue b ↔ HasSolution events (drop first tables) v g → IsTrue b → IsTrue true ↔ HasSolution events (drop first tables) v (Or place g h)
    first_answered b told t = (λ _. either_solved (inl (told.0 t)), λ _. refl)

    -- where it has none
    pub ok_second_answered : {E : Type 0} (r : Result Bool E) (b : Bool) → IsTrue b ↔ HasSolution events (drop first tables) v g → b ≡ false
        → IfOk r (λ c. IsTrue c ↔ HasSolution events (drop next tables) v h) → IfOk r (λ c. IsTrue c ↔ HasSolution events (drop first tables) v (Or place g h))
    ok_second_answered r b left absent told =
        let behind = next_tables events tables first next v g h at in
        ok_answered r (HasSolution events (drop next tables) v h) (HasSolution events (drop first tables) v (Or place g h))
        (λ some. either_solved (inr (subst (λ l. HasSolution events l v h) behind some)))
        (λ some none. either_from events (drop first tables) v place g h ask.safe.2 [] no_values (to_answer events (drop first tables) v (Or place g h) some no_values)
        (λ either. ⊎_elim
        (λ one. absurd (false≢true (sym absent ∙ left.1 (from_answer events (drop first tables) v g no_values one))))
        (λ two. none (subst (λ l. HasSolution events l v h) (sym behind) (from_answer events (tables_beyond g (drop first tables)) v h no_values two)))
        either))
        told

-- ---- below a quantifier

pub ok_exists_answered : {E : Type 0} (events : List Event) (tables : List Relation) (v : Valuation) (place : ℕ) (xs : List VarId) (g : Formula) → CanAskFormula v tables (Exists place xs g)
    → (r : Result Bool E) → IfOk r (λ b. IsTrue b ↔ HasSolution events tables v g) → IfOk r (λ b. IsTrue b ↔ HasSolution events tables v (Exists place xs g))
ok_exists_answered events tables v place xs g ask r told = ok_answered r (HasSolution events tables v g) (HasSolution events tables v (Exists place xs g))
    (λ some. from_answer events tables v (Exists place xs g) no_values (exists_to events tables v place xs g ask.tabled [] no_values (to_answer events tables v g some no_values)))
    (λ some none. exists_from events tables v place xs g ask.tabled ask.fresh.0 [] (λ x there. absurd (none_in_nil x there)) no_values
    (to_answer events tables v (Exists place xs g) some no_values)
    (λ found. none (from_answer events tables v g no_values found)))
    told

-- what is so for each place with an answer
pub ok_for_each : {X E : Type 0} (r : Result Bool E) (P : Bool → X → Type 0) → ((x : X) → IfOk r (λ b. P b x)) → IfOk r (λ b. (x : X) → P b x)
ok_for_each (Ok b) P each = each
ok_for_each (Err e) P each = tt
