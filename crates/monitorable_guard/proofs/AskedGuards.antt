-- What a guard's formula answers, from what is answered for it as it is asked.
use Rattle.monitorable_guard.proofs.Vocabulary.{◌≡◌, ℕ, zero, suc, ◌+◌, ◌<◌, ◌⊎◌, inl, inr, ⊎_elim, List, [], ◌∷◌, ◌++◌, length, get_or, drop, Contains, ◌↔◌, sym, subst, arith, Bool, IsTrue, Result}
use Rattle.monitorable_guard.proofs.Vocabulary.{Ok, Err, IfOk, among_or_not, Contains-append, Contains-append_left, Contains-append_right, Valuation, Event, VarId, Formula, IsFree, Relation}
use Rattle.monitorable_guard.proofs.Vocabulary.{FitOperators, HoldsNow, outermost, FreeWithin, AreOpen, AreOpenUnder, CanEvaluate, HasAnswers, IsSolution, FirstHas, FirstGivesUnder, HasValuation}
use Rattle.monitorable_guard.proofs.Vocabulary.{length-map, IsPartOfValuation, CanAskFormula, IsGuardAnswer, Safe}
use Rattle.monitorable_guard.proofs.CycleLemmas.{fit_short}
use Rattle.monitorable_guard.proofs.GuardLemmas.{can_ask}
use Rattle.monitorable_guard.proofs.PartLemmas.{fresh_within}
use Rattle.monitorable_guard.proofs.ReorderingLemmas.{first_at, alone_some}
use Rattle.monitorable_guard.proofs.ReorderingParts.{part_free, part_fits, part_fresh, part_means}
use Rattle.monitorable_guard.specs.machine.Answers.{HasAnswersIn}
use Rattle.monitorable_guard.specs.machine.Evaluation.{FirstHasUnder}
use Rattle.monitorable_guard.specs.machine.Reordering.{no_table, renumbered, IsReordered, only_formula}
use Rattle.std.proofs.lemmas.List.{append-nil, get_or-map}

-- ---- a guard's formula

module _ (f asked : Formula) (numbers : List ℕ) (same : IsReordered (only_formula 0 f) asked numbers) where
  asked_free : (x : VarId) → IsFree x asked ↔ IsFree x f
  asked_free x = part_free 0 f asked numbers same x

  asked_holds : (events : List Event) (tables : List Relation) (v : Valuation) → HoldsNow events (renumbered numbers tables) v asked ↔ HoldsNow events tables v f
  asked_holds events tables v = subst (λ l. HoldsNow events l v asked ↔ HoldsNow events tables v f) (append-nil (renumbered numbers tables)) (part_means 0 f asked numbers same events tables [] v)

  pub numbers_within : (tables : List Relation) → FitOperators (outermost f) tables → (n : ℕ) → Contains numbers n → n < length tables
  numbers_within tables fit n there =
      let below = alone_some 0 f (λ p. n < p.first + length (outermost p.formula)) (same.within n there) in
      let long = fit_short (outermost f) tables fit in
      omega (arith, below, long)

  pub asked_evaluates : (bound columns : List VarId) → AreOpen f bound columns → (tables : List Relation) (v : Valuation) → CanEvaluate f bound tables v
      → CanEvaluate asked bound (renumbered numbers tables) v
  asked_evaluates bound columns opens tables v can = record {
    fresh = fresh_within asked (Contains (bound ++ columns)) (λ x. Contains bound x ⊎ IsFree x asked)
        (λ x either. ⊎_elim
        (λ there. Contains-append_left bound columns x there)
        (λ free. ⊎_elim
        (λ there. Contains-append_left bound columns x there)
        (λ absent. Contains-append_right bound columns x ((opens.exact x).1 ((asked_free x).0 free, absent)))
        (among_or_not bound x))
        either)
        (part_fresh 0 f asked numbers same (bound ++ columns)
        (fresh_within f (λ x. Contains bound x ⊎ IsFree x f) (Contains (bound ++ columns))
        (λ x there. ⊎_elim (λ front. inl front) (λ back. inr ((opens.exact x).0 back).0) (Contains-append bound columns x there)) can.fresh));
    tabled = part_fits 0 f asked numbers same tables can.tabled;
    binds = can.binds;
  }

  pub asked_can : (bound columns : List VarId) → AreOpen f bound columns → (v scope : Valuation) → IsPartOfValuation v bound scope → (tables : List Relation) → Safe asked (Contains bound)
      → CanEvaluate f bound tables v → CanAskFormula scope (renumbered numbers tables) asked
  asked_can bound columns opens v scope part tables safe can =
      can_ask asked bound v scope part can.binds (renumbered numbers tables) safe (asked_evaluates bound columns opens tables v can)

  pub asked_within : (B : VarId → Type 0) → FreeWithin f B → FreeWithin asked B
  asked_within B within x free = within x ((asked_free x).0 free)

  module _ (scope : Valuation) where
    pub asked_opens : (columns : List VarId) → AreOpenUnder scope f columns → AreOpenUnder scope asked columns
    asked_opens columns opens = record {
      rising = opens.rising;
      exact = λ x. (
        λ there. let both = (opens.exact x).0 there in ((asked_free x).1 both.0, both.1),
        λ both. (opens.exact x).1 ((asked_free x).0 both.0, both.1),
      );
    }

    given_opens : (columns : List VarId) → AreOpenUnder scope asked columns → AreOpenUnder scope f columns
    given_opens columns opens = record {
      rising = opens.rising;
      exact = λ x. (
        λ there. let both = (opens.exact x).0 there in ((asked_free x).0 both.0, both.1),
        λ both. (opens.exact x).1 ((asked_free x).1 both.0, both.1),
      );
    }

    pub ok_given_columns : {E : Type 0} (r : Result Relation E) → IfOk r (λ t. AreOpenUnder scope asked t.columns) → IfOk r (λ t. AreOpenUnder scope f t.columns)
    ok_given_columns (Ok t) opens = given_opens t.columns opens
    ok_given_columns (Err e) opens = tt

    module _ (events : List Event) (tables : List Relation) where
      to_given : (u : Valuation) → IsSolution events (renumbered numbers tables) scope asked u → IsSolution events tables scope f u
      to_given u is = record {
        extends = is.extends;
        binds = λ x free. is.binds x ((asked_free x).1 free);
        holds = (asked_holds events tables u).0 is.holds;
      }

      to_asked : (u : Valuation) → IsSolution events tables scope f u → IsSolution events (renumbered numbers tables) scope asked u
      to_asked u is = record {
        extends = is.extends;
        binds = λ x free. is.binds x ((asked_free x).0 free);
        holds = (asked_holds events tables u).1 is.holds;
      }

      given_answer : (columns : List VarId) (w : Valuation) → IsGuardAnswer events (renumbered numbers tables) scope asked columns w ↔ IsGuardAnswer events tables scope f columns w
      given_answer columns w = (λ found. (found.0, to_given found.0 found.1, found.2), λ some. (some.0, to_asked some.0 some.1, some.2))

      pub ok_given_rows : {E : Type 0} (r : Result Relation E) → IfOk r (HasAnswers events (renumbered numbers tables) scope asked) → IfOk r (HasAnswers events tables scope f)
      ok_given_rows (Ok t) answers = λ w. (
        λ has. (given_answer t.columns w).0 ((answers w).0 has),
        λ some. (answers w).1 ((given_answer t.columns w).1 some),
      )
      ok_given_rows (Err e) answers = tt

      pub ok_given_in : {E : Type 0} (within : Relation) (r : Result Relation E) → IfOk r (HasAnswersIn within events (renumbered numbers tables) scope asked)
          → IfOk r (HasAnswersIn within events tables scope f)
      ok_given_in within (Ok t) answers = λ w. (
        λ has. let both = (answers w).0 has in ((given_answer t.columns w).0 both.0, both.1),
        λ both. (answers w).1 ((given_answer t.columns w).1 both.0, both.1),
      )
      ok_given_in within (Err e) answers = tt

      pub ok_given_holds : {E : Type 0} (r : Result Bool E) → IfOk r (λ b. IsTrue b ↔ HoldsNow events (renumbered numbers tables) scope asked) → IfOk r (λ b. IsTrue b ↔ HoldsNow events tables scope f)
      ok_given_holds (Ok b) told = (λ t. (asked_holds events tables scope).0 (told.0 t), λ holds. told.1 ((asked_holds events tables scope).1 holds))
      ok_given_holds (Err e) told = tt

-- ---- the tables at other places

module _ (numbers : List ℕ) (tables : List Relation) (v : Valuation) (operator : ℕ) (within : operator < length numbers) where
  same_table : get_or (renumbered numbers tables) operator no_table ≡ get_or tables (get_or numbers operator 0) no_table
  same_table = get_or-map (λ m. get_or tables m no_table) numbers operator 0 no_table within

  pub renumbered_has : FirstHas (drop (get_or numbers operator 0) tables) v ↔ FirstHas (drop operator (renumbered numbers tables)) v
  renumbered_has =
      let there = first_at tables (get_or numbers operator 0) v in
      let here = first_at (renumbered numbers tables) operator v in (
        λ has. here.1 (subst (λ t. HasValuation t v) (sym same_table) (there.0 has)),
        λ has. there.1 (subst (λ t. HasValuation t v) same_table (here.0 has)),
      )

  gives_at : (ts : List Relation) (k : ℕ) (given : Relation) → k < length ts → FirstGivesUnder (drop k ts) v given ↔ FirstGivesUnder (get_or ts k no_table ∷ []) v given
  gives_at [] k given short = absurd (omega (arith, short))
  gives_at (t ∷ ts) zero given short = (λ gives. gives, λ gives. gives)
  gives_at (t ∷ ts) (suc k) given short = gives_at ts k given (omega (arith, short))

  renumbered_gives : get_or numbers operator 0 < length tables → (given : Relation) → FirstGivesUnder (drop (get_or numbers operator 0) tables) v given
      → FirstGivesUnder (drop operator (renumbered numbers tables)) v given
  renumbered_gives short given gives =
      (gives_at (renumbered numbers tables) operator given (omega (arith, within, length-map numbers (λ m. get_or tables m no_table)))).1
      (subst (λ t. FirstGivesUnder (t ∷ []) v given) (sym same_table) ((gives_at tables (get_or numbers operator 0) given short).0 gives))

  pub ok_renumbered : {E : Type 0} (r : Result Relation E) → get_or numbers operator 0 < length tables → IfOk r (FirstGivesUnder (drop (get_or numbers operator 0) tables) v)
      → IfOk r (FirstGivesUnder (drop operator (renumbered numbers tables)) v)
  ok_renumbered (Ok given) short gives = renumbered_gives short given gives
  ok_renumbered (Err e) short gives = tt

  under_at : (ts : List Relation) (k : ℕ) → k < length ts → FirstHasUnder (drop k ts) v ↔ FirstHasUnder (get_or ts k no_table ∷ []) v
  under_at [] k short = absurd (omega (arith, short))
  under_at (t ∷ ts) zero short = (λ has. has, λ has. has)
  under_at (t ∷ ts) (suc k) short = under_at ts k (omega (arith, short))

  pub renumbered_some : get_or numbers operator 0 < length tables → FirstHasUnder (drop (get_or numbers operator 0) tables) v ↔ FirstHasUnder (drop operator (renumbered numbers tables)) v
  renumbered_some short =
      let there = under_at tables (get_or numbers operator 0) short in
      let here = under_at (renumbered numbers tables) operator (omega (arith, within, length-map numbers (λ m. get_or tables m no_table))) in (
        λ has. here.1 (subst (λ t. FirstHasUnder (t ∷ []) v) (sym same_table) (there.0 has)),
        λ has. there.1 (subst (λ t. FirstHasUnder (t ∷ []) v) same_table (here.0 has)),
      )
