-- What holds by the tables is what is satisfied, on each trace for which the tables stand.
use Rattle.monitorable_guard.proofs.Vocabulary.{◌≡◌, ℕ, ◌⊎◌, inl, inr, ⊎_elim, List, [], ◌∷◌, ◌++◌, length, drop, IsSome, IsTrue, Contains, ◌↔◌, refl, sym, subst, arith, and_parts, false≢true}
use Rattle.monitorable_guard.proofs.Vocabulary.{step_at, Valuation, value_at, values_of_terms, with_values, Event, Step, VarId, Value, Formula, True, False, Atom, Equal, Less, AtMost, Not, And, Or}
use Rattle.monitorable_guard.proofs.Vocabulary.{Implies, Exists, Forall, Prev, Next, Once, Historically, Since, Eventually, Always, Until, IsFree, Sat, IsEventAmong, IsStable, is_past, first_or_later}
use Rattle.monitorable_guard.proofs.Vocabulary.{none_in_nil, among_or_not, value_at-bound, value_at-other, Relation, HoldsNow, FirstHas, outermost, tables_beyond, TablesStandFor, Tabled}
use Rattle.std.specs.FinMap as finite

-- with values for some variables, those and the ones that had a value have one
pub bound_with : (xs : List VarId) (values : List Value) (v : Valuation) (x : VarId) → length values ≡ length xs → Contains xs x ⊎ IsSome (value_at v x) → IsSome (value_at (with_values xs values v) x)
bound_with [] values v x long either = ⊎_elim (λ there. absurd (none_in_nil x there)) (λ some. some) either
bound_with (y ∷ xs) [] v x long either = absurd (omega (arith, long))
bound_with (y ∷ xs) (value ∷ values) v x long either =
    bound_with xs values (finite.insert v y value) x (omega (arith, long))
    (⊎_elim
    (λ there. ⊎_elim (λ same. inr (subst IsSome (sym (value_at-bound v y x value same)) refl)) (λ tables_beyond. inl tables_beyond) (first_or_later x y xs there))
    (λ some. ⊎_elim
    (λ same. inr (subst IsSome (sym (value_at-bound v y x value (same_from same))) refl))
    (λ other. inr (subst IsSome (sym (value_at-other v y x value (λ e. other (0, omega arith, e)))) some))
    (among_or_not (y ∷ []) x))
    either)
  where
    same_from : Contains (y ∷ []) x → y ≡ x
    same_from there = ⊎_elim (λ same. same) (λ tables_beyond. absurd (none_in_nil x tables_beyond)) (first_or_later x y [] there)

stand_front : (trace : List Step) (i : ℕ) (fs gs : List Formula) (tables : List Relation) → TablesStandFor trace i (fs ++ gs) tables → TablesStandFor trace i fs tables
stand_front trace i [] gs tables stand = tt
stand_front trace i (f ∷ fs) gs [] stand = absurd stand
stand_front trace i (f ∷ fs) gs (t ∷ tables) stand = (stand.0, stand_front trace i fs gs tables stand.1)

stand_back : (trace : List Step) (i : ℕ) (fs gs : List Formula) (tables : List Relation) → TablesStandFor trace i (fs ++ gs) tables → TablesStandFor trace i gs (drop (length fs) tables)
stand_back trace i [] gs tables stand = stand
stand_back trace i (f ∷ fs) gs [] stand = absurd stand
stand_back trace i (f ∷ fs) gs (t ∷ tables) stand = stand_back trace i fs gs tables stand.1

first_stands : (trace : List Step) (i : ℕ) (v : Valuation) (f : Formula) (tables : List Relation) → TablesStandFor trace i (f ∷ []) tables
    → ((x : VarId) → IsFree x f → IsSome (value_at v x)) → FirstHas tables v ↔ Tabled trace i v f
first_stands trace i v f [] stand binds = absurd stand
first_stands trace i v f (t ∷ tables) stand binds = stand.0.rows v (λ x there. binds x (stand.0.columns x there))

module _ (trace : List Step) (i : ℕ) (events : List Event) (now : (step_at trace i).events ≡ events) (classical : (v : Valuation) (f : Formula) → IsStable (Sat trace i v f)) where
  below : (xs : List VarId) (values : List Value) (v : Valuation) (g : Formula) → length values ≡ length xs
      → ((x : VarId) → IsFree x g × (Contains xs x → ⊥) → IsSome (value_at v x)) → (x : VarId) → IsFree x g → IsSome (value_at (with_values xs values v) x)
  below xs values v g long binds x free = bound_with xs values v x long (⊎_elim inl (λ absent. inr (binds x (free, absent))) (among_or_not xs x))

  pub now_is_sat : (tables : List Relation) (v : Valuation) (f : Formula) → IsTrue (is_past f) → TablesStandFor trace i (outermost f) tables
      → ((x : VarId) → IsFree x f → IsSome (value_at v x)) → HoldsNow events tables v f ↔ Sat trace i v f
  now_is_sat tables v (True place) past stand binds = (λ h. h, λ h. h)
  now_is_sat tables v (False place) past stand binds = (λ h. h, λ h. h)
  now_is_sat tables v (Atom place name terms) past stand binds = (
    λ h. subst (λ e. IsEventAmong e name (values_of_terms v terms)) (sym now) h,
    λ h. subst
        (λ e. IsEventAmong e name (values_of_terms v terms)) now h,
  )
  now_is_sat tables v (Equal place s t) past stand binds = (λ h. h, λ h. h)
  now_is_sat tables v (Less place s t) past stand binds = (λ h. h, λ h. h)
  now_is_sat tables v (AtMost place s t) past stand binds = (λ h. h, λ h. h)
  now_is_sat tables v (Not place g) past stand binds =
      let inner = now_is_sat tables v g past stand binds in
      (λ h s. h (inner.1 s), λ h s. h (inner.0 s))
  now_is_sat tables v (And place g h) past stand binds =
      let left = now_is_sat tables v g (and_parts _ _ past).0 (stand_front trace i (outermost g) (outermost h) tables stand) (λ x free. binds x (inl free)) in
      let right = now_is_sat (tables_beyond g tables) v h (and_parts _ _ past).1 (stand_back trace i (outermost g) (outermost h) tables stand) (λ x free. binds x (inr free)) in
      (λ b. (left.0 b.0, right.0 b.1), λ b. (left.1 b.0, right.1 b.1))
  now_is_sat tables v (Or place g h) past stand binds =
      let left = now_is_sat tables v g (and_parts _ _ past).0 (stand_front trace i (outermost g) (outermost h) tables stand) (λ x free. binds x (inl free)) in
      let right = now_is_sat (tables_beyond g tables) v h (and_parts _ _ past).1 (stand_back trace i (outermost g) (outermost h) tables stand) (λ x free. binds x (inr free)) in
      (λ e l r. e (λ n. l (left.0 n)) (λ n. r (right.0 n)), λ e l r. e (λ n. l (left.1 n)) (λ n. r (right.1 n)))
  now_is_sat tables v (Implies place g h) past stand binds =
      let left = now_is_sat tables v g (and_parts _ _ past).0 (stand_front trace i (outermost g) (outermost h) tables stand) (λ x free. binds x (inl free)) in
      let right = now_is_sat (tables_beyond g tables) v h (and_parts _ _ past).1 (stand_back trace i (outermost g) (outermost h) tables stand) (λ x free. binds x (inr free)) in
      (λ e s. right.0 (e (left.1 s)), λ e s. right.1 (e (left.0 s)))
  now_is_sat tables v (Exists place xs g) past stand binds = (
    λ e none. e (λ some. none (some.0, some.1, (now_is_sat tables (with_values xs some.0 v) g past stand (below xs some.0 v g some.1 binds)).0 some.2)),
    λ e none. e (λ some. none (some.0, some.1, (now_is_sat tables (with_values xs some.0 v) g past stand (below xs some.0 v g some.1 binds)).1 some.2)),
  )
  now_is_sat tables v (Forall place xs g) past stand binds = (
    λ each values long. (now_is_sat tables (with_values xs values v) g past stand (below xs values v g long binds)).0 (each values long),
    λ each values long. (now_is_sat tables (with_values xs values v) g past stand (below xs values v g long binds)).1 (each values long),
  )
  now_is_sat tables v (Prev place interval g) past stand binds = first_stands trace i v (Prev place interval g) tables stand binds
  now_is_sat tables v (Once place interval g) past stand binds = first_stands trace i v (Once place interval g) tables stand binds
  now_is_sat tables v (Historically place interval g) past stand binds =
      let fails = first_stands trace i v (Historically place interval g) tables stand binds in
      (λ h. classical v (Historically place interval g) (λ n. h (fails.1 n)), λ s h. fails.0 h s)
  now_is_sat tables v (Since place interval g h) past stand binds = first_stands trace i v (Since place interval g h) tables stand binds
  now_is_sat tables v (Next place interval g) past stand binds = absurd (false≢true past)
  now_is_sat tables v (Eventually place interval g) past stand binds = absurd (false≢true past)
  now_is_sat tables v (Always place interval g) past stand binds = absurd (false≢true past)
  now_is_sat tables v (Until place interval g h) past stand binds = absurd (false≢true past)
