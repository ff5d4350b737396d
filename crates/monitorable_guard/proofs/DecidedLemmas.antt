-- A safe formula is satisfied or it is not: its quantifiers ask for finitely many values, and it does not look ahead.
use Rattle.monitorable_guard.proofs.Vocabulary.{◌≡◌, ℕ, ◌-◌, ◌<◌, ◌≤◌, ◌<ℤ◌, ◌≤ℤ◌, ℤ, ◌⊎◌, inl, inr, ⊎_elim, List, ◌++◌, length, map, Option, None, Some, Contains, refl, sym, ◌∙◌, clash_ℤ}
use Rattle.monitorable_guard.proofs.Vocabulary.{Decides-eqb, by_lt_z, length-map, step_at, has_event, has_event-Decides, same_value_or_not, IsIn, IsUpTo, Valuation, value_at, value_of_term}
use Rattle.monitorable_guard.proofs.Vocabulary.{values_of_terms, with_values, Event, NameId, Interval, Step, VarId, Value, Num, Text, Formula, True, False, Atom, Equal, Less, AtMost, Not, And, Or}
use Rattle.monitorable_guard.proofs.Vocabulary.{Implies, Exists, Forall, Prev, Next, Once, Historically, Since, Eventually, Always, Until, IsFree, Sat, IsEventAmong, AreSameValues, AreNumbersInOrder}
use Rattle.monitorable_guard.proofs.Vocabulary.{HeldSince, HoldsAnywhere, elapsed, FreeVariablesDecide, among_or_not, Contains-append, some_or_not, value_at-with_outside, Safe, SafeBelow, FreeWithin}
use Rattle.monitorable_guard.proofs.Vocabulary.{BoundOrFreeIn, NoneBound, BindsFresh}
use Rattle.monitorable_guard.proofs.Decided.{Decided, contains_decided, decided_by, decided_as, decided_not, decided_both, decided_or, decided_implies, decided_classically, decided_at_most}
use Rattle.monitorable_guard.proofs.Decided.{stable_from, some_upto, all_between}
use Rattle.monitorable_guard.proofs.AgreementLemmas.{nested_alike}
use Rattle.monitorable_guard.proofs.KnownValues.{From, known}
use Rattle.monitorable_guard.proofs.ListedValues.{listed_all, rows_over, replaced_at, chosen, chosen_inside, chosen_stays, each_inside, some_value}

-- ---- what asks for one position alone

decided_among : (events : List Event) (name : NameId) (args : Option (List Value)) → Decided (IsEventAmong events name args)
decided_among events name None = inr (λ among. among)
decided_among events name (Some args) = decided_by (Contains events (record { name = name; args = args })) (has_event events (record { name = name; args = args }))
    (has_event-Decides events (record { name = name; args = args }))

decided_same : (s t : Option Value) → Decided (AreSameValues s t)
decided_same None t = inr (λ same. same)
decided_same (Some a) None = inr (λ same. same)
decided_same (Some a) (Some b) = same_value_or_not a b

decided_ordered : (R : ℤ → ℤ → Type 0) → ((x y : ℤ) → Decided (R x y)) → (s t : Option Value) → Decided (AreNumbersInOrder R s t)
decided_ordered R each None t = inr (λ ordered. ordered)
decided_ordered R each (Some (Num x)) None = inr (λ ordered. ordered)
decided_ordered R each (Some (Num x)) (Some (Num y)) = each x y
decided_ordered R each (Some (Num x)) (Some (Text b)) = inr (λ ordered. ordered)
decided_ordered R each (Some (Text a)) t = inr (λ ordered. ordered)

decided_below : (x y : ℤ) → Decided (x <ℤ y)
decided_below x y = by_lt_z x y (λ lt. inl lt) (λ le. inr (λ lt. clash_ℤ lt le))

decided_upto : (x y : ℤ) → Decided (x ≤ℤ y)
decided_upto x y = by_lt_z y x (λ lt. inr (λ le. clash_ℤ lt le)) (λ le. inl le)

decided_end : (high : Option ℕ) (difference : ℕ) → Decided (IsUpTo high difference)
decided_end None difference = inl tt
decided_end (Some high) difference = decided_at_most difference high

decided_in : (interval : Interval) (difference : ℕ) → Decided (IsIn interval difference)
decided_in interval difference = decided_both (interval.low ≤ difference) (IsUpTo interval.high difference) (decided_at_most interval.low difference) (decided_end interval.high difference)

-- ---- what asks for the positions up to one

module _ (trace : List Step) (i : ℕ) (interval : Interval) (F G : ℕ → Type 0) (left : (k : ℕ) → Decided (F k)) (right : (j : ℕ) → Decided (G j)) where
  abbrev HeldFrom : ℕ → Type 0
  HeldFrom j = IsIn interval (elapsed trace j i) × (G j × ((k : ℕ) → j < k → k ≤ i → F k))

  decided_since : Decided (HeldSince trace i interval F G)
  decided_since = decided_as _ (HeldSince trace i interval F G)
      (λ held none. held (λ some. none (some.0, some.1, some.2.0, some.2.1.0, some.2.1.1)))
      (λ held none. held (λ some. none (some.0, some.1, (some.2, (some.3, some.4)))))
      (decided_classically ((j : ℕ) × (j ≤ i) × HeldFrom j) (some_upto HeldFrom
      (λ j. decided_both (IsIn interval (elapsed trace j i)) _ (decided_in interval (elapsed trace j i))
      (decided_both (G j) ((k : ℕ) → j < k → k ≤ i → F k) (right j) (all_between F left j i))) i))

decided_anywhere : (k : ℕ) → Decided (HoldsAnywhere k)
decided_anywhere k = inl tt

pub decided_length : (row : List Value) (xs : List VarId) → Decided (length row ≡ length xs)
decided_length row xs = decided_by (length row ≡ length xs) _ (Decides-eqb (length row) (length xs))

-- ---- what asks for values

module _ (decides : FreeVariablesDecide) (trace : List Step) where
  module _ (i : ℕ) (v : Valuation) (xs : List VarId) (g : Formula) (B scope : VarId → Type 0) (safe : Safe g B) (fresh : BindsFresh g scope) (in_scope : (x : VarId) → B x → scope x)
      (free_scope : (x : VarId) → IsFree x g → scope x) (apart : (x : VarId) → Contains xs x → B x → ⊥) where
    abbrev listed : List Value
    listed = (listed_all trace i v g).0

    abbrev Known : (row : List Value) → VarId → Type 0
    Known row x = From (Contains listed) (λ a. stable_from (Contains listed a) (contains_decided listed a)) (with_values xs row v) x

    bound_known : (row : List Value) (x : VarId) → B x → Known row x
    bound_known row x b a at = (listed_all trace i v g).1 a (inr (inr (inr (x, sym (value_at-with_outside xs row v x (λ there. apart x there b)) ∙ at))))

    known_under : (row : List Value) → Sat trace i (with_values xs row v) g → (x : VarId) → B x ⊎ IsFree x g → Known row x
    known_under row sat x either = ⊎_elim (bound_known row x) (λ free. known (Contains listed) (λ a. stable_from (Contains listed a) (contains_decided listed a)) trace i
        (with_values xs row v) g B scope safe fresh in_scope free_scope
        (λ a at. (listed_all trace i v g).1 a (inr (inl at))) (λ a is. (listed_all trace i v g).1 a (inr (inr (inl is)))) (bound_known row) sat x free) either

    abbrev pub candidates : List (List Value)
    candidates = (rows_over listed xs).0

    -- the value, if it is listed, and else one that is
    abbrev r : Value → Value
    r a = chosen (contains_decided listed a) a

    -- a row under which the formula holds agrees with one of the candidates on what counts
    pub shrink : (row : List Value) → length row ≡ length xs → Sat trace i (with_values xs row v) g → (other : List Value) × Contains candidates other
        × (length other ≡ length xs) × ((x : VarId) → B x ⊎ IsFree x g → value_at (with_values xs row v) x ≡ value_at (with_values xs other v) x)
    shrink row long sat = (
      map r row,
      (rows_over listed xs).1 (map r row) (length-map row r ∙ long) (each_inside listed r
          (λ a. chosen_inside listed a ((listed_all trace i v g).1 some_value (inl refl)) (contains_decided listed a)) row),
      length-map row r ∙ long,
      λ x either. replaced_at r xs row v v x long (λ a at. chosen_stays listed a (known_under row sat x either a at) (contains_decided listed a)) (inr refl),
    )

    module _ (left : (w : Valuation) → Decided (Sat trace i w g)) where
      some_row : Decided ((row : List Value) × (length row ≡ length xs) × Sat trace i (with_values xs row v) g)
      some_row = ⊎_elim
          (λ some. inl (some.0, some.2.0, some.2.1))
          (λ n. inr (λ some.
          let other = shrink some.0 some.1 some.2 in
          n (other.0, other.1, (other.2, (decides trace i (with_values xs some.0 v) (with_values xs other.0 v) g (λ x free. other.3 x (inr free))).0 some.2))))
          (some_or_not (λ row. (length row ≡ length xs) × Sat trace i (with_values xs row v) g) candidates
          (λ row. decided_both (length row ≡ length xs) (Sat trace i (with_values xs row v) g) (decided_length row xs) (left (with_values xs row v))))

      each_row : (h : Formula) → FreeWithin h (BoundOrFreeIn B g) → ((w : Valuation) → Decided (Sat trace i w h))
          → Decided ((row : List Value) → length row ≡ length xs → Sat trace i (with_values xs row v) g → Sat trace i (with_values xs row v) h)
      each_row h within right = ⊎_elim
          (λ some. inr (λ each. some.2.1.1 (each some.0 some.2.0 some.2.1.0)))
          (λ n. inl (λ row long sat. ⊎_elim
          (λ yes. yes)
          (λ fails.
          let other = shrink row long sat in
          absurd (n (
            other.0,
            other.1,
            (
              other.2,
              (
                (decides trace i (with_values xs row v) (with_values xs other.0 v) g (λ x free. other.3 x (inr free))).0 sat,
                λ holds. fails ((decides trace i (with_values xs row v) (with_values xs other.0 v) h (λ x free. other.3 x (within x free))).1 holds),
              ),
            ),
          )))
          (right (with_values xs row v))))
          (some_or_not (λ row. (length row ≡ length xs) × (Sat trace i (with_values xs row v) g × (Sat trace i (with_values xs row v) h → ⊥))) candidates
          (λ row. decided_both (length row ≡ length xs) _ (decided_length row xs)
          (decided_both (Sat trace i (with_values xs row v) g) _ (left (with_values xs row v)) (decided_not (Sat trace i (with_values xs row v) h) (right (with_values xs row v))))))

  -- directly below a `forall` of some variables, or below none
  abbrev Below : Option (List VarId) → ℕ → Valuation → Formula → Type 0
  Below None i v f = Sat trace i v f
  Below (Some xs) i v f = (row : List Value) → length row ≡ length xs → Sat trace i (with_values xs row v) f

  -- none of these variables is bound
  abbrev Apart : Option (List VarId) → (VarId → Type 0) → Type 0
  Apart None B = Unit {0}
  Apart (Some xs) B = (x : VarId) → Contains xs x → B x → ⊥

  free_below : (xs : List VarId) (g : Formula) (scope : VarId → Type 0) → ((x : VarId) → IsFree x g × (Contains xs x → ⊥) → scope x) → (x : VarId) → IsFree x g → scope x ⊎ Contains xs x
  free_below xs g scope free_scope x free = ⊎_elim (λ there. inr there) (λ absent. inl (free_scope x (free, absent))) (among_or_not xs x)

  pub decided : (m : Option (List VarId)) (i : ℕ) (v : Valuation) (f : Formula) (B scope : VarId → Type 0) → SafeBelow m f B → BindsFresh f scope
      → ((x : VarId) → B x → scope x) → ((x : VarId) → IsFree x f → scope x) → Apart m B → Decided (Below m i v f)
  decided None i v (True place) B scope safe fresh in_scope free_scope apart = inl tt
  decided None i v (False place) B scope safe fresh in_scope free_scope apart = inr (λ sat. sat)
  decided None i v (Atom place name terms) B scope safe fresh in_scope free_scope apart = decided_among (step_at trace i).events name (values_of_terms v terms)
  decided None i v (Equal place s t) B scope safe fresh in_scope free_scope apart = decided_same (value_of_term v s) (value_of_term v t)
  decided None i v (Less place s t) B scope safe fresh in_scope free_scope apart = decided_ordered ◌<ℤ◌ decided_below (value_of_term v s) (value_of_term v t)
  decided None i v (AtMost place s t) B scope safe fresh in_scope free_scope apart = decided_ordered ◌≤ℤ◌ decided_upto (value_of_term v s) (value_of_term v t)
  decided None i v (Not place g) B scope safe fresh in_scope free_scope apart = decided_not (Sat trace i v g) (decided None i v g B scope safe.1 fresh in_scope free_scope tt)
  decided None i v (And place g h) B scope safe fresh in_scope free_scope apart = decided_both (Sat trace i v g) (Sat trace i v h)
      (decided None i v g B scope safe.0 fresh.0 in_scope (λ x free. free_scope x (inl free)) tt)
      (decided None i v h (BoundOrFreeIn B g) scope safe.1 fresh.1 (λ x b. ⊎_elim (in_scope x) (λ free. free_scope x (inl free)) b) (λ x free. free_scope x (inr free)) tt)
  decided None i v (Or place g h) B scope safe fresh in_scope free_scope apart = decided_or (Sat trace i v g) (Sat trace i v h)
      (decided None i v g B scope safe.0 fresh.0 in_scope (λ x free. free_scope x (inl free)) tt)
      (decided None i v h B scope safe.1 fresh.1 in_scope (λ x free. free_scope x (inr free)) tt)
  decided None i v (Implies place g h) B scope safe fresh in_scope free_scope apart = decided_implies (Sat trace i v g) (Sat trace i v h)
      (decided None i v g B scope safe.2 fresh.0 in_scope (λ x free. free_scope x (inl free)) tt)
      (decided None i v h B scope safe.3 fresh.1 in_scope (λ x free. free_scope x (inr free)) tt)
  decided None i v (Exists place xs g) B scope safe fresh in_scope free_scope apart = decided_classically _
      (some_row i v xs g B (λ x. scope x ⊎ Contains xs x) safe fresh.1 (λ x b. inl (in_scope x b)) (free_below xs g scope free_scope) (λ x there b. fresh.0 x there (in_scope x b))
      (λ w. decided None i w g B (λ x. scope x ⊎ Contains xs x) safe fresh.1 (λ x b. inl (in_scope x b)) (free_below xs g scope free_scope) tt))
  decided None i v (Forall place xs g) B scope safe fresh in_scope free_scope apart =
      decided (Some xs) i v g B (λ x. scope x ⊎ Contains xs x) safe fresh.1 (λ x b. inl (in_scope x b)) (free_below xs g scope free_scope) (λ x there b. fresh.0 x there (in_scope x b))
  decided None i v (Prev place interval g) B scope safe fresh in_scope free_scope apart = decided_as _ (Sat trace i v (Prev place interval g))
      (λ parts. (parts.0, parts.1.0, parts.1.1))
      (λ parts. (parts.0, (parts.1, parts.2)))
      (decided_both (0 < i) _ (decided_at_most 1 i)
      (decided_both (IsIn interval (elapsed trace (i - 1) i)) (Sat trace (i - 1) v g) (decided_in interval (elapsed trace (i - 1) i))
      (decided None (i - 1) v g NoneBound scope safe fresh (λ x b. absurd b) free_scope tt)))
  decided None i v (Once place interval g) B scope safe fresh in_scope free_scope apart =
      decided_since trace i interval HoldsAnywhere (λ j. Sat trace j v g) decided_anywhere (λ j. decided None j v g NoneBound scope safe fresh (λ x b. absurd b) free_scope tt)
  decided None i v (Historically place interval (Not p h)) B scope safe fresh in_scope free_scope apart = decided_not _
      (decided_since trace i interval HoldsAnywhere (λ j. Sat trace j v (Not p h) → ⊥) decided_anywhere
      (λ j. decided_not (Sat trace j v (Not p h)) (decided_not (Sat trace j v h) (decided None j v h NoneBound scope safe.1 fresh (λ x b. absurd b) free_scope tt))))
  decided None i v (Historically place interval (Implies p a b)) B scope safe fresh in_scope free_scope apart = decided_not _
      (decided_since trace i interval HoldsAnywhere (λ j. Sat trace j v (Implies p a b) → ⊥) decided_anywhere
      (λ j. decided_not (Sat trace j v (Implies p a b)) (decided_implies (Sat trace j v a) (Sat trace j v b)
      (decided None j v a NoneBound scope safe.2 fresh.0 (λ x b. absurd b) (λ x free. free_scope x (inl free)) tt)
      (decided None j v b (BoundOrFreeIn NoneBound a) scope safe.4 fresh.1 (λ x b. ⊎_elim (λ none. absurd none) (λ free. free_scope x (inl free)) b) (λ x free. free_scope x (inr free)) tt))))
  decided None i v (Historically place interval g) B scope safe fresh in_scope free_scope apart = decided_not _
      (decided_since trace i interval HoldsAnywhere (λ j. Sat trace j v g → ⊥) decided_anywhere
      (λ j. decided_not (Sat trace j v g) (decided None j v g NoneBound scope safe.2 fresh (λ x b. absurd b) free_scope tt)))
  decided None i v (Since place interval g h) B scope safe fresh in_scope free_scope apart =
      decided_since trace i interval (λ k. Sat trace k v g) (λ j. Sat trace j v h)
      (λ k. decided None k v g (BoundOrFreeIn NoneBound h) scope safe.2 fresh.0 (λ x b. ⊎_elim (λ none. absurd none) (λ free. free_scope x (inr free)) b) (λ x free. free_scope x (inl free)) tt)
      (λ j. decided None j v h NoneBound scope safe.0 fresh.1 (λ x b. absurd b) (λ x free. free_scope x (inr free)) tt)
  decided None i v (Next place interval g) B scope safe fresh in_scope free_scope apart = absurd safe
  decided None i v (Eventually place interval g) B scope safe fresh in_scope free_scope apart = absurd safe
  decided None i v (Always place interval g) B scope safe fresh in_scope free_scope apart = absurd safe
  decided None i v (Until place interval g h) B scope safe fresh in_scope free_scope apart = absurd safe
  decided (Some xs) i v (Forall place ys g) B scope safe fresh in_scope free_scope apart =
      let alike = nested_alike (λ u. Sat trace i u g) xs ys v in
      decided_as (Below (Some (xs ++ ys)) i v g) (Below (Some xs) i v (Forall place ys g)) alike.0 alike.1
      (decided (Some (xs ++ ys)) i v g B (λ x. scope x ⊎ Contains ys x) safe fresh.1 (λ x b. inl (in_scope x b)) (free_below ys g scope free_scope)
      (λ x there b. ⊎_elim (λ front. apart x front b) (λ back. fresh.0 x back (in_scope x b)) (Contains-append xs ys x there)))
  decided (Some xs) i v (Implies place g h) B scope safe fresh in_scope free_scope apart =
      each_row i v xs g B scope safe.2 fresh.0 in_scope (λ x free. free_scope x (inl free)) apart
      (λ w. decided None i w g B scope safe.2 fresh.0 in_scope (λ x free. free_scope x (inl free)) tt)
      h safe.4
      (λ w. decided None i w h (BoundOrFreeIn B g) scope safe.3 fresh.1 (λ x b. ⊎_elim (in_scope x) (λ free. free_scope x (inl free)) b) (λ x free. free_scope x (inr free)) tt)
  decided (Some xs) i v (Not place g) B scope safe fresh in_scope free_scope apart =
      decided_as _ (Below (Some xs) i v (Not place g)) (λ n row long sat. n (row, long, sat)) (λ each some. each some.0 some.1 some.2)
      (decided_not _ (some_row i v xs g B scope safe.1 fresh in_scope free_scope apart
      (λ w. decided None i w g B scope safe.1 fresh in_scope free_scope tt)))
  decided (Some xs) i v g B scope safe fresh in_scope free_scope apart = absurd safe
