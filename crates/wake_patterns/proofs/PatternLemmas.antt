-- A guard fails, or holds, without an event of its patterns, and what a plan brings is new.
use Rattle.wake_patterns.proofs.Vocabulary.{◌≡◌, ℕ, List, [], ◌∷◌, ◌++◌, Option, None, Some, Contains, ◌⊎◌, inl, inr, ⊎_elim, refl, sym, subst, ◌∙◌, map, none-some, same_Some, step_at}
use Rattle.wake_patterns.proofs.Vocabulary.{Contains-append_left, AllByRecursion-of_append, Valuation, value_at, value_of_term, values_of_terms, onto_values, with_values, Event, NameId, Step, Term}
use Rattle.wake_patterns.proofs.Vocabulary.{Var, Const, VarId, Value, BindsFresh, Formula, And, Atom, Exists, Or, IsFree, IsEventAmong, Sat, new_apart, GuardBindsFresh, Plan, CausePlan, SuppressPlan}
use Rattle.wake_patterns.proofs.Vocabulary.{Both, Either, TestOr, Guarded, EventuallyPlan, AlwaysPlan, UntilPlan, NextPlan, value_at-with_outside, FitsArg, FitArgs, HasNone, Pattern, AtEach}
use Rattle.wake_patterns.proofs.Vocabulary.{BringsFresh, BringsFreshUnder, pattern_of, patterns_of_both, narrower, fails_without, holds_without, if_known, cond, nat_lt, least_fixed, known_truth}
use Rattle.wake_patterns.proofs.Vocabulary.{of_known, of_numbers, value_eq, value_eq-Decides, Decides, Bool, true, false, false≢true, Num, Text, int_lt, int_le, ◌<ℤ◌, ◌≤ℤ◌, AreSameValues}
use Rattle.wake_patterns.proofs.Vocabulary.{AreNumbersInOrder, True, False, Equal, Less, AtMost, Not, Implies, Forall, Once, Since, ℤ, ints, arith}

-- ---- options and lists of patterns

pub of_both_some : (a b : Option (List Pattern)) (ps : List Pattern) → patterns_of_both a b ≡ Some ps
    → (xs ys : List Pattern) × (a ≡ Some xs) × (b ≡ Some ys) × (xs ++ ys ≡ ps)
of_both_some None b ps is = absurd (none-some ps is)
of_both_some (Some xs) None ps is = absurd (none-some ps is)
of_both_some (Some xs) (Some ys) ps is = (xs, ys, refl, refl, same_Some (xs ++ ys) ps is)

-- the narrower patterns are those of one of the two
pub of_narrower_some : (a b : Option (List Pattern)) (ps : List Pattern) → narrower a b ≡ Some ps → (a ≡ Some ps) ⊎ (b ≡ Some ps)
of_narrower_some None b ps is = inr is
of_narrower_some (Some xs) None ps is = inl is
of_narrower_some (Some xs) (Some ys) ps is = one (nat_lt (least_fixed xs) (least_fixed ys)) is
  where
    one : (second : Bool) → cond second (Some ys) (Some xs) ≡ Some ps → (Some xs ≡ Some ps) ⊎ (Some ys ≡ Some ps)
    one true e = inr e
    one false e = inl e

-- none of the patterns of both sides has an event where none of each has
pub none_of_both : (events : List Event) (a b : Option (List Pattern)) (ps : List Pattern) → patterns_of_both a b ≡ Some ps → HasNone ps events
    → (xs ys : List Pattern) × (a ≡ Some xs) × (b ≡ Some ys) × HasNone xs events × HasNone ys events
none_of_both events a b ps is none =
    let (xs, ys, one, other, all) = of_both_some a b ps is in
    let parts = AllByRecursion-of_append _ xs ys (subst (λ (l : List Pattern). HasNone l events) (sym all) none) in
    (xs, ys, one, other, parts.0, parts.1)

-- ---- numbers

int_lt_decides : (m n : ℤ) → Decides (int_lt m n) (m <ℤ n)
int_lt_decides m n = by (int_lt m n) refl
  where
    by : (b : Bool) → int_lt m n ≡ b → Decides b (m <ℤ n)
    by true is = (λ yes. omega (arith, ints, is), λ less. refl)
    by false is = (λ yes. absurd (false≢true yes), λ less. absurd (omega (arith, ints, is, less)))

int_le_decides : (m n : ℤ) → Decides (int_le m n) (m ≤ℤ n)
int_le_decides m n = by (int_le m n) refl
  where
    by : (b : Bool) → int_le m n ≡ b → Decides b (m ≤ℤ n)
    by true is = (λ yes. omega (arith, ints, is), λ less. refl)
    by false is = (λ yes. absurd (false≢true yes), λ less. absurd (omega (arith, ints, is, less)))

-- ---- patterns and values

-- w binds what v binds, to the same values
abbrev pub Extends : Valuation → Valuation → Type 0
Extends v w = (x : VarId) (value : Value) → value_at v x ≡ Some value → value_at w x ≡ Some value

kept : (v w : Valuation) → Extends v w → (term : Term) (value : Value) → value_of_term v term ≡ Some value → value_of_term w term ≡ Some value
kept v w more (Var x) value is = more x value is
kept v w more (Const c) value is = is

onto_some : (a : Option Value) (b : Option (List Value)) (all : List Value) → onto_values a b ≡ Some all
    → (value : Value) × (values : List Value) × (a ≡ Some value) × (b ≡ Some values) × (value ∷ values ≡ all)
onto_some None b all is = absurd (none-some all is)
onto_some (Some value) None all is = absurd (none-some all is)
onto_some (Some value) (Some values) all is = (value, values, refl, refl, same_Some (value ∷ values) all is)

arg_fits : (o : Option Value) (value : Value) → ((fixed : Value) → o ≡ Some fixed → value ≡ fixed) → FitsArg o value
arg_fits None value same = tt
arg_fits (Some fixed) value same = same fixed refl

args_fit : (v w : Valuation) → Extends v w → (terms : List Term) (args : List Value) → values_of_terms w terms ≡ Some args
    → FitArgs (map (value_of_term v) terms) args
args_fit v w more [] args is = subst (FitArgs []) (same_Some [] args is) tt
args_fit v w more (term ∷ terms) args is =
    let (value, values, one, others, all) = onto_some (value_of_term w term) (values_of_terms w terms) args is in
    subst (FitArgs (map (value_of_term v) (term ∷ terms))) all (
      arg_fits (value_of_term v term) value (λ fixed known. same_Some value fixed (sym one ∙ kept v w more term fixed known)),
      args_fit v w more terms values others,
    )

module _ (v : Valuation) where
  -- v binds none of the variables
  abbrev pub AreUnbound : List VarId → Type 0
  AreUnbound xs = (x : VarId) → Contains xs x → value_at v x ≡ None

  -- the variables are new that the quantifiers of a guard bind
  abbrev pub BindsNew : Formula → Type 0
  BindsNew (Not place g) = BindsNew g
  BindsNew (And place g h) = BindsNew g × BindsNew h
  BindsNew (Or place g h) = BindsNew g × BindsNew h
  BindsNew (Implies place g h) = BindsNew g × BindsNew h
  BindsNew (Exists place xs g) = AreUnbound xs × BindsNew g
  BindsNew (Forall place xs g) = AreUnbound xs × BindsNew g
  BindsNew (Once place interval g) = BindsNew g
  BindsNew (Since place interval g h) = BindsNew g × BindsNew h
  BindsNew f = Unit {0}

  binds_new : (f : Formula) (scope : VarId → Type 0) → ((x : VarId) → (scope x → ⊥) → value_at v x ≡ None) → BindsFresh f scope → BindsNew f
  binds_new (Not place g) scope only fresh = binds_new g scope only fresh
  binds_new (And place g h) scope only fresh = (binds_new g scope only fresh.0, binds_new h scope only fresh.1)
  binds_new (Or place g h) scope only fresh = (binds_new g scope only fresh.0, binds_new h scope only fresh.1)
  binds_new (Implies place g h) scope only fresh = (binds_new g scope only fresh.0, binds_new h scope only fresh.1)
  binds_new (Exists place xs g) scope only fresh = (
    λ x there. only x (fresh.0 x there),
    binds_new g (λ x. scope x ⊎ Contains xs x) (λ x out. only x (λ inside. out (inl inside))) fresh.1,
  )
  binds_new (Forall place xs g) scope only fresh = (
    λ x there. only x (fresh.0 x there),
    binds_new g (λ x. scope x ⊎ Contains xs x) (λ x out. only x (λ inside. out (inl inside))) fresh.1,
  )
  binds_new (Once place interval g) scope only fresh = binds_new g scope only fresh
  binds_new (Since place interval g h) scope only fresh = (binds_new g scope only fresh.0, binds_new h scope only fresh.1)
  binds_new f scope only fresh = tt

  -- and those that the guards of a plan bring
  abbrev pub BringsNew : Plan → Type 0
  BringsNew (Both node left right) = BringsNew left × BringsNew right
  BringsNew (Either node left right) = BringsNew left × BringsNew right
  BringsNew (TestOr node guard test body) = BindsNew test × BringsNew body
  BringsNew (Guarded node xs guard test body) = AreUnbound xs × BindsNew test × BringsNew body
  BringsNew (EventuallyPlan node place low high body) = BringsNew body
  BringsNew (AlwaysPlan node place low high body) = BringsNew body
  BringsNew (UntilPlan node place low high left right) = BringsNew left × BringsNew right
  BringsNew (NextPlan node place high body) = BringsNew body
  BringsNew plan = Unit {0}

  test_new : (scope : List VarId) (test : Formula) → ((x : VarId) → (Contains scope x → ⊥) → value_at v x ≡ None)
      → GuardBindsFresh (test, scope) → BindsNew test
  test_new scope test only fresh =
      binds_new test (λ x. Contains scope x ⊎ IsFree x test) (λ x out. only x (λ inside. out (inl inside))) fresh

  brings_new : (plan : Plan) (scope : List VarId) → ((x : VarId) → (Contains scope x → ⊥) → value_at v x ≡ None) → AtEach BringsFresh plan scope → BringsNew plan
  brings_new (CausePlan node place name terms) scope only fresh = tt
  brings_new (SuppressPlan node place name terms) scope only fresh = tt
  brings_new (Both node left right) scope only fresh = (brings_new left scope only fresh.1, brings_new right scope only fresh.2)
  brings_new (Either node left right) scope only fresh = (brings_new left scope only fresh.1, brings_new right scope only fresh.2)
  brings_new (TestOr node guard test body) scope only fresh = (test_new scope test only fresh.0, brings_new body scope only fresh.1)
  brings_new (Guarded node xs guard test body) scope only fresh = (
    λ x there. only x (new_apart scope xs fresh.0.1 x there),
    test_new scope test only fresh.0.0,
    brings_new body (scope ++ xs) (λ x out. only x (λ inside. out (Contains-append_left scope xs x inside))) fresh.1,
  )
  brings_new (EventuallyPlan node place low high body) scope only fresh = brings_new body scope only fresh.1
  brings_new (AlwaysPlan node place low high body) scope only fresh = brings_new body scope only fresh.1
  brings_new (UntilPlan node place low high left right) scope only fresh = (brings_new left scope only fresh.1, brings_new right scope only fresh.2)
  brings_new (NextPlan node place high body) scope only fresh = brings_new body scope only fresh.1

  -- what a plan brings is new under v
  pub plan_brings_new : (plan : Plan) → BringsFreshUnder v plan → BringsNew plan
  plan_brings_new plan fresh = brings_new plan fresh.scope fresh.fits.only fresh.fresh

module _ (v : Valuation) (trace : List Step) (i : ℕ) where
  abbrev pub events : List Event
  events = (step_at trace i).events

  -- an event that a leaf or an atom speaks of is of its pattern
  pub not_there : (w : Valuation) → Extends v w → (name : NameId) (terms : List Term) (args : List Value) → values_of_terms w terms ≡ Some args
      → HasNone (pattern_of v name terms ∷ []) events → Contains events (record { name = name; args = args }) → ⊥
  not_there w more name terms args is none there =
      none.0 (record { name = name; args = args }) there (record { name = refl; args = args_fit v w more terms args is })

  pub not_among : (w : Valuation) → Extends v w → (name : NameId) (terms : List Term) (o : Option (List Value)) → values_of_terms w terms ≡ o
      → HasNone (pattern_of v name terms ∷ []) events → IsEventAmong events name o → ⊥
  not_among w more name terms None is none there = there
  not_among w more name terms (Some args) is none there = not_there w more name terms args is none there

  pub one_of : (pattern : Pattern) (ps : List Pattern) → Some (pattern ∷ []) ≡ Some ps → HasNone ps events → HasNone (pattern ∷ []) events
  one_of pattern ps is none = subst (λ (l : List Pattern). HasNone l events) (sym (same_Some (pattern ∷ []) ps is)) none

  pub two_of : (a b : Option (List Pattern)) (ps : List Pattern) → patterns_of_both a b ≡ Some ps → HasNone ps events
      → (xs ys : List Pattern) × (a ≡ Some xs) × (b ≡ Some ys) × HasNone xs events × HasNone ys events
  two_of a b ps is none = none_of_both events a b ps is none

  pub under_row : (w : Valuation) → Extends v w → (xs : List VarId) (row : List Value) → AreUnbound v xs → Extends v (with_values xs row w)
  under_row w more xs row new x value is =
      value_at-with_outside xs row w x (λ there. none-some value (sym (new x there) ∙ is)) ∙ more x value is

  -- ---- truths that are known

  -- where both terms have values under v, they have these under w
  of_known_tells : (test : Value → Value → Bool) (a b c d : Option Value) (R : Option Value → Option Value → Type 0) (truth : Bool)
      → ((value : Value) → a ≡ Some value → c ≡ Some value) → ((value : Value) → b ≡ Some value → d ≡ Some value)
      → ((x y : Value) → Decides (test x y) (R (Some x) (Some y))) → of_known test a b ≡ Some truth → Decides truth (R c d)
  of_known_tells test None b c d R truth on_left on_right decides is = absurd (none-some truth is)
  of_known_tells test (Some x) None c d R truth on_left on_right decides is = absurd (none-some truth is)
  of_known_tells test (Some x) (Some y) c d R truth on_left on_right decides is =
      subst (λ o. Decides truth (R o d)) (sym (on_left x refl))
      (subst (λ o. Decides truth (R (Some x) o)) (sym (on_right y refl)) (subst (λ b. Decides b (R (Some x) (Some y))) (same_Some (test x y) truth is) (decides x y)))

  equal_decides : (x y : Value) → Decides (value_eq x y) (AreSameValues (Some x) (Some y))
  equal_decides = value_eq-Decides

  less_decides : (x y : Value) → Decides (of_numbers int_lt x y) (AreNumbersInOrder ◌<ℤ◌ (Some x) (Some y))
  less_decides (Num m) (Num n) = int_lt_decides m n
  less_decides (Num m) (Text t) = (λ yes. absurd (false≢true yes), λ less. absurd less)
  less_decides (Text s) y = (λ yes. absurd (false≢true yes), λ less. absurd less)

  at_most_decides : (x y : Value) → Decides (of_numbers int_le x y) (AreNumbersInOrder ◌≤ℤ◌ (Some x) (Some y))
  at_most_decides (Num m) (Num n) = int_le_decides m n
  at_most_decides (Num m) (Text t) = (λ yes. absurd (false≢true yes), λ less. absurd less)
  at_most_decides (Text s) y = (λ yes. absurd (false≢true yes), λ less. absurd less)

  known_tells : (w : Valuation) → Extends v w → (f : Formula) (truth : Bool) → known_truth v f ≡ Some truth → Decides truth (Sat trace i w f)
  known_tells w more (True place) truth is = subst (λ b. Decides b (Unit {0})) (same_Some true truth is) (λ yes. tt, λ holds. refl)
  known_tells w more (False place) truth is = subst (λ b. Decides b ⊥) (same_Some false truth is) (λ yes. absurd (false≢true yes), λ holds. absurd holds)
  known_tells w more (Equal place s t) truth is =
      of_known_tells value_eq (value_of_term v s) (value_of_term v t) (value_of_term w s) (value_of_term w t) AreSameValues truth (kept v w more s) (kept v w more t) equal_decides is
  known_tells w more (Less place s t) truth is =
      of_known_tells (of_numbers int_lt) (value_of_term v s) (value_of_term v t) (value_of_term w s) (value_of_term w t) (AreNumbersInOrder ◌<ℤ◌) truth
      (kept v w more s) (kept v w more t) less_decides is
  known_tells w more (AtMost place s t) truth is =
      of_known_tells (of_numbers int_le) (value_of_term v s) (value_of_term v t) (value_of_term w s) (value_of_term w t) (AreNumbersInOrder ◌≤ℤ◌) truth
      (kept v w more s) (kept v w more t) at_most_decides is
  known_tells w more f truth is = absurd (none-some truth is)

  is_known : (wanted : Bool) (o : Option Bool) (ps : List Pattern) → if_known wanted o ≡ Some ps → o ≡ Some wanted
  is_known true None ps is = absurd (none-some ps is)
  is_known true (Some true) ps is = refl
  is_known true (Some false) ps is = absurd (none-some ps is)
  is_known false None ps is = absurd (none-some ps is)
  is_known false (Some true) ps is = absurd (none-some ps is)
  is_known false (Some false) ps is = refl

  known_fails : (w : Valuation) → Extends v w → (f : Formula) (ps : List Pattern) → if_known false (known_truth v f) ≡ Some ps → Sat trace i w f → ⊥
  known_fails w more f ps is holds = false≢true ((known_tells w more f false (is_known false (known_truth v f) ps is)).1 holds)

  known_holds : (w : Valuation) → Extends v w → (f : Formula) (ps : List Pattern) → if_known true (known_truth v f) ≡ Some ps → Sat trace i w f
  known_holds w more f ps is = (known_tells w more f true (is_known true (known_truth v f) ps is)).0 refl

  -- ---- guards and tests

  mutual
    -- without an event of its patterns it fails
    pub guard_fails : (w : Valuation) → Extends v w → (f : Formula) → BindsNew v f → (ps : List Pattern) → fails_without v f ≡ Some ps → HasNone ps events
        → Sat trace i w f → ⊥
    guard_fails w more (Atom place name terms) new ps is none holds =
        not_among w more name terms (values_of_terms w terms) refl (one_of (pattern_of v name terms) ps is none) holds
    guard_fails w more (Not place g) new ps is none holds = holds (guard_holds w more g new ps is none)
    guard_fails w more (And place g h) new ps is none holds =
        ⊎_elim (λ l. guard_fails w more g new.0 ps l none holds.0) (λ r. guard_fails w more h new.1 ps r none holds.1)
        (of_narrower_some (fails_without v g) (fails_without v h) ps is)
    guard_fails w more (Or place g h) new ps is none holds =
        let (xs, ys, l, r, front, back) = two_of (fails_without v g) (fails_without v h) ps is none in
        holds (guard_fails w more g new.0 xs l front) (guard_fails w more h new.1 ys r back)
    guard_fails w more (Implies place g h) new ps is none holds =
        let (xs, ys, l, r, front, back) = two_of (holds_without v g) (fails_without v h) ps is none in
        guard_fails w more h new.1 ys r back (holds (guard_holds w more g new.0 xs l front))
    guard_fails w more (Exists place xs g) new ps is none holds =
        holds (λ row. guard_fails (with_values xs row.0 w) (under_row w more xs row.0 new.0) g new.1 ps is none row.2)
    guard_fails w more f new ps is none holds = known_fails w more f ps is holds

    -- without an event of its patterns it holds
    pub guard_holds : (w : Valuation) → Extends v w → (f : Formula) → BindsNew v f → (ps : List Pattern) → holds_without v f ≡ Some ps → HasNone ps events
        → Sat trace i w f
    guard_holds w more (Not place g) new ps is none = guard_fails w more g new ps is none
    guard_holds w more (And place g h) new ps is none =
        let (xs, ys, l, r, front, back) = two_of (holds_without v g) (holds_without v h) ps is none in
        (guard_holds w more g new.0 xs l front, guard_holds w more h new.1 ys r back)
    guard_holds w more (Or place g h) new ps is none =
        ⊎_elim (λ l not_left not_right. not_left (guard_holds w more g new.0 ps l none)) (λ r not_left not_right. not_right (guard_holds w more h new.1 ps r none))
        (of_narrower_some (holds_without v g) (holds_without v h) ps is)
    guard_holds w more (Implies place g h) new ps is none =
        ⊎_elim (λ l on_left. absurd (guard_fails w more g new.0 ps l none on_left)) (λ r on_left. guard_holds w more h new.1 ps r none)
        (of_narrower_some (fails_without v g) (holds_without v h) ps is)
    guard_holds w more (Forall place xs g) new ps is none =
        λ row long. guard_holds (with_values xs row w) (under_row w more xs row new.0) g new.1 ps is none
    guard_holds w more f new ps is none = known_holds w more f ps is
