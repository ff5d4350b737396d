-- What is known of a formula where nothing of its key happens is so.
use Rattle.slices.proofs.Vocabulary.{◌≡◌, ℕ, Bool, true, List, [], ◌∷◌, length, Option, None, Some, Contains, refl, ap, subst, ◌∙◌, pos, Event, NameId, Interval, Step}
use Rattle.slices.proofs.Vocabulary.{Term, VarId, Value, Num, step_at, Valuation, value_at, values_of_terms, with_values, Sat_stable, Classically, Formula, HeldSince, HoldsAnywhere, HoldsUntil, IsEventAmong}
use Rattle.slices.proofs.Vocabulary.{Sat, True, False, Atom, Equal, Less, AtMost, Not, And, Or, Implies, Exists, Forall, Prev, Next, Once, Historically, Since, Eventually, Always, Until, Absence, AtStep, InTrace}
use Rattle.slices.proofs.Vocabulary.{Verdict, Fails, Holds, Open, HasKeyTerm, IsOfOneKey, IsLeftOut, Keying, event_key, has_key, key_argument, both_hold, denied, one_holds, verdict_of, verdict_of_all}
use Rattle.slices.proofs.Vocabulary.{verdict_of_atom, verdict_of_some, Contains-filter, none_in_nil, value_at-with_outside, suc}
use Rattle.slices.proofs.KeyedEvents.{argument_of, atom_is_kept}

-- the verdict on a statement is right
abbrev pub Says : Verdict → Type 0 → Type 0
Says Holds P = P
Says Fails P = P → ⊥
Says Open P = Unit {0}

says_same : (d : Verdict) (P Q : Type 0) → (P → Q) → (Q → P) → Says d P → Says d Q
says_same Holds P Q to from says = to says
says_same Fails P Q to from says = λ q. says (from q)
says_same Open P Q to from says = tt

says_not : (d : Verdict) (P : Type 0) → Says d P → Says (denied d) (P → ⊥)
says_not Holds P says = λ fails. fails says
says_not Fails P says = says
says_not Open P says = tt

says_both : (d e : Verdict) (P Q : Type 0) → Says d P → Says e Q → Says (both_hold d e) (P × Q)
says_both Fails e P Q left right = λ both. left both.0
says_both Holds Holds P Q left right = (left, right)
says_both Holds Fails P Q left right = λ both. right both.1
says_both Holds Open P Q left right = tt
says_both Open Holds P Q left right = tt
says_both Open Fails P Q left right = λ both. right both.1
says_both Open Open P Q left right = tt

says_one : (d e : Verdict) (P Q : Type 0) → Says d P → Says e Q → Says (one_holds d e) ((P → ⊥) → (Q → ⊥) → ⊥)
says_one d e P Q left right =
    says_same (one_holds d e) (((P → ⊥) × (Q → ⊥)) → ⊥) ((P → ⊥) → (Q → ⊥) → ⊥)
    (λ none p q. none (p, q)) (λ one both. one both.0 both.1)
    (says_not (both_hold (denied d) (denied e)) ((P → ⊥) × (Q → ⊥))
    (says_both (denied d) (denied e) (P → ⊥) (Q → ⊥) (says_not d P left) (says_not e Q right)))

-- values for so many variables
some_values : List VarId → List Value
some_values [] = []
some_values (x ∷ xs) = Num (pos 0) ∷ some_values xs

enough : (xs : List VarId) → length (some_values xs) ≡ length xs
unfolding some_values
enough [] = refl
enough (x ∷ xs) = ap suc (enough xs)

says_some_value : (d : Verdict) (xs : List VarId) (P : List Value → Type 0)
    → ((values : List Value) → length values ≡ length xs → Says d (P values))
    → Says d (Classically ((values : List Value) × (length values ≡ length xs) × P values))
says_some_value Holds xs P says = λ none. none (some_values xs, enough xs, says (some_values xs) (enough xs))
says_some_value Fails xs P says = λ some. some (λ found. says found.0 found.1 found.2)
says_some_value Open xs P says = tt

says_each_value : (d : Verdict) (xs : List VarId) (P : List Value → Type 0)
    → ((values : List Value) → length values ≡ length xs → Says d (P values))
    → Says d ((values : List Value) → length values ≡ length xs → P values)
says_each_value Holds xs P says = says
says_each_value Fails xs P says = λ each. says (some_values xs) (enough xs) (each (some_values xs) (enough xs))
says_each_value Open xs P says = tt

-- where nothing happens in the trace, all positions are meant
abbrev pub AreAll : Absence → (ℕ → Type 0) → Type 0
AreAll AtStep Here = Unit {0}
AreAll InTrace Here = (i : ℕ) → Here i

module _ (trace : List Step) (i : ℕ) (interval : Interval) (Here F G : ℕ → Type 0) where
  says_since : (absence : Absence) (d : Verdict) → AreAll absence Here → ((j : ℕ) → Here j → Says d (G j))
      → Says (verdict_of_some absence d) (HeldSince trace i interval F G)
  says_since AtStep d all says = tt
  says_since InTrace Holds all says = tt
  says_since InTrace Fails all says = λ held. held (λ some. says some.0 (all some.0) some.3)
  says_since InTrace Open all says = tt

  says_until : (absence : Absence) (d : Verdict) → AreAll absence Here → ((j : ℕ) → Here j → Says d (G j))
      → Says (verdict_of_some absence d) (HoldsUntil trace i interval F G)
  says_until AtStep d all says = tt
  says_until InTrace Holds all says = tt
  says_until InTrace Fails all says = λ held. held (λ some. says some.0 (all some.0) some.4)
  says_until InTrace Open all says = tt

  says_historically : (absence : Absence) (d : Verdict) → AreAll absence Here → ((j : ℕ) → Here j → Says d (G j))
      → Says (verdict_of_all absence d) (HeldSince trace i interval F (λ j. G j → ⊥) → ⊥)
  says_historically AtStep d all says = tt
  says_historically InTrace Holds all says = λ held. held (λ some. some.3 (says some.0 (all some.0)))
  says_historically InTrace Fails all says = tt
  says_historically InTrace Open all says = tt

  says_always : (absence : Absence) (d : Verdict) → AreAll absence Here → ((j : ℕ) → Here j → Says d (G j))
      → Says (verdict_of_all absence d) (HoldsUntil trace i interval F (λ j. G j → ⊥) → ⊥)
  says_always AtStep d all says = tt
  says_always InTrace Holds all says = λ held. held (λ some. some.4 (says some.0 (all some.0)))
  says_always InTrace Fails all says = tt
  says_always InTrace Open all says = tt

-- the verdicts on atoms are right at these positions
abbrev pub AtomsAreKnown : Absence → Keying → VarId → Value → List Step → (ℕ → Type 0) → Type 0
AtomsAreKnown absence keying x key trace Here = (i : ℕ) → Here i → (v : Valuation) → value_at v x ≡ Some key
    → (name : NameId) (terms : List Term) → HasKeyTerm (keying name) terms x
    → Says (verdict_of_atom absence (keying name)) (IsEventAmong (step_at trace i).events name (values_of_terms v terms))

module _ (absence : Absence) (keying : Keying) (x : VarId) (key : Value) (trace : List Step) (Here : ℕ → Type 0)
    (atoms : AtomsAreKnown absence keying x key trace Here) (all : AreAll absence Here) where
  pub says : (f : Formula) → IsOfOneKey keying x f → (i : ℕ) → Here i → (v : Valuation) → value_at v x ≡ Some key
      → Says (verdict_of absence keying f) (Sat trace i v f)
  says (True place) one i at v is = tt
  says (False place) one i at v is = λ holds. holds
  says (Atom place name terms) one i at v is = atoms i at v is name terms one
  says (Equal place s t) one i at v is = tt
  says (Less place s t) one i at v is = tt
  says (AtMost place s t) one i at v is = tt
  says (Not place f) one i at v is = says_not (verdict_of absence keying f) (Sat trace i v f) (says f one i at v is)
  says (And place f g) one i at v is =
      says_both (verdict_of absence keying f) (verdict_of absence keying g) (Sat trace i v f) (Sat trace i v g) (says f one.0 i at v is) (says g one.1 i at v is)
  says (Or place f g) one i at v is =
      says_one (verdict_of absence keying f) (verdict_of absence keying g) (Sat trace i v f) (Sat trace i v g) (says f one.0 i at v is) (says g one.1 i at v is)
  says (Implies place f g) one i at v is =
      says_same (one_holds (denied (verdict_of absence keying f)) (verdict_of absence keying g))
      (((Sat trace i v f → ⊥) → ⊥) → (Sat trace i v g → ⊥) → ⊥) (Sat trace i v f → Sat trace i v g)
      (λ either left. Sat_stable trace i v g (λ fails. either (λ denies. denies left) fails))
      (λ implies left right. left (λ holds. right (implies holds)))
      (says_one (denied (verdict_of absence keying f)) (verdict_of absence keying g) (Sat trace i v f → ⊥) (Sat trace i v g)
      (says_not (verdict_of absence keying f) (Sat trace i v f) (says f one.0 i at v is)) (says g one.1 i at v is))
  says (Exists place xs f) one i at v is =
      says_some_value (verdict_of absence keying f) xs (λ values. Sat trace i (with_values xs values v) f)
      (λ values long. says f one.1 i at (with_values xs values v) (value_at-with_outside xs values v x one.0 ∙ is))
  says (Forall place xs f) one i at v is =
      says_each_value (verdict_of absence keying f) xs (λ values. Sat trace i (with_values xs values v) f)
      (λ values long. says f one.1 i at (with_values xs values v) (value_at-with_outside xs values v x one.0 ∙ is))
  says (Prev place interval f) one i at v is = absurd one
  says (Next place interval f) one i at v is = absurd one
  says (Once place interval f) one i at v is =
      says_since trace i interval Here HoldsAnywhere (λ j. Sat trace j v f) absence (verdict_of absence keying f) all (λ j here. says f one.1 j here v is)
  says (Historically place interval f) one i at v is =
      says_historically trace i interval Here HoldsAnywhere (λ j. Sat trace j v f) absence (verdict_of absence keying f) all (λ j here. says f one.1 j here v is)
  says (Since place interval f g) one i at v is =
      says_since trace i interval Here (λ k. Sat trace k v f) (λ j. Sat trace j v g) absence (verdict_of absence keying g) all (λ j here. says g one.1.1 j here v is)
  says (Eventually place interval f) one i at v is =
      says_until trace i interval Here HoldsAnywhere (λ j. Sat trace j v f) absence (verdict_of absence keying f) all (λ j here. says f one.1 j here v is)
  says (Always place interval f) one i at v is =
      says_always trace i interval Here HoldsAnywhere (λ j. Sat trace j v f) absence (verdict_of absence keying f) all (λ j here. says f one.1 j here v is)
  says (Until place interval f g) one i at v is =
      says_until trace i interval Here (λ k. Sat trace k v f) (λ j. Sat trace j v g) absence (verdict_of absence keying g) all (λ j here. says g one.1.1 j here v is)

-- ---- At a step that the slice leaves out.

module _ (keying : Keying) (keys : Value → Bool) (x : VarId) (key : Value) (among : keys key ≡ true) (trace : List Step) where
  abbrev Left : ℕ → Type 0
  Left i = IsLeftOut keying keys (step_at trace i)

  none_left : (i : ℕ) → Left i → (v : Valuation) → value_at v x ≡ Some key → (name : NameId) (terms : List Term)
      → HasKeyTerm (keying name) terms x → (args : Option (List Value)) → values_of_terms v terms ≡ args
      → IsEventAmong (step_at trace i).events name args → ⊥
  none_left i left v is name terms one None values there = there
  none_left i left v is name terms one (Some args) values there =
      let event : Event = record { name = name; args = args } in
      none_in_nil event (subst (λ (events : List Event). Contains events event) left
      (Contains-filter (λ e. has_key keys (event_key keying e)) (step_at trace i).events event there
      (atom_is_kept keys v terms args x key among values is (keying name) one)))

  left_atoms : AtomsAreKnown AtStep keying x key trace Left
  left_atoms i left v is name terms one =
      by (keying name) (none_left i left v is name terms one (values_of_terms v terms) refl)
    where
      by : (column : Option ℕ) → (IsEventAmong (step_at trace i).events name (values_of_terms v terms) → ⊥)
          → Says (verdict_of_atom AtStep column) (IsEventAmong (step_at trace i).events name (values_of_terms v terms))
      by None none = none
      by (Some column) none = none

  pub says_left : (f : Formula) → IsOfOneKey keying x f → (i : ℕ) → IsLeftOut keying keys (step_at trace i) → (v : Valuation)
      → value_at v x ≡ Some key → Says (verdict_of AtStep keying f) (Sat trace i v f)
  says_left f one i left v is = says AtStep keying x key trace Left left_atoms tt f one i left v is

-- ---- In a trace without an event of the key.

abbrev pub HasNoneOf : Keying → Value → List Step → Type 0
HasNoneOf keying key trace = (i : ℕ) (event : Event) → Contains (step_at trace i).events event → event_key keying event ≡ Some key → ⊥

module _ (keying : Keying) (x : VarId) (key : Value) (trace : List Step) (none : HasNoneOf keying key trace) where
  abbrev Any : ℕ → Type 0
  Any i = Unit {0}

  no_atom : (i : ℕ) (v : Valuation) → value_at v x ≡ Some key → (name : NameId) (terms : List Term) (column : ℕ)
      → keying name ≡ Some column → HasKeyTerm (Some column) terms x → (args : Option (List Value)) → values_of_terms v terms ≡ args
      → IsEventAmong (step_at trace i).events name args → ⊥
  no_atom i v is name terms column keyed one None values there = there
  no_atom i v is name terms column keyed one (Some args) values there =
      none i (record { name = name; args = args }) there
      (ap (λ c. key_argument c args) keyed ∙ argument_of v terms args column x key values one is)

  absent_atoms : AtomsAreKnown InTrace keying x key trace Any
  absent_atoms i at v is name terms one = by (keying name) refl one
    where
      by : (column : Option ℕ) → keying name ≡ column → HasKeyTerm column terms x
          → Says (verdict_of_atom InTrace column) (IsEventAmong (step_at trace i).events name (values_of_terms v terms))
      by None keyed term = tt
      by (Some column) keyed term = no_atom i v is name terms column keyed term (values_of_terms v terms) refl

  pub says_absent : (f : Formula) → IsOfOneKey keying x f → (i : ℕ) (v : Valuation) → value_at v x ≡ Some key
      → Says (verdict_of InTrace keying f) (Sat trace i v f)
  says_absent f one i v is = says InTrace keying x key trace Any absent_atoms (λ j. tt) f one i tt v is
