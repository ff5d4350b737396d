-- Where a guard holds by its tables, whatever they are, it is triggered at the step.
use Rattle.obligations.proofs.Vocabulary.{◌≡◌, ◌⊎◌, ℕ, true, false, Bool, List, [], ◌∷◌, ◌++◌, Option, None, Some, Contains, nat_eq, refl, sym, ap, subst, inl, inr, ⊎_elim, Decides, unsigned_Decides}
use Rattle.obligations.proofs.Vocabulary.{option_or, false≢true, Contains-append_left, Contains-append_right, Contains-push, list_any-Decides, first_or_later, here, later, none_in_nil, Valuation}
use Rattle.obligations.proofs.Vocabulary.{values_of_terms, with_values, Event, NameId, VarId, Value, Formula, Atom, And, Or, Exists, Classically, IsEventAmong, AreNewVariables, AreOpen, HoldsNow}
use Rattle.obligations.proofs.Vocabulary.{tables_beyond, HasOpenColumns, of_each, triggers, IsTable, Relation, FitsScope, IsGuardAt, guards_now, AreMetBy, Now}
use Rattle.obligations.proofs.AskablePlanLemmas.{HoldFor, row_holds}

-- ---- events of some names

abbrev pub Among : List Event → List NameId → Type 0
Among events names = (event : Event) × Contains events event × Contains names event.name

name_decided : (a b : NameId) → Decides (nat_eq a.0 b.0) (a ≡ b)
name_decided a b = (
  λ e. ap (λ (n : ℕ). let name : NameId = record { 0 = n } in name) ((unsigned_Decides a.0 b.0).0 e),
  λ same. (unsigned_Decides a.0 b.0).1 (ap (λ (n : NameId). n.0) same),
)

name_or_not : (names : List NameId) (name : NameId) → Contains names name ⊎ (Contains names name → ⊥)
name_or_not names name = by _ (list_any-Decides (λ (a b : NameId). nat_eq a.0 b.0) name_decided names name)
  where
    by : (b : Bool) → Decides b (Contains names name) → Contains names name ⊎ (Contains names name → ⊥)
    by true decides = inl (decides.0 refl)
    by false decides = inr (λ there. false≢true (decides.1 there))

pub met_or_not : (names : List NameId) (events : List Event) → Among events names ⊎ (Among events names → ⊥)
met_or_not names [] = inr (λ m. none_in_nil m.0 m.1)
met_or_not names (e ∷ events) = ⊎_elim
    (λ is. inl (e, here e events, is))
    (λ other. ⊎_elim
    (λ m. inl (m.0, later m.0 e events m.1, m.2))
    (λ none. inr (λ m. ⊎_elim
    (λ same. other (subst (λ (x : Event). Contains names x.name) (sym same) m.2))
    (λ more. none (m.0, more, m.2))
    (first_or_later m.0 e events m.1)))
    (met_or_not names events))
    (name_or_not names e.name)

-- ---- what holds by tables

abbrev Met : List Event → List NameId → Type 0
Met events names = Classically (Among events names)

of_atom : (events : List Event) (name : NameId) (args : Option (List Value)) (names : List NameId) → Some (name ∷ []) ≡ Some names
    → IsEventAmong events name args → Met events names
of_atom events name (Some args) names is there none =
    let same : name ∷ [] ≡ names = cc in
    none (record { name = name; args = args }, there, subst (λ (l : List NameId). Contains l name) same (Contains-push [] name))
of_atom events name None names is there none = there

of_first : (events : List Event) (first second : Option (List NameId)) (names : List NameId) → option_or first second ≡ Some names
    → ((xs : List NameId) → first ≡ Some xs → Met events xs) → ((xs : List NameId) → second ≡ Some xs → Met events xs)
    → Met events names
of_first events (Some xs) second names is left right = left names is
of_first events None second names is left right = right names is

wider : (events : List Event) (xs names : List NameId) → ((x : NameId) → Contains xs x → Contains names x) → Met events xs
    → Met events names
wider events xs names inside met none = met (λ some. none (some.0, some.1, inside some.0.name some.2))

of_both : (events : List Event) (first second : Option (List NameId)) (names : List NameId) (P Q : Type 0)
    → of_each first second ≡ Some names → ((P → ⊥) → (Q → ⊥) → ⊥) → ((xs : List NameId) → first ≡ Some xs → P → Met events xs)
    → ((xs : List NameId) → second ≡ Some xs → Q → Met events xs) → Met events names
of_both events (Some xs) (Some ys) names P Q is either left right = λ none.
    let same : xs ++ ys ≡ names = cc in
    either (λ p. wider events xs names (λ x there. subst (λ (l : List NameId). Contains l x) same (Contains-append_left xs ys x there)) (left xs refl p) none)
    (λ q. wider events ys names (λ x there. subst (λ (l : List NameId). Contains l x) same (Contains-append_right xs ys x there)) (right ys refl q) none)
of_both events (Some xs) None names P Q is either left right = absurd (cc)
of_both events None second names P Q is either left right = absurd (cc)

triggered : (events : List Event) (tables : List Relation) (v : Valuation) (f : Formula) (names : List NameId)
    → triggers f ≡ Some names → HoldsNow events tables v f → Met events names
triggered events tables v (Atom place name terms) names is holds = of_atom events name (values_of_terms v terms) names is holds
triggered events tables v (And place g h) names is holds =
    of_first events (triggers g) (triggers h) names is (λ xs same. triggered events tables v g xs same holds.0)
    (λ xs same. triggered events (tables_beyond g tables) v h xs same holds.1)
triggered events tables v (Or place g h) names is holds =
    of_both events (triggers g) (triggers h) names (HoldsNow events tables v g) (HoldsNow events (tables_beyond g tables) v h) is holds
    (λ xs same s. triggered events tables v g xs same s) (λ xs same s. triggered events (tables_beyond g tables) v h xs same s)
triggered events tables v (Exists place xs g) names is holds =
    λ none. holds (λ some. triggered events tables (with_values xs some.0 v) g names is some.2 none)
triggered events tables v f names is holds = absurd (cc)

pub guard_met : (events : List Event) (tables : List Relation) (v : Valuation) (test : Formula) → HoldsNow events tables v test
    → AreMetBy events (triggers test)
guard_met events tables v test holds = by (triggers test) refl
  where
    by : (names : Option (List NameId)) → triggers test ≡ names → AreMetBy events names
    by None is = tt
    by (Some names) is = ⊎_elim (λ met. met) (λ none. absurd (triggered events tables v test names is holds none)) (met_or_not names events)

-- a row of a guard is one for which it holds
module _ (now : Now) (n : ℕ) (f : Formula) (scope xs : List VarId) (at : IsGuardAt (guards_now now) n f scope)
    (opening : AreOpen f scope xs) (new : AreNewVariables scope xs) (v : Valuation) (fit : FitsScope scope v) (t : Relation)
    (table : IsTable t) (columns : HasOpenColumns now.tables.now n t)
    (sound : HoldFor now n v t) where
  pub row_met : (row : List Value) → Contains t.rows row → AreMetBy now.ordered.now (triggers f)
  row_met row there =
      let holds = row_holds now n f scope xs at opening new v fit t table columns sound row there in
      guard_met now.ordered.now holds.0 (with_values xs row v) f holds.1
