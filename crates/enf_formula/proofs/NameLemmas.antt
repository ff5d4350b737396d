-- Satisfaction depends on the times of the steps and on the events of the formula's names alone.
use Rattle.enf_formula.proofs.Vocabulary.{◌≡◌, ℕ, ◌+◌, ◌-◌, ◌<◌, List, [], Option, None, Some, Contains, sym, subst, refl, Contains-append_left, Contains-append_right, step_at, IsIn, Valuation}
use Rattle.enf_formula.proofs.Vocabulary.{values_of_terms, with_values, Event, NameId, Step, Value, here, Formula, True, False, Atom, Equal, Less, AtMost, Not, And, Or, Implies, Exists, Forall, Prev}
use Rattle.enf_formula.proofs.Vocabulary.{Next, Once, Historically, Since, Eventually, Always, Until, Sat, IsEventAmong, HoldsAnywhere, NamesDecide, HaveSameNamedEvents, names_in_formula}
use Rattle.enf_formula.proofs.Dependence.{held_since, holds_until}

turned : (names : List NameId) (trace other : List Step) → HaveSameNamedEvents names trace other → HaveSameNamedEvents names other trace
turned names trace other same = record {
  long = sym same.long;
  times = λ i. sym (same.times i);
  events = λ i event named. ((same.events i event named).1, (same.events i event named).0);
}

still_among : (events others : List Event) (name : NameId) (args : Option (List Value)) → ((event : Event) → event.name ≡ name → Contains events event → Contains others event)
    → IsEventAmong events name args → IsEventAmong others name args
still_among events others name None same among = among
still_among events others name (Some args) same among = same (record { name = name; args = args }) refl among

module _ (names : List NameId) where
  abbrev Within : Formula → Type 0
  Within f = (name : NameId) → Contains (names_in_formula f) name → Contains names name

  first : (f g : Formula) → Within (And 0 f g) → Within f
  first f g within name there = within name (Contains-append_left (names_in_formula f) (names_in_formula g) name there)

  second : (f g : Formula) → Within (And 0 f g) → Within g
  second f g within name there = within name (Contains-append_right (names_in_formula f) (names_in_formula g) name there)

  by_names : (trace other : List Step) → HaveSameNamedEvents names trace other → (i : ℕ) (v : Valuation) (f : Formula) → Within f → Sat trace i v f → Sat other i v f
  by_names trace other same i v (True place) within s = tt
  by_names trace other same i v (False place) within s = s
  by_names trace other same i v (Atom place name terms) within s =
      still_among (step_at trace i).events (step_at other i).events name (values_of_terms v terms)
      (λ event is there. (same.events i event (subst (Contains names) (sym is) (within name (here name [])))).0 there) s
  by_names trace other same i v (Equal place s t) within h = h
  by_names trace other same i v (Less place s t) within h = h
  by_names trace other same i v (AtMost place s t) within h = h
  by_names trace other same i v (Not place f) within s = λ holds. s (by_names other trace (turned names trace other same) i v f within holds)
  by_names trace other same i v (And place f g) within s = (by_names trace other same i v f (first f g within) s.0, by_names trace other same i v g (second f g within) s.1)
  by_names trace other same i v (Or place f g) within s =
      λ left right. s (λ holds. left (by_names trace other same i v f (first f g within) holds)) (λ holds. right (by_names trace other same i v g (second f g within) holds))
  by_names trace other same i v (Implies place f g) within s =
      λ holds. by_names trace other same i v g (second f g within) (s (by_names other trace (turned names trace other same) i v f (first f g within) holds))
  by_names trace other same i v (Exists place xs f) within s =
      λ none. s (λ some. none (some.0, some.1, by_names trace other same i (with_values xs some.0 v) f within some.2))
  by_names trace other same i v (Forall place xs f) within s = λ values long. by_names trace other same i (with_values xs values v) f within (s values long)
  by_names trace other same i v (Prev place interval f) within s =
      (s.0, subst (IsIn interval) (λ n. same.times i n - same.times (i - 1) n) s.1, by_names trace other same (i - 1) v f within s.2)
  by_names trace other same i v (Next place interval f) within s =
      (subst (λ n. i + 1 < n) same.long s.0, subst (IsIn interval) (λ n. same.times (i + 1) n - same.times i n) s.1, by_names trace other same (i + 1) v f within s.2)
  by_names trace other same i v (Once place interval f) within s =
      held_since trace other i interval HoldsAnywhere (λ j. Sat trace j v f) HoldsAnywhere (λ j. Sat other j v f) (λ k upto. same.times k) (λ k upto h. h)
      (λ j upto h. by_names trace other same j v f within h) s
  by_names trace other same i v (Historically place interval f) within s =
      λ held. s (held_since other trace i interval HoldsAnywhere (λ j. Sat other j v f → ⊥) HoldsAnywhere (λ j. Sat trace j v f → ⊥) (λ k upto. sym (same.times k))
      (λ k upto h. h) (λ j upto fails holds. fails (by_names trace other same j v f within holds)) held)
  by_names trace other same i v (Since place interval f g) within s =
      held_since trace other i interval (λ k. Sat trace k v f) (λ j. Sat trace j v g) (λ k. Sat other k v f) (λ j. Sat other j v g) (λ k upto. same.times k)
      (λ k upto h. by_names trace other same k v f (first f g within) h) (λ j upto h. by_names trace other same j v g (second f g within) h) s
  by_names trace other same i v (Eventually place interval f) within s =
      holds_until trace other i interval HoldsAnywhere (λ j. Sat trace j v f) HoldsAnywhere (λ j. Sat other j v f) same.long same.times (λ k h. h) (λ j h. by_names trace other same j v f within h) s
  by_names trace other same i v (Always place interval f) within s =
      λ held. s (holds_until other trace i interval HoldsAnywhere (λ j. Sat other j v f → ⊥) HoldsAnywhere (λ j. Sat trace j v f → ⊥) (sym same.long) (λ k. sym (same.times k))
      (λ k h. h) (λ j fails holds. fails (by_names trace other same j v f within holds)) held)
  by_names trace other same i v (Until place interval f g) within s =
      holds_until trace other i interval (λ k. Sat trace k v f) (λ j. Sat trace j v g) (λ k. Sat other k v f) (λ j. Sat other j v g) same.long same.times
      (λ k h. by_names trace other same k v f (first f g within) h) (λ j h. by_names trace other same j v g (second f g within) h) s

pub names_decide : NamesDecide
names_decide trace other i v f same =
    (by_names (names_in_formula f) trace other same i v f (λ name there. there), by_names (names_in_formula f) other trace (turned (names_in_formula f) trace other same) i v f (λ name there. there))
