-- With more events of a name what asks them only to be there holds still, and with fewer what asks them only to be away.
use Rattle.enf_formula.proofs.Vocabulary.{◌≡◌, ℕ, ◌+◌, ◌-◌, ◌<◌, Bool, true, false, true≢false, List, [], ◌∷◌, length, Option, None, Some, Contains, sym, subst, refl, step_at, IsIn, Valuation}
use Rattle.enf_formula.proofs.Vocabulary.{values_of_terms, with_values, NameId, Step, Value, Formula, True, False, Atom, Equal, Less, AtMost, Not, And, Or, Implies, Exists, Forall, Prev, Next, Once}
use Rattle.enf_formula.proofs.Vocabulary.{Historically, Since, Eventually, Always, Until, Sat, IsEventAmong, HoldsAnywhere, here, names_in_formula, Contains-append_left, Contains-append_right}
use Rattle.std.specs.Prelude.{not}
use Rattle.enf_formula.proofs.Dependence.{held_since, holds_until}
use Rattle.enf_formula.specs.machine.Polarity.{AsksOnly, HaveMoreOf, MoreEventsKeep}

module _ (name : NameId) (trace other : List Step) (more : HaveMoreOf name trace other) where
  -- the trace on which it holds, and that on which it holds still
  abbrev side : Bool → List Step
  side true = trace
  side false = other

  back : (there : Bool) → side (not (not there)) ≡ side there
  back true = refl
  back false = refl

  long : (there : Bool) → length (side there) ≡ length (side (not there))
  long true = more.long
  long false = sym more.long

  times : (there : Bool) (k : ℕ) → (step_at (side there) k).time ≡ (step_at (side (not there)) k).time
  times true k = more.times k
  times false k = sym (more.times k)

  times_back : (there : Bool) (k : ℕ) → (step_at (side (not there)) k).time ≡ (step_at (side there) k).time
  times_back there k = sym (times there k)

  among : (there : Bool) (i : ℕ) (n : NameId) (args : Option (List Value)) → (n ≡ name → there ≡ true)
      → IsEventAmong (step_at (side there) i).events n args → IsEventAmong (step_at (side (not there)) i).events n args
  among there i n None asks is = is
  among true i n (Some args) asks is = more.more i (record { name = n; args = args }) is
  among false i n (Some args) asks is = more.others i (record { name = n; args = args }) (λ same. true≢false (sym (asks same))) is

  turned : (there : Bool) (i : ℕ) (v : Valuation) (f : Formula) → (Sat (side (not there)) i v f → Sat (side (not (not there))) i v f)
      → Sat (side (not there)) i v f → Sat (side there) i v f
  turned there i v f kept holds = subst (λ (t : List Step). Sat t i v f) (back there) (kept holds)

  keeps : (there : Bool) (i : ℕ) (v : Valuation) (f : Formula) → AsksOnly there name f → Sat (side there) i v f → Sat (side (not there)) i v f
  keeps there i v (True place) asks s = tt
  keeps there i v (False place) asks s = s
  keeps there i v (Atom place n terms) asks s = among there i n (values_of_terms v terms) asks s
  keeps there i v (Equal place s t) asks h = h
  keeps there i v (Less place s t) asks h = h
  keeps there i v (AtMost place s t) asks h = h
  keeps there i v (Not place f) asks s = λ holds. s (turned there i v f (keeps (not there) i v f asks) holds)
  keeps there i v (And place f g) asks s = (keeps there i v f asks.0 s.0, keeps there i v g asks.1 s.1)
  keeps there i v (Or place f g) asks s =
      λ left right. s (λ holds. left (keeps there i v f asks.0 holds)) (λ holds. right (keeps there i v g asks.1 holds))
  keeps there i v (Implies place f g) asks s = λ holds. keeps there i v g asks.1 (s (turned there i v f (keeps (not there) i v f asks.0) holds))
  keeps there i v (Exists place xs f) asks s =
      λ none. s (λ some. none (some.0, some.1, keeps there i (with_values xs some.0 v) f asks some.2))
  keeps there i v (Forall place xs f) asks s = λ values fit. keeps there i (with_values xs values v) f asks (s values fit)
  keeps there i v (Prev place interval f) asks s =
      (s.0, subst (IsIn interval) (λ n. times there i n - times there (i - 1) n) s.1, keeps there (i - 1) v f asks s.2)
  keeps there i v (Next place interval f) asks s = (
    subst (λ n. i + 1 < n) (long there) s.0,
    subst (IsIn interval) (λ n. times there (i + 1) n - times there i n) s.1,
    keeps there (i + 1) v f asks s.2,
  )
  keeps there i v (Once place interval f) asks s =
      held_since (side there) (side (not there)) i interval HoldsAnywhere (λ j. Sat (side there) j v f) HoldsAnywhere (λ j. Sat (side (not there)) j v f)
      (λ k upto. times there k) (λ k upto h. h) (λ j upto h. keeps there j v f asks h) s
  keeps there i v (Historically place interval f) asks s =
      λ held. s (held_since (side (not there)) (side there) i interval HoldsAnywhere (λ j. Sat (side (not there)) j v f → ⊥) HoldsAnywhere
      (λ j. Sat (side there) j v f → ⊥) (λ k upto. times_back there k) (λ k upto h. h) (λ j upto fails holds. fails (keeps there j v f asks holds)) held)
  keeps there i v (Since place interval f g) asks s =
      held_since (side there) (side (not there)) i interval (λ k. Sat (side there) k v f) (λ j. Sat (side there) j v g) (λ k. Sat (side (not there)) k v f)
      (λ j. Sat (side (not there)) j v g) (λ k upto. times there k) (λ k upto h. keeps there k v f asks.0 h) (λ j upto h. keeps there j v g asks.1 h) s
  keeps there i v (Eventually place interval f) asks s =
      holds_until (side there) (side (not there)) i interval HoldsAnywhere (λ j. Sat (side there) j v f) HoldsAnywhere (λ j. Sat (side (not there)) j v f)
      (long there) (times there) (λ k h. h) (λ j h. keeps there j v f asks h) s
  keeps there i v (Always place interval f) asks s =
      λ held. s (holds_until (side (not there)) (side there) i interval HoldsAnywhere (λ j. Sat (side (not there)) j v f → ⊥) HoldsAnywhere
      (λ j. Sat (side there) j v f → ⊥) (sym (long there)) (times_back there) (λ k h. h) (λ j fails holds. fails (keeps there j v f asks holds)) held)
  keeps there i v (Until place interval f g) asks s =
      holds_until (side there) (side (not there)) i interval (λ k. Sat (side there) k v f) (λ j. Sat (side there) j v g) (λ k. Sat (side (not there)) k v f)
      (λ j. Sat (side (not there)) j v g) (long there) (times there) (λ k h. keeps there k v f asks.0 h) (λ j h. keeps there j v g asks.1 h) s

pub more_events_keep : MoreEventsKeep
more_events_keep = record {
  there = λ name trace other i v f more asks holds. keeps name trace other more true i v f asks holds;
  away = λ name trace other i v f more asks holds. keeps name trace other more false i v f asks holds;
}

abbrev Misses : NameId → Formula → Type 0
Misses name f = Contains (names_in_formula f) name → ⊥

on_left : (name : NameId) (f g : Formula) → Misses name (And 0 f g) → Misses name f
on_left name f g ignores there = ignores (Contains-append_left (names_in_formula f) (names_in_formula g) name there)

on_right : (name : NameId) (f g : Formula) → Misses name (And 0 f g) → Misses name g
on_right name f g ignores there = ignores (Contains-append_right (names_in_formula f) (names_in_formula g) name there)

-- what does not look for the name asks its events neither to be there nor to be away
pub ignored_asks : (name : NameId) (there : Bool) (f : Formula) → (Contains (names_in_formula f) name → ⊥) → AsksOnly there name f
ignored_asks name there (True place) ignores = tt
ignored_asks name there (False place) ignores = tt
ignored_asks name there (Atom place other terms) ignores = λ is. absurd (ignores (subst (Contains (other ∷ [])) is (here other [])))
ignored_asks name there (Equal place s t) ignores = tt
ignored_asks name there (Less place s t) ignores = tt
ignored_asks name there (AtMost place s t) ignores = tt
ignored_asks name there (Not place f) ignores = ignored_asks name (not there) f ignores
ignored_asks name there (And place f g) ignores = (ignored_asks name there f (on_left name f g ignores), ignored_asks name there g (on_right name f g ignores))
ignored_asks name there (Or place f g) ignores = (ignored_asks name there f (on_left name f g ignores), ignored_asks name there g (on_right name f g ignores))
ignored_asks name there (Implies place f g) ignores =
    (ignored_asks name (not there) f (on_left name f g ignores), ignored_asks name there g (on_right name f g ignores))
ignored_asks name there (Exists place xs f) ignores = ignored_asks name there f ignores
ignored_asks name there (Forall place xs f) ignores = ignored_asks name there f ignores
ignored_asks name there (Prev place interval f) ignores = ignored_asks name there f ignores
ignored_asks name there (Next place interval f) ignores = ignored_asks name there f ignores
ignored_asks name there (Once place interval f) ignores = ignored_asks name there f ignores
ignored_asks name there (Historically place interval f) ignores = ignored_asks name there f ignores
ignored_asks name there (Since place interval f g) ignores = (ignored_asks name there f (on_left name f g ignores), ignored_asks name there g (on_right name f g ignores))
ignored_asks name there (Eventually place interval f) ignores = ignored_asks name there f ignores
ignored_asks name there (Always place interval f) ignores = ignored_asks name there f ignores
ignored_asks name there (Until place interval f g) ignores = (ignored_asks name there f (on_left name f g ignores), ignored_asks name there g (on_right name f g ignores))
