-- The first literal that the parts of a plan miss is the first that its whole misses.
use Rattle.obligations.proofs.Vocabulary.{◌≡◌, ℕ, zero, suc, ◌<◌, Bool, true, false, List, [], ◌∷◌, ◌++◌, length, Contains, Option, None, Some, refl, sym, subst, arith, inl, inr, ◌∙◌, true≢false}
use Rattle.obligations.proofs.Vocabulary.{take, get_or, is_none, option_to_list, ◌↔◌, IsFalse, IsSome, not, Valuation, value_at, values_of_terms, BindsColumns, Event, NameId, Step, Term, Var, VarId}
use Rattle.obligations.proofs.Vocabulary.{Formula, IsEventAmong, FreeWithin, IsEvaluated, Plan, CausePlan, SuppressPlan, Both, Either, TestOr, UntilPlan, TellsNothing, IsNowOf, CanAskPlan, IsGuardAt}
use Rattle.obligations.proofs.Vocabulary.{guards_now, MissingExists, LiteralUnless, Missing, OfEvent, cause_literal, suppress_literal, Gathers, FirstMissing, FirstOf, Literal, Now, later}
use Rattle.std.specs.Prelude.{IsTrue}
use Rattle.obligations.proofs.AdditionLemmas.{gathers_exist, right_of_either}
use Rattle.obligations.proofs.AskablePlanLemmas.{test_is}
use Rattle.obligations.proofs.SoundnessLemmas.{nil_left, nil_right}
use Rattle.obligations.proofs.LeafLemmas.{bound_values, nothing_suppressed}

pub first_as : (P Q : List Literal → Type 0) → ((ls : List Literal) → P ls → Q ls) → (found : Option Literal) → FirstOf P found
    → FirstOf Q found
first_as P Q turn None is = turn [] is
first_as P Q turn (Some l) (rest, is) = (rest, turn (l ∷ rest) is)

first_listed : (P : List Literal → Type 0) (found : Option Literal) → P (option_to_list found) → FirstOf P found
first_listed P None is = is
first_listed P (Some l) is = ([], is)

module _ (now : Now) (v : Valuation) where
  abbrev pub First : Plan → Option Literal → Type 0
  First plan found = (trace : List Step) → IsNowOf now trace → FirstMissing trace plan v found

  -- whether there is none
  pub tells : (plan : Plan) (found : Option Literal) → First plan found → TellsNothing now plan v (is_none found)
  tells plan None first trace is = first trace is
  tells plan (Some l) first trace is = let (rest, missing) = first trace is in (l, rest, missing)

  pub cause_first : (node place : ℕ) (name : NameId) (terms : List Term) (found : Option Literal)
      → OfEvent name (values_of_terms v terms) (λ e. LiteralUnless (Contains now.events.now e) (cause_literal e node) (option_to_list found))
      → First (CausePlan node place name terms) found
  cause_first node place name terms found missing trace is =
      first_listed (Missing trace (CausePlan node place name terms) v) found
      (subst (λ (events : List Event). OfEvent name (values_of_terms v terms) (λ e. LiteralUnless (Contains events e) (cause_literal e node) (option_to_list found))) (sym is.events) missing)

  pub suppress_first : (node place : ℕ) (name : NameId) (terms : List Term) (found : Option Literal)
      → OfEvent name (values_of_terms v terms) (λ e. LiteralUnless (Contains now.events.now e → ⊥) (suppress_literal e node) (option_to_list found))
      → First (SuppressPlan node place name terms) found
  suppress_first node place name terms found missing trace is =
      first_listed (Missing trace (SuppressPlan node place name terms) v) found
      (subst (λ (events : List Event). OfEvent name (values_of_terms v terms) (λ e. LiteralUnless (Contains events e → ⊥) (suppress_literal e node) (option_to_list found))) (sym is.events) missing)

  -- a leaf lacks nothing where what it wants is so
  pub cause_tells : (node place : ℕ) (name : NameId) (terms : List Term) → ((x : VarId) → Contains terms (Var x) → IsSome (value_at v x))
      → (there : Bool) → IsTrue there ↔ IsEventAmong now.events.now name (values_of_terms v terms)
      → TellsNothing now (CausePlan node place name terms) v there
  cause_tells node place name terms bound true is =
      let has = bound_values v terms bound in
      tells (CausePlan node place name terms) None (cause_first node place name terms None
      (subst (λ o. OfEvent name o (λ e. LiteralUnless (Contains now.events.now e) (cause_literal e node) [])) (sym has.1)
      (inl (subst (IsEventAmong now.events.now name) has.1 (is.0 refl), refl))))
  cause_tells node place name terms bound false is =
      let has = bound_values v terms bound in
      let literal = cause_literal (record { name = name; args = has.0 }) node in
      tells (CausePlan node place name terms) (Some literal) (cause_first node place name terms (Some literal)
      (subst (λ o. OfEvent name o (λ e. LiteralUnless (Contains now.events.now e) (cause_literal e node) (literal ∷ []))) (sym has.1)
      (inr ((λ among. true≢false (sym (is.1 (subst (IsEventAmong now.events.now name) (sym has.1) among)))), refl))))

  pub suppress_tells : (node place : ℕ) (name : NameId) (terms : List Term) → ((x : VarId) → Contains terms (Var x) → IsSome (value_at v x))
      → (there : Bool) → IsTrue there ↔ IsEventAmong now.events.now name (values_of_terms v terms)
      → TellsNothing now (SuppressPlan node place name terms) v (not there)
  suppress_tells node place name terms bound false is =
      tells (SuppressPlan node place name terms) None (suppress_first node place name terms None
      (nothing_suppressed v terms bound now.events.now name node (λ among. true≢false (sym (is.1 among)))))
  suppress_tells node place name terms bound true is =
      let has = bound_values v terms bound in
      let literal = suppress_literal (record { name = name; args = has.0 }) node in
      tells (SuppressPlan node place name terms) (Some literal) (suppress_first node place name terms (Some literal)
      (subst (λ o. OfEvent name o (λ e. LiteralUnless (Contains now.events.now e → ⊥) (suppress_literal e node) (literal ∷ []))) (sym has.1)
      (inr ((λ absent. absent (subst (IsEventAmong now.events.now name) has.1 (is.0 refl))), refl))))

  pub left_first : MissingExists → (guards : List (Formula × List VarId)) (node : ℕ) (left right : Plan) → CanAskPlan guards right v
      → (l : Literal) → First left (Some l) → First (Both node left right) (Some l)
  left_first exist guards node left right can l first trace is =
      let on_left = first trace is in
      let on_right = exist guards trace right v can in
      (on_left.0 ++ on_right.0, (l ∷ on_left.0, on_right.0, on_left.1, on_right.1, refl))

  pub right_first : (node : ℕ) (left right : Plan) (found : Option Literal) → First left None → First right found
      → First (Both node left right) found
  right_first node left right found nothing first trace is =
      first_as (Missing trace right v) (Missing trace (Both node left right) v) (λ ls missing. ([], ls, nothing trace is, missing, refl)) found (first trace is)

  pub either_first : (node : ℕ) (left right : Plan) (found : Option Literal) → TellsNothing now left v false → First right found
      → First (Either node left right) found
  either_first node left right found told first trace is =
      first_as (Missing trace right v) (Missing trace (Either node left right) v)
      (λ ls missing. right_of_either (Missing trace left v) (Missing trace right v) ls (told trace is) missing) found (first trace is)

  pub until_first : (node place low high : ℕ) (left right : Plan) (found : Option Literal) → (low ≡ 0 → TellsNothing now right v false)
      → First left found → First (UntilPlan node place low high left right) found
  until_first node place zero high left right found told first trace is =
      first_as (Missing trace left v) (Missing trace (UntilPlan node place 0 high left right) v) (λ ls missing. inr (told refl trace is, missing)) found (first trace is)
  until_first node place (suc low) high left right found told first trace is = first trace is

  module _ (n : ℕ) (f : Formula) (scope : List VarId) (at : IsGuardAt (guards_now now) n f scope) (binds : BindsColumns v scope) where
    pub test_none : (node : ℕ) (body : Plan) → FreeWithin f (Contains scope) → (holds : Bool)
        → IsEvaluated now.tables.now n now.ordered.now v holds → IsTrue holds → First (TestOr node n f body) None
    test_none node body free holds told is_true trace is = inl ((test_is now trace n f scope at free is v binds holds told).0 is_true, refl)

    pub test_first : (node : ℕ) (body : Plan) (found : Option Literal) → FreeWithin f (Contains scope) → (holds : Bool)
        → IsEvaluated now.tables.now n now.ordered.now v holds → IsFalse holds → First body found → First (TestOr node n f body) found
    test_first node body found free holds told is_false first trace is =
        first_as (Missing trace body v) (Missing trace (TestOr node n f body) v) (λ ls missing. inr (
          (λ satisfied. true≢false (sym ((test_is now trace n f scope at free is v binds holds told).1 satisfied) ∙ is_false)),
          missing,
        )) found (first trace is)

-- ---- under rows

pub gathers_first : {X : Type 0} (P : X → List Literal → Type 0) (ps : List X) (k : ℕ) (a : X) (l : Literal) → k < length ps
    → a ≡ get_or ps k a → ((b : X) → Contains ps b → (ls : List Literal) × P b ls) → Gathers P (take k ps) []
    → FirstOf (P a) (Some l) → FirstOf (Gathers P ps) (Some l)
gathers_first P [] k a l within at each before first = absurd (omega (arith, within))
gathers_first P (b ∷ ps) zero a l within at each before first =
    let others = gathers_exist P ps (λ c there. each c (later c b ps there)) in
    (first.0 ++ others.0, (l ∷ first.0, others.0, subst (λ c. P c (l ∷ first.0)) at first.1, others.1, refl))
gathers_first P (b ∷ ps) (suc k) a l within at each (one, rest, is, others, are) first =
    let none = nil_left one rest are in
    let after = gathers_first P ps k a l (omega (arith, within)) at (λ c there. each c (later c b ps there)) (subst (Gathers P (take k ps)) (nil_right one rest are) others) first in
    (after.0, ([], l ∷ after.0, subst (P b) none is, after.1, refl))
