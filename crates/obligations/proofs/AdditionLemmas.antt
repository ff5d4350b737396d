-- What is put last by the parts of a plan is what its whole puts last.
use Rattle.obligations.proofs.Vocabulary.{◌≡◌, ℕ, zero, suc, ◌+◌, ◌<◌, Bool, true, false, List, [], ◌∷◌, ◌++◌, length, take, Contains, Option, refl, sym, ap, subst, arith, inl, inr, ◌∙◌, append_assoc}
use Rattle.obligations.proofs.Vocabulary.{get_or, true≢false, IsFalse, option_to_list, append-nil, here, later, Valuation, values_of_terms, with_values, BindsColumns, Event, NameId, Step, Term, VarId}
use Rattle.obligations.proofs.Vocabulary.{Value, Formula, AreNewVariables, AreOpen, FreeWithin, HasOpenColumns, IsEvaluated, Plan, CausePlan, SuppressPlan, Either, TestOr, UntilPlan, filled_from_row}
use Rattle.obligations.proofs.Vocabulary.{IsTable, Relation, AddsList, TellsNothing, IsNowOf, CanAskPlan, CanAskIn, IsGuardAt, FitsScope, guards_now, LiteralUnless, Missing, HasSome, MissesEither}
use Rattle.obligations.proofs.Vocabulary.{OfEvent, cause_literal, suppress_literal, Gathers, Literal, Now}
use Rattle.std.specs.Prelude.{IsTrue}
use Rattle.obligations.proofs.AskablePlanLemmas.{filled_is, row_fits, same_columns, test_is, under_row}

module _ {X : Type 0} (now : Now) where
  -- nothing is put last
  pub adds_nothing : (P : List Step → List X → Type 0) (out : List X)
      → ((trace : List Step) → IsNowOf now trace → P trace []) → AddsList now P out out
  adds_nothing P out are = record { more = []; grown = sym (append-nil out); are = are }

  pub adds_these : (P : List Step → List X → Type 0) (before after more : List X) → after ≡ before ++ more
      → ((trace : List Step) → IsNowOf now trace → P trace more) → AddsList now P before after
  adds_these P before after more grown are = record { more = more; grown = grown; are = are }

  -- what has one property has another
  pub adds_as : (P Q : List Step → List X → Type 0) (before after : List X)
      → ((trace : List Step) → IsNowOf now trace → (xs : List X) → P trace xs → Q trace xs)
      → AddsList now P before after → AddsList now Q before after
  adds_as P Q before after turn adds =
      record { more = adds.more; grown = adds.grown; are = λ trace is. turn trace is adds.more (adds.are trace is) }

  -- one after another
  pub adds_both : (P Q R : List Step → List X → Type 0) (before between after : List X)
      → ((trace : List Step) (xs ys : List X) → P trace xs → Q trace ys → R trace (xs ++ ys))
      → AddsList now P before between → AddsList now Q between after → AddsList now R before after
  adds_both P Q R before between after join first next = record {
    more = first.more ++ next.more;
    grown = next.grown ∙ (ap (λ l. l ++ next.more) first.grown ∙ append_assoc before first.more next.more);
    are = λ trace is. join trace first.more next.more (first.are trace is) (next.are trace is);
  }

-- ---- what is gathered

gathers_next : {X Y : Type 0} (P : X → List Y → Type 0) (ps : List X) (k : ℕ) (a : X) (xs ys : List Y)
    → k < length ps → a ≡ get_or ps k a → Gathers P (take k ps) xs → P a ys → Gathers P (take (suc k) ps) (xs ++ ys)
gathers_next P [] k a xs ys within at first next = absurd (omega (arith, within))
gathers_next P (b ∷ ps) zero a xs ys within at first next =
    (ys, [], subst (λ c. P c ys) at next, refl, ap (λ l. l ++ ys) first ∙ sym (append-nil ys))
gathers_next P (b ∷ ps) (suc k) a xs ys within at (one, rest, is, others, are) next =
    (one, rest ++ ys, is, gathers_next P ps k a rest ys (omega (arith, within)) at others next, ap (λ l. l ++ ys) are ∙ append_assoc one rest ys)

pub gathers_one_more : {X Y : Type 0} (P : X → List Y → Type 0) (ps : List X) (k : ℕ) (a : X) (xs ys : List Y)
    → k < length ps → a ≡ get_or ps k a → Gathers P (take k ps) xs → P a ys → Gathers P (take (k + 1) ps) (xs ++ ys)
gathers_one_more P ps k a xs ys within at first next =
    subst (λ n. Gathers P (take n ps) (xs ++ ys)) {x = suc k} {y = k + 1} (omega arith) (gathers_next P ps k a xs ys within at first next)

-- where each item gives what it gives by another property
pub gathers_as : {X Y : Type 0} (P Q : X → List Y → Type 0) (ps : List X) (xs : List Y)
    → ((a : X) → Contains ps a → (ys : List Y) → P a ys → Q a ys) → Gathers P ps xs → Gathers Q ps xs
gathers_as P Q [] xs as_well gathered = gathered
gathers_as P Q (a ∷ ps) xs as_well (one, rest, is, others, are) =
    (one, rest, as_well a (here a ps) one is, gathers_as P Q ps rest (λ b there. as_well b (later b a ps there)) others, are)

-- where each item gives something
pub gathers_exist : {X Y : Type 0} (P : X → List Y → Type 0) (ps : List X)
    → ((a : X) → Contains ps a → (ys : List Y) × P a ys) → (xs : List Y) × Gathers P ps xs
gathers_exist P [] each = ([], refl)
gathers_exist P (a ∷ ps) each =
    let one = each a (here a ps) in
    let rest = gathers_exist P ps (λ b there. each b (later b a ps there)) in
    (one.0 ++ rest.0, (one.0, rest.0, one.1, rest.1, refl))

-- ---- sides

pub right_of_either : (left right : List Literal → Type 0) (literals : List Literal) → HasSome left → right literals
    → MissesEither left right literals
right_of_either left right [] some missing = inr (inl (missing, refl))
right_of_either left right (l ∷ ls) some missing = inr (inr (some, (l, ls, missing), missing))

module _ (now : Now) (v : Valuation) where
  abbrev Listed : Plan → List Literal → List Literal → Type 0
  Listed plan before after = AddsList now (λ trace. Missing trace plan v) before after

  pub either_nothing : (node : ℕ) (left right : Plan) (out : List Literal) → TellsNothing now left v true
      → Listed (Either node left right) out out
  either_nothing node left right out told =
      adds_nothing now (λ trace. Missing trace (Either node left right) v) out (λ trace is. inl (told trace is, refl))

  pub either_right : (node : ℕ) (left right : Plan) (before after : List Literal) → TellsNothing now left v false
      → Listed right before after → Listed (Either node left right) before after
  either_right node left right before after told adds =
      adds_as now (λ trace. Missing trace right v) (λ trace. Missing trace (Either node left right) v) before after
      (λ trace is xs missing. right_of_either (Missing trace left v) (Missing trace right v) xs (told trace is) missing) adds

  pub until_nothing : (node place low high : ℕ) (left right : Plan) (out : List Literal) → low ≡ 0
      → TellsNothing now right v true → Listed (UntilPlan node place low high left right) out out
  until_nothing node place zero high left right out is_zero told =
      adds_nothing now (λ trace. Missing trace (UntilPlan node place 0 high left right) v) out (λ trace is. inl (told trace is, refl))
  until_nothing node place (suc low) high left right out is_zero told = absurd (omega (arith, is_zero))

  pub until_left : (node place low high : ℕ) (left right : Plan) (before after : List Literal)
      → (low ≡ 0 → TellsNothing now right v false) → Listed left before after
      → Listed (UntilPlan node place low high left right) before after
  until_left node place zero high left right before after told adds =
      adds_as now (λ trace. Missing trace left v) (λ trace. Missing trace (UntilPlan node place 0 high left right) v) before after
      (λ trace is xs missing. inr (told refl trace is, missing)) adds
  until_left node place (suc low) high left right before after told adds =
      adds_as now (λ trace. Missing trace left v) (λ trace. Missing trace (UntilPlan node place (suc low) high left right) v) before after
      (λ trace is xs missing. missing) adds

  module _ (n : ℕ) (f : Formula) (scope : List VarId) (at : IsGuardAt (guards_now now) n f scope) (binds : BindsColumns v scope) where
    pub test_nothing : (node : ℕ) (body : Plan) (out : List Literal) → FreeWithin f (Contains scope) → (holds : Bool)
        → IsEvaluated now.tables.now n now.ordered.now v holds → IsTrue holds → Listed (TestOr node n f body) out out
    test_nothing node body out free holds told is_true =
        adds_nothing now (λ trace. Missing trace (TestOr node n f body) v) out
        (λ trace is. inl ((test_is now trace n f scope at free is v binds holds told).0 is_true, refl))

    pub test_body : (node : ℕ) (body : Plan) (before after : List Literal) → FreeWithin f (Contains scope) → (holds : Bool)
        → IsEvaluated now.tables.now n now.ordered.now v holds → IsFalse holds → Listed body before after
        → Listed (TestOr node n f body) before after
    test_body node body before after free holds told is_false adds =
        adds_as now (λ trace. Missing trace body v) (λ trace. Missing trace (TestOr node n f body) v) before after
        (λ trace is xs missing. inr (
          (λ satisfied. true≢false (sym ((test_is now trace n f scope at free is v binds holds told).1 satisfied) ∙ is_false)),
          missing,
        )) adds

  pub cause_listed : (node place : ℕ) (name : NameId) (terms : List Term) (found : Option Literal) (before after : List Literal)
      → OfEvent name (values_of_terms v terms) (λ e. LiteralUnless (Contains now.events.now e) (cause_literal e node) (option_to_list found))
      → after ≡ before ++ option_to_list found → Listed (CausePlan node place name terms) before after
  cause_listed node place name terms found before after missing grown =
      adds_these now (λ trace. Missing trace (CausePlan node place name terms) v) before after (option_to_list found) grown
      (λ trace is. subst (λ (events : List Event). OfEvent name (values_of_terms v terms) (λ e. LiteralUnless (Contains events e) (cause_literal e node) (option_to_list found)))
      (sym is.events) missing)

  pub suppress_listed : (node place : ℕ) (name : NameId) (terms : List Term) (found : Option Literal) (before after : List Literal)
      → OfEvent name (values_of_terms v terms) (λ e. LiteralUnless (Contains now.events.now e → ⊥) (suppress_literal e node) (option_to_list found))
      → after ≡ before ++ option_to_list found → Listed (SuppressPlan node place name terms) before after
  suppress_listed node place name terms found before after missing grown =
      adds_these now (λ trace. Missing trace (SuppressPlan node place name terms) v) before after (option_to_list found) grown
      (λ trace is. subst (λ (events : List Event). OfEvent name (values_of_terms v terms)
      (λ e. LiteralUnless (Contains events e → ⊥) (suppress_literal e node) (option_to_list found))) (sym is.events) missing)

-- under each row
module _ (now : Now) (n : ℕ) (f : Formula) (scope xs : List VarId) (at : IsGuardAt (guards_now now) n f scope)
    (opening : AreOpen f scope xs) (new : AreNewVariables scope xs) (v : Valuation) (fit : FitsScope scope v) (t : Relation)
    (table : IsTable t) (columns : HasOpenColumns now.tables.now n t) where
  -- the values of a row of the table are those of the variables
  pub row_is : (row : List Value) → filled_from_row v t.columns row ≡ with_values xs row v
  row_is row =
      ap (λ columns. filled_from_row v columns row) (same_columns now n f scope xs at opening new v fit t table columns)
      ∙ filled_is scope xs new v fit row

  pub body_can : (guards : List (Formula × List VarId)) (body : Plan) → CanAskIn guards body (scope ++ xs)
      → (row : List Value) → Contains t.rows row → CanAskPlan guards body (filled_from_row v t.columns row)
  body_can guards body can row there = record {
    scope = scope ++ xs;
    can = can;
    fits = subst (FitsScope (scope ++ xs)) (sym (row_is row))
        (under_row scope xs new v fit row (row_fits now n f scope xs at opening new v fit t table columns row there));
  }
