-- Each literal that is missed is wanted: an event to be caused is absent, and one to be suppressed is not.
use Rattle.choice_step.proofs.Vocabulary.{◌≡◌, ℕ, zero, suc, Bool, true, false, List, [], ◌∷◌, Option, None, Some, sym, subst, ⊎_elim, AllByRecursion, AllByRecursion-append, Valuation}
use Rattle.choice_step.proofs.Vocabulary.{values_of_terms, with_values, Event, NameId, Step, Value, Plan, CausePlan, SuppressPlan, Both, Either, TestOr, Guarded, EventuallyPlan, AlwaysPlan, UntilPlan}
use Rattle.choice_step.proofs.Vocabulary.{NextPlan, IfElse, IsAbsent, IsPresent, LiteralUnless, MissesAlways, MissesEither, MissesUntil, Missing, OfEvent, cause_literal, suppress_literal, Gathers}
use Rattle.choice_step.proofs.Vocabulary.{AtNode, MissesAt, MissingOf, node_of, Instance, Literal, LiteralKind}
use Rattle.obligations.specs.declared.literals.LiteralKind.TheVariants as kind

module _ (trace : List Step) where
  abbrev pub WantedAs : LiteralKind → Event → Type 0
  WantedAs kind.Cause event = IsAbsent trace event
  WantedAs kind.Suppress event = IsAbsent trace event → ⊥

  abbrev pub IsWanted : Literal → Type 0
  IsWanted literal = WantedAs literal.kind literal.event

  abbrev AreWanted : List Literal → Type 0
  AreWanted literals = AllByRecursion IsWanted literals

  none_are : (literals : List Literal) → literals ≡ [] → AreWanted literals
  none_are literals none = subst AreWanted (sym none) tt

  leaf_is : (P : Type 0) (literal : Literal) (literals : List Literal) → ((P → ⊥) → IsWanted literal)
      → LiteralUnless P literal literals → AreWanted literals
  leaf_is P literal literals wanted misses =
      ⊎_elim
      (λ nothing. none_are literals nothing.1)
      (λ some. subst AreWanted (sym some.1) (wanted some.0, tt))
      misses

  of_event_is : (name : NameId) (args : Option (List Value)) (P : Event → Type 0) (literals : List Literal)
      → ((event : Event) → P event → AreWanted literals) → OfEvent name args P → AreWanted literals
  of_event_is name None P literals each misses = absurd misses
  of_event_is name (Some args) P literals each misses = each (record { name = name; args = args }) misses

  gathered_are : {X : Type 0} (P : X → List Literal → Type 0)
      → ((x : X) (literals : List Literal) → P x literals → AreWanted literals)
      → (xs : List X) (literals : List Literal) → Gathers P xs literals → AreWanted literals
  gathered_are P each [] literals none = none_are literals none
  gathered_are P each (x ∷ xs) literals (first, rest, of_first, of_rest, is) =
      subst AreWanted (sym is) (AllByRecursion-append IsWanted first rest (each x first of_first) (gathered_are P each xs rest of_rest))

  either_are : (P Q : List Literal → Type 0) (literals : List Literal) → (Q literals → AreWanted literals)
      → MissesEither P Q literals → AreWanted literals
  either_are P Q literals right misses =
      ⊎_elim
      (λ nothing. none_are literals nothing.1)
      (λ others. ⊎_elim (λ nothing. none_are literals nothing.1) (λ some. right some.2) others)
      misses

  until_are : (low : ℕ) (P Q : List Literal → Type 0) (literals : List Literal) → (P literals → AreWanted literals)
      → MissesUntil low P Q literals → AreWanted literals
  until_are zero P Q literals left misses =
      ⊎_elim (λ nothing. none_are literals nothing.1) (λ some. left some.1) misses
  until_are (suc low) P Q literals left misses = left misses

  always_are : (low : ℕ) (P : List Literal → Type 0) (literals : List Literal) → (P literals → AreWanted literals)
      → MissesAlways low P literals → AreWanted literals
  always_are zero P literals body misses = body misses
  always_are (suc low) P literals body none = none_are literals none

  pub missing_are_wanted : (plan : Plan) (v : Valuation) (literals : List Literal) → Missing trace plan v literals
      → AllByRecursion IsWanted literals
  missing_are_wanted (CausePlan node place name terms) v literals misses =
      of_event_is name (values_of_terms v terms) (λ e. LiteralUnless (IsPresent trace e) (cause_literal e node) literals) literals
      (λ e of_event. leaf_is (IsPresent trace e) (cause_literal e node) literals (λ absent. absent) of_event) misses
  missing_are_wanted (SuppressPlan node place name terms) v literals misses =
      of_event_is name (values_of_terms v terms) (λ e. LiteralUnless (IsAbsent trace e) (suppress_literal e node) literals) literals
      (λ e of_event. leaf_is (IsAbsent trace e) (suppress_literal e node) literals (λ there. there) of_event) misses
  missing_are_wanted (Both node left right) v literals (first, rest, of_first, of_rest, is) =
      subst AreWanted (sym is)
      (AllByRecursion-append IsWanted first rest (missing_are_wanted left v first of_first) (missing_are_wanted right v rest of_rest))
  missing_are_wanted (Either node left right) v literals misses =
      either_are (Missing trace left v) (Missing trace right v) literals (missing_are_wanted right v literals) misses
  missing_are_wanted (TestOr node guard test body) v literals misses =
      ⊎_elim (λ nothing. none_are literals nothing.1) (λ some. missing_are_wanted body v literals some.1) misses
  missing_are_wanted (Guarded node xs guard test body) v literals (rows, are, gathers) =
      gathered_are (λ row. Missing trace body (with_values xs row v)) (λ row. missing_are_wanted body (with_values xs row v)) rows literals gathers
  missing_are_wanted (EventuallyPlan node place low high body) v literals none = none_are literals none
  missing_are_wanted (AlwaysPlan node place low high body) v literals misses =
      always_are low (Missing trace body v) literals (missing_are_wanted body v literals) misses
  missing_are_wanted (UntilPlan node place low high left right) v literals misses =
      until_are low (Missing trace left v) (Missing trace right v) literals (missing_are_wanted left v literals) misses
  missing_are_wanted (NextPlan node place high body) v literals none = none_are literals none

  where_are : (forced : Bool) (P Q : Type 0) (literals : List Literal) → (P → AreWanted literals) → (Q → AreWanted literals)
      → IfElse forced P Q → AreWanted literals
  where_are true P Q literals first second is = first is
  where_are false P Q literals first second is = second is

  misses_are_wanted : (node : Plan) (i : Instance) (forced : Bool) (literals : List Literal)
      → MissesAt trace node i forced literals → AreWanted literals
  misses_are_wanted (EventuallyPlan node place low high body) i forced literals misses =
      where_are forced (Missing trace body i.valuation literals) (literals ≡ []) literals
      (missing_are_wanted body i.valuation literals) (none_are literals) misses
  misses_are_wanted (NextPlan node place high body) i forced literals misses =
      missing_are_wanted body i.valuation literals misses
  misses_are_wanted (AlwaysPlan node place low high body) i forced literals misses =
      ⊎_elim (λ inside. missing_are_wanted body i.valuation literals inside.1) (λ outside. none_are literals outside.1) misses
  misses_are_wanted (UntilPlan node place low high left right) i forced literals misses =
      ⊎_elim
      (λ nothing. none_are literals nothing.2)
      (λ some. where_are forced (Missing trace right i.valuation literals) (Missing trace left i.valuation literals) literals
      (missing_are_wanted right i.valuation literals) (missing_are_wanted left i.valuation literals) some.1)
      misses
  misses_are_wanted (CausePlan node place name terms) i forced literals misses = absurd misses
  misses_are_wanted (SuppressPlan node place name terms) i forced literals misses = absurd misses
  misses_are_wanted (Both node left right) i forced literals misses = absurd misses
  misses_are_wanted (Either node left right) i forced literals misses = absurd misses
  misses_are_wanted (TestOr node guard test body) i forced literals misses = absurd misses
  misses_are_wanted (Guarded node xs guard test body) i forced literals misses = absurd misses

  at_node_are : (found : Option Plan) (i : Instance) (forced : Bool) (literals : List Literal)
      → AtNode found (λ node. MissesAt trace node i forced literals) → AreWanted literals
  at_node_are None i forced literals misses = absurd misses
  at_node_are (Some node) i forced literals misses = misses_are_wanted node i forced literals misses

  pub missing_of_are_wanted : (plans : List Plan) (i : Instance) (forced : Bool) (literals : List Literal)
      → MissingOf plans trace i forced literals → AllByRecursion IsWanted literals
  missing_of_are_wanted plans i forced literals misses = at_node_are (node_of plans i) i forced literals misses
