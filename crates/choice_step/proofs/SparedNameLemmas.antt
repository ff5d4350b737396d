-- A name that no guard looks for, and that is acted on in the one way alone, is one that no plan looks for.
use Rattle.choice_step.proofs.Vocabulary.{◌≡◌, ℕ, List, [], ◌∷◌, ◌++◌, Contains, map, subst, AllByRecursion, flat_map, Contains-append_left, Contains-append_right, AllByRecursion-append, here, later}
use Rattle.choice_step.proofs.Vocabulary.{NameId, VarId, Formula, names_in_formula, guard_names, PlacedGuard, IsCaused, IsSuppressed, NothingClashes, nodes, Plan, CausePlan, SuppressPlan, Both}
use Rattle.choice_step.proofs.Vocabulary.{Either, TestOr, Guarded, EventuallyPlan, AlwaysPlan, UntilPlan, NextPlan, CanAskIn, IsGuardAt, CanAskRoots, placed_guard, IsUnread, IsUnreadIn, LiteralKind}
use Rattle.choice_step.proofs.Vocabulary.{HasActionRole}
use Rattle.choice_step.proofs.LoopLemmas.{caused_by_leaf, suppressed_by_leaf}
use Rattle.choice_step.proofs.RuleTriggerLemmas.{test_named}
use Rattle.obligations.specs.declared.literals.LiteralKind.TheVariants as kind

-- a leaf does not want the contrary of an action on the name
abbrev IsApart : LiteralKind → NameId → Plan → Type 0
IsApart k name (CausePlan node place other terms) = k ≡ kind.Suppress → other ≡ name → ⊥
IsApart k name (SuppressPlan node place other terms) = k ≡ kind.Cause → other ≡ name → ⊥
IsApart k name plan = Unit {0}

apart_leaf : (plans : List Plan) (k : LiteralKind) (name : NameId) → NothingClashes plans → HasActionRole plans k name → (leaf : Plan)
    → Contains (flat_map nodes plans) leaf → IsApart k name leaf
apart_leaf plans k name nothing role (CausePlan node place other terms) there =
    λ is same. nothing name (
      subst (IsCaused plans) same (caused_by_leaf plans (CausePlan node place other terms) other there (here other [])),
      subst (λ l. HasActionRole plans l name) is role,
    )
apart_leaf plans k name nothing role (SuppressPlan node place other terms) there =
    λ is same. nothing name (
      subst (λ l. HasActionRole plans l name) is role,
      subst (IsSuppressed plans) same (suppressed_by_leaf plans (SuppressPlan node place other terms) other there (here other [])),
    )
apart_leaf plans k name nothing role (Both node left right) there = tt
apart_leaf plans k name nothing role (Either node left right) there = tt
apart_leaf plans k name nothing role (TestOr node guard test body) there = tt
apart_leaf plans k name nothing role (Guarded node xs guard test body) there = tt
apart_leaf plans k name nothing role (EventuallyPlan node place low high body) there = tt
apart_leaf plans k name nothing role (AlwaysPlan node place low high body) there = tt
apart_leaf plans k name nothing role (UntilPlan node place low high left right) there = tt
apart_leaf plans k name nothing role (NextPlan node place high body) there = tt

module _ (guards : List PlacedGuard) (k : LiteralKind) (name : NameId) (apart : Contains (guard_names guards) name → ⊥) where
  abbrev LeavesAre : List Plan → Type 0
  LeavesAre all = (leaf : Plan) → Contains all leaf → IsApart k name leaf

  behind_first : (first : Plan) (all : List Plan) → LeavesAre (first ∷ all) → LeavesAre all
  behind_first first all leaves leaf there = leaves leaf (later leaf first all there)

  in_left : (all others : List Plan) → LeavesAre (all ++ others) → LeavesAre all
  in_left all others leaves leaf there = leaves leaf (Contains-append_left all others leaf there)

  in_right : (all others : List Plan) → LeavesAre (all ++ others) → LeavesAre others
  in_right all others leaves leaf there = leaves leaf (Contains-append_right all others leaf there)

  test_apart : (number : ℕ) (test : Formula) (scope : List VarId) → IsGuardAt (map placed_guard guards) number test scope
      → Contains (names_in_formula test) name → ⊥
  test_apart number test scope at there = apart (test_named guards number test scope at.listed name there)

  below : (plan : Plan) (scope : List VarId) → CanAskIn (map placed_guard guards) plan scope → LeavesAre (nodes plan)
      → IsUnreadIn k name plan
  below (CausePlan node place other terms) scope can leaves =
      (leaves (CausePlan node place other terms) (here (CausePlan node place other terms) []), tt)
  below (SuppressPlan node place other terms) scope can leaves =
      (leaves (SuppressPlan node place other terms) (here (SuppressPlan node place other terms) []), tt)
  below (Both node left right) scope can leaves =
      let leaves_below = behind_first (Both node left right) (nodes left ++ nodes right) leaves in (
        tt,
        AllByRecursion-append (IsUnread k name) (nodes left) (nodes right)
            (below left scope can.1 (in_left (nodes left) (nodes right) leaves_below))
            (below right scope can.2 (in_right (nodes left) (nodes right) leaves_below)),
      )
  below (Either node left right) scope can leaves =
      let leaves_below = behind_first (Either node left right) (nodes left ++ nodes right) leaves in (
        tt,
        AllByRecursion-append (IsUnread k name) (nodes left) (nodes right)
            (below left scope can.1 (in_left (nodes left) (nodes right) leaves_below))
            (below right scope can.2 (in_right (nodes left) (nodes right) leaves_below)),
      )
  below (TestOr node guard test body) scope can leaves = (
    test_apart guard test scope can.0.0,
    below body scope can.1 (behind_first (TestOr node guard test body) (nodes body) leaves),
  )
  below (Guarded node xs guard test body) scope can leaves = (
    test_apart guard test scope can.0.0,
    below body (scope ++ xs) can.1 (behind_first (Guarded node xs guard test body) (nodes body) leaves),
  )
  below (EventuallyPlan node place low high body) scope can leaves =
      (tt, below body scope can.1 (behind_first (EventuallyPlan node place low high body) (nodes body) leaves))
  below (AlwaysPlan node place low high body) scope can leaves =
      (tt, below body scope can.1 (behind_first (AlwaysPlan node place low high body) (nodes body) leaves))
  below (UntilPlan node place low high left right) scope can leaves =
      let leaves_below = behind_first (UntilPlan node place low high left right) (nodes left ++ nodes right) leaves in (
        tt,
        AllByRecursion-append (IsUnread k name) (nodes left) (nodes right)
            (below left scope can.1 (in_left (nodes left) (nodes right) leaves_below))
            (below right scope can.2 (in_right (nodes left) (nodes right) leaves_below)),
      )
  below (NextPlan node place high body) scope can leaves =
      (tt, below body scope can.1 (behind_first (NextPlan node place high body) (nodes body) leaves))

  each : (ps : List Plan) → CanAskRoots (map placed_guard guards) ps → LeavesAre (flat_map nodes ps)
      → AllByRecursion (IsUnreadIn k name) ps
  each [] can leaves = tt
  each (p ∷ ps) can leaves = (
    below p can.0.0.scope can.0.0.can (in_left (nodes p) (flat_map nodes ps) leaves),
    each ps can.1 (in_right (nodes p) (flat_map nodes ps) leaves),
  )

pub spared_unread : (plans : List Plan) (guards : List PlacedGuard) (k : LiteralKind) (name : NameId) → NothingClashes plans
    → HasActionRole plans k name → CanAskRoots (map placed_guard guards) plans → (Contains (guard_names guards) name → ⊥)
    → AllByRecursion (IsUnreadIn k name) plans
spared_unread plans guards k name nothing role can apart =
    each guards k name apart plans can (apart_leaf plans k name nothing role)
