-- What an action on a name can move of a plan: whether what it missed nothing of stays met, and whether it misses the
-- rest of what it missed.
use Rattle.enf_data.specs.declared.events.NameId.{NameId}
use Rattle.enf_data.specs.declared.terms.Term.{Term}
use Rattle.std.specs.List.{AllByRecursion}
use Rattle.std.specs.Prelude.{List, ◌≡◌, ◌⊎◌, Bool, true, false, not, nat_eq, Contains, Some}
use Rattle.enf_formula.specs.machine.Polarity.{AsksOnly}
use Rattle.enf_formula.specs.meaning.Satisfaction.{Formula, Atom, And}
use Rattle.plan_terms.specs.meaning.Plans.{nodes, Plan, CausePlan, SuppressPlan, TestOr, Guarded}
use Rattle.obligations.specs.declared.instances.Instance.{Instance}
use Rattle.obligations.specs.declared.literals.LiteralKind.{LiteralKind}
use Rattle.obligations.specs.meaning.Pending.{node_of}
use Rattle.obligations.specs.machine.UnreadNames.{Ignores, IgnoresAt, IsUnread}
use Rattle.obligations.specs.declared.literals.LiteralKind.TheVariants as kind

-- ---- formulas

-- whether another name is the name
abbrev pub is_same_name : NameId → NameId → Bool
is_same_name name other = nat_eq other.0 name.0

-- whether an action of the kind brings events
abbrev pub brings : LiteralKind → Bool
brings kind.Cause = true
brings kind.Suppress = false

-- what held before an action on the name holds after it
abbrev pub KeepsTrue : LiteralKind → NameId → Formula → Type 0
KeepsTrue k name f = AsksOnly (brings k) name f

-- what holds after an action on the name held before it
abbrev pub KeepsFalse : LiteralKind → NameId → Formula → Type 0
KeepsFalse k name f = AsksOnly (not (brings k)) name f

-- ---- plans that stay met

-- the leaf does not want the contrary of an action on the name, the test holds still after it, and the guard has no
-- row more
abbrev pub IsUnmoved : LiteralKind → NameId → Plan → Type 0
IsUnmoved k name (CausePlan node place other terms) = k ≡ kind.Suppress → other ≡ name → ⊥
IsUnmoved k name (SuppressPlan node place other terms) = k ≡ kind.Cause → other ≡ name → ⊥
IsUnmoved k name (TestOr node guard test body) = KeepsTrue k name test
IsUnmoved k name (Guarded node xs guard test body) = KeepsFalse k name test
IsUnmoved k name plan = Unit {0}

abbrev pub IsUnmovedIn : LiteralKind → NameId → Plan → Type 0
IsUnmovedIn k name plan = AllByRecursion (IsUnmoved k name) (nodes plan)

-- ---- plans that miss the rest

-- a conjunction that looks for the name in one atom alone, which has these terms: with fewer events of the name it
-- holds just where it held and the event of that atom is left
abbrev pub AnswersOwn : NameId → List Term → Formula → Type 0
AnswersOwn name terms (Atom place other own) = (other ≡ name) × (own ≡ terms)
AnswersOwn name terms (And place g h) =
    (AnswersOwn name terms g × Ignores name h) ⊎ (Ignores name g × AnswersOwn name terms h)
AnswersOwn name terms f = ⊥

-- below tests that do not look for the name the plan suppresses the events of the name with these terms
abbrev pub SuppressesWith : NameId → List Term → Plan → Type 0
SuppressesWith name terms (SuppressPlan node place other own) = (other ≡ name) × (own ≡ terms)
SuppressesWith name terms (TestOr node guard test body) = Ignores name test × SuppressesWith name terms body
SuppressesWith name terms plan = ⊥

-- under each row of the guard the body suppresses just that event of the name for which the guard holds
abbrev pub SuppressesOwn : NameId → (test : Formula) → (body : Plan) → Type 0
SuppressesOwn name test body = (terms : List Term) × AnswersOwn name terms test × SuppressesWith name terms body

-- what the node misses is after an action on the name the rest of what it missed: it does not read the name, or takes
-- out just what its guard holds for
abbrev pub LeavesRest : LiteralKind → NameId → Plan → Type 0
LeavesRest k name (Guarded node xs guard test body) =
    Ignores name test ⊎ ((k ≡ kind.Suppress) × SuppressesOwn name test body)
LeavesRest k name plan = IsUnread k name plan

abbrev pub LeavesRestIn : LiteralKind → NameId → Plan → Type 0
LeavesRestIn k name plan = AllByRecursion (LeavesRest k name) (nodes plan)

-- ---- guards that name it

-- no guard or test of the plan looks for the name
abbrev pub IgnoresIn : NameId → Plan → Type 0
IgnoresIn name plan = AllByRecursion (IgnoresAt name) (nodes plan)

-- ---- instances

-- an action on the name leaves the node of an instance as it was
abbrev pub IsUnmovedOf : List Plan → LiteralKind → NameId → Instance → Type 0
IsUnmovedOf plans k name i = (node : Plan) → node_of plans i ≡ Some node → IsUnmovedIn k name node

-- the node of an instance looks for none of the names
abbrev pub IgnoresAllOf : List Plan → List NameId → Instance → Type 0
IgnoresAllOf plans names i = (name : NameId) → Contains names name → (node : Plan) → node_of plans i ≡ Some node
    → IgnoresIn name node
