-- Who is still to be asked at a step, and who was asked, of those that are pending.
use Rattle.enf_data.specs.declared.events.Event.{Event}
use Rattle.enf_data.specs.declared.events.NameId.{NameId}
use Rattle.std.specs.Coded.{Coded, coded_ℕ, coded_list, coded_option, coded×, code_by}
use Rattle.std.specs.List.{flat_map}
use Rattle.std.specs.Prelude.{◌≡◌, ◌⊎◌, ℕ, List, Option, [], ◌∷◌, ◌++◌, Contains, drop, refl}
use Rattle.sleepers.specs.declared.entries.Entry.{Entry}
use Rattle.sleepers.specs.machine.Agendas.{LeavesAsleep}
use Rattle.sleepers.specs.machine.Entries.{AllButThose, ArePlaced, shown}
use Rattle.sleepers.specs.machine.NotedGroups.{IsContainedIn}
use Rattle.sleepers.specs.machine.Places.{Place}
use Rattle.sleepers.specs.declared.patterns.Pattern.{Pattern}
use Rattle.obligations.specs.declared.instances.Instance.{Instance}
use Rattle.obligations.specs.declared.literals.LiteralKind.{LiteralKind}
use Rattle.obligations.specs.machine.MovedPlans.{IsUnmovedOf}
use Rattle.plan_terms.specs.meaning.Plans.{Plan}
use Rattle.pending.specs.declared.asking.AskedOf.{AskedOf}
use Rattle.pending.specs.declared.asking.RuleNode.{RuleNode}
use Rattle.pending.specs.machine.PendingEntries.{all_listed, listed_of}
use Rattle.pending.specs.machine.Waits.{Listed, SleepsNow}
use Rattle.sleepers.specs.contracts.patterns.Pattern as stored_pattern
use Rattle.sleepers.specs.contracts.places.Beginning as stored_beginning
use Rattle.obligations.specs.contracts.instances.Instance as stored

-- all that is pending, those of them that are still to be asked, and those that were asked and missed nothing
pub record AskingList : Type 0 where
  pub all : List (Entry Instance)
  pub ahead : List (Entry Instance)
  pub asked : List (Entry Instance)

abbrev pub entry_code : Coded (Entry Instance)
entry_code =
    code_by (Place × (Option (List Pattern) × (ℕ × Instance)))
    (coded× (coded_list stored_beginning.the_row.coded)
    (coded× (coded_option (coded_list stored_pattern.the_row.coded)) (coded× coded_ℕ stored.the_row.coded)))
    (λ x. (x.place, (x.patterns, (x.end, x.item))))
    (λ x. record { place = x.0; patterns = x.1.0; end = x.1.1.0; item = x.1.1.1 }) (λ _. refl)

-- stored as the triple of these
abbrev pub asking_code : Coded AskingList
asking_code =
    code_by (List (Entry Instance) × (List (Entry Instance) × List (Entry Instance)))
    (coded× (coded_list entry_code) (coded× (coded_list entry_code) (coded_list entry_code)))
    (λ a. (a.all, (a.ahead, a.asked))) (λ x. record { all = x.0; ahead = x.1.0; asked = x.1.1 }) (λ _. refl)

-- the node of an instance
abbrev pub rule_node : Instance → RuleNode
rule_node i = record { rule = i.rule; node = i.node }

-- at a step all that is pending is to be asked, but what sleeps
pub record BeginsAsking (events : List Event) (moment : ℕ) (listed : List Listed) (asking : AskingList) : Type 0 where
  pub all : all_listed asking.all ≡ listed
  pub ahead : AllButThose (λ x. SleepsNow events moment (listed_of x)) asking.all asking.ahead
  pub asked : asking.asked ≡ []

-- none in front of the instance is still to be asked
pub record IsFirstAhead (asking : AskingList) (i : Instance) : Type 0 where
  pub front : List (Entry Instance)
  pub entry : Entry Instance
  pub back : List (Entry Instance)
  pub are : asking.all ≡ front ++ entry ∷ back
  pub is : entry.item ≡ i
  pub ahead : asking.ahead ≡ entry ∷ drop 1 asking.ahead
  pub none : (x : Entry Instance) → Contains front x → Contains asking.ahead x → ⊥

-- each that is pending is still to be asked, or has the property, and sleeps at a step or was asked
abbrev pub IsAskingAt : (Instance → Type 0) → (events : List Event) → (moment : ℕ) → AskingList → Type 0
IsAskingAt Met events moment asking = (x : Entry Instance) → Contains asking.all x
    → Contains asking.ahead x ⊎ (Met x.item × (SleepsNow events moment (listed_of x) ⊎ Contains asking.asked x))

-- the first of those still to be asked is one of those that were
pub record PassesFirst (before after : AskingList) : Type 0 where
  pub all : after.all ≡ before.all
  pub ahead : after.ahead ≡ drop 1 before.ahead
  pub kept : IsContainedIn before.asked after.asked
  pub first : (x : Entry Instance) → before.ahead ≡ x ∷ after.ahead → Contains after.asked x

-- whoever was to be asked still is, and so is each that may sleep and that the event wakes
pub record RousesAsking (event : Event) (before after : AskingList) : Type 0 where
  pub all : after.all ≡ before.all
  pub ahead : IsContainedIn before.ahead after.ahead
  pub asked : after.asked ≡ before.asked
  pub roused : (x : Entry Instance) → Contains after.all x → Contains after.ahead x ⊎ LeavesAsleep event x

-- whoever was to be asked still is, and whoever was asked, but where an action on the name does not move its node
pub record AsksMoved (plans : List Plan) (kind : LiteralKind) (name : NameId) (before after : AskingList) : Type 0 where
  pub all : after.all ≡ before.all
  pub ahead : IsContainedIn before.ahead after.ahead
  pub asked : (x : Entry Instance) → Contains before.asked x
      → Contains after.ahead x ⊎ (Contains after.asked x × IsUnmovedOf plans kind name x.item)

-- ---- those that were asked, by their nodes

abbrev pub entries_asked : List AskedOf → List (Entry Instance)
entries_asked groups = flat_map (λ group. shown group.entries.items) groups

-- each of a group is of its node
abbrev pub IsOfNode : AskedOf → Type 0
IsOfNode group = (x : Entry Instance) → Contains (shown group.entries.items) x → rule_node x.item ≡ group.at

abbrev pub AreOfNodes : List AskedOf → Type 0
AreOfNodes groups = (group : AskedOf) → Contains groups group → IsOfNode group

-- a group stays that has this property, and the entries of another are all in the agenda
abbrev pub GoesBack : (Instance → Type 0) → (before after : AskedOf) → (agenda : List (Entry Instance)) → Type 0
GoesBack P before after agenda =
    (((x : Entry Instance) → Contains (shown before.entries.items) x → P x.item) × (after ≡ before))
    ⊎ (IsContainedIn (shown before.entries.items) agenda × (shown after.entries.items ≡ []))

-- those that are to be asked, or were, are pending, and these are in order
pub record AreAskedOf (all some others : List (Entry Instance)) : Type 0 where
  pub placed : ArePlaced all
  pub ahead : IsContainedIn some all
  pub asked : IsContainedIn others all
