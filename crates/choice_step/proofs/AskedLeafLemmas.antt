-- Each action is for a leaf that is asked for, at a step with the events that there are in the end and were in between.
use Rattle.choice_step.proofs.Vocabulary.{◌≡◌, List, [], ◌∷◌, ◌++◌, map, Contains, sym, subst, ⊎_elim, inl, inr, map-append, Contains-append_left, Contains-append_right, Contains-append}
use Rattle.choice_step.proofs.Vocabulary.{first_or_later, none_in_nil, Event, Plan, IsReachedBy-wider, Action, Instance, AreAskedActions, IsAskedAction, all_events, IsAskedLeaf}
use Rattle.choice_step.proofs.ActedEventLaws.{IsAmongAll}

-- ---- with more events

pub leaf_wider : (plans : List Plan) (pending : List Instance) (events more : List Event) → IsAmongAll events more → (leaf : Plan)
    → IsAskedLeaf plans pending events leaf → IsAskedLeaf plans pending more leaf
leaf_wider plans pending events more wider leaf asked = ⊎_elim
    (λ root. inl (record { plan = root.plan; among = root.among; reached = IsReachedBy-wider events more wider root.plan leaf root.reached }))
    (λ waits. inr (record {
      instance = waits.instance;
      waits = waits.waits;
      node = waits.node;
      found = waits.found;
      part = waits.part;
      has = waits.has;
      reached = IsReachedBy-wider events more wider waits.part leaf waits.reached;
    }))
    asked

action_wider : (plans : List Plan) (pending : List Instance) (events more : List Event) → IsAmongAll events more → (action : Action)
    → IsAskedAction plans pending events action → IsAskedAction plans pending more action
action_wider plans pending events more wider action is =
    record { leaf = is.leaf; is = is.is; asked = leaf_wider plans pending events more wider is.leaf is.asked }

-- the events of a step and some actions are among those with one action more
pub all_more : (given : List Event) (actions : List Action) (action : Action)
    → IsAmongAll (all_events given actions) (all_events given (actions ++ action ∷ []))
all_more given actions action event there = ⊎_elim
    (λ old. Contains-append_left given (map (λ (a : Action). a.event) (actions ++ action ∷ [])) event old)
    (λ acted. Contains-append_right given (map (λ (a : Action). a.event) (actions ++ action ∷ [])) event
    (subst (λ (l : List Event). Contains l event) (sym (map-append (λ (a : Action). a.event) actions (action ∷ [])))
    (Contains-append_left (map (λ (a : Action). a.event) actions) (map (λ (a : Action). a.event) (action ∷ [])) event acted)))
    (Contains-append given (map (λ (a : Action). a.event) actions) event there)

pub asked_none : (plans : List Plan) (pending : List Instance) (given : List Event) → AreAskedActions plans pending given []
asked_none plans pending given action there = absurd (none_in_nil action there)

pub asked_more : (plans : List Plan) (pending : List Instance) (given : List Event) (actions : List Action) (action : Action)
    → AreAskedActions plans pending given actions → IsAskedAction plans pending (all_events given actions) action
    → AreAskedActions plans pending given (actions ++ action ∷ [])
asked_more plans pending given actions action all one other there =
    action_wider plans pending (all_events given actions) (all_events given (actions ++ action ∷ [])) (all_more given actions action) other
    (⊎_elim (all other)
    (λ last. ⊎_elim (λ (same : action ≡ other). subst (IsAskedAction plans pending (all_events given actions)) same one) (λ none. absurd (none_in_nil other none))
    (first_or_later other action [] last))
    (Contains-append actions (action ∷ []) other there))
