-- What a step leads on to, whatever the guards say: later deadlines, and nothing that is owed for longer.
use Rattle.enforcer_core.proofs.Vocabulary.{◌≡◌, ◌⊎◌, ℕ, zero, suc, ◌+◌, ◌<◌, ◌≤◌, Bool, true, false, List, [], ◌∷◌, map, Contains, Option, None, Some, refl, sym, ap, subst, ◌∙◌, arith, inl, inr}
use Rattle.enforcer_core.proofs.Vocabulary.{⊎_elim, unsigned_Decides, flat_map, cases_lt, false≢true, All-contains, same_Some, AllByRecursion-contains, here, later, there_from_get, Contains-from_map}
use Rattle.enforcer_core.proofs.Vocabulary.{Contains-map, Event, NameId, IsCause, caused_at, caused_below, has_deadline, nodes, window_end, Plan, CausePlan, SuppressPlan, Both, Either, TestOr}
use Rattle.enforcer_core.proofs.Vocabulary.{Guarded, EventuallyPlan, AlwaysPlan, UntilPlan, NextPlan, EndsLater, NodesStandIn, class_of, greatest, rank_in, with_deadlines, EdgesRise, needs_trigger}
use Rattle.enforcer_core.proofs.Vocabulary.{Typed, WorkTogether, IsLeaf, LeadsAt, is_forced, AtNode, HasDeadline, NoneIsOver, node_of, BegunIsNamed, ReachedIsInside, IsBegunAt, IsBegunUnder}
use Rattle.enforcer_core.proofs.Vocabulary.{IsReachedBy, HasPart, Action, Instance, LiteralKind, acted_among, ActsFrom, AreAskedActions, change_by, change_of, CausesAlone, LedDeadlinesFall}
use Rattle.enforcer_core.proofs.Vocabulary.{LedStaysInReach, reach_of, widest_window}
use Rattle.enforcer_core.proofs.ClassLemmas.{below_in, caused_in, class_below, class_higher, greatest_is, in_flat, least, least_behind, least_caused, nodes_in, self_in}
use Rattle.enforcer_core.proofs.ReachLemmas.{begun_high, below_reach, deadline_of, due_at, in_deadlines, in_reach, later_end, needs, over_at, over_from, reach_is, reach_of_within, reach_within}
use Rattle.enforcer_core.proofs.ReachLemmas.{window_within}
use Rattle.enforcer_core.proofs.TriggerLemmas.{IsAsked, IsDue, anew_asked, at_place, behind_event, cause_leaf, due_asked, root_asked}
use Rattle.obligations.specs.declared.literals.LiteralKind.TheVariants as kind

-- anything that is pending will do
abbrev Any : Instance → Plan → Type 0
Any i node = Unit {0}

-- the kind of a change that is a cause
cause_kind : (k : LiteralKind) (event : Event) → IsCause (change_by k event) → k ≡ kind.Cause
cause_kind kind.Cause event is = refl
cause_kind kind.Suppress event is = absurd is

module _ (inside : ReachedIsInside) (named : BegunIsNamed) (stand : NodesStandIn) (rise : EdgesRise) (typed : Typed) (works : WorkTogether typed)
    (pending : List Instance) where
  abbrev plans : List Plan
  plans = typed.plans

  abbrev ranks : List ℕ
  ranks = typed.ranked.ranks

  abbrev Asked : (rule : ℕ) → Plan → Type 0
  Asked = IsAsked plans pending Any

  -- ---- where what is asked stands

  part_asked : (i : Instance) (node part : Plan) → Contains pending i → node_of plans i ≡ Some node → HasPart node part → Asked i.rule part
  part_asked i (EventuallyPlan n place low high body) part there found has =
      due_asked plans pending Any i (EventuallyPlan n place low high body) part there found (subst (Contains (body ∷ [])) has (here body [])) refl tt
  part_asked i (NextPlan n place high body) part there found has =
      due_asked plans pending Any i (NextPlan n place high body) part there found (subst (Contains (body ∷ [])) has (here body [])) refl tt
  part_asked i (AlwaysPlan n place low high body) part there found has =
      anew_asked plans pending Any i (AlwaysPlan n place low high body) part there found (subst (Contains (body ∷ [])) has (here body []))
  part_asked i (UntilPlan n place low high left right) part there found has = ⊎_elim
      (λ on_left. anew_asked plans pending Any i (UntilPlan n place low high left right) part there found (subst (Contains (left ∷ [])) on_left (here left [])))
      (λ on_right. due_asked plans pending Any i (UntilPlan n place low high left right) part there found
      (subst (Contains (left ∷ right ∷ [])) on_right (later right left (right ∷ []) (here right []))) refl tt) has
  part_asked i (CausePlan n place name terms) part there found has = absurd has
  part_asked i (SuppressPlan n place name terms) part there found has = absurd has
  part_asked i (Both n left right) part there found has = absurd has
  part_asked i (Either n left right) part there found has = absurd has
  part_asked i (TestOr n guard test body) part there found has = absurd has
  part_asked i (Guarded n xs guard test body) part there found has = absurd has

  -- ---- what is caused is not ranked below something that is due

  record Owes (name : NameId) : Type 0 where
    instance : Instance
    node : Plan
    due : IsDue plans pending instance node
    low : least ranks plans node ≤ rank_in ranks name

  below_asked : (events : List Event) (rule : ℕ) (start node : Plan) (asked : Asked rule start) → IsReachedBy events start node
      → needs_trigger node ≡ true → (name : NameId) → Contains (caused_below node) name
      → ((event : Event) → Contains events event → rank_in ranks event.name < rank_in ranks name → Owes event.name) → Owes name
  below_asked events rule start node asked reached needs name caused each = ⊎_elim
      (λ starts.
      let e = behind_event plans works.accepted.triggered inside events rule asked.plan start node asked.plan_is starts asked.inside reached needs in
      let less = least_behind ranks plans rise works.ranked.ranks e.0.name node e.2 in
      let most = least_caused ranks plans node name caused in
      let owes = each e.0 e.1 (omega (arith, less, most)) in
      record { instance = owes.instance; node = owes.node; due = owes.due; low = omega (arith, owes.low, less, most) })
      (λ due. record {
        instance = due.0;
        node = due.1;
        due = due.2;
        low = least_caused ranks plans due.1 name (caused_in due.1 node name (below_in due.1 start node due.4 (inside events start node reached)) caused);
      }) asked.from

  module _ (causes : CausesAlone) (actions : List Action) (events : List Event) (acts : ActsFrom plans [] actions events)
      (asked : AreAskedActions plans pending [] actions) where
    abbrev caused : List Event
    caused = map (λ (a : Action). a.event) actions

    kind_of : (action : Action) → Contains actions action → action.kind ≡ kind.Cause
    kind_of action there =
        cause_kind action.kind action.event (All-contains IsCause (map change_of actions) (change_of action)
        (causes plans actions events works.formed.roles acts) (Contains-map change_of actions action there))

    action_owes : (action : Action) → Contains actions action
        → ((event : Event) → Contains caused event → rank_in ranks event.name < rank_in ranks action.event.name → Owes event.name)
        → Owes action.event.name
    action_owes action there each =
        let is = asked action there in
        let cause = cause_leaf is.leaf action.leaf action.event (subst (λ (k : LiteralKind). IsLeaf is.leaf k action.leaf action.event) (kind_of action there) is.is) in
        let below_it = in_flat caused_at (nodes is.leaf) is.leaf action.event.name (self_in is.leaf) cause.0 in
        ⊎_elim
        (λ root.
        let at = at_place plans root.plan root.among in
        below_asked caused at.0 root.plan is.leaf (root_asked plans pending Any at.0 root.plan at.1) root.reached cause.1 action.event.name below_it each)
        (λ waits.
        below_asked caused waits.instance.rule waits.part is.leaf (part_asked waits.instance waits.node waits.part waits.waits waits.found waits.has)
        waits.reached cause.1 action.event.name below_it each)
        is.asked

    owes_below : (n : ℕ) (event : Event) → Contains caused event → rank_in ranks event.name < n → Owes event.name
    owes_below zero event there less = absurd (omega (arith, less))
    owes_below (suc n) event there less =
        let from = Contains-from_map (λ (a : Action). a.event) actions event there in
        subst (λ (e : Event). Owes e.name) from.2
        (action_owes from.0 from.1 (λ other among lower.
        let same : rank_in ranks from.0.event.name ≡ rank_in ranks event.name = ap (λ (e : Event). rank_in ranks e.name) from.2 in
        owes_below n other among (omega (arith, less, lower, same))))

    owes : (event : Event) → Contains caused event → Owes event.name
    owes event there = owes_below (suc (rank_in ranks event.name)) event there (omega arith)

  -- ---- what a step leads on to

  module _ (events : List Event) (time position : ℕ) (inserted : Bool) (over : NoneIsOver plans pending time) where
    record IsLed (j : Instance) : Type 0 where
      rule : ℕ
      start : Plan
      asked : Asked rule start
      node : Plan
      reached : IsReachedBy events start node
      begins : IsBegunAt time position rule node j
      found : node_of plans j ≡ Some node
      within : Contains (nodes asked.plan) node

    abbrev Waited : Instance → Type 0
    Waited j = Contains pending j × ((node : Plan) → node_of plans j ≡ Some node → has_deadline node ≡ true → is_forced inserted time j ≡ false)

    led_from : (rule : ℕ) (start : Plan) → Asked rule start → (j : Instance) → IsBegunUnder events time position rule start j → IsLed j
    led_from rule start asked j (node, reached, begins) = record {
      rule = rule;
      start = start;
      asked = asked;
      node = node;
      reached = reached;
      begins = begins;
      found = (named plans events time position rule start node j
          (stand typed.guards plans rule asked.plan start works.formed.each asked.plan_is asked.inside) reached begins).1;
      within = nodes_in asked.plan start node asked.inside (inside events start node reached);
    }

    led : (after : List Instance) → LeadsAt events time position plans inserted pending after → (j : Instance) → Contains after j
        → Waited j ⊎ IsLed j
    led after leads j there = ⊎_elim
        (λ from. by from.0 from.1 (node_of plans from.0) refl from.2)
        (λ root. inr (led_from root.0 root.1 (root_asked plans pending Any root.0 root.1 root.2) j root.3))
        (leads j there)
      where
        by : (i : Instance) → Contains pending i → (at : Option Plan) → node_of plans i ≡ at
            → AtNode at (λ node. ((i ≡ j) × (has_deadline node ≡ true → is_forced inserted time i ≡ false))
            ⊎ ((part : Plan) × HasPart node part × IsBegunUnder events time position i.rule part j))
            → Waited j ⊎ IsLed j
        by i among None found comes = absurd comes
        by i among (Some node) found comes = ⊎_elim
            (λ waits. inl (
              subst (Contains pending) waits.0 among,
              λ other is has. subst (λ (k : Instance). is_forced inserted time k ≡ false) waits.0
                  (waits.1 (subst (λ (n : Plan). has_deadline n ≡ true)
                  (same_Some other node (sym is ∙ ap (node_of plans) (sym waits.0) ∙ found)) has)),
            ))
            (λ begun. inr (led_from i.rule begun.0 (part_asked i node begun.0 among found begun.1) j begun.2))
            comes

    -- the node of one that is begun, with a deadline
    led_has : (j : Instance) (deadline : ℕ) (new : IsLed j) → HasDeadline plans j deadline
        → (has_deadline new.node ≡ true) × (j.high ≡ deadline)
    led_has j deadline new due =
        let d = due_at plans j deadline due in
        (subst (λ (n : Plan). has_deadline n ≡ true) (same_Some d.0 new.node (sym d.1 ∙ new.found)) d.2, d.3)

    led_among : (j : Instance) (new : IsLed j) → Contains plans new.asked.plan
    led_among j new = there_from_get plans new.rule new.asked.plan new.asked.plan_is

    led_window : (j : Instance) (new : IsLed j) → has_deadline new.node ≡ true → (j.high ≡ time + window_end new.node) × (window_end new.node ≤ widest_window plans)
    led_window j new has = (
      begun_high time position new.rule new.node j new.begins has,
      window_within plans new.node (in_deadlines plans new.asked.plan new.node (led_among j new) new.within has),
    )

    -- none is over
    pub led_not_over : (after : List Instance) → LeadsAt events time position plans inserted pending after → NoneIsOver plans after time
    led_not_over after leads = over_from plans time after (λ j there deadline due. ⊎_elim
        (λ waited. over_at plans time pending over j waited.0 deadline due)
        (λ new. let has = led_has j deadline new due in let window = led_window j new has.0 in omega (arith, window.0, has.1))
        (led after leads j there))

    -- and nothing is owed after the horizon, but for what was
    pub led_in_reach : (after : List Instance) → LeadsAt events time position plans inserted pending after → (most : ℕ)
        → reach_of ranks plans pending ≤ most → time + typed.ranked.horizon ≤ most → reach_of ranks plans after ≤ most
    led_in_reach after leads most was horizon = reach_of_within ranks plans after most (λ j there. ⊎_elim
        (λ waited. let reach = in_reach ranks plans pending j waited.0 in omega (arith, reach, was))
        (λ new. reach_within ranks plans j new.node most new.found (λ has.
        let window = led_window j new has in
        let there' = in_deadlines plans new.asked.plan new.node (led_among j new) new.within has in
        let class = greatest_is (map (class_of ranks plans) (with_deadlines plans)) (class_of ranks plans new.node) (Contains-map (class_of ranks plans) (with_deadlines plans) new.node there') in
        below_reach time (window_end new.node) (widest_window plans) (class_of ranks plans new.node)
        (greatest (map (class_of ranks plans) (with_deadlines plans)) + 1) j.high time most
        window.0 window.1 (omega (arith, class)) (omega arith) (omega (arith, works.ranked.horizon, horizon))))
        (led after leads j there))

    module _ (causes : CausesAlone) (actions : List Action) (acts : ActsFrom plans [] actions events) (asked : AreAskedActions plans pending [] actions)
        (forced : inserted ≡ true) where
      -- what is begun has a lower class than something that is due
      led_lower : (j : Instance) (new : IsLed j) → has_deadline new.node ≡ true
          → (k : Instance) × (node : Plan) × IsDue plans pending k node × class_of ranks plans new.node < class_of ranks plans node
      led_lower j new has = ⊎_elim
          (λ starts.
          let e = behind_event plans works.accepted.triggered inside events new.rule new.asked.plan new.start new.node new.asked.plan_is starts new.asked.inside new.reached (needs new.node has) in
          let o = owes causes actions events acts asked e.0 (acted_among plans [] actions events acts e.0 e.1) in
          let behind = least_behind ranks plans rise works.ranked.ranks e.0.name new.node e.2 in (
            o.instance,
            o.node,
            o.due,
            class_higher ranks plans o.node new.node new.asked.plan (omega (arith, o.low, behind)) (led_among j new) new.within,
          ))
          (λ due. (due.0, due.1, due.2, class_below ranks plans due.1 new.start new.node due.4 (inside events new.start new.node new.reached)))
          new.asked.from

      pub led_reach : (after : List Instance) → LeadsAt events time position plans inserted pending after
          → reach_of ranks plans after ≤ reach_of ranks plans pending
      led_reach after leads = reach_of_within ranks plans after (reach_of ranks plans pending) (λ j there. ⊎_elim
          (λ waited. in_reach ranks plans pending j waited.0)
          (λ new. reach_within ranks plans j new.node (reach_of ranks plans pending) new.found (λ has.
          let low = led_lower j new has in
          let due = low.2 in
          let window = led_window j new has in
          let later = over_at plans time pending over low.0 due.there low.0.high (deadline_of plans low.0 low.1 due.found due.has) in
          let reach = in_reach ranks plans pending low.0 due.there in
          let reach_as = reach_is ranks plans low.0 low.1 due.found due.has in
          below_reach time (window_end new.node) (widest_window plans) (class_of ranks plans new.node) (class_of ranks plans low.1) j.high low.0.high (reach_of ranks plans pending)
          window.0 window.1 low.3 later (omega (arith, reach, reach_as))))
          (led after leads j there))

      waits_later : (j : Instance) → Waited j → (deadline : ℕ) → HasDeadline plans j deadline → time < deadline
      waits_later j (there, waits) deadline due =
          let d = due_at plans j deadline due in
          let least = over_at plans time pending over j there deadline due in
          ⊎_elim (λ l. l)
          (λ g.
          let now : time ≡ j.high = omega (arith, g, least, d.3) in
          absurd (false≢true (sym (waits d.0 d.1 d.2) ∙ subst (λ (b : Bool). is_forced b time j ≡ true) (sym forced) ((unsigned_Decides time j.high).1 now))))
          (cases_lt time deadline)

      pub led_later : (after : List Instance) → LeadsAt events time position plans inserted pending after → NoneIsOver plans after (time + 1)
      led_later after leads = over_from plans (time + 1) after (λ j there deadline due. ⊎_elim
          (λ waited. let l = waits_later j waited deadline due in omega (arith, l))
          (λ new.
          let has = led_has j deadline new due in
          let window = led_window j new has.0 in
          let ends = later_end new.node (AllByRecursion-contains EndsLater (flat_map nodes plans) new.node
          works.later (in_flat nodes plans new.asked.plan new.node (led_among j new) new.within)) has.0 in
          omega (arith, window.0, ends, has.1))
          (led after leads j there))

pub led_deadlines_fall : ReachedIsInside → BegunIsNamed → NodesStandIn → EdgesRise → CausesAlone → LedDeadlinesFall
led_deadlines_fall inside named stand rise causes typed pending after deadline position actions events works over acts asked leads = (
  led_later inside named stand rise typed works pending events deadline position true over causes actions acts asked refl after leads,
  led_reach inside named stand rise typed works pending events deadline position true over causes actions acts asked refl after leads,
)

pub led_stays_in_reach : ReachedIsInside → BegunIsNamed → NodesStandIn → EdgesRise → LedStaysInReach
led_stays_in_reach inside named stand rise typed pending after time position events inserted works over leads = (
  led_not_over inside named stand rise typed works pending events time position inserted over after leads,
  led_in_reach inside named stand rise typed works pending events time position inserted over after leads,
)
