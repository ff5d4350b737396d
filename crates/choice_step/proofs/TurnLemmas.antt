-- What the loop keeps while it goes on with the order and the tables with which a round began.
use Rattle.choice_step.proofs.Vocabulary.{◌≡◌, ◌∙◌, ℕ, ◌+◌, ◌<◌, ◌≤◌, Bool, List, [], ◌∷◌, ◌++◌, None, length, Contains, arith, sym, subst, ap, refl, ⊎_elim, append-nil, append_assoc}
use Rattle.choice_step.proofs.Vocabulary.{length-append, Contains-append_left, HasNoRepeats, Event, NameId, HaveSameEvents, Past, guard_names, NothingClashes, Plan, Action, Instance, GoesFrom}
use Rattle.choice_step.proofs.Vocabulary.{CanDecideSituation, SituationLeads, Situation, situation_plans, Applies, GainsNoSuppressed, none_in_nil}
use Rattle.obligations.specs.machine.FreshGuards.{HaveSameFreshEvents}
use Rattle.choice_step.specs.declared.unasked.Unasked.{Unasked}
use Rattle.choice_step.specs.machine.StillToAsk.{IsFoundIn, IsUnaskedAt, Spoils}
use Rattle.choice_step.specs.machine.Turns.{GoesStale, IsMetAfter, NoneIsWoken}
use Rattle.choice_step.proofs.FoundLemmas.{found_none}
use Rattle.choice_step.proofs.UniquenessLemmas.{last_step}
use Rattle.choice_step.proofs.WokenRuleLemmas.{all_asleep}
use Rattle.choice_step.proofs.Vocabulary.{HasNoneOf, SituationFinds, Step, UnwokenMissesNothing, cases_lt, length-map, plan_of, slice_get, trace_with_step}
use Rattle.choice_step.proofs.Vocabulary.{LiteralKind}
use Rattle.choice_step.proofs.ActedEventLaws.{acted_among}
use Rattle.choice_step.proofs.KnownValueLemmas.{given_values, possible}
use Rattle.choice_step.proofs.LoopActionLemmas.{gained_once, goes_behind, goes_more, none_gained, others_stay}
use Rattle.choice_step.proofs.LoopLemmas.{Keeps, few, keeps_first, keeps_on, role_of_leaf}

-- ---- one action for a literal that a root misses

-- an action leads on
pub leads_once : (situation : Situation) (given events after : List Event) (actions all : List Action) (action : Action) → IsFoundIn situation given events action
    → Applies action.kind action.event events after → all ≡ actions ++ action ∷ [] → SituationLeads situation given events actions after all
leads_once situation given events after actions all action found applies pushed =
    (action ∷ [], pushed, (after, found.finds, found.wanted, applies, refl))

-- and so do actions after it
pub leads_behind : (situation : Situation) (given before between after : List Event) (start actions all : List Action)
    → SituationLeads situation given before start between actions → SituationLeads situation given between actions after all
    → SituationLeads situation given before start after all
leads_behind situation given before between after start actions all first next = (
  first.0 ++ next.0,
  next.1 ∙ (ap (λ l. l ++ next.0) first.1 ∙ append_assoc start first.0 next.0),
  goes_behind (situation_plans situation) situation.pending.now.instances situation.past.now situation.inserted situation.time situation.position given before first.0 between next.0 after
      first.2 next.2,
)

-- after it the step has the same events but for stale names
pub goes_stale : (names stale more : List NameId) (kind : LiteralKind) (event : Event) (events after : List Event) → Applies kind event events after
    → Spoils names event.name stale more → GoesStale names stale events more after
goes_stale names stale more kind event events after applies spoils given same other named fresh =
    let was = same other named (λ there. fresh (spoils.kept other.name there)) in
    let next = others_stay kind event events after applies other
    (λ is. fresh (subst (Contains more) (sym is) (spoils.has (subst (Contains names) is named)))) in
    (λ there. next.0 (was.0 there), λ there. was.1 (next.1 there))

-- no action goes
pub longer_on : (situation : Situation) (given events after : List Event) (actions all : List Action) → SituationLeads situation given events actions after all
    → length actions ≤ length all
longer_on situation given events after actions all (more, are, acts) = omega (arith, ap length are, length-append actions more)

-- where no name is stale, the step has the same events of the names that guards look for
pub none_stale_now : (names : List NameId) (given events : List Event) (stale : List NameId) → stale ≡ [] → HaveSameFreshEvents stale names given events
    → HaveSameEvents names given events
none_stale_now names given events stale none same event named =
    same event named (λ there. none_in_nil event.name (subst (λ l. Contains l event.name) none there))

-- ---- a round as it goes on

module _ (situation : Situation) (given : List Event) (start : List Action) where
  abbrev names : List NameId
  names = guard_names situation.past.now.guards

  -- so far the actions led
  pub record IsOn (events : List Event) (stale : List NameId) (actions : List Action) : Type 0 where
    pub led : SituationLeads situation given given start events actions
    pub same : HaveSameFreshEvents stale names given events
    pub fewer : GainsNoSuppressed (situation_plans situation) given events

  -- so it is at first
  pub on_first : (events : List Event) (stale : List NameId) → events ≡ given → IsOn events stale start
  on_first events stale is = record {
    led = ([], sym (append-nil start), is);
    same = subst (HaveSameFreshEvents stale names given) (sym is) (λ event named fresh. (λ there. there, λ there. there));
    fewer = subst (GainsNoSuppressed (situation_plans situation) given) (sym is) (λ event named there. there);
  }

  -- and after an action
  module _ (can : CanDecideSituation situation) (events after : List Event) (stale spoilt : List NameId) (actions all : List Action) (action : Action)
      (on : IsOn events stale actions) (found : IsFoundIn situation given events action) (applies : Applies action.kind action.event events after)
      (pushed : all ≡ actions ++ action ∷ []) where
    pub led_more : SituationLeads situation given given start after all
    led_more = (
      on.led.0 ++ action ∷ [],
      pushed ∙ (ap (λ l. l ++ action ∷ []) on.led.1 ∙ append_assoc start on.led.0 (action ∷ [])),
      goes_more (situation_plans situation) situation.pending.now.instances situation.past.now situation.inserted situation.time situation.position given given on.led.0 events action
          after on.led.2 found.finds found.wanted applies,
    )

    pub one_more : length actions < length all
    one_more = let grown : length all ≡ length (actions ++ action ∷ []) = ap length pushed in omega (arith, grown, length-append actions (action ∷ []))

    same_more : Spoils names action.event.name stale spoilt → HaveSameFreshEvents spoilt names given after
    same_more spoils event named fresh =
        let was = on.same event named (λ there. fresh (spoils.kept event.name there)) in
        let next = others_stay action.kind action.event events after applies event
        (λ same. fresh (subst (Contains spoilt) (sym same) (spoils.has (subst (Contains names) same named)))) in
        (λ there. next.0 (was.0 there), λ there. was.1 (next.1 there))

    fewer_more : GainsNoSuppressed (situation_plans situation) given after
    fewer_more event named there =
        let wanted = found.wanted in
        on.fewer event named
        (gained_once (situation_plans situation) can.step.roles action.kind action.event events after
        (role_of_leaf (situation_plans situation) wanted.leaf action.kind action.leaf action.event wanted.there wanted.is) applies event named there)

    pub on_more : Spoils names action.event.name stale spoilt → IsOn after spoilt all
    on_more spoils = record {
      led = led_more;
      same = same_more spoils;
      fewer = fewer_more;
    }

  -- and after many
  pub on_many : CanDecideSituation situation → (events after : List Event) (stale more : List NameId) (actions all : List Action) → IsOn events stale actions
      → SituationLeads situation given events actions after all → GoesStale names stale events more after → IsOn after more all
  on_many can events after stale more actions all on leads goes = record {
    led = leads_behind situation given given events after start actions all on.led leads;
    same = goes given on.same;
    fewer = λ event named there. on.fewer event named
        (none_gained (situation_plans situation) situation.pending.now.instances situation.past.now situation.inserted situation.time situation.position can.step.roles given events leads.0 after
        leads.2 event named there);
  }

  -- so it is after a turn, which did an action at least
  pub record HasTurned (before : List Action) (events : List Event) (stale : List NameId) (actions : List Action) (unasked : Unasked) : Type 0 where
    pub on : IsOn events stale actions
    pub kept : IsUnaskedAt situation events actions unasked
    pub more : length before < length actions

  -- one of these, if that is what it turned to
  pub turned_to : (before : List Action) (events others : List Event) (stale more : List NameId) (actions all : List Action) (unasked other : Unasked) → others ≡ events
      → more ≡ stale → all ≡ actions → other ≡ unasked → HasTurned before events stale actions unasked → HasTurned before others more all other
  turned_to before events others stale more actions all unasked other are spoilt done asks turned =
      subst (λ e. HasTurned before e more all other) (sym are)
      (subst (λ s. HasTurned before events s all other) (sym spoilt)
      (subst (λ a. HasTurned before events stale a other) (sym done)
      (subst (λ u. HasTurned before events stale actions u) (sym asks) turned)))

  pub few_on : CanDecideSituation situation → HasNoRepeats given → (events : List Event) (actions : List Action) → SituationLeads situation given given start events actions
      → length actions ≤ length (possible (situation_plans situation) situation.pending.now.instances situation.past.now given) + length start
  few_on can distinct events actions led =
      let plans = situation_plans situation in
      let pending = situation.pending.now.instances in
      let past = situation.past.now in
      let most : length led.0 ≤ length (possible plans pending past given) =
      few plans pending past can.step.roles situation.inserted situation.time situation.position given led.0 events
      (keeps_on plans pending past can.step.roles situation.inserted situation.time situation.position given [] given
      given led.0 events (given_values plans pending past given)
      (λ event there. Contains-append_left given [] event there)
      (keeps_first plans pending past situation.inserted situation.time situation.position given distinct) led.2)
      in
      let grown : length actions ≡ length (start ++ led.0) = ap length led.1 in
      omega (arith, most, grown, length-append start led.0)

-- where nobody up to a root misses anything, and no rule after it is woken, nothing is missing
pub none_after : UnwokenMissesNothing → (situation : Situation) → CanDecideSituation situation → (given after : List Event) (rule : ℕ)
    → HaveSameEvents (guard_names situation.past.now.guards) given after → GainsNoSuppressed (situation_plans situation) given after
    → NoneIsWoken situation given rule → IsMetAfter situation after rule → SituationFinds situation after None
none_after unwoken situation can given after rule same fewer none met =
    ⊎_elim
    (λ below. found_none situation after (length (situation_plans situation)) (omega arith) met.0
    (λ trace stands long later. all_asleep (situation_plans situation) situation.inserted (trace_with_step trace situation.time after) situation.past.now.guards given after unwoken can.step.all.roots
    (ap (λ (s : Step). s.events) (last_step trace (record { time = situation.time; events = after }))) same fewer
    (rule + 1) (length (situation_plans situation)) (omega (arith, below))
    (λ r low high. subst (λ l. HasNoneOf (slice_get l r) given) can.wakes (none r (omega (arith, low)) (omega (arith, high, many))))
    (met.1 trace stands long later)))
    (λ above. found_none situation after (rule + 1) above met.0 met.1)
    (cases_lt (rule + 1) (length (situation_plans situation)))
  where
    many : length (situation_plans situation) ≡ length situation.plans.now
    many = length-map situation.plans.now plan_of

-- what the loop keeps from round to round
pub keeps_led : (plans : List Plan) (pending : List Instance) (past : Past) (inserted : Bool) (time position : ℕ) (given : List Event)
    → NothingClashes plans → (first : List Event) (actions : List Action) (after : List Event) (all : List Action)
    → Keeps plans pending past inserted time position first actions given
    → GoesFrom plans pending past inserted time position given given actions after all
    → Keeps plans pending past inserted time position first all after
keeps_led plans pending past inserted time position given nothing first actions after all keeps led =
    subst (λ a. Keeps plans pending past inserted time position first a after) (sym led.1)
    (keeps_on plans pending past nothing inserted time position first actions given given led.0 after keeps.values (acted_among plans first actions given keeps.acts) keeps led.2)
