-- What an inserted step causes is not ranked below what was owed at its time.
use Rattle.enforcer_core.proofs.Vocabulary.{◌≡◌, ◌⊎◌, ℕ, suc, ◌≤◌, Bool, true, false, List, [], ◌∷◌, ◌++◌, length, map, Contains, Option, None, Some, length-append, refl, sym, ap, subst, arith, inl}
use Rattle.enforcer_core.proofs.Vocabulary.{inr, ⊎_elim, find, option_or, none-some, step_at, AllByRecursion-find, AllByRecursion-from_contains, Contains-append, first_or_later, here, later}
use Rattle.enforcer_core.proofs.Vocabulary.{none_in_nil, there_from_get, Contains-from_map, no_values, Event, NameId, Step, IsCaused, caused_at, caused_below, suppressed_at, suppressed_below}
use Rattle.enforcer_core.proofs.Vocabulary.{has_deadline, has_number, nodes, nodes_of, Plan, CausePlan, SuppressPlan, Both, Either, TestOr, Guarded, EventuallyPlan, AlwaysPlan, UntilPlan, NextPlan}
use Rattle.enforcer_core.proofs.Vocabulary.{guard_triggers, IsRank, rank_in, EdgesRise, Edge, IsPath, IsStart, begun_later, below, needs_trigger, path_triggers, AllIsTriggered, AreAccepted}
use Rattle.enforcer_core.proofs.Vocabulary.{ChangesEvents, IsLeaf, time_now, Missing, last_position, AtNode, MissesAt, MissingOf, node_of, IsMissedIn, IsReached, last_events, AreMetBy, IsReachedBy}
use Rattle.enforcer_core.proofs.Vocabulary.{MissedIsReached, ReachedIsInside, Action, Instance, Literal, LiteralKind, Applies, Candidate, Decides, IsFirstMissing, CandidateMisses, Root, Waiting}
use Rattle.enforcer_core.proofs.Vocabulary.{all_asked, is_forced, roots_from, trace_with_step}
use Rattle.std.proofs.Common.{slice_get}
use Rattle.enforcer_core.proofs.ClassLemmas.{IsBehind, below_in, caused_in, in_flat, least, least_behind, least_caused, nodes_in, self_in}
use Rattle.obligations.specs.declared.literals.LiteralKind.TheVariants as kind

-- ---- paths that are met

-- a path down to the node, the first triggers on which are met
abbrev Way : List Event → (start end : Plan) → Type 0
Way events start end = (path : List Plan) × IsPath start path end
    × ((names : List NameId) → path_triggers path ≡ Some names → AreMetBy events (Some names))

module _ (events : List Event) where
  arrived : (plan end : Plan) → plan ≡ end → Way events plan end
  arrived plan end same = ([], same, λ names is. absurd (none-some names is))

  through : (plan next end : Plan) → Contains (below plan) next → AreMetBy events (guard_triggers plan) → Way events next end
      → Way events plan end
  through plan next end at met (path, leads, first) =
      (plan ∷ path, (refl, next, at, leads), λ names is. by (guard_triggers plan) met names is)
    where
      by : (g : Option (List NameId)) → AreMetBy events g → (names : List NameId) → option_or g (path_triggers path) ≡ Some names
          → AreMetBy events (Some names)
      by None met names is = first names is
      by (Some own) met names is = subst (λ (g : Option (List NameId)). AreMetBy events g) is met

  sides : (plan left right end : Plan) → Contains (below plan) left → Contains (below plan) right
      → AreMetBy events (guard_triggers plan) → (plan ≡ end) ⊎ (IsReachedBy events left end ⊎ IsReachedBy events right end)
      → (IsReachedBy events left end → Way events left end) → (IsReachedBy events right end → Way events right end) → Way events plan end
  sides plan left right end l r met reached on_left on_right =
      ⊎_elim (arrived plan end) (λ deep.
      ⊎_elim (λ is. through plan left end l met (on_left is)) (λ is. through plan right end r met (on_right is)) deep) reached

  one : (plan body end : Plan) → Contains (below plan) body → AreMetBy events (guard_triggers plan)
      → (plan ≡ end) ⊎ IsReachedBy events body end → (IsReachedBy events body end → Way events body end) → Way events plan end
  one plan body end at met reached on_body =
      ⊎_elim (arrived plan end) (λ deep. through plan body end at met (on_body deep)) reached

  way : (start end : Plan) → IsReachedBy events start end → Way events start end
  way (CausePlan n place name terms) end reached = arrived (CausePlan n place name terms) end reached
  way (SuppressPlan n place name terms) end reached = arrived (SuppressPlan n place name terms) end reached
  way (Both n l r) end reached = sides (Both n l r) l r end (here l (r ∷ [])) (later r l (r ∷ []) (here r [])) tt reached (way l end) (way r end)
  way (Either n l r) end reached = sides (Either n l r) l r end (here l (r ∷ [])) (later r l (r ∷ []) (here r [])) tt reached (way l end) (way r end)
  way (TestOr n guard test body) end reached = one (TestOr n guard test body) body end (here body []) tt reached (way body end)
  way (Guarded n xs guard test body) end reached =
      ⊎_elim (arrived (Guarded n xs guard test body) end)
      (λ deep. through (Guarded n xs guard test body) body end (here body []) deep.0 (way body end deep.1)) reached
  way (EventuallyPlan n place low high body) end reached = one (EventuallyPlan n place low high body) body end (here body []) tt reached (way body end)
  way (AlwaysPlan n place low high body) end reached = one (AlwaysPlan n place low high body) body end (here body []) tt reached (way body end)
  way (UntilPlan n place low high l r) end reached = sides (UntilPlan n place low high l r) l r end (here l (r ∷ [])) (later r l (r ∷ []) (here r [])) tt reached (way l end) (way r end)
  way (NextPlan n place high body) end reached = one (NextPlan n place high body) body end (here body []) tt reached (way body end)

pub at_place : {X : Type 0} (xs : List X) (x : X) → Contains xs x → (k : ℕ) × (slice_get xs k ≡ Some x)
at_place [] x there = absurd (none_in_nil x there)
at_place (y ∷ ys) x there =
    ⊎_elim (λ (same : y ≡ x). (0, ap Some same)) (λ more. let rest = at_place ys x more in (suc rest.0, rest.1)) (first_or_later x y ys there)

module _ (plans : List Plan) (triggered : AllIsTriggered plans) (inside : ReachedIsInside) (events : List Event) (rule : ℕ)
    (plan start node : Plan) where
  -- what causes or owes something, and is reached from a start, is after an event of the step
  pub behind_event : slice_get plans rule ≡ Some plan → IsStart plan start → Contains (nodes plan) start
      → IsReachedBy events start node → needs_trigger node ≡ true
      → (event : Event) × Contains events event × IsBehind plans event.name node
  behind_event at starts there reached needs = by (path_triggers w.0) refl
    where
      w : Way events start node
      w = way events start node reached

      by : (first : Option (List NameId)) → path_triggers w.0 ≡ first
          → (event : Event) × Contains events event × IsBehind plans event.name node
      by None none =
          let number = at_place (nodes plan) node (nodes_in plan start node there (inside events start node reached)) in
          absurd (triggered rule number.0 node (record {
            plan = plan;
            plan_is = at;
            node_is = number.1;
            untriggered = (needs, start, starts, w.0, w.1, none);
          }))
      by (Some names) first =
          let met : AreMetBy events (Some names) = w.2 names first in (
            met.0,
            met.1,
            record {
              plan = plan;
              there = there_from_get plans rule plan at;
              start = start;
              starts = starts;
              path = w.0;
              leads = w.1;
              names = names;
              first = first;
              has = met.2;
            },
          )

-- ---- where what is asked at a step stands

-- the plan of an instance has its node
pub record HasNode (plans : List Plan) (i : Instance) (node : Plan) : Type 0 where
  pub plan : Plan
  pub plan_is : slice_get plans i.rule ≡ Some plan
  pub inside : Contains (nodes plan) node

pub has_node : (plans : List Plan) (i : Instance) (node : Plan) → node_of plans i ≡ Some node → HasNode plans i node
has_node plans i node found = by (slice_get plans i.rule) refl found
  where
    by : (at : Option Plan) → slice_get plans i.rule ≡ at → find (has_number i.node) (nodes_of at) ≡ Some node → HasNode plans i node
    by None at found = absurd (none-some node found)
    by (Some plan) at found = record {
      plan = plan;
      plan_is = at;
      inside = AllByRecursion-find (Contains (nodes plan)) (has_number i.node) (nodes plan) node
          (AllByRecursion-from_contains (Contains (nodes plan)) (nodes plan) (λ n there. there)) found;
    }

-- a pending instance of a node with a deadline
pub record IsDue (plans : List Plan) (pending : List Instance) (i : Instance) (node : Plan) : Type 0 where
  pub there : Contains pending i
  pub found : node_of plans i ≡ Some node
  pub has : has_deadline node ≡ true

begun_below : (node part : Plan) → Contains (begun_later node) part → Contains (below node) part
begun_below (AlwaysPlan n place low high body) part at = at
begun_below (UntilPlan n place low high l r) part at =
    ⊎_elim (λ (same : l ≡ part). subst (Contains (l ∷ r ∷ [])) same (here l (r ∷ []))) (λ none. absurd (none_in_nil part none)) (first_or_later part l [] at)
begun_below (EventuallyPlan n place low high body) part at = absurd (none_in_nil part at)
begun_below (NextPlan n place high body) part at = absurd (none_in_nil part at)
begun_below (CausePlan n place name terms) part at = absurd (none_in_nil part at)
begun_below (SuppressPlan n place name terms) part at = absurd (none_in_nil part at)
begun_below (Both n l r) part at = absurd (none_in_nil part at)
begun_below (Either n l r) part at = absurd (none_in_nil part at)
begun_below (TestOr n guard test body) part at = absurd (none_in_nil part at)
begun_below (Guarded n xs guard test body) part at = absurd (none_in_nil part at)

-- what is asked begins paths, or is directly below a node that is due of which more holds
abbrev pub IsFrom : List Plan → List Instance → (Instance → Plan → Type 0) → (plan start : Plan) → Type 0
IsFrom plans pending P plan start = IsStart plan start
    ⊎ ((i : Instance) × (node : Plan) × IsDue plans pending i node × P i node × Contains (below node) start)

pub record IsAsked (plans : List Plan) (pending : List Instance) (P : Instance → Plan → Type 0) (rule : ℕ)
    (start : Plan) : Type 0 where
  pub plan : Plan
  pub plan_is : slice_get plans rule ≡ Some plan
  pub inside : Contains (nodes plan) start
  pub from : IsFrom plans pending P plan start

pub root_asked : (plans : List Plan) (pending : List Instance) (P : Instance → Plan → Type 0) (rule : ℕ) (plan : Plan)
    → slice_get plans rule ≡ Some plan → IsAsked plans pending P rule plan
root_asked plans pending P rule plan at = record { plan = plan; plan_is = at; inside = self_in plan; from = inl (inl refl) }

-- what a pending node begins anew, and what is below one that is due
module _ (plans : List Plan) (pending : List Instance) (P : Instance → Plan → Type 0) (i : Instance) (node part : Plan)
    (there : Contains pending i) (found : node_of plans i ≡ Some node) where
  asked_by : Contains (below node) part → ((plan : Plan) → Contains (nodes plan) node → IsFrom plans pending P plan part)
      → IsAsked plans pending P i.rule part
  asked_by at from =
      let h = has_node plans i node found in
      record {
        plan = h.plan;
        plan_is = h.plan_is;
        inside = nodes_in h.plan node part h.inside (below_in node part part at (self_in part));
        from = from h.plan h.inside;
      }

  pub anew_asked : Contains (begun_later node) part → IsAsked plans pending P i.rule part
  anew_asked at = asked_by (begun_below node part at) (λ plan inside. inl (inr (node, inside, at)))

  pub due_asked : Contains (below node) part → has_deadline node ≡ true → P i node → IsAsked plans pending P i.rule part
  due_asked at has is = asked_by at (λ plan inside. inr (i, node, record { there = there; found = found; has = has }, is, at))

-- ---- what has to be met at a step

-- at an inserted step at its deadline a node has to be met, and Next at the next step
abbrev pub ends_now : Plan → (forced : Bool) → Bool
ends_now (EventuallyPlan n place low high body) forced = forced
ends_now (UntilPlan n place low high l r) forced = forced
ends_now (NextPlan n place high body) forced = true
ends_now plan forced = false

abbrev pub Ends : (time : ℕ) → Instance → Plan → Type 0
Ends time i node = ends_now node (is_forced true time i) ≡ true

-- what an instance misses is missed by what it begins anew, or by what has to be met
abbrev MissedBelow : List Step → Instance → Plan → (forced : Bool) → Literal → Type 0
MissedBelow trace i node forced l = (part : Plan) × IsMissedIn trace part l
    × (Contains (begun_later node) part ⊎ ((has_deadline node ≡ true) × (ends_now node forced ≡ true) × Contains (below node) part))

module _ (missed : MissedIsReached) (trace : List Step) (i : Instance) (l : Literal) (rest : List Literal) where
  by_part : (part : Plan) → Missing trace part i.valuation (l ∷ rest) → IsMissedIn trace part l
  by_part part missing = missed trace part i.valuation (l ∷ rest) l missing (here l rest)

  no_literal : l ∷ rest ≡ [] → ⊥
  no_literal none = none_in_nil l (subst (λ (ls : List Literal). Contains ls l) none (here l rest))

  missed_below : (node : Plan) (forced : Bool) → MissesAt trace node i forced (l ∷ rest) → MissedBelow trace i node forced l
  missed_below (EventuallyPlan n place low high body) true missing = (body, by_part body missing, inr (refl, refl, here body []))
  missed_below (EventuallyPlan n place low high body) false missing = absurd (no_literal missing)
  missed_below (NextPlan n place high body) forced missing = (body, by_part body missing, inr (refl, refl, here body []))
  missed_below (AlwaysPlan n place low high body) forced missing =
      ⊎_elim (λ inside. (body, by_part body inside.1, inl (here body []))) (λ outside. absurd (no_literal outside.1)) missing
  missed_below (UntilPlan n place low high l' r) true missing =
      ⊎_elim (λ met. absurd (no_literal met.2))
      (λ waits. (r, by_part r waits.1, inr (refl, refl, later r l' (r ∷ []) (here r [])))) missing
  missed_below (UntilPlan n place low high l' r) false missing =
      ⊎_elim (λ met. absurd (no_literal met.2)) (λ waits. (l', by_part l' waits.1, inl (here l' []))) missing
  missed_below (CausePlan n place name terms) forced missing = absurd missing
  missed_below (SuppressPlan n place name terms) forced missing = absurd missing
  missed_below (Both n l' r) forced missing = absurd missing
  missed_below (Either n l' r) forced missing = absurd missing
  missed_below (TestOr n guard test body) forced missing = absurd missing
  missed_below (Guarded n xs guard test body) forced missing = absurd missing

-- ---- what is caused

pub cause_leaf : (leaf : Plan) (number : ℕ) (event : Event) → IsLeaf leaf kind.Cause number event
    → Contains (caused_at leaf) event.name × (needs_trigger leaf ≡ true)
cause_leaf (CausePlan n place name terms) number event is = (subst (λ (x : NameId). Contains (name ∷ []) x) (sym is.2) (here name []), refl)
cause_leaf (SuppressPlan n place name terms) number event is = absurd (cc)
cause_leaf (Both n l r) number event is = absurd is
cause_leaf (Either n l r) number event is = absurd is
cause_leaf (TestOr n guard test body) number event is = absurd is
cause_leaf (Guarded n xs guard test body) number event is = absurd is
cause_leaf (EventuallyPlan n place low high body) number event is = absurd is
cause_leaf (AlwaysPlan n place low high body) number event is = absurd is
cause_leaf (UntilPlan n place low high l r) number event is = absurd is
cause_leaf (NextPlan n place high body) number event is = absurd is

suppress_leaf : (leaf : Plan) (number : ℕ) (event : Event) → IsLeaf leaf kind.Suppress number event
    → Contains (suppressed_at leaf) event.name
suppress_leaf (SuppressPlan n place name terms) number event is = subst (λ (x : NameId). Contains (name ∷ []) x) (sym is.2) (here name [])
suppress_leaf (CausePlan n place name terms) number event is = absurd (cc)
suppress_leaf (Both n l r) number event is = absurd is
suppress_leaf (Either n l r) number event is = absurd is
suppress_leaf (TestOr n guard test body) number event is = absurd is
suppress_leaf (Guarded n xs guard test body) number event is = absurd is
suppress_leaf (EventuallyPlan n place low high body) number event is = absurd is
suppress_leaf (AlwaysPlan n place low high body) number event is = absurd is
suppress_leaf (UntilPlan n place low high l r) number event is = absurd is
suppress_leaf (NextPlan n place high body) number event is = absurd is

at_end : (trace : List Step) (step : Step) → step_at (trace ++ step ∷ []) (length trace) ≡ step
at_end [] step = refl
at_end (first ∷ trace) step = at_end trace step

pub last_step : (trace : List Step) (step : Step) → step_at (trace ++ step ∷ []) (last_position (trace ++ step ∷ [])) ≡ step
last_step trace step =
    let last : length trace ≡ last_position (trace ++ step ∷ []) = omega (arith, length-append trace (step ∷ [])) in
    subst (λ (n : ℕ). step_at (trace ++ step ∷ []) n ≡ step) last (at_end trace step)

roots_in : (rule : ℕ) (plans : List Plan) (asked : Candidate) → Contains (roots_from rule plans) asked
    → (k : ℕ) × (plan : Plan) × (slice_get plans k ≡ Some plan) × (number : ℕ) × (Root number plan ≡ asked)
roots_in rule [] asked there = absurd (none_in_nil asked there)
roots_in rule (plan ∷ plans) asked there =
    ⊎_elim (λ same. (0, plan, refl, rule, same))
    (λ more. let rest = roots_in (suc rule) plans asked more in (suc rest.0, rest.1, rest.2, rest.3, rest.4))
    (first_or_later asked (Root rule plan) (roots_from (suc rule) plans) there)

-- something has to be met at the time, and is not ranked higher than the name
pub record Owes (plans : List Plan) (ranks : List ℕ) (pending : List Instance) (time : ℕ) (name : NameId) : Type 0 where
  pub instance : Instance
  pub node : Plan
  pub due : IsDue plans pending instance node
  pub ends : Ends time instance node
  pub low : least ranks plans node ≤ rank_in ranks name

-- so it is for each of these events, which are of names that are caused
pub record IsOwed (plans : List Plan) (ranks : List ℕ) (pending : List Instance) (time : ℕ) (event : Event) : Type 0 where
  pub caused : IsCaused plans event.name
  pub owes : Owes plans ranks pending time event.name

abbrev pub AreOwed : List Plan → List ℕ → List Instance → (time : ℕ) → List Event → Type 0
AreOwed plans ranks pending time events =
    (event : Event) → Contains events event → IsOwed plans ranks pending time event

module _ (plans : List Plan) (ranks : List ℕ) (accepted : AreAccepted plans) (rise : EdgesRise)
    (are : (name : NameId) → IsRank (Edge plans) name (rank_in ranks name)) (inside : ReachedIsInside)
    (missed : MissedIsReached) (pending : List Instance) (time : ℕ) where
  module _ (trace : List Step) (now : time_now trace ≡ time) where
    first_in : (all : List Candidate) (asked : Candidate) (l : Literal) → IsFirstMissing plans true trace all asked l
        → Contains all asked × ((rest : List Literal) × CandidateMisses plans true trace asked (l ∷ rest))
    first_in [] asked l none = absurd none
    first_in (next ∷ others) asked l first = ⊎_elim
        (λ is. (
          subst (Contains (next ∷ others)) is.0 (here next others),
          (is.1, subst (λ (a : Candidate). CandidateMisses plans true trace a (l ∷ is.1)) is.0 is.2),
        ))
        (λ behind. let rest = first_in others asked l behind.1 in (later asked next others rest.0, rest.1)) first

    abbrev Asked : ℕ → Plan → Type 0
    Asked rule start = IsAsked plans pending (Ends time) rule start

    -- what is missed is missed by a part that is asked
    waiting_part : (i : Instance) (l : Literal) (rest : List Literal) → Contains pending i
        → MissingOf plans trace i (is_forced true (time_now trace) i) (l ∷ rest)
        → (rule : ℕ) × (start : Plan) × Asked rule start × IsMissedIn trace start l
    waiting_part i l rest there missing = by (node_of plans i) refl missing
      where
        by : (at : Option Plan) → node_of plans i ≡ at
            → AtNode at (λ node. MissesAt trace node i (is_forced true (time_now trace) i) (l ∷ rest))
            → (rule : ℕ) × (start : Plan) × Asked rule start × IsMissedIn trace start l
        by None found m = absurd m
        by (Some node) found m =
            let part = missed_below missed trace i l rest node (is_forced true (time_now trace) i) m in (
              i.rule,
              part.0,
              ⊎_elim (λ anew. anew_asked plans pending (Ends time) i node part.0 there found anew)
                  (λ due. due_asked plans pending (Ends time) i node part.0 there found due.2 due.0
                  (subst (λ (t : ℕ). Ends t i node) now due.1)) part.2,
              part.1,
            )

    asked_part : (asked : Candidate) (l : Literal) (rest : List Literal) → Contains (all_asked plans pending) asked
        → CandidateMisses plans true trace asked (l ∷ rest)
        → (rule : ℕ) × (start : Plan) × Asked rule start × IsMissedIn trace start l
    asked_part asked l rest there misses = ⊎_elim
        (λ front.
        let i = Contains-from_map Waiting pending asked front in
        waiting_part i.0 l rest i.1 (subst (λ (a : Candidate). CandidateMisses plans true trace a (l ∷ rest)) (sym i.2) misses))
        (λ back.
        let root = roots_in 0 plans asked back in (
          root.0,
          root.1,
          root_asked plans pending (Ends time) root.0 root.1 root.2,
          missed trace root.1 no_values (l ∷ rest) l (subst (λ (a : Candidate). CandidateMisses plans true trace a (l ∷ rest)) (sym root.4) misses) (here l rest),
        ))
        (Contains-append (map Waiting pending) (roots_from 0 plans) asked there)

    module _ (events : List Event) (is : (step_at trace (last_position trace)).events ≡ events) (owed : AreOwed plans ranks pending time events)
        (rule : ℕ) (start : Plan) (asked : Asked rule start) where
      -- after a part that is asked, something is due that is not ranked higher
      behind_owed : (name : NameId) (node : Plan) → IsReached trace start node → needs_trigger node ≡ true
          → Contains (caused_below node) name → Owes plans ranks pending time name
      behind_owed name node reached needs caused = ⊎_elim
          (λ starts.
          let e = behind_event plans accepted.triggered inside (last_events trace) rule asked.plan start node asked.plan_is starts asked.inside reached needs in
          let owes = (owed e.0 (subst (λ (l : List Event). Contains l e.0) is e.1)).owes in
          let less = least_behind ranks plans rise are e.0.name node e.2 in
          let most = least_caused ranks plans node name caused in
          record { instance = owes.instance; node = owes.node; due = owes.due; ends = owes.ends; low = omega (arith, owes.low, less, most) })
          (λ due. record {
            instance = due.0;
            node = due.1;
            due = due.2;
            ends = due.3;
            low = least_caused ranks plans due.1 name (caused_in due.1 node name (below_in due.1 start node due.4 (inside (last_events trace) start node reached)) caused);
          }) asked.from

      cause_owed : (leaf : Plan) (number : ℕ) (event : Event) → IsReached trace start leaf → IsLeaf leaf kind.Cause number event
          → IsOwed plans ranks pending time event
      cause_owed leaf number event reached is =
          let cause = cause_leaf leaf number event is in
          let below_it = in_flat caused_at (nodes leaf) leaf event.name (self_in leaf) cause.0 in
          let there = nodes_in asked.plan start leaf asked.inside (inside (last_events trace) start leaf reached) in
          record {
            caused = in_flat caused_below plans asked.plan event.name (there_from_get plans rule asked.plan asked.plan_is)
                (in_flat caused_at (nodes asked.plan) leaf event.name there cause.0);
            owes = behind_owed event.name leaf reached cause.1 below_it;
          }

      suppress_clashes : (leaf : Plan) (number : ℕ) (event : Event) → IsReached trace start leaf
          → IsLeaf leaf kind.Suppress number event → Contains events event → ⊥
      suppress_clashes leaf number event reached is present =
          let there = nodes_in asked.plan start leaf asked.inside (inside (last_events trace) start leaf reached) in
          accepted.roles event.name (
            (owed event present).caused,
            in_flat suppressed_below plans asked.plan event.name (there_from_get plans rule asked.plan asked.plan_is)
                (in_flat suppressed_at (nodes asked.plan) leaf event.name there (suppress_leaf leaf number event is)),
          )

      applied : (l : Literal) (between : List Event) → IsMissedIn trace start l → Applies l.kind l.event events between
          → AreOwed plans ranks pending time between
      applied l between (leaf, reached, is_leaf, changes) applies = by l.kind is_leaf changes applies
        where
          by : (k : LiteralKind) → IsLeaf leaf k l.leaf l.event → ChangesEvents k l.event (step_at trace (last_position trace)).events
              → Applies k l.event events between → AreOwed plans ranks pending time between
          by kind.Cause is_leaf changes after event there = ⊎_elim
              (λ old. owed event old)
              (λ new. ⊎_elim (λ same. subst (IsOwed plans ranks pending time) same (cause_owed leaf l.leaf l.event reached is_leaf)) (λ none. absurd (none_in_nil event none))
              (first_or_later event l.event [] new))
              (Contains-append events (l.event ∷ []) event (subst (λ (k : List Event). Contains k event) after there))
          by kind.Suppress is_leaf present after event there =
              absurd (suppress_clashes leaf l.leaf l.event reached is_leaf (subst (λ (k : List Event). Contains k l.event) is present))

  -- so each event that an inserted step ends with is owed
  pub decided_owed : (trace : List Step) (actions : List Action) (before after : List Event)
      → Decides plans trace pending true time before actions after → AreOwed plans ranks pending time before → AreOwed plans ranks pending time after
  decided_owed trace [] before after (same, nothing) owed = subst (AreOwed plans ranks pending time) (sym same) owed
  decided_owed trace (action ∷ actions) before after (asked, l, between, first, is, applies, rest) owed =
      let now : time_now (trace_with_step trace time before) ≡ time = ap (λ (s : Step). s.time) (last_step trace (record { time = time; events = before })) in
      let front = first_in (trace_with_step trace time before) now (all_asked plans pending) asked l first in
      let part = asked_part (trace_with_step trace time before) now asked l front.1.0 front.0 front.1.1 in
      decided_owed trace actions between after rest
      (applied (trace_with_step trace time before) now before (ap (λ (s : Step). s.events) (last_step trace (record { time = time; events = before }))) owed
      part.0 part.1 part.2 l between part.3 applies)
