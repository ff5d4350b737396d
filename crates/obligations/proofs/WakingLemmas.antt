-- What a plan misses and begins is reached where an event of a name is there that wakes the plan.
use Rattle.obligations.proofs.Vocabulary.{◌≡◌, ℕ, List, [], ◌∷◌, Contains, Option, None, Some, refl, sym, subst, ⊎_elim, option_or, Contains-append_left, Contains-append_right, here, Event, NameId}
use Rattle.obligations.proofs.Vocabulary.{Step, Term, VarId, Formula, Plan, CausePlan, SuppressPlan, Both, Either, TestOr, Guarded, EventuallyPlan, AlwaysPlan, UntilPlan, NextPlan, of_each, triggers}
use Rattle.obligations.proofs.Vocabulary.{waking_names, TriggersAreMet, Begun, Missing, BegunExists, MissingExists, AreMetBy, IsBegunBy, IsLeaf, IsReachedBy, last_events, UnwokenBeginsNothing}
use Rattle.obligations.proofs.Vocabulary.{UnwokenMissesNothing, Instance, Literal, Valuation}
use Rattle.obligations.proofs.TriggeredNodeLemmas.{begun_is_reached, missed_is_reached}
use Rattle.obligations.specs.machine.Leaves.{ChangesEvents}

met_left : (events : List Event) (a b : Option (List NameId)) → AreMetBy events a → AreMetBy events (of_each a b)
met_left events (Some xs) (Some ys) (event, there, named) = (event, there, Contains-append_left xs ys event.name named)
met_left events (Some xs) None met = tt
met_left events None b met = tt

met_right : (events : List Event) (a b : Option (List NameId)) → AreMetBy events b → AreMetBy events (of_each a b)
met_right events (Some xs) (Some ys) (event, there, named) = (event, there, Contains-append_right xs ys event.name named)
met_right events (Some xs) None met = tt
met_right events None b met = tt

met_guard : (events : List Event) (a b : Option (List NameId)) → AreMetBy events a → AreMetBy events b
    → AreMetBy events (option_or a b)
met_guard events (Some xs) b met inner = met
met_guard events None b met inner = inner

-- a node of a kind that stands for itself alone, and of leaves that suppress only where the event is there
record IsWokenEnd (events : List Event) (End : Plan → Type 0) : Type 0 where
  suppressed : (node place : ℕ) (name : NameId) (terms : List Term) → End (SuppressPlan node place name terms)
      → AreMetBy events (Some (name ∷ []))
  no_both : (node : ℕ) (left right : Plan) → End (Both node left right) → ⊥
  no_either : (node : ℕ) (left right : Plan) → End (Either node left right) → ⊥
  no_test : (node guard : ℕ) (test : Formula) (body : Plan) → End (TestOr node guard test body) → ⊥
  no_guard : (node : ℕ) (xs : List VarId) (guard : ℕ) (test : Formula) (body : Plan) → End (Guarded node xs guard test body) → ⊥

module _ (events : List Event) (End : Plan → Type 0) (ends : IsWokenEnd events End) where
  woken : (plan end : Plan) → IsReachedBy events plan end → End end → AreMetBy events (waking_names plan)
  woken (CausePlan node place name terms) end is at = tt
  woken (SuppressPlan node place name terms) end is at = ends.suppressed node place name terms (subst End (sym is) at)
  woken (Both node left right) end reached at =
      ⊎_elim (λ is. absurd (ends.no_both node left right (subst End (sym is) at))) (λ deeper.
      ⊎_elim
      (λ l. met_left events (waking_names left) (waking_names right) (woken left end l at))
      (λ r. met_right events (waking_names left) (waking_names right) (woken right end r at)) deeper) reached
  woken (Either node left right) end reached at =
      ⊎_elim (λ is. absurd (ends.no_either node left right (subst End (sym is) at))) (λ deeper.
      ⊎_elim
      (λ l. met_left events (waking_names left) (waking_names right) (woken left end l at))
      (λ r. met_right events (waking_names left) (waking_names right) (woken right end r at)) deeper) reached
  woken (TestOr node guard test body) end reached at =
      ⊎_elim (λ is. absurd (ends.no_test node guard test body (subst End (sym is) at)))
      (λ deeper. woken body end deeper at) reached
  woken (Guarded node xs guard test body) end reached at =
      ⊎_elim (λ is. absurd (ends.no_guard node xs guard test body (subst End (sym is) at)))
      (λ deeper. met_guard events (triggers test) (waking_names body) deeper.0 (woken body end deeper.1 at)) reached
  woken (EventuallyPlan node place low high body) end reached at = tt
  woken (AlwaysPlan node place low high body) end reached at = tt
  woken (UntilPlan node place low high left right) end reached at = tt
  woken (NextPlan node place high body) end reached at = tt

-- the leaf of a literal, which changes the events
abbrev IsLeafOf : List Event → Literal → Plan → Type 0
IsLeafOf events l leaf = IsLeaf leaf l.kind l.leaf l.event × ChangesEvents l.kind l.event events

leaves_end : (events : List Event) (l : Literal) → IsWokenEnd events (IsLeafOf events l)
leaves_end events l = record {
  suppressed = λ node place name terms at. (
    l.event,
    subst (λ k. ChangesEvents k l.event events) at.0.0 at.1,
    subst (Contains (name ∷ [])) (sym at.0.2) (here name []),
  );
  no_both = λ node left right at. at.0;
  no_either = λ node left right at. at.0;
  no_test = λ node guard test body at. at.0;
  no_guard = λ node xs guard test body at. at.0;
}

begun_ends : (trace : List Step) (rule : ℕ) (i : Instance) → IsWokenEnd (last_events trace) (λ node. IsBegunBy trace rule node i)
begun_ends trace rule i = record {
  suppressed = λ node place name terms at. absurd at;
  no_both = λ node left right at. at;
  no_either = λ node left right at. at;
  no_test = λ node guard test body at. at;
  no_guard = λ node xs guard test body at. at;
}

pub unwoken_misses_nothing : TriggersAreMet → MissingExists → UnwokenMissesNothing
unwoken_misses_nothing triggered exist guards trace plan v can asleep =
    let found = exist guards trace plan v can in
    by found.0 found.1
  where
    by : (literals : List Literal) → Missing trace plan v literals → Missing trace plan v []
    by [] missing = missing
    by (l ∷ literals) missing =
        let (leaf, reached, is, changes) = missed_is_reached triggered trace plan v (l ∷ literals) l missing (here l literals) in
        absurd (asleep (woken (last_events trace) (IsLeafOf (last_events trace) l) (leaves_end (last_events trace) l) plan leaf reached (is, changes)))

pub unwoken_begins_nothing : TriggersAreMet → BegunExists → UnwokenBeginsNothing
unwoken_begins_nothing triggered exist guards trace rule plan v can asleep =
    let found = exist guards trace rule plan v can in
    by found.0 found.1
  where
    by : (begun : List Instance) → Begun trace rule plan v begun → Begun trace rule plan v []
    by [] begins = begins
    by (i ∷ begun) begins =
        let (node, reached, is) = begun_is_reached triggered trace rule plan v (i ∷ begun) i begins (here i begun) in
        absurd (asleep (woken (last_events trace) (λ n. IsBegunBy trace rule n i) (begun_ends trace rule i) plan node reached is))
