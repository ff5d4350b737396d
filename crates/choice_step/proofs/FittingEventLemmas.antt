-- The events that are emitted pass a test: at a step action by action, and then step by step.
use Rattle.choice_step.proofs.Vocabulary.{◌≡◌, ◌∙◌, ℕ, zero, suc, ◌<◌, Bool, IsTrue, List, [], ◌∷◌, ◌++◌, length, Contains, Option, None, Some, ⊎_elim, refl, sym, subst, arith, length-append}
use Rattle.choice_step.proofs.Vocabulary.{AllByRecursion, AllByRecursion-append, AllByRecursion-contains, Contains-append, first_or_later, here, none_in_nil, Valuation, no_values, values_of_terms}
use Rattle.choice_step.proofs.Vocabulary.{Event, NameId, Step, VarId, Value, Contains-insert, Formula, Record, StepRecord, Tick, recorded, time_of, StepKind, System, Inserted, Plan, CausePlan}
use Rattle.choice_step.proofs.Vocabulary.{SuppressPlan, Both, Either, TestOr, Guarded, EventuallyPlan, AlwaysPlan, UntilPlan, NextPlan, AtEach-below, AtEach-root, AtEach, scoped_nodes, AreWellFormed}
use Rattle.choice_step.proofs.Vocabulary.{IsLeaf, terms_of, time_now, Pend, AreRight, IsRightLiteral, MissedIsRight, MissedOfIsRight, Action, Instance, Literal, LiteralKind, Applies, ActedStep}
use Rattle.choice_step.proofs.Vocabulary.{is_inserted, steps_of, Follows, GoesOut, InsertsSteps, StepGoesOut, Candidate, Decides, IsFirstMissing, all_asked, is_forced, trace_with_step, TraceEventsFit}
use Rattle.choice_step.proofs.Vocabulary.{CausesFit, EventsFit, KeepFitting, DecidedFits, DrainFits, FollowedFits}
use Rattle.choice_step.proofs.JustificationLemmas.{MissesRoot, MissesWaiting, first_of}
use Rattle.obligations.specs.declared.literals.LiteralKind.TheVariants as kind

-- ---- the event of a leaf that causes

abbrev IsCausing : LiteralKind → Type 0
IsCausing kind.Cause = Unit {0}
IsCausing kind.Suppress = ⊥

leaf_fits : (fits : Event → Bool) (right : VarId → Value → Bool) (leaf : Plan) (scope : List VarId) → CausesFit fits right leaf scope → (v : Valuation) → AreRight right scope v
    → (k : LiteralKind) (number : ℕ) (event : Event) → IsLeaf leaf k number event → values_of_terms v (terms_of leaf) ≡ Some event.args
    → k ≡ kind.Cause → IsTrue (fits event)
leaf_fits fits right (CausePlan node place name terms) scope fit v values k number event is args causing =
    subst (λ (n : NameId). IsTrue (fits (record { name = n; args = event.args }))) (sym is.2) (fit v event.args values args)
leaf_fits fits right (SuppressPlan node place name terms) scope fit v values k number event is args causing =
    absurd (subst IsCausing (sym causing ∙ is.0) tt)
leaf_fits fits right (Both node left other) scope fit v values k number event is args causing = absurd is
leaf_fits fits right (Either node left other) scope fit v values k number event is args causing = absurd is
leaf_fits fits right (TestOr node guard test body) scope fit v values k number event is args causing = absurd is
leaf_fits fits right (Guarded node xs guard test body) scope fit v values k number event is args causing = absurd is
leaf_fits fits right (EventuallyPlan node place low high body) scope fit v values k number event is args causing = absurd is
leaf_fits fits right (AlwaysPlan node place low high body) scope fit v values k number event is args causing = absurd is
leaf_fits fits right (UntilPlan node place low high left other) scope fit v values k number event is args causing = absurd is
leaf_fits fits right (NextPlan node place high body) scope fit v values k number event is args causing = absurd is

literal_fits : (fits : Event → Bool) (right : VarId → Value → Bool) (plan : Plan) → AtEach (CausesFit fits right) plan [] → (literal : Literal)
    → IsRightLiteral right plan [] literal → literal.kind ≡ kind.Cause → IsTrue (fits literal.event)
literal_fits fits right plan causes literal w causing =
    let each = AllByRecursion-contains (λ (n : Plan × List VarId). AtEach (CausesFit fits right) n.0 n.1) (scoped_nodes plan []) (w.leaf, w.scope_there)
    (AtEach-below (CausesFit fits right) plan [] causes) w.there in
    leaf_fits fits right w.leaf w.scope_there (AtEach-root (CausesFit fits right) w.leaf w.scope_there each) w.valuation w.values
    literal.kind literal.leaf literal.event w.is w.args causing

module _ (fits : Event → Bool) where
  -- ---- lists of events

  one_more : (events : List Event) (event : Event) → EventsFit fits events → IsTrue (fits event) → EventsFit fits (events ++ event ∷ [])
  one_more events event fit passes other there =
      ⊎_elim (λ old. fit other old)
      (λ new. ⊎_elim (λ same. subst (λ (e : Event). IsTrue (fits e)) same passes) (λ none. absurd (none_in_nil other none)) (first_or_later other event [] new))
      (Contains-append events (event ∷ []) other there)

  applied : (k : LiteralKind) (event : Event) (before between : List Event) → (k ≡ kind.Cause → IsTrue (fits event)) → EventsFit fits before
      → Applies k event before between → EventsFit fits between
  applied kind.Cause event before between passes fit applies = subst (EventsFit fits) (sym applies) (one_more before event fit (passes refl))
  applied kind.Suppress event before between passes fit applies =
      λ other there.
      fit other
      (subst (λ (l : List Event). Contains l other) (sym applies.was)
      (Contains-insert applies.front applies.back event other (subst (λ (l : List Event). Contains l other) applies.is there)))

  -- ---- traces

  both_fit : (front back : List Step) → TraceEventsFit fits front → TraceEventsFit fits back → TraceEventsFit fits (front ++ back)
  both_fit [] back first second i event there = second i event there
  both_fit (step ∷ front) back first second zero event there = first zero event there
  both_fit (step ∷ front) back first second (suc i) event there = both_fit front back (λ j e at. first (suc j) e at) second i event there

  none_fit : TraceEventsFit fits []
  none_fit zero event there = absurd (none_in_nil event there)
  none_fit (suc i) event there = absurd (none_in_nil event there)

  step_fits : (step : Step) → EventsFit fits step.events → TraceEventsFit fits (step ∷ [])
  step_fits step fit zero event there = fit event there
  step_fits step fit (suc i) event there = none_fit i event there

  abbrev OutFits : List ActedStep → Type 0
  OutFits = AllByRecursion (λ (o : ActedStep). EventsFit fits o.step.events)

  out_fits : (out : List ActedStep) → OutFits out → TraceEventsFit fits (steps_of out)
  out_fits [] fit = none_fit
  out_fits (o ∷ out) fit = both_fit (o.step ∷ []) (steps_of out) (step_fits o.step fit.0) (out_fits out fit.1)

  with_out : (trace : List Step) (out : List ActedStep) → TraceEventsFit fits trace → OutFits out → TraceEventsFit fits (trace ++ steps_of out)
  with_out trace out fit fit_out = both_fit trace (steps_of out) fit (out_fits out fit_out)

  module _ (missed : MissedIsRight) (missed_of : MissedOfIsRight) (guards : List (Formula × List VarId)) (plans : List Plan) (right : (rule : ℕ) → VarId → Value → Bool)
      (well : AreWellFormed plans guards) (keep : KeepFitting plans fits right) where
    module _ (trace : List Step) (fit : TraceEventsFit fits trace) where
      -- ---- one step

      module _ (pending : List Instance) (pend : Pend plans trace pending) (inserted : Bool) (time : ℕ) where
        first_fits : (before : List Event) → EventsFit fits before → (asked : Candidate) (literal : Literal)
            → IsFirstMissing plans inserted (trace_with_step trace time before) (all_asked plans pending) asked literal
            → literal.kind ≡ kind.Cause → IsTrue (fits literal.event)
        first_fits before fit_before asked literal first causing =
            let step : Step = record { time = time; events = before } in
            let longer : List Step = trace_with_step trace time before in
            let give = keep.give longer (both_fit trace (step ∷ []) fit (step_fits step fit_before)) in
            ⊎_elim
            (λ (w : MissesWaiting plans inserted longer pending asked literal).
            let is = missed_of plans guards trace step pending right w.i (is_forced inserted (time_now longer) w.i) (literal ∷ w.rest) literal well give pend w.there w.misses (here literal w.rest) in
            literal_fits fits (right w.i.rule) is.plan (keep.causes w.i.rule is.plan is.of_rule) literal is.is causing)
            (λ (r : MissesRoot longer 0 plans asked literal).
            let some : 0 < length longer = omega (arith, length-append trace (step ∷ [])) in
            let is = missed longer r.plan [] (right r.rule) no_values (literal ∷ r.rest) literal some
            (give r.rule r.plan r.of_rule) (λ x value none at. absurd (none_in_nil x none)) r.misses
            (here literal r.rest) in
            literal_fits fits (right r.rule) r.plan (keep.causes r.rule r.plan r.of_rule) literal is causing)
            (first_of plans pending inserted longer asked literal first)

        pub decided_fits : (before : List Event) (actions : List Action) (after : List Event) → EventsFit fits before
            → Decides plans trace pending inserted time before actions after → EventsFit fits after
        decided_fits before [] after fit_before decides = subst (EventsFit fits) (sym decides.0) fit_before
        decided_fits before (action ∷ actions) after fit_before (asked, literal, between, first, acts, applies, more) =
            decided_fits between actions after (applied literal.kind literal.event before between (first_fits before fit_before asked literal first) fit_before applies) more

      emitted_fits : (k : StepKind) (time : ℕ) (events : List Event) (o : ActedStep) → EventsFit fits events → GoesOut plans trace k time events o → EventsFit fits o.step.events
      emitted_fits k time events o fit_events goes =
          decided_fits goes.pending goes.pend (is_inserted k) time events o.actions o.step.events fit_events goes.decided

    -- ---- step by step

    inserts_fit : (out : List ActedStep) (trace : List Step) (until : Option ℕ) → TraceEventsFit fits trace → InsertsSteps plans trace until out → OutFits out
    inserts_fit [] trace until fit inserts = tt
    inserts_fit (o ∷ out) trace until fit (deadline, least, passed, goes, more) =
        let now = emitted_fits trace fit Inserted deadline [] o (λ event none. absurd (none_in_nil event none)) goes in
        (now, inserts_fit out (trace ++ o.step ∷ []) until (both_fit trace (o.step ∷ []) fit (step_fits o.step now)) more)

    record_fits : (next : Record) (records : List Record) (trace : List Step) (answer : List ActedStep) → TraceEventsFit fits trace → TraceEventsFit fits (recorded (next ∷ records))
        → StepGoesOut plans trace next answer → OutFits answer × TraceEventsFit fits (recorded records)
    record_fits (StepRecord step) records trace answer fit given (o, goes, is) = (
      subst OutFits (sym is) (emitted_fits trace fit System step.time step.events o (λ event there. given zero event there) goes, tt),
      λ i event there. given (suc i) event there,
    )
    record_fits (Tick time) records trace answer fit given is = (subst OutFits (sym is) tt, given)

    follows_fit : (records : List Record) (trace : List Step) (out : List ActedStep) → TraceEventsFit fits trace → TraceEventsFit fits (recorded records)
        → Follows plans trace records out → OutFits out
    follows_fit [] trace out fit given is = subst OutFits (sym is) tt
    follows_fit (next ∷ records) trace out fit given (inserted, answer, rest, inserts, goes, follows, are) =
        let first : OutFits inserted = inserts_fit inserted trace (Some (time_of next)) fit inserts in
        let second = record_fits next records (trace ++ steps_of inserted) answer (with_out trace inserted fit first) given goes in
        let here_fit : OutFits (inserted ++ answer) = AllByRecursion-append (λ (o : ActedStep). EventsFit fits o.step.events) inserted answer first second.0 in
        let others = follows_fit records (trace ++ steps_of (inserted ++ answer)) rest (with_out trace (inserted ++ answer) fit here_fit) second.1 follows in
        subst OutFits (sym are) (AllByRecursion-append (λ (o : ActedStep). EventsFit fits o.step.events) (inserted ++ answer) rest here_fit others)

pub decided_fit : MissedIsRight → MissedOfIsRight → DecidedFits
decided_fit missed missed_of guards plans trace pending inserted time before actions after fits right well keep fit pend fit_before decides =
    decided_fits fits missed missed_of guards plans right well keep trace fit pending pend inserted time before actions after fit_before decides

pub followed_fit : MissedIsRight → MissedOfIsRight → FollowedFits
followed_fit missed missed_of guards plans trace records out fits right well keep fit given follows =
    with_out fits trace out fit (follows_fit fits missed missed_of guards plans right well keep records trace out fit given follows)

pub drain_fits : MissedIsRight → MissedOfIsRight → DrainFits
drain_fits missed missed_of guards plans trace out fits right well keep fit inserts =
    with_out fits trace out fit (inserts_fit fits missed missed_of guards plans right well keep out trace None fit inserts)
