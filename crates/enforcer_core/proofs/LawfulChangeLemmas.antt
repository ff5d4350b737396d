-- What is emitted changes the records lawfully: one step, one after another, and none.
use Rattle.enforcer_core.proofs.Vocabulary.{◌≡◌, ℕ, ◌+◌, ◌≤◌, Bool, List, [], ◌∷◌, ◌++◌, map, sym, ap, subst, arith, map-append, All-cons, All-nil, HasNoRepeats, Event, NameId, Step, LawfulJoins}
use Rattle.enforcer_core.proofs.Vocabulary.{WithinJoins, AreChangedTo, IsInsertedLawfully, IsLaterThan, Lawful, IsUntil, IsWithin, OutStep, event_of, onto_system, system_steps, Record, StepRecord}
use Rattle.enforcer_core.proofs.Vocabulary.{recorded, StepKind, Inserted, System, NothingClashes, Plan, ActsFrom, ActedStep, out_step, out_steps, ActionsAreLawful, CausesAlone, EventsAreActedOnOnce}
use Rattle.enforcer_core.proofs.Vocabulary.{ChangesLawfully, Permits}
use Rattle.choice_step.specs.meaning.ActedSteps as choice

pub out_join : (out more : List ActedStep) → out_steps (out ++ more) ≡ out_steps out ++ out_steps more
out_join out more = map-append choice.out_step out more

-- where nothing is emitted
pub none_changes : (plans : List Plan) (from to : ℕ) (records : List Record) → recorded records ≡ [] → ChangesLawfully plans from to records []
none_changes plans from to records none = record {
  lawful = λ causable suppressible may. record {
    changed = subst (λ (steps : List Step). AreChangedTo causable suppressible steps []) (sym none) tt;
    inserted = All-nil (λ (o : OutStep). IsInsertedLawfully causable suppressible o o.kind);
    once = All-nil (λ (o : OutStep). HasNoRepeats (map event_of o.changes));
    in_order = tt;
  };
  within = record { from = All-nil (λ (o : OutStep). from ≤ o.step.time); until = All-nil (λ (o : OutStep). IsUntil to o.kind o.step.time) };
}

-- one step
module _ (plans : List Plan) (from to : ℕ) (records : List Record) (o : ActedStep) where
  abbrev shown : OutStep
  shown = out_step o

  one_changes : (later : from ≤ o.step.time) → IsUntil to o.kind o.step.time → HasNoRepeats (map event_of shown.changes)
      → ((causable suppressible : NameId → Bool) → Permits causable suppressible plans
      → AreChangedTo causable suppressible (recorded records) (system_steps (shown ∷ [])) × IsInsertedLawfully causable suppressible shown o.kind)
      → ChangesLawfully plans from to records (o ∷ [])
  one_changes later until once changed = record {
    lawful = λ causable suppressible may. let lawfully = changed causable suppressible may in record {
      changed = lawfully.0;
      inserted = All-cons (λ (p : OutStep). IsInsertedLawfully causable suppressible p p.kind) shown [] lawfully.1 (All-nil (λ (p : OutStep). IsInsertedLawfully causable suppressible p p.kind));
      once = All-cons (λ (p : OutStep). HasNoRepeats (map event_of p.changes)) shown [] once (All-nil (λ (p : OutStep). HasNoRepeats (map event_of p.changes)));
      in_order = (All-nil (λ (p : OutStep). IsLaterThan shown.kind p.kind shown.step.time p.step.time), tt);
    };
    within = record {
      from = All-cons (λ (p : OutStep). from ≤ p.step.time) shown [] later (All-nil (λ (p : OutStep). from ≤ p.step.time));
      until = All-cons (λ (p : OutStep). IsUntil to p.kind p.step.time) shown [] until (All-nil (λ (p : OutStep). IsUntil to p.kind p.step.time));
    };
  }

-- of the system
pub system_changes : ActionsAreLawful → EventsAreActedOnOnce → (plans : List Plan) → NothingClashes plans
    → (from time : ℕ) → from ≤ time → (events : List Event) → HasNoRepeats events → (o : ActedStep)
    → o.kind ≡ System → o.step.time ≡ time → ActsFrom plans events o.actions o.step.events
    → ChangesLawfully plans from time (StepRecord (record { time = time; events = events }) ∷ []) (o ∷ [])
system_changes leads once plans roles from time later events distinct o kind at acts =
    one_changes plans from time (StepRecord (record { time = time; events = events }) ∷ []) o (omega (arith, later, at))
    (subst (λ (k : StepKind). IsUntil time k o.step.time) (sym kind) (omega (arith, at)))
    (once plans events o.actions o.step.events roles distinct acts)
    (λ causable suppressible may. (
      subst (AreChangedTo causable suppressible (record { time = time; events = events } ∷ []))
          (sym (ap (λ (k : StepKind). onto_system k (out_step o) []) kind)) (
            record { same_time = at; changed = leads plans causable suppressible events o.actions o.step.events may.caused may.suppressed acts },
            tt,
          ),
      subst (IsInsertedLawfully causable suppressible (out_step o)) (sym kind) tt,
    ))

-- inserted
pub inserted_changes : ActionsAreLawful → EventsAreActedOnOnce → CausesAlone → (plans : List Plan) → NothingClashes plans
    → (from time : ℕ) → from ≤ time → (o : ActedStep) → o.kind ≡ Inserted → o.step.time ≡ time
    → ActsFrom plans [] o.actions o.step.events → ChangesLawfully plans from (time + 1) [] (o ∷ [])
inserted_changes leads once causes plans roles from time later o kind at acts =
    one_changes plans from (time + 1) [] o (omega (arith, later, at))
    (subst (λ (k : StepKind). IsUntil (time + 1) k o.step.time) (sym kind) (omega (arith, at)))
    (once plans [] o.actions o.step.events roles tt acts)
    (λ causable suppressible may. (
      subst (AreChangedTo causable suppressible []) (sym (ap (λ (k : StepKind). onto_system k (out_step o) []) kind)) tt,
      subst (IsInsertedLawfully causable suppressible (out_step o)) (sym kind) (
        leads plans causable suppressible [] o.actions o.step.events may.caused may.suppressed acts,
        causes plans o.actions o.step.events roles acts,
      ),
    ))

-- one after another
pub changes_join : WithinJoins → LawfulJoins → (plans : List Plan) (from middle to : ℕ) (records others : List Record)
    (out more : List ActedStep) → from ≤ middle → middle ≤ to → ChangesLawfully plans from middle records out
    → ChangesLawfully plans middle to others more → ChangesLawfully plans from to (records ++ others) (out ++ more)
changes_join within lawful plans from middle to records others out more later then first second = record {
  lawful = λ causable suppressible may. subst (Lawful causable suppressible (records ++ others)) (sym (out_join out more))
      (lawful causable suppressible from middle to records others (out_steps out) (out_steps more) first.within second.within
      (first.lawful causable suppressible may) (second.lawful causable suppressible may));
  within = subst (IsWithin from to) (sym (out_join out more))
      (within from middle to (out_steps out) (out_steps more) later then first.within second.within);
}
