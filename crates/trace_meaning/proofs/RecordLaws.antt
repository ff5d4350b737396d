-- Records and what is emitted, one list after another.
use Rattle.enf_data.specs.declared.events.NameId.{NameId}
use Rattle.enf_data.specs.declared.steps.Step.{Step}
use Rattle.std.proofs.Common.{ap, refl, ◌∙◌, subst, sym}
use Rattle.std.specs.Prelude.{◌≡◌, List, [], ◌∷◌, ◌++◌, Bool}
use Rattle.trace_meaning.specs.declared.kinds.StepKind.{StepKind}
use Rattle.trace_meaning.specs.declared.kinds.StepKind.TheVariants.{Inserted, System}
use Rattle.trace_meaning.specs.meaning.Traces.{AreChangedTo, OutStep, onto_system, system_steps, Record, StepRecord, Tick, recorded}

pub recorded_join : (records more : List Record) → recorded (records ++ more) ≡ recorded records ++ recorded more
recorded_join [] more = refl
recorded_join (StepRecord step ∷ records) more = ap (λ steps. step ∷ steps) (recorded_join records more)
recorded_join (Tick time ∷ records) more = recorded_join records more

onto_join : (kind : StepKind) (o : OutStep) (out more : List OutStep)
    → onto_system kind o (out ++ more) ≡ onto_system kind o out ++ more
onto_join System o out more = refl
onto_join Inserted o out more = refl

system_join : (out more : List OutStep) → system_steps (out ++ more) ≡ system_steps out ++ system_steps more
system_join [] more = refl
system_join (o ∷ out) more =
    ap (onto_system o.kind o) (system_join out more) ∙ onto_join o.kind o (system_steps out) (system_steps more)

-- what steps were changed to, and after it what more of them were changed to
module _ (causable suppressible : NameId → Bool) where
  changed_join : (steps more : List Step) (out others : List OutStep) → AreChangedTo causable suppressible steps out
      → AreChangedTo causable suppressible more others
      → AreChangedTo causable suppressible (steps ++ more) (out ++ others)
  changed_join [] more [] others first then = then
  changed_join [] more (o ∷ out) others first then = absurd first
  changed_join (step ∷ steps) more [] others first then = absurd first
  changed_join (step ∷ steps) more (o ∷ out) others first then =
      (first.0, changed_join steps more out others first.1 then)

  pub records_changed_join : (records more : List Record) (out others : List OutStep)
      → AreChangedTo causable suppressible (recorded records) (system_steps out)
      → AreChangedTo causable suppressible (recorded more) (system_steps others)
      → AreChangedTo causable suppressible (recorded (records ++ more)) (system_steps (out ++ others))
  records_changed_join records more out others first then =
      subst (λ (steps : List Step). AreChangedTo causable suppressible steps (system_steps (out ++ others)))
      (sym (recorded_join records more))
      (subst (AreChangedTo causable suppressible (recorded records ++ recorded more)) (sym (system_join out others))
      (changed_join (recorded records) (recorded more) (system_steps out) (system_steps others) first then))
