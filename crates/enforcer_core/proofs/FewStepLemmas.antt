-- That few steps are emitted for a record: at most one at each time that is over after it, and its own.
use Rattle.enforcer_core.proofs.Vocabulary.{◌≡◌, ℕ, ◌+◌, ◌-◌, ◌≤◌, Bool, true, List, [], ◌∷◌, length, suc, refl, ap, arith, length-map, NameId, Step, StepKind, System, Inserted, AreChangedTo, OutStep}
use Rattle.enforcer_core.proofs.Vocabulary.{onto_system, system_steps, recorded, time_of, ActedStep, out_step, out_steps, TakesAreFew, RiseWithin, RisesBy, acted_step}
use Rattle.enforcer_core.proofs.Vocabulary.{acted_steps}

-- the inserted ones are no more than the times between
rise_few_by : (kind : StepKind) (from until time : ℕ) (o : OutStep) (out : List ActedStep) → from ≤ until
    → ((next : ℕ) → next ≤ until → RiseWithin next until out → length out ≤ length (system_steps (out_steps out)) + (until - next))
    → RisesBy kind from until time (λ next. RiseWithin next until out)
    → length out + 1 ≤ length (onto_system kind o (system_steps (out_steps out))) + (until - from)
rise_few_by System from until time o out le few rise = let l = few from le rise in omega (arith, l)
rise_few_by Inserted from until time o out le few (after, before, rest) =
    let l = few (time + 1) (omega (arith, before)) rest in omega (arith, l, after, before)

rise_few : (from until : ℕ) (out : List ActedStep) → from ≤ until → RiseWithin from until out
    → length out ≤ length (system_steps (out_steps out)) + (until - from)
rise_few from until [] le rise = omega arith
rise_few from until (o ∷ out) le rise =
    let l = rise_few_by o.kind from until o.step.time (out_step o) out le (λ next before then. rise_few next until out before then) rise in
    omega (arith, l)

-- those of the system are as many as were recorded
as_many : (causable suppressible : NameId → Bool) (steps : List Step) (out : List OutStep) → AreChangedTo causable suppressible steps out
    → length out ≡ length steps
as_many causable suppressible [] [] are = refl
as_many causable suppressible [] (o ∷ out) are = absurd are
as_many causable suppressible (step ∷ steps) [] are = absurd are
as_many causable suppressible (step ∷ steps) (o ∷ out) are = ap suc (as_many causable suppressible steps out are.1)

pub takes_are_few : TakesAreFew
takes_are_few before next made after takes =
    let out = acted_steps made.steps in
    let few = rise_few before.clock (time_of next) out takes.in_time.not_over takes.rising in
    let lawful = takes.changed.lawful (λ name. true) (λ name. true) (record { caused = λ name is. refl; suppressed = λ name is. refl }) in
    let same = as_many (λ name. true) (λ name. true) (recorded (next ∷ [])) (system_steps (out_steps out)) lawful.changed in
    omega (arith, few, same, length-map made.steps acted_step)
