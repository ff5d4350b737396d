-- A step over all operators, from the inside out.
use Rattle.enf_data.specs.declared.events.Event.{Event}
use Rattle.enf_data.specs.declared.steps.Step.{Step}
use Rattle.std.specs.Prelude.{◌≡◌, List, [], ◌∷◌, length, ◌++◌, drop, ℕ, All}
use Rattle.enf_formula.specs.meaning.Satisfaction.{Formula}
use Rattle.valuations.specs.machine.Tables.{Relation}
use Rattle.past_state.specs.declared.memories.StepTables.{StepTables}
use Rattle.past_state.specs.declared.operators.OperatorState.{OperatorState}
use Rattle.past_state.specs.machine.InnerOperators.{inner}
use Rattle.past_state.specs.machine.Memories.{IsFor, MemoryStands, AreStepTables, memory_given, IsUpToTimeOf}
use Rattle.past_state.specs.machine.Memories.{IsCommittedTo, FitMemory, IsSameMemory}

-- what is kept for each of the operators, and how many tables it takes
abbrev pub AreFor : List Formula → List OperatorState → Type 0
AreFor [] [] = Unit {0}
AreFor [] (o ∷ operators) = ⊥
AreFor (f ∷ fs) [] = ⊥
AreFor (f ∷ fs) (o ∷ operators) = IsFor f o.memory × (o.taken ≡ length (inner f)) × AreFor fs operators

-- each of the operators stands for the trace
abbrev pub AllStand : List Step → List Formula → List OperatorState → Type 0
AllStand trace [] operators = Unit {0}
AllStand trace (f ∷ fs) [] = ⊥
AllStand trace (f ∷ fs) (o ∷ operators) = MemoryStands trace f o.memory × AllStand trace fs operators

-- each of the operators comes just after those of its operands
abbrev pub AreInsideOut : List Formula → List Formula → Type 0
AreInsideOut before [] = Unit {0}
AreInsideOut before (f ∷ fs) = ((more : List Formula) × (before ≡ inner f ++ more))
    × AreInsideOut (f ∷ drop (length (inner f)) before) fs

-- each operator takes the tables of its operands' operators off the stack, and puts the one that it gives on it
abbrev pub Runs : List Event → ℕ → List Relation → List OperatorState → List StepTables
    → List Relation → Type 0
Runs events time stack [] [] final = stack ≡ final
Runs events time stack [] (t ∷ steps) final = ⊥
Runs events time stack (o ∷ operators) [] final = ⊥
Runs events time stack (o ∷ operators) (t ∷ steps) final = AreStepTables events stack o.memory t
    × Runs events time (memory_given o.memory time t ∷ drop o.taken stack) operators steps final

-- operators of some formulas, each after those of its operands
pub record AreOrderedOperators (operators : List OperatorState) : Type 0 where
  pub formulas : List Formula
  pub are_for : AreFor formulas operators
  pub inside_out : AreInsideOut [] formulas

-- nothing that is kept is later
abbrev pub AreUpToTimeOf : ℕ → List OperatorState → Type 0
AreUpToTimeOf time operators = All (λ o. IsUpToTimeOf time o.memory) operators

abbrev pub OneCommitted : ℕ → OperatorState → StepTables → OperatorState → Type 0
OneCommitted time o t after = (after.taken ≡ o.taken) × IsCommittedTo o.memory time t after.memory

-- the operators after the step is committed to each for which there are tables, in order
abbrev pub AllCommitted : ℕ → List OperatorState → List StepTables → List OperatorState → Type 0
AllCommitted time [] steps after = after ≡ []
AllCommitted time (o ∷ operators) [] after = after ≡ o ∷ operators
AllCommitted time (o ∷ operators) (t ∷ steps) [] = ⊥
AllCommitted time (o ∷ operators) (t ∷ steps) (p ∷ after) = OneCommitted time o t p
    × AllCommitted time operators steps after

-- the tables fit what is kept, one for one
abbrev pub AllMemoriesFit : List OperatorState → List StepTables → Type 0
AllMemoriesFit [] [] = Unit {0}
AllMemoriesFit [] (t ∷ steps) = ⊥
AllMemoriesFit (o ∷ operators) [] = ⊥
AllMemoriesFit (o ∷ operators) (t ∷ steps) = FitMemory o.memory t × AllMemoriesFit operators steps

-- each operator is one of the same kind as before, with the same guards
abbrev pub AreSameKinds : List OperatorState → List OperatorState → Type 0
AreSameKinds [] after = after ≡ []
AreSameKinds (o ∷ operators) [] = ⊥
AreSameKinds (o ∷ operators) (p ∷ after) = (p.taken ≡ o.taken) × IsSameMemory o.memory p.memory
    × AreSameKinds operators after
