-- Operators to which a step is committed one after another.
use Rattle.past_state.proofs.Vocabulary.{◌≡◌, ◌∙◌, ℕ, zero, suc, ◌+◌, ◌<◌, ◌≤◌, List, [], ◌∷◌, ◌++◌, length, get_or, set, refl, sym, ap, subst, arith, length-append, All-get_or, All-nil, All-cons}
use Rattle.past_state.proofs.Vocabulary.{Memory, FitMemory, IsUpToTimeOf, IsCommittedTo, IsSameMemory, AllMemoriesFit, AreUpToTimeOf, OneCommitted, AllCommitted, AreSameKinds, StepTables}
use Rattle.past_state.proofs.Vocabulary.{OperatorState}
use Rattle.past_state.proofs.MemoryLemmas.{same_itself, same_then}
use Rattle.past_state.specs.declared.prev_operands.Operand.{Operand}
use Rattle.past_state.specs.declared.prev_operands.Operand.TheVariants as asked
use Rattle.past_state.specs.machine.Memories.{IsSlotAfter}
use Rattle.valuations.specs.machine.Tables.{Relation}
use Rattle.windows.specs.machine.Slots.{IsUpToTime, Slot}
use Rattle.past_state.specs.declared.memories.Memory.TheVariants as memories

pub within : (operators : List OperatorState) (front back : List StepTables) (t : StepTables) → AllMemoriesFit operators (front ++ t ∷ back) → length front < length operators
within [] [] back t fit = absurd fit
within [] (s ∷ front) back t fit = absurd fit
within (o ∷ operators) [] back t fit = omega arith
within (o ∷ operators) (s ∷ front) back t fit = omega (arith, within operators front back t fit.1)

pub fit_at : (operators : List OperatorState) (front back : List StepTables) (t : StepTables) (d : OperatorState) → AllMemoriesFit operators (front ++ t ∷ back)
    → FitMemory (get_or operators (length front) d).memory t
fit_at [] [] back t d fit = absurd fit
fit_at [] (s ∷ front) back t d fit = absurd fit
fit_at (o ∷ operators) [] back t d fit = fit.0
fit_at (o ∷ operators) (s ∷ front) back t d fit = fit_at operators front back t d fit.1

pub commit_none : (time : ℕ) (operators : List OperatorState) → AllCommitted time operators [] operators
commit_none time [] = refl
commit_none time (o ∷ operators) = refl

pub uncommitted : (time : ℕ) (operators : List OperatorState) (front : List StepTables) (now : List OperatorState) (d : OperatorState) → AllCommitted time operators front now
    → length front < length operators → get_or now (length front) d ≡ get_or operators (length front) d
uncommitted time [] front now d committed below = absurd (omega (arith, below))
uncommitted time (o ∷ operators) [] now d committed below = ap (λ l. get_or l 0 d) committed
uncommitted time (o ∷ operators) (s ∷ front) [] d committed below = absurd committed
uncommitted time (o ∷ operators) (s ∷ front) (p ∷ now) d committed below = uncommitted time operators front now d committed.1 (omega (arith, below))

pub commit_next : (time : ℕ) (operators : List OperatorState) (front : List StepTables) (t : StepTables) (now : List OperatorState) (after : OperatorState) (d : OperatorState)
    → length front < length operators
    → AllCommitted time operators front now → OneCommitted time (get_or operators (length front) d) t after → AllCommitted time operators (front ++ t ∷ []) (set now (length front) after)
commit_next time [] front t now after d below committed one = absurd (omega (arith, below))
commit_next time (o ∷ operators) [] t now after d below committed one =
    subst (λ l. AllCommitted time (o ∷ operators) (t ∷ []) (set l 0 after)) (sym committed) (one, commit_none time operators)
commit_next time (o ∷ operators) (s ∷ front) t [] after d below committed one = absurd committed
commit_next time (o ∷ operators) (s ∷ front) t (p ∷ now) after d below committed one = (committed.0, commit_next time operators front t now after d (omega (arith, below)) committed.1 one)

pub same_length : (time : ℕ) (operators : List OperatorState) (front : List StepTables) (now : List OperatorState) → AllCommitted time operators front now → length now ≡ length operators
same_length time [] front now committed = ap length committed
same_length time (o ∷ operators) [] now committed = ap length committed
same_length time (o ∷ operators) (t ∷ front) [] committed = absurd committed
same_length time (o ∷ operators) (t ∷ front) (p ∷ now) committed = ap suc (same_length time operators front now committed.1)

pub up_to_at : (time : ℕ) (operators : List OperatorState) (front back : List StepTables) (t : StepTables) (d : OperatorState) → AllMemoriesFit operators (front ++ t ∷ back)
    → AreUpToTimeOf time operators
    → IsUpToTimeOf time (get_or operators (length front) d).memory
up_to_at time operators front back t d fit up_to = All-get_or (λ o. IsUpToTimeOf time o.memory) operators (length front) d (within operators front back t fit) up_to

pub below : (time : ℕ) (operators now : List OperatorState) (steps front back : List StepTables) (t : StepTables) (place : ℕ) → AllMemoriesFit operators steps → steps
    ≡ front ++ t ∷ back → place ≡ length front
    → AllCommitted time operators front now → place < length now
below time operators now steps front back t place fit split at committed_so_far =
    omega (arith, at, within operators front back t (subst (AllMemoriesFit operators) split fit), same_length time operators front now committed_so_far)

-- the turn of the loop at the next step
module _ (time : ℕ) (operators now : List OperatorState) (steps front back : List StepTables) (t : StepTables) (place : ℕ) (o : OperatorState)
    (fit : AllMemoriesFit operators steps) (split : steps ≡ front ++ t ∷ back) (at : place ≡ length front) (committed_so_far : AllCommitted time operators front now) where
  fits : AllMemoriesFit operators (front ++ t ∷ back)
  fits = subst (AllMemoriesFit operators) split fit

  is_old : o ≡ get_or now place o → o ≡ get_or operators (length front) o
  is_old is = is ∙ ap (λ n. get_or now n o) at ∙ uncommitted time operators front now o committed_so_far (within operators front back t fits)

  pub fits_here : o ≡ get_or now place o → FitMemory o.memory t
  fits_here is = subst (λ p. FitMemory p.memory t) (sym (is_old is)) (fit_at operators front back t o fits)

  pub up_to_here : o ≡ get_or now place o → AreUpToTimeOf time operators → IsUpToTimeOf time o.memory
  up_to_here is up_to = subst (λ p. IsUpToTimeOf time p.memory) (sym (is_old is)) (up_to_at time operators front back t o fits up_to)

  pub next_committed : (after : OperatorState) → o ≡ get_or now place o → OneCommitted time o t after → AllCommitted time operators (front ++ t ∷ []) (set now place after)
  next_committed after is one =
      subst (λ n. AllCommitted time operators (front ++ t ∷ []) (set now n after)) (sym at)
      (commit_next time operators front t now after o (within operators front back t fits) committed_so_far (subst (λ p. OneCommitted time p t after) (is_old is) one))

-- each stays of its kind
pub same_all : (operators : List OperatorState) → AreSameKinds operators operators
same_all [] = refl
same_all (o ∷ operators) = (refl, same_itself o.memory, same_all operators)

pub same_set : (operators now : List OperatorState) (place : ℕ) (o after : OperatorState) → AreSameKinds operators now → place < length now → o ≡ get_or now place o
    → after.taken ≡ o.taken → IsSameMemory o.memory after.memory
    → AreSameKinds operators (set now place after)
same_set [] now place o after same below is taken memory = absurd (omega (arith, below, ap length same))
same_set (p ∷ operators) [] place o after same below is taken memory = absurd same
same_set (p ∷ operators) (q ∷ now) zero o after same below is taken memory =
    (taken ∙ ap (λ x. x.taken) is ∙ same.0, same_then p.memory q.memory after.memory same.1 (subst (λ x. IsSameMemory x.memory after.memory) is memory), same.2)
same_set (p ∷ operators) (q ∷ now) (suc place) o after same below is taken memory = (same.0, same.1, same_set operators now place o after same.2 (omega (arith, below)) is taken memory)

pub lengths_add : {X : Type 0} (front : List X) (x : X) (place : ℕ) → place ≡ length front → place + 1 ≡ length (front ++ x ∷ [])
lengths_add front x place e = omega (arith, e, length-append front (x ∷ []))

-- what is committed at a time is not later than it
slot_up_to : (time later : ℕ) (operand : Operand) (slot : Slot) (right : Relation) (after : Slot) → time ≤ later → IsSlotAfter operand slot time right after → IsUpToTime later after.last
slot_up_to time later (asked.Whole guard) slot right after within is = subst (λ s. IsUpToTime later s.last) (sym is) within
slot_up_to time later (asked.Growing guard) slot right after within is = subst (λ s. IsUpToTime later s.last) (sym is.after_is) within

one_up_to : (time later : ℕ) (m : Memory) (t : StepTables) (after : Memory) → time ≤ later → IsCommittedTo m time t after → IsUpToTimeOf later after
one_up_to time later (memories.Prev slot operand) t after within committed = subst (IsUpToTimeOf later) (sym committed.2) (slot_up_to time later operand slot t.right committed.0 within committed.1)
one_up_to time later (memories.Once window right) t after within committed = subst (IsUpToTimeOf later) (sym committed.2) (omega (arith, committed.1.last_is))
one_up_to time later (memories.Since window left left_tables right) t after within committed = subst (IsUpToTimeOf later) (sym committed.2) (omega (arith, committed.1.last_is))

pub all_up_to : (time later : ℕ) (operators : List OperatorState) (steps : List StepTables) (after : List OperatorState) → time ≤ later → AllMemoriesFit operators steps
    → AllCommitted time operators steps after → AreUpToTimeOf later after
all_up_to time later [] steps after within fit committed = subst (AreUpToTimeOf later) (sym committed) (All-nil _)
all_up_to time later (o ∷ operators) [] after within fit committed = absurd fit
all_up_to time later (o ∷ operators) (t ∷ steps) [] within fit committed = absurd committed
all_up_to time later (o ∷ operators) (t ∷ steps) (p ∷ after) within fit committed =
    All-cons (λ q. IsUpToTimeOf later q.memory) p after (one_up_to time later o.memory t p.memory within committed.0.1) (all_up_to time later operators steps after within fit.1 committed.1)
