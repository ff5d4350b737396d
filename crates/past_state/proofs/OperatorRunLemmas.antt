-- A step over all operators.
use Rattle.past_state.proofs.Vocabulary.{◌≡◌, ◌∙◌, ◌↔◌, inr, ⊎_elim, ℕ, zero, suc, ◌+◌, ◌-◌, ◌<◌, ◌≤◌, IsTrue, List, [], ◌∷◌, ◌++◌, length, take, drop, reverse, get_or, All, Contains, sym, ap, subst}
use Rattle.past_state.proofs.Vocabulary.{arith, drop-append_seam, take_more, reverse-append, All-head, All-tail, Event, Step, VarId, Formula, Prev, Once, Historically, Since, IsFree, is_past}
use Rattle.past_state.proofs.Vocabulary.{FitOperators, TablesStandFor, fit_short, last_time, Relation, IsFor, AreStepTables, CanStep, memory_given, inner, AreFor, AllStand, AreInsideOut, Runs}
use Rattle.past_state.proofs.Vocabulary.{AreOrderedOperators, AllCommitted, AreSameKinds, Memory, StepTables, OperatorState}
use Rattle.past_state.proofs.OuterOperators.{outer_onto}
use Rattle.past_state.proofs.MemoryLemmas.{Laws, fit_back, fit_front, can_step, given_stands, committed_stands, denial_free, stand_front, stand_back, still_for}
use Rattle.past_state.proofs.StackLemmas.{stack_below}
use Rattle.past_state.specs.declared.memories.Memory.TheVariants as memories

-- the columns of what is given are the free variables
given_columns : (f : Formula) (m : Memory) (time : ℕ) (t : StepTables) → IsFor f m → (x : VarId) → Contains (memory_given m time t).columns x ↔ IsFree x f
given_columns (Prev place interval g) (memories.Prev slot operand) time t for x = for.1.exact x
given_columns (Once place interval g) (memories.Once window right) time t for x = for.1.exact x
given_columns (Historically place interval g) (memories.Once window right) time t for x = (λ there. (denial_free g x).0 ((for.1.exact x).0 there), λ free. (for.1.exact x).1 ((denial_free g x).1 free))
given_columns (Since place interval g h) (memories.Since window left left_tables right) time t for x =
    (λ there. inr ((for.1.exact x).0 there), λ either. (for.1.exact x).1 (⊎_elim (λ free. for.5 x free) (λ free. free) either))
given_columns f m time t for x = absurd for

-- after the operators of the operands stand the others
behind_inner : (f : Formula) (before more : List Formula) → before ≡ inner f ++ more → drop (length (inner f)) before ≡ more
behind_inner f before more e = ap (λ l. drop (length (inner f)) l) e ∙ drop-append_seam (inner f) more

pub fit_run : (events : List Event) (time : ℕ) (before : List Formula) (stack : List Relation) (fs : List Formula) (operators : List OperatorState) (steps : List StepTables) (final : List Relation)
    → AreFor fs operators → AreInsideOut before fs → FitOperators before stack → Runs events time stack operators steps final → FitOperators (outer_onto before fs) final
fit_run events time before stack [] [] [] final for order fit runs = subst (FitOperators before) runs fit
fit_run events time before stack [] [] (t ∷ steps) final for order fit runs = absurd runs
fit_run events time before stack [] (o ∷ operators) steps final for order fit runs = absurd for
fit_run events time before stack (f ∷ fs) [] steps final for order fit runs = absurd for
fit_run events time before stack (f ∷ fs) (o ∷ operators) [] final for order fit runs = absurd runs
fit_run events time before stack (f ∷ fs) (o ∷ operators) (t ∷ steps) final for order fit runs =
    let is : before ≡ inner f ++ order.0.0 = order.0.1 in
    let rest : FitOperators (drop (length (inner f)) before) (drop o.taken stack) =
    subst (λ n. FitOperators (drop (length (inner f)) before) (drop n stack)) (sym for.1)
    (subst (λ l. FitOperators l (drop (length (inner f)) stack)) (sym (behind_inner f before order.0.0 is)) (fit_back (inner f) order.0.0 stack (subst (λ l. FitOperators l stack) is fit))) in
    fit_run events time (f ∷ drop (length (inner f)) before) (memory_given o.memory time t ∷ drop o.taken stack) fs operators steps final for.2 order.1
    (given_columns f o.memory time t for.0, rest) runs.1

-- one operator more
pub run_more : (events : List Event) (time : ℕ) (stack : List Relation) (operators : List OperatorState) (steps : List StepTables) (middle : List Relation) (o : OperatorState) (t : StepTables)
    → Runs events time stack operators steps middle → AreStepTables events middle o.memory t
    → Runs events time stack (operators ++ o ∷ []) (steps ++ t ∷ []) (memory_given o.memory time t ∷ drop o.taken middle)
run_more events time stack [] [] middle o t runs are = (subst (λ l. AreStepTables events l o.memory t) (sym runs) are, ap (λ l. memory_given o.memory time t ∷ drop o.taken l) runs)
run_more events time stack [] (s ∷ steps) middle o t runs are = absurd runs
run_more events time stack (p ∷ operators) [] middle o t runs are = absurd runs
run_more events time stack (p ∷ operators) (s ∷ steps) middle o t runs are = (runs.0, run_more events time (memory_given p.memory time s ∷ drop p.taken stack) operators steps middle o t runs.1 are)

-- the part at the front
pub for_front : (fs : List Formula) (operators : List OperatorState) (i : ℕ) → AreFor fs operators → AreFor (take i fs) (take i operators)
for_front [] [] zero for = tt
for_front [] [] (suc i) for = tt
for_front [] (o ∷ operators) i for = absurd for
for_front (f ∷ fs) [] i for = absurd for
for_front (f ∷ fs) (o ∷ operators) zero for = tt
for_front (f ∷ fs) (o ∷ operators) (suc i) for = (for.0, for.1, for_front fs operators i for.2)

pub order_front : (before fs : List Formula) (i : ℕ) → AreInsideOut before fs → AreInsideOut before (take i fs)
order_front before [] zero order = tt
order_front before [] (suc i) order = tt
order_front before (f ∷ fs) zero order = tt
order_front before (f ∷ fs) (suc i) order = (order.0, order_front (f ∷ drop (length (inner f)) before) fs i order.1)

-- the operator at a place, and what stands on the stack before it
pub record At (before fs : List Formula) (o : OperatorState) (i : ℕ) : Type 0 where
  pub formula : Formula
  pub is_for : IsFor formula o.memory
  pub takes : o.taken ≡ length (inner formula)
  pub more : List Formula
  pub stands_on : outer_onto before (take i fs) ≡ inner formula ++ more

pub at : (before fs : List Formula) (operators : List OperatorState) (i : ℕ) (o : OperatorState) → AreFor fs operators → AreInsideOut before fs → i < length operators → o ≡ get_or operators i o
    → At before fs o i
at before [] [] i o for order below is = absurd (omega (arith, below))
at before [] (p ∷ operators) i o for order below is = absurd for
at before (f ∷ fs) [] i o for order below is = absurd for
at before (f ∷ fs) (p ∷ operators) zero o for order below is = record {
  formula = f;
  is_for = subst (λ q. IsFor f q.memory) (sym is) for.0;
  takes = ap (λ q. q.taken) is ∙ for.1;
  more = order.0.0;
  stands_on = order.0.1;
}
at before (f ∷ fs) (p ∷ operators) (suc i) o for order below is =
    let found = at (f ∷ drop (length (inner f)) before) fs operators i o for.2 order.1 (omega (arith, below)) is in
    record { formula = found.formula; is_for = found.is_for; takes = found.takes; more = found.more; stands_on = found.stands_on }

-- what the loop needs at a place
pub record Ready (o : OperatorState) (middle : List Relation) : Type 0 where
  pub can : CanStep middle o.memory
  pub enough : o.taken ≤ length middle

pub ready : (events : List Event) (time : ℕ) (operators : List OperatorState) (i : ℕ) (o : OperatorState) (steps : List StepTables) (middle : List Relation)
    → AreOrderedOperators operators → i < length operators
    → o ≡ get_or operators i o → Runs events time [] (take i operators) steps middle → Ready o middle
ready events time operators i o steps middle ordered below is runs =
    let found = at [] ordered.formulas operators i o ordered.are_for ordered.inside_out below is in
    let fit : FitOperators (outer_onto [] (take i ordered.formulas)) middle =
    fit_run events time [] [] (take i ordered.formulas) (take i operators) steps middle (for_front ordered.formulas operators i ordered.are_for)
    (order_front [] ordered.formulas i ordered.inside_out) tt runs in
    let inside : FitOperators (inner found.formula) middle = fit_front (inner found.formula) found.more middle (subst (λ l. FitOperators l middle) found.stands_on fit) in
    record {
      can = can_step found.formula o.memory middle found.is_for inside;
      enough = subst (λ n. n ≤ length middle) (sym found.takes) (fit_short (inner found.formula) middle inside);
    }

pub run_at : (events : List Event) (time : ℕ) (operators : List OperatorState) (i : ℕ) (o : OperatorState) (steps : List StepTables) (stack after : List Relation) (t : StepTables)
    → i < length operators
    → o ≡ get_or operators i o → o.taken ≤ length (reverse stack) → Runs events time [] (take i operators) steps (reverse stack) → AreStepTables events (reverse stack) o.memory t
    → after ≡ take (length stack - o.taken) stack ++ memory_given o.memory time t ∷ [] → Runs events time [] (take (i + 1) operators) (steps ++ t ∷ []) (reverse after)
run_at events time operators i o steps stack after t below is enough runs are e =
    let given : Relation = memory_given o.memory time t in
    let top : reverse after ≡ given ∷ drop o.taken (reverse stack) = ap reverse e ∙ reverse-append (take (length stack - o.taken) stack) (given ∷ []) ∙ ap (λ l. given ∷ l)
    (stack_below stack o.taken enough) in
    subst (λ l. Runs events time [] l (steps ++ t ∷ []) (reverse after)) (ap (λ p. take i operators ++ p ∷ []) is ∙ sym (take_more operators i o below))
    (subst (λ l. Runs events time [] (take i operators ++ o ∷ []) (steps ++ t ∷ []) l) (sym top) (run_more events time [] (take i operators) steps (reverse stack) o t runs are))

abbrev pub AllPast : List Formula → Type 0
AllPast fs = All (λ f. IsTrue (is_past f)) fs

module _ (laws : Laws) (trace : List Step) (step : Step) (later : last_time trace ≤ step.time) where
  pub stand_run : (before : List Formula) (stack : List Relation) (fs : List Formula) (operators : List OperatorState) (steps : List StepTables) (final : List Relation)
      → AreFor fs operators → AllPast fs → AreInsideOut before fs → AllStand trace fs operators → TablesStandFor (trace ++ step ∷ []) (length trace) before stack
      → Runs step.events step.time stack operators steps final → TablesStandFor (trace ++ step ∷ []) (length trace) (outer_onto before fs) final
  stand_run before stack [] [] [] final for past order stands stand runs = subst (TablesStandFor (trace ++ step ∷ []) (length trace) before) runs stand
  stand_run before stack [] [] (t ∷ steps) final for past order stands stand runs = absurd runs
  stand_run before stack [] (o ∷ operators) steps final for past order stands stand runs = absurd for
  stand_run before stack (f ∷ fs) [] steps final for past order stands stand runs = absurd for
  stand_run before stack (f ∷ fs) (o ∷ operators) [] final for past order stands stand runs = absurd runs
  stand_run before stack (f ∷ fs) (o ∷ operators) (t ∷ steps) final for past order stands stand runs =
      let is : before ≡ inner f ++ order.0.0 = order.0.1 in
      let both : TablesStandFor (trace ++ step ∷ []) (length trace) (inner f ++ order.0.0) stack = subst (λ l. TablesStandFor (trace ++ step ∷ []) (length trace) l stack) is stand in
      let inside : TablesStandFor (trace ++ step ∷ []) (length trace) (inner f) stack = stand_front (trace ++ step ∷ []) (length trace) (inner f) order.0.0 stack both in
      let rest : TablesStandFor (trace ++ step ∷ []) (length trace) (drop (length (inner f)) before) (drop o.taken stack) =
      subst (λ n. TablesStandFor (trace ++ step ∷ []) (length trace) (drop (length (inner f)) before) (drop n stack)) (sym for.1)
      (subst (λ l. TablesStandFor (trace ++ step ∷ []) (length trace) l (drop (length (inner f)) stack)) (sym (behind_inner f before order.0.0 is))
      (stand_back (trace ++ step ∷ []) (length trace) (inner f) order.0.0 stack both)) in
      stand_run (f ∷ drop (length (inner f)) before) (memory_given o.memory step.time t ∷ drop o.taken stack) fs operators steps final for.2
      (All-tail (λ g. IsTrue (is_past g)) f fs past) order.1 stands.1
      (given_stands laws trace step later f o.memory stack t (All-head (λ g. IsTrue (is_past g)) f fs past) for.0 stands.0 inside runs.0, rest) runs.1

  pub committed_run : (before : List Formula) (stack : List Relation) (fs : List Formula) (operators : List OperatorState) (steps : List StepTables) (final : List Relation)
      (after : List OperatorState)
      → AreFor fs operators → AllPast fs → AreInsideOut before fs → AllStand trace fs operators → TablesStandFor (trace ++ step ∷ []) (length trace) before stack
      → Runs step.events step.time stack operators steps final → AllCommitted step.time operators steps after → AllStand (trace ++ step ∷ []) fs after
  committed_run before stack [] operators steps final after for past order stands stand runs committed = tt
  committed_run before stack (f ∷ fs) [] steps final after for past order stands stand runs committed = absurd for
  committed_run before stack (f ∷ fs) (o ∷ operators) [] final after for past order stands stand runs committed = absurd runs
  committed_run before stack (f ∷ fs) (o ∷ operators) (t ∷ steps) final [] for past order stands stand runs committed = absurd committed
  committed_run before stack (f ∷ fs) (o ∷ operators) (t ∷ steps) final (p ∷ after) for past order stands stand runs committed =
      let is : before ≡ inner f ++ order.0.0 = order.0.1 in
      let both : TablesStandFor (trace ++ step ∷ []) (length trace) (inner f ++ order.0.0) stack = subst (λ l. TablesStandFor (trace ++ step ∷ []) (length trace) l stack) is stand in
      let inside : TablesStandFor (trace ++ step ∷ []) (length trace) (inner f) stack = stand_front (trace ++ step ∷ []) (length trace) (inner f) order.0.0 stack both in
      let rest : TablesStandFor (trace ++ step ∷ []) (length trace) (drop (length (inner f)) before) (drop o.taken stack) =
      subst (λ n. TablesStandFor (trace ++ step ∷ []) (length trace) (drop (length (inner f)) before) (drop n stack)) (sym for.1)
      (subst (λ l. TablesStandFor (trace ++ step ∷ []) (length trace) l (drop (length (inner f)) stack)) (sym (behind_inner f before order.0.0 is))
      (stand_back (trace ++ step ∷ []) (length trace) (inner f) order.0.0 stack both)) in (
        committed_stands laws trace step later f o.memory stack t p.memory (All-head (λ g. IsTrue (is_past g)) f fs past) for.0 stands.0 inside runs.0 committed.0.1,
        committed_run (f ∷ drop (length (inner f)) before) (memory_given o.memory step.time t ∷ drop o.taken stack) fs operators steps final after for.2
            (All-tail (λ g. IsTrue (is_past g)) f fs past) order.1 stands.1
            (given_stands laws trace step later f o.memory stack t (All-head (λ g. IsTrue (is_past g)) f fs past) for.0 stands.0 inside runs.0, rest) runs.1 committed.1,
      )

pub still_all_for : (fs : List Formula) (operators after : List OperatorState) → AreFor fs operators → AreSameKinds operators after → AreFor fs after
still_all_for [] [] after for same = subst (AreFor []) (sym same) tt
still_all_for [] (o ∷ operators) after for same = absurd for
still_all_for (f ∷ fs) [] after for same = absurd for
still_all_for (f ∷ fs) (o ∷ operators) [] for same = absurd same
still_all_for (f ∷ fs) (o ∷ operators) (p ∷ after) for same = (still_for f o.memory p.memory for.0 same.1, same.0 ∙ for.1, still_all_for fs operators after for.2 same.2)
