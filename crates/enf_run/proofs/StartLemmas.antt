-- From where a log is begun, and why it is not.
use Rattle.enf_run.proofs.Vocabulary.{◌≡◌, ◌∙◌, ◌<◌, ◌^◌, ℕ, List, [], ◌∷◌, All, map, refl, sym, ap, subst, arith, Option, None, Some, AllByRecursion, Formula, Contents, FileView, VarId, Rule}
use Rattle.enf_run.proofs.Vocabulary.{AreWithinBounds, all_operators, Plan, IsScopedPlan, AreWellFormed, IsWellFormed, OnePlans, ArePlanned, StoredTyped, WorkTogether, typed_of, CanBePending}
use Rattle.enf_run.proofs.Vocabulary.{PendCanBePending, IsReady, NoneIsOver, PendIsOne, Instance, OneState, KeepsBounds, SaveSetting as Bounds, IsSnapshotOf, Snapshot, IsNewEnforcer, Enforcing}
use Rattle.enf_run.proofs.Vocabulary.{CanBeTakenUp, IsTakenUpFrom, StandsAgain, policy_operators, Stands, NameEntry, Input, Start, ending_after_file, EndsFile, HoldsRefusedState, HoldsState}
use Rattle.enf_run.proofs.Vocabulary.{IsNewIntake, all_formulas, IsStateText, IsReadyState, IsNewLog, BeginsLog, EndsStart, typed_bounds, FileEnding, MOST_STATE_BYTES, Enforcement, StateRefusal}
use Rattle.enf_run.proofs.SavedStateLemmas.{same_guards}
use Rattle.enf_io.specs.declared.devices.IoRefusal.TheVariants as io
use Rattle.enf_run.specs.declared.endings.FileEnding.TheVariants as files
use Rattle.enf_run.specs.declared.refusals.Refusal.TheVariants as refusals

-- a state of a policy is one under any plans of it
pub snapshot_under : OnePlans → (entries : List NameEntry) (rules : List Rule) (typed : StoredTyped) → ArePlanned entries (all_formulas rules) (typed_of typed).plans (typed_of typed).guards
    → (signature policy : List ℕ) (at : Start) (state : List ℕ)
    (is : IsStateText entries rules signature policy at state)
    → IsSnapshotOf (typed_of typed).plans (policy_operators typed) at.trace at.clock is.text.0
snapshot_under one_plans entries rules typed planned signature policy at state is =
    let plans = (typed_of typed).plans in
    let same = one_plans entries (all_formulas rules) is.plans plans is.guards (typed_of typed).guards is.planned planned in
    let of_plans = subst (λ (ps : List Plan). IsSnapshotOf ps (all_operators (map (λ (guard : Formula × List VarId). guard.0) is.guards)) at.trace at.clock is.text.0) same.0 is.text.1 in
    let of_guards = subst (λ (gs : List (Formula × List VarId)). IsSnapshotOf plans (all_operators (map (λ (guard : Formula × List VarId). guard.0) gs)) at.trace at.clock is.text.0) same.1 of_plans in
    subst (λ (fs : List Formula). IsSnapshotOf plans (all_operators fs) at.trace at.clock is.text.0) (sym (same_guards typed.guards)) of_guards

-- the variables of plans that are well-formed are in scope where they stand
pub all_scoped : (guards : List (Formula × List VarId)) (plans : List Plan) → AllByRecursion (IsWellFormed guards) plans → AllByRecursion (λ plan. IsScopedPlan plan []) plans
all_scoped guards [] all = tt
all_scoped guards (plan ∷ plans) all = (all.0.scoped, all_scoped guards plans all.1)

-- a state that gives nothing
pub start_refused : (file signature policy : List ℕ) (bounds : Bounds) (before after : FileView)
    (end : FileEnding StateRefusal) → EndsFile MOST_STATE_BYTES
    (HoldsRefusedState before.contents file signature policy bounds) file before after end
    → EndsStart (Some file) signature policy bounds before after (ending_after_file refusals.State end)
start_refused file signature policy bounds before after (files.Refused why) h = (file, refl, h.0, h.1)
start_refused file signature policy bounds before after (files.NotRead io.Failed) h = (file, refl, h)
start_refused file signature policy bounds before after (files.NotRead io.NoMemory) h = h

-- from nothing
pub begins_anew : (told : Option (List ℕ → Contents)) (entries : List NameEntry) (rules : List Rule) (signature policy : List ℕ) (typed : StoredTyped) (log : Enforcement)
    → IsNewLog entries log → IsNewEnforcer typed log.enforcer → WorkTogether (typed_of log.enforcer.policy) → Stands log.enforcer [] → BeginsLog None told entries rules signature policy typed log
begins_anew told entries rules signature policy typed log new is together stands =
    record {
      new = new;
      policy_is = is.policy;
      together = together;
      state = [];
      holds = (refl, is.clock);
      stands = λ start from. (subst (λ (s : Start). Stands log.enforcer s.trace) (sym from) stands, is.clock ∙ sym (ap (λ (s : Start). s.clock) from));
    }

-- a state within its bounds can be taken up
pub taken_up : (entries : List NameEntry) (typed : StoredTyped) (state : Snapshot) → KeepsBounds (typed_bounds entries (typed_of typed)) state → CanBeTakenUp typed state
taken_up entries typed state keeps =
    record {
      in_time = keeps.clock;
      due = keeps.due;
      not_later = keeps.last;
      kept = subst (λ (fs : List Formula). AreWithinBounds (all_operators fs) state.last state.kept) (sym (same_guards typed.guards)) keeps.kept;
      pending = keeps.pending;
    }

-- with an enforcer that goes on from it nothing was taken yet
pub new_again : (entries : List NameEntry) (typed : StoredTyped) (state : Snapshot) (log : Enforcement)
    → IsNewIntake entries Input log.intake → IsTakenUpFrom typed state log.enforcer → CanBeTakenUp typed state
    → state.position < 2 ^ 63 → IsNewLog entries log
new_again entries typed state log intake taken can small =
    record {
      intake = intake;
      going = taken.goes_on;
      clock = omega (arith, taken.as_kept.clock, can.in_time);
      position = omega (arith, taken.as_kept.position, small);
    }

-- from a state, which is within its bounds under the plans of a policy
module _ (entries : List NameEntry) (rules : List Rule) (typed : StoredTyped)
    (planned : ArePlanned entries (all_formulas rules) (typed_of typed).plans (typed_of typed).guards)
    (formed : AreWellFormed (typed_of typed).plans (typed_of typed).guards)
    (told : Option (List ℕ → Contents)) (file bytes signature policy : List ℕ) (state : Snapshot)
    (holds : HoldsState told file bytes signature policy (typed_bounds entries (typed_of typed)) state) where
  abbrev plans : List Plan
  plans = (typed_of typed).plans

  module _ (one_plans : OnePlans) (one_state : OneState) (can_be : PendCanBePending) (is_one : PendIsOne) (start : Start) (ready : IsReadyState entries rules signature policy start bytes) where
    abbrev kept : Snapshot
    kept = ready.is_state.text.0

    same_plans : ready.is_state.plans ≡ plans
    same_plans = (one_plans entries (all_formulas rules) ready.is_state.plans plans ready.is_state.guards (typed_of typed).guards ready.is_state.planned planned).0

    ready_here : IsReady plans start.trace start.clock
    ready_here = subst (λ (ps : List Plan). IsReady ps start.trace start.clock) same_plans ready.ready

    snapshot : IsSnapshotOf plans (policy_operators typed) start.trace start.clock kept
    snapshot = snapshot_under one_plans entries rules typed planned signature policy start bytes ready.is_state

    can_kept : All (CanBePending plans kept.clock kept.position) kept.pending
    can_kept =
        let same : ready_here.pending ≡ kept.pending = is_one plans start.trace ready_here.pending kept.pending ready_here.pend snapshot.pending in
        let none_over = subst (λ (pending : List Instance). NoneIsOver plans pending start.clock) same ready_here.in_time in
        let can = can_be plans (typed_of typed).guards start.trace start.clock kept.pending formed snapshot.pending none_over in
        subst (λ (clock : ℕ). All (CanBePending plans clock kept.position) kept.pending) (sym snapshot.clocked)
        (subst (λ (n : ℕ). All (CanBePending plans start.clock n) kept.pending) (sym snapshot.position) can)

    -- the state is that of wherever the run may start
    same_state : kept ≡ state
    same_state =
        one_state bytes signature policy plans kept state (omega (arith, holds.short)) (all_scoped (typed_of typed).guards plans formed.each) ready.form holds.text can_kept holds.keeps.pending

    same_clock : start.clock ≡ state.clock
    same_clock = sym snapshot.clocked ∙ ap (λ (s : Snapshot). s.clock) same_state

    stands_there : (enforcer : Enforcing) → IsTakenUpFrom typed state enforcer → StandsAgain typed state enforcer → Stands enforcer start.trace × (enforcer.clock ≡ start.clock)
    stands_there enforcer taken again =
        let at_clock = subst (λ (clock : ℕ). IsSnapshotOf plans (policy_operators typed) start.trace clock kept) (sym snapshot.clocked) snapshot in
        let of_state = subst (λ (s : Snapshot). IsSnapshotOf plans (policy_operators typed) start.trace s.clock s) same_state at_clock in
        let ready_there = subst (λ (clock : ℕ). IsReady plans start.trace clock) same_clock ready_here in
        (again start.trace ready.is_trace ready_there of_state, sym taken.as_kept.clock ∙ sym same_clock)

  pub begins_again : OnePlans → OneState → PendCanBePending → PendIsOne → (log : Enforcement)
      → IsNewLog entries log → IsTakenUpFrom typed state log.enforcer
      → WorkTogether (typed_of log.enforcer.policy) → StandsAgain typed state log.enforcer
      → BeginsLog (Some file) told entries rules signature policy typed log
  begins_again one_plans one_state can_be is_one log new taken together again =
      record {
        new = new;
        policy_is = taken.policy_is;
        together = together;
        state = bytes;
        holds = (state, holds, sym taken.as_kept.clock);
        stands = λ start ready. stands_there one_plans one_state can_be is_one start ready log.enforcer taken again;
      }
