-- The only guard of a past state, and the steps that a past state stands for.
use Rattle.std.proofs.Common.{◌≡◌, ℕ, ◌<◌, ◌≤◌, List, [], ◌∷◌, ◌++◌, length, map, Contains, Option, None, Some, sym, subst, arith, length-append}
use Rattle.std.specs.Prelude.{slice_get}
use Rattle.enf_data.specs.meaning.Membership.{HasNoRepeats}
use Rattle.enf_data.specs.meaning.Valuations.{Valuation, BindsColumns}
use Rattle.enf_data.specs.declared.steps.Step.{Step}
use Rattle.enf_formula.specs.meaning.Satisfaction.{IsFree}
use Rattle.monitorable_guard.specs.machine.Guards.{BoundFormula}
use Rattle.past_state.specs.machine.Guards.{AreCopies, tree_in}
use Rattle.past_state.proofs.GuardLaws.{copies_formulas}
use Rattle.past_state.specs.meaning.KeptRows.{all_operators, IsLastTime, AreKeptOf}
use Rattle.past_state.specs.machine.Past.{BindsBound, IsTestOf, Past, PastStands, guard_formula}
use Rattle.past_state.specs.meaning.RowBounds.{IsFrom}
use Rattle.past_state.specs.machine.OperatorRuns.{AreUpToTimeOf}
use Rattle.past_state.specs.machine.StoredRows.{AreRowsKept}
use Rattle.past_state.specs.declared.guards.PlacedGuard.{PlacedGuard}
use Rattle.past_state.specs.declared.kept_rows.KeptRow.{KeptRow}
use Rattle.trace_meaning.specs.meaning.Traces.{last_time}
use Rattle.trace_meaning.specs.machine.Laws.{LastIsTheNew, TraceGrows}
use Rattle.enf_data.proofs.Lists.{none_in_nil}
use Rattle.enf_cases.specs.machine.GuardRuns.{BindsGuardVariables, IsPastOfGuard, StandsUpTo}

first_is : (p q : PlacedGuard) (placed : List PlacedGuard) → slice_get (p ∷ placed) 0 ≡ Some q → p ≡ q
first_is p q placed is = cc

pub one_copy : (g : BoundFormula) (placed : List PlacedGuard) → AreCopies (g ∷ []) placed → 0 < length placed
one_copy g [] copies = absurd copies
one_copy g (p ∷ placed) copies = omega arith

-- what the guard binds, its copy binds
pub copy_binds : (g : BoundFormula) (placed : List PlacedGuard) (v : Valuation) → AreCopies (g ∷ []) placed
    → BindsColumns v g.bound → BindsBound placed 0 v
copy_binds g [] v copies binds = absurd copies
copy_binds g (p ∷ placed) v copies binds = λ q is.
    subst (λ h. BindsColumns v h.guard.bound) (first_is p q placed is) (subst (BindsColumns v) (sym copies.1) binds)

-- what binds nothing has no variable left to bind
pub nothing_bound : (g : BoundFormula) (v : Valuation) → g.bound ≡ [] → BindsColumns v g.bound
nothing_bound g v none = subst (BindsColumns v) (sym none) (λ x there. absurd (none_in_nil x there))

-- where all free variables of the guard are bound, so are its copy's
pub copy_closed : (g : BoundFormula) (placed : List PlacedGuard) → AreCopies (g ∷ []) placed → BindsGuardVariables g
    → IsTestOf placed 0
copy_closed g [] copies closed = absurd copies
copy_closed g (p ∷ placed) copies closed = λ q is x free.
    let first : p ≡ q = first_is p q placed is in
    let free_in : IsFree x (tree_in g) = subst (IsFree x) copies.0 (subst (λ h. IsFree x (guard_formula h)) (sym first) free) in
    subst (λ h. Contains h.guard.bound x) first (subst (λ bound. Contains bound x) (sym copies.1) (closed x free_in))

not_later : (trace : List Step) (last : Option ℕ) (time : ℕ) → IsLastTime trace last → IsFrom last time
    → last_time trace ≤ time
not_later trace None time empty from = subst (λ t. last_time t ≤ time) (sym empty) (omega arith)
not_later trace (Some last) time is from = omega (arith, is.1, from)

-- with one step more that is not earlier, it stands for the longer trace
pub goes_on : TraceGrows → LastIsTheNew → (last : Option ℕ) (before after : Past) (step : Step) → IsFrom last step.time
    → HasNoRepeats step.events → StandsUpTo last before
    → ((later : ℕ) → step.time ≤ later → AreUpToTimeOf later after.operators)
    → ((trace : List Step) → last_time trace ≤ step.time → PastStands trace before → PastStands (trace ++ step ∷ []) after)
    → StandsUpTo (Some step.time) after
goes_on grows newest last before after step from distinct s up_to stands =
    let later : last_time s.trace ≤ step.time = not_later s.trace last step.time s.last_is from in
    record {
      up_to = up_to;
      trace = s.trace ++ step ∷ [];
      is_trace = grows s.trace step s.is_trace later distinct;
      last_is = (simp length-append (omega arith), sym (newest s.trace step));
      stands = stands s.trace later s.stands;
    }

-- what it keeps has to be kept of its trace, for the operators of its only guard
pub kept_of : (g : BoundFormula) (last : Option ℕ) (past : Past) (rows : List KeptRow) → IsPastOfGuard g past
    → (s : StandsUpTo last past) → AreRowsKept past rows
    → AreKeptOf s.trace (all_operators (map tree_in (g ∷ []))) rows
kept_of g last past rows of s kept =
    subst (λ fs. AreKeptOf s.trace (all_operators fs) rows) (copies_formulas (g ∷ []) past.guards of) (kept s.trace s.stands)
