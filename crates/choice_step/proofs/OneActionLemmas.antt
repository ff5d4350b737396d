-- What is known after one action for a literal that a root misses.
use Rattle.choice_step.proofs.Vocabulary.{◌≡◌, ℕ, ◌≤◌, List, [], ◌∷◌, arith, drop, sym, subst, ⊎_elim, Event, HasNoRepeats, Literal, Situation}
use Rattle.choice_step.proofs.Vocabulary.{CanDecideSituation, situation_plans, Applies, HasActionRole, UnreadInstanceStaysMet, UnreadLeavesRest, UnreadStaysMet, Action, trace_with_step}
use Rattle.choice_step.specs.declared.unasked.Unasked.{Unasked}
use Rattle.choice_step.specs.machine.StillToAsk.{AreToldBut, InstancesAreMet, IsMissedAtRoot, IsUnaskedAt, LeavesOthers, PassesUnmoved, RootIsMet, RootLeavesRest, RootsAreMetBut, WillHold}
use Rattle.choice_step.proofs.FoundLemmas.{last_left, missed_behind}
use Rattle.choice_step.proofs.LoopActionLemmas.{gone}
use Rattle.choice_step.proofs.MovedLemmas.{all_leave, left_rest, missed_rest, passes_on, spared_first, spared_instances}
use Rattle.choice_step.proofs.UnaskedLemmas.{none_waits, roots_met}

-- where that was all which the root misses, it misses nothing after it
pub met_alone : UnreadStaysMet → UnreadInstanceStaysMet → UnreadLeavesRest → (situation : Situation) → CanDecideSituation situation → (rule : ℕ) (literal : Literal)
    → HasActionRole (situation_plans situation) literal.kind literal.event.name → (events after : List Event) → HasNoRepeats events → Applies literal.kind literal.event events after
    → RootLeavesRest situation literal.kind literal.event.name rule → (given : List Event) → IsMissedAtRoot situation given events rule (literal ∷ []) → RootIsMet situation after rule
met_alone met instances_met rest situation can rule literal role events after distinct applies leaves given is =
    last_left situation given after rule literal (gone literal.kind literal.event events after distinct applies) is.plan is.there
    (left_rest met instances_met rest situation can literal.kind literal.event events after applies role given rule (literal ∷ []) leaves is)

module _ (met : UnreadStaysMet) (instances_met : UnreadInstanceStaysMet) (rest : UnreadLeavesRest) (situation : Situation) (can : CanDecideSituation situation)
    (rule : ℕ) (literal : Literal) (role : HasActionRole (situation_plans situation) literal.kind literal.event.name) (events after : List Event) (distinct : HasNoRepeats events)
    (applies : Applies literal.kind literal.event events after) (actions : List Action) (old new : Unasked) (kept : IsUnaskedAt situation after actions old)
    (from : new.from ≡ old.from) (again : new.again.items ≡ old.again.items) (told : new.roused ≡ old.roused)
    (passes : PassesUnmoved (situation_plans situation) literal.kind literal.event.name old.asking new.asking) (instances : WillHold situation events (InstancesAreMet situation)) where
  -- those that were passed stay met
  pub kept_on : IsUnaskedAt situation after actions new
  kept_on = record {
    told = kept.told;
    are = subst (λ n. AreToldBut after kept.told (drop n actions)) (sym told) kept.are;
    within = omega (arith, kept.within, told);
    is = record {
      asking = passes_on met instances_met rest situation can literal.kind literal.event events after applies kept.told old.asking new.asking passes instances kept.is.asking;
      roots = subst (λ n. WillHold situation after (RootsAreMetBut situation n new.again.items)) (sym from)
          (subst (λ l. WillHold situation after (RootsAreMetBut situation old.from l)) (sym again) kept.is.roots);
    };
  }

  -- the root misses the rest
  pub missed_on : rule ≤ new.from → LeavesOthers situation literal.kind literal.event.name rule new → (given : List Event) (more : List Literal)
      → IsMissedAtRoot situation given events rule (literal ∷ more) → IsMissedAtRoot situation given after rule more
  missed_on within leaves given more is =
      missed_behind situation given after rule literal more (gone literal.kind literal.event events after distinct applies)
      (⊎_elim
      (λ apart. missed_rest met instances_met rest situation can literal.kind literal.event events after applies role given rule (literal ∷ more)
      (all_leave met instances_met rest situation can literal.kind literal.event events after applies role apart rule)
      (spared_instances met instances_met rest situation can literal.kind literal.event events after applies role apart is.instances)
      (spared_first met instances_met rest situation can literal.kind literal.event events after applies role apart rule is.roots) is)
      (λ looked. missed_rest met instances_met rest situation can literal.kind literal.event events after applies role given rule (literal ∷ more) looked.0
      (λ trace stands long later. none_waits situation can after kept_on.told new.asking kept_on.is.asking trace looked.1 (kept_on.is.asking.but trace stands long later))
      (λ trace stands long later. roots_met situation new.from new.again.items (trace_with_step trace situation.time after) rule within looked.2
      (kept_on.is.roots trace stands long later)) is)
      leaves)
