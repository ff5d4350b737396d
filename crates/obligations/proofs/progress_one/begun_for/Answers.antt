use Rattle.obligations.proofs.Vocabulary.{Contains, List, ap, subst, sym, none_in_nil, Instance, IfSome, option_copied, option_map, AllByRecursion, plan_of, StandsIn, guards_now, CanAskOf}
use Rattle.obligations.proofs.SuccessorLemmas.{all_asked, all_begun}
use Rattle.obligations.proofs.progress_one.begun_for.Goals.{in-Some+in_ok-begin_ahead, in_default}
use Rattle.obligations.proofs.progress_one.begun_for.Goals as goal

pub returns-clause-asked : goal.returns-clause-asked
returns-clause-asked c = λ plans stands. elim c.match-part.branch [
  | in-Some+in_ok-begin_ahead w ↦ subst (λ (b : _). AllByRecursion (CanAskOf (guards_now c.args.now.now) plans) b.items) (sym w.begun-is)
      (all_asked c.args.now.now c.args.instance.now.rule (plan_of w.in-Some.part.now) _ c.new-begun.result.items _ c.new-begun.ensures.items w.in_ok-begin_ahead.ensures plans
      (subst (λ o. IfSome (option_map plan_of (option_copied o)) (StandsIn plans c.args.instance.now.rule)) w.in-Some.is stands))
  | in_default w ↦ subst (λ (b : _). AllByRecursion (CanAskOf (guards_now c.args.now.now) plans) b.items) (sym w.begun-is)
      (subst (AllByRecursion (CanAskOf (guards_now c.args.now.now) plans)) (sym c.new-begun.ensures.items) tt)
]

pub returns-clause-comes : goal.returns-clause-comes
returns-clause-comes c = λ j there. elim c.match-part.branch [
  | in-Some+in_ok-begin_ahead w ↦ (
    plan_of w.in-Some.part.now,
    ap (λ o. option_map plan_of (option_copied o)) w.in-Some.is,
    all_begun c.args.now.now c.args.instance.now.rule (plan_of w.in-Some.part.now) _ c.new-begun.result.items _ c.new-begun.ensures.items w.in_ok-begin_ahead.ensures j
        (subst (λ (b : _). Contains b.items j) w.begun-is there),
  )
  | in_default w ↦ absurd (none_in_nil j (subst (λ (l : List Instance). Contains l j) c.new-begun.ensures.items (subst (λ (b : _). Contains b.items j) w.begun-is there)))
]
