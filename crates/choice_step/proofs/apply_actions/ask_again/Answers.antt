use Rattle.choice_step.proofs.Vocabulary.{Contains, drop, subst, sym, situation_plans}
use Rattle.pending.specs.machine.AskedEntries.{AsksMoved}
use Rattle.choice_step.specs.machine.Turns.{RousesEach, events_caused}
use Rattle.choice_step.proofs.apply_actions.ask_again.Goals as goal

pub returns-in_err-rouse-clause-again : goal.returns-in_err-rouse-clause-again
returns-in_err-rouse-clause-again c rule there = subst (λ l. Contains l rule) (sym c.rouse.ensures.again) there

pub returns-in_err-ask_moved-clause-again : goal.returns-in_err-ask_moved-clause-again
returns-in_err-ask_moved-clause-again c rule there = subst (λ l. Contains l rule) (sym c.rouse.ensures.again) there

pub returns-in_err-ask_roots-clause-again : goal.returns-in_err-ask_roots-clause-again
returns-in_err-ask_roots-clause-again c rule there = c.ask_roots.ensures.kept rule (subst (λ l. Contains l rule) (sym c.rouse.ensures.again) there)

pub returns-clause-again : goal.returns-clause-again
returns-clause-again c rule there = c.ask_roots.ensures.kept rule (subst (λ l. Contains l rule) (sym c.rouse.ensures.again) there)

pub returns-clause-rouses : goal.returns-clause-rouses
returns-clause-rouses c = (
  c.rouse.new.unasked.asking,
  subst (λ l. RousesEach (events_caused (drop c.args.unasked.now.roused l)) c.args.unasked.now.asking c.rouse.new.unasked.asking) c.as_slice.ensures
      c.in_ok-rouse.ensures.rouses,
  subst (AsksMoved (situation_plans c.args.situation.now) c.args.kind c.args.name c.rouse.new.unasked.asking) (sym c.ask_roots.ensures.asking) c.in_ok-ask_moved.ensures,
)

pub returns-clause-roots : goal.returns-clause-roots
returns-clause-roots c = c.in_ok-ask_roots.ensures.moved
