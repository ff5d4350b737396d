use Rattle.enforcer_core.proofs.Vocabulary.{List, [], ap, arith, length, refl, sym, subst, Instance}
use Rattle.pending.specs.machine.Moments.{step_moment}
use Rattle.pending.specs.machine.Waits.{SleepsNow}
use Rattle.sleepers.specs.machine.Entries.{AllButThose}
use Rattle.enforcer_core.proofs.AsleepLemmas.{none_listed}
use Rattle.enforcer_core.proofs.step_memory.Remembered.is_idle.Goals as goal

pub returns-then-len-eq0 : goal.returns-then-len-eq0
returns-then-len-eq0 c = λ _.
    let quiet = c.changes_nothing.ensures in
    let none = none_listed c.args.self.now.pending.listed (omega (arith, ap (λ (l : List Instance). length l) c.requires.kept, c.len.ensures, c.if-len-eq0.true)) in
    record {
      asleep = quiet.asleep c.if-not-changes_nothing.false;
      untouched = quiet.untouched c.if-not-changes_nothing.false;
      sleep = subst (λ l. AllButThose (SleepsNow c.args.events.now (step_moment c.args.inserted c.args.time)) l []) (sym none) refl;
    }

pub returns : goal.returns
returns c = λ _. record {
  asleep = c.changes_nothing.ensures.asleep c.if-not-changes_nothing.false;
  untouched = c.changes_nothing.ensures.untouched c.if-not-changes_nothing.false;
  sleep = c.may_wake.ensures c.if-may_wake.false;
}
