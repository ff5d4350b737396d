use Rattle.windows.proofs.Vocabulary.{◌<◌, ◌≤◌, ◌-◌, ◌∙◌, Contains, arith, none_in_nil, subst, sym, ltb-true}
use Rattle.std.proofs.lemmas.Bool.{ltb-false}
use Rattle.windows.proofs.TimeLemmas.{latest_of, no_latest, some_latest}
use Rattle.windows.proofs.times.Times.are_ended.Goals as goal

pub overflow_sub-result : goal.overflow_sub-result
overflow_sub-result c = (latest_of c.args.now c.args.self.now c.in-Some.latest (sym c.in-Some.is ∙ c.latest.ensures) c.requires).0

pub returns-in-Some-clause-ended : goal.returns-in-Some-clause-ended
returns-in-Some-clause-ended c = λ ended time there.
    let far : c.args.high < c.args.now - c.in-Some.latest = ltb-true _ _ ended in
    let near : time ≤ c.in-Some.latest = (latest_of c.args.now c.args.self.now c.in-Some.latest (sym c.in-Some.is ∙ c.latest.ensures) c.requires).1 time there in
    omega (arith, far, near)

pub returns-in-Some-clause-live : goal.returns-in-Some-clause-live
returns-in-Some-clause-live c = λ live. (
  c.in-Some.latest,
  (some_latest c.args.self.now c.in-Some.latest (sym c.in-Some.is ∙ c.latest.ensures)).0,
  ltb-false _ _ live,
)

pub returns-in-None-clause-ended : goal.returns-in-None-clause-ended
returns-in-None-clause-ended c = λ ended time there.
    absurd (none_in_nil time (subst (λ l. Contains l time) (no_latest c.args.self.now (sym c.latest.ensures ∙ c.in-None.is)) there))
