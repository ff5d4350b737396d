use Rattle.windows.proofs.Vocabulary.{◌≡◌, ◌∙◌, ◌+◌, ap, ◌++◌, [], ◌∷◌, refl, sym, subst, ⊎_elim, length, false≢true, arith, length-append, All-nil, Contains, AddsAtMost, AddsTime, AreLeastTimes}
use Rattle.windows.proofs.Vocabulary.{RiseTo}
use Rattle.windows.specs.machine.RowTimes.{is_some_time}
use Rattle.windows.proofs.TimeLemmas.{none_at, adds_at_most, adds_by, adds_no_later, adds_none, alone_added, alone_at_most, earlier_all, first_least, forgets_none, one_of_least, pushed_least}
use Rattle.windows.proofs.TimeLemmas.{replaced_added, replaced_at_most, rise_push}
use Rattle.windows.proofs.times.Times.add.Goals as goal

pub returns-then-not-has_time-clause-among : goal.returns-then-not-has_time-clause-among
returns-then-not-has_time-clause-among c = alone_at_most c.args.now c.args.self.now (none_at c.args.self.now (sym c.has_time.ensures ∙ c.if-not-has_time.true))

pub returns-then-not-has_time-clause-added : goal.returns-then-not-has_time-clause-added
returns-then-not-has_time-clause-added c = alone_added c.args.interval c.args.now c.args.self.now (none_at c.args.self.now (sym c.has_time.ensures ∙ c.if-not-has_time.true))

pub returns-then-not-has_time-clause-rise : goal.returns-then-not-has_time-clause-rise
returns-then-not-has_time-clause-rise c = (omega arith, All-nil _, tt)

pub returns-then-not-has_time-clause-least : goal.returns-then-not-has_time-clause-least
returns-then-not-has_time-clause-least c = first_least c.args.interval.high c.args.interval.low c.args.now

pub returns-then-not-has_time-clause-count : goal.returns-then-not-has_time-clause-count
returns-then-not-has_time-clause-count c = sym (ap (λ l. length l + 1) (none_at c.args.self.now (sym c.has_time.ensures ∙ c.if-not-has_time.true)))

pub returns-in_default-clause-added : goal.returns-in_default-clause-added
returns-in_default-clause-added c =
    let least = ⊎_elim (λ none. absurd (false≢true (ap is_some_time (sym none) ∙ sym c.has_time.ensures ∙ c.if-not-has_time.false))) (λ is. is) c.requires.least in
    adds_no_later c.args.interval c.args.now c.args.self.now c.args.self.now c.in_default.not-Some c.requires.rise least refl

pub returns-in_default-clause-least : goal.returns-in_default-clause-least
returns-in_default-clause-least c = ⊎_elim (λ none. absurd (false≢true (ap is_some_time (sym none) ∙ sym c.has_time.ensures ∙ c.if-not-has_time.false))) (λ is. is) c.requires.least

pub returns-then-ends_with-clause-least : goal.returns-then-ends_with-clause-least
returns-then-ends_with-clause-least c = ⊎_elim (λ none. absurd (false≢true (ap is_some_time (sym none) ∙ sym c.has_time.ensures ∙ c.if-not-has_time.false))) (λ is. is) c.requires.least

pub returns-then-interval-eq0-clause-among : goal.returns-then-interval-eq0-clause-among
returns-then-interval-eq0-clause-among c = replaced_at_most c.args.now c.args.self.now

pub returns-then-interval-eq0-clause-added : goal.returns-then-interval-eq0-clause-added
returns-then-interval-eq0-clause-added c = replaced_added c.args.interval c.args.now c.in-Some.«_high» c.args.self.now c.in-Some.is c.if-interval-eq0.true c.requires.rise

pub returns-then-interval-eq0-clause-rise : goal.returns-then-interval-eq0-clause-rise
returns-then-interval-eq0-clause-rise c = (omega arith, All-nil _, tt)

pub returns-then-interval-eq0-clause-least : goal.returns-then-interval-eq0-clause-least
returns-then-interval-eq0-clause-least c = first_least c.args.interval.high c.args.interval.low c.args.now

pub returns-then-interval-eq0-clause-count : goal.returns-then-interval-eq0-clause-count
returns-then-interval-eq0-clause-count c =
    let least = ⊎_elim (λ none. absurd (false≢true (ap is_some_time (sym none) ∙ sym c.has_time.ensures ∙ c.if-not-has_time.false))) (λ is. is) c.requires.least in
    omega (arith, one_of_least c.args.interval.high c.in-Some.«_high» c.args.interval.low c.args.now c.args.self.now c.in-Some.is c.if-interval-eq0.true least)

pub push-requires : goal.push-requires
push-requires c = earlier_all c.args.now c.args.self.now c.requires.rise (λ there. false≢true (sym c.if-ends_with.false ∙ c.ends_with.ensures.1 there))

pub returns-clause-among : goal.returns-clause-among
returns-clause-among c = subst (λ l. AddsAtMost c.args.now c.args.self.now l) (sym c.in_ok-push.ensures.ok)
    (adds_at_most c.in-Some.«_high» c.args.interval.low c.args.now c.args.self.now (c.args.self.now ++ c.args.now ∷ [])
    (forgets_none c.in-Some.«_high» c.args.interval.low c.args.now (c.args.self.now ++ c.args.now ∷ [])))

pub returns-clause-added : goal.returns-clause-added
returns-clause-added c = subst (λ l. AddsTime c.args.interval c.args.now c.args.self.now l) (sym c.in_ok-push.ensures.ok)
    (adds_by c.args.interval c.args.now c.args.self.now (c.args.self.now ++ c.args.now ∷ []) c.in-Some.«_high» c.in-Some.is
    (forgets_none c.in-Some.«_high» c.args.interval.low c.args.now (c.args.self.now ++ c.args.now ∷ [])))

pub returns-clause-rise : goal.returns-clause-rise
returns-clause-rise c = subst (RiseTo c.args.now) (sym c.in_ok-push.ensures.ok)
    (rise_push c.args.now c.args.self.now c.requires.rise (λ there. false≢true (sym c.if-ends_with.false ∙ c.ends_with.ensures.1 there)))

pub returns-clause-least : goal.returns-clause-least
returns-clause-least c =
    let least = ⊎_elim (λ none. absurd (false≢true (ap is_some_time (sym none) ∙ sym c.has_time.ensures ∙ c.if-not-has_time.false))) (λ is. is) c.requires.least in
    subst (AreLeastTimes c.args.interval.high c.args.interval.low c.args.now) (sym c.in_ok-push.ensures.ok)
    (pushed_least c.args.interval.high c.in-Some.«_high» c.args.interval.low c.args.now c.args.self.now c.in-Some.is (omega (arith, c.if-interval-eq0.false)) least)

pub returns-clause-count : goal.returns-clause-count
returns-clause-count c = ap length c.in_ok-push.ensures.ok ∙ length-append c.args.self.now (c.args.now ∷ [])
