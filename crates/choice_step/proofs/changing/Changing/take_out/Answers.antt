use Rattle.choice_step.proofs.Vocabulary.{Contains, HasNoRepeats, TakesOut, subst, sym, without_events}
use Rattle.choice_step.proofs.ChangingLemmas.{kept_distinct, taken_at_once, taken_by_note}
use Rattle.choice_step.proofs.changing.Changing.take_out.Goals as goal

pub returns-then-is_empty-clause-taken : goal.returns-then-is_empty-clause-taken
returns-then-is_empty-clause-taken c =
    subst (λ l. TakesOut c.args.event.now l (without_events c.remove-was_there.new.self c.self.inside.gone)) c.self.view_is
    (taken_at_once c.self.inside.events c.self.inside.gone c.remove-was_there.new.self c.args.event.now c.remove-was_there.result (c.is_empty.ensures.0 c.if-is_empty.true)
    (subst (λ l. Contains l c.args.event.now) (sym c.self.view_is) c.requires) c.remove-was_there.ensures.removed)

pub returns-then-is_empty-clause-distinct : goal.returns-then-is_empty-clause-distinct
returns-then-is_empty-clause-distinct c = subst HasNoRepeats c.self.view_is (kept_distinct c.self.inside.events c.self.inside.gone c.self.invariant)

pub returns-in_err-copy-clause-distinct : goal.returns-in_err-copy-clause-distinct
returns-in_err-copy-clause-distinct c = subst HasNoRepeats c.self.view_is (kept_distinct c.self.inside.events c.self.inside.gone c.self.invariant)

pub returns-in_err-put_last-clause-distinct : goal.returns-in_err-put_last-clause-distinct
returns-in_err-put_last-clause-distinct c = subst HasNoRepeats c.self.view_is (kept_distinct c.self.inside.events c.self.inside.gone c.self.invariant)

pub returns-clause-taken : goal.returns-clause-taken
returns-clause-taken c =
    let put = c.in_ok-put_last.ensures.put in
    let left = without_events c.self.inside.events c.self.inside.gone in
    let after = without_events c.self.inside.events c.put_last.new.set in
    subst (λ l. TakesOut c.args.event.now l after) c.self.view_is
    (subst (λ e. TakesOut e left after) c.in_ok-copy.ensures
    (taken_by_note c.self.inside.events c.self.inside.gone c.put_last.new.set c.in_ok-copy.copy put.0 c.self.invariant
    (subst (λ e. Contains left e) (sym c.in_ok-copy.ensures) (subst (λ l. Contains l c.args.event.now) (sym c.self.view_is) c.requires)) put.1))

pub returns-clause-distinct : goal.returns-clause-distinct
returns-clause-distinct c = subst HasNoRepeats c.self.view_is (kept_distinct c.self.inside.events c.self.inside.gone c.self.invariant)
