use Rattle.choice_step.proofs.Vocabulary.{◌∷◌, Contains, subst, sym, Contains-append_left, Contains-push, []}
use Rattle.choice_step.proofs.unasked.Unasked.ask_again.Goals as goal

pub returns-clause-has : goal.returns-clause-has
returns-clause-has c = subst (λ l. Contains l c.args.rule) (sym c.in_ok-push.ensures.items) (Contains-push c.args.self.now.again.items c.args.rule)

pub returns-clause-kept : goal.returns-clause-kept
returns-clause-kept c other there =
    subst (λ l. Contains l other) (sym c.in_ok-push.ensures.items) (Contains-append_left c.args.self.now.again.items (c.args.rule ∷ []) other there)
