use Rattle.choice_step.proofs.Vocabulary.{Contains, HasNoRepeats, ◌++◌, ◌∷◌, [], subst, sym, ap, ◌∙◌}
use Rattle.choice_step.proofs.ChangingLemmas.{comes_last, kept_distinct}
use Rattle.choice_step.proofs.changing.Changing.add.Goals as goal

pub returns-in_err-put_last-clause-distinct : goal.returns-in_err-put_last-clause-distinct
returns-in_err-put_last-clause-distinct c = subst HasNoRepeats c.self.view_is (kept_distinct c.self.inside.events c.self.inside.gone c.self.invariant)

pub returns-clause-last : goal.returns-clause-last
returns-clause-last c =
    let put = c.in_ok-put_last.ensures.put in
    comes_last c.bring_back.new.events c.bring_back.new.gone c.put_last.new.set c.args.event put.0
    (subst (λ l. Contains l c.args.event → ⊥) (sym (c.bring_back.ensures.same ∙ c.self.view_is)) c.requires) c.bring_back.ensures.there put.1
    ∙ ap (λ l. l ++ c.args.event ∷ []) (c.bring_back.ensures.same ∙ c.self.view_is)

pub returns-clause-distinct : goal.returns-clause-distinct
returns-clause-distinct c = subst HasNoRepeats c.self.view_is (kept_distinct c.self.inside.events c.self.inside.gone c.self.invariant)
