use Rattle.choice_step.proofs.Vocabulary.{Contains, ap, none_in_nil, subst, sym, without_events, true≢false, ◌∙◌}
use Rattle.enf_data.proofs.RemovalLemmas.{none_gone}
use Rattle.choice_step.proofs.changing.bring_back.Goals as goal

pub returns-then-not-contains-clause-there : goal.returns-then-not-contains-clause-there
returns-then-not-contains-clause-there c = λ there. true≢false (sym (c.contains.ensures.1 there) ∙ c.if-not-contains.true)

pub returns-clause-same : goal.returns-clause-same
returns-clause-same c = ap (without_events c.remove_all.new.self) c.new.ensures ∙ none_gone c.remove_all.new.self ∙ c.remove_all.ensures.removed

pub returns-clause-there : goal.returns-clause-there
returns-clause-there c = λ there. none_in_nil c.args.event.now (subst (λ l. Contains l c.args.event.now) c.new.ensures there)

pub returns-clause-distinct : goal.returns-clause-distinct
returns-clause-distinct c = c.remove_all.ensures.distinct
