use Rattle.enf_data.proofs.Vocabulary.{not, sym, subst, has_event, HasNoRepeats}
use Rattle.std.proofs.Common.{rules}
use Rattle.std.proofs.lemmas.Fn.{filter_same}
use Rattle.enf_data.proofs.Lists.{HasNoRepeats-filter}
use Rattle.enf_data.proofs.event_sets.keep_searched.Goals as goal

pub returns-clause-removed : goal.returns-clause-removed
returns-clause-removed c =
    filter_same _ (λ event. not (has_event c.args.gone.now event)) _ (λ event b f call. search rules) c.args.few.now.items c.retain.new.self.items c.retain.ensures.filtered

pub returns-clause-distinct : goal.returns-clause-distinct
returns-clause-distinct c =
    subst HasNoRepeats
    (sym (filter_same _ (λ event. not (has_event c.args.gone.now event)) _ (λ event b f call. search rules) c.args.few.now.items c.retain.new.self.items c.retain.ensures.filtered))
    (HasNoRepeats-filter (λ event. not (has_event c.args.gone.now event)) c.args.few.now.items c.requires)
