use Rattle.enf_data.proofs.Vocabulary.{◌++◌, ◌∷◌, [], HasNoRepeats, ap, subst, sym, ◌∙◌}
use Rattle.enf_data.proofs.Lists.{HasNoRepeats-push}
use Rattle.enf_data.proofs.event_sets.with_last.Goals as goal

pub returns-clause-distinct : goal.returns-clause-distinct
returns-clause-distinct c =
    subst HasNoRepeats (sym (c.push_reserved.ensures.items ∙ ap (λ few. few ++ c.args.event ∷ []) (ap (λ v. v.items) c.replace-few.ensures.value ∙ c.make_room.ensures.items)))
    (HasNoRepeats-push c.args.rising.now.items c.args.event c.requires.distinct c.requires.absent)
