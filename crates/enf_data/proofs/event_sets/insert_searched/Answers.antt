use Rattle.enf_data.proofs.Vocabulary.{◌++◌, ◌∷◌, [], Contains, ap, subst, sym, true≢false, ◌∙◌, HasNoRepeats}
use Rattle.enf_data.proofs.TableKeys.{stays}
use Rattle.enf_data.proofs.Lists.{HasNoRepeats-push}
use Rattle.enf_data.proofs.event_sets.insert_searched.Goals as goal

pub returns-then-is_among-clause-inserted : goal.returns-then-is_among-clause-inserted
returns-then-is_among-clause-inserted c =
    stays c.args.event c.args.few.now.items (subst (λ l. Contains l c.args.event) c.as_slice.ensures.value (c.is_among.ensures.0 c.if-is_among.true))

pub returns-clause-distinct : goal.returns-clause-distinct
returns-clause-distinct c =
    subst HasNoRepeats (sym (c.push_reserved.ensures.items ∙ ap (λ few. few ++ c.args.event ∷ []) c.make_room.ensures.items))
    (HasNoRepeats-push c.args.few.now.items c.args.event c.requires (λ there. true≢false
    (sym (c.is_among.ensures.1 (subst (λ l. Contains l c.args.event) (sym c.as_slice.ensures.value) there)) ∙ c.if-is_among.false)))
