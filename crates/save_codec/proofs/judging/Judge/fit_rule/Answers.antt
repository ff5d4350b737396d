use Rattle.save_codec.proofs.Vocabulary.{◌≡◌, List, None, Some, slice_get, ap, sym, ◌∙◌, option_copied, Known}
use Rattle.save_codec.proofs.InstanceLemmas.{no_rule, rule_fits}
use Rattle.save_codec.proofs.judging.Judge.fit_rule.Goals as goal

pub returns-in-Some : goal.returns-in-Some
returns-in-Some c = λ s plan is there.
    let knows : slice_get c.args.self.now.rules.items c.args.rule ≡ Some c.in-Some.known.now =
    ap (λ (l : List Known). slice_get l c.args.rule) (sym c.as_slice.ensures.value) ∙ sym c.item_at.ensures ∙ ap option_copied c.in-Some.is in
    let same = rule_fits s c.args.self.now c.args.rule plan c.in-Some.known.now c.args.variables.now c.args.values.now is there knows in
    ((λ fit. same.0 (c.fit.ensures.0 fit)), (λ fit. c.fit.ensures.1 (same.1 fit)))

pub returns-in-None : goal.returns-in-None
returns-in-None c = λ s plan is there.
    let none : slice_get c.args.self.now.rules.items c.args.rule ≡ None =
    ap (λ (l : List Known). slice_get l c.args.rule) (sym c.as_slice.ensures.value) ∙ sym c.item_at.ensures ∙ ap option_copied c.in-None.is in
    absurd (no_rule s c.args.self.now c.args.rule plan is there none)
