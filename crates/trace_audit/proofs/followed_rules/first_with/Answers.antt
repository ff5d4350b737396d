use Rattle.trace_audit.proofs.Vocabulary.{◌∙◌, Option, Some, inl, inr, refl, sym, subst, true≢false, IsFirstWith, OpenRule}
use Rattle.trace_audit.proofs.JudgementLemmas.{none_first}
use Rattle.trace_audit.proofs.followed_rules.first_with.Goals as goal

pub returns-in_default : goal.returns-in_default
returns-in_default c = none_first c.args.slot.now c.args.broken c.in_default.not-Some

pub returns-then-not-is_before : goal.returns-then-not-is_before
returns-then-not-is_before c =
    subst (λ (s : Option OpenRule). IsFirstWith s c.args.broken c.args.broken) (sym c.in-Some.is)
    (inr (refl, inl (λ before. true≢false (sym (c.is_before.ensures.1 before) ∙ c.if-not-is_before.true))))

pub returns-then-is_met_at_end : goal.returns-then-is_met_at_end
returns-then-is_met_at_end c =
    subst (λ (s : Option OpenRule). IsFirstWith s c.args.broken c.args.broken) (sym c.in-Some.is)
    (inr (refl, inr (λ trace. (c.is_met_at_end.ensures trace).0 c.if-is_met_at_end.true)))

pub returns : goal.returns
returns c =
    subst (λ (s : Option OpenRule). IsFirstWith s c.args.broken (Some c.in-Some.item.at)) (sym c.in-Some.is)
    (inl (
      refl,
      c.is_before.ensures.0 c.if-not-is_before.false,
      (λ trace means. true≢false (sym ((c.is_met_at_end.ensures trace).1 means) ∙ c.if-is_met_at_end.false)),
    ))
