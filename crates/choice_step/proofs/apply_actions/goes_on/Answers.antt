use Rattle.choice_step.proofs.Vocabulary.{◌∙◌, arith, inl, inr, refl, sym, true≢false}
use Rattle.choice_step.proofs.apply_actions.goes_on.Goals as goal

pub returns-then-not-looks_for-clause-passes : goal.returns-then-not-looks_for-clause-passes
returns-then-not-looks_for-clause-passes c = record { all = refl; ahead = λ x there. inl there; asked = λ x there. there }

pub returns-then-not-looks_for-clause-on : goal.returns-then-not-looks_for-clause-on
returns-then-not-looks_for-clause-on c told = inl (λ there. true≢false (sym (c.looks_for.ensures.1 there) ∙ c.if-not-looks_for.true))

pub returns-then-first_root-rule-clause-passes : goal.returns-then-first_root-rule-clause-passes
returns-then-first_root-rule-clause-passes c = record { all = refl; ahead = λ x there. inl there; asked = λ x there. there }

pub returns-then-not-leaves_root-clause-passes : goal.returns-then-not-leaves_root-clause-passes
returns-then-not-leaves_root-clause-passes c = record { all = refl; ahead = λ x there. inl there; asked = λ x there. there }

pub returns-clause-on : goal.returns-clause-on
returns-clause-on c told = inr (
  c.leaves_root.ensures c.if-not-leaves_root.false,
  c.in_ok-all.ensures.all told,
  λ other there. omega (arith, c.first_root.ensures.least other there, c.if-first_root-rule.false),
)

pub returns-clause-spared : goal.returns-clause-spared
returns-clause-spared c apart = absurd (apart (c.looks_for.ensures.0 c.if-not-looks_for.false))

pub returns-then-first_root-rule-clause-looked : goal.returns-then-first_root-rule-clause-looked
returns-then-first_root-rule-clause-looked c told = c.looks_for.ensures.0 c.if-not-looks_for.false

pub returns-then-first_root-rule-clause-spared : goal.returns-then-first_root-rule-clause-spared
returns-then-first_root-rule-clause-spared c apart = absurd (apart (c.looks_for.ensures.0 c.if-not-looks_for.false))

pub returns-then-not-leaves_root-clause-looked : goal.returns-then-not-leaves_root-clause-looked
returns-then-not-leaves_root-clause-looked c told = c.looks_for.ensures.0 c.if-not-looks_for.false

pub returns-then-not-leaves_root-clause-spared : goal.returns-then-not-leaves_root-clause-spared
returns-then-not-leaves_root-clause-spared c apart = absurd (apart (c.looks_for.ensures.0 c.if-not-looks_for.false))

pub returns-clause-looked : goal.returns-clause-looked
returns-clause-looked c told = c.looks_for.ensures.0 c.if-not-looks_for.false
