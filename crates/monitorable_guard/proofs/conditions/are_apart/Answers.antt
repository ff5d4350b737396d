use Rattle.monitorable_guard.proofs.Vocabulary.{refl, sym, ◌∙◌, subst, All, Contains, false≢true, take_all, All-more, All-contains, Contains-get_or}
use Rattle.monitorable_guard.proofs.conditions.are_apart.Goals as goal

pub returns-then-is_in : goal.returns-then-is_in
returns-then-is_in c = (λ wrong. absurd (false≢true wrong), λ each. absurd (each _ (Contains-get_or c.args.xs.now c.loop-x.x-index _ c.loop-x-test.true) (c.is_in.ensures.0 c.if-is_in.true)))

pub loop-x-preserved : goal.loop-x-preserved
loop-x-preserved c = All-more (λ x. Contains c.args.others.now x → ⊥) c.args.xs.now c.loop-x.x-index _ c.loop-x-test.true c.loop-x.invariant
    (λ there. false≢true (sym c.if-is_in.false ∙ c.is_in.ensures.1 there))

pub returns : goal.returns
returns c = (
  λ _ x there. All-contains (λ x. Contains c.args.others.now x → ⊥) c.args.xs.now x
      (subst (All (λ x. Contains c.args.others.now x → ⊥)) (take_all c.loop-x.x-index c.args.xs.now c.loop-x-test.false) c.loop-x.invariant) there,
  λ _. refl,
)
