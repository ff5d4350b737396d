use Rattle.choice_step.proofs.Vocabulary.{◌∷◌, [], Contains, subst, sym, Contains-append_left, Contains-push, none_in_nil}
use Rattle.std.proofs.lemmas.List.Elements.{Contains-get_or}
use Rattle.choice_step.proofs.apply_actions.spoil.Goals as goal

pub returns-then-is_same-clause-has : goal.returns-then-is_same-clause-has
returns-then-is_same-clause-has c =
    subst (λ l. Contains l c.args.name) c.as_slice-other-items.ensures.value
    (subst (Contains c.as_slice-other-items.result.now) (c.is_same.ensures c.if-is_same.true) (Contains-get_or c.as_slice-other-items.result.now c.loop-other.other-index _ c.loop-other-test.true))

pub returns-then-is_same-clause-kept : goal.returns-then-is_same-clause-kept
returns-then-is_same-clause-kept c = record { kept = λ other there. there; has = λ there. absurd (none_in_nil c.args.name there) }

pub returns-clause-has : goal.returns-clause-has
returns-clause-has c = subst (λ l. Contains l c.args.name) (sym c.in_ok-push.ensures.items) (Contains-push c.args.stale.now.items c.args.name)

pub returns-clause-kept : goal.returns-clause-kept
returns-clause-kept c = record {
  kept = λ other there. subst (λ l. Contains l other) (sym c.in_ok-push.ensures.items) (Contains-append_left c.args.stale.now.items (c.args.name ∷ []) other there);
  has = λ there. absurd (none_in_nil c.args.name there);
}
