use Rattle.sleepers.proofs.Vocabulary.{◌≡◌, ℕ, ◌≤◌, ap, sym, subst, ◌∙◌, on_ok_weaker, masked_values}
use Rattle.sleepers.specs.machine.PatternKeys.{pattern_key}
use Rattle.sleepers.proofs.KeyLemmas.{shape_found}
use Rattle.sleepers.proofs.wake_index.find_shape.Goals as goal

pub returns-clause-ok : goal.returns-clause-ok
returns-clause-ok c =
    let event = c.args.event.now in
    let shape = c.args.shape.now in
    let same : c.key_at-key.result ≡ pattern_key c.args.seed event.name (masked_values shape.fixed event.args) =
    c.key_at-key.ensures ∙ ap (λ fixed. pattern_key c.args.seed event.name (masked_values fixed event.args)) c.as_slice.ensures in
    on_ok_weaker c.find.result (λ finds. shape_found c.args.seed c.args.by_pattern.now shape event c.find.new.found.items (λ pair there above below.
    finds pair there (subst (λ (n : ℕ). n ≤ pair.0) (sym same) above) (subst (λ (n : ℕ). pair.0 ≤ n) (sym same) below))) c.find.ensures.ok
