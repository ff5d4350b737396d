-- The instance has the values of the line.
use Rattle.save_codec.proofs.Vocabulary.{◌≡◌, List, refl, sym, subst, ◌∙◌, false≢true, no_values, VarId, Value, filled_from_row, RuleTells, FitTold}
use Rattle.save_codec.proofs.InstanceLemmas.{fits_waits, is_instance, rule_there}
use Rattle.save_codec.proofs.judging.Judge.instance_at.Goals as goal

pub returns-then-not-can_wait : goal.returns-then-not-can_wait
returns-then-not-can_wait c = λ s is named fits.
    let due = c.args.due.now in
    false≢true (sym c.if-not-can_wait.true ∙ c.can_wait.ensures.1 (fits_waits s c.args.clock c.args.position due c.args.found.now
    (record { rule = due.rule; node = due.node; valuation = c.in_ok-valuation.valuation; origin = due.origin; low = due.low; high = due.high }) named refl refl refl fits))

pub returns : goal.returns
returns c = λ s is named.
    let due = c.args.due.now in
    let found = c.args.found.now in
    let there = rule_there s due found named in
    let sorts : FitTold (RuleTells s.entries s.plans due.rule) found.scope.items due.values =
    subst (λ (vs : List Value). FitTold (RuleTells s.entries s.plans due.rule) found.scope.items vs) c.as_slice-2.ensures
    (subst (λ (xs : List VarId). FitTold (RuleTells s.entries s.plans due.rule) xs c.as_slice-2.result.now) c.as_slice.ensures.value
    ((c.fit_rule.ensures s there.0 is there.1).0 c.if-not-fit_rule.false)) in
    let filling : filled_from_row no_values c.as_slice-3.result.now c.as_slice-4.result.now
    ≡ filled_from_row no_values found.scope.items due.values = λ k. filled_from_row no_values (c.as_slice-3.ensures.value k) (c.as_slice-4.ensures k) in
    is_instance c.nodes_have_scopes.ensures.rises s c.args.self.now c.args.clock c.args.position due found
    (record { rule = due.rule; node = due.node; valuation = c.in_ok-valuation.valuation; origin = due.origin; low = due.low; high = due.high }) is named
    (record {
      rule = refl;
      node = refl;
      rule_bits = c.requires.rule;
      node_bits = c.requires.node;
      values = c.in_ok-valuation.ensures ∙ filling;
      origin = refl;
      low = refl;
      high = refl;
      early = c.is_early.ensures.0 c.if-not-is_early.false;
    }) sorts (c.can_wait.ensures.0 c.if-not-can_wait.false)
