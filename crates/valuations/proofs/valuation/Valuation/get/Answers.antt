use Rattle.valuations.proofs.Vocabulary.{sym, ◌∙◌, ap, eqb-true, find, variable_cmp}
use Rattle.valuations.proofs.BindingLemmas.{value_at-listed, found_value, no_value}
use Rattle.valuations.proofs.valuation.Valuation.get.Goals as goal

pub returns-then-eq : goal.returns-then-eq
returns-then-eq c =
    found_value _ c.loop-binding.binding-index c.binding-item.result c.args.var c.loop-binding.invariant c.loop-binding-test.true c.binding-item.is (eqb-true _ _ (sym c.eq.ensures ∙ c.if-eq.true))
    ∙ ap (find variable_cmp c.args.var) c.deref-binding-items.ensures.value
    ∙ sym (value_at-listed c.self.inside.bindings.items c.args.self.now c.args.var c.self.invariant c.self.view_is)

pub returns : goal.returns
returns c =
    no_value _ c.loop-binding.binding-index c.args.var c.loop-binding.invariant c.loop-binding-test.false
    ∙ ap (find variable_cmp c.args.var) c.deref-binding-items.ensures.value
    ∙ sym (value_at-listed c.self.inside.bindings.items c.args.self.now c.args.var c.self.invariant c.self.view_is)
