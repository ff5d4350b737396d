use Rattle.valuations.proofs.Vocabulary.{◌≡◌, ◌∙◌, ap, rules, binding_place}
use Rattle.std.specs.List.{insert}
use Rattle.valuations.proofs.BindingLemmas.{with_new, place_before-within}
use Rattle.valuations.proofs.valuation.Valuation.bind.Goals as goal

pub insert-requires : goal.insert-requires
insert-requires c = let within = place_before-within c.args.var c.as_slice.result.now in search rules

placed : (c : goal.In_ok-insert) → c.insert.new.self.items ≡ insert c.self.inside.bindings.items (binding_place c.args.var c.self.inside.bindings.items) (c.args.var, c.args.value)
placed c = c.in_ok-insert.ensures.items ∙ ap (λ l. insert l c.place_in-place.result (c.args.var, c.args.value)) c.reserve_exact.ensures.items ∙ ap
    (λ place. insert c.self.inside.bindings.items place (c.args.var, c.args.value)) (c.place_in-place.ensures ∙ ap (binding_place c.args.var) c.as_slice.ensures.value)

pub invariant_of-self-2 : goal.invariant_of-self-2
invariant_of-self-2 c = (with_new c.self.inside.bindings.items _ c.args.self.now c.args.var c.args.value c.self.invariant c.self.view_is c.requires (placed c)).0

pub returns-clause-ok : goal.returns-clause-ok
returns-clause-ok c = (with_new c.self.inside.bindings.items _ c.args.self.now c.args.var c.args.value c.self.invariant c.self.view_is c.requires (placed c)).1
