use Rattle.valuations.proofs.Vocabulary.{[], ◌∷◌, ◌++◌, Some, sym, ap, ◌∙◌, take, take_more, option_copied, values_of_terms}
use Rattle.valuations.proofs.ArgumentLemmas.{values_push, has_value}
use Rattle.valuations.proofs.arguments.arguments_in.Goals.{in-Some+in_ok-push_copy, in_default}
use Rattle.valuations.proofs.arguments.arguments_in.Goals as goal

pub loop-term-preserved : goal.loop-term-preserved
loop-term-preserved g c =
    let v = g.V.Lookup.valuation c.args.v.now in
    let terms = c.args.terms.now in
    let i = c.loop-term.term-index in
    let term = c.term-item.result in
    elim c.match-value_in.branch [
      | in-Some+in_ok-push_copy w ↦
          ap (values_of_terms v) (take_more terms i term c.loop-term-test.true ∙ ap (λ t. take i terms ++ t ∷ []) (sym c.term-item.is))
          ∙ values_push v (take i terms) term c.loop-term.row w.in-Some.value.now c.loop-term.invariant (sym c.value_in.ensures ∙ ap option_copied w.in-Some.is)
          ∙ ap Some (sym (w.row-is ∙ w.in_ok-push_copy.ensures))
      | in_default w ↦ absurd (has_value v terms term c.requires (i, c.loop-term-test.true, sym c.term-item.is) (sym c.value_in.ensures ∙ ap option_copied w.in_default.is))
    ]
