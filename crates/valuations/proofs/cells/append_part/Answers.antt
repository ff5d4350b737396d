use Rattle.valuations.proofs.Vocabulary.{sym, ◌∙◌, ap, append-nil, ◌++◌, [], cons_option, option_copied}
use Rattle.valuations.proofs.CellLemmas.{part_grows}
use Rattle.valuations.proofs.cells.append_part.Goals.{in-Some+in_ok-push_copy, in_default}
use Rattle.valuations.proofs.cells.append_part.Goals as goal

pub loop-place-preserved : goal.loop-place-preserved
loop-place-preserved c =
    let grows = part_grows c.args.row.now c.args.places.now c.loop-place.place-index c.args.out.now c.loop-place.out c.match-get.out (option_copied c.get.result) c.loop-place-test.true
    c.get.ensures c.loop-place.invariant in
    elim c.match-get.branch [
      | in-Some+in_ok-push_copy w ↦ grows (w.out-is ∙ w.in_ok-push_copy.ensures ∙ ap (λ o. c.loop-place.out ++ cons_option (option_copied o) []) (sym w.in-Some.is))
      | in_default w ↦ grows (w.out-is ∙ sym (append-nil c.loop-place.out) ∙ ap (λ o. c.loop-place.out ++ cons_option (option_copied o) []) (sym w.in_default.is))
    ]
